-- A tally goes on with a frame, and a splitter that waits or faults has counted the frames of the stream's cutting.
use Rattle.std.proofs.Common.{◌≡◌, ◌+◌, ℕ, List, [], ◌∷◌, ◌++◌, length, sum_by, refl, sym, ◌∙◌, arith, ap, subst, append_assoc, append-nil, take, drop, ◌-◌, Option, Some, None}
use Rattle.std.proofs.lemmas.List.{length_push, take-append-drop, take_rest}
use Rattle.std.proofs.lemmas.List.Sums.{sum_by_push}
use Rattle.hf_split.specs.declared.framing.Framing.{Framing}
use Rattle.hf_split.specs.declared.framing.Framing.TheVariants.{Record}
use Rattle.hf_split.specs.Cuts.{Spelled, AreFrames, BeginsWith, IsTooLong, IsWaiting, always, stream_of}
use Rattle.hf_split.specs.Held.{Held, Stands, after_feed, at_start, after_pass}
use Rattle.split_bench.specs.declared.tally.Tally.{Tally}
use Rattle.split_bench.specs.declared.tally.Outcome.TheVariants.{Whole, TooLong}
use Rattle.std.specs.Io.KnownBytes.{Consumes, IsAtEnd}
use Rattle.hf_split.specs.Laws.{TooLongBeginsNone}
use Rattle.split_bench.specs.Counts.{IsCounted, IsOutcome, counted}

tally_more : (n k m t : ℕ) → t ≡ counted n → m ≡ n + k → counted (t + k) ≡ counted m
tally_more n k m t same sum = omega arith

pub counted_past : (most : ℕ) (stream : List ℕ) (old new : Held) (tally : Tally) (frames bytes : ℕ) (item : Spelled) (at : IsCounted most old tally stream)
    → new ≡ after_pass old item → Stands (always Record) new stream (at.passed ++ item ∷ [])
    → frames ≡ counted (tally.frames + 1) → bytes ≡ counted (tally.bytes + length item.frame)
    → IsCounted most new (record { frames = frames; bytes = bytes }) stream
counted_past most stream old new tally frames bytes item at is stands one more = record {
  limit = ap (λ (h : Held). h.most) is ∙ at.limit;
  framing = ap (λ (h : Held). h.framing) is ∙ at.framing;
  passed = at.passed ++ item ∷ [];
  stands = stands;
  tally_of = record {
    frames = one ∙ tally_more (length at.passed) 1 (length (at.passed ++ item ∷ [])) tally.frames at.tally_of.frames (length_push at.passed item);
    bytes = more ∙ tally_more (sum_by (λ (x : Spelled). length x.frame) at.passed) (length item.frame) (sum_by (λ (x : Spelled). length x.frame) (at.passed ++ item ∷ [])) tally.bytes
        at.tally_of.bytes (sum_by_push (λ (x : Spelled). length x.frame) at.passed item);
  };
}

pub counted_fed : (most : ℕ) (stream front more : List ℕ) (old new : Held) (tally : Tally) (at : IsCounted most old tally (stream ++ front))
    → new ≡ after_feed old more → Stands (always Record) new (stream ++ front ++ more) at.passed → IsCounted most new tally (stream ++ (front ++ more))
counted_fed most stream front more old new tally at is stands = record {
  limit = ap (λ (h : Held). h.most) is ∙ at.limit;
  framing = ap (λ (h : Held). h.framing) is ∙ at.framing;
  passed = at.passed;
  stands = subst (λ (xs : List ℕ). Stands (always Record) new xs at.passed) (append_assoc stream front more) stands;
  tally_of = at.tally_of;
}

pub counted_front : (most : ℕ) (stream : List ℕ) (splitter : Held) (tally : Tally) → IsCounted most splitter tally stream → IsCounted most splitter tally (stream ++ [])
counted_front most stream splitter tally at = subst (λ (xs : List ℕ). IsCounted most splitter tally xs) (sym (append-nil stream)) at

pub split_more : (piece front left : List ℕ) (n : ℕ) → piece ≡ front ++ left → piece ≡ front ++ take n left ++ take (length left - n) (drop n left)
split_more piece front left n same =
    same ∙ ap (λ xs. front ++ xs) (sym (take-append-drop n left) ∙ ap (λ xs. take n left ++ xs) (sym (take_rest left n)))
    ∙ sym (append_assoc front (take n left) (take (length left - n) (drop n left)))

-- nothing is counted at the start
pub counted_fresh : (most : ℕ) (splitter : Held) → splitter ≡ at_start Record most → Stands (always Record) splitter [] []
    → IsCounted most splitter (record { frames = 0; bytes = 0 }) []
counted_fresh most splitter is stands = record {
  limit = ap (λ (h : Held). h.most) is;
  framing = ap (λ (h : Held). h.framing) is;
  passed = [];
  stands = stands;
  tally_of = record { frames = refl; bytes = refl };
}

-- what a read leaves
pub consumed : (old new : Option (List ℕ)) (left bytes : List ℕ) → old ≡ Some left → Consumes old new bytes
    → (rest : List ℕ) × (new ≡ Some rest) × (left ≡ bytes ++ rest)
consumed None new left bytes is gone = cc
consumed (Some xs) None left bytes is gone = absurd gone
consumed (Some xs) (Some ys) left bytes is gone = (ys, refl, cc)

pub none_left : (new : Option (List ℕ)) (rest : List ℕ) → new ≡ Some rest → IsAtEnd new → rest ≡ []
none_left None rest is end = cc
none_left (Some xs) rest is end = cc

-- a splitter that waits has counted all of the stream
pub whole_counted : (most : ℕ) (stream : List ℕ) (splitter : Held) (tally : Tally) → IsCounted most splitter tally stream
    → IsWaiting splitter.framing splitter.most splitter.bytes → IsOutcome most stream (Whole tally)
whole_counted most stream splitter tally at waiting = (
  at.passed,
  (
    splitter.bytes,
    (
      record {
        whole = at.stands.whole;
        each = subst (λ (n : ℕ). AreFrames (always Record) n at.passed) at.limit at.stands.each;
        ends = λ item begins. waiting.no_frame item
            (subst (λ (f : Framing). BeginsWith f splitter.most splitter.bytes item) (sym at.framing) (subst (λ (n : ℕ). BeginsWith Record n splitter.bytes item) (sym at.limit) begins));
      },
      at.tally_of,
    ),
  ),
)

-- one that faults has counted the frames before the fault
pub too_long_counted : (most : ℕ) (bytes read more : List ℕ) (splitter : Held) (tally : Tally) → TooLongBeginsNone → bytes ≡ read ++ more
    → IsCounted most splitter tally read → IsTooLong splitter.framing splitter.most splitter.bytes → IsOutcome most bytes (TooLong splitter.place)
too_long_counted most bytes read more splitter tally law split at long =
    let fault : IsTooLong Record most splitter.bytes =
    subst (λ (f : Framing). IsTooLong f most splitter.bytes) at.framing (subst (λ (n : ℕ). IsTooLong splitter.framing n splitter.bytes) at.limit long) in (
      at.passed,
      (
        splitter.bytes,
        more,
        (
          record {
            whole = split ∙ ap (λ xs. xs ++ more) at.stands.whole ∙ append_assoc (stream_of at.passed) splitter.bytes more;
            each = subst (λ (n : ℕ). AreFrames (always Record) n at.passed) at.limit at.stands.each;
            ends = λ item begins. law Record most splitter.bytes more item fault begins;
          },
          fault,
          at.stands.place,
        ),
      ),
    )

pub split_front : (bytes read left piece rest front behind : List ℕ) → bytes ≡ read ++ left → left ≡ piece ++ rest → piece ≡ front ++ behind
    → bytes ≡ read ++ front ++ (behind ++ rest)
split_front bytes read left piece rest front behind a b c = a ∙ ap (λ xs. read ++ xs) (b ∙ ap (λ xs. xs ++ rest) c) ∙ simp append_assoc

pub split_piece : (bytes read left piece rest : List ℕ) → bytes ≡ read ++ left → left ≡ piece ++ rest → bytes ≡ read ++ piece ++ rest
split_piece bytes read left piece rest a b = a ∙ ap (λ xs. read ++ xs) b ∙ sym (append_assoc read piece rest)

pub whole_at_end : (bytes front rest : List ℕ) → bytes ≡ front ++ rest → rest ≡ [] → front ≡ bytes
whole_at_end bytes front rest a e = sym (a ∙ ap (λ xs. front ++ xs) e ∙ append-nil front)
