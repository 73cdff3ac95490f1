-- All bytes have an answer of a task.
use Rattle.std.proofs.Common.{◌≡◌, ◌<◌, ◌≤◌, ◌+◌, ℕ, ◌⊎◌, inl, inr, List, [], ◌∷◌, ◌++◌, length, take, codes, refl, sym, ◌∙◌, ap, subst, arith, append_assoc}
use Rattle.std.specs.Fmt.{decimal}
use Rattle.std.specs.Prelude.{ℤ}
use Rattle.std.proofs.lemmas.Bool.{cases_lt}
use Rattle.std.proofs.lemmas.List.{take_all}
use Rattle.hf_split.specs.declared.framing.Framing.{Framing}
use Rattle.hf_split.specs.declared.splitter.SplitFault.{SplitFault}
use Rattle.hf_split.specs.declared.splitter.SplitFault.TheVariants.{TooLong, BadLength}
use Rattle.hf_split.specs.Cuts.{Spelled, AreFrames, BeginsWith, IsFaulty, IsWaiting, always, stream_of}
use Rattle.hf_split.specs.Laws.{HasCutting, BeginsOnce, HasOneBeginning, EmptyWaits}
use Rattle.hm_message.specs.declared.message.Message.{Message}
use Rattle.hm_codec.specs.declared.why.FrameWhy.{FrameWhy}
use Rattle.hm_codec.specs.declared.why.FrameWhy.TheVariants.{Split}
use Rattle.hm_codec.specs.Frames.{Says, Unknown, Why}
use Rattle.hm_codec.specs.Words.{why_words}
use Rattle.hm_codec.specs.Laws.{FramesHaveOneMeaning}
use Rattle.sr_check.specs.declared.task.Task.{Task}
use Rattle.sr_check.specs.Output.{codec_of, framing, message_text, unknown_text, last_text}
use Rattle.sr_check.specs.Stream.{AreWritten, BeginsFrames, IsFrontText, IsCut, IsFaultAt, IsDone, IsStopped, most_frame, most_bytes, followed_part}
use Rattle.sr_check.proofs.Following.{stream-append}

-- the laws of frames that this stands on
pub record FrameLaws : Type 0 where
  pub cutting : HasCutting
  pub once : BeginsOnce
  pub beginning : HasOneBeginning
  pub empty : EmptyWaits
  pub meaning : FramesHaveOneMeaning

-- ---- frames

-- the first of these frames that is refused
record HasBad (t : Task) (at : ℕ) (items : List Spelled) : Type 0 where
  pub front : List Spelled
  pub item : Spelled
  pub more : List Spelled
  pub parts : items ≡ front ++ item ∷ more
  pub text : List ℕ
  pub written : AreWritten t at front text
  pub why : FrameWhy
  pub refused : Why (codec_of t) item.frame why

abbrev Walked : Task → ℕ → List Spelled → Type 0
Walked t at items = ((text : List ℕ) × AreWritten t at items text) ⊎ HasBad t at items

bad_behind : (t : Task) (at : ℕ) (item : Spelled) (items : List Spelled) (piece : List ℕ)
    → ((m : Message) × Says (codec_of t) item.frame m × (piece ≡ message_text t at m)) ⊎ ((n : ℤ) × Unknown (codec_of t) item.frame n × (piece ≡ unknown_text t at n))
    → Walked t (at + length item.spelling) items → Walked t at (item ∷ items)
bad_behind t at item items piece good (inl all) = inl (piece ++ all.0, (piece, all.0, good, refl, all.1))
bad_behind t at item items piece good (inr bad) = inr (record {
  front = item ∷ bad.front;
  item = bad.item;
  more = bad.more;
  parts = ap (λ (xs : List Spelled). item ∷ xs) bad.parts;
  text = piece ++ bad.text;
  written = (piece, bad.text, good, refl, bad.written);
  why = bad.why;
  refused = bad.refused;
})

walk : FrameLaws → (t : Task) (at : ℕ) (items : List Spelled) → Walked t at items
walk laws t at [] = inl ([], refl)
walk laws t at (item ∷ items) = by ((laws.meaning (codec_of t) item.frame).some) (walk laws t (at + length item.spelling) items) where
  by : ((m : Message) × Says (codec_of t) item.frame m) ⊎ ((n : ℤ) × Unknown (codec_of t) item.frame n) ⊎ ((why : FrameWhy) × Why (codec_of t) item.frame why)
      → Walked t (at + length item.spelling) items → Walked t at (item ∷ items)
  by (inl x) more = bad_behind t at item items (message_text t at x.0) (inl (x.0, x.1, refl)) more
  by (inr (inl x)) more = bad_behind t at item items (unknown_text t at x.0) (inr (x.0, x.1, refl)) more
  by (inr (inr x)) more = inr (record { front = []; item = item; more = items; parts = refl; text = []; written = refl; why = x.0; refused = x.1 })

frames-front : (f : Framing) (items more : List Spelled) → AreFrames (always f) 32768 (items ++ more) → AreFrames (always f) 32768 items
frames-front f [] more each = tt
frames-front f (i ∷ items) more each = (each.0, frames-front f items more each.1)

begins_front : (t : Task) (bytes : List ℕ) (items front more : List Spelled) (rest : List ℕ) → items ≡ front ++ more → IsCut t bytes items rest → BeginsFrames t bytes front
begins_front t bytes items front more rest parts cut = record {
  more = stream_of more ++ rest;
  whole = cut.whole ∙ ap (λ (xs : List Spelled). stream_of xs ++ rest) parts ∙ ap (λ xs. xs ++ rest) (stream-append front more) ∙ append_assoc (stream_of front) (stream_of more) rest;
  each = frames-front (framing t) front more (subst (λ (xs : List Spelled). AreFrames (always (framing t)) 32768 xs) parts cut.each);
}

-- ---- a rest

abbrev Rest : Framing → ℕ → List ℕ → Type 0
Rest f place rest = ((fault : SplitFault) × IsFaultAt f place rest fault) ⊎ (IsFaulty f most_frame rest → ⊥)

some_rest : HasOneBeginning → (f : Framing) (place : ℕ) (rest : List ℕ) → ((item : Spelled) → BeginsWith f most_frame rest item → ⊥) → Rest f place rest
some_rest law f place rest ends = by ((law f most_frame rest).some) where
  by : ((item : Spelled) × BeginsWith f most_frame rest item) ⊎ (IsFaulty f most_frame rest ⊎ IsWaiting f most_frame rest) → Rest f place rest
  by (inl found) = absurd (ends found.0 found.1)
  by (inr (inl (inl long))) = inl (TooLong place, (refl, long))
  by (inr (inl (inr bad))) = inl (BadLength place, (refl, bad))
  by (inr (inr waits)) = inr waits.no_fault

-- ---- answers

abbrev HasAnswer : Task → List ℕ → Type 0
HasAnswer t bytes = ((text : List ℕ) × IsDone t bytes text) ⊎ ((text : List ℕ) × IsStopped t bytes text)

bad_answer : (t : Task) (bytes : List ℕ) (items : List Spelled) (rest : List ℕ) → IsCut t (followed_part bytes) items rest → HasBad t 0 items → HasAnswer t bytes
bad_answer t bytes items rest cut bad = inr (
  _,
  (
    bad.front,
    bad.text,
    last_text t (length (stream_of bad.front)) (codes "refused " ++ why_words bad.why),
    record { begins = begins_front t (followed_part bytes) items bad.front (bad.item ∷ bad.more) rest bad.parts cut; written = bad.written },
    inl (inl (record {
      item = bad.item;
      next = begins_front t (followed_part bytes) items (bad.front ++ bad.item ∷ []) bad.more rest (bad.parts ∙ sym (append_assoc bad.front (bad.item ∷ []) bad.more)) cut;
      why = bad.why;
      refused = bad.refused;
      text_is = refl;
    })),
    refl,
  ),
)

cut_whole : (t : Task) (bytes : List ℕ) (items : List Spelled) (rest : List ℕ) → length bytes ≤ most_bytes → IsCut t (followed_part bytes) items rest → IsCut t bytes items rest
cut_whole t bytes items rest within cut = subst (λ (b : List ℕ). IsCut t b items rest) (take_all most_bytes bytes within) cut

-- the bytes end with the rest
end_answer : (t : Task) (bytes : List ℕ) (items : List Spelled) (rest text : List ℕ) → length bytes ≤ most_bytes → IsCut t (followed_part bytes) items rest → IsFrontText t (followed_part bytes) items text
    → (IsFaulty (framing t) 32768 rest → ⊥) → HasAnswer t bytes
end_answer t bytes items [] text within cut front none = inl (text, (items, within, cut_whole t bytes items [] within cut, front.written))
end_answer t bytes items (b ∷ rest) text within cut front none = inr (
  _,
  (
    items,
    text,
    last_text t (length (stream_of items)) (codes "unfinished " ++ decimal (length (b ∷ rest))),
    front,
    inr (inl (record { within = within; rest = b ∷ rest; cut = cut_whole t bytes items (b ∷ rest) within cut; some = λ e. cc; not_bad = none; text_is = refl })),
    refl,
  ),
)

rest_answer : (t : Task) (bytes : List ℕ) (items : List Spelled) (rest text : List ℕ) → IsCut t (followed_part bytes) items rest → IsFrontText t (followed_part bytes) items text
    → Rest (framing t) (length (stream_of items)) rest → (most_bytes < length bytes) ⊎ (length bytes ≤ most_bytes) → HasAnswer t bytes
rest_answer t bytes items rest text cut front (inl bad) size = inr (
  _,
  (
    items,
    text,
    last_text t (length (stream_of items)) (codes "refused " ++ why_words (Split bad.0)),
    front,
    inl (inr (record { rest = rest; cut = cut; fault = bad.0; refused = bad.1; text_is = refl })),
    refl,
  ),
)
rest_answer t bytes items rest text cut front (inr none) (inl past) = inr (
  _,
  (
    items,
    text,
    last_text t (length (stream_of items)) (codes "limit"),
    front,
    inr (inr (record { past = past; rest = rest; cut = cut; not_bad = none; text_is = refl })),
    refl,
  ),
)
rest_answer t bytes items rest text cut front (inr none) (inr within) = end_answer t bytes items rest text within cut front none

pub some_answer : FrameLaws → (t : Task) (bytes : List ℕ) → ((text : List ℕ) × IsDone t bytes text) ⊎ ((text : List ℕ) × IsStopped t bytes text)
some_answer laws t bytes =
    let found = laws.cutting (always (framing t)) most_frame (followed_part bytes) in
    by found.0 found.1.0 found.1.1 (walk laws t 0 found.0) where
      by : (items : List Spelled) (rest : List ℕ) → IsCut t (followed_part bytes) items rest → Walked t 0 items → HasAnswer t bytes
      by items rest cut (inl good) =
          rest_answer t bytes items rest good.0 cut (record { begins = record { more = rest; whole = cut.whole; each = cut.each }; written = good.1 })
          (some_rest laws.beginning (framing t) (length (stream_of items)) rest cut.ends) (cases_lt most_bytes (length bytes))
      by items rest cut (inr bad) = bad_answer t bytes items rest cut bad
