-- A piece that is fed to the splitter part by part.
use Rattle.std.proofs.Common.{◌≡◌, ◌<◌, ◌≤◌, ◌+◌, ◌-◌, ◌^◌, ℕ, min, inl, inr, List, [], ◌∷◌, ◌++◌, length, take, drop, Option, sym, ◌∙◌, ap, subst, arith, append_assoc, length-append, length-take}
use Rattle.std.proofs.lemmas.List.{take-append-drop, take-take, drop-take, append-nil, take_all}
use Rattle.hf_split.specs.declared.framing.Framing.{Framing}
use Rattle.hf_split.specs.Cuts.{Spelled, IsFaulty, always, stream_of}
use Rattle.hf_split.specs.Held.{Held, Stands, after_feed}
use Rattle.sr_check.specs.declared.task.Task.{Task}
use Rattle.sr_check.specs.declared.task.Stop.{Stop}
use Rattle.sr_check.specs.declared.task.Stop.TheVariants as stop
use Rattle.sr_check.specs.Output.{framing}
use Rattle.sr_check.specs.Stream.{BeginsFrames, IsFrontText, IsStop}
use Rattle.sr_check.specs.Going.{IsReader, IsResting, IsSoFar, IsBegunSoFar, IsStoppedSoFar, IsPartSoFar, Ends}
use Rattle.sr_check.specs.Laws.{FaultsLast}
use Rattle.sr_check.proofs.Following.{with_reader}

-- ---- more of a stream

begins-more : (t : Task) (stream more : List ℕ) (items : List Spelled) → BeginsFrames t stream items → BeginsFrames t (stream ++ more) items
begins-more t stream more items begins = record {
  more = begins.more ++ more;
  whole = ap (λ xs. xs ++ more) begins.whole ∙ append_assoc (stream_of items) begins.more more;
  each = begins.each;
}

pub front_more : (t : Task) (stream more : List ℕ) (items : List Spelled) (text : List ℕ) → IsFrontText t stream items text → IsFrontText t (stream ++ more) items text
front_more t stream more items text front = record { begins = begins-more t stream more items front.begins; written = front.written }

-- what is written last stays so
pub stop_more : FaultsLast → (t : Task) (stream more : List ℕ) (items : List Spelled) (last : List ℕ) → IsStop t stream items last → IsStop t (stream ++ more) items last
stop_more lasts t stream more items last (inl bad) = inl (record {
  item = bad.item;
  next = begins-more t stream more (items ++ bad.item ∷ []) bad.next;
  why = bad.why;
  refused = bad.refused;
  text_is = bad.text_is;
})
stop_more lasts t stream more items last (inr bad) =
    let stays = lasts (framing t) (length (stream_of items)) bad.rest more bad.fault bad.refused in
    inr (record {
      rest = bad.rest ++ more;
      cut = record {
        whole = ap (λ xs. xs ++ more) bad.cut.whole ∙ append_assoc (stream_of items) bad.rest more;
        each = bad.cut.each;
        ends = stays.1;
      };
      fault = bad.fault;
      refused = stays.0;
      text_is = bad.text_is;
    })

begun-more : (t : Task) (stream more text : List ℕ) → IsBegunSoFar t stream text → IsBegunSoFar t (stream ++ more) text
begun-more t stream more text begun = (begun.0, front_more t stream more begun.0 text begun.1)

stopped-more : FaultsLast → (t : Task) (stream more text : List ℕ) → IsStoppedSoFar t stream text → IsStoppedSoFar t (stream ++ more) text
stopped-more lasts t stream more text ended =
    (ended.0, ended.1, ended.2, front_more t stream more ended.0 ended.1 ended.3, stop_more lasts t stream more ended.0 ended.2 ended.4, ended.5)

part-more : FaultsLast → (t : Task) (stream more text : List ℕ) → IsPartSoFar t stream text → IsPartSoFar t (stream ++ more) text
part-more lasts t stream more text (inl begun) = inl (begun-more t stream more text begun)
part-more lasts t stream more text (inr stopped) = inr (stopped-more lasts t stream more text stopped)

ends-more : FaultsLast → (t : Task) (how : Stop) (stream more : List ℕ) (before now : Option (List ℕ)) → Ends t how stream before now → Ends t how (stream ++ more) before now
ends-more lasts t stop.Refused stream more before now ends = (ends.0, stopped-more lasts t stream more ends.0 ends.1, ends.2)
ends-more lasts t stop.WriteFault stream more before now ends = (ends.0, part-more lasts t stream more ends.0 ends.1, ends.2)
ends-more lasts t stop.NoMemory stream more before now ends = (ends.0, begun-more t stream more ends.0 ends.1, ends.2)
ends-more lasts t stop.ReadFault stream more before now ends = absurd ends

-- ---- a piece

take-piece : (at n : ℕ) (piece : List ℕ) → take at piece ++ take n (drop at piece) ≡ take (at + n) piece
take-piece at n piece =
    ap (λ xs. xs ++ take n (drop at piece)) (sym (take-take at (at + n) piece (omega arith)))
    ∙ ap (λ xs. take at (take (at + n) piece) ++ xs) (sym (drop-take at n piece))
    ∙ take-append-drop at (take (at + n) piece)

-- So much of the piece was fed, and what was whole was written of.
pub record IsPiecewise (t : Task) (first held : Held) (piece : List ℕ) (at : ℕ) (start now : Option (List ℕ)) : Type 0 where
  pub resting : IsResting t held
  pub inside : at ≤ length piece
  pub goes : (stream : List ℕ) (before : Option (List ℕ)) → length (stream ++ piece) < 2 ^ 64 → IsSoFar t first stream before start → IsSoFar t held (stream ++ take at piece) before now

pub piecewise_first : (t : Task) (held : Held) (piece : List ℕ) (now : Option (List ℕ)) → IsResting t held → IsPiecewise t held held piece 0 now now
piecewise_first t held piece now resting = record {
  resting = resting;
  inside = omega arith;
  goes = λ stream before short far. subst (λ (xs : List ℕ). IsSoFar t held xs before now) (sym (append-nil stream)) far;
}

-- the splitter as it was fed a part more
far-fed : (t : Task) (held fed' : Held) (stream piece : List ℕ) (at n : ℕ) (before now : Option (List ℕ)) → IsReader t fed' → length (stream ++ piece) < 2 ^ 64 → at + n ≤ length piece
    → ((s : List ℕ) (passed : List Spelled) → Stands (always (framing t)) held s passed → Stands (always (framing t)) fed' (s ++ take n (drop at piece)) passed)
    → IsSoFar t held (stream ++ take at piece) before now → IsSoFar t fed' (stream ++ take (at + n) piece) before now
far-fed t held fed' stream piece at n before now reader short inside stands far =
    let same : stream ++ take at piece ++ take n (drop at piece) ≡ stream ++ take (at + n) piece =
    append_assoc stream (take at piece) (take n (drop at piece)) ∙ ap (λ xs. stream ++ xs) (take-piece at n piece) in
    record {
      items = far.items;
      text = far.text;
      at = record {
        reader = reader;
        stands = subst (λ (xs : List ℕ). Stands (always (framing t)) fed' xs far.items) same (stands (stream ++ take at piece) far.items far.at.stands);
        written = far.at.written;
        short = omega (arith, short, length-append stream piece, length-append stream (take (at + n) piece), length-take (at + n) piece);
      };
      wrote = far.wrote;
    }

pub piecewise_next : (t : Task) (first held fed' next : Held) (piece : List ℕ) (at n : ℕ) (start now then_ : Option (List ℕ)) → IsPiecewise t first held piece at start now
    → IsReader t fed' → at + n ≤ length piece
    → ((s : List ℕ) (passed : List Spelled) → Stands (always (framing t)) held s passed → Stands (always (framing t)) fed' (s ++ take n (drop at piece)) passed)
    → IsResting t next
    → ((stream : List ℕ) (before : Option (List ℕ)) → IsSoFar t fed' stream before now → IsSoFar t next stream before then_)
    → IsPiecewise t first next piece (at + n) start then_
piecewise_next t first held fed' next piece at n start now then_ p reader inside stands resting goes = record {
  resting = resting;
  inside = inside;
  goes = λ stream before short far.
      goes (stream ++ take (at + n) piece) before (far-fed t held fed' stream piece at n before now reader short inside stands (p.goes stream before short far));
}

pub piecewise_all : (t : Task) (first held : Held) (piece : List ℕ) (at : ℕ) (start now : Option (List ℕ)) → IsPiecewise t first held piece at start now → length piece ≤ at
    → (stream : List ℕ) (before : Option (List ℕ)) → length (stream ++ piece) < 2 ^ 64 → IsSoFar t first stream before start → IsSoFar t held (stream ++ piece) before now
piecewise_all t first held piece at start now p past stream before short far =
    subst (λ (xs : List ℕ). IsSoFar t held (stream ++ xs) before now) (take_all at piece past) (p.goes stream before short far)

-- the task ended in the piece
pub piecewise_ends : FaultsLast → (t : Task) (first held fed' : Held) (piece : List ℕ) (at n : ℕ) (start now then_ : Option (List ℕ)) (how : Stop) → IsPiecewise t first held piece at start now
    → IsReader t fed' → at + n ≤ length piece
    → ((s : List ℕ) (passed : List Spelled) → Stands (always (framing t)) held s passed → Stands (always (framing t)) fed' (s ++ take n (drop at piece)) passed)
    → ((stream : List ℕ) (before : Option (List ℕ)) → IsSoFar t fed' stream before now → Ends t how stream before then_)
    → (stream : List ℕ) (before : Option (List ℕ)) → length (stream ++ piece) < 2 ^ 64 → IsSoFar t first stream before start → Ends t how (stream ++ piece) before then_
piecewise_ends lasts t first held fed' piece at n start now then_ how p reader inside stands ends stream before short far =
    let here = ends (stream ++ take (at + n) piece) before (far-fed t held fed' stream piece at n before now reader short inside stands (p.goes stream before short far)) in
    subst (λ (xs : List ℕ). Ends t how xs before then_)
    (append_assoc stream (take (at + n) piece) (drop (at + n) piece) ∙ ap (λ xs. stream ++ xs) (take-append-drop (at + n) piece))
    (ends-more lasts t how (stream ++ take (at + n) piece) (drop (at + n) piece) before then_ here)

-- a part that is fed to a splitter that waits isn't empty
pub resting_feeds : (t : Task) (held : Held) (n size : ℕ) → IsResting t held → 0 < size
    → ((IsFaulty held.framing held.most held.bytes → ⊥) → n ≡ min size (held.most + 5 - length held.bytes)) → 0 < n
resting_feeds t held n size resting some count =
    let no_fault : IsFaulty held.framing held.most held.bytes → ⊥ = λ fault. resting.waiting.no_fault (with_reader t (λ f m. IsFaulty f m held.bytes) held resting.reader fault) in
    omega (arith, count no_fault, resting.room, resting.reader.most)

pub fed_reader : (t : Task) (held next : Held) (piece : List ℕ) → IsReader t held → next ≡ after_feed held piece → IsReader t next
fed_reader t held next piece reader is = record { framing_is = ap (λ (h : Held). h.framing) is ∙ reader.framing_is; most = ap (λ (h : Held). h.most) is ∙ reader.most }
