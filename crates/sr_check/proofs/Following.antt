-- A stream whose frames are dealt with one by one.
use Rattle.std.proofs.Common.{codes, ◌≡◌, ◌≢◌, ◌<◌, ◌+◌, ℕ, inl, inr, List, [], ◌∷◌, ◌++◌, length, take, drop, Option, Some, None, refl, sym, ◌∙◌, ap, subst, arith, append_assoc, length-append}
use Rattle.std.specs.Io.KnownBytes.{Appends}
use Rattle.std.proofs.Math.Seq.{take-append-add}
use Rattle.std.specs.Prelude.{Result, Ok, Err, OnOk, IfErr}
use Rattle.std.proofs.lemmas.List.{append-nil, append_cancel_left}
use Rattle.hf_split.specs.declared.framing.Framing.{Framing}
use Rattle.hf_split.specs.declared.splitter.SplitFault.{SplitFault}
use Rattle.hf_split.specs.declared.splitter.SplitFault.TheVariants.{TooLong, BadLength}
use Rattle.hf_split.specs.Cuts.{Spelled, AreFrames, IsFrame, BeginsWith, IsTooLong, IsBadLength, IsWaiting, always, stream_of}
use Rattle.hf_split.specs.Held.{Held, Stands, IsFaultOf, IsInStep, after_pass}
use Rattle.sr_check.specs.declared.task.Task.{Task}
use Rattle.sr_check.specs.declared.task.Stop.{Stop}
use Rattle.sr_check.specs.declared.task.Stop.TheVariants as stop
use Rattle.hm_codec.specs.declared.why.FrameWhy.TheVariants.{Split}
use Rattle.hm_codec.specs.Words.{why_words}
use Rattle.sr_check.specs.Output.{framing, IsWritten, last_text}
use Rattle.sr_check.specs.Stream.{AreWritten, BeginsFrames, IsFrontText, IsFaultAt, IsTouchedByBytesAlone}
use Rattle.sr_check.specs.Going.{IsRefusal, IsReader, IsAt, IsResting, IsSoFar, IsBegunSoFar, IsStoppedSoFar, IsLastPut, Ends, EndsOnDesk, with_output_buffer}
use Rattle.sr_check.specs.Laws.{FaultsLast}

pub with_reader : (t : Task) (P : Framing → ℕ → Type 0) (held : Held) → IsReader t held → P held.framing held.most → P (framing t) 32768
with_reader t P held reader fact = subst (λ (m : ℕ). P (framing t) m) reader.most (subst (λ (f : Framing). P f held.most) reader.framing_is fact)

-- ---- what was written

pub appends_more : (a b c : Option (List ℕ)) (xs ys : List ℕ) → Appends a b xs → Appends b c ys → Appends a c (xs ++ ys)
appends_more None b c xs ys p q = tt
appends_more (Some a) None c xs ys p q = absurd p
appends_more (Some a) (Some b) None xs ys p q = absurd q
appends_more (Some a) (Some b) (Some c) xs ys p q = q ∙ ap (λ zs. zs ++ ys) p ∙ append_assoc a xs ys

-- a part of a text behind a whole one
pub appends_part : (a b c : Option (List ℕ)) (text last : List ℕ) (n : ℕ) → Appends a b text → Appends b c (take n last) → (m : ℕ) × Appends a c (take m (text ++ last))
appends_part a b c text last n p q =
    (length text + n, subst (λ (xs : List ℕ). Appends a c xs) (sym (take-append-add text last n)) (appends_more a b c text (take n last) p q))

some_with_more : (xs ys : List ℕ) → xs ≢ [] → xs ++ ys ≢ []
some_with_more [] ys some is = some refl
some_with_more (x ∷ xs) ys some is = cc

-- an output that took no byte was not touched, in two parts and so in both
pub touched_more : {K : Type 0} (holds : K → Option (List ℕ)) (a b c : K) → IsTouchedByBytesAlone holds a b → IsTouchedByBytesAlone holds b c
    → IsTouchedByBytesAlone holds a c
touched_more holds a b c (inl same) (inl same') = inl (same' ∙ same)
touched_more holds a b c (inl same) (inr more) = inr (more.0, more.1, subst (λ k. Appends (holds k) (holds c) more.0) same more.2)
touched_more holds a b c (inr some) (inl same) = inr (some.0, some.1, subst (λ k. Appends (holds a) (holds k) some.0) (sym same) some.2)
touched_more holds a b c (inr some) (inr more) =
    inr (some.0 ++ more.0, some_with_more some.0 more.0 some.1, appends_more (holds a) (holds b) (holds c) some.0 more.0 some.2 more.2)

pub stream-append : (items more : List Spelled) → stream_of (items ++ more) ≡ stream_of items ++ stream_of more
stream-append [] more = refl
stream-append (item ∷ items) more = ap (λ xs. item.spelling ++ xs) (stream-append items more) ∙ sym (append_assoc item.spelling (stream_of items) (stream_of more))

written-append : (t : Task) (at : ℕ) (items more : List Spelled) (a b : List ℕ) → AreWritten t at items a → AreWritten t (at + length (stream_of items)) more b → AreWritten t at (items ++ more) (a ++ b)
written-append t at [] more a b p q =
    subst (λ (xs : List ℕ). AreWritten t at more xs) (ap (λ xs. xs ++ b) (sym p)) (subst (λ (n : ℕ). AreWritten t n more b) (let e : at + 0 ≡ at = omega arith in e) q)
written-append t at (item ∷ items) more a b p q =
    let place : at + length (stream_of (item ∷ items)) ≡ at + length item.spelling + length (stream_of items) = omega (arith, length-append item.spelling (stream_of items)) in (
      p.0,
      p.1 ++ b,
      p.2,
      ap (λ xs. xs ++ b) p.3 ∙ append_assoc p.0 p.1 b,
      written-append t (at + length item.spelling) items more p.1 b p.4 (subst (λ (n : ℕ). AreWritten t n more b) place q),
    )

written-next : (t : Task) (items : List Spelled) (item : Spelled) (text piece : List ℕ) → AreWritten t 0 items text → IsWritten t (length (stream_of items)) item.frame piece → AreWritten t 0 (items ++ item ∷ []) (text ++ piece)
written-next t items item text piece written is =
    let place : 0 + length (stream_of items) ≡ length (stream_of items) = omega arith in
    written-append t 0 items (item ∷ []) text piece written
    (piece, [], subst (λ (n : ℕ). IsWritten t n item.frame piece) (sym place) is, sym (append-nil piece), refl)

frames-next : (f : Framing) (items : List Spelled) (item : Spelled) → AreFrames (always f) 32768 items → IsFrame f 32768 item → AreFrames (always f) 32768 (items ++ item ∷ [])
frames-next f [] item each is = (is, tt)
frames-next f (x ∷ items) item each is = (each.0, frames-next f items item each.1 is)

-- ---- where the splitter stands

pub frames_at : (t : Task) (held : Held) (stream : List ℕ) (items : List Spelled) (text : List ℕ) → IsAt t held stream items text → AreFrames (always (framing t)) 32768 items
frames_at t held stream items text at = subst (λ (m : ℕ). AreFrames (always (framing t)) m items) at.reader.most at.stands.each

pub front_at : (t : Task) (held : Held) (stream : List ℕ) (items : List Spelled) (text : List ℕ) → IsAt t held stream items text → IsFrontText t stream items text
front_at t held stream items text at = record {
  begins = record { more = held.bytes; whole = at.stands.whole; each = frames_at t held stream items text at };
  written = at.written;
}

next-begins : (t : Task) (held : Held) (stream : List ℕ) (items : List Spelled) (text : List ℕ) (item : Spelled) → IsAt t held stream items text → BeginsWith (framing t) 32768 held.bytes item → BeginsFrames t stream (items ++ item ∷ [])
next-begins t held stream items text item at begins = record {
  more = drop (length item.spelling) held.bytes;
  whole = at.stands.whole ∙ ap (λ xs. stream_of items ++ xs) begins.front ∙ sym (append_assoc (stream_of items) item.spelling (drop (length item.spelling) held.bytes))
      ∙ ap (λ xs. xs ++ drop (length item.spelling) held.bytes) (ap (λ xs. stream_of items ++ xs) (sym (append-nil item.spelling)) ∙ sym (stream-append items (item ∷ [])));
  each = frames-next (framing t) items item (frames_at t held stream items text at) begins.is_frame;
}

-- the splitter tells the number of bytes before the next frame
pub place_is : (t : Task) (held : Held) (stream : List ℕ) (items : List Spelled) (text : List ℕ) → IsAt t held stream items text → held.place ≡ length (stream_of items)
place_is t held stream items text at = omega (arith, at.stands.place, at.short, ap length at.stands.whole, length-append (stream_of items) held.bytes)

begins-of : (t : Task) (held : Held) (item : Spelled) → IsReader t held → BeginsWith held.framing held.most held.bytes item → BeginsWith (framing t) 32768 held.bytes item
begins-of t held item reader begins = with_reader t (λ f m. BeginsWith f m held.bytes item) held reader begins

-- a frame was written of and passed
at-next : (t : Task) (held next : Held) (stream : List ℕ) (items : List Spelled) (text piece : List ℕ) (item : Spelled) → IsAt t held stream items text
    → IsWritten t held.place item.frame piece → next ≡ after_pass held item
    → (IsInStep (always (framing t)) held items → Stands (always (framing t)) next stream (items ++ item ∷ []))
    → IsAt t next stream (items ++ item ∷ []) (text ++ piece)
at-next t held next stream items text piece item at good is stands = record {
  reader = record { framing_is = ap (λ (h : Held). h.framing) is ∙ at.reader.framing_is; most = ap (λ (h : Held). h.most) is ∙ at.reader.most };
  stands = stands (sym at.reader.framing_is);
  written = written-next t items item text piece at.written (subst (λ (n : ℕ). IsWritten t n item.frame piece) (place_is t held stream items text at) good);
  short = at.short;
}

-- a frame was written of, and not passed
pub begun_next : (t : Task) (held : Held) (stream : List ℕ) (items : List Spelled) (text piece : List ℕ) (item : Spelled) → IsAt t held stream items text
    → BeginsWith held.framing held.most held.bytes item → IsWritten t held.place item.frame piece → IsBegunSoFar t stream (text ++ piece)
begun_next t held stream items text piece item at begins good = (
  items ++ item ∷ [],
  record {
    begins = next-begins t held stream items text item at (begins-of t held item at.reader begins);
    written = written-next t items item text piece at.written (subst (λ (n : ℕ). IsWritten t n item.frame piece) (place_is t held stream items text at) good);
  },
)

-- a frame is refused
pub bad_frame : (t : Task) (held : Held) (stream : List ℕ) (items : List Spelled) (text last : List ℕ) (item : Spelled) → IsAt t held stream items text
    → BeginsWith held.framing held.most held.bytes item → IsRefusal t held.place item.frame last → IsStoppedSoFar t stream (text ++ last)
bad_frame t held stream items text last item at begins bad = (
  items,
  text,
  last,
  front_at t held stream items text at,
  inl (record {
    item = item;
    next = next-begins t held stream items text item at (begins-of t held item at.reader begins);
    why = bad.0;
    refused = bad.1;
    text_is = bad.2 ∙ ap (λ (n : ℕ). last_text t n (codes "refused " ++ why_words bad.0)) (place_is t held stream items text at);
  }),
  refl,
)

fault_at : (t : Task) (held : Held) (place : ℕ) (fault : SplitFault) → IsReader t held → held.place ≡ place → IsFaultOf held fault → IsFaultAt (framing t) place held.bytes fault
fault_at t held place (TooLong at) reader same is = (is.0 ∙ same, with_reader t (λ f m. IsTooLong f m held.bytes) held reader is.1)
fault_at t held place (BadLength at) reader same is = (is.0 ∙ same, with_reader t (λ f m. IsBadLength f held.bytes) held reader is.1)

-- what is left begins with a fault
pub bad_rest : FaultsLast → (t : Task) (held : Held) (stream : List ℕ) (items : List Spelled) (text last : List ℕ) (fault : SplitFault) → IsAt t held stream items text
    → IsFaultOf held fault → last ≡ last_text t held.place (codes "refused " ++ why_words (Split fault)) → IsStoppedSoFar t stream (text ++ last)
bad_rest lasts t held stream items text last fault at is_fault is =
    let place : ℕ = length (stream_of items) in
    let bad : IsFaultAt (framing t) place held.bytes fault = fault_at t held place fault at.reader (place_is t held stream items text at) is_fault in (
      items,
      text,
      last,
      front_at t held stream items text at,
      inr (record {
        rest = held.bytes;
        cut = record {
          whole = at.stands.whole;
          each = frames_at t held stream items text at;
          ends = λ item begins. (lasts (framing t) place held.bytes [] fault bad).1 item (subst (λ (xs : List ℕ). BeginsWith (framing t) 32768 xs item) (sym (append-nil held.bytes)) begins);
        };
        fault = fault;
        refused = bad;
        text_is = is ∙ ap (λ (n : ℕ). last_text t n (codes "refused " ++ why_words (Split fault))) (place_is t held stream items text at);
      }),
      refl,
    )

-- ---- frames are being written of

pub record IsGoing (t : Task) (first held : Held) (start now : Option (List ℕ)) : Type 0 where
  pub reader : IsReader t held
  pub goes : (stream : List ℕ) (before : Option (List ℕ)) → IsSoFar t first stream before start → IsSoFar t held stream before now

pub going_first : (t : Task) (held : Held) (now : Option (List ℕ)) → IsReader t held → IsGoing t held held now now
going_first t held now reader = record { reader = reader; goes = λ stream before far. far }

pub going_next : (t : Task) (first held next : Held) (start now then_ : Option (List ℕ)) (piece : List ℕ) (item : Spelled) → IsGoing t first held start now
    → IsWritten t held.place item.frame piece → next ≡ after_pass held item
    → ((stream : List ℕ) (passed : List Spelled) → Stands (always (framing t)) held stream passed → IsInStep (always (framing t)) held passed → Stands (always (framing t)) next stream (passed ++ item ∷ []))
    → Appends now then_ piece → IsGoing t first next start then_
going_next t first held next start now then_ piece item going good is stands wrote = record {
  reader = record { framing_is = ap (λ (h : Held). h.framing) is ∙ going.reader.framing_is; most = ap (λ (h : Held). h.most) is ∙ going.reader.most };
  goes = λ stream before first_far.
      (let far = going.goes stream before first_far in record {
        items = far.items ++ item ∷ [];
        text = far.text ++ piece;
        at = at-next t held next stream far.items far.text piece item far.at good is (λ step. stands stream far.items far.at.stands step);
        wrote = appends_more before now then_ far.text piece far.wrote wrote;
      });
}

-- no whole frame is left
pub rests : (t : Task) (held : Held) → IsReader t held → IsWaiting held.framing held.most held.bytes → length held.bytes < held.most + 5 → IsResting t held
rests t held reader waiting room = record {
  reader = reader;
  waiting = with_reader t (λ f m. IsWaiting f m held.bytes) held reader waiting;
  room = omega (arith, room, reader.most);
}

-- ---- the task ends

pub ends_memory : (t : Task) (first held : Held) (start now : Option (List ℕ)) (how : Stop) → how ≡ stop.NoMemory → IsGoing t first held start now
    → (stream : List ℕ) (before : Option (List ℕ)) → IsSoFar t first stream before start → Ends t how stream before now
ends_memory t first held start now how is going stream before first_far =
    let far = going.goes stream before first_far in
    rw is (far.text, (far.items, front_at t held stream far.items far.text far.at), far.wrote)

-- in what is written of a good frame
pub ends_write : (t : Task) (first held : Held) (start now then_ : Option (List ℕ)) (piece : List ℕ) (n : ℕ) (how : Stop) → how ≡ stop.WriteFault → IsGoing t first held start now
    → ((stream : List ℕ) (items : List Spelled) (text : List ℕ) → IsAt t held stream items text → IsBegunSoFar t stream (text ++ piece)) → Appends now then_ (take n piece)
    → (stream : List ℕ) (before : Option (List ℕ)) → IsSoFar t first stream before start → Ends t how stream before then_
ends_write t first held start now then_ piece n how is going begun wrote stream before first_far =
    let far = going.goes stream before first_far in
    rw is (far.text ++ piece, inl (begun stream far.items far.text far.at), appends_part before now then_ far.text piece n far.wrote wrote)

-- with what is written last
pub ends_last : (t : Task) (first held : Held) (start now then_ : Option (List ℕ)) (last : List ℕ) (how : Stop) → IsGoing t first held start now
    → ((stream : List ℕ) (items : List Spelled) (text : List ℕ) → IsAt t held stream items text → IsStoppedSoFar t stream (text ++ last))
    → IsLastPut how last now then_
    → (stream : List ℕ) (before : Option (List ℕ)) → IsSoFar t first stream before start → Ends t how stream before then_
ends_last t first held start now then_ last stop.Refused going stopped put stream before first_far =
    let far = going.goes stream before first_far in
    (far.text ++ last, stopped stream far.items far.text far.at, appends_more before now then_ far.text last far.wrote put)
ends_last t first held start now then_ last stop.WriteFault going stopped put stream before first_far =
    let far = going.goes stream before first_far in
    (far.text ++ last, inr (stopped stream far.items far.text far.at), appends_part before now then_ far.text last put.0 far.wrote put.1)
ends_last t first held start now then_ last stop.NoMemory going stopped put stream before first_far =
    let far = going.goes stream before first_far in
    (far.text, (far.items, front_at t held stream far.items far.text far.at), subst (λ (xs : List ℕ). Appends before then_ xs) (append-nil far.text) (appends_more before now then_ far.text [] far.wrote put))
ends_last t first held start now then_ last stop.ReadFault going stopped put stream before first_far = absurd put

-- ---- on the desk

-- text that is put on the desk is put behind what the output will hold
appends-output_buffer : (now : Option (List ℕ)) (text piece : List ℕ) → Appends (with_output_buffer now text) (with_output_buffer now (text ++ piece)) piece
appends-output_buffer None text piece = tt
appends-output_buffer (Some bytes) text piece = sym (append_assoc bytes text piece)

pub desk_empty : (now : Option (List ℕ)) (text : List ℕ) → text ≡ [] → with_output_buffer now text ≡ now
desk_empty None text none = refl
desk_empty (Some bytes) text none = ap (λ xs. Some (bytes ++ xs)) none ∙ ap (λ (xs : List ℕ). Some xs) (append-nil bytes)

-- Frames are being written of on the desk, whatever the output holds.
abbrev pub IsGoingOnDesk : Task → Held → Held → List ℕ → List ℕ → Type 0
IsGoingOnDesk t first held start text = (now : Option (List ℕ)) → IsGoing t first held (with_output_buffer now start) (with_output_buffer now text)

pub desk_next : (t : Task) (first held next : Held) (start text longer piece : List ℕ) (item : Spelled) → IsGoingOnDesk t first held start text
    → IsWritten t held.place item.frame piece → next ≡ after_pass held item
    → ((stream : List ℕ) (passed : List Spelled) → Stands (always (framing t)) held stream passed → IsInStep (always (framing t)) held passed → Stands (always (framing t)) next stream (passed ++ item ∷ []))
    → longer ≡ text ++ piece → IsGoingOnDesk t first next start longer
desk_next t first held next start text longer piece item going good is stands same now =
    subst (λ (xs : List ℕ). IsGoing t first next (with_output_buffer now start) (with_output_buffer now xs)) (sym same)
    (going_next t first held next (with_output_buffer now start) (with_output_buffer now text) (with_output_buffer now (text ++ piece)) piece item (going now) good is stands (appends-output_buffer now text piece))

pub desk_ends : (t : Task) (first held : Held) (start text longer : List ℕ) (P : List ℕ → Type 0) (how : Stop) → IsGoingOnDesk t first held start text
    → ((stream : List ℕ) (items : List Spelled) (front last : List ℕ) → IsAt t held stream items front → P last → IsStoppedSoFar t stream (front ++ last))
    → EndsOnDesk how P text longer
    → (stream : List ℕ) (before now : Option (List ℕ)) → IsSoFar t first stream before (with_output_buffer now start) → Ends t how stream before (with_output_buffer now longer)
desk_ends t first held start text longer P stop.Refused going stopped end stream before now far =
    subst (λ (xs : List ℕ). Ends t stop.Refused stream before (with_output_buffer now xs)) (sym end.2)
    (ends_last t first held (with_output_buffer now start) (with_output_buffer now text) (with_output_buffer now (text ++ end.0)) end.0 stop.Refused (going now)
    (λ stream items front at. stopped stream items front end.0 at end.1) (appends-output_buffer now text end.0) stream before far)
desk_ends t first held start text longer P stop.NoMemory going stopped end stream before now far =
    subst (λ (xs : List ℕ). Ends t stop.NoMemory stream before (with_output_buffer now xs)) (sym end)
    (ends_memory t first held (with_output_buffer now start) (with_output_buffer now text) stop.NoMemory refl (going now) stream before far)
desk_ends t first held start text longer P stop.ReadFault going stopped end stream before now far = absurd end
desk_ends t first held start text longer P stop.WriteFault going stopped end stream before now far = absurd end

pub no_write_fault : (how : Stop) (P : List ℕ → Type 0) (text longer : List ℕ) → EndsOnDesk how P text longer → how ≡ stop.WriteFault → ⊥
no_write_fault how P text longer end is = absurd (rw is at end)

-- ---- the desk is written

put-all : (before now then_ : Option (List ℕ)) (all output_buffer : List ℕ) → Appends before (with_output_buffer now output_buffer) all → Appends now then_ output_buffer → Appends before then_ all
put-all None now then_ all output_buffer p q = tt
put-all (Some a) None then_ all output_buffer p q = absurd p
put-all (Some a) (Some b) None all output_buffer p q = absurd q
put-all (Some a) (Some b) (Some c) all output_buffer p q = q ∙ p

-- a first part of it
put-part : (before now then_ : Option (List ℕ)) (front all output_buffer : List ℕ) (n : ℕ) → Appends before now front → Appends before (with_output_buffer now output_buffer) all → Appends now then_ (take n output_buffer)
    → (m : ℕ) × Appends before then_ (take m all)
put-part None now then_ front all output_buffer n f p q = (0, tt)
put-part (Some a) None then_ front all output_buffer n f p q = absurd f
put-part (Some a) (Some b) then_ front all output_buffer n f p q =
    let same : front ++ output_buffer ≡ all = append_cancel_left a (front ++ output_buffer) all (sym (append_assoc a front output_buffer) ∙ ap (λ xs. xs ++ output_buffer) (sym f) ∙ p) in
    subst (λ (xs : List ℕ). (m : ℕ) × Appends (Some a) then_ (take m xs)) same (appends_part (Some a) (Some b) then_ front output_buffer n f q)

pub so_far_put : (t : Task) (held : Held) (stream : List ℕ) (before now then_ : Option (List ℕ)) (text : List ℕ) → Appends now then_ text → IsSoFar t held stream before (with_output_buffer now text) → IsSoFar t held stream before then_
so_far_put t held stream before now then_ text put far = record {
  items = far.items;
  text = far.text;
  at = far.at;
  wrote = put-all before now then_ far.text text far.wrote put;
}

pub ends_put : (t : Task) (how : Stop) (stream : List ℕ) (before now then_ : Option (List ℕ)) (text : List ℕ) → Appends now then_ text → Ends t how stream before (with_output_buffer now text) → Ends t how stream before then_
ends_put t stop.Refused stream before now then_ text put end = (end.0, end.1, put-all before now then_ end.0 text end.2 put)
ends_put t stop.NoMemory stream before now then_ text put end = (end.0, end.1, put-all before now then_ end.0 text end.2 put)
ends_put t stop.WriteFault stream before now then_ text put end = (end.0, end.1, (end.2.0, put-all before now then_ (take end.2.0 end.0) text end.2.1 put))
ends_put t stop.ReadFault stream before now then_ text put end = absurd end

-- the desk could not be written whole
pub ends_part : (t : Task) (end : Result (Unit {0}) Stop) (how : Stop) (held : Held) (stream front : List ℕ) (before now then_ : Option (List ℕ)) (text : List ℕ) (n : ℕ) → how ≡ stop.WriteFault
    → (◌≡◌ {A = Result (Unit {0}) Stop} end (Err stop.WriteFault) → ⊥)
    → OnOk end (IsSoFar t held stream before (with_output_buffer now text))
    → IfErr end (λ how. Ends t how stream before (with_output_buffer now text))
    → Appends before now front → Appends now then_ (take n text) → Ends t how stream before then_
ends_part t (Ok u) how held stream front before now then_ text n is unput ok err wrote put =
    rw is (ok.text, inl (ok.items, front_at t held stream ok.items ok.text ok.at), put-part before now then_ front ok.text text n wrote ok.wrote put)
ends_part t (Err stop.Refused) how held stream front before now then_ text n is unput ok err wrote put =
    rw is (err.0, inr err.1, put-part before now then_ front err.0 text n wrote err.2 put)
ends_part t (Err stop.NoMemory) how held stream front before now then_ text n is unput ok err wrote put =
    rw is (err.0, inl err.1, put-part before now then_ front err.0 text n wrote err.2 put)
ends_part t (Err stop.ReadFault) how held stream front before now then_ text n is unput ok err wrote put = absurd err
ends_part t (Err stop.WriteFault) how held stream front before now then_ text n is unput ok err wrote put = absurd (unput refl)
