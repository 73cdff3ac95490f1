-- What an end alone reads next, by the bytes that are held.
use Rattle.std.proofs.Common.{⊎_elim, ◌≡◌, ◌<◌, ◌==◌, ◌&&◌, ℕ, suc, Bool, true, false, List, ◌++◌, Option, Some, None, IfSome, refl, sym, ap, ◌∙◌, subst, arith, append-nil, slice_get, option_map, is_some}
use Rattle.std.specs.Prelude.{if◌then◌else◌, not, ◌||◌}
use Rattle.std.proofs.lemmas.Bool.{eqb-true, eq-eqb}
use Rattle.hf_split.specs.declared.framing.Framing.{Framing}
use Rattle.hf_split.specs.declared.framing.Framing.TheVariants.{Record}
use Rattle.hf_split.specs.Cuts.{IsFaulty, IsWaiting}
use Rattle.hf_split.specs.Held.{Held}
use Rattle.hm_codec.specs.Frames.{framing_of}
use Rattle.hd_delivery.specs.declared.vocabulary.Got.{Got}
use Rattle.hd_delivery.specs.declared.vocabulary.Side.{Side}
use Rattle.hd_delivery.specs.declared.vocabulary.Side.TheVariants.{Client, Server}
use Rattle.hd_delivery.specs.Numbers.{most_of_64_bits}
use Rattle.hd_delivery.specs.Frames.{LinkFrame, Request, Response, Refusal, Numbered, Ack, Sequence, Ping, Close, Foreign, Strange, Unreadable}
use Rattle.hd_delivery.specs.Histories.{Config, EndEvent, Attached, Detached, Fed, Took, Failed, Sent, Lent, Ticked, Silenced, Closed, is_this, present_link, first_link, taken_count, fed_frames, codec_of, is_shaken, is_closed, as_told}
use Rattle.hd_delivery.specs.HistoryLaws.{HistoryFacts}
use Rattle.hd_delivery.specs.Processes.{processes, next_frame, reads, next_number}
use Rattle.hd_delivery.specs.Worlds.{Limits}
use Rattle.hd_delivery.specs.Bytes.{Reading, Waits, Reads, Refuses, Stops, Wire, IsSoundWire}
use Rattle.hd_delivery.specs.OneHistory.{next_reader, frame_of_reading}
use Rattle.he_wire.specs.Readings.{ReadsFirst, ReadsLater}
use Rattle.he_wire.specs.Wires.{IsHouseWire}
use Rattle.hd_trace.specs.declared.marks.Marks.{Marks}
use Rattle.hd_trace.specs.Marks.{marks_of}
use Rattle.hd_trace.specs.MarkLaws.{TakesAreMarked}
use Rattle.hd_trace.specs.ByMarks.{next_number_by, given_by, frame_given, greets_by, got_of}
use Rattle.ha_audit.specs.AloneState.{as_kept, reading_by, HoldsBytes}
use Rattle.ha_audit.specs.AloneSteps.{HasNumber}

-- ---- which reader

this_is : (n : ℕ) (o : Option ℕ) → is_this n o ≡ true → o ≡ Some n
this_is n None e = absurd (cc)
this_is n (Some k) e = let same : n ≡ k = eqb-true n k e in ap Some (sym same)

reader_by : (wire : Wire) (c : Config) (k : List EndEvent) (l : ℕ) (bytes : List ℕ) → HistoryFacts c k → present_link k ≡ Some l
    → is_closed c k ≡ false
    → (b : Bool) → is_shaken k ≡ b → next_reader wire c l k bytes ≡ (if b then wire.later (codec_of c k) bytes else wire.first c.side bytes)
reader_by wire c k l bytes facts here opened false e =
    ap (λ b. if b then wire.first c.side bytes else wire.later (codec_of c k) bytes)
    (ap (λ o. is_this l o && (taken_count l k == 0)) (facts.unshaken_is_on_first e l here)
    ∙ (ap (λ b. b && (taken_count l k == 0)) (eq-eqb l l refl) ∙ eq-eqb (taken_count l k) 0 (facts.unshaken_took_none e opened l)))
reader_by wire c k l bytes facts here opened true e =
    ap (λ b. if b then wire.first c.side bytes else wire.later (codec_of c k) bytes) (later (is_this l (first_link k)) refl)
  where
    some : (t : Bool) → 0 < taken_count l k → (taken_count l k == 0) ≡ t → t ≡ false
    some false low e = refl
    some true low e = absurd (let none : taken_count l k ≡ 0 = eqb-true (taken_count l k) 0 e in omega (arith, low, none))

    later : (t : Bool) → is_this l (first_link k) ≡ t → (t && (taken_count l k == 0)) ≡ false
    later false e2 = refl
    later true e2 = some (taken_count l k == 0) (facts.shaken_took_some e l (this_is l (first_link k) e2)) refl

-- the reader that the marks name
pub reader_is : (wire : Wire) (c : Config) (k : List EndEvent) (l : ℕ) (bytes : List ℕ) → HistoryFacts c k → present_link k ≡ Some l
    → is_closed c k ≡ false
    → next_reader wire c l k bytes ≡ reading_by wire c.side (marks_of c k) bytes
reader_is wire c k l bytes facts here opened = reader_by wire c k l bytes facts here opened (is_shaken k) refl

-- ---- what is held is all that it reads

not_waiting : (framing : Framing) (most : ℕ) (bytes : List ℕ) → IsFaulty framing most bytes → IsWaiting framing most bytes → ⊥
not_waiting framing most bytes faulty waits = waits.no_fault faulty

faulty_waits : (wire : Wire) (side : Side) (m : Marks) (most : ℕ) (bytes : List ℕ) → IsHouseWire most wire → (b : Bool)
    → IsFaulty (if b then framing_of m.codec else Record) most bytes → (if b then wire.later m.codec bytes else wire.first side bytes) ≡ Waits → ⊥
faulty_waits wire side m most bytes house true faulty e = (subst (ReadsLater most m.codec bytes) e (house.later m.codec bytes)).no_fault faulty
faulty_waits wire side m most bytes house false faulty e = (subst (ReadsFirst most side bytes) e (house.first side bytes)).no_fault faulty

steady : (limits : Limits) (wire : Wire) (side : Side) (m : Marks) (bytes more : List ℕ) → IsSoundWire limits wire → (b : Bool)
    → ((if b then wire.later m.codec bytes else wire.first side bytes) ≡ Waits → ⊥)
    → (if b then wire.later m.codec (bytes ++ more) else wire.first side (bytes ++ more)) ≡
    (if b then wire.later m.codec bytes else wire.first side bytes)
steady limits wire side m bytes more sound true reads = (sound.later m.codec).steady bytes more reads
steady limits wire side m bytes more sound false reads = (sound.first side).steady bytes more reads

pub held_is : (limits : Limits) (wire : Wire) (side : Side) (m : Marks) (splitter : Held) (over : ℕ) (bytes : List ℕ) → IsSoundWire limits wire
    → IsHouseWire splitter.most wire
    → HoldsBytes splitter over m bytes → reading_by wire side m bytes ≡ reading_by wire side m splitter.bytes
held_is limits wire side m splitter over bytes sound house holds = ap (reading_by wire side m) holds.bytes_are ∙ ⊎_elim
    (λ none. ap (λ more. reading_by wire side m (splitter.bytes ++ more)) none ∙ ap (reading_by wire side m) (append-nil splitter.bytes))
    (λ faulty. steady limits wire side m splitter.bytes holds.more sound m.shaken
    (faulty_waits wire side m splitter.most splitter.bytes house m.shaken
    (subst (λ framing. IsFaulty framing splitter.most splitter.bytes) holds.framing faulty)))
    holds.stuck

-- ---- what it gives

took_is : (s : EndEvent) (got : Got) → got_of s ≡ Some got → s ≡ Took got
took_is (Took g) got e = ap Took (let z : Some g ≡ Some got = e in cc)
took_is (Attached l now) got e = absurd (let z : None ≡ Some got = e in cc)
took_is (Detached now) got e = absurd (let z : None ≡ Some got = e in cc)
took_is (Fed piece) got e = absurd (let z : None ≡ Some got = e in cc)
took_is (Failed fault) got e = absurd (let z : None ≡ Some got = e in cc)
took_is (Sent m) got e = absurd (let z : None ≡ Some got = e in cc)
took_is (Lent f) got e = absurd (let z : None ≡ Some got = e in cc)
took_is (Ticked now) got e = absurd (let z : None ≡ Some got = e in cc)
took_is (Silenced now) got e = absurd (let z : None ≡ Some got = e in cc)
took_is (Closed reason allow) got e = absurd (let z : None ≡ Some got = e in cc)

some_is : (s t : EndEvent) → Some s ≡ Some t → s ≡ t
some_is s t e = cc

-- what can't be read gives nothing
nothing_unreadable : (c : Config) (m : Marks) (n : Option ℕ) (at : ℕ) (why : List ℕ) (side : Side) (b : Bool) →
    (if b then frame_given m n (Unreadable at why) else greets_by side c (Unreadable at why)) ≡ None
nothing_unreadable c m n at why side true = refl
nothing_unreadable c m n at why Client false = refl
nothing_unreadable c m n at why Server false = refl

-- a kept number is one
pub given_kept : (c : Config) (m : Marks) (n : Option ℕ) (f : LinkFrame) → given_by c (as_kept m) n f ≡ given_by c m n f
given_kept c m n (Request codec version) = refl
given_kept c m n Response = refl
given_kept c m n (Refusal text) = refl
given_kept c m n (Numbered msg) = refl
given_kept c m n (Ack upto) = refl
given_kept c m n (Sequence first received) = refl
given_kept c m n Ping = refl
given_kept c m n (Close error allow) = refl
given_kept c m n (Foreign k) = refl
given_kept c m n (Strange why answer) = refl
given_kept c m n (Unreadable at why) = refl

told_small : (n : ℕ) → as_told n < most_of_64_bits → as_told n ≡ n
told_small n low = omega (arith, low)

next_kept : (o : Option ℕ) → IfSome (option_map as_told o) (λ n. n < most_of_64_bits) → option_map as_told o ≡ o
next_kept None low = refl
next_kept (Some n) low = ap Some (told_small n low)

some_kept : (o : Option ℕ) → is_some (option_map as_told o) ≡ is_some o
some_kept None = refl
some_kept (Some n) = refl

number_by : (three resumable : Bool) (o : Option ℕ) (b : Bool) (p : ℕ) →
    (resumable ≡ true → three ≡ false → IfSome (option_map as_told o) (λ n. n < most_of_64_bits))
    → (if three || not resumable then (if is_some (option_map as_told o) && b then Some p else None) else option_map as_told o)
    ≡ (if three || not resumable then (if is_some o && b then Some p else None) else o)
number_by true resumable o b p low = ap (λ s. if s && b then Some p else None) (some_kept o)
number_by false false o b p low = ap (λ s. if s && b then Some p else None) (some_kept o)
number_by false true o b p low = next_kept o (low refl refl)

pub number_kept : (m : Marks) (l : ℕ) → HasNumber (as_kept m) → next_number_by (as_kept m) l ≡ next_number_by m l
number_kept m l low = number_by m.three m.resumable m.next (is_this l m.first || m.opened) (suc m.processed) low

module _ (says : TakesAreMarked) (c : Config) (k : List EndEvent) (l at : ℕ) (reading : Reading) (here : present_link k ≡ Some l)
    (opened : is_closed c k ≡ false)
    (found : slice_get (fed_frames l k) (taken_count l k) ≡ frame_of_reading at reading) (low : HasNumber (as_kept (marks_of c k))) where
  -- what the marks say that a frame gives
  pub gives_is : (f : LinkFrame) → given_by c (as_kept (marks_of c k)) (next_number_by (as_kept (marks_of c k)) l) f ≡ got_of
      (reads c k (next_number c k l) f)
  gives_is f = ap (λ n. given_by c (as_kept (marks_of c k)) n f) (number_kept (marks_of c k) l low ∙ sym ((says c k).number l here))
      ∙ (given_kept c (marks_of c k) (next_number c k l) f ∙ sym ((says c k).gives (next_number c k l) f))

  processes_is : processes c k ≡ option_map (reads c k (next_number c k l)) (frame_of_reading at reading)
  processes_is = ap (λ b. if b then None else next_frame c k (present_link k)) opened ∙
      (ap (next_frame c k) here ∙ ap (option_map (reads c k (next_number c k l))) found)

  -- a frame that is read and gives this is taken
  pub takes : (f : LinkFrame) (size : ℕ) (got : Got) → reading ≡ Reads f size → given_by c (as_kept (marks_of c k))
      (next_number_by (as_kept (marks_of c k)) l) f ≡ Some got → processes c k ≡ Some (Took got)
  takes f size got is gives = processes_is ∙ (ap (λ r. option_map (reads c k (next_number c k l)) (frame_of_reading at r)) is
      ∙ ap Some (took_is (reads c k (next_number c k l) f) got (sym (gives_is f) ∙ gives)))

  -- what is taken was read, and gives this
  pub taken : (got : Got) → processes c k ≡ Some (Took got)
      → (f : LinkFrame) ×
      ((size : ℕ) × ((reading ≡ Reads f size) × (given_by c (as_kept (marks_of c k)) (next_number_by (as_kept (marks_of c k)) l) f ≡ Some got)))
  taken got e = go reading refl
    where
      all : (r : Reading) → reading ≡ r → option_map (reads c k (next_number c k l)) (frame_of_reading at r) ≡ Some (Took got)
      all r is = sym (ap (λ r. option_map (reads c k (next_number c k l)) (frame_of_reading at r)) is) ∙ (sym processes_is ∙ e)

      gave : (f : LinkFrame) → Some (reads c k (next_number c k l) f) ≡ Some (Took got) → given_by c (as_kept (marks_of c k))
          (next_number_by (as_kept (marks_of c k)) l) f ≡ Some got
      gave f e = gives_is f ∙ ap got_of (some_is (reads c k (next_number c k l) f) (Took got) e)

      not_unreadable : (at : ℕ) (why : List ℕ) → given_by c (as_kept (marks_of c k)) (next_number_by (as_kept (marks_of c k)) l)
          (Unreadable at why) ≡ Some got → ⊥
      not_unreadable at why e =
          let z : ◌≡◌ {A = Option Got} None (Some got) = sym
          (nothing_unreadable c (as_kept (marks_of c k)) (next_number_by (as_kept (marks_of c k)) l) at why c.side (is_shaken k)) ∙ e in absurd
          (cc)

      go : (r : Reading) → reading ≡ r
          → (f : LinkFrame) ×
          ((size : ℕ) ×
          ((reading ≡ Reads f size) × (given_by c (as_kept (marks_of c k)) (next_number_by (as_kept (marks_of c k)) l) f ≡ Some got)))
      go Waits is = absurd (let z : ◌≡◌ {A = Option EndEvent} None (Some (Took got)) = all Waits is in cc)
      go (Reads f size) is = (f, (size, (is, gave f (all (Reads f size) is))))
      go (Refuses why size) is = absurd (not_unreadable (as_told at) why (gave (Unreadable (as_told at) why) (all (Refuses why size) is)))
      go (Stops why) is = absurd (not_unreadable (as_told at) why (gave (Unreadable (as_told at) why) (all (Stops why) is)))
