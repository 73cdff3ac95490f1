-- In a session a flush is calls, each of which writes what waits on one lane.
use Rattle.std.proofs.Common.{◌≡◌, ◌==◌, ◌++◌, ◌∷◌, [], ℕ, Bool, true, false, not, cond, List, refl, sym, ap, ◌∙◌, subst, inl, inr, append_assoc, append-nil, map, option_to_list}
use Rattle.std.proofs.lemmas.List.{map-append}
use Rattle.hw_door.specs.Traffic.{Answer}
use Rattle.hw_net.specs.declared.protocol.Stage.{Stage}
use Rattle.hw_net.specs.declared.protocol.Stage.TheVariants.{Live, Lost, Closing, Over}
use Rattle.hw_net.specs.Door.{DoesAt, DoorState, HearsNext, kept}
use Rattle.hw_net.specs.Flushing.{Gathers, WriteEach}
use Rattle.hw_net.specs.Lane.{Lane, wires_of, is_over, after_end}
use Rattle.hw_net.specs.Saying.{WritesOut, WritesIfLive, WritesIfLiveAt}
use Rattle.hw_net.specs.Sessions.{Call, heard, wrote, Session, AreWrites, FlushesAreCalls, NextIsCalls, answers_of}
use Rattle.hw_net.specs.Trace.{Chooses}
use Rattle.hw_net.specs.Turn.{AtLane}
use Rattle.hw_net.proofs.Ends.{Ends, writes-end}

-- ---- a flush leaves which lanes are over

-- the lane has its number, and is over if it was
abbrev KeepsPlace : Lane → Lane → Type 0
KeepsPlace x y = (y.wire ≡ x.wire) × (is_over y.stage ≡ is_over x.stage)

same-place : (x y : Lane) → y ≡ x → KeepsPlace x y
same-place x y e = (ap (λ (l : Lane). l.wire) e, ap (λ (l : Lane). is_over l.stage) e)

live-place : (x y : Lane) (mine : List Answer) → WritesIfLive x y mine → KeepsPlace x y
live-place x y mine h = go x.stage refl h where
  written : x.stage ≡ Live → WritesOut x y mine → Ends x.wire x.stage y.stage mine → is_over y.stage ≡ is_over x.stage
  written e w (inl k) = ap is_over (k.1 ∙ ap after_end e) ∙ sym (ap is_over e)
  written e w (inr k) = ap is_over k.1

  go : (s : Stage) → x.stage ≡ s → WritesIfLiveAt s x y mine → KeepsPlace x y
  go Live e w = (w.still.wire, written e w (writes-end x y mine w))
  go Lost e h = same-place x y h.1
  go Closing e h = same-place x y h.1
  go Over e h = same-place x y h.1

kept-first : (lane : Lane) (lanes : List Lane) → wires_of (kept (lane ∷ lanes)) ≡ cond (not (is_over lane.stage)) (lane.wire ∷ wires_of (kept lanes)) (wires_of (kept lanes))
kept-first lane lanes = go (not (is_over lane.stage)) where
  go : (b : Bool) → wires_of (cond b (lane ∷ kept lanes) (kept lanes)) ≡ cond b (lane.wire ∷ wires_of (kept lanes)) (wires_of (kept lanes))
  go true = refl
  go false = refl

kept-same : (x y : Lane) (lanes rest : List Lane) → KeepsPlace x y → wires_of (kept rest) ≡ wires_of (kept lanes) → wires_of (kept (y ∷ rest)) ≡ wires_of (kept (x ∷ lanes))
kept-same x y lanes rest k e =
    kept-first y rest ∙ ap (λ l. cond (not (is_over y.stage)) (y.wire ∷ l) l) e ∙ ap (λ b. cond (not b) (y.wire ∷ wires_of (kept lanes)) (wires_of (kept lanes))) k.1
    ∙ ap (λ n. cond (not (is_over x.stage)) (n ∷ wires_of (kept lanes)) (wires_of (kept lanes))) k.0 ∙ sym (kept-first x lanes)

at-kept : (wire : ℕ) (lanes after : List Lane) (answers : List Answer) → AtLane wire WritesIfLive lanes after answers → wires_of (kept after) ≡ wires_of (kept lanes)
at-kept wire [] after answers h = ap (λ (l : List Lane). wires_of (kept l)) h.0
at-kept wire (lane ∷ lanes) after answers h = go (lane.wire == wire) h (λ rest k. at-kept wire lanes rest answers k) where
  go : (b : Bool) → Chooses b ((next : Lane) × (after ≡ next ∷ lanes) × WritesIfLive lane next answers) ((rest : List Lane) × (after ≡ lane ∷ rest) × AtLane wire WritesIfLive lanes rest answers) →
      ((rest : List Lane) → AtLane wire WritesIfLive lanes rest answers → wires_of (kept rest) ≡ wires_of (kept lanes)) → wires_of (kept after) ≡ wires_of (kept (lane ∷ lanes))
  go true h again = ap (λ (l : List Lane). wires_of (kept l)) h.1 ∙ kept-same lane h.0 lanes lanes (live-place lane h.0 answers h.2) refl
  go false h again = ap (λ (l : List Lane). wires_of (kept l)) h.1 ∙ kept-same lane lane lanes h.0 (refl, refl) (again h.0 h.2)

-- no lane is over that wasn't
pub each-kept : (wires : List ℕ) (lanes after : List Lane) (answers : List Answer) → WriteEach wires lanes after answers → wires_of (kept after) ≡ wires_of (kept lanes)
each-kept [] lanes after answers h = ap (λ (l : List Lane). wires_of (kept l)) h.0
each-kept (wire ∷ wires) lanes after answers h = each-kept wires h.0 after h.2 h.5 ∙ at-kept wire lanes h.0 h.1 h.4

-- ---- calls

-- these calls, each a write, lead from the one state to the other and add these answers
abbrev Calls : List Call → ℕ → DoorState → List Answer → Type 0
Calls calls bound after answers =
    (writes : List Call) × AreWrites writes × Session (writes ++ calls) bound after × (answers_of (writes ++ calls) ≡ answers_of calls ++ answers)

-- writes on wires, each with what the wires answered in it, as calls of a kind
abbrev pub Writes : Type 0
Writes = ℕ × List Answer

abbrev pub written : {C : Type 0} → (ℕ → List Answer → C) → List Writes → List C
written write writes = map (λ (one : Writes). write one.0 one.1) writes

-- lanes that write one after the other do so in calls of such a session, if one lane does in one call
pub each-writes : {C : Type 0} (In : List C → DoorState → Type 0) (write : ℕ → List Answer → C) (answers_of : List C → List Answer) →
    ((wire : ℕ) (answers : List Answer) (calls : List C) → answers_of (write wire answers ∷ calls) ≡ answers_of calls ++ answers) →
    ((calls : List C) (before after : DoorState) (wire : ℕ) (answers : List Answer) → In calls before → DoesAt wire WritesIfLive before after answers → In (write wire answers ∷ calls) after) →
    (wires : List ℕ) (calls : List C) (before : DoorState) (lanes : List Lane) (answers : List Answer) → In calls before → WriteEach wires before.lanes lanes answers →
    (writes : List Writes) × In (written write writes ++ calls) (record before { lanes = lanes }) × (answers_of (written write writes ++ calls) ≡ answers_of calls ++ answers)
each-writes In write answers_of more goes [] calls before lanes answers s h = (
  [],
  subst (λ (l : List Lane). In calls (record before { lanes = l })) (sym h.0) s,
  sym (append-nil (answers_of calls)) ∙ ap (λ l. answers_of calls ++ l) (sym h.1),
)
each-writes {C} In write answers_of more goes (wire ∷ wires) calls before lanes answers s h =
    let call : C = write wire h.1 in
    let again = each-writes In write answers_of more goes wires (call ∷ calls) (record before { lanes = h.0 }) lanes h.2 (goes calls before (record before { lanes = h.0 }) wire h.1 s (h.4, refl, refl, refl)) h.5 in
    let joined : written write (again.0 ++ (wire, h.1) ∷ []) ++ calls ≡ written write again.0 ++ call ∷ calls =
    ap (λ l. l ++ calls) (map-append (λ (one : Writes). write one.0 one.1) again.0 ((wire, h.1) ∷ [])) ∙ append_assoc (written write again.0) (call ∷ []) calls in (
      again.0 ++ (wire, h.1) ∷ [],
      subst (λ (l : List C). In l (record before { lanes = lanes })) (sym joined) again.1,
      ap answers_of joined ∙ again.2 ∙ ap (λ l. l ++ h.2) (more wire h.1 calls) ∙ append_assoc (answers_of calls) h.1 h.2 ∙ ap (λ l. answers_of calls ++ l) (sym h.3),
    )

are-writes : (writes : List Writes) → AreWrites (written wrote writes)
are-writes [] = tt
are-writes (one ∷ writes) = are-writes writes

each-calls : (wires : List ℕ) (calls : List Call) (bound : ℕ) (before : DoorState) (lanes : List Lane) (answers : List Answer) → Session calls bound before → WriteEach wires before.lanes lanes answers →
    Calls calls bound (record before { lanes = lanes }) answers
each-calls wires calls bound before lanes answers s h =
    let k = each-writes (λ all (d : DoorState). Session all bound d) wrote answers_of (λ wire said all. refl) (λ all first last wire said t d. (bound, first, t, (d, refl))) wires calls before lanes answers s h in
    (written wrote k.0, are-writes k.0, k.1, k.2)

pub flushes-are-calls : FlushesAreCalls
flushes-are-calls calls bound before after answers s h =
    let all = each-calls h.flushes.wires calls bound before after.lanes answers s h.flushes.writes in
    subst (λ (d : DoorState). Calls calls bound d answers) (sym h.others_unchanged) all

pub next-is-calls : NextIsCalls
next-is-calls calls bound bound_after wait gathering gathering_after before after answers what s h keeps = go h.gathers where
  go : Gathers wait gathering before h.mid h.first gathering_after h.wait_after →
      (writes : List Call) × (last : List Answer) × AreWrites writes × Session (heard what last ∷ (writes ++ calls)) bound_after after
      × (answers_of (heard what last ∷ (writes ++ calls)) ≡ answers_of calls ++ answers)
  go (inl g) = (
    [],
    h.more,
    tt,
    (bound, before, s, (h.wait_after, subst (λ (d : DoorState). HearsNext h.wait_after d after h.more what) g.1 h.hears, keeps)),
    ap (λ l. answers_of calls ++ l) (sym (h.all ∙ ap (λ l. l ++ h.more) g.2)),
  )
  go (inr g) =
      let all = flushes-are-calls calls bound before h.mid h.first s g.0 in
      let same : wires_of (kept before.lanes) ≡ wires_of (kept h.mid.lanes) = sym (each-kept g.0.flushes.wires before.lanes h.mid.lanes h.first g.0.flushes.writes) in (
        all.0,
        h.more,
        all.1,
        (bound, h.mid, all.2, (h.wait_after, h.hears, (keeps.0, keeps.1 ∙ ap (λ l. l ++ option_to_list keeps.0) same, keeps.2))),
        ap (λ l. l ++ h.more) all.3 ∙ append_assoc (answers_of calls) h.first h.more ∙ ap (λ l. answers_of calls ++ l) (sym h.all),
      )
