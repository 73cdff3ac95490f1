-- The calls of a door, of which none of `next` failed, are a session.
use Rattle.std.proofs.Common.{◌≡◌, ◌⊎◌, ◌==◌, ◌&&◌, ◌||◌, ◌++◌, ◌∷◌, [], ℕ, Bool, true, false, if◌then◌else◌, List, Option, refl, sym, ap, ◌∙◌, subst, inl, inr, append_assoc, append-nil}
use Rattle.std.specs.List.{list_all, flat_map}
use Rattle.hw_lanes.specs.declared.http.Reply.{Reply}
use Rattle.hw_door.specs.declared.error.DoorError.TheVariants as error
use Rattle.hw_door.specs.declared.heard.Given.TheVariants as say
use Rattle.hw_door.specs.DoorCalls as door
use Rattle.hw_door.specs.DoorCalls.{DoorCall, Chain}
use Rattle.hw_door.specs.Traffic.{Answer}
use Rattle.hw_net.specs.declared.door.NetDoor.{NetDoor}
use Rattle.hw_net.specs.declared.protocol.Stage.{Stage}
use Rattle.hw_net.specs.declared.protocol.Stage.TheVariants.{Live, Lost, Closing, Over}
use Rattle.hw_net.specs.Chains.{SendsAs, Makes, CallsNet, CallsAreASession, is_owed_at, is_steady, replies_of, told_of, told_in, told_by, told_in_all}
use Rattle.hw_net.specs.Door.{DoorState, state_of}
use Rattle.hw_net.specs.Lane.{Lane, is_busy, is_live, is_over, owes}
use Rattle.hw_net.specs.Sessions as session
use Rattle.hw_net.specs.Sessions.{Call, Session, AreWrites, answers_of, is_owed_on, refusal_on, replies_on}
use Rattle.hw_net.specs.Trace.{Tells, Chooses}
use Rattle.hw_net.specs.Turn.{AtLane, Sends}
use Rattle.hw_net.proofs.FlushCalls.{flushes-are-calls, next-is-calls}
use Rattle.hw_net.proofs.Moves.{Has, Without, AreDistinct, rising-distinct, same-wire}
use Rattle.hw_net.proofs.Owed.{IsOwed, new-owed, step-owed}
use Rattle.hw_net.proofs.Shares.{equal, same, turned}
use Rattle.hw_net.proofs.Telling.{tells-none, tells-more}
use Rattle.hw_net.proofs.Walks.{Steps, each-lane, find, moves-wire, rises, steps-in, untouched-owed}

-- ---- what is owed on the lanes of a number

owed-off : (wire : ℕ) (lanes : List Lane) → Without wire lanes → is_owed_at wire lanes ≡ false
owed-off wire [] off = refl
owed-off wire (lane ∷ lanes) off = ap (λ b. (b && owes lane) || is_owed_at wire lanes) (off lane (inl refl)) ∙ owed-off wire lanes (λ x has. off x (inr has))

owed-at : (wire : ℕ) (lanes : List Lane) (y : Lane) → AreDistinct lanes → Has lanes y → (y.wire == wire) ≡ true → is_owed_at wire lanes ≡ owes y
owed-at wire [] y distinct has e = absurd has
owed-at wire (lane ∷ lanes) y distinct (inl f) e =
    let here : (lane.wire == wire) ≡ true = ap (λ (l : Lane). l.wire == wire) f ∙ e in
    ap (λ b. (b && owes lane) || is_owed_at wire lanes) here
    ∙ ap (λ b. owes lane || b) (owed-off wire lanes (λ x has. same-wire lane.wire wire x.wire here (distinct.0 x has))) ∙ or-false (owes lane) ∙ ap owes f where
      or-false : (b : Bool) → (b || false) ≡ b
      or-false true = refl
      or-false false = refl
owed-at wire (lane ∷ lanes) y distinct (inr has) e =
    ap (λ b. (b && owes lane) || is_owed_at wire lanes) (same-wire y.wire wire lane.wire e (turned y.wire lane.wire (distinct.0 y has))) ∙ owed-at wire lanes y distinct.1 has e

over-idle : (x : Lane) (s : Stage) → x.stage ≡ s → is_over s ≡ true → owes x ≡ false
over-idle x Live e f = absurd (cc f)
over-idle x Lost e f = absurd (cc f)
over-idle x Closing e f = absurd (cc f)
over-idle x Over e f = ap (λ s. is_live s && is_busy x.protocol) e

-- a lane that was there, and not among those that move in a call, owed nothing
left-idle : (call : Call) (calls : List Call) (bound : ℕ) (now : DoorState) (h : Session (call ∷ calls) bound now) (wire : ℕ) (x : Lane) → Without wire (steps-in call calls bound now h).lanes → Has h.1.lanes x →
    x.wire ≡ wire → owes x ≡ false
left-idle call calls bound now h wire x none has e = go (is_over x.stage) refl where
  go : (b : Bool) → is_over x.stage ≡ b → owes x ≡ false
  go true f = over-idle x x.stage refl f
  go false f = absurd (cc (sym (none x ((steps-in call calls bound now h).still x has f)) ∙ ap (λ n. n == wire) e ∙ same wire))

each-owed : (calls : List Call) (bound : ℕ) (now : DoorState) → Session calls bound now → (y : Lane) → Has now.lanes y → IsOwed calls y
each-owed = each-lane IsOwed new-owed step-owed

-- on a lane that isn't there no reply is owed
gone-unowed : (calls : List Call) (bound : ℕ) (now : DoorState) → Session calls bound now → (wire : ℕ) → Without wire now.lanes → is_owed_on wire calls ≡ false
gone-unowed [] bound now h wire none = refl
gone-unowed (call ∷ calls) bound now h wire none = go (find wire step.lanes) (λ off. gone-unowed calls h.0 h.1 h.2 wire off) where
  step : Steps call h.0 bound h.1 now
  step = steps-in call calls bound now h

  before : Without wire step.lanes → (Without wire h.1.lanes → is_owed_on wire calls ≡ false) → Without wire h.1.lanes ⊎ ((x : Lane) × Has h.1.lanes x × (x.wire ≡ wire)) → is_owed_on wire calls ≡ false
  before off again (inl k) = again k
  before off again (inr k) = ap (λ n. is_owed_on n calls) (sym k.2) ∙ sym (each-owed calls h.0 h.1 h.2 k.0 k.1) ∙ left-idle call calls bound now h wire k.0 off k.1 k.2

  go : Without wire step.lanes ⊎ ((x : Lane) × Has step.lanes x × (x.wire ≡ wire)) → (Without wire h.1.lanes → is_owed_on wire calls ≡ false) → is_owed_on wire (call ∷ calls) ≡ false
  go (inl off) again = untouched-owed wire call calls (step.off wire off).1 (before off again (find wire h.1.lanes))
  go (inr k) again =
      let p = step.on k.0 k.1 in
      absurd (cc (sym (none p.0 p.1) ∙ ap (λ n. n == wire) (moves-wire call k.0 p.0 p.2 ∙ k.2) ∙ same wire))

owed-there : (calls : List Call) (bound : ℕ) (now : DoorState) → Session calls bound now → (wire : ℕ) → is_owed_on wire calls ≡ is_owed_at wire now.lanes
owed-there calls bound now h wire = go (find wire now.lanes) where
  go : Without wire now.lanes ⊎ ((x : Lane) × Has now.lanes x × (x.wire ≡ wire)) → is_owed_on wire calls ≡ is_owed_at wire now.lanes
  go (inl off) = gone-unowed calls bound now h wire off ∙ sym (owed-off wire now.lanes off)
  go (inr k) =
      ap (λ n. is_owed_on n calls) (sym k.2) ∙ sym (each-owed calls bound now h k.0 k.1)
      ∙ sym (owed-at wire now.lanes k.0 (rising-distinct 0 bound now.lanes (rises calls bound now h)) k.1 (ap (λ n. n == wire) k.2 ∙ same wire))

-- ---- one call

-- what is done on the lane of a number is all that follows from it there
pub at-lane : (wire : ℕ) (One Other : Lane → Lane → List Answer → Type 0) → ((x y : Lane) (mine : List Answer) → One x y mine → Other x y mine) →
    (lanes after : List Lane) (answers : List Answer) → AtLane wire One lanes after answers → AtLane wire Other lanes after answers
at-lane wire One Other f [] after answers h = h
at-lane wire One Other f (lane ∷ lanes) after answers h = go (lane.wire == wire) h (λ rest k. at-lane wire One Other f lanes rest answers k) where
  go : (b : Bool) → Chooses b ((next : Lane) × (after ≡ next ∷ lanes) × One lane next answers) ((rest : List Lane) × (after ≡ lane ∷ rest) × AtLane wire One lanes rest answers) →
      ((rest : List Lane) → AtLane wire One lanes rest answers → AtLane wire Other lanes rest answers) →
      Chooses b ((next : Lane) × (after ≡ next ∷ lanes) × Other lane next answers) ((rest : List Lane) × (after ≡ lane ∷ rest) × AtLane wire Other lanes rest answers)
  go true h again = (h.0, h.1, f lane h.0 answers h.2)
  go false h again = (h.0, h.1, again h.0 h.2)

pub sends-as : (is_put : Bool) (now : ℕ) (bytes : List ℕ) (text : Bool) (x y : Lane) (mine : List Answer) → SendsAs is_put now bytes text x y mine → Sends now bytes text x y mine
sends-as is_put now bytes text x y mine h = (h.0, is_put, h.1, h.2)

writes-tell : (writes all : List Call) → AreWrites writes → told_in_all (writes ++ all) ≡ told_in_all all
writes-tell [] all h = refl
writes-tell (session.wrote lane answers ∷ writes) all h = append-nil (told_in_all (writes ++ all)) ∙ writes-tell writes all h
writes-tell (_ ∷ writes) all h = absurd h

writes-say : (lane : ℕ) (writes all : List Call) → AreWrites writes → replies_on lane (writes ++ all) ≡ replies_on lane all
writes-say lane [] all h = refl
writes-say lane (session.wrote at answers ∷ writes) all h = writes-say lane writes all h
writes-say lane (_ ∷ writes) all h = absurd h

-- a reply is said where it is owed
said-owed : (at lane : ℕ) (reply : Reply) (owed_here owed_there is_said : Bool) → ((at == lane) ≡ true → owed_here ≡ owed_there) → is_said ≡ owed_there →
    (if (at == lane) && owed_here then reply ∷ [] else []) ≡ (if (at == lane) && is_said then reply ∷ [] else [])
said-owed at lane reply owed_here owed_there is_said f e = go (at == lane) refl where
  go : (b : Bool) → (at == lane) ≡ b → (if b && owed_here then reply ∷ [] else []) ≡ (if b && is_said then reply ∷ [] else [])
  go true g = ap (λ o. if o then reply ∷ [] else []) (f g ∙ sym e)
  go false g = refl

-- a session goes on with this call, in which the wires answered this
abbrev GoesOn : List Call → DoorCall → ℕ → DoorState → List Answer → Type 0
GoesOn all call bound after answers =
    (more : List Call) × Session more bound after × (told_in_all more ≡ told_in_all all ++ told_of call) × (answers_of more ≡ answers_of all ++ answers)
    × ((lane : ℕ) → replies_on lane more ≡ replies_on lane all ++ replies_of lane call)

one-call : {W : Type 0} (bound faults : W → ℕ) (all : List Call) (call : DoorCall) (before after : NetDoor W) (answers : List Answer) → Session all (bound before.wires) (state_of before) →
    Makes bound faults call before after answers → is_steady call ≡ true → GoesOn all call (bound after.wires) (state_of after) answers
one-call bound faults all (door.heard wait what) before after answers s h e =
    let k = next-is-calls all (bound before.wires) (bound after.wires) wait before.gathering after.gathering (state_of before) (state_of after) answers what s h.0 h.1 in
    (session.heard what k.1 ∷ (k.0 ++ all), k.3, ap (λ l. l ++ told_by (session.heard what k.1)) (writes-tell k.0 all k.2), k.4, λ lane. ap (λ l. l ++ refusal_on lane what.event) (writes-say lane k.0 all k.2))
one-call bound faults all (door.given (say.Reply lane reply) is_said) before after answers s h e =
    (session.replied lane reply answers ∷ all, (bound before.wires, state_of before, s, (h.1, h.2.0)), refl, refl, said) where
      owed : (at : ℕ) → (lane == at) ≡ true → is_owed_on at all ≡ is_owed_at lane before.lanes.items
      owed at e = ap (λ n. is_owed_on n all) (sym (equal lane at e)) ∙ owed-there all (bound before.wires) (state_of before) s lane

      said : (at : ℕ) → replies_on at all ++ (if (lane == at) && is_owed_on at all then reply ∷ [] else []) ≡ replies_on at all ++ (if (lane == at) && is_said then reply ∷ [] else [])
      said at = ap (λ l. replies_on at all ++ l) (said-owed lane at reply (is_owed_on at all) (is_owed_at lane before.lanes.items) is_said (owed at) h.0)
one-call bound faults all (door.given (say.Shut lane) is_said) before after answers s h e =
    (session.shut lane answers ∷ all, (bound before.wires, state_of before, s, (h.1, h.2.0)), refl, refl, λ at. sym (append-nil (replies_on at all)))
one-call bound faults all (door.sent (say.Bytes lane bytes text) is_said full) before after answers s h e =
    let at = at-lane lane (SendsAs is_said before.moment bytes text) (Sends before.moment bytes text) (sends-as is_said before.moment bytes text) before.lanes.items after.lanes.items answers h.1.0 in
    (session.sent lane bytes text full answers ∷ all, (bound before.wires, state_of before, s, ((at, h.1.1, h.1.2, h.1.3), h.2, h.3.0)), refl, refl, λ on. sym (append-nil (replies_on on all)))
one-call bound faults all door.flushed before after answers s h e =
    let k = flushes-are-calls all (bound before.wires) (state_of before) (state_of after) answers s h.0 in (
      k.0 ++ all,
      subst (λ n. Session (k.0 ++ all) n (state_of after)) (sym h.1) k.2,
      writes-tell k.0 all k.1 ∙ sym (append-nil (told_in_all all)),
      k.3,
      λ lane. writes-say lane k.0 all k.1 ∙ sym (append-nil (replies_on lane all)),
    )
one-call bound faults all (door.failed (door.to_say what) error.NoMemory) before after answers s h e = (
  all,
  subst (λ n. Session all n (state_of after)) (sym h.2.0) (subst (λ (d : DoorState). Session all (bound before.wires) d) (sym h.0) s),
  sym (append-nil (told_in_all all)),
  sym (append-nil (answers_of all)) ∙ ap (λ l. answers_of all ++ l) (sym h.1),
  λ lane. sym (append-nil (replies_on lane all)),
)
one-call bound faults all (door.failed (door.to_say what) error.Failed) before after answers s h e = absurd h
one-call bound faults all (door.failed (door.to_hear wait) why) before after answers s h e = absurd (cc e)
one-call bound faults all (door.given (say.Bytes lane bytes text) is_said) before after answers s h e = absurd h
one-call bound faults all (door.given (say.Ask lane place method target upgrade) is_said) before after answers s h e = absurd h
one-call bound faults all (door.sent (say.Reply lane reply) is_said full) before after answers s h e = absurd h
one-call bound faults all (door.sent (say.Shut lane) is_said full) before after answers s h e = absurd h
one-call bound faults all (door.sent (say.Ask lane place method target upgrade) is_said full) before after answers s h e = absurd h

-- ---- all calls

pub both-true : (a b : Bool) → a && b ≡ true → (a ≡ true) × (b ≡ true)
both-true true true e = (refl, refl)
both-true true false e = absurd (cc e)
both-true false b e = absurd (cc e)

-- a session goes on with these calls, and the wires told what they answered in them
abbrev Grows : {W : Type 0} → (W → Option (List Answer)) → (W → ℕ) → List Call → List DoorCall → NetDoor W → NetDoor W → Type 0
Grows trace bound all calls before now =
    (more : List Call) × (answers : List Answer) × Session more (bound now.wires) (state_of now) × (told_in_all more ≡ told_in_all all ++ told_in calls)
    × (answers_of more ≡ answers_of all ++ answers) × Tells (trace before.wires) (trace now.wires) answers
    × ((lane : ℕ) → replies_on lane more ≡ replies_on lane all ++ flat_map (replies_of lane) calls)

all-calls : {W : Type 0} (trace : W → Option (List Answer)) (bound faults : W → ℕ) (calls : List DoorCall) (all : List Call) (before now : NetDoor W) →
    Session all (bound before.wires) (state_of before) → Chain (CallsNet trace bound faults) before calls now → list_all is_steady calls ≡ true → Grows trace bound all calls before now
all-calls {W} trace bound faults [] all before now s h e =
    let here : Grows trace bound all [] before before = (all, [], s, sym (append-nil (told_in_all all)), sym (append-nil (answers_of all)), tells-none (trace before.wires), λ lane. sym (append-nil (replies_on lane all))) in
    subst (λ (d : NetDoor W). Grows trace bound all [] before d) (sym h) here
all-calls {W} trace bound faults (call ∷ calls) all before now s h e =
    let f = both-true (is_steady call) (list_all is_steady calls) e in
    let one = one-call bound faults all call before h.0 h.1.0 s h.1.2 f.0 in
    let rest = all-calls trace bound faults calls one.0 h.0 now one.1 h.2 f.1 in (
      rest.0,
      h.1.0 ++ rest.1,
      rest.2,
      rest.3 ∙ ap (λ l. l ++ told_in calls) one.2 ∙ append_assoc (told_in_all all) (told_of call) (told_in calls),
      rest.4 ∙ ap (λ l. l ++ rest.1) one.3 ∙ append_assoc (answers_of all) h.1.0 rest.1,
      tells-more (trace before.wires) (trace h.0.wires) (trace now.wires) h.1.0 rest.1 h.1.1 rest.5,
      λ lane. rest.6 lane ∙ ap (λ l. l ++ flat_map (replies_of lane) calls) (one.4 lane) ∙ append_assoc (replies_on lane all) (replies_of lane call) (flat_map (replies_of lane) calls),
    )

pub calls-are-a-session : {W : Type 0} (trace : W → Option (List Answer)) (bound faults : W → ℕ) → CallsAreASession (Chain (CallsNet trace bound faults)) trace bound
calls-are-a-session {W} trace bound faults calls start now h e f =
    let k = all-calls trace bound faults calls [] start now e h f in
    (k.0, k.2, k.3, k.6, subst (λ (l : List Answer). Tells (trace start.wires) (trace now.wires) l) (sym k.4) k.5)
