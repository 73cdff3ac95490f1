-- The calls of a dialer, of which none of `next` failed, are a session.
use Rattle.std.proofs.Common.{◌≡◌, ◌+◌, ◌++◌, ◌∷◌, [], ℕ, Bool, true, false, if◌then◌else◌, List, Option, None, Some, refl, sym, ap, ◌∙◌, subst, inl, inr, append_assoc, append-nil, max, option_map, slice_get, unwrap_or}
use Rattle.std.specs.List.{list_all, flat_map}
use Rattle.hw_lanes.specs.declared.http.Method.{Method}
use Rattle.hw_door.specs.declared.error.DoorError.TheVariants as error
use Rattle.hw_door.specs.declared.heard.Address.{Address}
use Rattle.hw_door.specs.declared.heard.Given.TheVariants as say
use Rattle.hw_door.specs.declared.heard.Heard.{Heard}
use Rattle.hw_door.specs.declared.heard.Upgrade.{Upgrade}
use Rattle.hw_door.specs.DoorCalls as door
use Rattle.hw_door.specs.DoorCalls.{DoorCall, Chain}
use Rattle.hw_door.specs.Traffic.{Answer, polled}
use Rattle.hw_net.specs.declared.dialer.NetDialer.{NetDialer}
use Rattle.hw_net.specs.Chains.{SendsAs, Told, gives, hears, sends, is_steady, told_in, told_of}
use Rattle.hw_net.specs.Dialer.{Asks, DialerState, DoesOnWire, GathersThen, HearsDialed, HearsLanes, cleared, dialer_state_of, is_on}
use Rattle.hw_net.specs.DialerCalls.{CallsDialed, MakesDialed}
use Rattle.hw_net.specs.DialerChains.{CallsAreADialerSession, dialed_in, dialed_of, told_by, told_in_all}
use Rattle.hw_net.specs.DialerSessions.{DialerCall, DialerSession, DoesDialed, answers_in, answers_of, asked, cut, does, idle, missed}
use Rattle.hw_net.specs.Door.{DoorState, is_full_at, kept, lane_of, time_to_wait}
use Rattle.hw_net.specs.Flushing.{FlushesDoor, Gathers}
use Rattle.hw_net.specs.LaneNumbers.{lane_on, wire_of}
use Rattle.hw_net.specs.Sessions as session
use Rattle.hw_net.specs.Trace.{Tells}
use Rattle.hw_net.specs.Turn.{Sends, Shuts}
use Rattle.hw_net.proofs.Chaining.{at-lane, both-true, sends-as}
use Rattle.hw_net.proofs.FlushCalls.{Writes, each-writes, written}
use Rattle.hw_net.proofs.Telling.{tells-more, tells-none}

-- a write on a wire
abbrev write : ℕ → List Answer → DialerCall
write wire answers = does 0 (session.wrote wire answers)

writes-tell : (writes : List Writes) (all : List DialerCall) → told_in_all (written write writes ++ all) ≡ told_in_all all
writes-tell [] all = refl
writes-tell (one ∷ writes) all = append-nil (told_in_all (written write writes ++ all)) ∙ writes-tell writes all

writes-dial : (writes : List Writes) (all : List DialerCall) → dialed_in (written write writes ++ all) ≡ dialed_in all
writes-dial [] all = refl
writes-dial (one ∷ writes) all = writes-dial writes all

-- a session goes on with writes, in which the wires answered this
abbrev Flushed : List Address → List DialerCall → ℕ → DialerState → List Answer → Type 0
Flushed addresses all bound after answers =
    (writes : List Writes) × DialerSession addresses (written write writes ++ all) bound after × (answers_of (written write writes ++ all) ≡ answers_of all ++ answers)

flush-calls : (addresses : List Address) (all : List DialerCall) (bound : ℕ) (before : DialerState) (after : DoorState) (answers : List Answer) → DialerSession addresses all bound before → FlushesDoor before.door after answers →
    Flushed addresses all bound (record before { door = after }) answers
flush-calls addresses all bound before after answers s h =
    let k = each-writes (λ calls (d : DoorState). DialerSession addresses calls bound (record before { door = d })) write answers_of (λ wire said calls. refl)
    (λ calls first last wire said t d. (bound, record before { door = first }, t, ((d, refl), refl))) h.flushes.wires all before.door after.lanes answers s h.flushes.writes in
    subst (λ (d : DoorState). Flushed addresses all bound (record before { door = d }) answers) (sym h.others_unchanged) k

-- ---- one call

-- a call of a session that tells this, in which the wires answered this
abbrev Is : List Address → List Told → ℕ → ℕ → DialerState → DialerState → List Answer → List ℕ → Type 0
Is addresses told bound bound_after before after answers dialed =
    (call : DialerCall) × DoesDialed addresses call bound bound_after before after × (told_by call ≡ told) × (answers_in call ≡ answers)
    × ((all : List DialerCall) → dialed_in (call ∷ all) ≡ dialed_in all ++ dialed)

hears-lanes : (addresses : List Address) (bound wait now : ℕ) (before after : DialerState) (turns answers : List Answer) (what : Heard) (failed : List ℕ) → before.failed ≡ failed →
    answers ≡ polled (time_to_wait wait (kept before.door.lanes)) now ∷ turns → what.now ≡ max now before.door.moment → HearsLanes failed what.now (cleared before) after turns what.event →
    Is addresses (hears what ∷ []) bound bound before after answers []
hears-lanes addresses bound wait now before after turns answers what (lane ∷ failed) e all moment h = (
  missed what.now lane answers,
  (wait, now, failed, e, all ∙ ap (λ l. polled (time_to_wait wait (kept before.door.lanes)) now ∷ l) h.1, moment, h.2, refl),
  ap (λ v. hears (record { now = what.now; event = v }) ∷ []) (sym h.0),
  refl,
  λ calls. sym (append-nil (dialed_in calls)),
)
hears-lanes addresses bound wait now before after turns answers what [] e all moment h =
    let trace = h.0 in
    let turned = h.1 in
    let lane = lane_on (lane_of trace) (cleared before).numbers in
    let same : after.door ≡ record turned { moment = what.now } = ap (λ (d : DialerState). d.door) h.4 in (
      does lane (session.heard (record { now = what.now; event = trace }) answers),
      (
        (
          e,
          refl,
          (wait, now, turns, turned, all, moment, h.2, same),
          h.4 ∙ ap (λ (d : DoorState). record (cleared before) { door = d }) (sym same),
        ),
        refl,
      ),
      ap (λ v. hears (record { now = what.now; event = v }) ∷ []) (sym h.3),
      refl,
      λ calls. sym (append-nil (dialed_in calls)),
    )

-- a session goes on with this call, in which the wires answered this
abbrev GoesOn : List Address → List DialerCall → DoorCall → ℕ → DialerState → List Answer → Type 0
GoesOn addresses all call bound after answers =
    (more : List DialerCall) × DialerSession addresses more bound after × (told_in_all more ≡ told_in_all all ++ told_of call) × (answers_of more ≡ answers_of all ++ answers)
    × (dialed_in more ≡ dialed_in all ++ dialed_of call)

goes-on : (addresses : List Address) (all : List DialerCall) (call : DoorCall) (bound bound_after : ℕ) (before after : DialerState) (answers : List Answer) → DialerSession addresses all bound before →
    Is addresses (told_of call) bound bound_after before after answers (dialed_of call) → GoesOn addresses all call bound_after after answers
goes-on addresses all call bound bound_after before after answers s k =
    (k.0 ∷ all, (bound, before, s, k.1), ap (λ l. told_in_all all ++ l) k.2, ap (λ l. answers_of all ++ l) k.3, k.4 all)

heard-goes : (addresses : List Address) (all : List DialerCall) (wait patient gathering gathering_after bound : ℕ) (before after : DialerState) (answers : List Answer) (what : Heard) → DialerSession addresses all bound before →
    GathersThen (λ left mid more. HearsDialed left mid after more what) patient gathering before answers gathering_after → GoesOn addresses all (door.heard wait what) bound after answers
heard-goes addresses all wait patient gathering gathering_after bound before after answers what s h = go h.5 where
  one : (mid : DoorState) → HearsDialed h.1 (record before { door = mid }) after h.3 what → Is addresses (hears what ∷ []) bound bound (record before { door = mid }) after h.3 []
  one mid k = hears-lanes addresses bound h.1 k.now (record before { door = mid }) after k.turns h.3 what before.failed refl k.all k.moment k.hears

  go : Gathers patient gathering before.door h.0 h.2 gathering_after h.1 → GoesOn addresses all (door.heard wait what) bound after answers
  go (inl g) =
      let same : h.3 ≡ answers = sym (h.4 ∙ ap (λ l. l ++ h.3) g.2) in
      subst (λ (l : List Answer). GoesOn addresses all (door.heard wait what) bound after l) same
      (goes-on addresses all (door.heard wait what) bound bound before after h.3 s (one before.door (subst (λ (d : DoorState). HearsDialed h.1 (record before { door = d }) after h.3 what) g.1 h.6)))
  go (inr g) =
      let f = flush-calls addresses all bound before h.0 h.2 s g.0 in
      let k = goes-on addresses (written write f.0 ++ all) (door.heard wait what) bound bound (record before { door = h.0 }) after h.3 f.1 (one h.0 h.6) in (
        k.0,
        k.1,
        k.2 ∙ ap (λ l. l ++ hears what ∷ []) (writes-tell f.0 all),
        k.3 ∙ ap (λ l. l ++ h.3) f.2 ∙ append_assoc (answers_of all) h.2 h.3 ∙ ap (λ l. answers_of all ++ l) (sym h.4),
        k.4 ∙ ap (λ l. l ++ []) (writes-dial f.0 all),
      )

asked-goes : (addresses : List Address) (all : List DialerCall) (lane place : ℕ) (method : Method) (target : List ℕ) (upgrade : Option Upgrade) (is_said : Bool) (bound bound_after : ℕ) (before after : DialerState) (answers : List Answer) →
    DialerSession addresses all bound before → lane ≡ before.last + 1 → Asks (slice_get addresses place) method target upgrade is_said bound bound_after before after answers →
    GoesOn addresses all (door.given (say.Ask lane place method target upgrade) is_said) bound_after after answers
asked-goes addresses all lane place method target upgrade is_said bound bound_after before after answers s e h =
    goes-on addresses all (door.given (say.Ask lane place method target upgrade) is_said) bound bound_after before after answers s (
      asked (record { lane = lane; place = place; method = method; target = target; upgrade = upgrade }) h.0 answers,
      (e, h.1, h.3, h.4),
      refl,
      refl,
      λ calls. ap (λ b. dialed_in calls ++ (if b then lane ∷ [] else [])) (sym h.2),
    )

-- the state is as it was, but for nothing
unchanged : (before after : DialerState) → after.door ≡ before.door → after ≡ record before { door = after.door } → after ≡ before
unchanged before after d e = e ∙ ap (λ (s : DoorState). record before { door = s }) d

shut-goes : (addresses : List Address) (all : List DialerCall) (lane : ℕ) (is_said : Bool) (bound : ℕ) (before after : DialerState) (answers : List Answer) → DialerSession addresses all bound before → (wire : Option ℕ) →
    wire_of lane before.numbers ≡ wire → DoesOnWire wire (Shuts before.door.moment) before.door after.door answers → after ≡ record before { door = after.door } →
    GoesOn addresses all (door.given (say.Shut lane) is_said) bound after answers
shut-goes addresses all lane is_said bound before after answers s None none h e =
    goes-on addresses all (door.given (say.Shut lane) is_said) bound bound before after answers s
    (idle (gives (say.Shut lane)), (none, unchanged before after h.0 e, refl), refl, sym h.1, λ calls. sym (append-nil (dialed_in calls)))
shut-goes addresses all lane is_said bound before after answers s (Some wire) on h e =
    goes-on addresses all (door.given (say.Shut lane) is_said) bound bound before after answers s
    (does lane (session.shut wire answers), ((on, h, e), refl), refl, refl, λ calls. sym (append-nil (dialed_in calls)))

sent-goes : (addresses : List Address) (all : List DialerCall) (lane : ℕ) (bytes : List ℕ) (text is_said full : Bool) (bound : ℕ) (before after : DialerState) (answers : List Answer) → DialerSession addresses all bound before → (wire : Option ℕ) →
    wire_of lane before.numbers ≡ wire → DoesOnWire wire (SendsAs is_said before.door.moment bytes text) before.door after.door answers → after ≡ record before { door = after.door } →
    full ≡ is_on is_full_at lane after → GoesOn addresses all (door.sent (say.Bytes lane bytes text) is_said full) bound after answers
sent-goes addresses all lane bytes text is_said full bound before after answers s wire on h e f = go wire on h where
  full-on : (o : Option ℕ) → wire_of lane before.numbers ≡ o → full ≡ unwrap_or (option_map (λ w. is_full_at w after.door.lanes) o) false
  full-on o g = f ∙ ap (λ (d : DialerState). unwrap_or (option_map (λ w. is_full_at w after.door.lanes) (wire_of lane d.numbers)) false) e
      ∙ ap (λ p. unwrap_or (option_map (λ w. is_full_at w after.door.lanes) p) false) g

  go : (o : Option ℕ) → wire_of lane before.numbers ≡ o → DoesOnWire o (SendsAs is_said before.door.moment bytes text) before.door after.door answers →
      GoesOn addresses all (door.sent (say.Bytes lane bytes text) is_said full) bound after answers
  go None none h =
      goes-on addresses all (door.sent (say.Bytes lane bytes text) is_said full) bound bound before after answers s
      (idle (sends (say.Bytes lane bytes text) full), ((none, full-on None none), unchanged before after h.0 e, refl), refl, sym h.1, λ calls. sym (append-nil (dialed_in calls)))
  go (Some w) there h =
      let at = at-lane w (SendsAs is_said before.door.moment bytes text) (Sends before.door.moment bytes text) (sends-as is_said before.door.moment bytes text) before.door.lanes after.door.lanes answers h.0 in
      goes-on addresses all (door.sent (say.Bytes lane bytes text) is_said full) bound bound before after answers s
      (does lane (session.sent w bytes text full answers), ((there, (at, h.1, h.2, h.3), full-on (Some w) there, e), refl), refl, refl, λ calls. sym (append-nil (dialed_in calls)))

-- a call that did nothing
nothing-goes : (addresses : List Address) (all : List DialerCall) (call : DoorCall) (bound bound_after : ℕ) (before after : DialerState) (answers : List Answer) → DialerSession addresses all bound before → told_of call ≡ [] →
    dialed_of call ≡ [] → after ≡ before → answers ≡ [] → bound_after ≡ bound → GoesOn addresses all call bound_after after answers
nothing-goes addresses all call bound bound_after before after answers s told dialed e none same = (
  all,
  subst (λ n. DialerSession addresses all n after) (sym same) (subst (λ (d : DialerState). DialerSession addresses all bound d) (sym e) s),
  sym (append-nil (told_in_all all)) ∙ ap (λ l. told_in_all all ++ l) (sym told),
  sym (append-nil (answers_of all)) ∙ ap (λ l. answers_of all ++ l) (sym none),
  sym (append-nil (dialed_in all)) ∙ ap (λ l. dialed_in all ++ l) (sym dialed),
)

one-call : {W : Type 0} (bound faults : W → ℕ) (addresses : List Address) (all : List DialerCall) (call : DoorCall) (before after : NetDialer W) (answers : List Answer) → before.addresses ≡ addresses →
    DialerSession addresses all (bound before.reactor.wires) (dialer_state_of before) → MakesDialed bound faults call before after answers → is_steady call ≡ true →
    GoesOn addresses all call (bound after.reactor.wires) (dialer_state_of after) answers
one-call bound faults addresses all (door.heard wait what) before after answers place s h e =
    subst (λ n. GoesOn addresses all (door.heard wait what) n (dialer_state_of after) answers) (sym h.1)
    (heard-goes addresses all wait _ before.reactor.gathering after.reactor.gathering (bound before.reactor.wires) (dialer_state_of before) (dialer_state_of after) answers what s h.0)
one-call bound faults addresses all (door.given (say.Ask lane place method target upgrade) is_said) before after answers same s h e =
    asked-goes addresses all lane place method target upgrade is_said (bound before.reactor.wires) (bound after.reactor.wires) (dialer_state_of before) (dialer_state_of after) answers s h.0
    (subst (λ (l : List Address). Asks (slice_get l place) method target upgrade is_said (bound before.reactor.wires) (bound after.reactor.wires) (dialer_state_of before) (dialer_state_of after) answers) same h.1)
one-call bound faults addresses all (door.given (say.Shut lane) is_said) before after answers place s h e =
    subst (λ n. GoesOn addresses all (door.given (say.Shut lane) is_said) n (dialer_state_of after) answers) (sym h.2.0)
    (shut-goes addresses all lane is_said (bound before.reactor.wires) (dialer_state_of before) (dialer_state_of after) answers s (wire_of lane before.numbers) refl h.1.0 h.1.1)
one-call bound faults addresses all (door.sent (say.Bytes lane bytes text) is_said full) before after answers place s h e =
    subst (λ n. GoesOn addresses all (door.sent (say.Bytes lane bytes text) is_said full) n (dialer_state_of after) answers) (sym h.3.0)
    (sent-goes addresses all lane bytes text is_said full (bound before.reactor.wires) (dialer_state_of before) (dialer_state_of after) answers s (wire_of lane before.numbers) refl h.1.0 h.1.1 h.2)
one-call bound faults addresses all door.flushed before after answers place s h e =
    let f = flush-calls addresses all (bound before.reactor.wires) (dialer_state_of before) (dialer_state_of after).door answers s h.0 in (
      written write f.0 ++ all,
      subst (λ n. DialerSession addresses (written write f.0 ++ all) n (dialer_state_of after)) (sym h.2)
          (subst (λ (d : DialerState). DialerSession addresses (written write f.0 ++ all) (bound before.reactor.wires) d) (sym h.1) f.1),
      writes-tell f.0 all ∙ sym (append-nil (told_in_all all)),
      f.2,
      writes-dial f.0 all ∙ sym (append-nil (dialed_in all)),
    )
one-call bound faults addresses all (door.failed (door.to_say (say.Ask lane place method target upgrade)) error.NoMemory) before after answers same s h e =
    goes-on addresses all (door.failed (door.to_say (say.Ask lane place method target upgrade)) error.NoMemory) (bound before.reactor.wires) (bound after.reactor.wires) (dialer_state_of before) (dialer_state_of after) answers s
    (cut answers, (h.1, h.0), refl, refl, λ calls. sym (append-nil (dialed_in calls)))
one-call bound faults addresses all (door.failed (door.to_say (say.Shut lane)) error.NoMemory) before after answers place s h e =
    nothing-goes addresses all (door.failed (door.to_say (say.Shut lane)) error.NoMemory) (bound before.reactor.wires) (bound after.reactor.wires) (dialer_state_of before) (dialer_state_of after) answers s refl refl h.0 h.1 h.2.0
one-call bound faults addresses all (door.failed (door.to_say (say.Bytes lane bytes text)) error.NoMemory) before after answers place s h e =
    nothing-goes addresses all (door.failed (door.to_say (say.Bytes lane bytes text)) error.NoMemory) (bound before.reactor.wires) (bound after.reactor.wires) (dialer_state_of before) (dialer_state_of after) answers s refl refl h.0 h.1 h.2.0
one-call bound faults addresses all (door.failed (door.to_say (say.Reply lane reply)) error.NoMemory) before after answers place s h e =
    nothing-goes addresses all (door.failed (door.to_say (say.Reply lane reply)) error.NoMemory) (bound before.reactor.wires) (bound after.reactor.wires) (dialer_state_of before) (dialer_state_of after) answers s refl refl h.0 h.1 h.2.0
one-call bound faults addresses all (door.failed (door.to_say (say.Ask lane place method target upgrade)) error.Failed) before after answers same s h e = absurd h
one-call bound faults addresses all (door.failed (door.to_say (say.Shut lane)) error.Failed) before after answers place s h e = absurd h
one-call bound faults addresses all (door.failed (door.to_say (say.Bytes lane bytes text)) error.Failed) before after answers place s h e = absurd h
one-call bound faults addresses all (door.failed (door.to_say (say.Reply lane reply)) error.Failed) before after answers place s h e = absurd h
one-call bound faults addresses all (door.failed (door.to_hear wait) why) before after answers place s h e = absurd (cc e)
one-call bound faults addresses all (door.given (say.Bytes lane bytes text) is_said) before after answers place s h e = absurd h
one-call bound faults addresses all (door.given (say.Reply lane reply) is_said) before after answers place s h e = absurd h
one-call bound faults addresses all (door.sent (say.Reply lane reply) is_said full) before after answers place s h e = absurd h
one-call bound faults addresses all (door.sent (say.Shut lane) is_said full) before after answers place s h e = absurd h
one-call bound faults addresses all (door.sent (say.Ask lane place method target upgrade) is_said full) before after answers same s h e = absurd h

-- ---- all calls

-- a session goes on with these calls, and the wires told what they answered in them
abbrev Grows : {W : Type 0} → (W → Option (List Answer)) → (W → ℕ) → List Address → List DialerCall → List DoorCall → NetDialer W → NetDialer W → Type 0
Grows trace bound addresses all calls before now =
    (more : List DialerCall) × (answers : List Answer) × DialerSession addresses more (bound now.reactor.wires) (dialer_state_of now) × (told_in_all more ≡ told_in_all all ++ told_in calls)
    × (answers_of more ≡ answers_of all ++ answers) × Tells (trace before.reactor.wires) (trace now.reactor.wires) answers × (dialed_in more ≡ dialed_in all ++ flat_map dialed_of calls)

all-calls : {W : Type 0} (trace : W → Option (List Answer)) (bound faults : W → ℕ) (addresses : List Address) (calls : List DoorCall) (all : List DialerCall) (before now : NetDialer W) → before.addresses ≡ addresses →
    DialerSession addresses all (bound before.reactor.wires) (dialer_state_of before) → Chain (CallsDialed trace bound faults) before calls now → list_all is_steady calls ≡ true → Grows trace bound addresses all calls before now
all-calls {W} trace bound faults addresses [] all before now same s h e =
    let here : Grows trace bound addresses all [] before before = (
      all,
      [],
      s,
      sym (append-nil (told_in_all all)),
      sym (append-nil (answers_of all)),
      tells-none (trace before.reactor.wires),
      sym (append-nil (dialed_in all)),
    ) in
    subst (λ (d : NetDialer W). Grows trace bound addresses all [] before d) (sym h) here
all-calls {W} trace bound faults addresses (call ∷ calls) all before now same s h e =
    let f = both-true (is_steady call) (list_all is_steady calls) e in
    let one = one-call bound faults addresses all call before h.0 h.1.0 same s h.1.3 f.0 in
    let rest = all-calls trace bound faults addresses calls one.0 h.0 now (h.1.2 ∙ same) one.1 h.2 f.1 in (
      rest.0,
      h.1.0 ++ rest.1,
      rest.2,
      rest.3 ∙ ap (λ l. l ++ told_in calls) one.2 ∙ append_assoc (told_in_all all) (told_of call) (told_in calls),
      rest.4 ∙ ap (λ l. l ++ rest.1) one.3 ∙ append_assoc (answers_of all) h.1.0 rest.1,
      tells-more (trace before.reactor.wires) (trace h.0.reactor.wires) (trace now.reactor.wires) h.1.0 rest.1 h.1.1 rest.5,
      rest.6 ∙ ap (λ l. l ++ flat_map dialed_of calls) one.4 ∙ append_assoc (dialed_in all) (dialed_of call) (flat_map dialed_of calls),
    )

pub calls-are-a-dialer-session : {W : Type 0} (trace : W → Option (List Answer)) (bound faults : W → ℕ) → CallsAreADialerSession (Chain (CallsDialed trace bound faults)) trace bound
calls-are-a-dialer-session {W} trace bound faults calls start now h e steady =
    let k = all-calls trace bound faults start.addresses calls [] start now refl e h steady in
    (k.0, k.2, k.3, k.6, subst (λ (l : List Answer). Tells (trace start.reactor.wires) (trace now.reactor.wires) l) (sym k.4) k.5)
