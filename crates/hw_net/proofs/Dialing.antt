-- The calls of a dialer over wires, put together from their parts.
use Rattle.std.proofs.Common.{◌≡◌, ◌≤◌, ◌<◌, ◌+◌, ◌++◌, ◌∷◌, [], ℕ, zero, suc, Bool, true, false, List, Option, None, Some, is_some, is_err, Result, Ok, Err, IfOk, IfErr, OnOk, OnErr, refl, sym, ap, ◌∙◌, subst, inl, inr, arith, length, max, get_or, remove}
use Rattle.std.specs.Prelude.{option_map, slice_get, unwrap_or}
use Rattle.hd_facts.specs.Counts.{Rose}
use Rattle.hw_lanes.specs.declared.http.Method.{Method}
use Rattle.hw_door.specs.declared.error.DoorError.{DoorError}
use Rattle.hw_door.specs.declared.error.DoorError.TheVariants.{Failed, NoMemory}
use Rattle.hw_door.specs.declared.heard.Address.{Address}
use Rattle.hw_door.specs.declared.heard.Event.{Event}
use Rattle.hw_door.specs.declared.heard.Event.TheVariants as event
use Rattle.hw_door.specs.declared.heard.Given.TheVariants as say
use Rattle.hw_door.specs.declared.heard.Heard.{Heard}
use Rattle.hw_door.specs.declared.heard.Upgrade.{Upgrade}
use Rattle.hw_door.specs.Calls.{Adds}
use Rattle.hw_door.specs.DoorCalls as door
use Rattle.hw_door.specs.DoorCalls.{Chain, asked_call, flushed, given_call, heard_call, sent_call, to_say}
use Rattle.hw_door.specs.Traffic.{Answer, IsNewWire, connected, connect_failed, polled, poll_failed, was_shut}
use Rattle.hw_net.specs.declared.dialer.NetDialer.{NetDialer}
use Rattle.hw_net.specs.declared.numbers.LaneWire.{LaneWire}
use Rattle.hw_net.specs.Asking.{text_at}
use Rattle.hw_net.specs.Chains.{SendsAs, is_live_at, is_there}
use Rattle.hw_net.specs.Dialer.{Dials, DialerState, DoesOn, DoesOnWire, FailsDialed, GathersThen, HaltsDialed, HaltsLanes, HearsDialed, HearsLanes, IsCutShort, IsUndialed, Reaches, ThenFlushes, WritesLong, after_dial, cleared, dialer_state_of, is_on, patience, with_dialed}
use Rattle.hw_net.specs.DialerCalls.{CallsDialed}
use Rattle.hw_net.specs.Door.{DoesAt, DoorState, HearsTurns, is_full_at, kept, state_of, time_to_wait}
use Rattle.hw_net.specs.Flushing.{FlushesDoor, Gathers}
use Rattle.hw_net.specs.Lane.{Lane}
use Rattle.hw_net.specs.LaneNumbers.{on_lane, still_there, wire_of}
use Rattle.hw_net.specs.Saying.{is_too_much}
use Rattle.hw_net.specs.Trace.{Tells, Chooses}
use Rattle.hw_net.specs.Turn.{Sends, Shuts}
use Rattle.hw_net.proofs.Goings.{put-or-not}
use Rattle.hw_net.proofs.Telling.{adds-tells, tells-none, tells-more}

-- what is told of a part of a call, and what it does
abbrev Told : Option (List Answer) → Option (List Answer) → (List Answer → Type 0) → Type 0
Told before now Does = (answers : List Answer) × Tells before now answers × Does answers

-- ---- a connection for an ask

pub dials-on : (r : Result (Option ℕ) DoorError) (a b c : Option (List Answer)) (text : List ℕ) (upgrade : Option Upgrade) (wire : ℕ) (before after : DoorState) → Adds a b (connected wire) → IfOk r (λ answer. answer ≡ Some wire) →
    OnOk r (Told b c (λ answers. WritesLong (length text) (Some wire) (with_dialed before.moment text upgrade (Some wire) before.lanes) after.lanes answers)) → after ≡ record before { lanes = after.lanes } →
    IfOk r (λ answer. Told a c (λ answers. Dials text upgrade answer before after answers))
dials-on (Ok answer) a b c text upgrade wire before after t e h same =
    subst (λ w. Told a c (λ answers. Dials text upgrade w before after answers)) (sym e) (connected wire ∷ h.0, tells-more a b c (connected wire ∷ []) h.0 (adds-tells a b (connected wire) t) h.1, (h.0, refl, h.2, same))
dials-on (Err why) a b c text upgrade wire before after t e h same = e

pub cut-on : {T : Type 0} (r : Result T DoorError) (a b c : Option (List Answer)) (wire bound bound_after : ℕ) → bound ≤ wire → wire + 1 ≤ bound_after → Adds a b (connected wire) → OnErr r (Tells b c (was_shut wire ∷ [])) →
    OnErr r (Told a c (λ answers. IsCutShort bound bound_after answers))
cut-on (Ok answer) a b c wire bound bound_after first next t h = h
cut-on (Err why) a b c wire bound bound_after first next t h =
    (connected wire ∷ was_shut wire ∷ [], tells-more a b c (connected wire ∷ []) (was_shut wire ∷ []) (adds-tells a b (connected wire) t) h, inr (wire, refl, (first, next)))

pub dials-nowhere : (a b : Option (List Answer)) (text : List ℕ) (upgrade : Option Upgrade) (before after : DoorState) → Adds a b connect_failed → after ≡ before → Told a b (λ answers. Dials text upgrade None before after answers)
dials-nowhere a b text upgrade before after t same =
    (connect_failed ∷ [], adds-tells a b connect_failed t, ([], refl, (ap (λ (d : DoorState). d.lanes) same, refl), subst (λ (d : DoorState). d ≡ record before { lanes = d.lanes }) (sym same) refl))

-- ---- the address of a place

pub past-end : {A : Type 0} (all : List A) (place : ℕ) → length all ≤ place → slice_get all place ≡ None
past-end [] place le = refl
past-end (x ∷ xs) zero le = absurd (omega (arith, le))
past-end (x ∷ xs) (suc place) le = past-end xs place (omega (arith, le))

pub at-place : {A : Type 0} (all : List A) (place : ℕ) (d : A) → place < length all → slice_get all place ≡ Some (get_or all place d)
at-place [] place d lt = absurd (omega (arith, lt))
at-place (x ∷ xs) zero d lt = refl
at-place (x ∷ xs) (suc place) d lt = at-place xs place d (omega (arith, lt))

pub reaches-nowhere : (a : Option (List Answer)) (address : Option Address) (method : Method) (target : List ℕ) (upgrade : Option Upgrade) (state : DoorState) → address ≡ None →
    Told a a (λ answers. Reaches address method target upgrade None state state answers)
reaches-nowhere a address method target upgrade state e =
    ([], tells-none a, subst (λ (o : Option Address). Reaches o method target upgrade None state state []) (sym e) (refl, refl, refl))

pub reaches-no-room : (a : Option (List Answer)) (address : Option Address) (there : Address) (method : Method) (target : List ℕ) (upgrade : Option Upgrade) (state : DoorState) → address ≡ Some there →
    is_too_much (length (text_at there method target upgrade)) ≡ true → Told a a (λ answers. Reaches address method target upgrade None state state answers)
reaches-no-room a address there method target upgrade state e much =
    let text = text_at there method target upgrade in
    ([], tells-none a, subst (λ (o : Option Address). Reaches o method target upgrade None state state []) (sym e) (subst (λ b. Chooses b (IsUndialed None state state []) (Dials text upgrade None state state [])) (sym much) (refl, refl, refl)))

pub reaches-on : (r : Result (Option ℕ) DoorError) (a b : Option (List Answer)) (address : Option Address) (there : Address) (method : Method) (target text : List ℕ) (upgrade : Option Upgrade) (before after : DoorState) → address ≡ Some there →
    text ≡ text_at there method target upgrade → is_too_much (length text) ≡ false → IfOk r (λ wire. Told a b (λ answers. Dials text upgrade wire before after answers)) →
    IfOk r (λ wire. Told a b (λ answers. Reaches address method target upgrade wire before after answers))
reaches-on (Ok wire) a b address there method target text upgrade before after e same fits h =
    let own = text_at there method target upgrade in (
      h.0,
      h.1,
      subst (λ (o : Option Address). Reaches o method target upgrade wire before after h.0) (sym e)
          (subst (λ b. Chooses b (IsUndialed wire before after h.0) (Dials own upgrade wire before after h.0)) (sym (ap (λ (t : List ℕ). is_too_much (length t)) (sym same) ∙ fits))
          (subst (λ (t : List ℕ). Dials t upgrade wire before after h.0) same h.2)),
    )
reaches-on (Err why) a b address there method target text upgrade before after e same fits h = h

-- ---- a call that asks

pub asked-goes : {W : Type 0} (trace : W → Option (List Answer)) (bound faults : W → ℕ) (place lane : ℕ) (method : Method) (target : List ℕ) (upgrade : Option Upgrade) (wire : Option ℕ) (old new : NetDialer W) → lane ≡ old.last + 1 →
    Told (trace old.reactor.wires) (trace new.reactor.wires) (λ answers. Reaches (slice_get old.addresses place) method target upgrade wire (state_of old.reactor) (state_of new.reactor) answers) →
    IsNewWire (bound old.reactor.wires) (bound new.reactor.wires) wire → dialer_state_of new ≡ after_dial wire (record (dialer_state_of old) { door = state_of new.reactor }) → new.addresses ≡ old.addresses →
    new.reactor.gathering ≡ old.reactor.gathering →
    (is_said : Bool) × (unanswered : ℕ) × Chain (CallsDialed trace bound faults) old (asked_call place method target upgrade unanswered is_said (Ok lane) ∷ []) new
asked-goes trace bound faults place lane method target upgrade wire old new e h fresh after addresses gathering =
    (is_some wire, 0, (new, (h.0, h.1, addresses, (e, (wire, h.2, refl, fresh, after), gathering)), refl))

-- a state, by its parts
state-parts : (before : DialerState) (door : DoorState) (numbers : List LaneWire) (unheard : List ℕ) (last : ℕ) → numbers ≡ before.numbers → unheard ≡ before.failed → last ≡ before.last →
    record { door = door; numbers = numbers; failed = unheard; last = last } ≡ record before { door = door }
state-parts before door numbers unheard last en ef el =
    ap (λ (n : List LaneWire). with_parts n unheard last) en ∙ ap (λ (f : List ℕ). with_parts before.numbers f last) ef ∙ ap (λ l. with_parts before.numbers before.failed l) el where
      with_parts : List LaneWire → List ℕ → ℕ → DialerState
      with_parts n f l = record { door = door; numbers = n; failed = f; last = l }

-- its lane stands on a wire, or on none
pub dialed-state : {W : Type 0} (wire : ℕ) (old new : NetDialer W) → new.numbers ≡ old.numbers ++ (record { lane = old.last + 1; wire = wire }) ∷ [] → new.failed ≡ old.failed → new.last ≡ old.last + 1 →
    dialer_state_of new ≡ after_dial (Some wire) (record (dialer_state_of old) { door = state_of new.reactor })
dialed-state wire old new en ef el = state-parts (after_dial (Some wire) (record (dialer_state_of old) { door = state_of new.reactor })) (state_of new.reactor) new.numbers new.failed new.last en ef el

pub failed-state : {W : Type 0} (old new : NetDialer W) → new.numbers ≡ old.numbers → new.failed ≡ old.failed ++ (old.last + 1) ∷ [] → new.last ≡ old.last + 1 →
    dialer_state_of new ≡ after_dial None (record (dialer_state_of old) { door = state_of new.reactor })
failed-state old new en ef el = state-parts (after_dial None (record (dialer_state_of old) { door = state_of new.reactor })) (state_of new.reactor) new.numbers new.failed new.last en ef el

pub same-state : {W : Type 0} (old new : NetDialer W) → state_of new.reactor ≡ state_of old.reactor → new.numbers ≡ old.numbers → new.failed ≡ old.failed → new.last ≡ old.last → dialer_state_of new ≡ dialer_state_of old
same-state old new ed en ef el = state-parts (dialer_state_of old) (state_of new.reactor) new.numbers new.failed new.last en ef el ∙ ap (λ (d : DoorState). record (dialer_state_of old) { door = d }) ed

pub unasked-goes : {W : Type 0} (trace : W → Option (List Answer)) (bound faults : W → ℕ) (place : ℕ) (method : Method) (target : List ℕ) (upgrade : Option Upgrade) (r : Result ℕ DoorError) (old new : NetDialer W) → r ≡ Err NoMemory →
    Told (trace old.reactor.wires) (trace new.reactor.wires) (λ answers. IsCutShort (bound old.reactor.wires) (bound new.reactor.wires) answers) → dialer_state_of new ≡ dialer_state_of old → new.addresses ≡ old.addresses →
    new.reactor.gathering ≡ old.reactor.gathering →
    (is_said : Bool) × (unanswered : ℕ) × Chain (CallsDialed trace bound faults) old (asked_call place method target upgrade unanswered is_said r ∷ []) new
unasked-goes trace bound faults place method target upgrade (Ok lane) old new e h same addresses gathering = absurd (cc e)
unasked-goes trace bound faults place method target upgrade (Err Failed) old new e h same addresses gathering = absurd (cc e)
unasked-goes trace bound faults place method target upgrade (Err NoMemory) old new e h same addresses gathering = (false, 0, (new, (h.0, h.1, addresses, (same, h.2, gathering)), refl))

-- an ask for which nothing was begun
pub nothing-told : (a : Option (List Answer)) (bound : ℕ) → Told a a (λ answers. IsCutShort bound bound answers)
nothing-told a bound = ([], tells-none a, inl (refl, refl))

-- ---- what is heard

-- a state, by its parts
abbrev the_state : List Lane → ℕ → ℕ → ℕ → List LaneWire → List ℕ → ℕ → DialerState
the_state lanes from named moment numbers failed last = record { door = record { lanes = lanes; from = from; named = named; moment = moment }; numbers = numbers; failed = failed; last = last }

pub state-is : (l l' : List Lane) (f f' k k' m m' : ℕ) (n n' : List LaneWire) (unheard : List ℕ) (last : ℕ) → l ≡ l' → f ≡ f' → k ≡ k' → m ≡ m' → n ≡ n' → the_state l f k m n unheard last ≡ the_state l' f' k' m' n' unheard last
state-is l l' f f' k k' m m' n n' unheard last el ef ek em en =
    ap (λ (x : List Lane). the_state x f k m n unheard last) el ∙ ap (λ x. the_state l' x k m n unheard last) ef ∙ ap (λ x. the_state l' f' x m n unheard last) ek
    ∙ ap (λ x. the_state l' f' k' x n unheard last) em ∙ ap (λ (x : List LaneWire). the_state l' f' k' m' x unheard last) en

pub cleared-same : (lanes : List Lane) (from named moment : ℕ) (numbers : List LaneWire) (failed : List ℕ) (last : ℕ) → kept lanes ≡ lanes → still_there lanes numbers ≡ numbers →
    the_state lanes from named moment numbers failed last ≡ cleared (the_state lanes from named moment numbers failed last)
cleared-same lanes from named moment numbers failed last e f =
    state-is lanes (kept lanes) from from named named moment moment numbers (still_there (kept lanes) numbers) failed last (sym e) refl refl refl (sym (ap (λ (l : List Lane). still_there l numbers) e ∙ f))

-- the loss of the lane whose ask failed first
pub hears-failed : (a : Option (List Answer)) (failed rest : List ℕ) (lane now : ℕ) (before after : DialerState) → failed ≡ lane ∷ rest → after ≡ record before { door = record before.door { moment = now }; failed = rest } →
    Told a a (λ answers. HearsLanes failed now before after answers (event.Lost lane))
hears-failed a failed rest lane now before after e same = ([], tells-none a, subst (λ (f : List ℕ). HearsLanes f now before after [] (event.Lost lane)) (sym e) (refl, refl, same))

pub first-of : (all rest : List ℕ) (first d : ℕ) → 0 < length all → first ≡ get_or all 0 d → rest ≡ remove all 0 → all ≡ first ∷ rest
first-of [] rest first d lt e f = absurd (omega (arith, lt))
first-of (x ∷ xs) rest first d lt e f = ap (λ n. n ∷ xs) (sym e) ∙ ap (λ l. first ∷ l) (sym f)

pub none-of : (all : List ℕ) → length all ≡ 0 → all ≡ []
none-of [] e = refl
none-of (x ∷ xs) e = absurd (omega (arith, e))

-- or what the turns of the lanes come to
pub hears-turned : (a b : Option (List Answer)) (failed : List ℕ) (now : ℕ) (before after : DialerState) (turned : DoorState) (trace heard : Event) → failed ≡ [] → Told a b (λ answers. HearsTurns now before.door turned answers trace) →
    heard ≡ on_lane before.numbers trace → after ≡ record before { door = record turned { moment = now } } → Told a b (λ answers. HearsLanes failed now before after answers heard)
hears-turned a b failed now before after turned trace heard e h on same = (h.0, h.1, subst (λ (f : List ℕ). HearsLanes f now before after h.0 heard) (sym e) (trace, turned, h.2, on, same))

pub hears-dialed : (a b d : Option (List Answer)) (wait now : ℕ) (before mid turned after : DialerState) (heard : Event) → mid ≡ cleared before → turned ≡ mid →
    ((moment : ℕ) × Tells a b (polled (time_to_wait wait mid.door.lanes) moment ∷ []) × (now ≡ max moment mid.door.moment)) → Told b d (λ answers. HearsLanes turned.failed now turned after answers heard) →
    Told a d (λ answers. HearsDialed wait before after answers (record { now = now; event = heard }))
hears-dialed a b d wait now before mid turned after heard same still p h =
    let told : Tells a b (polled (time_to_wait wait (kept before.door.lanes)) p.0 ∷ []) = subst (λ (m : DialerState). Tells a b (polled (time_to_wait wait m.door.lanes) p.0 ∷ [])) same p.1 in
    let moment : now ≡ max p.0 before.door.moment = subst (λ (m : DialerState). now ≡ max p.0 m.door.moment) same p.2 in (
      polled (time_to_wait wait (kept before.door.lanes)) p.0 ∷ h.0,
      tells-more a b d (polled (time_to_wait wait (kept before.door.lanes)) p.0 ∷ []) h.0 told h.1,
      record { now = p.0; turns = h.0; all = refl; moment = moment; hears = subst (λ (m : DialerState). HearsLanes m.failed now m after h.0 heard) (still ∙ same) h.2 },
    )

pub fails-dialed : (a b : Option (List Answer)) (wait : ℕ) (before mid after : DialerState) → mid ≡ cleared before → after ≡ mid → Tells a b (poll_failed (time_to_wait wait mid.door.lanes) ∷ []) →
    Told a b (λ answers. FailsDialed wait before after answers)
fails-dialed a b wait before mid after same e told =
    (poll_failed (time_to_wait wait (kept before.door.lanes)) ∷ [], subst (λ (m : DialerState). Tells a b (poll_failed (time_to_wait wait m.door.lanes) ∷ [])) same told, (refl, e ∙ same))

pub halts-dialed : (a b d : Option (List Answer)) (wait now : ℕ) (before mid turned after : DialerState) → mid ≡ cleared before → turned ≡ mid →
    ((moment : ℕ) × Tells a b (polled (time_to_wait wait mid.door.lanes) moment ∷ []) × (now ≡ max moment mid.door.moment)) → Told b d (λ answers. HaltsLanes now turned after answers) →
    Told a d (λ answers. HaltsDialed wait before after answers)
halts-dialed a b d wait now before mid turned after same still p h =
    let told : Tells a b (polled (time_to_wait wait (kept before.door.lanes)) p.0 ∷ []) = subst (λ (m : DialerState). Tells a b (polled (time_to_wait wait m.door.lanes) p.0 ∷ [])) same p.1 in
    let moment : now ≡ max p.0 before.door.moment = subst (λ (m : DialerState). now ≡ max p.0 m.door.moment) same p.2 in (
      polled (time_to_wait wait (kept before.door.lanes)) p.0 ∷ h.0,
      tells-more a b d (polled (time_to_wait wait (kept before.door.lanes)) p.0 ∷ []) h.0 told h.1,
      record { now = p.0; turns = h.0; all = refl; halts = subst (λ n. HaltsLanes n (cleared before) after h.0) moment (subst (λ (m : DialerState). HaltsLanes now m after h.0) (still ∙ same) h.2) },
    )

-- ---- a call of `next`

pub gathers-hears : (r : Result Heard DoorError) (a b c : Option (List Answer)) (wait wait_after gathering gathering_after : ℕ) (before after : DialerState) (mid : DoorState) →
    Told a b (λ answers. Gathers wait gathering before.door mid answers gathering_after wait_after) → IfOk r (λ heard. Told b c (λ answers. HearsDialed wait_after (record before { door = mid }) after answers heard)) →
    IfOk r (λ heard. Told a c (λ answers. GathersThen (λ left cur more. HearsDialed left cur after more heard) wait gathering before answers gathering_after))
gathers-hears (Err why) a b c wait wait_after gathering gathering_after before after mid g h = h
gathers-hears (Ok heard) a b c wait wait_after gathering gathering_after before after mid g h =
    (g.0 ++ h.0, tells-more a b c g.0 h.0 g.1 h.1, (mid, wait_after, g.0, h.0, refl, g.2, h.2))

pub gathers-ends : (Does : ℕ → DialerState → DialerState → List Answer → Type 0) (a b c d : Option (List Answer)) (wait wait_after gathering gathering_after : ℕ) (before done after : DialerState) (mid : DoorState) →
    Told a b (λ answers. Gathers wait gathering before.door mid answers gathering_after wait_after) → Told b c (λ answers. Does wait_after (record before { door = mid }) done answers) →
    Told c d (λ answers. FlushesDoor done.door after.door answers) → after ≡ record done { door = after.door } → Told a d (λ answers. (gathered : ℕ) × GathersThen (ThenFlushes Does after) wait gathering before answers gathered)
gathers-ends Does a b c d wait wait_after gathering gathering_after before done after mid g f w same = (
  g.0 ++ (f.0 ++ w.0),
  tells-more a b d g.0 (f.0 ++ w.0) g.1 (tells-more b c d f.0 w.0 f.1 w.1),
  (gathering_after, (mid, wait_after, g.0, f.0 ++ w.0, refl, g.2, (done, f.0, w.0, refl, f.2, w.2, same))),
)

pub heard-goes : {W : Type 0} (trace : W → Option (List Answer)) (bound faults : W → ℕ) (wait : ℕ) (r : Result Heard DoorError) (old new : NetDialer W) → is_err r ≡ false →
    IfOk r (λ what. Told (trace old.reactor.wires) (trace new.reactor.wires)
    (λ answers. GathersThen (λ left mid more. HearsDialed left mid (dialer_state_of new) more what) (patience wait old.failed) old.reactor.gathering (dialer_state_of old) answers new.reactor.gathering)) →
    bound new.reactor.wires ≡ bound old.reactor.wires → new.addresses ≡ old.addresses → Chain (CallsDialed trace bound faults) old (heard_call wait r ∷ []) new
heard-goes trace bound faults wait (Ok what) old new e h b addresses = (new, (h.0, h.1, addresses, (h.2, b)), refl)
heard-goes trace bound faults wait (Err why) old new e h b addresses = absurd (cc e)

pub fell-goes : {W : Type 0} (trace : W → Option (List Answer)) (bound faults : W → ℕ) (wait : ℕ) (r : Result Heard DoorError) (old new : NetDialer W) → is_err r ≡ true →
    (r ≡ Err Failed → Rose (faults old.reactor.wires) (faults new.reactor.wires) × Told (trace old.reactor.wires) (trace new.reactor.wires)
    (λ answers. (gathered : ℕ) × GathersThen (ThenFlushes FailsDialed (dialer_state_of new)) (patience wait old.failed) old.reactor.gathering (dialer_state_of old) answers gathered)) →
    (r ≡ Err NoMemory → Told (trace old.reactor.wires) (trace new.reactor.wires)
    (λ answers. (gathered : ℕ) × GathersThen (ThenFlushes HaltsDialed (dialer_state_of new)) (patience wait old.failed) old.reactor.gathering (dialer_state_of old) answers gathered)) →
    bound new.reactor.wires ≡ bound old.reactor.wires → new.addresses ≡ old.addresses → new.reactor.gathering ≡ 0 → Chain (CallsDialed trace bound faults) old (heard_call wait r ∷ []) new
fell-goes trace bound faults wait (Ok what) old new e f h b addresses g = absurd (cc e)
fell-goes trace bound faults wait (Err Failed) old new e f h b addresses g = let k = f refl in (new, (k.1.0, k.1.1, addresses, (k.1.2.0, k.1.2.1, b, g, k.0)), refl)
fell-goes trace bound faults wait (Err NoMemory) old new e f h b addresses g = let k = h refl in (new, (k.0, k.1, addresses, (k.2.0, k.2.1, b, g)), refl)

-- ---- what is said on a lane

is-on : (is_at : ℕ → List Lane → Bool) (lane wire : ℕ) (state : DialerState) → wire_of lane state.numbers ≡ Some wire → is_at wire state.door.lanes ≡ is_on is_at lane state
is-on is_at lane wire state e = ap (λ (o : Option ℕ). unwrap_or (option_map (λ w. is_at w state.door.lanes) o) false) (sym e)

is-off : (is_at : ℕ → List Lane → Bool) (lane : ℕ) (state : DialerState) → wire_of lane state.numbers ≡ None → is_on is_at lane state ≡ false
is-off is_at lane state e = ap (λ (o : Option ℕ). unwrap_or (option_map (λ w. is_at w state.door.lanes) o) false) e

does-on : (lane wire : ℕ) (Does : Lane → Lane → List Answer → Type 0) (before after : DialerState) (answers : List Answer) → wire_of lane before.numbers ≡ Some wire → DoesAt wire Does before.door after.door answers →
    after ≡ record before { door = after.door } → DoesOn lane Does before after answers
does-on lane wire Does before after answers e h same = (subst (λ (o : Option ℕ). DoesOnWire o Does before.door after.door answers) (sym e) h, same)

does-off : (lane : ℕ) (Does : Lane → Lane → List Answer → Type 0) (state : DialerState) → wire_of lane state.numbers ≡ None → DoesOn lane Does state state []
does-off lane Does state e = (subst (λ (o : Option ℕ). DoesOnWire o Does state.door state.door []) (sym e) (refl, refl), refl)

tells-same : (a b : Option (List Answer)) → b ≡ a → Tells a b []
tells-same a b e = subst (λ (t : Option (List Answer)). Tells a t []) (sym e) (tells-none a)

-- a call that is given something is out of memory, and nothing is done
pub send-fails : {W : Type 0} (trace : W → Option (List Answer)) (bound faults : W → ℕ) (lane : ℕ) (bytes : List ℕ) (text : Bool) (why : DoorError) (old new : NetDialer W) → why ≡ NoMemory → dialer_state_of new ≡ dialer_state_of old →
    trace new.reactor.wires ≡ trace old.reactor.wires → bound new.reactor.wires ≡ bound old.reactor.wires → new.reactor.gathering ≡ old.reactor.gathering → new.addresses ≡ old.addresses →
    Chain (CallsDialed trace bound faults) old (door.failed (to_say (say.Bytes lane bytes text)) why ∷ []) new
send-fails trace bound faults lane bytes text Failed old new e s t b g a = absurd (cc e)
send-fails trace bound faults lane bytes text NoMemory old new e s t b g a = (new, ([], tells-same (trace old.reactor.wires) (trace new.reactor.wires) t, a, (s, refl, (b, g))), refl)

pub shut-fails : {W : Type 0} (trace : W → Option (List Answer)) (bound faults : W → ℕ) (lane : ℕ) (why : DoorError) (old new : NetDialer W) → why ≡ NoMemory → dialer_state_of new ≡ dialer_state_of old →
    trace new.reactor.wires ≡ trace old.reactor.wires → bound new.reactor.wires ≡ bound old.reactor.wires → new.reactor.gathering ≡ old.reactor.gathering → new.addresses ≡ old.addresses →
    Chain (CallsDialed trace bound faults) old (door.failed (to_say (say.Shut lane)) why ∷ []) new
shut-fails trace bound faults lane Failed old new e s t b g a = absurd (cc e)
shut-fails trace bound faults lane NoMemory old new e s t b g a = (new, ([], tells-same (trace old.reactor.wires) (trace new.reactor.wires) t, a, (s, refl, (b, g))), refl)

-- what a call leaves of a dialer that changes its lanes alone
abbrev pub OthersStay : {W : Type 0} → NetDialer W → NetDialer W → Type 0
OthersStay old new = (new.numbers ≡ old.numbers) × (new.failed ≡ old.failed) × (new.last ≡ old.last) × (new.addresses ≡ old.addresses)

pub send-on : {W : Type 0} (trace : W → Option (List Answer)) (bound faults : W → ℕ) (lane wire : ℕ) (bytes : List ℕ) (text : Bool) (r : Result Bool DoorError) (old new : NetDialer W) → wire_of lane old.numbers ≡ Some wire →
    OnOk r (Told (trace old.reactor.wires) (trace new.reactor.wires) (λ answers. DoesAt wire (Sends old.reactor.moment bytes text) (state_of old.reactor) (state_of new.reactor) answers)) →
    IfOk r (λ full. full ≡ is_full_at wire new.reactor.lanes.items) → IfErr r (λ why. why ≡ NoMemory) → OnErr r ((state_of new.reactor ≡ state_of old.reactor) × (trace new.reactor.wires ≡ trace old.reactor.wires)) →
    bound new.reactor.wires ≡ bound old.reactor.wires → new.reactor.gathering ≡ old.reactor.gathering → OthersStay old new →
    (is_said : Bool) × Chain (CallsDialed trace bound faults) old (sent_call (say.Bytes lane bytes text) is_said r ∷ []) new
send-on trace bound faults lane wire bytes text (Ok full) old new e h f m u b g o =
    let before = dialer_state_of old in
    let after = dialer_state_of new in
    let k = put-or-not wire old.reactor.moment bytes text old.reactor.lanes.items new.reactor.lanes.items h.0 h.2.0 in
    let same = state-parts before (state_of new.reactor) new.numbers new.failed new.last o.0 o.1 o.2 in
    let after_wire = ap (λ (n : List LaneWire). wire_of lane n) o.0 ∙ e in (
      k.0,
      (
        new,
        (
          h.0,
          h.1,
          o.3,
          (
            (λ x. sym (is-on is_there lane wire before e) ∙ k.1 x),
            does-on lane wire (SendsAs k.0 old.reactor.moment bytes text) before after h.0 e (k.2, h.2.1, h.2.2, h.2.3) same,
            f ∙ is-on is_full_at lane wire after after_wire,
            (b, g),
          ),
        ),
        refl,
      ),
    )
send-on trace bound faults lane wire bytes text (Err why) old new e h f m u b g o =
    let same = state-parts (dialer_state_of old) (state_of new.reactor) new.numbers new.failed new.last o.0 o.1 o.2 in
    (false, send-fails trace bound faults lane bytes text why old new m (same ∙ ap (λ (d : DoorState). record (dialer_state_of old) { door = d }) u.0) u.1 b g o.3)

pub send-off : {W : Type 0} (trace : W → Option (List Answer)) (bound faults : W → ℕ) (lane : ℕ) (bytes : List ℕ) (text : Bool) (old : NetDialer W) → wire_of lane old.numbers ≡ None →
    (is_said : Bool) × Chain (CallsDialed trace bound faults) old (sent_call (say.Bytes lane bytes text) is_said (Ok false) ∷ []) old
send-off trace bound faults lane bytes text old e =
    let state = dialer_state_of old in
    (false, (old, ([], tells-none (trace old.reactor.wires), refl, ((λ x. absurd (cc x)), does-off lane (SendsAs false old.reactor.moment bytes text) state e, sym (is-off is_full_at lane state e), (refl, refl))), refl))

pub shut-on : {W T : Type 0} (trace : W → Option (List Answer)) (bound faults : W → ℕ) (lane wire : ℕ) (r : Result T DoorError) (old new : NetDialer W) → wire_of lane old.numbers ≡ Some wire →
    OnOk r (Told (trace old.reactor.wires) (trace new.reactor.wires) (λ answers. DoesAt wire (Shuts old.reactor.moment) (state_of old.reactor) (state_of new.reactor) answers)) → IfErr r (λ why. why ≡ NoMemory) →
    OnErr r ((state_of new.reactor ≡ state_of old.reactor) × (trace new.reactor.wires ≡ trace old.reactor.wires)) → bound new.reactor.wires ≡ bound old.reactor.wires → new.reactor.gathering ≡ old.reactor.gathering → OthersStay old new →
    (is_said : Bool) × Chain (CallsDialed trace bound faults) old (given_call (say.Shut lane) is_said r ∷ []) new
shut-on trace bound faults lane wire (Ok done) old new e h m u b g o =
    let before = dialer_state_of old in
    let same = state-parts before (state_of new.reactor) new.numbers new.failed new.last o.0 o.1 o.2 in
    (is_on is_live_at lane before, (new, (h.0, h.1, o.3, (refl, does-on lane wire (Shuts old.reactor.moment) before (dialer_state_of new) h.0 e h.2 same, (b, g))), refl))
shut-on trace bound faults lane wire (Err why) old new e h m u b g o =
    let same = state-parts (dialer_state_of old) (state_of new.reactor) new.numbers new.failed new.last o.0 o.1 o.2 in
    (false, shut-fails trace bound faults lane why old new m (same ∙ ap (λ (d : DoorState). record (dialer_state_of old) { door = d }) u.0) u.1 b g o.3)

pub shut-off : {W : Type 0} (trace : W → Option (List Answer)) (bound faults : W → ℕ) (lane : ℕ) (old : NetDialer W) → wire_of lane old.numbers ≡ None →
    (is_said : Bool) × Chain (CallsDialed trace bound faults) old (door.given (say.Shut lane) is_said ∷ []) old
shut-off trace bound faults lane old e =
    let state = dialer_state_of old in
    (is_on is_live_at lane state, (old, ([], tells-none (trace old.reactor.wires), refl, (refl, does-off lane (Shuts old.reactor.moment) state e, (refl, refl))), refl))

pub flush-on : {W : Type 0} (trace : W → Option (List Answer)) (bound faults : W → ℕ) (old new : NetDialer W) →
    Told (trace old.reactor.wires) (trace new.reactor.wires) (λ answers. FlushesDoor (state_of old.reactor) (state_of new.reactor) answers) → bound new.reactor.wires ≡ bound old.reactor.wires → new.reactor.gathering ≡ 0 →
    OthersStay old new → Chain (CallsDialed trace bound faults) old (flushed ∷ []) new
flush-on trace bound faults old new h b g o =
    let same = state-parts (dialer_state_of old) (state_of new.reactor) new.numbers new.failed new.last o.0 o.1 o.2 in
    (new, (h.0, h.1, o.3, (h.2, same, b, g)), refl)
