-- In a session of a dialer the lanes have numbers on their wires, and what is told of a lane is told of the one that asked there.
use Rattle.std.proofs.Common.{◌≡◌, ◌≢◌, ◌⊎◌, ◌+◌, ◌==◌, ◌++◌, ◌∷◌, [], ℕ, Bool, true, false, cond, find, List, Option, None, Some, refl, sym, ap, ◌∙◌, subst, inl, inr, arith, append-nil, length, option_map, option_to_list, slice_get, unwrap_or}
use Rattle.std.proofs.lemmas.List.{map-append}
use Rattle.hw_lanes.specs.declared.http.Method.{Method}
use Rattle.hw_door.specs.declared.heard.Address.{Address}
use Rattle.hw_door.specs.declared.heard.Event.{Event}
use Rattle.hw_door.specs.declared.heard.Event.TheVariants as event
use Rattle.hw_door.specs.declared.heard.Heard.{Heard}
use Rattle.hw_door.specs.declared.heard.Upgrade.{Upgrade}
use Rattle.hw_door.specs.Traffic.{Answer}
use Rattle.hw_net.specs.declared.numbers.LaneWire.{LaneWire}
use Rattle.hw_net.specs.Asking.{text_at}
use Rattle.hw_net.specs.Dialer.{DialerState, Dials, IsUndialed, Reaches, with_dialed}
use Rattle.hw_net.specs.DialerSessions.{DialerCall, DialerSession, DoesOnLane, HearsOnWires, LanesAreThoseAsked, asked, cut, does, idle, lane_asked_on, missed}
use Rattle.hw_net.specs.Door.{DoorState, kept, lane_of}
use Rattle.hw_net.specs.Lane.{Lane, dialed_lane, wires_of}
use Rattle.hw_net.specs.LaneNumbers.{lane_on, still_there, wire_of, wires_in}
use Rattle.hw_net.specs.Numbered.{AreNumbered}
use Rattle.hw_net.specs.Saying.{WritesIfLive, is_gathered, is_too_much}
use Rattle.hw_net.specs.Sessions as session
use Rattle.hw_net.specs.Sessions.{Call}
use Rattle.hw_net.specs.Trace.{Chooses}
use Rattle.hw_net.specs.Turn.{AtLane}
use Rattle.hw_net.proofs.DialerLanes.{AreAsked, each-asked}
use Rattle.hw_net.proofs.DialerWalks.{dialed-mover, strides-in}
use Rattle.hw_net.proofs.LaneNumbering.{numbered-cleared, numbered-dialed, numbered-failed, numbered-heard, numbered-still}
use Rattle.hw_net.proofs.Moves.{Has, hears-wires}
use Rattle.hw_net.proofs.Numbering.{sends-keep, shuts-keep, writes-keep}
use Rattle.hw_net.proofs.Owning.{is_on}
use Rattle.hw_net.proofs.Shares.{equal, same}
use Rattle.hw_net.proofs.Walks.{moves-wire}

-- ---- numbers

-- an ask adds the wire on which it stands
reaches-wires : (address : Option Address) (method : Method) (target : List ℕ) (upgrade : Option Upgrade) (wire : Option ℕ) (before after : DoorState) (answers : List Answer) →
    Reaches address method target upgrade wire before after answers → wires_of after.lanes ≡ wires_of before.lanes ++ option_to_list wire
reaches-wires address method target upgrade wire before after answers h = go address h where
  undialed : IsUndialed wire before after answers → wires_of after.lanes ≡ wires_of before.lanes ++ option_to_list wire
  undialed u =
      ap (λ (d : DoorState). wires_of d.lanes) u.1 ∙ sym (append-nil (wires_of before.lanes)) ∙ ap (λ (o : Option ℕ). wires_of before.lanes ++ option_to_list o) (sym u.0)

  dials : (text : List ℕ) (o : Option ℕ) → Dials text upgrade o before after answers → wires_of after.lanes ≡ wires_of before.lanes ++ option_to_list o
  dials text None d = ap wires_of d.2.0 ∙ sym (append-nil (wires_of before.lanes))
  dials text (Some at) d = by (is_gathered (length text)) d.2 ∙ map-append (λ (l : Lane). l.wire) before.lanes (dialed_lane before.moment at text upgrade ∷ []) where
    lanes : List Lane
    lanes = with_dialed before.moment text upgrade (Some at) before.lanes

    by : (b : Bool) → Chooses b ((after.lanes ≡ lanes) × (d.0 ≡ [])) (AtLane at WritesIfLive lanes after.lanes d.0) → wires_of after.lanes ≡ wires_of lanes
    by true k = ap wires_of k.0
    by false k = writes-keep at lanes after.lanes d.0 k

  go : (o : Option Address) → Reaches o method target upgrade wire before after answers → wires_of after.lanes ≡ wires_of before.lanes ++ option_to_list wire
  go None u = undialed u
  go (Some there) k = by (is_too_much (length (text_at there method target upgrade))) k where
    by : (b : Bool) → Chooses b (IsUndialed wire before after answers) (Dials (text_at there method target upgrade) upgrade wire before after answers) → wires_of after.lanes ≡ wires_of before.lanes ++ option_to_list wire
    by true u = undialed u
    by false d = dials (text_at there method target upgrade) wire d

abbrev IsNumbered : ℕ → DialerState → Type 0
IsNumbered bound state = AreNumbered bound state.door.lanes state.numbers state.failed state.last

numbered-as : (bound : ℕ) (now to : DialerState) → now ≡ to → IsNumbered bound to → IsNumbered bound now
numbered-as bound now to e h = subst (λ (s : DialerState). IsNumbered bound s) (sym e) h

heard-wires : (before after : DoorState) (answers : List Answer) (what : Heard) → HearsOnWires before after answers what → wires_of after.lanes ≡ wires_of (kept before.lanes)
heard-wires before after answers what h =
    let t = h.6 in ap (λ (d : DoorState). wires_of d.lanes) h.7 ∙ hears-wires what.now t.1 (kept before.lanes) h.3.lanes h.2 t.0 t.3

on-lane : (lane : ℕ) (call : Call) (bound most : ℕ) (before after : DialerState) → most ≡ bound → DoesOnLane lane call before after → IsNumbered bound before → IsNumbered most after
on-lane lane (session.heard what answers) bound most before after le d h =
    numbered-as most after (record before { door = after.door; numbers = still_there (kept before.door.lanes) before.numbers }) d.3
    (numbered-still bound most (kept before.door.lanes) after.door.lanes (still_there (kept before.door.lanes) before.numbers) before.failed before.last (omega (arith, le))
    (heard-wires before.door after.door answers what d.2) (numbered-cleared bound before.door.lanes before.numbers before.failed before.last h))
on-lane lane (session.sent wire bytes text full answers) bound most before after le d h =
    numbered-as most after (record before { door = after.door }) d.3
    (numbered-still bound most before.door.lanes after.door.lanes before.numbers before.failed before.last (omega (arith, le)) (sends-keep wire before.door.moment bytes text before.door after.door answers d.1) h)
on-lane lane (session.shut wire answers) bound most before after le d h =
    numbered-as most after (record before { door = after.door }) d.2
    (numbered-still bound most before.door.lanes after.door.lanes before.numbers before.failed before.last (omega (arith, le)) (shuts-keep wire before.door.moment before.door after.door answers d.1) h)
on-lane lane (session.wrote wire answers) bound most before after le d h =
    numbered-as most after (record before { door = after.door }) d.1
    (numbered-still bound most before.door.lanes after.door.lanes before.numbers before.failed before.last (omega (arith, le)) (writes-keep wire before.door.lanes after.door.lanes answers d.0.0) h)
on-lane lane (session.replied wire reply answers) bound most before after le d h = absurd d

each-numbered : (addresses : List Address) (calls : List DialerCall) (bound : ℕ) (now : DialerState) → DialerSession addresses calls bound now → IsNumbered bound now
each-numbered addresses [] bound now h =
    subst (λ (s : DialerState). IsNumbered bound s) (sym h) (record { wires = refl; by_wire = omega arith; by_lane = omega arith; unheard = omega arith })
each-numbered addresses (does lane call ∷ calls) bound now h = on-lane lane call h.0 bound h.1 now h.3.1 h.3.0 (each-numbered addresses calls h.0 h.1 h.2)
each-numbered addresses (asked ask None answers ∷ calls) bound now h =
    numbered-as bound now (record h.1 { door = now.door; failed = h.1.failed ++ (h.1.last + 1) ∷ []; last = h.1.last + 1 }) h.3.3
    (numbered-failed h.0 bound h.1.door.lanes now.door.lanes h.1.numbers h.1.failed h.1.last (reaches-wires (slice_get addresses ask.place) ask.method ask.target ask.upgrade None h.1.door now.door answers h.3.1)
    (strides-in addresses (asked ask None answers) calls bound now h).bounds (each-numbered addresses calls h.0 h.1 h.2))
each-numbered addresses (asked ask (Some wire) answers ∷ calls) bound now h =
    numbered-as bound now (record h.1 { door = now.door; numbers = h.1.numbers ++ (record { lane = h.1.last + 1; wire = wire }) ∷ []; last = h.1.last + 1 }) h.3.3
    (numbered-dialed h.0 bound wire h.1.door.lanes now.door.lanes h.1.numbers h.1.failed h.1.last
    (reaches-wires (slice_get addresses ask.place) ask.method ask.target ask.upgrade (Some wire) h.1.door now.door answers h.3.1) h.3.2.0 h.3.2.1 (each-numbered addresses calls h.0 h.1 h.2))
each-numbered addresses (missed moment lane answers ∷ calls) bound now h =
    let lanes = kept h.1.door.lanes in
    let numbers = still_there lanes h.1.numbers in
    let before : AreNumbered h.0 lanes numbers h.1.failed h.1.last = numbered-cleared h.0 h.1.door.lanes h.1.numbers h.1.failed h.1.last (each-numbered addresses calls h.0 h.1 h.2) in
    let wide : AreNumbered bound lanes numbers h.1.failed h.1.last =
    numbered-still h.0 bound lanes lanes numbers h.1.failed h.1.last (strides-in addresses (missed moment lane answers) calls bound now h).bounds refl before in
    subst (λ (s : DialerState). IsNumbered bound s) (sym h.3.6)
    (numbered-heard bound lanes numbers lane h.3.2 h.1.last (subst (λ (l : List ℕ). AreNumbered bound lanes numbers l h.1.last) h.3.3 wide))
each-numbered addresses (idle told ∷ calls) bound now h =
    numbered-as bound now h.1 h.3.1
    (numbered-still h.0 bound h.1.door.lanes h.1.door.lanes h.1.numbers h.1.failed h.1.last (strides-in addresses (idle told) calls bound now h).bounds refl (each-numbered addresses calls h.0 h.1 h.2))
each-numbered addresses (cut answers ∷ calls) bound now h =
    numbered-as bound now h.1 h.3.1
    (numbered-still h.0 bound h.1.door.lanes h.1.door.lanes h.1.numbers h.1.failed h.1.last (strides-in addresses (cut answers) calls bound now h).bounds refl (each-numbered addresses calls h.0 h.1 h.2))

-- ---- the lane that asked

-- this wire is among them
abbrev IsAmong : ℕ → List ℕ → Type 0
IsAmong wire [] = ⊥
IsAmong wire (at ∷ wires) = ((at == wire) ≡ true) ⊎ IsAmong wire wires

among : (lanes : List Lane) (x : Lane) → Has lanes x → IsAmong x.wire (wires_of lanes)
among [] x has = absurd has
among (lane ∷ lanes) x (inl e) = inl (ap (λ (l : Lane). l.wire == x.wire) e ∙ same x.wire)
among (lane ∷ lanes) x (inr has) = inr (among lanes x has)

-- the lane on a wire is the one that asked there
lane-found : (calls : List DialerCall) (bound wire : ℕ) (numbers : List LaneWire) → AreAsked calls bound numbers → IsAmong wire (wires_in numbers) → lane_on wire numbers ≡ lane_asked_on wire calls
lane-found calls bound wire [] h k = absurd k
lane-found calls bound wire (number ∷ numbers) h k = go (number.wire == wire) refl k (lane-found calls bound wire numbers h.2) where
  first : Bool → ℕ
  first b = unwrap_or (option_map (λ (n : LaneWire). n.lane) (cond b (Some number) (find (λ (n : LaneWire). n.wire == wire) numbers))) 0

  go : (b : Bool) → (number.wire == wire) ≡ b → ((number.wire == wire) ≡ true) ⊎ IsAmong wire (wires_in numbers) → (IsAmong wire (wires_in numbers) → lane_on wire numbers ≡ lane_asked_on wire calls) →
      first (number.wire == wire) ≡ lane_asked_on wire calls
  go true e k again = ap first e ∙ h.1 ∙ ap (λ n. lane_asked_on n calls) (equal number.wire wire e)
  go false e (inl k) again = absurd (cc (sym e ∙ k))
  go false e (inr k) again = ap first e ∙ again k

-- and the wire of a lane the one where it asked
wire-found : (calls : List DialerCall) (bound lane wire : ℕ) (numbers : List LaneWire) → AreAsked calls bound numbers → wire_of lane numbers ≡ Some wire → lane ≡ lane_asked_on wire calls
wire-found calls bound lane wire [] h k = absurd (cc k)
wire-found calls bound lane wire (number ∷ numbers) h k = go (number.lane == lane) refl k (wire-found calls bound lane wire numbers h.2) where
  first : Bool → Option ℕ
  first b = option_map (λ (n : LaneWire). n.wire) (cond b (Some number) (find (λ (n : LaneWire). n.lane == lane) numbers))

  there : Some number.wire ≡ Some wire → number.wire ≡ wire
  there e = cc e

  go : (b : Bool) → (number.lane == lane) ≡ b → first (number.lane == lane) ≡ Some wire → (wire_of lane numbers ≡ Some wire → lane ≡ lane_asked_on wire calls) → lane ≡ lane_asked_on wire calls
  go true e k again = sym (equal number.lane lane e) ∙ h.1 ∙ ap (λ n. lane_asked_on n calls) (there (sym (ap first e) ∙ k))
  go false e k again = again (sym (ap first e) ∙ k)

-- what is heard is heard on a lane
pub on-its-lane : (what : Event) → what ≢ event.Quiet → is_on (lane_of what) what ≡ true
on-its-lane (event.Request at request) n = same at
on-its-lane (event.Refused at refusal) n = same at
on-its-lane (event.Bytes at bytes) n = same at
on-its-lane (event.Response at status body) n = same at
on-its-lane (event.Upgraded at) n = same at
on-its-lane (event.Lost at) n = same at
on-its-lane (event.Drained at) n = same at
on-its-lane event.Quiet n = absurd (n refl)

heard-asked : (addresses : List Address) (lane : ℕ) (what : Heard) (answers : List Answer) (calls : List DialerCall) (bound : ℕ) (now : DialerState) → DialerSession addresses (does lane (session.heard what answers) ∷ calls) bound now →
    what.event ≢ event.Quiet → lane ≡ lane_asked_on (lane_of what.event) calls
heard-asked addresses lane what answers calls bound now h news =
    let wire = lane_of what.event in
    let all = does lane (session.heard what answers) ∷ calls in
    let m = dialed-mover addresses lane what answers calls bound now h wire (on-its-lane what.event news) in
    let there : IsAmong wire (wires_of now.door.lanes) = subst (λ n. IsAmong n (wires_of now.door.lanes)) (moves-wire (session.heard what answers) m.0 m.1 m.5 ∙ m.4) (among now.door.lanes m.1 m.3) in
    let named : IsAmong wire (wires_in now.numbers) = subst (λ l. IsAmong wire l) (sym (each-numbered addresses all bound now h).wires) there in
    h.3.0.1 ∙ ap (λ (s : DialerState). lane_on wire s.numbers) (sym h.3.0.3) ∙ lane-found all bound wire now.numbers (each-asked addresses all bound now h) named

pub lanes-are-those-asked : LanesAreThoseAsked
lanes-are-those-asked addresses lane (session.heard what answers) calls bound now h wire on =
    heard-asked addresses lane what answers calls bound now h on.1 ∙ ap (λ n. lane_asked_on n calls) on.0
lanes-are-those-asked addresses lane (session.sent at bytes text full answers) calls bound now h wire on =
    wire-found calls h.0 lane at h.1.numbers (each-asked addresses calls h.0 h.1 h.2) h.3.0.0 ∙ ap (λ n. lane_asked_on n calls) on
lanes-are-those-asked addresses lane (session.shut at answers) calls bound now h wire on =
    wire-found calls h.0 lane at h.1.numbers (each-asked addresses calls h.0 h.1 h.2) h.3.0.0 ∙ ap (λ n. lane_asked_on n calls) on
lanes-are-those-asked addresses lane _ calls bound now h wire on = absurd on
