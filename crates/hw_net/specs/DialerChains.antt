-- The session that the calls of a dialer over wires are.
use Rattle.std.specs.Prelude.{◌≡◌, ℕ, true, List, [], ◌∷◌, ◌++◌, if◌then◌else◌, flat_map, Option, is_some}
use Rattle.std.specs.List.{list_all}
use Rattle.hw_door.specs.declared.heard.Event.TheVariants as event
use Rattle.hw_door.specs.declared.heard.Given.TheVariants as say
use Rattle.hw_door.specs.DoorCalls as door
use Rattle.hw_door.specs.DoorCalls.{DoorCall}
use Rattle.hw_door.specs.Traffic.{Answer}
use Rattle.hw_net.specs.declared.dialer.NetDialer.{NetDialer}
use Rattle.hw_net.specs.Chains.{Told, gives, hears, sends, is_steady, told_in}
use Rattle.hw_net.specs.Dialer.{dialer_state_of}
use Rattle.hw_net.specs.DialerSessions.{DialerCall, DialerSession, answers_of, asked, at_start, cut, does, idle, missed}
use Rattle.hw_net.specs.LaneNumbers.{with_lane}
use Rattle.hw_net.specs.Sessions as session
use Rattle.hw_net.specs.Trace.{Tells}

-- what a call told, by the numbers of lanes
abbrev pub told_by : DialerCall → List Told
told_by (does lane (session.heard what answers)) = hears (record what { event = with_lane lane what.event }) ∷ []
told_by (does lane (session.sent wire bytes text full answers)) = sends (say.Bytes lane bytes text) full ∷ []
told_by (does lane (session.shut wire answers)) = gives (say.Shut lane) ∷ []
told_by (does lane (session.wrote wire answers)) = []
told_by (does lane (session.replied wire reply answers)) = []
told_by (asked ask wire answers) = gives (say.Ask ask.lane ask.place ask.method ask.target ask.upgrade) ∷ []
told_by (missed now lane answers) = hears (record { now = now; event = event.Lost lane }) ∷ []
told_by (idle told) = told ∷ []
told_by (cut answers) = []

-- by those of a session, the latest of which comes first
abbrev pub told_in_all : List DialerCall → List Told
told_in_all [] = []
told_in_all (call ∷ calls) = told_in_all calls ++ told_by call

-- the lane of an ask that a call says
abbrev pub dialed_of : DoorCall → List ℕ
dialed_of (door.given (say.Ask lane place method target upgrade) is_said) = if is_said then lane ∷ [] else []
dialed_of _ = []

-- the lanes whose asks stand on wires, in order
abbrev pub dialed_in : List DialerCall → List ℕ
dialed_in [] = []
dialed_in (asked ask wire answers ∷ calls) = dialed_in calls ++ (if is_some wire then ask.lane ∷ [] else [])
dialed_in (_ ∷ calls) = dialed_in calls

-- From a dialer that was just started, calls of which none of `next` failed are a session: what they told is the same, in order, the asks that they say are those
-- that stand on wires, and what the wires answered in it is what they told meanwhile, if they still tell.
abbrev pub CallsAreADialerSession : {W : Type 0} → (NetDialer W → List DoorCall → NetDialer W → Type 0) → (W → Option (List Answer)) → (W → ℕ) → Type 0
CallsAreADialerSession {W} Goes trace bound =
    (calls : List DoorCall) (start now : NetDialer W) → Goes start calls now → dialer_state_of start ≡ at_start → list_all is_steady calls ≡ true
    → (all : List DialerCall) × DialerSession start.addresses all (bound now.reactor.wires) (dialer_state_of now) × (told_in_all all ≡ told_in calls)
    × (dialed_in all ≡ flat_map dialed_of calls) × Tells (trace start.reactor.wires) (trace now.reactor.wires) (answers_of all)
