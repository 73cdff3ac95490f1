-- A server over a door that was just started, of which no request comes that may not come.
use Rattle.std.specs.Prelude.{◌≡◌, ◌⊎◌, ℕ, Bool, true, List, [], ◌∷◌, ◌++◌, length, map, reverse}
use Rattle.hd_facts.specs.Prefixes.{IsPrefix}
use Rattle.hd_calls.specs.Hubs.{Hub}
use Rattle.hw_door.specs.declared.heard.Given.{Given}
use Rattle.hw_door.specs.declared.heard.Heard.{Heard}
use Rattle.hw_door.specs.DoorCalls.{DoorCall, full_in, given_in, heard_in}
use Rattle.hw_net.specs.declared.door.NetDoor.{NetDoor}
use Rattle.hw_net.specs.Door.{state_of}
use Rattle.hd_server.specs.Doings.{ServerEvent, said, seen}
use Rattle.hd_server.specs.Plans.{Setup}
use Rattle.hd_server.specs.Serves.{MayBeHeard, Serves, given_as, lanes_sent}
use Rattle.hd_server.specs.Serving.{IsAnswered, ServeEnd, ServesOn, is_cut}

-- of the answer to this event a first part was given; or nothing, if memory ran out before
abbrev pub IsAnsweredInPart : {Job : Type 0} → Hub Job → Setup → List ServerEvent → Heard → List Given → Type 0
IsAnsweredInPart hub s h e given =
    (given ≡ []) ⊎ ((turned : List ServerEvent) × (whole : List Given) × IsAnswered hub s h e turned whole × IsPrefix given whole)

-- nothing is left to answer, and nothing was given; or one event, if an answer may be cut short, which may be heard, and was answered in part
abbrev pub IsLeft : {Job : Type 0} → Hub Job → Setup → Bool → List ServerEvent → List Heard → List Given → Type 0
IsLeft hub s cut h [] given = given ≡ []
IsLeft hub s cut h (e ∷ es) given = (cut ≡ true) × (es ≡ []) × MayBeHeard e h × IsAnsweredInPart hub s h e given

-- A server that did nothing before heard these, in order, and gave this for them: all that it says at each, but for the last event, if the answer to
-- that was cut short. Each was one that may be heard. It saw what was answered to each message among it, which was this.
pub record HasAnswered {Job : Type 0} (hub : Hub Job) (s : Setup) (cut : Bool) (heard : List Heard) (given : List Given) (full : List Bool) : Type 0 where
  pub answered : List Heard
  pub rest : List Heard
  pub are : heard ≡ answered ++ rest
  pub after : List ServerEvent
  pub serves : Serves hub s (reverse answered) after
  pub part : List Given
  pub gives : given ≡ map given_as (said after) ++ part
  pub left : IsLeft hub s cut after rest part
  pub sights : List Bool
  pub sees : full ≡ seen after ++ sights
  pub each : length sights ≡ length (lanes_sent part)

-- nothing was heard at the door yet
abbrev pub IsStarted : {W : Type 0} → NetDoor W → Type 0
IsStarted door = state_of door ≡ record { lanes = []; from = 0; named = 0; moment = 0 }

-- A server that did nothing before, over a door that was just started: it answered all, and heard nothing that may not come.
abbrev pub RequestsComeFree : {W : Type 0} → (NetDoor W → List DoorCall → NetDoor W → Type 0) → Type 0 → Type 0
RequestsComeFree {W} Goes Job =
    (hub : Hub Job) (s : Setup) (end : ServeEnd) (calls : List DoorCall) (start now : NetDoor W) → IsStarted start → Goes start calls now
    → ServesOn hub s end (λ after. Unit {0}) (λ after. Unit {0}) [] (heard_in calls) calls
    → HasAnswered hub s (is_cut end) (heard_in calls) (given_in calls) (full_in calls)
