-- What a connection keeps of what happened to it.
use Rattle.std.specs.Prelude.{◌≡◌, ◌≤◌, ◌<◌, ◌==◌, ℕ, Bool, true, false, List, Option, Some, None, option_map}
use Rattle.hd_dialing.specs.Numbers.{most_lost}
use Rattle.hd_dialing.specs.Bodies.{Told, told_by, told_as_asked}
use Rattle.hd_dialing.specs.Asks.{Setup}
use Rattle.hd_dialing.specs.Events as dial
use Rattle.hd_dialing.specs.Events.{DialEvent, phase, told, moment, lost_dials, lost_at, is_over}
use Rattle.hd_dialing.specs.Telling.{has_failed_draw}
use Rattle.hn_dialing.specs.declared.bodies.Granted.{Granted}
use Rattle.hn_dialing.specs.declared.connection.Connection.{Connection}
use Rattle.hn_dialing.specs.declared.phase.Phase.{Phase}
use Rattle.hn_dialing.specs.declared.phase.Phase.TheVariants as code
use Rattle.hn_dialing.specs.declared.setup.DialSetup.{DialSetup}

-- ---- the words of the code, as the definitions have them

abbrev pub phase_of : Phase → dial.Phase
phase_of code.Away = dial.Away
phase_of (code.Negotiates lane) = dial.Negotiates lane
phase_of (code.Upgrades lane) = dial.Upgrades lane
phase_of (code.Stands lane) = dial.Stands lane
phase_of code.Over = dial.Over

-- the lane that is up or being made
abbrev pub lane_in : dial.Phase → Option ℕ
lane_in dial.Away = None
lane_in (dial.Negotiates lane) = Some lane
lane_in (dial.Upgrades lane) = Some lane
lane_in (dial.Stands lane) = Some lane
lane_in dial.Over = None

-- a token was asked for on this lane
abbrev pub is_negotiate : ℕ → dial.Phase → Bool
is_negotiate lane (dial.Negotiates l) = lane == l
is_negotiate lane p = false

-- the socket is up on this lane
abbrev pub is_link : ℕ → dial.Phase → Bool
is_link lane (dial.Stands l) = lane == l
is_link lane p = false

abbrev pub told_of : Granted → Told
told_of granted = record { token = granted.token; reconnect = granted.reconnect }

-- what a body tells, and to whoever is strict only with the grant that was asked for
abbrev pub tells_with : Bool → Bool → List ℕ → Option Told
tells_with true reconnect = told_as_asked reconnect
tells_with false reconnect = told_by

abbrev pub setup_of : DialSetup → Setup
setup_of setup = record {
  place = setup.place;
  path = setup.path;
  access = setup.access;
  reconnect = setup.reconnect;
  tells = tells_with setup.strict setup.reconnect;
}

-- ---- connections

-- The connection, dialed so, stands for what happened to it. Moments didn't fall, so it lost no dial later than it heard anything
pub record Stands (s : Setup) (c : Connection) (h : List DialEvent) : Type 0 where
  pub dials_so : setup_of c.setup ≡ s
  pub is_at : phase_of c.phase ≡ phase h
  pub knows : option_map told_of c.told ≡ told h
  pub lost : c.lost_dials ≡ lost_dials h
  pub since : c.lost_at ≡ lost_at h
  pub heard : c.moment ≡ moment h
  pub drew : c.failed_draw ≡ has_failed_draw h
  pub few : is_over (phase h) ≡ false → lost_dials h < most_lost
  pub before : lost_at h ≤ moment h
