-- How many lanes of a door are of each kind that a call looks for.
use Rattle.std.specs.Prelude.{◌+◌, ◌<◌, ◌≤◌, ◌^◌, ◌&&◌, ◌||◌, ℕ, Bool, true, false, not, nat_lt, List, [], ◌∷◌, length, is_some}
use Rattle.std.specs.Int.{from_bool}
use Rattle.hw_net.specs.declared.protocol.Protocol.{Protocol}
use Rattle.hw_net.specs.declared.protocol.Protocol.TheVariants.{Http, Response, Socket}
use Rattle.hw_net.specs.declared.protocol.Stage.{Stage}
use Rattle.hw_net.specs.declared.protocol.Stage.TheVariants.{Live, Lost, Closing, Over}
use Rattle.hw_net.specs.declared.tally.Tally.{Tally}
use Rattle.hw_net.specs.Lane.{Lane, waits, is_live, is_over, is_awake}

-- a lane may have something to write: its wire is there and something waits, or it is shut once nothing waits
abbrev pub has_unwritten_by : Stage → ℕ → Bool
has_unwritten_by Live unwritten = nat_lt 0 unwritten
has_unwritten_by Lost unwritten = false
has_unwritten_by Closing unwritten = true
has_unwritten_by Over unwritten = false

abbrev pub has_unwritten : Lane → Bool
has_unwritten lane = has_unwritten_by lane.stage (length (waits lane))

-- a live lane on which something waits to be written
abbrev pub is_writer : Lane → Bool
is_writer lane = is_live lane.stage && nat_lt 0 (length (waits lane))

-- a lane that is heard no more, and whose wire is there until it has written what waits
abbrev pub is_closing : Stage → Bool
is_closing Live = false
is_closing Lost = false
is_closing Closing = true
is_closing Over = false

-- a live lane hears nothing but what comes: no 100 is due, or the WebSocket isn't gone and lost no bytes
abbrev pub only_waits_by : Stage → Protocol → Bool
only_waits_by Live (Http http_state) = not http_state.awaits_continue
only_waits_by Live (Response response_state) = true
only_waits_by Live (Socket websocket_state) = not websocket_state.lost_bytes && not (is_some websocket_state.lane.ending)
only_waits_by Lost protocol = true
only_waits_by Closing protocol = true
only_waits_by Over protocol = true

-- something may be heard or written on the lane before more bytes come there, and not only that it is overdue
abbrev pub is_restless : Lane → Bool
is_restless lane = is_awake lane || (has_unwritten lane || not (only_waits_by lane.stage lane.protocol))

abbrev pub no_lanes : Tally
no_lanes = record { over = 0; awake = 0; writers = 0; closing = 0; restless = 0 }

-- one lane more
abbrev pub with_lane : Lane → Tally → Tally
with_lane lane tally = record {
  over = tally.over + from_bool (is_over lane.stage);
  awake = tally.awake + from_bool (is_awake lane);
  writers = tally.writers + from_bool (is_writer lane);
  closing = tally.closing + from_bool (is_closing lane.stage);
  restless = tally.restless + from_bool (is_restless lane);
}

-- the lane is counted
pub record Has (lane : Lane) (tally : Tally) : Type 0 where
  pub over : from_bool (is_over lane.stage) ≤ tally.over
  pub awake : from_bool (is_awake lane) ≤ tally.awake
  pub writers : from_bool (is_writer lane) ≤ tally.writers
  pub closing : from_bool (is_closing lane.stage) ≤ tally.closing
  pub restless : from_bool (is_restless lane) ≤ tally.restless

-- one lane more can be counted
pub record HasRoom (tally : Tally) : Type 0 where
  pub over : tally.over + 1 < 2 ^ 64
  pub awake : tally.awake + 1 < 2 ^ 64
  pub writers : tally.writers + 1 < 2 ^ 64
  pub closing : tally.closing + 1 < 2 ^ 64
  pub restless : tally.restless + 1 < 2 ^ 64

-- that of these lanes
abbrev pub tally_of : List Lane → Tally
tally_of [] = no_lanes
tally_of (lane ∷ lanes) = with_lane lane (tally_of lanes)
