-- A lane as a contract sees it.
use Rattle.std.specs.Prelude.{◌≤◌, ◌+◌, ◌-◌, ℕ, Bool, false, List, [], Option, None, Some, max, length, refl}
use Rattle.std.specs.Coded.{Coded, code_by, coded×, coded_ℕ, coded_bool, coded_list, coded_option}
use Rattle.hw_lanes.specs.declared.http.Refusal.{Refusal}
use Rattle.hw_lanes.specs.contracts.http.Refusal as refusal_type
use Rattle.hh_http.specs.declared.limits.TheConstants.{MOST_HEAD, MOST_BODY}

pub record Lane : Type 0 where
  -- the bytes that were fed and are not part of a message that was handed out
  pub held : List ℕ
  -- the length of the message whose head was read, or 0
  pub want : ℕ
  -- the refusal that was answered
  pub spent : Option Refusal
  -- no message follows the last that was handed out
  pub ended : Bool
  -- the message whose head was read waits for a 100, and none was taken for it
  pub due : Bool

abbrev pub lane_code : Coded Lane
lane_code =
    code_by (List ℕ × (ℕ × (Option Refusal × (Bool × Bool))))
    (coded× (coded_list coded_ℕ) (coded× coded_ℕ (coded× (coded_option refusal_type.the_row.coded) (coded× coded_bool coded_bool))))
    (λ l. (l.held, (l.want, (l.spent, (l.ended, l.due)))))
    (λ p. record { held = p.0; want = p.1.0; spent = p.1.1.0; ended = p.1.1.1.0; due = p.1.1.1.1 })
    (λ _. refl)

-- a lane that was fed nothing
abbrev pub at_start : Lane
at_start = record { held = []; want = 0; spent = None; ended = false; due = false }

-- how many bytes a lane may hold: a head's limit, or the message whose head was read
abbrev pub room_for : ℕ → ℕ
room_for want = max MOST_HEAD want

-- how many further bytes a lane takes: none once it is spent
abbrev pub room_by : Option Refusal → ℕ → ℕ → ℕ
room_by None want held = room_for want - held
room_by (Some refusal) want held = 0

-- the same of a lane
abbrev pub room : Lane → ℕ
room lane = room_by lane.spent lane.want (length lane.held)

-- never more is held than a head's limit, or the message whose head was read, whose body has a limit
pub record IsWithin (lane : Lane) : Type 0 where
  pub held : length lane.held ≤ room_for lane.want
  pub want : lane.want ≤ MOST_HEAD + MOST_BODY
