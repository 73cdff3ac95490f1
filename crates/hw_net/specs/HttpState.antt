-- A lane of requests, and what it hears in one turn.
use Rattle.std.specs.Prelude.{◌≡◌, ◌⊎◌, ◌≤◌, ◌&&◌, ◌||◌, ℕ, Bool, true, false, not, nat_lt, min, List, [], ◌∷◌, ◌++◌, Option, None, Some, is_some, refl}
use Rattle.std.specs.Coded.{Coded, code_by, coded×, coded_bool}
use Rattle.hw_lanes.specs.declared.http.Refusal.{Refusal}
use Rattle.hw_lanes.specs.declared.http.Request.{Request}
use Rattle.hh_http.specs.Lane.{Lane, lane_code, room}
use Rattle.hh_http.specs.Messages.{WaitsForHead, WaitsForBody, Refuses, due_after}
use Rattle.hh_http.specs.Asks.{Asks, request_grammar}
use Rattle.hw_door.specs.Traffic.{Answer}
use Rattle.hw_net.specs.declared.limits.TheConstants.{PIECE}
use Rattle.hw_net.specs.declared.input.Input.{Input}
use Rattle.hw_net.specs.declared.input.Input.TheVariants as input
use Rattle.hw_net.specs.Trace.{Gives, IsAsked, bytes_of, is_full_after}

pub record HttpStateView : Type 0 where
  -- the bytes held, and what was made of them
  pub lane : Lane
  -- a request was heard that isn't replied to
  pub busy : Bool
  -- the bytes held may hold a request that wasn't looked for
  pub has_unparsed : Bool
  -- the last read filled the room that it had, or there was none
  pub last_read_was_full : Bool
  -- a 100 is to be said for the request whose head was read
  pub awaits_continue : Bool
  -- a 100 was said for the request that comes, or that waits for its reply
  pub continued : Bool

abbrev pub http_state_code : Coded HttpStateView
http_state_code =
    code_by (Lane × (Bool × (Bool × (Bool × (Bool × Bool)))))
    (coded× lane_code (coded× coded_bool (coded× coded_bool (coded× coded_bool (coded× coded_bool coded_bool)))))
    (λ a. (a.lane, (a.busy, (a.has_unparsed, (a.last_read_was_full, (a.awaits_continue, a.continued))))))
    (λ p. record {
      lane = p.0;
      busy = p.1.0;
      has_unparsed = p.1.1.0;
      last_read_was_full = p.1.1.1.0;
      awaits_continue = p.1.1.1.1.0;
      continued = p.1.1.1.1.1;
    })
    (λ _. refl)

-- the bytes held are the beginning of a request
abbrev pub IsWaiting : Lane → Type 0
IsWaiting lane =
    WaitsForHead request_grammar lane.held ⊎ ((expects : Bool) × WaitsForBody request_grammar lane.held lane.want expects)

-- what holds of every lane of requests: it was refused for what it holds, further requests may come if none waits for its reply, if it
-- was looked at, it holds the beginning of a request, and each 100 that was due there was taken
pub record IsHttpState (lane : Lane) (busy has_unparsed : Bool) : Type 0 where
  pub refused : (refusal : Refusal) → lane.spent ≡ Some refusal → Refuses request_grammar lane.held refusal
  pub unended : busy ≡ false → lane.ended ≡ false
  pub looked : has_unparsed ≡ false → (lane.spent ≡ None) × IsWaiting lane
  pub taken : lane.due ≡ false

-- how many bytes are read at once
abbrev pub room_of : Lane → ℕ
room_of lane = min (room lane) PIECE

-- the request that is heard, if one is
abbrev pub requests_of : Input → List Request
requests_of (input.Request request) = request ∷ []
requests_of _ = []

-- a read: the bytes that it gave stand after those held, and the answer is false if the wire broke
pub record ReadsInto (wire : ℕ) (before after : HttpStateView) (answers : List Answer) (is_whole : Bool) : Type 0 where
  pub got : Option (List ℕ)
  pub read : Gives wire (room_of before.lane) answers got
  pub asked : IsAsked (room_of before.lane) answers
  pub whole : is_whole ≡ is_some got
  pub busy : after.busy ≡ before.busy
  pub continued : after.continued ≡ before.continued
  pub full : after.last_read_was_full ≡ is_full_after (room_of before.lane) answers got before.last_read_was_full
  pub asks : (bytes : List ℕ) (requests : List Request) → Asks bytes requests before.lane.held
      → Asks (bytes ++ bytes_of got) requests after.lane.held

-- a look that finds no request: a 100 is to be said if one was, or if the head of the request was read in this look, expects one, and
-- the body isn't whole
abbrev pub AwaitsAfter : HttpStateView → HttpStateView → Type 0
AwaitsAfter before after =
    (WaitsForHead request_grammar before.lane.held × (after.awaits_continue ≡ before.awaits_continue))
    ⊎ ((expects : Bool) × WaitsForBody request_grammar before.lane.held after.lane.want expects
    × (after.awaits_continue ≡ (before.awaits_continue || due_after before.lane.want expects false)))

-- a look for a request in the bytes held, which leaves a lane that waits for a reply as it is
abbrev pub Finds : HttpStateView → HttpStateView → Input → Type 0
Finds before after input.Nothing =
    (after.lane.held ≡ before.lane.held) × (after.busy ≡ before.busy) × (after.busy ≡ false → IsWaiting after.lane)
    × ((after ≡ before) ⊎ ((1 ≤ room after.lane) × AwaitsAfter before after)) × (before.busy ≡ true → after ≡ before)
    × (after.continued ≡ before.continued) × (after.last_read_was_full ≡ before.last_read_was_full)
Finds before after (input.Request request) =
    (before.busy ≡ false) × (after.busy ≡ true) × (after.continued ≡ before.continued) × (after.last_read_was_full ≡ before.last_read_was_full)
Finds before after (input.Refused refusal) =
    (after.lane.held ≡ before.lane.held) × (before.busy ≡ false) × (after.busy ≡ false) × Refuses request_grammar before.lane.held refusal
    × (after.continued ≡ before.continued) × (after.last_read_was_full ≡ before.last_read_was_full)
Finds before after (input.Response status body) = ⊥
Finds before after input.Upgraded = ⊥
Finds before after (input.Message bytes) = ⊥
Finds before after input.Broken = ⊥
Finds before after input.Gone = ⊥

-- something may be heard at once: there may be a request, or more bytes to read
abbrev pub is_awake : HttpStateView → Bool
is_awake http_state = (http_state.has_unparsed && not http_state.busy) || (http_state.last_read_was_full && nat_lt 0 (room_of http_state.lane))

-- nothing is to be heard before more bytes come, and no 100 is to be said; and there is room for all that one read may give
pub record IsCalm (http_state : HttpStateView) : Type 0 where
  pub asleep : is_awake http_state ≡ false
  pub undue : http_state.awaits_continue ≡ false
  pub waiting : http_state.busy ≡ false → IsWaiting http_state.lane
  pub room : room_of http_state.lane ≡ PIECE

-- the input is that of the bytes held
abbrev pub IsInput : HttpStateView → HttpStateView → List Answer → Option (List ℕ) → Input → Type 0
IsInput before after answers got input.Nothing =
    (is_some got ≡ true) × IsAsked (room before.lane) answers × (after.busy ≡ before.busy) × (after.busy ≡ false → IsWaiting after.lane)
IsInput before after answers got (input.Request request) = (is_some got ≡ true) × (before.busy ≡ false) × (after.busy ≡ true)
IsInput before after answers got (input.Refused refusal) =
    (is_some got ≡ true) × (before.busy ≡ false) × (after.busy ≡ false) × Refuses request_grammar after.lane.held refusal
IsInput before after answers got (input.Response status body) = ⊥
IsInput before after answers got input.Upgraded = ⊥
IsInput before after answers got (input.Message bytes) = ⊥
IsInput before after answers got input.Broken = (got ≡ None) × (after.busy ≡ before.busy)
IsInput before after answers got input.Gone = ⊥

-- One turn: the wire is read at most once, and what is heard is what all bytes say that were read. It is a request only if none waits for
-- its reply, and nothing only if the wire was read, if there was room, and what is held is the beginning of a request.
pub record HearsHttp (wire : ℕ) (before after : HttpStateView) (answers : List Answer) (heard : Input) : Type 0 where
  -- the lane when it is read
  pub mid : Lane
  pub held : mid.held ≡ before.lane.held
  pub busy : before.busy ≡ true → mid ≡ before.lane
  pub got : Option (List ℕ)
  pub read : Gives wire (room_of mid) answers got
  pub asks : (bytes : List ℕ) (requests : List Request) → Asks bytes requests before.lane.held
      → Asks (bytes ++ bytes_of got) (requests ++ requests_of heard) after.lane.held
  pub is_input : IsInput before after answers got heard
  pub continued : after.continued ≡ before.continued
  -- whether the last read filled its room is known by this one, if there was one
  pub full : after.last_read_was_full ≡ is_full_after (room_of mid) answers got before.last_read_was_full
