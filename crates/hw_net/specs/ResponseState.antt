-- A lane that asked and awaits its response, and what it hears in one turn.
use Rattle.std.specs.Prelude.{◌≡◌, ◌≢◌, ◌⊎◌, ◌&&◌, ◌||◌, ℕ, Bool, true, false, not, nat_lt, min, if◌then◌else◌, List, [], ◌++◌, Option, None, Some, is_some, refl}
use Rattle.std.specs.Coded.{Coded, code_by, coded×, coded_bool, coded_option}
use Rattle.hw_lanes.specs.declared.http.Refusal.{Refusal}
use Rattle.hh_http.specs.Lane.{Lane, lane_code, room}
use Rattle.hh_http.specs.Messages.{WaitsForHead, WaitsForBody, Begins, Refuses}
use Rattle.hh_http.specs.Responses.{response_grammar}
use Rattle.hh_http.specs.declared.response.Response.{Response}
use Rattle.hw_door.specs.Traffic.{Answer}
use Rattle.hw_net.specs.contracts.response_state.Expected as expected_type
use Rattle.hw_net.specs.declared.response_state.Expected.{Expected}
use Rattle.hw_net.specs.declared.limits.TheConstants.{PIECE, SWITCHING}
use Rattle.hw_net.specs.declared.input.Input.{Input}
use Rattle.hw_net.specs.declared.input.Input.TheVariants as input
use Rattle.hw_net.specs.Input.{is_upgraded}
use Rattle.hw_net.specs.Trace.{Gives, IsAsked, bytes_of, is_full_after}

pub record ResponseStateView : Type 0 where
  -- the bytes held, and what was made of them
  pub lane : Lane
  -- the upgrade that was asked for, if one was
  pub upgrade : Option Expected
  -- the response came, or what came is none, so no other is looked for
  pub concluded : Bool
  -- the response accepted the upgrade, which is still to be made
  pub accepted : Bool
  -- the bytes held may hold a response that wasn't looked for
  pub has_unparsed : Bool
  -- the last read filled the room that it had, or there was none
  pub last_read_was_full : Bool

abbrev pub response_state_code : Coded ResponseStateView
response_state_code =
    code_by (Lane × (Option Expected × (Bool × (Bool × (Bool × Bool)))))
    (coded× lane_code (coded× (coded_option expected_type.the_row.coded) (coded× coded_bool (coded× coded_bool (coded× coded_bool coded_bool)))))
    (λ a. (a.lane, (a.upgrade, (a.concluded, (a.accepted, (a.has_unparsed, a.last_read_was_full))))))
    (λ p. record {
      lane = p.0;
      upgrade = p.1.0;
      concluded = p.1.1.0;
      accepted = p.1.1.1.0;
      has_unparsed = p.1.1.1.1.0;
      last_read_was_full = p.1.1.1.1.1;
    })
    (λ _. refl)

-- the bytes held are the beginning of a response
abbrev pub IsWaiting : Lane → Type 0
IsWaiting lane =
    WaitsForHead response_grammar lane.held ⊎ ((expects : Bool) × WaitsForBody response_grammar lane.held lane.want expects)

-- these bytes are
abbrev pub IsBeginning : List ℕ → Type 0
IsBeginning bytes =
    WaitsForHead response_grammar bytes ⊎ ((want : ℕ) × (expects : Bool) × WaitsForBody response_grammar bytes want expects)

-- what holds of every lane that asked: while its response didn't come it may still come, and if the bytes held were looked at, they are its
-- beginning; and an upgrade that was accepted was asked for
pub record IsResponseState (lane : Lane) (upgrade : Option Expected) (concluded accepted has_unparsed : Bool) : Type 0 where
  pub unspent : concluded ≡ false → (lane.spent ≡ None) × (lane.ended ≡ false)
  pub looked : concluded ≡ false → has_unparsed ≡ false → IsWaiting lane
  pub asked : accepted ≡ true → is_some upgrade ≡ true

-- how many bytes are read at once: none once the upgrade was accepted, as what follows is read by its WebSocket
abbrev pub room_of : ResponseStateView → ℕ
room_of response_state = if response_state.accepted then 0 else min (room response_state.lane) PIECE

-- something may be heard at once: the upgrade, there may be a response, or more bytes to read
abbrev pub is_awake : ResponseStateView → Bool
is_awake response_state =
    response_state.accepted
    || ((response_state.has_unparsed && not response_state.concluded) || (response_state.last_read_was_full && nat_lt 0 (room_of response_state)))

-- What a whole response is heard as, where this upgrade was asked for, or none. A 101 is the upgrade if its text accepts that, and it has no body; and
-- else it breaks the lane. Where none was asked for a 101 is a response as any other.
abbrev pub Concludes : Option Expected → Response → Input → Type 0
Concludes upgrade response (input.Response status body) =
    (status ≡ response.status) × (body ≡ response.body) × (is_some upgrade ≡ true → response.status ≢ SWITCHING)
Concludes upgrade response input.Upgraded =
    (expected : Expected) × (upgrade ≡ Some expected) × (response.status ≡ SWITCHING) × (response.accept ≡ Some expected.accept) × (response.body ≡ [])
Concludes upgrade response input.Broken =
    (expected : Expected) × (upgrade ≡ Some expected) × (response.status ≡ SWITCHING)
    × ((response.accept ≢ Some expected.accept) ⊎ (response.body ≢ []))
Concludes upgrade response _ = ⊥

-- the bytes begin with a whole response that is heard as this, and this is what it leaves
abbrev pub Answers : Option Expected → List ℕ → List ℕ → Input → Type 0
Answers upgrade bytes rest heard = (response : Response) × Begins response_grammar bytes response rest × Concludes upgrade response heard

-- the bytes begin with no response, or with a 101 that isn't the upgrade that was asked for
abbrev pub Fails : Option Expected → List ℕ → Type 0
Fails upgrade bytes =
    ((refusal : Refusal) × Refuses response_grammar bytes refusal) ⊎ ((rest : List ℕ) × Answers upgrade bytes rest input.Broken)

-- what the bytes are heard as
abbrev pub Comes : Option Expected → List ℕ → List ℕ → Input → Type 0
Comes upgrade bytes rest (input.Response status body) = Answers upgrade bytes rest (input.Response status body)
Comes upgrade bytes rest input.Upgraded = Answers upgrade bytes rest input.Upgraded
Comes upgrade bytes rest input.Broken = Fails upgrade bytes
Comes upgrade bytes rest _ = ⊥

-- a read: the bytes that it gave stand after those held, and the answer is false if the wire broke
pub record ReadsInto (wire : ℕ) (before after : ResponseStateView) (answers : List Answer) (is_whole : Bool) : Type 0 where
  pub got : Option (List ℕ)
  pub read : Gives wire (room_of before) answers got
  pub asked : IsAsked (room_of before) answers
  pub whole : is_whole ≡ is_some got
  pub held : after.lane.held ≡ before.lane.held ++ bytes_of got
  pub upgrade : after.upgrade ≡ before.upgrade
  pub concluded : after.concluded ≡ before.concluded
  pub accepted : after.accepted ≡ before.accepted
  pub full : after.last_read_was_full ≡ is_full_after (room_of before) answers got before.last_read_was_full

-- a look for the response in the bytes held, unless it came
abbrev pub Finds : ResponseStateView → ResponseStateView → Input → Type 0
Finds before after input.Nothing =
    (after.upgrade ≡ before.upgrade) × (after.lane.held ≡ before.lane.held) × (after.concluded ≡ before.concluded)
    × (after.accepted ≡ before.accepted) × (after.concluded ≡ false → IsWaiting after.lane) × (after.last_read_was_full ≡ before.last_read_was_full)
Finds before after heard =
    (after.upgrade ≡ before.upgrade) × (before.concluded ≡ false) × (after.concluded ≡ true) × (after.accepted ≡ is_upgraded heard)
    × Comes before.upgrade before.lane.held after.lane.held heard × (after.last_read_was_full ≡ before.last_read_was_full)

-- a look after which no more bytes come: if it finds nothing, the lane is broken
abbrev pub FindsAtEnd : ResponseStateView → ResponseStateView → Input → Type 0
FindsAtEnd before after input.Nothing = ⊥
FindsAtEnd before after input.Broken = Finds before after input.Nothing ⊎ Finds before after input.Broken
FindsAtEnd before after heard = Finds before after heard

-- the response is that of all bytes that were read, and no other came before it
abbrev pub IsAnswered : ResponseStateView → ResponseStateView → Option (List ℕ) → Input → Type 0
IsAnswered before after got heard =
    (before.concluded ≡ false) × (after.concluded ≡ true) × (after.accepted ≡ is_upgraded heard)
    × Comes before.upgrade (before.lane.held ++ bytes_of got) after.lane.held heard

-- The input is that of the bytes held. An upgrade that was accepted, and couldn't be made as memory was out, is heard again.
abbrev pub IsInput : ResponseStateView → ResponseStateView → List Answer → Option (List ℕ) → Input → Type 0
IsInput before after answers got input.Nothing =
    (is_some got ≡ true) × IsAsked (room_of before) answers × (before.accepted ≡ false) × (after.accepted ≡ false)
    × (after.concluded ≡ before.concluded) × (after.lane.held ≡ before.lane.held ++ bytes_of got)
    × (after.concluded ≡ false → IsWaiting after.lane)
IsInput before after answers got input.Upgraded =
    ((before.accepted ≡ true) × (is_some before.upgrade ≡ true) × (after ≡ before)) ⊎ IsAnswered before after got input.Upgraded
IsInput before after answers got input.Broken =
    ((got ≡ None) × (before.concluded ≡ false → IsBeginning before.lane.held)) ⊎ IsAnswered before after got input.Broken
IsInput before after answers got (input.Response status body) = IsAnswered before after got (input.Response status body)
IsInput before after answers got _ = ⊥

-- One turn: the wire is read at most once, and what is heard is what all bytes say that were read. It is a response only if none was heard
-- before, and nothing only if the wire was read, if there was room, and what is held is the beginning of a response, or came after it. So it is, too, if it
-- is heard that the wire broke.
pub record HearsResponse (wire : ℕ) (before after : ResponseStateView) (answers : List Answer) (heard : Input) : Type 0 where
  pub got : Option (List ℕ)
  pub read : Gives wire (room_of before) answers got
  pub upgrade : after.upgrade ≡ before.upgrade
  pub is_input : IsInput before after answers got heard
  -- whether the last read filled its room is known by this one, if there was one
  pub full : after.last_read_was_full ≡ is_full_after (room_of before) answers got before.last_read_was_full
