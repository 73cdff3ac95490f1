-- What reads of a lane do.
use Rattle.std.specs.Prelude.{◌≡◌, ◌≢◌, ◌⊎◌, ⊤, true, ℕ, List, [], ◌∷◌, ◌++◌, ◌≤◌, ◌<◌, length, drop, Option, None, Some, Result, Ok, Err}
use Rattle.websocket.specs.declared.error.Error.{Error}
use Rattle.websocket.specs.declared.protocol.frame.codec.FrameStatus.{FrameStatus}
use Rattle.websocket.specs.declared.protocol.frame.codec.FrameStatus.TheVariants.{Partial, Complete}
use Rattle.websocket.specs.Connection.{Connection, Effect, IsDoneSending, read_step, failed_connection}
use Rattle.websocket.specs.Content.{Content}
use Rattle.hw_socket.specs.declared.vocabulary.Ending.{Ending}
use Rattle.hw_socket.specs.declared.vocabulary.SocketRead.{SocketRead}
use Rattle.hw_socket.specs.declared.vocabulary.SocketRead.TheVariants.{Payload, NotYet, Gone}
use Rattle.hw_socket.specs.declared.vocabulary.TheConstants.{MOST_MESSAGE, MOST_FRAME}
use Rattle.hw_socket.specs.Closing.{ending_of}
use Rattle.hw_socket.specs.Lane.{Lane}
use Rattle.hw_socket.specs.Masks.{Written, after_reply}
use Rattle.hw_socket.specs.Messages.{IsSilent, Carries, closes}

-- the state and the frames after a read of one frame that is allowed: to wait changes nothing
abbrev pub Leaves : Result (FrameStatus (ℕ × Effect)) Error → (before after : Connection) → (old new : Written) → Type 0
Leaves (Err e) before after old new = ⊥
Leaves (Ok (Partial needed)) before after old new = (after ≡ before) × (new ≡ old)
Leaves (Ok (Complete p)) before after old new = (after ≡ p.1.next) × (new ≡ after_reply old p.1.reply)

-- the piece stands after the unread bytes, and all else is as before
abbrev pub Feeds : Lane → List ℕ → Lane → Type 0
Feeds lane piece next = next ≡ record lane { unread = lane.unread ++ piece }

-- what the protocol finds in front of the unread bytes: p.0 bytes are a frame, which does p.1
abbrev pub Finds : Lane → (ℕ × Effect) → Type 0
Finds lane p = read_step lane.conn lane.unread ≡ Ok (Complete p)

-- the lane after this frame: it is taken, and what it asks for is appended
abbrev pub after_taking : Lane → (ℕ × Effect) → Lane
after_taking lane p = record lane { conn = p.1.next; unread = drop p.0 lane.unread; out = after_reply lane.out p.1.reply }

-- the lane after the protocol refused what came
abbrev pub after_refusal : Lane → Error → Lane
after_refusal lane e = record lane { conn = failed_connection lane.conn; unread = []; ending = Some (ending_of e) }

-- one step of the protocol on a lane that isn't gone: no answer yet, or the answer
abbrev pub Steps : Lane → Lane → Option SocketRead → Type 0
Steps lane next None = (p : ℕ × Effect) × Finds lane p × IsSilent p.1.message × (next ≡ after_taking lane p)
Steps lane next (Some (Payload bytes)) = (p : ℕ × Effect) × Finds lane p × Carries p.1.message bytes × (next ≡ after_taking lane p)
Steps lane next (Some NotYet) = (n : ℕ) × (read_step lane.conn lane.unread ≡ Ok (Partial n)) × (next ≡ lane)
Steps lane next (Some Gone) =
    ((p : ℕ × Effect) × Finds lane p × (closes p.1.message ≡ true) × (next ≡ record (after_taking lane p) { ending = Some Ending.Answered }))
    ⊎ ((e : Error) × (read_step lane.conn lane.unread ≡ Err e) × (next ≡ after_refusal lane e))

-- frames that gave a ping, a pong or a fragment were taken, one after another
abbrev pub Passes : Lane → List (ℕ × Effect) → Lane → Type 0
Passes lane [] next = next ≡ lane
Passes lane (p ∷ ps) next = Finds lane p × IsSilent p.1.message × Passes (after_taking lane p) ps next

-- one read. A lane that is gone stays as it is. Another takes silent frames, and then comes the step that gives the answer.
abbrev pub Takes : Lane → Lane → SocketRead → Type 0
Takes lane next answer =
    ((lane.ending ≢ None) × (next ≡ lane) × (answer ≡ Gone))
    ⊎ ((lane.ending ≡ None) × ((ps : List (ℕ × Effect)) × (mid : Lane) × Passes lane ps mid × Steps mid next (Some answer)))

-- memory ran out here: what waits to be written stays, the lane is gone, and its close frame is still to be written
abbrev pub LosesHere : Lane → Lane → Type 0
LosesHere lane next = (next.out ≡ lane.out) × (next.ending ≡ Some Ending.NoMemory) × ¬ (IsDoneSending next.conn.state)

-- a read that was out of memory, of a lane that wasn't gone: silent frames were taken before
abbrev pub Loses : Lane → Lane → Type 0
Loses lane next = (lane.ending ≡ None) × ((ps : List (ℕ × Effect)) × (mid : Lane) × Passes lane ps mid × LosesHere mid next)

-- a payload is within the limit
abbrev pub IsWithin : SocketRead → Type 0
IsWithin (Payload bytes) = length bytes ≤ MOST_MESSAGE
IsWithin NotYet = ⊤
IsWithin Gone = ⊤

-- where a read waits for more, less than the longest frame is unread
abbrev pub HasLittleLeft : Lane → SocketRead → Type 0
HasLittleLeft lane (Payload bytes) = ⊤
HasLittleLeft lane NotYet = length lane.unread < MOST_FRAME
HasLittleLeft lane Gone = ⊤

-- what a frame's message is to the caller: nothing, a payload, or the end
abbrev pub Shows : Option Content → Option SocketRead → Type 0
Shows message None = IsSilent message
Shows message (Some (Payload bytes)) = Carries message bytes
Shows message (Some NotYet) = ⊥
Shows message (Some Gone) = closes message ≡ true

-- why a lane is gone once a frame gave this
abbrev pub ending_after : {E : Type 0} → Result (Option SocketRead) E → Option Ending
ending_after (Ok None) = None
ending_after (Ok (Some (Payload bytes))) = None
ending_after (Ok (Some NotYet)) = None
ending_after (Ok (Some Gone)) = Some Ending.Answered
ending_after (Err e) = Some Ending.NoMemory
