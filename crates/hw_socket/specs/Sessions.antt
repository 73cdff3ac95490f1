-- Whole sessions: what one side sends is what the other reads, however its bytes are cut, and what a lane writes ends with one close frame.
use Rattle.std.specs.Prelude.{◌≡◌, ◌≢◌, ◌≤◌, ⊤, ℕ, true, if◌then◌else◌, List, [], ◌∷◌, ◌++◌, length, map, Option, None, Some}
use Rattle.std.specs.List.{All, concat}
use Rattle.hw_socket.specs.declared.vocabulary.SocketSide.{SocketSide}
use Rattle.hw_socket.specs.declared.vocabulary.SocketSide.TheVariants.{Server, Client}
use Rattle.hw_socket.specs.declared.vocabulary.SocketRead.{SocketRead}
use Rattle.hw_socket.specs.declared.vocabulary.SocketRead.TheVariants.{Payload, NotYet, Gone}
use Rattle.hw_socket.specs.declared.vocabulary.TheConstants.{MOST_MESSAGE}
use Rattle.hw_socket.specs.declared.vocabulary.Ending.{Ending}
use Rattle.hw_socket.specs.declared.vocabulary.Ending.TheVariants.{Shut, Answered, TooLong, NotText, Breach, BadText, NoMemory}
use Rattle.hw_socket.specs.Calls.{Call, Session, AreRefused, fed, heard, said, written, is_shut}
use Rattle.hw_socket.specs.Lane.{Lane, fresh_lane}
use Rattle.hw_socket.specs.Reading.{Feeds, Takes}
use Rattle.hw_socket.specs.Sending.{Sent, Says, after_shut}
use Rattle.hw_socket.specs.Streams.{Frame, stream, messages, AreLegal, ClosesAs}

-- the other side takes it
abbrev pub IsShortEnough : Sent → Type 0
IsShortEnough m = length m.bytes ≤ MOST_MESSAGE

-- the messages were sent one after another, and each was taken
abbrev pub SendsAll : Lane → List Sent → Lane → Type 0
SendsAll lane [] next = next ≡ lane
SendsAll lane (m ∷ ms) next = (mid : Lane) × Says lane mid m.bytes m.is_text true × SendsAll mid ms next

-- there is no more to read for now
abbrev pub IsLast : SocketRead → Type 0
IsLast (Payload bytes) = ⊥
IsLast NotYet = ⊤
IsLast Gone = ⊤

-- a lane was read until there was no more, and gave these payloads
abbrev pub Drains : Lane → List (List ℕ) → Lane → Type 0
Drains lane [] next = (answer : SocketRead) × Takes lane next answer × IsLast answer
Drains lane (bytes ∷ more) next = (mid : Lane) × Takes lane mid (Payload bytes) × Drains mid more next

-- pieces were fed one after another, and after each the lane was read until there was no more: it gave these payloads in all
abbrev pub Hears : Lane → List (List ℕ) → List (List ℕ) → Lane → Type 0
Hears lane [] payloads next = (payloads ≡ []) × (next ≡ lane)
Hears lane (piece ∷ pieces) payloads next =
    (fed : Lane) × (mid : Lane) × (first : List (List ℕ)) × (later : List (List ℕ))
    × Feeds lane piece fed × Drains fed first mid × Hears mid pieces later next × (payloads ≡ first ++ later)

-- from a fresh lane to a fresh lane of the other side, any messages within the limit come as they are, in order, whatever the pieces are
-- in which the sender's bytes are fed, and the reader isn't gone, has nothing left and has nothing to write
abbrev pub IsHeardBy : SocketSide → SocketSide → Type 0
IsHeardBy sender reader =
    (messages : List Sent) → All IsShortEnough messages → (sent : Lane) → SendsAll (fresh_lane sender) messages sent
    → (pieces : List (List ℕ)) → concat pieces ≡ sent.out.bytes → (payloads : List (List ℕ)) → (heard : Lane) → Hears (fresh_lane reader) pieces payloads heard
    → (payloads ≡ map (λ (m : Sent). m.bytes) messages) × (heard ≡ fresh_lane reader)

-- a server hears a client
abbrev pub ClientsAreHeard : Type 0
ClientsAreHeard = (seed : List ℕ) → IsHeardBy (Client seed) Server

-- a client hears a server
abbrev pub ServersAreHeard : Type 0
ServersAreHeard = (seed : List ℕ) → IsHeardBy Server (Client seed)

-- ---- sessions of any calls

-- a lane that is gone stays gone for the same cause. It reads and sends nothing, and writes at most the close frame with the status of
-- that cause: the first time that it is shut, unless one was written before.
abbrev pub EndsOnce : Type 0
EndsOnce =
    (lane next : Lane) (why : Ending) (calls : List Call) → lane.ending ≡ Some why → Session lane calls next
    → (next.ending ≡ Some why) × AreRefused calls × (written calls next ≡ (if is_shut calls then (after_shut lane).out.bytes else lane.out.bytes))

-- what left a lane and then what waits in its `out` are whole frames in their order: the messages that it took, pongs, and at most one
-- close frame, which is the last
abbrev pub WritesFrames : Type 0
WritesFrames =
    (side : SocketSide) (calls : List Call) (next : Lane) → Session (fresh_lane side) calls next
    → (frames : List Frame) × (written calls next ≡ stream side 0 frames) × (messages frames ≡ said calls) × AreLegal frames
    × ClosesAs next.ending (is_shut calls) frames

-- the other side did nothing wrong
abbrev pub IsFair : Option Ending → Type 0
IsFair None = ⊤
IsFair (Some Shut) = ⊤
IsFair (Some Answered) = ⊤
IsFair (Some TooLong) = ⊥
IsFair (Some NotText) = ⊥
IsFair (Some Breach) = ⊥
IsFair (Some BadText) = ⊤
IsFair (Some NoMemory) = ⊤

-- the reader was fed what the sender wrote, up to a place, in any pieces. It heard the sender's messages in their order, but for some at
-- the end, and found nothing wrong. Once it was fed all and waits for more, it has heard all, and nothing is left unread. It heard all as
-- well if it met a close frame, and then the sender is gone.
abbrev pub IsHeardInSession : SocketSide → SocketSide → Type 0
IsHeardInSession from to =
    (sending : List Call) (sender : Lane) → Session (fresh_lane from) sending sender → All IsShortEnough (said sending)
    → (reading : List Call) (reader : Lane) → Session (fresh_lane to) reading reader → (more : List ℕ) → fed reading ++ more ≡ written sending sender
    → (later : List Sent) × (map (λ (m : Sent). m.bytes) (said sending) ≡ heard reading ++ map (λ (m : Sent). m.bytes) later) × IsFair reader.ending
    × (more ≡ [] → Takes reader reader NotYet → (later ≡ []) × (reader.unread ≡ []))
    × (reader.ending ≡ Some Answered → (later ≡ []) × (sender.ending ≢ None))

-- a server and a client hear each other, whatever each of them does meanwhile
abbrev pub SessionsAreHeard : Type 0
SessionsAreHeard = (seed : List ℕ) → IsHeardInSession (Client seed) Server × IsHeardInSession Server (Client seed)
