-- What is said on a link, frame by frame.
-- The messages and their names are those of HubProtocol.md, "Overview". This project's own rules: which messages are numbered; that
-- numbers begin with 1, so that the handshake counts as the Sequence of 1; that a Sequence may stand anywhere on a link and says the next
-- number anew; that it may also tell how much its writer has processed (version 3); the reasons and their texts.
use Rattle.std.specs.Prelude.{ℕ, suc, ℤ, max, Bool, List, [], ◌∷◌, fold, codes, Option, Some, None}
use Rattle.hm_message.specs.declared.message.Codec.{Codec}
use Rattle.hm_message.specs.declared.message.Message.{Message}
use Rattle.hm_message.specs.declared.message.Message.TheVariants as message
use Rattle.hd_delivery.specs.declared.vocabulary.Reason.{Reason}
use Rattle.hd_delivery.specs.declared.vocabulary.Reason.TheVariants.{Done, Protocol, InUse, TooMany, Flood, Slow, Expired}

-- one frame of a link, as its reader takes it
pub data LinkFrame : Type 0 where
  Request : (codec : Codec) → (version : ℕ) → LinkFrame  -- the client's handshake
  Response : LinkFrame  -- the server's handshake
  Refusal : (text : List ℕ) → LinkFrame  -- the server's answer to a request that it refuses
  Numbered : (m : Message) → LinkFrame  -- a sequenced message
  Ack : (upto : ℕ) → LinkFrame
  Sequence : (first : ℕ) → (received : Option ℕ) → LinkFrame
  Ping : LinkFrame
  Close : (error : Option (List ℕ)) → (allow : Bool) → LinkFrame
  Foreign : (n : ℤ) → LinkFrame  -- of a type that no message has
  Strange : (why answer : List ℕ) → LinkFrame  -- refused as a handshake, in the words of a report, with the text that a server answers
  Unreadable : (at : ℕ) → (why : List ℕ) → LinkFrame  -- refused at this place of the link, in the words of a report

-- what a message is on a link
abbrev pub frame_of : Message → LinkFrame
frame_of message.Ping = Ping
frame_of (message.Close error allow) = Close error allow
frame_of (message.Ack upto) = Ack upto
frame_of (message.Sequence first received) = Sequence first received
frame_of m = Numbered m

-- the error of the Close that tells the reason
abbrev pub error_of : Reason → Option (List ℕ)
error_of Done = None
error_of Protocol = Some (codes "Protocol error.")
error_of InUse = Some (codes "Id in use.")
error_of TooMany = Some (codes "Too many calls.")
error_of Flood = Some (codes "Too many inputs.")
error_of Slow = Some (codes "Too slow.")
error_of Expired = Some (codes "Connection expired.")

-- ---- the numbers of sequenced messages

-- where the next message has a number, the one after it
abbrev pub one_more : Option ℕ → Option ℕ
one_more None = None
one_more (Some n) = Some (suc n)

-- the number of the next sequenced message, after one more frame
abbrev pub count : Option ℕ → LinkFrame → Option ℕ
count n (Request codec version) = Some 1
count n Response = Some 1
count n (Sequence first received) = Some first
count n (Numbered m) = one_more n
count n _ = n

-- the number of the sequenced message that comes next after these frames of a link, where it has one
abbrev pub number : List LinkFrame → Option ℕ
number frames = fold count None frames

-- ---- how much of the other end's messages is told

-- what a Sequence tells as received, where nothing counts as 0
abbrev pub received_of : Option ℕ → ℕ
received_of None = 0
received_of (Some n) = n

-- how many messages a frame tells to be processed
abbrev pub told_count : LinkFrame → ℕ
told_count (Ack upto) = upto
told_count (Sequence first received) = received_of received
told_count _ = 0

-- the most that is told in these frames
abbrev pub most_told : List LinkFrame → ℕ
most_told [] = 0
most_told (f ∷ frames) = max (told_count f) (most_told frames)
