-- Why an end doesn't take a message that is to be sent: the first of these that holds.
-- This project's own rules: the limits of what is held, and 2^62 messages at most.
use Rattle.std.specs.Prelude.{◌≡◌, ℕ, ◌<◌, ◌≤◌, true, false, List, length, sum_by}
use Rattle.hm_message.specs.declared.message.Message.{Message}
use Rattle.hd_delivery.specs.Numbers.{most_messages}
use Rattle.hd_delivery.specs.Histories.{Config, EndEvent, sent_messages, codec_of, is_shaken, is_closed, held_messages}
use Rattle.hd_delivery.specs.Worlds.{Limits, Sizes, HasRoom}

pub data SendRefusal : Type 0 where
  Opening : SendRefusal  -- the handshake isn't complete
  Closed : SendRefusal
  TooLong : (size : ℕ) → SendRefusal  -- the frame, without its framing, passes the limit
  Full : (held bytes size : ℕ) → SendRefusal  -- so many messages and bytes are held, and the framed frame has this size
  Exhausted : SendRefusal  -- the most messages were sent

-- the end can send, and the message's frame is within the limit
pub record IsSendable (limits : Limits) (sizes : Sizes) (c : Config) (k : List EndEvent) (m : Message) : Type 0 where
  pub unclosed : is_closed c k ≡ false
  pub shakes : is_shaken k ≡ true
  pub short : sizes.frame (codec_of c k) m ≤ limits.frame

-- the message isn't taken for this reason
abbrev pub IsRefusedToSend : Limits → Sizes → Config → List EndEvent → Message → SendRefusal → Type 0
IsRefusedToSend limits sizes c k m Opening = (is_shaken k ≡ false) × (is_closed c k ≡ false)
IsRefusedToSend limits sizes c k m Closed = is_closed c k ≡ true
IsRefusedToSend limits sizes c k m (TooLong size) =
    (is_closed c k ≡ false) × (is_shaken k ≡ true) × (size ≡ sizes.frame (codec_of c k) m) × (limits.frame < size)
IsRefusedToSend limits sizes c k m (Full held bytes size) =
    IsSendable limits sizes c k m × (held ≡ length (held_messages c k)) × (bytes ≡ sum_by (sizes.framed (codec_of c k)) (held_messages c k))
    × (size ≡ sizes.framed (codec_of c k) m) × (HasRoom limits sizes c k size → ⊥)
IsRefusedToSend limits sizes c k m Exhausted =
    IsSendable limits sizes c k m × HasRoom limits sizes c k (sizes.framed (codec_of c k) m) × (most_messages ≤ length (sent_messages k))
