-- What is answered where memory lasts.
use Rattle.std.proofs.Common.{Result, Ok, Err, IfOk}
use Rattle.hm_message.specs.declared.message.Codec.{Codec}
use Rattle.hm_message.specs.declared.message.Codec.TheVariants.{Json, Pack}
use Rattle.hm_message.specs.declared.message.Message.{Message}
use Rattle.hm_codec.specs.Frames.{Says, frame_of, said_again}
use Rattle.hm_codec.specs.Laws.{FramesHaveOneMeaning}
use Rattle.hd_delivery.specs.Worlds.{IsAsRead}
use Rattle.ha_audit.specs.Grammar.{HasText}

-- what follows of an answer
pub if_ok : {A E : Type 0} (P Q : A → Type 0) (r : Result A E) → ((v : A) → P v → Q v) → IfOk r P → IfOk r Q
if_ok P Q (Ok v) f p = f v p
if_ok P Q (Err e) f p = tt

-- a message that a line tells is as it is read, in either codec
pub as_read : FramesHaveOneMeaning → (codec : Codec) (m : Message) → HasText m → Says codec (frame_of codec m) (said_again codec m) → IsAsRead codec m
as_read meaning Json m text again = (meaning Json (frame_of Json m)).one_message (said_again Json m) m again text.said
as_read meaning Pack m text again = tt
