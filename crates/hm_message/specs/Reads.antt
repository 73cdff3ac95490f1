-- What holds of what was read, if that is a message or of an unknown type.
use Rattle.std.specs.Prelude.{ℤ}
use Rattle.hm_message.specs.declared.message.Message.{Message}
use Rattle.hm_message.specs.declared.message.Read.{Read}
use Rattle.hm_message.specs.declared.message.Read.TheVariants as read

abbrev pub MessageIs : Read → (Message → Type 0) → Type 0
MessageIs (read.Message m) P = P m
MessageIs (read.Unknown n) P = Unit {0}

abbrev pub UnknownIs : Read → (ℤ → Type 0) → Type 0
UnknownIs (read.Message m) P = Unit {0}
UnknownIs (read.Unknown n) P = P n
