-- What is owed, as code names it.
use Rattle.std.specs.Prelude.{◌≡◌, ◌<◌, max, Option, Some, None, IfSome, is_some, option_map}
use Rattle.hm_message.specs.declared.message.Message.{Message}
use Rattle.hd_delivery.specs.Frames.{LinkFrame, Request, Response, Numbered, Ack, Sequence, Ping}
use Rattle.hd_delivery.specs.Histories.{Config}
use Rattle.hd_delivery.specs.Numbers.{most_of_64_bits}
use Rattle.hd_trace.specs.declared.marks.Marks.{Marks}
use Rattle.hd_trace.specs.declared.owed.Owed.{Owed}
use Rattle.hd_trace.specs.declared.owed.Owed.TheVariants as owed
use Rattle.hd_trace.specs.ByMarks.{close_of}

-- the frame that it is, where this is the next message
abbrev pub owed_frame : Config → Option Message → Option Owed → Option LinkFrame
owed_frame c next None = None
owed_frame c next (Some owed.Request) = Some (Request c.codec c.version)
owed_frame c next (Some owed.Response) = Some Response
owed_frame c next (Some (owed.Sequence first received)) = Some (Sequence first received)
owed_frame c next (Some (owed.Ack upto)) = Some (Ack upto)
owed_frame c next (Some owed.Message) = option_map Numbered next
owed_frame c next (Some owed.Ping) = Some Ping
owed_frame c next (Some (owed.Close farewell)) = Some (close_of farewell)

-- what is owed is this frame, and nothing is owed where there is none
abbrev pub IsOwed : Config → Option Message → Option Owed → Option LinkFrame → Type 0
IsOwed c next owed frame = (frame ≡ owed_frame c next owed) × (is_some frame ≡ is_some owed)

-- the place of the next message, and its number on the link, can be told in 64 bits
pub record HasNextNumbers (m : Marks) : Type 0 where
  pub place : max m.acked m.written < most_of_64_bits
  pub number : IfSome m.said (λ n. n < most_of_64_bits)
