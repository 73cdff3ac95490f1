-- Worked texts of heads and lines.
use Rattle.std.specs.Prelude.{true}
use Rattle.hm_message.specs.declared.message.Codec.TheVariants.{Json}
use Rattle.hd_delivery.specs.declared.vocabulary.Side.{Side}
use Rattle.hd_trace.specs.declared.trace.ToldStep.{ToldStep}
use Rattle.hd_trace.specs.declared.trace.TraceLine.{TraceLine}
use Rattle.ha_audit.specs.declared.head.Head.{Head}

-- a session of version 2 in JSON that is kept across links, within the limits that scripts have
abbrev pub usual_head : Head
usual_head = record { codec = Json; version = 2; reconnect = true; limits = record { frame = 32768; count = 1024; bytes = 100000 } }

-- a line of this side
abbrev pub told_by : Side → ToldStep → TraceLine
told_by side step = record { side = side; step = step }
