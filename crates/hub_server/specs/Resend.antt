-- How much the ends of a server hold.
use Rattle.std.specs.Prelude.{◌+◌, ◌≤◌, ℕ, List}
use Rattle.hd_delivery.specs.Bounds.{most_count}
use Rattle.hd_delivery.specs.Bytes.{Wire}
use Rattle.hd_delivery.specs.Numbers.{most_framing}
use Rattle.hd_delivery.specs.Worlds.{Limits}
use Rattle.hd_server.specs.Numbers.{most_frame, most_held, most_held_bytes}
use Rattle.hd_server.specs.Plans.{Setup, usual_setup}

-- the greatest limit of the bytes held, framing included
abbrev pub most_resend_bytes : ℕ
most_resend_bytes = 524288

-- the most messages that an end holds, and the most framed bytes
pub record ResendLimits : Type 0 where
  pub count : ℕ
  pub bytes : ℕ

abbrev pub usual_resend : ResendLimits
usual_resend = record { count = most_held; bytes = most_held_bytes }

-- each is in range; a frame of the greatest size can be held
pub record AreResendLimits (resend : ResendLimits) : Type 0 where
  pub count_not_less : 1 ≤ resend.count
  pub count_not_more : resend.count ≤ most_count
  pub bytes_not_less : most_frame + most_framing ≤ resend.bytes
  pub bytes_not_more : resend.bytes ≤ most_resend_bytes

-- the limits of an end. Those of a frame are the same for all servers
abbrev pub limits_with : ResendLimits → Limits
limits_with resend = record { frame = most_frame; count = resend.count; bytes = resend.bytes }

-- the setup of every server with this base and wire whose ends hold so much, and of whose connections so many may live
abbrev pub setup_with : List ℕ → Wire → ResendLimits → ℕ → Setup
setup_with base wire resend live = record (usual_setup base wire) { limits = limits_with resend; live = live }
