-- What holds of all servers.
use Rattle.std.specs.Prelude.{◌≤◌, ℕ, List, length}
use Rattle.hd_delivery.specs.Frames.{LinkFrame}
use Rattle.hd_delivery.specs.Histories.{codec_of}
use Rattle.hd_delivery.specs.Bytes.{ByteStep, in_frames, spelling_of}
use Rattle.hd_delivery.specs.OneHistory.{IsHistory}
use Rattle.hd_calls.specs.Peers.{Settings}
use Rattle.hd_server.specs.Numbers.{most_polled}
use Rattle.hd_server.specs.Plans.{Setup}
use Rattle.hd_server.specs.Serves.{LendsUpTo}
use Rattle.hub_server.specs.Resend.{ResendLimits}
use Rattle.hub_server.specs.Servers.{IsBegunBy, IsSetup}

-- the body of a poll's reply is within its bound, whatever the end of its connection did
abbrev pub PollsAreBounded : Type 0
PollsAreBounded = (s : Setup) (base : List ℕ) (resend : ResendLimits) (live : ℕ) (t : Settings) (h : List ByteStep) (fs : List LinkFrame)
    → IsSetup s base resend live → IsBegunBy s t → IsHistory t.limits t.wire t.config h → LendsUpTo t.wire t.config (in_frames t.wire t.config h) 0 fs
    → length (spelling_of t.wire (codec_of t.config (in_frames t.wire t.config h)) fs) ≤ most_polled
