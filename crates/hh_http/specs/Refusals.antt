-- Refusals, as they are said to the peer.
use Rattle.std.specs.Prelude.{ℕ, Option, None, Some}
use Rattle.hw_lanes.specs.declared.http.Refusal.{Refusal}
use Rattle.hw_lanes.specs.declared.http.ReplyField.TheVariants.{WebSocketVersion}

-- this status, and no field
abbrev pub only_status : ℕ → Refusal
only_status status = record { status = status; field = None }

-- 400, and the version of WebSockets that would be taken (RFC 6455, section 4.4)
abbrev pub other_version : Refusal
other_version = record { status = 400; field = Some WebSocketVersion }
