-- An end stands for what it did: what it keeps is what the whole history says.
use Rattle.std.specs.Prelude.{◌≡◌, ℕ, Bool, true, false, List, Some, if◌then◌else◌}
use Rattle.hf_split.specs.declared.framing.Framing.TheVariants.{Record}
use Rattle.hf_split.specs.Held.{Held, place_of}
use Rattle.hm_codec.specs.Frames.{framing_of}
use Rattle.hd_delivery.specs.declared.vocabulary.Side.{Side}
use Rattle.hd_delivery.specs.declared.vocabulary.Side.TheVariants.{Client, Server}
use Rattle.hd_delivery.specs.Worlds.{Limits}
use Rattle.hd_delivery.specs.Histories as of
use Rattle.hd_delivery.specs.Histories.{EndEvent, present_link, sent_messages, codec_of, is_shaken, is_closed}
use Rattle.hd_delivery.specs.Bytes.{Wire, ByteStep, in_frames, unread, read_count}
use Rattle.hd_delivery.specs.OneHistory.{IsHistory}
use Rattle.he_wire.specs.Wires.{IsHouseWire, AreSaid}
use Rattle.he_end.specs.declared.config.Config.{Config}
use Rattle.he_end.specs.declared.end.End.{End}
use Rattle.he_end.specs.Remembers.{Remembers}

-- how a side is begun
abbrev pub begun : Side → Config → of.Config
begun side config = record { side = side; codec = config.codec; version = config.version; reconnect = config.reconnect }

-- a client has its codec from the start
abbrev pub is_client : Side → Bool
is_client Client = true
is_client Server = false

-- the limits of an end
abbrev pub limits_of : End → Limits
limits_of e = e.session.ring.limits

-- the splitter holds what is unread of the link l, and looks for its next frame
pub record HoldsUnread (wire : Wire) (c : of.Config) (held : Held) (h : List ByteStep) (l : ℕ) : Type 0 where
  pub bytes : held.bytes ≡ unread wire c l h
  pub place : held.place ≡ place_of (read_count wire c l h)
  pub framing : held.framing ≡ (if is_shaken (in_frames wire c h) then framing_of (codec_of c (in_frames wire c h)) else Record)

-- the end stands for this history of one that was begun so, over this project's wire
pub record Stands (wire : Wire) (c : of.Config) (e : End) (h : List ByteStep) : Type 0 where
  pub house : IsHouseWire (limits_of e).frame wire
  pub history : IsHistory (limits_of e) wire c h
  pub remembers : Remembers c e.session (in_frames wire c h)
  pub most : e.splitter.most ≡ (limits_of e).frame
  pub reads : (l : ℕ) → present_link (in_frames wire c h) ≡ Some l → is_closed c (in_frames wire c h) ≡ false → HoldsUnread wire c e.splitter h l
  pub said : AreSaid (codec_of c (in_frames wire c h)) (sent_messages (in_frames wire c h))
