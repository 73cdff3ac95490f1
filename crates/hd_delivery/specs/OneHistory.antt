-- The histories that one end can make by itself, whatever is on the other side of its links, and the bytes that it hasn't dealt with.
use Rattle.std.specs.Prelude.{ℕ, ◌&&◌, ◌==◌, List, [], ◌∷◌, Option, Some, None, if◌then◌else◌}
use Rattle.hd_delivery.specs.Frames.{LinkFrame, Unreadable}
use Rattle.hd_delivery.specs.Histories.{EndEvent, Fed, Config, is_this, first_link, as_told, taken_count, codec_of}
use Rattle.hd_delivery.specs.Worlds.{Limits, MayDo}
use Rattle.hd_delivery.specs.Bytes.{Reading, Waits, Reads, Refuses, Stops, Wire, sizes_of, ByteStep, Bytes, Does, in_frames, MayHearBytes}

-- ---- which steps may come

-- the step may come next; what is fed is bytes
abbrev pub MayDoOverBytes : Limits → Wire → Config → List ByteStep → ByteStep → Type 0
MayDoOverBytes limits wire c h (Bytes piece) = MayHearBytes limits wire c h piece
MayDoOverBytes limits wire c h (Does (Fed piece)) = ⊥
MayDoOverBytes limits wire c h (Does s) = MayDo limits (sizes_of wire) c (in_frames wire c h) s

-- each step was allowed after those before it, as far as one end says; what is fed is bytes
abbrev pub IsHistory : Limits → Wire → Config → List ByteStep → Type 0
IsHistory limits wire c [] = Unit {0}
IsHistory limits wire c (s ∷ h) = IsHistory limits wire c h × MayDoOverBytes limits wire c h s

-- ---- what is read next

-- what the reader of a link says of the bytes that aren't dealt with: on the first link, before any frame was, that of handshakes
abbrev pub next_reader : Wire → Config → ℕ → List EndEvent → List ℕ → Reading
next_reader wire c l h bytes =
    if is_this l (first_link h) && (taken_count l h == 0) then wire.first c.side bytes else wire.later (codec_of c h) bytes

-- the frame that a reader finds at a place of the link
abbrev pub frame_of_reading : ℕ → Reading → Option LinkFrame
frame_of_reading at Waits = None
frame_of_reading at (Reads f size) = Some f
frame_of_reading at (Refuses why size) = Some (Unreadable (as_told at) why)
frame_of_reading at (Stops why) = Some (Unreadable (as_told at) why)

-- how many bytes that frame takes
abbrev pub size_of_reading : Reading → ℕ
size_of_reading Waits = 0
size_of_reading (Reads f size) = size
size_of_reading (Refuses why size) = size
size_of_reading (Stops why) = 0
