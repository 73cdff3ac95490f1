-- What a line that is judged makes of what is kept of one end alone, without a history.
use Rattle.std.specs.Prelude.{◌≡◌, ◌≤◌, ◌<◌, ◌+◌, ℕ, true, false, List, length, Some, IfSome, option_map}
use Rattle.hf_split.specs.Cuts.{Spelled, BeginsWith}
use Rattle.hf_split.specs.Held.{Held, after_pass}
use Rattle.hm_message.specs.declared.message.Read.{Read}
use Rattle.hm_message.specs.declared.message.Read.TheVariants as read
use Rattle.hd_delivery.specs.declared.vocabulary.Got.{Got}
use Rattle.hd_delivery.specs.declared.vocabulary.Side.{Side}
use Rattle.hd_delivery.specs.declared.vocabulary.Side.TheVariants.{Client, Server}
use Rattle.hd_delivery.specs.Numbers.{most_messages, most_framing, most_of_64_bits}
use Rattle.hd_delivery.specs.Frames.{LinkFrame, Foreign, frame_of, count}
use Rattle.hd_delivery.specs.Histories.{Config, as_told}
use Rattle.hd_delivery.specs.Bytes.{Wire, Reads}
use Rattle.he_wire.specs.Wires.{IsHouseWire}
use Rattle.hd_trace.specs.declared.marks.Marks.{Marks}
use Rattle.hd_trace.specs.Marks.{took}
use Rattle.hd_trace.specs.ByMarks.{next_number_by, given_by}
use Rattle.hd_trace.specs.ByNumbers.{IsAbove}
use Rattle.ha_audit.specs.declared.alone.auditor.AuditAlone.{AuditAlone}
use Rattle.ha_audit.specs.declared.alone.taking.Taken.{Taken}
use Rattle.ha_audit.specs.declared.auditor.audited_end.AuditedEnd.{AuditedEnd}
use Rattle.ha_audit.specs.declared.head.Head.{Head}
use Rattle.ha_audit.specs.AuditState.{has_link}
use Rattle.ha_audit.specs.AloneState.{framing_by, reading_by}

-- ---- links

-- the name is new to an end of this side
abbrev pub IsNewName : Side → AuditedEnd → ℕ → Type 0
IsNewName Client end l = IsAbove end.last l
IsNewName Server end l = has_link end.links l ≡ false

-- ---- bytes that are fed

-- so many bytes more are no more than the end may have unread
abbrev pub HasRoomForBytes : AuditAlone → ℕ → Type 0
HasRoomForBytes a count = (length a.splitter.bytes + a.over) + count ≤ a.head.limits.frame + most_framing

-- ---- frames that are taken

-- what was read as a frame
abbrev pub frame_read : Read → LinkFrame
frame_read (read.Message m) = frame_of m
frame_read (read.Unknown n) = Foreign n

-- the end was begun as the head says
pub record IsBegunAs (c : Config) (side : Side) (head : Head) : Type 0 where
  pub side_is : c.side ≡ side
  pub codec : c.codec ≡ head.codec
  pub version : c.version ≡ head.version
  pub keeps : c.reconnect ≡ head.reconnect

-- the next frame is this, of so many bytes, and gives this
pub record Gives (c : Config) (wire : Wire) (m : Marks) (l : ℕ) (bytes : List ℕ) (f : LinkFrame) (size : ℕ) (got : Got) : Type 0 where
  pub reads : reading_by wire c.side m bytes ≡ Reads f size
  pub gives : given_by c m (next_number_by m l) f ≡ Some got

-- what was found as the next frame is this one
pub record IsFound (c : Config) (wire : Wire) (m : Marks) (l : ℕ) (held : Held) (taken : Taken) : Type 0 where
  pub frame : LinkFrame
  pub item : Spelled
  pub begins : BeginsWith held.framing held.most held.bytes item
  pub gives : Gives c wire m l held.bytes frame (length item.spelling) taken.got
  pub next : taken.next ≡ option_map as_told (count m.next frame)

-- the number of the next message is told in 64 bits, where it is used
abbrev pub HasNumber : Marks → Type 0
HasNumber m = m.resumable ≡ true → m.three ≡ false → IfSome m.next (λ n. n < most_of_64_bits)

-- of an end that was begun as c, over this wire: its splitter cuts as the end reads
pub record IsReady (c : Config) (wire : Wire) (a : AuditAlone) : Type 0 where
  pub begun : IsBegunAs c a.side a.head
  pub is_wire : IsHouseWire a.splitter.most wire
  pub framing : a.splitter.framing ≡ framing_by a.end.marks
  pub few : a.end.marks.processed ≤ most_messages

-- this is what the next frame gives
abbrev pub FindsSome : AuditAlone → ℕ → Taken → Type 0
FindsSome a l taken = (c : Config) (wire : Wire) → IsReady c wire a → IsFound c wire a.end.marks l a.splitter taken

-- no frame gives anything
abbrev pub FindsNone : AuditAlone → ℕ → Type 0
FindsNone a l = (c : Config) (wire : Wire) (f : LinkFrame) (size : ℕ) (got : Got) → IsReady c wire a
    → Gives c wire a.end.marks l a.splitter.bytes f size got → ⊥

-- the frame with which the bytes held begin was dealt with
pub record Passes (old new : AuditAlone) (taken : Taken) : Type 0 where
  pub rest : new ≡ record old { end = new.end; splitter = new.splitter }
  pub end : (f : LinkFrame) → old.end.marks.processed ≤ most_messages
      → new.end ≡ record old.end { marks = record (took old.head.reconnect f taken.got old.end.marks) { next = taken.next } }
  pub splitter : (item : Spelled) → BeginsWith old.splitter.framing old.splitter.most old.splitter.bytes item
      → new.splitter ≡ record (after_pass old.splitter item) { framing = framing_by new.end.marks }
