-- What an auditor keeps of one end: numbers that are read off its history, and what each step makes of them.
-- Where the end said or read whole frames of its link, what they come to stands here: whether there are any, the next number, what they reported, and
-- whether a Close was among them. What an end sent and was fed isn't in it.
use Rattle.std.specs.Prelude.{ℕ, suc, ◌+◌, max, Bool, true, false, ◌&&◌, ◌||◌, ◌==◌, nat_le, List, [], ◌∷◌, length, Option, Some, None, if◌then◌else◌}
use Rattle.hd_delivery.specs.declared.vocabulary.Got.{Got}
use Rattle.hd_delivery.specs.declared.vocabulary.Got.TheVariants as gives
use Rattle.hd_delivery.specs.declared.vocabulary.Got.TheVariants.{Shaken, Acked, Resumed}
use Rattle.hd_delivery.specs.declared.vocabulary.Reason.{Reason}
use Rattle.hd_delivery.specs.Numbers.{ping_after}
use Rattle.hd_delivery.specs.Frames.{LinkFrame, Numbered, count, number, one_more, told_count, most_told}
use Rattle.hd_delivery.specs.Histories as of
use Rattle.hd_delivery.specs.Histories.{EndEvent, Config, first_of, present_link, first_link, lent_frames, read_frames, sent_messages, processed_messages, acked_count, written_place, most_lent, is_shaken, is_three, is_resumable, is_closed, can_keep, codec_of, is_resumed, moment, heard_moment, written_moment}
use Rattle.hd_delivery.specs.Due.{is_quiet, has_close}
use Rattle.hd_delivery.specs.Processes.{has_frames}
use Rattle.hd_trace.specs.declared.marks.Marks.{Marks}
use Rattle.hd_trace.specs.declared.marks.Farewell.{Farewell}

-- ---- read off a history

-- the frames that the end said on this link, where it is one
abbrev pub lent_on : Option ℕ → List EndEvent → List LinkFrame
lent_on None k = []
lent_on (Some l) k = lent_frames l k

-- and those that it dealt with there
abbrev pub read_on : Option ℕ → List EndEvent → List LinkFrame
read_on None k = []
read_on (Some l) k = read_frames l k

-- how the end was last closed by its own side
abbrev pub last_farewell : List EndEvent → Option Farewell
last_farewell [] = None
last_farewell (of.Closed reason allow ∷ k) = Some (record { reason = reason; allow = allow })
last_farewell (_ ∷ k) = last_farewell k

-- the marks of a history
abbrev pub marks_of : Config → List EndEvent → Marks
marks_of c k = record {
  link = present_link k;
  first = first_link k;
  codec = codec_of c k;
  shaken = is_shaken k;
  resumable = is_resumable c k;
  three = is_three k;
  closed = is_closed c k;
  farewell = last_farewell k;
  sent = length (sent_messages k);
  processed = length (processed_messages k);
  acked = acked_count k;
  written = written_place k;
  furthest = most_lent k;
  opened = has_frames (lent_on (present_link k) k);
  said = number (lent_on (present_link k) k);
  reported = most_told (lent_on (present_link k) k);
  parted = has_close (lent_on (present_link k) k);
  next = number (read_on (present_link k) k);
  resumed = is_resumed k;
  moment = moment k;
  heard = heard_moment k;
  wrote = written_moment k;
  quiet = is_quiet k;
}

-- ---- what a step makes of marks

-- the place of the next message that is to be lent on the link
abbrev pub place_by : Marks → ℕ
place_by m = suc (max m.acked m.written)

-- the end stands on a new link
abbrev pub attached : ℕ → ℕ → Marks → Marks
attached l now m = record m {
  link = Some l;
  first = first_of m.first (Some l);
  written = 0;
  opened = false;
  said = None;
  reported = 0;
  parted = false;
  next = None;
  resumed = false;
  moment = max now m.moment;
  heard = Some (max now m.moment);
  wrote = max now m.moment;
  quiet = false;
}

-- its link is lost, by a tick or without one
abbrev pub left : ℕ → Marks → Marks
left now m = record m {
  link = None;
  closed = (if m.resumable then m.closed else true);
  opened = false;
  said = None;
  reported = 0;
  parted = false;
  next = None;
  moment = max now m.moment;
}

-- it was fed
abbrev pub heard_something : Marks → Marks
heard_something m = record m { heard = None }

-- it said a message
abbrev pub lent_message : Marks → Marks
lent_message m = record m { opened = true; said = one_more m.said; written = place_by m; furthest = max (place_by m) m.furthest; quiet = false; wrote = m.moment }

-- it said another frame
abbrev pub lent_control : LinkFrame → Marks → Marks
lent_control f m = record m { opened = true; said = count m.said f; reported = max m.reported (told_count f); parted = (m.parted || has_close (f ∷ [])); quiet = false; wrote = m.moment }

-- it said this frame
abbrev pub lent : LinkFrame → Marks → Marks
lent (Numbered msg) m = lent_message m
lent f m = lent_control f m

-- a tick that isn't a silence
abbrev pub ticked : ℕ → Marks → Marks
ticked now m = record m { moment = max now m.moment; heard = first_of m.heard (Some (max now m.moment)); quiet = (nat_le (m.wrote + ping_after) now || m.quiet) }

-- it was handed a message
abbrev pub sent_one : Marks → Marks
sent_one m = record m { sent = suc m.sent }

-- it was closed by its own side
abbrev pub closed_for : Reason → Bool → Marks → Marks
closed_for reason allow m = record m { closed = true; farewell = Some (record { reason = reason; allow = allow }) }

-- it dealt with this frame, which gave this
abbrev pub took : Bool → LinkFrame → Got → Marks → Marks
took reconnect f (Shaken codec version) m =
    record m { next = count m.next f; shaken = true; codec = codec; resumable = (reconnect && can_keep version); three = (version == 3) }
took reconnect f (gives.Message msg) m = record m { next = count m.next f; processed = suc m.processed }
took reconnect f (Acked n) m = record m { next = count m.next f; acked = max n m.acked }
took reconnect f (Resumed first n) m = record m { next = count m.next f; acked = max n m.acked; resumed = true }
took reconnect f (gives.Closed error allow) m = record m { next = count m.next f; closed = true }
took reconnect f got m = record m { next = count m.next f }
