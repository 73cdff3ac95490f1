-- What holds of marks.
use Rattle.std.specs.Prelude.{◌≡◌, ◌≤◌, ℕ, false, List, ◌∷◌, length, slice_get, Bool, Option, Some}
use Rattle.hm_message.specs.declared.message.Message.{Message}
use Rattle.hd_delivery.specs.declared.vocabulary.Got.{Got}
use Rattle.hd_delivery.specs.declared.vocabulary.Reason.{Reason}
use Rattle.hd_delivery.specs.Frames.{LinkFrame}
use Rattle.hd_delivery.specs.Histories.{EndEvent, Config, Attached, Detached, Fed, Took, Sent, Lent, Ticked, Silenced, Closed, present_link, was_on, fed_frames, taken_count, sent_messages, is_silence, state}
use Rattle.hd_delivery.specs.Due.{due}
use Rattle.hd_delivery.specs.Processes.{next_number, reads}
use Rattle.hd_trace.specs.Laws.{HasNoFault}
use Rattle.hd_trace.specs.Marks.{marks_of, attached, left, heard_something, lent, ticked, sent_one, closed_for, took}
use Rattle.hd_trace.specs.ByMarks.{is_silence_by, state_by, due_by, next_number_by, got_of, given_by}

-- what each step makes of the marks of a history, wherever it may come next
pub record Follows (c : Config) (k : List EndEvent) : Type 0 where
  pub attached : (l now : ℕ) → was_on l k ≡ false → marks_of c (Attached l now ∷ k) ≡ attached l now (marks_of c k)
  pub detached : (now : ℕ) → marks_of c (Detached now ∷ k) ≡ left now (marks_of c k)
  pub silenced : (now : ℕ) → marks_of c (Silenced now ∷ k) ≡ left now (marks_of c k)
  pub fed : (l : ℕ) (piece : List LinkFrame) → present_link k ≡ Some l → taken_count l k ≤ length (fed_frames l k)
      → marks_of c (Fed piece ∷ k) ≡ heard_something (marks_of c k)
  pub took : (l : ℕ) (f : LinkFrame) (got : Got) → present_link k ≡ Some l → slice_get (fed_frames l k) (taken_count l k) ≡ Some f
      → marks_of c (Took got ∷ k) ≡ took c.reconnect f got (marks_of c k)
  pub lent : (l : ℕ) (f : LinkFrame) → present_link k ≡ Some l → marks_of c (Lent f ∷ k) ≡ lent f (marks_of c k)
  pub ticked : (now : ℕ) → marks_of c (Ticked now ∷ k) ≡ ticked now (marks_of c k)
  pub sent : (m : Message) → marks_of c (Sent m ∷ k) ≡ sent_one (marks_of c k)
  pub closed : (reason : Reason) (allow : Bool) → marks_of c (Closed reason allow ∷ k) ≡ closed_for reason allow (marks_of c k)

abbrev pub MarksFollow : Type 0
MarksFollow = (c : Config) (k : List EndEvent) → Follows c k

-- what is due is said by the marks and the messages that were sent, where no step was a fault
abbrev pub DueIsMarked : Type 0
DueIsMarked = (c : Config) (k : List EndEvent) → HasNoFault k → due c k ≡ due_by c (marks_of c k) (sent_messages k)

-- so are the number of the next message, what a frame gives, silences and the state
pub record Says (c : Config) (k : List EndEvent) : Type 0 where
  pub number : (l : ℕ) → present_link k ≡ Some l → next_number c k l ≡ next_number_by (marks_of c k) l
  pub gives : (n : Option ℕ) (f : LinkFrame) → got_of (reads c k n f) ≡ given_by c (marks_of c k) n f
  pub silence : (now : ℕ) → is_silence c now k ≡ is_silence_by now (marks_of c k)
  pub stands : state c k ≡ state_by (marks_of c k)

abbrev pub TakesAreMarked : Type 0
TakesAreMarked = (c : Config) (k : List EndEvent) → Says c k
