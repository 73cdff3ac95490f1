-- What wires in memory tell, as notes of the calls and the bytes of all of them one after the other.
use Rattle.std.specs.Prelude.{◌+◌, ◌-◌, ◌&&◌, ℕ, Bool, true, not, nat_lt, nat_le, List, [], ◌∷◌, ◌++◌, take, drop, length, Option, Some, None, if◌then◌else◌}
use Rattle.hw_door.specs.declared.ledger.WireCall.{WireCall}
use Rattle.hw_door.specs.declared.ledger.WireCall.TheVariants as note
use Rattle.hw_door.specs.Traffic.{Answer, polled, poll_failed, accepted, accept_failed, connected, connect_failed, bytes_in, not_yet, ended, read_failed, bytes_out, write_failed, was_shut}

-- how many bytes a note stands for
abbrev pub bytes_of : WireCall → ℕ
bytes_of (note.BytesIn wire count) = count
bytes_of (note.BytesOut wire count) = count
bytes_of _ = 0

-- the answer that a note and its bytes are
abbrev pub answer_of : WireCall → List ℕ → Answer
answer_of (note.Polled wait now) bytes = polled wait now
answer_of (note.PollFailed wait) bytes = poll_failed wait
answer_of (note.Accepted wire) bytes = accepted wire
answer_of note.AcceptFailed bytes = accept_failed
answer_of (note.Connected wire) bytes = connected wire
answer_of note.ConnectFailed bytes = connect_failed
answer_of (note.BytesIn wire count) bytes = bytes_in wire bytes
answer_of (note.NotYet wire) bytes = not_yet wire
answer_of (note.Ended wire) bytes = ended wire
answer_of (note.ReadFailed wire) bytes = read_failed wire
answer_of (note.BytesOut wire count) bytes = bytes_out wire bytes
answer_of (note.WriteFailed wire) bytes = write_failed wire
answer_of (note.WasShut wire) bytes = was_shut wire

-- how many bytes an answer has
abbrev pub size_of : Answer → ℕ
size_of (bytes_in wire bytes) = length bytes
size_of (bytes_out wire bytes) = length bytes
size_of _ = 0

-- the answers that the notes are, each with the next bytes
abbrev pub answers_of : List WireCall → List ℕ → List Answer
answers_of [] bytes = []
answers_of (one ∷ notes) bytes = answer_of one (take (bytes_of one) bytes) ∷ answers_of notes (drop (bytes_of one) bytes)

-- how many bytes the notes stand for
abbrev pub total : List WireCall → ℕ
total [] = 0
total (one ∷ notes) = bytes_of one + total notes

-- the answers told, how many calls and bytes there is room for, and whether a call came that there was no room for
pub record LedgerState : Type 0 where
  pub answers : List Answer
  pub calls_left : ℕ
  pub bytes_left : ℕ
  pub is_full : Bool

-- there is room to tell a call with this many bytes
abbrev pub has_room : ℕ → LedgerState → Bool
has_room count ledger = not ledger.is_full && nat_lt 0 ledger.calls_left && nat_le count ledger.bytes_left

-- one answer more, which there is room for
abbrev pub with_answer : Answer → LedgerState → LedgerState
with_answer answer ledger = record ledger {
  answers = ledger.answers ++ answer ∷ [];
  calls_left = ledger.calls_left - 1;
  bytes_left = ledger.bytes_left - size_of answer;
}

-- after a call that answers this if there is room for it. If not, nothing is told from then on
abbrev pub after_telling : Answer → LedgerState → LedgerState
after_telling answer ledger =
    if has_room (size_of answer) ledger then with_answer answer ledger else record ledger { is_full = true }

-- what is told
abbrev pub trace_of : LedgerState → Option (List Answer)
trace_of ledger = if ledger.is_full then None else Some ledger.answers
