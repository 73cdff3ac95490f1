-- Wires in memory, as contracts see them.
use Rattle.std.specs.Prelude.{◌+◌, ◌≤◌, ◌&&◌, ℕ, zero, suc, Bool, true, false, not, nat_lt, nat_le, List, [], ◌∷◌, ◌++◌, map, take, drop, length, Option, Some, None, if◌then◌else◌, slice_get}
use Rattle.hd_facts.specs.Counts.{one_more}
use Rattle.hw_door.specs.declared.memory_wire.MemoryWire.{MemoryWire}
use Rattle.hw_door.specs.declared.memory_wire.WireGiven.{WireGiven}
use Rattle.hw_door.specs.declared.memory_wire.WireGiven.TheVariants as given
use Rattle.hw_door.specs.Calls.{is_listed}
use Rattle.hw_door.specs.Ledger.{LedgerState, has_room, size_of, after_telling}
use Rattle.hw_door.specs.Traffic.{Answer, polled, poll_failed, accepted, accept_failed, connected, connect_failed, bytes_in, not_yet, ended, read_failed, bytes_out, write_failed, was_shut, none_ready}

-- the moment from which a wire may be accepted, what is left of its reads and of how much its writes take, whether it was shut, and
-- what was written on it
pub record WireLeft : Type 0 where
  pub since : ℕ
  pub reads : List WireGiven
  pub writes : List ℕ
  pub is_shut : Bool
  pub written : List ℕ

-- a wire at the start
abbrev pub wire_of : MemoryWire → WireLeft
wire_of wire = record { since = wire.from; reads = wire.reads.items; writes = wire.writes.items; is_shut = false; written = [] }

-- the moments and the wires left, the moment polled last, how many wires were given, so which is next, the numbers of the calls that
-- are to fail, what is told and how much room is left for it, and the count of faults
pub record WiresState : Type 0 where
  pub moments : List ℕ
  pub moment : ℕ
  pub wires : List WireLeft
  pub given : ℕ
  pub failing : List ℕ
  pub ledger : LedgerState
  pub faults : ℕ

-- the moments never fall, from this one on
abbrev pub IsRising : ℕ → List ℕ → Type 0
IsRising moment [] = Unit {0}
IsRising moment (next ∷ more) = (moment ≤ next) × IsRising next more

-- the state at the start, with room for so many bytes and calls
abbrev pub wires_of : List ℕ → List MemoryWire → List ℕ → ℕ → ℕ → WiresState
wires_of moments wires failing bytes calls = record {
  moments = moments;
  moment = 0;
  wires = map wire_of wires;
  given = 0;
  failing = failing;
  ledger = record { answers = []; calls_left = calls; bytes_left = bytes; is_full = false };
  faults = 0;
}

-- ---- one wire

-- what is left when this many bytes of the first are gone
abbrev pub without_first : ℕ → List WireGiven → List WireGiven
without_first count [] = []
without_first count (given.Bytes bytes ∷ more) = given.Bytes (drop count bytes) ∷ more
without_first count (given.NotYet ∷ more) = given.NotYet ∷ more
without_first count (given.Ended ∷ more) = given.Ended ∷ more

-- how many bytes the first has
abbrev pub first_size : List WireGiven → ℕ
first_size [] = 0
first_size (given.Bytes bytes ∷ more) = length bytes
first_size (given.NotYet ∷ more) = 0
first_size (given.Ended ∷ more) = 0

-- what is left after a read that gave this many bytes: of the first what didn't fit, or else all but the first
abbrev pub after_read : ℕ → List WireGiven → List WireGiven
after_read count reads = if nat_lt count (first_size reads) then without_first count reads else drop 1 reads

-- what a read on a wire answers that has room for so many bytes
abbrev pub read_of : ℕ → ℕ → List WireGiven → Answer
read_of wire room [] = not_yet wire
read_of wire room (given.Bytes bytes ∷ more) = bytes_in wire (take room bytes)
read_of wire room (given.NotYet ∷ more) = not_yet wire
read_of wire room (given.Ended ∷ more) = ended wire

-- how many bytes a write takes at most: the next number, and none where none is left
abbrev pub most_taken : List ℕ → ℕ
most_taken [] = 0
most_taken (most ∷ more) = most

-- ---- all wires

-- the wires, with this one changed
abbrev pub at_wire : ℕ → (WireLeft → WireLeft) → List WireLeft → List WireLeft
at_wire wire change [] = []
at_wire zero change (left ∷ wires) = change left ∷ wires
at_wire (suc wire) change (left ∷ wires) = left ∷ at_wire wire change wires

abbrev pub with_read : ℕ → WireLeft → WireLeft
with_read count left = record left { reads = after_read count left.reads }

abbrev pub with_written : List ℕ → WireLeft → WireLeft
with_written bytes left = record left { writes = drop 1 left.writes; written = left.written ++ bytes }

abbrev pub with_shut : WireLeft → WireLeft
with_shut left = record left { is_shut = true }

-- a wire that may be read and written: it was given and wasn't shut
abbrev pub unless_shut : Option WireLeft → Option WireLeft
unless_shut None = None
unless_shut (Some left) = if left.is_shut then None else Some left

abbrev pub open_wire : ℕ → ℕ → List WireLeft → Option WireLeft
open_wire wire given wires = if nat_lt wire given then unless_shut (slice_get wires wire) else None

-- the next wire, if it may be accepted by now
abbrev pub came : ℕ → ℕ → Option WireLeft → Option ℕ
came moment given None = None
came moment given (Some left) = if nat_le left.since moment then Some given else None

-- how many wires are given after an answer to `accept`
abbrev pub given_after : Option ℕ → ℕ → ℕ
given_after None given = given
given_after (Some wire) given = given + 1

-- what was written on a wire
abbrev pub written_of : Option WireLeft → List ℕ
written_of None = []
written_of (Some left) = left.written

-- ---- what each call answers if there is room to tell it

-- the call is one that is to fail. The calls are counted by what is told of them, until there is no room
abbrev pub is_to_fail : WiresState → Bool
is_to_fail state = is_listed state.failing (length state.ledger.answers)

-- the next moment, or once none is left the one polled last
abbrev pub next_moment : List ℕ → ℕ → ℕ
next_moment [] moment = moment
next_moment (next ∷ more) moment = next

abbrev pub poll_next : ℕ → WiresState → Answer
poll_next wait state = if is_to_fail state then poll_failed wait else polled wait (next_moment state.moments state.moment)

abbrev pub accept_next : WiresState → Answer
accept_next state =
    if is_to_fail state then accept_failed
    else accepted (came state.moment state.given (slice_get state.wires state.given))

abbrev pub connect_next : WiresState → Answer
connect_next state =
    if not (is_to_fail state) && nat_lt state.given (length state.wires) then connected state.given else connect_failed

abbrev pub read_open : ℕ → ℕ → Option WireLeft → Answer
read_open wire room None = read_failed wire
read_open wire room (Some left) = read_of wire room left.reads

abbrev pub read_next : ℕ → ℕ → WiresState → Answer
read_next wire room state =
    if is_to_fail state then read_failed wire
    else read_open wire room (open_wire wire state.given state.wires)

abbrev pub write_open : ℕ → List ℕ → Option WireLeft → Answer
write_open wire bytes None = write_failed wire
write_open wire bytes (Some left) = bytes_out wire (take (most_taken left.writes) bytes)

abbrev pub write_next : ℕ → List ℕ → WiresState → Answer
write_next wire bytes state =
    if is_to_fail state then write_failed wire
    else write_open wire bytes (open_wire wire state.given state.wires)

-- ---- the state after a call

-- what a call that answered this took from the lists: nothing if it failed
abbrev pub after_answer : Answer → WiresState → WiresState
after_answer (polled wait now) state = record state { moments = drop 1 state.moments; moment = now }
after_answer (accepted wire) state = record state { given = given_after wire state.given }
after_answer (connected wire) state = record state { given = state.given + 1 }
after_answer (bytes_in wire bytes) state = record state { wires = at_wire wire (with_read (length bytes)) state.wires }
after_answer (not_yet wire) state = record state { wires = at_wire wire (with_read 0) state.wires }
after_answer (ended wire) state = record state { wires = at_wire wire (with_read 0) state.wires }
after_answer (bytes_out wire bytes) state = record state { wires = at_wire wire (with_written bytes) state.wires }
after_answer (was_shut wire) state = record state { wires = at_wire wire with_shut state.wires }
after_answer (poll_failed wait) state = state
after_answer accept_failed state = state
after_answer connect_failed state = state
after_answer (read_failed wire) state = state
after_answer (write_failed wire) state = state
after_answer none_ready state = state

abbrev pub is_failure : Answer → Bool
is_failure (poll_failed wait) = true
is_failure accept_failed = true
is_failure connect_failed = true
is_failure (read_failed wire) = true
is_failure (write_failed wire) = true
is_failure _ = false

-- a call that would answer this fails: it is a failure, or past the room
abbrev pub fails : Answer → WiresState → Bool
fails answer state = if is_failure answer then true else not (has_room (size_of answer) state.ledger)

-- what a call answers that would answer this: that, or its failure
abbrev pub answered : Answer → Answer → WiresState → Answer
answered failure answer state = if fails answer state then failure else answer

-- and the state then
abbrev pub after_call : Answer → WiresState → WiresState
after_call answer state =
    if fails answer state
    then record state { ledger = after_telling answer state.ledger; faults = one_more state.faults }
    else record (after_answer answer state) { ledger = after_telling answer state.ledger }

-- `shut` never fails
abbrev pub after_shut : ℕ → WiresState → WiresState
after_shut wire state = record (after_answer (was_shut wire) state) { ledger = after_telling (was_shut wire) state.ledger }
