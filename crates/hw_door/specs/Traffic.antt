-- What wires tell of their calls.
use Rattle.std.specs.Prelude.{◌≡◌, ◌==◌, ◌+◌, ◌≤◌, ℕ, Bool, true, false, List, [], ◌∷◌, ◌++◌, if◌then◌else◌, take, Option, None, Some, Result, Ok, Err}
use Rattle.hw_io.specs.declared.traits.Failed.{Failed}
use Rattle.hw_door.specs.declared.wires.WireRead.{WireRead}
use Rattle.hw_door.specs.declared.wires.WireRead.TheVariants as read

-- one answer of wires
pub data Answer : Type 0 where
  -- a poll that was to wait for at most so many milliseconds, and the moment then
  polled : ℕ → ℕ → Answer
  poll_failed : ℕ → Answer
  accepted : Option ℕ → Answer
  accept_failed : Answer
  connected : ℕ → Answer
  connect_failed : Answer
  -- these bytes were read on a wire
  bytes_in : ℕ → List ℕ → Answer
  not_yet : ℕ → Answer
  ended : ℕ → Answer
  read_failed : ℕ → Answer
  -- these bytes were written on a wire
  bytes_out : ℕ → List ℕ → Answer
  write_failed : ℕ → Answer
  was_shut : ℕ → Answer
  -- no wire has anything to give: a read of any of them would be answered with `not_yet`
  none_ready : Answer

-- a poll tells also how long it was to wait at most
abbrev pub poll_answer : ℕ → Result ℕ Failed → Answer
poll_answer wait (Ok now) = polled wait now
poll_answer wait (Err e) = poll_failed wait

abbrev pub accept_answer : Result (Option ℕ) Failed → Answer
accept_answer (Ok wire) = accepted wire
accept_answer (Err e) = accept_failed

abbrev pub connect_answer : Result ℕ Failed → Answer
connect_answer (Ok wire) = connected wire
connect_answer (Err e) = connect_failed

-- a read gave the first bytes of the buffer
abbrev pub read_answer : ℕ → List ℕ → Result WireRead Failed → Answer
read_answer wire buf (Ok (read.Some count)) = bytes_in wire (take count buf)
read_answer wire buf (Ok read.NotYet) = not_yet wire
read_answer wire buf (Ok read.Ended) = ended wire
read_answer wire buf (Err e) = read_failed wire

-- a write took the first of the bytes
abbrev pub write_answer : ℕ → List ℕ → Result ℕ Failed → Answer
write_answer wire bytes (Ok count) = bytes_out wire (take count bytes)
write_answer wire bytes (Err e) = write_failed wire

-- what is told of wires that were asked whether none of them has anything to give: that it is so, or nothing
abbrev pub ready_answer : Bool → List Answer
ready_answer true = none_ready ∷ []
ready_answer false = []

-- the bytes that were read are within the buffer
abbrev pub CountsWithin : WireRead → ℕ → Type 0
CountsWithin (read.Some count) room = count ≤ room
CountsWithin read.NotYet room = Unit {0}
CountsWithin read.Ended room = Unit {0}

-- how many bytes a read gave
abbrev pub count_of : WireRead → ℕ
count_of (read.Some count) = count
count_of read.NotYet = 0
count_of read.Ended = 0

-- the bytes that were read on a wire, and those that were written, in the order of the calls
abbrev pub read_on : ℕ → List Answer → List ℕ
read_on wire [] = []
read_on wire (bytes_in at bytes ∷ answers) = if at == wire then bytes ++ read_on wire answers else read_on wire answers
read_on wire (answer ∷ answers) = read_on wire answers

abbrev pub written_on : ℕ → List Answer → List ℕ
written_on wire [] = []
written_on wire (bytes_out at bytes ∷ answers) = if at == wire then bytes ++ written_on wire answers else written_on wire answers
written_on wire (answer ∷ answers) = written_on wire answers

-- the moment polled last: at Ok the answer, which is no earlier, and the same after an error
abbrev pub IsPolled : ℕ → ℕ → Result ℕ Failed → Type 0
IsPolled before now (Ok moment) = (before ≤ moment) × (now ≡ moment)
IsPolled before now (Err e) = now ≡ before

-- the number that a call answered, if it answered one
abbrev pub accepted_wire : Result (Option ℕ) Failed → Option ℕ
accepted_wire (Ok wire) = wire
accepted_wire (Err e) = None

abbrev pub connected_wire : Result ℕ Failed → Option ℕ
connected_wire (Ok wire) = Some wire
connected_wire (Err e) = None

-- the bound below which all numbers lie that were answered: a new one is not below it, but is afterwards
abbrev pub IsNewWire : ℕ → ℕ → Option ℕ → Type 0
IsNewWire before now (Some wire) = (before ≤ wire) × (wire + 1 ≤ now)
IsNewWire before now None = now ≡ before
