-- A refusal of a peer's parts, as its user is told it: out of memory by a variant of its own.
use Rattle.std.specs.Prelude.{Bool, true, false}
use Rattle.he_end.specs.declared.errors.SendError.{SendError}
use Rattle.he_end.specs.declared.errors.SendError.TheVariants as send
use Rattle.hi_calls.specs.declared.errors.CallError.{CallError}
use Rattle.hi_calls.specs.declared.errors.CallError.TheVariants as table
use Rattle.hp_peer.specs.declared.errors.AskError.{AskError}
use Rattle.hp_peer.specs.declared.errors.AskError.TheVariants as ask

abbrev pub of_table : CallError → AskError
of_table table.NoMemory = ask.NoMemory
of_table table.TooMany = ask.Calls table.TooMany
of_table table.Spent = ask.Calls table.Spent
of_table table.UnknownId = ask.Calls table.UnknownId

abbrev pub of_end : SendError → AskError
of_end send.NoMemory = ask.NoMemory
of_end send.Opening = ask.Send send.Opening
of_end send.Closed = ask.Send send.Closed
of_end (send.TooLong size) = ask.Send (send.TooLong size)
of_end (send.Full held bytes size) = ask.Send (send.Full held bytes size)
of_end send.Exhausted = ask.Send send.Exhausted

-- whether what was asked is refused, and not only out of memory
abbrev pub is_refusal : AskError → Bool
is_refusal ask.NoMemory = false
is_refusal (ask.Calls why) = true
is_refusal ask.TooDeep = true
is_refusal (ask.Send why) = true
