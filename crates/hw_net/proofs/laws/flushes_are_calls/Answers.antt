use Rattle.hw_net.proofs.FlushCalls.{flushes-are-calls, next-is-calls}
use Rattle.hw_net.proofs.laws.flushes_are_calls.Goals as goal

pub returns-clause-flushed : goal.returns-clause-flushed
returns-clause-flushed c = flushes-are-calls

pub returns-clause-next : goal.returns-clause-next
returns-clause-next c = next-is-calls
