use Rattle.hw_net.proofs.Bounding.{next-within, fails-within, flushes-within, replies-within, sends-within, shuts-within}
use Rattle.hw_net.proofs.CutShort.{halts-within}
use Rattle.hw_net.proofs.laws.lanes_are_bounded.Goals as goal

pub returns-clause-next : goal.returns-clause-next
returns-clause-next c = next-within

pub returns-clause-fails : goal.returns-clause-fails
returns-clause-fails c = fails-within

pub returns-clause-halts : goal.returns-clause-halts
returns-clause-halts c = halts-within

pub returns-clause-flushed : goal.returns-clause-flushed
returns-clause-flushed c = flushes-within

pub returns-clause-replied : goal.returns-clause-replied
returns-clause-replied c = replies-within

pub returns-clause-sent : goal.returns-clause-sent
returns-clause-sent c = sends-within

pub returns-clause-shut : goal.returns-clause-shut
returns-clause-shut c = shuts-within
