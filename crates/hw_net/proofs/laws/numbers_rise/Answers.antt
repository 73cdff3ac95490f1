use Rattle.hw_net.proofs.Numbering.{numbers-rise, flushes-keep, replies-keep, sends-keep, shuts-keep}
use Rattle.hw_net.proofs.laws.numbers_rise.Goals as goal

pub returns-clause-next : goal.returns-clause-next
returns-clause-next c = numbers-rise

pub returns-clause-flushed : goal.returns-clause-flushed
returns-clause-flushed c = flushes-keep

pub returns-clause-replied : goal.returns-clause-replied
returns-clause-replied c = replies-keep

pub returns-clause-sent : goal.returns-clause-sent
returns-clause-sent c = sends-keep

pub returns-clause-shut : goal.returns-clause-shut
returns-clause-shut c = shuts-keep
