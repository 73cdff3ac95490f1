use Rattle.std.proofs.Common.{rules}
use Rattle.hw_net.proofs.HttpFacts.{hears-after}
use Rattle.hw_net.proofs.http_state.HttpState.hear_after.Goals as goal

pub returns-clause-heard : goal.returns-clause-heard
returns-clause-heard c =
    hears-after c.look.result c.args.self.now c.take.new.self c.look.new.self c.in-Some.count c.min-taken.result c.args.buf.now c.args.read (search rules) (rw c.in-Some.is at c.requires.count) (search rules)
    (c.take.ensures.busy, c.take.ensures.continued, search rules) c.requires.buffer c.take.ensures.asks c.look.ensures.found c.look.ensures.asks
