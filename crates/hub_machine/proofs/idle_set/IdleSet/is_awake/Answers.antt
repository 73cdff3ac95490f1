use Rattle.hub_machine.proofs.Listed.{told_in}
use Rattle.hub_machine.proofs.idle_set.IdleSet.is_awake.Goals as goal

pub returns : goal.returns
returns c = λ kept.
    told_in c.args.conn c.args.self.now.awake.numbers.items c.numbers.result.now c.binary_search.result c.is_ok.result c.numbers.ensures
    c.binary_search.ensures.position kept.rising c.is_ok.ensures.value
