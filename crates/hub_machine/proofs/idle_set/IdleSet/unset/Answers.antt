use Rattle.std.proofs.Common.{Some, sym, ◌∙◌}
use Rattle.hub_machine.proofs.Deadlines.{apart, at, own_unset}
use Rattle.hub_machine.proofs.idle_set.IdleSet.unset.Goals as goal

pub returns-in-Some-clause-others : goal.returns-in-Some-clause-others
returns-in-Some-clause-others c k moment e =
    c.remove.ensures.updates.2 (at moment k) (apart (at c.in-Some.moment c.args.conn) (at moment k) e)

pub returns-in-Some-clause-own : goal.returns-in-Some-clause-own
returns-in-Some-clause-own c moment only =
    own_unset (Some c.in-Some.moment) c.args.conn c.args.self.now.deadlines c.remove.new.self c.remove.ensures.updates moment
    (λ is. sym c.in-Some.is ∙ only is)
