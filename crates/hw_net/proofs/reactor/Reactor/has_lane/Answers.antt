use Rattle.std.proofs.Common.{ap, ◌∙◌, is_some}
use Rattle.hw_net.proofs.Findings.{is-there}
use Rattle.hw_net.proofs.reactor.Reactor.has_lane.Goals as goal

pub returns : goal.returns
returns g c = rw (← c.self.view_is) (c.is_some.ensures ∙ ap is_some c.index_of.ensures ∙ is-there c.args.wire c.self.inside.lanes.items)
