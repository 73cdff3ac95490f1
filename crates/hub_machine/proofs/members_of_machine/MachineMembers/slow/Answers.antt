use Rattle.std.proofs.Common.{ap, ◌∙◌}
use Rattle.hub_machine.proofs.Deliver.{deals_more, slowed}
use Rattle.hub_machine.proofs.members_of_machine.MachineMembers.slow.Goals as goal

pub returns-clause-dealt : goal.returns-clause-dealt
returns-clause-dealt g c = λ s deals d. deals_more {H = g.row.H.Denot} {Job = g.row.H-Job.Denot} _ s c.args.self.now c.close_out.new.self deals _ d
    (ap (λ s. s.clock) (c.close_out.ensures.idle_set ∙ c.close_slow.ensures.idle_set) ∙ c.wake.ensures.clock)
    (λ a stands. slowed {H = g.row.H.Denot} {Job = g.row.H-Job.Denot} _ c.wake.new.self c.close_slow.new.self c.close_out.new.self c.args.conn
    c.wake.ensures.awake c.close_slow.ensures c.close_out.ensures a (c.wake.ensures.stands_for a stands))
