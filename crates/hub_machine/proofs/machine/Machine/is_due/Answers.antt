use Rattle.hj_jobs.specs.Meaning.{meaning}
use Rattle.hub_machine.proofs.Idle.{due_some}
use Rattle.hub_machine.proofs.machine.Machine.is_due.Goals as goal

pub returns-in-Some : goal.returns-in-Some
returns-in-Some g c = record {
  there = λ w now s. due_some {H = g.row.H.Denot} {Job = g.row.H-Job.Denot} (meaning g.H.Hub.begin_of g.H.Hub.step_of)
      c.turns_are_tested.ensures c.args.self.now c.args.conn w now s c.in-Some.peer.now c.in-Some.ensures.value c.due.result c.due.ensures;
}
