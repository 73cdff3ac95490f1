use Rattle.hj_jobs.specs.Meaning.{meaning}
use Rattle.hub_machine.proofs.Turns.{count_is}
use Rattle.hub_machine.proofs.machine.Machine.jobs.Goals as goal

pub returns-in-Some : goal.returns-in-Some
returns-in-Some g c =
    count_is {H = g.row.H.Denot} {Job = g.row.H-Job.Denot} (meaning g.H.Hub.begin_of g.H.Hub.step_of) c.args.self.now c.args.conn c.in-Some.peer.now
    c.begun.result c.in-Some.ensures.value c.begun.ensures
