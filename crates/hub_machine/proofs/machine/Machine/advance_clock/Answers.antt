use Rattle.hj_jobs.specs.Meaning.{meaning}
use Rattle.hub_machine.proofs.Passing.{time_passes}
use Rattle.hub_machine.proofs.machine.Machine.advance_clock.Goals as goal

pub returns-clause-passed : goal.returns-clause-passed
returns-clause-passed g c w v s silent timely did =
    time_passes {H = g.row.H.Denot} {Job = g.row.H-Job.Denot} c.idle_ticks.ensures (meaning g.H.Hub.begin_of g.H.Hub.step_of) c.args.self.now
    c.args.now w v s silent timely did
