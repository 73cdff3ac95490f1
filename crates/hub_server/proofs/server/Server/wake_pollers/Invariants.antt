use Rattle.std.proofs.Common.{take}
use Rattle.hj_jobs.specs.Meaning.{meaning}
use Rattle.hub_server.proofs.WakePollers.{HaveWoken}
use Rattle.hub_server.proofs.server.Server.wake_pollers.Given as goal

abbrev pub invariant-loop-waiting : goal.invariant-loop-waiting
invariant-loop-waiting g l = HaveWoken {H = g.row.H.Denot} (meaning g.H.Hub.begin_of g.H.Hub.step_of) l.fn.self
    (record l.fn.self { machine = l.self.1.1.1.0 }) (take l.waiting-index l.waiting-items)
