use Rattle.std.proofs.Common.{◌≡◌}
use Rattle.hj_jobs.specs.Meaning.{meaning}
use Rattle.hub_server.proofs.TickAll.{TickSoFar}
use Rattle.hub_server.proofs.server.Server.tick_all.Given as goal

abbrev pub invariant-loop-conn : goal.invariant-loop-conn
invariant-loop-conn g l = (TickSoFar {H = g.row.H.Denot} (meaning g.H.Hub.begin_of g.H.Hub.step_of) l.fn.self l.conn-items l.self l.conn-index)
    × (l.self.machine.idle_set.clock.moment ≡ l.fn.self.moment)
