use Rattle.std.proofs.Common.{◌≡◌, List, drop}
use Rattle.hd_server.specs.declared.vocabulary.Said.{Said}
use Rattle.hd_server.specs.Doings.{ServerEvent, moment}
use Rattle.hd_server.specs.Plans.{Setup}
use Rattle.hj_jobs.specs.Meaning.{meaning}
use Rattle.hub_server.specs.Lanes.{Unsettled, settled}
use Rattle.hub_server.specs.Servers.{Standing}
use Rattle.hub_server.proofs.FlushAll.{ToldSome}
use Rattle.hub_server.proofs.server.Server.flush_all.Given as goal

abbrev pub invariant-loop-conn : goal.invariant-loop-conn
invariant-loop-conn g l = (s : Setup) (u : Unsettled) (before : List Said) (h : List ServerEvent)
    → Standing {H = g.row.H.Denot} (meaning g.H.Hub.begin_of g.H.Hub.step_of) s u before l.fn.self h → u ≡ settled
    → l.fn.self.machine.idle_set.clock.moment ≡ moment h
    → ToldSome {H = g.row.H.Denot} (meaning g.H.Hub.begin_of g.H.Hub.step_of) s before l.self l.conn-items (drop l.conn-index l.conn-items) h
