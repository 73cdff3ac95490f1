use Rattle.std.proofs.Common.{◌≡◌, List, ◌-◌}
use Rattle.hd_server.specs.Machine.{MachineEvent}
use Rattle.hj_jobs.specs.Meaning.{meaning}
use Rattle.hub_machine.specs.Machines.{StandsMachine}
use Rattle.hub_machine.specs.KeeperState.{keeper_state}
use Rattle.hub_machine.proofs.RoundWhole.{HasGone}
use Rattle.hub_machine.proofs.machine.Machine.round.Given as goal

abbrev pub invariant-loop-conn : goal.invariant-loop-conn
invariant-loop-conn g l = ((w : List MachineEvent) → StandsMachine {H = g.row.H.Denot} (meaning g.H.Hub.begin_of g.H.Hub.step_of) l.fn.self w
    → HasGone {H = g.row.H.Denot} (meaning g.H.Hub.begin_of g.H.Hub.step_of) l.self
    (keeper_state (g.K.Keeper.holds l.fn.keeper) (g.K.Keeper.answers l.fn.keeper) (g.K.Keeper.faults l.fn.keeper) l.fn.steps)
    (keeper_state (g.K.Keeper.holds l.keeper) (g.K.Keeper.answers l.keeper) (g.K.Keeper.faults l.keeper) l.steps) l.now w l.passed)
    × (l.self.idle_set.clock.moment ≡ l.fn.self.idle_set.clock.moment)

abbrev pub decreases-loop-conn : goal.decreases-loop-conn
decreases-loop-conn g l = 18446744073709551615 - l.passed
