use Rattle.std.proofs.Common.{◌≡◌, List}
use Rattle.hd_server.specs.Machine.{MachineEvent}
use Rattle.hj_jobs.specs.Meaning.{meaning}
use Rattle.hub_machine.specs.Machines.{StandsMachine}
use Rattle.hub_machine.specs.KeeperState.{keeper_state}
use Rattle.hub_machine.specs.Rounds.{InRound}
use Rattle.hub_machine.proofs.RoundTurned.{HasPassed}
use Rattle.hub_machine.proofs.machine.Machine.turns.Given as goal

abbrev pub invariant-loop-deed : goal.invariant-loop-deed
invariant-loop-deed g l = ((w r : List MachineEvent)
    → StandsMachine {H = g.row.H.Denot} (meaning g.H.Hub.begin_of g.H.Hub.step_of) l.fn.self r → InRound l.now w r l.conn
    → HasPassed {H = g.row.H.Denot} (meaning g.H.Hub.begin_of g.H.Hub.step_of) l.self
    (keeper_state (g.K.Keeper.holds l.fn.keeper) (g.K.Keeper.answers l.fn.keeper) (g.K.Keeper.faults l.fn.keeper) l.fn.steps)
    (keeper_state (g.K.Keeper.holds l.keeper) (g.K.Keeper.answers l.keeper) (g.K.Keeper.faults l.keeper) l.steps) l.now w r l.conn l._deed)
    × (l.self.idle_set.clock ≡ l.fn.self.idle_set.clock)
