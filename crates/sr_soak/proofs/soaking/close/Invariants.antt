use Rattle.std.proofs.Common.{List}
use Rattle.sr_script.specs.declared.action.Action.{Action}
use Rattle.sr_soak.specs.Plays.{HasTurned, Reaches}
use Rattle.sr_soak.proofs.soaking.close.Given as goal

abbrev pub invariant-loop-turned : goal.invariant-loop-turned
invariant-loop-turned l = (actions : List Action) → Reaches actions l.fn.peers → HasTurned actions l._turned l.peers
