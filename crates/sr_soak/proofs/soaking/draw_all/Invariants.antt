use Rattle.sr_soak.specs.Recipe.{opening}
use Rattle.sr_soak.specs.Plays.{HasDrawn, Reaches}
use Rattle.sr_soak.proofs.soaking.draw_all.Given as goal

abbrev pub invariant-loop-drawn : goal.invariant-loop-drawn
invariant-loop-drawn l = Reaches opening l.fn.peers → HasDrawn l.fn.seed l._drawn l.draws l.peers
