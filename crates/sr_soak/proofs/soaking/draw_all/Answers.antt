use Rattle.std.proofs.Common.{◌≡◌, subst, arith}
use Rattle.sr_soak.specs.Recipe.{drawn_script}
use Rattle.sr_soak.specs.Plays.{Reaches}
use Rattle.sr_soak.proofs.soaking.draw_all.Goals as goal

pub returns : goal.returns
returns c = λ start.
    let all : c.loop-drawn._drawn ≡ c.args.steps = omega (arith, c.loop-drawn-test.false, c.loop-drawn.auto._drawn-end) in
    subst (λ n. Reaches (drawn_script c.args.seed n) c.loop-drawn.peers) all (c.loop-drawn.invariant start).reaches
