use Rattle.std.proofs.Common.{◌∷◌, ◌++◌, [], Some, sym, subst, take, get_or}
use Rattle.std.proofs.lemmas.List.{take_more}
use Rattle.hn_server_front.specs.Moments.{IsLeast}
use Rattle.hn_server_front.proofs.Placed.{none_at}
use Rattle.hn_server_front.proofs.Passing.{least_more}
use Rattle.hn_server_front.proofs.moments.least.Goals as goal

pub loop-one-preserved : goal.loop-one-preserved
loop-one-preserved c =
    subst (λ ys. IsLeast ys (Some c.lesser.result)) (sym (take_more c.args.waiting.now c.loop-one.one-index none_at c.loop-one-test.true)) (
    subst (λ n. IsLeast (take c.loop-one.one-index c.args.waiting.now ++ get_or c.args.waiting.now c.loop-one.one-index none_at ∷ []) (Some n)) (sym c.lesser.ensures)
    (least_more (take c.loop-one.one-index c.args.waiting.now) (get_or c.args.waiting.now c.loop-one.one-index none_at) c.loop-one.least c.loop-one.invariant)
    )
