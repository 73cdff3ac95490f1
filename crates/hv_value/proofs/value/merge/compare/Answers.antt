use Rattle.std.proofs.Common.{drop, sym, ◌∙◌, arith, length-drop}
use Rattle.hv_value.proofs.Places.{first_ends, second_ends}
use Rattle.hv_value.proofs.value.merge.compare.Goals as goal

pub returns-then-a-b : goal.returns-then-a-b
returns-then-a-b c =
    let i = c.loop-i.i in
    let a = c.args.a.now in
    let b = c.args.b.now in
    sym (sym c.loop-i.invariant ∙ first_ends (drop i a) (drop i b) (omega (arith, length-drop i a)) (omega (arith, length-drop i b)))

pub returns-then-a-b-2 : goal.returns-then-a-b-2
returns-then-a-b-2 c =
    let i = c.loop-i.i in
    let a = c.args.a.now in
    let b = c.args.b.now in
    sym (sym c.loop-i.invariant ∙ second_ends (drop i a) (drop i b) (omega (arith, length-drop i a)) (omega (arith, length-drop i b)))
