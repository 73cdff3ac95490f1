use Rattle.hub_calc.proofs.Runs.{echo, add, add_stops, count, slow, fail, ask}
use Rattle.hub_calc.proofs.laws.methods_do_their_work.Goals as goal

pub returns : goal.returns
returns c =
    let same = c.values_are_trees.ensures in
    record { echo = echo same; add = add; add_range = add_stops; count = count; slow = slow same; fail = fail; ask = ask }
