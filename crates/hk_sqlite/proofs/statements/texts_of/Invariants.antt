use Rattle.std.proofs.Common.{◌≡◌, map, take}
use Rattle.sqlite.specs.Order.{column, bytes}
use Rattle.hk_sqlite.proofs.statements.texts_of.Given as goal

abbrev pub invariant-loop-row : goal.invariant-loop-row
invariant-loop-row l = l.texts.items ≡ map (λ row. bytes (column row 0)) (take l.row-index l.rows)
