use Rattle.std.proofs.Common.{◌≡◌, map, take}
use Rattle.hv_value.specs.Tree.{text}
use Rattle.hv_value.specs.View.{trees_of}
use Rattle.hub_machine.proofs.effects.rows_of.Given as goal

-- those before it are values now
abbrev pub invariant-loop-text : goal.invariant-loop-text
invariant-loop-text l = trees_of l.values.items ≡ map text (take l.text-index l.text-items)
