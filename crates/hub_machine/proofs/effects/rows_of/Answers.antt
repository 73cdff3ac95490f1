use Rattle.std.proofs.Common.{◌≡◌, ℕ, List, [], ◌∷◌, map, Result, Ok, Err, refl, ap, ◌∙◌, arith}
use Rattle.std.specs.Prelude.{◌↔◌, IfErr}
use Rattle.std.specs.Result.{IsOk}
use Rattle.hv_value.specs.Tree.{Tree, text, depth_of_all}
use Rattle.hv_value.specs.declared.value.ValueError.{ValueError}
use Rattle.hv_value.specs.declared.value.ValueError.TheVariants.{TooDeep}
use Rattle.hub_machine.proofs.effects.rows_of.Goals as goal

-- texts nest in nothing
flat : (texts : List (List ℕ)) → depth_of_all (map text texts) ≡ 0
flat [] = refl
flat (t ∷ texts) = omega (arith, flat texts)

-- so a list of them nests deep enough
not_deep : (r : Result (List Tree) ValueError) (values : List Tree) → depth_of_all values ≡ 0 → IfErr r (λ e. e ≡ TooDeep)
    → (r ≡ Err TooDeep) ↔ (depth_of_all values ≡ 64) → IsOk r
not_deep (Ok items) values e only deep = refl
not_deep (Err why) values e only deep = absurd (let f : depth_of_all values ≡ 64 = deep.0 (ap Err only) in omega arith)

pub unwrap-requires : goal.unwrap-requires
unwrap-requires c = not_deep c.of.result _ (ap depth_of_all c.loop-text.invariant ∙ flat _) c.of.ensures.only c.of.ensures.deep
