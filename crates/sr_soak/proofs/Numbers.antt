-- Whole numbers as arguments of a call.
use Rattle.std.proofs.Common.{◌≡◌, ℕ, List, [], ◌∷◌, map, pos, refl, ap, arith}
use Rattle.hv_value.specs.Tree.{Tree, int, depth_of_all}
use Rattle.hv_value.specs.View.{trees_of}
use Rattle.hv_value.specs.declared.value.Value.{Value}
use native.Mathlib.Numerals.{unary_clauses}

abbrev pub numbers_in : List ℕ → List Tree
numbers_in numbers = map (λ n. int (pos n)) numbers

-- numbers don't nest
numbers_are_shallow : (numbers : List ℕ) → depth_of_all (numbers_in numbers) ≡ 0
numbers_are_shallow [] = refl
numbers_are_shallow (n ∷ numbers) = simp unary_clauses (numbers_are_shallow numbers)

pub not_too_deep : (values : List Value) (numbers : List ℕ) → trees_of values ≡ numbers_in numbers → depth_of_all (trees_of values) ≡ 64 → ⊥
not_too_deep values numbers e deep = omega (arith, ap depth_of_all e, numbers_are_shallow numbers, deep)
