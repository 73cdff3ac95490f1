-- A target that is no method's name names none.
use Rattle.std.proofs.Common.{◌≡◌, ℕ, Bool, true, false, List, [], ◌∷◌, None, refl}
use Rattle.std.specs.Cmp.Lexicographic.{bytes_decides}
use Rattle.hm_message.specs.Same.{same_text}
use Rattle.hub_calc.specs.declared.method.Method.{Method}
use Rattle.hub_calc.specs.declared.method.Method.TheVariants.{Echo, Add, Count, Sum, Slow, Fail, Ask}
use Rattle.hub_calc.specs.Methods.{methods, name_of, named}

-- a method whose name it isn't
passes : (target : List ℕ) (m : Method) (ms : List Method) → (target ≡ name_of m → ⊥) → named target ms ≡ None → named target (m ∷ ms) ≡ None
passes target m ms other rest = go (same_text target (name_of m)) refl
  where
    go : (b : Bool) → same_text target (name_of m) ≡ b → named target (m ∷ ms) ≡ None
    go true e = absurd (other ((bytes_decides target (name_of m)).0 e))
    go false e = rw e rest

pub names_none : (target : List ℕ) (ms : List Method) → ((m : Method) → target ≡ name_of m → ⊥) → named target ms ≡ None
names_none target [] none = refl
names_none target (m ∷ ms) none = passes target m ms (none m) (names_none target ms none)

pub is_none : (target : List ℕ) → (target ≡ name_of Echo → ⊥) → (target ≡ name_of Add → ⊥) → (target ≡ name_of Count → ⊥) → (target ≡ name_of Sum → ⊥)
    → (target ≡ name_of Slow → ⊥) → (target ≡ name_of Fail → ⊥) → (target ≡ name_of Ask → ⊥) → named target methods ≡ None
is_none target echo add count sum slow fail ask = names_none target methods (elim [ Echo ↦ echo | Add ↦ add | Count ↦ count | Sum ↦ sum | Slow ↦ slow | Fail ↦ fail | Ask ↦ ask ])
