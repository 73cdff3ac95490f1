-- Numbers without repetition, in order: a rising list.
use Rattle.std.specs.Prelude.{◌≡◌, ◌⊎◌, ◌<◌, ◌≤◌, ℕ, Bool, true, false, ◌||◌, ◌==◌, List, [], ◌∷◌, length, Option, Some, None}
use Rattle.std.specs.Vec.{vec_capacity}
use Rattle.hv_value.specs.declared.sorted_set.SortedSet.{SortedSet}

-- the number is one of these
abbrev pub is_in : ℕ → List ℕ → Bool
is_in n [] = false
is_in n (k ∷ ks) = (n == k) || is_in n ks

-- each is above the one before it
abbrev pub IsRising : List ℕ → Type 0
IsRising [] = Unit {0}
IsRising (n ∷ ns) = ((k : ℕ) → is_in k ns ≡ true → n < k) × IsRising ns

-- one more number has a place without more memory
abbrev pub HasPlace : SortedSet → ℕ → Type 0
HasPlace set n = (is_in n set.numbers.items ≡ true) ⊎ (length set.numbers.items < vec_capacity set.numbers)

-- the first number past this one, if there is one
abbrev pub IsFirstPast : ℕ → List ℕ → Option ℕ → Type 0
IsFirstPast passed ns None = (k : ℕ) → is_in k ns ≡ true → k ≤ passed
IsFirstPast passed ns (Some n) = (is_in n ns ≡ true) × (passed < n) × ((k : ℕ) → is_in k ns ≡ true → passed < k → n ≤ k)
