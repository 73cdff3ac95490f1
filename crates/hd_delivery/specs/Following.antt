-- Steps that follow from one another.
use Rattle.std.specs.Prelude.{◌≡◌, ◌⊎◌, ◌≤◌, ℕ, List, [], ◌∷◌, ◌++◌, length, Option, Some, None}

-- what comes next after these steps, if anything
abbrev pub Next : Type 0 → Type 0
Next S = List S → Option S

-- from this history on these steps were made, each as the one that came next; the latest stands first
abbrev pub Follow : {S : Type 0} → Next S → List S → List S → Type 0
Follow next h [] = Unit {0}
Follow next h (s ∷ ss) = Follow next h ss × (next (ss ++ h) ≡ Some s)

-- these steps, after which nothing comes next
abbrev pub FollowAll : {S : Type 0} → Next S → List S → List S → Type 0
FollowAll next h ss = Follow next h ss × (next (ss ++ h) ≡ None)

-- this many of them, or all if these are fewer; all where no number is given
abbrev pub FollowUpTo : {S : Type 0} → Option ℕ → Next S → List S → List S → Type 0
FollowUpTo None next h ss = FollowAll next h ss
FollowUpTo (Some n) next h ss = (Follow next h ss × (length ss ≡ n)) ⊎ (FollowAll next h ss × (length ss ≤ n))
