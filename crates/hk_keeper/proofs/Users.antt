-- Users by their access tokens.
use Rattle.std.proofs.Common.{◌≡◌, Bool, true, false, not, List, [], ◌∷◌, Some, option_map, is_none, cond, ◌||◌, refl}
use Rattle.std.specs.Prelude.{find}
use Rattle.std.specs.List.{list_any}

-- nothing is found exactly where nothing passes the test
pub none_passes : {X Y : Type 0} (test : X → Bool) (f : X → Y) (xs : List X) → not (list_any test xs) ≡ is_none (option_map f (find test xs))
none_passes test f [] = refl
none_passes {X} test f (x ∷ xs) = go (test x) (none_passes test f xs)
  where
    go : (b : Bool) → not (list_any test xs) ≡ is_none (option_map f (find test xs)) →
        not (b || list_any test xs) ≡ is_none (option_map f (cond b (Some x) (find test xs)))
    go true e = refl
    go false e = e
