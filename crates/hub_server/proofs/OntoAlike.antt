-- Doings put onto others, part by part.
use Rattle.std.proofs.Common.{◌≡◌, List, [], ◌∷◌, ◌++◌, refl}
use Rattle.hd_server.specs.Plans.{onto}

pub onto_append : {A : Type 0} (xs ys h : List A) → onto (xs ++ ys) h ≡ onto ys (onto xs h)
onto_append [] ys h = refl
onto_append (x ∷ xs) ys h = onto_append xs ys (x ∷ h)
