-- One list done after another.
use Rattle.std.proofs.Common.{refl, ◌≡◌, List, [], ◌∷◌, ◌++◌}
use Rattle.hd_server.specs.Plans.{onto}

pub onto_both : {A : Type 0} (xs ys h : List A) → onto (xs ++ ys) h ≡ onto ys (onto xs h)
onto_both [] ys h = refl
onto_both (x ∷ xs) ys h = onto_both xs ys (x ∷ h)
