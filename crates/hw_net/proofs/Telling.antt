-- What several calls on wires tell, one after the other.
use Rattle.std.proofs.Common.{List, [], ◌∷◌, ◌++◌, Option, None, Some, sym, ap, ◌∙◌, append_assoc}
use Rattle.std.proofs.lemmas.List.{append-nil}
use Rattle.hw_door.specs.Calls.{Adds, AddsSome}
use Rattle.hw_door.specs.Traffic.{Answer}
use Rattle.hw_net.specs.Trace.{Tells}

pub adds-tells : (a b : Option (List Answer)) (x : Answer) → Adds a b x → Tells a b (x ∷ [])
adds-tells None None x h = tt
adds-tells (Some m) None x h = tt
adds-tells None (Some n) x h = absurd h
adds-tells (Some m) (Some n) x h = h

pub adds-some-tells : (a b : Option (List Answer)) (xs : List Answer) → AddsSome a b xs → Tells a b xs
adds-some-tells None None xs h = tt
adds-some-tells (Some m) None xs h = tt
adds-some-tells None (Some n) xs h = absurd h
adds-some-tells (Some m) (Some n) xs h = h

pub tells-none : (a : Option (List Answer)) → Tells a a []
tells-none None = tt
tells-none (Some m) = sym (append-nil m)

pub tells-more : (a b c : Option (List Answer)) (xs ys : List Answer) → Tells a b xs → Tells b c ys → Tells a c (xs ++ ys)
tells-more None b None xs ys h k = tt
tells-more (Some m) b None xs ys h k = tt
tells-more None None (Some o) xs ys h k = absurd k
tells-more None (Some n) (Some o) xs ys h k = absurd h
tells-more (Some m) None (Some o) xs ys h k = absurd k
tells-more (Some m) (Some n) (Some o) xs ys h k = k ∙ ap (λ (l : List Answer). l ++ ys) h ∙ append_assoc m xs ys

-- the same, as the answers of both
pub tells-one-more : (a b c : Option (List Answer)) (xs : List Answer) (x : Answer) → Tells a b xs → Adds b c x → Tells a c (xs ++ x ∷ [])
tells-one-more a b c xs x h k = tells-more a b c xs (x ∷ []) h (adds-tells b c x k)
