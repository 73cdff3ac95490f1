-- The worked worlds are worlds.
use Rattle.std.proofs.Common.{inl, inr, ⊎_elim, ◌≡◌, ℕ, ◌<◌, Bool, true, false, List, [], ◌∷◌, refl, arith}
use Rattle.std.specs.Prelude.{◌==◌, ◌+◌, ◌^◌, ◌||◌, ◌&&◌, nat_lt, reverse}
use Rattle.std.proofs.lemmas.Bool.{eqb-true, or_cases, and_parts, ltb-true}
use Rattle.hm_message.specs.declared.message.Codec.TheVariants.{Json}
use Rattle.hd_delivery.specs.Worlds.{alike, CanBeSent, IsWorld}
use Rattle.hd_delivery.specs.Examples.{a, usual, sizes, terms, opened, older_link_later, far_link}

-- a name among these, each of which is below another, is below it
abbrev pub among : ℕ → List ℕ → Bool
among k [] = false
among k (n ∷ ns) = (k == n) || among k ns

abbrev pub all_below : ℕ → List ℕ → Bool
all_below l [] = true
all_below l (n ∷ ns) = nat_lt n l && all_below l ns

pub below : (l : ℕ) (ns : List ℕ) → all_below l ns ≡ true → (k : ℕ) → among k ns ≡ true → k < l
below l [] e k f = absurd (cc)
below l (n ∷ ns) e k f =
    let p = and_parts (nat_lt n l) (all_below l ns) e in
    ⊎_elim (λ g. let h = eqb-true k n g in let i = ltb-true n l p.0 in omega arith) (λ g. below l ns p.1 k g) (or_cases (k == n) (among k ns) f)

a_can_be : CanBeSent usual sizes Json a
a_can_be = record { sequenced = refl; fits = omega arith; as_read = refl; short = omega arith }

-- the handshake
opened_is_world : IsWorld (alike usual) sizes (terms 2 true) (reverse (opened 2))
opened_is_world = ((((((((tt, record { own = record { unclosed = refl; granted = inl refl; unused = refl; in_time = omega arith }; named = below 0 [] refl }), refl), record { own = record { unclosed = refl; granted = inl refl; unused = refl; in_time = omega arith }; named = refl }), record { link = 0; at = refl; unclosed = refl; front = ([], refl) }), refl), refl), record { link = 0; at = refl; unclosed = refl; front = ([], refl) }), refl)

pub older_link_later_is_world : IsWorld (alike usual) sizes (terms 2 true) (reverse older_link_later)
older_link_later_is_world = ((((((((((((((((((opened_is_world, record { unclosed = refl; shakes = refl; few = omega arith; can_be = a_can_be; room = record { of_count = omega arith; of_bytes = omega arith } }), refl), record { link = 0; at = refl; unclosed = refl; front = ([], refl) }), refl), record { own = record { unclosed = refl; granted = inr refl; unused = refl; in_time = omega arith }; named = below 1 (0 ∷ []) refl }), refl), refl), record { own = record { unclosed = refl; granted = inr refl; unused = refl; in_time = omega arith }; named = below 2 (1 ∷ 0 ∷ []) refl }), refl), refl), record { own = record { unclosed = refl; granted = inr refl; unused = refl; in_time = omega arith }; named = refl }), record { link = 2; at = refl; unclosed = refl; front = ([], refl) }), refl), refl), record { own = record { unclosed = refl; granted = inr refl; unused = refl; in_time = omega arith }; named = refl }), record { link = 1; at = refl; unclosed = refl; front = ([], refl) }), refl), refl)

pub far_link_is_world : IsWorld (alike usual) sizes (terms 2 true) (reverse far_link)
far_link_is_world = (((((opened_is_world, record { own = record { unclosed = refl; granted = inr refl; unused = refl; in_time = omega arith }; named = below (2 ^ 32 + 5) (0 ∷ []) refl }), refl), record { own = record { unclosed = refl; granted = inr refl; unused = refl; in_time = omega arith }; named = refl }), record { link = 2 ^ 32 + 5; at = refl; unclosed = refl; front = ([], refl) }), refl)
