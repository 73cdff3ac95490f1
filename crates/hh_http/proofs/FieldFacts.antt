-- Elements of list values.
use Rattle.std.proofs.Common.{◌≡◌, ◌==◌, ◌||◌, ℕ, Bool, List, [], ◌∷◌, map, refl, sym, ap}
use Rattle.std.specs.List.{list_any, slice_split, onto_first}
use Rattle.httparse.specs.Ascii.{comma}
use Rattle.httparse.specs.Grammar.{trim_ows}
use Rattle.http1.specs.Text.{eq_ignore_case}
use Rattle.http1.specs.Fields.{split_commas, cons_first, elements, has_option}

cons_first_is : (b : ℕ) (pieces : List (List ℕ)) → cons_first b pieces ≡ onto_first b pieces
cons_first_is b [] = refl
cons_first_is b (piece ∷ pieces) = refl

split_commas_is : (bytes : List ℕ) → split_commas bytes ≡ slice_split (λ b. b == comma) bytes
split_commas_is [] = refl
split_commas_is (b ∷ bytes) = rw (split_commas_is bytes, cons_first_is b) refl

any_of_map : (test : List ℕ → Bool) (f : List ℕ → List ℕ) (xs : List (List ℕ)) → list_any test (map f xs) ≡ list_any (λ x. test (f x)) xs
any_of_map test f [] = refl
any_of_map test f (x ∷ xs) = ap (λ b. test (f x) || b) (any_of_map test f xs)

pub has_option-by_pieces : (option value : List ℕ) → list_any (λ e. eq_ignore_case (trim_ows e) option) (slice_split (λ b. b == comma) value) ≡ has_option option (elements value)
unfolding elements
has_option-by_pieces option value =
    rw (← split_commas_is value) (sym (any_of_map (λ e. eq_ignore_case e option) trim_ows (split_commas value)))
