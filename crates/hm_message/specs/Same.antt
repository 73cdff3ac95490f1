-- The test whether headers are the same.
use Rattle.std.specs.Prelude.{◌==◌, ◌&&◌, ℕ, Bool, List}
use Rattle.std.specs.Cmp.{IsEquivalence, and_equiv, on_equiv}
use Rattle.std.specs.Cmp.Lexicographic.{pointwise, lists_equiv, nat_list_eq_equiv}
use Rattle.hm_message.specs.Headers.{Header}

abbrev pub same_text : List ℕ → List ℕ → Bool
same_text s t = pointwise (λ x y. x == y) s t

abbrev pub same_header : Header → Header → Bool
same_header p q = same_text p.0 q.0 && same_text p.1 q.1

abbrev pub same_headers : List Header → List Header → Bool
same_headers g h = pointwise same_header g h

same_header_equiv : IsEquivalence same_header
same_header_equiv = and_equiv (on_equiv (λ (p : Header). p.0) nat_list_eq_equiv) (on_equiv (λ (p : Header). p.1) nat_list_eq_equiv)

pub same_headers_equiv : IsEquivalence same_headers
same_headers_equiv = lists_equiv same_header_equiv
