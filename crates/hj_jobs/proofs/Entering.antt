-- One entry more among the live jobs.
use Rattle.std.proofs.Common.{◌≡◌, ℕ, suc, ◌+◌, Bool, true, false, cond, Option, Some, None, is_some, Result, Ok, Err, IsOk, OnOk, IfOk, nat_eq, refl, sym, ap, ◌∙◌, if◌then◌else◌}
use Rattle.indexmap.specs.IndexMap.{IndexMap, get, index_map_len, Updates}

-- what an insert says that can't fail, of a number that wasn't there
pub record Entered {X S : Type 0} (m n : IndexMap ℕ X S) (k : ℕ) (x : X) : Type 0 where
  pub here : get nat_eq n k ≡ Some x
  pub others : (q : ℕ) → nat_eq k q ≡ false → get nat_eq n q ≡ get nat_eq m q
  pub count : index_map_len n ≡ index_map_len m + 1

pub entered : {X S E : Type 0} (m n : IndexMap ℕ X S) (k : ℕ) (x : X) (r : Result (Option X) E)
    → IsOk r → get nat_eq m k ≡ None → OnOk r (Updates nat_eq m n k (Some x)) → IfOk r (λ old. old ≡ get nat_eq m k)
    → IfOk r (λ old. index_map_len n ≡ index_map_len m + (if is_some old then 0 else 1)) → Entered m n k x
entered m n k x (Err e) ok absent u o l = absurd (let z : false ≡ true = ok in cc)
entered m n k x (Ok old) ok absent u o l = record {
  here = u.1;
  others = u.2;
  count = l ∙ ap (λ o. index_map_len m + (if is_some o then 0 else 1)) (o ∙ absent);
}
