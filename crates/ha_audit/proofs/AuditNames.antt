-- Links by their names.
use Rattle.std.proofs.Common.{◌≡◌, ◌<◌, ◌==◌, ℕ, Some, refl, sym, ap, ◌∙◌, arith}
use Rattle.std.specs.Prelude.{if◌then◌else◌}
use Rattle.std.specs.declared.cmp.Ordering.{Ordering}
use Rattle.std.specs.declared.cmp.Ordering.TheVariants.{Less, Equal, Greater}
use Rattle.std.specs.Ordering.{nat_cmp, is_eq, MatchOrdering}
use Rattle.std.specs.BTreeMap.{Updates}
use Rattle.std.proofs.lemmas.Bool.{eq-eqb, ne_eqb}
use Rattle.std.proofs.lemmas.Cmp.{ranked}
use Rattle.ha_audit.specs.declared.auditor.said.SaidOnLink.{SaidOnLink}
use Rattle.ha_audit.specs.AuditState.{Links, said_on}

-- a name compares equal to itself alone
pub same_name : (l m : ℕ) → is_eq (nat_cmp l m) ≡ (m == l)
same_name l m = go (nat_cmp l m) (ranked l m (nat_cmp l m) refl)
  where
    go : (o : Ordering) → MatchOrdering o (l < m) (l ≡ m) (m < l) → is_eq o ≡ (m == l)
    go Less low = sym (ne_eqb m l (λ e. absurd (omega arith)))
    go Equal e = sym (eq-eqb m l (sym e))
    go Greater low = sym (ne_eqb m l (λ e. absurd (omega arith)))

-- what is put under a name
pub put : (old new : Links) (l : ℕ) (said : SaidOnLink) → Updates nat_cmp old new l (Some said)
    → (m : ℕ) → said_on new m ≡ (if m == l then Some said else said_on old m)
put old new l said u m = u.0 m ∙ ap (λ b. if b then Some said else said_on old m) (same_name l m)
