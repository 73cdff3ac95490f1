-- When two values are equal by `=` of SQL.
use Rattle.std.proofs.Common.{◌≡◌, ℕ, ℤ, List, int_cmp, Bool, true, false, refl, ap, ◌∙◌, is_eq, bytes_eq}
use Rattle.std.proofs.lemmas.Map.Text.{is_eq-slice_cmp}
use Rattle.sqlite.specs.declared.types.Value.TheVariants.{Int, Text}
use Rattle.sqlite.specs.Order.{value_cmp}
use Rattle.sqlite.specs.Ops.{binary, is_true}
use Rattle.sqlite_sql.specs.declared.ops.BinaryOp.TheVariants.{Compare}
use Rattle.sqlite_sql.specs.declared.ops.CompareOp.TheVariants.{Eq}
use Rattle.sqlite.specs.Collation.TheVariants.{Binary}
use Rattle.sqlite_value.proofs.OrderLemmas.{value_cmp-Int, value_cmp-Text}

pub equal_texts : (a b : List ℕ) → is_true (binary (Compare Eq Binary) (Text a) (Text b)) ≡ bytes_eq a b
unfolding binary
equal_texts a b = go (is_eq (value_cmp (Text a) (Text b))) refl ∙ ap is_eq (value_cmp-Text a b) ∙ is_eq-slice_cmp a b
  where
    go : (t : Bool) → is_eq (value_cmp (Text a) (Text b)) ≡ t → is_true (binary (Compare Eq Binary) (Text a) (Text b)) ≡ is_eq (value_cmp (Text a) (Text b))
    go true e = rw e refl
    go false e = rw e refl

pub equal_ints : (a b : ℤ) → is_true (binary (Compare Eq Binary) (Int a) (Int b)) ≡ is_eq (int_cmp a b)
unfolding binary
equal_ints a b = go (is_eq (value_cmp (Int a) (Int b))) refl ∙ ap is_eq (value_cmp-Int a b)
  where
    go : (t : Bool) → is_eq (value_cmp (Int a) (Int b)) ≡ t → is_true (binary (Compare Eq Binary) (Int a) (Int b)) ≡ is_eq (value_cmp (Int a) (Int b))
    go true e = rw e refl
    go false e = rw e refl
