-- Rows in the order of their rowids.
use Rattle.std.proofs.Common.{◌≡◌, ℤ, pos, ◌+ℤ◌, ◌<ℤ◌, List, [], ◌∷◌, ◌++◌, fold, refl, ap, ◌∙◌, arith, Less, int_cmp, IsTrue}
use Rattle.std.proofs.lemmas.Int.{ints}
use Rattle.std.proofs.lemmas.Bool.Decides.{nat_tests}
use Rattle.std.specs.List.{AllByRecursion}
use Rattle.sqlite.specs.declared.types.Value.TheVariants.{Int}
use Rattle.sqlite.specs.Order.{Row, value_cmp}
use Rattle.sqlite.specs.Tree.{rowid, put_row, IsTable}
use Rattle.sqlite.specs.Edit.{id_in, next_rowid, at_least}
use Rattle.sqlite.specs.Rowids.{Rowids}
use Rattle.sqlite.specs.Rowids.TheVariants.{Chosen, Above, Given}
use Rattle.sqlite_trees.specs.View.{is_int}
use Rattle.sqlite_rules.proofs.TableLemmas.{int_is}
use Rattle.sqlite_value.proofs.OrderLemmas.{value_cmp-Int}

pub put_last : (new : Row) (rows : List Row) → AllByRecursion (λ r. value_cmp (rowid r) (rowid new) ≡ Less) rows → put_row new rows ≡ rows ++ new ∷ []
put_last new [] below = refl
put_last new (r ∷ rows) below = rw below.0 (ap (λ x. r ∷ x) (put_last new rows below.1))

is_less : (a b : ℤ) → a <ℤ b → int_cmp a b ≡ Less
is_less a b h = grind (arith, ints, nat_tests)

lower_than : (a b c : ℤ) → int_cmp a b ≡ Less → b <ℤ c → a <ℤ c
lower_than a b c p q = grind (arith, ints, nat_tests)

abbrev step_rowid : ℤ → Row → ℤ
step_rowid n r = id_in (rowid r) +ℤ pos 1

below_next : (x : Row) (rows : List Row) → IsTable (x ∷ rows) → AllByRecursion (λ r. IsTrue (is_int (rowid r))) (x ∷ rows)
    → AllByRecursion (λ r. id_in (rowid r) <ℤ fold step_rowid (step_rowid (pos 1) x) rows) (x ∷ rows)
below_next x [] up keyed = (omega (arith, ints), tt)
below_next x (y ∷ rows) up keyed =
    let later = below_next y rows up.1 keyed.1 in
    let lower = rw (int_is (rowid x) keyed.0, int_is (rowid y) keyed.1.0, value_cmp-Int (id_in (rowid x)) (id_in (rowid y))) at up.0.0 in
    let first = later.0 in
    (lower_than (id_in (rowid x)) (id_in (rowid y)) _ lower first, later)

still_below : (rowids : Rowids) (a b : ℤ) → a <ℤ b → a <ℤ at_least rowids b
still_below Chosen a b h = h
still_below (Above last) a b h = grind (arith, ints, nat_tests)
still_below Given a b h = h

all_less : (rowids : Rowids) (next : ℤ) (rows : List Row) → AllByRecursion (λ r. IsTrue (is_int (rowid r))) rows → AllByRecursion (λ r. id_in (rowid r) <ℤ next) rows
    → AllByRecursion (λ r. value_cmp (rowid r) (Int (at_least rowids next)) ≡ Less) rows
all_less rowids next [] keyed low = tt
all_less rowids next (r ∷ rows) keyed low =
    (ap (λ v. value_cmp v (Int (at_least rowids next))) (int_is (rowid r) keyed.0) ∙ value_cmp-Int (id_in (rowid r)) (at_least rowids next) ∙ is_less _ _ (still_below rowids _ next low.0), all_less rowids next rows keyed.1 low.1)

-- the number that is chosen next is above each that is there
pub next_is_last : (rowids : Rowids) (rows : List Row) → IsTable rows → AllByRecursion (λ r. IsTrue (is_int (rowid r))) rows
    → AllByRecursion (λ r. value_cmp (rowid r) (Int (at_least rowids (next_rowid rows))) ≡ Less) rows
next_is_last rowids [] up keyed = tt
next_is_last rowids (x ∷ rows) up keyed = all_less rowids (next_rowid (x ∷ rows)) (x ∷ rows) keyed (below_next x rows up keyed)
