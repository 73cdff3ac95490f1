-- What the count of the posts is.
use Rattle.std.proofs.Common.{◌≡◌, inl, inr, ℕ, pos, min, arith, List, [], ◌∷◌, length, map, slice_index_or, Option, Some, Ok, Err, Result, IfOk, sym, ap, subst, ◌∙◌, IsPermutation}
use Rattle.std.specs.List.{AllZip}
use Rattle.std.proofs.lemmas.List.{length-map}
use Rattle.std.proofs.lemmas.List.Sorted.{length_permutation}
use Rattle.sqlite.specs.declared.types.Value.TheVariants.{Null, Int}
use Rattle.sqlite.specs.declared.error.Error.{Error}
use Rattle.sqlite.specs.Order.{Row, column}
use Rattle.sqlite.specs.Term.{Env}
use Rattle.sqlite.specs.Tree.{Trees}
use Rattle.sqlite.specs.Query.{Output, output, page, IsAnswer}
use Rattle.sqlite.specs.Program.{overlay}
use Rattle.sqlite_sql.specs.Aggregate.{count}
use Rattle.sqlite_sql.specs.Group.{value_over, IsSummary}
use Rattle.sqlite.specs.Given.{IsPlain}
use Rattle.sqlite.specs.Listing.{understood}
use Rattle.sqlite.specs.State.{State, QueriesRow}
use Rattle.sqlite.proofs.Callers.{first_as, one_permutation}
use Rattle.hk_sqlite.specs.Schema.{kept_schema}
use Rattle.hk_sqlite.specs.Stored.{IsKept, Holds, tables, post_of, counted}
use Rattle.hk_sqlite.proofs.Lists.{one_each}
use Rattle.hk_sqlite.proofs.Refused.{Spared, unchanged, read_fails, shown_unchanged}
use Rattle.hk_sqlite.proofs.Meaning.{count_text, count_query, count_grouping, count_is, count_plain}

abbrev env_of : Row → Env
env_of r = [] ∷ r ∷ []

same_some : {X : Type 0} {a b : X} → ◌≡◌ {A = Option X} (Some a) (Some b) → a ≡ b
same_some e = cc

values_are : (group : List Env) (values : Row) → AllZip (λ a v. value_over group a ≡ Some v) count_grouping.aggregates values → values ≡ count (length group) ∷ []
values_are group [] zip = absurd zip
values_are group (v ∷ []) zip = ap (λ x. x ∷ []) (sym (same_some zip.0) ∙ ap count (length-map group _))
values_are group (v ∷ w ∷ more) zip = absurd zip.1

summary_is : (group : List Env) (r : Row) → IsSummary count_grouping group r → r ≡ count (length group) ∷ []
summary_is group r it = it.2 ∙ values_are group it.0 it.1

rows_are : (group : List Env) (rows : List Row) → AllZip (IsSummary count_grouping) (group ∷ []) rows → rows ≡ (count (length group) ∷ []) ∷ []
rows_are group [] zip = absurd zip
rows_are group (r ∷ []) zip = ap (λ x. x ∷ []) (summary_is group r zip.0)
rows_are group (r ∷ q ∷ more) zip = absurd zip.1

counts : (db : Trees) (row : Row) (tail : List Row) → IsAnswer count_query (overlay db []) [] (row ∷ tail) → row ≡ count (length (db 2)) ∷ []
counts db row tail a =
    let it = a.grouped in
    let group = it.grouping.0 in
    let size : length group ≡ length (db 2) = length_permutation _ _ it.grouping.1 ∙ ap length (one_each env_of (db 2)) ∙ length-map (db 2) env_of in
    let rows : it.rows ≡ (count (length group) ∷ []) ∷ [] = rows_are group it.rows (subst (λ gs. AllZip (IsSummary count_grouping) gs it.rows) it.grouping.2 it.summaries) in
    let staged : a.staged ≡ env_of (count (length group) ∷ []) ∷ [] = rw rows at it.having in
    let kept : a.kept ≡ ([], count (length group) ∷ []) ∷ [] = a.distinct ∙ ap (map (output count_query)) staged in
    let ordered : a.ordered ≡ ([], count (length group) ∷ []) ∷ [] = one_permutation _ a.ordered (subst (λ k. IsPermutation k a.ordered) kept a.same) in
    let shown : row ∷ tail ≡ (count (length group) ∷ []) ∷ [] = a.shown ∙ ap (λ (os : List Output). page count_query [] (map (λ (o : Output). o.1) os)) ordered in
    ap (λ (rs : List Row). slice_index_or rs 0 []) shown ∙ ap (λ n. count n ∷ []) size

reads_count : (old new : State) (row : Row) → IsKept old → QueriesRow count_text [] old new (Ok row) → row ≡ count (length (old.now.trees 2)) ∷ []
reads_count old new row has h =
    let were = has.are_tables in
    let plain = count_plain were.has_index in
    let first = first_as count_text [] old new (kept_schema were.has_index) were.schema _ (count_is were.has_index) plain.0 plain.1 row h in
    counts old.now.trees row first.1.0 (first.1.1 Null)

-- the number that is read off the row
count_answers : (old new : State) (row : Row) (n : ℕ) → IsKept old → QueriesRow count_text [] old new (Ok row) → column row 0 ≡ Int (pos n) → n ≡ counted (tables old).rows
count_answers old new row n has h is =
    let rows = old.now.trees 2 in
    let same : Int (pos n) ≡ count (length rows) = sym is ∙ ap (λ r. column r 0) (reads_count old new row has h) in
    let number : n ≡ min (length rows) 9223372036854775807 = cc in
    omega (arith, number, length-map rows post_of)

pub read_counts : (old new : State) (row : Row) (P : Type 0) (r : Result ℕ Error) → IsKept old → QueriesRow count_text [] old new (Ok row) → IfOk r (λ n. P × (column row 0 ≡ Int (pos n)))
    → IfOk r (λ n. n ≡ counted (tables old).rows)
read_counts old new row P (Ok n) has h it = count_answers old new row n has h it.1
read_counts old new row P (Err e) has h it = tt

-- and what the query leaves, whichever way it ends
queried : (old new : State) (r : Result Row Error) → IsPlain (understood old.now.schema count_text) → QueriesRow count_text [] old new r → Spared old new
unfolding QueriesRow
queried old new (Ok row) plain (inl h) = inl h.1
queried old new (Ok row) plain (inr h) = inl (shown_unchanged count_text [] old new h.0 plain h.1)
queried old new (Err e) plain (inl h) = read_fails count_text [] old new e h
queried old new (Err e) plain (inr h) = inl (shown_unchanged count_text [] old new [] plain h.1)

plain_of : (old : State) → IsKept old → IsPlain (understood old.now.schema count_text)
plain_of old has = subst (λ s. IsPlain (understood s count_text)) (sym has.are_tables.schema) (count_plain has.are_tables.has_index).0

pub count_fails : (old new : State) (e : Error) → IsKept old → QueriesRow count_text [] old new (Err e) → Spared old new
count_fails old new e has h = queried old new (Err e) (plain_of old has) h

pub count_leaves : (old new : State) (row : Row) → IsKept old → QueriesRow count_text [] old new (Ok row) → Holds new (tables old)
unfolding QueriesRow
count_leaves old new row has (inl h) = unchanged old new has h.1
count_leaves old new row has (inr h) = unchanged old new has (shown_unchanged count_text [] old new h.0 (plain_of old has) h.1)
