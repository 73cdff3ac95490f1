-- What the insertion of a user leaves, who may be known.
use Rattle.std.proofs.Common.{◌≡◌, ◌⊎◌, inl, inr, ℕ, ℤ, nat_lt, List, [], ◌∷◌, ◌++◌, length, map, Bool, true, false, not, if◌then◌else◌, ◌&&◌, ◌||◌, Option, Some, None, Ok, IsTrue, unwrap_or, is_none, refl, sym, ap, ap₂, subst, ◌∙◌, is_eq, int_cmp, Less, bytes_eq}
use Rattle.std.specs.List.{AllByRecursion, list_any}
use Rattle.sqlite.specs.declared.types.Value.TheVariants.{Null, Int, Text}
use Rattle.sqlite.specs.Order.{Row, value_cmp}
use Rattle.sqlite_value.specs.Keys.{first_key}
use Rattle.sqlite_value.proofs.OrderLemmas.{value_cmp-Int}
use Rattle.sqlite.specs.Cast.{cast_row}
use Rattle.sqlite.specs.Source.TheVariants.{Values}
use Rattle.sqlite.specs.Command.TheVariants.{InsertOr}
use Rattle.sqlite.specs.Edit.{Edit, edit_of, edited, next_rowid, with_rowid}
use Rattle.sqlite.specs.Rowids.TheVariants.{Chosen, Given}
use Rattle.sqlite.specs.Does.{Tally, Does}
use Rattle.sqlite.specs.Rows.{Written, Task, Then, Gives, Edited, Counter, Counts, InsertsOr, Tries, TriesEach, Judged, Upserts, Meets, Clears, Puts, nothing, joined, higher, count_of, last_id}
use Rattle.sqlite.specs.Tree.{Trees, rowid, put_row, IsTable}
use Rattle.sqlite_trees.specs.View.{is_int}
use Rattle.sqlite_trees.proofs.TreeLemmas.{IsTable-put_row}
use Rattle.sqlite_rules.specs.Lists.{Has}
use Rattle.sqlite_rules.specs.Keys.{conflicts, AreConflicts}
use Rattle.sqlite_rules.specs.declared.error.Refusal.{Refusal}
use Rattle.sqlite_schema.specs.declared.schema.Keys.TheVariants.{Enforced}
use Rattle.sqlite_schema.specs.declared.command.Conflict.TheVariants.{Abort}
use Rattle.sqlite.specs.Listing.{understood}
use Rattle.sqlite.specs.Effect.{Database}
use Rattle.sqlite.specs.State.{State, mode_of, Writes, Executes}
use Rattle.sqlite.proofs.Callers.{statement_of, runs_as, one_step, through}
use Rattle.sqlite_keyed.proofs.ListLemmas.{all_map, any_from_none}
use Rattle.hd_rooms.specs.Kept.{has_token, name_of, with_user}
use Rattle.hk_sqlite.specs.Schema as schema
use Rattle.hk_sqlite.specs.Schema.{kept_schema}
use Rattle.hk_sqlite.specs.Stored.{IsKept, IsPost, IsUser, AreDistinct, user_row, post_of, user_of, tables, Holds}
use Rattle.hk_sqlite.proofs.Lists.{map_push, all_push, ascending_push, none_found}
use Rattle.hk_sqlite.proofs.Parts.{went, same_value, cast_null, cast_int}
use Rattle.hk_sqlite.proofs.Reading.{equal_texts, equal_ints}
use Rattle.hk_sqlite.proofs.Meaning.{add_text, add_is, add_plain, add_terms, pass_over}
use Rattle.hk_sqlite.proofs.Order.{put_last, next_is_last}

abbrev pub pair_row : List ℕ → List ℕ → Row
pair_row token name = Text token ∷ Text name ∷ []

abbrev source_row : List ℕ → List ℕ → Row
source_row token name = Null ∷ Text token ∷ Text name ∷ []

-- the user's row, with the next rowid
abbrev new_row : Trees → List ℕ → List ℕ → Row
new_row db token name = user_row (next_rowid (db 0)) token name

placed : (db : Trees) (token name : List ℕ) → with_rowid Chosen (db 0) (cast_row schema.users (source_row token name)) ≡ new_row db token name
placed db token name = rw cast_null refl

keyed : (rows : List Row) → AllByRecursion IsUser rows → AllByRecursion (λ r. IsTrue (is_int (rowid r))) rows
keyed [] all = tt
keyed (r ∷ rows) all = (rw all.0.3 refl, keyed rows all.1)

-- ---- which rows conflict

either_equal : (x y : Bool) → ((x && true) || ((y && true) || false)) ≡ (x || y)
either_equal true y = refl
either_equal false true = refl
either_equal false false = refl

conflicts_are : (has_index : Bool) (i j : ℤ) (token name other said : List ℕ)
    → conflicts None (kept_schema has_index).indexes schema.users (user_row j other said) (user_row i token name) ≡ (is_eq (int_cmp i j) || bytes_eq token other)
unfolding first_key
conflicts_are true i j token name other said = ap₂ (λ x y. (x && true) || ((y && true) || false)) (equal_ints i j) (equal_texts token other) ∙ (either_equal (is_eq (int_cmp i j)) (bytes_eq token other))
conflicts_are false i j token name other said = ap₂ (λ x y. (x && true) || ((y && true) || false)) (equal_ints i j) (equal_texts token other) ∙ (either_equal (is_eq (int_cmp i j)) (bytes_eq token other))

or_true : (b : Bool) → (b || true) ≡ true
or_true true = refl
or_true false = refl

abbrev Conflicts : Bool → Row → Row → Type 0
Conflicts has_index new r = conflicts None (kept_schema has_index).indexes schema.users new r ≡ true

-- who has the token has a row that conflicts
knows : (has_index : Bool) (j : ℤ) (token name : List ℕ) (r : Row) → IsUser r → has_token token (user_of r) ≡ true → Conflicts has_index (user_row j token name) r
knows has_index j token name r it e =
    let same : bytes_eq it.1 token ≡ true = subst (λ q. has_token token (user_of q) ≡ true) it.3 e in
    subst (Conflicts has_index (user_row j token name)) (sym it.3)
    (conflicts_are has_index it.0 j it.1 it.2 token name ∙ ap (λ b. is_eq (int_cmp it.0 j) || b) same ∙ or_true (is_eq (int_cmp it.0 j)))

strangers : (has_index : Bool) (j : ℤ) (token name : List ℕ) (rows : List Row) → AllByRecursion IsUser rows → ((r : Row) → Has rows r → Conflicts has_index (user_row j token name) r → ⊥)
    → AllByRecursion (λ r. has_token token (user_of r) ≡ false) rows
strangers has_index j token name [] all none = tt
strangers has_index j token name (r ∷ rows) all none = (go (has_token token (user_of r)) refl, strangers has_index j token name rows all.1 (λ q at. none q (inr at)))
  where
    go : (b : Bool) → has_token token (user_of r) ≡ b → has_token token (user_of r) ≡ false
    go true e = absurd (none r (inl refl) (knows has_index j token name r all.0 e))
    go false e = e

-- a row with a lower rowid conflicts only by its token
by_token : (has_index : Bool) (j : ℤ) (token name : List ℕ) (r : Row) → IsUser r → value_cmp (rowid r) (Int j) ≡ Less → Conflicts has_index (user_row j token name) r → has_token token (user_of r) ≡ true
by_token has_index j token name r it low c =
    let lower : int_cmp it.0 j ≡ Less = sym (value_cmp-Int it.0 j) ∙ subst (λ q. value_cmp (rowid q) (Int j) ≡ Less) it.3 low in
    let meets : (is_eq (int_cmp it.0 j) || bytes_eq it.1 token) ≡ true = sym (conflicts_are has_index it.0 j it.1 it.2 token name) ∙ subst (Conflicts has_index (user_row j token name)) it.3 c in
    let same : bytes_eq it.1 token ≡ true = subst (λ o. (is_eq o || bytes_eq it.1 token) ≡ true) lower meets in
    subst (λ q. has_token token (user_of q) ≡ true) (sym it.3) same

known : (has_index : Bool) (j : ℤ) (token name : List ℕ) (rows : List Row) → AllByRecursion IsUser rows → AllByRecursion (λ r. value_cmp (rowid r) (Int j) ≡ Less) rows
    → (r : Row) → Has rows r → Conflicts has_index (user_row j token name) r → list_any (has_token token) (map user_of rows) ≡ true
known has_index j token name [] all low r at c = absurd at
known has_index j token name (x ∷ rows) all low r (inl same) c =
    let here = by_token has_index j token name x all.0 low.0 (subst (Conflicts has_index (user_row j token name)) same c) in
    ap (λ b. b || list_any (has_token token) (map user_of rows)) here
known has_index j token name (x ∷ rows) all low r (inr at) c =
    ap (λ b. has_token token (user_of x) || b) (known has_index j token name rows all.1 low.1 r at c) ∙ or_true (has_token token (user_of x))

-- ---- what is written

-- the user is added last, or was known
abbrev Added : Trees → Trees → ℕ → List ℕ → List ℕ → Type 0
Added db next count token name =
    (next 2 ≡ db 2)
    × (((next 0 ≡ put_row (new_row db token name) (db 0)) × (count ≡ 1) × AllByRecursion (λ r. has_token token (user_of r) ≡ false) (db 0))
    ⊎ ((next 0 ≡ db 0) × (count ≡ 0) × (list_any (has_token token) (map user_of (db 0)) ≡ true)))

module _ (has_index : Bool) (limit : Option ℕ) (token name : List ℕ) where
  abbrev task : Task
  task = record { limit = limit; keys = Enforced; schema = kept_schema has_index; table = schema.users; params = pair_row token name }

  abbrev edit_at : Trees → Edit
  edit_at db = edit_of db schema.users [] Given 0 (new_row db token name ∷ [])

  edits : (db : Trees) → edited db (edit_at db) ≡ put_row (new_row db token name) (db 0)
  edits db = rw (cast_int (next_rowid (db 0))) refl

  puts : (db : Trees) (one : Written) → AllByRecursion (λ r. has_token token (user_of r) ≡ false) (db 0) → Puts task (new_row db token name) db (Ok one) → Added db one.trees (length one.rows) token name
  puts db one apart h =
      let it = through (Edited (kept_schema has_index) Enforced db (edit_at db)) (λ next. Gives (record { trees = next; rows = (edit_at db).news; last = last_id (edit_at db).news })) one h in
      let step = one_step (kept_schema has_index) Enforced db it.0 (edit_at db) refl it.1 in
      let all = same_value it.2 in
      let trees : one.trees ≡ it.0 = ap (λ (w : Written). w.trees) all in
      let count : length one.rows ≡ 1 = ap (λ (w : Written). length w.rows) all in
      (ap (λ (t : Trees). t 2) trees ∙ step.tables.1.0 (λ e. cc), inl (ap (λ (t : Trees). t 0) trees ∙ step.rows ∙ edits db, count, apart))

  clears : (db : Trees) (one : Written) (found : List Row) → Clears task Abort (new_row db token name) db found (Ok one) → Puts task (new_row db token name) db (Ok one)
  clears db one [] h = h
  clears db one (x ∷ more) h = h

  meets : (db : Trees) (one : Written) (found : List Row) → AllByRecursion IsUser (db 0) → AllByRecursion (λ r. value_cmp (rowid r) (Int (next_rowid (db 0))) ≡ Less) (db 0)
      → AreConflicts None (kept_schema has_index).indexes schema.users (db 0) (new_row db token name) found
      → Meets task (Upserts task Abort (new_row db token name) db []) (new_row db token name) db (record { target = None; update = None }) found (Ok one) → Added db one.trees (length one.rows) token name
  meets db one [] all low are h =
      puts db one (strangers has_index (next_rowid (db 0)) token name (db 0) all are.complete) (clears db one h.0 h.2)
  meets db one (there ∷ more) all low are h =
      let it = are.sound there (inl refl) in
      let none = same_value h in
      let trees : one.trees ≡ db = ap (λ (w : Written). w.trees) none in
      let count : length one.rows ≡ 0 = ap (λ (w : Written). length w.rows) none in
      (ap (λ (t : Trees). t 2) trees, inr (ap (λ (t : Trees). t 0) trees, count, known has_index (next_rowid (db 0)) token name (db 0) all low it.0 it.1 it.2))

  judged : (db : Trees) (one : Written) (verdict : Option Refusal) → AllByRecursion IsUser (db 0) → AllByRecursion (λ r. value_cmp (rowid r) (Int (next_rowid (db 0))) ≡ Less) (db 0)
      → Judged task Abort pass_over (new_row db token name) db verdict (Ok one) → Added db one.trees (length one.rows) token name
  judged db one None all low h = meets db one h.0 all low h.1 h.2
  judged db one (Some why) all low h = absurd (let e = h in cc)

  tries : (db : Trees) (one : Written) → AllByRecursion IsUser (db 0) → AllByRecursion (λ r. value_cmp (rowid r) (Int (next_rowid (db 0))) ≡ Less) (db 0)
      → Tries task Abort pass_over (new_row db token name) db (Ok one) → Added db one.trees (length one.rows) token name
  tries db one all low (inl stopped) = absurd (let e = stopped.1 in cc)
  tries db one all low (inr it) = judged db one it.0 all low it.2

  -- of the one row that is given
  tries_it : (db : Trees) (top : ℤ) (done : Written × ℤ) → AllByRecursion IsUser (db 0) → AllByRecursion (λ r. value_cmp (rowid r) (Int (next_rowid (db 0))) ≡ Less) (db 0)
      → TriesEach task Abort pass_over (source_row token name ∷ []) top (nothing db) (Ok done) → Added db done.0.trees (length done.0.rows) token name
  tries_it db top done all low h =
      let new = with_rowid Chosen (db 0) (cast_row schema.users (source_row token name)) in
      let it = through (Tries task Abort pass_over new db) (λ one. Gives (joined (nothing db) one, higher top new)) done h in
      let one = tries db it.0 all low (subst (λ r. Tries task Abort pass_over r db (Ok it.0)) (placed db token name) it.1) in
      subst (λ (d : Written). Added db d.trees (length d.rows) token name) (sym (ap (λ (d : Written × ℤ). d.0) (same_value it.2))) one

  inserts : (db : Trees) (out : Written) → AllByRecursion IsUser (db 0) → AllByRecursion (λ r. value_cmp (rowid r) (Int (next_rowid (db 0))) ≡ Less) (db 0)
      → InsertsOr task Abort pass_over (Values add_terms 3) db (Ok out) → Added db out.trees (length out.rows) token name
  inserts db out all low h =
      let given = went h in
      let rows : given.0 ≡ source_row token name ∷ [] = given.1.1 in
      let counted = went (subst (λ (rows : List Row). Then (Counter task db) (λ counter. Then (TriesEach task Abort pass_over rows (count_of counter) (nothing db)) (λ done.
      Then (Counts task done.0.trees counter done.1) (λ next. Gives (record done.0 { trees = next })))) (Ok out)) rows given.2) in
      let tried = went counted.2 in
      let one = tries_it db (count_of counted.0) tried.0 all low tried.1 in
      let last = went tried.2 in
      let next : last.0 ≡ tried.0.0.trees = same_value last.1 in
      let is : out ≡ record tried.0.0 { trees = last.0 } = same_value last.2 in
      subst (λ (d : Written). Added db d.trees (length d.rows) token name) (sym (is ∙ ap (λ t. record tried.0.0 { trees = t }) next)) one

adds : (old new : State) (token name : List ℕ) (count : ℕ) (has_index : Bool) → old.now.schema ≡ kept_schema has_index → AllByRecursion IsUser (old.now.trees 0)
    → AllByRecursion (λ r. value_cmp (rowid r) (Int (next_rowid (old.now.trees 0))) ≡ Less) (old.now.trees 0)
    → Writes old new None (InsertOr 0 Abort (Values add_terms 3) pass_over) (statement_of add_text (understood (kept_schema has_index) add_text)) (pair_row token name) count
    → (new.now.schema ≡ kept_schema has_index) × Added old.now.trees new.now.trees count token name
adds old new token name count has_index has all low w =
    let params = pair_row token name in
    let db = old.now.trees in
    let command = InsertOr 0 Abort (Values add_terms 3) pass_over in
    let text = statement_of add_text (understood (kept_schema has_index) add_text) in
    let done = went (subst (λ s. Does old.step_limit (mode_of old) params (record old.now { schema = s }) text None command (Ok (w.tally, new.now))) has w.changed) in
    let ends = same_value (went (went done.2).2).2 in
    let now = ap (λ (p : Tally × Database). p.1) ends in
    let rows : count ≡ length done.0.rows = w.counted ∙ ap (λ (p : Tally × Database). unwrap_or p.0.rows 0) ends in
    let trees : new.now.trees ≡ done.0.trees = ap (λ (d : Database). d.trees) now in
    let it = inserts has_index old.step_limit token name db done.0 all low done.1 in
    (ap (λ (d : Database). d.schema) now, subst (λ n. Added db new.now.trees n token name) (sym rows) (subst (λ t. Added db t (length done.0.rows) token name) (sym trees) it))

-- ---- the call

abbrev Done : Bool → List ℕ → List ℕ → State → State → Type 0
Done is_new token name old new = (is_new ≡ is_none (name_of token (tables old).users)) × Holds new (if is_new then with_user token name (tables old) else tables old)

pub add_answers : (old new : State) (token name : List ℕ) (count : ℕ) → IsKept old → Executes add_text (pair_row token name) old new (Ok count)
    → (nat_lt 0 count ≡ is_none (name_of token (tables old).users)) × Holds new (if nat_lt 0 count then with_user token name (tables old) else tables old)
add_answers old new token name count has h =
    let were = has.are_tables in
    let b = were.has_index in
    let rows = old.now.trees 0 in
    let low = next_is_last Chosen rows were.users_rise (keyed rows were.are_users) in
    let w = runs_as add_text (pair_row token name) old new (kept_schema b) were.schema (InsertOr 0 Abort (Values add_terms 3) pass_over) (add_is b) (add_plain b) count h in
    let it = adds old new token name count b were.schema were.are_users low w in
    let row = new_row old.now.trees token name in
    let whether = none_found (λ (user : List ℕ × List ℕ). user.1) (has_token token) (map user_of rows) in
    elim it.1.1 [
      | inl new_one ↦
          let put : new.now.trees 0 ≡ rows ++ row ∷ [] = new_one.0 ∙ put_last row rows low in
          let none : list_any (has_token token) (map user_of rows) ≡ false = any_from_none (has_token token) (map user_of rows) (all_map (λ u. has_token token u ≡ false) user_of rows new_one.2) in
          subst (λ n. Done (nat_lt 0 n) token name old new) (sym new_one.1) (
            sym (whether ∙ ap not none),
            (
              record {
                is_open = w.shown.is_open;
                autocommit = w.shown.mode ∙ has.autocommit;
                settled = w.shown.committed_is ∙ rw has.autocommit refl;
                are_tables = record {
                  has_index = b;
                  schema = it.0;
                  users_rise = subst IsTable (sym new_one.0) (IsTable-put_row row rows were.users_rise);
                  are_users = subst (AllByRecursion IsUser) (sym put) (all_push IsUser rows row were.are_users (_, token, name, refl));
                  distinct = subst AreDistinct (sym put) (ascending_push (λ a b. has_token (user_of b).0 (user_of a) ≡ false) rows row were.distinct new_one.2);
                  posts_rise = subst IsTable (sym it.1.0) were.posts_rise;
                  are_posts = subst (AllByRecursion IsPost) (sym it.1.0) were.are_posts;
                };
              },
              ap₂ (λ us ps. record { users = map user_of us; rows = map post_of ps }) put it.1.0 ∙ ap (λ us. record { users = us; rows = map post_of (old.now.trees 2) }) (map_push user_of rows row),
            ),
          )
      | inr there ↦
          subst (λ n. Done (nat_lt 0 n) token name old new) (sym there.1) (
            sym (whether ∙ ap not there.2),
            (
              record {
                is_open = w.shown.is_open;
                autocommit = w.shown.mode ∙ has.autocommit;
                settled = w.shown.committed_is ∙ rw has.autocommit refl;
                are_tables = record {
                  has_index = b;
                  schema = it.0;
                  users_rise = subst IsTable (sym there.0) were.users_rise;
                  are_users = subst (AllByRecursion IsUser) (sym there.0) were.are_users;
                  distinct = subst AreDistinct (sym there.0) were.distinct;
                  posts_rise = subst IsTable (sym it.1.0) were.posts_rise;
                  are_posts = subst (AllByRecursion IsPost) (sym it.1.0) were.are_posts;
                };
              },
              ap₂ (λ us ps. record { users = map user_of us; rows = map post_of ps }) there.0 it.1.0,
            ),
          )
    ]
