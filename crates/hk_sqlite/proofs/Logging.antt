-- What the insertion of a post leaves.
use Rattle.std.proofs.Common.{◌≡◌, ℕ, ℤ, List, [], ◌∷◌, ◌++◌, map, fold, Bool, true, false, Option, Some, None, Ok, Err, Result, IsTrue, refl, sym, ap, ap₂, subst, ◌∙◌, MatchBool, is_lt, int_cmp}
use Rattle.std.specs.List.{AllByRecursion}
use Rattle.sqlite.specs.declared.types.Value.TheVariants.{Null, Text}
use Rattle.sqlite.specs.Order.{Row}
use Rattle.sqlite.specs.Table.{Table}
use Rattle.sqlite.specs.Source.TheVariants.{Values}
use Rattle.sqlite.specs.Command.TheVariants.{Insert}
use Rattle.sqlite.specs.Edit.{Edit, edit_of, edited, next_rowid, at_least}
use Rattle.sqlite.specs.Rowids.TheVariants.{Above}
use Rattle.sqlite.specs.Does.{Tally, Does}
use Rattle.sqlite.specs.Rows.{Written, Task, Then, Gives, Edited, Counter, Counts, CountsIn, Inserts, sequence, count_of, counting, higher, last_id}
use Rattle.sqlite.specs.Tree.{Trees, rowid, put_row, IsTable}
use Rattle.sqlite_trees.specs.View.{is_int}
use Rattle.sqlite_trees.proofs.TreeLemmas.{IsTable-put_row}
use Rattle.sqlite_rules.specs.Action.{Writes as Settled}
use Rattle.sqlite_schema.specs.Names.{same_name}
use Rattle.sqlite_schema.specs.declared.schema.Keys.TheVariants.{Enforced}
use Rattle.sqlite.specs.declared.error.Error.{Error}
use Rattle.sqlite.specs.Listing.{understood}
use Rattle.sqlite.specs.Effect.{Database}
use Rattle.sqlite.specs.State.{State, HasCleanDisk, mode_of, Writes, Executes}
use Rattle.sqlite.proofs.Callers.{statement_of, runs_as, one_step, through}
use Rattle.hd_rooms.specs.Kept.{with_row}
use Rattle.hk_sqlite.specs.Schema as schema
use Rattle.hk_sqlite.specs.Schema.{kept_schema}
use Rattle.hk_sqlite.specs.Stored.{IsKept, IsPost, IsUser, AreDistinct, post_row, post_of, user_of, tables, Holds, Leaves}
use Rattle.hk_sqlite.proofs.Lists.{map_push, all_push}
use Rattle.hk_sqlite.proofs.Parts.{went, same_value, cast_null}
use Rattle.hk_sqlite.proofs.Refused.{spared, write_fails}
use Rattle.hk_sqlite.proofs.Meaning.{log_text, log_is, log_plain, log_terms, posts_table}
use Rattle.hk_sqlite.proofs.Order.{put_last, next_is_last}

abbrev sequence_table : Table
sequence_table = record schema.sequence { tree = 3 }

pub keyed : (rows : List Row) → AllByRecursion IsPost rows → AllByRecursion (λ r. IsTrue (is_int (rowid r))) rows
keyed [] all = tt
keyed (r ∷ rows) all = (rw all.0.4 refl, keyed rows all.1)

abbrev pub text_row : List ℕ → List ℕ → List ℕ → Row
text_row room who body = Text room ∷ Text who ∷ Text body ∷ []

abbrev source_row : List ℕ → List ℕ → List ℕ → Row
source_row room who body = Null ∷ Null ∷ Text room ∷ Text who ∷ Text body ∷ []

abbrev edit_at : Trees → ℤ → List Row → Edit
edit_at db c given = edit_of db posts_table [] (Above c) 0 given

puts : (db : Trees) (c : ℤ) (room who body : List ℕ) → edited db (edit_at db c (source_row room who body ∷ [])) ≡ put_row (post_row (at_least (Above c) (next_rowid (db 2))) room who body) (db 2)
puts db c room who body = rw cast_null refl

-- what the insertion leaves: the row with the next number, last, and the other table as it was
pub record Added (has_index : Bool) (old new : State) (room who body : List ℕ) : Type 0 where
  pub last : ℤ
  pub schema : new.now.schema ≡ kept_schema has_index
  pub posts : new.now.trees 2 ≡ put_row (post_row (at_least (Above last) (next_rowid (old.now.trees 2))) room who body) (old.now.trees 2)
  pub users : new.now.trees 0 ≡ old.now.trees 0

module _ (has_index : Bool) where
  -- the row that counts for the table is written to its own tree
  spares : (db next : Trees) (top : ℤ) (counter : Option Row) → Settled (kept_schema has_index) Enforced db (counting db posts_table sequence_table top counter) (Ok next) → (next 0 ≡ db 0) × (next 2 ≡ db 2)
  spares db next top None h =
      let it = one_step (kept_schema has_index) Enforced db next (counting db posts_table sequence_table top None) refl h in
      (it.tables.0 (λ e. cc), it.tables.1.0 (λ e. cc))
  spares db next top (Some row) h =
      let it = one_step (kept_schema has_index) Enforced db next (counting db posts_table sequence_table top (Some row)) refl h in
      (it.tables.0 (λ e. cc), it.tables.1.0 (λ e. cc))

  abbrev task_for : Option ℕ → Row → Task
  task_for limit params = record { limit = limit; keys = Enforced; schema = kept_schema has_index; table = posts_table; params = params }

  -- the count is written, or it stands already
  counts : (limit : Option ℕ) (params : Row) (db next : Trees) (top : ℤ) (counter : Option Row) → Counts (task_for limit params) db counter top (Ok next) → (next 0 ≡ db 0) × (next 2 ≡ db 2)
  unfolding same_name
  counts limit params db next top counter h = go (is_lt (int_cmp (count_of counter) top)) h
    where
      go : (b : Bool) → MatchBool b (CountsIn (task_for limit params) db counter top (sequence (kept_schema has_index)) (Ok next)) (Gives db (Ok next)) → (next 0 ≡ db 0) × (next 2 ≡ db 2)
      go true h = spares db next top counter h
      go false h = let same : next ≡ db = same_value h in (ap (λ (t : Trees). t 0) same, ap (λ (t : Trees). t 2) same)

  finishes : (limit : Option ℕ) (params : Row) (mid : Trees) (top : ℤ) (counter : Option Row) (rows : List Row) (last : Option ℤ) (out : Written)
      → Then (Counts (task_for limit params) mid counter top) (λ next. Gives (record { trees = next; rows = rows; last = last })) (Ok out) → (out.trees 0 ≡ mid 0) × (out.trees 2 ≡ mid 2)
  finishes limit params mid top counter rows last out h =
      let it = through (Counts (task_for limit params) mid counter top) (λ next. Gives (record { trees = next; rows = rows; last = last })) out h in
      let same : out.trees ≡ it.0 = ap (λ (w : Written). w.trees) (same_value it.2) in
      let kept = counts limit params mid it.0 top counter it.1 in
      (ap (λ (t : Trees). t 0) same ∙ kept.0, ap (λ (t : Trees). t 2) same ∙ kept.1)

  -- after the rows and the counter are known
  edits : (limit : Option ℕ) (room who body : List ℕ) (db : Trees) (counter : Option Row) (out : Written)
      → Then (Edited (kept_schema has_index) Enforced db (edit_at db (count_of counter) (source_row room who body ∷ []))) (λ mid. Then (Counts (task_for limit (text_row room who body)) mid counter (fold higher (count_of counter) (edit_at db (count_of counter) (source_row room who body ∷ [])).news)) (λ next.
      Gives (record { trees = next; rows = (edit_at db (count_of counter) (source_row room who body ∷ [])).news; last = last_id (edit_at db (count_of counter) (source_row room who body ∷ [])).news }))) (Ok out)
      → (out.trees 0 ≡ db 0) × (out.trees 2 ≡ put_row (post_row (at_least (Above (count_of counter)) (next_rowid (db 2))) room who body) (db 2))
  edits limit room who body db counter out h =
      let edit = edit_at db (count_of counter) (source_row room who body ∷ []) in
      let top = fold higher (count_of counter) edit.news in
      let it = through (Edited (kept_schema has_index) Enforced db edit) (λ mid. Then (Counts (task_for limit (text_row room who body)) mid counter top) (λ next. Gives (record { trees = next; rows = edit.news; last = last_id edit.news }))) out h in
      let mid = one_step (kept_schema has_index) Enforced db it.0 edit refl it.1 in
      let end = finishes limit (text_row room who body) it.0 top counter edit.news (last_id edit.news) out it.2 in
      (end.0 ∙ mid.tables.0 (λ e. cc), end.1 ∙ mid.rows ∙ puts db (count_of counter) room who body)

  inserts : (limit : Option ℕ) (room who body : List ℕ) (db : Trees) (out : Written) → Inserts (task_for limit (text_row room who body)) (Values log_terms 5) db (Ok out)
      → (c : ℤ) × (out.trees 0 ≡ db 0) × (out.trees 2 ≡ put_row (post_row (at_least (Above c) (next_rowid (db 2))) room who body) (db 2))
  inserts limit room who body db out h =
      let given = went h in
      let rows : given.0 ≡ source_row room who body ∷ [] = given.1.1 in
      let counted = went (subst (λ (rows : List Row). Then (Counter (task_for limit (text_row room who body)) db) (λ counter. let edit = edit_at db (count_of counter) rows in
      Then (Edited (kept_schema has_index) Enforced db edit) (λ mid. Then (Counts (task_for limit (text_row room who body)) mid counter (fold higher (count_of counter) edit.news)) (λ next.
      Gives (record { trees = next; rows = edit.news; last = last_id edit.news })))) (Ok out)) rows given.2) in
      let it = edits limit room who body db counted.0 out counted.2 in
      (count_of counted.0, it.0, it.1)

  adds : (old new : State) (room who body : List ℕ) (count : ℕ) → old.now.schema ≡ kept_schema has_index
      → Writes old new None (Insert 1 (Values log_terms 5)) (statement_of log_text (understood (kept_schema has_index) log_text)) (text_row room who body) count → Added has_index old new room who body
  adds old new room who body count has w =
      let params = text_row room who body in
      let db = old.now.trees in
      let command = Insert 1 (Values log_terms 5) in
      let text = statement_of log_text (understood (kept_schema has_index) log_text) in
      let done = went (subst (λ s. Does old.step_limit (mode_of old) params (record old.now { schema = s }) text None command (Ok (w.tally, new.now))) has w.changed) in
      let now = ap (λ (p : Tally × Database). p.1) (same_value (went (went done.2).2).2) in
      let all : new.now.trees ≡ done.0.trees = ap (λ (d : Database). d.trees) now in
      let it = inserts old.step_limit room who body db done.0 done.1 in
      record {
        last = it.0;
        schema = ap (λ (d : Database). d.schema) now;
        posts = ap (λ (t : Trees). t 2) all ∙ it.2;
        users = ap (λ (t : Trees). t 0) all ∙ it.1;
      }

logs : (old new : State) (room who body : List ℕ) (count : ℕ) → IsKept old → Executes log_text (text_row room who body) old new (Ok count) → Holds new (with_row room who body (tables old))
logs old new room who body count has h =
    let were = has.are_tables in
    let b = were.has_index in
    let w = runs_as log_text (text_row room who body) old new (kept_schema b) were.schema (Insert 1 (Values log_terms 5)) (log_is b) (log_plain b) count h in
    let it = adds b old new room who body count were.schema w in
    let rows = old.now.trees 2 in
    let row = post_row (at_least (Above it.last) (next_rowid rows)) room who body in
    let put : put_row row rows ≡ rows ++ row ∷ [] = put_last row rows (next_is_last (Above it.last) rows were.posts_rise (keyed rows were.are_posts)) in
    let posts = it.posts ∙ put in (
      record {
        is_open = w.shown.is_open;
        autocommit = w.shown.mode ∙ has.autocommit;
        settled = w.shown.committed_is ∙ rw has.autocommit refl;
        are_tables = record {
          has_index = b;
          schema = it.schema;
          users_rise = subst IsTable (sym it.users) were.users_rise;
          are_users = subst (AllByRecursion IsUser) (sym it.users) were.are_users;
          distinct = subst AreDistinct (sym it.users) were.distinct;
          posts_rise = subst IsTable (sym it.posts) (IsTable-put_row row rows were.posts_rise);
          are_posts = subst (AllByRecursion IsPost) (sym posts) (all_push IsPost rows row were.are_posts (_, room, who, body, refl));
        };
      },
      ap₂ (λ us ps. record { users = map user_of us; rows = map post_of ps }) it.users posts ∙ ap (λ ps. record { users = map user_of (old.now.trees 0); rows = ps }) (map_push post_of rows row),
    )

pub log_leaves : (old new : State) (room who body : List ℕ) (r : Result ℕ Error) → (HasCleanDisk new → Executes log_text (text_row room who body) old new r) → Leaves old new r (λ kept _. with_row room who body kept)
log_leaves old new room who body (Ok count) h clean has = logs old new room who body count has (h clean)
log_leaves old new room who body (Err e) h clean has = λ live. spared old new has (write_fails log_text (text_row room who body) old new e (h clean)) live
