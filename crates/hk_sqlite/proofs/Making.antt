-- What `SqlKeeper::open` makes of a database: the two tables and the index, or nothing where they are there.
use Rattle.std.proofs.Common.{◌≡◌, inr, ℕ, List, [], map, Bool, true, false, None, Ok, Err, Result, IsTrue, IfErr, OnOk, refl, sym, ap, subst, ◌∙◌}
use Rattle.sqlite_schema.specs.Names.{same_name}
use Rattle.sqlite_schema.specs.declared.schema.Index.{Index}
use Rattle.sqlite_trees.specs.declared.store.Store.{Ghosts}
use Rattle.sqlite.specs.Held.{Held}
use Rattle.std.specs.List.{AllByRecursion}
use Rattle.sqlite.specs.Order.{Row}
use Rattle.sqlite.specs.Tree.{IsTable}
use Rattle.sqlite.specs.Table.{Table}
use Rattle.sqlite.specs.Command.TheVariants.{CreateTable, CreateIndex, Nothing}
use Rattle.sqlite.specs.Change.{created, indexed, next_tree, KeepsRows}
use Rattle.sqlite.specs.Does.{Tally, Does, lacks_sequence}
use Rattle.sqlite.specs.Effect.{Database}
use Rattle.sqlite_resolve.specs.declared.error.CompileError.{CompileError}
use Rattle.sqlite.specs.declared.error.Error.{Error}
use Rattle.sqlite.specs.State.{State, HasCleanDisk, mode_of, Writes, Executes}
use Rattle.sqlite.proofs.Callers.{runs_as}
use Rattle.hk_sqlite.specs.Schema.{users_text, posts_text, index_text, no_schema, users_schema, kept_schema, tables_schema, users, posts, sequence, posts_by_room}
use Rattle.hk_sqlite.specs.Stored.{AreDistinct, IsUser, IsKept, IsBlank, IsBegun, IsReady, Holds, nothing, tables, user_of, users_alone}
use Rattle.hk_keeper.specs.declared.keeper.KeepError.{KeepError}
use Rattle.hk_keeper.specs.declared.keeper.KeepError.TheVariants.{Failed, NoMemory}
use Rattle.hk_sqlite.specs.declared.opening.SqlOpenError.{SqlOpenError}
use Rattle.hk_sqlite.specs.declared.opening.SqlOpenError.TheVariants.{Store}
use Rattle.hk_sqlite.specs.Faults.{Ends, IsWhy, RefusesTables, open_why}
use Rattle.hk_sqlite.proofs.Parts.{went, same_value}
use Rattle.hk_sqlite.proofs.Refused.{spared, unchanged, write_fails}
use Rattle.hk_sqlite.proofs.Meaning.{posts_table, users_defined, posts_defined, sequence_defined, index_defined, users_made, users_plain, users_begun, posts_made, posts_plain, users_there, posts_there, index_there, index_made, index_plain}

same_table : {a b : Table} → ◌≡◌ {A = Result Table CompileError} (Ok a) (Ok b) → a ≡ b
same_table e = cc

same_index : {a b : Index} → ◌≡◌ {A = Result Index CompileError} (Ok a) (Ok b) → a ≡ b
same_index e = cc

-- ---- in a blank database

first_table : (old new : State) (count : ℕ) → old.now.schema ≡ no_schema → Writes old new None CreateTable users_text [] count → (new.now.schema ≡ users_schema) × (new.now.trees 0 ≡ [])
first_table old new count has w =
    let all = went w.changed in
    let first = went all.1 in
    let made = first.1 in
    let same : made.table ≡ users = same_table (sym made.defined ∙ users_defined) in
    let schema : first.0.schema ≡ users_schema = made.is ∙ ap (λ s. created s made.table) has ∙ ap (created no_schema) same in
    let plain : lacks_sequence first.0.schema ≡ false = ap lacks_sequence schema in
    let now : new.now ≡ first.0 = ap (λ (p : Tally × Database). p.1) (same_value all.2) ∙ same_value (rw plain at first.2) in
    (ap (λ (d : Database). d.schema) now ∙ schema, ap (λ (d : Database). d.trees 0) now ∙ subst (λ s. first.0.trees (next_tree s) ≡ []) has made.empty)

second_table : (old new : State) (count : ℕ) → old.now.schema ≡ users_schema → Writes old new None CreateTable posts_text [] count
    → (new.now.schema ≡ tables_schema) × (new.now.trees 0 ≡ old.now.trees 0) × (new.now.trees 2 ≡ [])
unfolding same_name
second_table old new count has w =
    let all = went w.changed in
    let first = went all.1 in
    let made = first.1 in
    let same : made.table ≡ posts = same_table (sym made.defined ∙ posts_defined) in
    let schema : first.0.schema ≡ created users_schema posts = made.is ∙ ap (λ s. created s made.table) has ∙ ap (created users_schema) same in
    let lacks : lacks_sequence first.0.schema ≡ true = ap lacks_sequence schema in
    let counted = rw lacks at first.2 in
    let table : counted.table ≡ sequence = same_table (sym counted.defined ∙ sequence_defined) in
    let after : all.0.schema ≡ tables_schema = counted.is ∙ ap (λ s. created s counted.table) schema ∙ ap (created (created users_schema posts)) table in
    let now : new.now ≡ all.0 = ap (λ (p : Tally × Database). p.1) (same_value all.2) in
    let kept = subst (λ s. KeepsRows s.tables first.0.trees all.0.trees) schema counted.others in
    let before = subst (λ s. KeepsRows s.tables old.now.trees first.0.trees) has made.others in
    let empty = subst (λ s. first.0.trees (next_tree s) ≡ []) has made.empty in
    (ap (λ (d : Database). d.schema) now ∙ after, ap (λ (d : Database). d.trees 0) now ∙ kept.0 ∙ before.0, ap (λ (d : Database). d.trees 2) now ∙ kept.1.0 ∙ empty)

-- the second table, in a database that has the first
adds_posts : (old new : State) (count : ℕ) → IsBegun old → Executes posts_text [] old new (Ok count) → Holds new (users_alone old)
adds_posts old new count begun h =
    let w = subst (λ t. Writes old new None CreateTable t [] count) posts_made.1 (runs_as posts_text [] old new users_schema begun.schema CreateTable posts_made.0 posts_plain count h) in
    let it = second_table old new count begun.schema w in (
      record {
        is_open = w.shown.is_open;
        autocommit = w.shown.mode ∙ begun.autocommit;
        settled = w.shown.committed_is ∙ rw begun.autocommit refl;
        are_tables = record {
          has_index = false;
          schema = it.0;
          users_rise = subst IsTable (sym it.1) begun.users_rise;
          are_users = subst (AllByRecursion IsUser) (sym it.1) begun.are_users;
          distinct = subst AreDistinct (sym it.1) begun.distinct;
          posts_rise = rw it.2 tt;
          are_posts = rw it.2 tt;
        };
      },
      rw (it.1, it.2) refl,
    )

makes : (old mid new : State) (n m : ℕ) → IsBlank old → Executes users_text [] old mid (Ok n) → Executes posts_text [] mid new (Ok m) → Holds new nothing
makes old mid new n m blank one two =
    let w = subst (λ t. Writes old mid None CreateTable t [] n) users_made.1 (runs_as users_text [] old mid no_schema blank.schema CreateTable users_made.0 users_plain n one) in
    let first = first_table old mid n blank.schema w in
    let begun : IsBegun mid = record { autocommit = w.shown.mode ∙ blank.autocommit; schema = first.0; users_rise = rw first.1 tt; are_users = rw first.1 tt; distinct = rw first.1 tt } in
    let it = adds_posts mid new m begun two in
    (it.0, it.1 ∙ ap (λ (rows : List Row). record { users = map user_of rows; rows = [] }) first.1)

goes_on : (old mid new : State) (n m : ℕ) → IsBegun old → Executes users_text [] old mid (Ok n) → Executes posts_text [] mid new (Ok m) → Holds new (users_alone old)
goes_on old mid new n m begun one two =
    let same = (runs_as users_text [] old mid users_schema begun.schema Nothing users_begun.0 users_begun.1 n one).0 in
    let now : mid.now ≡ old.now = same.0.now_is in
    let still : IsBegun mid = record {
      autocommit = same.0.mode ∙ begun.autocommit;
      schema = ap (λ (d : Database). d.schema) now ∙ begun.schema;
      users_rise = subst (λ (d : Database). IsTable (d.trees 0)) (sym now) begun.users_rise;
      are_users = subst (λ (d : Database). AllByRecursion IsUser (d.trees 0)) (sym now) begun.are_users;
      distinct = subst (λ (d : Database). AreDistinct (d.trees 0)) (sym now) begun.distinct;
    } in
    let it = adds_posts mid new m still two in
    (it.0, it.1 ∙ ap (λ (d : Database). record { users = map user_of (d.trees 0); rows = [] }) now)

-- ---- where the tables are there

finds : (old mid new : State) (n m : ℕ) → IsKept old → Executes users_text [] old mid (Ok n) → Executes posts_text [] mid new (Ok m) → Holds new (tables old)
finds old mid new n m has one two =
    let first_is = users_there has.are_tables.has_index in
    let first = unchanged old mid has (runs_as users_text [] old mid (kept_schema has.are_tables.has_index) has.are_tables.schema Nothing first_is.0 first_is.1 n one).0 in
    let between = first.0.are_tables in
    let second_is = posts_there between.has_index in
    let second = unchanged mid new first.0 (runs_as posts_text [] mid new (kept_schema between.has_index) between.schema Nothing second_is.0 second_is.1 m two).0 in
    (second.0, second.1 ∙ first.1)

-- ---- the index

adds_index : (old new : State) (count : ℕ) → old.now.schema ≡ kept_schema false → Writes old new None (CreateIndex 1) index_text [] count
    → (new.now.schema ≡ kept_schema true) × (new.now.trees 0 ≡ old.now.trees 0) × (new.now.trees 2 ≡ old.now.trees 2)
adds_index old new count has w =
    let done = went (subst (λ s. Does old.step_limit (mode_of old) [] (record old.now { schema = s }) index_text None (CreateIndex 1) (Ok (w.tally, new.now))) has w.changed) in
    let made = done.1 in
    let same : made.index ≡ record posts_by_room { tree = 0 } = same_index (sym made.defined ∙ index_defined) in
    let schema : done.0.schema ≡ kept_schema true = made.is ∙ ap (indexed (kept_schema false) posts_table) same in
    let now : new.now ≡ done.0 = ap (λ (p : Tally × Database). p.1) (same_value done.2) in
    (ap (λ (d : Database). d.schema) now ∙ schema, ap (λ (d : Database). d.trees 0) now ∙ made.rows.0, ap (λ (d : Database). d.trees 2) now ∙ made.rows.1.0)

with_index : (old new : State) (count : ℕ) (has_index : Bool) → old.now.schema ≡ kept_schema has_index → IsKept old → Executes index_text [] old new (Ok count) → Holds new (tables old)
with_index old new count true is has h = unchanged old new has (runs_as index_text [] old new (kept_schema true) is Nothing index_there.0 index_there.1 count h).0
with_index old new count false is has h =
    let w = subst (λ t. Writes old new None (CreateIndex 1) t [] count) index_made.1 (runs_as index_text [] old new (kept_schema false) is (CreateIndex 1) index_made.0 index_plain count h) in
    let it = adds_index old new count is w in
    let were = has.are_tables in (
      record {
        is_open = w.shown.is_open;
        autocommit = w.shown.mode ∙ has.autocommit;
        settled = w.shown.committed_is ∙ rw has.autocommit refl;
        are_tables = record {
          has_index = true;
          schema = it.0;
          users_rise = rw it.1 were.users_rise;
          are_users = rw it.1 were.are_users;
          distinct = rw it.1 were.distinct;
          posts_rise = rw it.2 were.posts_rise;
          are_posts = rw it.2 were.are_posts;
        };
      },
      rw (it.1, it.2) refl,
    )

pub index_keeps : (old new : State) (r : Result ℕ Error) → Executes index_text [] old new r → IsKept old → IsTrue new.is_open → Holds new (tables old)
index_keeps old new (Ok count) h has live = with_index old new count has.are_tables.has_index has.are_tables.schema has h
index_keeps old new (Err e) h has live = spared old new has (write_fails index_text [] old new e h) live

-- ---- both together

pub ready : (old mid new : State) (n : ℕ) (r : Result ℕ Error) → (HasCleanDisk new → HasCleanDisk mid) → (HasCleanDisk mid → Executes users_text [] old mid (Ok n)) → (HasCleanDisk new → Executes posts_text [] mid new r)
    → OnOk r (IsReady old new)
ready old mid new n (Ok m) back one two =
    λ clean. (
      (λ blank. makes old mid new n m blank (one (back clean)) (two clean)),
      (λ begun. goes_on old mid new n m begun (one (back clean)) (two clean)),
      (λ has. finds old mid new n m has (one (back clean)) (two clean)),
    )
ready old mid new n (Err e) back one two = tt

pub refuses : {S : Type 0} (g : Ghosts S) (old mid new : Held S) (n : ℕ) (r : Result ℕ Error) → Ends g users_text old mid (Ok n) → Ends g posts_text mid new r → IfErr r (RefusesTables g old new)
refuses g old mid new n (Ok m) one two = tt
refuses g old mid new n (Err e) one two = inr (mid, n, one, two)

-- `Store` tells of a fault
pub store_failed : (e : Error) (w : KeepError) (r : SqlOpenError) → IsWhy e w → r ≡ open_why w → r ≡ Store → IsWhy e Failed
store_failed e Failed r h is store = h
store_failed e NoMemory r h is store = absurd (let both = sym is ∙ store in cc)
