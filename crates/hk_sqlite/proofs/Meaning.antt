-- What the texts of the statements mean over the two tables, with the index and without it.
use Rattle.std.proofs.Common.{◌≡◌, List, ℕ, pos, negsuc, [], ◌∷◌, codes, Bool, true, false, Option, Some, None, Result, Ok, Err, refl, ap}
use Rattle.sqlite.specs.declared.types.Value.TheVariants.{Null, Int}
use Rattle.sqlite_sql.specs.declared.ops.BinaryOp.TheVariants.{Compare}
use Rattle.sqlite_sql.specs.declared.ops.CompareOp.TheVariants.{Eq}
use Rattle.sqlite_sql.specs.declared.aggregate.AggregateOp.TheVariants.{CountRows}
use Rattle.sqlite_schema.specs.declared.command.Conflict.TheVariants.{Abort}
use Rattle.sqlite_schema.specs.declared.command.Upsert.{Upsert}
use Rattle.sqlite_schema.specs.declared.command.Command.{Command}
use Rattle.sqlite_schema.specs.declared.command.Returning.{Returning}
use Rattle.sqlite_resolve.specs.declared.compiled.Compiled.{Compiled}
use Rattle.sqlite_resolve.specs.declared.error.CompileError.{CompileError}
use Rattle.sqlite.specs.Collation.TheVariants.{Binary}
use Rattle.sqlite.specs.Term.{Term, lit, col, op2}
use Rattle.sqlite.specs.Query.{Query, inner, end}
use Rattle.sqlite_sql.specs.Group.{Grouping}
use Rattle.sqlite.specs.Source.TheVariants.{Values}
use Rattle.sqlite.specs.Command.TheVariants.{CreateTable, CreateIndex, Nothing, Select, Insert, InsertOr}
use Rattle.sqlite.specs.Compile.{table_defined_by, index_defined_by}
use Rattle.sqlite.specs.Table.{Table}
use Rattle.sqlite.specs.Does.{sequence_text}
use Rattle.sqlite_tied.specs.Compute.{everything}
use Rattle.sqlite.specs.Listing.{understood, reads_listing}
use Rattle.sqlite.proofs.Callers.{IsPlain, command_of, statement_of}
use Rattle.hk_sqlite.specs.Schema.{users_text, posts_text, index_text, no_schema, users_schema, kept_schema, users, posts, sequence, posts_tree, posts_by_room}

-- ---- the texts, as `src/statements.rt` has them

abbrev pub user_text : List ℕ
user_text = codes "SELECT name FROM users WHERE token = ?1"

abbrev pub count_text : List ℕ
count_text = codes "SELECT count(*) FROM posts"

abbrev pub log_text : List ℕ
log_text = codes "INSERT INTO posts(room, who, body) VALUES (?1, ?2, ?3)"

abbrev pub history_text : List ℕ
history_text = codes "SELECT body FROM posts WHERE room = ?1 ORDER BY n DESC LIMIT ?2"

abbrev pub add_text : List ℕ
add_text = codes "INSERT INTO users(token, name) VALUES (?1, ?2) ON CONFLICT DO NOTHING"

-- ---- how a text is read: it is computed once, since that takes a second or more

abbrev Outline : Type 0
Outline = Command × Option Returning × List (List ℕ)

abbrev outline_of : Result Compiled CompileError → Option Outline
outline_of (Ok c) = Some (c.command, c.returning, c.formats)
outline_of (Err e) = None

same_some : {X : Type 0} {a b : X} → ◌≡◌ {A = Option X} (Some a) (Some b) → a ≡ b
same_some e = cc

-- the text is this command, shows nothing that it wrote, and doesn't read the time
means : (r : Result Compiled CompileError) (command : Command) → outline_of r ≡ Some (command, None, []) → (command_of r ≡ command) × IsPlain r
means (Ok c) command e = let it = same_some e in (ap (λ (p : Outline). p.0) it, (ap (λ (p : Outline). p.1) it, ap (λ (p : Outline). p.2) it))
means (Err x) command e = absurd (let none = e in cc)

-- ---- reading

-- all rows of a tree, without a limit
abbrev query_of : ℕ → List Term → Query
query_of tree shown = record {
  from = inner tree end;
  filter = [];
  group = None;
  project = shown;
  distinct = false;
  collations = [];
  order = [];
  limit = lit (Int (negsuc 0));
  offset = lit (Int (pos 0));
}

abbrev pub user_query : Query
user_query = record (query_of 0 (col 1 2 ∷ [])) { filter = op2 (Compare Eq Binary) (col 1 1) (col 0 0) ∷ [] }

abbrev pub history_query : Query
history_query = record (query_of 2 (col 1 4 ∷ [])) {
  filter = op2 (Compare Eq Binary) (col 1 2) (col 0 0) ∷ [];
  order = (col 1 0, record { collation = Binary; descending = true }) ∷ [];
  limit = col 0 1;
}

abbrev pub count_grouping : Grouping
count_grouping = record { keys = []; collations = []; aggregates = (record { op = CountRows; distinct = false; collation = Binary; argument = lit Null }) ∷ []; having = [] }

abbrev pub count_query : Query
count_query = record (query_of 2 (col 1 0 ∷ [])) { group = Some count_grouping }

user_outline : (has_index : Bool) → outline_of (understood (kept_schema has_index) user_text) ≡ Some (Select (record { lets = []; body = user_query }) (codes "name" ∷ []), None, [])
unfolding understood everything
user_outline true = refl
user_outline false = refl

user_unlisted : (has_index : Bool) → reads_listing (kept_schema has_index) user_text ≡ false
unfolding everything
user_unlisted true = refl
user_unlisted false = refl

pub user_is : (has_index : Bool) → command_of (understood (kept_schema has_index) user_text) ≡ Select (record { lets = []; body = user_query }) (codes "name" ∷ [])
user_is has_index = (means _ _ (user_outline has_index)).0

pub user_plain : (has_index : Bool) → (IsPlain (understood (kept_schema has_index) user_text)) × (reads_listing (kept_schema has_index) user_text ≡ false)
user_plain has_index = ((means _ _ (user_outline has_index)).1, user_unlisted has_index)

history_outline : (has_index : Bool) → outline_of (understood (kept_schema has_index) history_text) ≡ Some (Select (record { lets = []; body = history_query }) (codes "body" ∷ []), None, [])
unfolding understood everything
history_outline true = refl
history_outline false = refl

history_unlisted : (has_index : Bool) → reads_listing (kept_schema has_index) history_text ≡ false
unfolding everything
history_unlisted true = refl
history_unlisted false = refl

pub history_is : (has_index : Bool) → command_of (understood (kept_schema has_index) history_text) ≡ Select (record { lets = []; body = history_query }) (codes "body" ∷ [])
history_is has_index = (means _ _ (history_outline has_index)).0

pub history_plain : (has_index : Bool) → (IsPlain (understood (kept_schema has_index) history_text)) × (reads_listing (kept_schema has_index) history_text ≡ false)
history_plain has_index = ((means _ _ (history_outline has_index)).1, history_unlisted has_index)

count_outline : (has_index : Bool) → outline_of (understood (kept_schema has_index) count_text) ≡ Some (Select (record { lets = []; body = count_query }) (codes "count(*)" ∷ []), None, [])
unfolding understood everything
count_outline true = refl
count_outline false = refl

count_unlisted : (has_index : Bool) → reads_listing (kept_schema has_index) count_text ≡ false
unfolding everything
count_unlisted true = refl
count_unlisted false = refl

pub count_is : (has_index : Bool) → command_of (understood (kept_schema has_index) count_text) ≡ Select (record { lets = []; body = count_query }) (codes "count(*)" ∷ [])
count_is has_index = (means _ _ (count_outline has_index)).0

pub count_plain : (has_index : Bool) → (IsPlain (understood (kept_schema has_index) count_text)) × (reads_listing (kept_schema has_index) count_text ≡ false)
count_plain has_index = ((means _ _ (count_outline has_index)).1, count_unlisted has_index)

-- ---- writing

abbrev pub log_terms : List Term
log_terms = lit Null ∷ lit Null ∷ col 0 0 ∷ col 0 1 ∷ col 0 2 ∷ []

log_outline : (has_index : Bool) → outline_of (understood (kept_schema has_index) log_text) ≡ Some (Insert 1 (Values log_terms 5), None, [])
unfolding understood everything
log_outline true = refl
log_outline false = refl

pub log_is : (has_index : Bool) → command_of (understood (kept_schema has_index) log_text) ≡ Insert 1 (Values log_terms 5)
log_is has_index = (means _ _ (log_outline has_index)).0

pub log_plain : (has_index : Bool) → IsPlain (understood (kept_schema has_index) log_text)
log_plain has_index = (means _ _ (log_outline has_index)).1

abbrev pub add_terms : List Term
add_terms = lit Null ∷ col 0 0 ∷ col 0 1 ∷ []

-- a row that conflicts by any key is passed over
abbrev pub pass_over : List Upsert
pass_over = (record { target = None; update = None }) ∷ []

add_outline : (has_index : Bool) → outline_of (understood (kept_schema has_index) add_text) ≡ Some (InsertOr 0 Abort (Values add_terms 3) pass_over, None, [])
unfolding understood everything
add_outline true = refl
add_outline false = refl

pub add_is : (has_index : Bool) → command_of (understood (kept_schema has_index) add_text) ≡ InsertOr 0 Abort (Values add_terms 3) pass_over
add_is has_index = (means _ _ (add_outline has_index)).0

pub add_plain : (has_index : Bool) → IsPlain (understood (kept_schema has_index) add_text)
add_plain has_index = (means _ _ (add_outline has_index)).1

-- ---- making the tables

abbrev pub posts_table : Table
posts_table = record posts { tree = posts_tree }

pub users_defined : table_defined_by users_text ≡ Ok users
unfolding understood everything
users_defined = refl

pub posts_defined : table_defined_by posts_text ≡ Ok posts
unfolding understood everything
posts_defined = refl

pub sequence_defined : table_defined_by sequence_text ≡ Ok sequence
unfolding understood everything
sequence_defined = refl

pub index_defined : index_defined_by posts_table index_text ≡ Ok (record posts_by_room { tree = 0 })
unfolding understood everything
index_defined = refl

pub users_made : (command_of (understood no_schema users_text) ≡ CreateTable) × (statement_of users_text (understood no_schema users_text) ≡ users_text)
unfolding understood everything
users_made = (refl, refl)

pub users_plain : IsPlain (understood no_schema users_text)
unfolding understood everything
users_plain = (refl, refl)

pub users_begun : (command_of (understood users_schema users_text) ≡ Nothing) × (IsPlain (understood users_schema users_text))
unfolding understood everything
users_begun = (refl, (refl, refl))

pub posts_made : (command_of (understood users_schema posts_text) ≡ CreateTable) × (statement_of posts_text (understood users_schema posts_text) ≡ posts_text)
unfolding understood everything
posts_made = (refl, refl)

pub posts_plain : IsPlain (understood users_schema posts_text)
unfolding understood everything
posts_plain = (refl, refl)

-- where the tables are there, nothing is done
users_outline : (has_index : Bool) → outline_of (understood (kept_schema has_index) users_text) ≡ Some (Nothing, None, [])
unfolding understood everything
users_outline true = refl
users_outline false = refl

pub users_there : (has_index : Bool) → (command_of (understood (kept_schema has_index) users_text) ≡ Nothing) × (IsPlain (understood (kept_schema has_index) users_text))
users_there has_index = means _ _ (users_outline has_index)

posts_outline : (has_index : Bool) → outline_of (understood (kept_schema has_index) posts_text) ≡ Some (Nothing, None, [])
unfolding understood everything
posts_outline true = refl
posts_outline false = refl

pub posts_there : (has_index : Bool) → (command_of (understood (kept_schema has_index) posts_text) ≡ Nothing) × (IsPlain (understood (kept_schema has_index) posts_text))
posts_there has_index = means _ _ (posts_outline has_index)

pub index_there : (command_of (understood (kept_schema true) index_text) ≡ Nothing) × (IsPlain (understood (kept_schema true) index_text))
unfolding understood everything
index_there = (refl, (refl, refl))

pub index_made : (command_of (understood (kept_schema false) index_text) ≡ CreateIndex 1) × (statement_of index_text (understood (kept_schema false) index_text) ≡ index_text)
unfolding understood everything
index_made = (refl, refl)

pub index_plain : IsPlain (understood (kept_schema false) index_text)
unfolding understood everything
index_plain = (refl, refl)
