-- What a database holds of a keeper's users and rows, and what a call of the keeper says of it.
use Rattle.std.specs.Prelude.{◌≡◌, ℕ, ◌-◌, ◌^◌, ℤ, min, Bool, false, List, [], ◌∷◌, map, Option, None, IsTrue, IfOk, MatchResult, Result}
use Rattle.std.specs.List.{AllByRecursion}
use Rattle.sqlite.specs.declared.types.Value.TheVariants.{Null, Int, Text}
use Rattle.sqlite.specs.Order.{Row, column, bytes}
use Rattle.sqlite.specs.Tree.{IsTable, IsAscending}
use Rattle.sqlite.specs.Effect.{Database}
use Rattle.sqlite.specs.State.{State, HasCleanDisk}
use Rattle.hd_rooms.specs.declared.vocabulary.Row.{Row as Post}
use Rattle.hd_rooms.specs.declared.vocabulary.Asked.{Asked}
use Rattle.hd_rooms.specs.Kept.{Content, has_token, row_count}
use Rattle.hk_sqlite.specs.Schema.{no_schema, users_schema, kept_schema, users_tree, posts_tree}

-- ---- a row of a table: its rowid, and then its columns

-- the column `n` is the rowid, and so it is NULL in its own place
abbrev pub post_row : ℤ → List ℕ → List ℕ → List ℕ → Row
post_row n room who body = Int n ∷ Null ∷ Text room ∷ Text who ∷ Text body ∷ []

abbrev pub user_row : ℤ → List ℕ → List ℕ → Row
user_row id token name = Int id ∷ Text token ∷ Text name ∷ []

abbrev pub IsPost : Row → Type 0
IsPost row = (n : ℤ) × (room : List ℕ) × (who : List ℕ) × (body : List ℕ) × (row ≡ post_row n room who body)

abbrev pub IsUser : Row → Type 0
IsUser row = (id : ℤ) × (token : List ℕ) × (name : List ℕ) × (row ≡ user_row id token name)

abbrev pub post_of : Row → Post
post_of row = record { room = bytes (column row 2); who = bytes (column row 3); text = bytes (column row 4) }

abbrev pub user_of : Row → List ℕ × List ℕ
user_of row = (bytes (column row 1), bytes (column row 2))

-- no two users have one access token
abbrev pub AreDistinct : List Row → Type 0
AreDistinct = IsAscending (λ a b. has_token (user_of b).0 (user_of a) ≡ false)

-- ---- the tables of a database

-- its users and rows, each in the order of their rowids
abbrev pub content_of : Database → Content
content_of db = record { users = map user_of (db.trees users_tree); rows = map post_of (db.trees posts_tree) }

-- the tables are those that `SqlKeeper::open` makes, and each row is one that a keeper writes
pub record AreTables (db : Database) : Type 0 where
  pub has_index : Bool
  pub schema : db.schema ≡ kept_schema has_index
  pub users_rise : IsTable (db.trees users_tree)
  pub are_users : AllByRecursion IsUser (db.trees users_tree)
  pub distinct : AreDistinct (db.trees users_tree)
  pub posts_rise : IsTable (db.trees posts_tree)
  pub are_posts : AllByRecursion IsPost (db.trees posts_tree)

-- ---- a connection

-- the users and rows that it shows
abbrev pub tables : State → Content
tables s = content_of s.now

-- it is open, outside a transaction, and its tables are a keeper's
pub record IsKept (s : State) : Type 0 where
  pub is_open : IsTrue s.is_open
  pub autocommit : s.in_transaction ≡ false
  pub settled : s.committed ≡ s.now
  pub are_tables : AreTables s.now

-- so it is, and they hold this
abbrev pub Holds : State → Content → Type 0
Holds s kept = IsKept s × (tables s ≡ kept)

-- ---- opening one

-- it is outside a transaction, and its database has no object yet
pub record IsBlank (s : State) : Type 0 where
  pub autocommit : s.in_transaction ≡ false
  pub schema : s.now.schema ≡ no_schema

-- neither users nor rows
abbrev pub nothing : Content
nothing = record { users = []; rows = [] }

-- it is outside a transaction, and its database has the table of users alone, as after an open that was cut short
pub record IsBegun (s : State) : Type 0 where
  pub autocommit : s.in_transaction ≡ false
  pub schema : s.now.schema ≡ users_schema
  pub users_rise : IsTable (s.now.trees users_tree)
  pub are_users : AllByRecursion IsUser (s.now.trees users_tree)
  pub distinct : AreDistinct (s.now.trees users_tree)

-- these users, and no row
abbrev pub users_alone : State → Content
users_alone s = record { users = map user_of (s.now.trees users_tree); rows = [] }

-- there are the tables now, with what was in those that were there
abbrev pub HasTables : State → State → Type 0
HasTables old new = (IsBlank old → Holds new nothing) × (IsBegun old → Holds new (users_alone old)) × (IsKept old → Holds new (tables old))

-- so it is, if the disk has returned what was written
abbrev pub IsReady : State → State → Type 0
IsReady old new = HasCleanDisk new → HasTables old new

-- and if it hasn't shut the connection, which a refusal of the index doesn't tell
abbrev pub Takes : State → State → Type 0
Takes old new = HasCleanDisk new → IsTrue new.is_open → HasTables old new

-- the tables hold what they held, unless the disk has shut the connection
abbrev pub KeepsTables : State → State → Type 0
KeepsTables old new = HasCleanDisk new → IsKept old → IsTrue new.is_open → Holds new (tables old)

-- ---- a call. Both hold where the connection was a keeper's, and the disk has so far returned what was written

-- an answer is right by what the tables held before
abbrev pub Answers : {T E : Type 0} → State → State → Result T E → (Content → T → Type 0) → Type 0
Answers old new result IsRight = HasCleanDisk new → IsKept old → IfOk result (IsRight (tables old))

-- after an answer the tables hold what it says of them, and after an error what they held before, unless the disk has shut the connection
abbrev pub Leaves : {T E : Type 0} → State → State → Result T E → (Content → T → Content) → Type 0
Leaves old new result change =
    HasCleanDisk new → IsKept old → MatchResult result (λ answer. Holds new (change (tables old) answer)) (λ why. IsTrue new.is_open → Holds new (tables old))

-- so it is after a call that only reads
abbrev pub as_before : {T : Type 0} → Content → T → Content
as_before kept answer = kept

-- what a keeper tells as one of `hk_keeper`: neither what it keeps nor what it was asked, since others may write the database
abbrev pub untold : Option Content
untold = None

abbrev pub unnoted : Option (List Asked)
unnoted = None

-- how many rows sqlite counts: its numbers have a sign and 63 bits
abbrev pub counted : List Post → ℕ
counted rows = min (row_count rows) (2 ^ 63 - 1)
