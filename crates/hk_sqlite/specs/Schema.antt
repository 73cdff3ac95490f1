-- The texts that make the tables, and the schemas that they come to.
use Rattle.std.specs.Prelude.{ℕ, Bool, List, [], ◌∷◌, ◌++◌, codes, true, false, None, Some, if◌then◌else◌}
use Rattle.sqlite.specs.Collation.TheVariants.{Binary}
use Rattle.sqlite.specs.declared.types.Value.TheVariants.{Null}
use Rattle.sqlite_value.specs.Keys.{plain}
use Rattle.sqlite.specs.Kind.TheVariants.{Integer, Text, Any}
use Rattle.sqlite.specs.Table.{Table}
use Rattle.sqlite.specs.Schema.{Schema}
use Rattle.sqlite.specs.Change.{created}
use Rattle.sqlite_schema.specs.declared.schema.Index.{Index}
use Rattle.sqlite_schema.specs.declared.schema.Column.{Column}
use Rattle.sqlite_schema.specs.declared.schema.Kind.{Kind}

abbrev pub users_text : List ℕ
users_text = codes "CREATE TABLE IF NOT EXISTS users(token TEXT PRIMARY KEY NOT NULL, name TEXT NOT NULL) STRICT"

abbrev pub posts_text : List ℕ
posts_text = codes "CREATE TABLE IF NOT EXISTS posts(n INTEGER PRIMARY KEY AUTOINCREMENT, room TEXT NOT NULL, who TEXT NOT NULL, body TEXT NOT NULL) STRICT"

abbrev pub index_text : List ℕ
index_text = codes "CREATE INDEX IF NOT EXISTS posts_by_room ON posts(room, n)"

-- ---- the tables, each as its text defines it, before it has a tree of its own

-- a column of a strict table, without a default
abbrev pub column_of : List ℕ → Kind → Bool → Column
column_of name kind not_null = record { name = name; kind = kind; is_strict = true; not_null = not_null; default = Null; collation = Binary }

abbrev pub users : Table
users = record {
  name = codes "users";
  tree = 0;
  columns = column_of (codes "token") Text true ∷ column_of (codes "name") Text true ∷ [];
  key = None;
  primary = 1 ∷ [];
  uniques = (1 ∷ []) ∷ [];
  orders = plain ∷ [];
  checks = [];
  references = [];
  computed = [];
  stamps = record { places = []; terms = []; formats = [] };
  is_counted = false;
}

abbrev pub posts : Table
posts = record {
  name = codes "posts";
  tree = 0;
  columns = column_of (codes "n") Integer false ∷ column_of (codes "room") Text true ∷ column_of (codes "who") Text true ∷ column_of (codes "body") Text true ∷ [];
  key = Some 0;
  primary = 0 ∷ [];
  uniques = [];
  orders = [];
  checks = [];
  references = [];
  computed = [];
  stamps = record { places = []; terms = []; formats = [] };
  is_counted = true;
}

-- the table of sqlite that counts the rowids of a table with AUTOINCREMENT, which comes with the first such table
abbrev pub sequence : Table
sequence = record {
  name = codes "sqlite_sequence";
  tree = 0;
  columns = (record { name = codes "name"; kind = Any; is_strict = false; not_null = false; default = Null; collation = Binary })
      ∷ (record { name = codes "seq"; kind = Any; is_strict = false; not_null = false; default = Null; collation = Binary }) ∷ [];
  key = None;
  primary = [];
  uniques = [];
  orders = [];
  checks = [];
  references = [];
  computed = [];
  stamps = record { places = []; terms = []; formats = [] };
  is_counted = false;
}

-- ---- schemas

abbrev pub no_schema : Schema
no_schema = record { tables = []; indexes = []; views = [] }

abbrev pub users_schema : Schema
users_schema = created no_schema users

-- where the rows of the two tables are. The index that sqlite makes for the tokens has tree 1
abbrev pub users_tree : ℕ
users_tree = 0

abbrev pub posts_tree : ℕ
posts_tree = 2

-- the two tables in the order in which they are made, and no other object but sqlite's own
abbrev pub tables_schema : Schema
tables_schema = created (created users_schema posts) sequence

-- the index on the posts of a room, in order of their numbers
abbrev pub posts_by_room : Index
posts_by_room = record { name = codes "posts_by_room"; tree = 4; table = posts_tree; columns = 2 ∷ 0 ∷ []; order = plain; is_unique = false }

-- the schema that `SqlKeeper::open` makes: with the index, or without it if it was refused
abbrev pub kept_schema : Bool → Schema
kept_schema has_index = record tables_schema { indexes = tables_schema.indexes ++ (if has_index then posts_by_room ∷ [] else []) }
