-- What the two maps of an index say, and how a change of each reads.
use Rattle.std.specs.Prelude.{◌≡◌, ℕ, ◌<◌, Bool, false, not, ◌&&◌, ◌||◌, ◌==◌, List, [], ◌∷◌, ◌++◌, Option, Some, None, Vec, vec_len, if◌then◌else◌, nat_eq}
use Rattle.std.specs.declared.alloc.Global.{Global}
use Rattle.std.specs.Option.{ForSome, option_map_or}
use Rattle.std.specs.List.{IsDistinct}
use Rattle.std.specs.Ordering.{nat_cmp}
use Rattle.std.specs.Cmp.Lexicographic.{slice_cmp}
use Rattle.std.specs.BTreeMap.{BTreeMap}
use Rattle.std.specs.BTreeMap as tree
use Rattle.std.specs.BTreeSet.{BTreeSet, IsOrdered, contains, btree_set_len}
use Rattle.indexmap.specs.IndexMap.{IndexMap}
use Rattle.indexmap.specs.IndexMap as hash
use Rattle.hd_rooms.specs.Registry.{same_text}
use Rattle.hd_rooms.specs.RegistryLaws.{is_among, others_than}

-- From a name to its connections.
abbrev pub ByName : Type 0
ByName = BTreeMap (List ℕ) (Vec ℕ Global)

-- From a connection to its names.
abbrev pub ByConn : Type 0 → Type 0
ByConn S = IndexMap ℕ (BTreeSet (List ℕ)) S

-- What the map has at a name.
abbrev pub at_name : ByName → List ℕ → Option (Vec ℕ Global)
at_name m name = tree.get (slice_cmp nat_cmp) m name

-- The connections of a name, in order of joining, and none if the map doesn't have the name.
abbrev pub listed : ByName → List ℕ → List ℕ
listed m name = option_map_or (λ v. v.items) (at_name m name) []

-- What the map has at a connection.
abbrev pub at_conn : {S : Type 0} → ByConn S → ℕ → Option (BTreeSet (List ℕ))
at_conn m conn = hash.get nat_eq m conn

-- Whether a name is in a set of names.
abbrev pub has_name : BTreeSet (List ℕ) → List ℕ → Bool
has_name names name = contains (slice_cmp nat_cmp) names name

-- Whether a connection has a name.
abbrev pub holds : {S : Type 0} → ByConn S → ℕ → List ℕ → Bool
holds m conn name = option_map_or (λ names. has_name names name) (at_conn m conn) false

-- There are this many names in what a map has at a connection, each once.
abbrev pub HasCount : Option (BTreeSet (List ℕ)) → ℕ → Type 0
HasCount None count = count ≡ 0
HasCount (Some names) count = (count ≡ btree_set_len names) × IsOrdered (slice_cmp nat_cmp) names

-- No name is kept for nobody.
abbrev pub NoneIsEmpty : ByName → Type 0
NoneIsEmpty m = (name : List ℕ) → ForSome (at_name m name) (λ v. 0 < vec_len v)

-- No connection is kept for no name.
abbrev pub NoneIsNameless : {S : Type 0} → ByConn S → Type 0
NoneIsNameless m = (conn : ℕ) → ForSome (at_conn m conn) (λ names. 0 < btree_set_len names)

-- Both maps have the same pairs.
abbrev pub Agree : {S : Type 0} → ByConn S → ByName → Type 0
Agree by_conn by_name = (conn : ℕ) (name : List ℕ) → holds by_conn conn name ≡ is_among conn (listed by_name name)

-- No connection is twice under a name.
abbrev pub EachOnce : ByName → Type 0
EachOnce m = (name : List ℕ) → IsDistinct nat_eq (listed m name)

-- ---- what a change leaves, old map first

-- The same connections under each name.
abbrev pub SameLists : ByName → ByName → Type 0
SameLists old new = (other : List ℕ) → listed new other ≡ listed old other

-- The connection is the only one under the name.
abbrev pub Begun : ByName → ByName → List ℕ → ℕ → Type 0
Begun old new name conn = (other : List ℕ) → listed new other ≡ (if same_text name other then conn ∷ [] else listed old other)

-- The connection came last under the name.
abbrev pub Joined : ByName → ByName → List ℕ → ℕ → Type 0
Joined old new name conn = (other : List ℕ)
    → listed new other ≡ (if same_text name other then listed old other ++ conn ∷ [] else listed old other)

-- The connection left the name.
abbrev pub Left : ByName → ByName → List ℕ → ℕ → Type 0
Left old new name conn = (other : List ℕ)
    → listed new other ≡ (if same_text name other then others_than conn (listed old other) else listed old other)

-- The connection left every name.
abbrev pub LeftAll : ByName → ByName → ℕ → Type 0
LeftAll old new conn = (other : List ℕ) → listed new other ≡ others_than conn (listed old other)

-- The same names at each connection.
abbrev pub SameNames : {S : Type 0} → ByConn S → ByConn S → Type 0
SameNames old new = (who : ℕ) (other : List ℕ) → holds new who other ≡ holds old who other

-- The connection has the name too.
abbrev pub Entered : {S : Type 0} → ByConn S → ByConn S → ℕ → List ℕ → Type 0
Entered old new conn name = (who : ℕ) (other : List ℕ)
    → holds new who other ≡ (((conn == who) && same_text name other) || holds old who other)

-- The connection has the name no more.
abbrev pub Exited : {S : Type 0} → ByConn S → ByConn S → ℕ → List ℕ → Type 0
Exited old new conn name = (who : ℕ) (other : List ℕ)
    → holds new who other ≡ (not ((conn == who) && same_text name other) && holds old who other)

-- The connection has no name any more.
abbrev pub Forgotten : {S : Type 0} → ByConn S → ByConn S → ℕ → Type 0
Forgotten old new conn = (who : ℕ) (other : List ℕ) → holds new who other ≡ (not (conn == who) && holds old who other)
