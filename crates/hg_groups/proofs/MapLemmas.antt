-- How a change of a map at one name, or at one connection, reads.
use Rattle.std.proofs.Common.{◌≡◌, ℕ, ◌+◌, ◌<◌, Result, Ok, Err, OnOk, OnErr, unwrap_or, subst, arith, Bool, true, false, cond, not, ◌&&◌, ◌||◌, eqb, nat_eq, List, [], ◌∷◌, ◌++◌, length, Option, Some, None, Vec, vec_len, is_some, if◌then◌else◌, refl, sym, ap, ◌∙◌, true≢false}
use Rattle.std.specs.declared.alloc.Global.{Global}
use Rattle.std.specs.Option.{ForSome, option_map_or}
use Rattle.std.specs.List.{list_any}
use Rattle.std.specs.Ordering.{nat_cmp}
use Rattle.std.specs.Cmp.Lexicographic.{slice_cmp}
use Rattle.std.specs.BTreeMap.{is_at}
use Rattle.std.specs.BTreeMap as tree
use Rattle.std.specs.Map.{lookup}
use Rattle.std.specs.BTreeSet.{BTreeSet}
use Rattle.indexmap.specs.IndexMap as hash
use Rattle.std.proofs.lemmas.Bool.{eqb-true}
use Rattle.std.proofs.lemmas.Map.Text.{is_eq-slice_cmp}
use Rattle.std.proofs.lemmas.Slice.Eq.{bytes_eq-Decides}
use Rattle.hd_rooms.specs.Registry.{same_text}
use Rattle.hd_rooms.specs.RegistryLaws.{others_than}
use Rattle.hg_groups.specs.Maps.{ByName, ByConn, at_name, listed, at_conn, has_name, holds, NoneIsEmpty, SameLists, Begun, Joined, Left, Entered, Exited}

-- the order of texts finds a name if and only if it is the same
found : (name other : List ℕ) → is_at (slice_cmp nat_cmp name) other ≡ same_text name other
found name other = is_eq-slice_cmp name other

same : (name other : List ℕ) → same_text name other ≡ true → name ≡ other
same name other e = (bytes_eq-Decides name other).0 e

-- ---- from names

-- the connections in what a map has at a name
abbrev pub conns_of : Option (Vec ℕ Global) → List ℕ
conns_of o = option_map_or (λ v. v.items) o []

-- the map has this at the name, and at others what it had
abbrev pub Puts : ByName → ByName → List ℕ → Option (Vec ℕ Global) → Type 0
Puts old new name w = (q : List ℕ) → at_name new q ≡ cond (is_at (slice_cmp nat_cmp name) q) w (at_name old q)

-- a write through what the map lent at a name that it has
pub Puts-written : (old new : ByName) (name : List ℕ) (v x : Vec ℕ Global) → Some v ≡ at_name old name
    → tree.WritesThrough (slice_cmp nat_cmp) (slice_cmp nat_cmp name) old x new → Puts old new name (Some x)
Puts-written old new name v x at through = (through.3 (sym (ap is_some at))).0

-- two changes at one name are the later one
pub Puts-twice : (old mid new : ByName) (name : List ℕ) (w x : Option (Vec ℕ Global)) → Puts old mid name w → Puts mid new name x → Puts old new name x
Puts-twice old mid new name w x first second =
    λ q. second q ∙ ap (λ o. cond (is_at (slice_cmp nat_cmp name) q) x o) (first q) ∙ by (is_at (slice_cmp nat_cmp name) q) (at_name old q)
  where
    by : (b : Bool) (o : Option (Vec ℕ Global)) → cond b x (cond b w o) ≡ cond b x o
    by true o = refl
    by false o = refl

-- the lists follow, where the new connections are a function of those before
listed-Puts : (f : List ℕ → List ℕ) (old new : ByName) (name : List ℕ) (w : Option (Vec ℕ Global)) → Puts old new name w
    → conns_of w ≡ f (listed old name) → (other : List ℕ) → listed new other ≡ (if same_text name other then f (listed old other) else listed old other)
listed-Puts f old new name w puts is other =
    ap conns_of (puts other ∙ ap (λ b. cond b w (at_name old other)) (found name other)) ∙ by (same_text name other) refl
  where
    by : (b : Bool) → same_text name other ≡ b → conns_of (cond b w (at_name old other)) ≡ (if b then f (listed old other) else listed old other)
    by true e = is ∙ ap (λ n. f (listed old n)) (same name other e)
    by false e = refl

pub Joined-Puts : (old new : ByName) (name : List ℕ) (conn : ℕ) (w : Option (Vec ℕ Global)) → Puts old new name w
    → conns_of w ≡ listed old name ++ conn ∷ [] → Joined old new name conn
Joined-Puts old new name conn w puts is = listed-Puts (λ conns. conns ++ conn ∷ []) old new name w puts is

pub Left-Puts : (old new : ByName) (name : List ℕ) (conn : ℕ) (w : Option (Vec ℕ Global)) → Puts old new name w
    → conns_of w ≡ others_than conn (listed old name) → Left old new name conn
Left-Puts old new name conn w puts is = listed-Puts (others_than conn) old new name w puts is

-- a name under a key that is equal to it
pub Begun-Puts : (old new : ByName) (name key : List ℕ) (conn : ℕ) (w : Option (Vec ℕ Global)) → key ≡ name → Puts old new key w
    → conns_of w ≡ conn ∷ [] → Begun old new name conn
Begun-Puts old new name key conn w is puts alone = λ other.
    listed-Puts (λ _. conn ∷ []) old new key w puts alone other
    ∙ ap (λ n. if same_text n other then conn ∷ [] else listed old other) is

-- nothing is written
pub SameLists-Puts : (old new : ByName) (name : List ℕ) (w : Option (Vec ℕ Global)) → Puts old new name w → conns_of w ≡ listed old name → SameLists old new
SameLists-Puts old new name w puts is = λ other.
    listed-Puts (λ conns. conns) old new name w puts is other ∙ by (same_text name other) (listed old other)
  where
    by : (b : Bool) (l : List ℕ) → (if b then l else l) ≡ l
    by true l = refl
    by false l = refl

-- a name that isn't there is begun by joining
pub Joined-Begun : (old new : ByName) (name : List ℕ) (conn : ℕ) → None ≡ at_name old name → Begun old new name conn → Joined old new name conn
Joined-Begun old new name conn none begun = λ other. begun other ∙ by other (same_text name other) refl
  where
    by : (other : List ℕ) (b : Bool) → same_text name other ≡ b
        → (if b then conn ∷ [] else listed old other) ≡ (if b then listed old other ++ conn ∷ [] else listed old other)
    by other true e = ap (λ l. l ++ conn ∷ []) (ap conns_of none ∙ ap (listed old) (same name other e))
    by other false e = refl

-- nobody leaves a name that isn't there
pub Left-nobody : (old : ByName) (name : List ℕ) (conn : ℕ) → None ≡ at_name old name → Left old old name conn
Left-nobody old name conn none = λ other. by other (same_text name other) refl
  where
    by : (other : List ℕ) (b : Bool) → same_text name other ≡ b → listed old other ≡ (if b then others_than conn (listed old other) else listed old other)
    by other true e =
        let nobody : [] ≡ listed old other = ap conns_of none ∙ ap (listed old) (same name other e) in
        subst (λ l. l ≡ others_than conn l) nobody refl
    by other false e = refl

-- no list is empty, where what is put there isn't
pub NoneIsEmpty-Puts : (old new : ByName) (name : List ℕ) (w : Option (Vec ℕ Global)) → NoneIsEmpty old → Puts old new name w
    → ForSome w (λ v. 0 < vec_len v) → NoneIsEmpty new
NoneIsEmpty-Puts old new name w none puts full = λ q v e. by (is_at (slice_cmp nat_cmp name) q) q v (sym (puts q) ∙ e)
  where
    by : (b : Bool) (q : List ℕ) (v : Vec ℕ Global) → cond b w (at_name old q) ≡ Some v → 0 < vec_len v
    by true q v e = full v e
    by false q v e = none q v e

-- what is put there isn't empty
full : (v : Vec ℕ Global) → 0 < vec_len v → ForSome (Some v) (λ x. 0 < vec_len x)
full v l = λ x e. let P : Option (Vec ℕ Global) → Type 0 = λ o. 0 < vec_len (unwrap_or o v) in subst P e l

pub NoneIsEmpty-Some : (old new : ByName) (name : List ℕ) (v : Vec ℕ Global) → NoneIsEmpty old → Puts old new name (Some v)
    → 0 < vec_len v → NoneIsEmpty new
NoneIsEmpty-Some old new name v none puts l = NoneIsEmpty-Puts old new name (Some v) none puts (full v l)

pub NoneIsEmpty-None : (old new : ByName) (name : List ℕ) → NoneIsEmpty old → Puts old new name None → NoneIsEmpty new
NoneIsEmpty-None old new name none puts = NoneIsEmpty-Puts old new name None none puts (λ x e. absurd (true≢false (sym (ap is_some e))))

-- after an insertion, which may have failed
pub NoneIsEmpty-insert : {E : Type 0} (r : Result (Option (Vec ℕ Global)) E) (old new : ByName) (key : List ℕ) (v : Vec ℕ Global)
    → NoneIsEmpty old → OnOk r (tree.Updates (slice_cmp nat_cmp) old new key (Some v)) → OnErr r (tree.IsUnchanged old new)
    → 0 < vec_len v → NoneIsEmpty new
NoneIsEmpty-insert (Ok o) old new key v none puts _ l = NoneIsEmpty-Some old new key v none puts.0 l
NoneIsEmpty-insert (Err e) old new key v none _ stays l = λ q x is.
    none q x (ap (λ es. lookup (is_at (slice_cmp nat_cmp q)) es) (sym stays) ∙ is)

-- a list that a push left isn't empty, if it wasn't before
pub pushed : (b : Bool) (n m : ℕ) → m ≡ (if b then n + 1 else n) → 0 < n → 0 < m
pushed true n m e l = omega arith
pushed false n m e l = omega arith

-- ---- from connections

-- whether a name is in what a map has at a connection
abbrev pub names_have : Option (BTreeSet (List ℕ)) → List ℕ → Bool
names_have o name = option_map_or (λ names. has_name names name) o false

-- the map has this at the connection, and at others what it had
abbrev pub PutsAt : {S : Type 0} → ByConn S → ByConn S → ℕ → Option (BTreeSet (List ℕ)) → Type 0
PutsAt old new conn w = (q : ℕ) → at_conn new q ≡ cond (nat_eq conn q) w (at_conn old q)

module _ {S : Type 0} (old new : ByConn S) (conn : ℕ) where
  pub PutsAt-written : (v x : BTreeSet (List ℕ)) → Some v ≡ at_conn old conn
      → hash.WritesThrough nat_eq (nat_eq conn) old x new → PutsAt old new conn (Some x)
  PutsAt-written v x at through = (through.3 (sym (ap is_some at))).0

  pub Entered-PutsAt : (name : List ℕ) (w : Option (BTreeSet (List ℕ))) → PutsAt old new conn w
      → ((other : List ℕ) → names_have w other ≡ (same_text name other || holds old conn other)) → Entered old new conn name
  Entered-PutsAt name w puts is = λ who other. ap (λ o. names_have o other) (puts who) ∙ by who other (eqb conn who) refl
    where
      by : (who : ℕ) (other : List ℕ) (b : Bool) → eqb conn who ≡ b
          → names_have (cond b w (at_conn old who)) other ≡ ((b && same_text name other) || holds old who other)
      by who other true e = is other ∙ ap (λ c. same_text name other || holds old c other) (eqb-true conn who e)
      by who other false e = refl

  pub Exited-PutsAt : (name : List ℕ) (w : Option (BTreeSet (List ℕ))) → PutsAt old new conn w
      → ((other : List ℕ) → names_have w other ≡ (not (same_text name other) && holds old conn other)) → Exited old new conn name
  Exited-PutsAt name w puts is = λ who other. ap (λ o. names_have o other) (puts who) ∙ by who other (eqb conn who) refl
    where
      by : (who : ℕ) (other : List ℕ) (b : Bool) → eqb conn who ≡ b
          → names_have (cond b w (at_conn old who)) other ≡ (not (b && same_text name other) && holds old who other)
      by who other true e = is other ∙ ap (λ c. not (same_text name other) && holds old c other) (eqb-true conn who e)
      by who other false e = refl

pub PutsAt-twice : {S : Type 0} (old mid new : ByConn S) (conn : ℕ) (w x : Option (BTreeSet (List ℕ)))
    → PutsAt old mid conn w → PutsAt mid new conn x → PutsAt old new conn x
PutsAt-twice old mid new conn w x first second = λ q. second q ∙ ap (λ o. cond (nat_eq conn q) x o) (first q) ∙ by (nat_eq conn q) (at_conn old q)
  where
    by : (b : Bool) (o : Option (BTreeSet (List ℕ))) → cond b x (cond b w o) ≡ cond b x o
    by true o = refl
    by false o = refl

-- a set with one name more, or one less
module _ (old new : BTreeSet (List ℕ)) (name : List ℕ) where
  pub has_name-insert : (key : List ℕ) → key ≡ name → ((q : List ℕ) → has_name new q ≡ cond (is_at (slice_cmp nat_cmp key) q) true (has_name old q))
      → (q : List ℕ) → has_name new q ≡ (same_text name q || has_name old q)
  has_name-insert key is put q =
      put q ∙ ap (λ n. cond (is_at (slice_cmp nat_cmp n) q) true (has_name old q)) is ∙ ap (λ b. cond b true (has_name old q)) (found name q)
      ∙ by (same_text name q) (has_name old q)
    where
      by : (b h : Bool) → cond b true h ≡ (b || h)
      by true h = refl
      by false h = refl

  pub has_name-remove : ((q : List ℕ) → has_name new q ≡ cond (is_at (slice_cmp nat_cmp name) q) false (has_name old q))
      → (q : List ℕ) → has_name new q ≡ (not (same_text name q) && has_name old q)
  has_name-remove put q = put q ∙ ap (λ b. cond b false (has_name old q)) (found name q) ∙ by (same_text name q) (has_name old q)
    where
      by : (b h : Bool) → cond b false h ≡ (not b && h)
      by true h = refl
      by false h = refl

-- an empty set has no name
pub has_name-none : (ks : List (List ℕ)) (test : List ℕ → Bool) → length ks ≡ 0 → list_any test ks ≡ false
has_name-none [] test e = refl
has_name-none (k ∷ ks) test e = absurd (omega (arith, e))
