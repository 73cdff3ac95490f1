-- How a change of the map from rooms to rows, made at one room, reads.
use Rattle.std.proofs.Common.{◌≡◌, ℕ, ◌+◌, ◌<◌, Result, Ok, Err, OnOk, OnErr, unwrap_or, subst, arith, Bool, true, false, cond, List, [], ◌∷◌, ◌++◌, length, drop, Option, Some, None, is_some, if◌then◌else◌, refl, sym, ap, ◌∙◌, true≢false}
use Rattle.std.specs.Option.{ForSome}
use Rattle.std.specs.Ordering.{nat_cmp}
use Rattle.std.specs.Cmp.Lexicographic.{slice_cmp}
use Rattle.std.specs.BTreeMap.{is_at}
use Rattle.std.specs.BTreeMap as tree
use Rattle.std.specs.Map.{lookup}
use Rattle.std.proofs.lemmas.Map.Text.{is_eq-slice_cmp}
use Rattle.std.proofs.lemmas.Slice.Eq.{bytes_eq-Decides}
use Rattle.hd_rooms.specs.Registry.{same_text}
use Rattle.hd_rooms.specs.declared.vocabulary.Row.{Row}
use Rattle.hk_latest.specs.Rooms.{ByRoom, IsIndex, NoneIsEmpty, SameRows, Added, Begun, Dropped, at_room, said}

-- the order of texts finds a room if and only if it is the same
found : (room other : List ℕ) → is_at (slice_cmp nat_cmp room) other ≡ same_text room other
found room other = is_eq-slice_cmp room other

same : (room other : List ℕ) → same_text room other ≡ true → room ≡ other
same room other e = (bytes_eq-Decides room other).0 e

-- the rows in what a map has at a room
abbrev pub rows_in : Option (List Row) → List Row
rows_in o = unwrap_or o []

-- the map has this at the room, and at others what it had
abbrev pub Puts : ByRoom → ByRoom → List ℕ → Option (List Row) → Type 0
Puts old new room w = (q : List ℕ) → at_room new q ≡ cond (is_at (slice_cmp nat_cmp room) q) w (at_room old q)

-- a write through what the map lent at a room that it has
pub Puts-written : (old new : ByRoom) (room : List ℕ) (v x : List Row) → Some v ≡ at_room old room
    → tree.WritesThrough (slice_cmp nat_cmp) (slice_cmp nat_cmp room) old x new → Puts old new room (Some x)
Puts-written old new room v x at through = (through.3 (sym (ap is_some at))).0

-- two changes at one room are the later one
pub Puts-twice : (old mid new : ByRoom) (room : List ℕ) (w x : Option (List Row)) → Puts old mid room w → Puts mid new room x → Puts old new room x
Puts-twice old mid new room w x first second =
    λ q. second q ∙ ap (λ o. cond (is_at (slice_cmp nat_cmp room) q) x o) (first q) ∙ by (is_at (slice_cmp nat_cmp room) q) (at_room old q)
  where
    by : (b : Bool) (o : Option (List Row)) → cond b x (cond b w o) ≡ cond b x o
    by true o = refl
    by false o = refl

-- the rows follow, where the new ones are a function of those before
said-Puts : (f : List Row → List Row) (old new : ByRoom) (room : List ℕ) (w : Option (List Row)) → Puts old new room w
    → rows_in w ≡ f (said old room) → (other : List ℕ) → said new other ≡ (if same_text room other then f (said old other) else said old other)
said-Puts f old new room w puts is other =
    ap rows_in (puts other ∙ ap (λ b. cond b w (at_room old other)) (found room other)) ∙ by (same_text room other) refl
  where
    by : (b : Bool) → same_text room other ≡ b → rows_in (cond b w (at_room old other)) ≡ (if b then f (said old other) else said old other)
    by true e = is ∙ ap (λ n. f (said old n)) (same room other e)
    by false e = refl

module _ (old new : ByRoom) (row : Row) (key : List ℕ) (w : Option (List Row)) (is : key ≡ row.room) (puts : Puts old new key w) where
  pub Added-Puts : rows_in w ≡ said old key ++ row ∷ [] → Added old new row
  Added-Puts e = λ other.
      said-Puts (λ rows. rows ++ row ∷ []) old new key w puts e other
      ∙ ap (λ n. if same_text n other then said old other ++ row ∷ [] else said old other) is

  pub Begun-Puts : rows_in w ≡ row ∷ [] → Begun old new row
  Begun-Puts e = λ other.
      said-Puts (λ _. row ∷ []) old new key w puts e other
      ∙ ap (λ n. if same_text n other then row ∷ [] else said old other) is

  pub Dropped-Puts : rows_in w ≡ drop 1 (said old key) → Dropped old new row
  Dropped-Puts e = λ other.
      said-Puts (drop 1) old new key w puts e other
      ∙ ap (λ n. if same_text n other then drop 1 (said old other) else said old other) is

-- nothing is written
pub SameRows-Puts : (old new : ByRoom) (room : List ℕ) (w : Option (List Row)) → Puts old new room w → rows_in w ≡ said old room → SameRows old new
SameRows-Puts old new room w puts is = λ other.
    said-Puts (λ rows. rows) old new room w puts is other ∙ by (same_text room other) (said old other)
  where
    by : (b : Bool) (l : List Row) → (if b then l else l) ≡ l
    by true l = refl
    by false l = refl

-- a room that isn't there is begun by its first row
pub Added-Begun : (old new : ByRoom) (row : Row) (key : List ℕ) → key ≡ row.room → None ≡ at_room old key → Begun old new row → Added old new row
Added-Begun old new row key is none begun = λ other. begun other ∙ by other (same_text row.room other) refl
  where
    by : (other : List ℕ) (b : Bool) → same_text row.room other ≡ b
        → (if b then row ∷ [] else said old other) ≡ (if b then said old other ++ row ∷ [] else said old other)
    by other true e = ap (λ l. l ++ row ∷ []) (ap rows_in none ∙ ap (said old) (is ∙ same row.room other e))
    by other false e = refl

-- no row leaves a room that isn't there
pub Dropped-none : (old : ByRoom) (row : Row) → None ≡ at_room old row.room → Dropped old old row
Dropped-none old row none = λ other. by other (same_text row.room other) refl
  where
    by : (other : List ℕ) (b : Bool) → same_text row.room other ≡ b → said old other ≡ (if b then drop 1 (said old other) else said old other)
    by other true e =
        let nothing : [] ≡ said old other = ap rows_in none ∙ ap (said old) (same row.room other e) in
        subst (λ l. l ≡ drop 1 l) nothing refl
    by other false e = refl

-- no room is empty, where what is put there isn't
NoneIsEmpty-Puts : (old new : ByRoom) (room : List ℕ) (w : Option (List Row)) → NoneIsEmpty old → Puts old new room w
    → ForSome w (λ v. 0 < length v) → NoneIsEmpty new
NoneIsEmpty-Puts old new room w none puts full = λ q v e. by (is_at (slice_cmp nat_cmp room) q) q v (sym (puts q) ∙ e)
  where
    by : (b : Bool) (q : List ℕ) (v : List Row) → cond b w (at_room old q) ≡ Some v → 0 < length v
    by true q v e = full v e
    by false q v e = none q v e

-- what is put there isn't empty
full : (v : List Row) → 0 < length v → ForSome (Some v) (λ x. 0 < length x)
full v l = λ x e. let P : Option (List Row) → Type 0 = λ o. 0 < length (unwrap_or o v) in subst P e l

pub NoneIsEmpty-Some : (old new : ByRoom) (room : List ℕ) (v : List Row) → NoneIsEmpty old → Puts old new room (Some v)
    → 0 < length v → NoneIsEmpty new
NoneIsEmpty-Some old new room v none puts l = NoneIsEmpty-Puts old new room (Some v) none puts (full v l)

pub NoneIsEmpty-None : (old new : ByRoom) (room : List ℕ) → NoneIsEmpty old → Puts old new room None → NoneIsEmpty new
NoneIsEmpty-None old new room none puts = NoneIsEmpty-Puts old new room None none puts (λ x e. absurd (true≢false (sym (ap is_some e))))

-- after an insertion, which may have failed
pub NoneIsEmpty-insert : {E : Type 0} (r : Result (Option (List Row)) E) (old new : ByRoom) (key : List ℕ) (v : List Row)
    → NoneIsEmpty old → OnOk r (tree.Updates (slice_cmp nat_cmp) old new key (Some v)) → OnErr r (tree.IsUnchanged old new)
    → 0 < length v → NoneIsEmpty new
NoneIsEmpty-insert (Ok o) old new key v none puts _ l = NoneIsEmpty-Some old new key v none puts.0 l
NoneIsEmpty-insert (Err e) old new key v none _ stays l = λ q x is.
    none q x (ap (λ es. lookup (is_at (slice_cmp nat_cmp q)) es) (sym stays) ∙ is)

-- a list that a push left isn't empty, if it wasn't before
pub pushed : (b : Bool) (n m : ℕ) → m ≡ (if b then n + 1 else n) → 0 < n → 0 < m
pushed true n m e l = omega arith
pushed false n m e l = omega arith

-- the index stays, where each room keeps its rows
pub IsIndex-same : (old new : ByRoom) (rows : List Row) (bytes : ℕ) → IsIndex old rows bytes → SameRows old new → IsIndex new rows bytes
IsIndex-same old new rows bytes is stays = record { by_room = λ room. stays room ∙ is.by_room room; weighed = is.weighed }
