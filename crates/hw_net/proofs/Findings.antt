-- What a search finds among lanes whose numbers rise.
use Rattle.std.proofs.Common.{◌≡◌, ◌<◌, ◌≤◌, ◌+◌, ◌==◌, ◌∷◌, [], ℕ, zero, suc, Bool, true, false, not, cond, ◌&&◌, ◌||◌, List, Option, None, Some, is_some, Result, Ok, Err, refl, sym, ap, ◌∙◌, subst, arith, length, map, get_or, ltb, leb, position, find}
use Rattle.std.specs.List.{list_any, position_or_len}
use Rattle.std.specs.Result.{result_ok}
use Rattle.std.specs.List.Sorted.{IsSearchInRange, IsBinarySearchResult, IsNonDecreasingBy, IsPartitionPoint, IsPartitionedBy}
use Rattle.std.specs.Ordering.{nat_cmp, ordering_index}
use Rattle.std.proofs.lemmas.Cmp.{ranked}
use Rattle.std.proofs.lemmas.List.{get_or-map}
use Rattle.std.proofs.lemmas.List.Sums.{position_or_len_is}
use Rattle.std.proofs.lemmas.Bool.Decides.{nat_tests}
use Rattle.hw_net.specs.Chains.{is_there}
use Rattle.hw_net.specs.Door.{index_of_first, is_full_at}
use Rattle.hw_net.specs.Lane.{Lane, wires_of, is_full}
use Rattle.hw_net.specs.Rising.{IsRising}
use Rattle.hw_net.specs.Tally.{is_writer}
use Rattle.hw_net.specs.Writers.{is_writer_at}
use Rattle.hw_net.proofs.Places.{is_of, is-at, is-nowhere}
use Rattle.hw_net.proofs.Walking.{same-length}

-- each number is no lower than that from which on they rise
no-lower : {A : Type 0} (key : A → ℕ) (from bound : ℕ) (all : List A) (j : ℕ) (d : A) → IsRising from bound (map key all) → j < length all → from ≤ key (get_or all j d)
no-lower key from bound [] j d h lt = absurd (omega (arith, lt))
no-lower key from bound (x ∷ xs) zero d h lt = h.0
no-lower key from bound (x ∷ xs) (suc j) d h lt =
    let more : key x + 1 ≤ key (get_or xs j d) = no-lower key (key x + 1) bound xs j d h.1 (omega (arith, lt)) in
    omega (arith, more, h.0)

-- a later one has a higher number
rises : {A : Type 0} (key : A → ℕ) (from bound : ℕ) (all : List A) (i j : ℕ) (d : A) → IsRising from bound (map key all) → i < j → j < length all → key (get_or all i d) < key (get_or all j d)
rises key from bound [] i j d h lt within = absurd (omega (arith, within))
rises key from bound (x ∷ xs) i zero d h lt within = absurd (omega (arith, lt))
rises key from bound (x ∷ xs) zero (suc j) d h lt within =
    let more : key x + 1 ≤ key (get_or xs j d) = no-lower key (key x + 1) bound xs j d h.1 (omega (arith, within)) in
    omega (arith, more)
rises key from bound (x ∷ xs) (suc i) (suc j) d h lt within = rises key (key x + 1) bound xs i j d h.1 (omega (arith, lt)) (omega (arith, within))

never-falls : {A : Type 0} (key : A → ℕ) (from bound : ℕ) (all : List A) → IsRising from bound (map key all) → IsNonDecreasingBy key all
never-falls key from bound all h i j d le within =
    grind (arith, rises key from bound all i j d h, λ (same : i ≡ j). ap (λ k. key (get_or all k d)) same)

compared-rise : {A : Type 0} (key : A → ℕ) (number from bound : ℕ) (all : List A) → IsRising from bound (map key all) → IsNonDecreasingBy (λ (x : A). ordering_index (nat_cmp (key x) number)) all
compared-rise key number from bound all h i j d le within =
    let no_less : key (get_or all i d) ≤ key (get_or all j d) = never-falls key from bound all h i j d le within in
    grind (arith, nat_tests)

position-at : {A : Type 0} (p : A → Bool) (all : List A) (at : ℕ) → position_or_len p all ≡ at → at < length all → position p all ≡ Some at
position-at p all at e lt = grind (arith, e, lt)

position-none : {A : Type 0} (p : A → Bool) (all : List A) → position_or_len p all ≡ length all → position p all ≡ None
position-none p all e = grind (arith, e)

-- it has this number
abbrev pub is_key : {A : Type 0} → (A → ℕ) → ℕ → A → Bool
is_key key number x = key x == number

-- a search finds that of a number, or that there is none
pub found-by : {A : Type 0} (key : A → ℕ) (number bound : ℕ) (all : List A) (r : Result ℕ ℕ) → IsRising 0 bound (map key all) → IsSearchInRange r (length all) →
    IsBinarySearchResult (λ (x : A). nat_cmp (key x) number) all r → result_ok r ≡ position (is_key key number) all
found-by key number bound [] (Ok at) h within s = absurd (omega (arith, within))
found-by key number bound (first ∷ xs) (Ok at) h within s =
    let all = first ∷ xs in
    let here : key (get_or all at first) ≡ number = ranked _ number _ (sym (s first)) in
    let before : (k : ℕ) → k < at → is_key key number (get_or all k first) ≡ false = λ k lt. grind (arith, nat_tests, rises key 0 bound all k at first h lt within, here) in
    let passes : is_key key number (get_or all at first) ≡ true = grind (arith, nat_tests, here) in
    sym (position-at (is_key key number) all at (position_or_len_is (is_key key number) all at first (omega (arith, within)) before (λ lt. passes)) within)
found-by key number bound [] (Err at) h within s = refl
found-by key number bound (first ∷ xs) (Err at) h within s =
    let all = first ∷ xs in
    let parted = s (compared-rise key number 0 bound all h) in
    let lower : (k : ℕ) → k < at → key (get_or all k first) < number = λ k lt. ranked _ number _ (sym (parted.0 k first (omega arith) lt)) in
    let higher : (k : ℕ) → at ≤ k → k < length all → number < key (get_or all k first) = λ k le lt. ranked _ number _ (sym (parted.1 k first le lt)) in
    let none : (k : ℕ) → k < length all → is_key key number (get_or all k first) ≡ false = λ k lt. grind (arith, nat_tests, lower k, λ (le : at ≤ k). higher k le lt) in
    sym (position-none (is_key key number) all (position_or_len_is (is_key key number) all (length all) first (omega arith) none (λ lt. absurd (omega (arith, lt)))))

-- so it is of lanes, by their wires
abbrev by_wire : Lane → ℕ
by_wire lane = lane.wire

pub found : (wire bound : ℕ) (lanes : List Lane) (r : Result ℕ ℕ) → IsRising 0 bound (wires_of lanes) → IsSearchInRange r (length lanes) →
    IsBinarySearchResult (λ (lane : Lane). nat_cmp lane.wire wire) lanes r → result_ok r ≡ position (is_of wire) lanes
found wire bound lanes r h within s = found-by by_wire wire bound lanes r h within s

abbrev is_low : ℕ → Lane → Bool
is_low from lane = ltb lane.wire from

pub parted : (from bound : ℕ) (lanes : List Lane) → IsRising 0 bound (wires_of lanes) → IsPartitionedBy (is_low from) lanes
parted from bound lanes h i j d le within low =
    let no_less : (get_or lanes i d).wire ≤ (get_or lanes j d).wire = never-falls by_wire 0 bound lanes h i j d le within in
    grind (arith, nat_tests, low)

-- the lanes of lower numbers come first
pub first-from : (from : ℕ) (lanes : List Lane) (at : ℕ) → at ≤ length lanes → IsPartitionPoint (λ l. is_low from l ≡ true) (λ l. is_low from l ≡ false) lanes at → at ≡ index_of_first from lanes
first-from from [] at within s = omega (arith, within)
first-from from (first ∷ lanes) at within s =
    let all = first ∷ lanes in
    let is_from = λ (lane : Lane). leb from lane.wire in
    let before : (k : ℕ) → k < at → is_from (get_or all k first) ≡ false = λ k lt. grind (arith, nat_tests, s.0 k first (omega arith) lt) in
    let here : at < length all → is_from (get_or all at first) ≡ true = λ lt. grind (arith, nat_tests, s.1 at first (omega arith) lt) in
    let len : position_or_len is_from all ≡ at = position_or_len_is is_from all at first within before here in
    grind (arith, len, within)

-- ---- what is found of a number

pub is-placed : {A : Type 0} (p : A → Bool) (all : List A) (index : ℕ) → position p all ≡ Some index → (position_or_len p all ≡ index) × (index < length all)
is-placed p all index e = (grind (arith, e), grind (arith, e))

pub is-unplaced : {A : Type 0} (p : A → Bool) (all : List A) → position p all ≡ None → length all ≤ position_or_len p all
is-unplaced p all e = grind (arith, e)

pub find-at : {A : Type 0} (p : A → Bool) (all : List A) (index : ℕ) (d : A) → position_or_len p all ≡ index → index < length all → find p all ≡ Some (get_or all index d)
find-at p [] index d e lt = absurd (omega (arith, lt))
find-at p (x ∷ xs) zero d e lt = go (p x) e where
  go : (b : Bool) → cond (not b) (1 + position_or_len p xs) 0 ≡ 0 → cond b (Some x) (find p xs) ≡ Some x
  go true e = refl
  go false e = absurd (omega (arith, e))
find-at p (x ∷ xs) (suc index) d e lt = go (p x) e (find-at p xs index d) where
  go : (b : Bool) → cond (not b) (1 + position_or_len p xs) 0 ≡ suc index → (position_or_len p xs ≡ index → index < length xs → find p xs ≡ Some (get_or xs index d)) →
      cond b (Some x) (find p xs) ≡ Some (get_or xs index d)
  go true e more = absurd (omega (arith, e))
  go false e more = more (omega (arith, e)) (omega (arith, lt))

pub find-none : {A : Type 0} (p : A → Bool) (all : List A) → length all ≤ position_or_len p all → find p all ≡ None
find-none p [] h = refl
find-none p (x ∷ xs) h = go (p x) h (find-none p xs) where
  go : (b : Bool) → suc (length xs) ≤ cond (not b) (1 + position_or_len p xs) 0 → (length xs ≤ position_or_len p xs → find p xs ≡ None) → cond b (Some x) (find p xs) ≡ None
  go true h more = absurd (omega (arith, h))
  go false h more = more (omega (arith, h))

-- ---- the lane of a number

-- the lane of this number is such a one
abbrev any_at : (Lane → Bool) → ℕ → List Lane → Bool
any_at is wire lanes = list_any (λ (lane : Lane). (lane.wire == wire) && is lane) lanes

only-first : (a b rest : Bool) → a ≡ true → rest ≡ false → ((a && b) || rest) ≡ b
only-first true true rest e none = refl
only-first true false rest e none = none
only-first false b rest e none = cc e

not-first : (a b rest other : Bool) → a ≡ false → rest ≡ other → ((a && b) || rest) ≡ other
not-first true b rest other e more = cc e
not-first false b rest other e more = more

-- no lane has a lower number
none-below : (is : Lane → Bool) (wire from bound : ℕ) (lanes : List Lane) → wire < from → IsRising from bound (wires_of lanes) → any_at is wire lanes ≡ false
none-below is wire from bound [] lt h = refl
none-below is wire from bound (lane ∷ lanes) lt h =
    let other : (lane.wire == wire) ≡ false = grind (arith, nat_tests, lt, h.0) in
    not-first (lane.wire == wire) (is lane) (any_at is wire lanes) false other (none-below is wire (lane.wire + 1) bound lanes (omega (arith, lt, h.0)) h.1)

-- the lane of a number is the only one
pub only-one : (is : Lane → Bool) (wire from bound : ℕ) (lanes : List Lane) (index : ℕ) (d : Lane) → IsRising from bound (wires_of lanes) → index < length lanes → (get_or lanes index d).wire ≡ wire →
    any_at is wire lanes ≡ is (get_or lanes index d)
only-one is wire from bound [] index d h lt here = absurd (omega (arith, lt))
only-one is wire from bound (lane ∷ lanes) zero d h lt here =
    only-first (lane.wire == wire) (is lane) (any_at is wire lanes) (grind (arith, nat_tests, here)) (none-below is wire (lane.wire + 1) bound lanes (omega (arith, here)) h.1)
only-one is wire from bound (lane ∷ lanes) (suc index) d h lt here =
    let higher : lane.wire + 1 ≤ (get_or lanes index d).wire = no-lower by_wire (lane.wire + 1) bound lanes index d h.1 (omega (arith, lt)) in
    let other : (lane.wire == wire) ≡ false = grind (arith, nat_tests, higher, here) in
    not-first (lane.wire == wire) (is lane) (any_at is wire lanes) (is (get_or lanes index d)) other
    (only-one is wire (lane.wire + 1) bound lanes index d h.1 (omega (arith, lt)) here)

-- the place of a lane is found by its number
pub only-place : (wire from bound : ℕ) (lanes : List Lane) (index : ℕ) (d : Lane) → IsRising from bound (wires_of lanes) → index < length lanes → (get_or lanes index d).wire ≡ wire →
    position_or_len (is_of wire) lanes ≡ index
only-place wire from bound [] index d h lt here = absurd (omega (arith, lt))
only-place wire from bound (lane ∷ lanes) zero d h lt here = go (lane.wire == wire) (grind (arith, nat_tests, here)) where
  go : (b : Bool) → b ≡ true → cond (not b) (1 + position_or_len (is_of wire) lanes) 0 ≡ 0
  go true e = refl
  go false e = cc e
only-place wire from bound (lane ∷ lanes) (suc index) d h lt here =
    let higher : lane.wire + 1 ≤ (get_or lanes index d).wire = no-lower by_wire (lane.wire + 1) bound lanes index d h.1 (omega (arith, lt)) in
    go (lane.wire == wire) (grind (arith, nat_tests, higher, here)) (only-place wire (lane.wire + 1) bound lanes index d h.1 (omega (arith, lt)) here) where
      go : (b : Bool) → b ≡ false → position_or_len (is_of wire) lanes ≡ index → cond (not b) (1 + position_or_len (is_of wire) lanes) 0 ≡ suc index
      go true e more = cc e
      go false e more = omega (arith, more)

-- a search that found no lane
none-past : (is : Lane → Bool) (wire : ℕ) (lanes : List Lane) → length lanes ≤ position_or_len (is_of wire) lanes → any_at is wire lanes ≡ false
none-past is wire [] h = refl
none-past is wire (lane ∷ lanes) h = go (lane.wire == wire) h (none-past is wire lanes) where
  go : (b : Bool) → suc (length lanes) ≤ cond (not b) (1 + position_or_len (is_of wire) lanes) 0 → (length lanes ≤ position_or_len (is_of wire) lanes → any_at is wire lanes ≡ false) →
      ((b && is lane) || any_at is wire lanes) ≡ false
  go true h more = absurd (omega (arith, h))
  go false h more = more (omega (arith, h))

pub none-there : (is : Lane → Bool) (wire : ℕ) (lanes : List Lane) → position (is_of wire) lanes ≡ None → any_at is wire lanes ≡ false
none-there is wire lanes e = none-past is wire lanes (is-nowhere wire lanes e)

pub none-full : (wire : ℕ) (lanes : List Lane) → position (is_of wire) lanes ≡ None → is_full_at wire lanes ≡ false
none-full = none-there is_full

-- a search that found this place
numbered : (wire : ℕ) (lanes : List Lane) (index : ℕ) (d : Lane) → position_or_len (is_of wire) lanes ≡ index → index < length lanes → (get_or lanes index d).wire ≡ wire
numbered wire [] index d e lt = absurd (omega (arith, lt))
numbered wire (lane ∷ lanes) zero d e lt = go (lane.wire == wire) refl e where
  go : (b : Bool) → (lane.wire == wire) ≡ b → cond (not b) (1 + position_or_len (is_of wire) lanes) 0 ≡ 0 → lane.wire ≡ wire
  go true same e = grind (arith, nat_tests, same)
  go false same e = absurd (omega (arith, e))
numbered wire (lane ∷ lanes) (suc index) d e lt = go (lane.wire == wire) e (numbered wire lanes index d) where
  go : (b : Bool) → cond (not b) (1 + position_or_len (is_of wire) lanes) 0 ≡ suc index → (position_or_len (is_of wire) lanes ≡ index → index < length lanes → (get_or lanes index d).wire ≡ wire) →
      (get_or lanes index d).wire ≡ wire
  go true e more = absurd (omega (arith, e))
  go false e more = more (omega (arith, e)) (omega (arith, lt))

-- the lane of the place that was found is one on which something waits, or isn't
pub writer-there : (wire bound : ℕ) (lanes : List Lane) (index : ℕ) (lane : Lane) → IsRising 0 bound (wires_of lanes) → position (is_of wire) lanes ≡ Some index → get_or lanes index lane ≡ lane →
    is_writer lane ≡ is_writer_at wire lanes
writer-there wire bound lanes index lane h e at =
    let found = is-at wire lanes index e in
    ap is_writer (sym at) ∙ sym (only-one is_writer wire 0 bound lanes index lane h found.1 (numbered wire lanes index lane found.0 found.1))

pub no-writer : (wire : ℕ) (lanes : List Lane) → position (is_of wire) lanes ≡ None → is_writer_at wire lanes ≡ false
no-writer = none-there is_writer

-- the lane there is the only one of its number, as it is after it was given a message
pub full-there : (wire bound : ℕ) (lanes after : List Lane) (index : ℕ) (full : Bool) → IsRising 0 bound (wires_of lanes) → wires_of after ≡ wires_of lanes → position (is_of wire) lanes ≡ Some index →
    ((lane : Lane) → full ≡ is_full (get_or after index lane)) → full ≡ is_full_at wire after
full-there wire bound lanes [] index full h same e answer = absurd (omega (arith, (is-at wire lanes index e).1, same-length [] lanes same))
full-there wire bound lanes (first ∷ rest) index full h same e answer =
    let after = first ∷ rest in
    let wire_at = λ (l : Lane). l.wire in
    let found = is-at wire lanes index e in
    let within : index < length after = omega (arith, found.1, same-length after lanes same) in
    let kept : (get_or after index first).wire ≡ (get_or lanes index first).wire =
    sym (get_or-map wire_at after index first first.wire within) ∙ ap (λ l. get_or l index first.wire) same ∙ get_or-map wire_at lanes index first first.wire found.1 in
    let here : (get_or after index first).wire ≡ wire = kept ∙ numbered wire lanes index first found.0 found.1 in
    answer first ∙ sym (only-one is_full wire 0 bound after index first (subst (λ l. IsRising 0 bound l) (sym same) h) within here)

-- whether there is a lane of a number
there-at : (wire : ℕ) (lanes : List Lane) (index : ℕ) → position_or_len (is_of wire) lanes ≡ index → index < length lanes → is_there wire lanes ≡ true
there-at wire [] index e lt = absurd (omega (arith, lt))
there-at wire (lane ∷ lanes) zero e lt = go (lane.wire == wire) e where
  go : (b : Bool) → cond (not b) (1 + position_or_len (is_of wire) lanes) 0 ≡ 0 → b || is_there wire lanes ≡ true
  go true e = refl
  go false e = absurd (omega (arith, e))
there-at wire (lane ∷ lanes) (suc index) e lt = go (lane.wire == wire) e (there-at wire lanes index) where
  go : (b : Bool) → cond (not b) (1 + position_or_len (is_of wire) lanes) 0 ≡ suc index → (position_or_len (is_of wire) lanes ≡ index → index < length lanes → is_there wire lanes ≡ true) → b || is_there wire lanes ≡ true
  go true e more = refl
  go false e more = more (omega (arith, e)) (omega (arith, lt))

there-none : (wire : ℕ) (lanes : List Lane) → length lanes ≤ position_or_len (is_of wire) lanes → is_there wire lanes ≡ false
there-none wire [] h = refl
there-none wire (lane ∷ lanes) h = go (lane.wire == wire) h (there-none wire lanes) where
  go : (b : Bool) → suc (length lanes) ≤ cond (not b) (1 + position_or_len (is_of wire) lanes) 0 → (length lanes ≤ position_or_len (is_of wire) lanes → is_there wire lanes ≡ false) → b || is_there wire lanes ≡ false
  go true h more = absurd (omega (arith, h))
  go false h more = more (omega (arith, h))

pub is-there : (wire : ℕ) (lanes : List Lane) → is_some (position (is_of wire) lanes) ≡ is_there wire lanes
is-there wire lanes = go (position (is_of wire) lanes) refl where
  go : (found : Option ℕ) → position (is_of wire) lanes ≡ found → is_some found ≡ is_there wire lanes
  go None e = sym (there-none wire lanes (is-nowhere wire lanes e))
  go (Some index) e = let k = is-at wire lanes index e in sym (there-at wire lanes index k.0 k.1)
