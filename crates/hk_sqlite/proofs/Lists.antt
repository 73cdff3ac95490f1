-- Lists: one more at the end, turned around, and those that pass a test.
use Rattle.std.proofs.Common.{◌≡◌, ◌⊎◌, ◌≤◌, nat_lt, ◌-◌, inl, inr, ℕ, List, [], ◌∷◌, ◌++◌, length, map, filter, find, flat_map, reverse, take, drop, option_map, Bool, true, false, not, cond, ◌&&◌, is_none, arith, refl, sym, ap, ◌∙◌}
use Rattle.std.specs.List.{AllByRecursion, list_any}
use Rattle.std.proofs.lemmas.List.{reverse-append, reverse-reverse, take_all, take-append-drop, length-reverse, length-drop}
use Rattle.std.proofs.Math.Seq.{take-append_seam}
use Rattle.std.proofs.lemmas.Bool.{cases_Bool}
use Rattle.std.proofs.lemmas.Bool.Decides.{nat_tests}
use Rattle.sqlite.specs.Tree.{IsAscending}
use Rattle.sqlite_keyed.proofs.ListLemmas.{ascending-append, all-append, all_weaker}

pub map_push : {X Y : Type 0} (f : X → Y) (xs : List X) (x : X) → map f (xs ++ x ∷ []) ≡ map f xs ++ f x ∷ []
map_push f [] x = refl
map_push f (y ∷ xs) x = ap (λ more. f y ∷ more) (map_push f xs x)

pub all_push : {X : Type 0} (P : X → Type 0) (xs : List X) (x : X) → AllByRecursion P xs → P x → AllByRecursion P (xs ++ x ∷ [])
all_push P [] x all h = (h, tt)
all_push P (y ∷ xs) x all h = (all.0, all_push P xs x all.1 h)

pub ascending_push : {X : Type 0} (R : X → X → Type 0) (xs : List X) (x : X) → IsAscending R xs → AllByRecursion (λ y. R y x) xs → IsAscending R (xs ++ x ∷ [])
ascending_push R [] x up below = (tt, tt)
ascending_push R (y ∷ xs) x up below = (all_push (R y) xs x up.0 below.0, ascending_push R xs x up.1 below.1)

pub turned : {X : Type 0} (x : X) (xs : List X) → reverse (x ∷ xs) ≡ reverse xs ++ x ∷ []
turned x xs = reverse-append (x ∷ []) xs

pub map_reverse : {X Y : Type 0} (f : X → Y) (xs : List X) → map f (reverse xs) ≡ reverse (map f xs)
map_reverse f [] = refl
map_reverse f (x ∷ xs) = rw (turned x xs, turned (f x) (map f xs)) (map_push f (reverse xs) x ∙ ap (λ l. l ++ f x ∷ []) (map_reverse f xs))

all_reverse : {X : Type 0} (P : X → Type 0) (xs : List X) → AllByRecursion P xs → AllByRecursion P (reverse xs)
all_reverse P [] all = tt
all_reverse P (x ∷ xs) all = rw (turned x xs) (all-append P (reverse xs) (x ∷ []) (all_reverse P xs all.1) (all.0, tt))

pub ascending_reverse : {X : Type 0} (R : X → X → Type 0) (xs : List X) → IsAscending R xs → IsAscending (λ a b. R b a) (reverse xs)
ascending_reverse R [] up = tt
ascending_reverse R (x ∷ xs) up =
    rw (turned x xs) (ascending-append (λ a b. R b a) (reverse xs) (x ∷ []) (ascending_reverse R xs up.1) (tt, tt)
    (all_weaker (R x) (λ y. R x y × Unit {0}) (λ y h. (h, tt)) (reverse xs) (all_reverse (R x) xs up.0)))

-- those that pass, each as a function has it
pub passing : {X Y : Type 0} (p : X → Bool) (f : X → Y) (xs : List X) → flat_map (λ x. cond (p x) (f x ∷ []) []) xs ≡ map f (filter p xs)
passing p f [] = refl
passing p f (x ∷ xs) = go (p x) refl (passing p f xs)
  where
    go : (b : Bool) → p x ≡ b → flat_map (λ y. cond (p y) (f y ∷ []) []) xs ≡ map f (filter p xs) → flat_map (λ y. cond (p y) (f y ∷ []) []) (x ∷ xs) ≡ map f (filter p (x ∷ xs))
    go true e more = rw e (ap (λ l. f x ∷ l) more)
    go false e more = rw e more

pub one_each : {X Y : Type 0} (f : X → Y) (xs : List X) → flat_map (λ x. f x ∷ []) xs ≡ map f xs
one_each f [] = refl
one_each f (x ∷ xs) = ap (λ l. f x ∷ l) (one_each f xs)

pub and_true : (b : Bool) → (b && true) ≡ b
and_true true = refl
and_true false = refl

-- nothing is found exactly if none passes
pub none_found : {X Y : Type 0} (f : X → Y) (p : X → Bool) (xs : List X) → is_none (option_map f (find p xs)) ≡ not (list_any p xs)
none_found f p [] = refl
none_found f p (x ∷ xs) = go (p x) refl (none_found f p xs)
  where
    go : (b : Bool) → p x ≡ b → is_none (option_map f (find p xs)) ≡ not (list_any p xs) → is_none (option_map f (find p (x ∷ xs))) ≡ not (list_any p (x ∷ xs))
    go true e more = rw e refl
    go false e more = rw e more

order : (a b : ℕ) → (a ≤ b) ⊎ (b ≤ a)
order a b = elim (cases_Bool (nat_lt b a)) [ inl below ↦ inr (grind (arith, nat_tests)) | inr not ↦ inl (grind (arith, nat_tests)) ]

-- the last few, from the first few of the list that is turned around
pub last_of : {X : Type 0} (n : ℕ) (xs : List X) → reverse (take n (reverse xs)) ≡ drop (length xs - n) xs
last_of n xs = elim (order (length xs) n) [
  | inl short ↦ let none : length xs - n ≡ 0 = omega arith in rw (none, take_all n (reverse xs) (rw length-reverse short)) (reverse-reverse xs)
  | inr long ↦
      let k = length xs - n in
      let front = take k xs in
      let back = drop k xs in
      let size : length (reverse back) ≡ n = length-reverse back ∙ length-drop k xs ∙ omega arith in
      let split : reverse xs ≡ reverse back ++ reverse front = ap reverse (sym (take-append-drop k xs)) ∙ reverse-append front back in
      ap (λ l. reverse (take n l)) split ∙ ap (λ m. reverse (take m (reverse back ++ reverse front))) (sym size) ∙ ap reverse (take-append_seam (reverse back) (reverse front)) ∙ reverse-reverse back
]
