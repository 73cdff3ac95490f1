-- What the registry says depends on who joined, on who is a user, and on which connections are open.
use Rattle.std.proofs.Common.{◌≡◌, ℕ, ◌==◌, Bool, true, false, not, List, [], ◌∷◌, filter, refl, sym, ap, ◌∙◌}
use Rattle.std.proofs.lemmas.Bool.{eqb-true, cond-true, cond-false, not-true, not-false}
use Rattle.std.proofs.lemmas.List.Elements.{filter_agree}
use Rattle.hd_rooms.specs.Registry.{Pair, Lists, gone, without}
use Rattle.hd_server.specs.Machine.{MachineEvent, is_open, joined, of_open, registry, user_pairs}

-- ---- filters

-- one that passes stays, and one that doesn't goes
pub filter_stays : {A : Type 0} (p : A → Bool) (x : A) (xs : List A) → p x ≡ true → filter p (x ∷ xs) ≡ x ∷ filter p xs
filter_stays p x xs e = cond-true (p x) (x ∷ filter p xs) (filter p xs) e

pub filter_goes : {A : Type 0} (p : A → Bool) (x : A) (xs : List A) → p x ≡ false → filter p (x ∷ xs) ≡ filter p xs
filter_goes p x xs e = cond-false (p x) (x ∷ filter p xs) (filter p xs) e

-- of those that pass r, q lets as many pass as p, and of the others none
pub filter_after : {A : Type 0} (p q r : A → Bool) → ((x : A) → r x ≡ false → q x ≡ false) → ((x : A) → r x ≡ true → q x ≡ p x)
    → (xs : List A) → filter q xs ≡ filter r (filter p xs)
filter_after p q r out within [] = refl
filter_after {A} p q r out within (x ∷ xs) = go (r x) (p x) refl refl (filter_after p q r out within xs)
  where
    go : (b c : Bool) → r x ≡ b → p x ≡ c → filter q xs ≡ filter r (filter p xs) → filter q (x ∷ xs) ≡ filter r (filter p (x ∷ xs))
    go true true e f ih =
        filter_stays q x xs (within x e ∙ f) ∙ ap (λ ys. x ∷ ys) ih ∙ sym (filter_stays r x (filter p xs) e) ∙ ap (filter r) (sym (filter_stays p x xs f))
    go true false e f ih = filter_goes q x xs (within x e ∙ f) ∙ ih ∙ ap (filter r) (sym (filter_goes p x xs f))
    go false true e f ih = filter_goes q x xs (out x e) ∙ ih ∙ sym (filter_goes r x (filter p xs) e) ∙ ap (filter r) (sym (filter_stays p x xs f))
    go false false e f ih = filter_goes q x xs (out x e) ∙ ih ∙ ap (filter r) (sym (filter_goes p x xs f))

-- two tests that agree on those that pass r
pub filter_among : {A : Type 0} (p q r : A → Bool) → ((x : A) → r x ≡ true → q x ≡ p x)
    → (xs : List A) → filter q (filter r xs) ≡ filter p (filter r xs)
filter_among p q r within [] = refl
filter_among {A} p q r within (x ∷ xs) = go (r x) (p x) refl refl (filter_among p q r within xs)
  where
    go : (b c : Bool) → r x ≡ b → p x ≡ c → filter q (filter r xs) ≡ filter p (filter r xs) → filter q (filter r (x ∷ xs)) ≡ filter p (filter r (x ∷ xs))
    go true true e f ih =
        ap (filter q) (filter_stays r x xs e) ∙ filter_stays q x (filter r xs) (within x e ∙ f) ∙ ap (λ ys. x ∷ ys) ih
        ∙ sym (filter_stays p x (filter r xs) f) ∙ ap (filter p) (sym (filter_stays r x xs e))
    go true false e f ih =
        ap (filter q) (filter_stays r x xs e) ∙ filter_goes q x (filter r xs) (within x e ∙ f) ∙ ih
        ∙ sym (filter_goes p x (filter r xs) f) ∙ ap (filter p) (sym (filter_stays r x xs e))
    go false c e f ih = ap (filter q) (filter_goes r x xs e) ∙ ih ∙ ap (filter p) (sym (filter_goes r x xs e))

-- ---- pairs of open connections

-- all but this connection are open if they were
abbrev pub OthersOpen : ℕ → List MachineEvent → List MachineEvent → Type 0
OthersOpen c old new = (k : ℕ) → (c == k) ≡ false → is_open k new ≡ is_open k old

pub of_open_agrees : (old new : List MachineEvent) (pairs : List Pair) → ((k : ℕ) → is_open k new ≡ is_open k old) → of_open new pairs ≡ of_open old pairs
of_open_agrees old new pairs same = filter_agree (λ (p : Pair). is_open p.1 new) (λ p. is_open p.1 old) (λ p. same p.1) pairs

-- one that has closed or gone is without pairs
pub of_open_closed : (c : ℕ) (old new : List MachineEvent) (pairs : List Pair) → is_open c new ≡ false → OthersOpen c old new
    → of_open new pairs ≡ without c (of_open old pairs)
of_open_closed c old new pairs shut others =
    filter_after (λ (p : Pair). is_open p.1 old) (λ p. is_open p.1 new) (λ p. not (c == p.1))
    (λ p e. ap (λ k. is_open k new) (sym (eqb-true c p.1 (not-false (c == p.1) e))) ∙ shut)
    (λ p e. others p.1 (not-true (c == p.1) e)) pairs

-- whether one without pairs is open doesn't matter
pub of_open_unpaired : (c : ℕ) (old new : List MachineEvent) (pairs : List Pair) → without c pairs ≡ pairs → OthersOpen c old new
    → of_open new pairs ≡ of_open old pairs
of_open_unpaired c old new pairs none others =
    ap (of_open new) (sym none)
    ∙ filter_among (λ (p : Pair). is_open p.1 old) (λ p. is_open p.1 new) (λ p. not (c == p.1)) (λ p e. others p.1 (not-true (c == p.1) e)) pairs
    ∙ ap (of_open old) none

-- ---- registries

pub lists_agree : (a b : Lists) → a.groups ≡ b.groups → a.users ≡ b.users → a ≡ b
lists_agree a b e f = ap (λ (g : List Pair). let l : Lists = record { groups = g; users = a.users } in l) e
    ∙ ap (λ (u : List Pair). let l : Lists = record { groups = b.groups; users = u } in l) f

-- nobody joined or left, and nobody's end was closed
pub registry_agrees : (old new : List MachineEvent) → joined new ≡ joined old → user_pairs new ≡ user_pairs old → ((k : ℕ) → is_open k new ≡ is_open k old)
    → registry new ≡ registry old
registry_agrees old new groups users same = lists_agree (registry new) (registry old)
    (ap (of_open new) groups ∙ of_open_agrees old new (joined old) same)
    (ap (of_open new) users ∙ of_open_agrees old new (user_pairs old) same)

-- nobody joined or left, and this connection closed
pub registry_closed : (c : ℕ) (old new : List MachineEvent) → joined new ≡ joined old → user_pairs new ≡ user_pairs old
    → is_open c new ≡ false → OthersOpen c old new → registry new ≡ gone (registry old) c
registry_closed c old new groups users shut others = lists_agree (registry new) (gone (registry old) c)
    (ap (of_open new) groups ∙ of_open_closed c old new (joined old) shut others)
    (ap (of_open new) users ∙ of_open_closed c old new (user_pairs old) shut others)
