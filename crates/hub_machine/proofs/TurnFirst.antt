-- Which connection has the next turn of a round: the first that is there and has one.
use Rattle.std.proofs.Common.{◌≡◌, ◌≤◌, ◌<◌, ℕ, zero, suc, Bool, true, false, not, cond, List, [], ◌∷◌, filter, Option, Some, None, refl, sym, ap, ◌∙◌, arith, if◌then◌else◌}
use Rattle.std.specs.Prelude.{◌==◌, ◌&&◌, find, is_some, max, nat_le}
use Rattle.std.specs.Option.{option_or}
use Rattle.std.proofs.lemmas.Bool.{and_from, and_left, and_right, eqb-true, le-leb, leb-false, leb-true}
use Rattle.std.proofs.lemmas.List.Folds.{find-append}
use Rattle.hd_calls.specs.Peers.{Settings}
use Rattle.hd_server.specs.Lives.{numbers_to}
use Rattle.hd_server.specs.Machine.{MachineEvent, Connects, greatest, has_gone, is_there, last_turn, next_turn, settings_of, turn_at}
use Rattle.hub_machine.specs.Machines.{settings_there}
use Rattle.hub_machine.specs.Rounds.{has_turn}
use Rattle.hub_machine.proofs.Doing.{there_is}

-- ---- the first of the numbers from 1

module _ (p q : ℕ → Bool) where
  -- what is found among those that pass is what passes both
  pub find_both : (xs : List ℕ) → find p (filter q xs) ≡ find (λ k. q k && p k) xs
  find_both [] = refl
  find_both (x ∷ xs) = by (q x) (find_both xs) where
    by : (b : Bool) → find p (filter q xs) ≡ find (λ k. q k && p k) xs
        → find p (cond b (x ∷ filter q xs) (filter q xs)) ≡ cond (b && p x) (Some x) (find (λ k. q k && p k) xs)
    by true e = ap (λ o. cond (p x) (Some x) o) e
    by false e = e

module _ (p : ℕ → Bool) where
  -- the last of them comes after those before
  pub find_last : (n : ℕ) → find p (numbers_to (suc n)) ≡ option_or (find p (numbers_to n)) (cond (p (suc n)) (Some (suc n)) None)
  find_last n = find-append p (numbers_to n) (suc n ∷ [])

  -- the test holds of none of them
  pub none_to : (n : ℕ) → ((k : ℕ) → k ≤ n → p k ≡ false) → find p (numbers_to n) ≡ None
  none_to zero none = refl
  none_to (suc n) none =
      find_last n ∙ ap (λ o. option_or o (cond (p (suc n)) (Some (suc n)) None)) (none_to n (λ k e. none k (omega (arith, e))))
      ∙ ap (λ b. cond b (Some (suc n)) None) (none (suc n) (omega arith))

  -- the first of which the test holds
  pub first_to : (n c : ℕ) → 0 < c → c ≤ n → p c ≡ true → ((k : ℕ) → k < c → p k ≡ false) → find p (numbers_to n) ≡ Some c
  first_to zero c from to holds before = absurd (omega (arith, from, to))
  first_to (suc n) c from to holds before = by (nat_le c n) refl (first_to n c from)
    where
      by : (b : Bool) → nat_le c n ≡ b → (c ≤ n → p c ≡ true → ((k : ℕ) → k < c → p k ≡ false) → find p (numbers_to n) ≡ Some c)
          → find p (numbers_to (suc n)) ≡ Some c
      by true e further =
          find_last n ∙ ap (λ o. option_or o (cond (p (suc n)) (Some (suc n)) None)) (further (leb-true c n e) holds before)
      by false e further =
          let over = leb-false c n e in
          let is : c ≡ suc n = omega (arith, over, to) in
          find_last n
          ∙ ap (λ o. option_or o (cond (p (suc n)) (Some (suc n)) None)) (none_to n (λ k e. before k (omega (arith, e, over))))
          ∙ ap (λ b. cond b (Some (suc n)) None) (sym (ap p is) ∙ holds)
          ∙ ap (λ k. Some k) (sym is)

-- ---- connections

-- a connection that was begun is no greater than the greatest
pub within : (c : ℕ) (t : Settings) (w : List MachineEvent) → settings_of c w ≡ Some t → c ≤ greatest w
within c t [] e = absurd (let z : ◌≡◌ {A = Option Settings} None (Some t) = e in cc)
within c t (Connects k own user ∷ w) e = by (c == k) refl e (within c t w)
  where
    by : (b : Bool) → (c == k) ≡ b → (if b then Some own else settings_of c w) ≡ Some t → (settings_of c w ≡ Some t → c ≤ greatest w)
        → c ≤ max k (greatest w)
    by true f e before = let same = eqb-true c k f in omega (arith, same)
    by false f e before = let h = before e in omega (arith, h)
within c t (x ∷ w) e = within c t w e

-- how a connection that is there was begun, and that it is there
pub record IsHere (c : ℕ) (t : Settings) (w : List MachineEvent) : Type 0 where
  pub begun : settings_of c w ≡ Some t
  pub here : is_there c w ≡ true

pub here_of : (c : ℕ) (t : Settings) (w : List MachineEvent) → settings_there c w ≡ Some t → IsHere c t w
here_of c t w e = let is = there_is c w t e in record { begun = is.1; here = and_from _ _ (ap is_some is.1) (ap not is.0) }

-- one that isn't there has no turn
pub none_gone : (c : ℕ) (w : List MachineEvent) → settings_there c w ≡ None → has_turn c w ≡ false
none_gone c w e = and_right (nat_le (last_turn w) c) _ (and_left (is_there c w) _ (by (has_gone c w) refl e)) where
  by : (b : Bool) → has_gone c w ≡ b → (if b then None else settings_of c w) ≡ None → is_there c w ≡ false
  by true f e = and_right (is_some (settings_of c w)) _ (ap not f)
  by false f e = and_left _ (not (has_gone c w)) (ap is_some e)

-- they are numbered from 1
pub from_one : (c : ℕ) (t : Settings) (w : List MachineEvent) → settings_of 0 w ≡ None → settings_of c w ≡ Some t → 0 < c
from_one zero t w none e = absurd (let z : ◌≡◌ {A = Option Settings} None (Some t) = sym none ∙ e in cc)
from_one (suc c) t w none e = omega arith

-- tests in another order
swap : (a b d : Bool) → (a && (b && d)) ≡ false → (b && (a && d)) ≡ false
swap true true d e = e
swap true false d e = refl
swap false true d e = refl
swap false false d e = refl

-- the first that has a turn has the next one
pub next_is : (c : ℕ) (t : Settings) (w : List MachineEvent) → settings_of 0 w ≡ None → IsHere c t w → last_turn w ≤ c
    → is_some (turn_at c w) ≡ true → ((k : ℕ) → k < c → has_turn k w ≡ false) → next_turn w ≡ Some c
next_is c t w none here last turn before =
    find_both (λ k. nat_le (last_turn w) k && is_some (turn_at k w)) (λ k. is_there k w) (numbers_to (greatest w))
    ∙ first_to (λ k. is_there k w && (nat_le (last_turn w) k && is_some (turn_at k w))) (greatest w) c
    (from_one c t w none here.begun) (within c t w here.begun)
    (and_from _ _ here.here (and_from _ _ (le-leb (last_turn w) c last) turn))
    (λ k e. swap (nat_le (last_turn w) k) (is_there k w) (is_some (turn_at k w)) (before k e))
