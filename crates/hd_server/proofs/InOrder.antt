-- In a round connections have their turns in the order of their numbers.
use Rattle.std.proofs.Common.{refl, subst, sym, ◌≡◌, ◌≤◌, ℕ, Bool, true, false, List, [], ◌∷◌, ◌++◌, Option, Some}
use Rattle.std.specs.Prelude.{find, nat_le, ◌&&◌, is_some, if◌then◌else◌}
use Rattle.std.proofs.lemmas.Bool.{and_parts, leb-true}
use Rattle.hd_calls.specs.Peers.{PeerEvent, Calls, Refuses}
use Rattle.hd_calls.specs.Rules.{settles}
use Rattle.hd_server.specs.Machine.{MachineEvent, Does, Rounds, Owed, NothingOwed, OwesDeed, OwesCall, owed, last_turn, turn_at, connections, MayFollow, GoesOn}
use Rattle.hd_server.specs.Laws.{ran, NeverRise, ConnectionsInOrder}

module _ {A : Type 0} (p : A → Bool) where
  tested : (b : Bool) (y : A) (rest : Option A) (x : A) → p y ≡ b → (if b then Some y else rest) ≡ Some x → (rest ≡ Some x → p x ≡ true) → p x ≡ true
  tested true y rest x e f k = let same : y ≡ x = cc in subst (λ z. p z ≡ true) same e
  tested false y rest x e f k = k f

  -- what is found passes
  find_passes : (xs : List A) (x : A) → find p xs ≡ Some x → p x ≡ true
  find_passes [] x e = absurd (cc)
  find_passes (y ∷ ys) x e = tested (p y) y (find p ys) x refl e (find_passes ys x)

-- the first of a list, or 0
abbrev first_or_0 : List ℕ → ℕ
first_or_0 [] = 0
first_or_0 (c ∷ cs) = c

put_first : (c : ℕ) (cs : List ℕ) → first_or_0 cs ≤ c → NeverRise cs → NeverRise (c ∷ cs)
put_first c [] e o = tt
put_first c (d ∷ cs) e o = (e, o)

module _ (now : ℕ) (h : List MachineEvent) where
  -- what holds after each happening
  abbrev Known : List MachineEvent → Type 0
  Known xs = NeverRise (ran xs) × (last_turn (xs ++ Rounds now ∷ h) ≡ first_or_0 (ran xs))

  -- a move that settles an ask is no turn
  settling : (c j : ℕ) (m : PeerEvent) (xs : List MachineEvent) → settles m ≡ Some j → Known xs → Known (Does c m ∷ xs)
  settling c j (Calls a n call) xs e k = k
  settling c j (Refuses i) xs e k = k
  settling c j m xs e k = absurd (cc)

  follows : (o : Owed) (xs : List MachineEvent) (x : MachineEvent) → MayFollow now o (xs ++ Rounds now ∷ h) x → Known xs → Known (x ∷ xs)
  follows (OwesDeed c j d) xs x (asked, may, e) k = subst (λ y. Known (y ∷ xs)) (sym e) k
  follows (OwesCall c j) xs x (m, settled, e) k = subst (λ y. Known (y ∷ xs)) (sym e) (settling c j m xs settled k)
  follows NothingOwed xs x (c, j, call, since, turn, what, next, at, told, e) k =
      let passes : (nat_le (last_turn (xs ++ Rounds now ∷ h)) c && is_some (turn_at c (xs ++ Rounds now ∷ h))) ≡ true
      = find_passes (λ c. nat_le (last_turn (xs ++ Rounds now ∷ h)) c && is_some (turn_at c (xs ++ Rounds now ∷ h))) (connections (xs ++ Rounds now ∷ h)) c next in
      let later : last_turn (xs ++ Rounds now ∷ h) ≤ c = leb-true _ _ (and_parts _ _ passes).0 in
      subst (λ y. Known (y ∷ xs)) (sym e) (put_first c (ran xs) (subst (λ n. n ≤ c) k.1 later) k.0, refl)

  all_known : (xs : List MachineEvent) → GoesOn now xs (Rounds now ∷ h) → Known xs
  all_known [] e = (tt, refl)
  all_known (x ∷ xs) e = follows (owed (xs ++ Rounds now ∷ h)) xs x e.1 (all_known xs e.0)

pub connections_in_order : ConnectionsInOrder
connections_in_order now xs h round = (all_known now h xs round.each).0
