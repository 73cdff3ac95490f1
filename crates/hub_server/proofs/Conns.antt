-- Numbers that rise, and which connections are there by a machine.
use Rattle.std.proofs.Common.{◌≡◌, ℕ, zero, suc, ◌<◌, ◌≤◌, Bool, true, false, not, List, [], ◌∷◌, ◌++◌, filter, Option, Some, None, is_some, refl}
use Rattle.std.proofs.Common.{sym, ap, subst, ◌∙◌, arith, if◌then◌else◌}
use Rattle.std.specs.Prelude.{◌==◌, ◌&&◌, ◌||◌, nat_le}
use Rattle.std.proofs.lemmas.Bool.{eq-eqb, eqb-true, leb-true, leb-false}
use Rattle.std.proofs.lemmas.List.{append-nil}
use Rattle.std.proofs.lemmas.List.Elements.{filter-append}
use Rattle.hd_calls.specs.Hubs.{Hub}
use Rattle.hd_calls.specs.Peers.{PeerEvent, Settings}
use Rattle.hd_server.specs.Lives.{numbers_to}
use Rattle.hd_server.specs.Machine.{MachineEvent, greatest, has_gone, is_there, moves, settings_of}
use Rattle.hp_peer.specs.declared.peer.Peer.{Peer}
use Rattle.hub_machine.specs.declared.machine.Machine.{Machine}
use Rattle.hub_machine.specs.declared.idle_set.IdleClock.{IdleClock}
use Rattle.hub_machine.specs.declared.idle_set.IdlePeer.{IdlePeer}
use Rattle.hub_machine.specs.Laws.{ConnectionsAreNumbered}
use Rattle.hub_machine.specs.Machines.{IsKeptAs, StandsMachine, idle_peer_at, peer_at, settings_there}
use Rattle.hub_machine.specs.Rounds.{AreRising}
use Rattle.hub_machine.specs.Spreads.{is_listed}
pub use Rattle.hub_server.proofs.Listed.{first_is_listed, later_listed, listed_filter, listed_last}
use Rattle.hub_server.proofs.Rising.{AreLeft, all_left, fewer_left, none_between}
pub use Rattle.hub_server.proofs.Rising.{rising_rest}

-- ---- numbers that rise

-- one that is no less than any of them comes last
rising_push : (xs : List ℕ) (n : ℕ) → AreRising xs → ((k : ℕ) → is_listed k xs ≡ true → k < n) → AreRising (xs ++ n ∷ [])
rising_push [] n r below = tt
rising_push (x ∷ []) n r below = (below x (first_is_listed x []), tt)
rising_push (x ∷ y ∷ xs) n r below = (r.0, rising_push (y ∷ xs) n r.1 (λ k e. below k (later_listed k x (y ∷ xs) e)))

pub to_within : (n k : ℕ) → is_listed k (numbers_to n) ≡ true → k ≤ n
to_within zero k e = absurd (let no : false ≡ true = e in cc)
to_within (suc n) k e =
    by (is_listed k (numbers_to n)) refl (sym (listed_last k (suc n) (numbers_to n)) ∙ e) (to_within n k)
  where
    by : (b : Bool) → is_listed k (numbers_to n) ≡ b → (b || (k == suc n)) ≡ true → (is_listed k (numbers_to n) ≡ true → k ≤ n)
        → k ≤ suc n
    by true f g before = let l = before f in omega (arith, l)
    by false f g before = let l = eqb-true k (suc n) g in omega (arith, l)

pub in_numbers : (n k : ℕ) → 0 < k → k ≤ n → is_listed k (numbers_to n) ≡ true
in_numbers zero k over l = absurd (omega (arith, over, l))
in_numbers (suc n) k over l = listed_last k (suc n) (numbers_to n) ∙ by (nat_le k n) refl (in_numbers n k over)
  where
    left : (a b : Bool) → a ≡ true → (a || b) ≡ true
    left a b e = ap (λ (x : Bool). x || b) e

    right : (a b : Bool) → b ≡ true → (a || b) ≡ true
    right true b e = refl
    right false b e = e

    by : (b : Bool) → nat_le k n ≡ b → (k ≤ n → is_listed k (numbers_to n) ≡ true) → (is_listed k (numbers_to n) || (k == suc n)) ≡ true
    by true e before = left _ _ (before (leb-true k n e))
    by false e before =
        let over_n = leb-false k n e in
        let is : k ≡ suc n = omega (arith, over_n, l) in
        right (is_listed k (numbers_to n)) (k == suc n) (eq-eqb k (suc n) is)

-- those up to a number that pass a test rise
pub rising_to : (p : ℕ → Bool) (n : ℕ) → AreRising (filter p (numbers_to n))
rising_to p zero = tt
rising_to p (suc n) = subst AreRising (sym (filter-append p (numbers_to n) (suc n ∷ []))) (by (p (suc n)) (rising_to p n))
  where
    before : (k : ℕ) (b : Bool) → (b && is_listed k (numbers_to n)) ≡ true → k < suc n
    before k true e = let l = to_within n k e in omega (arith, l)
    before k false e = absurd (let no : false ≡ true = e in cc)

    by : (b : Bool) → AreRising (filter p (numbers_to n)) → AreRising (filter p (numbers_to n) ++ (if b then suc n ∷ [] else []))
    by true r = rising_push (filter p (numbers_to n)) (suc n) r (λ k e. before k (p k) (sym (listed_filter p k (numbers_to n)) ∙ e))
    by false r = subst AreRising (sym (append-nil (filter p (numbers_to n)))) r

-- none that is listed comes before the first
none_less : (x y : ℕ) (ys : List ℕ) → AreRising (y ∷ ys) → is_listed x (y ∷ ys) ≡ true → y ≤ x
none_less x y ys r e = by (nat_le y x) refl
  where
    by : (b : Bool) → nat_le y x ≡ b → y ≤ x
    by true f = leb-true y x f
    by false f =
        absurd (let none : is_listed x (y ∷ ys) ≡ false = none_between (y ∷ ys) 0 y x ys (all_left (y ∷ ys) r) (omega arith) (leb-false y x f) in cc)

-- two lists that rise and list the same are the same
pub same_rising : (xs ys : List ℕ) → AreRising xs → AreRising ys → ((c : ℕ) → is_listed c xs ≡ is_listed c ys) → xs ≡ ys
same_rising [] [] r s e = refl
same_rising [] (y ∷ ys) r s e = absurd (let no : false ≡ true = e y ∙ first_is_listed y ys in cc)
same_rising (x ∷ xs) [] r s e = absurd (let no : false ≡ true = sym (e x) ∙ first_is_listed x xs in cc)
same_rising (x ∷ xs) (y ∷ ys) r s e =
    ap (λ c. c ∷ xs) is ∙ ap (λ cs. y ∷ cs) (same_rising xs ys left.rise right.rise (λ c. by c (nat_le c x) refl))
  where
    left : AreLeft (x ∷ xs) (suc x) xs
    left = fewer_left (x ∷ xs) 0 x xs (all_left (x ∷ xs) r)

    right : AreLeft (y ∷ ys) (suc y) ys
    right = fewer_left (y ∷ ys) 0 y ys (all_left (y ∷ ys) s)

    is : x ≡ y
    is =
        let over = none_less x y ys s (sym (e x) ∙ first_is_listed x xs) in
        let under = none_less y x xs r (e y ∙ first_is_listed y ys) in
        omega (arith, over, under)

    by : (c : ℕ) (b : Bool) → nat_le c x ≡ b → is_listed c xs ≡ is_listed c ys
    by c true f =
        let l = leb-true c x f in
        left.none_before c (omega (arith, l)) ∙ sym (right.none_before c (omega (arith, l, is)))
    by c false f =
        let l = leb-false c x f in
        sym (left.later c (omega (arith, l))) ∙ e c ∙ right.later c (omega (arith, l, is))

-- of numbers that rise, none after the first is the first
pub not_first : (c k : ℕ) (cs : List ℕ) → AreRising (c ∷ cs) → is_listed k cs ≡ true → (k == c) ≡ false
not_first c k cs rise e = by (k == c) refl
  where
    left : AreLeft (c ∷ cs) (suc c) cs
    left = fewer_left (c ∷ cs) 0 c cs (all_left (c ∷ cs) rise)

    by : (b : Bool) → (k == c) ≡ b → b ≡ false
    by true f =
        absurd (let same = eqb-true k c f in let none : is_listed k cs ≡ false = left.none_before k (omega (arith, same)) in
        let no : true ≡ false = sym e ∙ none in cc)
    by false f = refl

-- ---- connections

-- one that is there is among the numbers
pub there_within : ConnectionsAreNumbered → (w : List MachineEvent) → settings_of 0 w ≡ None → (c : ℕ)
    → (is_there c w && is_listed c (numbers_to (greatest w))) ≡ is_there c w
there_within law w none c = by (settings_of c w) refl (not (has_gone c w))
  where
    by : (o : Option Settings) → settings_of c w ≡ o → (b : Bool)
        → ((is_some o && b) && is_listed c (numbers_to (greatest w))) ≡ (is_some o && b)
    by None e b = refl
    by (Some t) e false = refl
    by (Some t) e true = let is = law c t w none e in in_numbers (greatest w) c is.0 is.1

-- ---- who is there by a machine

pub there_if : (gone : Bool) (t : Option Settings) → (is_some t && not gone) ≡ is_some (if gone then None else t)
there_if true None = refl
there_if true (Some t) = refl
there_if false None = refl
there_if false (Some t) = refl

kept_here : {H Job : Type 0} (hub : Hub Job) (clock : IdleClock) (idle_peer : Option IdlePeer) (t : Option Settings) (h : List PeerEvent) (p : Option (Peer H Job))
    → IsKeptAs {H = H} hub clock idle_peer t h p → is_some t ≡ is_some p
kept_here hub clock None None h None is = refl
kept_here hub clock None None h (Some p) is = absurd is
kept_here hub clock None (Some t) h None is = absurd is
kept_here hub clock None (Some t) h (Some p) is = refl
kept_here hub clock (Some idle_peer) None h p is = absurd is
kept_here hub clock (Some idle_peer) (Some t) h None is = absurd is
kept_here hub clock (Some idle_peer) (Some t) h (Some p) is = refl

-- whoever is there has a peer, and no other
pub here_by_peer : {H Job : Type 0} (hub : Hub Job) (m : Machine H Job) (w : List MachineEvent) → StandsMachine {H = H} hub m w → (c : ℕ)
    → is_there c w ≡ is_some (peer_at m c)
here_by_peer {H} {Job} hub m w s c =
    there_if (has_gone c w) (settings_of c w)
    ∙ kept_here {H = H} {Job = Job} hub m.idle_set.clock (idle_peer_at m c) (settings_there c w) (moves c w) (peer_at m c) (s.at c)
