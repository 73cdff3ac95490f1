-- A call ends once, since its ledger is legal.
use Rattle.std.proofs.Common.{refl, subst, sym, ◌≡◌, ◌≤◌, ℕ, suc, Bool, true, false, List, [], ◌∷◌, ◌++◌, arith, if◌then◌else◌}
use Rattle.std.specs.Prelude.{◌+◌, ◌==◌}
use Rattle.hd_calls.specs.Hubs.{Way, Item, End}
use Rattle.hd_calls.specs.Peers.{Begins, InUse, TooMany, Brings, Feeds, Flood, Marks, Nothing, PeerEvent, Plain, Calls, Uploads, Cancels, Reads, Handles, Runs, Answers, Refuses, Loses, Rounds}
use Rattle.hd_calls.specs.Ledgers.{CallHappening, Called, Got, Uploaded, Stopped, Gone, ledger, IsLegalRest, IsLegalLedger, PeersKeep}
use Rattle.hd_client.specs.Events.{moves}
use Rattle.hd_client.specs.Laws.{endings, CallsEndOnce}
use Rattle.hd_client.proofs.Sides.{clients_are_peers}

-- how many endings a ledger has
abbrev ends : List CallHappening → ℕ
ends [] = 0
ends (Got n (End e) ∷ xs) = suc (ends xs)
ends (Gone n ∷ xs) = suc (ends xs)
ends (_ ∷ xs) = ends xs

rest_once : (way : Way) (xs : List CallHappening) → IsLegalRest way xs → ends xs ≤ 1
rest_once way [] l = omega arith
rest_once way (Called n c ∷ xs) l = absurd l
rest_once way (Got n (Item v) ∷ xs) l = rest_once way xs l.1
rest_once way (Got n (End e) ∷ xs) l = subst (λ k. suc (ends k) ≤ 1) (sym l.1) (omega arith)
rest_once way (Uploaded n w a ∷ xs) l = rest_once way xs l
rest_once way (Stopped n ∷ xs) l = rest_once way xs l.1
rest_once way (Gone n ∷ xs) l = subst (λ k. suc (ends k) ≤ 1) (sym l.1) (omega arith)

once : (xs : List CallHappening) → IsLegalLedger xs → ends xs ≤ 1
once [] l = omega arith
once (Called n c ∷ xs) l = rest_once c.way xs l
once (Got n a ∷ xs) l = absurd l
once (Uploaded n w a ∷ xs) l = absurd l
once (Stopped n ∷ xs) l = absurd l
once (Gone n ∷ xs) l = absurd l

-- one more at the end
last : (xs : List CallHappening) (x : CallHappening) → ends (xs ++ x ∷ []) ≡ ends (x ∷ []) + ends xs
last [] (Called n c) = refl
last [] (Got n (Item v)) = refl
last [] (Got n (End e)) = refl
last [] (Uploaded n w a) = refl
last [] (Stopped n) = refl
last [] (Gone n) = refl
last (Called n c ∷ xs) x = last xs x
last (Got n (Item v) ∷ xs) x = last xs x
last (Got n (End e) ∷ xs) x = let i = last xs x in omega arith
last (Uploaded n w a ∷ xs) x = last xs x
last (Stopped n ∷ xs) x = last xs x
last (Gone n ∷ xs) x = let i = last xs x in omega arith

-- by whether the happening is of this number
one : (b : Bool) (xs : List CallHappening) (x : CallHappening) (k : ℕ) → ends (x ∷ []) ≡ 1 → ends xs ≡ k → ends (if b then xs ++ x ∷ [] else xs) ≡ (if b then suc k else k)
one true xs x k z e = let i = last xs x in omega arith
one false xs x k z e = e

none : (b : Bool) (xs : List CallHappening) (x : CallHappening) (k : ℕ) → ends (x ∷ []) ≡ 0 → ends xs ≡ k → ends (if b then xs ++ x ∷ [] else xs) ≡ k
none true xs x k z e = let i = last xs x in omega arith
none false xs x k z e = e

counted : (n : ℕ) (h : List PeerEvent) → ends (ledger n h) ≡ endings n h
counted n [] = refl
counted n (Calls a k c ∷ h) = none (n == k) _ (Called k c) _ refl (counted n h)
counted n (Handles m (Brings k (Item v) floods) ∷ h) = none (n == k) _ (Got k (Item v)) _ refl (counted n h)
counted n (Handles m (Brings k (End e) floods) ∷ h) = one (n == k) _ (Got k (End e)) _ refl (counted n h)
counted n (Handles m (Begins c now floods) ∷ h) = counted n h
counted n (Handles m (InUse c) ∷ h) = counted n h
counted n (Handles m (TooMany c) ∷ h) = counted n h
counted n (Handles m (Feeds j w a) ∷ h) = counted n h
counted n (Handles m Flood ∷ h) = counted n h
counted n (Handles m (Marks j) ∷ h) = counted n h
counted n (Handles m Nothing ∷ h) = counted n h
counted n (Uploads k w a ∷ h) = none (n == k) _ (Uploaded k w a) _ refl (counted n h)
counted n (Cancels k ∷ h) = none (n == k) _ (Stopped k) _ refl (counted n h)
counted n (Loses k ∷ h) = one (n == k) _ (Gone k) _ refl (counted n h)
counted n (Plain s ∷ h) = counted n h
counted n (Reads m ∷ h) = counted n h
counted n (Runs j c since turn what ∷ h) = counted n h
counted n (Answers j i ∷ h) = counted n h
counted n (Refuses j ∷ h) = counted n h
counted n (Rounds ∷ h) = counted n h

module _ {Job : Type 0} (keep : PeersKeep Job) where
  pub calls_end_once : CallsEndOnce Job
  calls_end_once hub s script bs h turns t e n p =
      subst (λ k. k ≤ 1) (counted n (moves h)) (once (ledger n (moves h)) ((keep hub t (moves h) (clients_are_peers hub s script bs h turns t e)).0.of_call n p))
