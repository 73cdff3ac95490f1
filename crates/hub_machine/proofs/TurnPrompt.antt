-- What a job asks for is settled at once: an ask that is neither made nor refused is the latest turn's.
use Rattle.std.proofs.Common.{◌≡◌, ◌⊎◌, inl, inr, ℕ, Bool, true, false, List, [], ◌∷◌, ◌++◌, Option, Some, None, refl, sym, ap, subst, ◌∙◌, if◌then◌else◌}
use Rattle.std.specs.Prelude.{◌==◌, ◌&&◌}
use Rattle.std.proofs.lemmas.Bool.{eqb-true, eq-eqb, or_parts}
use Rattle.hv_value.specs.Tree.{Tree}
use Rattle.hd_delivery.specs.Histories.{first_of, is_this}
use Rattle.hd_calls.specs.declared.vocabulary.Act.{Act}
use Rattle.hd_calls.specs.declared.vocabulary.Act.TheVariants as act
use Rattle.hd_calls.specs.declared.vocabulary.Input.{Input}
use Rattle.hd_calls.specs.declared.vocabulary.Input.TheVariants as input
use Rattle.hd_calls.specs.Hubs.{Invoked, Turn, End}
use Rattle.hd_calls.specs.Peers.{PeerEvent, Calls, Handles, Runs, Answers, Refuses, Brings, acts, ask_refused, asker_of, asks, has_asked, last_of, reply}
use Rattle.hd_calls.specs.Rules.{IsPrompt, asking}

-- the last of a list to which one more was added
pub last_added : {A : Type 0} (xs : List A) (x : A) → last_of (xs ++ x ∷ []) ≡ Some x
last_added [] x = refl
last_added (y ∷ []) x = refl
last_added (y ∷ z ∷ xs) x = last_added (z ∷ xs) x

-- the job's last act asks for this, and what it asks for is neither made nor answered
pub record IsOpen (target : List ℕ) (arguments : List Tree) (j : ℕ) (h : List PeerEvent) : Type 0 where
  pub last : last_of (acts j h) ≡ Some (act.Ask target arguments)
  pub unmade : has_asked j h ≡ false
  pub unanswered : reply j h ≡ None

-- a move that settles nothing comes after no ask
not_asked : (j : ℕ) (h : List PeerEvent) → asking h ≡ Some j → (asking h ≡ None) ⊎ (asking h ≡ None) → ⊥
not_asked j h e (inl f) = cc
not_asked j h e (inr f) = cc

-- a move that settles another's ask doesn't come after this one's
not_of : (j : ℕ) (h : List PeerEvent) (o : Option ℕ) → asking h ≡ Some j → is_this j o ≡ false → (asking h ≡ None) ⊎ (asking h ≡ o) → ⊥
not_of j h o e f (inl g) = cc
not_of j h o e f (inr g) =
    let same : is_this j o ≡ true = ap (λ x. is_this j x) (sym g ∙ e) ∙ eq-eqb j j refl in
    let h : false ≡ true = sym f ∙ same in cc

-- of two answers the first isn't there if none is
none_before : (b : Bool) (o : Option Input) (x : Input) → (if b then first_of o (Some x) else o) ≡ None → o ≡ None
none_before true None x e = refl
none_before true (Some y) x e = absurd (cc)
none_before false o x e = e

module _ (target : List ℕ) (arguments : List Tree) (j : ℕ) where
  -- its own turn is the one that asks; after another's nothing is open
  ran : (k : ℕ) (c : Invoked) (since : ℕ) (turn : Turn) (what : Act) (h : List PeerEvent) (b : Bool) → (j == k) ≡ b
      → last_of (if b then acts j h ++ what ∷ [] else acts j h) ≡ Some (act.Ask target arguments) → (if b then false else has_asked j h) ≡ false
      → (if b then None else reply j h) ≡ None → (asking h ≡ None) ⊎ (asking h ≡ None) → (IsOpen target arguments j h → asking h ≡ Some j)
      → asking (Runs k c since turn what ∷ h) ≡ Some j
  ran k c since turn what h true e last unmade unanswered prompt before =
      let same : Some what ≡ Some (act.Ask target arguments) = sym (last_added (acts j h) what) ∙ last in
      let is : what ≡ act.Ask target arguments = cc in
      subst (λ a. asking (Runs k c since turn a ∷ h) ≡ Some j) (sym is) (ap (λ n. Some n) (sym (eqb-true j k e)))
  ran k c since turn what h false e last unmade unanswered prompt before =
      absurd (not_asked j h (before (record { last = last; unmade = unmade; unanswered = unanswered })) prompt)

  -- its ask isn't refused, and another's isn't open
  refused : (k : ℕ) (h : List PeerEvent) (b : Bool) → (j == k) ≡ b → last_of (acts j h) ≡ Some (act.Ask target arguments) → has_asked j h ≡ false
      → (if b then Some (input.Asked ask_refused) else reply j h) ≡ None → (asking h ≡ None) ⊎ (asking h ≡ Some k)
      → (IsOpen target arguments j h → asking h ≡ Some j) → ⊥
  refused k h true e last unmade unanswered prompt before = cc
  refused k h false e last unmade unanswered prompt before =
      not_of j h (Some k) (before (record { last = last; unmade = unmade; unanswered = unanswered })) e prompt

  -- no deed of it is answered
  answered : (k : ℕ) (i : Input) (h : List PeerEvent) (b : Bool) → last_of (acts j h) ≡ Some (act.Ask target arguments) → has_asked j h ≡ false
      → (if b then Some i else reply j h) ≡ None → (asking h ≡ None) ⊎ (asking h ≡ None)
      → (IsOpen target arguments j h → asking h ≡ Some j) → ⊥
  answered k i h true last unmade unanswered prompt before = cc
  answered k i h false last unmade unanswered prompt before =
      not_asked j h (before (record { last = last; unmade = unmade; unanswered = unanswered })) prompt

  -- an ask that is open is the latest turn's
  pub asked_at_once : (h : List PeerEvent) → IsPrompt h → IsOpen target arguments j h → asking h ≡ Some j
  asked_at_once [] prompt x = absurd (let z : ◌≡◌ {A = Option Act} None (Some (act.Ask target arguments)) = x.last in cc)
  asked_at_once (Runs k c since turn what ∷ h) prompt x =
      ran k c since turn what h (j == k) refl x.last x.unmade x.unanswered prompt.1 (asked_at_once h prompt.0)
  asked_at_once (Calls a n c ∷ h) prompt x =
      let parts = or_parts (is_this j a) (has_asked j h) x.unmade in
      absurd (not_of j h a (asked_at_once h prompt.0 (record { last = x.last; unmade = parts.1; unanswered = x.unanswered })) parts.0 prompt.1)
  asked_at_once (Refuses k ∷ h) prompt x =
      absurd (refused k h (j == k) refl x.last x.unmade x.unanswered prompt.1 (asked_at_once h prompt.0))
  asked_at_once (Answers k i ∷ h) prompt x =
      absurd (answered k i h (j == k) x.last x.unmade x.unanswered prompt.1 (asked_at_once h prompt.0))
  asked_at_once (Handles m (Brings n (End e) floods) ∷ h) prompt x =
      let none = none_before (is_this j (asker_of n h) && asks (last_of (acts j h))) (reply j h) (input.Asked e) x.unanswered in
      absurd (not_asked j h (asked_at_once h prompt.0 (record { last = x.last; unmade = x.unmade; unanswered = none })) prompt.1)
  asked_at_once (d ∷ h) prompt x =
      absurd (not_asked j h (asked_at_once h prompt.0 (record { last = x.last; unmade = x.unmade; unanswered = x.unanswered })) prompt.1)
