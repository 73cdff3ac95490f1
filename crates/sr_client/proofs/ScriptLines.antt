-- The lines of a client's script: each asks for one thing at most, which is a peer's but for two.
use Rattle.std.proofs.Common.{◌≡◌, ℕ, inl, inr, List, [], ◌∷◌, ◌++◌, get_or, Option, Some, None, refl, sym, ◌∙◌, ap, subst, arith}
use Rattle.std.specs.Prelude.{IfSome, IfNone}
use Rattle.hd_facts.specs.Unique.{IsTheOne}
use Rattle.hd_calls.specs.declared.vocabulary.CallKind.{CallKind}
use Rattle.hd_calls.specs.declared.vocabulary.CallKind.TheVariants as kind
use Rattle.hd_delivery.specs.declared.vocabulary.Side.TheVariants.{Client}
use Rattle.hd_client.specs.declared.order.Order.{Order}
use Rattle.hd_client.specs.declared.order.Order.TheVariants.{Call, Item, Done, Cancel, Wait, Lose}
use Rattle.sr_script.specs.declared.action.Action.{Action}
use Rattle.sr_script.specs.declared.action.Action.TheVariants as action
use Rattle.sr_script.specs.Script.{IsCallWord, IsPassedOver}
use Rattle.sr_script.specs.Asking.{OfPeer}
use Rattle.sr_client.specs.Grammar.{Asks}
use Rattle.sr_client.specs.Reading.{order_in}

-- ---- first letters

abbrev first : List ℕ → ℕ
first line = get_or line 0 0

-- what is so of the first letter of each word that calls is so of the first letter of a line that calls
call_first : (P : ℕ → Type 0) → P 99 → P 117 → P 115 → P 110 → (line word rest : List ℕ) (k : CallKind) (uploads : ℕ) → line ≡ word ++ 32 ∷ rest
    → IsCallWord word k uploads → P (first line)
call_first P c u s n line word rest kind.Call uploads e (inl is) = subst P (sym (ap first (e ∙ ap (λ (w : List ℕ). w ++ 32 ∷ rest) is.0))) c
call_first P c u s n line word rest kind.Call uploads e (inr is) = subst P (sym (ap first (e ∙ ap (λ (w : List ℕ). w ++ 32 ∷ rest) is.0))) u
call_first P c u s n line word rest kind.Stream uploads e is = subst P (sym (ap first (e ∙ ap (λ (w : List ℕ). w ++ 32 ∷ rest) is.0))) s
call_first P c u s n line word rest kind.Notify uploads e is = subst P (sym (ap first (e ∙ ap (λ (w : List ℕ). w ++ 32 ∷ rest) is.0))) n

-- so of a line that asks
asked_first : (P : ℕ → Type 0) → P 99 → P 117 → P 115 → P 110 → P 105 → P 100 → P 119 → P 108 → (line : List ℕ) (order : Order) → Asks line order → P (first line)
asked_first P c u s n i d w l line (Call kind target arguments uploads) is = call_first P c u s n line is.word is.rest kind uploads is.words_are is.called
asked_first P c u s n i d w l line (Item call value) is = subst P (sym (ap first is.1.0)) i
asked_first P c u s n i d w l line (Done call) is = subst P (sym (ap first is.1)) d
asked_first P c u s n i d w l line (Cancel call) is = subst P (sym (ap first is.1)) c
asked_first P c u s n i d w l line Wait is = subst P (sym (ap first is)) w
asked_first P c u s n i d w l line Lose is = subst P (sym (ap first is)) l

-- a line that asks isn't passed over
pub not_passed : (line : List ℕ) (order : Order) → Asks line order → IsPassedOver line → ⊥
not_passed line order asks (inl empty) =
    asked_first (λ b. b ≡ 0 → ⊥) (λ e. omega (arith, e)) (λ e. omega (arith, e)) (λ e. omega (arith, e)) (λ e. omega (arith, e))
    (λ e. omega (arith, e)) (λ e. omega (arith, e)) (λ e. omega (arith, e)) (λ e. omega (arith, e)) line order asks (ap first empty)
not_passed line order asks (inr comment) =
    asked_first (λ b. b ≡ 35 → ⊥) (λ e. omega (arith, e)) (λ e. omega (arith, e)) (λ e. omega (arith, e)) (λ e. omega (arith, e))
    (λ e. omega (arith, e)) (λ e. omega (arith, e)) (λ e. omega (arith, e)) (λ e. omega (arith, e)) line order asks (ap first comment.1)

-- ---- the two words of its own

pub the_wait : (line : List ℕ) → line ≡ 119 ∷ 97 ∷ 105 ∷ 116 ∷ [] → IsTheOne (Asks line) Wait
the_wait line e = record { holds = e; only = only } where
  only : (other : Order) → Asks line other → other ≡ Wait
  only (Call kind target arguments uploads) is =
      absurd (call_first (λ b. b ≡ 119 → ⊥) (λ x. omega (arith, x)) (λ x. omega (arith, x)) (λ x. omega (arith, x)) (λ x. omega (arith, x))
      line is.word is.rest kind uploads is.words_are is.called (ap first e))
  only (Item call value) is = absurd (let h : 119 ≡ 105 = ap first (sym e ∙ is.1.0) in omega arith)
  only (Done call) is = absurd (let h : 119 ≡ 100 = ap first (sym e ∙ is.1) in omega arith)
  only (Cancel call) is = absurd (let h : 119 ≡ 99 = ap first (sym e ∙ is.1) in omega arith)
  only Wait is = refl
  only Lose is = absurd (let h : 119 ≡ 108 = ap first (sym e ∙ is) in omega arith)

pub the_lose : (line : List ℕ) → line ≡ 108 ∷ 111 ∷ 115 ∷ 101 ∷ [] → IsTheOne (Asks line) Lose
the_lose line e = record { holds = e; only = only } where
  only : (other : Order) → Asks line other → other ≡ Lose
  only (Call kind target arguments uploads) is =
      absurd (call_first (λ b. b ≡ 108 → ⊥) (λ x. omega (arith, x)) (λ x. omega (arith, x)) (λ x. omega (arith, x)) (λ x. omega (arith, x))
      line is.word is.rest kind uploads is.words_are is.called (ap first e))
  only (Item call value) is = absurd (let h : 108 ≡ 105 = ap first (sym e ∙ is.1.0) in omega arith)
  only (Done call) is = absurd (let h : 108 ≡ 100 = ap first (sym e ∙ is.1) in omega arith)
  only (Cancel call) is = absurd (let h : 108 ≡ 99 = ap first (sym e ∙ is.1) in omega arith)
  only Wait is = absurd (let h : 108 ≡ 119 = ap first (sym e ∙ is) in omega arith)
  only Lose is = refl

-- ---- a peer's lines

-- the peer's action that is this order, if it is a peer's
abbrev action_of : Order → Action
action_of (Call kind target arguments uploads) = action.Call Client (record { kind = kind; uploads = uploads; target = target; arguments = arguments })
action_of (Item call value) = action.Item Client call value
action_of (Done call) = action.Done Client call
action_of (Cancel call) = action.Cancel Client call
action_of Wait = action.Open
action_of Lose = action.Open

-- a line without the two words asks for a peer's action
record IsOfPeer (line : List ℕ) (order : Order) : Type 0 where
  pub asks : OfPeer Client line (action_of order)
  pub back : order_in (action_of order) ≡ Some order

of_peer : (line : List ℕ) (order : Order) → (line ≡ 119 ∷ 97 ∷ 105 ∷ 116 ∷ [] → ⊥) → (line ≡ 108 ∷ 111 ∷ 115 ∷ 101 ∷ [] → ⊥) → Asks line order
    → IsOfPeer line order
of_peer line (Call kind target arguments uploads) no_wait no_lose is = record { asks = (refl, is); back = refl }
of_peer line (Item call value) no_wait no_lose is = record { asks = (refl, is); back = refl }
of_peer line (Done call) no_wait no_lose is = record { asks = (refl, is); back = refl }
of_peer line (Cancel call) no_wait no_lose is = record { asks = (refl, is); back = refl }
of_peer line Wait no_wait no_lose is = absurd (no_wait is)
of_peer line Lose no_wait no_lose is = absurd (no_lose is)

same_order : (a b : Order) → ◌≡◌ {A = Option Order} (Some a) (Some b) → a ≡ b
same_order a b e = cc

no_order : (a : Order) → ◌≡◌ {A = Option Order} (Some a) None → ⊥
no_order a e = cc

-- a peer's action that is an order is asked for as one
asks_of : (line : List ℕ) (a : Action) (order : Order) → OfPeer Client line a → order_in a ≡ Some order → Asks line order
asks_of line (action.Call s a) order is e = subst (λ x. Asks line x) (same_order (Call a.kind a.target a.arguments a.uploads) order e) is.1
asks_of line (action.Item s call value) order is e = subst (λ x. Asks line x) (same_order (Item call value) order e) is.1
asks_of line (action.Done s call) order is e = subst (λ x. Asks line x) (same_order (Done call) order e) is.1
asks_of line (action.Cancel s call) order is e = subst (λ x. Asks line x) (same_order (Cancel call) order e) is.1
asks_of line (action.Round s) order is e = absurd (no_order order (sym e))
asks_of line _ order is e = absurd is

module _ (line : List ℕ) (a : Action) (no_wait : line ≡ 119 ∷ 97 ∷ 105 ∷ 116 ∷ [] → ⊥) (no_lose : line ≡ 108 ∷ 111 ∷ 115 ∷ 101 ∷ [] → ⊥)
    (one : IsTheOne (OfPeer Client line) a) where
  is_order : (order : Order) → Asks line order → order_in a ≡ Some order
  is_order order asks = let is = of_peer line order no_wait no_lose asks in ap order_in (sym (one.only (action_of order) is.asks)) ∙ is.back

  pub the_order : (r : Option Order) → r ≡ order_in a → IfSome r (λ order. IsTheOne (Asks line) order)
  the_order None e = tt
  the_order (Some order) e = record {
    holds = asks_of line a order one.holds (sym e);
    only = λ other asks. same_order other order (sym (is_order other asks) ∙ sym e);
  }

  pub none_asked : (r : Option Order) → r ≡ order_in a → IfNone r ((order : Order) → Asks line order → ⊥)
  none_asked None e = λ order asks. no_order order (sym (is_order order asks) ∙ sym e)
  none_asked (Some order) e = tt

-- a line for no action of a peer asks for nothing
pub no_peer : (line : List ℕ) → (line ≡ 119 ∷ 97 ∷ 105 ∷ 116 ∷ [] → ⊥) → (line ≡ 108 ∷ 111 ∷ 115 ∷ 101 ∷ [] → ⊥) → ((a : Action) → OfPeer Client line a → ⊥)
    → (order : Order) → Asks line order → ⊥
no_peer line no_wait no_lose none order asks = none (action_of order) (of_peer line order no_wait no_lose asks).asks
