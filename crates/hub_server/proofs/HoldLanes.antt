-- A connection that goes to another lane.
use Rattle.std.proofs.Common.{◌≡◌, ℕ, ◌==◌, Bool, true, false, not, List, Option, Some, None, refl, sym, ap, subst, ◌∙◌}
use Rattle.std.specs.Ordering.{nat_cmp}
use Rattle.std.specs.BTreeMap.{BTreeMap, get, Updates}
use Rattle.std.proofs.lemmas.Bool.{both_ways, eq-eqb, eqb-true, false_from_ne_true}
use Rattle.std.specs.Cmp.{unsigned_tied}
use Rattle.hd_delivery.specs.Histories.{is_this}
use Rattle.hd_server.specs.Lives.{socket_of}
use Rattle.hd_server.specs.Doings.{ServerEvent, notes, is_full, wants_shut, was_refused}
use Rattle.hub_server.specs.declared.lane.Lane.{Lane}
use Rattle.hub_server.specs.Lanes.{HasLane, IsLane, IsNobodys, is_at, is_taken, settled}
use Rattle.hub_server.proofs.Alike.{Alike, at_alike}
use Rattle.hub_server.proofs.LaneKept.{SameLane, lane_kept}

-- the connection k was on the older lane alone, and is on this one alone now
pub record Goes_over (k at : ℕ) (older : Option ℕ) (g h : List ServerEvent) : Type 0 where
  pub same : (l : ℕ) → (l == at) ≡ false → SameLane l g h
  pub others : (c : ℕ) → (c == k) ≡ false → Alike c g h
  pub was : (l : ℕ) → is_this l older ≡ true → is_at l k h ≡ true
  pub was_only : (l : ℕ) → is_this l older ≡ false → is_at l k h ≡ false
  pub unsocketed : (l : ℕ) → is_this l older ≡ false → is_this l (socket_of k (notes h)) ≡ false
  pub here : is_at at k g ≡ true
  pub here_only : (l : ℕ) → (l == at) ≡ false → is_at l k g ≡ false
  pub socketed : (l : ℕ) → (l == at) ≡ false → is_this l (socket_of k (notes g)) ≡ false

-- this is kept of the lane
pub record IsOf (k at : ℕ) (x : Lane) (g : List ServerEvent) : Type 0 where
  pub conn : x.conn ≡ k
  pub polls : x.polls ≡ not (is_this at (socket_of k (notes g)))
  pub last : x.is_last ≡ wants_shut at g
  pub refused : x.is_refused ≡ was_refused at g
  pub full : x.is_full ≡ is_full at g
  pub taken : is_taken at g ≡ true

-- nothing is kept of the older lane
pub record HasCut (older : Option ℕ) (lanes mid : BTreeMap ℕ Lane) : Type 0 where
  pub gone : (l : ℕ) → is_this l older ≡ true → get nat_cmp mid l ≡ None
  pub stays : (l : ℕ) → is_this l older ≡ false → get nat_cmp mid l ≡ get nat_cmp lanes l

-- numbers are the same both ways
pub turned : (c k : ℕ) → (c == k) ≡ false → (k == c) ≡ false
turned c k e = false_from_ne_true (k == c) (λ f. both_ways (c == k) e (eq-eqb c k (sym (eqb-true k c f))))

pub cuts : (l : ℕ) (lanes mid : BTreeMap ℕ Lane) → Updates nat_cmp lanes mid l None → HasCut (Some l) lanes mid
cuts l lanes mid updates = record {
  gone = λ k e. ap (get nat_cmp mid) (eqb-true k l e) ∙ updates.1;
  stays = λ k e. updates.2 k (unsigned_tied l k ∙ turned k l e);
}

pub cuts_none : (lanes : BTreeMap ℕ Lane) → HasCut None lanes lanes
cuts_none lanes = record { gone = λ k e. absurd (both_ways false refl e); stays = λ k e. refl }

module _ (k at : ℕ) (older : Option ℕ) (g h : List ServerEvent) (m : Goes_over k at older g h) (nobody : IsNobodys at h) (x : Lane) (of : IsOf k at x g)
    (lanes mid new : BTreeMap ℕ Lane) (were : (l : ℕ) → IsLane settled (get nat_cmp lanes l) l h) (cut : HasCut older lanes mid)
    (enters : Updates nat_cmp mid new at (Some x)) where
  own : HasLane settled x at g
  own = record {
    at = ap (λ c. is_at at c g) of.conn ∙ m.here;
    only = λ c f. go c f (c == k) refl;
    polls = of.polls ∙ ap (λ c. not (is_this at (socket_of c (notes g)))) (sym of.conn);
    last = of.last;
    refused = of.refused;
    full = of.full;
    taken = of.taken;
  }
    where
      go : (c : ℕ) → is_at at c g ≡ true → (b : Bool) → (c == k) ≡ b → c ≡ x.conn
      go c f true e = eqb-true c k e ∙ sym of.conn
      go c f false e = absurd (both_ways (is_at at c h) (nobody c) (sym (at_alike at c g h (m.others c e)) ∙ f))

  -- on the older lane was no other
  alone : (l : ℕ) (o : Option Lane) → IsLane settled o l h → is_at l k h ≡ true → (c : ℕ) → (c == k) ≡ false → is_at l c h ≡ false
  alone l None n there c e = absurd (both_ways (is_at l k h) (n k) there)
  alone l (Some y) i there c e =
      false_from_ne_true (is_at l c h) (λ f. both_ways (c == k) e (eq-eqb c k (i.only c f ∙ sym (i.only k there))))

  left : (l : ℕ) → (l == at) ≡ false → is_this l older ≡ true → (c : ℕ) (b : Bool) → (c == k) ≡ b → is_at l c g ≡ false
  left l e f c true d = ap (λ n. is_at l n g) (eqb-true c k d) ∙ m.here_only l e
  left l e f c false d = at_alike l c g h (m.others c d) ∙ alone l (get nat_cmp lanes l) (were l) (m.was l f) c d

  at_same : (l : ℕ) → (l == at) ≡ false → is_this l older ≡ false → (c : ℕ) (b : Bool) → (c == k) ≡ b → is_at l c g ≡ is_at l c h
  at_same l e f c true d = ap (λ n. is_at l n g) (eqb-true c k d) ∙ m.here_only l e ∙ sym (m.was_only l f)
      ∙ ap (λ n. is_at l n h) (sym (eqb-true c k d))
  at_same l e f c false d = at_alike l c g h (m.others c d)

  socket_same : (l : ℕ) → (l == at) ≡ false → is_this l older ≡ false → (c : ℕ) (b : Bool) → (c == k) ≡ b
      → is_this l (socket_of c (notes g)) ≡ is_this l (socket_of c (notes h))
  socket_same l e f c true d =
      ap (λ n. is_this l (socket_of n (notes g))) (eqb-true c k d) ∙ m.socketed l e ∙ sym (m.unsocketed l f)
      ∙ ap (λ n. is_this l (socket_of n (notes h))) (sym (eqb-true c k d))
  socket_same l e f c false d = ap (is_this l) (m.others c d).socket

  pub goes_over : (l : ℕ) → IsLane settled (get nat_cmp new l) l g
  goes_over l = go (l == at) refl
    where
      elsewhere : (l == at) ≡ false → (b : Bool) → is_this l older ≡ b → IsLane settled (get nat_cmp mid l) l g
      elsewhere e true f = subst (λ o. IsLane settled o l g) (sym (cut.gone l f)) (λ c. left l e f c (c == k) refl)
      elsewhere e false f = subst (λ o. IsLane settled o l g) (sym (cut.stays l f))
          (lane_kept settled (get nat_cmp lanes l) l g h (m.same l e) (λ c. at_same l e f c (c == k) refl) (λ c. socket_same l e f c (c == k) refl)
          (were l))

      go : (b : Bool) → (l == at) ≡ b → IsLane settled (get nat_cmp new l) l g
      go true e = subst (λ n. IsLane settled (get nat_cmp new n) n g) (sym (eqb-true l at e))
          (subst (λ o. IsLane settled o at g) (sym enters.1) own)
      go false e = subst (λ o. IsLane settled o l g) (sym (enters.2 l (unsigned_tied at l ∙ turned l at e))) (elsewhere e (is_this l older) refl)
