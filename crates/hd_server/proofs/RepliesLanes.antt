-- Which lanes wait for a reply: those on which a poll is held.
use Rattle.std.proofs.Common.{refl, ap, subst, sym, ◌∙◌, ◌≡◌, ℕ, Bool, true, false, List, [], ◌∷◌, ◌++◌, Option, Some, None, if◌then◌else◌}
use Rattle.std.specs.Prelude.{◌==◌, not, is_some, option_map, ◌&&◌, ◌||◌}
use Rattle.std.proofs.Math.Bool.{and-false}
use Rattle.std.proofs.lemmas.Bool.{eqb-true, eq-eqb}
use Rattle.hw_lanes.specs.declared.http.Reply.{Reply}
use Rattle.hw_lanes.specs.Replies.{IsReply}
use Rattle.hd_delivery.specs.Histories.{is_this}
use Rattle.hd_server.specs.declared.vocabulary.Said.TheVariants as say
use Rattle.hd_server.specs.Lives.{Answered, poll_of, Polled, LaneLost}
use Rattle.hd_server.specs.Machine.{Goes, settings_of, has_gone, Connects}
use Rattle.hd_server.specs.Doings.{ServerEvent, Notes, Works, Says, notes, work, awaits_reply, has_peer, Hears}
use Rattle.hd_server.specs.Plans.{onto}
use Rattle.hd_server.specs.Parts.{Each}
use Rattle.hd_server.specs.Laws.{AreAwaited}

-- ---- what holds of lanes

abbrev pub Held : ℕ → List ServerEvent → Type 0
Held lane h = (c now : ℕ) × (poll_of c (notes h) ≡ Some (lane, now))

-- a lane waits on which a request is answered just now, or a poll is held; and one that has a peer holds none on a lane that doesn't wait,
-- but on one that is lost just now
pub record Holds (asks lost : Option ℕ) (h : List ServerEvent) : Type 0 where
  pub told : AreAwaited h
  pub waits : (lane : ℕ) → awaits_reply lane h ≡ true → is_this lane asks ≡ false → Held lane h
  pub asked : (lane : ℕ) → is_this lane asks ≡ true → awaits_reply lane h ≡ true
  pub held : (c lane now : ℕ) → has_peer c h ≡ true → poll_of c (notes h) ≡ Some (lane, now) → is_this lane lost ≡ false → awaits_reply lane h ≡ true
  pub free : (c lane now : ℕ) → has_peer c h ≡ true → poll_of c (notes h) ≡ Some (lane, now) → is_this lane asks ≡ false
  pub apart : (c k lane now later : ℕ) → has_peer c h ≡ true → has_peer k h ≡ true → poll_of c (notes h) ≡ Some (lane, now)
      → poll_of k (notes h) ≡ Some (lane, later) → c ≡ k

-- ---- what changes nothing of that

pub record Calm (g x : List ServerEvent) : Type 0 where
  pub same_polls : (c : ℕ) → poll_of c (notes x) ≡ poll_of c (notes g)
  pub fewer : (c : ℕ) (p : ℕ × ℕ) → poll_of c (notes x) ≡ Some p → has_peer c x ≡ true → has_peer c g ≡ true
  pub same_waits : (lane : ℕ) → awaits_reply lane x ≡ awaits_reply lane g
  pub told_still : AreAwaited g → AreAwaited x

pub calm_then : (f g x : List ServerEvent) → Calm f g → Calm g x → Calm f x
calm_then f g x a b = record {
  same_polls = λ c. b.same_polls c ∙ a.same_polls c;
  fewer = λ c p e f. a.fewer c p (sym (b.same_polls c) ∙ e) (b.fewer c p e f);
  same_waits = λ lane. b.same_waits lane ∙ a.same_waits lane;
  told_still = λ t. b.told_still (a.told_still t);
}

pub calm_same : (g : List ServerEvent) → Calm g g
calm_same g = record { same_polls = λ c. refl; fewer = λ c p e f. f; same_waits = λ lane. refl; told_still = λ t. t }

pub calm_holds : (asks lost : Option ℕ) (g x : List ServerEvent) → Calm g x → Holds asks lost g → Holds asks lost x
calm_holds asks lost g x a ok = record {
  told = a.told_still ok.told;
  waits = λ lane e f. let w = ok.waits lane (sym (a.same_waits lane) ∙ e) f in (w.0, w.1, a.same_polls w.0 ∙ w.2);
  asked = λ lane e. a.same_waits lane ∙ ok.asked lane e;
  held = λ c lane now p e f. a.same_waits lane ∙ ok.held c lane now (a.fewer c (lane, now) e p) (sym (a.same_polls c) ∙ e) f;
  free = λ c lane now p e. ok.free c lane now (a.fewer c (lane, now) e p) (sym (a.same_polls c) ∙ e);
  apart = λ c k lane now later p q e f.
      ok.apart c k lane now later (a.fewer c (lane, now) e p) (a.fewer k (lane, later) f q) (sym (a.same_polls c) ∙ e) (sym (a.same_polls k) ∙ f);
}

abbrev pub IsCalm : ServerEvent → Type 0
IsCalm (Hears now event) = ⊥
IsCalm (Says (say.Reply lane reply)) = ⊥
IsCalm (Works (Connects c t user)) = ⊥
IsCalm (Notes (Polled c lane now)) = ⊥
IsCalm (Notes (Answered c lane now)) = ⊥
IsCalm (Notes (LaneLost c lane now)) = ⊥
IsCalm _ = Unit {0}

pub not_gone : (c k : ℕ) (g : List ServerEvent) → has_peer c (Works (Goes k) ∷ g) ≡ true → has_peer c g ≡ true
not_gone c k g e = by (c == k) e where
  by : (b : Bool) → (is_some (settings_of c (work g)) && not (b || has_gone c (work g))) ≡ true → has_peer c g ≡ true
  by true f = absurd (let z : false ≡ true = sym (and-false (is_some (settings_of c (work g)))) ∙ f in cc)
  by false f = f

one_calm : (d : ServerEvent) (g : List ServerEvent) → IsCalm d → Calm g (d ∷ g)
one_calm (Hears now event) g e = absurd e
one_calm (Says (say.Reply lane reply)) g e = absurd e
one_calm (Works (Connects c t user)) g e = absurd e
one_calm (Works (Goes k)) g e = record { same_polls = λ c. refl; fewer = λ c p e f. not_gone c k g f; same_waits = λ lane. refl; told_still = λ t. t }
one_calm (Notes (Polled c lane now)) g e = absurd e
one_calm (Notes (Answered c lane now)) g e = absurd e
one_calm (Notes (LaneLost c lane now)) g e = absurd e
one_calm d g e = record { same_polls = λ c. refl; fewer = λ c p e f. f; same_waits = λ lane. refl; told_still = λ t. t }

pub calm_onto : (ds g : List ServerEvent) → Each IsCalm ds → Calm g (onto ds g)
calm_onto [] g a = calm_same g
calm_onto (d ∷ ds) g a = calm_then g (d ∷ g) (onto ds (d ∷ g)) (one_calm d g a.0) (calm_onto ds (d ∷ g) a.1)

pub calm_after : (ds g : List ServerEvent) → Each IsCalm ds → Calm g (ds ++ g)
calm_after [] g a = calm_same g
calm_after (d ∷ ds) g a = calm_then g (ds ++ g) (d ∷ ds ++ g) (calm_after ds g a.1) (one_calm d (ds ++ g) a.0)

-- ---- a reply to a request that is answered just now

pub replied : (lane : ℕ) (lost : Option ℕ) (reply : Reply) (g : List ServerEvent) → IsReply reply → Holds (Some lane) lost g
    → Holds None lost (Says (say.Reply lane reply) ∷ g)
replied lane lost reply g sent ok = record {
  told = (ok.asked lane (eq-eqb lane lane refl), sent, ok.told);
  waits = λ l e f. by l (l == lane) refl e;
  asked = λ l e. absurd (let z : false ≡ true = e in cc);
  held = λ c l now p e f. other c l now p e (ok.held c l now p e f);
  free = λ c l now p e. refl;
  apart = ok.apart;
}
  where
    by : (l : ℕ) (b : Bool) → (l == lane) ≡ b → (if b then false else awaits_reply l g) ≡ true → Held l g
    by l true e f = absurd (let z : false ≡ true = f in cc)
    by l false e f = ok.waits l f e

    other : (c l now : ℕ) → has_peer c g ≡ true → poll_of c (notes g) ≡ Some (l, now) → awaits_reply l g ≡ true
        → (if l == lane then false else awaits_reply l g) ≡ true
    other c l now p e f = ap (λ b. if b then false else awaits_reply l g) (ok.free c l now p e) ∙ f

-- ---- a reply to a poll that is held

abbrev unless : Bool → ℕ × ℕ → Option (ℕ × ℕ)
unless b p = if b then None else Some p

abbrev ends_at : ℕ → Bool → Option (ℕ × ℕ) → Option (ℕ × ℕ)
ends_at lane b o = if b && is_this lane (option_map (λ p. p.0) o) then None else o

module _ (asks lost : Option ℕ) (g : List ServerEvent) (ok : Holds asks lost g) (c lane since : ℕ) (there : has_peer c g ≡ true)
    (mine : poll_of c (notes g) ≡ Some (lane, since)) (here : is_this lane lost ≡ false) (reply : Reply) (sent : IsReply reply) where
  abbrev after_it : List ServerEvent
  after_it = Says (say.Reply lane reply) ∷ g

  told_then : AreAwaited after_it
  told_then = (ok.held c lane since there mine here, sent, ok.told)

  waits_before : (l : ℕ) → awaits_reply l after_it ≡ true → (awaits_reply l g ≡ true) × ((l == lane) ≡ false)
  waits_before l e = by (l == lane) refl e where
    by : (b : Bool) → (l == lane) ≡ b → (if b then false else awaits_reply l g) ≡ true → (awaits_reply l g ≡ true) × ((l == lane) ≡ false)
    by true f z = absurd (let y : false ≡ true = z in cc)
    by false f z = (z, f)

  waits_still : (l : ℕ) → (l == lane) ≡ false → awaits_reply l g ≡ true → awaits_reply l after_it ≡ true
  waits_still l e f = ap (λ b. if b then false else awaits_reply l g) e ∙ f

  asked_still : (l : ℕ) → is_this l asks ≡ true → awaits_reply l after_it ≡ true
  asked_still l e = by (l == lane) refl where
    by : (b : Bool) → (l == lane) ≡ b → awaits_reply l after_it ≡ true
    by true f = absurd (let z : true ≡ false = sym e ∙ ap (λ x. is_this x asks) (eqb-true l lane f) ∙ ok.free c lane since there mine in cc)
    by false f = waits_still l f (ok.asked l e)

  -- a poll of another is held on another lane
  other_lane : (k l t : ℕ) → (k == c) ≡ false → has_peer k g ≡ true → poll_of k (notes g) ≡ Some (l, t) → (l == lane) ≡ false
  other_lane k l t n p e = by (l == lane) refl where
    by : (b : Bool) → (l == lane) ≡ b → b ≡ false
    by false f = refl
    by true f =
        let same : k ≡ c
        = ok.apart k c lane t since p there (subst (λ y. poll_of k (notes g) ≡ Some (y, t)) (eqb-true l lane f) e) mine in
        absurd (let z : true ≡ false = sym (eq-eqb k c same) ∙ n in cc)

  held_still : (k l t : ℕ) → (k == c) ≡ false → has_peer k g ≡ true → poll_of k (notes g) ≡ Some (l, t) → is_this l lost ≡ false
      → awaits_reply l after_it ≡ true
  held_still k l t n p e f = waits_still l (other_lane k l t n p e) (ok.held k l t p e f)

  -- the connection goes
  pub parted : (z : List ServerEvent) → Calm after_it z → has_peer c z ≡ false → Holds asks lost z
  parted z a none = record {
    told = a.told_still told_then;
    waits = λ l e f.
        let w = waits_before l (sym (a.same_waits l) ∙ e) in
        let by = ok.waits l w.0 f in
        (by.0, by.1, a.same_polls by.0 ∙ by.2);
    asked = λ l e. a.same_waits l ∙ asked_still l e;
    held = λ k l t p e f. a.same_waits l ∙ held_still k l t (is_other k p) (a.fewer k (l, t) e p) (sym (a.same_polls k) ∙ e) f;
    free = λ k l t p e. ok.free k l t (a.fewer k (l, t) e p) (sym (a.same_polls k) ∙ e);
    apart = λ j k l t u p q e f. ok.apart j k l t u (a.fewer j (l, t) e p) (a.fewer k (l, u) f q) (sym (a.same_polls j) ∙ e) (sym (a.same_polls k) ∙ f);
  }
    where
      is_other : (k : ℕ) → has_peer k z ≡ true → (k == c) ≡ false
      is_other k p = by (k == c) refl where
        by : (b : Bool) → (k == c) ≡ b → b ≡ false
        by false f = refl
        by true f = absurd (let y : true ≡ false = sym p ∙ ap (λ x. has_peer x z) (eqb-true k c f) ∙ none in cc)

  -- it is noted that the poll ended
  pub answered : (y : List ServerEvent) → Calm after_it y → (at : ℕ) → Holds asks lost (Notes (Answered c lane at) ∷ y)
  answered y a at = record {
    told = a.told_still told_then;
    waits = λ l e f.
        let w = waits_before l (sym (a.same_waits l) ∙ e) in
        let by = ok.waits l w.0 f in
        (by.0, by.1, stays by.0 l by.1 w.1 by.2);
    asked = λ l e. a.same_waits l ∙ asked_still l e;
    held = λ k l t p e f. let was = before k l t e in a.same_waits l ∙ held_still k l t was.0 (was_there k l t e p) was.1 f;
    free = λ k l t p e. ok.free k l t (was_there k l t e p) (before k l t e).1;
    apart = λ j k l t u p q e f. ok.apart j k l t u (was_there j l t e p) (was_there k l u f q) (before j l t e).1 (before k l u f).1;
  }
    where
      other_still : (b : Bool) (l t : ℕ) → (l == lane) ≡ false → unless (b && (lane == l)) (l, t) ≡ Some (l, t)
      other_still b l t e = by b (lane == l) refl where
        by : (b d : Bool) → (lane == l) ≡ d → unless (b && d) (l, t) ≡ Some (l, t)
        by true true f = absurd (let z : true ≡ false = sym (eq-eqb l lane (sym (eqb-true lane l f))) ∙ e in cc)
        by true false f = refl
        by false d f = refl

      stays : (k l t : ℕ) → (l == lane) ≡ false → poll_of k (notes g) ≡ Some (l, t) → poll_of k (Answered c lane at ∷ notes y) ≡ Some (l, t)
      stays k l t e f = ap (λ o. ends_at lane (k == c) o) (a.same_polls k ∙ f) ∙ other_still (k == c) l t e

      before : (k l t : ℕ) → poll_of k (Answered c lane at ∷ notes y) ≡ Some (l, t) → ((k == c) ≡ false) × (poll_of k (notes g) ≡ Some (l, t))
      before k l t e = by (k == c) refl (sym (ap (λ o. ends_at lane (k == c) o) (a.same_polls k)) ∙ e) where
        own : (k ≡ c) → (if is_this lane (option_map (λ p. p.0) (poll_of k (notes g))) then None else poll_of k (notes g)) ≡ None
        own s = ap (λ o. if is_this lane (option_map (λ p. p.0) o) then None else o) (ap (λ x. poll_of x (notes g)) s ∙ mine)
            ∙ ap (λ b. if b then None else Some (lane, since)) (eq-eqb lane lane refl)

        by : (b : Bool) → (k == c) ≡ b → ends_at lane b (poll_of k (notes g)) ≡ Some (l, t) → ((k == c) ≡ false) × (poll_of k (notes g) ≡ Some (l, t))
        by false f i = (f, i)
        by true f i = absurd (let z : ◌≡◌ {A = Option (ℕ × ℕ)} None (Some (l, t)) = sym (own (eqb-true k c f)) ∙ i in cc)

      was_there : (k l t : ℕ) → poll_of k (Answered c lane at ∷ notes y) ≡ Some (l, t) → has_peer k y ≡ true → has_peer k g ≡ true
      was_there k l t e p = a.fewer k (l, t) (a.same_polls k ∙ (before k l t e).1) p
