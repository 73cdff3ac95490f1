-- What a moment has ended: connections that rested rest still, and nothing comes on a lane by it.
use Rattle.std.proofs.Common.{◌≡◌, ℕ, ◌==◌, Bool, true, false, not, ◌&&◌, ◌||◌, List, [], ◌∷◌, ◌++◌, Option, Some, None, is_some}
use Rattle.std.proofs.Common.{refl, sym, ap, subst, ◌∙◌}
use Rattle.std.specs.Prelude.{unwrap_or, option_map, if◌then◌else◌}
use Rattle.std.specs.List.{flat_map}
use Rattle.std.proofs.lemmas.Bool.{both_ways, eqb-true, false_from_ne_true}
use Rattle.hd_delivery.specs.Histories.{is_this, first_of}
use Rattle.hd_server.specs.declared.vocabulary.Life.{Life}
use Rattle.hd_server.specs.declared.vocabulary.Life.TheVariants.{Unknown, Fresh, Socket, Lost, Polling, Ending}
use Rattle.hd_server.specs.Lives.{ConnectionEvent, Expired}
use Rattle.hd_server.specs.Lives.{is_removed, is_opened, is_polling, ended_at, lost_at, negotiated_at, overdue, socket_of, standing, when}
use Rattle.hd_server.specs.Machine.{Does, Goes, has_gone, settings_of}
use Rattle.hd_server.specs.Doings.{ServerEvent, Notes, Works}
use Rattle.hd_server.specs.Doings.{notes, work, awaits_reply, has_peer, is_full, is_up, name_now, wants_shut, was_refused}
use Rattle.hd_server.specs.Plans.{onto, dropping, expiring, expiries}
use Rattle.hd_server.specs.Parts.{Each, IsOfAny, IsExpiry}
use Rattle.hd_server.specs.Laws.{PartsOfTurns}
use Rattle.hub_server.specs.Lanes.{IsNobodys, is_at, poll_lane}
use Rattle.hub_server.specs.Servers.{IsRested}
use Rattle.hub_server.proofs.Alike.{there_alike, up_alike}
use Rattle.hub_server.proofs.OntoAlike.{onto_append}
use Rattle.hub_server.proofs.TickApart.{apart_expiring}

-- ---- what they leave

pub record Wanes (g h : List ServerEvent) : Type 0 where
  pub waits : (lane : ℕ) → awaits_reply lane g ≡ awaits_reply lane h
  pub shut : (lane : ℕ) → wants_shut lane g ≡ wants_shut lane h
  pub refused : (lane : ℕ) → was_refused lane g ≡ was_refused lane h
  pub full : (lane : ℕ) → is_full lane g ≡ is_full lane h
  pub name : name_now g ≡ name_now h
  pub polls : (c : ℕ) → is_polling c (notes g) ≡ is_polling c (notes h)
  pub there : (c : ℕ) → has_peer c g ≡ true → has_peer c h ≡ true
  pub at : (lane c : ℕ) → is_at lane c g ≡ true → is_at lane c h ≡ true

wanes_refl : (h : List ServerEvent) → Wanes h h
wanes_refl h = record {
  waits = λ lane. refl;
  shut = λ lane. refl;
  refused = λ lane. refl;
  full = λ lane. refl;
  name = refl;
  polls = λ c. refl;
  there = λ c e. e;
  at = λ lane c e. e;
}

wanes_trans : (f g h : List ServerEvent) → Wanes f g → Wanes g h → Wanes f h
wanes_trans f g h x y = record {
  waits = λ lane. x.waits lane ∙ y.waits lane;
  shut = λ lane. x.shut lane ∙ y.shut lane;
  refused = λ lane. x.refused lane ∙ y.refused lane;
  full = λ lane. x.full lane ∙ y.full lane;
  name = x.name ∙ y.name;
  polls = λ c. x.polls c ∙ y.polls c;
  there = λ c e. y.there c (x.there c e);
  at = λ lane c e. y.at lane c (x.at lane c e);
}

was_there : (s d g : Bool) → (s && not (d || g)) ≡ true → (s && not g) ≡ true
was_there true true g e = absurd (both_ways false refl e)
was_there true false g e = e
was_there false d g e = e

was_at : (s d g x : Bool) → ((s && not (d || g)) && x) ≡ true → ((s && not g) && x) ≡ true
was_at true true g x e = absurd (both_ways false refl e)
was_at true false g x e = e
was_at false d g x e = e

one_wanes : (c : ℕ) (d : ServerEvent) (h : List ServerEvent) → IsExpiry c d → Wanes (d ∷ h) h
one_wanes k (Notes (Expired c now)) h a = record {
  waits = λ lane. refl;
  shut = λ lane. refl;
  refused = λ lane. refl;
  full = λ lane. refl;
  name = refl;
  polls = λ c. refl;
  there = λ c e. e;
  at = λ lane c e. e;
}
one_wanes c (Works (Does k m)) h a = record {
  waits = λ lane. refl;
  shut = λ lane. refl;
  refused = λ lane. refl;
  full = λ lane. refl;
  name = refl;
  polls = λ c. refl;
  there = λ c e. e;
  at = λ lane c e. e;
}
one_wanes k (Works (Goes n)) h a = record {
  waits = λ lane. refl;
  shut = λ lane. refl;
  refused = λ lane. refl;
  full = λ lane. refl;
  name = refl;
  polls = λ c. refl;
  there = λ c. was_there (is_some (settings_of c (work h))) (c == n) (has_gone c (work h));
  at = λ lane c. was_at (is_some (settings_of c (work h))) (c == n) (has_gone c (work h))
      (is_this lane (socket_of c (notes h)) || is_this lane (poll_lane c (notes h)));
}
one_wanes c d h a = absurd a

onto_wanes : (P : ServerEvent → Type 0) → ((d : ServerEvent) → P d → IsOfAny IsExpiry d) → (ds h : List ServerEvent) → Each P ds → Wanes (onto ds h) h
onto_wanes P so [] h a = wanes_refl h
onto_wanes P so (d ∷ ds) h a =
    let p = so d a.0 in
    wanes_trans (onto ds (d ∷ h)) (d ∷ h) h (onto_wanes P so ds (d ∷ h) a.1) (one_wanes p.0 d h p.1)

pub nobody_wanes : (lane : ℕ) (g h : List ServerEvent) → Wanes g h → IsNobodys lane h → IsNobodys lane g
nobody_wanes lane g h x nobody c = false_from_ne_true (is_at lane c g) (λ e. both_ways (is_at lane c h) (nobody c) (x.at lane c e))

-- ---- who rests

abbrev polls : Life → Bool
polls Polling = true
polls _ = false

-- one whose life is Polling polls
pick : (gone ended : Bool) (socket : Option ℕ) (lost polling fresh : Bool)
    → unwrap_or (first_of (when gone Unknown) (first_of (when ended Ending)
    (first_of (option_map Socket socket) (first_of (when lost Lost) (first_of (when polling Polling) (when fresh Fresh)))))) Unknown ≡ Polling
    → polling ≡ true
pick true ended socket lost polling fresh e = absurd (both_ways false refl (ap polls e))
pick false true socket lost polling fresh e = absurd (both_ways false refl (ap polls e))
pick false false (Some lane) lost polling fresh e = absurd (both_ways false refl (ap polls e))
pick false false None true polling fresh e = absurd (both_ways false refl (ap polls e))
pick false false None false true fresh e = refl
pick false false None false false true e = absurd (both_ways false refl (ap polls e))
pick false false None false false false e = absurd (both_ways false refl (ap polls e))

polls_then : (c : ℕ) (n : List ConnectionEvent) → standing c n ≡ Polling → is_polling c n ≡ true
polls_then c n e = pick (is_removed c n) (is_some (ended_at c n)) (socket_of c n) (is_some (lost_at c n)) (is_polling c n)
    (is_opened c n || is_some (negotiated_at c n)) e

-- the connection rests, as far as it didn't poll before
record Restful (c : ℕ) (g h : List ServerEvent) : Type 0 where
  wanes : Wanes g h
  rests : has_peer c g ≡ true → is_polling c (notes h) ≡ false → is_up c g ≡ true

went : (s d g : Bool) → d ≡ true → (s && not (d || g)) ≡ false
went true true g e = refl
went true false g e = absurd (both_ways false refl e)
went false d g e = refl

drops : (c k now : ℕ) (h g : List ServerEvent) → (c == k) ≡ true → Wanes g h
    → has_peer c (onto (dropping k h ++ Notes (Expired k now) ∷ []) g) ≡ true → ⊥
drops c k now h g same w = go (has_peer k h) refl
  where
    go : (b : Bool) → has_peer k h ≡ b → has_peer c (onto ((if b then Works (Goes k) ∷ [] else []) ++ Notes (Expired k now) ∷ []) g) ≡ true → ⊥
    go true e there = both_ways (has_peer c (Works (Goes k) ∷ g)) (went (is_some (settings_of c (work g))) (c == k) (has_gone c (work g)) same) there
    go false e there = both_ways (has_peer k h) e (ap (λ n. has_peer n h) (sym (eqb-true c k same)) ∙ w.there c there)

own : (now : ℕ) (life : Life) (c k : ℕ) (h g : List ServerEvent) → standing k (notes h) ≡ life → (c == k) ≡ true → Wanes g h
    → has_peer c (onto (expiring now life k h) g) ≡ true → is_polling c (notes h) ≡ false → ⊥
own now Polling c k h g e same w there unpolled =
    both_ways (is_polling c (notes h)) unpolled (ap (λ n. is_polling n (notes h)) (eqb-true c k same) ∙ polls_then k (notes h) e)
own now Unknown c k h g e same w there unpolled = drops c k now h g same w there
own now Fresh c k h g e same w there unpolled = drops c k now h g same w there
own now (Socket lane) c k h g e same w there unpolled = drops c k now h g same w there
own now Lost c k h g e same w there unpolled = drops c k now h g same w there
own now Ending c k h g e same w there unpolled = drops c k now h g same w there

module _ (law : PartsOfTurns) where
  pub expiries_wane : (now : ℕ) (h g : List ServerEvent) → Wanes (onto (expiries now h) g) g
  expiries_wane now h g = onto_wanes (IsOfAny IsExpiry) (λ d p. p) (expiries now h) g (law.expiries_are now h)

  one_rests : (now c k : ℕ) (h g : List ServerEvent) → Restful c g h → Restful c (onto (expiring now (standing k (notes h)) k h) g) h
  one_rests now c k h g x = record {
    wanes = wanes_trans after g h (onto_wanes (IsExpiry k) (λ d p. (k, p)) ds g of) x.wanes;
    rests = go (c == k) refl;
  }
    where
      ds : List ServerEvent
      ds = expiring now (standing k (notes h)) k h

      after : List ServerEvent
      after = onto ds g

      of : Each (IsExpiry k) ds
      of = law.expiring_is now (standing k (notes h)) k h

      go : (b : Bool) → (c == k) ≡ b → has_peer c after ≡ true → is_polling c (notes h) ≡ false → is_up c after ≡ true
      go true e there unpolled = absurd (own now (standing k (notes h)) c k h g refl e x.wanes there unpolled)
      go false e there unpolled =
          let same = (apart_expiring law now (standing k (notes h)) k h g).others c e in
          up_alike c after g same ∙ x.rests (sym (there_alike c after g same) ∙ there) unpolled

  all_rest : (now c : ℕ) (ks : List ℕ) (h g : List ServerEvent) → Restful c g h
      → Restful c (onto (flat_map (λ k. expiring now (standing k (notes h)) k h) ks) g) h
  all_rest now c [] h g x = x
  all_rest now c (k ∷ ks) h g x =
      subst (λ f. Restful c f h) (sym (onto_append (expiring now (standing k (notes h)) k h)
      (flat_map (λ n. expiring now (standing n (notes h)) n h) ks) g))
      (all_rest now c ks h (onto (expiring now (standing k (notes h)) k h) g) (one_rests now c k h g x))

  pub expiries_rest : (now c : ℕ) (h : List ServerEvent) → IsRested c h → IsRested c (onto (expiries now h) h)
  expiries_rest now c h x there unpolled =
      let all = all_rest now c (overdue now (notes h)) h h (record { wanes = wanes_refl h; rests = x }) in
      all.rests there (sym (all.wanes.polls c) ∙ unpolled)
