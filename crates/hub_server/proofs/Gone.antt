-- Connections that leave their lanes: one that is let go, one that lost its lane, one whose poll ended.
use Rattle.std.proofs.Common.{◌≡◌, inl, inr, ℕ, ◌==◌, Bool, true, false, not, ◌||◌, List, ◌∷◌, Option, Some, None, is_some, refl, sym, ap, subst, ◌∙◌}
use Rattle.std.specs.Prelude.{if◌then◌else◌, option_map}
use Rattle.std.proofs.lemmas.Bool.{and_from, and_right, both_ways, cond-false, cond-true, eq-eqb, eqb-true, false_from_ne_true, or_cases, or_left}
use Rattle.std.proofs.lemmas.Bool.{or_right}
use Rattle.hd_delivery.specs.Histories.{is_this}
use Rattle.hd_server.specs.Lives.{Removed, is_removed, is_polling, lost_at, poll_ended, poll_of, socket_of}
use Rattle.hd_server.specs.Machine.{Goes, has_gone, settings_of}
use Rattle.hd_server.specs.Doings.{ServerEvent, Notes, Works, has_peer, moment, notes, said, user_of, work}
use Rattle.hub_server.specs.declared.lane.Lane.{Lane}
use Rattle.hub_server.specs.Connections.{IsKnown}
use Rattle.hub_server.specs.Lanes.{IsLane, Unsettled, is_at, poll_lane}
use Rattle.hub_server.specs.Servers.{IsOrderly, caller_of}
use Rattle.hub_server.proofs.Alike.{Alike, alike_goes, alike_note, alike_trans}
use Rattle.hub_server.proofs.LaneKept.{SameLane, lane_kept, lane_wider, same_lane_note, same_lane_trans, same_lane_works}

-- ---- numbers

pub unequal : (k c : ℕ) → (k == c) ≡ false → (c == k) ≡ false
unequal k c e = false_from_ne_true (c == k) (λ f. both_ways (k == c) e (eq-eqb k c (sym (eqb-true c k f))))

this_some : (l : ℕ) (o : Option ℕ) → is_this l o ≡ true → is_some o ≡ true
this_some l None e = e
this_some l (Some k) e = refl

pub held_some : (l : ℕ) (o : Option (ℕ × ℕ)) → is_this l (option_map (λ poll. poll.0) o) ≡ true → is_some o ≡ true
held_some l None e = e
held_some l (Some k) e = refl

first_of_three : (a b d : Bool) → a ≡ true → (a || b || d) ≡ true
first_of_three true b d e = refl
first_of_three false b d e = absurd (let z : false ≡ true = e in cc)

pub middle_of_three : (a b d : Bool) → b ≡ true → (a || b || d) ≡ true
middle_of_three true b d e = refl
middle_of_three false true d e = refl
middle_of_three false false d e = absurd (let z : false ≡ true = e in cc)

pub last_of_three : (a b d : Bool) → d ≡ true → (a || b || d) ≡ true
last_of_three true b d e = refl
last_of_three false true d e = refl
last_of_three false false d e = e

-- ---- who is on a lane

-- on this lane it would be, if it had a peer
abbrev pub is_on : ℕ → ℕ → List ServerEvent → Bool
is_on l c h = is_this l (socket_of c (notes h)) || is_this l (poll_lane c (notes h))

on_used : (l c : ℕ) (h : List ServerEvent) → is_on l c h ≡ true
    → (is_some (socket_of c (notes h)) || is_some (lost_at c (notes h)) || is_polling c (notes h)) ≡ true
on_used l c h e = elim (or_cases (is_this l (socket_of c (notes h))) _ e) [
  | inl f ↦ first_of_three (is_some (socket_of c (notes h))) (is_some (lost_at c (notes h))) (is_polling c (notes h))
      (this_some l (socket_of c (notes h)) f)
  | inr f ↦ last_of_three (is_some (socket_of c (notes h))) (is_some (lost_at c (notes h))) (is_polling c (notes h))
      (or_left (is_some (poll_of c (notes h))) (is_some (poll_ended c (notes h))) (held_some l (poll_of c (notes h)) f))
]

-- one that is known has a peer as soon as it is on a lane
pub used_there : (u : Unsettled) (c : ℕ) (h : List ServerEvent) → IsKnown c h → IsOrderly u c h
    → (is_some (socket_of c (notes h)) || is_some (lost_at c (notes h)) || is_polling c (notes h)) ≡ true → has_peer c h ≡ true
used_there u c h known o e = go (has_peer c h) refl (is_some (settings_of c (work h))) refl
  where
    go : (b : Bool) → has_peer c h ≡ b → (s : Bool) → is_some (settings_of c (work h)) ≡ s → has_peer c h ≡ true
    go true p s q = p
    go false p true q = absurd (both_ways (is_removed c (notes h)) known.held (o.gone q p))
    go false p false q = absurd (both_ways _ (o.unused q) e)

pub at_is_on : (u : Unsettled) (l c : ℕ) (h : List ServerEvent) → IsKnown c h → IsOrderly u c h → is_at l c h ≡ is_on l c h
at_is_on u l c h known o = go (is_on l c h) refl
  where
    go : (b : Bool) → is_on l c h ≡ b → is_at l c h ≡ is_on l c h
    go true e = and_from (has_peer c h) (is_on l c h) (used_there u c h known o (on_used l c h e)) e ∙ sym e
    go false e = and_right (has_peer c h) (is_on l c h) e ∙ sym e

-- a connection is alone on its lane
pub alone : (u : Unsettled) (c l : ℕ) (h : List ServerEvent) (o : Option Lane) → IsLane u o l h → is_at l c h ≡ true → (k : ℕ) → (k == c) ≡ false
    → is_at l k h ≡ false
alone u c l h None nobody at k e = absurd (both_ways (is_at l c h) (nobody c) at)
alone u c l h (Some x) has at k e = false_from_ne_true (is_at l k h) (λ f. both_ways (k == c) e (eq-eqb k c (has.only k f ∙ sym (has.only c at))))

-- a connection left the lane on which it was, and no other is on another lane than before
pub lane_left : (u v : Unsettled) (c l : ℕ) (g h : List ServerEvent) (o p : Option Lane) → SameLane l g h
    → ((k : ℕ) → (k == c) ≡ false → is_at l k g ≡ is_at l k h) → is_at l c g ≡ false
    → (is_at l c h ≡ false → (k : ℕ) → is_this l (socket_of k (notes g)) ≡ is_this l (socket_of k (notes h)))
    → (is_at l c h ≡ false → is_this l u.lane ≡ true → is_this l v.lane ≡ true)
    → IsLane u o l h → p ≡ (if is_at l c h then None else o) → IsLane v p l g
lane_left u v c l g h o p same others off sockets wider lane is = go (is_at l c h) refl
  where
    nobody : is_at l c h ≡ true → (k : ℕ) (b : Bool) → (k == c) ≡ b → is_at l k g ≡ false
    nobody at k true e = ap (λ n. is_at l n g) (eqb-true k c e) ∙ off
    nobody at k false e = others k e ∙ alone u c l h o lane at k e

    ats : is_at l c h ≡ false → (k : ℕ) (b : Bool) → (k == c) ≡ b → is_at l k g ≡ is_at l k h
    ats at k true e = ap (λ n. is_at l n g) (eqb-true k c e) ∙ off ∙ sym at ∙ sym (ap (λ n. is_at l n h) (eqb-true k c e))
    ats at k false e = others k e

    go : (b : Bool) → is_at l c h ≡ b → IsLane v p l g
    go true at = subst (λ x. IsLane v x l g) (sym (is ∙ cond-true (is_at l c h) None o at)) (λ k. nobody at k (k == c) refl)
    go false at = subst (λ x. IsLane v x l g) (sym (is ∙ cond-false (is_at l c h) None o at))
        (lane_wider u v o l g (wider at) (lane_kept u o l g h same (λ k. ats at k (k == c) refl) (sockets at) lane))

-- ---- what is settled

-- no end that isn't on the lane stands there without its link
pub orderly_off : (u v : Unsettled) (c lane : ℕ) (h : List ServerEvent) → (is_this c u.conn ≡ true → is_this c v.conn ≡ true)
    → ((l : ℕ) → is_this l u.cut ≡ true → l ≡ lane) → is_at lane c h ≡ false → IsOrderly u c h → IsOrderly v c h
orderly_off u v c lane h conn cut off o = record {
  made = o.made;
  there = o.there;
  gone = o.gone;
  one_way = o.one_way;
  ended = o.ended;
  unused = o.unused;
  used = λ p. elim (or_cases (is_this c u.conn) _ (o.used p)) [
    | inl e ↦ or_left (is_this c v.conn) _ (conn e)
    | inr e ↦ or_right (is_this c v.conn) _ e
  ];
  linked = λ p l e. elim (or_cases (is_this l u.cut) _ (o.linked p l e)) [
    | inl f ↦ absurd (both_ways (is_at lane c h) off (and_from (has_peer c h) (is_on lane c h) p
        (or_left (is_this lane (socket_of c (notes h))) (is_this lane (poll_lane c (notes h)))
        (ap (λ x. is_this lane x) e ∙ eq-eqb lane l (sym (cut l f))))))
    | inr f ↦ or_right (is_this l v.cut) _ f
  ];
  unlinked = o.unlinked;
  kept = o.kept;
  links = o.links;
  timely = o.timely;
  handled = o.handled;
  taken = o.taken;
}

-- ---- one that is let go

-- nothing is kept of the connection: it has no peer, and all others are as they were
pub record Freed (c : ℕ) (g h : List ServerEvent) : Type 0 where
  pub others : (k : ℕ) → (k == c) ≡ false → Alike k g h
  pub lanes : (l : ℕ) → SameLane l g h
  pub sockets : (k : ℕ) → socket_of k (notes g) ≡ socket_of k (notes h)
  pub absent : has_peer c g ≡ false
  pub orderly : (u v : Unsettled) → IsOrderly u c h → IsOrderly v c g
  pub uncalled : caller_of c g ≡ None
  pub begun : (k : ℕ) → settings_of k (work g) ≡ settings_of k (work h)
  pub same_moment : moment g ≡ moment h
  pub same_words : said g ≡ said h

let_go_now : (c : ℕ) (h : List ServerEvent) → is_removed c (notes (Notes (Removed c) ∷ h)) ≡ true
let_go_now c h = or_left (c == c) (is_removed c (notes h)) (eq-eqb c c refl)

none_calls : (c : ℕ) (h : List ServerEvent) → is_removed c (notes h) ≡ true → caller_of c h ≡ None
none_calls c h e = cond-true _ None (user_of c h) (or_right (is_some (settings_of c (work h))) (is_removed c (notes h)) e)

gone_now : (c : ℕ) (h : List ServerEvent) → has_peer c (Notes (Removed c) ∷ Works (Goes c) ∷ h) ≡ false
gone_now c h = and_right (is_some (settings_of c (work h))) _ (ap (λ b. not (b || has_gone c (work h))) (eq-eqb c c refl))

pub freed_there : (c : ℕ) (h : List ServerEvent) → Freed c (Notes (Removed c) ∷ Works (Goes c) ∷ h) h
freed_there c h = record {
  others = λ k e. alike_trans k (Notes (Removed c) ∷ Works (Goes c) ∷ h) (Works (Goes c) ∷ h) h
      (alike_note (Removed c) k (Works (Goes c) ∷ h) e tt) (alike_goes k c h e);
  lanes = λ l. same_lane_trans l (Notes (Removed c) ∷ Works (Goes c) ∷ h) (Works (Goes c) ∷ h) h
      (same_lane_note l (Removed c) (Works (Goes c) ∷ h)) (same_lane_works l (Goes c) h);
  sockets = λ k. refl;
  absent = gone_now c h;
  orderly = λ u v o. record {
    made = o.made;
    there = λ e. absurd (both_ways _ (gone_now c h) e);
    gone = λ e f. let_go_now c h;
    one_way = o.one_way;
    ended = o.ended;
    unused = o.unused;
    used = λ e. absurd (both_ways _ (gone_now c h) e);
    linked = λ e l f. absurd (both_ways _ (gone_now c h) e);
    unlinked = λ e f. absurd (both_ways _ (gone_now c h) e);
    kept = λ e f. absurd (both_ways _ (gone_now c h) e);
    links = o.links;
    timely = o.timely;
    handled = o.handled;
    taken = o.taken;
  };
  uncalled = none_calls c (Notes (Removed c) ∷ Works (Goes c) ∷ h) (let_go_now c h);
  begun = λ k. refl;
  same_moment = refl;
  same_words = refl;
}

pub freed_absent : (c : ℕ) (h : List ServerEvent) → has_peer c h ≡ false → Freed c (Notes (Removed c) ∷ h) h
freed_absent c h none = record {
  others = λ k e. alike_note (Removed c) k h e tt;
  lanes = λ l. same_lane_note l (Removed c) h;
  sockets = λ k. refl;
  absent = none;
  orderly = λ u v o. record {
    made = o.made;
    there = λ e. absurd (both_ways _ none e);
    gone = λ e f. let_go_now c h;
    one_way = o.one_way;
    ended = o.ended;
    unused = o.unused;
    used = λ e. absurd (both_ways _ none e);
    linked = λ e l f. absurd (both_ways _ none e);
    unlinked = λ e f. absurd (both_ways _ none e);
    kept = λ e f. absurd (both_ways _ none e);
    links = o.links;
    timely = o.timely;
    handled = o.handled;
    taken = o.taken;
  };
  uncalled = none_calls c (Notes (Removed c) ∷ h) (let_go_now c h);
  begun = λ k. refl;
  same_moment = refl;
  same_words = refl;
}
