-- What is done of one connection that is known is noted in order, and changes nothing of another.
use Rattle.std.proofs.Common.{refl, ap, subst, sym, ◌∙◌, ◌≡◌, ℕ, suc, ◌<◌, ◌≤◌, Bool, true, false, List, [], ◌∷◌, ◌++◌, Some, arith, if◌then◌else◌}
use Rattle.std.specs.Prelude.{◌==◌, not, is_some, ◌&&◌, ◌||◌}
use Rattle.std.proofs.Math.Bool.{and-false}
use Rattle.std.proofs.lemmas.Bool.{eqb-true, eq-eqb}
use Rattle.hd_server.specs.Lives.{ConnectionEvent, Negotiated, Opened, Socketed, Polled, Answered, LaneLost, Ended, Expired, Removed, AreInOrder, MayBeNoted, made, is_removed, is_known, HasRoom, standing, life_of, last_moment}
use Rattle.hd_server.specs.Machine.{Connects, Goes, settings_of, has_gone}
use Rattle.hd_server.specs.Doings.{ServerEvent, Notes, Works, notes, work, moment, user_of, has_peer, Hears}
use Rattle.hd_server.specs.Plans.{Setup, onto, connecting, peer_settings, removing_conn}
use Rattle.hd_server.specs.Parts.{Each}
use Rattle.hd_server.proofs.Each.{either_way}
use Rattle.hd_server.proofs.OrderlyNotes.{subject, IsOf, NonePast, Known, within, none_past_still, another_stands, another_stays, life_of_known, still_socketed, still_polled, still_answered, still_lost, still_ended, once_opened, once_negotiated}

-- what holds after the moments that have come are noted
pub record Settled (most now : ℕ) (h : List ServerEvent) : Type 0 where
  pub in_order : AreInOrder most (notes h)
  pub not_later : last_moment (notes h) ≤ now
  pub is_now : moment h ≡ now
  pub peers : (c : ℕ) → has_peer c h ≡ true → Known c (notes h)
  pub made_first : (c : ℕ) → made (notes h) < c → is_removed c (notes h) ≡ false
  pub young : NonePast now (notes h)

-- of others all stays
pub record Others (c : ℕ) (g x : List ServerEvent) : Type 0 where
  pub stand : (k : ℕ) → (k == c) ≡ false → standing k (notes x) ≡ standing k (notes g)
  pub there : (k : ℕ) → (k == c) ≡ false → has_peer k x ≡ has_peer k g

-- of one nothing may be known any more
pub record Parted (most now c : ℕ) (g x : List ServerEvent) : Type 0 where
  pub settled : Settled most now x
  pub others : Others c g x

-- it is known still
pub record Lively (most now c : ℕ) (g x : List ServerEvent) : Type 0 where
  pub settled : Settled most now x
  pub others : Others c g x
  pub known : Known c (notes x)
  pub stays : has_peer c x ≡ has_peer c g

others_same : (c : ℕ) (g : List ServerEvent) → Others c g g
others_same c g = record { stand = λ k e. refl; there = λ k e. refl }

others_then : (c : ℕ) (f g x : List ServerEvent) → Others c f g → Others c g x → Others c f x
others_then c f g x a b = record { stand = λ k e. b.stand k e ∙ a.stand k e; there = λ k e. b.there k e ∙ a.there k e }

pub lively_same : {most : ℕ} (now c : ℕ) (g : List ServerEvent) → Settled most now g → Known c (notes g) → Lively most now c g g
lively_same now c g s k = record { settled = s; others = others_same c g; known = k; stays = refl }

pub lively_then : {most : ℕ} (now c : ℕ) (f g x : List ServerEvent) → Lively most now c f g → Lively most now c g x → Lively most now c f x
lively_then now c f g x a b = record { settled = b.settled; others = others_then c f g x a.others b.others; known = b.known; stays = b.stays ∙ a.stays }

pub parted_of : {most : ℕ} (now c : ℕ) (g x : List ServerEvent) → Lively most now c g x → Parted most now c g x
parted_of now c g x a = record { settled = a.settled; others = a.others }

pub parted_then : {most : ℕ} (now c : ℕ) (f g x : List ServerEvent) → Lively most now c f g → Parted most now c g x → Parted most now c f x
parted_then now c f g x a b = record { settled = b.settled; others = others_then c f g x a.others b.others }

-- ---- lists of doings

pub in_turn : (P : List ServerEvent → Type 0) (xs ys g : List ServerEvent) → P (onto ys (onto xs g)) → P (onto (xs ++ ys) g)
in_turn P [] ys g p = p
in_turn P (x ∷ xs) ys g p = in_turn P xs ys (x ∷ g) p

-- ---- what is noted nowhere

abbrev pub IsQuiet : ServerEvent → Type 0
IsQuiet (Hears now event) = ⊥
IsQuiet (Notes note) = ⊥
IsQuiet (Works (Connects c t user)) = ⊥
IsQuiet (Works (Goes c)) = ⊥
IsQuiet _ = Unit {0}

record Unmoved (g x : List ServerEvent) : Type 0 where
  same_notes : notes x ≡ notes g
  same_peers : (k : ℕ) → has_peer k x ≡ has_peer k g
  same_moment : moment x ≡ moment g

one_quiet : (d : ServerEvent) (g : List ServerEvent) → IsQuiet d → Unmoved g (d ∷ g)
one_quiet (Hears now event) g e = absurd e
one_quiet (Notes note) g e = absurd e
one_quiet (Works (Connects c t user)) g e = absurd e
one_quiet (Works (Goes c)) g e = absurd e
one_quiet d g e = record { same_notes = refl; same_peers = λ k. refl; same_moment = refl }

unmoved_then : (f g x : List ServerEvent) → Unmoved f g → Unmoved g x → Unmoved f x
unmoved_then f g x a b = record {
  same_notes = b.same_notes ∙ a.same_notes;
  same_peers = λ k. b.same_peers k ∙ a.same_peers k;
  same_moment = b.same_moment ∙ a.same_moment;
}

unmoved_same : (g : List ServerEvent) → Unmoved g g
unmoved_same g = record { same_notes = refl; same_peers = λ k. refl; same_moment = refl }

unmoved_onto : (ds g : List ServerEvent) → Each IsQuiet ds → Unmoved g (onto ds g)
unmoved_onto [] g a = unmoved_same g
unmoved_onto (d ∷ ds) g a = unmoved_then g (d ∷ g) (onto ds (d ∷ g)) (one_quiet d g a.0) (unmoved_onto ds (d ∷ g) a.1)

unmoved_after : (ds g : List ServerEvent) → Each IsQuiet ds → Unmoved g (ds ++ g)
unmoved_after [] g a = unmoved_same g
unmoved_after (d ∷ ds) g a = unmoved_then g (ds ++ g) (d ∷ ds ++ g) (unmoved_after ds g a.1) (one_quiet d (ds ++ g) a.0)

settled_still : {most : ℕ} (now : ℕ) (g x : List ServerEvent) → Unmoved g x → Settled most now g → Settled most now x
settled_still {most} now g x a s = record {
  in_order = subst (AreInOrder most) (sym a.same_notes) s.in_order;
  not_later = subst (λ n. last_moment n ≤ now) (sym a.same_notes) s.not_later;
  is_now = a.same_moment ∙ s.is_now;
  peers = λ c e. subst (Known c) (sym a.same_notes) (s.peers c (sym (a.same_peers c) ∙ e));
  made_first = subst (λ n. (c : ℕ) → made n < c → is_removed c n ≡ false) (sym a.same_notes) s.made_first;
  young = subst (NonePast now) (sym a.same_notes) s.young;
}

lively_still : {most : ℕ} (now c : ℕ) (g x : List ServerEvent) → Unmoved g x → Settled most now g → Known c (notes g) → Lively most now c g x
lively_still now c g x a s k = record {
  settled = settled_still now g x a s;
  others = record { stand = λ k e. ap (standing k) a.same_notes; there = λ k e. a.same_peers k };
  known = subst (Known c) (sym a.same_notes) k;
  stays = a.same_peers c;
}

pub quiet_settled : {most : ℕ} (now : ℕ) (ds g : List ServerEvent) → Each IsQuiet ds → Settled most now g → Settled most now (onto ds g)
quiet_settled now ds g a s = settled_still now g (onto ds g) (unmoved_onto ds g a) s

pub quiet_settled_after : {most : ℕ} (now : ℕ) (ds g : List ServerEvent) → Each IsQuiet ds → Settled most now g → Settled most now (ds ++ g)
quiet_settled_after now ds g a s = settled_still now g (ds ++ g) (unmoved_after ds g a) s

pub quiet_notes : (ds g : List ServerEvent) → Each IsQuiet ds → notes (onto ds g) ≡ notes g
quiet_notes ds g a = (unmoved_onto ds g a).same_notes

pub quiet_notes_after : (ds g : List ServerEvent) → Each IsQuiet ds → notes (ds ++ g) ≡ notes g
quiet_notes_after ds g a = (unmoved_after ds g a).same_notes

pub quiet_lively : {most : ℕ} (now c : ℕ) (ds g : List ServerEvent) → Each IsQuiet ds → Settled most now g → Known c (notes g) → Lively most now c g (onto ds g)
quiet_lively now c ds g a s k = lively_still now c g (onto ds g) (unmoved_onto ds g a) s k

pub parted_quiet : {most : ℕ} (now c : ℕ) (ds g x : List ServerEvent) → Each IsQuiet ds → Parted most now c g x → Parted most now c g (onto ds x)
parted_quiet now c ds g x a p =
    let u = unmoved_onto ds x a in
    record {
      settled = settled_still now x (onto ds x) u p.settled;
      others = record { stand = λ k e. ap (standing k) u.same_notes ∙ p.others.stand k e; there = λ k e. u.same_peers k ∙ p.others.there k e };
    }

-- ---- one note of one that is known

-- what is noted at this moment is the last
noted_now : (now : ℕ) (n : ConnectionEvent) (h : List ConnectionEvent) → IsOf now n → last_moment h ≤ now → (last_moment h ≤ last_moment (n ∷ h)) × (last_moment (n ∷ h) ≤ now)
noted_now now (Negotiated c token reconnect m) h e l = (omega (arith, e, l), omega (arith, e))
noted_now now (Opened c m) h e l = (omega (arith, e, l), omega (arith, e))
noted_now now (Socketed c lane m) h e l = (omega (arith, e, l), omega (arith, e))
noted_now now (Polled c lane m) h e l = (omega (arith, e, l), omega (arith, e))
noted_now now (Answered c lane m) h e l = (omega (arith, e, l), omega (arith, e))
noted_now now (LaneLost c lane m) h e l = (omega (arith, e, l), omega (arith, e))
noted_now now (Ended c m) h e l = (omega (arith, e, l), omega (arith, e))
noted_now now (Expired c m) h e l = absurd e
noted_now now (Removed c) h e l = (omega arith, l)

module _ {most : ℕ} (now : ℕ) (n : ConnectionEvent) (g : List ServerEvent) (s : Settled most now g) (of_now : IsOf now n) (may : MayBeNoted most n (notes g)) where
  note_others : Others (subject n) g (Notes n ∷ g)
  note_others = record { stand = λ k e. another_stands k n (notes g) e; there = λ k e. refl }

  settled_by : (has_peer (subject n) g ≡ true → Known (subject n) (n ∷ notes g)) → ((c : ℕ) → made (n ∷ notes g) < c → is_removed c (n ∷ notes g) ≡ false)
      → Settled most now (Notes n ∷ g)
  settled_by own first =
      let moments = noted_now now n (notes g) of_now s.not_later in
      record {
        in_order = (s.in_order, moments.0, may);
        not_later = moments.1;
        is_now = s.is_now;
        peers = λ c e. by c (c == subject n) refl e;
        made_first = first;
        young = none_past_still now n (notes g) of_now s.young;
      }
    where
      by : (c : ℕ) (b : Bool) → (c == subject n) ≡ b → has_peer c g ≡ true → Known c (n ∷ notes g)
      by c true e there =
          let same = eqb-true c (subject n) e in
          subst (λ k. Known k (n ∷ notes g)) (sym same) (own (subst (λ k. has_peer k g ≡ true) same there))
      by c false e there = ap is_known (another_stands c n (notes g) e) ∙ s.peers c there

module _ {most : ℕ} (now c : ℕ) (g : List ServerEvent) (s : Settled most now g) (k : Known c (notes g)) where
  lives : is_known (life_of c now (notes g)) ≡ true
  lives = life_of_known c now (notes g) s.young k

  pub socketing : (lane : ℕ) → Lively most now c g (Notes (Socketed c lane now) ∷ g)
  socketing lane =
      let still = still_socketed c (notes g) lane now k in
      record {
        settled = settled_by now (Socketed c lane now) g s refl lives (λ e. still) s.made_first;
        others = note_others now (Socketed c lane now) g s refl lives;
        known = still;
        stays = refl;
      }

  pub polling : (lane : ℕ) → Lively most now c g (Notes (Polled c lane now) ∷ g)
  polling lane =
      let still = still_polled c (notes g) lane now k in
      record {
        settled = settled_by now (Polled c lane now) g s refl lives (λ e. still) s.made_first;
        others = note_others now (Polled c lane now) g s refl lives;
        known = still;
        stays = refl;
      }

  pub answering : (lane : ℕ) → Lively most now c g (Notes (Answered c lane now) ∷ g)
  answering lane =
      let still = still_answered c (notes g) lane now k in
      record {
        settled = settled_by now (Answered c lane now) g s refl lives (λ e. still) s.made_first;
        others = note_others now (Answered c lane now) g s refl lives;
        known = still;
        stays = refl;
      }

  pub lane_losing : (lane : ℕ) → Lively most now c g (Notes (LaneLost c lane now) ∷ g)
  lane_losing lane =
      let still = still_lost c (notes g) lane now k in
      record {
        settled = settled_by now (LaneLost c lane now) g s refl lives (λ e. still) s.made_first;
        others = note_others now (LaneLost c lane now) g s refl lives;
        known = still;
        stays = refl;
      }

  pub now_ending : Lively most now c g (Notes (Ended c now) ∷ g)
  now_ending =
      let still = still_ended c (notes g) now k in
      record {
        settled = settled_by now (Ended c now) g s refl lives (λ e. still) s.made_first;
        others = note_others now (Ended c now) g s refl lives;
        known = still;
        stays = refl;
      }

  -- one that has no peer is let go
  note_leave : has_peer c g ≡ false → Parted most now c g (Notes (Removed c) ∷ g)
  note_leave none = record {
    settled = settled_by now (Removed c) g s tt tt (λ e. absurd (let z : false ≡ true = sym none ∙ e in cc)) (λ x over. by x over (x == c) refl);
    others = note_others now (Removed c) g s tt tt;
  }
    where
      by : (x : ℕ) → made (notes g) < x → (b : Bool) → (x == c) ≡ b → is_removed x (Removed c ∷ notes g) ≡ false
      by x over true e =
          let same : x ≡ c = eqb-true x c e in
          let was = within most (notes g) s.in_order c k in
          absurd (let no : ⊥ = omega (arith, over, same, was.1) in no)
      by x over false e = another_stays x (Removed c) (notes g) e ∙ s.made_first x over

module _ {most : ℕ} (now c : ℕ) (g : List ServerEvent) (s : Settled most now g) (k : Known c (notes g)) where
  -- its peer goes
  goes : Settled most now (Works (Goes c) ∷ g)
  goes = record {
    in_order = s.in_order;
    not_later = s.not_later;
    is_now = s.is_now;
    peers = λ x e. s.peers x (by x (x == c) e);
    made_first = s.made_first;
    young = s.young;
  }
    where
      by : (x : ℕ) (b : Bool) → (is_some (settings_of x (work g)) && not (b || has_gone x (work g))) ≡ true → has_peer x g ≡ true
      by x true e = absurd (let z : false ≡ true = sym (and-false (is_some (settings_of x (work g)))) ∙ e in cc)
      by x false e = e

  pub lets_go : (h : List ServerEvent) → has_peer c g ≡ has_peer c h → Parted most now c g (onto (removing_conn c h) g)
  lets_go h same = by (has_peer c h) same where
    dropped : has_peer c (Works (Goes c) ∷ g) ≡ false
    dropped = rw (eq-eqb c c refl) (and-false (is_some (settings_of c (work g))))

    by : (b : Bool) → has_peer c g ≡ b → Parted most now c g (onto ((if b then Works (Goes c) ∷ [] else []) ++ Notes (Removed c) ∷ []) g)
    by true e =
        let left = note_leave now c (Works (Goes c) ∷ g) goes k dropped in
        record {
          settled = left.settled;
          others = record { stand = left.others.stand; there = λ x f. left.others.there x f ∙ rw f refl };
        }
    by false e = note_leave now c g s k e

  -- its peer begins
  pub connects : (t : Setup) (reconnect : Bool) (h : List ServerEvent) → Settled most now (onto (connecting t c reconnect h) g)
  connects t reconnect h = by (is_some (settings_of c (work h))) where
    begun : Settled most now (Works (Connects c (peer_settings t c (user_of c h) reconnect) (user_of c h)) ∷ g)
    begun = record {
      in_order = s.in_order;
      not_later = s.not_later;
      is_now = s.is_now;
      peers = λ x e. its x (x == c) refl e;
      made_first = s.made_first;
      young = s.young;
    }
      where
        its : (x : ℕ) (b : Bool) → (x == c) ≡ b
            → (is_some (if b then Some (peer_settings t c (user_of c h) reconnect) else settings_of x (work g)) && not (has_gone x (work g))) ≡ true
            → Known x (notes g)
        its x true f e = subst (λ y. Known y (notes g)) (sym (eqb-true x c f)) k
        its x false f e = s.peers x e

    by : (b : Bool) → Settled most now (onto (if b then [] else Works (Connects c (peer_settings t c (user_of c h) reconnect) (user_of c h)) ∷ []) g)
    by true = s
    by false = begun

pub connecting_notes : (c : ℕ) (t : Setup) (reconnect : Bool) (h g : List ServerEvent) → notes (onto (connecting t c reconnect h) g) ≡ notes g
connecting_notes c t reconnect h g =
    either_way (λ ds. notes (onto ds g) ≡ notes g) (is_some (settings_of c (work h))) []
    (Works (Connects c (peer_settings t c (user_of c h) reconnect) (user_of c h)) ∷ []) refl refl

-- ---- a new connection

module _ {most : ℕ} (now : ℕ) (g : List ServerEvent) (s : Settled most now g) (room : HasRoom most now (suc (made (notes g))) (notes g)) where
  never_gone : is_removed (suc (made (notes g))) (notes g) ≡ false
  never_gone = s.made_first (suc (made (notes g))) (omega arith)

  fewer : (c : ℕ) → suc (made (notes g)) < c → is_removed c (notes g) ≡ false
  fewer c over = s.made_first c (omega (arith, over))

  pub negotiating : (token : List ℕ) (reconnect : Bool) → Settled most now (Notes (Negotiated (suc (made (notes g))) token reconnect now) ∷ g)
  negotiating token reconnect =
      settled_by now (Negotiated (suc (made (notes g))) token reconnect now) g s refl room
      (λ e. once_negotiated (suc (made (notes g))) (notes g) token reconnect now never_gone) fewer

  pub opening : Settled most now (Notes (Opened (suc (made (notes g))) now) ∷ g)
  opening = settled_by now (Opened (suc (made (notes g))) now) g s refl room (λ e. once_opened (suc (made (notes g))) (notes g) now never_gone) fewer

  pub opened_known : Known (suc (made (notes g))) (Opened (suc (made (notes g))) now ∷ notes g)
  opened_known = once_opened (suc (made (notes g))) (notes g) now never_gone
