-- What the moments that have come end is noted in order, and none is left then.
use Rattle.std.proofs.Common.{refl, ap, subst, sym, ◌∙◌, ◌≡◌, ℕ, ◌<◌, ◌≤◌, Bool, true, false, List, [], ◌∷◌, ◌++◌, arith, if◌then◌else◌}
use Rattle.std.specs.Prelude.{◌==◌, is_some, ◌&&◌}
use Rattle.std.specs.List.{flat_map}
use Rattle.std.proofs.lemmas.Bool.{eqb-true, eq-eqb, or_left, or_right}
use Rattle.hd_delivery.specs.declared.vocabulary.Reason.TheVariants as reason
use Rattle.hd_server.specs.declared.vocabulary.Life.{Life}
use Rattle.hd_server.specs.declared.vocabulary.Life.TheVariants.{Unknown, Fresh, Socket, Lost, Polling, Ending}
use Rattle.hd_server.specs.Lives.{Expired, AreInOrder, made, is_removed, is_known, is_past, deadline, standing, last_moment, numbers_to, overdue}
use Rattle.hd_server.specs.Machine.{Goes, settings_of}
use Rattle.hd_server.specs.Doings.{ServerEvent, Notes, Works, notes, work, moment, has_peer, is_up}
use Rattle.hd_server.specs.Plans.{onto, closing, dropping, expiring, expiries}
use Rattle.hd_server.proofs.Each.{either_way}
use Rattle.hd_server.proofs.Flushing.{is_in, AreApart, numbers_apart, apart-filter}
use Rattle.hd_server.proofs.Once.{moments_come_once}
use Rattle.hd_server.proofs.OrderlyNotes.{Known, first_within, none_past, another_stands, another_stays, polling_expires}
use Rattle.hd_server.proofs.OrderlyDoings.{Settled, in_turn}
use Rattle.hd_server.proofs.OrderlyEach.{is_other}

-- what holds while these are still to expire, and are as they were after h
record Expires (most now : ℕ) (h : List ServerEvent) (cs : List ℕ) (g : List ServerEvent) : Type 0 where
  in_order : AreInOrder most (notes g)
  not_later : last_moment (notes g) ≤ now
  is_now : moment g ≡ now
  peers : (c : ℕ) → has_peer c g ≡ true → Known c (notes g)
  made_first : (c : ℕ) → made (notes g) < c → is_removed c (notes g) ≡ false
  left : overdue now (notes g) ≡ cs
  as_before : (k : ℕ) → is_in k cs ≡ true → (standing k (notes g) ≡ standing k (notes h)) × (has_peer k g ≡ has_peer k h)

-- before it is noted that the moment of one has come, its peer goes, unless it polls
record Leaves (c : ℕ) (h g x : List ServerEvent) : Type 0 where
  same_notes : notes x ≡ notes g
  same_moment : moment x ≡ moment g
  of_others : (k : ℕ) → (k == c) ≡ false → has_peer k x ≡ has_peer k g
  own : has_peer c x ≡ true → (standing c (notes h) ≡ Polling) × (has_peer c g ≡ true)

module _ {most : ℕ} (now c : ℕ) (cs : List ℕ) (h g x : List ServerEvent) (out : is_in c cs ≡ false) (e : Expires most now h (c ∷ cs) g) (l : Leaves c h g x) where
  left_then : overdue now (notes x) ≡ c ∷ cs
  left_then = ap (overdue now) l.same_notes ∙ e.left

  stands_then : standing c (notes x) ≡ standing c (notes h)
  stands_then = ap (standing c) l.same_notes ∙ (e.as_before c (or_left (c == c) (is_in c cs) (eq-eqb c c refl))).0

  peers_then : (k : ℕ) (b : Bool) → (k == c) ≡ b → has_peer k x ≡ true → Known k (Expired c now ∷ notes x)
  peers_then k true f there =
      let same = eqb-true k c f in
      let own = l.own (subst (λ y. has_peer y x ≡ true) same there) in
      subst (λ y. Known y (Expired c now ∷ notes x)) (sym same) (polling_expires c (notes x) now (stands_then ∙ own.0))
  peers_then k false f there =
      ap is_known (another_stands k (Expired c now) (notes x) f) ∙ subst (Known k) (sym l.same_notes) (e.peers k (sym (l.of_others k f) ∙ there))

  gone_then : (k : ℕ) → made (notes x) < k → (b : Bool) → (k == c) ≡ b → is_removed k (Expired c now ∷ notes x) ≡ false
  gone_then k over true f =
      let same : k ≡ c = eqb-true k c f in
      let was = first_within c now cs (notes x) left_then in
      absurd (let no : ⊥ = omega (arith, over, same, was.1) in no)
  gone_then k over false f =
      another_stays k (Expired c now) (notes x) f ∙ ap (is_removed k) l.same_notes ∙ e.made_first k (subst (λ n. made n < k) l.same_notes over)

  expire : Expires most now h cs (Notes (Expired c now) ∷ x)
  expire = record {
    in_order = (subst (AreInOrder most) (sym l.same_notes) e.in_order, subst (λ n. last_moment n ≤ now) (sym l.same_notes) e.not_later, (cs, left_then));
    not_later = omega arith;
    is_now = l.same_moment ∙ e.is_now;
    peers = λ k there. peers_then k (k == c) refl there;
    made_first = λ k over. gone_then k over (k == c) refl;
    left = moments_come_once c cs now (notes x) left_then;
    as_before = λ k i.
        let other = is_other c k cs out i in
        let was = e.as_before k (or_right (k == c) (is_in k cs) i) in
        (another_stands k (Expired c now) (notes x) other ∙ ap (standing k) l.same_notes ∙ was.0, l.of_others k other ∙ was.1);
  }

-- one that polls is closed
leaves_closed : (c : ℕ) (h g : List ServerEvent) → standing c (notes h) ≡ Polling → Leaves c h g (onto (closing c reason.Expired h) g)
leaves_closed c h g e =
    either_way (λ ds. Leaves c h g (onto ds g)) (is_up c h) _ []
    (record { same_notes = refl; same_moment = refl; of_others = λ k f. refl; own = λ there. (e, there) })
    (record { same_notes = refl; same_moment = refl; of_others = λ k f. refl; own = λ there. (e, there) })

-- the peer of every other goes
leaves_dropped : (c : ℕ) (h g : List ServerEvent) → has_peer c g ≡ has_peer c h → Leaves c h g (onto (dropping c h) g)
leaves_dropped c h g same = by (has_peer c h) same where
  and_false : (b : Bool) → (b && false) ≡ false
  and_false true = refl
  and_false false = refl

  dropped : has_peer c (Works (Goes c) ∷ g) ≡ false
  dropped = rw (eq-eqb c c refl) (and_false (is_some (settings_of c (work g))))

  by : (b : Bool) → has_peer c g ≡ b → Leaves c h g (onto (if b then Works (Goes c) ∷ [] else []) g)
  by true e = record {
    same_notes = refl;
    same_moment = refl;
    of_others = λ k f. rw f refl;
    own = λ there. absurd (let z : false ≡ true = sym dropped ∙ there in cc);
  }
  by false e = record {
    same_notes = refl;
    same_moment = refl;
    of_others = λ k f. refl;
    own = λ there. absurd (let z : false ≡ true = sym e ∙ there in cc);
  }

module _ {most : ℕ} (now : ℕ) (h : List ServerEvent) where
  one_expires : (c : ℕ) (cs : List ℕ) (g : List ServerEvent) → is_in c cs ≡ false → Expires most now h (c ∷ cs) g → (life : Life) → standing c (notes h) ≡ life
      → Expires most now h cs (onto (expiring now life c h) g)
  one_expires c cs g out e life f = by life f where
    same : has_peer c g ≡ has_peer c h
    same = (e.as_before c (or_left (c == c) (is_in c cs) (eq-eqb c c refl))).1

    drops : Expires most now h cs (onto (dropping c h ++ Notes (Expired c now) ∷ []) g)
    drops = in_turn (Expires most now h cs) (dropping c h) (Notes (Expired c now) ∷ []) g
        (expire now c cs h g (onto (dropping c h) g) out e (leaves_dropped c h g same))

    by : (life : Life) → standing c (notes h) ≡ life → Expires most now h cs (onto (expiring now life c h) g)
    by Polling f =
        in_turn (Expires most now h cs) (closing c reason.Expired h) (Notes (Expired c now) ∷ []) g
        (expire now c cs h g (onto (closing c reason.Expired h) g) out e (leaves_closed c h g f))
    by Unknown f = drops
    by Fresh f = drops
    by (Socket lane) f = drops
    by Lost f = drops
    by Ending f = drops

  all_expire : (cs : List ℕ) (g : List ServerEvent) → AreApart cs → Expires most now h cs g
      → Expires most now h [] (onto (flat_map (λ c. expiring now (standing c (notes h)) c h) cs) g)
  all_expire [] g apart e = e
  all_expire (c ∷ cs) g apart e =
      let mine : List ServerEvent = expiring now (standing c (notes h)) c h in
      in_turn (Expires most now h []) mine (flat_map (λ c. expiring now (standing c (notes h)) c h) cs) g
      (all_expire cs (onto mine g) apart.1 (one_expires c cs g apart.0 e (standing c (notes h)) refl))

  pub expired_settled : AreInOrder most (notes h) → last_moment (notes h) ≤ now → moment h ≡ now → ((c : ℕ) → has_peer c h ≡ true → Known c (notes h))
      → ((c : ℕ) → made (notes h) < c → is_removed c (notes h) ≡ false) → Settled most now (onto (expiries now h) h)
  expired_settled order later is_now peers first =
      let begins : Expires most now h (overdue now (notes h)) h = record {
        in_order = order;
        not_later = later;
        is_now = is_now;
        peers = peers;
        made_first = first;
        left = refl;
        as_before = λ k i. (refl, refl);
      } in
      let apart = apart-filter (λ c. is_past now (deadline c (notes h))) (numbers_to (made (notes h))) (numbers_apart (made (notes h))) in
      let e = all_expire (overdue now (notes h)) h apart begins in
      record {
        in_order = e.in_order;
        not_later = e.not_later;
        is_now = e.is_now;
        peers = e.peers;
        made_first = e.made_first;
        young = none_past most now (notes (onto (expiries now h) h)) e.in_order e.left;
      }
