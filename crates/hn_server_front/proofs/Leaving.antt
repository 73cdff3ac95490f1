-- One connection gives way to another: the front stands for both notes, and no more live then than may, or than did.
use Rattle.std.proofs.Common.{◌≡◌, ℕ, suc, ◌+◌, ◌<◌, ◌≤◌, Bool, true, false, cond, ◌&&◌, ◌||◌, ◌==◌, not, List, [], ◌∷◌, length, filter, max, Option, Some, None, IfSome, is_some, option_map, unwrap_or, nat_le, nat_lt, refl, sym, ap, subst, ◌∙◌, arith, eq-eqb, ne_eqb, if◌then◌else◌}
use Rattle.std.proofs.lemmas.Bool.{and_from, and_parts, both_ways, or_left, or_parts, leb-false, leb-true, ltb-true, lt-ltb, le-leb, not-true}
use Rattle.hd_server.specs.Numbers.{lives_for, most_connections}
use Rattle.hd_server.specs.declared.vocabulary.Life.{Life}
use Rattle.hd_server.specs.declared.vocabulary.Life.TheVariants.{Unknown, Fresh, Socket, Lost, Polling, Ending}
use Rattle.hd_server.specs.Lives.{ConnectionEvent, Negotiated, Opened, Removed, made, numbers_to, first_fresh, gives_way, is_busy, is_fresh, is_full, is_known, is_made, is_past, is_removed, deadline, life_of, live, past, since, standing}
use Rattle.hn_server_front.specs.declared.entry.Told.{Told}
use Rattle.hn_server_front.specs.declared.front.Front.{Front}
use Rattle.hn_server_front.specs.Calls.{IsUnused, after_leaving}
use Rattle.hn_server_front.specs.Stands.{IsUnborn, Stands, is_there}
use Rattle.hn_server_front.proofs.Alike.{stands_alike}
use Rattle.hn_server_front.proofs.Counting.{count, count_without}
use Rattle.hn_server_front.proofs.Fresh.{leaves_made, leaves_fresh, is_unused}
use Rattle.hn_server_front.proofs.Making.{Begins, begins_open, begins_tell, live_more, unborn_next}

-- ---- the order of the two notes

pub leaves_opened : (f : Front) (o : Option ℕ) (h : List ConnectionEvent) (c now : ℕ) → Stands f (after_leaving o (Opened c now ∷ h))
    → Stands f (Opened c now ∷ after_leaving o h)
leaves_opened f None h c now s = s
leaves_opened f (Some gone) h c now s = stands_alike f (Removed gone ∷ Opened c now ∷ h) (Opened c now ∷ Removed gone ∷ h) (record {
  made_so = refl;
  held = λ k. refl;
  opened = λ k. refl;
  told = λ k. refl;
  promise = λ k. refl;
  token = λ k. refl;
  socket = λ k. refl;
  lost = λ k. refl;
  poll = λ k. refl;
  polled = λ k. refl;
  ended = λ k. refl;
  conn = λ token. refl;
}) s

pub leaves_told : (f : Front) (o : Option ℕ) (h : List ConnectionEvent) (c : ℕ) (text : List ℕ) (asked : Bool) (now : ℕ)
    → Stands f (after_leaving o (Negotiated c text asked now ∷ h)) → Stands f (Negotiated c text asked now ∷ after_leaving o h)
leaves_told f None h c text asked now s = s
leaves_told f (Some gone) h c text asked now s =
    stands_alike f (Removed gone ∷ Negotiated c text asked now ∷ h) (Negotiated c text asked now ∷ Removed gone ∷ h) (record {
      made_so = refl;
      held = λ k. refl;
      opened = λ k. refl;
      told = λ k. refl;
      promise = λ k. refl;
      token = λ k. refl;
      socket = λ k. refl;
      lost = λ k. refl;
      poll = λ k. refl;
      polled = λ k. refl;
      ended = λ k. refl;
      conn = λ token. refl;
    }) s

-- ---- the one that gives way

made_there : (c : ℕ) (h : List ConnectionEvent) → is_there c h ≡ true → is_made c h ≡ true
made_there c h e = (and_parts (is_made c h) (not (is_removed c h)) e).0

-- it was made, also after a further one is
pub gone_made : (f : Front) (h : List ConnectionEvent) (most now : ℕ) (o : Option ℕ) (n : ConnectionEvent) → Stands f h → o ≡ gives_way most now h
    → made (n ∷ h) ≡ suc (made h) → IfSome o (λ c. is_made c (n ∷ h) ≡ true)
gone_made f h most now None n s e more = tt
gone_made f h most now (Some c) n s e more =
    let parts = and_parts (nat_lt 0 c) (nat_le c (made h)) (made_there c h (leaves_made f h most now c s (sym e))) in
    let within = leb-true c (made h) parts.1 in
    and_from (nat_lt 0 c) (nat_le c (made (n ∷ h))) parts.0 (le-leb c (made (n ∷ h)) (omega (arith, within, more)))

pub gone_unused : (f : Front) (h : List ConnectionEvent) (most now : ℕ) (o : Option ℕ) → Stands f h → o ≡ gives_way most now h → IfSome o (IsUnused now h)
gone_unused f h most now None s e = tt
gone_unused f h most now (Some c) s e =
    record { made_so = made_there c h (leaves_made f h most now c s (sym e)); fresh = leaves_fresh h most now c (sym e) }

-- ---- how many live

known_fresh : (l : Life) → is_fresh l ≡ true → is_known l ≡ true
known_fresh Unknown e = e
known_fresh Fresh e = refl
known_fresh (Socket lane) e = refl
known_fresh Lost e = refl
known_fresh Polling e = refl
known_fresh Ending e = refl

since_left : (k c : ℕ) (h : List ConnectionEvent) (l : Life) → since k l (Removed c ∷ h) ≡ since k l h
since_left k c h Unknown = refl
since_left k c h Fresh = refl
since_left k c h (Socket lane) = refl
since_left k c h Lost = refl
since_left k c h Polling = refl
since_left k c h Ending = refl

-- of every other all is as before
life_left : (now k c : ℕ) (h : List ConnectionEvent) → (k ≡ c → ⊥) → life_of k now (Removed c ∷ h) ≡ life_of k now h
life_left now k c h other =
    let g : List ConnectionEvent = Removed c ∷ h in
    let stands : standing k g ≡ standing k h = rw (ne_eqb k c other) refl in
    let counts = ap (λ l. since k l g) stands ∙ since_left k c h (standing k h) in
    ap (λ o. cond (is_past now (option_map (λ moment. moment + lives_for) o)) (past (standing k g)) (standing k g)) counts
    ∙ ap (λ l. cond (is_past now (deadline k h)) (past l) l) stands

-- one fewer live without it
one_fewer : (f : Front) (h : List ConnectionEvent) (most now c : ℕ) → Stands f h → gives_way most now h ≡ Some c
    → length (live now h) ≡ suc (length (live now (Removed c ∷ h)))
one_fewer f h most now c s e =
    let parts = and_parts (nat_lt 0 c) (nat_le c (made h)) (made_there c h (leaves_made f h most now c s e)) in
    let known = known_fresh (life_of c now h) (leaves_fresh h most now c e) in
    let gone : is_known (life_of c now (Removed c ∷ h)) ≡ false = rw (eq-eqb c c refl) refl in
    count_without (made h) c (λ k. is_known (life_of k now h)) (λ k. is_known (life_of k now (Removed c ∷ h))) (ltb-true 0 c parts.0) (leb-true c (made h) parts.1)
    known gone (λ k other. ap is_known (sym (life_left now k c h other)))

not_full : (most now : ℕ) (h : List ConnectionEvent) → gives_way most now h ≡ None → is_busy most now h ≡ false → length (live now h) < most
not_full most now h none free = leb-false most (length (live now h)) (by (is_full most now h) none (or_parts _ _ free).0)
  where
    by : (b : Bool) → (if b then first_fresh now h else None) ≡ None → (b && not (is_some (first_fresh now h))) ≡ false → b ≡ false
    by true f g = absurd (both_ways (not (is_some (first_fresh now h))) g (ap (λ o. not (is_some o)) f))
    by false f g = refl

module _ (f : Front) (h : List ConnectionEvent) (most now : ℕ) (s : Stands f h) (free : is_busy most now h ≡ false) where
  few_after : (o : Option ℕ) (n : ConnectionEvent) (told : Option Told) → o ≡ gives_way most now h
      → Begins n (suc (made (after_leaving o h))) told (after_leaving o h) → length (live now (n ∷ after_leaving o h)) ≤ max most (length (live now h))
  few_after None n told e b =
      let room = not_full most now h (sym e) free in
      let more = live_more n h told now b in
      omega (arith, room, more)
  few_after (Some c) n told e b =
      let fewer = one_fewer f h most now c s (sym e) in
      let more = live_more n (Removed c ∷ h) told now b in
      omega (arith, fewer, more)

  unborn_after : (o : Option ℕ) → o ≡ gives_way most now h → IsUnborn (suc (made (after_leaving o h))) (after_leaving o h)
  unborn_after None e = unborn_next f h s
  unborn_after (Some c) e =
      let u = unborn_next f h s in
      let k : ℕ = suc (made h) in
      let within = leb-true c (made h) (and_parts (nat_lt 0 c) (nat_le c (made h)) (made_there c h (leaves_made f h most now c s (sym e)))).1 in
      record {
        held = ap (λ b. b || is_removed k h) (ne_eqb k c (λ x. omega (arith, x, within))) ∙ u.held;
        opened = u.opened;
        told = u.told;
        promise = u.promise;
        token = u.token;
        socket = u.socket;
        lost = u.lost;
        poll = u.poll;
        polled = u.polled;
        ended = u.ended;
      }

  made_after : (o : Option ℕ) → made (after_leaving o h) ≡ made h
  made_after None = refl
  made_after (Some c) = refl

  pub opens_few : (o : Option ℕ) (c : ℕ) → o ≡ gives_way most now h → c ≡ suc (made h)
      → length (live now (Opened c now ∷ after_leaving o h)) ≤ max most (length (live now h))
  opens_few o c e is =
      subst (λ k. length (live now (Opened k now ∷ after_leaving o h)) ≤ max most (length (live now h))) (ap suc (made_after o) ∙ sym is)
      (few_after o (Opened (suc (made (after_leaving o h))) now) None e (begins_open (after_leaving o h) now (unborn_after o e)))

  pub tells_few : (o : Option ℕ) (c : ℕ) (token : List ℕ) (asked : Bool) → o ≡ gives_way most now h → c ≡ suc (made h)
      → length (live now (Negotiated c token asked now ∷ after_leaving o h)) ≤ max most (length (live now h))
  tells_few o c token asked e is =
      let told : Told = record { token = token; now = now; reconnect = asked } in
      subst (λ k. length (live now (Negotiated k token asked now ∷ after_leaving o h)) ≤ max most (length (live now h))) (ap suc (made_after o) ∙ sym is)
      (few_after o (Negotiated (suc (made (after_leaving o h))) token asked now) (Some told) e
      (begins_tell (after_leaving o h) token asked now told refl refl refl))
