-- A table into which a call was put stands for one happening more.
use Rattle.hi_calls.proofs.Legal.{ledger_called, ledger_same}
use Rattle.hi_calls.specs.Legal.{HasLedger}
use Rattle.std.proofs.Common.{◌≡◌, ℕ, suc, ◌<◌, ◌≤◌, ◌⊎◌, inl, inr, Bool, true, false, List, ◌∷◌, length, Option, Some, None, refl, sym, ap, ◌∙◌, subst, arith}
use Rattle.std.specs.Prelude.{◌+◌, ◌-◌, ◌==◌, ◌&&◌, ◌||◌, not, max, nat_lt, nat_eq, is_some, if◌then◌else◌}
use Rattle.std.specs.HashMap.{get}
use Rattle.std.proofs.lemmas.Bool.{cases_eq, cases_lt, eqb-true, eq-eqb, ne_eqb, ltb-true, lt-ltb, le-ltb, and_parts, false_from_ne_true}
use Rattle.hd_delivery.specs.Histories.{is_this}
use Rattle.hd_calls.specs.declared.vocabulary.CallKind.{CallKind}
use Rattle.hd_calls.specs.Numbers.{most_live, most_uploads, most_numbers}
use Rattle.hd_calls.specs.Hubs.{Invoked, id_of}
use Rattle.hd_calls.specs.Rules.{count_below, new_live}
use Rattle.hd_calls.specs.Ledgers.{CallHappening, Called}
use Rattle.hd_calls.specs.Peers.{has_end, has_id, streams_items, stream_count}
use Rattle.hd_calls.specs.Tables.{drawn_in, call_in, given_in, lost_in, uploaded_in, live_call_in, live_upload_in, live_uploads_in, own_live_in}
use Rattle.hi_calls.specs.declared.calls.Calls.{Calls}
use Rattle.hi_calls.specs.Maps.{owner, owns, is_upload_number, one_if, is_answered, takes_items, Enters}
use Rattle.hi_calls.specs.Stands.{live_kind, IsFresh, Stands}
use Rattle.hi_calls.proofs.Counts.{count_none, count_all}
use Rattle.hi_calls.proofs.Happenings.{live_from, upload_from, SameAt, same_kind, same_upload, same_fresh, same_count, apart_called, fresh_live, fresh_upload, upload_within, upload_beyond, kind_dead, counted, own_between}

-- the number is new to the happenings: nothing live has it, and its uploads' numbers weren't drawn
pub record IsNew (c : Invoked) (n : ℕ) (h : List CallHappening) : Type 0 where
  pub idle : live_call_in n h ≡ false
  pub no_uploads : (w : ℕ) → live_upload_in n w h ≡ false
  pub lives : live_call_in n (Called n c ∷ h) ≡ has_id (Some c)
  pub uploads_live : (w : ℕ) → live_upload_in n w (Called n c ∷ h) ≡ nat_lt w (length c.streams)
  pub past : (k : ℕ) → is_upload_number n (length c.streams) k ≡ true → drawn_in h < k
  pub silent : 0 < n → IsFresh n h

and_true : (b : Bool) → (b && true) ≡ b
and_true true = refl
and_true false = refl

or_not : (b u : Bool) → ((u && true) && ((b && true) || not b)) ≡ u
or_not true true = refl
or_not true false = refl
or_not false true = refl
or_not false false = refl

-- the next number, to which nothing happened
pub new_next : (c : Invoked) (n : ℕ) (h : List CallHappening) → n ≡ suc (drawn_in h) → IsFresh n h → IsNew c n h
new_next c n h e f = record {
  idle = fresh_live n h f;
  no_uploads = λ w. fresh_upload n w h f;
  lives = ap (λ b. live_from (if b then Some c else call_in n h) (given_in n h) (lost_in n h)) (eq-eqb n n refl)
      ∙ ((λ i. live_from (Some c) (f.ungiven i) (f.unlost i)) ∙ and_true (has_id (Some c)));
  uploads_live = λ w. ap (λ b. upload_from w (if b then Some c else call_in n h) (given_in n h) (lost_in n h) (uploaded_in n w h)) (eq-eqb n n refl)
      ∙ ((λ i. upload_from w (Some c) (f.ungiven i) (f.unlost i) (f.unsent w i)) ∙ or_not (has_id (Some c)) (nat_lt w (length c.streams)));
  past = λ k l. let z = ltb-true n k (and_parts (nat_lt n k) (nat_lt k (suc (n + length c.streams))) l).0 in omega arith;
  silent = λ _. f;
}

-- 0, for what wants no answer and has no uploads
pub new_zero : (c : Invoked) (h : List CallHappening) → has_id (Some c) ≡ false → length c.streams ≡ 0
    → (has_id (call_in 0 h) ≡ false) × (stream_count (call_in 0 h) ≡ 0) → IsNew c 0 h
new_zero c h e z bare = record {
  idle = ap (λ b. b && (not (has_end (given_in 0 h)) && not (lost_in 0 h))) bare.0;
  no_uploads = λ w. let l = bare.1 in upload_beyond 0 w h (omega arith);
  lives = ap (λ b. b && (not (has_end (given_in 0 h)) && not (lost_in 0 h))) e ∙ sym e;
  uploads_live = λ w. upload_beyond 0 w (Called 0 c ∷ h) (omega arith) ∙ sym (le-ltb w (length c.streams) (omega arith));
  past = λ k l. absurd (
      let p = and_parts (nat_lt 0 k) (nat_lt k (suc (0 + length c.streams))) l in
      let a = ltb-true 0 k p.0 in
      let b = ltb-true k (suc (0 + length c.streams)) p.1 in
      omega arith);
  silent = λ l. absurd (omega arith);
}

pub new_live-parts : (c : Invoked) → new_live c ≡ one_if (has_id (Some c)) + length c.streams
new_live-parts c = go (is_some (id_of c.way))
  where
    go : (b : Bool) → (if b then suc (length c.streams) else length c.streams) ≡ one_if b + length c.streams
    go true = omega arith
    go false = omega arith

if_and_true : {A : Type 0} (b : Bool) (x y : A) → (if b && true then x else y) ≡ (if b then x else y)
if_and_true true x y = refl
if_and_true false x y = refl

if_and_false : {A : Type 0} (b : Bool) (x y : A) → (if b && false then x else y) ≡ y
if_and_false true x y = refl
if_and_false false x y = refl

pub number-own : (n u w : ℕ) → is_upload_number n u (suc (n + w)) ≡ nat_lt w u
number-own n u w = ap (λ b. b && nat_lt (suc (n + w)) (suc (n + u))) (lt-ltb n (suc (n + w)) (omega arith)) ∙ go (cases_lt w u)
  where
    go : (w < u) ⊎ (u ≤ w) → nat_lt (suc (n + w)) (suc (n + u)) ≡ nat_lt w u
    go (inl l) = lt-ltb (suc (n + w)) (suc (n + u)) (omega arith) ∙ sym (lt-ltb w u l)
    go (inr l) = le-ltb (suc (n + w)) (suc (n + u)) (omega arith) ∙ sym (le-ltb w u l)

module _ (old new : Calls) (prefix : List ℕ) (h : List CallHappening) (k : CallKind) (u n : ℕ) (c : Invoked) (s : Stands old prefix h) (e : Enters old new k u n)
    (f : IsNew c n h) (answered : has_id (Some c) ≡ is_answered k) (items : streams_items (Some c) ≡ takes_items k) (len : length c.streams ≡ u)
    (few : u ≤ most_uploads) (small : n + u ≤ most_numbers) (room : own_live_in h + new_live c ≤ most_live)
    (plain : n ≡ 0 → (has_id (Some c) ≡ false) × (length c.streams ≡ 0)) where
  others : (j : ℕ) → (j ≡ n → ⊥) → SameAt j h (Called n c ∷ h)
  others j o = apart_called j n c h o

  calls_here : get nat_eq new.calls n ≡ live_kind n (Called n c ∷ h)
  calls_here =
      e.call n ∙ (ap (λ b. if is_answered k && b then Some (takes_items k) else get nat_eq old.calls n) (eq-eqb n n refl)
      ∙ (if_and_true (is_answered k) (Some (takes_items k)) (get nat_eq old.calls n)
      ∙ (ap (λ o. if is_answered k then Some (takes_items k) else o) (s.calls n ∙ kind_dead n h f.idle)
      ∙ sym (ap (λ b. if b then Some (streams_items (if n == n then Some c else call_in n h)) else None) (f.lives ∙ answered)
      ∙ (ap (λ b. if is_answered k then Some (streams_items (if b then Some c else call_in n h)) else None) (eq-eqb n n refl)
      ∙ ap (λ b. if is_answered k then Some b else None) items)))))

  calls_there : (j : ℕ) → (j ≡ n → ⊥) → get nat_eq new.calls j ≡ live_kind j (Called n c ∷ h)
  calls_there j o =
      e.call j ∙ (ap (λ b. if is_answered k && b then Some (takes_items k) else get nat_eq old.calls j) (ne_eqb n j (λ z. o (sym z)))
      ∙ (if_and_false (is_answered k) (Some (takes_items k)) (get nat_eq old.calls j)
      ∙ (s.calls j ∙ sym (same_kind j h (Called n c ∷ h) (others j o)))))

  calls_all : (j : ℕ) → get nat_eq new.calls j ≡ live_kind j (Called n c ∷ h)
  calls_all j = go (cases_eq j n)
    where
      go : (j ≡ n) ⊎ (j ≡ n → ⊥) → get nat_eq new.calls j ≡ live_kind j (Called n c ∷ h)
      go (inl z) = subst (λ i. get nat_eq new.calls i ≡ live_kind i (Called n c ∷ h)) (sym z) calls_here
      go (inr o) = calls_there j o

  uploads_here : (w : ℕ) → owns new.owners n w ≡ live_upload_in n w (Called n c ∷ h)
  uploads_here w =
      ap (is_this n) (e.uploads_begin.owner_of (suc (n + w)) ∙ ap (λ b. if b then Some n else owner old.owners (suc (n + w))) (number-own n u w))
      ∙ (go (nat_lt w u) ∙ (sym (ap (nat_lt w) len) ∙ sym (f.uploads_live w)))
    where
      go : (b : Bool) → is_this n (if b then Some n else owner old.owners (suc (n + w))) ≡ b
      go true = eq-eqb n n refl
      go false = s.uploads n w ∙ f.no_uploads w

  uploads_there : (j w : ℕ) → (j ≡ n → ⊥) → owns new.owners j w ≡ live_upload_in j w (Called n c ∷ h)
  uploads_there j w o =
      ap (is_this j) (e.uploads_begin.owner_of (suc (j + w))) ∙ (go (is_upload_number n u (suc (j + w))) refl ∙ sym (same_upload j h (Called n c ∷ h) (others j o) w))
    where
      go : (b : Bool) → is_upload_number n u (suc (j + w)) ≡ b → is_this j (if b then Some n else owner old.owners (suc (j + w))) ≡ live_upload_in j w h
      go true p =
          let q = f.past (suc (j + w)) (ap (λ m. is_upload_number n m (suc (j + w))) len ∙ p) in
          ne_eqb j n o ∙ sym (false_from_ne_true (live_upload_in j w h) (λ z. let l = counted j w h (upload_within j w h z) in omega arith))
      go false p = s.uploads j w

  uploads_all : (j w : ℕ) → owns new.owners j w ≡ live_upload_in j w (Called n c ∷ h)
  uploads_all j w = go (cases_eq j n)
    where
      go : (j ≡ n) ⊎ (j ≡ n → ⊥) → owns new.owners j w ≡ live_upload_in j w (Called n c ∷ h)
      go (inl z) = subst (λ i. owns new.owners i w ≡ live_upload_in i w (Called n c ∷ h)) (sym z) (uploads_here w)
      go (inr o) = uploads_there j w o

  owned_all : (i m : ℕ) → owner new.owners i ≡ Some m → (w : ℕ) × (i ≡ suc (m + w))
  owned_all i m z = go (is_upload_number n u i) refl (sym (e.uploads_begin.owner_of i) ∙ z)
    where
      go : (b : Bool) → is_upload_number n u i ≡ b → (if b then Some n else owner old.owners i) ≡ Some m → (w : ℕ) × (i ≡ suc (m + w))
      go true p q =
          let l = ltb-true n i (and_parts (nat_lt n i) (nat_lt i (suc (n + u))) p).0 in
          let same : n ≡ m = cc in
          (i - suc n, omega arith)
      go false p q = s.owned i m q

  -- nothing has the numbers that the uploads are given
  pub unowned : (w : ℕ) → w < u → owner old.owners (suc (n + w)) ≡ None
  unowned w l = go (owner old.owners (suc (n + w))) refl
    where
      far : drawn_in h < suc (n + w)
      far = f.past (suc (n + w)) (number-own n (length c.streams) w ∙ lt-ltb w (length c.streams) (omega arith))

      go : (o : Option ℕ) → owner old.owners (suc (n + w)) ≡ o → o ≡ None
      go None p = refl
      go (Some m) p =
          let q = s.owned (suc (n + w)) m p in
          let r : owner old.owners (suc (m + q.0)) ≡ Some m = ap (owner old.owners) (sym q.1) ∙ p in
          let t : live_upload_in m q.0 h ≡ true = sym (s.uploads m q.0) ∙ (ap (is_this m) r ∙ eq-eqb m m refl) in
          let x = counted m q.0 h (upload_within m q.0 h t) in
          let y = q.1 in
          let z = far in
          absurd (omega arith)

  live_more : own_live_in (Called n c ∷ h) ≡ own_live_in h + (one_if (has_id (Some c)) + length c.streams)
  live_more =
      let a = own_between h (Called n c ∷ h) n (max (drawn_in h) (n + length c.streams)) (omega arith) (omega arith) (omega arith) s.fresh fresh_all others in
      let x = ap one_if f.idle in
      let y = count_none (stream_count (call_in n h)) (λ w. live_upload_in n w h) f.no_uploads in
      let z = ap one_if f.lives in
      let v : live_uploads_in n (Called n c ∷ h) ≡ length c.streams =
      ap (λ b. count_below (stream_count (if b then Some c else call_in n h)) (λ w. live_upload_in n w (Called n c ∷ h))) (eq-eqb n n refl)
      ∙ count_all (length c.streams) (λ w. live_upload_in n w (Called n c ∷ h)) (λ w l. f.uploads_live w ∙ lt-ltb w (length c.streams) l) in
      omega arith
    where
      fresh_all : (j : ℕ) → max (drawn_in h) (n + length c.streams) < j → IsFresh j (Called n c ∷ h)
      fresh_all j l = same_fresh j h (Called n c ∷ h) (others j (λ z. omega arith)) (s.fresh j (omega arith))

  bare_all : (has_id (call_in 0 (Called n c ∷ h)) ≡ false) × (stream_count (call_in 0 (Called n c ∷ h)) ≡ 0)
  bare_all = go (0 == n) refl
    where
      go : (b : Bool) → (0 == n) ≡ b → (has_id (if b then Some c else call_in 0 h) ≡ false) × (stream_count (if b then Some c else call_in 0 h) ≡ 0)
      go true p = plain (sym (eqb-true 0 n p))
      go false p = s.bare

  pub begun : Stands new prefix (Called n c ∷ h)
  begun = record {
    draws_with = e.ids ∙ s.draws_with;
    drawn = let a = e.drawn in let b = s.drawn in omega arith;
    within = let a = s.within in omega arith;
    calls = calls_all;
    uploads = uploads_all;
    owned = owned_all;
    size =
        let a = e.calls_size (s.calls n ∙ kind_dead n h f.idle) in
        let b = e.uploads_begin.size unowned in
        let d = s.size in
        let l = live_more in
        let x = ap one_if answered in
        omega arith;
    few_live = let l = live_more in let p = new_live-parts c in omega arith;
    fresh = λ j l. same_fresh j h (Called n c ∷ h) (others j (λ z. omega (arith, l, z))) (s.fresh j (omega (arith, l)));
    few = λ j. few_at j (cases_eq j n);
    bare = bare_all;
    ledgers = λ j l. ledger_at j l (cases_eq j n);
    streams = s.streams;
  }
    where
      ledger_at : (j : ℕ) → 0 < j → (j ≡ n) ⊎ (j ≡ n → ⊥) → HasLedger j (Called n c ∷ h)
      ledger_at j l (inl z) =
          let q = f.silent (omega (arith, l, z)) in
          subst (λ i. HasLedger i (Called n c ∷ h)) (sym z) (ledger_called n c h q.unheard q.ungiven q.unlost)
      ledger_at j l (inr o) = ledger_same j h (Called n c ∷ h) (others j o) (s.ledgers j l)

      few_at : (j : ℕ) → (j ≡ n) ⊎ (j ≡ n → ⊥) → stream_count (call_in j (Called n c ∷ h)) ≤ most_uploads
      few_at j (inl z) = let p = ap (λ b. stream_count (if b then Some c else call_in j h)) (eq-eqb j n z) in omega arith
      few_at j (inr o) = same_count j h (Called n c ∷ h) (others j o) most_uploads (s.few j)
