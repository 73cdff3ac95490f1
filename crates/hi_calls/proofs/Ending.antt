-- A table out of which a call was taken stands for happenings in which that call isn't live.
use Rattle.hi_calls.proofs.Legal.{ledger_goes_on, ledger_same}
use Rattle.hi_calls.specs.Legal.{HasLedger}
use Rattle.std.proofs.Common.{◌≡◌, ℕ, suc, ◌<◌, ◌≤◌, ◌⊎◌, inl, inr, Bool, true, false, List, [], ◌∷◌, ◌++◌, Option, Some, None, refl, sym, ap, ◌∙◌, subst, arith}
use Rattle.std.specs.Prelude.{◌+◌, ◌==◌, ◌&&◌, ◌||◌, not, nat_lt, nat_eq, is_some, if◌then◌else◌}
use Rattle.std.specs.HashMap.{get, hash_map_len}
use Rattle.std.proofs.lemmas.Bool.{cases_eq, cases_lt, eqb-true, eq-eqb, ne_eqb, lt-ltb, and_parts, and_right, or_right}
use Rattle.hm_message.specs.declared.message.Ending.{Ending}
use Rattle.hd_delivery.specs.Histories.{is_this}
use Rattle.hd_calls.specs.Numbers.{most_uploads}
use Rattle.hd_calls.specs.Hubs.{Invoked, End}
use Rattle.hd_calls.specs.Ledgers.{CallHappening, Called, Got, Gone, IsLegal}
use Rattle.hd_calls.specs.Peers.{has_end, has_id, stream_count}
use Rattle.hd_calls.specs.Tables.{drawn_in, call_in, given_in, lost_in, uploaded_in, live_call_in, live_upload_in, live_uploads_in, own_live_in}
use Rattle.hi_calls.specs.declared.calls.Calls.{Calls}
use Rattle.hi_calls.specs.Maps.{owner, owns, is_upload_number, owner_after_end, owned_below, one_if, EndsUploads}
use Rattle.hi_calls.specs.Stands.{live_kind, IsFresh, Stands}
use Rattle.hi_calls.proofs.Counts.{count_same, count_none, count_to}
use Rattle.hi_calls.proofs.Happenings.{live_from, SameAt, same_back, same_kind, same_upload, same_fresh, apart_called, apart_got, apart_gone, fresh_live, fresh_upload, upload_within, upload_beyond, kind_dead, is_some_kind, over_with_call, has_end_end, own_between}
use Rattle.hi_calls.proofs.Beginning.{number-own}

-- of the happenings h, those of the call n are over in g, or never were, and the others are the same
pub record IsOver (n : ℕ) (h g : List CallHappening) : Type 0 where
  pub number : n ≤ drawn_in h
  pub drawn : drawn_in g ≤ drawn_in h
  pub others : (k : ℕ) → (k ≡ n → ⊥) → SameAt k h g
  pub dead : live_call_in n g ≡ false
  pub no_uploads : (w : ℕ) → live_upload_in n w g ≡ false
  pub fresh : (k : ℕ) → drawn_in g < k → IsFresh k g
  pub few : (k : ℕ) → stream_count (call_in k g) ≤ most_uploads
  pub bare : (has_id (call_in 0 g) ≡ false) × (stream_count (call_in 0 g) ≡ 0)
  pub ledgers : (k : ℕ) → 0 < k → HasLedger k g
  pub streams : (k w : ℕ) → IsLegal true (uploaded_in k w g)

-- who doesn't own a number doesn't after an end
other_owner : (j n : ℕ) (t : Bool) (o : Option ℕ) → (j ≡ n → ⊥) → is_this j (if t && is_this n o then None else o) ≡ is_this j o
other_owner j n true None f = refl
other_owner j n false None f = refl
other_owner j n false (Some m) f = refl
other_owner j n true (Some m) f = go (n == m) refl
  where
    go : (b : Bool) → (n == m) ≡ b → is_this j (if b then None else Some m) ≡ is_this j (Some m)
    go true p = sym (ne_eqb j m (λ z. f (z ∙ sym (eqb-true n m p))))
    go false p = refl

-- and who does has no upload left
own_ended : (n : ℕ) (t : Bool) (o : Option ℕ) → (is_this n o ≡ true → t ≡ true) → is_this n (if t && is_this n o then None else o) ≡ false
own_ended n t o f = go (is_this n o) refl
  where
    go : (b : Bool) → is_this n o ≡ b → is_this n (if t && b then None else o) ≡ false
    go true p = ap (λ x. is_this n (if x && true then None else o)) (f p)
    go false p = ap (λ x. is_this n (if x then None else o)) (and_right t false refl) ∙ p

still_owned : (t : Bool) (o : Option ℕ) (m : ℕ) → (if t then None else o) ≡ Some m → o ≡ Some m
still_owned true o m e = absurd (let z : ◌≡◌ {A = Option ℕ} None (Some m) = e in cc)
still_owned false o m e = e

module _ (old new : Calls) (prefix : List ℕ) (h g : List CallHappening) (n : ℕ) (s : Stands old prefix h)
    (same_ids : new.ids.prefix ≡ old.ids.prefix) (drawn_now : new.drawn ≡ drawn_in g)
    (call : (j : ℕ) → get nat_eq new.calls j ≡ (if n == j then None else get nat_eq old.calls j))
    (calls_size : hash_map_len new.calls + one_if (is_some (get nat_eq old.calls n)) ≡ hash_map_len old.calls)
    (ends : EndsUploads old.owners new.owners n most_uploads) (o : IsOver n h g) where
  calls_all : (j : ℕ) → get nat_eq new.calls j ≡ live_kind j g
  calls_all j = call j ∙ go (cases_eq j n)
    where
      go : (j ≡ n) ⊎ (j ≡ n → ⊥) → (if n == j then None else get nat_eq old.calls j) ≡ live_kind j g
      go (inl z) =
          ap (λ b. if b then None else get nat_eq old.calls j) (eq-eqb n j (sym z))
          ∙ sym (subst (λ i. live_kind i g ≡ None) (sym z) (kind_dead n g o.dead))
      go (inr f) =
          ap (λ b. if b then None else get nat_eq old.calls j) (ne_eqb n j (λ z. f (sym z)))
          ∙ (s.calls j ∙ sym (same_kind j h g (o.others j f)))

  uploads_all : (j w : ℕ) → owns new.owners j w ≡ live_upload_in j w g
  uploads_all j w = ap (is_this j) (ends.owner_of (suc (j + w))) ∙ go (cases_eq j n)
    where
      here : (w : ℕ) → is_this n (owner_after_end n most_uploads (suc (n + w)) (owner old.owners (suc (n + w)))) ≡ false
      here w =
          own_ended n (is_upload_number n most_uploads (suc (n + w))) (owner old.owners (suc (n + w)))
          (λ p. let l = upload_within n w h (sym (s.uploads n w) ∙ p) in
          let m = s.few n in
          number-own n most_uploads w ∙ lt-ltb w most_uploads (omega arith))

      go : (j ≡ n) ⊎ (j ≡ n → ⊥) → is_this j (owner_after_end n most_uploads (suc (j + w)) (owner old.owners (suc (j + w)))) ≡ live_upload_in j w g
      go (inl z) =
          subst (λ i. is_this i (owner_after_end n most_uploads (suc (i + w)) (owner old.owners (suc (i + w)))) ≡ live_upload_in i w g) (sym z) (here w ∙ sym (o.no_uploads w))
      go (inr f) =
          other_owner j n (is_upload_number n most_uploads (suc (j + w))) (owner old.owners (suc (j + w))) f
          ∙ (s.uploads j w ∙ sym (same_upload j h g (o.others j f) w))

  owned_all : (k m : ℕ) → owner new.owners k ≡ Some m → (w : ℕ) × (k ≡ suc (m + w))
  owned_all k m e = s.owned k m (still_owned (is_upload_number n most_uploads k && is_this n (owner old.owners k)) (owner old.owners k) m (sym (ends.owner_of k) ∙ e))

  live_less : own_live_in g + (one_if (live_call_in n h) + live_uploads_in n h) ≡ own_live_in h
  live_less =
      let a = own_between h g n (drawn_in h) (omega arith) o.drawn o.number s.fresh o.fresh o.others in
      let x = ap one_if o.dead in
      let y = count_none (stream_count (call_in n g)) (λ w. live_upload_in n w g) o.no_uploads in
      omega arith

  pub removed : Stands new prefix g
  removed = record {
    draws_with = same_ids ∙ s.draws_with;
    drawn = drawn_now;
    within = let a = s.within in let b = o.drawn in omega arith;
    calls = calls_all;
    uploads = uploads_all;
    owned = owned_all;
    size =
        let a = calls_size in
        let b = ends.size in
        let d = s.size in
        let l = live_less in
        let x = ap one_if (ap is_some (s.calls n) ∙ is_some_kind n h) in
        let y : owned_below old.owners n most_uploads ≡ live_uploads_in n h =
        count_same most_uploads (λ w. owns old.owners n w) (λ w. live_upload_in n w h) (λ w l. s.uploads n w)
        ∙ count_to (stream_count (call_in n h)) most_uploads (λ w. live_upload_in n w h) (s.few n) (λ w l. upload_beyond n w h l) in
        omega arith;
    few_live = let l = live_less in let m = s.few_live in omega arith;
    fresh = o.fresh;
    few = o.few;
    bare = o.bare;
    ledgers = o.ledgers;
    streams = o.streams;
  }

-- ---- what makes a call be over

-- nothing live has a number that wasn't drawn
pub live_drawn : (table : Calls) (prefix : List ℕ) (h : List CallHappening) (n : ℕ) → Stands table prefix h → live_call_in n h ≡ true → n ≤ drawn_in h
live_drawn table prefix h n s e = go (cases_lt (drawn_in h) n)
  where
    go : (drawn_in h < n) ⊎ (n ≤ drawn_in h) → n ≤ drawn_in h
    go (inl l) = absurd (let z = fresh_live n h (s.fresh n l) in let y : true ≡ false = sym e ∙ z in cc)
    go (inr l) = l

live_id : (n : ℕ) (h : List CallHappening) → live_call_in n h ≡ true → has_id (call_in n h) ≡ true
live_id n h e = (and_parts (has_id (call_in n h)) (not (has_end (given_in n h)) && not (lost_in n h)) e).0

module _ (table : Calls) (prefix : List ℕ) (h : List CallHappening) (n : ℕ) (s : Stands table prefix h) (live : live_call_in n h ≡ true) where
  apart_fresh : (k : ℕ) → drawn_in h < k → k ≡ n → ⊥
  apart_fresh k l z = let d = live_drawn table prefix h n s live in omega arith

  -- its ending came
  pub over_got : (e : Ending) → IsOver n h (Got n (End e) ∷ h)
  over_got e = record {
    number = live_drawn table prefix h n s live;
    drawn = omega arith;
    others = λ k f. apart_got k n (End e) h f;
    dead = dead;
    no_uploads = λ w. over_with_call (call_in n h) (live_call_in n (Got n (End e) ∷ h)) (nat_lt w (stream_count (call_in n h)) && not (has_end (uploaded_in n w h))) (live_id n h live) dead;
    fresh = λ k l. same_fresh k h (Got n (End e) ∷ h) (apart_got k n (End e) h (apart_fresh k l)) (s.fresh k l);
    few = s.few;
    bare = s.bare;
    ledgers = λ k l. ledger_at k l (cases_eq k n);
    streams = s.streams;
  }
    where
      ledger_at : (k : ℕ) → 0 < k → (k ≡ n) ⊎ (k ≡ n → ⊥) → HasLedger k (Got n (End e) ∷ h)
      ledger_at k l (inl z) =
          subst (λ i. HasLedger i (Got n (End e) ∷ h)) (sym z)
          (ledger_goes_on n h (Got n (End e)) refl (s.ledgers n (omega (arith, l, z))) live refl (λ c _ i. i)
          (sym (ap (λ b. has_end (if b then given_in n h ++ End e ∷ [] else given_in n h) || lost_in n h) (eq-eqb n n refl)
          ∙ ap (λ b. b || lost_in n h) (has_end_end (given_in n h) e))))
      ledger_at k l (inr f) = ledger_same k h (Got n (End e) ∷ h) (apart_got k n (End e) h f) (s.ledgers k l)

      dead : live_call_in n (Got n (End e) ∷ h) ≡ false
      dead =
          ap (λ b. live_from (call_in n h) (if b then given_in n h ++ End e ∷ [] else given_in n h) (lost_in n h)) (eq-eqb n n refl)
          ∙ (ap (λ b. has_id (call_in n h) && (not b && not (lost_in n h))) (has_end_end (given_in n h) e) ∙ and_right (has_id (call_in n h)) false refl)

  -- it is lost
  pub over_gone : IsOver n h (Gone n ∷ h)
  over_gone = record {
    number = live_drawn table prefix h n s live;
    drawn = omega arith;
    others = λ k f. apart_gone k n h f;
    dead = dead;
    no_uploads = λ w. over_with_call (call_in n h) (live_call_in n (Gone n ∷ h)) (nat_lt w (stream_count (call_in n h)) && not (has_end (uploaded_in n w h))) (live_id n h live) dead;
    fresh = λ k l. same_fresh k h (Gone n ∷ h) (apart_gone k n h (apart_fresh k l)) (s.fresh k l);
    few = s.few;
    bare = s.bare;
    ledgers = λ k l. ledger_at k l (cases_eq k n);
    streams = s.streams;
  }
    where
      ledger_at : (k : ℕ) → 0 < k → (k ≡ n) ⊎ (k ≡ n → ⊥) → HasLedger k (Gone n ∷ h)
      ledger_at k l (inl z) =
          subst (λ i. HasLedger i (Gone n ∷ h)) (sym z)
          (ledger_goes_on n h (Gone n) refl (s.ledgers n (omega (arith, l, z))) live refl (λ c _ i. i)
          (sym (ap (λ b. has_end (given_in n h) || (b || lost_in n h)) (eq-eqb n n refl) ∙ or_right (has_end (given_in n h)) true refl)))
      ledger_at k l (inr f) = ledger_same k h (Gone n ∷ h) (apart_gone k n h f) (s.ledgers k l)

      dead : live_call_in n (Gone n ∷ h) ≡ false
      dead =
          ap (λ b. live_from (call_in n h) (given_in n h) (b || lost_in n h)) (eq-eqb n n refl)
          ∙ (ap (λ b. has_id (call_in n h) && b) (and_right (not (has_end (given_in n h))) false refl) ∙ and_right (has_id (call_in n h)) false refl)

-- it was never called: the happenings before the call
pub over_undone : (before : Calls) (prefix : List ℕ) (h : List CallHappening) (c : Invoked) (n : ℕ) → Stands before prefix h → n ≡ suc (drawn_in h)
    → IsOver n (Called n c ∷ h) h
over_undone before prefix h c n s e = record {
  number = omega arith;
  drawn = omega arith;
  others = λ k f. same_back k h (Called n c ∷ h) (apart_called k n c h f);
  dead = fresh_live n h (s.fresh n (omega arith));
  no_uploads = λ w. fresh_upload n w h (s.fresh n (omega arith));
  fresh = s.fresh;
  few = s.few;
  bare = s.bare;
  ledgers = s.ledgers;
  streams = s.streams;
}
