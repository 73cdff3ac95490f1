-- What makes nothing live, and nothing not live, leaves what a table stands for. An upload's end is the one that takes a single number out.
use Rattle.hi_calls.proofs.Legal.{ledger_goes_on, ledger_same, ledger_uploads, live_open, stream_uploaded}
use Rattle.hi_calls.specs.Legal.{HasLedger}
use Rattle.std.proofs.Common.{◌≡◌, ℕ, suc, ◌<◌, ◌≤◌, ◌⊎◌, inl, inr, Bool, true, false, List, [], ◌∷◌, ◌++◌, length, Option, Some, None, refl, sym, ap, ◌∙◌, subst, arith}
use Rattle.std.specs.Prelude.{◌+◌, ◌==◌, ◌&&◌, ◌||◌, not, nat_lt, nat_eq, if◌then◌else◌}
use Rattle.std.specs.HashMap.{get, hash_map_len}
use Rattle.std.specs.Map.{lookup}
use Rattle.std.proofs.lemmas.Bool.{cases_eq, eqb-true, eq-eqb, ne_eqb, and_right, and_parts, not-true}
use Rattle.hv_value.specs.declared.value.Value.{Value}
use Rattle.hm_message.specs.declared.message.Ending.{Ending}
use Rattle.hd_delivery.specs.Histories.{is_this}
use Rattle.hd_calls.specs.Hubs.{Answer, Item, End}
use Rattle.hd_calls.specs.Rules.{count_below, sum_below}
use Rattle.hd_calls.specs.Ledgers.{CallHappening, Got, Uploaded, Stopped, IsLegal}
use Rattle.hd_calls.specs.Peers.{has_end, has_id, streams_items, stream_count}
use Rattle.hd_calls.specs.Tables.{drawn_in, call_in, given_in, lost_in, uploaded_in, live_call_in, live_upload_in, own_live_in}
use Rattle.hi_calls.specs.declared.calls.Calls.{Calls}
use Rattle.hi_calls.specs.declared.ids.Ids.{Ids}
use Rattle.hi_calls.specs.Maps.{owner, owns, one_if, HoldsTheSame}
use Rattle.hi_calls.specs.Stands.{IsFresh, Stands}
use Rattle.hi_calls.proofs.Counts.{count_flip}
use Rattle.hi_calls.proofs.Happenings.{SameAt, same_upload, same_fresh, apart_got, apart_uploaded, upload_within, counted, has_end_item, has_end_end, own_between, apart_stopped}
use Rattle.hi_calls.proofs.Ending.{live_drawn}

-- the same maps in another room
pub same_table : (old new : Calls) (prefix : List ℕ) (h : List CallHappening) → HoldsTheSame old new → Stands old prefix h → Stands new prefix h
same_table old new prefix h t s = record {
  draws_with = t.ids ∙ s.draws_with;
  drawn = t.drawn ∙ s.drawn;
  within = s.within;
  calls = λ n. ap (λ es. lookup (nat_eq n) es) t.calls ∙ s.calls n;
  uploads = λ n w. ap (λ es. is_this n (lookup (nat_eq (suc (n + w))) es)) t.owners ∙ s.uploads n w;
  owned = λ k n e. s.owned k n (sym (ap (λ es. lookup (nat_eq k) es) t.owners) ∙ e);
  size = let a = ap (λ es. length es) t.calls in let b = ap (λ es. length es) t.owners in let d = s.size in omega arith;
  few_live = s.few_live;
  fresh = s.fresh;
  few = s.few;
  bare = s.bare;
  ledgers = s.ledgers;
  streams = s.streams;
}

-- happenings in which the same is live
pub unmoved : (table : Calls) (prefix : List ℕ) (h g : List CallHappening) → Stands table prefix h → drawn_in g ≡ drawn_in h
    → ((k : ℕ) → call_in k g ≡ call_in k h) → ((k : ℕ) → live_call_in k g ≡ live_call_in k h) → ((k w : ℕ) → live_upload_in k w g ≡ live_upload_in k w h)
    → ((k : ℕ) → drawn_in h < k → IsFresh k g) → ((k : ℕ) → 0 < k → HasLedger k g) → ((k w : ℕ) → IsLegal true (uploaded_in k w g)) → Stands table prefix g
unmoved table prefix h g s drawn call live upload fresh ledgers streams = record {
  draws_with = s.draws_with;
  drawn = s.drawn ∙ sym drawn;
  within = let a = s.within in omega arith;
  calls = λ n. s.calls n ∙ sym (λ i. if live n i then Some (streams_items (call n i)) else None);
  uploads = λ n w. s.uploads n w ∙ sym (upload n w);
  owned = s.owned;
  size = s.size ∙ sym same_number;
  few_live = let a = s.few_live in let b = same_number in omega arith;
  fresh = λ k l. fresh k (omega arith);
  few = λ k. let a = s.few k in let b = ap stream_count (call k) in omega arith;
  bare = (ap has_id (call 0) ∙ s.bare.0, ap stream_count (call 0) ∙ s.bare.1);
  ledgers = ledgers;
  streams = streams;
}
  where
    same_number : own_live_in g ≡ own_live_in h
    same_number = λ i. count_below (suc (drawn i)) (λ n. live n i) + sum_below (suc (drawn i)) (λ n. count_below (stream_count (call n i)) (λ w. upload n w i))

end_of_item : (b : Bool) (xs : List Answer) (v : Value) → has_end (if b then xs ++ Item v ∷ [] else xs) ≡ has_end xs
end_of_item true xs v = has_end_item xs v
end_of_item false xs v = refl

upload_drawn : (table : Calls) (prefix : List ℕ) (h : List CallHappening) (n w : ℕ) → live_upload_in n w h ≡ true → n ≤ drawn_in h
upload_drawn table prefix h n w e = let l = counted n w h (upload_within n w h e) in omega arith

-- an item came
pub got_item : (table : Calls) (prefix : List ℕ) (h : List CallHappening) (n : ℕ) (v : Value) → Stands table prefix h → live_call_in n h ≡ true → streams_items (call_in n h) ≡ true
    → Stands table prefix (Got n (Item v) ∷ h)
got_item table prefix h n v s e t =
    unmoved table prefix h (Got n (Item v) ∷ h) s refl (λ k. refl) live
    (λ k w. ap (λ b. (nat_lt w (stream_count (call_in k h)) && not (has_end (uploaded_in k w h))) && (b || not (has_id (call_in k h)))) (live k))
    (λ k l. same_fresh k h (Got n (Item v) ∷ h) (apart_got k n (Item v) h (λ z. let d = live_drawn table prefix h n s e in omega arith)) (s.fresh k l))
    (λ k l. ledger_at k l (cases_eq k n))
    s.streams
  where
    ledger_at : (k : ℕ) → 0 < k → (k ≡ n) ⊎ (k ≡ n → ⊥) → HasLedger k (Got n (Item v) ∷ h)
    ledger_at k l (inl z) =
        subst (λ i. HasLedger i (Got n (Item v) ∷ h)) (sym z)
        (ledger_goes_on n h (Got n (Item v)) refl (s.ledgers n (omega (arith, l, z))) e refl (λ c is _. sym (ap streams_items is) ∙ t)
        (sym (ap (λ b. b || lost_in n h) (end_of_item (n == n) (given_in n h) v) ∙ live_open n h e)))
    ledger_at k l (inr f) = ledger_same k h (Got n (Item v) ∷ h) (apart_got k n (Item v) h f) (s.ledgers k l)

    live : (k : ℕ) → live_call_in k (Got n (Item v) ∷ h) ≡ live_call_in k h
    live k = ap (λ b. has_id (call_in k h) && (not b && not (lost_in k h))) (end_of_item (k == n) (given_in k h) v)

-- the call of a live upload isn't over, and neither is the upload
upload_parts : (n w : ℕ) (h : List CallHappening) → live_upload_in n w h ≡ true
    → ((live_call_in n h || not (has_id (call_in n h))) ≡ true) × (has_end (uploaded_in n w h) ≡ false) × (call_in n h ≡ None → ⊥)
upload_parts n w h e =
    let a = and_parts (nat_lt w (stream_count (call_in n h)) && not (has_end (uploaded_in n w h))) (live_call_in n h || not (has_id (call_in n h))) e in
    let b = and_parts (nat_lt w (stream_count (call_in n h))) (not (has_end (uploaded_in n w h))) a.0 in
    let l = upload_within n w h e in
    (a.1, not-true (has_end (uploaded_in n w h)) b.1, λ none. let z = ap stream_count none in omega arith)

uploaded_ledgers : (table : Calls) (prefix : List ℕ) (h : List CallHappening) (n w : ℕ) (a : Answer) → Stands table prefix h → live_upload_in n w h ≡ true
    → (k : ℕ) → 0 < k → HasLedger k (Uploaded n w a ∷ h)
uploaded_ledgers table prefix h n w a s e k l = go (cases_eq k n)
  where
    go : (k ≡ n) ⊎ (k ≡ n → ⊥) → HasLedger k (Uploaded n w a ∷ h)
    go (inl z) =
        let p = upload_parts n w h e in
        subst (λ i. HasLedger i (Uploaded n w a ∷ h)) (sym z) (ledger_uploads n w a h (s.ledgers n (omega (arith, l, z))) p.0 p.2)
    go (inr f) = ledger_same k h (Uploaded n w a ∷ h) (apart_uploaded k n w a h f) (s.ledgers k l)

-- an item was uploaded
pub uploaded_item : (table : Calls) (prefix : List ℕ) (h : List CallHappening) (n w : ℕ) (v : Value) → Stands table prefix h → live_upload_in n w h ≡ true
    → Stands table prefix (Uploaded n w (Item v) ∷ h)
uploaded_item table prefix h n w v s e =
    unmoved table prefix h (Uploaded n w (Item v) ∷ h) s refl (λ k. refl) (λ k. refl)
    (λ k u. ap (λ b. (nat_lt u (stream_count (call_in k h)) && not b) && (live_call_in k h || not (has_id (call_in k h)))) (end_of_item ((k == n) && (u == w)) (uploaded_in k u h) v))
    (λ k l. same_fresh k h (Uploaded n w (Item v) ∷ h) (apart_uploaded k n w (Item v) h (λ z. let d = upload_drawn table prefix h n w e in omega arith)) (s.fresh k l))
    (uploaded_ledgers table prefix h n w (Item v) s e)
    (stream_uploaded n w (Item v) h s.streams (upload_parts n w h e).1)

-- a call was cancelled
pub stopped : (table : Calls) (prefix : List ℕ) (h : List CallHappening) (n : ℕ) → Stands table prefix h → live_call_in n h ≡ true → Stands table prefix (Stopped n ∷ h)
stopped table prefix h n s e =
    unmoved table prefix h (Stopped n ∷ h) s refl (λ k. refl) (λ k. refl) (λ k w. refl)
    (λ k l. same_fresh k h (Stopped n ∷ h) (apart_stopped k n h (λ z. let d = live_drawn table prefix h n s e in omega arith)) (s.fresh k l))
    (λ k l. ledger_at k l (cases_eq k n))
    s.streams
  where
    ledger_at : (k : ℕ) → 0 < k → (k ≡ n) ⊎ (k ≡ n → ⊥) → HasLedger k (Stopped n ∷ h)
    ledger_at k l (inl z) =
        subst (λ i. HasLedger i (Stopped n ∷ h)) (sym z) (ledger_goes_on n h (Stopped n) refl (s.ledgers n (omega (arith, l, z))) e refl (λ c _ i. i) (sym (live_open n h e)))
    ledger_at k l (inr f) = ledger_same k h (Stopped n ∷ h) (apart_stopped k n h f) (s.ledgers k l)

-- ---- the end of an upload

owned_by : (n : ℕ) (o : Option ℕ) → is_this n o ≡ true → o ≡ Some n
owned_by n None e = absurd (let z : false ≡ true = e in cc)
owned_by n (Some m) e = ap Some (sym (eqb-true n m e))

module _ (old new : Calls) (prefix : List ℕ) (h : List CallHappening) (n w : ℕ) (e : Ending) (s : Stands old prefix h) (live : live_upload_in n w h ≡ true)
    (same_ids : new.ids ≡ old.ids) (same_drawn : new.drawn ≡ old.drawn) (same_calls : new.calls ≡ old.calls)
    (ended : (k : ℕ) → owner new.owners k ≡ (if nat_eq (suc (n + w)) k && owns old.owners n w then None else owner old.owners k))
    (owners_size : hash_map_len new.owners.calls + one_if (owns old.owners n w) ≡ hash_map_len old.owners.calls) where
  there : owns old.owners n w ≡ true
  there = s.uploads n w ∙ live

  others : (k : ℕ) → (k ≡ n → ⊥) → SameAt k h (Uploaded n w (End e) ∷ h)
  others k f = apart_uploaded k n w (End e) h f

  fresh_all : (k : ℕ) → drawn_in h < k → IsFresh k (Uploaded n w (End e) ∷ h)
  fresh_all k l = same_fresh k h (Uploaded n w (End e) ∷ h) (others k (λ z. let d = upload_drawn old prefix h n w live in omega arith)) (s.fresh k l)

  -- the one that ended isn't live, and its neighbours are as they were
  own_dead : live_upload_in n w (Uploaded n w (End e) ∷ h) ≡ false
  own_dead =
      ap (λ b. (nat_lt w (stream_count (call_in n h)) && not (has_end (if b && (w == w) then uploaded_in n w h ++ End e ∷ [] else uploaded_in n w h))) && (live_call_in n h || not (has_id (call_in n h)))) (eq-eqb n n refl)
      ∙ (ap (λ b. (nat_lt w (stream_count (call_in n h)) && not (has_end (if b then uploaded_in n w h ++ End e ∷ [] else uploaded_in n w h))) && (live_call_in n h || not (has_id (call_in n h)))) (eq-eqb w w refl)
      ∙ (ap (λ b. (nat_lt w (stream_count (call_in n h)) && not b) && (live_call_in n h || not (has_id (call_in n h)))) (has_end_end (uploaded_in n w h) e)
      ∙ ap (λ b. b && (live_call_in n h || not (has_id (call_in n h)))) (and_right (nat_lt w (stream_count (call_in n h))) false refl)))

  neighbour : (u : ℕ) → (u ≡ w → ⊥) → live_upload_in n u (Uploaded n w (End e) ∷ h) ≡ live_upload_in n u h
  neighbour u f =
      ap (λ b. (nat_lt u (stream_count (call_in n h)) && not (has_end (if b then uploaded_in n u h ++ End e ∷ [] else uploaded_in n u h))) && (live_call_in n h || not (has_id (call_in n h))))
      (ap (λ b. (n == n) && b) (ne_eqb u w f) ∙ and_right (n == n) false refl)

  kept : (j u : ℕ) → (suc (n + w) ≡ suc (j + u) → ⊥) → live_upload_in j u (Uploaded n w (End e) ∷ h) ≡ live_upload_in j u h
  kept j u f = go (cases_eq j n)
    where
      go : (j ≡ n) ⊎ (j ≡ n → ⊥) → live_upload_in j u (Uploaded n w (End e) ∷ h) ≡ live_upload_in j u h
      go (inl z) = subst (λ i. live_upload_in i u (Uploaded n w (End e) ∷ h) ≡ live_upload_in i u h) (sym z) (neighbour u (λ y. f (omega arith)))
      go (inr g) = same_upload j h (Uploaded n w (End e) ∷ h) (others j g) u

  gone : (j u : ℕ) → suc (n + w) ≡ suc (j + u) → live_upload_in j u (Uploaded n w (End e) ∷ h) ≡ false
  gone j u z = go (cases_eq j n)
    where
      go : (j ≡ n) ⊎ (j ≡ n → ⊥) → live_upload_in j u (Uploaded n w (End e) ∷ h) ≡ false
      go (inl y) =
          let v : u ≡ w = omega arith in
          subst (λ i. live_upload_in i u (Uploaded n w (End e) ∷ h) ≡ false) (sym y) (subst (λ i. live_upload_in n i (Uploaded n w (End e) ∷ h) ≡ false) (sym v) own_dead)
      go (inr g) =
          same_upload j h (Uploaded n w (End e) ∷ h) (others j g) u
          ∙ (sym (s.uploads j u) ∙ (ap (λ k. is_this j (owner old.owners k)) (sym z)
          ∙ (ap (is_this j) (owned_by n (owner old.owners (suc (n + w))) there) ∙ ne_eqb j n g)))

  uploads_all : (j u : ℕ) → owns new.owners j u ≡ live_upload_in j u (Uploaded n w (End e) ∷ h)
  uploads_all j u = ap (is_this j) (ended (suc (j + u))) ∙ (ap (λ b. is_this j (if nat_eq (suc (n + w)) (suc (j + u)) && b then None else owner old.owners (suc (j + u)))) there ∙ go (cases_eq (suc (n + w)) (suc (j + u))))
    where
      go : (suc (n + w) ≡ suc (j + u)) ⊎ (suc (n + w) ≡ suc (j + u) → ⊥)
          → is_this j (if nat_eq (suc (n + w)) (suc (j + u)) && true then None else owner old.owners (suc (j + u))) ≡ live_upload_in j u (Uploaded n w (End e) ∷ h)
      go (inl z) =
          ap (λ b. is_this j (if b && true then None else owner old.owners (suc (j + u)))) (eq-eqb (suc (n + w)) (suc (j + u)) z) ∙ sym (gone j u z)
      go (inr f) =
          ap (λ b. is_this j (if b && true then None else owner old.owners (suc (j + u)))) (ne_eqb (suc (n + w)) (suc (j + u)) f)
          ∙ (s.uploads j u ∙ sym (kept j u f))

  still_owned : (t : Bool) (o : Option ℕ) (m : ℕ) → (if t then None else o) ≡ Some m → o ≡ Some m
  still_owned true o m z = absurd (let y : ◌≡◌ {A = Option ℕ} None (Some m) = z in cc)
  still_owned false o m z = z

  live_less : own_live_in (Uploaded n w (End e) ∷ h) + 1 ≡ own_live_in h
  live_less =
      let d = upload_drawn old prefix h n w live in
      let a = own_between h (Uploaded n w (End e) ∷ h) n (drawn_in h) (omega arith) (omega arith) d s.fresh fresh_all others in
      let b = count_flip (stream_count (call_in n h)) w (λ u. live_upload_in n u (Uploaded n w (End e) ∷ h)) (λ u. live_upload_in n u h) (upload_within n w h live) neighbour in
      let x = ap one_if live in
      let y = ap one_if own_dead in
      omega arith

  pub upload_ended : Stands new prefix (Uploaded n w (End e) ∷ h)
  upload_ended = record {
    draws_with = ap (λ (i : Ids). i.prefix) same_ids ∙ s.draws_with;
    drawn = same_drawn ∙ s.drawn;
    within = s.within;
    calls = λ k. ap (λ m. get nat_eq m k) same_calls ∙ s.calls k;
    uploads = uploads_all;
    owned = λ k m z. s.owned k m (still_owned (nat_eq (suc (n + w)) k && owns old.owners n w) (owner old.owners k) m (sym (ended k) ∙ z));
    size =
        let a = owners_size in
        let b = ap one_if there in
        let d = s.size in
        let l = live_less in
        let x = ap (λ m. hash_map_len m) same_calls in
        omega arith;
    few_live = let l = live_less in let m = s.few_live in omega arith;
    fresh = fresh_all;
    few = s.few;
    bare = s.bare;
    ledgers = uploaded_ledgers old prefix h n w (End e) s live;
    streams = stream_uploaded n w (End e) h s.streams (upload_parts n w h live).1;
  }
