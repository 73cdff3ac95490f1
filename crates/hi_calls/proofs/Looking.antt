-- What a look-up by an id or a number says of the calls.
use Rattle.std.proofs.Common.{◌≡◌, ℕ, ◌<◌, ◌≤◌, ◌⊎◌, inl, inr, Bool, true, false, List, Option, Some, None, refl, sym, ap, ◌∙◌, subst, arith}
use Rattle.std.specs.Prelude.{suc, ◌+◌, ◌&&◌, nat_le, nat_eq, is_some, if◌then◌else◌}
use Rattle.std.specs.HashMap.{get}
use Rattle.std.proofs.lemmas.Bool.{false_from_ne_true, cases_lt, le-leb, lt-leb}
use Rattle.hd_calls.specs.Numbers.{most_numbers}
use Rattle.hd_calls.specs.Ledgers.{CallHappening}
use Rattle.hd_calls.specs.Peers.{streams_items}
use Rattle.hd_calls.specs.Tables.{call_in, live_call_in, live_upload_in}
use Rattle.hi_calls.specs.declared.calls.Calls.{Calls}
use Rattle.hi_calls.specs.Numbering.{id_with}
use Rattle.hi_calls.specs.Maps.{owns}
use Rattle.hi_calls.specs.Stands.{Stands}
use Rattle.hi_calls.specs.Calls.{IsUnknown, IsNoStream}
use Rattle.hi_calls.proofs.Drawing.{same_number}
use Rattle.hi_calls.proofs.Happenings.{kind_live, dead_kind, is_some_kind, counted, upload_within}
use Rattle.hi_calls.proofs.Ending.{live_drawn}

module _ (table : Calls) (prefix : List ℕ) (h : List CallHappening) (s : Stands table prefix h) where
  -- what is live has a number within the bound
  pub live_within : (n : ℕ) → live_call_in n h ≡ true → n ≤ most_numbers
  live_within n e = let a = live_drawn table prefix h n s e in let b = s.within in omega arith

  pub is_live : (n : ℕ) → is_some (get nat_eq table.calls n) ≡ true → live_call_in n h ≡ true
  is_live n e = sym (is_some_kind n h) ∙ (ap is_some (sym (s.calls n)) ∙ e)

  pub isnt_live : (n : ℕ) → get nat_eq table.calls n ≡ None → live_call_in n h ≡ false
  isnt_live n e = dead_kind n h (sym (s.calls n) ∙ e)

  pub has_id_of : (n : ℕ) (id : List ℕ) → id_with table.ids.prefix n ≡ id → id_with prefix n ≡ id
  has_id_of n id e = ap (λ p. id_with p n) (sym s.draws_with) ∙ e

  -- no number has the id
  pub unread : (id : List ℕ) → ((n : ℕ) → n ≤ most_numbers → id_with table.ids.prefix n ≡ id → ⊥) → IsUnknown prefix h id
  unread id f = λ n e. false_from_ne_true (live_call_in n h) (λ l. f n (live_within n l) (ap (λ p. id_with p n) s.draws_with ∙ e))

  -- a number has it
  one_number : (id : List ℕ) (m : ℕ) → id_with table.ids.prefix m ≡ id → m ≤ most_numbers → (n : ℕ) → id_with prefix n ≡ id → live_call_in n h ≡ true → n ≡ m
  one_number id m e l n f g = same_number prefix n m (live_within n g) l (f ∙ sym (has_id_of m id e))

  pub unknown : (id : List ℕ) (m : ℕ) → id_with table.ids.prefix m ≡ id → m ≤ most_numbers → get nat_eq table.calls m ≡ None → IsUnknown prefix h id
  unknown id m e l none = λ n f. false_from_ne_true (live_call_in n h)
      (λ g. let z = one_number id m e l n f g in
      let d = subst (λ k. live_call_in k h ≡ false) (sym z) (isnt_live m none) in
      let y : true ≡ false = sym g ∙ d in
      cc)

  pub no_stream : (id : List ℕ) (m : ℕ) → id_with table.ids.prefix m ≡ id → m ≤ most_numbers → (get nat_eq table.calls m ≡ Some true → ⊥) → IsNoStream prefix h id
  no_stream id m e l other = λ n f g. false_from_ne_true (streams_items (call_in n h))
      (λ t. let z = one_number id m e l n f g in
      other (ap (get nat_eq table.calls) (sym z) ∙ (s.calls n ∙ (kind_live n h g ∙ ap Some t))))

  -- a live Stream
  pub streams : (n : ℕ) → get nat_eq table.calls n ≡ Some true → streams_items (call_in n h) ≡ true
  streams n e = go (live_call_in n h) (sym (s.calls n) ∙ e)
    where
      go : (b : Bool) → (if b then Some (streams_items (call_in n h)) else None) ≡ Some true → streams_items (call_in n h) ≡ true
      go true f = cc
      go false f = absurd (let z : ◌≡◌ {A = Option Bool} None (Some true) = f in cc)

  -- an upload's number is looked at if its call's is within the bound, as each live one's is
  pub has_upload : (n w : ℕ) → (nat_le n most_numbers && owns table.owners n w) ≡ live_upload_in n w h
  has_upload n w = go (cases_lt most_numbers n)
    where
      go : (most_numbers < n) ⊎ (n ≤ most_numbers) → (nat_le n most_numbers && owns table.owners n w) ≡ live_upload_in n w h
      go (inl l) =
          ap (λ b. b && owns table.owners n w) (lt-leb n most_numbers l)
          ∙ sym (false_from_ne_true (live_upload_in n w h) (λ e. let a = counted n w h (upload_within n w h e) in let b = s.within in omega arith))
      go (inr l) = ap (λ b. b && owns table.owners n w) (le-leb n most_numbers l) ∙ s.uploads n w

  -- a live upload has a number within the bound
  pub upload_bound : (n w : ℕ) → live_upload_in n w h ≡ true → suc (n + w) ≤ most_numbers
  upload_bound n w e = let a = counted n w h (upload_within n w h e) in let b = s.within in omega arith

pub none_there : {A : Type 0} (o : Option A) → is_some o ≡ false → o ≡ None
none_there None e = refl
none_there (Some x) e = absurd (let z : true ≡ false = e in cc)
