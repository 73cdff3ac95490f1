-- The uploads of a call begin and end one by one.
use Rattle.std.proofs.Common.{◌≡◌, ℕ, suc, ◌<◌, ◌≤◌, ◌⊎◌, inl, inr, Bool, true, false, List, [], ◌∷◌, length, Option, Some, None, refl, sym, ap, ◌∙◌, arith}
use Rattle.std.specs.Prelude.{◌+◌, ◌&&◌, nat_lt, nat_eq, if◌then◌else◌}
use Rattle.std.specs.HashMap.{hash_map_len}
use Rattle.std.specs.Map.{lookup}
use Rattle.std.proofs.lemmas.Bool.{cases_eq, cases_lt, eq-eqb, ne_eqb, lt-ltb, le-ltb, and_right}
use Rattle.hd_delivery.specs.Histories.{is_this}
use Rattle.hi_calls.specs.declared.owners.Owners.{Owners}
use Rattle.hi_calls.specs.Maps.{owner, owns, is_upload_number, owner_after_begin, owner_after_end, owned_below, one_if, BeginsUploads, EndsUploads}
use Rattle.hi_calls.proofs.Counts.{count_none}
use Rattle.hi_calls.proofs.Beginning.{number-own}

-- one upload more counts one number more
more_numbers : (n j k : ℕ) → (suc (n + j) ≡ k → ⊥) → is_upload_number n (suc j) k ≡ is_upload_number n j k
more_numbers n j k f = ap (λ b. nat_lt n k && b) (go (cases_lt k (suc (n + j))))
  where
    go : (k < suc (n + j)) ⊎ (suc (n + j) ≤ k) → nat_lt k (suc (n + suc j)) ≡ nat_lt k (suc (n + j))
    go (inl l) = lt-ltb k (suc (n + suc j)) (omega arith) ∙ sym (lt-ltb k (suc (n + j)) l)
    go (inr l) = go_far (cases_eq (suc (n + j)) k)
      where
        go_far : (suc (n + j) ≡ k) ⊎ (suc (n + j) ≡ k → ⊥) → nat_lt k (suc (n + suc j)) ≡ nat_lt k (suc (n + j))
        go_far (inl z) = absurd (f z)
        go_far (inr z) = le-ltb k (suc (n + suc j)) (omega arith) ∙ sym (le-ltb k (suc (n + j)) l)

last_number : (n j : ℕ) → is_upload_number n (suc j) (suc (n + j)) ≡ true
last_number n j = number-own n (suc j) j ∙ lt-ltb j (suc j) (omega arith)

next_number_free : (n j : ℕ) → is_upload_number n j (suc (n + j)) ≡ false
next_number_free n j = number-own n j j ∙ le-ltb j j (omega arith)

no_number : (n k : ℕ) → is_upload_number n 0 k ≡ false
no_number n k = go (cases_lt n k)
  where
    go : (n < k) ⊎ (k ≤ n) → is_upload_number n 0 k ≡ false
    go (inl l) = and_right (nat_lt n k) (nat_lt k (suc (n + 0))) (le-ltb k (suc (n + 0)) (omega arith))
    go (inr l) = ap (λ b. b && nat_lt k (suc (n + 0))) (le-ltb n k l)

pub none_begun : (old : Owners) (n : ℕ) → BeginsUploads old old n 0
none_begun old n = record {
  owner_of = λ k. sym (ap (λ b. if b then Some n else owner old k) (no_number n k));
  size = λ f. omega arith;
}

pub none_ended : (old : Owners) (n : ℕ) → EndsUploads old old n 0
none_ended old n = record {
  owner_of = λ k. sym (ap (λ b. if b && is_this n (owner old k) then None else owner old k) (no_number n k));
  size = omega arith;
}

begun_owner : (n j k : ℕ) (o : Option ℕ) → (if nat_eq (suc (n + j)) k then Some n else owner_after_begin n j k o) ≡ owner_after_begin n (suc j) k o
begun_owner n j k o = go (cases_eq (suc (n + j)) k)
  where
    go : (suc (n + j) ≡ k) ⊎ (suc (n + j) ≡ k → ⊥) → (if nat_eq (suc (n + j)) k then Some n else owner_after_begin n j k o) ≡ owner_after_begin n (suc j) k o
    go (inl z) =
        ap (λ b. if b then Some n else owner_after_begin n j k o) (eq-eqb (suc (n + j)) k z)
        ∙ sym (ap (λ b. if b then Some n else o) (ap (is_upload_number n (suc j)) (sym z) ∙ last_number n j))
    go (inr f) =
        ap (λ b. if b then Some n else owner_after_begin n j k o) (ne_eqb (suc (n + j)) k f)
        ∙ sym (ap (λ b. if b then Some n else o) (more_numbers n j k f))

pub one_begun : (old mid new : Owners) (n j : ℕ) → BeginsUploads old mid n j → ((k : ℕ) → owner new k ≡ (if nat_eq (suc (n + j)) k then Some n else owner mid k))
    → (owner mid (suc (n + j)) ≡ None → hash_map_len new.calls ≡ hash_map_len mid.calls + 1) → BeginsUploads old new n (suc j)
one_begun old mid new n j s put size = record {
  owner_of = λ k. put k ∙ (ap (λ o. if nat_eq (suc (n + j)) k then Some n else o) (s.owner_of k) ∙ begun_owner n j k (owner old k));
  size = λ f.
      let a = s.size (λ w l. f w (omega (arith, l))) in
      let b = size (s.owner_of (suc (n + j)) ∙ (ap (λ b. if b then Some n else owner old (suc (n + j))) (next_number_free n j) ∙ f j (omega arith))) in
      omega arith;
}

ended_owner : (n j k : ℕ) (b : Bool) (o : Option ℕ) → (suc (n + j) ≡ k → b ≡ is_this n o)
    → (if nat_eq (suc (n + j)) k && b then None else owner_after_end n j k o) ≡ owner_after_end n (suc j) k o
ended_owner n j k b o same = go (cases_eq (suc (n + j)) k)
  where
    go : (suc (n + j) ≡ k) ⊎ (suc (n + j) ≡ k → ⊥) → (if nat_eq (suc (n + j)) k && b then None else owner_after_end n j k o) ≡ owner_after_end n (suc j) k o
    go (inl z) =
        ap (λ x. if x && b then None else owner_after_end n j k o) (eq-eqb (suc (n + j)) k z)
        ∙ (ap (λ x. if b then None else (if x && is_this n o then None else o)) (ap (is_upload_number n j) (sym z) ∙ next_number_free n j)
        ∙ (ap (λ x. if x then None else o) (same z)
        ∙ sym (ap (λ x. if x && is_this n o then None else o) (ap (is_upload_number n (suc j)) (sym z) ∙ last_number n j))))
    go (inr f) =
        ap (λ x. if x && b then None else owner_after_end n j k o) (ne_eqb (suc (n + j)) k f)
        ∙ sym (ap (λ x. if x && is_this n o then None else o) (more_numbers n j k f))

if_one : (b : Bool) (m : ℕ) → (if b then suc m else m) ≡ m + one_if b
if_one true m = omega arith
if_one false m = omega arith

pub one_ended : (old mid new : Owners) (n j : ℕ) → EndsUploads old mid n j
    → ((k : ℕ) → owner new k ≡ (if nat_eq (suc (n + j)) k && owns mid n j then None else owner mid k))
    → hash_map_len new.calls + one_if (owns mid n j) ≡ hash_map_len mid.calls → EndsUploads old new n (suc j)
one_ended old mid new n j s taken size = record {
  owner_of = λ k. taken k ∙ (ap (λ o. if nat_eq (suc (n + j)) k && owns mid n j then None else o) (s.owner_of k)
      ∙ ended_owner n j k (owns mid n j) (owner old k) (λ z. there ∙ ap (λ i. is_this n (owner old i)) z));
  size =
      let a = s.size in
      let b = ap one_if there in
      let c = if_one (owns old n j) (owned_below old n j) in
      omega arith;
}
  where
    there : owns mid n j ≡ owns old n j
    there = ap (is_this n) (s.owner_of (suc (n + j)) ∙ ap (λ b. if b && is_this n (owner old (suc (n + j))) then None else owner old (suc (n + j))) (next_number_free n j))

nothing_there : (es : List (ℕ × ℕ)) (k : ℕ) → length es ≡ 0 → lookup (nat_eq k) es ≡ None
nothing_there [] k e = refl
nothing_there (x ∷ es) k e = absurd (omega arith)

nothing_taken : (n : ℕ) (t : Bool) (o : Option ℕ) → o ≡ None → o ≡ (if t && is_this n o then None else o)
nothing_taken n true None e = refl
nothing_taken n false None e = refl
nothing_taken n t (Some m) e = absurd (let z : ◌≡◌ {A = Option ℕ} (Some m) None = e in cc)

-- where nothing is live, all uploads of a call have ended
pub all_ended : (old : Owners) (n count : ℕ) → hash_map_len old.calls ≡ 0 → EndsUploads old old n count
all_ended old n count e = record {
  owner_of = λ k. nothing_taken n (is_upload_number n count k) (owner old k) (nothing_there old.calls.entries k e);
  size =
      let z = count_none count (λ w. owns old n w) (λ w. ap (is_this n) (nothing_there old.calls.entries (suc (n + w)) e)) in
      omega arith;
}
