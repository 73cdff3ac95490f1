-- What beginning and ending a call make of the table's two maps, one number at a time.
use Rattle.std.specs.Prelude.{◌≡◌, ◌<◌, ◌≤◌, ℕ, suc, ◌+◌, Bool, true, false, ◌&&◌, ◌==◌, nat_lt, List, [], ◌∷◌, Option, Some, None, is_some, nat_eq, min, max, if◌then◌else◌}
use Rattle.std.specs.HashMap.{get, hash_map_len}
use Rattle.hd_delivery.specs.Histories.{is_this}
use Rattle.hd_calls.specs.declared.vocabulary.CallKind.{CallKind}
use Rattle.hd_calls.specs.declared.vocabulary.CallKind.TheVariants as kind
use Rattle.hd_calls.specs.Numbers.{most_uploads, most_numbers}
use Rattle.hd_calls.specs.Rules.{count_below}
use Rattle.hi_calls.specs.declared.calls.Calls.{Calls}
use Rattle.hi_calls.specs.declared.owners.Owners.{Owners}

-- the call that owns a number, if an upload of it has that number
abbrev pub owner : Owners → ℕ → Option ℕ
owner owners k = get nat_eq owners.calls k

-- the upload is one of the call's
abbrev pub owns : Owners → ℕ → ℕ → Bool
owns owners n w = is_this n (owner owners (suc (n + w)))

-- the number is that of one of a call's first so many uploads
abbrev pub is_upload_number : ℕ → ℕ → ℕ → Bool
is_upload_number n count k = nat_lt n k && nat_lt k (suc (n + count))

-- the owner of a number after so many uploads of a call have begun
abbrev pub owner_after_begin : ℕ → ℕ → ℕ → Option ℕ → Option ℕ
owner_after_begin n count k o = if is_upload_number n count k then Some n else o

-- and after those of the first so many that there were have ended
abbrev pub owner_after_end : ℕ → ℕ → ℕ → Option ℕ → Option ℕ
owner_after_end n count k o = if is_upload_number n count k && is_this n o then None else o

-- how many of a call's first so many uploads there are
abbrev pub owned_below : Owners → ℕ → ℕ → ℕ
owned_below owners n count = count_below count (λ w. owns owners n w)

-- 1 for what is there
abbrev pub one_if : Bool → ℕ
one_if true = 1
one_if false = 0

-- whether a call of this kind is live until it is answered
abbrev pub is_answered : CallKind → Bool
is_answered kind.Notify = false
is_answered kind.Call = true
is_answered kind.Stream = true

-- whether it takes items
abbrev pub takes_items : CallKind → Bool
takes_items kind.Stream = true
takes_items _ = false

-- nothing changed but the room for more
pub record HoldsTheSame (old new : Calls) : Type 0 where
  pub ids : new.ids.prefix ≡ old.ids.prefix
  pub drawn : new.drawn ≡ old.drawn
  pub newest : new.newest ≡ old.newest
  pub calls : new.calls.entries ≡ old.calls.entries
  pub owners : new.owners.calls.entries ≡ old.owners.calls.entries

-- so many uploads of the call have begun, whose numbers nothing had
pub record BeginsUploads (old new : Owners) (n count : ℕ) : Type 0 where
  pub owner_of : (k : ℕ) → owner new k ≡ owner_after_begin n count k (owner old k)
  pub size : ((w : ℕ) → w < count → owner old (suc (n + w)) ≡ None) → hash_map_len new.calls ≡ hash_map_len old.calls + count

-- the first so many uploads of the call have ended
pub record EndsUploads (old new : Owners) (n count : ℕ) : Type 0 where
  pub owner_of : (k : ℕ) → owner new k ≡ owner_after_end n count k (owner old k)
  pub size : hash_map_len new.calls + owned_below old n count ≡ hash_map_len old.calls

-- a call of this kind with this number has been put in, with so many uploads
pub record Enters (old new : Calls) (k : CallKind) (uploads n : ℕ) : Type 0 where
  pub ids : new.ids.prefix ≡ old.ids.prefix
  pub drawn : new.drawn ≡ max old.drawn (n + uploads)
  pub newest : new.newest ≡ Some old.drawn
  pub call : (j : ℕ) → get nat_eq new.calls j ≡ (if is_answered k && (n == j) then Some (takes_items k) else get nat_eq old.calls j)
  pub calls_size : get nat_eq old.calls n ≡ None → hash_map_len new.calls ≡ hash_map_len old.calls + one_if (is_answered k)
  pub uploads_begin : BeginsUploads old.owners new.owners n uploads

-- the call with this number was taken out, if it was there, and its uploads with it
pub record Removes (old new : Calls) (n : ℕ) : Type 0 where
  pub ids : new.ids.prefix ≡ old.ids.prefix
  pub drawn : new.drawn ≡ old.drawn
  pub newest : new.newest ≡ None
  pub call : (j : ℕ) → get nat_eq new.calls j ≡ (if n == j then None else get nat_eq old.calls j)
  pub calls_size : hash_map_len new.calls + one_if (is_some (get nat_eq old.calls n)) ≡ hash_map_len old.calls
  pub uploads_end : n ≤ most_numbers → EndsUploads old.owners new.owners n most_uploads

-- the least of some numbers and those of a list
abbrev pub least_with : Option ℕ → List ℕ → Option ℕ
least_with least [] = least
least_with None (x ∷ xs) = least_with (Some x) xs
least_with (Some k) (x ∷ xs) = least_with (Some (min k x)) xs
