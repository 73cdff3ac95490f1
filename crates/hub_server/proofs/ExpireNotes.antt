-- A moment that has come: which lives it ends, and what its note changes.
use Rattle.std.proofs.Common.{◌≡◌, ◌≤◌, ◌<◌, ℕ, zero, suc, ◌+◌, ◌==◌, Bool, true, false, not, ◌&&◌, ◌||◌, List, [], ◌∷◌, ◌++◌, filter, length, Option}
use Rattle.std.proofs.Common.{Some, None, is_some}
use Rattle.std.proofs.Common.{refl, sym, ap, ◌∙◌, arith}
use Rattle.std.specs.Prelude.{if◌then◌else◌, option_map, unwrap_or}
use Rattle.std.proofs.lemmas.Bool.{and_from, and_parts, and_right, eqb-true, le-leb, lt-ltb}
use Rattle.hd_delivery.specs.Histories.{first_of}
use Rattle.hd_delivery.specs.declared.vocabulary.Reason.TheVariants as reason
use Rattle.hd_server.specs.declared.vocabulary.Life.{Life}
use Rattle.hd_server.specs.declared.vocabulary.Life.TheVariants.{Unknown, Fresh, Socket, Lost, Polling, Ending}
use Rattle.hd_server.specs.Numbers.{lives_for}
use Rattle.hd_server.specs.Lives.{ConnectionEvent, Expired, deadline, ended_at, ends_then, is_removed, is_made, is_opened, is_past, is_polling, life_of, lost_at}
use Rattle.hd_server.specs.Lives.{made, negotiated_at, numbers_to, only_polls, overdue, past, since, socket_of, standing, when}
use Rattle.hd_server.specs.Machine.{Goes}
use Rattle.hd_server.specs.Doings.{ServerEvent, Notes, Works, has_peer, is_up, notes}
use Rattle.hd_server.specs.Plans.{dropping, expiring, onto, step}
use Rattle.hd_delivery.specs.Histories.{Closed}
use Rattle.hub_machine.specs.Spreads.{is_listed}
use Rattle.hub_server.proofs.Alike.{Alike, there_alike, up_alike}
use Rattle.hub_server.proofs.Conns.{first_is_listed, listed_filter, listed_last, to_within}

-- ---- lives

-- a life by what was noted
abbrev pub life_by : Bool → Bool → Option ℕ → Bool → Bool → Bool → Life
life_by gone ended socket lost polls begun = unwrap_or
    (first_of (when gone Unknown) (first_of (when ended Ending) (first_of (option_map Socket socket)
    (first_of (when lost Lost) (first_of (when polls Polling) (when begun Fresh)))))) Unknown

pub standing_by : (c : ℕ) (n : List ConnectionEvent) → standing c n
    ≡ life_by (is_removed c n) (is_some (ended_at c n)) (socket_of c n) (is_some (lost_at c n)) (is_polling c n)
    (is_opened c n || is_some (negotiated_at c n))
standing_by c n = refl

-- one that only polls, and is neither ending nor let go
pub record OnlyPolls (gone ended : Bool) (socket : Option ℕ) (lost polls : Bool) : Type 0 where
  pub held : gone ≡ false
  pub lasts : ended ≡ false
  pub unsocketed : socket ≡ None
  pub unlost : lost ≡ false
  pub polling : polls ≡ true

pub polls_only : (gone ended : Bool) (socket : Option ℕ) (lost polls begun : Bool) → life_by gone ended socket lost polls begun ≡ Polling
    → OnlyPolls gone ended socket lost polls
polls_only true ended socket lost polls begun e = absurd (let no : Unknown ≡ Polling = e in cc)
polls_only false true socket lost polls begun e = absurd (let no : Ending ≡ Polling = e in cc)
polls_only false false (Some l) lost polls begun e = absurd (let no : Socket l ≡ Polling = e in cc)
polls_only false false None true polls begun e = absurd (let no : Lost ≡ Polling = e in cc)
polls_only false false None false true begun e = record { held = refl; lasts = refl; unsocketed = refl; unlost = refl; polling = refl }
polls_only false false None false false true e = absurd (let no : Fresh ≡ Polling = e in cc)
polls_only false false None false false false e = absurd (let no : Unknown ≡ Polling = e in cc)

-- one whose moment has come, and that doesn't only poll, is let go then, and wasn't before
pub record GoesThen (gone ended : Bool) (socket : Option ℕ) (lost polls : Bool) : Type 0 where
  pub held : gone ≡ false
  pub ends : ((polls && not (is_some socket || lost)) && not ended) ≡ false

module _ (c now : ℕ) (n : List ConnectionEvent) where
  abbrev has_come : Life → Bool
  has_come life = is_past now (option_map (λ moment. moment + lives_for) (since c life n))

  pub goes_then : (gone ended : Bool) (socket : Option ℕ) (lost polls begun : Bool) → has_come (life_by gone ended socket lost polls begun) ≡ true
      → (life_by gone ended socket lost polls begun ≡ Polling → ⊥) → GoesThen gone ended socket lost polls
  goes_then true ended socket lost polls begun e other = absurd (let no : false ≡ true = e in cc)
  goes_then false true socket lost polls begun e other = record { held = refl; ends = and_right (polls && not (is_some socket || lost)) false refl }
  goes_then false false (Some l) lost polls begun e other = absurd (let no : false ≡ true = e in cc)
  goes_then false false None true true begun e other = record { held = refl; ends = refl }
  goes_then false false None true false begun e other = record { held = refl; ends = refl }
  goes_then false false None false true begun e other = absurd (other refl)
  goes_then false false None false false begun e other = record { held = refl; ends = refl }

-- past its moment only one that polls is ending
pub past_polling : (life : Life) → past life ≡ Ending → life ≡ Polling
past_polling Unknown e = absurd (let no : Unknown ≡ Ending = e in cc)
past_polling Fresh e = absurd (let no : Unknown ≡ Ending = e in cc)
past_polling (Socket l) e = absurd (let no : Unknown ≡ Ending = e in cc)
past_polling Lost e = absurd (let no : Unknown ≡ Ending = e in cc)
past_polling Polling e = refl
past_polling Ending e = absurd (let no : Unknown ≡ Ending = e in cc)

-- ---- the first that is overdue

positive : (n k : ℕ) → is_listed k (numbers_to n) ≡ true → 0 < k
positive zero k e = absurd (let no : false ≡ true = e in cc)
positive (suc n) k e =
    by (is_listed k (numbers_to n)) refl (sym (listed_last k (suc n) (numbers_to n)) ∙ e) (positive n k)
  where
    by : (b : Bool) → is_listed k (numbers_to n) ≡ b → (b || (k == suc n)) ≡ true → (is_listed k (numbers_to n) ≡ true → 0 < k) → 0 < k
    by true f g before = before f
    by false f g before = let l = eqb-true k (suc n) g in omega (arith, l)

pub record IsOverdue (c now : ℕ) (n : List ConnectionEvent) : Type 0 where
  pub is_made_so : is_made c n ≡ true
  pub come : is_past now (deadline c n) ≡ true

pub first_overdue : (c now : ℕ) (rest : List ℕ) (n : List ConnectionEvent) → overdue now n ≡ c ∷ rest → IsOverdue c now n
first_overdue c now rest n e =
    let parts = and_parts (is_past now (deadline c n)) (is_listed c (numbers_to (made n)))
    (sym (listed_filter (λ k. is_past now (deadline k n)) c (numbers_to (made n))) ∙ ap (is_listed c) e ∙ first_is_listed c rest) in
    record {
      is_made_so = and_from _ _ (lt-ltb 0 c (positive (made n) c parts.1)) (le-leb c (made n) (to_within (made n) c parts.1));
      come = parts.0;
    }

pub life_then : (c now : ℕ) (n : List ConnectionEvent) → is_past now (deadline c n) ≡ true → life_of c now n ≡ past (standing c n)
life_then c now n e = ap (λ (b : Bool). if b then past (standing c n) else standing c n) e

-- ---- how many there are

numbers_length : (n : ℕ) → length (numbers_to n) ≡ n
numbers_length zero = refl
numbers_length (suc n) = longer (numbers_to n) (suc n) ∙ ap suc (numbers_length n)
  where
    longer : (xs : List ℕ) (k : ℕ) → length (xs ++ k ∷ []) ≡ suc (length xs)
    longer [] k = refl
    longer (x ∷ xs) k = ap suc (longer xs k)

filter_length : (p : ℕ → Bool) (xs : List ℕ) → length (filter p xs) ≤ length xs
filter_length p [] = omega arith
filter_length p (x ∷ xs) = by (p x) (filter_length p xs)
  where
    by : (b : Bool) → length (filter p xs) ≤ length xs → length (if b then x ∷ filter p xs else filter p xs) ≤ suc (length xs)
    by true e = omega (arith, e)
    by false e = omega (arith, e)

pub few_overdue : (now : ℕ) (n : List ConnectionEvent) → length (overdue now n) ≤ made n
few_overdue now n =
    let less = filter_length (λ c. is_past now (deadline c n)) (numbers_to (made n)) in
    let all = numbers_length (made n) in
    omega (arith, less, all)

-- ---- what is done then

-- it is noted, after what isn't
pub notes_expiring : (now : ℕ) (life : Life) (c : ℕ) (of g : List ServerEvent) → notes (onto (expiring now life c of) g) ≡ Expired c now ∷ notes g
notes_expiring now life c of g = by life
  where
    closed : (b : Bool)
        → notes (onto ((if b then step c (Closed reason.Expired false) ∷ [] else []) ++ Notes (Expired c now) ∷ []) g) ≡ Expired c now ∷ notes g
    closed true = refl
    closed false = refl

    dropped : (b : Bool) → notes (onto ((if b then Works (Goes c) ∷ [] else []) ++ Notes (Expired c now) ∷ []) g) ≡ Expired c now ∷ notes g
    dropped true = refl
    dropped false = refl

    by : (life : Life) → notes (onto (expiring now life c of) g) ≡ Expired c now ∷ notes g
    by Unknown = dropped (has_peer c of)
    by Fresh = dropped (has_peer c of)
    by (Socket l) = dropped (has_peer c of)
    by Lost = dropped (has_peer c of)
    by Polling = closed (is_up c of)
    by Ending = dropped (has_peer c of)

-- the same after what left the connection as it was
pub expiring_same : (now : ℕ) (life : Life) (c : ℕ) (g h : List ServerEvent) → Alike c g h → expiring now life c g ≡ expiring now life c h
expiring_same now life c g h a = by life
  where
    dropped : (dropping c g ++ Notes (Expired c now) ∷ []) ≡ (dropping c h ++ Notes (Expired c now) ∷ [])
    dropped = ap (λ (b : Bool). (if b then Works (Goes c) ∷ [] else []) ++ Notes (Expired c now) ∷ []) (there_alike c g h a)

    by : (life : Life) → expiring now life c g ≡ expiring now life c h
    by Unknown = dropped
    by Fresh = dropped
    by (Socket l) = dropped
    by Lost = dropped
    by Polling = ap (λ (b : Bool). (if b then step c (Closed reason.Expired false) ∷ [] else []) ++ Notes (Expired c now) ∷ []) (up_alike c g h a)
    by Ending = dropped

-- the life of another is the same
pub life_other : (now c k : ℕ) (life : Life) (of g : List ServerEvent) → (k == c) ≡ false
    → standing k (notes (onto (expiring now life c of) g)) ≡ standing k (notes g)
life_other now c k life of g e =
    ap (λ n. standing k n) (notes_expiring now life c of g)
    ∙ ap (λ b. life_by (b || is_removed k (notes g)) (is_some (ended_at k (Expired c now ∷ notes g))) (socket_of k (notes g))
    (is_some (lost_at k (notes g)))
    (is_polling k (notes g)) (is_opened k (notes g) || is_some (negotiated_at k (notes g)))) (ap (λ (b : Bool). b && not (ends_then k (notes g))) e)
    ∙ ap (λ o. life_by (is_removed k (notes g)) (is_some o) (socket_of k (notes g)) (is_some (lost_at k (notes g)))
    (is_polling k (notes g)) (is_opened k (notes g) || is_some (negotiated_at k (notes g))))
    (ap (λ (b : Bool). if b && (only_polls k (notes g) && not (is_some (ended_at k (notes g)))) then Some now else ended_at k (notes g)) e)
