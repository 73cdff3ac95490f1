-- What the selection of a name by its access token shows.
use Rattle.std.proofs.Common.{◌≡◌, ◌⊎◌, inl, inr, ℕ, arith, List, [], ◌∷◌, map, filter, slice_get, option_map, Bool, true, false, Option, refl, sym, ap, subst, ◌∙◌, bytes_eq, IsPermutation}
use Rattle.std.specs.List.{AllByRecursion, list_all}
use Rattle.std.proofs.lemmas.List.Sorted.{length_permutation}
use Rattle.std.proofs.lemmas.Slice.Eq.{bytes_eq-Decides}
use Rattle.sqlite.specs.declared.types.Value.TheVariants.{Null, Text}
use Rattle.sqlite.specs.Order.{Row, column, bytes}
use Rattle.sqlite.specs.Term.{Env, holds}
use Rattle.sqlite.specs.Tree.{Trees}
use Rattle.sqlite.specs.Query.{Output, output, IsAnswer}
use Rattle.sqlite.specs.Program.{overlay}
use Rattle.sqlite.specs.State.{State, Shown}
use Rattle.sqlite.proofs.Callers.{reads_as, one_permutation}
use Rattle.sqlite.specs.Given.{IsPlain}
use Rattle.sqlite.specs.Listing.{understood}
use Rattle.hd_rooms.specs.Kept.{has_token, name_of}
use Rattle.hk_sqlite.specs.Schema.{kept_schema}
use Rattle.hk_sqlite.specs.Stored.{IsUser, IsKept, Holds, AreDistinct, tables, user_of}
use Rattle.hk_sqlite.proofs.Lists.{passing, and_true}
use Rattle.hk_sqlite.proofs.Reading.{equal_texts}
use Rattle.hk_sqlite.proofs.Refused.{unchanged, shown_unchanged}
use Rattle.hk_sqlite.proofs.Meaning.{user_text, user_query, user_is, user_plain}

abbrev env_of : List ℕ → Row → Env
env_of token r = (Text token ∷ []) ∷ r ∷ []

abbrev is_met : List ℕ → Row → Bool
is_met token r = list_all (holds (env_of token r)) user_query.filter

abbrev out_of : Row → Output
out_of r = ([], column r 2 ∷ [])

is_met_is : (token : List ℕ) (r : Row) → IsUser r → is_met token r ≡ has_token token (user_of r)
is_met_is token r it = rw it.3 (rw (equal_texts it.1 token) (and_true (bytes_eq it.1 token)))

same_bytes : (a b token : List ℕ) → bytes_eq a token ≡ true → bytes_eq b token ≡ true → bytes_eq a b ≡ true
same_bytes a b token p q = subst (λ t. bytes_eq a t ≡ true) (sym ((bytes_eq-Decides b token).0 q)) p

outputs : (token : List ℕ) (rows : List Row) → map (output user_query) (map (env_of token) rows) ≡ map out_of rows
outputs token [] = refl
outputs token (r ∷ rows) = ap (λ l. out_of r ∷ l) (outputs token rows)

-- at most one user has the token
no_other : (token : List ℕ) (x : Row) (rows : List Row) → AllByRecursion IsUser rows → has_token token (user_of x) ≡ true → AllByRecursion (λ b. has_token (user_of b).0 (user_of x) ≡ false) rows → filter (is_met token) rows ≡ []
no_other token x [] all here apart = refl
no_other token x (r ∷ rows) all here apart = go (has_token token (user_of r)) refl (no_other token x rows all.1 here apart.1)
  where
    go : (b : Bool) → has_token token (user_of r) ≡ b → filter (is_met token) rows ≡ [] → filter (is_met token) (r ∷ rows) ≡ []
    go true e more = absurd (let both = sym (same_bytes (user_of x).0 (user_of r).0 token here e) ∙ apart.0 in cc)
    go false e more = rw (is_met_is token r all.0, e) more

abbrev shown_of : List Row → List Row
shown_of met = map (λ (r : Row). column r 2 ∷ []) met

-- what a list of at most one row shows is its one answer
single : (met : List Row) (out : List Output) → (met ≡ []) ⊎ ((x : Row) × (met ≡ x ∷ [])) → IsPermutation (map out_of met) out → map (λ (o : Output). o.1) out ≡ shown_of met
single met out (inl none) same = rw none (empty out (subst (λ l. IsPermutation (map out_of l) out) none same))
  where
    empty : (out : List Output) → IsPermutation [] out → map (λ (o : Output). o.1) out ≡ []
    empty [] same = refl
    empty (o ∷ out) same = absurd (omega (arith, length_permutation _ _ same))
single met out (inr one) same = rw one.1 (ap (map (λ (o : Output). o.1)) (one_permutation (out_of one.0) out (subst (λ l. IsPermutation (map out_of l) out) one.1 same)))

few : (token : List ℕ) (rows : List Row) → AllByRecursion IsUser rows → AreDistinct rows → (filter (is_met token) rows ≡ []) ⊎ ((x : Row) × (filter (is_met token) rows ≡ x ∷ []))
few token [] all apart = inl refl
few token (r ∷ rows) all apart = go (has_token token (user_of r)) refl (few token rows all.1 apart.1)
  where
    go : (b : Bool) → has_token token (user_of r) ≡ b → (filter (is_met token) rows ≡ []) ⊎ ((x : Row) × (filter (is_met token) rows ≡ x ∷ []))
        → (filter (is_met token) (r ∷ rows) ≡ []) ⊎ ((x : Row) × (filter (is_met token) (r ∷ rows) ≡ x ∷ []))
    go true e more = inr (r, rw (is_met_is token r all.0, e) (ap (λ l. r ∷ l) (no_other token r rows all.1 e apart.0)))
    go false e more = rw (is_met_is token r all.0, e) more

abbrev pub first_shown : List Row → Option (List ℕ)
first_shown rows = option_map (λ (r : Row). bytes (column r 0)) (slice_get rows 0)

names : (token : List ℕ) (rows : List Row) → AllByRecursion IsUser rows → first_shown (shown_of (filter (is_met token) rows)) ≡ name_of token (map user_of rows)
names token [] all = refl
names token (r ∷ rows) all = go (has_token token (user_of r)) refl (names token rows all.1)
  where
    go : (b : Bool) → has_token token (user_of r) ≡ b → first_shown (shown_of (filter (is_met token) rows)) ≡ name_of token (map user_of rows)
        → first_shown (shown_of (filter (is_met token) (r ∷ rows))) ≡ name_of token (map user_of (r ∷ rows))
    go true e more = rw (is_met_is token r all.0, e) refl
    go false e more = rw (is_met_is token r all.0, e) more

answers : (db : Trees) (token : List ℕ) (rows : List Row) → AllByRecursion IsUser (db 0) → AreDistinct (db 0) → IsAnswer user_query (overlay db []) (Text token ∷ []) rows → rows ≡ shown_of (filter (is_met token) (db 0))
answers db token rows all apart a =
    let met = filter (is_met token) (db 0) in
    let staged : a.staged ≡ map (env_of token) met = a.grouped ∙ passing (is_met token) (env_of token) (db 0) in
    let kept : a.kept ≡ map out_of met = a.distinct ∙ ap (map (output user_query)) staged ∙ outputs token met in
    a.shown ∙ single met a.ordered (few token (db 0) all apart) (subst (λ k. IsPermutation k a.ordered) kept a.same)

pub reads_user : (old new : State) (token : List ℕ) (rows : List Row) → IsKept old → Shown user_text (Text token ∷ []) old new rows
    → (first_shown rows ≡ name_of token (tables old).users) × Holds new (tables old)
reads_user old new token rows has h =
    let params = Text token ∷ [] in
    let were = has.are_tables in
    let is_plain = user_plain were.has_index in
    let read = reads_as user_text params old new (kept_schema were.has_index) were.schema _ (user_is were.has_index) is_plain.0 is_plain.1 rows h in
    let plain = subst (λ s. IsPlain (understood s user_text)) (sym were.schema) is_plain.0 in (
      ap first_shown (answers old.now.trees token rows were.are_users were.distinct (read.answer Null)) ∙ names token (old.now.trees 0) were.are_users,
      unchanged old new has (shown_unchanged user_text params old new rows plain h),
    )
