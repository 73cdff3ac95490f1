-- What the selection of a room's last posts shows.
use Rattle.std.proofs.Common.{◌≡◌, ℕ, pos, List, [], ◌∷◌, length, map, filter, reverse, take, drop, ◌-◌, Bool, true, false, refl, sym, ap, ap₂, subst, ◌∙◌, bytes_eq, Less, IsPermutation}
use Rattle.std.specs.List.{AllByRecursion, list_all}
use Rattle.std.proofs.lemmas.List.{take-map}
use Rattle.std.proofs.lemmas.List.Sorted.{IsPermutation-reverse, IsPermutation-sym, IsPermutation-trans}
use Rattle.sqlite.specs.declared.types.Value.TheVariants.{Null, Int, Text}
use Rattle.sqlite.specs.Order.{Row, column, bytes, value_cmp}
use Rattle.sqlite.specs.Term.{Env, holds}
use Rattle.sqlite.specs.Tree.{Trees, rowid, IsTable, IsAscending}
use Rattle.sqlite.specs.Query.{Output, output, output_cmp, page, IsAnswer}
use Rattle.sqlite.specs.Program.{overlay}
use Rattle.sqlite_sql.proofs.QueryLemmas.{output_cmp_total}
use Rattle.sqlite_keyed.proofs.ListLemmas.{ascending-map, ascending-filter, ascending_weaker}
use Rattle.sqlite_keyed.proofs.SortLemmas.{sorted_unique}
use Rattle.sqlite.specs.Given.{IsPlain}
use Rattle.sqlite.specs.Listing.{understood}
use Rattle.sqlite.specs.State.{State, Shown}
use Rattle.sqlite.proofs.Callers.{reads_as}
use Rattle.hd_rooms.specs.Kept.{is_of_room, texts_of_room}
use Rattle.hk_sqlite.specs.Schema.{kept_schema}
use Rattle.hk_sqlite.specs.Stored.{IsPost, IsKept, Holds, tables, post_of}
use Rattle.hk_sqlite.proofs.Lists.{passing, map_reverse, ascending_reverse, last_of, and_true}
use Rattle.hk_sqlite.proofs.Reading.{equal_texts}
use Rattle.hk_sqlite.proofs.Refused.{unchanged, shown_unchanged}
use Rattle.hk_sqlite.proofs.Meaning.{history_text, history_query, history_is, history_plain}

abbrev env_of : List ℕ → ℕ → Row → Env
env_of room most r = (Text room ∷ Int (pos most) ∷ []) ∷ r ∷ []

abbrev is_in : List ℕ → ℕ → Row → Bool
is_in room most r = list_all (holds (env_of room most r)) history_query.filter

abbrev out_of : Row → Output
out_of r = (column r 0 ∷ [], column r 4 ∷ [])

abbrev shown_text : List ℕ → Row
shown_text t = Text t ∷ []

is_in_room : (room : List ℕ) (most : ℕ) (r : Row) → IsPost r → is_in room most r ≡ is_of_room room (post_of r)
is_in_room room most r it = rw it.4 (rw (equal_texts it.1 room) (and_true (bytes_eq it.1 room)))

-- what is shown of the rows of the room
texts : (room : List ℕ) (most : ℕ) (rows : List Row) → AllByRecursion IsPost rows → map (λ (o : Output). o.1) (map out_of (filter (is_in room most) rows)) ≡ map shown_text (texts_of_room room (map post_of rows))
texts room most [] all = refl
texts room most (r ∷ rows) all = go (is_of_room room (post_of r)) refl (texts room most rows all.1)
  where
    same : is_in room most r ≡ is_of_room room (post_of r)
    same = is_in_room room most r all.0

    text : column r 4 ≡ Text (bytes (column r 4))
    text = rw all.0.4 refl

    go : (b : Bool) → is_of_room room (post_of r) ≡ b → map (λ (o : Output). o.1) (map out_of (filter (is_in room most) rows)) ≡ map shown_text (texts_of_room room (map post_of rows))
        → map (λ (o : Output). o.1) (map out_of (filter (is_in room most) (r ∷ rows))) ≡ map shown_text (texts_of_room room (map post_of (r ∷ rows)))
    go true e more = rw (same, e) (ap₂ (λ v l. (v ∷ []) ∷ l) text more)
    go false e more = rw (same, e) more

outputs : (room : List ℕ) (most : ℕ) (rows : List Row) → map (output history_query) (map (env_of room most) rows) ≡ map out_of rows
outputs room most [] = refl
outputs room most (r ∷ rows) = ap (λ l. out_of r ∷ l) (outputs room most rows)

later_first : (a b : Row) → value_cmp (rowid a) (rowid b) ≡ Less → output_cmp history_query (out_of b) (out_of a) ≡ Less
later_first a b h = rw h refl

-- the texts of the room, the newest first, so many at most
answers : (db : Trees) (room : List ℕ) (most : ℕ) (rows : List Row) → IsTable (db 2) → AllByRecursion IsPost (db 2) → IsAnswer history_query (overlay db []) (Text room ∷ Int (pos most) ∷ []) rows
    → rows ≡ take most (map shown_text (reverse (texts_of_room room (map post_of (db 2)))))
answers db room most rows up all a =
    let params = Text room ∷ Int (pos most) ∷ [] in
    let met = filter (is_in room most) (db 2) in
    let outs = map out_of met in
    let staged : a.staged ≡ map (env_of room most) met = a.grouped ∙ passing (is_in room most) (env_of room most) (db 2) in
    let kept : a.kept ≡ outs = a.distinct ∙ ap (map (output history_query)) staged ∙ outputs room most met in
    let falls : IsAscending (λ a b. output_cmp history_query b a ≡ Less) outs =
    ascending-map (λ a b. output_cmp history_query b a ≡ Less) out_of met (ascending_weaker _ (λ a b. output_cmp history_query (out_of b) (out_of a) ≡ Less) later_first met (ascending-filter _ (is_in room most) (db 2) up)) in
    let strict : IsAscending (λ a b. output_cmp history_query a b ≡ Less) (reverse outs) = ascending_reverse (λ a b. output_cmp history_query b a ≡ Less) outs falls in
    let same : IsPermutation (reverse outs) a.ordered = IsPermutation-trans (reverse outs) outs a.ordered (IsPermutation-sym outs (reverse outs) (IsPermutation-reverse outs)) (subst (λ k. IsPermutation k a.ordered) kept a.same) in
    let ordered : a.ordered ≡ reverse outs = sorted_unique (output_cmp history_query) (output_cmp_total history_query) (reverse outs) a.ordered strict same a.sorted in
    let told : map (λ (o : Output). o.1) (reverse outs) ≡ map shown_text (reverse (texts_of_room room (map post_of (db 2)))) =
    map_reverse (λ (o : Output). o.1) outs ∙ ap reverse (texts room most (db 2) all) ∙ sym (map_reverse shown_text (texts_of_room room (map post_of (db 2)))) in
    a.shown ∙ ap (λ xs. page history_query params (map (λ (o : Output). o.1) xs)) ordered ∙ ap (take most) told

pub reads_history : (old new : State) (room : List ℕ) (most : ℕ) (rows : List Row) → IsKept old → Shown history_text (Text room ∷ Int (pos most) ∷ []) old new rows
    → (rows ≡ take most (map shown_text (reverse (texts_of_room room (tables old).rows)))) × Holds new (tables old)
reads_history old new room most rows has h =
    let params = Text room ∷ Int (pos most) ∷ [] in
    let were = has.are_tables in
    let is_plain = history_plain were.has_index in
    let read = reads_as history_text params old new (kept_schema were.has_index) were.schema _ (history_is were.has_index) is_plain.0 is_plain.1 rows h in
    let plain = subst (λ s. IsPlain (understood s history_text)) (sym were.schema) is_plain.0 in
    (answers old.now.trees room most rows were.posts_rise were.are_posts (read.answer Null), unchanged old new has (shown_unchanged history_text params old new rows plain h))

texts_back : (xs : List (List ℕ)) → map (λ (r : Row). bytes (column r 0)) (map shown_text xs) ≡ xs
texts_back [] = refl
texts_back (x ∷ xs) = ap (λ l. x ∷ l) (texts_back xs)

-- turned around, what was shown is the last few of all
pub oldest_first : (most : ℕ) (all : List (List ℕ)) (rows : List Row) (given : List (List ℕ)) → rows ≡ take most (map shown_text (reverse all)) → given ≡ map (λ (r : Row). bytes (column r 0)) rows
    → reverse given ≡ drop (length all - most) all
oldest_first most all rows given shown told =
    ap reverse (told ∙ ap (map (λ (r : Row). bytes (column r 0))) (shown ∙ take-map shown_text most (reverse all)) ∙ texts_back (take most (reverse all))) ∙ last_of most all
