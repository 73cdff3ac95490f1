-- The texts of a room, row by row.
use Rattle.std.proofs.Common.{◌≡◌, ℕ, Bool, true, false, List, [], ◌∷◌, ◌++◌, length, map, filter, cond, refl, ◌∙◌, ap}
use Rattle.std.specs.Prelude.{count_by}
use Rattle.std.proofs.lemmas.List.{length-map}
use Rattle.std.proofs.lemmas.List.Sums.{length-filter}
use Rattle.hd_rooms.specs.declared.vocabulary.Row.{Row}
use Rattle.hd_rooms.specs.Kept.{texts_of_room, is_of_room}

-- one row more adds its text, if it is of the room
pub texts_push : (room : List ℕ) (rows : List Row) (row : Row) →
    texts_of_room room (rows ++ row ∷ []) ≡ cond (is_of_room room row) (texts_of_room room rows ++ row.text ∷ []) (texts_of_room room rows)
texts_push room [] row = go (is_of_room room row)
  where
    go : (b : Bool) → map (λ (r : Row). r.text) (cond b (row ∷ []) []) ≡ cond b (row.text ∷ []) []
    go true = refl
    go false = refl
texts_push room (x ∷ xs) row = go (is_of_room room x) (is_of_room room row) (texts_push room xs row)
  where
    go : (b d : Bool) → texts_of_room room (xs ++ row ∷ []) ≡ cond d (texts_of_room room xs ++ row.text ∷ []) (texts_of_room room xs) →
        map (λ (r : Row). r.text) (cond b (x ∷ filter (is_of_room room) (xs ++ row ∷ [])) (filter (is_of_room room) (xs ++ row ∷ [])))
        ≡ cond d (map (λ (r : Row). r.text) (cond b (x ∷ filter (is_of_room room) xs) (filter (is_of_room room) xs)) ++ row.text ∷ [])
        (map (λ (r : Row). r.text) (cond b (x ∷ filter (is_of_room room) xs) (filter (is_of_room room) xs)))
    go true true e = ap (λ ts. x.text ∷ ts) e
    go true false e = ap (λ ts. x.text ∷ ts) e
    go false true e = e
    go false false e = e

-- as many texts as rows of the room
pub texts_count : (room : List ℕ) (rows : List Row) → length (texts_of_room room rows) ≡ count_by (is_of_room room) rows
texts_count room rows = length-map (filter (is_of_room room) rows) (λ (row : Row). row.text) ∙ length-filter (is_of_room room) rows
