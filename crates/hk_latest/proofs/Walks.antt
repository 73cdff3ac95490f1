-- The texts of rows, read from the last one back.
use Rattle.std.proofs.Common.{◌≡◌, ℕ, ◌+◌, ◌-◌, min, List, [], ◌∷◌, ◌++◌, length, drop, map, reverse, sym, ap, ◌∙◌, arith, append_assoc}
use Rattle.std.proofs.lemmas.List.{map_push, reverse-append, drop_at, length-map}
use Rattle.hd_rooms.specs.declared.vocabulary.Row.{Row}
use Rattle.hd_rooms.specs.Kept.{last_few}

abbrev pub texts_of : List Row → List (List ℕ)
texts_of rows = map (λ (row : Row). row.text) rows

-- one row more is read
pub walk-step : (before rest : List Row) (row : Row) (texts all : List (List ℕ)) → before ≡ rest ++ row ∷ [] → texts_of before ++ reverse texts ≡ all
    → texts_of rest ++ reverse (texts ++ row.text ∷ []) ≡ all
walk-step before rest row texts all e is =
    ap (λ ts. texts_of rest ++ ts) (reverse-append texts (row.text ∷ []))
    ∙ sym (append_assoc (texts_of rest) (row.text ∷ []) (reverse texts))
    ∙ ap (λ ts. ts ++ reverse texts) (sym (map_push (λ (r : Row). r.text) rest row) ∙ ap texts_of (sym e))
    ∙ is

-- so many are read
pub walk-end : (rows before : List Row) (texts : List (List ℕ)) (most : ℕ) → texts_of before ++ reverse texts ≡ texts_of rows
    → length before + min most (length rows) ≡ length rows → reverse texts ≡ last_few most (texts_of rows)
walk-end rows before texts most is left =
    sym (drop_at (texts_of before) (reverse texts) (length (texts_of rows) - most)
    (omega (arith, left, length-map before (λ (r : Row). r.text), length-map rows (λ (r : Row). r.text))))
    ∙ ap (drop (length (texts_of rows) - most)) is
