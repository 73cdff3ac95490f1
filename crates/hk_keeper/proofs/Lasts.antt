-- The last text of a room in which something was just said.
use Rattle.std.proofs.Common.{◌≡◌, ◌-◌, ℕ, Bool, true, false, List, [], ◌∷◌, ◌++◌, length, Option, Some, None, IfSome, option_map, cond, ◌∙◌, ap, subst, arith}
use Rattle.std.specs.Cmp.Lexicographic.{nat_list_eq_equiv}
use Rattle.std.proofs.lemmas.List.{drop_at, length_push}
use Rattle.hd_rooms.specs.declared.vocabulary.Row.{Row}
use Rattle.hd_rooms.specs.Kept.{Content, last_few, recalled, texts_of_room, with_row, with_user}
use Rattle.hk_keeper.proofs.Texts.{texts_push}

last_of_room : (room who text : List ℕ) (rows : List Row) → recalled room 1 (rows ++ record { room = room; who = who; text = text } ∷ []) ≡ text ∷ []
last_of_room room who text rows =
    let row : Row = record { room = room; who = who; text = text } in
    let texts : List (List ℕ) = texts_of_room room rows in
    let more : texts_of_room room (rows ++ row ∷ []) ≡ texts ++ text ∷ [] =
    texts_push room rows row ∙ ap (λ b. cond b (texts ++ text ∷ []) texts) (nat_list_eq_equiv.refl room) in
    ap (last_few 1) more ∙ drop_at texts (text ∷ []) (length (texts ++ text ∷ []) - 1) (omega (arith, length_push texts text))

-- so it is after a row was logged, before which a user was added or wasn't
pub last_said : (h g k : Option Content) (is_new : Bool) (token name room text : List ℕ) (texts : List (List ℕ)) →
    g ≡ cond is_new (option_map (with_user token name) h) h → k ≡ option_map (with_row room name text) g →
    IfSome k (λ kept. texts ≡ recalled room 1 kept.rows) → IfSome h (λ kept. texts ≡ text ∷ [])
last_said h g k is_new token name room text texts e f p =
    go h is_new (subst (λ (o : Option Content). IfSome o (λ kept. texts ≡ recalled room 1 kept.rows)) (f ∙ ap (option_map (with_row room name text)) e) p)
  where
    go : (h : Option Content) (b : Bool) → IfSome (option_map (with_row room name text) (cond b (option_map (with_user token name) h) h)) (λ kept. texts ≡ recalled room 1 kept.rows) →
        IfSome h (λ kept. texts ≡ text ∷ [])
    go None b p = tt
    go (Some kept) true p = p ∙ last_of_room room name text kept.rows
    go (Some kept) false p = p ∙ last_of_room room name text kept.rows
