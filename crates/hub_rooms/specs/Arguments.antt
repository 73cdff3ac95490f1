-- The arguments of a call as a method reads them: None if they are of another number or kind.
use Rattle.std.specs.Prelude.{ℕ, pos, nat_le, List, [], ◌∷◌, length, Option, Some, None, if◌then◌else◌}
use Rattle.hv_value.specs.Tree.{Tree, text, int}
use Rattle.hm_message.specs.Fields.{text_in}
use Rattle.hd_rooms.specs.Rooms.{most_name, most_recalled}

-- the name of a room, if it isn't too long
abbrev pub room_in : Tree → Option (List ℕ)
room_in (text s) = if nat_le (length s) most_name then Some s else None
room_in _ = None

-- one room
abbrev pub one_room : List Tree → Option (List ℕ)
one_room (room ∷ []) = room_in room
one_room _ = None

-- two texts
abbrev pub two_texts : List Tree → Option (List ℕ × List ℕ)
two_texts (text s ∷ text t ∷ []) = Some (s, t)
two_texts _ = None

-- a number of texts for which a call can ask
abbrev pub most_in : Tree → Option ℕ
most_in (int (pos n)) = if nat_le n most_recalled then Some n else None
most_in _ = None

-- two parts, if both are there
abbrev pub both : {A B : Type 0} → Option A → Option B → Option (A × B)
both (Some a) (Some b) = Some (a, b)
both _ _ = None

-- a room and a text
abbrev pub room_and_text : List Tree → Option (List ℕ × List ℕ)
room_and_text (room ∷ words ∷ []) = both (room_in room) (text_in words)
room_and_text _ = None

-- a room, and a number of texts for which a call can ask
abbrev pub room_and_most : List Tree → Option (List ℕ × ℕ)
room_and_most (room ∷ n ∷ []) = both (room_in room) (most_in n)
room_and_most _ = None
