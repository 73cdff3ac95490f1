-- What a keeper keeps: users, and rows that were said in rooms. What it answers of them, and what several answers in order lead to.
use Rattle.std.specs.Prelude.{◌≡◌, ℕ, ◌-◌, ◌^◌, ◌≤◌, min, Bool, true, false, List, [], ◌∷◌, ◌++◌, length, drop, map, filter, find, Option, None, Some, is_none, option_map}
use Rattle.std.specs.List.{flat_map}
use Rattle.hd_facts.specs.Counts.{Rose}
use Rattle.hm_message.specs.Same.{same_text}
use Rattle.hd_rooms.specs.declared.vocabulary.Row.{Row}
use Rattle.hd_rooms.specs.declared.vocabulary.Asked.{Asked}
use Rattle.hd_rooms.specs.declared.vocabulary.Asked.TheVariants.{User, Rows, Log, History, AddUser}

-- users as pairs of access token and name, and rows, both in the order in which they were added
pub record Content : Type 0 where
  pub users : List (List ℕ × List ℕ)
  pub rows : List Row

-- ---- what is read off that

-- whether this is the user's access token
abbrev pub has_token : List ℕ → List ℕ × List ℕ → Bool
has_token token user = same_text user.0 token

-- the name of the first user with this access token
abbrev pub name_of : List ℕ → List (List ℕ × List ℕ) → Option (List ℕ)
name_of token users = option_map (λ (user : List ℕ × List ℕ). user.1) (find (has_token token) users)

-- how many rows there are, and 2^64 - 1 if there are more
abbrev pub row_count : List Row → ℕ
row_count rows = min (length rows) (2 ^ 64 - 1)

-- whether the row was said in the room
abbrev pub is_of_room : List ℕ → Row → Bool
is_of_room room row = same_text row.room room

-- the texts of a room's rows, oldest first
abbrev pub texts_of_room : List ℕ → List Row → List (List ℕ)
texts_of_room room rows = map (λ (row : Row). row.text) (filter (is_of_room room) rows)

-- the last of a list, so many at most, in order
abbrev pub last_few : ℕ → List (List ℕ) → List (List ℕ)
last_few most texts = drop (length texts - most) texts

-- the texts of a room's last rows, so many at most, oldest first
abbrev pub recalled : List ℕ → ℕ → List Row → List (List ℕ)
recalled room most rows = last_few most (texts_of_room room rows)

-- ---- what is added

-- one row more, which is the last
abbrev pub with_row : List ℕ → List ℕ → List ℕ → Content → Content
with_row room who text kept = record kept { rows = kept.rows ++ record { room = room; who = who; text = text } ∷ [] }

-- one user more, who is the last
abbrev pub with_user : List ℕ → List ℕ → Content → Content
with_user token name kept = record kept { users = kept.users ++ (token, name) ∷ [] }

-- ---- answers in order

-- the answer is the one on this content. Nothing is said of a call that failed
abbrev pub IsAnswer : Content → Asked → Type 0
IsAnswer kept (User token (Some name)) = name ≡ name_of token kept.users
IsAnswer kept (Rows (Some count)) = count ≡ row_count kept.rows
IsAnswer kept (History room most (Some texts)) = texts ≡ recalled room most kept.rows
IsAnswer kept (AddUser token name (Some is_new)) = is_new ≡ is_none (name_of token kept.users)
IsAnswer kept _ = Unit {0}

-- what is kept after it. A call that failed leaves all as it was
abbrev pub kept_after : Asked → Content → Content
kept_after (Log room who text true) kept = with_row room who text kept
kept_after (AddUser token name (Some true)) kept = with_user token name kept
kept_after _ kept = kept

-- these answers in order are right, and lead from the one content to the other
abbrev pub Leads : Content → List Asked → Content → Type 0
Leads before [] now = now ≡ before
Leads before (ask ∷ asks) now = IsAnswer before ask × Leads (kept_after ask before) asks now

-- so it is of a keeper that tells what it keeps. Of another nothing is said
abbrev pub KeeperDid : Option Content → List Asked → Option Content → Type 0
KeeperDid None asks None = Unit {0}
KeeperDid (Some before) asks (Some now) = Leads before asks now
KeeperDid _ asks _ = ⊥

-- the rows that were logged, in order
abbrev pub logged_by : Asked → List Row
logged_by (Log room who text true) = record { room = room; who = who; text = text } ∷ []
logged_by _ = []

abbrev pub logged : List Asked → List Row
logged asks = flat_map logged_by asks

-- the users that were added, in order
abbrev pub added_by : Asked → List (List ℕ × List ℕ)
added_by (AddUser token name (Some true)) = (token, name) ∷ []
added_by _ = []

abbrev pub added : List Asked → List (List ℕ × List ℕ)
added asks = flat_map added_by asks

-- whether the keeper failed
abbrev pub has_failed : Asked → Bool
has_failed (User token name) = is_none name
has_failed (Rows count) = is_none count
has_failed (Log room who text true) = false
has_failed (Log room who text false) = true
has_failed (History room most texts) = is_none texts
has_failed (AddUser token name is_new) = is_none is_new

-- the count of faults rises with a failure, and with nothing else
abbrev pub CountsFault : Bool → ℕ → ℕ → Type 0
CountsFault true before now = (before ≤ now) × Rose before now
CountsFault false before now = now ≡ before

-- so it does answer by answer
abbrev pub CountsFaults : ℕ → List Asked → ℕ → Type 0
CountsFaults before [] now = now ≡ before
CountsFaults before (ask ∷ asks) now = (between : ℕ) × CountsFault (has_failed ask) before between × CountsFaults between asks now
