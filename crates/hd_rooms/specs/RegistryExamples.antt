-- Some groups, users and changes, for the worked cases.
use Rattle.std.specs.Prelude.{ℕ, List, [], ◌∷◌}
use Rattle.hd_rooms.specs.Registry.{Lists, nobody, added, named}

-- Two groups and a user.
abbrev pub red : List ℕ
red = 114 ∷ 101 ∷ 100 ∷ []

abbrev pub blue : List ℕ
blue = 98 ∷ 108 ∷ 117 ∷ 101 ∷ []

abbrev pub ann : List ℕ
ann = 97 ∷ 110 ∷ 110 ∷ []

-- Connection 9 joins both groups, then 2, then 9 once more, and 5. Connection 9 is the user's.
abbrev pub some_joined : Lists
some_joined = added (added (added (named (added (added nobody red 9) blue 9) ann 9) red 2) red 9) red 5
