-- Notes of some connections, for the worked rows of lives and tokens.
use Rattle.std.specs.Prelude.{ℕ, true, List, [], ◌∷◌, codes}
use Rattle.hd_server.specs.Lives.{ConnectionEvent, Negotiated, Opened, Socketed, Polled, Answered}

abbrev pub sixteen_zeros : List ℕ
sixteen_zeros = 0 ∷ 0 ∷ 0 ∷ 0 ∷ 0 ∷ 0 ∷ 0 ∷ 0 ∷ 0 ∷ 0 ∷ 0 ∷ 0 ∷ 0 ∷ 0 ∷ 0 ∷ 0 ∷ []

-- the token of 16 zero bytes and connection 1
abbrev pub first_token : List ℕ
first_token = codes "AAAAAAAAAAAAAAAAAAAAAAAAAAAAAAAB"

-- the same of connections 2 and 3
abbrev pub second_token : List ℕ
second_token = codes "AAAAAAAAAAAAAAAAAAAAAAAAAAAAAAAC"

abbrev pub third_token : List ℕ
third_token = codes "AAAAAAAAAAAAAAAAAAAAAAAAAAAAAAAD"

-- a token of connection 1, at moment 1,000
abbrev pub told : List ConnectionEvent
told = Negotiated 1 first_token true 1000 ∷ []

-- connection 2 without a token, on lane 9
abbrev pub plain : List ConnectionEvent
plain = Socketed 2 9 1000 ∷ Opened 2 1000 ∷ told

-- connection 1 stood on lane 4, and stands on lane 5
abbrev pub moved : List ConnectionEvent
moved = Socketed 1 5 3000 ∷ Socketed 1 4 2000 ∷ told

-- connection 1 polled, and its poll ended
abbrev pub polled : List ConnectionEvent
polled = Answered 1 4 2000 ∷ Polled 1 4 2000 ∷ told

-- a further poll is held on lane 5
abbrev pub held : List ConnectionEvent
held = Polled 1 5 3000 ∷ polled
