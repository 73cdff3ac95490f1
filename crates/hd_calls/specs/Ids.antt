-- The ids that two peers draw for their calls and uploads: a client's is its number in decimal digits, a server's has an s before these.
use Rattle.std.specs.Prelude.{◌≡◌, ◌≤◌, ℕ, nat_le, List, [], ◌∷◌, ◌++◌, length, codes, if◌then◌else◌}
use Rattle.std.specs.Fmt.{decimal}
use Rattle.hd_delivery.specs.declared.vocabulary.Side.{Side}
use Rattle.hd_delivery.specs.declared.vocabulary.Side.TheVariants.{Client, Server}
use Rattle.hd_calls.specs.Numbers.{most_numbers}
use Rattle.hd_calls.specs.PeerWorlds.{AreApart}

-- what stands before the digits
abbrev pub prefix_of : Side → List ℕ
prefix_of Client = []
prefix_of Server = codes "s"

-- the digits. No peer draws a greater number, for which this is what no text has, so that all ids are apart
abbrev pub digits_of : ℕ → List ℕ
digits_of n = if nat_le n most_numbers then decimal n else n ∷ []

-- the id of a number
abbrev pub id_at : Side → ℕ → List ℕ
id_at side n = prefix_of side ++ digits_of n

-- the most bytes of an id that is drawn
abbrev pub most_id : ℕ
most_id = 20

-- such ids are apart, and short
pub record IdsAreDrawn : Type 0 where
  pub apart : AreApart id_at
  pub decimal_up_to : (side : Side) (n : ℕ) → n ≤ most_numbers → id_at side n ≡ prefix_of side ++ decimal n
  pub short : (side : Side) (n : ℕ) → n ≤ most_numbers → length (id_at side n) ≤ most_id
