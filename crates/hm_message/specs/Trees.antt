-- A message's texts, headers and numbers as trees.
use Rattle.std.specs.Prelude.{ℕ, ◌<◌, ◌^◌, List, Option, Some, None}
use Rattle.std.specs.Prelude as std
use Rattle.hv_value.specs.Tree.{Tree, text, Pair}
use Rattle.hm_message.specs.Headers.{Header}
use Rattle.hm_message.specs.declared.message.Message.{Message}
use Rattle.hm_message.specs.declared.message.Message.TheVariants.{Ack, Sequence}

-- Each text as a tree.
abbrev pub texts : List (List ℕ) → List Tree
texts ss = std.map text ss

-- Each header as a pair of a map.
abbrev pub header_pairs : List Header → List Pair
header_pairs hs = std.map (λ h. (h.0, text h.1)) hs

-- The number has 64 bits, if it is there.
abbrev pub AreInRange : Option ℕ → Type 0
AreInRange None = Unit {0}
AreInRange (Some n) = n < 2 ^ 64

-- The message's numbers have 64 bits.
abbrev pub IsInRange : Message → Type 0
IsInRange (Ack upto) = upto < 2 ^ 64
IsInRange (Sequence first received) = (first < 2 ^ 64) × AreInRange received
IsInRange m = Unit {0}
