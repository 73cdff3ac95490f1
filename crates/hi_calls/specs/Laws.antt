-- What crates above cite of these definitions.
use Rattle.hi_calls.specs.Stands.{Stands}
use Rattle.hi_calls.specs.Legal.{AreLegal}
use Rattle.hi_calls.specs.declared.calls.Calls.{Calls}
use Rattle.hd_calls.specs.Hubs.{Invoked, Notify}
use Rattle.hd_calls.specs.Ledgers.{CallHappening, Called}
use Rattle.std.specs.Prelude.{◌≡◌, ℕ, List, [], ◌∷◌, length}
use Rattle.hv_value.specs.Tree.{Tree}
use Rattle.hd_delivery.specs.declared.vocabulary.Side.{Side}
use Rattle.hd_calls.specs.declared.vocabulary.CallKind.{CallKind}
use Rattle.hd_calls.specs.Ids.{prefix_of, id_at}
use Rattle.hd_calls.specs.Peers.{Settings}
use Rattle.hd_calls.specs.Rules.{MadeAs}
use Rattle.hi_calls.specs.Numbering.{id_with, number_after, call_after}

-- a peer that draws such ids makes such calls, with so many uploads
abbrev pub CallsAreMade : Type 0
CallsAreMade = (t : Settings) (prefix : List ℕ) (last : ℕ) (kind : CallKind) (target : List ℕ) (arguments : List Tree) (uploads : ℕ)
    → ((n : ℕ) → t.name n ≡ id_with prefix n)
    → MadeAs t last (number_after kind uploads last) (call_after prefix last kind target arguments uploads).way (call_after prefix last kind target arguments uploads)
    × (length (call_after prefix last kind target arguments uploads).streams ≡ uploads)

-- the ids that a side draws are such
abbrev pub IdsAreOfASide : Type 0
IdsAreOfASide = (side : Side) (n : ℕ) → id_at side n ≡ id_with (prefix_of side) n

-- whatever a table stands for: its calls' ledgers are legal, and so is what was uploaded on each stream
abbrev pub LedgersAreLegal : Type 0
LedgersAreLegal = (table : Calls) (prefix : List ℕ) (h : List CallHappening) → Stands table prefix h → AreLegal h

-- a Notify without uploads that was made elsewhere changes nothing in a table: it draws no number, and isn't live
abbrev pub NoticesPass : Type 0
NoticesPass = (table : Calls) (prefix : List ℕ) (h : List CallHappening) (c : Invoked) → Stands table prefix h → c.way ≡ Notify → c.streams ≡ []
    → Stands table prefix (Called 0 c ∷ h)
