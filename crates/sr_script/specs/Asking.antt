-- What one line of a script asks for.
use Rattle.std.specs.Prelude.{◌≡◌, ◌⊎◌, ◌≤◌, ℕ, true, List, [], ◌∷◌, ◌++◌, codes}
use Rattle.std.specs.Fmt.{decimal}
use Rattle.hm_message.specs.Message.{Fits, is_sequenced}
use Rattle.hm_json.specs.Says.{Says}
use Rattle.hd_delivery.specs.declared.vocabulary.Side.{Side}
use Rattle.sr_notation.specs.Settings.{IsSetting, name_of, IsOption}
use Rattle.sr_notation.specs.Terms.{peers_in}
use Rattle.sr_script.specs.declared.action.Action.{Action}
use Rattle.sr_script.specs.declared.action.Action.TheVariants.{Lose, Write, Read, Close, Send, Call, Item, Done, Cancel, Round}
use Rattle.sr_script.specs.declared.line.Asked.{Asked}
use Rattle.sr_script.specs.declared.line.Asked.TheVariants as asked
use Rattle.sr_script.specs.Script.{Program, IsNew, Asks, IsInTurn, IsShort, IsCount, count_text, WantsCall, NamesItem, Suits}

-- after the letter of this end, these words ask for the action of an end
abbrev pub OfLink : Side → List ℕ → Action → Type 0
OfLink side words (Lose s) = (s ≡ side) × (words ≡ codes "lose")
OfLink side words (Write s count) = (s ≡ side) × (IsCount count × (words ≡ codes "write " ++ count_text count))
OfLink side words (Read s count) = (s ≡ side) × (IsCount count × (words ≡ codes "read " ++ count_text count))
OfLink side words (Close s) = (s ≡ side) × (words ≡ codes "close")
OfLink side words (Send s m) = (s ≡ side) × ((frame : List ℕ) × ((words ≡ codes "send " ++ frame) × Says frame m × (is_sequenced m ≡ true)))
OfLink side words _ = ⊥

-- or for the action of a peer
abbrev pub OfPeer : Side → List ℕ → Action → Type 0
OfPeer side words (Call s a) = (s ≡ side) × WantsCall words a
OfPeer side words (Item s call value) = (s ≡ side) × ((rest : List ℕ) × ((words ≡ codes "item " ++ rest) × NamesItem rest call value))
OfPeer side words (Done s call) = (s ≡ side) × (IsShort call × (words ≡ codes "done " ++ decimal call))
OfPeer side words (Cancel s call) = (s ≡ side) × (IsShort call × (words ≡ codes "cancel " ++ decimal call))
OfPeer side words (Round s) = (s ≡ side) × (words ≡ codes "round")
OfPeer side words _ = ⊥

-- either
abbrev pub OfEnd : Side → List ℕ → Action → Type 0
OfEnd side words a = OfLink side words a ⊎ OfPeer side words a

-- the line asks for this
abbrev pub Wants : List ℕ → Asked → Type 0
Wants line (asked.Setting s) = IsOption line s
Wants line (asked.Action a) = Asks line a

-- a message that is sent fits into a frame
abbrev pub HasFit : Action → Type 0
HasFit (Send side m) = Fits m
HasFit _ = Unit {0}

abbrev pub IsReadable : Asked → Type 0
IsReadable (asked.Setting s) = Unit {0}
IsReadable (asked.Action a) = HasFit a

-- a message that is sent is sequenced, and fits into a frame; a call has one upload at most
abbrev pub IsWhole : Action → Type 0
IsWhole (Send side m) = (is_sequenced m ≡ true) × Fits m
IsWhole (Call side a) = a.uploads ≤ 1
IsWhole _ = Unit {0}

-- an option has a line, and a message can be sent
abbrev pub IsAllowed : Asked → Type 0
IsAllowed (asked.Setting s) = IsSetting s
IsAllowed (asked.Action a) = IsWhole a

-- it may come after what these lines ask for
abbrev pub MayCome : Program → Asked → Type 0
MayCome before (asked.Setting s) = IsNew (name_of s) before.settings × (before.actions ≡ [])
MayCome before (asked.Action a) = IsInTurn before.actions a × Suits (peers_in before.settings) a

-- what they ask for with this
abbrev pub and_then : Program → Asked → Program
and_then before (asked.Setting s) = record { settings = s ∷ before.settings; actions = [] }
and_then before (asked.Action a) = record { settings = before.settings; actions = a ∷ before.actions }
