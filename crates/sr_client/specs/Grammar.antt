-- The grammar of a client's script: the words of a peer's lines as `sr_script` has them, without the letter of an end, and two of its own.
use Rattle.std.specs.Prelude.{◌≡◌, ◌⊎◌, ◌≤◌, ◌<◌, ℕ, suc, min, List, [], ◌∷◌, ◌++◌, length, take, codes}
use Rattle.std.specs.Fmt.{decimal}
use Rattle.std.specs.Str.{IsUtf8}
use Rattle.hd_facts.specs.Unique.{IsTheOne}
use Rattle.hd_calls.specs.declared.vocabulary.CallKind.TheVariants as kind
use Rattle.hd_client.specs.declared.order.Order.{Order}
use Rattle.hd_client.specs.declared.order.Order.TheVariants.{Call, Item, Done, Cancel, Wait, Lose}
use Rattle.sr_script.specs.declared.script.ScriptError.{ScriptError}
use Rattle.sr_script.specs.declared.script.ScriptError.TheVariants.{Line, NoMemory}
use Rattle.sr_script.specs.Lines.{lines_of, text_of}
use Rattle.sr_script.specs.Script.{IsPassedOver, IsShort, NamesItem, WantsCall}

-- the most bytes of a client's script: 1 MiB
abbrev pub most_script : ℕ
most_script = 1048576

-- the line asks for this
abbrev pub Asks : List ℕ → Order → Type 0
Asks line (Call kind target arguments uploads) = WantsCall line (record { kind = kind; uploads = uploads; target = target; arguments = arguments })
Asks line (Item call value) = (words : List ℕ) × ((line ≡ codes "item " ++ words) × NamesItem words call value)
Asks line (Done call) = IsShort call × (line ≡ codes "done " ++ decimal call)
Asks line (Cancel call) = IsShort call × (line ≡ codes "cancel " ++ decimal call)
Asks line Wait = line ≡ codes "wait"
Asks line Lose = line ≡ codes "lose"

-- a call of a script has one upload at most, and one that wants no answer has none
abbrev pub HasFewUploads : Order → Type 0
HasFewUploads (Call kind.Notify target arguments uploads) = uploads ≡ 0
HasFewUploads (Call kind target arguments uploads) = uploads ≤ 1
HasFewUploads _ = Unit {0}

-- the line, in UTF-8, adds these to what is asked for: nothing if it is passed over, and else one order
abbrev pub Adds : List ℕ → List Order → Type 0
Adds line orders = IsUtf8 line × ((IsPassedOver line × (orders ≡ [])) ⊎ ((order : Order) × (Asks line order × (orders ≡ order ∷ []))))

-- these lines are a script, and it asks for these, in order
abbrev pub IsScript : List (List ℕ) → List Order → Type 0
IsScript [] orders = orders ≡ []
IsScript (line ∷ lines) orders = (first : List Order) × (rest : List Order) × (Adds line first × IsScript lines rest × (orders ≡ first ++ rest))

-- the text, of at most 1 MiB, is a script that asks for these
pub record Parses (text : List ℕ) (orders : List Order) : Type 0 where
  pub short : length text ≤ most_script
  pub script : IsScript (lines_of text) orders

-- the first n lines of the text are there, with their ends within 1 MiB, and are a script
pub record IsScriptUpTo (text : List ℕ) (n : ℕ) : Type 0 where
  pub there : n ≤ length (lines_of text)
  pub within : min (length text) (length (text_of (take n (lines_of text)))) ≤ most_script
  pub orders : List Order
  pub script : IsScript (take n (lines_of text)) orders

-- the line of this number, from 1, is there, and is the first that the grammar lacks
pub record IsRefusedAt (text : List ℕ) (number : ℕ) : Type 0 where
  pub before : ℕ
  pub next : number ≡ suc before
  pub there : number ≤ length (lines_of text)
  pub good : IsScriptUpTo text before
  pub bad : IsScriptUpTo text number → ⊥

-- if it isn't that memory ran out, the text is refused at this line, and at no other
abbrev pub RefusesText : ScriptError → List ℕ → Type 0
RefusesText (Line number) text = IsTheOne (IsRefusedAt text) number × ((orders : List Order) → Parses text orders → ⊥)
RefusesText NoMemory text = Unit {0}

-- a text of more bytes than a script may have is refused at the same line with more bytes after it
abbrev pub LongIsRefusedByItsFront : Type 0
LongIsRefusedByItsFront = (front more : List ℕ) (number : ℕ) → most_script < length front → IsTheOne (IsRefusedAt front) number
    → IsTheOne (IsRefusedAt (front ++ more)) number
