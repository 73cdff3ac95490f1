-- What holds of scripts.
use Rattle.std.specs.Prelude.{◌≡◌, ◌<◌, ◌≤◌, ◌+◌, ℕ, min, List, [], ◌∷◌, ◌++◌, length, take, drop}
use Rattle.hd_facts.specs.Unique.{IsTheOne}
use Rattle.hs_shake.specs.Requests.{IsVersion}
use Rattle.hd_delivery.specs.Bounds.{AreLimits}
use Rattle.sr_notation.specs.declared.setting.Setting.{Setting}
use Rattle.sr_script.specs.declared.action.Action.{Action}
use Rattle.sr_script.specs.declared.script.Reader.{Reader}
use Rattle.sr_script.specs.Script.{Program, Parses, IsRefusedAt, IsRefusedWithoutPeers, AreInTurn, AllSuit, most_script}
use Rattle.sr_notation.specs.Terms.{version_in, limits_in, peers_in}
use Rattle.sr_script.specs.Lines.{lines_of, text_of}
use Rattle.sr_script.specs.Reading.{HasRead, IsLineEnd}

-- the actions of a script are in turn
abbrev pub ScriptsAreInTurn : Type 0
ScriptsAreInTurn = (text : List ℕ) (p : Program) → Parses text p → AreInTurn p.actions

-- and suit its options
abbrev pub ScriptsSuit : Type 0
ScriptsSuit = (text : List ℕ) (p : Program) → Parses text p → AllSuit (peers_in p.settings) p.actions

-- the ends of a script are begun in a version that there is, within limits that an end may have
pub record IsSettled (settings : List Setting) : Type 0 where
  pub version : IsVersion (version_in settings)
  pub limits : AreLimits (limits_in settings)

abbrev pub ScriptsAreSettled : Type 0
ScriptsAreSettled = (text : List ℕ) (p : Program) → Parses text p → IsSettled p.settings

-- the options that were read before the first action are those of the script
abbrev pub SettingsComeFirst : Type 0
SettingsComeFirst = (text : List ℕ) (reader : Reader) (settings : List Setting) (a : Action) (p : Program)
    → HasRead reader text (record { settings = settings; actions = a ∷ [] }) → Parses text p → p.settings ≡ settings

-- a text of more bytes than a script may have is refused at the same line with more bytes after it
abbrev pub LongIsRefusedByItsFront : Type 0
LongIsRefusedByItsFront = (front more : List ℕ) (number : ℕ) → most_script < length front → IsTheOne (IsRefusedAt front) number
    → IsTheOne (IsRefusedAt (front ++ more)) number

-- so is one that is to be without peers
abbrev pub LongIsRefusedByItsFrontWithoutPeers : Type 0
LongIsRefusedByItsFrontWithoutPeers = (front more : List ℕ) (number : ℕ) → most_script < length front → IsTheOne (IsRefusedWithoutPeers front) number
    → IsTheOne (IsRefusedWithoutPeers (front ++ more)) number

-- a text is its first line and the lines of what comes after that
abbrev pub LinesAreCut : Type 0
LinesAreCut = (text : List ℕ) (n : ℕ) → 0 < length text → IsLineEnd text n → lines_of text ≡ take n text ∷ lines_of (drop (min (n + 1) (length text)) text)

-- lines that end within the front of a text don't depend on what comes after it
pub record FrontsKeepLines : Type 0 where
  pub same : (front a b : List ℕ) (n : ℕ) → n ≤ length (lines_of (front ++ a)) → length (text_of (take n (lines_of (front ++ a)))) ≤ length front
      → take n (lines_of (front ++ b)) ≡ take n (lines_of (front ++ a))
  pub no_fewer : (front more : List ℕ) → length (lines_of front) ≤ length (lines_of (front ++ more))
