-- A script that is read line by line.
use Rattle.std.specs.Prelude.{◌≡◌, ◌≢◌, ◌≤◌, ◌<◌, ℕ, suc, min, Bool, true, false, List, ◌++◌, length, take, drop, reverse, slice_index, All}
use Rattle.std.specs.Str.{IsUtf8}
use Rattle.hd_facts.specs.Unique.{IsTheOne}
use Rattle.sr_script.specs.declared.line.Asked.{Asked}
use Rattle.sr_notation.specs.declared.setting.Setting.TheVariants as setting
use Rattle.sr_script.specs.declared.script.Reader.{Reader}
use Rattle.sr_script.specs.declared.script.ScriptError.{ScriptError}
use Rattle.sr_script.specs.declared.script.ScriptError.TheVariants.{Line, NoMemory}
use Rattle.sr_script.specs.Lines.{lines_of, text_of}
use Rattle.sr_script.specs.Script.{Program, IsScript, Parses, IsRefusedAt, IsWithoutPeers, IsRefusedWithoutPeers, most_script}
use Rattle.sr_script.specs.declared.line.Asked.TheVariants as asked
use Rattle.sr_script.specs.Asking.{Wants, MayCome, IsReadable}
use Rattle.sr_script.specs.Turns.{Knows}

-- no end of a line (10) among the bytes
abbrev pub IsOneLine : List ℕ → Type 0
IsOneLine bytes = All (λ b. b ≢ 10) bytes

-- the first line of these bytes has n of them
pub record IsLineEnd (bytes : List ℕ) (n : ℕ) : Type 0 where
  pub inside : n ≤ length bytes
  pub line : IsOneLine (take n bytes)
  pub ended : n < length bytes → slice_index bytes n ≡ 10

-- the first lines of the text were read, up to the reader's place, and ask for this
pub record HasRead (reader : Reader) (text : List ℕ) (p : Program) : Type 0 where
  pub lines : List (List ℕ)
  pub whole : lines_of text ≡ lines ++ lines_of (drop reader.at text)
  pub place : reader.at ≡ min (length text) (length (text_of lines))
  pub within : reader.at ≤ most_script
  pub number : reader.number ≡ suc (length lines)
  pub few : length lines ≤ reader.at
  pub script : IsTheOne (IsScript (reverse lines)) p
  pub turn : Knows reader.turn p

-- this is the one thing that the line asks for, and it may come after lines that ask for the program
pub record Comes (line : List ℕ) (p : Program) (x : Asked) : Type 0 where
  pub utf8 : IsUtf8 line
  pub wanted : IsTheOne (Wants line) x
  pub in_turn : MayCome p x
  pub readable : IsReadable x

-- such a line can't come after lines that ask for the program
abbrev pub CantCome : List ℕ → Program → Type 0
CantCome line p = IsUtf8 line → (x : Asked) → Wants line x → MayCome p x → ⊥

-- if it isn't that memory ran out, the text is refused at this line, and at no other
abbrev pub RefusesText : ScriptError → List ℕ → Type 0
RefusesText (Line number) text = IsTheOne (IsRefusedAt text) number × ((p : Program) → Parses text p → ⊥)
RefusesText NoMemory text = Unit {0}

-- the lines before this one were read, and ask for the program
pub record HasCome (text : List ℕ) (p : Program) (number : ℕ) : Type 0 where
  pub reader : Reader
  pub read : HasRead reader text p
  pub number_is : reader.number ≡ number

-- ---- without peers

-- whether it is the option of peers
abbrev pub asks_for_peers : Asked → Bool
asks_for_peers (asked.Setting setting.Peers) = true
asks_for_peers x = false

-- the lines that were read ask for nothing of peers
abbrev pub HasReadWithoutPeers : Reader → List ℕ → Program → Type 0
HasReadWithoutPeers reader text p = HasRead reader text p × IsWithoutPeers p

-- the text is a script without peers that asks for this, and for nothing else
abbrev pub ParsesWithoutPeers : List ℕ → Program → Type 0
ParsesWithoutPeers text p = IsTheOne (Parses text) p × IsWithoutPeers p

-- if it isn't that memory ran out, the text is refused as a script without peers at this line, and at no other
abbrev pub RefusesWithoutPeers : ScriptError → List ℕ → Type 0
RefusesWithoutPeers (Line number) text = IsTheOne (IsRefusedWithoutPeers text) number × ((p : Program) → Parses text p → IsWithoutPeers p → ⊥)
RefusesWithoutPeers NoMemory text = Unit {0}
