-- The grammar of a script, line by line, and the first line that it lacks.
use Rattle.std.specs.Prelude.{◌≡◌, ◌≢◌, ◌⊎◌, ◌≤◌, ◌<◌, ◌^◌, ℕ, suc, min, Bool, true, false, List, [], ◌∷◌, ◌++◌, length, take, reverse, codes, All, Contains, Option, Some, None, Ok}
use Rattle.std.specs.Fmt.{decimal}
use Rattle.std.specs.Str.{IsUtf8}
use Rattle.hm_message.specs.Message.{is_sequenced}
use Rattle.hm_json.specs.Says.{Says}
use Rattle.hv_value.specs.Tree.{list, trees}
use Rattle.hv_value.specs.View.{tree}
use Rattle.hv_value.specs.declared.value.Value.{Value}
use Rattle.hv_json.specs.Reading.{reading}
use Rattle.hd_calls.specs.declared.vocabulary.CallKind.{CallKind}
use Rattle.hd_calls.specs.declared.vocabulary.CallKind.TheVariants as kind
use Rattle.sr_notation.specs.declared.setting.Setting.{Setting}
use Rattle.sr_notation.specs.Settings.{Name, name_of, setting_line, IsSetting}
use Rattle.sr_notation.specs.Terms.{peers_in}
use Rattle.sr_notation.specs.Words.{letter}
use Rattle.sr_script.specs.declared.action.Count.{Count}
use Rattle.sr_script.specs.declared.action.Count.TheVariants.{UpTo, Everything}
use Rattle.sr_script.specs.declared.action.Action.{Action}
use Rattle.sr_script.specs.declared.action.Action.TheVariants.{Open, Accept, Lose, Write, Read, Close, Send, Tick, Call, Item, Done, Cancel, Round}
use Rattle.sr_script.specs.declared.action.Asking.{Asking}
use Rattle.sr_script.specs.Lines.{lines_of, text_of}

-- the most bytes of a script: 16 MiB
abbrev pub most_script : ℕ
most_script = 16777216

-- the most links that a script opens
abbrev pub most_links : ℕ
most_links = 1024

-- ---- actions

-- digits without needless zeros, or a star
abbrev pub count_text : Count → List ℕ
count_text (UpTo n) = decimal n
count_text Everything = codes "*"

-- the number that is named, if it isn't all there is
abbrev pub most_of : Count → Option ℕ
most_of (UpTo n) = Some n
most_of Everything = None

-- a number of 64 bits
abbrev pub IsShort : ℕ → Type 0
IsShort n = n < 2 ^ 64

abbrev pub IsCount : Count → Type 0
IsCount (UpTo n) = IsShort n
IsCount Everything = Unit {0}

-- ---- calls

-- the word calls so, with so many uploads
abbrev pub IsCallWord : List ℕ → CallKind → ℕ → Type 0
IsCallWord word kind.Call uploads = ((word ≡ codes "call") × (uploads ≡ 0)) ⊎ ((word ≡ codes "upload") × (uploads ≡ 1))
IsCallWord word kind.Stream uploads = (word ≡ codes "stream") × (uploads ≡ 0)
IsCallWord word kind.Notify uploads = (word ≡ codes "notify") × (uploads ≡ 0)

-- a method's name: characters without a space (32)
pub record IsTarget (bytes : List ℕ) : Type 0 where
  pub some : bytes ≢ []
  pub spaceless : All (λ b. b ≢ 32) bytes
  pub utf8 : IsUtf8 bytes

-- the words name the target of the call, and then its arguments, by any JSON list of them
pub record NamesCall (words : List ℕ) (a : Asking) : Type 0 where
  pub list_text : List ℕ
  pub words_are : words ≡ a.target ++ (codes " " ++ list_text)
  pub target : IsTarget a.target
  pub arguments : reading list_text ≡ Ok (list (trees a.arguments))

-- the words ask for the call: how it is called, and then what it names
pub record WantsCall (words : List ℕ) (a : Asking) : Type 0 where
  pub word : List ℕ
  pub rest : List ℕ
  pub words_are : words ≡ word ++ (codes " " ++ rest)
  pub called : IsCallWord word a.kind a.uploads
  pub names : NamesCall rest a

-- the words name a call by its number, and then say the value, by any JSON text of it
pub record NamesItem (words : List ℕ) (call : ℕ) (value : Value) : Type 0 where
  pub value_text : List ℕ
  pub words_are : words ≡ decimal call ++ (codes " " ++ value_text)
  pub short : IsShort call
  pub value_is : reading value_text ≡ Ok (tree value)

-- ---- lines of actions

-- the line asks for the action. A message may be written as any JSON text that says it; its tree has at most 64 levels, so the message fits
abbrev pub Asks : List ℕ → Action → Type 0
Asks line Open = line ≡ codes "open"
Asks line (Accept link) = IsShort link × (line ≡ codes "accept " ++ decimal link)
Asks line (Lose side) = line ≡ letter side ++ codes " lose"
Asks line (Write side count) = IsCount count × (line ≡ letter side ++ (codes " write " ++ count_text count))
Asks line (Read side count) = IsCount count × (line ≡ letter side ++ (codes " read " ++ count_text count))
Asks line (Close side) = line ≡ letter side ++ codes " close"
Asks line (Send side m) = (frame : List ℕ) × ((line ≡ letter side ++ (codes " send " ++ frame)) × Says frame m × (is_sequenced m ≡ true))
Asks line (Tick now) = IsShort now × (line ≡ codes "tick " ++ decimal now)
Asks line (Call side a) = (words : List ℕ) × ((line ≡ letter side ++ (codes " " ++ words)) × WantsCall words a)
Asks line (Item side call value) = (words : List ℕ) × ((line ≡ letter side ++ (codes " item " ++ words)) × NamesItem words call value)
Asks line (Done side call) = IsShort call × (line ≡ letter side ++ (codes " done " ++ decimal call))
Asks line (Cancel side call) = IsShort call × (line ≡ letter side ++ (codes " cancel " ++ decimal call))
Asks line (Round side) = line ≡ letter side ++ codes " round"

-- Lists of options and of actions have the latest first, and so have the lines that `IsScript` is given.

-- how many links these actions open
abbrev pub opened : List Action → ℕ
opened [] = 0
opened (Open ∷ before) = suc (opened before)
opened (_ ∷ before) = opened before

-- the moment to which these actions come
abbrev pub moment_after : List Action → ℕ
moment_after [] = 0
moment_after (Tick now ∷ before) = now
moment_after (_ ∷ before) = moment_after before

-- the action may come after these: at most `most_links` links are opened; only a link that was opened is accepted, and only once; moments don't fall
abbrev pub IsInTurn : List Action → Action → Type 0
IsInTurn before Open = opened before < most_links
IsInTurn before (Accept link) = (link < opened before) × (Contains before (Accept link) → ⊥)
IsInTurn before (Tick now) = moment_after before ≤ now
IsInTurn before _ = Unit {0}

-- a message is sent where there are no peers, and calls go where there are some
abbrev pub Suits : Bool → Action → Type 0
Suits peers (Send side m) = peers ≡ false
Suits peers (Call side a) = peers ≡ true
Suits peers (Item side call value) = peers ≡ true
Suits peers (Done side call) = peers ≡ true
Suits peers (Cancel side call) = peers ≡ true
Suits peers (Round side) = peers ≡ true
Suits peers _ = Unit {0}

-- each of these does
abbrev pub AllSuit : Bool → List Action → Type 0
AllSuit peers [] = Unit {0}
AllSuit peers (a ∷ before) = AllSuit peers before × Suits peers a

-- each of these may come after those before it
abbrev pub AreInTurn : List Action → Type 0
AreInTurn [] = Unit {0}
AreInTurn (a ∷ before) = AreInTurn before × IsInTurn before a

-- ---- scripts

-- what a script asks for: its options and its actions, the latest first
pub record Program : Type 0 where
  pub settings : List Setting
  pub actions : List Action

-- an empty line, or a comment: it begins with # (35)
abbrev pub IsPassedOver : List ℕ → Type 0
IsPassedOver line = (line ≡ []) ⊎ ((comment : List ℕ) × (line ≡ 35 ∷ comment))

-- none of these settings has this name
abbrev pub IsNew : Name → List Setting → Type 0
IsNew name settings = All (λ s. name ≢ name_of s) settings

-- the line adds this to what the lines before it ask for: an option, before all actions and the only one of its name, or an action that suits the options
abbrev pub Adds : List ℕ → Program → Program → Type 0
Adds line before now =
    ((s : Setting) × ((line ≡ setting_line s) × IsSetting s × IsNew (name_of s) before.settings × (before.actions ≡ [])
    × (now ≡ record { settings = s ∷ before.settings; actions = [] })))
    ⊎ ((a : Action) × (Asks line a × IsInTurn before.actions a × Suits (peers_in before.settings) a
    × (now ≡ record { settings = before.settings; actions = a ∷ before.actions })))

-- these lines are a script, and this is what it asks for
abbrev pub IsScript : List (List ℕ) → Program → Type 0
IsScript [] p = p ≡ record { settings = []; actions = [] }
IsScript (line ∷ before) p = IsUtf8 line × ((IsPassedOver line × IsScript before p) ⊎ ((q : Program) × (IsScript before q × Adds line q p)))

-- the text, of at most 16 MiB, is a script that asks for this
pub record Parses (text : List ℕ) (p : Program) : Type 0 where
  pub short : length text ≤ most_script
  pub script : IsScript (reverse (lines_of text)) p

-- the first n lines of the text are there, with their ends within 16 MiB, and are a script
pub record IsScriptUpTo (text : List ℕ) (n : ℕ) : Type 0 where
  pub there : n ≤ length (lines_of text)
  pub within : min (length text) (length (text_of (take n (lines_of text)))) ≤ most_script
  pub asks : Program
  pub script : IsScript (reverse (take n (lines_of text))) asks

-- the line of this number, from 1, is there, and is the first up to which the text isn't this
pub record IsFirstLacking (IsUpTo : ℕ → Type 0) (text : List ℕ) (number : ℕ) : Type 0 where
  pub before : ℕ
  pub next : number ≡ suc before
  pub there : number ≤ length (lines_of text)
  pub good : IsUpTo before
  pub bad : IsUpTo number → ⊥

-- it is the first that the grammar lacks
abbrev pub IsRefusedAt : List ℕ → ℕ → Type 0
IsRefusedAt text number = IsFirstLacking (IsScriptUpTo text) text number

-- ---- scripts of two ends alone

-- no line says that there are peers
abbrev pub IsWithoutPeers : Program → Type 0
IsWithoutPeers p = peers_in p.settings ≡ false

-- the first n lines are a script without peers
pub record IsWithoutPeersUpTo (text : List ℕ) (n : ℕ) : Type 0 where
  pub up_to : IsScriptUpTo text n
  pub without : IsWithoutPeers up_to.asks

-- the line is the first that the grammar lacks, if the option of peers is none of it
abbrev pub IsRefusedWithoutPeers : List ℕ → ℕ → Type 0
IsRefusedWithoutPeers text number = IsFirstLacking (IsWithoutPeersUpTo text) text number

-- the answer to a text that is no script
abbrev pub refusal_line : ℕ → List ℕ
refusal_line number = codes "line " ++ (decimal number ++ codes " refused\n")
