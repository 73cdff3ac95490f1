-- How a replay goes along a script: what its ends are begun with, and the two ends that stand for the actions that were read.
use Rattle.std.specs.Prelude.{◌≡◌, ℕ, false, List, []}
use Rattle.hs_shake.specs.Requests.{IsVersion}
use Rattle.hd_delivery.specs.Worlds.{Limits, Terms}
use Rattle.hd_delivery.specs.Bytes.{Wire}
use Rattle.he_wire.specs.Wires.{IsHouseWire}
use Rattle.he_end.specs.declared.config.Config.{Config}
use Rattle.sr_notation.specs.declared.setting.Setting.{Setting}
use Rattle.sr_script.specs.declared.action.Action.{Action}
use Rattle.sr_script.specs.declared.line.Asked.{Asked}
use Rattle.sr_script.specs.declared.line.Asked.TheVariants as asked
use Rattle.sr_replay.specs.declared.pair.Pair.{Pair}
use Rattle.sr_script.specs.Script.{Program, Parses}
use Rattle.sr_replay.specs.Runs.{Run}
use Rattle.sr_replay.specs.declared.text_kind.TextKind.{TextKind}
use Rattle.sr_notation.specs.Terms.{codec_in, version_in, reconnect_in, limits_in, peers_in, terms_in}
use Rattle.sr_replay.specs.Follows.{Follows, GoesOn, IsOfEnds}

-- both ends are begun so if these are the options
pub record Begins (settings : List Setting) (config : Config) : Type 0 where
  pub codec : config.codec ≡ codec_in settings
  pub version : config.version ≡ version_in settings
  pub reconnect : config.reconnect ≡ reconnect_in settings
  pub limits : config.limits ≡ limits_in settings
  pub spoken : IsVersion config.version

-- over each wire of this project the two ends are begun as the program's options say, stand for no action, and tell so
abbrev pub IsBegun : TextKind → Program → Pair → Type 0
IsBegun kind p pair = (wire : Wire) → IsHouseWire (limits_in p.settings).frame wire → Follows kind [] (limits_in p.settings) wire (terms_in p.settings) [] [] pair

-- two ends that stood for no action stand for these, and so much was taken away from what they told
abbrev pub ActsAll : Pair → List Action → List ℕ → Pair → Type 0
ActsAll old actions gone new = (kind : TextKind) (limits : Limits) (wire : Wire) (t : Terms) → Follows kind [] limits wire t [] [] old
    → (r : Run) × Follows kind gone limits wire t actions r new

-- the text is no script with peers
abbrev pub IsWithoutPeers : List ℕ → Type 0
IsWithoutPeers text = (p : Program) → Parses text p → peers_in p.settings ≡ false

-- the options that were read are those of the script, once there was an action
abbrev pub HasSettings : List ℕ → Program → Type 0
HasSettings text q = (q.actions ≡ [] → ⊥) → (p : Program) → Parses text p → p.settings ≡ q.settings

-- two ends alone can do what the line asks for
abbrev pub IsForEnds : Asked → Type 0
IsForEnds (asked.Setting s) = Unit {0}
IsForEnds (asked.Action a) = IsOfEnds a

-- an option changes nothing any more, and an action is done
abbrev pub Obeys : Pair → Asked → Pair → Type 0
Obeys old (asked.Setting s) new = new ≡ old
Obeys old (asked.Action a) new = GoesOn old a new

-- over each wire of this project the two ends stand for the run of the program's actions, of which they tell so
abbrev pub Reaches : TextKind → Program → Pair → Type 0
Reaches kind p pair = (wire : Wire) → IsHouseWire (limits_in p.settings).frame wire
    → (r : Run) × Follows kind [] (limits_in p.settings) wire (terms_in p.settings) p.actions r pair
