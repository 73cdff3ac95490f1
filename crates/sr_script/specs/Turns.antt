-- What is known of the lines before, so that it is seen which line may come next.
use Rattle.std.specs.Prelude.{◌≡◌, ◌↔◌, ℕ, Bool, true, false, List, [], length, slice_index_or, IsTrue, Contains}
use Rattle.sr_script.specs.declared.action.Action.{Action}
use Rattle.sr_script.specs.declared.action.Action.TheVariants.{Open, Accept, Tick}
use Rattle.sr_script.specs.declared.line.Asked.{Asked}
use Rattle.sr_script.specs.declared.turn.Turn.{Turn}
use Rattle.sr_notation.specs.Settings.{Name, TheCodec, TheVersion, TheReconnect, TheBuffer, ThePeers}
use Rattle.sr_script.specs.Script.{Program, IsNew, opened, moment_after}
use Rattle.sr_notation.specs.Terms.{peers_in}
use Rattle.sr_script.specs.Asking.{MayCome, and_then}

-- whether the option of this name may come
abbrev pub comes : Turn → Name → Bool
comes turn TheCodec = turn.codec
comes turn TheVersion = turn.version
comes turn TheReconnect = turn.reconnect
comes turn TheBuffer = turn.buffer
comes turn ThePeers = turn.peers

-- of each link, whether it was accepted
abbrev pub TellsAccepted : List Bool → List Action → Type 0
TellsAccepted accepted actions = (link : ℕ) → (slice_index_or accepted link false ≡ true) ↔ Contains actions (Accept link)

-- this is known of lines that ask for the program
pub record Knows (turn : Turn) (p : Program) : Type 0 where
  pub options : IsTrue turn.options ↔ (p.actions ≡ [])
  pub new : (name : Name) → IsTrue (comes turn name) ↔ IsNew name p.settings
  pub links : length turn.accepted.items ≡ opened p.actions
  pub accepted : TellsAccepted turn.accepted.items p.actions
  pub moment : turn.now ≡ moment_after p.actions
  pub between : turn.between_peers ≡ peers_in p.settings

-- the answer whether this may come, and what is known then
abbrev pub Admits : Bool → Turn → Program → Asked → Type 0
Admits true now p x = MayCome p x × Knows now (and_then p x)
Admits false now p x = (MayCome p x → ⊥) × Knows now p

-- an action that may come at any time, if it suits the options
abbrev pub IsPlain : Action → Type 0
IsPlain Open = ⊥
IsPlain (Accept link) = ⊥
IsPlain (Tick now) = ⊥
IsPlain _ = Unit {0}
