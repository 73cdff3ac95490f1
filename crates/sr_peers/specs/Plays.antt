-- How a peer of a replay stands for its moves, and what each of its calls makes of that.
use Rattle.std.specs.Prelude.{◌≡◌, ◌⊎◌, ℕ, Bool, true, false, List, [], ◌∷◌, ◌++◌, Some, None}
use Rattle.hm_message.specs.declared.message.Message.{Message}
use Rattle.hd_delivery.specs.declared.vocabulary.Got.TheVariants as gives
use Rattle.hd_delivery.specs.Histories.{EndEvent, Took, present_link}
use Rattle.hd_delivery.specs.Processes.{processes}
use Rattle.hd_delivery.specs.Bytes.{ByteStep, Bytes, Does}
use Rattle.hd_delivery.specs.Alone.{writing, lent_text}
use Rattle.hd_calls.specs.Hubs.{Hub}
use Rattle.hd_calls.specs.Peers.{Effect, PeerEvent, Plain, Reads, Handles, Settings, waiting, byte_steps, steps}
use Rattle.hp_peer.specs.Stands.{Stands}
use Rattle.sr_peers.specs.declared.party.Party.{Party}
use Rattle.hd_calls.specs.Rules.{IsPlain}
use Rattle.sr_peers.specs.Doings.{Doing, BeginsAt, fed_next, moves_of}
use Rattle.sr_peers.specs.Told.{Tells, TellsAll}

-- the peer stands for these moves, on the link that it names. No message waits
pub record Plays {H Job : Type 0} (hub : Hub Job) (t : Settings) (p : Party H Job) (h : List PeerEvent) : Type 0 where
  pub stands : Stands hub t p.peer h
  pub side_is : p.side ≡ t.config.side
  pub link_is : p.link ≡ present_link (steps t h)
  pub handled : waiting h ≡ None

-- of all settings and moves for which it stood
abbrev pub OfEach : {H Job : Type 0} → Hub Job → Party H Job → (Settings → List PeerEvent → Type 0) → Type 0
OfEach hub p Holds = (t : Settings) (h : List PeerEvent) → Plays hub t p h → Holds t h

-- these moves were made after a history, and their lines were appended
pub record Goes {H Job : Type 0} (hub : Hub Job) (t : Settings) (h : List PeerEvent) (new : Party H Job) (before after : List ℕ) (ds : List PeerEvent) : Type 0 where
  pub plays : Plays hub t new (ds ++ h)
  pub text : List ℕ
  pub tells : TellsAll t h ds text
  pub appended : after ≡ before ++ text

-- this was done after a history, and its line was appended
pub record HasDone {H Job : Type 0} (hub : Hub Job) (t : Settings) (h : List PeerEvent) (new : Party H Job) (before after : List ℕ) (did : Doing) : Type 0 where
  pub plays : Plays hub t new (moves_of (did ∷ []) ++ h)
  pub text : List ℕ
  pub tells : Tells t h did text
  pub appended : after ≡ before ++ text

-- ---- one step of what a peer does by itself

-- a message that the end handed out at this step was read, and handled at this moment
pub record IsHandled (now : ℕ) (s : EndEvent) (ds : List PeerEvent) : Type 0 where
  pub message : Message
  pub effect : Effect
  pub step : s ≡ Took (gives.Message message)
  pub at : BeginsAt now effect
  pub is : ds ≡ Handles message effect ∷ Reads message ∷ []

-- the moves of one frame that is taken after these, at which the end makes this step
abbrev pub IsOneTake : List PeerEvent → ℕ → EndEvent → List PeerEvent → Type 0
IsOneTake h now s ds = (IsPlain h (Does s) × (ds ≡ Plain (Does s) ∷ [])) ⊎ IsHandled now s ds

-- the next frame was taken, by these moves
pub record HasTaken {H Job : Type 0} (hub : Hub Job) (t : Settings) (h : List PeerEvent) (new : Party H Job) (now : ℕ) (before after : List ℕ) : Type 0 where
  pub step : EndEvent
  pub next : processes t.config (steps t h) ≡ Some step
  pub moves : List PeerEvent
  pub one : IsOneTake h now step moves
  pub goes : Goes hub t h new before after moves

-- or, if no whole one has come, nothing has changed
abbrev pub TakesOne : {H Job : Type 0} → Hub Job → Settings → List PeerEvent → Party H Job → ℕ → List ℕ → List ℕ → Bool → Type 0
TakesOne hub t h new now before after true = HasTaken hub t h new now before after
TakesOne hub t h new now before after false = (processes t.config (steps t h) ≡ None) × Plays hub t new h × (after ≡ before)

-- the next frame that is due was put on the link; or, if none is due, nothing has changed
abbrev pub WritesOne : {H Job : Type 0} → Hub Job → Settings → List PeerEvent → Party H Job → List ℕ → List ℕ → Bool → Type 0
WritesOne hub t h new before after true = (s : ByteStep) × ((writing t.wire t.config (byte_steps t h) ≡ Some s) × Plays hub t new (Plain s ∷ h)
    × (after ≡ before ++ lent_text t.wire t.config (byte_steps t h) (s ∷ [])))
WritesOne hub t h new before after false = (writing t.wire t.config (byte_steps t h) ≡ None) × Plays hub t new h × (after ≡ before)

-- of the bytes to be read the next were fed; or, if there are none, nothing has changed
abbrev pub Feeds : {H Job : Type 0} → Hub Job → Settings → List PeerEvent → Party H Job → List ℕ → List ℕ → Type 0
Feeds hub t h new all [] = (fed_next t all h ≡ None) × Plays hub t new h
Feeds hub t h new all (b ∷ bytes) = (fed_next t all h ≡ Some (Bytes (b ∷ bytes))) × Plays hub t new (Plain (Bytes (b ∷ bytes)) ∷ h)
