-- What one connection's end is fed, and what it says, in the words of its moves.
use Rattle.std.specs.Prelude.{◌≡◌, ◌&&◌, ℕ, Bool, true, false, not, List, [], ◌∷◌, ◌++◌, map, reverse, Option, Some, None, is_some, if◌then◌else◌}
use Rattle.hm_message.specs.declared.message.Codec.TheVariants.{Json}
use Rattle.hd_delivery.specs.declared.vocabulary.Side.TheVariants.{Server}
use Rattle.hd_delivery.specs.Frames.{LinkFrame}
use Rattle.hd_delivery.specs.Histories.{Lent, Silenced, Ticked, is_resumable, is_silence, present_link}
use Rattle.hd_delivery.specs.Processes.{processes}
use Rattle.hd_delivery.specs.Bytes.{Does as Step_of, spelling_of}
use Rattle.hd_calls.specs.Hubs.{Hub}
use Rattle.hd_calls.specs.Peers.{PeerEvent, Plain, Settings, codec, is_shut, steps, waiting}
use Rattle.hd_server.specs.Machine.{MachineEvent, Does}
use Rattle.hd_server.specs.Serves.{Feeds, LendsAll, LendsUpTo}
use Rattle.hub_machine.specs.declared.machine.Machine.{Machine}
use Rattle.hub_machine.specs.Machines.{StandsMachine}
use Rattle.hub_machine.specs.Calls.{doing}

-- every whole frame was taken, and every message handled
pub record IsClear (t : Settings) (h : List PeerEvent) : Type 0 where
  pub handled : waiting h ≡ None
  pub taken : processes t.config (steps t h) ≡ None

-- it is a server's end, which has no codec of its own
pub record IsServers (t : Settings) (h : List PeerEvent) : Type 0 where
  pub side : t.config.side ≡ Server
  pub codec : t.config.codec ≡ Json

-- bytes are fed, and what is whole in them is taken
pub record FeedsBytes {H Job : Type 0} (hub : Hub Job) (new : Machine H Job) (c : ℕ) (w : List MachineEvent) (t : Settings) (h : List PeerEvent) (now : ℕ) (fed : Bool) (bytes : List ℕ) : Type 0 where
  pub pieces : List (List ℕ)
  pub moves : List PeerEvent
  pub feeds : Feeds t now fed bytes pieces h (moves ++ h)
  pub clear : IsClear t (moves ++ h)
  pub stands : StandsMachine hub new (doing c moves w)

-- these frames are lent, the first first
abbrev pub lends : List LinkFrame → List PeerEvent
lends fs = reverse (map (λ f. Plain (Step_of (Lent f))) fs)

abbrev pub is_any : List LinkFrame → Bool
is_any [] = false
is_any (f ∷ fs) = true

-- all that is due is lent
pub record LendsDue {H Job : Type 0} (hub : Hub Job) (new : Machine H Job) (c : ℕ) (w : List MachineEvent) (t : Settings) (h : List PeerEvent) (any : Bool) (before now : List ℕ) : Type 0 where
  pub frames : List LinkFrame
  pub due : LendsAll t.config (steps t h) frames
  pub some : any ≡ is_any frames
  pub bytes : now ≡ before ++ spelling_of t.wire (codec t h) frames
  pub stands : StandsMachine hub new (doing c (lends frames) w)

-- as much as a body takes
pub record LendsSome {H Job : Type 0} (hub : Hub Job) (new : Machine H Job) (c : ℕ) (w : List MachineEvent) (t : Settings) (h : List PeerEvent) (any : Bool) (body : List ℕ) : Type 0 where
  pub frames : List LinkFrame
  pub due : LendsUpTo t.wire t.config (steps t h) 0 frames
  pub some : any ≡ is_any frames
  pub bytes : body ≡ spelling_of t.wire (codec t h) frames
  pub stands : StandsMachine hub new (doing c (lends frames) w)

-- A moment came at one that stands on a link; at another nothing is done. A silence is told with whether the connection may be resumed
pub record HasTicked {H Job : Type 0} (hub : Hub Job) (new : Machine H Job) (c : ℕ) (w : List MachineEvent) (t : Settings) (h : List PeerEvent) (now : ℕ) (lost : Option Bool) : Type 0 where
  pub away : present_link (steps t h) ≡ None → (lost ≡ None) × StandsMachine hub new w
  pub there : is_some (present_link (steps t h)) ≡ true → (is_some lost ≡ is_silence t.config now (steps t h))
      × StandsMachine hub new (Does c (Plain (Step_of (if is_some lost then Silenced now else Ticked now))) ∷ w)
  pub granted : (b : Bool) → lost ≡ Some b → b ≡ (not (is_shut t h) && is_resumable t.config (steps t h))
