-- One turn of a client, and any list of turns.
-- In a turn, in this order: it dials, if its connection is due, and else hears an event; every message that came is taken; its end ticks once, if
-- something was heard; a round; the lines of the script that can be done, and the close after the last; then what is due is said, unless the lane is
-- full, and the connection of a closed end is left. Once something came that ends it, only the calls that are gone are told, and what is due is said.
use Rattle.std.specs.Prelude.{◌≡◌, ℕ, Bool, true, false, not, ◌&&◌, List, [], ◌∷◌, ◌++◌, map, length, Option, Some, None, if◌then◌else◌}
use Rattle.hd_delivery.specs.Frames.{LinkFrame}
use Rattle.hd_delivery.specs.Histories.{Lent, codec_of}
use Rattle.hd_delivery.specs.Bytes.{spelling_of}
use Rattle.hd_delivery.specs.Bytes.{Does as Step_of}
use Rattle.hd_calls.specs.Hubs.{Hub}
use Rattle.hd_calls.specs.Peers.{PeerEvent, Plain, Calls, Runs, Refuses, Rounds, Settings, steps, hands_up}
use Rattle.hd_calls.specs.Rules.{asking}
use Rattle.hw_door.specs.declared.heard.Event.{Event}
use Rattle.hd_server.specs.Machine.{IsAt, turn_with}
use Rattle.hd_server.specs.Plans.{onto}
use Rattle.hd_server.specs.Serves.{Feeds, LendsAll, AreNonempty, all_of, is_text}
use Rattle.hd_dialing.specs.Events.{DialEvent, Phase, Stands}
use Rattle.hd_dialing.specs.Plans.{Dial, News, Nothing, Brings, news}
use Rattle.hd_dialing.specs.Dialing.{Move, moved, MayMove}
use Rattle.hd_dialing.specs.Dialing as move
use Rattle.hd_client.specs.declared.order.Order.{Order}
use Rattle.hd_client.specs.Setups.{Setup}
use Rattle.hd_client.specs.Events.{ClientEvent, Dialed, Makes, Says, Sees, dialing, settings_of, moves, phase_of, moment, is_full, is_over, has_closed, IsClientPeer}
use Rattle.hd_client.specs.Plans.{linking, ticking, next_line, closing, losses, leaving}

-- ---- how it begins

pub data Begin : Type 0 where
  Dials : Begin
  Hears : (now : ℕ) → (event : Event) → Begin

abbrev pub move_of : Begin → Dial → Move
move_of Dials d = move.Dials d
move_of (Hears now event) d = move.Hears now event d

-- what it hears of its link
abbrev pub news_of : Begin → List ClientEvent → News
news_of Dials h = Nothing
news_of (Hears now event) h = news event (phase_of h)

-- these events of its dialing, the latest first
abbrev pub dialed : List DialEvent → List ClientEvent → List ClientEvent
dialed xs h = map (λ x. Dialed x) xs ++ h

-- its dialing's move, and then what is news of the link
pub record HasBegun (s : Setup) (begin : Begin) (h after : List ClientEvent) : Type 0 where
  pub dial : Dial
  pub new : List DialEvent
  pub dials : moved s.dialing (move_of begin dial) (dialing h) ≡ new ++ dialing h
  pub is : after ≡ onto (linking s (moment (dialed new h)) (news_of begin h) (dialed new h)) (dialed new h)

-- ---- what is taken

-- these moves of its peer, the latest first
abbrev pub moving : List PeerEvent → List ClientEvent → List ClientEvent
moving ms h = map (λ m. Makes m) ms ++ h

-- its end is fed these bytes, and each whole frame is taken
pub record FeedsEnd (s : Setup) (bytes : List ℕ) (h after : List ClientEvent) : Type 0 where
  pub settings : Settings
  pub begun : settings_of s h ≡ Some settings
  pub pieces : List (List ℕ)
  pub made : List PeerEvent
  pub feeds : Feeds settings (moment h) false bytes pieces (moves h) (made ++ moves h)
  pub are : after ≡ moving made h

abbrev pub IsFed : Setup → News → List ClientEvent → List ClientEvent → Type 0
IsFed s (Brings bytes) h after = FeedsEnd s bytes h after
IsFed s _ h after = after ≡ h

abbrev pub ticks : Setup → Begin → List ClientEvent → List ClientEvent
ticks s Dials h = []
ticks s (Hears now event) h = if is_over s h then [] else ticking now (settings_of s h) h

-- ---- what its peer and its script do

-- turns at this moment, and the calls for which they ask. No job of a client hands up a deed
abbrev pub AreTurns : ℕ → List PeerEvent → Type 0
AreTurns now [] = Unit {0}
AreTurns now (Runs j c since turn what ∷ ms) = (hands_up (Some what) ≡ false) × IsAt now turn × AreTurns now ms
AreTurns now (Calls (Some j) n c ∷ ms) = AreTurns now ms
AreTurns now (Refuses j ∷ ms) = AreTurns now ms
AreTurns now (_ ∷ ms) = ⊥

-- a round: turns until no job has one. What each of them does is a matter of the peer alone
pub record IsRound (t : Settings) (now : ℕ) (h ms : List PeerEvent) : Type 0 where
  pub turns : List PeerEvent
  pub are_turns : AreTurns now turns
  pub is : ms ≡ turns ++ Rounds ∷ []
  pub settled : asking (ms ++ h) ≡ None
  pub over : turn_with (Some t) (ms ++ h) ≡ None

-- before a token was told there is no peer
abbrev pub RoundsWith : Option Settings → List ClientEvent → List ClientEvent → Type 0
RoundsWith None h after = after ≡ h
RoundsWith (Some t) h after = (ms : List PeerEvent) × IsRound t (moment h) (moves h) ms × (after ≡ moving ms h)

-- each line of the script that can be done, one after the other
abbrev pub LinesDone : Setup → List Order → List (List ClientEvent) → List ClientEvent → List ClientEvent → Type 0
LinesDone s script [] h after = (next_line s script h ≡ None) × (after ≡ h)
LinesDone s script (xs ∷ more) h after = (next_line s script h ≡ Some xs) × LinesDone s script more (onto xs h) after

pub record HasWorked (s : Setup) (script : List Order) (h after : List ClientEvent) : Type 0 where
  pub rounded : List ClientEvent
  pub rounds : RoundsWith (settings_of s h) h rounded
  pub lines : List (List ClientEvent)
  pub obeyed : List ClientEvent
  pub obeys : LinesDone s script lines rounded obeyed
  pub closes : after ≡ onto (closing s script obeyed) obeyed

-- nothing once something came that ends it
abbrev pub Works : Bool → Setup → List Order → List ClientEvent → List ClientEvent → Type 0
Works true s script h after = after ≡ h
Works false s script h after = HasWorked s script h after

-- ---- what is said

abbrev pub lending : List LinkFrame → List ClientEvent
lending fs = map (λ f. Makes (Plain (Step_of (Lent f)))) fs

abbrev pub bytes_of : Settings → List LinkFrame → List ClientEvent → List ℕ
bytes_of t fs h = spelling_of t.wire (codec_of t.config (steps t (moves h))) fs

abbrev pub writing : Settings → ℕ → List (List LinkFrame) → List ClientEvent → List ClientEvent
writing t lane pieces h = map (λ p. Says lane (bytes_of t p h) (is_text t.config (steps t (moves h)))) pieces

-- on the lane that is up all that is due, in messages of whole frames
abbrev pub telling_on : Phase → Option Settings → List (List LinkFrame) → List ClientEvent → List ClientEvent
telling_on (Stands lane) (Some t) pieces h = lending (all_of pieces) ++ writing t lane pieces h
telling_on p t pieces h = []

-- and then the connection of a closed end is left
abbrev pub telling : Setup → List (List LinkFrame) → List ClientEvent → List ClientEvent
telling s pieces h = telling_on (phase_of h) (settings_of s h) pieces h ++ (if has_closed s h then leaving (phase_of h) else [])

-- what is due stays due: the lane is full, and the end isn't closed
abbrev pub is_withheld : Setup → ℕ → List ClientEvent → Bool
is_withheld s lane h = is_full lane h && not (has_closed s h)

abbrev pub AreDueBy : Bool → Settings → List (List LinkFrame) → List ClientEvent → Type 0
AreDueBy true t pieces h = pieces ≡ []
AreDueBy false t pieces h = AreNonempty pieces × LendsAll t.config (steps t (moves h)) (all_of pieces)

abbrev pub AreDueOn : Setup → Phase → Option Settings → List (List LinkFrame) → List ClientEvent → Type 0
AreDueOn s (Stands lane) (Some t) pieces h = AreDueBy (is_withheld s lane h) t pieces h
AreDueOn s p t pieces h = pieces ≡ []

-- what the dialer answered to each message of the turn, in order
abbrev pub seeing : Phase → List Bool → List ClientEvent
seeing (Stands lane) full = map (λ one. Sees lane one) full
seeing p full = []

-- ---- one turn

-- What is drawn, on which lane an ask is answered, and what is answered to messages, is free here, and told by the list
pub record IsTurn {Job : Type 0} (hub : Hub Job) (s : Setup) (script : List Order) (begin : Begin) (h after : List ClientEvent) : Type 0 where
  pub begun : List ClientEvent
  pub begins : HasBegun s begin h begun
  pub fed : List ClientEvent
  pub feeds : IsFed s (news_of begin h) begun fed
  pub ticked : List ClientEvent
  pub has_ticked : ticked ≡ onto (ticks s begin fed) fed
  pub worked : List ClientEvent
  pub works : Works (is_over s ticked) s script ticked worked
  pub told : List ClientEvent
  pub loses : told ≡ onto (losses s worked) worked
  pub pieces : List (List LinkFrame)
  pub all_due : AreDueOn s (phase_of told) (settings_of s told) pieces told
  pub full : List Bool
  pub answers : length full ≡ length pieces
  pub tells : after ≡ onto (seeing (phase_of told) full) (onto (telling s pieces told) told)
  pub peer : IsClientPeer hub (settings_of s after) (moves after)

-- ---- turns one after the other

-- what its dialing may do next, until it is over
abbrev pub MayBegin : Setup → Begin → List ClientEvent → Type 0
MayBegin s begin h = (is_over s h ≡ false) × ((d : Dial) → MayMove (move_of begin d) (dialing h))

-- what a client did in these turns, the latest first
abbrev pub Turns : {Job : Type 0} → Hub Job → Setup → List Order → List Begin → List ClientEvent → Type 0
Turns hub s script [] h = h ≡ []
Turns hub s script (b ∷ bs) h = (before : List ClientEvent) × Turns hub s script bs before × MayBegin s b before × IsTurn hub s script b before h
