-- What the client's peer takes and says, frame by frame.
use Rattle.std.specs.Prelude.{◌≡◌, ◌⊎◌, ◌<◌, ℕ, Bool, true, false, List, [], ◌∷◌, ◌++◌, length, take, Some, None}
use Rattle.std.specs.List.{list_all}
use Rattle.hd_delivery.specs.Frames.{LinkFrame}
use Rattle.hd_delivery.specs.Due.{due}
use Rattle.hd_delivery.specs.Histories.{EndEvent, Lent}
use Rattle.hd_delivery.specs.Processes.{processes}
use Rattle.hd_delivery.specs.Bytes.{ByteStep, Bytes, Does as Step_of}
use Rattle.hd_calls.specs.Peers.{PeerEvent, Plain, Settings, byte_steps, codec, is_shut, steps}
use Rattle.hd_server.specs.Serves.{TakesAll, can_feed, is_taking, next_piece}
use Rattle.sr_client.specs.declared.peer.ClientPeer.{ClientPeer}
use Rattle.sr_client.specs.Lines.{json_words, lines_of}
use Rattle.sr_client.specs.Peers.{Goes, Plays, PlaysOn, StaysThere}

-- of all settings and moves for which it stood, where a whole frame may wait to be taken
abbrev pub OfEachOn : ClientPeer → (Settings → List PeerEvent → Type 0) → Type 0
OfEachOn p Holds = (t : Settings) (h : List PeerEvent) → PlaysOn t p h → Holds t h

-- these moves were made there, and their lines appended
pub record GoesOn (t : Settings) (h : List PeerEvent) (new : ClientPeer) (before now : List ℕ) (ms : List PeerEvent) : Type 0 where
  pub plays : PlaysOn t new (ms ++ h)
  pub appended : now ≡ before ++ lines_of json_words t ms h

-- ---- one frame

-- the end made these steps, or is closed
abbrev pub ComesTo : Settings → List PeerEvent → List ByteStep → Type 0
ComesTo t h bs = (byte_steps t h ≡ bs) ⊎ (is_shut t h ≡ true)

-- the next frame was taken, and the message in it handled, by these moves
pub record HasTakenOne (t : Settings) (h : List PeerEvent) (new : ClientPeer) (now : ℕ) (before after : List ℕ) : Type 0 where
  pub moves : List PeerEvent
  pub each : list_all (is_taking now) moves ≡ true
  pub step : EndEvent
  pub next : processes t.config (steps t h) ≡ Some step
  pub come : ComesTo t (moves ++ h) (Step_of step ∷ byte_steps t h)
  pub stays : StaysThere t h (moves ++ h)
  pub goes : GoesOn t h new before after moves

-- or, if no whole one has come, nothing has changed
abbrev pub TakesOne : Settings → List PeerEvent → ClientPeer → ℕ → List ℕ → List ℕ → Bool → Type 0
TakesOne t h new now before after true = HasTakenOne t h new now before after
TakesOne t h new now before after false = (processes t.config (steps t h) ≡ None) × PlaysOn t new h × (after ≡ before)

-- ---- one piece

-- whole frames were taken, until none was left
pub record TakesWhole (t : Settings) (h : List PeerEvent) (new : ClientPeer) (now : ℕ) (before after : List ℕ) : Type 0 where
  pub moves : List PeerEvent
  pub takes : TakesAll t now h (moves ++ h)
  pub stays : StaysThere t h (moves ++ h)
  pub goes : Goes t h new before after moves

-- the first of these bytes are fed in one piece, and what is whole then is taken
pub record IsPiece (t : Settings) (h : List PeerEvent) (now : ℕ) (bytes p : List ℕ) (after : List PeerEvent) : Type 0 where
  pub live : can_feed t h ≡ true
  pub next : p ≡ next_piece t h bytes
  pub some : 0 < length bytes → 0 < length p
  pub takes : TakesAll t now (Plain (Bytes p) ∷ h) after

-- so many of them were fed, or nothing was done
pub record FeedsPiece (t : Settings) (h : List PeerEvent) (new : ClientPeer) (now fed : ℕ) (bytes before after : List ℕ) : Type 0 where
  pub moves : List PeerEvent
  pub how : ((can_feed t h ≡ false) × (fed ≡ 0) × (moves ≡ [])) ⊎ IsPiece t h now bytes (take fed bytes) (moves ++ h)
  pub stays : StaysThere t h (moves ++ h)
  pub goes : Goes t h new before after moves

-- ---- what is said

-- the bytes of what was due were appended; or nothing was due, and nothing has changed
abbrev pub SaysOne : Settings → List PeerEvent → ClientPeer → Bool → List ℕ → List ℕ → Type 0
SaysOne t h new false before now = (due t.config (steps t h) ≡ None) × (now ≡ before) × Plays t new h
SaysOne t h new true before now =
    (f : LinkFrame) × (due t.config (steps t h) ≡ Some f) × (now ≡ before ++ t.wire.spell (codec t h) f) × Plays t new (Plain (Step_of (Lent f)) ∷ h)
