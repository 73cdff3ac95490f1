-- What one peer is fed, takes and says, in the words of its moves.
use Rattle.std.specs.Prelude.{◌≡◌, ◌⊎◌, ◌<◌, ℕ, Bool, true, false, List, [], ◌∷◌, ◌++◌, length, take, Some, None}
use Rattle.hd_delivery.specs.Frames.{LinkFrame}
use Rattle.hd_delivery.specs.Due.{due}
use Rattle.hd_delivery.specs.Histories.{Lent}
use Rattle.hd_delivery.specs.Bytes.{Bytes, Does as Step_of, spelling_of}
use Rattle.hd_calls.specs.Hubs.{Hub}
use Rattle.hd_calls.specs.Peers.{PeerEvent, Plain, Settings, codec, steps}
use Rattle.hd_server.specs.Serves.{Feeds, LendsAll, LendsUpTo, TakesAll, can_feed, next_piece}
use Rattle.hp_peer.specs.declared.did.Did.{Did}
use Rattle.hp_peer.specs.declared.errors.PeerError.{PeerError}
use Rattle.hp_peer.specs.declared.errors.PeerError.TheVariants.{NoMemory}
use Rattle.hp_peer.specs.declared.peer.Peer.{Peer}
use Rattle.hp_peer.specs.Stands.{Stands}
use Rattle.hp_peer.specs.Taking.{IsUntaken, Takes}
use Rattle.hub_machine.specs.Traffic.{IsClear, is_any, lends}

-- something was taken, which may have closed the end; or nothing was there
abbrev pub TakesOne : {H Job : Type 0} → Hub Job → Settings → List PeerEvent → Peer H Job → ℕ → Bool → Type 0
TakesOne hub t h new now false = Takes hub t h new now None
TakesOne hub t h new now true = ((told : Did) × Takes hub t h new now (Some told)) ⊎ ((e : PeerError) × (e ≡ NoMemory → ⊥) × IsUntaken hub t h new e)

-- whole frames are taken, until none is left
pub record TakesWhole {H Job : Type 0} (hub : Hub Job) (t : Settings) (h : List PeerEvent) (new : Peer H Job) (now : ℕ) : Type 0 where
  pub moves : List PeerEvent
  pub takes : TakesAll t now h (moves ++ h)
  pub stands : Stands hub t new (moves ++ h)

-- the first of these bytes are fed in one piece, and what is whole then is taken
pub record IsPiece (t : Settings) (h : List PeerEvent) (now : ℕ) (bytes p : List ℕ) (after : List PeerEvent) : Type 0 where
  pub live : can_feed t h ≡ true
  pub next : p ≡ next_piece t h bytes
  pub some : 0 < length bytes → 0 < length p
  pub takes : TakesAll t now (Plain (Bytes p) ∷ h) after

-- so many of them are fed, or nothing is done
pub record FeedsPiece {H Job : Type 0} (hub : Hub Job) (t : Settings) (h : List PeerEvent) (new : Peer H Job) (now fed : ℕ) (bytes : List ℕ) : Type 0 where
  pub moves : List PeerEvent
  pub how : ((can_feed t h ≡ false) × (fed ≡ 0) × (moves ≡ [])) ⊎ IsPiece t h now bytes (take fed bytes) (moves ++ h)
  pub clear : IsClear t (moves ++ h)
  pub stands : Stands hub t new (moves ++ h)

-- bytes are fed, and what is whole in them is taken
pub record FeedsPeer {H Job : Type 0} (hub : Hub Job) (t : Settings) (h : List PeerEvent) (new : Peer H Job) (now : ℕ) (bytes : List ℕ) : Type 0 where
  pub pieces : List (List ℕ)
  pub moves : List PeerEvent
  pub feeds : Feeds t now false bytes pieces h (moves ++ h)
  pub clear : IsClear t (moves ++ h)
  pub stands : Stands hub t new (moves ++ h)

-- the bytes of what was due were appended; or nothing was due
abbrev pub SaysOne : {H Job : Type 0} → Hub Job → Settings → List PeerEvent → Peer H Job → Bool → List ℕ → List ℕ → Type 0
SaysOne hub t h new false before now = (due t.config (steps t h) ≡ None) × (now ≡ before) × Stands hub t new h
SaysOne hub t h new true before now =
    (f : LinkFrame) × (due t.config (steps t h) ≡ Some f) × (now ≡ before ++ t.wire.spell (codec t h) f) × Stands hub t new (Plain (Step_of (Lent f)) ∷ h)

-- all that is due is lent
pub record SaysAll {H Job : Type 0} (hub : Hub Job) (t : Settings) (h : List PeerEvent) (new : Peer H Job) (any : Bool) (before now : List ℕ) : Type 0 where
  pub frames : List LinkFrame
  pub due : LendsAll t.config (steps t h) frames
  pub some : any ≡ is_any frames
  pub bytes : now ≡ before ++ spelling_of t.wire (codec t h) frames
  pub stands : Stands hub t new (lends frames ++ h)

-- as much as a body takes
pub record SaysBody {H Job : Type 0} (hub : Hub Job) (t : Settings) (h : List PeerEvent) (new : Peer H Job) (any : Bool) (body : List ℕ) : Type 0 where
  pub frames : List LinkFrame
  pub due : LendsUpTo t.wire t.config (steps t h) 0 frames
  pub some : any ≡ is_any frames
  pub bytes : body ≡ spelling_of t.wire (codec t h) frames
  pub stands : Stands hub t new (lends frames ++ h)
