-- How the two real ends of a replay stand for the run of a script's actions, and what one more action makes of that.
use Rattle.std.specs.Prelude.{◌≡◌, ◌≤◌, ℕ, Bool, true, false, List, ◌∷◌, ◌++◌, length, Some, None, slice_get}
use Rattle.hd_delivery.specs.declared.vocabulary.Side.{Side}
use Rattle.hd_delivery.specs.declared.vocabulary.Side.TheVariants.{Client, Server}
use Rattle.hd_delivery.specs.Histories as of
use Rattle.hd_delivery.specs.Histories.{EndEvent, Attached, present_link, was_on, fed_frames, taken_count, is_closed}
use Rattle.hd_delivery.specs.Processes.{processes}
use Rattle.hd_delivery.specs.Worlds.{Limits, Terms, config}
use Rattle.hd_delivery.specs.Bytes.{Wire, ByteStep, Does, bytes_on, in_frames, lent_bytes}
use Rattle.sr_script.specs.declared.action.Action.{Action}
use Rattle.sr_script.specs.declared.action.Action.TheVariants.{Call, Item, Done, Cancel, Round}
use Rattle.sr_script.specs.Asking.{IsWhole}
use Rattle.sr_replay.specs.declared.player.Player.{Player}
use Rattle.sr_replay.specs.declared.pair.LinkBytes.{LinkBytes}
use Rattle.sr_replay.specs.declared.pair.Pair.{Pair}
use Rattle.sr_script.specs.Script.{opened, moment_after, IsInTurn, AreInTurn}
use Rattle.sr_replay.specs.Runs.{Makes, Refuses, Run, Runs, Acts, attaching, world_of}
use Rattle.hd_delivery.specs.Sides.{history}
use Rattle.sr_replay.specs.Told.{told_run}
use Rattle.sr_replay.specs.declared.text_kind.TextKind.{TextKind}
use Rattle.sr_replay.specs.Plays.{Plays, limits_at}

-- ---- one end

-- The player stands for this history. It has taken every frame that it was fed, and on its link it has read up to this place.
pub record IsPlayed (limits : Limits) (wire : Wire) (c : of.Config) (p : Player) (place : ℕ) (h : List ByteStep) : Type 0 where
  pub plays : Plays wire c p h
  pub keeps : limits_at p ≡ limits
  pub took_all : (l : ℕ) → present_link (in_frames wire c h) ≡ Some l → is_closed c (in_frames wire c h) ≡ false
      → slice_get (fed_frames l (in_frames wire c h)) (taken_count l (in_frames wire c h)) ≡ None
  pub read_to : (l : ℕ) → present_link (in_frames wire c h) ≡ Some l → is_closed c (in_frames wire c h) ≡ false → place ≡ length (bytes_on l h)

-- The end stands on the link, has taken every frame, and has read up to this place, if it isn't closed. This is what the other end said there.
pub record MayRead (wire : Wire) (c : of.Config) (h : List ByteStep) (l place : ℕ) (said : List ℕ) : Type 0 where
  pub here : present_link (in_frames wire c h) ≡ Some l
  pub took_all : processes c (in_frames wire c h) ≡ None
  pub read_to : is_closed c (in_frames wire c h) ≡ false → place ≡ length (bytes_on l h)
  pub within : length (bytes_on l h) ≤ length said

-- whether the link is taken: its bytes are read from the first
abbrev pub Tries : of.Config → List EndEvent → ℕ → ℕ → Bool → ℕ → ℕ → Type 0
Tries c k link now true before after = (attaching c k link now ≡ Makes (Does (Attached link now))) × (after ≡ 0)
Tries c k link now false before after = (words : List ℕ) × ((attaching c k link now ≡ Refuses words) × (after ≡ before))

-- ---- both ends

-- what an end of this side said on the link
abbrev pub said_by : Side → LinkBytes → List ℕ
said_by Client lane = lane.to_server.items
said_by Server lane = lane.to_client.items

-- what is kept of a link: what both ends said there, and whether the client was there
pub record IsLane (wire : Wire) (t : Terms) (c s : List ByteStep) (l : ℕ) (lane : LinkBytes) : Type 0 where
  pub to_server : lane.to_server.items ≡ lent_bytes wire (config Client t) l c
  pub to_client : lane.to_client.items ≡ lent_bytes wire (config Server t) l s
  pub was_opened : lane.opened ≡ was_on l (in_frames wire (config Client t) c)

-- after these actions the pair stands for the two histories
pub record Holds (limits : Limits) (wire : Wire) (t : Terms) (actions : List Action) (c s : List ByteStep) (p : Pair) : Type 0 where
  pub client : IsPlayed limits wire (config Client t) p.client p.client_place c
  pub server : IsPlayed limits wire (config Server t) p.server p.server_place s
  pub links : length p.lanes.items ≡ opened actions
  pub lanes : (l : ℕ) (lane : LinkBytes) → slice_get p.lanes.items l ≡ Some lane → IsLane wire t c s l lane
  pub now : p.now ≡ moment_after actions

-- After these actions the pair stands for their run, of which it tells in a text of this kind. A first part of that was taken away from it.
pub record Follows (kind : TextKind) (gone : List ℕ) (limits : Limits) (wire : Wire) (t : Terms) (actions : List Action) (r : Run) (p : Pair) : Type 0 where
  pub turns : AreInTurn actions
  pub runs : Runs limits wire t actions r
  pub holds : Holds limits wire t actions (history Client (world_of r)) (history Server (world_of r)) p
  pub kind_is : p.kind ≡ kind
  pub told : gone ++ p.told.items ≡ told_run kind wire t r

-- an action of ends alone: no call goes, and a message that is sent is sequenced and fits into a frame
abbrev pub IsOfEnds : Action → Type 0
IsOfEnds (Call side a) = ⊥
IsOfEnds (Item side call value) = ⊥
IsOfEnds (Done side call) = ⊥
IsOfEnds (Cancel side call) = ⊥
IsOfEnds (Round side) = ⊥
IsOfEnds a = IsWhole a

-- whatever actions and run the pair stood for, it now stands for one action more, and for what that made after the run
abbrev pub GoesOn : Pair → Action → Pair → Type 0
GoesOn old a new = (kind : TextKind) (gone : List ℕ) (limits : Limits) (wire : Wire) (t : Terms) (actions : List Action) (r : Run)
    → Follows kind gone limits wire t actions r old → IsInTurn actions a
    → (made : Run) × (Acts limits wire t actions r a made × Follows kind gone limits wire t (a ∷ actions) (made ++ r) new)

-- these bytes were taken away from what it told
abbrev pub HandsOut : Pair → List ℕ → Pair → Type 0
HandsOut old bytes new = (kind : TextKind) (gone : List ℕ) (limits : Limits) (wire : Wire) (t : Terms) (actions : List Action) (r : Run)
    → Follows kind gone limits wire t actions r old → Follows kind (gone ++ bytes) limits wire t actions r new
