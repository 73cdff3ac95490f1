-- How two real peers of a replay stand for the run of a script's actions, and what one more action makes of that.
use Rattle.std.specs.Prelude.{◌≡◌, ◌⊎◌, ◌≤◌, ◌<◌, ℕ, Bool, true, false, List, ◌∷◌, ◌++◌, length, drop, Contains, Option, Some, None, slice_get}
use Rattle.hs_shake.specs.Requests.{IsVersion}
use Rattle.hd_delivery.specs.declared.vocabulary.Side.{Side}
use Rattle.hd_delivery.specs.declared.vocabulary.Side.TheVariants.{Client, Server}
use Rattle.hd_delivery.specs.Histories as of
use Rattle.hd_delivery.specs.Histories.{EndEvent, present_link, was_on, fed_frames, taken_count}
use Rattle.hd_delivery.specs.Worlds.{Event}
use Rattle.hd_delivery.specs.Bytes.{bytes_on, IsWorldOverBytes}
use Rattle.hd_delivery.specs.Sides.{other, history}
use Rattle.hd_calls.specs.Hubs.{Hub}
use Rattle.hd_calls.specs.Peers.{PeerEvent, Settings, byte_steps, steps, is_shut}
use Rattle.hd_calls.specs.PeerWorlds.{Pair, settings, ends}
use Rattle.hub_calc.specs.Table.{calc_hub}
use Rattle.hub_calc.specs.Client.{client_hub}
use Rattle.sr_script.specs.declared.action.Action.{Action}
use Rattle.sr_script.specs.declared.action.Action.TheVariants.{Accept, Send}
use Rattle.sr_script.specs.Asking.{IsWhole}
use Rattle.sr_script.specs.Script.{opened, moment_after, IsInTurn, AreInTurn}
use Rattle.sr_peers.specs.declared.party.Party.{Party}
use Rattle.sr_peers.specs.declared.lane.LinkBytes.{LinkBytes}
use Rattle.sr_peers.specs.declared.peers.Peers.{Peers}
use Rattle.sr_peers.specs.Grows.{lent_in}
use Rattle.sr_peers.specs.Plays.{Plays, OfEach}
use Rattle.sr_peers.specs.Runs.{Run, Runs, Acts, TellsRun, world_of, steps_at}
use Rattle.sr_peers.specs.Works.{Works}

-- ---- one peer

-- an end that isn't closed has taken every frame that it was fed on its link
abbrev pub HasTakenAll : Settings → List PeerEvent → Type 0
HasTakenAll t h = is_shut t h ≡ false → (l : ℕ) → present_link (steps t h) ≡ Some l → slice_get (fed_frames l (steps t h)) (taken_count l (steps t h)) ≡ None

-- the peer stands for these moves, and has taken what came
pub record IsPlayed {H Job : Type 0} (hub : Hub Job) (t : Settings) (party : Party H Job) (h : List PeerEvent) : Type 0 where
  pub plays : Plays hub t party h
  pub took_all : HasTakenAll t h

-- ---- links

-- what a side said on the link that isn't read
abbrev pub said_by : Side → LinkBytes → List ℕ
said_by Client lane = lane.to_server.items
said_by Server lane = lane.to_client.items

-- an end that stands on the link, or was never there, may yet read what is said on it
abbrev pub MayRead : List EndEvent → ℕ → Type 0
MayRead k l = (present_link k ≡ Some l) ⊎ (was_on l k ≡ false)

-- what the other side lent on the link and this side wasn't fed yet
abbrev pub unfed : Pair → List (Event PeerEvent) → Side → ℕ → List ℕ
unfed p w side l = drop (length (bytes_on l (byte_steps (settings side p) (history side w)))) (lent_in p w (other side) l)

-- what is kept of a link: for each side that may yet read there what it wasn't fed, and whether the client was there
pub record IsLane (p : Pair) (w : List (Event PeerEvent)) (l : ℕ) (lane : LinkBytes) : Type 0 where
  pub unread : (side : Side) → MayRead (steps_at p w side) l → said_by (other side) lane ≡ unfed p w side l
  pub was_opened : lane.opened ≡ was_on l (steps_at p w Client)

-- what came to a side on this link, which it left, may have been forgotten; all else is as it was
pub record HasLeft (side : Side) (link : Option ℕ) (l : ℕ) (was now : LinkBytes) : Type 0 where
  pub opened : now.opened ≡ was.opened
  pub said : said_by side now ≡ said_by side was
  pub heard : (link ≡ Some l → ⊥) → said_by (other side) now ≡ said_by (other side) was

pub record IsLeft (side : Side) (link : Option ℕ) (before after : List LinkBytes) : Type 0 where
  pub many : length after ≡ length before
  pub each : (l : ℕ) (lane : LinkBytes) → slice_get after l ≡ Some lane → (was : LinkBytes) × ((slice_get before l ≡ Some was) × HasLeft side link l was lane)

-- nothing is kept of what came to the party on its link, if it has left it; all else is kept
pub record HasForgotten {H Job : Type 0} (hub : Hub Job) (side : Side) (old new : Party H Job) (before after : List LinkBytes) : Type 0 where
  pub link : Option ℕ
  pub later : Option ℕ
  pub link_is : OfEach hub old (λ t h. link ≡ present_link (steps t h))
  pub later_is : OfEach hub new (λ t h. later ≡ present_link (steps t h))
  pub left : later ≡ None → IsLeft side link before after
  pub kept : (later ≡ None → ⊥) → after ≡ before

-- nor of what came on the link that the party left for another, if it took that
pub record HasMoved {H Job : Type 0} (hub : Hub Job) (side : Side) (old : Party H Job) (before after : List LinkBytes) (taken : Bool) : Type 0 where
  pub link : Option ℕ
  pub link_is : OfEach hub old (λ t h. link ≡ present_link (steps t h))
  pub left : taken ≡ true → IsLeft side link before after
  pub kept : taken ≡ false → after ≡ before

-- ---- both peers

-- After these actions this is the world of two peers, and these are its links: those that were opened, and at the server accepted. No moment lies after theirs.
pub record IsWorldOf (p : Pair) (actions : List Action) (w : List (Event PeerEvent)) (kept : List LinkBytes) : Type 0 where
  pub world : IsWorldOverBytes p.limits p.wire p.terms (ends p w)
  pub links : length kept ≡ opened actions
  pub lanes : (l : ℕ) (lane : LinkBytes) → slice_get kept l ≡ Some lane → IsLane p w l lane
  pub opened_links : (l : ℕ) → was_on l (steps_at p w Client) ≡ true → l < opened actions
  pub accepted_links : (l : ℕ) → was_on l (steps_at p w Server) ≡ true → Contains actions (Accept l)
  pub in_time : (side : Side) → of.moment (steps_at p w side) ≤ moment_after actions

-- the two peers stand for its moves
pub record Holds (p : Pair) (actions : List Action) (w : List (Event PeerEvent)) (peers : Peers) : Type 0 where
  pub is_world : IsWorldOf p actions w peers.lanes.items
  pub client : IsPlayed client_hub (settings Client p) peers.client (history Client w)
  pub server : IsPlayed calc_hub (settings Server p) peers.server (history Server w)
  pub now : peers.now ≡ moment_after actions

-- after these actions the two peers stand for their run
pub record Follows (p : Pair) (actions : List Action) (r : Run) (peers : Peers) : Type 0 where
  pub version : IsVersion p.terms.version
  pub turns : AreInTurn actions
  pub runs : Runs p actions r
  pub holds : Holds p actions (world_of r) peers

-- ---- one more action

-- an action of peers: no message is sent but by calls, which have one upload at most
abbrev pub IsOfPeers : Action → Type 0
IsOfPeers (Send side m) = ⊥
IsOfPeers a = IsWhole a

-- after these actions and their run, whose peers stand so, the action made this, and these are its lines
abbrev pub IsMade : Pair → List Action → Run → Action → Peers → List ℕ → List ℕ → Run → List ℕ → Type 0
IsMade p actions r a new before after made text = Acts p actions r a made × Follows p (a ∷ actions) (made ++ r) new × TellsRun p r made text × (after ≡ before ++ text)

-- whatever actions and run the peers stood for, they now stand for one action more, and for what that made after the run, whose lines were appended
abbrev pub GoesOn : Peers → Action → Peers → List ℕ → List ℕ → Type 0
GoesOn old a new before after = (p : Pair) (actions : List Action) (r : Run) → Follows p actions r old → IsInTurn actions a
    → (made : Run) × (text : List ℕ) × IsMade p actions r a new before after made text

-- and this says whether it wrote, read or stepped anything
abbrev pub WorksOn : Peers → Action → Peers → List ℕ → List ℕ → Bool → Type 0
WorksOn old a new before after worked = (p : Pair) (actions : List Action) (r : Run) → Follows p actions r old → IsInTurn actions a
    → (made : Run) × (text : List ℕ) × (IsMade p actions r a new before after made text × Works p r a made worked)
