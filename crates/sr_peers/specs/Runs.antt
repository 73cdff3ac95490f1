-- What the actions of a script make of two peers and the links between them. The latest action and the latest doing stand first.
use Rattle.std.specs.Prelude.{◌≡◌, ◌+◌, ℕ, List, [], ◌∷◌, ◌++◌, length, take, map, codes, Option, Some, None, if◌then◌else◌}
use Rattle.hd_delivery.specs.declared.vocabulary.Side.{Side}
use Rattle.hd_delivery.specs.declared.vocabulary.Side.TheVariants.{Client, Server}
use Rattle.hd_delivery.specs.Histories.{EndEvent, present_link, was_on}
use Rattle.hd_delivery.specs.Worlds.{Limits, alike, Terms, Event, ByClient, ByServer, client_of, server_of}
use Rattle.hd_delivery.specs.Bytes.{Wire, bytes_on}
use Rattle.hd_delivery.specs.Sides.{by, other, history}
use Rattle.hd_calls.specs.Ids.{id_at}
use Rattle.hd_calls.specs.Peers.{PeerEvent, Settings, byte_steps, steps}
use Rattle.hd_calls.specs.PeerWorlds.{Pair, settings}
use Rattle.hp_peer.specs.Calling.{upload_end, upload_item}
use Rattle.sr_script.specs.declared.action.Count.{Count}
use Rattle.sr_script.specs.declared.action.Count.TheVariants.{UpTo, Everything}
use Rattle.sr_script.specs.declared.action.Action.{Action}
use Rattle.sr_script.specs.declared.action.Action.TheVariants.{Open, Accept, Lose, Write, Read, Close, Send, Tick, Call, Item, Done, Cancel, Round}
use Rattle.sr_script.specs.Script.{opened, moment_after, most_of}
use Rattle.sr_peers.specs.Doings.{Doing, Makes, Refuses, made, WithLosses, attaching, leaving, closing, ticking, Writes, ReadsTo, Asks, Sends, Cancelling, IsRound}
use Rattle.sr_peers.specs.Told.{Tells}
use Rattle.sr_peers.specs.Grows.{lent_in}

-- the name under which each side's hub knows the other
abbrev pub the_other : List ℕ
the_other = codes "peer"

-- two peers that are begun so
abbrev pub pair_of : Limits → Wire → Terms → Pair
pair_of limits wire t = record { limits = alike limits; wire = wire; terms = t; name = id_at; who = λ side. the_other }

-- what the two peers did
abbrev pub Run : Type 0
Run = List (Event Doing)

-- their moves, in the order in which they were made: the world of the run
abbrev pub world_of : Run → List (Event PeerEvent)
world_of [] = []
world_of (ByClient (Makes d) ∷ r) = ByClient d ∷ world_of r
world_of (ByServer (Makes d) ∷ r) = ByServer d ∷ world_of r
world_of (ByClient (Refuses words) ∷ r) = world_of r
world_of (ByServer (Refuses words) ∷ r) = world_of r

-- the history of a side's end in a world, in frames
abbrev pub steps_at : Pair → List (Event PeerEvent) → Side → List EndEvent
steps_at p w side = steps (settings side p) (history side w)

-- ---- what an action does

-- the side made moves of which this holds
abbrev pub MadeAt : Pair → Run → Side → (Settings → List PeerEvent → List PeerEvent → Type 0) → Run → Type 0
MadeAt p r side Holds new = (ds : List PeerEvent) × (Holds (settings side p) (history side (world_of r)) ds × (new ≡ map (by side) (made ds)))

-- the side did one thing, of which this holds
abbrev pub DoneAt : Pair → Run → Side → (Settings → List PeerEvent → Doing → Type 0) → Run → Type 0
DoneAt p r side Holds new = (did : Doing) × (Holds (settings side p) (history side (world_of r)) did × (new ≡ by side did ∷ []))

-- the bytes of a link up to where a side reads, of which it read `before` earlier
abbrev pub read_in_all : Count → ℕ → List ℕ → List ℕ
read_in_all Everything before bytes = bytes
read_in_all (UpTo n) before bytes = take (before + n) bytes

-- what the other side lent on the link, up to where the side reads
abbrev pub to_be_read : Pair → List (Event PeerEvent) → Side → Count → ℕ → List ℕ
to_be_read p w side count link = read_in_all count (length (bytes_on link (byte_steps (settings side p) (history side w)))) (lent_in p w (other side) link)

-- the side reads on its link; without one it reads nothing
abbrev pub ReadsOn : Pair → Run → ℕ → Side → Count → Option ℕ → Run → Type 0
ReadsOn p r now side count None new = new ≡ []
ReadsOn p r now side count (Some link) new = MadeAt p r side (λ t h ds. ReadsTo t h now (to_be_read p (world_of r) side count link) ds) new

-- a moment comes at both sides, at the client first
pub record TicksBoth (p : Pair) (r : Run) (now : ℕ) (new : Run) : Type 0 where
  pub client : Run
  pub server : Run
  pub client_ticks : MadeAt p r Client (λ t h ds. WithLosses t h (ticking t h now) ds) client
  pub server_ticks : MadeAt p r Server (λ t h ds. WithLosses t h (ticking t h now) ds) server
  pub is : new ≡ server ++ client

-- After these actions and their run the action makes this. No message is sent but by calls.
abbrev pub Acts : Pair → List Action → Run → Action → Run → Type 0
Acts p before r Open new =
    new ≡ by Client (attaching (settings Client p) (history Client (world_of r)) (opened before) (moment_after before)) ∷ []
Acts p before r (Accept link) new =
    new ≡ (if was_on link (steps_at p (world_of r) Client) then by Server (attaching (settings Server p) (history Server (world_of r)) link (moment_after before)) ∷ [] else [])
Acts p before r (Lose side) new = MadeAt p r side (λ t h ds. WithLosses t h (leaving t h (moment_after before)) ds) new
Acts p before r (Write side count) new = MadeAt p r side (λ t h ds. Writes t h (most_of count) ds) new
Acts p before r (Read side count) new = ReadsOn p r (moment_after before) side count (present_link (steps_at p (world_of r) side)) new
Acts p before r (Close side) new = MadeAt p r side (λ t h ds. WithLosses t h (closing t h) ds) new
Acts p before r (Tick now) new = TicksBoth p r now new
Acts p before r (Call side a) new = DoneAt p r side (λ t h did. Asks t h a.kind a.target a.arguments a.uploads did) new
Acts p before r (Item side call value) new = DoneAt p r side (λ t h did. Sends t h call 0 (upload_item t h value) did) new
Acts p before r (Done side call) new = DoneAt p r side (λ t h did. Sends t h call 0 (upload_end None) did) new
Acts p before r (Cancel side call) new = DoneAt p r side (λ t h did. Cancelling t h call did) new
Acts p before r (Round side) new = MadeAt p r side (λ t h ds. IsRound t h (moment_after before) ds) new
Acts p before r (Send side m) new = ⊥

-- the run of these actions
abbrev pub Runs : Pair → List Action → Run → Type 0
Runs p [] r = r ≡ []
Runs p (a ∷ before) r = (mid new : Run) × (Runs p before mid × Acts p before mid a new × (r ≡ new ++ mid))

-- ---- its lines

-- these lines tell what was done after a run, in the order in which things happened
abbrev pub TellsRun : Pair → Run → Run → List ℕ → Type 0
TellsRun p r [] text = text ≡ []
TellsRun p r (ByClient did ∷ new) text =
    (front last : List ℕ) × (TellsRun p r new front × Tells (settings Client p) (client_of (world_of (new ++ r))) did last × (text ≡ front ++ last))
TellsRun p r (ByServer did ∷ new) text =
    (front last : List ℕ) × (TellsRun p r new front × Tells (settings Server p) (server_of (world_of (new ++ r))) did last × (text ≡ front ++ last))
