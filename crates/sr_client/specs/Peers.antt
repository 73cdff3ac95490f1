-- How the client's peer stands for its moves, and what each of its calls makes of that: these moves, with their lines.
use Rattle.std.specs.Prelude.{◌≡◌, ◌<◌, ℕ, Bool, true, false, List, [], ◌∷◌, ◌++◌, map, filter, reverse, is_some, None, if◌then◌else◌}
use Rattle.hd_delivery.specs.declared.vocabulary.Side.TheVariants.{Client}
use Rattle.hd_delivery.specs.Frames.{LinkFrame}
use Rattle.hd_delivery.specs.Histories as of
use Rattle.hd_delivery.specs.Histories.{Detached, Lent, Silenced, Ticked, first_link, is_silence, link_count, present_link, was_on}
use Rattle.hd_delivery.specs.Processes.{processes}
use Rattle.hd_delivery.specs.Bytes.{Does as Step_of, spelling_of}
use Rattle.hd_calls.specs.Peers.{PeerEvent, Plain, Loses, Settings, codec, drawn, is_shut, live_call, steps, waiting}
use Rattle.hub_calc.specs.Client.{client_hub}
use Rattle.hd_server.specs.Lives.{numbers_to}
use Rattle.hd_server.specs.Serves.{Feeds, LendsAll}
use Rattle.hp_peer.specs.Stands.{Stands}
use Rattle.hd_client.specs.Turns.{IsRound}
use Rattle.sr_client.specs.declared.peer.ClientPeer.{ClientPeer}
use Rattle.sr_client.specs.Lines.{json_words, lines_of}

-- the peer stands for these moves, and every message that was read is handled
pub record PlaysOn (t : Settings) (p : ClientPeer) (h : List PeerEvent) : Type 0 where
  pub stands : Stands client_hub t p.peer h
  pub side : t.config.side ≡ Client
  pub linked : p.linked ≡ is_some (first_link (steps t h))
  pub links : (l : ℕ) → was_on l (steps t h) ≡ true → l < link_count (steps t h)
  pub handled : waiting h ≡ None

-- and every whole frame that came is taken
pub record Plays (t : Settings) (p : ClientPeer) (h : List PeerEvent) : Type 0 where
  pub on : PlaysOn t p h
  pub taken : processes t.config (steps t h) ≡ None

-- of all settings and moves for which it stood
abbrev pub OfEach : ClientPeer → (Settings → List PeerEvent → Type 0) → Type 0
OfEach p Holds = (t : Settings) (h : List PeerEvent) → Plays t p h → Holds t h

-- these moves were made after others, and their lines appended
pub record Goes (t : Settings) (h : List PeerEvent) (new : ClientPeer) (before now : List ℕ) (ms : List PeerEvent) : Type 0 where
  pub plays : Plays t new (ms ++ h)
  pub appended : now ≡ before ++ lines_of json_words t ms h

-- the end is on the link on which it was, or on none as before, at the same moment
pub record StaysThere (t : Settings) (h after : List PeerEvent) : Type 0 where
  pub link : present_link (steps t after) ≡ present_link (steps t h)
  pub moment : of.moment (steps t after) ≡ of.moment (steps t h)

-- ---- its link

-- the loss of a link, if there is one
abbrev pub leaving : Settings → List PeerEvent → ℕ → List PeerEvent
leaving t h now = if is_some (present_link (steps t h)) then Plain (Step_of (Detached now)) ∷ [] else []

-- an end on a link ticks, which may be a silence
abbrev pub ticking : Settings → List PeerEvent → ℕ → List PeerEvent
ticking t h now =
    if is_some (present_link (steps t h))
    then Plain (Step_of (if is_silence t.config now (steps t h) then Silenced now else Ticked now)) ∷ []
    else []

-- ---- what comes

-- these bytes are fed, and every whole frame is taken
pub record FeedsAll (t : Settings) (h : List PeerEvent) (new : ClientPeer) (now : ℕ) (bytes before after : List ℕ) : Type 0 where
  pub pieces : List (List ℕ)
  pub moves : List PeerEvent
  pub feeds : Feeds t now false bytes pieces h (moves ++ h)
  pub stays : StaysThere t h (moves ++ h)
  pub goes : Goes t h new before after moves

-- ---- its jobs

-- a round, of which nothing is printed
pub record HasRounded (t : Settings) (h : List PeerEvent) (new : ClientPeer) (now : ℕ) : Type 0 where
  pub moves : List PeerEvent
  pub round : IsRound t now h moves
  pub stays : StaysThere t h (moves ++ h)
  pub silent : lines_of json_words t moves h ≡ []
  pub plays : Plays t new (moves ++ h)

-- ---- its end

-- the live calls of a closed end are gone, in the order of their numbers
abbrev pub losing : Settings → List PeerEvent → List PeerEvent
losing t h = if is_shut t h then reverse (map (λ n. Loses n) (filter (λ n. live_call n h) (numbers_to (drawn h)))) else []

-- ---- what is said

abbrev pub lends : List LinkFrame → List PeerEvent
lends fs = reverse (map (λ f. Plain (Step_of (Lent f))) fs)

abbrev pub is_any : List LinkFrame → Bool
is_any [] = false
is_any (f ∷ fs) = true

-- all that is due is lent, of which nothing is printed
pub record SaysAll (t : Settings) (h : List PeerEvent) (new : ClientPeer) (any : Bool) (before now : List ℕ) : Type 0 where
  pub frames : List LinkFrame
  pub due : LendsAll t.config (steps t h) frames
  pub some : any ≡ is_any frames
  pub bytes : now ≡ before ++ spelling_of t.wire (codec t h) frames
  pub stays : StaysThere t h (lends frames ++ h)
  pub silent : lines_of json_words t (lends frames) h ≡ []
  pub plays : Plays t new (lends frames ++ h)
