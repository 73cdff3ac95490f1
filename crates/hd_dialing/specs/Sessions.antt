-- Worked sessions: connections that are dialed, and what is done for them.
use Rattle.std.specs.Prelude.{ℕ, true, false, List, [], ◌∷◌, ◌++◌, reverse, codes, Option, Some, None, if◌then◌else◌}
use Rattle.hv_value.specs.Same.{same_bytes}
use Rattle.hw_lanes.specs.declared.http.Method.TheVariants.{Get, Post}
use Rattle.hw_door.specs.declared.heard.Event.{Event}
use Rattle.hw_door.specs.declared.heard.Event.TheVariants as event
use Rattle.hd_dialing.specs.Bodies.{Told}
use Rattle.hd_dialing.specs.Asks.{Setup}
use Rattle.hd_dialing.specs.Events.{DialEvent, Draws, Asks, Learns, Shuts, phase, is_due, dials_from, done}
use Rattle.hd_dialing.specs.Plans.{Dial}
use Rattle.hd_dialing.specs.Dialing.{Move, Dials, Hears, Drops, Leaves, happened, IsDialing}
use Rattle.hd_dialing.specs.Dialers.{DialerEvent, Begins, Moves, history, AreDialing}
use Rattle.hd_dialing.specs.Dialers as dialer

-- ---- what is dialed

abbrev pub token : List ℕ
token = codes "kT"

abbrev pub kept : Told
kept = record { token = token; reconnect = true }

-- the one body that tells something
abbrev pub body : List ℕ
body = codes "kT"

abbrev pub tells : List ℕ → Option Told
tells bytes = if same_bytes bytes body then Some kept else None

abbrev pub setup : Setup
setup = record { place = 0; path = codes "/hub"; access = None; reconnect = true; tells = tells }

-- at another place, below a path that ends with a slash, with an access token whose signs are written as in a form, and not to be kept
abbrev pub setup_of_root : Setup
setup_of_root = record { place = 1; path = codes "/"; access = Some (codes "a b&"); reconnect = false; tells = tells }

abbrev pub key : List ℕ
key = codes "the key of a try"

abbrev pub seed : List ℕ
seed = codes "the seed of masks"

abbrev pub on : ℕ → Dial
on lane = record { lane = lane; key = Some key; seed = Some seed }

-- an ask for a token, and one for a socket with it and what is drawn, on these lanes
abbrev pub asks_token : ℕ → DialEvent
asks_token lane =
    Asks lane (record { place = 0; method = Post; target = codes "/hub/negotiate?negotiateVersion=1&useStatefulReconnect=true"; upgrade = None })

abbrev pub asks_socket : ℕ → List DialEvent
asks_socket lane = Draws (Some key) ∷ Draws (Some seed) ∷
    Asks lane (record { place = 0; method = Get; target = codes "/hub?id=kT"; upgrade = Some (record { key = key; seed = seed }) }) ∷ []

-- what is done for a first dial, until its socket is up on lane 2
abbrev pub made : List DialEvent
made = asks_token 1 ∷ Shuts 1 ∷ Learns kept ∷ asks_socket 2

-- ---- moves, the first first

abbrev pub run : List Move → List DialEvent
run ms = happened setup (reverse ms)

-- all that is done in them
abbrev pub done_in : List Move → List DialEvent
done_in ms = done (run ms)

abbrev pub dials : ℕ → Move
dials lane = Dials (on lane)

-- of what is heard nothing is asked for
abbrev pub hears : ℕ → Event → Move
hears now event = Hears now event (on 0)

-- a dial whose first ask is answered so
abbrev pub answered : Event → List Move
answered event = dials 1 ∷ hears 10 event ∷ []

-- a token is told on lane 1, and then a socket is asked for on lane 2
abbrev pub negotiated : List Move
negotiated = dials 1 ∷ Hears 10 (event.Response 1 200 body) (on 2) ∷ []

abbrev pub up : List Move
up = negotiated ++ hears 20 (event.Upgraded 2) ∷ []

-- each dial is lost as soon as it was made, and the next comes as soon as it may
abbrev pub four_lost : List Move
four_lost =
    dials 1 ∷ hears 1000 (event.Lost 1) ∷ dials 2 ∷ hears 1000 (event.Lost 2) ∷ hears 1500 event.Quiet ∷
    dials 3 ∷ hears 1500 (event.Lost 3) ∷ hears 2500 event.Quiet ∷ dials 4 ∷ hears 2500 (event.Lost 4) ∷ []

abbrev pub five_lost : List Move
five_lost = four_lost ++ hears 4500 event.Quiet ∷ dials 5 ∷ hears 4500 (event.Lost 5) ∷ []

-- the fifth dial comes through
abbrev pub late : List Move
late = four_lost ++ hears 4500 event.Quiet ∷ dials 5 ∷ Hears 4600 (event.Response 5 200 body) (on 6) ∷ hears 4700 (event.Upgraded 6) ∷ []

-- the same, but that the fifth socket is lost before it is up
abbrev pub lost_after_a_token : List Move
lost_after_a_token = four_lost ++ hears 4500 event.Quiet ∷ dials 5 ∷ Hears 4600 (event.Response 5 200 body) (on 6) ∷ hears 4700 (event.Lost 6) ∷ []

-- and after it, its link and two dials more are lost
abbrev pub lost_again : List Move
lost_again = late ++ hears 5000 (event.Lost 6) ∷ dials 7 ∷ hears 5000 (event.Lost 7) ∷ dials 8 ∷ hears 5001 (event.Lost 8) ∷ []

-- ---- two connections over one dialer, the latest first

abbrev pub two : List DialerEvent
two =
    dialer.Hears 40 (event.Lost 3) (on 9) ∷ dialer.Hears 30 (event.Upgraded 3) (on 8) ∷
    dialer.Hears 20 (event.Response 2 503 []) (on 4) ∷ dialer.Hears 10 (event.Response 1 200 body) (on 3) ∷
    Moves 2 (dials 2) ∷ Begins 2 setup ∷ Moves 1 (dials 1) ∷ Begins 1 setup ∷ []
