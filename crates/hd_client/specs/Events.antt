-- What a client did, as one list, the latest first, and what is read off it: how its connection is dialed, what its peer did, how many lines of its
-- script are done, whether its lane is full, and how it ends.
use Rattle.std.specs.Prelude.{ℕ, suc, Bool, true, false, not, ◌||◌, ◌==◌, List, [], ◌∷◌, Option, Some, None, if◌then◌else◌}
use Rattle.hd_delivery.specs.Histories.{Closed, is_shaken}
use Rattle.hd_delivery.specs.Bytes.{Does as Step_of}
use Rattle.hd_calls.specs.Hubs.{Hub}
use Rattle.hd_calls.specs.Peers.{PeerEvent, Plain, Settings, steps, is_shut}
use Rattle.hd_calls.specs.Rules.{CallRefusal, IsPeer}
use Rattle.hw_door.specs.declared.heard.Event.TheVariants as event
use Rattle.hd_dialing.specs.Events.{DialEvent, Hears, Phase, phase, told}
use Rattle.hd_dialing.specs.Events as dial
use Rattle.hd_dialing.specs.Telling.{has_failed_draw}
use Rattle.hd_client.specs.Setups.{Setup, settings_with}

pub data ClientEvent : Type 0 where
  Dialed : (x : DialEvent) → ClientEvent  -- for its connection, with all that is heard
  Makes : (move : PeerEvent) → ClientEvent  -- of its peer
  Declines : (why : CallRefusal) → ClientEvent  -- its peer refuses what a line of the script asks for
  Passes : ClientEvent  -- a line of the script is done
  Says : (lane : ℕ) → (bytes : List ℕ) → (text : Bool) → ClientEvent
  Sees : (lane : ℕ) → (full : Bool) → ClientEvent  -- the dialer was given a message for the lane, and answered whether that is full now

-- ---- its connection

abbrev pub dialing : List ClientEvent → List DialEvent
dialing [] = []
dialing (Dialed x ∷ h) = x ∷ dialing h
dialing (_ ∷ h) = dialing h

abbrev pub phase_of : List ClientEvent → Phase
phase_of h = phase (dialing h)

abbrev pub moment : List ClientEvent → ℕ
moment h = dial.moment (dialing h)

-- the dialer answered to the last message for the lane that it is full, and hasn't said since that it is drained
abbrev pub is_full : ℕ → List ClientEvent → Bool
is_full lane [] = false
is_full lane (Sees l full ∷ h) = if lane == l then full else is_full lane h
is_full lane (Dialed (Hears now (event.Drained l)) ∷ h) = if lane == l then false else is_full lane h
is_full lane (_ ∷ h) = is_full lane h

-- ---- its peer

abbrev pub settings_of : Setup → List ClientEvent → Option Settings
settings_of s h = settings_with s (told (dialing h))

-- what its peer did
abbrev pub moves : List ClientEvent → List PeerEvent
moves [] = []
moves (Makes m ∷ h) = m ∷ moves h
moves (_ ∷ h) = moves h

abbrev pub is_shut_with : Option Settings → List PeerEvent → Bool
is_shut_with None h = false
is_shut_with (Some t) h = is_shut t h

-- its end is closed
abbrev pub has_closed : Setup → List ClientEvent → Bool
has_closed s h = is_shut_with (settings_of s h) (moves h)

abbrev pub is_shaken_with : Option Settings → List PeerEvent → Bool
is_shaken_with None h = false
is_shaken_with (Some t) h = is_shaken (steps t h)

-- the handshake is complete
abbrev pub has_shaken : Setup → List ClientEvent → Bool
has_shaken s h = is_shaken_with (settings_of s h) (moves h)

-- what its peer did is what a peer can do
abbrev pub IsClientPeer : {Job : Type 0} → Hub Job → Option Settings → List PeerEvent → Type 0
IsClientPeer hub None h = Unit {0}
IsClientPeer hub (Some t) h = IsPeer hub t h

-- ---- its script

-- how many lines are done
abbrev pub passed : List ClientEvent → ℕ
passed [] = 0
passed (Passes ∷ h) = suc (passed h)
passed (_ ∷ h) = passed h

-- ---- how it ends

-- nothing comes any more: it was given up, or its end is closed
abbrev pub is_over : Setup → List ClientEvent → Bool
is_over s h = dial.is_over (phase_of h) || has_closed s h

-- it closed its end itself
abbrev pub closed_itself : List PeerEvent → Bool
closed_itself [] = false
closed_itself (Plain (Step_of (Closed reason allow)) ∷ h) = true
closed_itself (_ ∷ h) = closed_itself h

pub data Outcome : Type 0 where
  GoesOn : Outcome
  IsDone : Outcome
  IsRefused : Outcome
  FailsToDraw : Outcome

abbrev pub outcome : Setup → List ClientEvent → Outcome
outcome s h =
    if not (is_over s h) then GoesOn else
    (if has_failed_draw (dialing h) then FailsToDraw else (if closed_itself (moves h) then IsDone else IsRefused))
