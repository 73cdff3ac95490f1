-- How a client stands for what it did: between its turns, and within one.
use Rattle.std.specs.Prelude.{◌≡◌, ◌≤◌, ◌<◌, ℕ, Bool, true, false, List, [], ◌∷◌, ◌++◌, Option, Some, None, is_some}
use Rattle.hd_delivery.specs.Histories as of
use Rattle.hd_delivery.specs.Histories.{present_link}
use Rattle.he_wire.specs.Wires.{IsHouseWire}
use Rattle.hub_calc.specs.Client.{client_hub}
use Rattle.hd_calls.specs.Peers.{PeerEvent, Settings, steps}
use Rattle.hw_door.specs.declared.heard.Given.{Given}
use Rattle.hw_door.specs.declared.heard.Given.TheVariants as give
use Rattle.hd_dialing.specs.Events.{Phase, Upgrades, Stands, is_on, is_up}
use Rattle.hd_dialing.specs.Telling.{has_failed_draw}
use Rattle.hd_client.specs.declared.order.Order.{Order}
use Rattle.hd_client.specs.Setups.{Setup}
use Rattle.hd_client.specs.Events.{ClientEvent, dialing, settings_of, moves, phase_of, moment, passed, is_full, is_over, closed_itself}
use Rattle.hd_client.specs.Printed.{printed}
use Rattle.hd_client.specs.Turns.{Begin, Turns}
use Rattle.hd_client.specs.Telling.{given, seen, draws}
use Rattle.hn_dialing.specs.Stands as of_connection
use Rattle.sr_client.specs.declared.client.Client.{Client}
use Rattle.sr_client.specs.declared.client.Words.{Words}
use Rattle.sr_client.specs.declared.peer.ClientPeer.{ClientPeer}
use Rattle.sr_client.specs.Lines.{json_words}
use Rattle.sr_client.specs.Obeying.{UploadsHaveCalls}
use Rattle.sr_client.specs.Peers.{Plays}

-- ---- its parts

-- its peer, which begins once a token was told, stands for its moves, and its end heard nothing later than the client did
abbrev pub PlaysBy : Option Settings → Option ClientPeer → List PeerEvent → ℕ → Type 0
PlaysBy None None h now = h ≡ []
PlaysBy None (Some p) h now = ⊥
PlaysBy (Some t) None h now = ⊥
PlaysBy (Some t) (Some p) h now = Plays t p h × (of.moment (steps t h) ≤ now)

-- each of its parts stands for this
pub record Kept (s : Setup) (c : Client) (h : List ClientEvent) : Type 0 where
  pub codec : s.codec ≡ c.codec
  pub limits : s.limits ≡ c.limits
  pub wire : IsHouseWire c.limits.frame s.wire
  pub words : s.words ≡ json_words
  pub dialed : of_connection.Stands s.dialing c.connection (dialing h)
  pub undrawn : has_failed_draw (dialing h) ≡ false
  pub passed : c.passed ≡ passed h
  pub closed : c.has_closed ≡ closed_itself (moves h)
  pub uploads : UploadsHaveCalls (moves h)

-- its end is on a link
abbrev pub is_linked : Option Settings → List PeerEvent → Bool
is_linked None h = false
is_linked (Some t) h = is_some (present_link (steps t h))

-- it knows whether the lane that is up is full; one that isn't up yet can't be
abbrev pub IsFullBy : Phase → Bool → List ClientEvent → Type 0
IsFullBy (Stands lane) full h = full ≡ is_full lane h
IsFullBy (Upgrades lane) full h = is_full lane h ≡ false
IsFullBy p full h = Unit {0}

-- so does it; and until it is over its end is on a link exactly where its lane is up
pub record Standing (s : Setup) (c : Client) (h : List ClientEvent) : Type 0 where
  pub kept : Kept s c h
  pub plays : PlaysBy (settings_of s h) c.peer (moves h) (moment h)
  pub full : IsFullBy (phase_of h) c.full h
  pub linked : is_over s h ≡ false → is_linked (settings_of s h) (moves h) ≡ is_up (phase_of h)

-- ---- between turns

-- the client, with this script, stands for what it did in its turns, and goes on
pub record StandsClient (s : Setup) (script : List Order) (c : Client) (h : List ClientEvent) : Type 0 where
  pub standing : Standing s c h
  pub reads : c.script ≡ script
  pub going : c.is_ended ≡ false
  pub goes_on : is_over s h ≡ false
  pub turns : (begins : List Begin) × Turns client_hub s script begins h

-- By the bound below which all lanes lie that its dialer answered, and by the moment of what that gave last, which it may be handed anew at each turn:
-- its own lane lies there, none from there on is full, and it heard nothing later
pub record Fits (bound now : ℕ) (h : List ClientEvent) : Type 0 where
  pub below : (lane : ℕ) → is_on lane (phase_of h) ≡ true → lane < bound
  pub unused : (lane : ℕ) → bound ≤ lane → is_full lane h ≡ false
  pub timely : moment h ≤ now

-- ---- within a turn

-- what its dialer was given, its lots drew, and it had seen and printed, when its work began in this turn
pub record Before : Type 0 where
  pub given : List Given
  pub drawn : List (Option (List ℕ))
  pub seen : List Bool
  pub printed : List ℕ

abbrev pub message_given : Option ℕ → List ℕ → Bool → List Given
message_given None bytes text = []
message_given (Some lane) bytes text = give.Bytes lane bytes text ∷ []

abbrev pub shut_given : Option ℕ → List Given
shut_given None = []
shut_given (Some lane) = give.Shut lane ∷ []

-- what is said in its words
abbrev pub words_given : Words → List Given
words_given w = message_given w.lane w.message.items w.text ++ shut_given w.shut

-- what was said and printed since stands in its words
pub record Tells (s : Setup) (b : Before) (w : Words) (h : List ClientEvent) : Type 0 where
  pub gives : given h ≡ b.given ++ words_given w
  pub draws : draws h ≡ b.drawn
  pub sees : seen h ≡ b.seen
  pub prints : printed s h ≡ b.printed ++ w.printed.items

-- It stands for this, which its words tell. While a lane is up or being made none is to be shut
pub record Working (s : Setup) (b : Before) (c : Client) (w : Words) (h : List ClientEvent) : Type 0 where
  pub standing : Standing s c h
  pub tells : Tells s b w h
  pub dropped : (lane : ℕ) → is_on lane (phase_of h) ≡ true → w.shut ≡ None
