-- What a server stands for: all that it did, of which it remembers what matters.
use Rattle.std.specs.Prelude.{◌≡◌, ◌≤◌, ◌<◌, ℕ, Bool, true, false, not, ◌&&◌, ◌||◌, List, ◌++◌, Option, Some, None, is_some, if◌then◌else◌}
use Rattle.std.specs.Ordering.{nat_cmp}
use Rattle.std.specs.BTreeMap.{get}
use Rattle.hd_delivery.specs.Histories as of
use Rattle.hd_delivery.specs.Histories.{is_resumable, is_this, link_count, present_link, sent_messages, was_on}
use Rattle.hd_delivery.specs.Processes.{processes}
use Rattle.he_wire.specs.Wires.{AreSaid, IsHouseWire}
use Rattle.hd_calls.specs.Hubs.{Hub}
use Rattle.hd_calls.specs.Peers.{PeerEvent, Settings, codec, steps, waiting}
use Rattle.hd_server.specs.declared.vocabulary.Said.{Said}
use Rattle.hd_server.specs.Numbers.{most_frame}
use Rattle.hd_server.specs.Lives.{ConnectionEvent, ended_at, is_removed, is_made, is_polling, lost_at, poll_of, socket_of}
use Rattle.hd_server.specs.Machine.{moves, settings_of}
use Rattle.hd_server.specs.Doings.{ServerEvent, notes, work, moment, said, user_of, peer, history, config_for, config_of, has_peer, is_full, is_up}
use Rattle.hd_server.specs.Plans.{Setup}
use Rattle.hn_server_front.specs.Stands as front
use Rattle.hn_server_front.specs.declared.front.Front.{Front}
use Rattle.hub_server.specs.declared.server.Server.{Server}
use Rattle.hub_machine.specs.declared.machine.Machine.{Machine}
use Rattle.hub_machine.specs.IdleSet.{clock_at}
use Rattle.hub_machine.specs.Machines.{IsAtRest, StandsMachine, idle_peer_at, settings_there}
use Rattle.hub_server.specs.Lanes.{IsLane, Unsettled}
use Rattle.hub_server.specs.Resend.{ResendLimits, setup_with}

-- ---- one connection

-- what holds of each connection of a server, after each of its doings
pub record IsOrderly (u : Unsettled) (c : ℕ) (h : List ServerEvent) : Type 0 where
  pub made : is_some (settings_of c (work h)) ≡ true → is_made c (notes h) ≡ true
  pub there : has_peer c h ≡ true → is_removed c (notes h) ≡ false
  pub gone : is_some (settings_of c (work h)) ≡ true → has_peer c h ≡ false → is_removed c (notes h) ≡ true
  pub one_way : ((is_some (socket_of c (notes h)) || is_some (lost_at c (notes h))) && is_polling c (notes h)) ≡ false
  pub ended : is_some (ended_at c (notes h)) ≡ true → is_polling c (notes h) ≡ true
  pub unused : is_some (settings_of c (work h)) ≡ false → (is_some (socket_of c (notes h)) || is_some (lost_at c (notes h)) || is_polling c (notes h)) ≡ false
  pub used : has_peer c h ≡ true → (is_this c u.conn || (is_some (socket_of c (notes h)) || is_some (lost_at c (notes h)) || is_polling c (notes h))) ≡ true
  pub linked : has_peer c h ≡ true → (lane : ℕ) → socket_of c (notes h) ≡ Some lane → (is_this lane u.cut || is_some (present_link (history c h))) ≡ true
  pub unlinked : has_peer c h ≡ true → is_some (lost_at c (notes h)) ≡ true → present_link (history c h) ≡ None
  pub kept : has_peer c h ≡ true → is_some (lost_at c (notes h)) ≡ true → is_resumable (config_of c h) (history c h) ≡ true
  pub links : (l : ℕ) → was_on l (history c h) ≡ true → l < link_count (history c h)
  pub timely : of.moment (history c h) ≤ moment h
  pub handled : waiting (peer c h) ≡ None
  pub taken : processes (config_of c h) (history c h) ≡ None

-- between events each connection that doesn't poll is open
abbrev pub IsRested : ℕ → List ServerEvent → Type 0
IsRested c h = has_peer c h ≡ true → is_polling c (notes h) ≡ false → is_up c h ≡ true

-- what is due at the connection can be said: the lane of its socket isn't full, and if it polls, it holds a poll
abbrev pub may_speak_on : ℕ → Option ℕ → List ServerEvent → Bool
may_speak_on c (Some lane) h = not (is_full lane h)
may_speak_on c None h = not (is_polling c (notes h)) || is_some (poll_of c (notes h))

abbrev pub may_speak : ℕ → List ServerEvent → Bool
may_speak c h = may_speak_on c (socket_of c (notes h)) h

-- Between events the connection, if what is due at it can be said, sleeps exactly if it may: by the moment of the last event, and all rounds
-- that have begun
abbrev pub IsLeftAlone : {H Job : Type 0} → Machine H Job → ℕ → List ServerEvent → Type 0
IsLeftAlone m c h = (t : Settings) → settings_there c (work h) ≡ Some t → may_speak c h ≡ true
    → IsAtRest (clock_at (moment h) (work h)) (idle_peer_at m c) t (moves c (work h))

-- whose connection it is, until it has a peer or is let go
abbrev pub caller_of : ℕ → List ServerEvent → Option (List ℕ)
caller_of c h = if is_some (settings_of c (work h)) || is_removed c (notes h) then None else user_of c h

-- ---- the server

-- how it is begun
pub record IsSetup (s : Setup) (base : List ℕ) (resend : ResendLimits) (live : ℕ) : Type 0 where
  pub given : s ≡ setup_with base s.wire resend live
  pub wire : IsHouseWire most_frame s.wire

-- and how the peer of a connection is
pub record IsBegunBy (s : Setup) (t : Settings) : Type 0 where
  pub config : t.config ≡ config_for t.config.reconnect
  pub wire : t.wire ≡ s.wire
  pub limits : t.limits ≡ s.limits

-- a peer that was begun so, and each message that it sent is said by its frame
pub record IsSpeaker (s : Setup) (t : Settings) (h : List PeerEvent) : Type 0 where
  pub begun : IsBegunBy s t
  pub said : AreSaid (codec t h) (sent_messages (steps t h))

-- so it is at each connection, those that have gone among them
abbrev pub AreSpeakers : Setup → List ServerEvent → Type 0
AreSpeakers s h = (c : ℕ) (t : Settings) → settings_of c (work h) ≡ Some t → IsSpeaker s t (moves c (work h))

-- the front stands for these notes, and as many connections may live as the server was begun with
pub record StandsFront (live : ℕ) (f : Front) (n : List ConnectionEvent) : Type 0 where
  pub stands : front.Stands f n
  pub limit : f.live ≡ live

-- The server stands for these doings, the latest first, of which these were said before the event that is heard. `u`: what isn't
-- settled yet
pub record Standing {H Job : Type 0} (hub : Hub Job) (s : Setup) (u : Unsettled) (before : List Said) (v : Server H Job) (h : List ServerEvent) : Type 0 where
  pub setup : IsSetup s v.base v.resend s.live
  pub machine : StandsMachine hub v.machine (work h)
  pub front : StandsFront s.live v.front (notes h)
  pub callers : (c : ℕ) → get nat_cmp v.callers c ≡ caller_of c h
  pub lanes : (lane : ℕ) → IsLane u (get nat_cmp v.lanes lane) lane h
  pub begun : (c : ℕ) (t : Settings) → settings_of c (work h) ≡ Some t → IsBegunBy s t
  pub orderly : (c : ℕ) → IsOrderly u c h
  pub clock : v.moment ≡ moment h
  pub words : said h ≡ before ++ v.words

-- so it is of all doings for which it stood
abbrev pub OfEach : {H Job : Type 0} → Hub Job → Server H Job → (Setup → Unsettled → List Said → List ServerEvent → Type 0) → Type 0
OfEach hub v P = (s : Setup) (u : Unsettled) (before : List Said) (h : List ServerEvent) → Standing hub s u before v h → P s u before h
