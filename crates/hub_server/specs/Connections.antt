-- Connections that begin, stand on lanes, poll and end.
use Rattle.std.specs.Prelude.{◌≡◌, ◌⊎◌, ℕ, true, false, ◌||◌, List, Some, None, if◌then◌else◌}
use Rattle.std.specs.Ordering.{nat_cmp}
use Rattle.std.specs.BTreeMap.{get}
use Rattle.hd_delivery.specs.Histories.{is_this}
use Rattle.hd_calls.specs.Hubs.{Hub}
use Rattle.hd_server.specs.declared.vocabulary.Said.{Said}
use Rattle.hd_server.specs.Lives.{is_removed, is_made, is_polling, lost_at, socket_of}
use Rattle.hd_server.specs.Doings.{ServerEvent, notes, moment, has_peer, may_resume}
use Rattle.hd_server.specs.Plans.{Setup}
use Rattle.hd_server.specs.Serves.{FeedsOne}
use Rattle.hub_server.specs.declared.server.Server.{Server}
use Rattle.hub_server.specs.Lanes.{Unsettled, cut_of, is_at, lane_of, poll_lane, settled}
use Rattle.hub_server.specs.Servers.{Standing}

-- it was made, and isn't let go
pub record IsKnown (c : ℕ) (h : List ServerEvent) : Type 0 where
  pub made : is_made c (notes h) ≡ true
  pub held : is_removed c (notes h) ≡ false

-- it may stand on a socket: it doesn't poll, and its end may be resumed, or it has none yet
pub record CanStand (c : ℕ) (h : List ServerEvent) : Type 0 where
  pub known : IsKnown c h
  pub unpolled : is_polling c (notes h) ≡ false
  pub granted : has_peer c h ≡ true → may_resume c h ≡ true

-- a poll may come for it: it has a peer, and stood on no socket
pub record CanHold (c : ℕ) (h : List ServerEvent) : Type 0 where
  pub known : IsKnown c h
  pub there : has_peer c h ≡ true
  pub unsocketed : socket_of c (notes h) ≡ None
  pub unlost : lost_at c (notes h) ≡ None

-- the lanes of a server but those on which a connection stands or polls
pub record HasLeft {H Job : Type 0} (c : ℕ) (old new : Server H Job) (h : List ServerEvent) : Type 0 where
  pub base : new.base ≡ old.base
  pub resend : new.resend ≡ old.resend
  pub machine : new.machine ≡ old.machine
  pub front : new.front ≡ old.front
  pub callers : new.callers ≡ old.callers
  pub clock : new.moment ≡ old.moment
  pub words : new.words ≡ old.words
  pub lanes : (lane : ℕ) → get nat_cmp new.lanes lane
      ≡ (if is_this lane (socket_of c (notes h)) || is_this lane (poll_lane c (notes h)) then None else get nat_cmp old.lanes lane)

-- It stands for what there is once a connection is let go: with what wasn't settled before, and with nothing if that was the lane on which
-- the connection was
pub record Frees {H Job : Type 0} (hub : Hub Job) (s : Setup) (u : Unsettled) (before : List Said) (new : Server H Job) (c : ℕ) (h after : List ServerEvent) : Type 0 where
  pub stands : Standing hub s u before new after
  pub freed : (lane : ℕ) → (u ≡ lane_of (Some lane)) ⊎ (u ≡ cut_of lane) → is_at lane c h ≡ true → Standing hub s settled before new after

-- it was fed these bytes
pub record IsFedTo {H Job : Type 0} (hub : Hub Job) (s : Setup) (u : Unsettled) (before : List Said) (new : Server H Job) (c : ℕ) (bytes : List ℕ) (h : List ServerEvent) : Type 0 where
  pub after : List ServerEvent
  pub feeds : FeedsOne (moment h) c bytes h after
  pub stands : Standing hub s u before new after
