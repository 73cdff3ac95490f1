-- Who is on which lane.
use Rattle.std.specs.Prelude.{◌≡◌, ℕ, Bool, true, false, not, ◌&&◌, ◌||◌, List, Option, Some, None, option_map}
use Rattle.hd_delivery.specs.Histories.{is_this}
use Rattle.hd_server.specs.Lives.{ConnectionEvent, poll_of, socket_of}
use Rattle.hd_server.specs.Doings.{ServerEvent, notes, awaits_reply, has_peer, is_full, is_upgraded, wants_shut, was_refused}
use Rattle.hub_server.specs.declared.lane.Lane.{Lane}

-- the lane of the poll that is held
abbrev pub poll_lane : ℕ → List ConnectionEvent → Option ℕ
poll_lane c n = option_map (λ poll. poll.0) (poll_of c n)

-- a connection that has a peer stands on its socket there, or holds a poll there
abbrev pub is_at : ℕ → ℕ → List ServerEvent → Bool
is_at lane c h = has_peer c h && (is_this lane (socket_of c (notes h)) || is_this lane (poll_lane c (notes h)))

-- a request comes there only after it was lost, or answered
abbrev pub is_taken : ℕ → List ServerEvent → Bool
is_taken lane h = is_upgraded lane h || awaits_reply lane h

-- what isn't settled yet in the middle of an event
pub record Unsettled : Type 0 where
  pub lane : Option ℕ  -- a request could come there already, while a connection is still on it
  pub cut : Option ℕ  -- a connection still stands on that lane, while its link has ended
  pub conn : Option ℕ  -- a connection that has just got its peer is on no lane yet

abbrev pub settled : Unsettled
settled = record { lane = None; cut = None; conn = None }

abbrev pub lane_of : Option ℕ → Unsettled
lane_of lane = record { lane = lane; cut = None; conn = None }

abbrev pub cut_of : ℕ → Unsettled
cut_of lane = record { lane = Some lane; cut = Some lane; conn = None }

abbrev pub conn_of : ℕ → Unsettled
conn_of c = record { lane = None; cut = None; conn = Some c }

-- this is kept of a lane on which one connection is, and no other
pub record HasLane (u : Unsettled) (x : Lane) (lane : ℕ) (h : List ServerEvent) : Type 0 where
  pub at : is_at lane x.conn h ≡ true
  pub only : (c : ℕ) → is_at lane c h ≡ true → c ≡ x.conn
  pub polls : x.polls ≡ not (is_this lane (socket_of x.conn (notes h)))
  pub last : x.is_last ≡ wants_shut lane h
  pub refused : x.is_refused ≡ was_refused lane h
  pub full : x.is_full ≡ is_full lane h
  pub taken : (is_this lane u.lane || is_taken lane h) ≡ true

-- no connection is on the lane
abbrev pub IsNobodys : ℕ → List ServerEvent → Type 0
IsNobodys lane h = (c : ℕ) → is_at lane c h ≡ false

abbrev pub IsLane : Unsettled → Option Lane → ℕ → List ServerEvent → Type 0
IsLane u None lane h = IsNobodys lane h
IsLane u (Some x) lane h = HasLane u x lane h
