-- Events that are no requests, handled.
use Rattle.std.proofs.Common.{ℕ, List, None, option_map, refl}
use Rattle.hd_calls.specs.Hubs.{Hub}
use Rattle.hw_lanes.specs.declared.http.Refusal.{Refusal as LaneRefusal}
use Rattle.hw_door.specs.declared.heard.Event.TheVariants as event
use Rattle.hd_server.specs.declared.vocabulary.Said.{Said}
use Rattle.hd_server.specs.Doings.{ServerEvent, moment}
use Rattle.hd_server.specs.Plans.{Setup, conn_on, losing_lane, onto, poller_on}
use Rattle.hd_server.specs.Laws.{PartsOfTurns}
use Rattle.hub_server.specs.declared.server.Server.{Server}
use Rattle.hub_server.specs.Lanes.{settled}
use Rattle.hub_server.specs.Servers.{Standing}
use Rattle.hub_server.specs.Steps.{Outside, Handles}
use Rattle.hub_server.specs.Events.{HasHeardBytes}
use Rattle.hub_server.proofs.StepMute.{fed_quiet, first_quiet, quiet_refl}
use Rattle.hub_server.proofs.OutcomeHandles.{went_same}

module _ {H Job : Type 0} (hub : Hub Job) (s : Setup) (before : List Said) (new : Server H Job) (at : Outside) (h : List ServerEvent) where
  -- bytes came
  pub heard_bytes : (lane : ℕ) (bytes : List ℕ) → HasHeardBytes {H = H} hub s settled before new lane bytes h
      → Handles {H = H} hub s before new at at (event.Bytes lane bytes) h
  heard_bytes lane bytes b = record {
    after = b.after;
    is_handled = record { name = None; drawn = None; of_sixteen = tt; follows = record { fed = b.after; feeds = b.fed; is = refl } };
    stands = b.stands;
    went = went_same at h b.after (fed_quiet (moment h) (option_map (λ c. (c, bytes)) (conn_on lane h)) h b.after b.fed);
  }

  -- a lane was lost
  pub lost_lane : PartsOfTurns → (lane : ℕ) → Standing {H = H} hub s settled before new (onto (losing_lane (conn_on lane h) (poller_on lane h) lane (moment h) h) h)
      → Handles {H = H} hub s before new at at (event.Lost lane) h
  lost_lane law lane st =
      let after : List ServerEvent = onto (losing_lane (conn_on lane h) (poller_on lane h) lane (moment h) h) h in
      record {
        after = after;
        is_handled = record { name = None; drawn = None; of_sixteen = tt; follows = record { fed = after; feeds = refl; is = refl } };
        stands = st;
        went = went_same at h after (first_quiet law s (moment h) (event.Lost lane) None None h h);
      }

  -- what only a client hears, what was refused, and what has drained, changes nothing
  pub heard_refusal : (lane : ℕ) (refusal : LaneRefusal) → Standing {H = H} hub s settled before new h → Handles {H = H} hub s before new at at
      (event.Refused lane refusal) h
  heard_refusal lane refusal st = record {
    after = h;
    is_handled = record { name = None; drawn = None; of_sixteen = tt; follows = record { fed = h; feeds = refl; is = refl } };
    stands = st;
    went = went_same at h h (quiet_refl h);
  }

  pub heard_response : (lane status : ℕ) (body : List ℕ) → Standing {H = H} hub s settled before new h
      → Handles {H = H} hub s before new at at (event.Response lane status body) h
  heard_response lane status body st = record {
    after = h;
    is_handled = record { name = None; drawn = None; of_sixteen = tt; follows = record { fed = h; feeds = refl; is = refl } };
    stands = st;
    went = went_same at h h (quiet_refl h);
  }

  pub heard_upgrade : (lane : ℕ) → Standing {H = H} hub s settled before new h → Handles {H = H} hub s before new at at (event.Upgraded lane) h
  heard_upgrade lane st = record {
    after = h;
    is_handled = record { name = None; drawn = None; of_sixteen = tt; follows = record { fed = h; feeds = refl; is = refl } };
    stands = st;
    went = went_same at h h (quiet_refl h);
  }

  pub heard_drain : (lane : ℕ) → Standing {H = H} hub s settled before new h → Handles {H = H} hub s before new at at (event.Drained lane) h
  heard_drain lane st = record {
    after = h;
    is_handled = record { name = None; drawn = None; of_sixteen = tt; follows = record { fed = h; feeds = refl; is = refl } };
    stands = st;
    went = went_same at h h (quiet_refl h);
  }

  pub heard_nothing : Standing {H = H} hub s settled before new h → Handles {H = H} hub s before new at at event.Quiet h
  heard_nothing st = record {
    after = h;
    is_handled = record { name = None; drawn = None; of_sixteen = tt; follows = record { fed = h; feeds = refl; is = refl } };
    stands = st;
    went = went_same at h h (quiet_refl h);
  }
