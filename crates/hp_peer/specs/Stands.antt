-- What a peer's parts remember of its moves.
use Rattle.std.specs.Prelude.{◌≡◌, ℕ, suc, true, List, Option, Some, None, nat_eq, option_map, if◌then◌else◌}
use Rattle.std.specs.HashMap.{get}
use Rattle.hm_message.specs.declared.message.Message.{Message}
use Rattle.hm_message.specs.Message.{is_sequenced}
use Rattle.hd_delivery.specs.declared.vocabulary.Side.{Side}
use Rattle.hd_delivery.specs.Bytes.{Wire}
use Rattle.he_end.specs.declared.config.Config.{Config}
use Rattle.he_end.specs.Stands as of_end
use Rattle.he_end.specs.Stands.{begun, limits_of}
use Rattle.hd_calls.specs.Hubs.{Hub}
use Rattle.hd_calls.specs.Ids.{id_at, prefix_of}
use Rattle.hd_calls.specs.Peers.{PeerEvent, Settings, asker_of, live_call, waiting, byte_steps}
use Rattle.hd_calls.specs.Rules.{Follows, IsPrompt, asking}
use Rattle.hd_calls.specs.Tables.{call_happenings, job_happenings}
use Rattle.hi_calls.specs.Stands as of_calls
use Rattle.hj_jobs.specs.Stands as of_jobs
use Rattle.hp_peer.specs.declared.peer.Peer.{Peer}

-- how a peer of this side is begun, over a wire, with the name of the other side
abbrev pub settings : Side → Config → Wire → List ℕ → Settings
settings side config wire who = record { config = begun side config; wire = wire; limits = config.limits; name = id_at side; who = who }

-- the number of the job that asked for a call, while that is live
abbrev pub live_asker : ℕ → List PeerEvent → Option ℕ
live_asker n h = if live_call n h then option_map suc (asker_of n h) else None

-- what waits is a message of those that are counted
abbrev pub IsCounted : Option Message → Type 0
IsCounted None = Unit {0}
IsCounted (Some m) = is_sequenced m ≡ true

-- The peer, whose jobs are this hub's, stands for these moves, the latest first: its end for their steps, and its tables for what they see of them.
pub record Stands {H Job : Type 0} (hub : Hub Job) (t : Settings) (peer : Peer H Job) (h : List PeerEvent) : Type 0 where
  pub names : (n : ℕ) → t.name n ≡ id_at t.config.side n
  pub limits : t.limits ≡ limits_of peer.end
  pub end : of_end.Stands t.wire t.config peer.end (byte_steps t h)
  pub calls : of_calls.Stands peer.calls (prefix_of t.config.side) (call_happenings h)
  pub jobs : of_jobs.Stands hub peer.jobs t.who (job_happenings t h)
  pub who : peer.who ≡ t.who
  pub waits : peer.waiting ≡ waiting h
  pub counted : IsCounted (waiting h)
  pub jobs_by_call : (n : ℕ) → get nat_eq peer.jobs_by_call n ≡ live_asker n h
  pub follows : Follows hub t h
  pub prompt : IsPrompt h
  pub settled : asking h ≡ None

-- of all settings and moves for which the peer stood
abbrev pub OfEach : {H Job : Type 0} → Hub Job → Peer H Job → (Settings → List PeerEvent → Type 0) → Type 0
OfEach hub peer Holds = (t : Settings) (h : List PeerEvent) → Stands hub t peer h → Holds t h

-- it stands for what it stood for
abbrev pub Stays : {H Job : Type 0} → Hub Job → Peer H Job → Peer H Job → Type 0
Stays hub old new = OfEach hub old (λ t h. Stands hub t new h)
