-- A peer that has made no move, and one whose end alone has changed, or whose round begins.
use Rattle.std.proofs.Common.{◌≡◌, ℕ, Bool, true, false, List, [], ◌∷◌, None, inl, refl, sym, ◌∙◌}
use Rattle.std.specs.Prelude.{nat_eq, if◌then◌else◌}
use Rattle.std.specs.HashMap.{get}
use Rattle.hd_delivery.specs.declared.vocabulary.Side.{Side}
use Rattle.hd_delivery.specs.Histories.{Ticked, Silenced}
use Rattle.hd_delivery.specs.Bytes.{Wire, ByteStep, Does}
use Rattle.he_end.specs.declared.config.Config.{Config}
use Rattle.he_end.specs.declared.end.End.{End}
use Rattle.he_end.specs.Stands as end_stands
use Rattle.he_end.specs.Stands.{begun, limits_of}
use Rattle.hd_calls.specs.Hubs.{Hub}
use Rattle.hd_calls.specs.Ids.{prefix_of}
use Rattle.hd_calls.specs.Peers.{PeerEvent, Plain, Rounds, Settings, byte_steps}
use Rattle.hd_calls.specs.Rules.{IsPlain}
use Rattle.hd_calls.specs.Tables.{Round, job_happenings}
use Rattle.hi_calls.specs.Stands as of_calls
use Rattle.hj_jobs.specs.declared.jobs.Jobs.{Jobs}
use Rattle.hj_jobs.specs.Stands as of_jobs
use Rattle.hp_peer.specs.declared.peer.Peer.{Peer}
use Rattle.hp_peer.specs.Stands.{Stands, settings}

module _ {H Job : Type 0} (hub : Hub Job) (side : Side) (config : Config) (wire : Wire) (who : List ℕ) (peer : Peer H Job) where
  pub starts : limits_of peer.end ≡ config.limits → end_stands.Stands wire (begun side config) peer.end [] → of_calls.Stands peer.calls (prefix_of side) []
      → of_jobs.Stands hub peer.jobs who [] → peer.who ≡ who → peer.waiting ≡ None → ((n : ℕ) → get nat_eq peer.jobs_by_call n ≡ None)
      → Stands hub (settings side config wire who) peer []
  starts limits end calls jobs name waits jobs_by_call = record {
    names = λ n. refl;
    limits = sym limits;
    end = end;
    calls = calls;
    jobs = jobs;
    who = name;
    waits = waits;
    counted = tt;
    jobs_by_call = jobs_by_call;
    follows = tt;
    prompt = tt;
    settled = refl;
  }

module _ {H Job : Type 0} (hub : Hub Job) (t : Settings) (peer : Peer H Job) (h : List PeerEvent) (s : Stands hub t peer h) (jobs : Jobs H Job) where
  pub rounds : of_jobs.Stands hub jobs t.who (Round ∷ job_happenings t h) → Stands hub t (record peer { jobs = jobs }) (Rounds ∷ h)
  rounds stands = record {
    names = s.names;
    limits = s.limits;
    end = s.end;
    calls = s.calls;
    jobs = stands;
    who = s.who;
    waits = s.waits;
    counted = s.counted;
    jobs_by_call = s.jobs_by_call;
    follows = (s.follows, tt);
    prompt = (s.prompt, inl s.settled);
    settled = refl;
  }

module _ {H Job : Type 0} (hub : Hub Job) (t : Settings) (peer : Peer H Job) (h : List PeerEvent) (s : Stands hub t peer h) (e : End)
    (same : limits_of e ≡ limits_of peer.end) where
  -- it stands for what the peer stood for
  pub stays : end_stands.Stands t.wire t.config e (byte_steps t h) → Stands hub t (record peer { end = e }) h
  stays stands = record {
    names = s.names;
    limits = s.limits ∙ sym same;
    end = stands;
    calls = s.calls;
    jobs = s.jobs;
    who = s.who;
    waits = s.waits;
    counted = s.counted;
    jobs_by_call = s.jobs_by_call;
    follows = s.follows;
    prompt = s.prompt;
    settled = s.settled;
  }

  -- its end has made a step
  pub steps_on : (b : ByteStep) → IsPlain h b → end_stands.Stands t.wire t.config e (b ∷ byte_steps t h) → Stands hub t (record peer { end = e }) (Plain b ∷ h)
  steps_on b may stands = record {
    names = s.names;
    limits = s.limits ∙ sym same;
    end = stands;
    calls = s.calls;
    jobs = s.jobs;
    who = s.who;
    waits = s.waits;
    counted = s.counted;
    jobs_by_call = s.jobs_by_call;
    follows = (s.follows, may);
    prompt = (s.prompt, inl s.settled);
    settled = refl;
  }

  -- a moment came, which may be a silence
  pub ticks : (silent : Bool) (now : ℕ) → end_stands.Stands t.wire t.config e (Does (if silent then Silenced now else Ticked now) ∷ byte_steps t h)
      → Stands hub t (record peer { end = e }) (Plain (Does (if silent then Silenced now else Ticked now)) ∷ h)
  ticks true now stands = steps_on (Does (Silenced now)) tt stands
  ticks false now stands = steps_on (Does (Ticked now)) tt stands
