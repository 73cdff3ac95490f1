use Rattle.std.proofs.Common.{◌≡◌, ℕ, List, None, Some, if◌then◌else◌, ◌&&◌, refl, ap, ◌∙◌}
use Rattle.hd_calls.specs.Rules.{same_id, is_among}
use Rattle.hj_jobs.specs.Ids.{job_at, stream_at, is_of}
use Rattle.hj_jobs.proofs.Claiming.{id_changed, id_stays}
use Rattle.hj_jobs.proofs.ids.Ids.release.Goals as goal
use Rattle.hj_jobs.proofs.ids.Ids.release.Goals.{in-Some, in_default}

pub returns : goal.returns
returns c =
    let ids : (i : List ℕ) → job_at c.match-id.self i ≡ (if same_id (Some i) c.args.id.now then None else job_at c.args.self.now i) = elim c.match-id.branch [
      | in-Some w ↦ (λ i. ap (λ n. job_at n i) w.self-is ∙ id_changed c.args.self.now.ids w.remove.new.self c.args.id.now w.in-Some.id w.in-Some.id None w.in-Some.is refl w.remove.ensures.updates i)
      | in_default w ↦ (λ i. ap (λ n. job_at n i) w.self-is ∙ id_stays c.args.self.now.ids c.args.id.now None w.in_default.is i)
    ] in
    let streams : (i : List ℕ) → stream_at c.match-id.self i ≡ stream_at c.args.self.now i = elim c.match-id.branch [ in-Some w ↦ (λ i. ap (λ n. stream_at n i) w.self-is) | in_default w ↦ (λ i. ap (λ n. stream_at n i) w.self-is) ] in
    record {
      ids = λ i. c.close_those_of.ensures.ids i ∙ ids i;
      closed_streams = λ i. c.close_those_of.ensures.closed_streams i ∙ ap (λ s. if is_among i c.args.streams.now && is_of c.args.job s then None else s) (streams i);
    }
