use Rattle.std.proofs.Common.{◌≡◌, ◌∷◌, [], ◌++◌, ◌+◌, ℕ, List, None, take, sym, ap, subst, ◌∙◌, if◌then◌else◌, ◌&&◌}
use Rattle.hm_message.specs.Same.{same_text}
use Rattle.hj_jobs.specs.Ids.{ClosesThose, is_of, job_at, stream_at}
use Rattle.hj_jobs.proofs.Claiming.{changed, closed_more, before_and_at}
use Rattle.hj_jobs.proofs.ids.Ids.close_those_of.Goals as goal
use Rattle.hj_jobs.proofs.ids.Ids.close_those_of.Goals.{then-is_of, else-is_of}

pub loop-stream-preserved : goal.loop-stream-preserved
loop-stream-preserved c =
    let x : List ℕ = c.stream-item.result in
    let upto : take (c.loop-stream.stream-index + 1) c.args.streams.now ≡ take c.loop-stream.stream-index c.args.streams.now ++ x ∷ [] = before_and_at c.args.streams.now c.loop-stream.stream-index x x c.loop-stream-test.true c.stream-item.is in
    let ids : (i : List ℕ) → job_at c.if-is_of.self i ≡ job_at c.loop-stream.self i = elim c.if-is_of.branch [
      | then-is_of w ↦ (λ i. ap (λ n. job_at n i) w.self-is)
      | else-is_of w ↦ (λ i. ap (λ n. job_at n i) w.self-is)
    ] in
    let streams : (i : List ℕ) → stream_at c.if-is_of.self i ≡ (if is_of c.args.job (stream_at c.loop-stream.self x) && same_text i x then None else stream_at c.loop-stream.self i) = elim c.if-is_of.branch [
      | then-is_of w ↦ (λ i. ap (λ n. stream_at n i) w.self-is ∙ (changed c.loop-stream.self.streams w.remove.new.self x None w.remove.ensures.updates i ∙ ap (λ b. if b && same_text i x then None else stream_at c.loop-stream.self i) (sym w.if-is_of.true ∙ c.is_of.ensures)))
      | else-is_of w ↦ (λ i. ap (λ n. stream_at n i) w.self-is ∙ ap (λ b. if b && same_text i x then None else stream_at c.loop-stream.self i) (sym w.if-is_of.false ∙ c.is_of.ensures))
    ] in
    subst (λ ks. ClosesThose c.args.self.now c.if-is_of.self c.args.job ks) (sym upto) (closed_more c.args.self.now c.loop-stream.self c.if-is_of.self c.args.job (take c.loop-stream.stream-index c.args.streams.now) x c.loop-stream.invariant ids streams)
