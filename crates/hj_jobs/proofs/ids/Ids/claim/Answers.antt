use Rattle.std.proofs.Common.{◌≡◌, ℕ, List, true, is_err, sym, ◌∙◌}
use Rattle.std.proofs.lemmas.Result.{err_from_is_err_and}
use Rattle.hj_jobs.specs.Ids.{AreSame, job_at}
use Rattle.hj_jobs.proofs.Claiming.{opened_and_closed, where_failed}
use Rattle.hj_jobs.proofs.ids.Ids.claim.Goals as goal

pub returns-in_err-test_id-clause-refused : goal.returns-in_err-test_id-clause-refused
returns-in_err-test_id-clause-refused c =
    let p = err_from_is_err_and c.from_residual.result c.from_residual.ensures.1 in
    rw (p.1, p.2) (c.in_err-test_id.ensures.refused c.args.streams.now)

pub returns-in_err-open-clause-refused : goal.returns-in_err-open-clause-refused
returns-in_err-open-clause-refused c =
    let p = err_from_is_err_and c.from_residual-in_err-open.result c.from_residual-in_err-open.ensures.1 in
    rw (p.1, p.2) (c.in_err-open.ensures.refused c.args.id.now)

pub returns-then-is_err-clause-unchanged : goal.returns-then-is_err-clause-unchanged
returns-then-is_err-clause-unchanged c =
    let failed : is_err c.take_id.result ≡ true = sym c.is_err.ensures.value ∙ c.if-is_err.true in
    let ids : (i : List ℕ) → job_at c.take_id.new.self i ≡ job_at c.open.new.self i = where_failed c.take_id.result ((i : List ℕ) → job_at c.take_id.new.self i ≡ job_at c.open.new.self i) failed c.take_id.ensures.unchanged in
    let same : AreSame c.open.new.self c.take_id.new.self = record { ids = ids; streams = c.take_id.ensures.streams } in
    opened_and_closed c.args.self.now c.open.new.self c.take_id.new.self c.close_those_of.new.self c.args.job c.args.streams.now c.in_ok-open.ensures.free c.in_ok-open.ensures.ok same c.close_those_of.ensures
