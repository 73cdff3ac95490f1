use Rattle.std.proofs.Common.{◌∙◌, arith, refl, sym}
use Rattle.std.proofs.lemmas.Result.{err_from_is_err_and}
use Rattle.hj_jobs.proofs.Accepting.{accept_full, accept_known, accept_released, accept_unclaimed}
use Rattle.hj_jobs.proofs.Told.{retained_stands, same_retained}
use Rattle.hj_jobs.proofs.jobs.Jobs.accept.Goals as goal

pub returns-in_err-claim-clause-refused : goal.returns-in_err-claim-clause-refused
returns-in_err-claim-clause-refused g c =
    let p = err_from_is_err_and c.from_residual.result c.from_residual.ensures.1 in
    rw (p.1, p.2) (λ who h s d is. accept_unclaimed {H = g.row.H.Denot} _ who c.args.self.now h s c.args.call c.texts.result.now c.texts.ensures _ c.in_err-claim.ensures.refused d is)

pub returns-in_err-claim-clause-unchanged : goal.returns-in_err-claim-clause-unchanged
returns-in_err-claim-clause-unchanged g c =
    let p = err_from_is_err_and c.from_residual.result c.from_residual.ensures.1 in
    rw p.1 (λ who h s. retained_stands {H = g.row.H.Denot} _ who c.args.self.now h s _ (same_retained c.args.self.now.live) c.in_err-claim.ensures.unchanged refl (omega arith) refl refl refl)

pub returns-in-Ok-clause-ok : goal.returns-in-Ok-clause-ok
returns-in-Ok-clause-ok g c = λ who h s d is.
    accept_known {H = g.row.H.Denot} _ who c.args.self.now h s c.args.call c.texts.result.now c.texts.ensures c.claim.new.self c.begin.new.self c.enter.new.self
    _ c.args.now c.in-Ok.job refl c.in_ok-claim.ensures.free c.in_ok-claim.ensures.ok c.begin.ensures.unchanged c.in-Ok.ensures.room c.in-Ok.ensures.few c.in-Ok.ensures.ok c.enter.ensures d is

pub returns-in-Err-clause-refused : goal.returns-in-Err-clause-refused
returns-in-Err-clause-refused g c = λ who h s d is.
    accept_full {H = g.row.H.Denot} _ who c.args.self.now h s c.args.call c.texts.result.now c.texts.ensures c.in-Err.error c.in_ok-claim.ensures.free c.in-Err.ensures.refused d is

pub returns-in-Err-clause-unchanged : goal.returns-in-Err-clause-unchanged
returns-in-Err-clause-unchanged g c = λ who h s.
    accept_released {H = g.row.H.Denot} _ who c.args.self.now h s c.args.call c.texts.result.now c.texts.ensures c.claim.new.self c.begin.new.self _
    _ c.in_ok-claim.ensures.free c.in_ok-claim.ensures.ok c.begin.ensures.unchanged
    (rw (c.begin.ensures.unchanged.names, c.texts-in-Err.ensures ∙ sym c.texts.ensures) at c.release.ensures) refl refl refl refl refl
