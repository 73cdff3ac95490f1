use Rattle.std.proofs.Common.{◌∙◌, sym}
use Rattle.std.proofs.lemmas.Result.{err_from_is_err_and}
use Rattle.hd_calls.specs.Hubs.{Item}
use Rattle.hj_jobs.proofs.Told.{item_fed, stream_unknown, unfed_refused, unfed_stands}
use Rattle.hj_jobs.proofs.jobs.Jobs.item.Goals as goal

pub returns-in_default-clause-refused : goal.returns-in_default-clause-refused
returns-in_default-clause-refused g c = λ who h s. stream_unknown {H = g.row.H.Denot} _ who c.args.self.now h s c.args.stream.now (sym c.stream.ensures ∙ c.in_default.is)

pub returns-in_err-feed-clause-refused : goal.returns-in_err-feed-clause-refused
returns-in_err-feed-clause-refused g c =
    let p = err_from_is_err_and c.from_residual.result c.from_residual.ensures.1 in
    rw (p.1, p.2) (λ who h s. unfed_refused {H = g.row.H.Denot} _ who c.args.self.now h s c.args.stream.now (Item c.args.value) c.in-Some.found (sym c.stream.ensures ∙ c.in-Some.is) _ c.in_err-feed.ensures.refused)

pub returns-in_err-feed-clause-unchanged : goal.returns-in_err-feed-clause-unchanged
returns-in_err-feed-clause-unchanged g c =
    let p = err_from_is_err_and c.from_residual.result c.from_residual.ensures.1 in
    rw p.1 (λ who h s. unfed_stands {H = g.row.H.Denot} _ who c.args.self.now h s _ _ c.in_err-feed.ensures.unchanged)

pub returns-clause-ok : goal.returns-clause-ok
returns-clause-ok g c = λ who h s.
    item_fed {H = g.row.H.Denot} _ who c.args.self.now h s c.feed.new.self c.args.stream.now c.args.value c.in-Some.found
    (sym c.stream.ensures ∙ c.in-Some.is) c.in_ok-feed.ensures.ok c.in_ok-feed.ensures.few c.in_ok-feed.ensures.light
