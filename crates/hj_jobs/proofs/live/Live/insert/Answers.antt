use Rattle.hj_jobs.proofs.Entering.{entered}
use Rattle.hj_jobs.proofs.live.Live.insert.Goals as goal

-- there is room, so it is inserted
pub returns : goal.returns
returns g c = λ absent.
    let e = entered c.args.self.now.entries c.insert.new.self c.args.number c.args.entry c.insert.result (c.insert.ensures.succeeds c.requires) absent c.insert.ensures.updates c.insert.ensures.old c.insert.ensures.len in
    record { here = e.here; others = e.others; count = e.count; weight = c.plus-self.ensures }
