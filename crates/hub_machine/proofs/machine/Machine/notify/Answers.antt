use Rattle.std.proofs.Common.{◌∙◌}
use Rattle.hj_jobs.specs.Meaning.{meaning}
use Rattle.hub_machine.proofs.FatesTold.{is_said, no_time, noticed, tells_all, tells_nobody, on_ok}
use Rattle.hub_machine.proofs.machine.Machine.notify.Goals as goal

pub returns-then-not-fits-clause-told : goal.returns-then-not-fits-clause-told
returns-then-not-fits-clause-told g c =
    tells_nobody {H = g.row.H.Denot} {Job = g.row.H-Job.Denot} (meaning g.H.Hub.begin_of g.H.Hub.step_of) c.args.self.now c.args.to.now
    c.args.target c.args.arguments _ c.fits.result
    (is_said c.none.result c.of.result c.args.target c.args.arguments c.none.ensures (c.of.ensures ∙ c.new.ensures.items))
    c.fits.ensures c.if-not-fits.true

pub spread-requires-clause-notice : goal.spread-requires-clause-notice
spread-requires-clause-notice g c = noticed _ c.args.target c.args.arguments
    (is_said c.none.result c.of.result c.args.target c.args.arguments c.none.ensures (c.of.ensures ∙ c.new.ensures.items))

pub returns-clause-told : goal.returns-clause-told
returns-clause-told g c = on_ok c.spread.result
    (tells_all {H = g.row.H.Denot} {Job = g.row.H-Job.Denot} (meaning g.H.Hub.begin_of g.H.Hub.step_of) c.args.self.now c.spread.new.members c.args.to.now
    c.args.target c.args.arguments _ c.fits.result c.fates_are_refusals.ensures c.requires.once
    (is_said c.none.result c.of.result c.args.target c.args.arguments c.none.ensures (c.of.ensures ∙ c.new.ensures.items))
    c.fits.ensures c.if-not-fits.false)
    c.spread.ensures.ok

pub returns-clause-clock : goal.returns-clause-clock
returns-clause-clock g c = on_ok c.spread.result
    (no_time {H = g.row.H.Denot} {Job = g.row.H-Job.Denot} (meaning g.H.Hub.begin_of g.H.Hub.step_of) c.args.self.now c.spread.new.members c.args.to.now _)
    c.spread.ensures.ok
