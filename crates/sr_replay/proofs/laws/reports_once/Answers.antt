use Rattle.std.proofs.Common.{◌∙◌, sym, ap}
use Rattle.sr_notation.specs.Terms.{limits_in, terms_in}
use Rattle.sr_replay.specs.Report.{report_text}
use Rattle.sr_replay.proofs.laws.reports_once.Goals as goal

pub returns : goal.returns
returns c p x y e f =
    let house = c.has_wire.ensures (limits_in p.settings).frame in
    let a = e house.0 house.1 in
    let b = f house.0 house.1 in
    a.text_is ∙ (ap (report_text (terms_in p.settings)) (b.runs.only a.run a.runs.holds) ∙ sym b.text_is)
