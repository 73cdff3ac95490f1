use Rattle.std.proofs.Common.{[], ◌++◌, ◌∙◌, ap, sym, subst}
use Rattle.sr_notation.specs.Terms.{limits_in}
use Rattle.sr_peers.specs.Runs.{TellsRun}
use Rattle.sr_peers.specs.Report.{IsReport, pair_in}
use Rattle.sr_replay.proofs.peering.tell_by.Goals as goal

pub returns : goal.returns
returns c = λ p parses begun.
    let report : IsReport p c.finish.new.report.items = λ wire house.
    let pair = pair_in wire p in
    let told = c.in_ok-act_all.ensures p parses pair (begun wire house) in
    c.in_ok-finish.ensures wire p told.0 told.2.0 (subst (TellsRun pair [] told.0) (sym (told.2.2 ∙ ap (λ lines. lines ++ told.1) c.new-report.ensures.items)) told.2.1) in
    let wire = c.has_wire.ensures (limits_in p.settings).frame in
    let told = c.in_ok-act_all.ensures p parses (pair_in wire.0 p) (begun wire.0 wire.1) in
    (report, c.links-links.ensures (pair_in wire.0 p) p.actions told.0 told.2.0)
