use Rattle.std.proofs.Common.{[], sym, subst}
use Rattle.sr_replay.specs.declared.text_kind.TextKind.TheVariants as kinds
use Rattle.sr_notation.specs.Terms.{limits_in, terms_in}
use Rattle.sr_replay.specs.Report.{IsReport, IsReportOver}
use Rattle.sr_replay.proofs.replaying.tell_ends.Goals as goal

pub returns : goal.returns
returns c = λ p parses.
    let reaches = c.in_ok-pair.ensures p parses in
    let report : IsReport p c.in_ok-report.report.items = λ wire house.
    let run = reaches wire house in
    subst (λ x. IsReportOver wire p x) (sym (c.in_ok-report.ensures (limits_in p.settings) wire (terms_in p.settings) p.actions run.0 run.1))
    (c.reports.ensures kinds.Report [] wire c.args.script.now p run.0 house parses run.1) in
    let wire = c.has_wire.ensures (limits_in p.settings).frame in
    let run = reaches wire.0 wire.1 in (
      record { holds = report; only = λ other is. c.reports_once.ensures p other c.in_ok-report.report.items is report },
      c.links-links.ensures kinds.Report [] (limits_in p.settings) wire.0 (terms_in p.settings) p.actions run.0 run.1,
    )
