use Rattle.std.proofs.Common.{subst}
use Rattle.sr_replay.specs.Laws.{EndsReport}
use Rattle.sr_replay.proofs.pair.Pair.reports.Goals as goal

pub returns : goal.returns
returns c kind gone wire text p r house parses f =
    let ends = subst (λ e. EndsReport e c.args.self.now.server.end) c.end.ensures (subst (λ e. EndsReport c.end.result.now e) c.end-2.ensures c.ends_report.ensures) in
    ends wire text p r house parses f.holds.client.keeps f.holds.server.keeps f.runs f.holds.client.plays.stands f.holds.server.plays.stands
