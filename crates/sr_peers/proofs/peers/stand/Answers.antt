use Rattle.std.proofs.lemmas.Result.{on_ok_weaker}
use Rattle.sr_peers.proofs.Reporting.{end_told}
use Rattle.sr_peers.proofs.peers.stand.Goals as goal

pub returns : goal.returns
returns g c = on_ok_weaker c.push_standing.result
    (end_told {H = g.row.H.Denot} _ c.args.party.now c.end-end.result.now c.args.side c.state.result c.sent_count.result c.processed_count.result c.held_count.result
    c.args.report.now.items c.push_standing.new.report.items c.end-end.ensures c.state.ensures c.sent_count.ensures c.processed_count.ensures c.held_count.ensures)
    c.push_standing.ensures
