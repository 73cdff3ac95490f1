use Rattle.std.proofs.lemmas.Result.{on_ok_weaker}
use Rattle.sr_replay.proofs.Pairs.{standing_told}
use Rattle.sr_replay.proofs.pair.stand.Goals as goal

pub returns : goal.returns
returns c = on_ok_weaker c.push_standing.result
    (standing_told c.fed_is_unseen.ensures c.args.side c.args.player.now c.state.result c.sent_count.result c.processed_count.result c.held_count.result c.args.report.now.items c.push_standing.new.report.items
    c.state.ensures c.sent_count.ensures c.processed_count.ensures c.held_count.ensures)
    c.push_standing.ensures
