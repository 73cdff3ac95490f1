use Rattle.std.proofs.lemmas.Result.{on_ok_weaker}
use Rattle.sr_replay.proofs.Pairs.{told_sent, told_refused}
use Rattle.sr_replay.proofs.pair.send.Goals as goal

pub returns-in-Ok-clause-sends : goal.returns-in-Ok-clause-sends
returns-in-Ok-clause-sends c = on_ok_weaker c.push_sent.result
    (told_sent c.args.kind c.args.message.now c.args.player.now c.send.new.self c.side-side.result c.side-side.ensures c.args.told.now.items c.push_sent.new.told.items
    c.fed_is_unseen.ensures c.in-Ok.number c.in-Ok.ensures.ok)
    c.push_sent.ensures

pub returns-else-not-is_cause-clause-sends : goal.returns-else-not-is_cause-clause-sends
returns-else-not-is_cause-clause-sends c = on_ok_weaker c.push_refused_send.result
    (told_refused c.args.kind c.args.message.now c.args.player.now c.send.new.self c.side-side.result c.side-side.ensures c.args.told.now.items c.push_refused_send.new.told.items
    c.in-Err.why (c.is_cause.ensures c.if-not-is_cause.false) c.in-Err.ensures.refused)
    c.push_refused_send.ensures
