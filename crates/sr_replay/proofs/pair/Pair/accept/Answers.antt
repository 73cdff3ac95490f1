use Rattle.std.proofs.Common.{arith}
use Rattle.sr_replay.proofs.Linked.{there}
use Rattle.sr_replay.proofs.Pairs.{server_accepts, none_accepted}
use Rattle.sr_replay.proofs.pair.Pair.accept.Goals as goal

pub returns-then-not-index : goal.returns-then-not-index
returns-then-not-index c = none_accepted c.args.self.now c.args.link c.index.result.now
    (there c.args.self.now.lanes.items c.args.link c.index.result.now (omega (arith, c.if-at-len.false, c.len.ensures, c.args.self.now.lanes.ok.0)) c.index.ensures) c.if-not-index.true

pub returns : goal.returns
returns c = server_accepts c.runs_are_worlds.ensures c.wire_is_sound.ensures c.unused_is_untouched.ensures c.unused_is_empty.ensures
    c.args.self.now c.attach.new.player c.args.link c.attach.new.place c.attach.new.told c.index.result.now c.in_ok-attach.field-0
    (there c.args.self.now.lanes.items c.args.link c.index.result.now (omega (arith, c.if-at-len.false, c.len.ensures, c.args.self.now.lanes.ok.0)) c.index.ensures) c.if-not-index.false
    c.in_ok-attach.ensures.attaches c.in_ok-attach.ensures.limits
