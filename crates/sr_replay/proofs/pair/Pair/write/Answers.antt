use Rattle.std.proofs.Common.{refl, sym, ◌∙◌, arith}
use Rattle.std.specs.Vec.{with_item}
use Rattle.sr_script.specs.declared.action.Action.TheVariants as action
use Rattle.sr_replay.proofs.Played.{on_ok}
use Rattle.sr_replay.proofs.Linked.{there}
use Rattle.sr_replay.proofs.Pairs.{client_writes, client_writes_none, client_never_past, server_writes, server_writes_none, server_never_past}
use Rattle.sr_replay.proofs.pair.Pair.write.Goals as goal

pub returns-in_default : goal.returns-in_default
returns-in_default c = client_writes_none c.args.self.now c.args.count c.args.side c.in-Client.is (λ wire config h plays. sym c.in_default.is ∙ c.link.ensures wire config h plays)

pub returns-then-at-len : goal.returns-then-at-len
returns-then-at-len c = client_never_past c.facts_hold.ensures c.runs_are_worlds.ensures c.wire_is_sound.ensures c.args.self.now (action.Write c.args.side c.args.count) c.in-Some.link
    (λ wire config h plays. sym c.in-Some.is ∙ c.link.ensures wire config h plays) (omega (arith, c.if-at-len.true, c.len.ensures, c.args.self.now.lanes.ok.0))

pub returns-else-at-len : goal.returns-else-at-len
returns-else-at-len c = on_ok c.write.result
    (client_writes c.lent_comes_last.ensures c.lent_stays.ensures c.args.self.now c.write.new.player c.in-Some.link c.index_mut.result.now c.write.new.lane
    (with_item c.args.self.now.lanes c.in-Some.link c.write.new.lane) c.write.new.told c.args.count c.args.side c.in-Client.is
    (λ wire config h plays. sym c.in-Some.is ∙ c.link.ensures wire config h plays)
    (there c.args.self.now.lanes.items c.in-Some.link c.index_mut.result.now (omega (arith, c.if-at-len.false, c.len.ensures, c.args.self.now.lanes.ok.0)) c.index_mut.ensures.value)
    refl c.write.ensures.other c.write.ensures.opened)
    c.write.ensures.writes c.write.ensures.limits

pub returns-in_default-link : goal.returns-in_default-link
returns-in_default-link c = server_writes_none c.args.self.now c.args.count c.args.side c.in-Server.is (λ wire config h plays. sym c.in_default-link.is ∙ c.link-in-Server.ensures wire config h plays)

pub returns-then-at-len-2 : goal.returns-then-at-len-2
returns-then-at-len-2 c = server_never_past c.facts_hold.ensures c.runs_are_worlds.ensures c.wire_is_sound.ensures c.args.self.now (action.Write c.args.side c.args.count) c.in-Some-link.link
    (λ wire config h plays. sym c.in-Some-link.is ∙ c.link-in-Server.ensures wire config h plays) (omega (arith, c.if-at-len-2.true, c.len-in-Server.ensures, c.args.self.now.lanes.ok.0))

pub returns-else-at-len-2 : goal.returns-else-at-len-2
returns-else-at-len-2 c = on_ok c.write-in-Server.result
    (server_writes c.lent_comes_last.ensures c.lent_stays.ensures c.args.self.now c.write-in-Server.new.player c.in-Some-link.link c.index_mut-in-Server.result.now c.write-in-Server.new.lane
    (with_item c.args.self.now.lanes c.in-Some-link.link c.write-in-Server.new.lane) c.write-in-Server.new.told c.args.count c.args.side c.in-Server.is
    (λ wire config h plays. sym c.in-Some-link.is ∙ c.link-in-Server.ensures wire config h plays)
    (there c.args.self.now.lanes.items c.in-Some-link.link c.index_mut-in-Server.result.now (omega (arith, c.if-at-len-2.false, c.len-in-Server.ensures, c.args.self.now.lanes.ok.0)) c.index_mut-in-Server.ensures.value)
    refl c.write-in-Server.ensures.other c.write-in-Server.ensures.opened)
    c.write-in-Server.ensures.writes c.write-in-Server.ensures.limits
