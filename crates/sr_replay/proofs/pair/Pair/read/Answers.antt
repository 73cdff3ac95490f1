use Rattle.std.proofs.Common.{sym, ◌∙◌, subst, arith}
use Rattle.std.specs.Prelude.{OnOk}
use Rattle.sr_script.specs.declared.action.Action.TheVariants as action
use Rattle.sr_replay.proofs.Played.{on_ok}
use Rattle.sr_replay.proofs.Linked.{there}
use Rattle.sr_replay.proofs.Pairs.{ReadsFrom, client_reads, client_reads_none, client_never_past, server_reads, server_reads_none, server_never_past}
use Rattle.sr_replay.proofs.pair.Pair.read.Goals as goal

pub returns-in_default : goal.returns-in_default
returns-in_default c = client_reads_none c.args.self.now c.args.count c.args.side c.in-Client.is (λ wire config h plays. sym c.in_default.is ∙ c.link.ensures wire config h plays)

pub returns-then-at-len : goal.returns-then-at-len
returns-then-at-len c = client_never_past c.facts_hold.ensures c.runs_are_worlds.ensures c.wire_is_sound.ensures c.args.self.now (action.Read c.args.side c.args.count) c.in-Some.link
    (λ wire config h plays. sym c.in-Some.is ∙ c.link.ensures wire config h plays) (omega (arith, c.if-at-len.true, c.len.ensures, c.args.self.now.lanes.ok.0))

pub returns-else-at-len : goal.returns-else-at-len
returns-else-at-len c = on_ok c.read.result
    (client_reads c.frames_are_taken.ensures c.runs_are_worlds.ensures c.wire_is_sound.ensures c.fed_is_lent.ensures c.lent_stays.ensures c.fed_is_unseen.ensures c.taken_has_room.ensures
    c.args.self.now c.read.new.player c.in-Some.link c.read.new.place c.read.new.told c.index.result.now c.args.count c.args.side c.in-Client.is
    (λ wire config h plays. sym c.in-Some.is ∙ c.link.ensures wire config h plays)
    (there c.args.self.now.lanes.items c.in-Some.link c.index.result.now (omega (arith, c.if-at-len.false, c.len.ensures, c.args.self.now.lanes.ok.0)) c.index.ensures))
    (subst (λ said. OnOk c.read.result (ReadsFrom c.args.self.now.kind c.args.count c.args.self.now.client c.read.new.player said c.args.self.now.client_place c.read.new.place c.args.self.now.told.items c.read.new.told.items))
    c.deref.ensures.value c.read.ensures.reads)
    c.read.ensures.limits

pub returns-in_default-link : goal.returns-in_default-link
returns-in_default-link c = server_reads_none c.args.self.now c.args.count c.args.side c.in-Server.is (λ wire config h plays. sym c.in_default-link.is ∙ c.link-in-Server.ensures wire config h plays)

pub returns-then-at-len-2 : goal.returns-then-at-len-2
returns-then-at-len-2 c = server_never_past c.facts_hold.ensures c.runs_are_worlds.ensures c.wire_is_sound.ensures c.args.self.now (action.Read c.args.side c.args.count) c.in-Some-link.link
    (λ wire config h plays. sym c.in-Some-link.is ∙ c.link-in-Server.ensures wire config h plays) (omega (arith, c.if-at-len-2.true, c.len-in-Server.ensures, c.args.self.now.lanes.ok.0))

pub returns-else-at-len-2 : goal.returns-else-at-len-2
returns-else-at-len-2 c = on_ok c.read-in-Server.result
    (server_reads c.frames_are_taken.ensures c.runs_are_worlds.ensures c.wire_is_sound.ensures c.fed_is_lent.ensures c.lent_stays.ensures c.fed_is_unseen.ensures c.taken_has_room.ensures
    c.args.self.now c.read-in-Server.new.player c.in-Some-link.link c.read-in-Server.new.place c.read-in-Server.new.told c.index-in-Server.result.now c.args.count c.args.side c.in-Server.is
    (λ wire config h plays. sym c.in-Some-link.is ∙ c.link-in-Server.ensures wire config h plays)
    (there c.args.self.now.lanes.items c.in-Some-link.link c.index-in-Server.result.now (omega (arith, c.if-at-len-2.false, c.len-in-Server.ensures, c.args.self.now.lanes.ok.0)) c.index-in-Server.ensures))
    (subst (λ said. OnOk c.read-in-Server.result (ReadsFrom c.args.self.now.kind c.args.count c.args.self.now.server c.read-in-Server.new.player said c.args.self.now.server_place c.read-in-Server.new.place c.args.self.now.told.items c.read-in-Server.new.told.items))
    c.deref-in-Server.ensures.value c.read-in-Server.ensures.reads)
    c.read-in-Server.ensures.limits
