use Rattle.std.proofs.Common.{false, refl, sym, ◌∙◌, arith}
use Rattle.std.specs.Vec.{with_item}
use Rattle.std.proofs.lemmas.Result.{IfOk-weaker}
use Rattle.sr_peers.proofs.Seats.{the_client, the_server}
use Rattle.sr_peers.proofs.Lanes.{there}
use Rattle.sr_peers.proofs.Standing.{never_past, client_holds, server_holds}
use Rattle.sr_peers.proofs.Writing.{writes_none, writes}
use Rattle.sr_peers.proofs.peers.Peers.write.Goals as goal

pub returns-in_default : goal.returns-in_default
returns-in_default c =
    rw c.in-Client.is
    (writes_none _ the_client c.what_is_lent_goes_on.ensures c.args.self.now refl c.args.count (λ t h plays. sym c.in_default.is ∙ c.link.ensures t h plays))

pub returns-then-at-len : goal.returns-then-at-len
returns-then-at-len c = λ report.
    never_past _ the_client c.facts_hold.ensures c.args.self.now c.in-Some.link (λ t h plays. sym c.in-Some.is ∙ c.link.ensures t h plays)
    (omega (arith, c.if-at-len.true, c.len.ensures, c.args.self.now.lanes.ok.0)) _ report report false

pub returns-in_default-link : goal.returns-in_default-link
returns-in_default-link c =
    rw c.in-Server.is
    (writes_none _ the_server c.what_is_lent_goes_on.ensures c.args.self.now refl c.args.count (λ t h plays. sym c.in_default-link.is ∙ c.link-in-Server.ensures t h plays))

pub returns-then-at-len-2 : goal.returns-then-at-len-2
returns-then-at-len-2 c = λ report.
    never_past _ the_server c.facts_hold.ensures c.args.self.now c.in-Some-link.link (λ t h plays. sym c.in-Some-link.is ∙ c.link-in-Server.ensures t h plays)
    (omega (arith, c.if-at-len-2.true, c.len-in-Server.ensures, c.args.self.now.lanes.ok.0)) _ report report false

pub returns-else-at-len : goal.returns-else-at-len
returns-else-at-len c =
    rw c.in-Client.is
    (let new_lane = record (c.index_mut.result.now) { to_server = c.write.new.lane } in
    IfOk-weaker c.write.result _ _
    (writes _ the_client client_holds c.what_is_lent_goes_on.ensures c.writes_lend.ensures c.fed_is_lent.ensures c.args.self.now
    (record (c.args.self.now) { client = c.write.new.self; lanes = with_item c.args.self.now.lanes c.in-Some.link new_lane }) refl refl c.in-Some.link c.args.count
    c.most.result c.most.ensures c.index_mut.result.now new_lane (λ t h plays. sym c.in-Some.is ∙ c.link.ensures t h plays)
    (there c.args.self.now.lanes.items c.in-Some.link c.index_mut.result.now (omega (arith, c.if-at-len.false, c.len.ensures, c.args.self.now.lanes.ok.0))
    c.index_mut.ensures.value)
    refl refl refl)
    c.write.ensures)

pub returns-else-at-len-2 : goal.returns-else-at-len-2
returns-else-at-len-2 c =
    rw c.in-Server.is
    (let new_lane = record (c.index_mut-in-Server.result.now) { to_client = c.write-in-Server.new.lane } in
    IfOk-weaker c.write-in-Server.result _ _
    (writes _ the_server server_holds c.what_is_lent_goes_on.ensures c.writes_lend.ensures c.fed_is_lent.ensures c.args.self.now
    (record (c.args.self.now) { server = c.write-in-Server.new.self; lanes = with_item c.args.self.now.lanes c.in-Some-link.link new_lane }) refl refl c.in-Some-link.link c.args.count
    c.most-in-Server.result c.most-in-Server.ensures c.index_mut-in-Server.result.now new_lane (λ t h plays. sym c.in-Some-link.is ∙ c.link-in-Server.ensures t h plays)
    (there c.args.self.now.lanes.items c.in-Some-link.link c.index_mut-in-Server.result.now
    (omega (arith, c.if-at-len-2.false, c.len-in-Server.ensures, c.args.self.now.lanes.ok.0)) c.index_mut-in-Server.ensures.value)
    refl refl refl)
    c.write-in-Server.ensures)
