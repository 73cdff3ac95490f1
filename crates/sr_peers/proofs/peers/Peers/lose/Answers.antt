use Rattle.std.proofs.Common.{refl, sym, subst}
use Rattle.sr_script.specs.declared.action.Action.TheVariants.{Lose}
use Rattle.sr_peers.specs.Follows.{GoesOn, IsLeft}
use Rattle.sr_peers.proofs.Seats.{the_client, the_server}
use Rattle.sr_peers.proofs.Leaving.{loses}
use Rattle.sr_peers.proofs.peers.Peers.lose.Goals as goal

pub returns-in_ok-lose-in-Client : goal.returns-in_ok-lose-in-Client
returns-in_ok-lose-in-Client c =
    let new = record (c.args.self.now) { client = c.lose.new.self; lanes = c.leave.new.lanes } in
    let left = subst (λ side. IsLeft side c.link-left.result c.args.self.now.lanes.items c.leave.new.lanes.items) c.in-Client.is c.leave.ensures in
    subst (λ side. GoesOn c.args.self.now (Lose side) new c.args.report.now.items c.lose.new.report.items) (sym c.in-Client.is)
    (loses _ the_client c.what_is_lent_goes_on.ensures c.args.self.now new refl c.args.report.now.items c.lose.new.report.items c.link-left.result c.link-left.ensures refl left
    c.in_ok-lose-in-Client.ensures)

pub returns-in_ok-lose-in-Server : goal.returns-in_ok-lose-in-Server
returns-in_ok-lose-in-Server c =
    let new = record (c.args.self.now) { server = c.lose-in-Server.new.self; lanes = c.leave-in-Server.new.lanes } in
    let left = subst (λ side. IsLeft side c.link-left-in-Server.result c.args.self.now.lanes.items c.leave-in-Server.new.lanes.items) c.in-Server.is c.leave-in-Server.ensures in
    subst (λ side. GoesOn c.args.self.now (Lose side) new c.args.report.now.items c.lose-in-Server.new.report.items) (sym c.in-Server.is)
    (loses _ the_server c.what_is_lent_goes_on.ensures c.args.self.now new refl c.args.report.now.items c.lose-in-Server.new.report.items c.link-left-in-Server.result
    c.link-left-in-Server.ensures refl left c.in_ok-lose-in-Server.ensures)
