use Rattle.std.proofs.lemmas.Result.{IfOk-weaker, IfErr-weaker}
use Rattle.hp_peer.proofs.Notices.{isnt_notified, notified}
use Rattle.hp_peer.proofs.peer.Peer.send_spelled.Goals as goal

pub returns-clause-ok : goal.returns-clause-ok
returns-clause-ok g c = IfOk-weaker c.send_shared.result _ _
    (λ number sends t h s call notice. notified {H = g.row.H.Denot} _ t c.args.self.now h s (c.tables_agree.ensures t h).0 c.notices_pass.ensures c.args.message.now call notice
    c.send_shared.new.self number c.send_shared.ensures.limits sends)
    c.send_shared.ensures.ok

pub returns-clause-refused : goal.returns-clause-refused
returns-clause-refused g c = IfErr-weaker c.send_shared.result _ _
    (λ why refused t h s call notice. isnt_notified {H = g.row.H.Denot} _ t c.args.self.now h s (c.tables_agree.ensures t h).0 c.args.message.now call notice
    c.send_shared.new.self why refused)
    c.send_shared.ensures.refused
