use Rattle.std.proofs.lemmas.Result.{err_from_is_err_and, IfErr-weaker, on_err_weaker, on_ok_weaker}
use Rattle.hp_peer.proofs.Asked.{cancels, uncancellable, uncancelled, unsaid_stays}
use Rattle.hp_peer.proofs.peer.Peer.cancel.Goals as goal

pub returns-in_err-message-clause-refused : goal.returns-in_err-message-clause-refused
returns-in_err-message-clause-refused g c =
    let p = err_from_is_err_and c.from_residual.result c.from_residual.ensures.1 in
    rw (p.1, p.2) (λ t h s. uncancellable {H = g.row.H.Denot} _ t c.args.self.now h s c.tables_agree.ensures c.ids_are_of_a_side.ensures c.args.call _
    (c.in_err-message.ensures.refused _ _ s.calls))

pub returns-clause-ok : goal.returns-clause-ok
returns-clause-ok g c = on_ok_weaker c.say.result
    (λ said t h s. cancels {H = g.row.H.Denot} _ t c.args.self.now h s c.tables_agree.ensures c.ids_are_of_a_side.ensures c.args.call c.in_ok-message.message
    (c.in_ok-message.ensures.ok _ _ s.calls) c.say.new.self c.say.ensures.others c.say.ensures.limits said)
    c.say.ensures.ok

pub returns-clause-refused : goal.returns-clause-refused
returns-clause-refused g c = IfErr-weaker c.say.result _ _
    (λ e why t h s. uncancelled {H = g.row.H.Denot} _ t c.args.self.now h s c.tables_agree.ensures c.ids_are_of_a_side.ensures c.args.call c.in_ok-message.message
    (c.in_ok-message.ensures.ok _ _ s.calls) e why)
    c.say.ensures.refused

pub returns-clause-unchanged : goal.returns-clause-unchanged
returns-clause-unchanged g c = on_err_weaker c.say.result
    (λ stays t h s. unsaid_stays {H = g.row.H.Denot} _ t c.args.self.now h s c.say.new.self c.say.ensures.others c.say.ensures.limits stays)
    c.say.ensures.unchanged
