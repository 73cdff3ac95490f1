use Rattle.std.proofs.lemmas.Result.{err_from_is_err_and}
use Rattle.hp_peer.specs.Calling.{upload_end}
use Rattle.hp_peer.proofs.Asked.{end_is_uploaded, end_is_unuploaded, unsaid_stays, unuploadable}
use Rattle.hp_peer.proofs.peer.Peer.upload_end.Goals as goal

pub returns-in_err-message-clause-refused : goal.returns-in_err-message-clause-refused
returns-in_err-message-clause-refused g c =
    let p = err_from_is_err_and c.from_residual.result c.from_residual.ensures.1 in
    rw (p.1, p.2) (λ t h s. unuploadable {H = g.row.H.Denot} _ t c.args.self.now h s c.tables_agree.ensures c.ids_are_of_a_side.ensures c.args.call c.args.which
    (upload_end c.args.error) _ (c.in_err-message.ensures.refused _ _ s.calls))

pub returns-in_err-say-clause-refused : goal.returns-in_err-say-clause-refused
returns-in_err-say-clause-refused g c =
    let p = err_from_is_err_and c.from_residual-in_err-say.result c.from_residual-in_err-say.ensures.1 in
    rw (p.1, p.2) (λ t h s. end_is_unuploaded {H = g.row.H.Denot} _ t c.args.self.now h s c.tables_agree.ensures c.ids_are_of_a_side.ensures c.args.call c.args.which
    c.args.error c.in_ok-message.message (c.in_ok-message.ensures.ok _ _ s.calls) _ c.in_err-say.ensures.refused)

pub returns-in_err-say-clause-unchanged : goal.returns-in_err-say-clause-unchanged
returns-in_err-say-clause-unchanged g c =
    let p = err_from_is_err_and c.from_residual-in_err-say.result c.from_residual-in_err-say.ensures.1 in
    rw p.1 (λ t h s. unsaid_stays {H = g.row.H.Denot} _ t c.args.self.now h s c.say.new.self c.say.ensures.others c.say.ensures.limits c.in_err-say.ensures.unchanged)

pub returns-clause-ok : goal.returns-clause-ok
returns-clause-ok g c = λ t h s.
    end_is_uploaded {H = g.row.H.Denot} _ t c.args.self.now h s c.tables_agree.ensures c.ids_are_of_a_side.ensures c.args.call c.args.which
    c.args.error c.in_ok-message.message (c.in_ok-message.ensures.ok _ _ s.calls) c.say.new.self c.say.ensures.others c.say.ensures.limits c.in_ok-say.ensures.ok
    c.upload_ended.new.self c.upload_ended.ensures.ended
