use Rattle.std.proofs.lemmas.Result.{err_from_is_err_and, IfOk-weaker, IfErr-weaker}
use Rattle.he_end.proofs.end.End.send.Goals as goal

pub returns-in_err-may_send-clause-refused : goal.returns-in_err-may_send-clause-refused
returns-in_err-may_send-clause-refused c =
    let p = err_from_is_err_and c.from_residual.result c.from_residual.ensures.1 in
    rw (p.1, p.2) (c.in_err-may_send.ensures.refused c.args.message.now)

pub push-requires-clause-spelled : goal.push-requires-clause-spelled
push-requires-clause-spelled c = (c.args.message.now, c.in_ok-frame.ensures)

pub returns-clause-ok : goal.returns-clause-ok
returns-clause-ok c = IfOk-weaker c.push.result _ _ (λ number each. each c.args.message.now c.requires.sequenced c.requires.fits c.in_ok-frame.ensures) c.push.ensures.ok

pub returns-clause-refused : goal.returns-clause-refused
returns-clause-refused c = IfErr-weaker c.push.result _ _ (λ why each. each c.args.message.now c.in_ok-frame.ensures) c.push.ensures.refused
