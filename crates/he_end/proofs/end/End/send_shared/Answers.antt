use Rattle.std.proofs.lemmas.Result.{err_from_is_err_and}
use Rattle.he_end.proofs.end.End.send_shared.Goals as goal

pub returns-in_err-may_send-clause-refused : goal.returns-in_err-may_send-clause-refused
returns-in_err-may_send-clause-refused c =
    let p = err_from_is_err_and c.from_residual.result c.from_residual.ensures.1 in
    rw (p.1, p.2) (c.in_err-may_send.ensures.refused c.args.message.now)
