use Rattle.std.proofs.lemmas.Result.{err_from_is_err_and}
use Rattle.hh_http.proofs.HeadFacts.{response-ok, response-err}
use Rattle.hh_http.proofs.response.ResponseMessage.judge.Goals as goal

pub returns-in_err-length : goal.returns-in_err-length
returns-in_err-length c =
    let p = err_from_is_err_and c.from_residual.result c.from_residual.ensures.1 in
    rw (p.1, p.2) (response-err c.args.held.now c.args.headers.now c.args.spans _ c.requires.covered.1 c.requires.few c.in_err-length.ensures)

pub returns : goal.returns
returns c =
    response-ok c.args.held.now c.args.headers.now c.args.spans c.in_ok-message.message c.in_ok-length.length c.requires.covered.1 c.requires.few
    c.in_ok-message.ensures c.in_ok-length.ensures
