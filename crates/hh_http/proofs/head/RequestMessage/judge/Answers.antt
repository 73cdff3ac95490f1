use Rattle.std.proofs.Common.{subst, map, take, List, ℕ}
use Rattle.std.proofs.lemmas.Result.{err_from_is_err_and}
use Rattle.httparse.specs.Spans.{header_bytes}
use Rattle.hh_http.specs.Asks.{IsTaken}
use Rattle.hh_http.proofs.HeadFacts.{request-ok, request-err}
use Rattle.hh_http.proofs.head.RequestMessage.judge.Goals as goal

pub returns-in_err-accept : goal.returns-in_err-accept
returns-in_err-accept c =
    let p = err_from_is_err_and c.from_residual.result c.from_residual.ensures.1 in
    rw (p.1, p.2) (request-err c.args.held.now c.args.headers.now c.args.spans c.of.result.now _ c.requires.covered.1 c.requires.few c.of.ensures c.in_err-accept.ensures)

pub returns : goal.returns
returns c =
    let fields = map (header_bytes c.args.held.now) (take c.args.spans.headers c.args.headers.now) in
    request-ok c.args.held.now c.args.headers.now c.args.spans c.in_ok-message.message c.in_ok-accept.accept c.in_ok-accept.length c.expects_continue-expects.result c.requires.covered.1 c.requires.few
    c.in_ok-message.ensures.names c.in_ok-message.ensures.upgrade
    (subst (λ (m : List ℕ). IsTaken m c.args.spans.version fields c.in_ok-accept.accept c.in_ok-accept.length) c.of.ensures c.in_ok-accept.ensures)
    c.expects_continue-expects.ensures
