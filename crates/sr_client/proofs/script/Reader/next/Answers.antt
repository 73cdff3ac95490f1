use Rattle.std.proofs.Common.{◌≡◌, ◌+◌, arith, drop, length-drop}
use Rattle.std.proofs.lemmas.Result.{err_from_is_err_and}
use Rattle.std.proofs.lemmas.List.{take_rest}
use Rattle.sr_script.specs.Reading.{IsLineEnd}
use Rattle.sr_client.proofs.Parsing.{place_after, read_more, refused_past, refused_add}
use Rattle.sr_client.proofs.script.Reader.next.Goals as goal

pub returns-then-after-gt-MOST_SCRIPT-clause-refused :
    goal.returns-then-after-gt-MOST_SCRIPT-clause-refused
returns-then-after-gt-MOST_SCRIPT-clause-refused c =
    let end : IsLineEnd (drop c.args.self.now.at c.args.text.now) c.line_end-end.result = rw take_rest at c.line_end-end.ensures in
    refused_past c.lines_are_cut.ensures c.args.text.now c.line_end-end.result c.args.self.now (omega arith) end
    (omega (arith, c.min.ensures, length-drop c.args.self.now.at c.args.text.now)) c.requires

pub returns-in_err-add-clause-refused : goal.returns-in_err-add-clause-refused
returns-in_err-add-clause-refused c =
    let q = err_from_is_err_and c.from_residual.result c.from_residual.ensures.1 in
    let end : IsLineEnd (drop c.args.self.now.at c.args.text.now) c.line_end-end.result = rw take_rest at c.line_end-end.ensures in
    rw (q.1, q.2) (refused_add c.lines_are_cut.ensures c.args.text.now c.line_end-end.result c.args.self.now (omega arith) end c.in_err-add.field-0.0
    (rw take_rest at c.in_err-add.ensures.refused) c.requires)

pub returns-clause-more : goal.returns-clause-more
returns-clause-more c = λ yes.
    let end : IsLineEnd (drop c.args.self.now.at c.args.text.now) c.line_end-end.result = rw take_rest at c.line_end-end.ensures in
    let ok = rw take_rest at c.in_ok-add.ensures.ok in
    let place : c.args.self.now.at + c.min.result ≡ place_after c.args.text.now c.args.self.now.at c.line_end-end.result =
    omega (arith, c.min.ensures, length-drop c.args.self.now.at c.args.text.now) in
    read_more c.lines_are_cut.ensures c.args.text.now c.line_end-end.result c.args.self.now (omega arith) end _ ok.0 place (omega arith)
    (omega (arith, c.in_ok-add.ensures.place.1)) ok.1.1 ok.1.0 c.requires
