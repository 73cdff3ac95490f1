use Rattle.std.proofs.Common.{rules, [], ◌∷◌, sym}
use Rattle.std.specs.Str.{IsUtf8}
use Rattle.std.proofs.lemmas.List.{append-nil}
use Rattle.sr_client.proofs.Scripts.{line_passed, line_asks}
use Rattle.sr_client.proofs.script.Reader.add.Goals as goal

pub returns-then-is_passed_over-clause-ok : goal.returns-then-is_passed_over-clause-ok
returns-then-is_passed_over-clause-ok c =
    ([], (line_passed c.args.line.now (c.is_passed_over.ensures.0 c.if-is_passed_over.true), sym (append-nil c.args.self.now.orders.items)))

pub returns-clause-ok : goal.returns-clause-ok
returns-clause-ok c =
    let utf8 : IsUtf8 c.args.line.now = search rules in
    let found = rw c.in-Some.is at c.in_ok-order.ensures.found in
    (c.in-Some.order ∷ [], (line_asks c.args.line.now c.in-Some.order utf8 found, c.in_ok-keep.ensures.kept))
