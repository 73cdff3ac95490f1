use Rattle.std.proofs.lemmas.Result.{err_from_is_err_and}
use Rattle.hi_calls.proofs.Begun.{begins}
use Rattle.hi_calls.proofs.calls.Calls.begin.Goals as goal

pub returns-in_err-number-clause-refused : goal.returns-in_err-number-clause-refused
returns-in_err-number-clause-refused c =
    let p = err_from_is_err_and c.from_residual.result c.from_residual.ensures.1 in
    rw (p.1, p.2) (λ prefix h s. c.in_err-number.ensures.refused prefix h s c.args.target c.args.arguments)

pub returns-clause-ok : goal.returns-clause-ok
returns-clause-ok c = λ prefix h s.
    begins c.args.self.now c.make_room.new.self c.enter.new.self prefix h c.args.kind c.args.target c.args.arguments c.args.uploads c.in_ok-number.number c.in_ok-message.message
    s c.requires.few (c.in_ok-number.ensures.ok prefix h s) c.in_ok-number.ensures.within (c.in_ok-number.ensures.place prefix h s c.args.target c.args.arguments)
    c.in_ok-message.ensures.says c.in_ok-make_room.ensures.same c.enter.ensures
