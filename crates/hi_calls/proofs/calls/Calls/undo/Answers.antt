use Rattle.std.proofs.Common.{refl}
use Rattle.hi_calls.proofs.Begun.{undone_none, undone_drawn}
use Rattle.hi_calls.proofs.calls.Calls.undo.Goals as goal

pub returns-then-before-self-clause-undone : goal.returns-then-before-self-clause-undone
returns-then-before-self-clause-undone c = λ before prefix h k target arguments u n m s _ b.
    undone_none c.args.self.now _ before prefix h k target arguments u n c.in-Some.before m c.in-Some.is s b c.if-before-self.true refl refl refl refl

pub returns-clause-undone : goal.returns-clause-undone
returns-clause-undone c = λ before prefix h k target arguments u n m s _ b.
    let r = c.remove.ensures in
    undone_drawn c.args.self.now _ before prefix h k target arguments u n c.in-Some.before m c.in-Some.is s b c.if-before-self.false r.ids refl r.call r.calls_size r.uploads_end
