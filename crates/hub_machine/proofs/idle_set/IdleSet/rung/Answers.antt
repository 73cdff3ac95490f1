use Rattle.std.proofs.Common.{ℕ, List, sym, subst}
use Rattle.std.specs.Map.Iter.{deref}
use Rattle.std.proofs.lemmas.Map.Iter.{rest_more}
use Rattle.hub_machine.proofs.Deadlines.{RungSoFar, all_rung_before, one_rung}
use Rattle.hub_machine.proofs.idle_set.IdleSet.rung.Goals as goal

pub loop-deadline-preserved : goal.loop-deadline-preserved
loop-deadline-preserved c =
    let left = rest_more deref c.loop-deadline.deadline-iterator c.next.new.self c.next.result c.in-Some.deadline c.in-Some.is c.next.ensures.steps in
    subst (λ conns. RungSoFar c.args.self.now c.args.now conns c.next.new.self) (sym {A = List ℕ} c.in_ok-push.ensures.items)
    (one_rung c.args.self.now c.args.now c.loop-deadline.conns.items c.in-Some.deadline.now c.next.new.self
    (subst (λ rest. RungSoFar c.args.self.now c.args.now c.loop-deadline.conns.items rest) left c.loop-deadline.invariant)
    c.if-deadline-now.false)

pub returns-then-deadline-now : goal.returns-then-deadline-now
returns-then-deadline-now c =
    let left = rest_more deref c.loop-deadline.deadline-iterator c.next.new.self c.next.result c.in-Some.deadline c.in-Some.is c.next.ensures.steps in
    all_rung_before c.args.self.now c.loop-deadline.conns.items c.in-Some.deadline.now c.next.new.self c.args.now
    (subst (λ rest. RungSoFar c.args.self.now c.args.now c.loop-deadline.conns.items rest) left c.loop-deadline.invariant)
    c.if-deadline-now.true
