use Rattle.std.proofs.Common.{◌≡◌, List, [], ◌∷◌, ◌++◌, length, None, Some, ◌∙◌, ap, subst, arith}
use Rattle.hd_server.specs.Plans.{onto}
use Rattle.hd_client.specs.declared.order.Order.{Order}
use Rattle.hd_client.specs.Events.{passed}
use Rattle.hd_client.specs.Plans.{next_line}
use Rattle.sr_client.proofs.LinesDone.{all_done, get_past, none_left, one_more}
use Rattle.sr_client.proofs.client.Client.obey_all.Goals as goal

pub returns-then-not-branch-clause-obeyed : goal.returns-then-not-branch-clause-obeyed
returns-then-not-branch-clause-obeyed c = λ s b h working.
    let done = c.loop-self.invariant.done s b h working in
    let none = rw c.if-not-branch.true at (c.in_ok-obey_next.ensures.obeyed s b done.1.after done.1.working) in (
      done.0,
      record {
        after = done.1.after;
        holds = all_done s c.args.self.now.script done.0 h done.1.after done.1.holds
            (subst (λ x. next_line s x done.1.after ≡ None) c.loop-self.invariant.script none.0);
        working = none.1;
      },
    )

pub loop-self-preserved : goal.loop-self-preserved
loop-self-preserved c =
    let others = c.in_ok-obey_next.ensures.others in
    record {
      done = λ s b h working.
          let done = c.loop-self.invariant.done s b h working in
          let some = rw c.if-not-branch.false at (c.in_ok-obey_next.ensures.obeyed s b done.1.after done.1.working) in (
            done.0 ++ some.0 ∷ [],
            record {
              after = onto some.0 done.1.after;
              holds = one_more s c.args.self.now.script done.0 h done.1.after some.0 done.1.holds
                  (subst (λ x. next_line s x done.1.after ≡ Some some.0) c.loop-self.invariant.script some.1);
              working = some.2;
            },
          );
      script = others.0 ∙ c.loop-self.invariant.script;
      ended = others.1 ∙ c.loop-self.invariant.ended;
      lane = others.2 ∙ c.loop-self.invariant.lane;
      message = others.3 ∙ c.loop-self.invariant.message;
    }

pub returns-clause-obeyed : goal.returns-clause-obeyed
returns-clause-obeyed c = λ s b h working.
    let done = c.loop-self.invariant.done s b h working in
    let value : c.orders.result.now ≡ c.loop-self.self.script = c.orders.ensures.value in
    let long = ap (λ (xs : List Order). length xs) value in
    let none = none_left s c.loop-self.self.script done.1.after
    (get_past c.loop-self.self.script (passed done.1.after) (omega (arith, c.loop-self-test.false, long, done.1.working.standing.kept.passed))) in (
      done.0,
      record {
        after = done.1.after;
        holds = all_done s c.args.self.now.script done.0 h done.1.after done.1.holds
            (subst (λ x. next_line s x done.1.after ≡ None) c.loop-self.invariant.script none);
        working = done.1.working;
      },
    )
