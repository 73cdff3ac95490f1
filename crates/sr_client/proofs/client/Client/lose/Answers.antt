use Rattle.std.proofs.Common.{Some, refl}
use Rattle.sr_client.proofs.LinesDone.{link_lost}
use Rattle.sr_client.proofs.client.Client.lose.Goals as goal

pub returns-then-branch-clause-lost : goal.returns-then-branch-clause-lost
returns-then-branch-clause-lost c = λ s b h t working unended begun.
    link_lost s b c.args.self.now (record c.args.self.now { connection = c.drop_lane-words.new.self; peer = Some c.detach.new.self })
    c.args.words.now (record c.args.words.now { shut = c.drop_lane-words.result; printed = c.detach.new.out }) h t c.in-Some.peer c.detach.new.self c.moment-now.result
    c.in_ok-detach.field-0 working unended begun c.in-Some.is c.moment-now.ensures c.in_ok-detach.ensures c.if-branch.true c.drop_lane-words.ensures.dropped c.drop_lane-words.ensures.lane refl refl
