use Rattle.std.proofs.Common.{sym, subst}
use Rattle.hp_peer.specs.Turning.{IsAnswered}
use Rattle.hp_peer.proofs.JobActs.{item_sent, item_unsent, unstreamed_item}
use Rattle.hp_peer.proofs.peer.Peer.say_item.Goals as goal

pub returns-in_default-clause-ok : goal.returns-in_default-clause-ok
returns-in_default-clause-ok g c = λ is now t h half.
    unstreamed_item {H = g.row.H.Denot} _ t h (c.tables_agree.ensures t h).1 c.args.self.now now c.args.stepped.now half c.args.value.now is (sym c.in_default.ensures)
    c.commit.new.self c.commit.ensures.turned

pub returns-then-branch-clause-ok : goal.returns-then-branch-clause-ok
returns-then-branch-clause-ok g c = λ is now t h half.
    item_sent {H = g.row.H.Denot} _ t h (c.tables_agree.ensures t h).1 c.args.self.now now c.args.stepped.now half
    c.say_answer.new.self c.say_answer.ensures.others c.say_answer.ensures.limits c.commit-then-branch.new.self c.commit-then-branch.ensures.turned
    c.args.value.now is c.in-Some.id.now (sym c.in-Some.ensures) c.in_ok-message.message c.in_ok-message.ensures
    (subst (λ b. IsAnswered {H = g.row.H.Denot} {Job = g.row.H-Job.Denot} t h c.say_answer.new.self c.in-Some.id.now c.in_ok-message.message b) c.if-branch.true
    (c.in_ok-say_answer.ensures.ok t h half.stands))

pub returns-clause-ok : goal.returns-clause-ok
returns-clause-ok g c = λ is now t h half.
    item_unsent {H = g.row.H.Denot} _ t h (c.tables_agree.ensures t h).1 c.args.self.now now c.args.stepped.now half
    c.say_answer.new.self c.say_answer.ensures.others c.say_answer.ensures.limits c.commit-2.new.self c.commit-2.ensures.turned
    c.args.value.now is c.in-Some.id.now (sym c.in-Some.ensures) c.in_ok-message.message c.in_ok-message.ensures
    (subst (λ b. IsAnswered {H = g.row.H.Denot} {Job = g.row.H-Job.Denot} t h c.say_answer.new.self c.in-Some.id.now c.in_ok-message.message b) c.if-branch.false
    (c.in_ok-say_answer.ensures.ok t h half.stands))
    c.end.new.self c.end.ensures.ended
