use Rattle.std.proofs.Common.{◌∙◌, [], ap}
use Rattle.hm_message.specs.declared.message.Message.TheVariants.{Completion}
use Rattle.hp_peer.proofs.JobActs.{ending_carried, unanswered_ending}
use Rattle.hp_peer.proofs.peer.Peer.say_ending.Goals as goal

pub returns-in_default-clause-ok : goal.returns-in_default-clause-ok
returns-in_default-clause-ok g c = λ is now t h half.
    unanswered_ending {H = g.row.H.Denot} _ t h (c.tables_agree.ensures t h).1 c.args.self.now now c.args.stepped.now half c.args.ending.now is c.in_default.is
    c.commit.new.self c.commit.ensures.turned

pub returns-clause-ok : goal.returns-clause-ok
returns-clause-ok g c = λ is now t h half.
    ending_carried {H = g.row.H.Denot} _ t h (c.tables_agree.ensures t h).1 c.args.self.now now c.args.stepped.now half
    c.say_answer.new.self c.say_answer.ensures.others c.say_answer.ensures.limits c.commit-2.new.self c.commit-2.ensures.turned
    c.args.ending.now is c.in-Some.id c.in-Some.is c.in_ok-message.message (c.in_ok-message.ensures ∙ ap (λ x. Completion [] c.in-Some.id x) c.in_ok-copy.ensures)
    c.in_ok-say_answer.field-0 (c.in_ok-say_answer.ensures.ok t h half.stands)
