use Rattle.std.proofs.Common.{◌∙◌, [], ap, subst}
use Rattle.hm_message.specs.declared.message.Message.TheVariants.{Completion}
use Rattle.hm_message.specs.declared.message.Ending.TheVariants.{Error}
use Rattle.hp_peer.specs.Turning.{IsSaid}
use Rattle.hp_peer.proofs.JobSaid.{worded}
use Rattle.hp_peer.proofs.peer.Peer.say_answer.Goals as goal

pub returns-clause-ok : goal.returns-clause-ok
returns-clause-ok g c = λ t h s.
    let unsaid =
    subst (λ b. IsSaid {H = g.row.H.Denot} {Job = g.row.H-Job.Denot} t h c.say_short.new.self c.args.answer.now b) c.if-branch.false (c.in_ok-say_short.ensures.ok t h s) in
    worded {H = g.row.H.Denot} _ t h c.args.self.now s c.say_short.new.self c.say_short.ensures.others c.say_short.ensures.limits c.say_short-2.new.self c.args.answer.now unsaid
    c.args.id.now c.in_ok-word.word (c.in_ok-word.ensures ∙ ap (λ x. Completion [] c.args.id.now (Error x)) c.in_ok-of.ensures)
    c.in_ok-say_short-2.field-0 c.in_ok-say_short-2.ensures.ok
