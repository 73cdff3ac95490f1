use Rattle.std.proofs.Common.{ap, refl, sym, ◌∙◌}
use Rattle.hm_message.specs.declared.message.Ending.TheVariants.{Error}
use Rattle.hd_calls.specs.declared.vocabulary.Act.TheVariants as act
use Rattle.hp_peer.proofs.JobAsks.{made_with, refused_with, unchanged}
use Rattle.hp_peer.proofs.JobMoves.{same_moves}
use Rattle.hp_peer.proofs.peer.Peer.ask.Goals as goal

pub returns-in-Ok-clause-ok : goal.returns-in-Ok-clause-ok
returns-in-Ok-clause-ok g c = λ is now t h half.
    let stands = same_moves {H = g.row.H.Denot} _ t h c.args.self.now half.stands (record c.args.self.now { jobs_by_call = c.reserve.new.self }) refl half.stands.end refl refl refl refl
    (unchanged c.args.self.now.jobs_by_call c.reserve.new.self c.reserve.ensures.entries) in
    made_with {H = g.row.H.Denot} _ c.ids_are_of_a_side.ensures t h (c.tables_agree.ensures t h).0 (c.tables_agree.ensures t h).1 c.args.self.now now c.args.stepped.now half
    c.in_ok-target.target c.in_ok-arguments.arguments (is ∙ sym (λ i. act.Ask (c.in_ok-target.ensures i) (c.in_ok-arguments.ensures i)))
    c.call.new.self c.note_asker.new.self c.in-Ok.number _ (c.in-Ok.ensures.ok t h stands)
    (ap (λ p. p.jobs) c.call.ensures.others) c.note_asker.ensures.others c.note_asker.ensures.noted c.commit.ensures.turned

pub returns-else-not-is_refusal-clause-ok : goal.returns-else-not-is_refusal-clause-ok
returns-else-not-is_refusal-clause-ok g c = λ is now t h half.
    let stands = same_moves {H = g.row.H.Denot} _ t h c.args.self.now half.stands (record c.args.self.now { jobs_by_call = c.reserve.new.self }) refl half.stands.end refl refl refl refl
    (unchanged c.args.self.now.jobs_by_call c.reserve.new.self c.reserve.ensures.entries) in
    refused_with {H = g.row.H.Denot} _ c.ids_are_of_a_side.ensures t h (c.tables_agree.ensures t h).0 (c.tables_agree.ensures t h).1 c.args.self.now now c.args.stepped.now half
    c.in_ok-target.target c.in_ok-arguments.arguments (is ∙ sym (λ i. act.Ask (c.in_ok-target.ensures i) (c.in_ok-arguments.ensures i)))
    c.call.new.self c.commit-in-Err.new.self _ (c.in-Err.ensures.unchanged t h stands) c.in-Err.error (sym c.is_refusal.ensures ∙ c.if-not-is_refusal.false)
    (c.in-Err.ensures.refused t h stands) (ap (λ p. p.jobs) c.call.ensures.others) c.commit-in-Err.ensures.turned
    (Error c.in_ok-of.field-0) (ap Error c.in_ok-of.ensures) c.answer-answered.result c.answer-answered.ensures.ok c.answer-answered.ensures.unknown
