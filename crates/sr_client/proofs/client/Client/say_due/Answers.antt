use Rattle.std.proofs.Common.{Some, refl, sym, ap, ◌∙◌}
use Rattle.hn_dialing.specs.Stands.{phase_of}
use Rattle.sr_client.proofs.Parts.{played}
use Rattle.sr_client.proofs.Saying.{not_up, says_message, says_none, says_nothing}
use Rattle.sr_client.proofs.client.Client.say_due.Goals as goal

pub returns-in_default : goal.returns-in_default
returns-in_default c = record {
  said = λ s b h x none empty.
      says_none s b c.args.self.now c.args.words.now h x none
      (λ lane up. absurd (not_up c.phase.result c.in_default.not-Stands lane (c.phase.ensures s.dialing _ x.standing.kept.dialed ∙ up)));
  others = refl;
  words = refl;
}

pub returns-then-branch-clause-said : goal.returns-then-branch-clause-said
returns-then-branch-clause-said c = λ s b h x none empty.
    let now = record c.args.words.now { lane = Some c.in-Stands.lane; message = c.say_all.new.out; text = c.is_text-words.result } in
    says_message s b c.args.self.now c.say_all.new.self c.in-Some.peer c.args.words.now now h c.in-Stands.lane x
    (sym (c.phase.ensures s.dialing _ x.standing.kept.dialed) ∙ ap phase_of c.in-Stands.is)
    (played _ c.args.self.now.peer c.in-Some.peer _ _ x.standing.plays c.in-Some.is) none empty c.in_ok-say_all.field-0 c.in_ok-say_all.ensures refl refl
    c.if-branch.true refl c.is_text-words.ensures

pub returns-else-branch-clause-said : goal.returns-else-branch-clause-said
returns-else-branch-clause-said c = λ s b h x none empty.
    let now = record c.args.words.now { message = c.say_all.new.out; text = c.is_text-words.result } in
    says_nothing s b c.args.self.now c.say_all.new.self c.in-Some.peer c.args.words.now now h c.in-Stands.lane x
    (sym (c.phase.ensures s.dialing _ x.standing.kept.dialed) ∙ ap phase_of c.in-Stands.is)
    (played _ c.args.self.now.peer c.in-Some.peer _ _ x.standing.plays c.in-Some.is) none empty c.in_ok-say_all.field-0 c.in_ok-say_all.ensures refl refl
    c.if-branch.false none
