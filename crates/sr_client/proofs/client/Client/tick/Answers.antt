use Rattle.std.proofs.Common.{refl, sym, ◌∙◌}
use Rattle.sr_client.proofs.Lanes.{works_silenced}
use Rattle.sr_client.proofs.Parts.{played}
use Rattle.sr_client.proofs.client.Client.tick.Goals as goal

pub returns-then-branch-clause-ticked : goal.returns-then-branch-clause-ticked
returns-then-branch-clause-ticked c = λ s b h x open_yet at.
    let has = played _ c.args.self.now.peer c.in-Some.peer _ _ x.standing.plays c.in-Some.is in
    works_silenced s b c.args.self.now c.tick.new.self c.in-Some.peer c.args.words.now (record c.args.words.now { printed = c.tick.new.out }) h
    c.args.now c.in_ok-tick.field-0 x open_yet at has
    (sym (c.is_attached.ensures has.settings _ has.plays) ∙ c.if-is_attached.true) c.in_ok-tick.ensures refl refl
    c.drop_lane-words.new.self c.drop_lane-words.result c.if-branch.true (c.drop_lane-words.ensures.dropped, c.drop_lane-words.ensures.lane)
