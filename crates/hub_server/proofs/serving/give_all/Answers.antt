use Rattle.std.proofs.Common.{◌≡◌, [], ◌∷◌, ◌++◌, arith, refl, sym, ap, subst, ◌∙◌}
use Rattle.std.specs.Vec.Iter.{into_iter_items}
use Rattle.std.proofs.lemmas.Grind.{common_steps}
use Rattle.std.proofs.lemmas.List.{append_assoc}
use Rattle.hw_door.specs.DoorCalls.{to_say}
use Rattle.hd_server.specs.Serving.{all_answered, at_door}
use Rattle.hj_jobs.specs.Meaning.{meaning}
use Rattle.hub_server.specs.Serving.{GivesAll}
use Rattle.hub_server.specs.Words.{AreReplies}
use Rattle.hub_server.proofs.ServeRun.{failed_same, first_reply, gives_by, gives_more, gives_short, gives_start, later_replies}
use Rattle.hub_server.proofs.serving.give_all.Goals as goal

pub loop-word-init : goal.loop-word-init
loop-word-init g c = record {
  are = c.into_iter-word-iterator.ensures.into_iter_gives.0;
  replies = subst AreReplies (sym c.into_iter-word-iterator.ensures.into_iter_gives.0) c.requires;
  given =
      gives_start {H = g.row.H.Denot} {Job = g.row.H-Job.Denot} (meaning g.H.Hub.begin_of g.H.Hub.step_of) c.args.server.now
      (λ calls. g.D.Door.Goes c.args.door.now calls c.args.door.now) (g.met.D.Door.stays c.args.door.now);
  ended = refl;
  still = refl;
  unfailed = refl;
}

pub give-requires : goal.give-requires
give-requires g c =
    first_reply c.in-Some.word (into_iter_items c.next.new.self) (subst AreReplies c.in-Some.ensures.steps.0 c.loop-word.invariant.replies)

pub loop-word-preserved : goal.loop-word-preserved
loop-word-preserved g c = record {
  are =
      append_assoc c.loop-word.yielded (c.in-Some.word ∷ []) (into_iter_items c.next.new.self)
      ∙ ap (λ l. c.loop-word.yielded ++ l) (sym c.in-Some.ensures.steps.0) ∙ c.loop-word.invariant.are;
  replies = later_replies c.in-Some.word (into_iter_items c.next.new.self) (subst AreReplies c.in-Some.ensures.steps.0 c.loop-word.invariant.replies);
  given =
      gives_more {H = g.row.H.Denot} {Job = g.row.H-Job.Denot} (meaning g.H.Hub.begin_of g.H.Hub.step_of) c.args.server.now c.loop-word.server
      c.give.new.server (λ calls. g.D.Door.Goes c.args.door.now calls c.loop-word.door) (λ calls. g.D.Door.Goes c.loop-word.door calls c.give.new.door)
      (λ calls. g.D.Door.Goes c.args.door.now calls c.give.new.door) (g.met.D.Door.joins c.args.door.now c.loop-word.door c.give.new.door)
      c.loop-word.yielded (c.in-Some.word ∷ []) c.loop-word.invariant.given c.in_ok-give.ensures.given;
  ended = c.give.ensures.ended ∙ c.loop-word.invariant.ended;
  still = c.in_ok-give.ensures.others_unchanged ∙ c.loop-word.invariant.still;
  unfailed = c.in_ok-give.ensures.cause ∙ c.loop-word.invariant.unfailed;
}

pub returns-in_err-give-clause-given : goal.returns-in_err-give-clause-given
returns-in_err-give-clause-given g c =
    gives_by {H = g.row.H.Denot} {Job = g.row.H-Job.Denot} (meaning g.H.Hub.begin_of g.H.Hub.step_of) c.args.server.now c.give.new.server
    (λ calls. g.D.Door.Goes c.args.door.now calls c.give.new.door) c.args.words.items c.in_err-give.field-0.0 c.from_residual.result c.from_residual.ensures.1 (
      c.in_err-give.ensures.given.0,
      subst (λ l. GivesAll {H = g.row.H.Denot} (meaning g.H.Hub.begin_of g.H.Hub.step_of) c.args.server.now c.give.new.server
          (λ calls. g.D.Door.Goes c.args.door.now calls c.give.new.door) l (at_door (to_say c.in_err-give.ensures.given.0) c.in_err-give.field-0.0))
          (ap (λ l. c.loop-word.yielded ++ l) (sym c.in-Some.ensures.steps.0) ∙ c.loop-word.invariant.are)
          (gives_short {H = g.row.H.Denot} {Job = g.row.H-Job.Denot} (meaning g.H.Hub.begin_of g.H.Hub.step_of) c.args.server.now c.loop-word.server
          c.give.new.server (λ calls. g.D.Door.Goes c.args.door.now calls c.loop-word.door) (λ calls. g.D.Door.Goes c.loop-word.door calls c.give.new.door)
          (λ calls. g.D.Door.Goes c.args.door.now calls c.give.new.door) (g.met.D.Door.joins c.args.door.now c.loop-word.door c.give.new.door)
          c.loop-word.yielded (c.in-Some.word ∷ []) (into_iter_items c.next.new.self) c.in_err-give.ensures.given.0 c.in_err-give.field-0.0
          c.loop-word.invariant.given c.in_err-give.ensures.given.1),
    )

pub returns-in_err-give-clause-ended : goal.returns-in_err-give-clause-ended
returns-in_err-give-clause-ended g c = c.give.ensures.ended ∙ c.loop-word.invariant.ended

pub returns-in_err-give-clause-others_unchanged : goal.returns-in_err-give-clause-others_unchanged
returns-in_err-give-clause-others_unchanged g c = c.in_err-give.ensures.others_unchanged ∙ c.loop-word.invariant.still

pub returns-in_err-give-clause-cause : goal.returns-in_err-give-clause-cause
returns-in_err-give-clause-cause g c =
    failed_same (g.D.Door.faults c.args.door.now) (g.D.Door.faults c.loop-word.door) (g.D.Door.faults c.give.new.door) c.in_err-give.field-0.0
    c.from_residual.result c.loop-word.invariant.unfailed c.in_err-give.ensures.cause c.from_residual.ensures.1

pub returns-clause-given : goal.returns-clause-given
returns-clause-given g c =
    let all : c.loop-word.yielded ≡ c.args.words.items = grind (arith, common_steps) in
    subst (λ l. GivesAll {H = g.row.H.Denot} (meaning g.H.Hub.begin_of g.H.Hub.step_of) c.args.server.now c.loop-word.server
    (λ calls. g.D.Door.Goes c.args.door.now calls c.loop-word.door) l all_answered) all c.loop-word.invariant.given

pub returns-clause-ended : goal.returns-clause-ended
returns-clause-ended g c = c.loop-word.invariant.ended

pub returns-clause-others_unchanged : goal.returns-clause-others_unchanged
returns-clause-others_unchanged g c = c.loop-word.invariant.still

pub returns-clause-cause : goal.returns-clause-cause
returns-clause-cause g c = c.loop-word.invariant.unfailed
