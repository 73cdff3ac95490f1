use Rattle.std.proofs.Common.{◌≡◌, ◌++◌}
use Rattle.std.specs.Vec.Iter.{into_iter_items}
use Rattle.hd_server.specs.Serving.{all_answered}
use Rattle.hj_jobs.specs.Meaning.{meaning}
use Rattle.hub_server.specs.Serving.{GivesAll}
use Rattle.hub_server.specs.Words.{AreReplies}
use Rattle.hub_server.proofs.serving.give_all.Given as goal

abbrev pub invariant-loop-word : goal.invariant-loop-word
invariant-loop-word g l = record {
  are : l.yielded ++ into_iter_items l.word-iterator ≡ l.fn.words.items;
  replies : AreReplies (into_iter_items l.word-iterator);
  given : GivesAll {H = g.row.H.Denot} (meaning g.H.Hub.begin_of g.H.Hub.step_of) l.fn.server l.server
      (λ calls. g.D.Door.Goes l.fn.door calls l.door) l.yielded all_answered;
  ended : l.server.is_ended ≡ l.fn.server.is_ended;
  still : g.D.Door.moment l.door ≡ g.D.Door.moment l.fn.door;
  unfailed : g.D.Door.faults l.door ≡ g.D.Door.faults l.fn.door;
}
