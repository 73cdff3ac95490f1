use Rattle.std.proofs.Common.{◌++◌, ◌-◌, [], refl, ap, ◌∙◌, ℕ, List, length, take, drop}
use Rattle.hf_split.specs.declared.framing.Framing.TheVariants.{Record}
use Rattle.hf_split.specs.Cuts.{always}
use Rattle.hf_split.specs.Held.{Held}
use Rattle.split_bench.specs.Counts.{IsCounted}
use Rattle.split_bench.proofs.Counting.{counted_fed, counted_front, split_more}
use Rattle.split_bench.proofs.tally.add_piece.Goals as goal

pub loop-left-init : goal.loop-left-init
loop-left-init c = record {
  framing = c.add_frames.ensures.framing;
  waiting = c.in_ok-add_frames.ensures.waiting;
  room = c.in_ok-add_frames.ensures.room;
  counted = λ most stream begun. ([], refl, counted_front most stream c.add_frames.new.splitter c.add_frames.new.tally (c.add_frames.ensures.counted most stream begun));
}

pub loop-left-preserved : goal.loop-left-preserved
loop-left-preserved c = record {
  framing = c.add_frames-in-loop-left.ensures.framing ∙ ap (λ (h : Held). h.framing) c.feed-fed.ensures.fed ∙ c.loop-left.invariant.framing;
  waiting = c.in_ok-add_frames-2.ensures.waiting;
  room = c.in_ok-add_frames-2.ensures.room;
  counted = λ most stream begun.
      let before = c.loop-left.invariant.counted most stream begun in
      let at : IsCounted most c.loop-left.splitter c.loop-left.tally (stream ++ before.0) = before.2 in
      let piece : List ℕ = take c.feed-fed.result c.loop-left.left.now in (
        before.0 ++ piece,
        split_more c.args.piece.now before.0 c.loop-left.left.now c.feed-fed.result before.1,
        c.add_frames-in-loop-left.ensures.counted most (stream ++ (before.0 ++ piece))
            (counted_fed most stream before.0 piece c.loop-left.splitter c.feed-fed.new.self c.loop-left.tally at c.feed-fed.ensures.fed
            (c.feed-fed.ensures.stands (always Record) (stream ++ before.0) at.passed at.stands)),
      );
}

pub returns-in_err-add_frames-2-clause-counted_front :
    goal.returns-in_err-add_frames-2-clause-counted_front
returns-in_err-add_frames-2-clause-counted_front c = λ most stream begun.
    let before = c.loop-left.invariant.counted most stream begun in
    let at : IsCounted most c.loop-left.splitter c.loop-left.tally (stream ++ before.0) = before.2 in
    let piece : List ℕ = take c.feed-fed.result c.loop-left.left.now in (
      before.0 ++ piece,
      take (length c.loop-left.left.now - c.feed-fed.result) (drop c.feed-fed.result c.loop-left.left.now),
      split_more c.args.piece.now before.0 c.loop-left.left.now c.feed-fed.result before.1,
      c.add_frames-in-loop-left.ensures.counted most (stream ++ (before.0 ++ piece))
          (counted_fed most stream before.0 piece c.loop-left.splitter c.feed-fed.new.self c.loop-left.tally at c.feed-fed.ensures.fed
          (c.feed-fed.ensures.stands (always Record) (stream ++ before.0) at.passed at.stands)),
    )

pub returns-clause-counted_front : goal.returns-clause-counted_front
returns-clause-counted_front c = λ most stream begun.
    let before = c.loop-left.invariant.counted most stream begun in
    (before.0, c.loop-left.left.now, before.1, before.2)
