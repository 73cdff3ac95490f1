use Rattle.std.proofs.Common.{sym, ap, ◌∙◌}
use Rattle.hf_split.specs.declared.framing.Framing.TheVariants.{Record}
use Rattle.hf_split.specs.Cuts.{Spelled, always}
use Rattle.hf_split.specs.Held.{Held}
use Rattle.split_bench.specs.Counts.{IsCounted}
use Rattle.split_bench.proofs.Counting.{counted_past}
use Rattle.split_bench.proofs.tally.add_frames.Goals as goal

pub loop-frame-preserved : goal.loop-frame-preserved
loop-frame-preserved c =
    let found = rw c.in-Some.is at c.in_ok-frame.ensures.lent in
    let item : Spelled = record { spelling = found.1.0; frame = c.in-Some.frame.now } in
    record {
      framing = ap (λ (h : Held). h.framing) (c.pass.ensures.past item found.1.1) ∙ c.loop-frame.invariant.framing;
      counted = λ most stream begun.
          let at : IsCounted most c.loop-frame.splitter c.loop-frame.tally stream = c.loop-frame.invariant.counted most stream begun in
          counted_past most stream c.loop-frame.splitter c.pass.new.self c.loop-frame.tally c.saturating_add-tally.result c.saturating_add-tally-in-Some.result item at
          (c.pass.ensures.past item found.1.1)
          (c.pass.ensures.stands (always Record) stream at.passed item at.stands (sym at.framing) found.1.1)
          c.saturating_add-tally.ensures c.saturating_add-tally-in-Some.ensures;
    }
