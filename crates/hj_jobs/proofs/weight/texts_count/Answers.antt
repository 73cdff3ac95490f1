use Rattle.std.proofs.lemmas.List.{take_more}
use Rattle.hj_jobs.proofs.Weighing.{counted_both, ids_push}
use Rattle.hj_jobs.proofs.weight.texts_count.Goals as goal

pub loop-text-preserved : goal.loop-text-preserved
loop-text-preserved c =
    let more = take_more c.args.texts.now c.loop-text.text-index c.text-item.result c.loop-text-test.true in
    rw (c.sum-total.ensures, c.text_count.ensures, c.loop-text.invariant, more, ← c.text-item.is, ids_push) (counted_both _ _)
