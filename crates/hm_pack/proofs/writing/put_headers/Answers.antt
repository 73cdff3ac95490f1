use Rattle.std.proofs.Common.{append_assoc}
use Rattle.std.proofs.lemmas.List.{take_all, take_more}
use Rattle.hm_pack.proofs.Written.{headers_text_push, headers_writable_push, headers_count, headers_in_order}
use Rattle.hm_pack.proofs.writing.put_headers.Goals as goal

pub loop-key-preserved : goal.loop-key-preserved
loop-key-preserved c =
    let more = take_more c.pairs-pairs.result.now c.loop-key.key-index c.loop-key-item.result c.loop-key-test.true in
    record {
      text = rw (c.in_ok-put_text-2.ensures.ok, c.in_ok-put_text.ensures.ok, c.loop-key.invariant.text, more, ← c.loop-key-item.is, headers_text_push) (simp append_assoc);
      fits = rw (more, ← c.loop-key-item.is) (headers_writable_push _ _ c.loop-key.invariant.fits c.in_ok-put_text.ensures.fits c.in_ok-put_text.ensures.utf8 c.in_ok-put_text-2.ensures.fits c.in_ok-put_text-2.ensures.utf8);
    }

pub returns-clause-ok : goal.returns-clause-ok
returns-clause-ok c =
    let all = take_all c.loop-key.key-index c.pairs-pairs.result.now c.loop-key-test.false in
    let text = rw all at c.loop-key.invariant.text in
    rw (headers_count, ← c.pairs-pairs.ensures.pairs) text

pub returns-clause-fits : goal.returns-clause-fits
returns-clause-fits c =
    let all = take_all c.loop-key.key-index c.pairs-pairs.result.now c.loop-key-test.false in
    let fits = rw all at c.loop-key.invariant.fits in
    rw (headers_count, ← c.pairs-pairs.ensures.pairs) (c.in_ok-put_map_head.ensures.fits, fits)

pub returns-clause-in_order : goal.returns-clause-in_order
returns-clause-in_order c = headers_in_order c.map_has_the_keys.ensures c.args.headers.now c.pairs-pairs.ensures.in_order
