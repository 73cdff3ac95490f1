use Rattle.std.proofs.Common.{append_assoc}
use Rattle.std.proofs.lemmas.List.{take_all, take_more}
use Rattle.hm_pack.proofs.Written.{texts_text_push, texts_writable_push, texts_count}
use Rattle.hm_pack.proofs.writing.put_texts.Goals as goal

pub loop-string-preserved : goal.loop-string-preserved
loop-string-preserved c =
    let more = take_more c.texts-strings.result.now c.loop-string.string-index c.string-item.result c.loop-string-test.true in
    record {
      text = rw (c.in_ok-put_text.ensures.ok, c.loop-string.invariant.text, more, ← c.string-item.is, texts_text_push) (simp append_assoc);
      fits = rw (more, ← c.string-item.is) (texts_writable_push _ _ c.loop-string.invariant.fits c.in_ok-put_text.ensures.fits c.in_ok-put_text.ensures.utf8);
    }

pub returns-clause-ok : goal.returns-clause-ok
returns-clause-ok c =
    let all = take_all c.loop-string.string-index c.texts-strings.result.now c.loop-string-test.false in
    let text = rw all at c.loop-string.invariant.text in
    rw (texts_count, ← c.texts-strings.ensures) text

pub returns-clause-fits : goal.returns-clause-fits
returns-clause-fits c =
    let all = take_all c.loop-string.string-index c.texts-strings.result.now c.loop-string-test.false in
    let fits = rw all at c.loop-string.invariant.fits in
    rw (texts_count, ← c.texts-strings.ensures) (c.in_ok-put_list_head.ensures.fits, fits)
