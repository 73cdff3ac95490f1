use Rattle.std.proofs.Common.{append_assoc}
use Rattle.hm_pack.proofs.Written.{values_count}
use Rattle.hm_pack.proofs.writing.put_items.Goals as goal

pub returns-clause-ok : goal.returns-clause-ok
returns-clause-ok c = rw (c.in_ok-put_values.ensures.ok, c.in_ok-put_list_head.ensures.ok, ← c.values-values.ensures.values, values_count) (simp append_assoc)

pub returns-clause-fits : goal.returns-clause-fits
returns-clause-fits c = rw (← c.values-values.ensures.values, values_count) (c.in_ok-put_list_head.ensures.fits, c.in_ok-put_values.ensures.fits)
