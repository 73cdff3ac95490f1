use Rattle.hm_pack.proofs.Written.{texts_in_order}
use Rattle.hm_pack.proofs.writing.put_call.Goals as goal

pub returns-clause-in_order : goal.returns-clause-in_order
returns-clause-in_order c = (tt, (c.in_ok-put_items.ensures.in_order, (texts_in_order c.args.streams.now, tt)))
