use Rattle.hm_pack.proofs.Again.{says_again}
use Rattle.hm_pack.proofs.writing.write_message.Goals as goal

pub returns-in-Ok-clause-again : goal.returns-in-Ok-clause-again
returns-in-Ok-clause-again c = says_again c.values_are_trees.ensures c.shortest_reads_back.ensures c.args.m.now c.requires c.in-Ok.ensures.in_range c.in-Ok.ensures.in_order c.in-Ok.ensures.fits
