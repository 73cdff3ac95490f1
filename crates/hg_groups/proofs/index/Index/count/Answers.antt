use Rattle.hg_groups.proofs.Counts.{count_is}
use Rattle.hg_groups.proofs.index.Index.count.Goals as goal

pub returns : goal.returns
returns c = count_is c.members_follow.ensures c.counts_agree.ensures c.args.self.now c.args.conn c.count.result c.count.ensures
