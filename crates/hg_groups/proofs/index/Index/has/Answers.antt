use Rattle.std.proofs.Common.{◌∙◌}
use Rattle.hg_groups.proofs.Counts.{has_is}
use Rattle.hg_groups.proofs.index.Index.has.Goals as goal

pub returns : goal.returns
returns c = λ pairs s. c.has.ensures ∙ has_is c.members_follow.ensures c.args.self.now pairs s c.args.name.now c.args.conn
