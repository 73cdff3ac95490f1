use Rattle.std.proofs.Common.{sym}
use Rattle.hg_groups.proofs.IndexLemmas.{EachOnce-left, Agree-left, Stands-without_pair}
use Rattle.hg_groups.proofs.index.Index.remove.Goals as goal

pub returns-then-not-has-clause-removed : goal.returns-then-not-has-clause-removed
returns-then-not-has-clause-removed c = λ pairs s.
    Stands-without_pair c.members_follow.ensures c.pairs_stay_distinct.ensures c.args.self.now c.args.name.now c.args.conn pairs (sym c.if-not-has.ensures) s

pub invariant_of-self : goal.invariant_of-self
invariant_of-self c = record {
  agree = Agree-left c.args.self.now.names.by_conn c.exit.new.self.by_conn c.args.self.now.members.by_name c.leave.new.self.by_name c.args.conn
      c.args.name.now c.args.self.now.agree c.exit.ensures c.leave.ensures;
  once = EachOnce-left c.args.self.now.members.by_name c.leave.new.self.by_name c.args.name.now c.args.conn c.args.self.now.once c.leave.ensures;
}
