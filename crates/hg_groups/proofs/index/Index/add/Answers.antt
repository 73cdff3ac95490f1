use Rattle.std.proofs.Common.{sym, ◌∙◌}
use Rattle.hg_groups.proofs.IndexLemmas.{EachOnce-same, EachOnce-joined, Agree-undone, Stands-same}
use Rattle.hg_groups.proofs.index.Index.add.Goals as goal

pub invariant_of-self-in-Err : goal.invariant_of-self-in-Err
invariant_of-self-in-Err c = record {
  agree = Agree-undone c.args.self.now.names.by_conn c.exit.new.self.by_conn c.args.self.now.members.by_name c.join.new.self.by_name c.args.conn
      c.args.name.now c.enter.new.self.by_conn c.args.self.now.agree (sym c.if-has.ensures) c.in_ok-enter.ensures.entered c.in-Err.ensures.unchanged c.exit.ensures;
  once = EachOnce-same c.args.self.now.members.by_name c.join.new.self.by_name c.args.self.now.once c.in-Err.ensures.unchanged;
}

pub returns-in-Err-clause-unchanged : goal.returns-in-Err-clause-unchanged
returns-in-Err-clause-unchanged c = λ pairs s. Stands-same c.args.self.now _ pairs s c.in-Err.ensures.unchanged

pub invariant_of-self-in_default-clause-once : goal.invariant_of-self-in_default-clause-once
invariant_of-self-in_default-clause-once c =
    EachOnce-joined c.args.self.now.members.by_name c.join.new.self.by_name c.args.name.now c.args.conn c.args.self.now.once
    (sym (c.args.self.now.agree c.args.conn c.args.name.now) ∙ sym c.if-has.ensures) c.in_default.ensures.joined
