use Rattle.std.proofs.Common.{Some, [], ◌∷◌, ◌++◌, ap, ◌∙◌, arith}
use Rattle.hg_groups.proofs.MapLemmas.{Begun-Puts, NoneIsEmpty-insert}
use Rattle.hg_groups.proofs.members.Members.begin.Goals as goal

pub invariant_of-self : goal.invariant_of-self
invariant_of-self c = record {
  none_is_empty = NoneIsEmpty-insert c.insert.result c.args.self.now.by_name c.insert.new.self c.in_ok-name.name c.push.new.self
      c.args.self.now.none_is_empty c.insert.ensures.updates c.insert.ensures.err (omega (arith, c.in_ok-push.ensures.len, c.new-conns.ensures.len));
}

pub returns-clause-begun : goal.returns-clause-begun
returns-clause-begun c =
    Begun-Puts c.args.self.now.by_name c.insert.new.self c.args.name.now c.in_ok-name.name c.args.conn (Some c.push.new.self)
    c.in_ok-name.ensures c.in_ok-insert.ensures.updates.0 (c.in_ok-push.ensures.items ∙ ap (λ l. l ++ c.args.conn ∷ []) c.new-conns.ensures.items)
