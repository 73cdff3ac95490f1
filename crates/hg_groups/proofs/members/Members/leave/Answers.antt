use Rattle.std.proofs.Common.{Some, None, ap, sym, subst, ◌∙◌}
use Rattle.hg_groups.specs.Maps.{NoneIsEmpty, Left}
use Rattle.hd_rooms.specs.RegistryLaws.{others_than}
use Rattle.hg_groups.proofs.MapLemmas.{conns_of, Puts-written, Puts-twice, Left-Puts, Left-nobody, NoneIsEmpty-Some, NoneIsEmpty-None}
use Rattle.hg_groups.proofs.members.Members.leave.Goals as goal

pub invariant_of-self : goal.invariant_of-self
invariant_of-self c = record { none_is_empty = subst NoneIsEmpty (sym c.get_mut.follows.holds-at-none) c.args.self.now.none_is_empty }

pub returns-in_default : goal.returns-in_default
returns-in_default c = subst (λ m. Left c.args.self.now.by_name m c.args.name.now c.args.conn) (sym c.get_mut.follows.holds-at-none)
    (Left-nobody c.args.self.now.by_name c.args.name.now c.args.conn c.in_default.ensures.value)

pub invariant_of-self-then-take_out : goal.invariant_of-self-then-take_out
invariant_of-self-then-take_out c = record {
  none_is_empty = NoneIsEmpty-None c.args.self.now.by_name c.remove.new.self c.args.name.now c.args.self.now.none_is_empty
      (Puts-twice c.args.self.now.by_name (c.get_mut.follows.lender c.take_out.new.conns) c.remove.new.self c.args.name.now (Some c.take_out.new.conns) None
      (Puts-written c.args.self.now.by_name (c.get_mut.follows.lender c.take_out.new.conns) c.args.name.now c.in-Some.conns.now c.take_out.new.conns c.in-Some.ensures.value (c.get_mut.follows.holds c.take_out.new.conns))
      c.remove.ensures.updates.0);
}

pub invariant_of-self-else-take_out : goal.invariant_of-self-else-take_out
invariant_of-self-else-take_out c = record {
  none_is_empty = NoneIsEmpty-Some c.args.self.now.by_name (c.get_mut.follows.lender c.take_out.new.conns) c.args.name.now c.take_out.new.conns c.args.self.now.none_is_empty
      (Puts-written c.args.self.now.by_name (c.get_mut.follows.lender c.take_out.new.conns) c.args.name.now c.in-Some.conns.now c.take_out.new.conns c.in-Some.ensures.value (c.get_mut.follows.holds c.take_out.new.conns))
      c.if-take_out.ensures.more;
}

pub returns-then-take_out : goal.returns-then-take_out
returns-then-take_out c =
    Left-Puts c.args.self.now.by_name c.remove.new.self c.args.name.now c.args.conn None
    (Puts-twice c.args.self.now.by_name (c.get_mut.follows.lender c.take_out.new.conns) c.remove.new.self c.args.name.now (Some c.take_out.new.conns) None
    (Puts-written c.args.self.now.by_name (c.get_mut.follows.lender c.take_out.new.conns) c.args.name.now c.in-Some.conns.now c.take_out.new.conns c.in-Some.ensures.value (c.get_mut.follows.holds c.take_out.new.conns))
    c.remove.ensures.updates.0)
    (sym c.if-take_out.ensures.empty ∙ c.take_out.ensures.others ∙ ap (λ o. others_than c.args.conn (conns_of o)) c.in-Some.ensures.value)

pub returns-else-take_out : goal.returns-else-take_out
returns-else-take_out c =
    Left-Puts c.args.self.now.by_name (c.get_mut.follows.lender c.take_out.new.conns) c.args.name.now c.args.conn (Some c.take_out.new.conns)
    (Puts-written c.args.self.now.by_name (c.get_mut.follows.lender c.take_out.new.conns) c.args.name.now c.in-Some.conns.now c.take_out.new.conns c.in-Some.ensures.value (c.get_mut.follows.holds c.take_out.new.conns))
    (c.take_out.ensures.others ∙ ap (λ o. others_than c.args.conn (conns_of o)) c.in-Some.ensures.value)
