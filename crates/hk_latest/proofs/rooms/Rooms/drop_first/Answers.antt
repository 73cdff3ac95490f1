use Rattle.std.proofs.Common.{Some, None, refl, ap, sym, subst, drop, ◌∙◌}
use Rattle.hk_latest.specs.Rooms.{NoneIsEmpty, Dropped}
use Rattle.hk_latest.proofs.Changes.{rows_in, Puts-written, Puts-twice, Dropped-Puts, Dropped-none, NoneIsEmpty-Some, NoneIsEmpty-None}
use Rattle.hk_latest.proofs.rooms.Rooms.drop_first.Goals as goal

pub invariant_of-self : goal.invariant_of-self
invariant_of-self c = record { none_is_empty = subst NoneIsEmpty (sym c.get_mut.follows.holds-at-none) c.args.self.now.none_is_empty }

pub returns-in_default : goal.returns-in_default
returns-in_default c = subst (λ m. Dropped c.args.self.now.by_room m c.args.row.now) (sym c.get_mut.follows.holds-at-none)
    (Dropped-none c.args.self.now.by_room c.args.row.now c.in_default.ensures.value)

pub invariant_of-self-then-take_first : goal.invariant_of-self-then-take_first
invariant_of-self-then-take_first c = record {
  none_is_empty = NoneIsEmpty-None c.args.self.now.by_room c.remove.new.self c.args.row.now.room c.args.self.now.none_is_empty
      (Puts-twice c.args.self.now.by_room (c.get_mut.follows.lender c.take_first.new.rows) c.remove.new.self c.args.row.now.room (Some c.take_first.new.rows) None
      (Puts-written c.args.self.now.by_room (c.get_mut.follows.lender c.take_first.new.rows) c.args.row.now.room c.in-Some.rows.now c.take_first.new.rows c.in-Some.ensures.value (c.get_mut.follows.holds c.take_first.new.rows))
      c.remove.ensures.updates.0);
}

pub invariant_of-self-else-take_first : goal.invariant_of-self-else-take_first
invariant_of-self-else-take_first c = record {
  none_is_empty = NoneIsEmpty-Some c.args.self.now.by_room (c.get_mut.follows.lender c.take_first.new.rows) c.args.row.now.room c.take_first.new.rows c.args.self.now.none_is_empty
      (Puts-written c.args.self.now.by_room (c.get_mut.follows.lender c.take_first.new.rows) c.args.row.now.room c.in-Some.rows.now c.take_first.new.rows c.in-Some.ensures.value (c.get_mut.follows.holds c.take_first.new.rows))
      c.if-take_first.ensures.more;
}

pub returns-then-take_first : goal.returns-then-take_first
returns-then-take_first c =
    Dropped-Puts c.args.self.now.by_room c.remove.new.self c.args.row.now c.args.row.now.room None refl
    (Puts-twice c.args.self.now.by_room (c.get_mut.follows.lender c.take_first.new.rows) c.remove.new.self c.args.row.now.room (Some c.take_first.new.rows) None
    (Puts-written c.args.self.now.by_room (c.get_mut.follows.lender c.take_first.new.rows) c.args.row.now.room c.in-Some.rows.now c.take_first.new.rows c.in-Some.ensures.value (c.get_mut.follows.holds c.take_first.new.rows))
    c.remove.ensures.updates.0)
    (sym c.if-take_first.ensures.empty ∙ c.take_first.ensures.rest ∙ ap (λ o. drop 1 (rows_in o)) c.in-Some.ensures.value)

pub returns-else-take_first : goal.returns-else-take_first
returns-else-take_first c =
    Dropped-Puts c.args.self.now.by_room (c.get_mut.follows.lender c.take_first.new.rows) c.args.row.now c.args.row.now.room (Some c.take_first.new.rows) refl
    (Puts-written c.args.self.now.by_room (c.get_mut.follows.lender c.take_first.new.rows) c.args.row.now.room c.in-Some.rows.now c.take_first.new.rows c.in-Some.ensures.value (c.get_mut.follows.holds c.take_first.new.rows))
    (c.take_first.ensures.rest ∙ ap (λ o. drop 1 (rows_in o)) c.in-Some.ensures.value)
