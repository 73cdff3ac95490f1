use Rattle.std.proofs.Common.{Some, [], ◌∷◌, ◌++◌, ap, ◌∙◌, arith}
use Rattle.hd_rooms.specs.declared.vocabulary.Row.{Row}
use Rattle.hk_latest.proofs.Changes.{Begun-Puts, NoneIsEmpty-insert}
use Rattle.hk_latest.proofs.rooms.Rooms.begin.Goals as goal

pub invariant_of-self : goal.invariant_of-self
invariant_of-self c = record {
  none_is_empty = NoneIsEmpty-insert c.insert.result c.args.self.now.by_room c.insert.new.self c.in_ok-room.room c.push_back.new.self
      c.args.self.now.none_is_empty c.insert.ensures.updates c.insert.ensures.err (omega (arith, c.in_ok-push_back.ensures.len));
}

pub returns-clause-begun : goal.returns-clause-begun
returns-clause-begun c =
    Begun-Puts c.args.self.now.by_room c.insert.new.self c.args.row c.in_ok-room.room (Some c.push_back.new.self)
    (c.in_ok-room.ensures ∙ ap (λ (row : Row). row.room) c.row-2.ensures) c.in_ok-insert.ensures.updates.0
    (c.in_ok-push_back.ensures.items ∙ ap (λ l. l ++ c.args.row ∷ []) c.new-rows.ensures)
