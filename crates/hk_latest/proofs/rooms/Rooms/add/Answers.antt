use Rattle.std.proofs.Common.{Some, [], ◌∷◌, ◌++◌, length, ap, sym, subst, ◌∙◌, is_ok}
use Rattle.std.proofs.lemmas.Result.{err_from_is_err_and}
use Rattle.hd_rooms.specs.declared.vocabulary.Row.{Row}
use Rattle.hk_latest.specs.Rooms.{NoneIsEmpty, Begun}
use Rattle.hk_latest.proofs.Changes.{rows_in, Puts-written, Added-Puts, Added-Begun, SameRows-Puts, NoneIsEmpty-Some, pushed}
use Rattle.hk_latest.proofs.rooms.Rooms.add.Goals as goal

pub invariant_of-self : goal.invariant_of-self
invariant_of-self c = record {
  none_is_empty = NoneIsEmpty-Some c.args.self.now.by_room (c.get_mut.follows.lender c.push_back.new.self) c.row.result.now.room c.push_back.new.self c.args.self.now.none_is_empty
      (Puts-written c.args.self.now.by_room (c.get_mut.follows.lender c.push_back.new.self) c.row.result.now.room c.in-Some.rows.now c.push_back.new.self c.in-Some.ensures.value (c.get_mut.follows.holds c.push_back.new.self))
      (pushed (is_ok c.push_back.result) (length c.in-Some.rows.now) (length c.push_back.new.self) c.push_back.ensures.len (c.args.self.now.none_is_empty c.row.result.now.room c.in-Some.rows.now (sym c.in-Some.ensures.value)));
}

pub returns-in_err-push_back-clause-unchanged : goal.returns-in_err-push_back-clause-unchanged
returns-in_err-push_back-clause-unchanged c =
    let p = err_from_is_err_and c.from_residual.result c.from_residual.ensures.1 in
    rw p.1 (SameRows-Puts c.args.self.now.by_room (c.get_mut.follows.lender c.push_back.new.self) c.row.result.now.room (Some c.push_back.new.self)
    (Puts-written c.args.self.now.by_room (c.get_mut.follows.lender c.push_back.new.self) c.row.result.now.room c.in-Some.rows.now c.push_back.new.self c.in-Some.ensures.value (c.get_mut.follows.holds c.push_back.new.self))
    (c.in_err-push_back.ensures.items ∙ ap rows_in c.in-Some.ensures.value))

pub returns-in-Some-clause-added : goal.returns-in-Some-clause-added
returns-in-Some-clause-added c =
    Added-Puts c.args.self.now.by_room (c.get_mut.follows.lender c.push_back.new.self) c.args.row c.row.result.now.room (Some c.push_back.new.self)
    (ap (λ (row : Row). row.room) c.row.ensures)
    (Puts-written c.args.self.now.by_room (c.get_mut.follows.lender c.push_back.new.self) c.row.result.now.room c.in-Some.rows.now c.push_back.new.self c.in-Some.ensures.value (c.get_mut.follows.holds c.push_back.new.self))
    (c.in_ok-push_back.ensures.items ∙ ap (λ l. l ++ c.args.row ∷ []) (ap rows_in c.in-Some.ensures.value))

pub invariant_of-self-in_default : goal.invariant_of-self-in_default
invariant_of-self-in_default c = record { none_is_empty = subst NoneIsEmpty (sym c.get_mut.follows.holds-at-none) c.args.self.now.none_is_empty }

pub returns-clause-added : goal.returns-clause-added
returns-clause-added c =
    Added-Begun c.args.self.now.by_room c.begin.new.self.by_room c.args.row c.row.result.now.room (ap (λ (row : Row). row.room) c.row.ensures) c.in_default.ensures.value
    (subst (λ m. Begun m c.begin.new.self.by_room c.args.row) c.get_mut.follows.holds-at-none c.in_ok-begin.ensures.begun)
