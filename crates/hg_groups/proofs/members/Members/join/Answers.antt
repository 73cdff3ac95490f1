use Rattle.std.proofs.Common.{Some, [], ◌∷◌, ◌++◌, ap, sym, subst, ◌∙◌, is_ok, vec_len}
use Rattle.hg_groups.specs.Maps.{NoneIsEmpty, Begun}
use Rattle.std.proofs.lemmas.Result.{err_from_is_err_and}
use Rattle.hg_groups.proofs.MapLemmas.{conns_of, Puts-written, Joined-Puts, Joined-Begun, SameLists-Puts, NoneIsEmpty-Some, pushed}
use Rattle.hg_groups.proofs.members.Members.join.Goals as goal

pub invariant_of-self : goal.invariant_of-self
invariant_of-self c = record {
  none_is_empty = NoneIsEmpty-Some c.args.self.now.by_name (c.get_mut.follows.lender c.push.new.self) c.args.name.now c.push.new.self c.args.self.now.none_is_empty
      (Puts-written c.args.self.now.by_name (c.get_mut.follows.lender c.push.new.self) c.args.name.now c.in-Some.conns.now c.push.new.self c.in-Some.ensures.value (c.get_mut.follows.holds c.push.new.self))
      (pushed (is_ok c.push.result) (vec_len c.in-Some.conns.now) (vec_len c.push.new.self) c.push.ensures.len (c.args.self.now.none_is_empty c.args.name.now c.in-Some.conns.now (sym c.in-Some.ensures.value)));
}

pub returns-in_err-push-clause-unchanged : goal.returns-in_err-push-clause-unchanged
returns-in_err-push-clause-unchanged c =
    let p = err_from_is_err_and c.from_residual.result c.from_residual.ensures.1 in
    rw p.1 (SameLists-Puts c.args.self.now.by_name (c.get_mut.follows.lender c.push.new.self) c.args.name.now (Some c.push.new.self)
    (Puts-written c.args.self.now.by_name (c.get_mut.follows.lender c.push.new.self) c.args.name.now c.in-Some.conns.now c.push.new.self c.in-Some.ensures.value (c.get_mut.follows.holds c.push.new.self))
    (c.in_err-push.ensures.items ∙ ap conns_of c.in-Some.ensures.value))

pub returns-in-Some-clause-joined : goal.returns-in-Some-clause-joined
returns-in-Some-clause-joined c =
    Joined-Puts c.args.self.now.by_name (c.get_mut.follows.lender c.push.new.self) c.args.name.now c.args.conn (Some c.push.new.self)
    (Puts-written c.args.self.now.by_name (c.get_mut.follows.lender c.push.new.self) c.args.name.now c.in-Some.conns.now c.push.new.self c.in-Some.ensures.value (c.get_mut.follows.holds c.push.new.self))
    (c.in_ok-push.ensures.items ∙ ap (λ l. l ++ c.args.conn ∷ []) (ap conns_of c.in-Some.ensures.value))

pub invariant_of-self-in_default : goal.invariant_of-self-in_default
invariant_of-self-in_default c = record { none_is_empty = subst NoneIsEmpty (sym c.get_mut.follows.holds-at-none) c.args.self.now.none_is_empty }

pub returns-clause-joined : goal.returns-clause-joined
returns-clause-joined c =
    Joined-Begun c.args.self.now.by_name c.begin.new.self.by_name c.args.name.now c.args.conn c.in_default.ensures.value
    (subst (λ m. Begun m c.begin.new.self.by_name c.args.name.now c.args.conn) c.get_mut.follows.holds-at-none c.in_ok-begin.ensures.begun)
