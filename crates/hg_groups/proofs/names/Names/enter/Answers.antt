use Rattle.std.proofs.Common.{Some, ap, subst, length, ◌∙◌, ◌||◌}
use Rattle.hd_rooms.specs.Registry.{same_text}
use Rattle.hg_groups.proofs.MapLemmas.{names_have, PutsAt, PutsAt-written, Entered-PutsAt, has_name-insert, has_name-none}
use Rattle.hg_groups.proofs.names.Names.enter.Goals as goal

pub returns-in-Some-clause-entered : goal.returns-in-Some-clause-entered
returns-in-Some-clause-entered c =
    Entered-PutsAt c.args.self.now.by_conn (c.get_mut.follows.lender c.insert.new.self) c.args.conn c.args.name.now (Some c.insert.new.self)
    (PutsAt-written c.args.self.now.by_conn (c.get_mut.follows.lender c.insert.new.self) c.args.conn c.in-Some.names.now c.insert.new.self c.in-Some.ensures.value (c.get_mut.follows.holds c.insert.new.self))
    (λ other. has_name-insert c.in-Some.names.now c.insert.new.self c.args.name.now c.in_ok-name.name c.in_ok-name.ensures c.in_ok-insert.ensures.updates.0 other
    ∙ ap (λ o. same_text c.args.name.now other || names_have o other) c.in-Some.ensures.value)

pub returns-clause-entered : goal.returns-clause-entered
returns-clause-entered c =
    let here : PutsAt c.args.self.now.by_conn c.insert-3.new.self c.args.conn (Some c.insert-2.new.self) =
    subst (λ m. PutsAt m c.insert-3.new.self c.args.conn (Some c.insert-2.new.self)) c.get_mut.follows.holds-at-none c.in_ok-insert-3.ensures.updates.0 in
    Entered-PutsAt c.args.self.now.by_conn c.insert-3.new.self c.args.conn c.args.name.now (Some c.insert-2.new.self) here
    (λ other. has_name-insert c.new-names.result c.insert-2.new.self c.args.name.now c.in_ok-name.name c.in_ok-name.ensures c.in_ok-insert-2.ensures.updates.0 other
    ∙ ap (λ b. same_text c.args.name.now other || b)
    (has_name-none c.new-names.result.keys _ (ap length c.new-names.ensures.empty) ∙ ap (λ o. names_have o other) c.in_default.ensures.value))
