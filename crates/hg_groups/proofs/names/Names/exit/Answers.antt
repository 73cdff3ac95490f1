use Rattle.std.proofs.Common.{Some, None, ap, sym, refl, ◌∙◌, not, ◌&&◌}
use Rattle.hd_rooms.specs.Registry.{same_text}
use Rattle.hg_groups.proofs.MapLemmas.{names_have, PutsAt-written, PutsAt-twice, Exited-PutsAt, has_name-remove, has_name-none}
use Rattle.hg_groups.proofs.names.Names.exit.Goals as goal

pub returns-then-is_empty : goal.returns-then-is_empty
returns-then-is_empty c =
    Exited-PutsAt c.args.self.now.by_conn c.swap_remove.new.self c.args.conn c.args.name.now None
    (PutsAt-twice c.args.self.now.by_conn (c.get_mut.follows.lender c.remove.new.self) c.swap_remove.new.self c.args.conn (Some c.remove.new.self) None
    (PutsAt-written c.args.self.now.by_conn (c.get_mut.follows.lender c.remove.new.self) c.args.conn c.in-Some.names.now c.remove.new.self c.in-Some.ensures.value (c.get_mut.follows.holds c.remove.new.self))
    c.swap_remove.ensures.updates.0)
    (λ other. sym (has_name-none c.remove.new.self.keys _ (c.if-is_empty.ensures.0 refl))
    ∙ has_name-remove c.in-Some.names.now c.remove.new.self c.args.name.now c.remove.ensures.updates.0 other
    ∙ ap (λ o. not (same_text c.args.name.now other) && names_have o other) c.in-Some.ensures.value)

pub returns-else-is_empty : goal.returns-else-is_empty
returns-else-is_empty c =
    Exited-PutsAt c.args.self.now.by_conn (c.get_mut.follows.lender c.remove.new.self) c.args.conn c.args.name.now (Some c.remove.new.self)
    (PutsAt-written c.args.self.now.by_conn (c.get_mut.follows.lender c.remove.new.self) c.args.conn c.in-Some.names.now c.remove.new.self c.in-Some.ensures.value (c.get_mut.follows.holds c.remove.new.self))
    (λ other. has_name-remove c.in-Some.names.now c.remove.new.self c.args.name.now c.remove.ensures.updates.0 other
    ∙ ap (λ o. not (same_text c.args.name.now other) && names_have o other) c.in-Some.ensures.value)
