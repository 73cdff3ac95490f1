use Rattle.std.proofs.Common.{sym, ◌∙◌}
use Rattle.sr_client.proofs.Obeying.{told_refused}
use Rattle.sr_client.proofs.orders.decline.Goals as goal

pub returns-clause-declared : goal.returns-clause-declared
returns-clause-declared c =
    told_refused c.args.why c.args.out.now.items c.push_refused.new.out.items (sym c.is_full.ensures ∙ c.if-is_full.false) c.in_ok-push_refused.ensures
