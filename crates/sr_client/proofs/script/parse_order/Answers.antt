use Rattle.std.proofs.Common.{rules}
use Rattle.sr_client.proofs.ScriptLines.{the_order, no_peer}
use Rattle.sr_client.proofs.script.parse_order.Goals as goal

pub returns-in-Some-clause-found : goal.returns-in-Some-clause-found
returns-in-Some-clause-found c =
    let found = rw c.in-Some.is at c.in_ok-action.ensures.found in
    the_order c.args.line.now c.in-Some.action (search rules) (search rules) found.0 c.order_of.result c.order_of.ensures

pub returns-in-None-clause-none : goal.returns-in-None-clause-none
returns-in-None-clause-none c =
    let none = rw c.in-None.is at c.in_ok-action.ensures.none in
    no_peer c.args.line.now (search rules) (search rules) none
