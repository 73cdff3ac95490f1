use Rattle.std.proofs.Common.{◌≡◌, List, ap, Some, None, true, false, length, refl, sym, ◌∙◌, subst, arith}
use Rattle.std.specs.Prelude.{slice_get}
use Rattle.hd_server.specs.Plans.{onto}
use Rattle.hd_client.specs.declared.order.Order.{Order}
use Rattle.hd_client.specs.Events.{moves, passed}
use Rattle.hd_client.specs.Plans.{has_live, obeys}
use Rattle.sr_client.specs.Clients.{Working}
use Rattle.sr_client.proofs.LinesDone.{closed_end, closes, get_past, has_peer, obeyed_open, same_peer, unshut, waits_for_calls}
use Rattle.sr_client.proofs.client.Client.close_at_end.Goals as goal

pub returns-then-not-has_live-clause-closed : goal.returns-then-not-has_live-clause-closed
returns-then-not-has_live-clause-closed c = λ s b w h working.
    let hp = has_peer s h c.args.self.now.peer c.in-Some.peer c.in-Some.is working.standing.plays in
    let obeyed : obeys s h ≡ true = sym (c.obeys.ensures s h working.standing) ∙ c.if-not-obeys.false in
    let unended = obeyed_open s h obeyed in
    let past : slice_get c.args.self.now.script (passed h) ≡ None =
    (let value : c.orders.result.now ≡ c.args.self.now.script = c.orders.ensures.value in
    let long = ap (λ (xs : List Order). length xs) value in
    get_past c.args.self.now.script (passed h) (omega (arith, c.if-self-orders.false, long, working.standing.kept.passed))) in
    let none : has_live (moves h) ≡ false = sym (c.has_live.ensures hp.settings (moves h) hp.plays working.standing.kept.uploads) ∙ c.if-not-has_live.true in
    subst (λ xs. Working s b (record c.args.self.now { peer = Some c.close.new.self; has_closed = true }) w (onto xs h)) (sym (closes s c.args.self.now.script h obeyed past none))
    (closed_end s b c.args.self.now (record c.args.self.now { peer = Some c.close.new.self; has_closed = true }) w h c.in-Some.peer c.close.new.self hp.settings working hp.begun hp.timely unended
    (c.close.ensures hp.settings (moves h) hp.plays (unshut s h hp.settings hp.begun unended)) refl)

pub returns-else-not-has_live-clause-closed : goal.returns-else-not-has_live-clause-closed
returns-else-not-has_live-clause-closed c = λ s b w h working.
    let hp = has_peer s h c.args.self.now.peer c.in-Some.peer c.in-Some.is working.standing.plays in
    let live : has_live (moves h) ≡ true = sym (c.has_live.ensures hp.settings (moves h) hp.plays working.standing.kept.uploads) ∙ c.if-not-has_live.false in
    subst (λ xs. Working s b (record c.args.self.now { peer = Some c.in-Some.peer }) w (onto xs h)) (sym (waits_for_calls s c.args.self.now.script h live))
    (same_peer s b c.args.self.now (record c.args.self.now { peer = Some c.in-Some.peer }) w h c.in-Some.peer c.in-Some.is refl working)
