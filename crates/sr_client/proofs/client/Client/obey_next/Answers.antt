use Rattle.std.proofs.Common.{◌≡◌, ◌+◌, ℕ, suc, List, [], ◌∷◌, ◌++◌, length, Some, true, refl, sym, ◌∙◌, ap, subst, arith}
use Rattle.std.specs.Prelude.{slice_get}
use Rattle.std.proofs.lemmas.Option.{slice_get_read}
use Rattle.hd_server.specs.Plans.{onto}
use Rattle.hd_client.specs.declared.order.Order.{Order}
use Rattle.hd_client.specs.Events.{Passes, passed}
use Rattle.hd_client.specs.Plans.{doing, losing, obeys}
use Rattle.sr_client.specs.Obeying.{events_of}
use Rattle.sr_client.specs.Clients.{Working}
use Rattle.sr_client.proofs.LinesDone.{has_peer, line_is, line_kept, line_passed, obeyed_open, onto_more, passes}
use Rattle.sr_client.proofs.client.Client.obey_next.Goals as goal

pub returns-in-Passed-clause-obeyed : goal.returns-in-Passed-clause-obeyed
returns-in-Passed-clause-obeyed c = λ s b h working.
    let hp = has_peer s h c.args.self.now.peer c.in-Some-peer.peer c.in-Some-peer.is working.standing.plays in
    let obeyed : obeys s h ≡ true = sym (c.obeys.ensures s h working.standing) ∙ c.if-not-obeys.false in
    let lookup = c.in-Some.ensures.lookup in
    let value : c.orders.result.now ≡ c.args.self.now.script = c.orders.ensures.value in
    let read : slice_get c.orders.result.now c.args.self.now.passed ≡ Some c.in-Some.order.now =
    slice_get_read c.orders.result.now (length c.orders.result.now) c.args.self.now.passed c.in-Some.order.now refl lookup.3.0 lookup.1 in
    let at : slice_get c.args.self.now.script (passed h) ≡ Some c.in-Some.order.now =
    subst (λ n. slice_get c.args.self.now.script n ≡ Some c.in-Some.order.now) working.standing.kept.passed
    (subst (λ (xs : List Order). slice_get xs c.args.self.now.passed ≡ Some c.in-Some.order.now) value read) in
    let did = rw c.in-Passed.is at (c.in_ok-obey.ensures hp.settings h hp.plays working.standing.kept.uploads) in
    let one : c.args.self.now.passed + 1 ≡ suc c.args.self.now.passed = omega arith in (
      events_of did.0,
      line_is s c.args.self.now.script h hp.settings c.in-Some.order.now (Some (events_of did.0)) obeyed hp.begun at did.1,
      line_passed s b c.args.self.now (record c.args.self.now { peer = Some c.obey.new.peer; passed = c.args.self.now.passed + 1 }) c.args.words.now
          (record c.args.words.now { printed = c.obey.new.out }) h c.obey.new.peer hp.settings hp.begun hp.timely working did.0 (obeyed_open s h obeyed) did.2
          (ap (λ (n : ℕ). record c.args.self.now { peer = Some c.obey.new.peer; passed = n }) one) refl,
    )

pub returns-in_ok-lose-in-Loses-clause-obeyed : goal.returns-in_ok-lose-in-Loses-clause-obeyed
returns-in_ok-lose-in-Loses-clause-obeyed c = λ s b h working.
    let hp = has_peer s h c.args.self.now.peer c.in-Some-peer.peer c.in-Some-peer.is working.standing.plays in
    let obeyed : obeys s h ≡ true = sym (c.obeys.ensures s h working.standing) ∙ c.if-not-obeys.false in
    let lookup = c.in-Some.ensures.lookup in
    let value : c.orders.result.now ≡ c.args.self.now.script = c.orders.ensures.value in
    let read : slice_get c.orders.result.now c.args.self.now.passed ≡ Some c.in-Some.order.now =
    slice_get_read c.orders.result.now (length c.orders.result.now) c.args.self.now.passed c.in-Some.order.now refl lookup.3.0 lookup.1 in
    let at : slice_get c.args.self.now.script (passed h) ≡ Some c.in-Some.order.now =
    subst (λ n. slice_get c.args.self.now.script n ≡ Some c.in-Some.order.now) working.standing.kept.passed
    (subst (λ (xs : List Order). slice_get xs c.args.self.now.passed ≡ Some c.in-Some.order.now) value read) in
    let did = rw c.in-Loses.is at (c.in_ok-obey.ensures hp.settings h hp.plays working.standing.kept.uploads) in
    let kept = line_kept s b c.args.self.now (record c.args.self.now { peer = Some c.obey.new.peer }) c.args.words.now (record c.args.words.now { printed = c.obey.new.out }) h
    c.obey.new.peer hp.settings hp.begun hp.timely working did.1 refl refl in
    let lost = c.in_ok-lose-in-Loses.ensures.lost s b h hp.settings kept (obeyed_open s h obeyed) hp.begun in
    let one : suc c.lose.new.self.passed ≡ c.lose.new.self.passed + 1 = omega arith in
    let on = subst (λ n. Working s b (record c.lose.new.self { passed = n }) c.lose.new.words (Passes ∷ onto (losing hp.settings h) h)) one
    (passes s b c.lose.new.self c.lose.new.words (onto (losing hp.settings h) h) lost) in (
      losing hp.settings h ++ Passes ∷ [],
      line_is s c.args.self.now.script h hp.settings c.in-Some.order.now (Some (losing hp.settings h ++ Passes ∷ [])) obeyed hp.begun at
          (ap (λ o. doing hp.settings o h) did.0),
      subst (λ k. Working s b (record c.lose.new.self { passed = c.lose.new.self.passed + 1 }) c.lose.new.words k) (sym (onto_more (losing hp.settings h) Passes h)) on,
    )
