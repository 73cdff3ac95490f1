use Rattle.std.proofs.Common.{◌≡◌, ◌<◌, ◌∙◌, ℕ, List, length, rules, refl, sym, ap, subst, arith, inr}
use Rattle.hh_http.specs.Lane.{Lane}
use Rattle.hh_http.specs.Messages.{Begins, IsHeadAt, WaitsForBody}
use Rattle.hh_http.proofs.LaneFacts.{begins-of, waits-from}
use Rattle.hh_http.proofs.message_lane.MessageLane.accept.Goals as goal

pub returns-in-Some-clause-answers : goal.returns-in-Some-clause-answers
returns-in-Some-clause-answers g c =
    let grammar = g.M.Message.grammar in
    let same : c.self.inside.held.items ≡ c.args.self.now.held = ap (λ (l : Lane). l.held) c.self.view_is in
    let at : IsHeadAt grammar c.self.inside.held.items c.args.head = subst (λ (b : List ℕ). IsHeadAt grammar b c.args.head) (sym same) c.requires.head in
    let begins = begins-of grammar g.met.M.Message.lawful c.self.inside.held.items c.args.head c.in-Some.body c.with_body-message.result c.take_body.new.held.items at
    (omega (arith, rw c.in-Some.is at c.in_ok-body.ensures.whole, c.self.inside.held.ok.0)) (rw c.in-Some.is at c.in_ok-body.ensures.body) (rw c.in-Some.is at c.in_ok-body.ensures.rest) c.with_body-message.ensures in (
      subst (λ (b : List ℕ). Begins grammar b c.with_body-message.result c.take_body.new.held.items) same begins,
      refl,
      ap (λ (l : Lane). l.spent) c.self.view_is ∙ c.requires.unspent,
      c.is_last-self-inside.ensures,
      refl,
    )

pub returns-in_ok-reserve-in-None-clause-answers : goal.returns-in_ok-reserve-in-None-clause-answers
returns-in_ok-reserve-in-None-clause-answers g c =
    let grammar = g.M.Message.grammar in
    let same : c.self.inside.held.items ≡ c.args.self.now.held = ap (λ (l : Lane). l.held) c.self.view_is in
    let at : IsHeadAt grammar c.self.inside.held.items c.args.head = subst (λ (b : List ℕ). IsHeadAt grammar b c.args.head) (sym same) c.requires.head in
    let short : length c.self.inside.held.items < c.args.head.end = omega (arith, rw c.in-None.is at c.in_ok-body.ensures.short, c.self.inside.held.ok.0) in
    let waits : WaitsForBody grammar c.self.inside.held.items c.args.head.end c.args.head.expects =
    waits-from grammar g.met.M.Message.lawful c.self.inside.held.items c.args.head at short in (
      search rules,
      inr (
        c.args.head.expects,
        subst (λ (b : List ℕ). WaitsForBody grammar b c.args.head.end c.args.head.expects) same waits,
        rw c.requires.no_head refl,
      ),
    )
