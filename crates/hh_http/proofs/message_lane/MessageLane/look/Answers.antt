use Rattle.std.proofs.Common.{◌≡◌, ◌<◌, ◌∙◌, ℕ, List, Some, length, rules, refl, sym, ap, subst, arith, inr}
use Rattle.hh_http.specs.Lane.{Lane}
use Rattle.hh_http.specs.Messages.{Begins, IsHeadAt, WaitsForBody, IsKept, want_of}
use Rattle.hh_http.proofs.LaneFacts.{begins-of, waits-from, due-kept}
use Rattle.hh_http.proofs.message_lane.MessageLane.look.Goals as goal

pub returns-in-Ok-Some-clause-answers : goal.returns-in-Ok-Some-clause-answers
returns-in-Ok-Some-clause-answers g c =
    let grammar = g.M.Message.grammar in
    let same : c.self.inside.held.items ≡ c.args.self.now.held = ap (λ (l : Lane). l.held) c.self.view_is in
    let kept : c.self.inside.head ≡ Some c.in-Some.head = sym c.take.ensures.value ∙ c.in-Some.is in
    let at : IsHeadAt grammar c.self.inside.held.items c.in-Some.head = subst (λ o. IsKept grammar c.self.inside.held.items o) kept c.self.invariant.kept in
    let begins = begins-of grammar g.met.M.Message.lawful c.self.inside.held.items c.in-Some.head c.in-Ok-Some.body c.with_body-message.result c.take_body.new.held.items at
    (omega (arith, rw c.in-Ok-Some.field-0-is at c.in-Ok-Some.ensures.whole, c.self.inside.held.ok.0)) (rw c.in-Ok-Some.field-0-is at c.in-Ok-Some.ensures.body) (rw c.in-Ok-Some.field-0-is at c.in-Ok-Some.ensures.rest) c.with_body-message.ensures in (
      subst (λ (b : List ℕ). Begins grammar b c.with_body-message.result c.take_body.new.held.items) same begins,
      ap want_of c.take.ensures.after,
      ap (λ (l : Lane). l.spent) c.self.view_is ∙ c.requires.unspent,
      c.is_last-self-inside.ensures,
      refl,
    )

pub returns-in-Ok-None-clause-answers : goal.returns-in-Ok-None-clause-answers
returns-in-Ok-None-clause-answers g c =
    let grammar = g.M.Message.grammar in
    let same : c.self.inside.held.items ≡ c.args.self.now.held = ap (λ (l : Lane). l.held) c.self.view_is in
    let kept : c.self.inside.head ≡ Some c.in-Some.head = sym c.take.ensures.value ∙ c.in-Some.is in
    let at : IsHeadAt grammar c.self.inside.held.items c.in-Some.head = subst (λ o. IsKept grammar c.self.inside.held.items o) kept c.self.invariant.kept in
    let wanted : c.in-Some.head.end ≡ c.args.self.now.want = sym (ap want_of kept) ∙ ap (λ (l : Lane). l.want) c.self.view_is in
    let short : length c.self.inside.held.items < c.in-Some.head.end = omega (arith, rw c.in-Ok-None.field-0-is at c.in-Ok-None.ensures.short, c.self.inside.held.ok.0) in
    let waits : WaitsForBody grammar c.self.inside.held.items c.in-Some.head.end c.in-Some.head.expects =
    waits-from grammar g.met.M.Message.lawful c.self.inside.held.items c.in-Some.head at short in (
      search rules,
      inr (
        c.in-Some.head.expects,
        subst (λ (b : List ℕ). WaitsForBody grammar b c.in-Some.head.end c.in-Some.head.expects) same waits,
        ap (λ (l : Lane). l.due) c.self.view_is
            ∙ due-kept c.args.self.now.want (length c.self.inside.held.items) c.in-Some.head.expects c.args.self.now.due (omega (arith, short, wanted)),
      ),
    )
