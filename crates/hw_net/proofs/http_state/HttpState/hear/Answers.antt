use Rattle.std.proofs.Common.{◌≡◌, [], sym, ◌∙◌, subst}
use Rattle.hw_net.specs.HttpState.{Finds}
use Rattle.hw_net.specs.declared.input.Input.TheVariants as input
use Rattle.hw_net.proofs.Telling.{tells-none}
use Rattle.hw_net.proofs.HttpFacts.{Adds, later-all, nothing-of, hears-found}
use Rattle.hw_net.proofs.Halting.{on-err, http-unread, halts-later}
use Rattle.hw_net.proofs.http_state.HttpState.hear.Goals as goal

pub returns-then-is_nothing-clause-heard : goal.returns-then-is_nothing-clause-heard
returns-then-is_nothing-clause-heard g c =
    let trace = g.W.Wires.trace in
    let none : c.in_ok-input.input ≡ input.Nothing = nothing-of c.in_ok-input.input (sym c.is_nothing.ensures ∙ c.if-is_nothing.true) in
    let found = subst (λ n. Finds c.args.self.now c.look.new.self n) none c.in_ok-input.ensures.found in
    let adds = subst (λ n. Adds c.args.self.now c.look.new.self n) none c.in_ok-input.ensures.asks in
    later-all (trace c.args.wires.now) (trace c.read_and_look.new.wires) c.args.wire c.args.self.now c.look.new.self c.read_and_look.new.self c.read_and_look.result found adds c.read_and_look.ensures.heard

pub returns-clause-heard : goal.returns-clause-heard
returns-clause-heard g c = (
  [],
  tells-none (g.W.Wires.trace c.args.wires.now),
  hears-found c.args.wire c.args.self.now c.look.new.self c.in_ok-input.input c.in_ok-input.ensures.found c.in_ok-input.ensures.asks
      (sym c.is_nothing.ensures ∙ c.if-is_nothing.false),
)

pub returns-in_err-input-clause-halts : goal.returns-in_err-input-clause-halts
returns-in_err-input-clause-halts g c =
    on-err c.from_residual.result ([], tells-none (g.W.Wires.trace c.args.wires.now), http-unread c.args.wire c.args.self.now c.look.new.self c.in_err-input.ensures.unchanged)

pub returns-then-is_nothing-clause-halts : goal.returns-then-is_nothing-clause-halts
returns-then-is_nothing-clause-halts g c =
    let trace = g.W.Wires.trace in
    let none : c.in_ok-input.input ≡ input.Nothing = nothing-of c.in_ok-input.input (sym c.is_nothing.ensures ∙ c.if-is_nothing.true) in
    let found = subst (λ n. Finds c.args.self.now c.look.new.self n) none c.in_ok-input.ensures.found in
    halts-later (trace c.args.wires.now) (trace c.read_and_look.new.wires) c.args.wire c.args.self.now c.look.new.self c.read_and_look.new.self c.read_and_look.result found c.read_and_look.ensures.halts
