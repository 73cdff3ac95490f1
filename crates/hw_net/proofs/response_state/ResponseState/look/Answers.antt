use Rattle.std.proofs.Common.{rules, Bool, true, sym, subst}
use Rattle.hw_net.specs.ResponseState.{ResponseStateView, Finds}
use Rattle.hw_net.proofs.ResponseFacts.{response-found}
use Rattle.hw_net.proofs.response_state.ResponseState.look.Goals as goal

pub returns-in-Ok-Some-clause-found : goal.returns-in-Ok-Some-clause-found
returns-in-Ok-Some-clause-found c =
    let before : ResponseStateView = record {
      lane = c.self.inside.lane;
      upgrade = c.self.inside.upgrade;
      concluded = c.self.inside.concluded;
      accepted = c.self.inside.accepted;
      has_unparsed = c.self.inside.has_unparsed;
      last_read_was_full = c.self.inside.last_read_was_full;
    } in
    let heard = c.input_of-input.result in
    let next = c.next_response.new.self in
    let found = response-found before next c.in-Ok-Some.response heard c.self.invariant (search rules) (rw c.in-Ok-Some.field-0-is at c.in-Ok-Some.ensures.answers) c.input_of-input.ensures in
    subst (λ (s : ResponseStateView). Finds s (record before { lane = next; concluded = true; accepted = c.is_upgraded-self-inside.result }) heard) c.self.view_is
    (subst (λ (b : Bool). Finds before (record before { lane = next; concluded = true; accepted = b }) heard) (sym c.is_upgraded-self-inside.ensures) found)
