use Rattle.std.proofs.Common.{rules, ◌≡◌, ◌||◌, Bool, false, sym, subst, ◌∙◌, ap, inl, inr}
use Rattle.hh_http.specs.Lane.{Lane}
use Rattle.hw_net.specs.HttpState.{HttpStateView, IsHttpState, Finds}
use Rattle.hw_net.specs.declared.input.Input.TheVariants as input
use Rattle.hw_net.proofs.HttpFacts.{refused-state, none-state, none-after, none-found, either-is}
use Rattle.hw_net.proofs.http_state.HttpState.look.Goals.{then-self-2, else-self-2}
use Rattle.hw_net.proofs.http_state.HttpState.look.Goals as goal

pub invariant_of-self-in-Err-Refused : goal.invariant_of-self-in-Err-Refused
invariant_of-self-in-Err-Refused c =
    refused-state c.self.inside.lane c.next_request.new.self c.self.inside.busy c.self.inside.has_unparsed c.in-Err-Refused.refusal c.self.invariant (search rules) (search rules)
    (rw c.in-Err-Refused.field-0-is at c.in-Err-Refused.ensures.answers) (rw c.in-Err-Refused.field-0-is at c.in-Err-Refused.ensures.repeats)

pub invariant_of-self-in-Ok-None : goal.invariant_of-self-in-Ok-None
invariant_of-self-in-Ok-None c =
    subst (λ (l : Lane). IsHttpState l c.self.inside.busy false) (sym c.take_continue-is_due.ensures.taken)
    (none-state c.self.inside.lane c.next_request.new.self c.self.inside.busy c.self.inside.has_unparsed c.self.invariant (search rules)
    (rw c.in-Ok-None.field-0-is at c.in-Ok-None.ensures.answers) (rw c.in-Ok-None.field-0-is at c.in-Ok-None.ensures.repeats))

pub returns-after-self-2-clause-found : goal.returns-after-self-2-clause-found
returns-after-self-2-clause-found c =
    let before : HttpStateView = record {
      lane = c.self.inside.lane;
      busy = c.self.inside.busy;
      has_unparsed = c.self.inside.has_unparsed;
      last_read_was_full = c.self.inside.last_read_was_full;
      awaits_continue = c.self.inside.awaits_continue;
      continued = c.self.inside.continued;
    } in
    let found : Finds before (none-after before c.next_request.new.self) input.Nothing =
    none-found before c.next_request.new.self c.self.invariant (search rules) (rw c.in-Ok-None.field-0-is at c.in-Ok-None.ensures.answers) (rw c.in-Ok-None.field-0-is at c.in-Ok-None.ensures.repeats) in
    let value : c.if-self-2.self ≡ (c.self.inside.awaits_continue || c.take_continue-is_due.result) =
    either-is c.if-self-2.self c.self.inside.awaits_continue c.take_continue-is_due.result
    (elim c.if-self-2.branch [ then-self-2 w ↦ inl (search rules, search rules) | else-self-2 w ↦ inr (search rules, search rules) ]) in
    let awaits : c.if-self-2.self ≡ (c.self.inside.awaits_continue || c.next_request.new.self.due) =
    value ∙ ap (λ b. c.self.inside.awaits_continue || b) c.take_continue-is_due.ensures.due in
    subst (λ (h : HttpStateView). Finds h (record before { lane = c.take_continue-is_due.new.self; has_unparsed = false; awaits_continue = c.if-self-2.self }) input.Nothing) c.self.view_is
    (subst (λ (b : Bool). Finds before (record before { lane = c.take_continue-is_due.new.self; has_unparsed = false; awaits_continue = b }) input.Nothing) (sym awaits)
    (subst (λ (l : Lane). Finds before (record before { lane = l; has_unparsed = false; awaits_continue = c.self.inside.awaits_continue || c.next_request.new.self.due }) input.Nothing) (sym c.take_continue-is_due.ensures.taken) found))
