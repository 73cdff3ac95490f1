use Rattle.std.proofs.Common.{sym, ◌∙◌}
use Rattle.hm_message.specs.declared.message.Message.TheVariants.{CancelInvocation}
use Rattle.hi_calls.specs.Numbering.{id_with}
use Rattle.hi_calls.proofs.Looking.{is_live, live_within}
use Rattle.hi_calls.proofs.Steady.{stopped}
use Rattle.hi_calls.proofs.calls.Calls.cancel.Goals as goal

pub returns-clause-ok : goal.returns-clause-ok
returns-clause-ok c = λ prefix h s.
    let live = is_live c.args.self.now prefix h s c.args.call (sym c.contains_key.ensures ∙ c.if-not-contains_key.false) in
    let id = c.in_ok-id.ensures (live_within c.args.self.now prefix h s c.args.call live) ∙ (λ i. id_with (s.draws_with i) c.args.call) in
    record {
      live = live;
      says = λ i. CancelInvocation (c.none.ensures i) (id i);
      stands = stopped c.args.self.now prefix h c.args.call s live;
    }
