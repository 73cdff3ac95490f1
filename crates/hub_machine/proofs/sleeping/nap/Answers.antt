use Rattle.std.proofs.Common.{rules, sym, subst, ◌∙◌, true≢false}
use Rattle.hd_calls.specs.Peers.{byte_steps, steps}
use Rattle.hd_delivery.specs.Histories.{present_link}
use Rattle.he_end.specs.Stands as of_end
use Rattle.hub_machine.proofs.Napping.{no_link, too_late}
use Rattle.hub_machine.proofs.sleeping.nap.Goals as goal

pub returns-then-not-is_attached : goal.returns-then-not-is_attached
returns-then-not-is_attached g c = λ t h s none. record {
  unshut = sym (c.is_over.ensures t h s) ∙ c.if-is_over.false;
  undue = λ d. true≢false (sym ((c.due.ensures t h s).1 d) ∙ c.if-due.false);
  unsaid = none;
  deadline = no_link (present_link (steps t h)) (sym (c.is_attached.ensures t h s) ∙ c.if-not-is_attached.true);
  counted = search rules;
}

pub returns-then-deadline-clock : goal.returns-then-deadline-clock
returns-then-deadline-clock g c = λ t h s none.
    too_late c.args.clock c.deadline-deadline.result t h c.if-deadline-clock.true (sym (c.is_attached.ensures t h s) ∙ c.if-not-is_attached.false)
    (c.deadline-deadline.ensures t.wire t.config (byte_steps t h)
    (subst (λ e. of_end.Stands t.wire t.config e (byte_steps t h)) (sym c.end.ensures) s.end)
    (sym (c.is_attached.ensures t h s) ∙ c.if-not-is_attached.false))
