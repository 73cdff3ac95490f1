use Rattle.std.proofs.Common.{◌≡◌, ◌∙◌, sym, ap, subst, refl, inl, inr, ⊎_elim, Ok, Err}
use Rattle.sr_client.specs.Grammar.{RefusesText}
use Rattle.sr_app.specs.Run.{status_of_run}
use Rattle.sr_app.specs.declared.run.Status.TheVariants.{ReadFault}
use Rattle.sr_app.proofs.Told.{appended_nothing}
use Rattle.sr_app.proofs.Dialed.{not_of_a_run, ran_ends, refused_ends}
use Rattle.sr_app.proofs.run.dial.Goals as goal

pub returns-in-Ok-run_client-clause-dials : goal.returns-in-Ok-run_client-clause-dials
returns-in-Ok-run_client-clause-dials g c =
    ran_ends c.args.asked c.limits-limits.result (λ calls. g.C.Dialer.Goes c.args.dialer.now calls c.run_client.new.dialer) _ c.args.text.now c.in-Ok.script
    _ _ _ _ _ _ _ c.run_client.result (sym (ap status_of_run c.in-Ok-run_client.is)) c.limits-limits.ensures c.in-Ok.ensures.ok c.run_client.ensures.dials c.run_client.ensures.cause

pub returns-clause-dials : goal.returns-clause-dials
returns-clause-dials g c =
    ran_ends c.args.asked c.limits-limits.result (λ calls. g.C.Dialer.Goes c.args.dialer.now calls c.run_client.new.dialer) _ c.args.text.now c.in-Ok.script
    _ _ _ _ _ _ _ c.run_client.result (c.from.ensures ∙ sym (ap status_of_run c.in-Err.is)) c.limits-limits.ensures c.in-Ok.ensures.ok c.run_client.ensures.dials c.run_client.ensures.cause

pub returns-clause-touched : goal.returns-clause-touched
returns-clause-touched g c = λ differ. c.run_client.ensures.touched (λ is. differ (c.from.ensures ∙ sym (ap status_of_run c.in-Err.is) ∙ ap status_of_run is))

pub returns-clause-read : goal.returns-clause-read
returns-clause-read g c = λ is. not_of_a_run ReadFault tt (Err c.in-Err.error) (sym is ∙ c.from.ensures)

pub returns-in-Err-Line-clause-dials : goal.returns-in-Err-Line-clause-dials
returns-in-Err-Line-clause-dials g c =
    refused_ends c.args.asked c.refuse.result (λ calls. g.C.Dialer.Goes c.args.dialer.now calls c.args.dialer.now) _ c.args.text.now c.in-Err-Line.number _
    (g.K.Sink.holds c.args.out.now) (g.K.Sink.holds c.refuse.new.out) _ _ (g.K.Sink.faults c.args.out.now) (g.K.Sink.faults c.refuse.new.out) (refl, refl)
    (subst (λ e. RefusesText e c.args.text.now) c.in-Err-Line.field-0-is c.in-Err-Line.ensures.refused)
    c.refuse.ensures.same c.refuse.ensures.whole c.refuse.ensures.part c.refuse.ensures.unfailed (λ is. ap g.K.Sink.holds (c.refuse.ensures.no_memory is))

pub returns-in-Err-NoMemory-clause-dials : goal.returns-in-Err-NoMemory-clause-dials
returns-in-Err-NoMemory-clause-dials g c = inr ((appended_nothing (g.K.Sink.holds c.args.out.now), refl), (refl, refl))
