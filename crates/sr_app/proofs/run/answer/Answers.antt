use Rattle.std.proofs.Common.{refl, inl, inr, ⊎_elim, sym, subst}
use Rattle.sr_script.specs.Reading.{RefusesText}
use Rattle.sr_script.specs.Script.{Parses, refusal_line}
use Rattle.sr_app.specs.declared.run.Status.TheVariants.{Done, Refused}
use Rattle.sr_app.proofs.run.answer.Goals as goal

pub returns-in-Ok-replay-clause-touched : goal.returns-in-Ok-replay-clause-touched
returns-in-Ok-replay-clause-touched g c = λ differ.
    let asks = c.in-Ok.ensures.ok in
    let p = asks.1.0 in
    let wrote = c.in-Ok-replay.ensures.ok p (subst (λ x. Parses x p) (sym asks.0) asks.1.1.holds) in
    inr (wrote.0, c.reports_have_lines.ensures p wrote.0 wrote.1.0, wrote.1.1)

pub returns-in-Err-Line-clause-answered : goal.returns-in-Err-Line-clause-answered
returns-in-Err-Line-clause-answered g c = λ differ. record {
  status = Refused;
  answer = refusal_line c.in-Err-Line.number;
  answers = record { number = c.in-Err-Line.number; first = (subst (λ e. RefusesText e c.args.text.now) c.in-Err-Line.field-0-is c.in-Err-Line.ensures.refused).0; line = refl };
  whole = c.refuse.ensures.whole;
  part = c.refuse.ensures.part;
  either = ⊎_elim (λ refused. inl refused) (λ other. ⊎_elim (λ fault. inr fault) (λ memory. absurd (differ memory)) other) c.refuse.ensures.same;
}

pub returns-in-Ok-replay-clause-answered : goal.returns-in-Ok-replay-clause-answered
returns-in-Ok-replay-clause-answered g c = λ differ.
    let asks = c.in-Ok.ensures.ok in
    let p = asks.1.0 in
    let wrote = c.in-Ok-replay.ensures.ok p (subst (λ x. Parses x p) (sym asks.0) asks.1.1.holds) in
    record {
      status = Done;
      answer = wrote.0;
      answers = record { asks = p; script = asks.1.1; report_is = wrote.1.0 };
      whole = λ is. wrote.1.1;
      part = λ is. cc;
      either = inl refl;
    }

pub returns-in-Err-Write-clause-answered : goal.returns-in-Err-Write-clause-answered
returns-in-Err-Write-clause-answered g c = λ differ.
    let asks = c.in-Ok.ensures.ok in
    let p = asks.1.0 in
    let fault = c.replay.ensures.write (cc) in
    let wrote = fault.1 p (subst (λ x. Parses x p) (sym asks.0) asks.1.1.holds) in
    record {
      status = Done;
      answer = wrote.0;
      answers = record { asks = p; script = asks.1.1; report_is = wrote.1.0 };
      whole = λ is. cc;
      part = λ is. (fault.0, wrote.1.1);
      either = inr refl;
    }
