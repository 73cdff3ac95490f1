use Rattle.std.proofs.Common.{inr, ap, refl}
use Rattle.sr_soak.specs.Soaks.{soak_line}
use Rattle.sr_app.proofs.Answering.{soak_done, soak_part, soak_forgone}
use Rattle.sr_app.proofs.run.run_soak.Goals as goal

pub returns-in-Ok-clause-ends : goal.returns-in-Ok-clause-ends
returns-in-Ok-clause-ends g c = λ left faults.
    let soaked = c.in-Ok.ensures.ok in
    soak_done c.args.seed c.args.steps _ left (g.K.Sink.holds c.args.out.now) (g.K.Sink.holds c.soak.new.out) faults (g.K.Sink.faults c.args.out.now)
    (g.K.Sink.faults c.soak.new.out) _ soaked.0 soaked.1 refl

pub returns-in-Ok-clause-touched : goal.returns-in-Ok-clause-touched
returns-in-Ok-clause-touched g c = λ differ.
    let soaked = c.in-Ok.ensures.ok in
    inr (soak_line c.args.seed c.args.steps _, (λ none. cc), soaked.1)

pub returns-in-Err-Write-clause-ends : goal.returns-in-Err-Write-clause-ends
returns-in-Err-Write-clause-ends g c = λ left faults.
    let part = c.soak.ensures.write (cc) in
    soak_part c.args.seed c.args.steps part.1.0 left (g.K.Sink.holds c.args.out.now) (g.K.Sink.holds c.soak.new.out) faults (g.K.Sink.faults c.args.out.now)
    (g.K.Sink.faults c.soak.new.out) _ part.1.1.0 part.0 part.1.1.1.0 part.1.1.1.1 refl

pub returns-in-Err-NoMemory-clause-ends : goal.returns-in-Err-NoMemory-clause-ends
returns-in-Err-NoMemory-clause-ends g c = λ left faults.
    soak_forgone c.args.seed c.args.steps left (g.K.Sink.holds c.args.out.now) (g.K.Sink.holds c.soak.new.out) faults (g.K.Sink.faults c.args.out.now)
    (g.K.Sink.faults c.soak.new.out) _ (ap g.K.Sink.holds (c.soak.ensures.no_memory (cc))) refl
