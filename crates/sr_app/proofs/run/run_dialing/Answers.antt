use Rattle.std.proofs.Common.{refl, inr}
use Rattle.sr_app.specs.declared.run.Status.TheVariants.{ReadFault, NoMemory}
use Rattle.sr_app.specs.Run.{dial_environment}
use Rattle.sr_client.specs.Running.{faults}
use Rattle.sr_app.proofs.Told.{appended_nothing}
use Rattle.sr_app.proofs.Dialed.{dialing_ends, ends_told, undialed_ends}
use Rattle.sr_app.proofs.run.run_dialing.Goals as goal

pub returns-in-Ok-clause-ends : goal.returns-in-Ok-clause-ends
returns-in-Ok-clause-ends g c =
    dialing_ends c.has_wire.ensures c.long_scripts_are_refused_by_their_front.ensures c.args.asked c.dial.result _ _ (g.S.Source.left c.args.input.now) (g.S.Source.left c.read_all.new.input)
    c.in-Ok.text.items (g.S.Source.faults c.args.input.now) (g.S.Source.faults c.read_all.new.input) _ _ (record {
      read = c.in-Ok.ensures.read;
      ended = c.in-Ok.ensures.ended;
      reads = c.read_all.ensures.bounded;
    }) c.dial.ensures.read (rw c.deref.ensures.value at c.dial.ensures.dials)

pub returns-in-Ok-clause-dials : goal.returns-in-Ok-clause-dials
returns-in-Ok-clause-dials g c =
    ends_told c.long_scripts_are_refused_by_their_front.ensures c.args.asked c.dial.result (λ calls. g.C.Dialer.Goes c.args.dialer.now calls c.dial.new.dialer) _
    (g.S.Source.left c.args.input.now) (g.S.Source.left c.read_all.new.input) c.in-Ok.text.items _ _ (record {
      read = c.in-Ok.ensures.read;
      ended = c.in-Ok.ensures.ended;
      reads = c.read_all.ensures.bounded;
    }) (rw c.deref.ensures.value at c.dial.ensures.dials)

pub returns-in-Err-Failed-clause-ends : goal.returns-in-Err-Failed-clause-ends
returns-in-Err-Failed-clause-ends g c =
    let still = dial_environment (g.L.Lots.drawn c.args.lots.now) (g.K.Sink.holds c.args.out.now)
    (faults (g.C.Dialer.faults c.args.dialer.now) (g.L.Lots.faults c.args.lots.now) (g.K.Sink.faults c.args.out.now)) in
    undialed_ends c.args.asked ReadFault (g.S.Source.left c.args.input.now) (g.S.Source.left c.read_all.new.input) (g.S.Source.faults c.args.input.now) (g.S.Source.faults c.read_all.new.input)
    still still c.read_all.ensures.bounded (λ is. c.read_all.ensures.failed (cc)) (appended_nothing (g.K.Sink.holds c.args.out.now), refl)

pub returns-in-Err-Failed-clause-dials : goal.returns-in-Err-Failed-clause-dials
returns-in-Err-Failed-clause-dials g c = inr ((appended_nothing (g.K.Sink.holds c.args.out.now), refl), (refl, refl))

pub returns-clause-ends : goal.returns-clause-ends
returns-clause-ends g c =
    let still = dial_environment (g.L.Lots.drawn c.args.lots.now) (g.K.Sink.holds c.args.out.now)
    (faults (g.C.Dialer.faults c.args.dialer.now) (g.L.Lots.faults c.args.lots.now) (g.K.Sink.faults c.args.out.now)) in
    undialed_ends c.args.asked NoMemory (g.S.Source.left c.args.input.now) (g.S.Source.left c.read_all.new.input) (g.S.Source.faults c.args.input.now) (g.S.Source.faults c.read_all.new.input)
    still still c.read_all.ensures.bounded (λ is. cc) (appended_nothing (g.K.Sink.holds c.args.out.now), refl)

pub returns-clause-dials : goal.returns-clause-dials
returns-clause-dials g c = inr ((appended_nothing (g.K.Sink.holds c.args.out.now), refl), (refl, refl))
