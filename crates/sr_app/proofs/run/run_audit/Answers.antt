use Rattle.std.proofs.Common.{refl}
use Rattle.sr_app.specs.Run.{auditing}
use Rattle.sr_app.proofs.Audited.{auditing_is_of_text}
use Rattle.sr_app.proofs.WholeTexts.{whole_answered, whole_forgone, whole_unread}
use Rattle.sr_app.proofs.run.run_audit.Goals as goal

pub returns-in-Ok-clause-ends : goal.returns-in-Ok-clause-ends
returns-in-Ok-clause-ends g c =
    whole_answered 67108864 (auditing c.args.side) (auditing_is_of_text c.long_is_refused_by_its_front.ensures c.args.side)
    (g.S.Source.left c.args.input.now) (g.S.Source.left c.read_all.new.input) (g.K.Sink.holds c.args.out.now) (g.K.Sink.holds c.audit_text.new.out)
    (g.S.Source.faults c.args.input.now) (g.S.Source.faults c.read_all.new.input) (g.K.Sink.faults c.args.out.now)
    (g.K.Sink.faults c.audit_text.new.out)
    c.in-Ok.text.items c.audit_text.result (record {
      read = c.in-Ok.ensures.read;
      ended = c.in-Ok.ensures.ended;
      reads = c.read_all.ensures.bounded;
    }) (rw c.deref.ensures.value at c.audit_text.ensures.answered)

pub returns-in-Ok-clause-faults : goal.returns-in-Ok-clause-faults
returns-in-Ok-clause-faults g c = record { source = λ differ. c.read_all.ensures.unfailed (λ is. cc); sink = c.audit_text.ensures.unfailed }

pub returns-in-Err-NoMemory-clause-ends : goal.returns-in-Err-NoMemory-clause-ends
returns-in-Err-NoMemory-clause-ends g c =
    whole_forgone 67108864 (auditing c.args.side) (auditing_is_of_text c.long_is_refused_by_its_front.ensures c.args.side)
    (g.S.Source.left c.args.input.now) (g.S.Source.left c.read_all.new.input) (g.K.Sink.holds c.args.out.now) (g.S.Source.faults c.args.input.now)
    (g.S.Source.faults c.read_all.new.input) (g.K.Sink.faults c.args.out.now) (g.K.Sink.faults c.args.out.now) c.read_all.ensures.bounded

pub returns-in-Err-NoMemory-clause-faults : goal.returns-in-Err-NoMemory-clause-faults
returns-in-Err-NoMemory-clause-faults g c = record { source = λ differ. c.read_all.ensures.unfailed (λ is. cc); sink = λ differ. refl }

pub returns-in-Err-Failed-clause-ends : goal.returns-in-Err-Failed-clause-ends
returns-in-Err-Failed-clause-ends g c =
    whole_unread 67108864 (auditing c.args.side) (auditing_is_of_text c.long_is_refused_by_its_front.ensures c.args.side)
    (g.S.Source.left c.args.input.now) (g.S.Source.left c.read_all.new.input) (g.K.Sink.holds c.args.out.now) (g.S.Source.faults c.args.input.now)
    (g.S.Source.faults c.read_all.new.input) (g.K.Sink.faults c.args.out.now) (c.read_all.ensures.failed (cc)) c.read_all.ensures.bounded
