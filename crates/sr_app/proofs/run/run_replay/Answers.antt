use Rattle.std.proofs.Common.{refl, ap}
use Rattle.sr_app.proofs.Answering.{replay_ends, replay_forgone}
use Rattle.sr_app.proofs.run.run_replay.Goals as goal

pub returns-in-Ok-clause-ends : goal.returns-in-Ok-clause-ends
returns-in-Ok-clause-ends g c =
    replay_ends c.long_is_refused_by_its_front.ensures (g.S.Source.left c.args.input.now) (g.S.Source.left c.read_all.new.input) (g.K.Sink.holds c.args.out.now) (g.K.Sink.holds c.answer.new.out)
    (g.S.Source.faults c.args.input.now) (g.S.Source.faults c.read_all.new.input) (g.K.Sink.faults c.args.out.now) (g.K.Sink.faults c.answer.new.out)
    c.in-Ok.text.items c.answer.result (record {
      read = c.in-Ok.ensures.read;
      ended = c.in-Ok.ensures.ended;
      reads = c.read_all.ensures.bounded;
    }) (rw c.deref.ensures.value at c.answer.ensures.answered) (λ is. ap g.K.Sink.holds (c.answer.ensures.no_memory is))

pub returns-in-Ok-clause-faults : goal.returns-in-Ok-clause-faults
returns-in-Ok-clause-faults g c = record { source = λ differ. c.read_all.ensures.unfailed (λ is. cc); sink = c.answer.ensures.unfailed }

pub returns-in-Err-NoMemory-clause-ends : goal.returns-in-Err-NoMemory-clause-ends
returns-in-Err-NoMemory-clause-ends g c =
    replay_forgone (g.S.Source.left c.args.input.now) (g.S.Source.left c.read_all.new.input) (g.K.Sink.holds c.args.out.now) (g.S.Source.faults c.args.input.now)
    (g.S.Source.faults c.read_all.new.input) (g.K.Sink.faults c.args.out.now) (g.K.Sink.faults c.args.out.now) c.read_all.ensures.bounded

pub returns-in-Err-NoMemory-clause-faults : goal.returns-in-Err-NoMemory-clause-faults
returns-in-Err-NoMemory-clause-faults g c = record { source = λ differ. c.read_all.ensures.unfailed (λ is. cc); sink = λ differ. refl }
