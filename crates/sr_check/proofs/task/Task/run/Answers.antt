use Rattle.sr_check.proofs.Inputs.{read_nothing, input_untouched}
use Rattle.sr_check.proofs.task.Task.run.Goals as goal

pub returns-in_err-splitter-clause-no_memory : goal.returns-in_err-splitter-clause-no_memory
returns-in_err-splitter-clause-no_memory g c = λ _. input_untouched c.args.self (g.S.Source.left c.args.input.now) (g.K.Sink.holds c.args.out.now)

pub returns-in_err-splitter-clause-no_further : goal.returns-in_err-splitter-clause-no_further
returns-in_err-splitter-clause-no_further g c = read_nothing c.args.self (g.S.Source.left c.args.input.now)
