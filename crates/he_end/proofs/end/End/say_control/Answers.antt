use Rattle.he_end.proofs.Outs.{on_control_buffer}
use Rattle.he_end.proofs.end.End.say_control.Goals as goal

pub returns-clause-said : goal.returns-clause-said
returns-clause-said c wire config h st f owed named = c.say.ensures.said wire config h (on_control_buffer wire config c.args.self.now h _ st) f owed named
