use Rattle.std.proofs.Common.{refl}
use Rattle.hi_calls.proofs.Steady.{upload_ended}
use Rattle.hi_calls.proofs.calls.Calls.upload_ended.Goals as goal

pub returns-then-has-clause-ended : goal.returns-then-has-clause-ended
returns-then-has-clause-ended c = λ prefix h s live e _. upload_ended c.args.self.now _ prefix h c.args.call c.args.which e s live refl refl refl c.end.ensures.ended c.end.ensures.size
