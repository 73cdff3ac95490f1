use Rattle.std.proofs.Common.{Err, ap}
use Rattle.sr_words.proofs.reading.hub.Goals as goal

pub returns-in-Err-NoAddress-clause-none : goal.returns-in-Err-NoAddress-clause-none
returns-in-Err-NoAddress-clause-none c = λ _ address. c.in-Err-NoAddress.ensures.none (ap Err c.in-Err-NoAddress.field-0-is) address
