use Rattle.std.proofs.lemmas.Result.{on_ok_weaker}
use Rattle.sr_notation.proofs.telling.push_got_words.Goals as goal

pub returns-in-Closed : goal.returns-in-Closed
returns-in-Closed c = rw c.in-Closed.is (on_ok_weaker c.push_closed.result (λ words. words c.args.number c.in-Closed.allow) c.push_closed.ensures)

pub returns-in-Skipped : goal.returns-in-Skipped
returns-in-Skipped c = rw c.in-Skipped.is (on_ok_weaker c.push_skipped.result (λ words. words c.args.number) c.push_skipped.ensures)
