use Rattle.hs_shake.specs.Responses.{refusal_text}
use Rattle.hs_shake.specs.Words.{shake_words}
use Rattle.hd_delivery.specs.Bytes.{in_frames}
use Rattle.hd_delivery.specs.Histories.{Shake}
use Rattle.he_end.specs.Remembers.{answer_text}
use Rattle.he_end.specs.Says.{answer_at}
use Rattle.he_end.proofs.Nexts.{fails}
use Rattle.he_end.proofs.Greets.{closed_for}
use Rattle.he_end.proofs.end.End.refuse.Goals as goal

pub returns-clause-made : goal.returns-clause-made
returns-clause-made c wire config h st unshaken owed awaits =
    fails wire config c.args.self.now c.refuse.new.self h st c.refuse.ensures.limits (Shake (shake_words c.args.e.now) (answer_at config.side (refusal_text c.args.e.now)))
    (closed_for config c.refuse.new.self (in_frames wire config h) c.args.e.now (answer_text c.to.result) c.to.ensures
    (λ why text. c.refuse.ensures.made config (in_frames wire config h) why text st.remembers unshaken) owed awaits)
