use Rattle.std.proofs.Common.{ap}
use Rattle.hm_codec.specs.Words.{why_words}
use Rattle.hd_delivery.specs.Histories.{Unread}
use Rattle.he_end.proofs.Nexts.{fails}
use Rattle.he_end.proofs.end.End.fail.Goals as goal

pub returns-clause-failed : goal.returns-clause-failed
returns-clause-failed c wire config h st awaits =
    let number = c.own_number-link.ensures config _ awaits.link st.remembers awaits.at in
    fails wire config c.args.self.now c.fail.new.self h st (ap (λ s. s.ring.limits) c.fail.ensures.after) (Unread c.own_number-link.result c.args.at (why_words c.args.why))
    (rw number (c.fail.ensures.made config _ c.args.at (why_words c.args.why) st.remembers awaits))
