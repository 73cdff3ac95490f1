use Rattle.he_end.proofs.Ends.{ticks}
use Rattle.he_end.proofs.end.End.tick.Goals as goal

pub returns-clause-ticks : goal.returns-clause-ticks
returns-clause-ticks c wire config h st late =
    let r = c.tick.ensures.ticked config _ st.remembers late in
    (r.0, ticks wire config c.args.self.now c.tick.new.self h st c.tick.ensures.limits c.unread_stays.ensures c.args.now c.tick.result r.0 late r.1)
