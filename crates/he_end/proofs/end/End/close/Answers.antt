use Rattle.std.proofs.Common.{refl}
use Rattle.he_end.proofs.Ends.{closed}
use Rattle.he_end.proofs.end.End.close.Goals as goal

pub returns-clause-live : goal.returns-clause-live
returns-clause-live c wire config h st live =
    closed wire config c.args.self.now c.close.new.self h st c.close.ensures.limits c.unread_stays.ensures c.args.reason c.args.allow live
    (c.close.ensures.live config _ st.remembers live)

pub returns-clause-closed : goal.returns-clause-closed
returns-clause-closed c wire config h st over = rw (c.close.ensures.closed config _ st.remembers over) refl
