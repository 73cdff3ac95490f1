use Rattle.std.proofs.Common.{refl}
use Rattle.he_end.proofs.Ends.{detached}
use Rattle.he_end.proofs.end.End.detach.Goals as goal

pub returns-clause-left : goal.returns-clause-left
returns-clause-left c wire config h st l at late =
    detached wire config c.args.self.now c.detach.new.self h st c.detach.ensures.limits c.unread_stays.ensures c.args.now l at late
    (c.detach.ensures.left config _ l st.remembers at late)

pub returns-clause-none : goal.returns-clause-none
returns-clause-none c wire config h st none = rw (c.detach.ensures.none config _ st.remembers none) refl
