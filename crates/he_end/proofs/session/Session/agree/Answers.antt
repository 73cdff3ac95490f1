use Rattle.he_end.proofs.Shaken.{remembers_shaken}
use Rattle.he_end.proofs.session.Session.agree.Goals as goal

pub returns-clause-made : goal.returns-clause-made
returns-clause-made c cc' k f r e a counts =
    rw (c.keep.ensures.keeps (r.unshaken e).0, c.would_keep-kept.ensures) (remembers_shaken cc' c.args.self.now k f c.args.codec c.args.version r e a counts)
