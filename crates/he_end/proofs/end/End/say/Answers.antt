use Rattle.he_end.proofs.Ends.{lent}
use Rattle.he_end.proofs.end.End.say.Goals as goal

pub returns-clause-said : goal.returns-clause-said
returns-clause-said c wire config h st f owed named =
    lent wire config c.args.self.now c.say.new.self h st c.say.ensures.limits c.unread_stays.ensures f owed (c.say.ensures.said config _ f st.remembers owed named c.requires)
