use Rattle.he_end.proofs.Ends.{fed}
use Rattle.he_end.proofs.Feeds.{taken}
use Rattle.he_end.proofs.end.End.feed.Goals as goal

pub returns-clause-fed : goal.returns-clause-fed
returns-clause-fed c wire config h st l at live =
    fed wire config c.args.self.now c.hear.new.self c.feed.new.self h st c.hear.ensures.limits c.unread_grows.ensures c.wire_is_sound.ensures _ l at live
    c.feed.ensures.fed c.feed.ensures.room (λ frames. c.hear.ensures.heard config _ l frames st.remembers at)

pub returns-clause-count : goal.returns-clause-count
returns-clause-count c wire config h st l at live =
    taken wire config c.args.self.now h st c.facts_hold.ensures c.wire_is_sound.ensures c.one_beginning.ensures l at live _ _
    c.feed.ensures.refused c.feed.ensures.count
