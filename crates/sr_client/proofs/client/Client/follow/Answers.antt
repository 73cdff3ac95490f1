use Rattle.std.proofs.Common.{sym, ◌∙◌}
use Rattle.hn_dialing.specs.Calls.{news_of}
use Rattle.sr_client.proofs.Following.{follows_over, follows_ticks, may_link}
use Rattle.sr_client.proofs.Keeping.{on_ok}
use Rattle.sr_client.proofs.client.Client.follow.Goals as goal

pub returns-then-is_over-clause-followed : goal.returns-then-is_over-clause-followed
returns-then-is_over-clause-followed c = λ s b h kept may tells opened none fits at.
    let news = news_of c.args.news in
    let ready = may_link s b c.args.self.now c.start_peer.new.self c.args.words.now news h c.start_peer.ensures.others kept
    (c.in_ok-start_peer.ensures.started s h kept may) tells opened none fits in
    let told = c.in_ok-link.ensures.linked s b h ready at in
    follows_over s b c.link.new.self c.link.new.words c.args.now news h at told
    (sym (c.is_over.ensures s told.after told.working.standing) ∙ c.if-is_over.true)

pub returns-clause-followed : goal.returns-clause-followed
returns-clause-followed c =
    on_ok c.tick.result
    (λ ticked s b h kept may tells opened none fits at.
    let news = news_of c.args.news in
    let ready = may_link s b c.args.self.now c.start_peer.new.self c.args.words.now news h c.start_peer.ensures.others kept
    (c.in_ok-start_peer.ensures.started s h kept may) tells opened none fits in
    let told = c.in_ok-link.ensures.linked s b h ready at in
    follows_ticks s b c.link.new.self c.link.new.words c.args.now news h at told c.tick.new.self c.tick.new.words
    (sym (c.is_over.ensures s told.after told.working.standing) ∙ c.if-is_over.false) (ticked s b)) c.tick.ensures.ticked
