use Rattle.sr_peers.proofs.Links.{taken_link, refused_for}
use Rattle.sr_peers.proofs.party.Party.attach.Goals as goal

pub returns-in-Ok : goal.returns-in-Ok
returns-in-Ok g c = λ t h plays fresh late.
    taken_link {H = g.row.H.Denot} _ t h c.args.self.now plays c.attach.new.self c.args.link c.args.now c.args.report.now.items
    (c.in-Ok.ensures.ok t h plays.stands c.args.link fresh late)

pub returns-in_ok-push_refused_attach-in-Err : goal.returns-in_ok-push_refused_attach-in-Err
returns-in_ok-push_refused_attach-in-Err g c = λ t h plays fresh late.
    refused_for {H = g.row.H.Denot} _ t h c.args.self.now plays c.attach.new.self c.args.link c.args.now c.in-Err.why c.args.report.now.items
    c.push_refused_attach.new.report.items c.in-Err.ensures.unchanged (λ e. c.in-Err.ensures.closed e t h plays.stands)
    (λ e. c.in-Err.ensures.not_granted e t h plays.stands) c.in_ok-push_refused_attach-in-Err.ensures
