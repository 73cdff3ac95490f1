use Rattle.std.proofs.Common.{◌++◌, subst}
use Rattle.sr_peers.specs.Doings.{ticking}
use Rattle.sr_peers.proofs.Chains.{with_losses}
use Rattle.sr_peers.proofs.Links.{HasTicked, silences, ticks}
use Rattle.sr_peers.proofs.party.Party.tick.Goals as goal

pub returns-then-tick : goal.returns-then-tick
returns-then-tick g c = λ t h plays late.
    let ticked = subst (HasTicked {H = g.row.H.Denot} _ t h c.tick.new.self c.args.now) c.if-tick.true (c.tick.ensures.ticks t h plays.stands late) in
    let silent = silences {H = g.row.H.Denot} _ t h c.args.self.now plays c.tick.new.self c.args.now c.args.report.now.items c.push_silent.new.report.items
    ticked c.in_ok-push_silent.ensures in
    with_losses {H = g.row.H.Denot} _ t h _ c.tell_gone.new.self c.args.report.now.items c.push_silent.new.report.items c.tell_gone.new.report.items
    (ticking t h c.args.now) silent (c.in_ok-tell_gone.ensures t (ticking t h c.args.now ++ h) silent.plays)

pub returns : goal.returns
returns g c = λ t h plays late.
    let ticked = subst (HasTicked {H = g.row.H.Denot} _ t h c.tick.new.self c.args.now) c.if-tick.false (c.tick.ensures.ticks t h plays.stands late) in
    let heard = ticks {H = g.row.H.Denot} _ t h c.args.self.now plays c.tick.new.self c.args.now c.args.report.now.items ticked in
    with_losses {H = g.row.H.Denot} _ t h _ c.tell_gone-2.new.self c.args.report.now.items c.args.report.now.items c.tell_gone-2.new.report.items
    (ticking t h c.args.now) heard (c.in_ok-tell_gone-2.ensures t (ticking t h c.args.now ++ h) heard.plays)
