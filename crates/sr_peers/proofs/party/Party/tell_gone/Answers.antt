use Rattle.std.proofs.Common.{◌++◌, arith}
use Rattle.sr_peers.proofs.Losses.{lost_none, lost_more, lost_all, lost_few}
use Rattle.sr_peers.proofs.party.Party.tell_gone.Goals as goal

pub loop-gone-init : goal.loop-gone-init
loop-gone-init g c = λ t h plays. lost_none {H = g.row.H.Denot} _ t h c.args.self.now c.args.report.now.items plays

pub loop-gone-preserved : goal.loop-gone-preserved
loop-gone-preserved g c = λ t h plays.
    let has = c.loop-gone.invariant t h plays in
    lost_more {H = g.row.H.Denot} _ t h c.loop-gone.self c.args.report.now.items c.loop-gone.report.items c.loop-gone._gone has c.lost_call.new.self c.in-Some.call
    c.push_gone.new.report.items (c.in-Some.ensures.lost t (has.moves ++ h) has.goes.plays.stands) c.in_ok-push_gone-in-Some.ensures

pub returns-in-None : goal.returns-in-None
returns-in-None g c = λ t h plays.
    let has = c.loop-gone.invariant t h plays in
    lost_all {H = g.row.H.Denot} _ t h c.loop-gone.self c.args.report.now.items c.loop-gone.report.items c.loop-gone._gone has c.lost_call.new.self
    (c.in-None.ensures.lost t (has.moves ++ h) has.goes.plays.stands)

pub returns : goal.returns
returns g c = λ t h plays.
    absurd (let few = lost_few {H = g.row.H.Denot} _ t h c.args.self.now c.loop-gone.self c.args.report.now.items c.loop-gone.report.items c.loop-gone._gone
    c.losses_are_few.ensures c.peers_keep_their_calls.ensures plays (c.loop-gone.invariant t h plays) in omega arith)
