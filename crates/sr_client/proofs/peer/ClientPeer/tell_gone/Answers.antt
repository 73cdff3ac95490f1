use Rattle.std.proofs.Common.{◌++◌, arith}
use Rattle.sr_client.proofs.Gone.{lost_none, lost_more, lost_all, lost_few, names}
use Rattle.sr_client.proofs.peer.ClientPeer.tell_gone.Goals as goal

pub loop-gone-init : goal.loop-gone-init
loop-gone-init c = λ t h plays. lost_none t h c.args.out.now.items c.args.self.now plays

pub loop-gone-preserved : goal.loop-gone-preserved
loop-gone-preserved c = λ t h plays.
    let has = c.loop-gone.invariant t h plays in
    lost_more t h c.args.out.now.items c.loop-gone.self c.loop-gone.out.items c.loop-gone._gone has c.lost_call.new.self c.in-Some.call
    c.push_gone.new.out.items (c.in-Some.ensures.lost t (names has.numbers ++ h) has.goes.plays.on.stands) c.in_ok-push_gone-in-Some.ensures

pub returns-in-None : goal.returns-in-None
returns-in-None c = λ t h plays.
    let has = c.loop-gone.invariant t h plays in
    lost_all t h c.args.out.now.items c.loop-gone.self c.loop-gone.out.items c.loop-gone._gone has c.lost_call.new.self
    (c.in-None.ensures.lost t (names has.numbers ++ h) has.goes.plays.on.stands)

pub returns : goal.returns
returns c = λ t h plays.
    absurd (let few = lost_few t h c.args.self.now c.loop-gone.self c.args.out.now.items c.loop-gone.out.items c.loop-gone._gone
    c.peers_keep_their_calls.ensures plays (c.loop-gone.invariant t h plays) in omega arith)
