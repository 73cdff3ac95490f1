use Rattle.std.proofs.Common.{◌++◌, arith}
use Rattle.sr_client.specs.Peers.{lends}
use Rattle.sr_client.proofs.Chains.{history_of}
use Rattle.sr_client.proofs.Said.{lent_all, lent_end, lent_more, lent_none, said_so}
use Rattle.sr_client.proofs.peer.ClientPeer.say_all.Goals as goal

pub loop-said-init : goal.loop-said-init
loop-said-init c = λ t h plays. lent_none t h c.args.out.now.items c.args.self.now plays

pub loop-said-preserved : goal.loop-said-preserved
loop-said-preserved c = λ t h plays.
    let has = c.loop-said.invariant t h plays in
    lent_more t h c.args.out.now.items c.loop-said.self c.say_one.new.self c.loop-said.any c.loop-said.out.items c.say_one.new.out.items
    c.loop-said._said has
    (said_so t (lends has.frames ++ h) c.say_one.new.self c.loop-said.out.items c.say_one.new.out.items _ _ c.if-not-branch.false
    (c.in_ok-say_one.ensures t (lends has.frames ++ h) has.plays))

pub returns-then-not-branch : goal.returns-then-not-branch
returns-then-not-branch c = λ t h plays.
    let has = c.loop-said.invariant t h plays in
    lent_all t h c.args.out.now.items c.loop-said.self c.say_one.new.self c.loop-said.any c.loop-said.out.items c.say_one.new.out.items
    c.loop-said._said has
    (said_so t (lends has.frames ++ h) c.say_one.new.self c.loop-said.out.items c.say_one.new.out.items _ _ c.if-not-branch.true
    (c.in_ok-say_one.ensures t (lends has.frames ++ h) has.plays))

pub returns : goal.returns
returns c = λ t h plays.
    lent_end t h c.loop-said.self c.loop-said.any c.args.out.now.items c.loop-said.out.items c.loop-said._said c.writes_few.ensures
    c.facts_hold.ensures (history_of t c.args.self.now h plays.on) (c.loop-said.invariant t h plays) (omega arith)
