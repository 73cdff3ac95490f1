use Rattle.std.proofs.Common.{◌≡◌, ◌+◌, suc, subst, arith}
use Rattle.sr_soak.specs.Plays.{HasTurn, HasTurned}
use Rattle.sr_soak.proofs.Turning.{turned_none, turned_more, turned_idly, turned_all}
use Rattle.sr_soak.proofs.soaking.close.Goals as goal

pub loop-turned-init : goal.loop-turned-init
loop-turned-init c = λ actions reaches. turned_none actions c.args.peers.now reaches

pub loop-turned-preserved : goal.loop-turned-preserved
loop-turned-preserved c = λ actions reaches.
    let next : suc c.loop-turned._turned ≡ c.loop-turned._turned + 1 = omega arith in
    subst (λ n. HasTurned actions n c.turn.new.peers) next
    (turned_more actions c.loop-turned._turned c.loop-turned.peers c.turn.new.peers
    (subst (HasTurn c.loop-turned.peers c.turn.new.peers) c.if-not-branch.false c.in_ok-turn.ensures)
    (c.loop-turned.invariant actions reaches))

pub returns-then-not-branch : goal.returns-then-not-branch
returns-then-not-branch c = λ actions reaches.
    turned_idly actions c.args.most c.loop-turned._turned c.loop-turned.peers c.turn.new.peers (omega arith)
    (subst (HasTurn c.loop-turned.peers c.turn.new.peers) c.if-not-branch.true c.in_ok-turn.ensures)
    (c.loop-turned.invariant actions reaches)

pub returns : goal.returns
returns c = λ actions reaches.
    turned_all actions c.args.most c.loop-turned.peers
    (subst (λ n. HasTurned actions n c.loop-turned.peers) (omega arith) (c.loop-turned.invariant actions reaches))
