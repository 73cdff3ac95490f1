use Rattle.std.proofs.Common.{◌++◌, arith}
use Rattle.sr_client.proofs.Chains.{history_of, is_sound}
use Rattle.sr_client.proofs.Taken.{taken_all, taken_end, taken_more, taken_none, takes_so}
use Rattle.sr_client.proofs.peer.ClientPeer.take_all.Goals as goal

pub loop-taken-init : goal.loop-taken-init
loop-taken-init c = λ t h on. taken_none t h c.args.now c.args.out.now.items c.args.self.now on

pub loop-taken-preserved : goal.loop-taken-preserved
loop-taken-preserved c = λ t h on.
    let has = c.loop-taken.invariant t h on in
    taken_more t h c.args.now c.args.out.now.items c.loop-taken.self c.take_one.new.self c.loop-taken.out.items c.take_one.new.out.items
    c.loop-taken._taken has
    (takes_so t (has.moves ++ h) c.take_one.new.self c.args.now c.loop-taken.out.items c.take_one.new.out.items _ _ c.if-not-branch.false
    (c.in_ok-take_one.ensures t (has.moves ++ h) has.goes.plays))

pub returns-then-not-branch : goal.returns-then-not-branch
returns-then-not-branch c = λ t h on.
    let has = c.loop-taken.invariant t h on in
    taken_all t h c.args.now c.args.out.now.items c.loop-taken.self c.take_one.new.self c.loop-taken.out.items c.take_one.new.out.items
    c.loop-taken._taken has
    (takes_so t (has.moves ++ h) c.take_one.new.self c.args.now c.loop-taken.out.items c.take_one.new.out.items _ _ c.if-not-branch.true
    (c.in_ok-take_one.ensures t (has.moves ++ h) has.goes.plays))

pub returns : goal.returns
returns c = λ t h on.
    taken_end t h c.loop-taken.self c.args.now c.args.out.now.items c.loop-taken.out.items c.loop-taken._taken c.takes_few.ensures
    (is_sound t c.args.self.now h on c.wire_is_sound.ensures) (history_of t c.args.self.now h on) (c.frames_are_few.ensures t h on)
    (c.loop-taken.invariant t h on) (omega arith)
