use Rattle.std.proofs.Common.{◌++◌, arith}
use Rattle.hj_jobs.specs.Meaning.{meaning}
use Rattle.hub_machine.proofs.Doing.{peer_is}
use Rattle.hub_machine.proofs.FeedTaken.{taken_all, taken_end, taken_more, taken_none, takes_so}
use Rattle.hub_machine.proofs.Lags.{is_sound}
use Rattle.hub_machine.proofs.peer_traffic.take_all.Goals as goal

pub loop-taken-init : goal.loop-taken-init
loop-taken-init g c = λ t h s. taken_none {H = g.row.H.Denot} {Job = g.row.H-Job.Denot} _ t h c.args.now c.args.peer.now s

pub loop-taken-preserved : goal.loop-taken-preserved
loop-taken-preserved g c = λ t h s.
    let hub = meaning g.H.Hub.begin_of g.H.Hub.step_of in
    let has = c.loop-taken.invariant t h s in
    taken_more {H = g.row.H.Denot} {Job = g.row.H-Job.Denot} hub t h c.args.now c.loop-taken.peer c.take_one.new.peer c.loop-taken._taken has
    (takes_so {H = g.row.H.Denot} {Job = g.row.H-Job.Denot} hub t (has.moves ++ h) c.take_one.new.peer c.args.now _ _ c.if-not-branch.false
    (c.in_ok-take_one.ensures t (has.moves ++ h) has.stands))

pub returns-then-not-branch : goal.returns-then-not-branch
returns-then-not-branch g c = λ t h s.
    let hub = meaning g.H.Hub.begin_of g.H.Hub.step_of in
    let has = c.loop-taken.invariant t h s in
    taken_all {H = g.row.H.Denot} {Job = g.row.H-Job.Denot} hub t h c.args.now c.loop-taken.peer c.take_one.new.peer c.loop-taken._taken has
    (takes_so {H = g.row.H.Denot} {Job = g.row.H-Job.Denot} hub t (has.moves ++ h) c.take_one.new.peer c.args.now _ _ c.if-not-branch.true
    (c.in_ok-take_one.ensures t (has.moves ++ h) has.stands))

pub returns : goal.returns
returns g c = λ t h s.
    let hub = meaning g.H.Hub.begin_of g.H.Hub.step_of in
    let was = c.args.peer.now in
    taken_end {H = g.row.H.Denot} {Job = g.row.H-Job.Denot} hub t h c.loop-taken.peer c.args.now c.loop-taken._taken c.takes_few.ensures
    (is_sound {H = g.row.H.Denot} {Job = g.row.H-Job.Denot} hub t was h s c.wire_is_sound.ensures)
    (peer_is {H = g.row.H.Denot} {Job = g.row.H-Job.Denot} hub t was h s).is_history
    (c.frames_are_few.ensures t h s) (c.loop-taken.invariant t h s) (omega arith)
