use Rattle.std.proofs.Common.{◌++◌, arith}
use Rattle.hj_jobs.specs.Meaning.{meaning}
use Rattle.hub_machine.specs.Traffic.{lends}
use Rattle.hub_machine.proofs.Doing.{peer_is}
use Rattle.hub_machine.proofs.SaysSome.{lent_all, lent_end, lent_more, lent_none, said_so}
use Rattle.hub_machine.proofs.peer_traffic.say_due.Goals as goal

pub loop-said-init : goal.loop-said-init
loop-said-init g c = λ t h s. lent_none {H = g.row.H.Denot} {Job = g.row.H-Job.Denot} _ t h c.args.out.now.items c.args.peer.now s

pub loop-said-preserved : goal.loop-said-preserved
loop-said-preserved g c = λ t h s.
    let hub = meaning g.H.Hub.begin_of g.H.Hub.step_of in
    let has = c.loop-said.invariant t h s in
    lent_more {H = g.row.H.Denot} {Job = g.row.H-Job.Denot} hub t h c.args.out.now.items c.loop-said.peer c.say_one.new.peer c.loop-said.any
    c.loop-said.out.items c.say_one.new.out.items c.loop-said._said has
    (said_so {H = g.row.H.Denot} {Job = g.row.H-Job.Denot} hub t (lends has.frames ++ h) c.say_one.new.peer c.loop-said.out.items
    c.say_one.new.out.items _ _ c.if-not-branch.false
    (c.in_ok-say_one.ensures t (lends has.frames ++ h) has.stands))

pub returns-then-not-branch : goal.returns-then-not-branch
returns-then-not-branch g c = λ t h s.
    let hub = meaning g.H.Hub.begin_of g.H.Hub.step_of in
    let has = c.loop-said.invariant t h s in
    lent_all {H = g.row.H.Denot} {Job = g.row.H-Job.Denot} hub t h c.args.out.now.items c.loop-said.peer c.say_one.new.peer c.loop-said.any
    c.loop-said.out.items c.say_one.new.out.items c.loop-said._said has
    (said_so {H = g.row.H.Denot} {Job = g.row.H-Job.Denot} hub t (lends has.frames ++ h) c.say_one.new.peer c.loop-said.out.items
    c.say_one.new.out.items _ _ c.if-not-branch.true
    (c.in_ok-say_one.ensures t (lends has.frames ++ h) has.stands))

pub returns : goal.returns
returns g c = λ t h s.
    let hub = meaning g.H.Hub.begin_of g.H.Hub.step_of in
    lent_end {H = g.row.H.Denot} {Job = g.row.H-Job.Denot} hub t h c.loop-said.peer c.loop-said.any c.args.out.now.items c.loop-said.out.items
    c.loop-said._said c.writes_few.ensures c.facts_hold.ensures
    (peer_is {H = g.row.H.Denot} {Job = g.row.H-Job.Denot} hub t c.args.peer.now h s).is_history (c.loop-said.invariant t h s) (omega arith)
