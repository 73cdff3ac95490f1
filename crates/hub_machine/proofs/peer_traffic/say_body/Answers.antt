use Rattle.std.proofs.Common.{◌++◌, arith}
use Rattle.hj_jobs.specs.Meaning.{meaning}
use Rattle.hub_machine.specs.Traffic.{lends}
use Rattle.hub_machine.proofs.Doing.{peer_is}
use Rattle.hub_machine.proofs.SaysSome.{said_so, some_all, some_end, some_full, some_more, some_none}
use Rattle.hub_machine.proofs.peer_traffic.say_body.Goals as goal

pub loop-said-init : goal.loop-said-init
loop-said-init g c = λ t h s empty. some_none {H = g.row.H.Denot} {Job = g.row.H-Job.Denot} _ t h c.args.peer.now c.args.body.now.items empty s

pub loop-said-preserved : goal.loop-said-preserved
loop-said-preserved g c = λ t h s empty.
    let hub = meaning g.H.Hub.begin_of g.H.Hub.step_of in
    let up = c.loop-said.invariant t h s empty in
    let ms = lends up.has.frames in
    some_more {H = g.row.H.Denot} {Job = g.row.H-Job.Denot} hub t h c.loop-said.peer c.say_one.new.peer c.loop-said.any
    c.loop-said.body.items c.say_one.new.out.items c.loop-said._said up
    (omega (arith, c.if-len-gt-MOST_BEFORE_LAST.false, c.len.ensures, c.numbers_are_named.ensures.before_last))
    (said_so {H = g.row.H.Denot} {Job = g.row.H-Job.Denot} hub t (ms ++ h) c.say_one.new.peer c.loop-said.body.items c.say_one.new.out.items _ _
    c.if-not-branch.false
    (c.in_ok-say_one.ensures t (ms ++ h) up.has.stands))

pub returns-then-len-gt-MOST_BEFORE_LAST : goal.returns-then-len-gt-MOST_BEFORE_LAST
returns-then-len-gt-MOST_BEFORE_LAST g c = λ t h s empty.
    some_full {H = g.row.H.Denot} {Job = g.row.H-Job.Denot} (meaning g.H.Hub.begin_of g.H.Hub.step_of) t h
    c.loop-said.peer c.loop-said.any c.loop-said.body.items c.loop-said._said (c.loop-said.invariant t h s empty)
    (omega (arith, c.if-len-gt-MOST_BEFORE_LAST.true, c.len.ensures, c.numbers_are_named.ensures.before_last))

pub returns-then-not-branch : goal.returns-then-not-branch
returns-then-not-branch g c = λ t h s empty.
    let hub = meaning g.H.Hub.begin_of g.H.Hub.step_of in
    let up = c.loop-said.invariant t h s empty in
    let ms = lends up.has.frames in
    some_all {H = g.row.H.Denot} {Job = g.row.H-Job.Denot} hub t h c.loop-said.peer c.say_one.new.peer c.loop-said.any
    c.loop-said.body.items c.say_one.new.out.items c.loop-said._said up
    (said_so {H = g.row.H.Denot} {Job = g.row.H-Job.Denot} hub t (ms ++ h) c.say_one.new.peer c.loop-said.body.items c.say_one.new.out.items _ _
    c.if-not-branch.true
    (c.in_ok-say_one.ensures t (ms ++ h) up.has.stands))

pub returns : goal.returns
returns g c = λ t h s empty.
    let hub = meaning g.H.Hub.begin_of g.H.Hub.step_of in
    some_end {H = g.row.H.Denot} {Job = g.row.H-Job.Denot} hub t h c.loop-said.peer c.loop-said.any c.loop-said.body.items c.loop-said._said
    c.writes_few.ensures c.facts_hold.ensures
    (peer_is {H = g.row.H.Denot} {Job = g.row.H-Job.Denot} hub t c.args.peer.now h s).is_history
    (c.loop-said.invariant t h s empty) (omega arith)
