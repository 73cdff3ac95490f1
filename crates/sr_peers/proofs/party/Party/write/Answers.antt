use Rattle.std.proofs.Common.{◌≡◌, ◌++◌, subst, arith}
use Rattle.hj_jobs.specs.Meaning.{meaning}
use Rattle.sr_peers.specs.Doings.{lifted}
use Rattle.sr_peers.specs.Plays.{WritesOne}
use Rattle.sr_peers.proofs.Going.{HasWritten, most_of, written_none, written_more, written_all, written_most, written_few}
use Rattle.sr_peers.proofs.party.Party.write.Goals as goal

pub loop-written-init : goal.loop-written-init
loop-written-init g c = λ t h plays. written_none {H = g.row.H.Denot} _ t h c.args.self.now c.args.lane.now.items plays

pub loop-written-preserved : goal.loop-written-preserved
loop-written-preserved g c = λ t h plays.
    let has = c.loop-written.invariant t h plays in
    written_more {H = g.row.H.Denot} _ t h c.loop-written.self c.write_one.new.self c.args.lane.now.items c.loop-written.lane.items c.write_one.new.lane.items
    c.loop-written._written c.loop-written.wrote has
    (subst (WritesOne {H = g.row.H.Denot} _ t (lifted has.written ++ h) c.write_one.new.self c.loop-written.lane.items c.write_one.new.lane.items)
    c.if-not-branch.false (c.in_ok-write_one.ensures t (lifted has.written ++ h) has.plays))

pub returns-then-not-branch : goal.returns-then-not-branch
returns-then-not-branch g c = λ t h plays.
    let has = c.loop-written.invariant t h plays in
    written_all {H = g.row.H.Denot} _ t h c.loop-written.self c.write_one.new.self c.args.lane.now.items c.loop-written.lane.items c.write_one.new.lane.items
    c.loop-written._written c.loop-written.wrote has c.args.most (let most = c.unwrap_or-written-end.ensures in omega arith)
    (subst (WritesOne {H = g.row.H.Denot} _ t (lifted has.written ++ h) c.write_one.new.self c.loop-written.lane.items c.write_one.new.lane.items)
    c.if-not-branch.true (c.in_ok-write_one.ensures t (lifted has.written ++ h) has.plays))

pub returns : goal.returns
returns g c = λ t h plays.
    let all : c.loop-written._written ≡ most_of c.args.most = (let most = c.unwrap_or-written-end.ensures in omega arith) in
    let wrote = c.loop-written.wrote in
    let hub = meaning g.H.Hub.begin_of g.H.Hub.step_of in
    let has : HasWritten {H = g.row.H.Denot} hub t h c.loop-written.self c.args.lane.now.items c.loop-written.lane.items (most_of c.args.most) wrote =
    subst (λ n. HasWritten {H = g.row.H.Denot} hub t h c.loop-written.self c.args.lane.now.items c.loop-written.lane.items n wrote) all (c.loop-written.invariant t h plays) in
    written_most {H = g.row.H.Denot} hub t h c.loop-written.self c.args.lane.now.items c.loop-written.lane.items wrote c.args.most has
    (written_few {H = g.row.H.Denot} hub t h c.args.self.now has.written c.writes_few.ensures c.facts_hold.ensures plays has.follow)
