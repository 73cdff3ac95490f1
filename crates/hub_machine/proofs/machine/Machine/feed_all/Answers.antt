use Rattle.std.proofs.Common.{refl}
use Rattle.hd_server.specs.Machine.{moves}
use Rattle.hj_jobs.specs.Meaning.{meaning}
use Rattle.hub_machine.proofs.Ends.{awake_now, closes_out_if, scratched, stood}
use Rattle.hub_machine.proofs.machine.Machine.feed_all.Goals as goal

pub returns : goal.returns
returns g c = λ w t s there clear.
    let hub = meaning g.H.Hub.begin_of g.H.Hub.step_of in
    let conn = c.args.conn in
    let woken = c.ensure_awake.new.self in
    let mid = record woken { scratch = c.feed_peer.new.scratch } in
    let was = c.in-Some.peer.now in
    let peer = c.feed_peer.new.peer in
    let at = c.in-Some.ensures.value in
    let stands = scratched {H = g.row.H.Denot} {Job = g.row.H-Job.Denot} hub woken mid refl refl refl w (c.ensure_awake.ensures.stands w s) in
    let awake = awake_now {H = g.row.H.Denot} {Job = g.row.H-Job.Denot} mid conn was (c.ensure_awake.ensures.awake s.index) at in
    let fed = c.in_ok-feed_peer.ensures t (moves conn w)
    (stood {H = g.row.H.Denot} {Job = g.row.H-Job.Denot} hub mid w conn t was stands there at awake) clear in
    record {
      pieces = fed.pieces;
      moves = fed.moves;
      feeds = fed.feeds;
      clear = fed.clear;
      stands = closes_out_if {H = g.row.H.Denot} {Job = g.row.H-Job.Denot} hub mid w conn t was peer fed.moves stands there at awake _
          (c.get_mut.follows.holds peer) (λ h. fed.stands) c.close_out_if.new.self c.is_over-over.result c.close_out_if.ensures c.is_over-over.ensures;
    }
