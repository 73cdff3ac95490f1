use Rattle.hj_jobs.specs.Meaning.{meaning}
use Rattle.hd_server.specs.Doings.{notes}
use Rattle.hub_server.specs.Lanes.{poll_lane}
use Rattle.hub_server.proofs.HoldPolls.{CutsLane, cuts_held, cuts_unheld, polled_stands}
use Rattle.hub_server.proofs.server.Server.hold_poll.Goals.{in-Some, in_default}
use Rattle.hub_server.proofs.server.Server.hold_poll.Goals as goal

pub returns : goal.returns
returns g c = record {
  held = λ s u before h st is come can.
      let cut : CutsLane {H = g.row.H.Denot} {Job = g.row.H-Job.Denot} (poll_lane c.args.conn (notes h)) c.args.self.now c.match-held.self =
      elim c.match-held.branch [
        | in-Some w ↦ cuts_held {H = g.row.H.Denot} {Job = g.row.H-Job.Denot} c.args.conn
            (notes h) c.held.result w.in-Some.older c.args.self.now c.match-held.self
            w.remove.new.self (c.held.ensures (notes h) st.front.stands) can.known.made can.known.held w.in-Some.is w.remove.ensures.updates w.self-is
        | in_default w ↦ cuts_unheld {H = g.row.H.Denot} {Job = g.row.H-Job.Denot} c.args.conn
            (notes h) c.held.result c.args.self.now c.match-held.self
            (c.held.ensures (notes h) st.front.stands) can.known.made can.known.held w.in_default.is w.self-is
      ] in
      polled_stands {H = g.row.H.Denot} {Job = g.row.H-Job.Denot}
      (meaning g.H.Hub.begin_of g.H.Hub.step_of) s u before c.args.self.now c.match-held.self
      c.args.conn c.args.at.lane c.args.at.is_last h st is come can cut c.poll.new.self c.poll.ensures c.insert.new.self
      c.in_ok-insert.ensures.updates;
}
