use Rattle.hj_jobs.specs.Meaning.{meaning}
use Rattle.hub_server.proofs.FeedServer.{fed_to}
use Rattle.hub_server.proofs.server.Server.feed.Goals as goal

pub returns : goal.returns
returns g c = record {
  fed = λ s u before h x there.
      fed_to {H = g.row.H.Denot} {Job = g.row.H-Job.Denot} c.moves_come_first.ensures
      (meaning g.H.Hub.begin_of g.H.Hub.step_of) s u before c.args.self.now h x c.args.conn
      c.args.bytes.now
      c.feed_all.new.self there c.in_ok-feed_all.ensures;
}
