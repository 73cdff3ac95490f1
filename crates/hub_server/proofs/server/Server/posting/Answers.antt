use Rattle.std.proofs.lemmas.Result.{on_ok_weaker}
use Rattle.hj_jobs.specs.Meaning.{meaning}
use Rattle.hd_server.specs.Doings.{moment}
use Rattle.hub_server.specs.Lanes.{settled}
use Rattle.hub_server.proofs.OutcomeCome.{come_stays, stays_fed}
use Rattle.hub_server.proofs.OutcomeTokens.{posts}
use Rattle.hub_server.proofs.server.Server.posting.Goals as goal

pub returns : goal.returns
returns g c =
    let hub = meaning g.H.Hub.begin_of g.H.Hub.step_of in
    record {
      posted = on_ok_weaker c.reply.result (λ f s before h st rests come none o at on body can.
          let fed = c.in_ok-feed.ensures.fed s settled before h st can.there in
          posts {H = g.row.H.Denot} {Job = g.row.H-Job.Denot} hub s before c.reply.new.self o c.args.conn h c.args.at.lane c.args.bytes.now fed.after
          c.bare.result on body c.bare.ensures fed.feeds
          (f s settled before fed.after fed.stands (come_stays c.args.at.lane c.args.at.is_last fed.after h
          (stays_fed c.args.at.lane (moment h) c.args.conn c.args.bytes.now h fed.after fed.feeds) come))) c.reply.ensures.said;
    }
