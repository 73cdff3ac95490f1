use Rattle.std.proofs.Common.{subst}
use Rattle.hd_delivery.specs.declared.vocabulary.Reason.TheVariants.{Done}
use Rattle.hd_server.specs.Plans.{closing, onto}
use Rattle.hj_jobs.specs.Meaning.{meaning}
use Rattle.hub_server.specs.Servers.{Standing}
use Rattle.hub_server.proofs.ExpireOne.{standing_closes}
use Rattle.hub_server.proofs.GoneServer.{closing_then, known_closed}
use Rattle.hub_server.proofs.server.Server.close_done.Goals as goal

pub returns : goal.returns
returns g c = record {
  closed = λ s u before h stands known.
      let hub = meaning g.H.Hub.begin_of g.H.Hub.step_of in
      let conn = c.args.conn in
      let closed = standing_closes {H = g.row.H.Denot} {Job = g.row.H-Job.Denot} hub s u before c.args.self.now c.close.new.self conn Done h stands
      c.close.ensures.live c.close.ensures.closed c.close.ensures.absent in
      subst (λ x. Standing {H = g.row.H.Denot} hub s u before c.remove_conn.new.self x) (closing_then conn Done h)
      (c.remove_conn.ensures.gone s u before (onto (closing conn Done h) h) closed (known_closed conn Done h known)).stands;
}
