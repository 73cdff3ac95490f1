use Rattle.std.proofs.Common.{◌++◌, refl}
use Rattle.std.proofs.lemmas.Result.{on_ok_weaker}
use Rattle.hd_delivery.specs.declared.vocabulary.Reason.TheVariants as reason
use Rattle.hd_server.specs.Doings.{moment}
use Rattle.hd_server.specs.Plans.{closing, ending_held, removing_conn, onto}
use Rattle.hj_jobs.specs.Meaning.{meaning}
use Rattle.hub_server.specs.Lanes.{settled}
use Rattle.hub_server.proofs.OutcomeCome.{come_stays, ended_known}
use Rattle.hub_server.proofs.OutcomeTokens.{deletion_stays, erases}
use Rattle.hub_server.proofs.server.Server.deletion.Goals as goal

pub returns : goal.returns
returns g c = record {
  erased = on_ok_weaker c.reply.result (λ f s before h st rests come none known o at on.
      let hub = meaning g.H.Hub.begin_of g.H.Hub.step_of in
      let conn = c.args.conn in
      let lane = c.args.at.lane in
      let ended = onto (ending_held conn (moment h) h) h in
      let gone = onto (closing conn reason.Done ended ++ removing_conn conn ended) ended in
      let stays = deletion_stays conn lane c.args.at.is_last h (st.orderly conn) known.held come in
      erases {H = g.row.H.Denot} {Job = g.row.H-Job.Denot} hub s before c.reply.new.self o conn h lane c.bare.result at on c.bare.ensures stays
      (f s settled before gone
      (c.close_done.ensures.closed s settled before ended (c.in_ok-end_held.ensures.ended s settled before h st refl known)
      (ended_known conn (moment h) h known))
      (come_stays lane c.args.at.is_last gone h stays come))) c.reply.ensures.said;
}
