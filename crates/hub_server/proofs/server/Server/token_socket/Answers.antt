use Rattle.std.proofs.Common.{◌≡◌, refl, sym, subst, ◌∙◌}
use Rattle.std.proofs.lemmas.Result.{on_ok_weaker}
use Rattle.hd_server.specs.Lives.{socket_of}
use Rattle.hd_server.specs.Doings.{notes}
use Rattle.hd_server.specs.Plans.{onto, shutting_some}
use Rattle.hj_jobs.specs.Meaning.{meaning}
use Rattle.hub_server.specs.Lanes.{settled}
use Rattle.hub_server.specs.Servers.{Standing}
use Rattle.hub_server.proofs.OutcomeTokens.{lane_is, on_socket_there, promised_is, shut_come, shut_moment, shut_stands, stands_over}
use Rattle.hub_server.proofs.FlushSocket.{at_socket}
use Rattle.hub_server.proofs.server.Server.token_socket.Goals.{in-Some+in_ok-shut, in_default}
use Rattle.hub_server.proofs.server.Server.token_socket.Goals as goal

pub returns : goal.returns
returns g c = record {
  stands = on_ok_weaker c.attach_socket.result (λ f s before h st rests come none can o at on up.
      let hub = meaning g.H.Hub.begin_of g.H.Hub.step_of in
      let conn = c.args.conn in
      let older = c.lane-older.result in
      let socket : older ≡ socket_of conn (notes h) = lane_is conn (notes h) older can.known.made can.known.held
      (c.lane-older.ensures (notes h) st.front.stands) in
      let shut : Standing {H = g.row.H.Denot} {Job = g.row.H-Job.Denot} hub s settled before c.match-older.self (onto (shutting_some older h) h) =
      elim c.match-older.branch [
        | in-Some+in_ok-shut w ↦
            subst (λ v. Standing {H = g.row.H.Denot} {Job = g.row.H-Job.Denot} hub s settled before v (onto (shutting_some older h) h))
            (sym w.self-is)
            (subst (λ l. Standing {H = g.row.H.Denot} {Job = g.row.H-Job.Denot} hub s settled before w.shut.new.self
            (onto (shutting_some l h) h))
            (sym w.in-Some.is)
            (w.in_ok-shut.ensures.shuts s settled before h st conn (at_socket w.in-Some.older conn h
            (on_socket_there conn w.in-Some.older h (st.orderly conn) can.known.held (sym socket ∙ w.in-Some.is)) (sym socket ∙ w.in-Some.is))))
        | in_default w ↦
            subst (λ v. Standing {H = g.row.H.Denot} {Job = g.row.H-Job.Denot} hub s settled before v (onto (shutting_some older h) h))
            (sym w.self-is)
            (subst (λ l. Standing {H = g.row.H.Denot} {Job = g.row.H-Job.Denot} hub s settled before c.args.self.now (onto (shutting_some l h) h))
            (sym w.in_default.is) st)
      ] in
      stands_over {H = g.row.H.Denot} {Job = g.row.H-Job.Denot} hub s before c.attach_socket.new.self o conn h c.is_resumable_promise-resumable.result older socket
      (promised_is conn (notes h) c.is_resumable_promise-resumable.result can.known.made can.known.held (c.is_resumable_promise-resumable.ensures (notes h) st.front.stands))
      (f s settled before (onto (shutting_some older h) h) shut refl (shut_come c.args.at.lane older h c.args.at.is_last come)
      (shut_stands c.args.at.lane older h conn can) o (shut_moment c.args.at.lane older h o.now at) on up)) c.attach_socket.ensures.stands;
}
