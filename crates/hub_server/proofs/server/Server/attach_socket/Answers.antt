use Rattle.std.proofs.Common.{◌≡◌, ℕ, false, List, ◌∷◌, ◌++◌, [], None, Some, sym, ap, subst, ◌∙◌}
use Rattle.hw_lanes.specs.declared.http.BodyKind.TheVariants as kind
use Rattle.hd_delivery.specs.Histories.{link_count}
use Rattle.hj_jobs.specs.Meaning.{meaning}
use Rattle.hd_server.specs.declared.vocabulary.Said.TheVariants as say
use Rattle.hd_server.specs.Lives.{socket_of}
use Rattle.hd_server.specs.Doings.{ServerEvent, history, moment, notes}
use Rattle.hd_server.specs.Plans.{connecting, onto, standing_on}
use Rattle.hub_server.specs.Lanes.{conn_of, settled}
use Rattle.hub_server.specs.Servers.{Standing}
use Rattle.hub_server.proofs.BeginLink.{attached, next_link, ready, same_moment}
use Rattle.hub_server.proofs.BeginStand.{cuts_socket, cuts_unsocketed, standing_list, stands_now}
use Rattle.hub_server.proofs.HoldPolls.{CutsLane}
use Rattle.hub_server.proofs.server.Server.attach_socket.Goals.{in-Some, in_default}
use Rattle.hub_server.proofs.server.Server.attach_socket.Goals as goal

pub returns : goal.returns
returns g c = record {
  stands = λ s u before h st is come can o when where_at upgrade.
      let hub = meaning g.H.Hub.begin_of g.H.Hub.step_of in
      let k : ℕ = c.args.conn in
      let at : ℕ = c.args.at.lane in
      let begin = subst (λ w. Standing {H = g.row.H.Denot} hub s w before c.args.self.now h) is st in
      let h1 : List ServerEvent = onto (connecting s k c.args.resumable h) h in
      let there : Standing {H = g.row.H.Denot} hub s
      (conn_of k) before c.connect.new.self h1 = c.in_ok-connect.ensures.connects s u before h st is can.known in
      let is_ready = ready {H = g.row.H.Denot} {Job = g.row.H-Job.Denot} hub s before c.args.self.now k c.args.resumable at c.args.at.is_last h begin
      come can in
      let machine = attached {H = g.row.H.Denot} {Job = g.row.H-Job.Denot} hub (conn_of k) c.connect.new.self.machine c.attach-attached.new.self k
      c.connect.new.self.moment h1 c.attach-attached.result c.attach-attached.ensures.ok c.attach-attached.ensures.closed
      c.attach-attached.ensures.not_granted
      there.machine (there.orderly k) is_ready.there is_ready.opens there.clock in
      let held = (there.orderly k).there is_ready.there in
      let front_lane = c.lane.ensures (notes h1) there.front.stands in
      let cut : CutsLane {H = g.row.H.Denot} {Job = g.row.H-Job.Denot} (socket_of k (notes h1))
      (record c.connect.new.self { machine = c.attach-attached.new.self }) c.match-lane.self =
      elim c.match-lane.branch [
        | in-Some w ↦ cuts_socket {H = g.row.H.Denot} {Job = g.row.H-Job.Denot} k (notes h1) c.lane.result w.in-Some.older
            (record c.connect.new.self { machine = c.attach-attached.new.self }) c.match-lane.self w.remove.new.self front_lane is_ready.made held
            w.in-Some.is w.remove.ensures.updates w.self-is
        | in_default w ↦ cuts_unsocketed {H = g.row.H.Denot} {Job = g.row.H-Job.Denot} k (notes h1) c.lane.result
            (record c.connect.new.self { machine = c.attach-attached.new.self }) c.match-lane.self front_lane is_ready.made held w.in_default.is
            w.self-is
      ] in
      let says : c.reply.new.self ≡ c.match-lane.self.words ++ say.Reply at
      (record { status = 101; kind = kind.None; body = []; accept = Some c.args.accept; field = None; close = false }) ∷ [] =
      c.in_ok-reply.ensures
      ∙ ap (λ b. c.match-lane.self.words ++ say.Reply at (record { status = 101; kind = kind.None; body = b; accept = Some c.args.accept; field = None; close = false }) ∷ [])
      (c.from_vec.ensures ∙ c.new.ensures.items) in
      let done = stands_now {H = g.row.H.Denot} {Job = g.row.H-Job.Denot} hub s before c.connect.new.self k at c.args.at.is_last c.args.accept h1
      there is_ready
      c.attach-attached.new.self machine c.match-lane.self cut c.socket.new.self c.socket.ensures c.insert.new.self c.in_ok-insert.ensures.updates
      c.reply.new.self says in
      let new = record c.match-lane.self { front = c.socket.new.self; lanes = c.insert.new.self; words = c.reply.new.self } in
      subst (λ w. Standing {H = g.row.H.Denot} hub s w before new (onto (standing_on s o k c.args.resumable h) h)) (sym is)
      (subst (λ x. Standing {H = g.row.H.Denot} hub s settled before new x)
      (sym (standing_list s o k c.args.resumable h (link_count (history k h1)) at (moment h1) c.args.accept
      (sym (next_link {H = g.row.H.Denot} {Job = g.row.H-Job.Denot} hub s before c.args.self.now k c.args.resumable h begin can.known))
      (when ∙ sym (same_moment u s k c.args.resumable h can.known (st.orderly k))) where_at upgrade)) done);
}
