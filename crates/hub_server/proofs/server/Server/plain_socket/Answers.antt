use Rattle.std.proofs.Common.{◌≡◌, ◌∷◌, ℕ, List, suc, false, None, refl, sym, subst}
use Rattle.std.proofs.lemmas.Result.{on_ok_weaker}
use Rattle.hd_server.specs.Lives.{made}
use Rattle.hd_server.specs.Doings.{Notes, ServerEvent, moment, notes}
use Rattle.hj_jobs.specs.Meaning.{meaning}
use Rattle.hub_server.specs.Lanes.{settled}
use Rattle.hub_server.specs.Servers.{Standing}
use Rattle.hd_server.specs.Plans.{giving_way, onto, standing_on}
use Rattle.hub_server.specs.Connections.{CanStand}
use Rattle.hub_server.proofs.OutcomeEntries.{socket_opened}
use Rattle.hub_server.proofs.OutcomeMade.{at_left, come_left, orderly_next, stands_opened, tells_next, unborn_next}
use Rattle.hub_server.proofs.OutcomeMakes.{come_made, making, next_stands}
use Rattle.hub_server.proofs.server.Server.plain_socket.Goals as goal

pub returns : goal.returns
returns g c =
    let hub = meaning g.H.Hub.begin_of g.H.Hub.step_of in
    record {
      opened = on_ok_weaker c.attach_socket.result (λ f s before h st rests come none o at on up named room.
          let now_made = c.in-Ok.made in
          let opens = c.in-Ok.ensures.ok (notes h) st.front.stands in
          let x : List ServerEvent = onto (giving_way s (moment h) h) h in
          let k = suc (made (notes x)) in
          let note = making None k (moment h) in
          let stands = stands_opened {H = g.row.H.Denot} {Job = g.row.H-Job.Denot} hub s before c.args.self.now h st now_made.gone opens.gone opens.unused
          c.open.new.self now_made.conn opens.next c.leave_caller.new.callers c.leave_caller.ensures c.name_caller.new.callers c.args.user named
          c.in_ok-name_caller.ensures opens.limit opens.noted in
          let next : now_made.conn ≡ k = tells_next {H = g.row.H.Denot} {Job = g.row.H-Job.Denot} hub s before c.args.self.now h st
          now_made.gone opens.gone opens.unused now_made.conn opens.next in
          let can : CanStand k (Notes note ∷ x) = next_stands None settled (moment h) x
          (orderly_next {H = g.row.H.Denot} {Job = g.row.H-Job.Denot} hub s before c.args.self.now h st now_made.gone opens.gone opens.unused)
          (unborn_next {H = g.row.H.Denot} {Job = g.row.H-Job.Denot} hub s before c.args.self.now h st now_made.gone opens.gone opens.unused) in
          let stood : Standing {H = g.row.H.Denot} {Job = g.row.H-Job.Denot} hub s settled before c.attach_socket.new.self
          (onto (standing_on s o k false (Notes note ∷ x)) (Notes note ∷ x)) =
          subst (λ (n : ℕ). Standing {H = g.row.H.Denot} {Job = g.row.H-Job.Denot} hub s settled before c.attach_socket.new.self
          (onto (standing_on s o n false (Notes note ∷ x)) (Notes note ∷ x))) next
          (f s settled before (Notes note ∷ x) stands refl (come_made None k (moment h) c.args.at.lane c.args.at.is_last x
          (come_left s (moment h) c.args.at.lane c.args.at.is_last h come))
          (subst (λ (n : ℕ). CanStand n (Notes note ∷ x)) (sym next) can) o (at_left s (moment h) o.now h at) on up) in
          socket_opened {H = g.row.H.Denot} {Job = g.row.H-Job.Denot} hub s before c.attach_socket.new.self o h at stood) c.attach_socket.ensures.stands;
    }
