use Rattle.std.proofs.Common.{◌≡◌, ◌∷◌, ℕ, List, suc, Some, ap, ◌∙◌}
use Rattle.std.proofs.lemmas.Result.{on_ok_weaker}
use Rattle.hd_server.specs.Lives.{made}
use Rattle.hd_server.specs.Texts.{negotiate_body, token_of}
use Rattle.hd_server.specs.Doings.{Notes, ServerEvent, moment, notes}
use Rattle.hd_server.specs.Plans.{giving_way, onto}
use Rattle.hj_jobs.specs.Meaning.{meaning}
use Rattle.hub_server.specs.Lanes.{settled}
use Rattle.hub_server.proofs.OutcomeEntries.{token_told}
use Rattle.hub_server.proofs.OutcomeMade.{come_left, stands_told, tells_next}
use Rattle.hub_server.proofs.OutcomeMakes.{come_made, making}
use Rattle.hub_server.proofs.server.Server.tell_token.Goals as goal

pub returns : goal.returns
returns g c =
    let hub = meaning g.H.Hub.begin_of g.H.Hub.step_of in
    record {
      told = on_ok_weaker c.reply.result (λ f s before h st rests come none o at on named room.
          let bytes = c.args.drawn in
          let told_now = c.in-Ok.made in
          let tells = c.in-Ok.ensures.ok (notes h) st.front.stands in
          let x : List ServerEvent = onto (giving_way s (moment h) h) h in
          let k = suc (made (notes x)) in
          let note = making (Some (token_of bytes k, c.args.reconnect)) k (moment h) in
          let stands = stands_told {H = g.row.H.Denot} {Job = g.row.H-Job.Denot} hub s before c.args.self.now h st told_now.gone tells.gone tells.unused
          c.negotiate.new.self told_now.conn tells.next c.leave_caller.new.callers c.leave_caller.ensures c.name_caller.new.callers c.args.user named
          c.in_ok-name_caller.ensures tells.limit bytes c.args.reconnect tells.noted in
          let next : told_now.conn ≡ k = tells_next {H = g.row.H.Denot} {Job = g.row.H-Job.Denot} hub s before c.args.self.now h st
          told_now.gone tells.gone tells.unused told_now.conn tells.next in
          token_told {H = g.row.H.Denot} {Job = g.row.H-Job.Denot} hub s before c.reply.new.self o h c.args.reconnect c.args.at.lane bytes told_now.body at on
          (tells.body ∙ ap (λ (n : ℕ). negotiate_body n (token_of bytes n) c.args.reconnect) next)
          (f s settled before (Notes note ∷ x) stands
          (come_made (Some (token_of bytes k, c.args.reconnect)) k (moment h) c.args.at.lane c.args.at.is_last x
          (come_left s (moment h) c.args.at.lane c.args.at.is_last h come)))) c.reply.ensures.said;
    }
