use Rattle.std.proofs.Common.{ℕ, false, List, [], ◌∷◌, refl, sym, ap, subst, ◌∙◌}
use Rattle.hd_delivery.specs.Histories.{Attached, link_count}
use Rattle.hj_jobs.specs.Meaning.{meaning}
use Rattle.hd_server.specs.Lives.{is_made, lost_at, poll_ended, poll_of, socket_of}
use Rattle.hd_server.specs.Doings.{ServerEvent, history, moment}
use Rattle.hd_server.specs.Plans.{bare_reply, connecting, onto, replying, step}
use Rattle.hub_server.specs.Lanes.{conn_of, settled}
use Rattle.hub_server.specs.Servers.{Standing}
use Rattle.hub_server.specs.Steps.{HasCome}
use Rattle.hub_server.specs.Connections.{IsFedTo}
use Rattle.hub_server.proofs.BeginLink.{attached, next_link, ready, same_moment}
use Rattle.hub_server.proofs.BeginPeer.{IsBare}
use Rattle.hub_server.proofs.HoldFirst.{at_once, bare_begun, begun_keeps, follows_first, polled_come, stands_linked, stands_polled}
use Rattle.hub_server.proofs.HoldMoved.{come_moved, fed_moved, there_moved}
use Rattle.hub_server.proofs.server.Server.first_poll.Goals as goal

pub returns : goal.returns
returns g c = record {
  polled = λ s u before h st is come can unpeered unsocketed unlost o when where_at.
      let hub = meaning g.H.Hub.begin_of g.H.Hub.step_of in
      let k : ℕ = c.args.conn in
      let at : ℕ = c.args.at.lane in
      let begin = subst (λ w. Standing {H = g.row.H.Denot} hub s w before c.args.self.now h) is st in
      let h1 : List ServerEvent = onto (connecting s k false h) h in
      let peered : Standing {H = g.row.H.Denot} hub s
      (conn_of k) before c.connect.new.self h1 = c.in_ok-connect.ensures.connects s u before h st is can.known in
      let is_ready = ready {H = g.row.H.Denot} {Job = g.row.H-Job.Denot} hub s before c.args.self.now k false at c.args.at.is_last h begin come can in
      let none : IsBare k h1 = bare_begun s k false h can.known (begin.orderly k) unpeered in
      let machine = attached {H = g.row.H.Denot} {Job = g.row.H-Job.Denot} hub (conn_of k) c.connect.new.self.machine c.attach-attached.new.self k
      c.connect.new.self.moment h1 c.attach-attached.result c.attach-attached.ensures.ok c.attach-attached.ensures.closed
      c.attach-attached.ensures.not_granted
      peered.machine (peered.orderly k) is_ready.there is_ready.opens peered.clock in
      let h2 : List ServerEvent = step k (Attached (link_count (history k h1)) (moment h1)) ∷ h1 in
      let on_link = stands_linked {H = g.row.H.Denot} {Job = g.row.H-Job.Denot} hub s before c.connect.new.self k h1 peered is_ready.there none
      c.attach-attached.new.self machine in
      let fed : IsFedTo {H = g.row.H.Denot} {Job = g.row.H-Job.Denot} hub s (conn_of k) before c.feed.new.self k [] h2 =
      c.in_ok-feed.ensures.fed s (conn_of k) before h2 on_link is_ready.there in
      let moved = fed_moved (moment h2) k [] h2 fed.after fed.feeds in
      let still : IsBare k fed.after = record {
        socket = ap (socket_of k) moved.notes ∙ none.socket;
        lost = ap (lost_at k) moved.notes ∙ none.lost;
        poll = ap (poll_of k) moved.notes ∙ none.poll;
        polled = ap (poll_ended k) moved.notes ∙ none.polled;
      } in
      let there = there_moved fed.after h2 moved k ∙ is_ready.there in
      let made = ap (is_made k) moved.notes ∙ is_ready.made in
      let has_come : HasCome at c.args.at.is_last h2 = record {
        waits = is_ready.come.waits;
        last = is_ready.come.last;
        unrefused = is_ready.come.unrefused;
        empty = is_ready.come.empty;
        nobody = λ c. is_ready.come.nobody c;
      } in
      let waits = come_moved at c.args.at.is_last fed.after h2 moved has_come in
      let polled = stands_polled {H = g.row.H.Denot}
      {Job = g.row.H-Job.Denot} hub s before c.feed.new.self k at c.args.at.is_last fed.after fed.stands there made
      still waits c.poll.new.self c.answered.new.self c.poll.ensures c.answered.ensures in
      let comes = polled_come {H = g.row.H.Denot} {Job = g.row.H-Job.Denot} hub s before c.feed.new.self k at c.args.at.is_last fed.after fed.stands
      there made
      still waits in
      let after : List ServerEvent = at_once k at (moment fed.after) fed.after in
      let replied = subst (λ r. Standing {H = g.row.H.Denot} hub s settled before c.reply.new.self (onto (replying at r after) after)) c.bare.ensures
      (c.in_ok-reply.ensures.said s settled before after polled comes) in (
        onto (replying at (bare_reply 200) after) after,
        follows_first s o k at h h1 fed.after refl (begun_keeps s k false h can.known (begin.orderly k))
            (same_moment settled s k false h can.known (begin.orderly k))
            (next_link {H = g.row.H.Denot} {Job = g.row.H-Job.Denot} hub s before c.args.self.now k false h begin can.known) when where_at moved
            fed.feeds,
        subst (λ w. Standing {H = g.row.H.Denot} hub s w before c.reply.new.self (onto (replying at (bare_reply 200) after) after)) (sym is) replied,
      );
}
