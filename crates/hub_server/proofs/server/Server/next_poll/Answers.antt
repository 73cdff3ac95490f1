use Rattle.std.proofs.Common.{ℕ, List, [], ◌∷◌}
use Rattle.hj_jobs.specs.Meaning.{meaning}
use Rattle.hd_server.specs.Lives.{Polled}
use Rattle.hd_server.specs.Doings.{ServerEvent, Notes, moment}
use Rattle.hd_server.specs.Plans.{ending_held, onto}
use Rattle.hub_server.specs.Connections.{IsFedTo}
use Rattle.hub_server.proofs.HoldMoved.{come_moved, ended_still, fed_moved, hold_moved}
use Rattle.hub_server.proofs.HoldNext.{follows_next}
use Rattle.hub_server.proofs.server.Server.next_poll.Goals as goal

pub returns : goal.returns
returns g c = record {
  polled = λ s u before h st come is can o when where_at.
      let hub = meaning g.H.Hub.begin_of g.H.Hub.step_of in
      let k : ℕ = c.args.conn in
      let at : ℕ = c.args.at.lane in
      let h1 : List ServerEvent = onto (ending_held k (moment h) h) h in
      let ended = c.in_ok-end_held.ensures.ended s u before h st is can.known in
      let still = ended_still k at c.args.at.is_last (moment h) h can come in
      let fed : IsFedTo {H = g.row.H.Denot} {Job = g.row.H-Job.Denot} hub s u before c.feed.new.self k [] h1 =
      c.in_ok-feed.ensures.fed s u before h1 ended still.can.there in
      let moved = fed_moved (moment h1) k [] h1 fed.after fed.feeds in
      let holds = c.in_ok-hold_poll.ensures.held s u before fed.after fed.stands is (come_moved at c.args.at.is_last fed.after h1 moved still.come)
      (hold_moved k fed.after h1 moved still.can) in (
        Notes (Polled k at (moment fed.after)) ∷ fed.after,
        follows_next s o k at h fed.after when where_at still.moment moved.moment fed.feeds,
        holds,
      );
}
