use Rattle.std.proofs.Common.{◌≡◌, ◌∷◌, [], not, is_some, sym, ap, subst, ◌∙◌}
use Rattle.std.proofs.Common.{Some as Given, None as Absent}
use Rattle.std.specs.Prelude.{option_map}
use Rattle.std.proofs.lemmas.Bool.{and_from, cond-true, not_from_false, or_left}
use Rattle.hd_server.specs.Lives.{Answered, is_removed, is_made, is_polling, lost_at, poll_ended, poll_of, socket_of}
use Rattle.hd_server.specs.Doings.{Notes, moment, notes}
use Rattle.hd_server.specs.Plans.{bare_reply, ending_poll, onto, replying}
use Rattle.hj_jobs.specs.Meaning.{meaning}
use Rattle.hn_server_front.specs.Entries.{held_as}
use Rattle.hn_server_front.specs.Stands.{is_there}
use Rattle.hub_server.specs.Servers.{Standing}
use Rattle.hub_server.proofs.OntoAlike.{onto_append}
use Rattle.hub_server.proofs.Gone.{last_of_three, used_there}
use Rattle.hub_server.proofs.GoneServer.{on_ok}
use Rattle.hub_server.proofs.server.Server.end_held.Goals as goal

pub returns-in-Some : goal.returns-in-Some
returns-in-Some g c = record {
  ended = on_ok c.answer_poll.result (λ does s u before h stands is known.
      let hub = meaning g.H.Hub.begin_of g.H.Hub.step_of in
      let conn = c.args.conn in
      let lane = c.in-Some.held.lane in
      let there = and_from (is_made conn (notes h)) (not (is_removed conn (notes h))) known.made
      (not_from_false (is_removed conn (notes h)) known.held) in
      let poll : poll_of conn (notes h) ≡ Given (lane, c.in-Some.held.since) =
      sym (cond-true (is_there conn (notes h)) (poll_of conn (notes h)) Absent there) ∙ sym (c.held.ensures (notes h) stands.front.stands)
      ∙ ap held_as c.in-Some.is in
      let used = used_there u conn h known (stands.orderly conn)
      (last_of_three (is_some (socket_of conn (notes h))) (is_some (lost_at conn (notes h))) (is_polling conn (notes h))
      (or_left (is_some (poll_of conn (notes h))) (is_some (poll_ended conn (notes h))) (ap is_some poll))) in
      subst (λ o. Standing {H = g.row.H.Denot} hub s u before c.answer_poll.new.self (onto (ending_poll conn (moment h) o h) h)) (sym poll)
      (subst (λ x. Standing {H = g.row.H.Denot} hub s u before c.answer_poll.new.self x)
      (sym (onto_append (replying lane (bare_reply 204) h) (Notes (Answered conn lane (moment h)) ∷ []) h))
      (subst (λ r. Standing {H = g.row.H.Denot} hub s u before c.answer_poll.new.self
      (Notes (Answered conn lane (moment h)) ∷ onto (replying lane r h) h)) c.bare.ensures
      (does s u before h stands is used (ap (option_map (λ p. p.0)) poll)))))
      c.answer_poll.ensures.answered;
}
