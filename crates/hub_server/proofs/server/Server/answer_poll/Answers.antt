use Rattle.std.proofs.Common.{refl, sym, ap, subst, ◌∙◌, ◌∷◌}
use Rattle.std.proofs.lemmas.Bool.{and_from, eq-eqb, or_right}
use Rattle.std.specs.Cmp.{unsigned_tied}
use Rattle.hd_delivery.specs.Histories.{is_this}
use Rattle.hd_server.specs.Lives.{Answered, socket_of}
use Rattle.hd_server.specs.Doings.{Notes, has_peer, moment, notes}
use Rattle.hd_server.specs.Plans.{onto, replying}
use Rattle.hj_jobs.specs.Meaning.{meaning}
use Rattle.hub_server.specs.declared.server.Server.{Server}
use Rattle.hub_server.specs.Lanes.{poll_lane}
use Rattle.hub_server.specs.Servers.{Standing}
use Rattle.hub_server.proofs.Gone.{is_on}
use Rattle.hub_server.proofs.GoneServer.{answers_reply}
use Rattle.hub_server.proofs.FrontNoted.{noted_front}
use Rattle.hub_server.proofs.server.Server.answer_poll.Goals as goal

pub returns-clause-answered : goal.returns-clause-answered
returns-clause-answered g c = λ s u before h stands is there poll.
    let hub = meaning g.H.Hub.begin_of g.H.Hub.step_of in
    let at = and_from (has_peer c.args.conn h) (is_on c.args.lane c.args.conn h) there
    (or_right (is_this c.args.lane (socket_of c.args.conn (notes h))) (is_this c.args.lane (poll_lane c.args.conn (notes h)))
    (ap (λ x. is_this c.args.lane x) poll ∙ eq-eqb c.args.lane c.args.lane refl)) in
    let new : Server g.row.H.Denot g.row.H-Job.Denot = record {
      base = c.reply_held.new.self.base;
      resend = c.reply_held.new.self.resend;
      machine = c.reply_held.new.self.machine;
      front = c.answered.new.self;
      callers = c.reply_held.new.self.callers;
      lanes = c.remove.new.self;
      moment = c.reply_held.new.self.moment;
      words = c.reply_held.new.self.words;
      is_ended = c.reply_held.new.self.is_ended;
    } in
    subst (λ x. Standing {H = g.row.H.Denot} hub s x before new
    (Notes (Answered c.args.conn c.args.lane (moment h)) ∷ onto (replying c.args.lane c.args.reply h) h)) (sym is)
    (answers_reply {H = g.row.H.Denot} {Job = g.row.H-Job.Denot} hub s before c.reply_held.new.self new c.args.conn c.args.lane c.args.reply h
    refl refl refl refl refl refl c.remove.ensures.updates.1 (λ l e. c.remove.ensures.updates.2 l (unsigned_tied c.args.lane l ∙ e)) there poll
    (λ n f made. noted_front s.live c.reply_held.new.self.front c.answered.new.self c.args.conn
    (Answered c.args.conn c.args.lane c.reply_held.new.self.moment) n c.answered.ensures f made)
    (c.in_ok-reply_held.ensures.said s u before h stands is c.args.conn at))
