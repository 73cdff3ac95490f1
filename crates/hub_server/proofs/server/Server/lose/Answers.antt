use Rattle.std.proofs.Common.{◌≡◌, inr, ◌∷◌, [], true, false, refl, sym, ap, subst, ◌∙◌, is_some, if◌then◌else◌}
use Rattle.std.proofs.lemmas.Bool.{and_from, and_parts, eq-eqb, or_left}
use Rattle.std.specs.Cmp.{unsigned_tied}
use Rattle.hd_delivery.specs.Histories.{is_this}
use Rattle.hd_server.specs.Machine.{settings_of}
use Rattle.hd_server.specs.Lives.{LaneLost, socket_of}
use Rattle.hd_server.specs.Doings.{Notes, has_peer, may_resume, moment, notes, work}
use Rattle.hd_server.specs.Plans.{removing_conn, onto}
use Rattle.hj_jobs.specs.Meaning.{meaning}
use Rattle.hub_server.specs.declared.server.Server.{Server}
use Rattle.hub_server.specs.Lanes.{poll_lane, settled}
use Rattle.hub_server.specs.Servers.{Standing, StandsFront}
use Rattle.hub_server.proofs.Gone.{is_on}
use Rattle.hub_server.proofs.GoneServer.{loses}
use Rattle.hub_server.proofs.FrontNoted.{noted_front}
use Rattle.hub_server.proofs.server.Server.lose.Goals as goal

pub returns-then-granted-clause-lost : goal.returns-then-granted-clause-lost
returns-then-granted-clause-lost g c = λ s u before h stands is there present socket granted.
    let hub = meaning g.H.Hub.begin_of g.H.Hub.step_of in
    let new : Server g.row.H.Denot g.row.H-Job.Denot = record {
      base = c.args.self.now.base;
      resend = c.args.self.now.resend;
      machine = c.args.self.now.machine;
      front = c.lost.new.self;
      callers = c.args.self.now.callers;
      lanes = c.remove.new.self;
      moment = c.args.self.now.moment;
      words = c.args.self.now.words;
      is_ended = c.args.self.now.is_ended;
    } in
    let held : may_resume c.args.conn h ≡ true = sym granted ∙ c.if-granted.true in
    let o = stands.orderly c.args.conn in
    subst (λ b. Standing {H = g.row.H.Denot} hub s settled before new
    (onto (if b then Notes (LaneLost c.args.conn c.args.lane (moment h)) ∷ [] else removing_conn c.args.conn h) h)) (sym held)
    (loses {H = g.row.H.Denot} {Job = g.row.H-Job.Denot} hub s before c.args.self.now new
    c.args.conn c.args.lane h refl refl refl refl refl refl c.remove.ensures.updates.1
    (λ l e. c.remove.ensures.updates.2 l (unsigned_tied c.args.lane l ∙ e)) there
    (subst (λ x. Standing {H = g.row.H.Denot} hub s x before c.args.self.now h) is stands) present socket held
    (subst (λ n. StandsFront s.live c.lost.new.self (LaneLost c.args.conn c.args.lane n ∷ notes h)) stands.clock
    (noted_front s.live c.args.self.now.front c.lost.new.self c.args.conn (LaneLost c.args.conn c.args.lane c.args.self.now.moment) (notes h) c.lost.ensures
    stands.front (o.made (and_parts (is_some (settings_of c.args.conn (work h))) _ there).0))))

pub returns-else-granted-clause-lost : goal.returns-else-granted-clause-lost
returns-else-granted-clause-lost g c = λ s u before h stands is there present socket granted.
    let hub = meaning g.H.Hub.begin_of g.H.Hub.step_of in
    let held : may_resume c.args.conn h ≡ false = sym granted ∙ c.if-granted.false in
    let o = stands.orderly c.args.conn in
    subst (λ b. Standing {H = g.row.H.Denot} hub s settled before c.remove_conn.new.self
    (onto (if b then Notes (LaneLost c.args.conn c.args.lane (moment h)) ∷ [] else removing_conn c.args.conn h) h)) (sym held)
    ((c.remove_conn.ensures.gone s u before h stands
    (record { made = o.made (and_parts (is_some (settings_of c.args.conn (work h))) _ there).0; held = o.there there })).freed c.args.lane (inr is)
    (and_from (has_peer c.args.conn h) (is_on c.args.lane c.args.conn h) there
    (or_left (is_this c.args.lane (socket_of c.args.conn (notes h))) (is_this c.args.lane (poll_lane c.args.conn (notes h)))
    (ap (λ x. is_this c.args.lane x) socket ∙ eq-eqb c.args.lane c.args.lane refl))))

pub returns-else-granted-clause-clock : goal.returns-else-granted-clause-clock
returns-else-granted-clause-clock g c = c.remove_conn.ensures.keeps.clock
