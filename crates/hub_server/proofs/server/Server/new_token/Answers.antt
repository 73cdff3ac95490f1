use Rattle.std.proofs.Common.{◌≡◌, ◌∷◌, ◌++◌, length, take, Some, None, rules, sym, ap, ◌∙◌}
use Rattle.std.proofs.lemmas.Result.{on_ok_weaker}
use Rattle.hd_server.specs.Doings.{Draws}
use Rattle.hj_jobs.specs.Meaning.{meaning}
use Rattle.hub_server.specs.Lanes.{settled}
use Rattle.hub_server.specs.Words.{reply_and_end}
use Rattle.hub_server.proofs.LaneKept.{standing_draws}
use Rattle.hub_server.proofs.OutcomeEntries.{token_made, token_refused}
use Rattle.hub_server.proofs.OutcomeReplies.{ends, replied}
use Rattle.hub_server.proofs.OutcomeMakes.{come_drawn, first_again, on_err, standing_words}
use Rattle.hub_server.proofs.server.Server.new_token.Goals as goal

pub returns-in_default-clause-made : goal.returns-in_default-clause-made
returns-in_default-clause-made g c = λ s before h st rests come none o at on named room.
    let hub = meaning g.H.Hub.begin_of g.H.Hub.step_of in
    let ends_so = c.ends_after-ends.ensures ∙ ap (λ n. ends n c.args.at.is_last) (sym (ap (λ r. r.status) c.bare.ensures)) in
    token_refused {H = g.row.H.Denot} {Job = g.row.H-Job.Denot} hub s before (record c.args.self.now { words = c.answer.new.self }) o h c.args.reconnect
    (g.L.Lots.drawn c.args.lots.now) (g.L.Lots.drawn c.draw.new.self) (g.L.Lots.faults c.args.lots.now) (g.L.Lots.faults c.draw.new.self)
    c.args.at.lane c.bare.result on c.bare.ensures c.in_default.ensures.trace c.in_default.ensures.cause.later c.in_default.ensures.cause.failed
    (replied {H = g.row.H.Denot} {Job = g.row.H-Job.Denot} hub s settled before c.args.self.now c.args.at.lane c.args.at.is_last c.bare.result
    (Draws None ∷ h) (standing_draws {H = g.row.H.Denot} {Job = g.row.H-Job.Denot} hub s settled before c.args.self.now None h st)
    (come_drawn None c.args.at.lane c.args.at.is_last h come) c.answer.new.self
    (c.in_ok-answer.ensures ∙ ap (λ b. c.args.self.now.words ++ reply_and_end c.args.at.lane c.bare.result b) ends_so))

pub returns-clause-made : goal.returns-clause-made
returns-clause-made g c =
    let hub = meaning g.H.Hub.begin_of g.H.Hub.step_of in
    let bytes = c.in-Ok.drawn in
    let words = c.args.self.now.words in
    let unsaid : c.truncate.new.self ≡ words =
    c.truncate.ensures ∙ ap (λ n. take n c.answer.new.self) c.count-said.ensures ∙ ap (take (length words)) c.in_ok-answer.ensures
    ∙ first_again words (reply_and_end c.args.at.lane c.bare.result c.ends_after-ends.result) in
    on_ok_weaker c.tell_token.result (λ f s before h st rests come none o at on named room.
    let sixteen : length bytes ≡ 16 = search rules in
    token_made {H = g.row.H.Denot} {Job = g.row.H-Job.Denot} hub s before c.tell_token.new.self o h c.args.reconnect
    (g.L.Lots.drawn c.args.lots.now) (g.L.Lots.drawn c.draw.new.self) (g.L.Lots.faults c.args.lots.now) (g.L.Lots.faults c.draw.new.self)
    bytes sixteen c.in-Ok.ensures.trace c.in-Ok.ensures.cause.unfailed
    (f s before (Draws (Some bytes) ∷ h) (standing_words {H = g.row.H.Denot} {Job = g.row.H-Job.Denot} hub s settled before c.args.self.now
    c.truncate.new.self (Draws (Some bytes) ∷ h) unsaid
    (standing_draws {H = g.row.H.Denot} {Job = g.row.H-Job.Denot} hub s settled before c.args.self.now (Some bytes) h st))
    rests (come_drawn (Some bytes) c.args.at.lane c.args.at.is_last h come) none o at on named room)) c.tell_token.ensures.told

pub returns-clause-unfailed : goal.returns-clause-unfailed
returns-clause-unfailed g c = on_err c.tell_token.result c.in-Ok.ensures.cause.unfailed
