use Rattle.std.proofs.Common.{◌∙◌}
use Rattle.sr_client.proofs.Keeping.{on_ok, works_round}
use Rattle.sr_client.proofs.Parts.{played}
use Rattle.sr_client.proofs.client.Client.round.Goals as goal

pub returns-in-Some-clause-round : goal.returns-in-Some-clause-round
returns-in-Some-clause-round c =
    on_ok c.round.result
    (λ rounds s b w h x.
    works_round s b c.args.self.now w h c.round.new.self c.in-Some.peer c.moment-now.result x
    (played _ c.args.self.now.peer c.in-Some.peer _ _ x.standing.plays c.in-Some.is) rounds
    (c.moment-now.ensures ∙ x.standing.kept.dialed.heard)) c.round.ensures
