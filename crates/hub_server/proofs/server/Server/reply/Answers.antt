use Rattle.std.proofs.Common.{◌++◌, ap, ◌∙◌}
use Rattle.hj_jobs.specs.Meaning.{meaning}
use Rattle.hub_server.specs.Words.{reply_and_end}
use Rattle.hub_server.proofs.OutcomeReplies.{replied}
use Rattle.hub_server.proofs.server.Server.reply.Goals as goal

pub returns : goal.returns
returns g c =
    let hub = meaning g.H.Hub.begin_of g.H.Hub.step_of in
    record {
      said = λ s u before h st come.
          replied {H = g.row.H.Denot} {Job = g.row.H-Job.Denot} hub s u before c.args.self.now c.args.at.lane c.args.at.is_last c.args.reply h st come
          c.answer.new.self (c.in_ok-answer.ensures ∙ ap (λ b. c.args.self.now.words ++ reply_and_end c.args.at.lane c.args.reply b) c.ends_after-ends.ensures);
    }
