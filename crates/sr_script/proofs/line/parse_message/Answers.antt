use Rattle.std.proofs.Common.{sym, ◌∙◌}
use Rattle.sr_script.proofs.line.parse_message.Goals as goal

pub returns-then-is_sequenced-clause-found : goal.returns-then-is_sequenced-clause-found
returns-then-is_sequenced-clause-found c =
    let said = rw c.in-Ok-Message.field-0-is at c.in-Ok-Message.ensures.message in (
      record { holds = said.0; only = λ other says. (c.one_meaning.ensures c.args.frame.now).one_message other c.in-Ok-Message.message says said.0 },
      sym c.is_sequenced.ensures ∙ c.if-is_sequenced.true,
      said.1,
    )
