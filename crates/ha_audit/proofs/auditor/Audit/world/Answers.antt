use Rattle.hd_delivery.specs.declared.vocabulary.Side.TheVariants.{Client, Server}
use Rattle.ha_audit.proofs.AuditStanding.{counts_are}
use Rattle.ha_audit.proofs.auditor.Audit.world.Goals as goal

pub returns : goal.returns
returns c = λ x lines w keeps. (
  w,
  (
    keeps.tells,
    record {
      of_client = counts_are x lines c.args.self.now w keeps Client c.counts.result c.counts.ensures;
      of_server = counts_are x lines c.args.self.now w keeps Server c.counts-2.result c.counts-2.ensures;
      is_still = c.is_still.ensures x lines w keeps;
    },
  ),
)
