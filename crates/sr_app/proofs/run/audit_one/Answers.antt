use Rattle.std.proofs.Common.{◌∙◌, Some}
use Rattle.sr_app.proofs.Audited.{judged}
use Rattle.sr_app.proofs.run.audit_one.Goals as goal

pub returns-in-Ok-verdict_alone_line-clause-answered : goal.returns-in-Ok-verdict_alone_line-clause-answered
returns-in-Ok-verdict_alone_line-clause-answered g c =
    judged (Some c.args.side) c.from.result c.write.result c.args.text.now c.as_bytes.result.now _ _ _ _ (record {
      trace = c.in-Ok.trace;
      parsed = c.in-Ok.ensures.ok;
      comes = (c.in-Ok-audit_alone.verdict, c.in-Ok-audit_alone.ensures, c.from.ensures, c.as_bytes.ensures.value ∙ c.in-Ok-verdict_alone_line.ensures);
    }) c.write.ensures.same c.write.ensures.whole c.write.ensures.part
