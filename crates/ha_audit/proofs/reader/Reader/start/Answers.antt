use Rattle.std.proofs.Common.{◌∙◌}
use Rattle.ha_audit.proofs.Passing.{started}
use Rattle.ha_audit.proofs.reader.Reader.start.Goals as goal

pub returns : goal.returns
returns c =
    let trace = c.args.trace.now in
    started trace.only c.after.result trace.text trace.head c.body.ensures.trace.0 c.body.ensures.trace.1
    (c.after.ensures.0 ∙ c.body.ensures.place) c.after.ensures.1
