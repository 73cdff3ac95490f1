use Rattle.std.proofs.Common.{[], ◌∙◌}
use Rattle.ha_audit.proofs.trace.parse_lines.Goals as goal

pub loop-reader-init : goal.loop-reader-init
loop-reader-init c = (
  [],
  record {
    begins = c.in_ok-head.ensures.ok c.args.only;
    place = c.after-reader.ensures.0 ∙ c.in_ok-head.ensures.place;
    number = c.after-reader.ensures.1;
  },
)
