use Rattle.std.proofs.Common.{◌∙◌, append_assoc}
use Rattle.sr_lines.specs.Lines.{standing_line}
use Rattle.sr_lines.proofs.Reporting.{on_one_line}
use Rattle.sr_lines.proofs.report.push_standing.Goals as goal

pub returns : goal.returns
returns c = on_one_line c.extend_from_slice.result c.args.report.now.items c.extend_from_slice.new.self.items c.as_bytes.result.now
    (standing_line c.args.side c.args.state c.args.sent c.args.processed c.args.held) c.extend_from_slice.ensures.items
    (c.as_bytes.ensures.value ∙ (c.in_ok-line.ensures.ok ∙ rw (c.name-name.ensures, c.state_word-state.ensures) (simp append_assoc)))
