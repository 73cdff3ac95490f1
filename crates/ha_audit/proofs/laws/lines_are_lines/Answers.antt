use Rattle.ha_audit.proofs.Lines.{head_line, step_line}
use Rattle.ha_audit.proofs.Once.{same_head, same_step}
use Rattle.ha_audit.proofs.laws.lines_are_lines.Goals as goal

pub returns : goal.returns
returns c = record {
  head_line = λ head is. head_line head is;
  step_line = λ step has. step_line c.text_has_no_control.ensures step has;
  one_head = λ head other p q e. same_head c.words_are_cut_once.ensures c.limits_are_told_once.ensures head other p q e;
  one_step = λ step other p q e. same_step c.one_meaning.ensures step other p q e;
}
