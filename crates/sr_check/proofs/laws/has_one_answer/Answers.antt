use Rattle.sr_check.proofs.SomeAnswer.{FrameLaws}
use Rattle.sr_check.proofs.OneAnswer.{one_answer}
use Rattle.sr_check.proofs.laws.has_one_answer.Goals as goal

pub returns : goal.returns
returns c =
    let laws : FrameLaws = record {
      cutting = c.has_cutting.ensures;
      once = c.begins_once.ensures;
      beginning = c.one_beginning.ensures;
      empty = c.empty_waits.ensures;
      meaning = c.one_meaning.ensures;
    } in
    one_answer laws
