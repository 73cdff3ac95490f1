use Rattle.hm_message.specs.declared.message.Message.TheVariants.{Completion}
use Rattle.hi_calls.proofs.calls.Calls.upload_end.Goals as goal

pub returns-clause-ok : goal.returns-clause-ok
returns-clause-ok c = λ prefix h s. record {
  live = c.in_ok-id.ensures.live prefix h s;
  says = λ i. Completion (c.none.ensures i) (c.in_ok-id.ensures.ok prefix h s i) (c.ending_of.ensures i);
}
