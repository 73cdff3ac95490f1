use Rattle.hm_message.specs.declared.message.Message.TheVariants.{StreamItem}
use Rattle.hi_calls.proofs.Steady.{uploaded_item}
use Rattle.hi_calls.proofs.calls.Calls.upload_item.Goals as goal

pub returns-clause-ok : goal.returns-clause-ok
returns-clause-ok c = λ prefix h s. record {
  live = c.in_ok-id.ensures.live prefix h s;
  says = λ i. StreamItem (c.none.ensures i) (c.in_ok-id.ensures.ok prefix h s i) c.args.value;
}

pub returns-clause-stands : goal.returns-clause-stands
returns-clause-stands c = λ prefix h s v. uploaded_item c.args.self.now prefix h c.args.call c.args.which v s (c.in_ok-id.ensures.live prefix h s)
