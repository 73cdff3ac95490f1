use Rattle.std.proofs.Common.{refl, None, [], ◌∙◌}
use Rattle.hd_calls.specs.Hubs.{Invoked, Notify}
use Rattle.hm_message.specs.declared.message.Message.TheVariants.{Invocation}
use Rattle.ht_machine.proofs.notices.message.Goals as goal

pub returns : goal.returns
returns c =
    let target = c.in_ok-of.field-0 in
    let arguments = c.in_ok-arguments.field-0 in
    let call : Invoked = record { way = Notify; target = target; arguments = arguments; streams = [] } in
    (call, record { way = refl; bare = refl; is = λ i. Invocation (c.none.ensures i) None target arguments ((c.of-2.ensures ∙ c.new.ensures.items) i) })
