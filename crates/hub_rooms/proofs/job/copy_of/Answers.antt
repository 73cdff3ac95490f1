use Rattle.std.proofs.Common.{◌≡◌, sym, ◌∙◌, ap}
use Rattle.std.proofs.lemmas.Result.{IfOk-weaker}
use Rattle.hv_value.specs.View.{tree}
use Rattle.hv_value.specs.declared.value.Value.{Value}
use Rattle.hm_message.specs.Message.{value_of}
use Rattle.hub_rooms.proofs.job.copy_of.Goals as goal

pub returns : goal.returns
returns c =
    let laws = c.values_are_trees.ensures in
    IfOk-weaker c.copy.result (λ (v : Value). tree v ≡ tree c.args.value.now) (λ (v : Value). v ≡ c.args.value.now)
    (λ v e. sym (laws.value_of-tree v) ∙ ap value_of e ∙ laws.value_of-tree c.args.value.now) c.copy.ensures
