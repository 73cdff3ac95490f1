use Rattle.std.proofs.Common.{◌≡◌, ◌∙◌, [], Some, None, ap, arith}
use Rattle.json.specs.Json.{read_key}
use Rattle.json.proofs.Grammar.{read_key-shorter}
use Rattle.hv_value.specs.View.{tree}
use Rattle.hv_json.proofs.Objects.{one_more_member, all_read}
use Rattle.hv_json.proofs.object.next_member.Goals as goal

pub returns-in-Ok-None-clause-end : goal.returns-in-Ok-None-clause-end
returns-in-Ok-None-clause-end c = λ bytes all members.
    let ended : read_key c.args.reader.now ≡ Some (None, c.next_key.new.self) = grind arith in
    let empty : c.next_key.new.self ≡ [] = grind arith in
    all_read c.pairs_in_order_are_their_map.ensures c.map_keys_are_in_order.ensures bytes all c.args.reader.now members (ended ∙ ap (λ r. Some (None, r)) empty)

pub returns-clause-shorter : goal.returns-clause-shorter
returns-clause-shorter c =
    let named : read_key c.args.reader.now ≡ Some (Some c.in-Ok-Some.name.now, c.next_key.new.self) = grind arith in
    omega (arith, read_key-shorter c.args.reader.now (Some c.in-Ok-Some.name.now) c.next_key.new.self named, c.in_ok-value.ensures.shorter)

pub returns-clause-member : goal.returns-clause-member
returns-clause-member c = λ all before.
    let named : read_key c.args.reader.now ≡ Some (Some c.in-Ok-Some.name.now, c.next_key.new.self) = grind arith in
    one_more_member all c.args.reader.now c.next_key.new.self c.quick.new.reader before c.in-Ok-Some.name.now (tree c.in_ok-value.value) named c.in_ok-value.ensures.shorter c.in_ok-value.ensures.ok
