use Rattle.hv_value.specs.Tree.{int}
use Rattle.hm_message.specs.Kind.{number, kind_of}
use Rattle.hm_message.specs.declared.message.Field.TheVariants as field
use Rattle.hm_json.specs.Frame.{property_of}
use Rattle.hm_json.specs.Written.{properties_in_order}
use Rattle.hm_json.proofs.Puts.{in_order-append, object_in_order}
use Rattle.hm_json.proofs.writing.put_message.Goals as goal

pub returns-clause-in_order : goal.returns-clause-in_order
returns-clause-in_order c =
    let m = c.args.m.now in
    object_in_order c.map_has_the_keys.ensures c.map_keys_are_in_order.ensures m
    (in_order-append (properties_in_order m) (property_of field.Kind (int (number (kind_of m)))) c.in_ok-put_properties.ensures.put.in_order (tt, tt))
