use Rattle.std.proofs.Common.{◌≡◌, refl, rules}
use Rattle.hm_message.specs.Name.{field_name}
use Rattle.hm_message.specs.declared.message.Field.TheVariants as field
use Rattle.hm_json.proofs.Called.{took_kind, took_id, took_target, took_arguments}
use Rattle.hm_json.proofs.calls.Properties.take.Goals as goal

pub returns-in-Some-Kind : goal.returns-in-Some-Kind
returns-in-Some-Kind c = λ yes before are.
    let is : c.args.name.now ≡ field_name field.Kind = search rules in
    took_kind c.args.self.now _ before c.args.name.now c.args.value is refl refl refl refl are

pub returns-in-Some-Target : goal.returns-in-Some-Target
returns-in-Some-Target c = λ yes before are.
    let is : c.args.name.now ≡ field_name field.Target = search rules in
    took_target c.args.self.now _ before c.args.name.now c.args.value is refl refl refl refl are

pub returns-in-Some-Arguments : goal.returns-in-Some-Arguments
returns-in-Some-Arguments c = λ yes before are.
    let is : c.args.name.now ≡ field_name field.Arguments = search rules in
    took_arguments c.args.self.now _ before c.args.name.now c.args.value is refl refl refl refl are

pub returns-in-Some-InvocationId : goal.returns-in-Some-InvocationId
returns-in-Some-InvocationId c = λ yes before are.
    let is : c.args.name.now ≡ field_name field.InvocationId = search rules in
    took_id c.args.self.now _ before c.args.name.now c.args.value is refl refl refl refl are
