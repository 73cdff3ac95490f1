-- What the properties of a call's object are, as far as its members were read.
use Rattle.std.specs.Prelude.{◌≡◌, List, None, option_map}
use Rattle.hv_value.specs.Tree.{Pair, last_of}
use Rattle.hv_value.specs.View.{tree}
use Rattle.hm_message.specs.Name.{field_name}
use Rattle.hm_message.specs.declared.message.Field.TheVariants as field
use Rattle.hm_json.specs.declared.calls.Properties.{Properties}

-- these are the values of the properties of these members, of which none has headers or stream ids
pub record AreOf (p : Properties) (members : List Pair) : Type 0 where
  pub kind : last_of (field_name field.Kind) members ≡ option_map tree p.kind
  pub id : last_of (field_name field.InvocationId) members ≡ option_map tree p.id
  pub target : last_of (field_name field.Target) members ≡ option_map tree p.target
  pub arguments : last_of (field_name field.Arguments) members ≡ option_map tree p.arguments
  pub headers : last_of (field_name field.Headers) members ≡ None
  pub streams : last_of (field_name field.StreamIds) members ≡ None
