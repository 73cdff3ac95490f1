-- What the body of the response to a negotiate tells (TransportProtocols.md, "POST endpoint-base/negotiate").
use Rattle.std.specs.Prelude.{ℕ, Bool, true, false, not, List, codes, Option, Some, None, option_map, option_and_then, if◌then◌else◌}
use Rattle.serde_json.specs.Data.{Data, boolean, string, object, Members, no_members, member}
use Rattle.hv_value.specs.Same.{same_bytes}
use Rattle.hv_json.specs.Reading.{json}

-- the token of a connection, and whether the connection is kept across its links
pub record Told : Type 0 where
  pub token : List ℕ
  pub reconnect : Bool

abbrev pub member_in : List ℕ → Members → Option Data
member_in name no_members = None
member_in name (member key value members) = if same_bytes name key then Some value else member_in name members

abbrev pub text_in : Data → Option (List ℕ)
text_in (string text) = Some text
text_in value = None

-- it is granted by `true` alone
abbrev pub is_granted : Option Data → Bool
is_granted (Some (boolean granted)) = granted
is_granted value = false

-- what an object tells: nothing without a token that is a text. What else stands there isn't looked at
abbrev pub told_in : Data → Option Told
told_in (object members) =
    option_map (λ token. record { token = token; reconnect = is_granted (member_in (codes "useStatefulReconnect") members) })
    (option_and_then text_in (member_in (codes "connectionToken") members))
told_in value = None

-- what a body tells. One that is no JSON, or none of an object with a token, is bad
abbrev pub told_by : List ℕ → Option Told
told_by body = option_and_then told_in (json body)

abbrev pub if_as_asked : Bool → Told → Option Told
if_as_asked asked told = if (if asked then told.reconnect else not told.reconnect) then Some told else None

-- the same for whoever takes no other grant than the one that was asked for
abbrev pub told_as_asked : Bool → List ℕ → Option Told
told_as_asked asked body = option_and_then (if_as_asked asked) (told_by body)
