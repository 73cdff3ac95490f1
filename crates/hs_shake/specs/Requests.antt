-- What a handshake request asks for, why it is refused, and the request that is written (HubProtocol.md, "Overview").
use Rattle.std.specs.Prelude.{◌≡◌, ◌≢◌, ◌≤◌, ◌⊎◌, ℕ, ℤ, pos, List, ◌++◌, codes, decimal, Option, None, Some, Result, Ok, Err}
use Rattle.std.specs.Option.{ok_or}
use Rattle.hv_value.specs.Tree.{Tree, Pairs}
use Rattle.hm_message.specs.Fields.{text_in, whole_in}
use Rattle.hm_message.specs.declared.message.Codec.{Codec}
use Rattle.hm_message.specs.declared.message.Codec.TheVariants.{Json, Pack}
use Rattle.hm_message.specs.declared.message.Field.{Field}
use Rattle.hm_message.specs.declared.message.Field.TheVariants as field
use Rattle.hs_shake.specs.Objects.{IsObjectOf, IsNoObject, property}
use Rattle.hs_shake.specs.declared.shake.ShakeError.{ShakeError}
use Rattle.hs_shake.specs.declared.shake.ShakeError.TheVariants.{NotJson, Missing, Wrong, Unspoken, Version, Refused, NoMemory}

-- versions 1 to this are spoken
abbrev pub highest_version : ℕ
highest_version = 3

-- a version that is spoken: 1, 2 or 3
abbrev pub IsVersion : ℕ → Type 0
IsVersion version = (1 ≤ version) × (version ≤ highest_version)

-- the name of a codec's protocol
abbrev pub protocol_name : Codec → List ℕ
protocol_name Json = codes "json"
protocol_name Pack = codes "messagepack"

-- what a property that must be there says, as a function reads it
abbrev pub says : {A : Type 0} → Field → (Tree → Option A) → Option Tree → Result A ShakeError
says field reads None = Err (Missing field)
says field reads (Some t) = ok_or (reads t) (Wrong field)

-- the protocol that is asked for, by its name
abbrev pub protocol : Pairs → Result (List ℕ) ShakeError
protocol ps = says field.Protocol text_in (property field.Protocol ps)

-- the version that is asked for
abbrev pub version : Pairs → Result ℤ ShakeError
version ps = says field.Version whole_in (property field.Version ps)

-- the frame asks for this codec and this version, which is spoken
abbrev pub Asks : List ℕ → Codec → ℕ → Type 0
Asks frame codec n =
    (ps : Pairs) × (IsObjectOf frame ps × (protocol ps ≡ Ok (protocol_name codec)) × (version ps ≡ Ok (pos n)) × IsVersion n)

-- no codec has this name
abbrev pub IsUnspoken : List ℕ → Type 0
IsUnspoken name = (codec : Codec) → name ≢ protocol_name codec

-- no version that is spoken has this number
abbrev pub IsUnknown : ℤ → Type 0
IsUnknown z = (n : ℕ) → IsVersion n → z ≢ pos n

-- The properties are refused for this reason: first the protocol's value, then the version's, then the protocol's name, then
-- the version's number.
abbrev pub Refuses : Pairs → ShakeError → Type 0
Refuses ps Unspoken = (name : List ℕ) × ((z : ℤ) × ((protocol ps ≡ Ok name) × (version ps ≡ Ok z) × IsUnspoken name))
Refuses ps (Version z) = (codec : Codec) × ((protocol ps ≡ Ok (protocol_name codec)) × (version ps ≡ Ok z) × IsUnknown z)
Refuses ps e = (protocol ps ≡ Err e) ⊎ ((name : List ℕ) × ((protocol ps ≡ Ok name) × (version ps ≡ Err e)))

-- the frame is refused for this reason
abbrev pub WhyNot : List ℕ → ShakeError → Type 0
WhyNot frame NotJson = IsNoObject frame
WhyNot frame (Refused s) = ⊥
WhyNot frame NoMemory = ⊥
WhyNot frame e = (ps : Pairs) × (IsObjectOf frame ps × Refuses ps e)

-- the frame that is written to ask for this codec and version
abbrev pub request_frame : Codec → ℕ → List ℕ
request_frame codec n =
    codes "{\"protocol\":\"" ++ (protocol_name codec ++ (codes "\",\"version\":" ++ (decimal n ++ codes "}")))
