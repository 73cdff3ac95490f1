-- What a handshake response says, and the responses that are written (HubProtocol.md, "Overview").
use Rattle.std.specs.Prelude.{◌≡◌, ◌≢◌, ◌⊎◌, ℕ, List, [], ◌++◌, codes, Option, None, Some}
use Rattle.hv_value.specs.Tree.{Tree, null, text, Pairs}
use Rattle.hm_message.specs.declared.message.Field.TheVariants as field
use Rattle.hs_shake.specs.Objects.{IsObjectOf, IsNoObject, property}
use Rattle.hs_shake.specs.declared.shake.ShakeError.{ShakeError}
use Rattle.hs_shake.specs.declared.shake.ShakeError.TheVariants.{NotJson, Missing, Wrong, Unspoken, Version, Refused, NoMemory}

-- ---- what is read

-- the error is absent, which a null counts as
abbrev pub HasNoError : Pairs → Type 0
HasNoError ps = (property field.Error ps ≡ None) ⊎ (property field.Error ps ≡ Some null)

-- the error is neither absent nor null nor a text
abbrev pub HasWrongError : Pairs → Type 0
HasWrongError ps = (t : Tree) × ((property field.Error ps ≡ Some t) × (t ≢ null) × ((s : List ℕ) → t ≢ text s))

-- the frame says that the request was taken
abbrev pub Accepts : List ℕ → Type 0
Accepts frame = (ps : Pairs) × (IsObjectOf frame ps × HasNoError ps)

-- the frame doesn't say so, for this reason
abbrev pub WhyNot : List ℕ → ShakeError → Type 0
WhyNot frame NotJson = IsNoObject frame
WhyNot frame (Wrong field.Error) = (ps : Pairs) × (IsObjectOf frame ps × HasWrongError ps)
WhyNot frame (Refused s) = (ps : Pairs) × (IsObjectOf frame ps × (property field.Error ps ≡ Some (text s)))
WhyNot frame e = ⊥

-- ---- what is written

-- the frame that is written where the request is taken
abbrev pub response_frame : List ℕ
response_frame = codes "{}"

-- a refusal of a request that is answered: each but out of memory
abbrev pub IsAnswered : ShakeError → Type 0
IsAnswered NotJson = Unit {0}
IsAnswered (Missing f) = Unit {0}
IsAnswered (Wrong f) = Unit {0}
IsAnswered Unspoken = Unit {0}
IsAnswered (Version n) = Unit {0}
IsAnswered (Refused s) = ⊥
IsAnswered NoMemory = ⊥

-- the error that is told for a refusal, and nothing for what isn't answered
abbrev pub refusal_text : ShakeError → List ℕ
refusal_text NotJson = codes "The handshake is not JSON."
refusal_text (Missing f) = codes "The handshake lacks a field."
refusal_text (Wrong f) = codes "The handshake lacks a field."
refusal_text Unspoken = codes "The protocol is not known."
refusal_text (Version n) = codes "The version is not known."
refusal_text (Refused s) = []
refusal_text NoMemory = []

-- the frame that tells it
abbrev pub refusal_frame : ShakeError → List ℕ
refusal_frame e = codes "{\"error\":\"" ++ (refusal_text e ++ codes "\"}")

-- the frame that answers a request, which is taken if there is no fault
abbrev pub answer_frame : Option ShakeError → List ℕ
answer_frame None = response_frame
answer_frame (Some fault) = refusal_frame fault
