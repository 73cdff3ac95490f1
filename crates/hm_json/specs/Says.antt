-- What a frame says.
use Rattle.std.specs.Prelude.{◌≡◌, ℕ, ℤ, List, Some, None, Ok, Err, ◌⊎◌}
use Rattle.hv_value.specs.Tree.{Tree, null, boolean, int, text, bytes, list, map}
use Rattle.hv_value.specs.View as seen
use Rattle.hv_json.specs.Reading.{reading}
use Rattle.hv_json.specs.declared.reading.JsonError.TheVariants as json
use Rattle.hm_message.specs.Kind.{number, kind_of, IsOfNoKind}
use Rattle.hm_message.specs.declared.kind.Kind.{Kind}
use Rattle.hm_message.specs.declared.message.Message.{Message}
use Rattle.hm_message.specs.declared.message.Message.TheVariants.{Invocation, StreamItem, Completion, StreamInvocation, CancelInvocation, Ping, Close, Ack, Sequence}
use Rattle.hm_message.specs.declared.message.Ending.{Ending}
use Rattle.hm_message.specs.declared.message.Ending.TheVariants as ending
use Rattle.hm_json.specs.Properties as property
use Rattle.hm_message.specs.Meaning.{first}
use Rattle.hm_json.specs.Properties.{type_of, faults}
use Rattle.hm_json.specs.declared.refusal.Refusal.{Refusal}
use Rattle.hm_json.specs.declared.refusal.Refusal.TheVariants.{NotJson, Fraction, TooDeep, NotObject, Missing, Wrong, Both, NoMemory}
pub use Rattle.hm_json.specs.Frame.{frame_of}

abbrev pub IsObject : Tree → Type 0
IsObject null = ⊥
IsObject (boolean b) = ⊥
IsObject (int z) = ⊥
IsObject (text s) = ⊥
IsObject (bytes s) = ⊥
IsObject (list ts) = ⊥
IsObject (map ps) = Unit {0}

abbrev pub Ends : Tree → Ending → Type 0
Ends t ending.Void = (property.error t ≡ Ok None) × (property.outcome t ≡ None)
Ends t (ending.Result v) = (property.error t ≡ Ok None) × (property.outcome t ≡ Some (seen.tree v))
Ends t (ending.Error s) = (property.error t ≡ Ok (Some s)) × (property.outcome t ≡ None)

-- the properties say what the message holds
abbrev pub Holds : Tree → Message → Type 0
Holds t (Invocation headers id target arguments streams) =
    (property.headers t ≡ Ok headers) × (property.optional_id t ≡ Ok id) × (property.target t ≡ Ok target) × (property.arguments t ≡ Ok arguments) × (property.streams t ≡ Ok streams)
Holds t (StreamItem headers id item) =
    (property.headers t ≡ Ok headers) × (property.id t ≡ Ok id) × (property.item t ≡ Ok (seen.tree item))
Holds t (Completion headers id end) =
    (property.headers t ≡ Ok headers) × (property.id t ≡ Ok id) × Ends t end
Holds t (StreamInvocation headers id target arguments streams) =
    (property.headers t ≡ Ok headers) × (property.id t ≡ Ok id) × (property.target t ≡ Ok target) × (property.arguments t ≡ Ok arguments) × (property.streams t ≡ Ok streams)
Holds t (CancelInvocation headers id) =
    (property.headers t ≡ Ok headers) × (property.id t ≡ Ok id)
Holds t Ping = Unit {0}
Holds t (Close error allow) = (property.error t ≡ Ok error) × (property.allow t ≡ Ok allow)
Holds t (Ack upto) = property.sequence_id t ≡ Ok upto
Holds t (Sequence first received) = (property.sequence_id t ≡ Ok first) × (property.received t ≡ received)

-- the object of a message
abbrev pub IsMessage : Tree → Message → Type 0
IsMessage t m = IsObject t × (type_of t ≡ Ok (number (kind_of m))) × Holds t m

-- the frame says the message
abbrev pub Says : List ℕ → Message → Type 0
Says frame m = (t : Tree) × ((reading frame ≡ Ok t) × IsMessage t m)

abbrev pub IsUnknown : Tree → ℤ → Type 0
IsUnknown t n = IsObject t × (type_of t ≡ Ok n) × IsOfNoKind n

-- the frame is an object whose type is a number that no message has
abbrev pub Unknown : List ℕ → ℤ → Type 0
Unknown frame n = (t : Tree) × ((reading frame ≡ Ok t) × IsUnknown t n)

-- the object's type is refused, or the first of the faults of a message of its type
abbrev pub IsFaulty : Tree → Refusal → Type 0
IsFaulty t r = IsObject t × ((type_of t ≡ Err r) ⊎ ((k : Kind) × ((type_of t ≡ Ok (number k)) × (first (faults k t) ≡ Some r))))

-- the frame is refused for this reason
abbrev pub Why : List ℕ → Refusal → Type 0
Why frame NotJson = reading frame ≡ Err json.NotJson
Why frame Fraction = reading frame ≡ Err json.Fraction
Why frame TooDeep = reading frame ≡ Err json.TooDeep
Why frame NotObject = (t : Tree) × ((reading frame ≡ Ok t) × ¬ IsObject t)
Why frame (Missing f) = (t : Tree) × ((reading frame ≡ Ok t) × IsFaulty t (Missing f))
Why frame (Wrong f) = (t : Tree) × ((reading frame ≡ Ok t) × IsFaulty t (Wrong f))
Why frame Both = (t : Tree) × ((reading frame ≡ Ok t) × IsFaulty t Both)
Why frame NoMemory = ⊥

-- ---- of whatever frame that reads as a value

-- each frame of the value says the message
abbrev pub SaysOf : Tree → Message → Type 0
SaysOf t m = (frame : List ℕ) → reading frame ≡ Ok t → Says frame m

-- each frame of the value is of this unknown type
abbrev pub UnknownOf : Tree → ℤ → Type 0
UnknownOf t n = (frame : List ℕ) → reading frame ≡ Ok t → Unknown frame n

-- each frame of the value is refused for this reason
abbrev pub WhyOf : Tree → Refusal → Type 0
WhyOf t r = (frame : List ℕ) → reading frame ≡ Ok t → Why frame r
