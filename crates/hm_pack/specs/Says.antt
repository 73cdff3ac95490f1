-- What a frame says.
use Rattle.std.specs.Prelude.{◌≡◌, ◌<◌, ℕ, pos, ℤ, List, length, Some, None, Ok, Err, ◌⊎◌}
use Rattle.hv_value.specs.Tree.{Tree, list, trees}
use Rattle.hv_value.specs.View as seen
use Rattle.hv_pack.specs.Packs.{IsSpelled}
use Rattle.hv_pack.specs.Why.{IsRefused}
use Rattle.hm_message.specs.Fields.{items_in}
use Rattle.hm_message.specs.Kind.{number, kind_of, IsOfNoKind}
use Rattle.hm_message.specs.declared.kind.Kind.{Kind}
use Rattle.hm_message.specs.declared.message.Message.{Message}
use Rattle.hm_message.specs.declared.message.Message.TheVariants.{Invocation, StreamItem, Completion, StreamInvocation, CancelInvocation, Ping, Close, Ack, Sequence}
use Rattle.hm_message.specs.declared.message.Ending.{Ending}
use Rattle.hm_message.specs.declared.message.Ending.TheVariants as ending
use Rattle.hm_pack.specs.Elements as element
use Rattle.hm_message.specs.Meaning.{first}
use Rattle.hm_pack.specs.Elements.{type_of, faults}
use Rattle.hm_pack.specs.declared.refusal.PackRefusal.{PackRefusal}
use Rattle.hm_pack.specs.declared.refusal.PackRefusal.TheVariants.{Value, Trailing, NotArray, Missing, Wrong, ResultKind, NoMemory}
pub use Rattle.hm_pack.specs.Frame.{frame_of}

-- the frame is one array of these elements, in any of its spellings
abbrev pub IsArray : List ℕ → List Tree → Type 0
IsArray frame ts = IsSpelled frame 0 (list (trees ts)) (length frame)

-- the kind of result, and what stands behind it
abbrev pub Ends : List Tree → Ending → Type 0
Ends ts ending.Void = element.result_kind ts ≡ Ok (pos 2)
Ends ts (ending.Result v) = (element.result_kind ts ≡ Ok (pos 3)) × (element.outcome ts ≡ Ok (seen.tree v))
Ends ts (ending.Error s) = (element.result_kind ts ≡ Ok (pos 1)) × (element.error ts ≡ Ok s)

-- the elements say what the message holds
abbrev pub Holds : List Tree → Message → Type 0
Holds ts (Invocation headers id target arguments streams) =
    (element.headers ts ≡ Ok headers) × (element.optional_id ts ≡ Ok id) × (element.target ts ≡ Ok target) × (element.arguments ts ≡ Ok arguments) × (element.streams ts ≡ Ok streams)
Holds ts (StreamItem headers id item) =
    (element.headers ts ≡ Ok headers) × (element.id ts ≡ Ok id) × (element.item ts ≡ Ok (seen.tree item))
Holds ts (Completion headers id end) =
    (element.headers ts ≡ Ok headers) × (element.id ts ≡ Ok id) × Ends ts end
Holds ts (StreamInvocation headers id target arguments streams) =
    (element.headers ts ≡ Ok headers) × (element.id ts ≡ Ok id) × (element.target ts ≡ Ok target) × (element.arguments ts ≡ Ok arguments) × (element.streams ts ≡ Ok streams)
Holds ts (CancelInvocation headers id) =
    (element.headers ts ≡ Ok headers) × (element.id ts ≡ Ok id)
Holds ts Ping = Unit {0}
Holds ts (Close error allow) = (element.close_error ts ≡ Ok error) × (element.allow ts ≡ Ok allow)
Holds ts (Ack upto) = element.sequence_id ts ≡ Ok upto
Holds ts (Sequence first received) = (element.sequence_id ts ≡ Ok first) × (element.received ts ≡ received)

-- the elements of a message
abbrev pub IsMessage : List Tree → Message → Type 0
IsMessage ts m = (type_of ts ≡ Ok (number (kind_of m))) × Holds ts m

-- the frame says the message
abbrev pub Says : List ℕ → Message → Type 0
Says frame m = (ts : List Tree) × (IsArray frame ts × IsMessage ts m)

abbrev pub IsUnknown : List Tree → ℤ → Type 0
IsUnknown ts n = (type_of ts ≡ Ok n) × IsOfNoKind n

-- the frame is an array whose type is a number that no message has
abbrev pub Unknown : List ℕ → ℤ → Type 0
Unknown frame n = (ts : List Tree) × (IsArray frame ts × IsUnknown ts n)

-- the type is refused, or the first of the faults of a message of its type
abbrev pub IsFaulty : List Tree → PackRefusal → Type 0
IsFaulty ts r = (type_of ts ≡ Err r) ⊎ ((k : Kind) × ((type_of ts ≡ Ok (number k)) × (first (faults k ts) ≡ Some r)))

-- the frame is refused for this reason
abbrev pub Why : List ℕ → PackRefusal → Type 0
Why frame (Value e) = IsRefused frame 0 e
Why frame (Trailing at) = (t : Tree) × (IsSpelled frame 0 t at × (at < length frame))
Why frame NotArray = (t : Tree) × (IsSpelled frame 0 t (length frame) × (items_in t ≡ None))
Why frame (Missing f) = (ts : List Tree) × (IsArray frame ts × IsFaulty ts (Missing f))
Why frame (Wrong f) = (ts : List Tree) × (IsArray frame ts × IsFaulty ts (Wrong f))
Why frame (ResultKind n) = (ts : List Tree) × (IsArray frame ts × IsFaulty ts (ResultKind n))
Why frame NoMemory = ⊥
