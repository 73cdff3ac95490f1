-- The elements of a message's array (HubProtocol.md, "MessagePack (MsgPack) encoding"), each as
-- what it says or what is wrong with it. Its place counts from 0, the type's.
use Rattle.std.specs.Prelude.{ℕ, ℤ, Bool, false, List, [], ◌∷◌, Option, Some, None, Result, Ok, Err, slice_get, if◌then◌else◌}
use Rattle.std.specs.Option.{ok_or, option_and_then, option_map}
use Rattle.std.specs.Ordering.{int_eq}
use Rattle.std.specs.Result.{result_err}
use Rattle.hv_value.specs.Tree.{Tree, null}
use Rattle.hm_message.specs.Fields.{text_in, items_in, flag_in, whole_in, number_in, texts_in, headers_in}
use Rattle.hm_message.specs.Headers.{Header}
use Rattle.hm_message.specs.declared.kind.Kind.{Kind}
use Rattle.hm_message.specs.declared.kind.Kind.TheVariants.{Invocation, StreamItem, Completion, StreamInvocation, CancelInvocation, Ping, Close, Ack, Sequence}
use Rattle.hm_message.specs.declared.message.Field.{Field}
use Rattle.hm_message.specs.declared.message.Field.TheVariants as field
use Rattle.hm_pack.specs.Places.{type_place, headers_place, id_place, target_place, arguments_place, streams_place, item_place, result_kind_place, outcome_place, close_error_place, allow_place, sequence_id_place, received_place, error_result, void_result, value_result}
use Rattle.hm_pack.specs.declared.refusal.PackRefusal.{PackRefusal}
use Rattle.hm_pack.specs.declared.refusal.PackRefusal.TheVariants.{Missing, Wrong, ResultKind}

-- ---- an element by its value

-- an element that must be there, as a function reads it
abbrev pub needed : {A : Type 0} → Field → (Tree → Option A) → Option Tree → Result A PackRefusal
needed field reads None = Err (Missing field)
needed field reads (Some t) = ok_or (reads t) (Wrong field)

-- one that says x where the array ends before it
abbrev pub optional : {A : Type 0} → A → Field → (Tree → Option A) → Option Tree → Result A PackRefusal
optional x field reads None = Ok x
optional x field reads (Some t) = ok_or (reads t) (Wrong field)

-- the element at a place that must be there
abbrev pub must : {A : Type 0} → ℕ → Field → (Tree → Option A) → List Tree → Result A PackRefusal
must at field reads ts = needed field reads (slice_get ts at)

-- the element at a place before which the array may end
abbrev pub may : {A : Type 0} → A → ℕ → Field → (Tree → Option A) → List Tree → Result A PackRefusal
may x at field reads ts = optional x field reads (slice_get ts at)

-- a text, or none where it is nil
abbrev pub text_or_nil : Tree → Option (Option (List ℕ))
text_or_nil null = Some None
text_or_nil t = option_map Some (text_in t)

-- ---- the elements

-- the message's type
abbrev pub type_of : List Tree → Result ℤ PackRefusal
type_of ts = must type_place field.Kind whole_in ts

-- the headers of a message that belongs to an invocation
abbrev pub headers : List Tree → Result (List Header) PackRefusal
headers ts = must headers_place field.Headers headers_in ts

-- the id that each such message but an Invocation must have
abbrev pub id : List Tree → Result (List ℕ) PackRefusal
id ts = must id_place field.InvocationId text_in ts

-- an Invocation's id
abbrev pub optional_id : List Tree → Result (Option (List ℕ)) PackRefusal
optional_id ts = must id_place field.InvocationId text_or_nil ts

-- what is called
abbrev pub target : List Tree → Result (List ℕ) PackRefusal
target ts = must target_place field.Target text_in ts

-- with what it is called
abbrev pub arguments : List Tree → Result (List Tree) PackRefusal
arguments ts = must arguments_place field.Arguments items_in ts

-- the ids of the streams that the caller sends
abbrev pub streams : List Tree → Result (List (List ℕ)) PackRefusal
streams ts = may [] streams_place field.StreamIds texts_in ts

-- a stream's item
abbrev pub item : List Tree → Result Tree PackRefusal
item ts = must item_place field.Item Some ts

-- how an invocation ends, as a number
abbrev pub result_kind : List Tree → Result ℤ PackRefusal
result_kind ts = must result_kind_place field.Ending whole_in ts

-- the error after a kind of result that announces one
abbrev pub error : List Tree → Result (List ℕ) PackRefusal
error ts = must outcome_place field.Error text_in ts

-- the result after a kind of result that announces one
abbrev pub outcome : List Tree → Result Tree PackRefusal
outcome ts = must outcome_place field.Ending Some ts

-- why the connection is closed
abbrev pub close_error : List Tree → Result (Option (List ℕ)) PackRefusal
close_error ts = must close_error_place field.Error text_or_nil ts

-- whether the other end may connect again
abbrev pub allow : List Tree → Result Bool PackRefusal
allow ts = may false allow_place field.AllowReconnect flag_in ts

-- the number of an Ack or a Sequence
abbrev pub sequence_id : List Tree → Result ℕ PackRefusal
sequence_id ts = must sequence_id_place field.SequenceId number_in ts

-- never wrong
abbrev pub received : List Tree → Option ℕ
received ts = option_and_then number_in (slice_get ts received_place)

-- ---- what is wrong

-- with what stands after a kind of result
abbrev pub behind : ℤ → List Tree → Option PackRefusal
behind n ts =
    if int_eq n error_result then result_err (error ts) else
    if int_eq n void_result then None else
    if int_eq n value_result then result_err (outcome ts) else Some (ResultKind n)

-- with the kind of result, or with what stands after it
abbrev pub kind_or_behind : Result ℤ PackRefusal → List Tree → Option PackRefusal
kind_or_behind (Ok n) ts = behind n ts
kind_or_behind (Err e) ts = Some e

-- with how the invocation ends
abbrev pub ending : List Tree → Option PackRefusal
ending ts = kind_or_behind (result_kind ts) ts

-- what is wrong with the elements of a message of this type, from left to right
abbrev pub faults : Kind → List Tree → List (Option PackRefusal)
faults Invocation ts = result_err (headers ts) ∷ result_err (optional_id ts) ∷ result_err (target ts) ∷ result_err (arguments ts) ∷ result_err (streams ts) ∷ []
faults StreamItem ts = result_err (headers ts) ∷ result_err (id ts) ∷ result_err (item ts) ∷ []
faults Completion ts = result_err (headers ts) ∷ result_err (id ts) ∷ ending ts ∷ []
faults StreamInvocation ts = result_err (headers ts) ∷ result_err (id ts) ∷ result_err (target ts) ∷ result_err (arguments ts) ∷ result_err (streams ts) ∷ []
faults CancelInvocation ts = result_err (headers ts) ∷ result_err (id ts) ∷ []
faults Ping ts = []
faults Close ts = result_err (close_error ts) ∷ result_err (allow ts) ∷ []
faults Ack ts = result_err (sequence_id ts) ∷ []
faults Sequence ts = result_err (sequence_id ts) ∷ []
