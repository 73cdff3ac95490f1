-- The properties of a message's object (HubProtocol.md, "JSON Encoding"), each as what it says or
-- what is wrong with it.
use Rattle.std.specs.Prelude.{ℕ, ℤ, Bool, false, List, [], ◌∷◌, codes, Option, Some, None, Result, Ok, Err}
use Rattle.std.specs.Option.{ok_or, option_and_then, option_map}
use Rattle.std.specs.Result.{result_err}
use Rattle.hv_value.specs.Tree.{Tree, null, value_at}
use Rattle.hm_message.specs.Fields.{text_in, items_in, flag_in, whole_in, number_in, texts_in, headers_in}
use Rattle.hm_message.specs.Headers.{Header}
use Rattle.hm_message.specs.Name.{field_name}
use Rattle.hm_message.specs.declared.kind.Kind.{Kind}
use Rattle.hm_message.specs.declared.kind.Kind.TheVariants.{Invocation, StreamItem, Completion, StreamInvocation, CancelInvocation, Ping, Close, Ack, Sequence}
use Rattle.hm_message.specs.declared.message.Field.{Field}
use Rattle.hm_message.specs.declared.message.Field.TheVariants as field
use Rattle.hm_json.specs.declared.refusal.Refusal.{Refusal}
use Rattle.hm_json.specs.declared.refusal.Refusal.TheVariants.{Missing, Wrong, Both}

-- ---- a property by its value

-- a null counts as absent
abbrev pub unless_null : Option Tree → Option Tree
unless_null None = None
unless_null (Some null) = None
unless_null (Some t) = Some t

-- a property that must be there, as a function reads it
abbrev pub needed : {A : Type 0} → Field → (Tree → Option A) → Option Tree → Result A Refusal
needed field reads None = Err (Missing field)
needed field reads (Some t) = ok_or (reads t) (Wrong field)

-- one that says x where it is absent
abbrev pub optional : {A : Type 0} → A → Field → (Tree → Option A) → Option Tree → Result A Refusal
optional x field reads None = Ok x
optional x field reads (Some t) = ok_or (reads t) (Wrong field)

abbrev pub must : {A : Type 0} → Field → (Tree → Option A) → Tree → Result A Refusal
must field reads t = needed field reads (value_at (field_name field) t)

abbrev pub may : {A : Type 0} → A → Field → (Tree → Option A) → Tree → Result A Refusal
may x field reads t = optional x field reads (unless_null (value_at (field_name field) t))

-- ---- the properties

abbrev pub some_text : Tree → Option (Option (List ℕ))
some_text t = option_map Some (text_in t)

abbrev pub type_of : Tree → Result ℤ Refusal
type_of t = must field.Kind whole_in t

abbrev pub headers : Tree → Result (List Header) Refusal
headers t = may [] field.Headers headers_in t

abbrev pub id : Tree → Result (List ℕ) Refusal
id t = must field.InvocationId text_in t

abbrev pub optional_id : Tree → Result (Option (List ℕ)) Refusal
optional_id t = may None field.InvocationId some_text t

abbrev pub target : Tree → Result (List ℕ) Refusal
target t = must field.Target text_in t

abbrev pub arguments : Tree → Result (List Tree) Refusal
arguments t = must field.Arguments items_in t

abbrev pub streams : Tree → Result (List (List ℕ)) Refusal
streams t = may [] field.StreamIds texts_in t

abbrev pub item : Tree → Result Tree Refusal
item t = must field.Item Some t

abbrev pub error : Tree → Result (Option (List ℕ)) Refusal
error t = may None field.Error some_text t

-- its null is a result
abbrev pub outcome : Tree → Option Tree
outcome t = value_at (field_name field.Ending) t

abbrev pub allow : Tree → Result Bool Refusal
allow t = may false field.AllowReconnect flag_in t

abbrev pub sequence_id : Tree → Result ℕ Refusal
sequence_id t = must field.SequenceId number_in t

-- never wrong
abbrev pub received : Tree → Option ℕ
received t = option_and_then number_in (value_at (codes "received") t)

-- ---- what is wrong

abbrev pub clash : Result (Option (List ℕ)) Refusal → Option Tree → Option Refusal
clash (Ok (Some s)) (Some t) = Some Both
clash e t = None

-- a Completion has an error and a result
abbrev pub both : Tree → Option Refusal
both t = clash (error t) (outcome t)

-- what is wrong with the properties of a message of this type, in the order in which they count
abbrev pub faults : Kind → Tree → List (Option Refusal)
faults Invocation t = result_err (headers t) ∷ result_err (optional_id t) ∷ result_err (target t) ∷ result_err (arguments t) ∷ result_err (streams t) ∷ []
faults StreamItem t = result_err (headers t) ∷ result_err (id t) ∷ result_err (item t) ∷ []
faults Completion t = result_err (headers t) ∷ result_err (id t) ∷ result_err (error t) ∷ both t ∷ []
faults StreamInvocation t = result_err (headers t) ∷ result_err (id t) ∷ result_err (target t) ∷ result_err (arguments t) ∷ result_err (streams t) ∷ []
faults CancelInvocation t = result_err (headers t) ∷ result_err (id t) ∷ []
faults Ping t = []
faults Close t = result_err (error t) ∷ result_err (allow t) ∷ []
faults Ack t = result_err (sequence_id t) ∷ []
faults Sequence t = result_err (sequence_id t) ∷ []
