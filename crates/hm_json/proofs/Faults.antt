-- What may be wrong with properties: that they are missing, wrong, or both there.
use Rattle.std.proofs.Common.{◌≡◌, ℕ, ℤ, Bool, false, List, [], ◌∷◌, Option, Some, None, Result, Ok, Err, refl, subst, inr}
use Rattle.std.specs.Option.{ok_or}
use Rattle.std.specs.Prelude.{IfOk, IfErr}
use Rattle.std.specs.Result.{result_err}
use Rattle.hv_value.specs.Tree.{Tree}
use Rattle.hv_json.specs.Reading.{reading}
use Rattle.hm_message.specs.Fields.{text_in, items_in, flag_in, whole_in, number_in, texts_in, headers_in}
use Rattle.hm_message.specs.Headers.{Header}
use Rattle.hm_message.specs.Kind.{number}
use Rattle.hm_message.specs.declared.kind.Kind.{Kind}
use Rattle.hm_message.specs.declared.kind.Kind.TheVariants as kinds
use Rattle.hm_message.specs.declared.message.Field.{Field}
use Rattle.hm_message.specs.declared.message.Field.TheVariants as field
use Rattle.hm_json.specs.Properties as property
use Rattle.hm_message.specs.Meaning.{first}
use Rattle.hm_json.specs.Properties.{unless_null, needed, optional, must, may, type_of, error, outcome, clash, both, faults}
use Rattle.hm_message.specs.Message.{Fits}
use Rattle.hm_message.specs.Reads.{MessageIs, UnknownIs}
use Rattle.hm_message.specs.declared.message.Read.{Read}
use Rattle.hm_message.specs.declared.message.Read.TheVariants as read
use Rattle.hm_json.specs.Says.{IsObject, IsFaulty, Says, Unknown, Why, SaysOf, UnknownOf, WhyOf}
use Rattle.hm_json.specs.Refusals.{MemoryOr}
use Rattle.hm_json.specs.declared.refusal.Refusal.{Refusal}
use Rattle.hm_json.specs.declared.refusal.Refusal.TheVariants.{NotJson, Fraction, TooDeep, NotObject, Missing, Wrong, Both, NoMemory}

abbrev pub OfProperty : Refusal → Type 0
OfProperty (Missing f) = Unit {0}
OfProperty (Wrong f) = Unit {0}
OfProperty Both = Unit {0}
OfProperty NotJson = ⊥
OfProperty Fraction = ⊥
OfProperty TooDeep = ⊥
OfProperty NotObject = ⊥
OfProperty NoMemory = ⊥

abbrev Good : {A : Type 0} → Result A Refusal → Type 0
Good r = (e : Refusal) → result_err r ≡ Some e → OfProperty e

wrong_good : {A : Type 0} (f : Field) (o : Option A) → Good (ok_or o (Wrong f))
wrong_good f (Some x) e h = absurd cc
wrong_good f None e h = let same : Wrong f ≡ e = cc in subst OfProperty same tt

needed_good : {A : Type 0} (f : Field) (reads : Tree → Option A) (o : Option Tree) → Good (needed f reads o)
needed_good f reads None e h = let same : Missing f ≡ e = cc in subst OfProperty same tt
needed_good f reads (Some t) e h = wrong_good f (reads t) e h

optional_good : {A : Type 0} (x : A) (f : Field) (reads : Tree → Option A) (o : Option Tree) → Good (optional x f reads o)
optional_good x f reads None e h = absurd cc
optional_good x f reads (Some t) e h = wrong_good f (reads t) e h

must_good : {A : Type 0} (f : Field) (reads : Tree → Option A) (t : Tree) → Good (must f reads t)
must_good f reads t e h = needed_good f reads _ e h

may_good : {A : Type 0} (x : A) (f : Field) (reads : Tree → Option A) (t : Tree) → Good (may x f reads t)
may_good x f reads t e h = optional_good x f reads _ e h

clash_good : (r : Result (Option (List ℕ)) Refusal) (o : Option Tree) (e : Refusal) → clash r o ≡ Some e → OfProperty e
clash_good (Ok (Some s)) (Some t) e h = let same : Both ≡ e = cc in subst OfProperty same tt
clash_good (Ok (Some s)) None e h = absurd cc
clash_good (Ok None) o e h = absurd cc
clash_good (Err r) o e h = absurd cc

abbrev AllGood : List (Option Refusal) → Type 0
AllGood [] = Unit {0}
AllGood (o ∷ os) = ((e : Refusal) → o ≡ Some e → OfProperty e) × AllGood os

first_good : (os : List (Option Refusal)) → AllGood os → (e : Refusal) → first os ≡ Some e → OfProperty e
first_good [] good e h = absurd cc
first_good (None ∷ os) good e h = first_good os good.1 e h
first_good (Some r ∷ os) good e h = good.0 e h

headers_good : (t : Tree) → Good (property.headers t)
headers_good t = may_good {A = List Header} [] field.Headers headers_in t

id_good : (t : Tree) → Good (property.id t)
id_good t = must_good {A = List ℕ} field.InvocationId text_in t

optional_id_good : (t : Tree) → Good (property.optional_id t)
optional_id_good t = may_good {A = Option (List ℕ)} None field.InvocationId property.some_text t

target_good : (t : Tree) → Good (property.target t)
target_good t = must_good {A = List ℕ} field.Target text_in t

arguments_good : (t : Tree) → Good (property.arguments t)
arguments_good t = must_good {A = List Tree} field.Arguments items_in t

streams_good : (t : Tree) → Good (property.streams t)
streams_good t = may_good {A = List (List ℕ)} [] field.StreamIds texts_in t

item_good : (t : Tree) → Good (property.item t)
item_good t = must_good {A = Tree} field.Item Some t

error_good : (t : Tree) → Good (property.error t)
error_good t = may_good {A = Option (List ℕ)} None field.Error property.some_text t

allow_good : (t : Tree) → Good (property.allow t)
allow_good t = may_good {A = Bool} false field.AllowReconnect flag_in t

sequence_id_good : (t : Tree) → Good (property.sequence_id t)
sequence_id_good t = must_good {A = ℕ} field.SequenceId number_in t

all_good : (k : Kind) (t : Tree) → AllGood (faults k t)
all_good kinds.Invocation t = (headers_good t, (optional_id_good t, (target_good t, (arguments_good t, (streams_good t, tt)))))
all_good kinds.StreamItem t = (headers_good t, (id_good t, (item_good t, tt)))
all_good kinds.Completion t = (headers_good t, (id_good t, (error_good t, (clash_good (error t) (outcome t), tt))))
all_good kinds.StreamInvocation t = (headers_good t, (id_good t, (target_good t, (arguments_good t, (streams_good t, tt)))))
all_good kinds.CancelInvocation t = (headers_good t, (id_good t, tt))
all_good kinds.Ping t = tt
all_good kinds.Close t = (error_good t, (allow_good t, tt))
all_good kinds.Ack t = (sequence_id_good t, tt)
all_good kinds.Sequence t = (sequence_id_good t, tt)

pub faults_good : (k : Kind) (t : Tree) (e : Refusal) → first (faults k t) ≡ Some e → OfProperty e
faults_good k t e h = first_good (faults k t) (all_good k t) e h

pub type_good : (t : Tree) (e : Refusal) → type_of t ≡ Err e → OfProperty e
type_good t e h = must_good {A = ℤ} field.Kind whole_in t e (rw h refl)

-- ---- a refusal of a property is the frame's

pub why_faulty : (frame : List ℕ) (t : Tree) (e : Refusal) → OfProperty e → reading frame ≡ Ok t → IsFaulty t e → Why frame e
why_faulty frame t (Missing f) good r h = (t, (r, h))
why_faulty frame t (Wrong f) good r h = (t, (r, h))
why_faulty frame t Both good r h = (t, (r, h))
why_faulty frame t NotJson good r h = absurd good
why_faulty frame t Fraction good r h = absurd good
why_faulty frame t TooDeep good r h = absurd good
why_faulty frame t NotObject good r h = absurd good
why_faulty frame t NoMemory good r h = absurd good

pub unless_memory : (e : Refusal) (P Q : Type 0) → (P → Q) → MemoryOr e P → MemoryOr e Q
unless_memory NotJson P Q f p = f p
unless_memory Fraction P Q f p = f p
unless_memory TooDeep P Q f p = f p
unless_memory NotObject P Q f p = f p
unless_memory (Missing field) P Q f p = f p
unless_memory (Wrong field) P Q f p = f p
unless_memory Both P Q f p = f p
unless_memory NoMemory P Q f p = tt

pub why_of_kind_at_all : (t : Tree) (k : Kind) (e : Refusal) → IsObject t → type_of t ≡ Ok (number k) → MemoryOr e (first (faults k t) ≡ Some e) → MemoryOr e (WhyOf t e)
why_of_kind_at_all t k e o h f =
    unless_memory e (first (faults k t) ≡ Some e) (WhyOf t e) (λ g frame r. why_faulty frame t e (faults_good k t e g) r (o, inr (k, (h, g)))) f

-- ---- what is said of each frame of a value is said of one

pub message_of_value : (frame : List ℕ) (t : Tree) → reading frame ≡ Ok t → (x : Result Read Refusal) → IfOk x (λ r. MessageIs r (λ m. SaysOf t m × Fits m)) → IfOk x (λ r. MessageIs r (λ m. Says frame m × Fits m))
message_of_value frame t e (Ok (read.Message m)) h = (h.0 frame e, h.1)
message_of_value frame t e (Ok (read.Unknown n)) h = tt
message_of_value frame t e (Err r) h = tt

pub unknown_of_value : (frame : List ℕ) (t : Tree) → reading frame ≡ Ok t → (x : Result Read Refusal) → IfOk x (λ r. UnknownIs r (λ n. UnknownOf t n)) → IfOk x (λ r. UnknownIs r (λ n. Unknown frame n))
unknown_of_value frame t e (Ok (read.Message m)) h = tt
unknown_of_value frame t e (Ok (read.Unknown n)) h = h frame e
unknown_of_value frame t e (Err r) h = tt

pub refused_of_value : (frame : List ℕ) (t : Tree) → reading frame ≡ Ok t → (x : Result Read Refusal) → IfErr x (λ e. MemoryOr e (WhyOf t e)) → IfErr x (λ e. MemoryOr e (Why frame e))
refused_of_value frame t e (Ok r) h = tt
refused_of_value frame t e (Err r) h = unless_memory r (WhyOf t r) (Why frame r) (λ w. w frame e) h
