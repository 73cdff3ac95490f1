-- What may be wrong with elements: that they are missing, wrong, or a kind of result that means nothing.
use Rattle.std.proofs.Common.{◌≡◌, ℕ, ℤ, pos, Bool, true, false, cond, List, [], ◌∷◌, Option, Some, None, Result, Ok, Err, refl, subst, inl, inr}
use Rattle.std.specs.Prelude.{IfOk, IfErr}
use Rattle.std.specs.Option.{ok_or}
use Rattle.std.specs.Ordering.{int_eq}
use Rattle.std.specs.Result.{result_err}
use Rattle.hv_value.specs.Tree.{Tree}
use Rattle.hm_message.specs.Fields.{text_in, items_in, flag_in, whole_in, number_in, texts_in, headers_in}
use Rattle.hm_message.specs.Headers.{Header}
use Rattle.hm_message.specs.declared.kind.Kind.{Kind}
use Rattle.hm_message.specs.declared.kind.Kind.TheVariants as kinds
use Rattle.hm_message.specs.Reads.{MessageIs}
use Rattle.hm_message.specs.declared.message.Message.{Message}
use Rattle.hm_message.specs.declared.message.Read.{Read}
use Rattle.hm_message.specs.declared.message.Read.TheVariants as read
use Rattle.hm_message.specs.declared.message.Field.{Field}
use Rattle.hm_message.specs.declared.message.Field.TheVariants as field
use Rattle.hm_pack.specs.Elements as element
use Rattle.hm_message.specs.Meaning.{first}
use Rattle.hm_pack.specs.Elements.{needed, optional, must, may, text_or_nil, type_of, behind, kind_or_behind, faults}
use Rattle.hm_pack.specs.Says.{IsArray, IsFaulty, Why}
use Rattle.hm_pack.specs.Refusals.{MemoryOr}
use Rattle.hm_pack.specs.declared.refusal.PackRefusal.{PackRefusal}
use Rattle.hm_pack.specs.declared.refusal.PackRefusal.TheVariants.{Value, Trailing, NotArray, Missing, Wrong, ResultKind, NoMemory}

abbrev pub OfElement : PackRefusal → Type 0
OfElement (Missing f) = Unit {0}
OfElement (Wrong f) = Unit {0}
OfElement (ResultKind n) = Unit {0}
OfElement (Value e) = ⊥
OfElement (Trailing at) = ⊥
OfElement NotArray = ⊥
OfElement NoMemory = ⊥

abbrev GoodFault : Option PackRefusal → Type 0
GoodFault o = (e : PackRefusal) → o ≡ Some e → OfElement e

abbrev Good : {A : Type 0} → Result A PackRefusal → Type 0
Good r = GoodFault (result_err r)

wrong_good : {A : Type 0} (f : Field) (o : Option A) → Good (ok_or o (Wrong f))
wrong_good f (Some x) e h = absurd cc
wrong_good f None e h = let same : Wrong f ≡ e = cc in subst OfElement same tt

needed_good : {A : Type 0} (f : Field) (reads : Tree → Option A) (o : Option Tree) → Good (needed f reads o)
needed_good f reads None e h = let same : Missing f ≡ e = cc in subst OfElement same tt
needed_good f reads (Some t) e h = wrong_good f (reads t) e h

optional_good : {A : Type 0} (x : A) (f : Field) (reads : Tree → Option A) (o : Option Tree) → Good (optional x f reads o)
optional_good x f reads None e h = absurd cc
optional_good x f reads (Some t) e h = wrong_good f (reads t) e h

must_good : {A : Type 0} (at : ℕ) (f : Field) (reads : Tree → Option A) (ts : List Tree) → Good (must at f reads ts)
must_good at f reads ts e h = needed_good f reads _ e h

may_good : {A : Type 0} (x : A) (at : ℕ) (f : Field) (reads : Tree → Option A) (ts : List Tree) → Good (may x at f reads ts)
may_good x at f reads ts e h = optional_good x f reads _ e h

headers_good : (ts : List Tree) → Good (element.headers ts)
headers_good ts = must_good {A = List Header} 1 field.Headers headers_in ts

id_good : (ts : List Tree) → Good (element.id ts)
id_good ts = must_good {A = List ℕ} 2 field.InvocationId text_in ts

optional_id_good : (ts : List Tree) → Good (element.optional_id ts)
optional_id_good ts = must_good {A = Option (List ℕ)} 2 field.InvocationId text_or_nil ts

target_good : (ts : List Tree) → Good (element.target ts)
target_good ts = must_good {A = List ℕ} 3 field.Target text_in ts

arguments_good : (ts : List Tree) → Good (element.arguments ts)
arguments_good ts = must_good {A = List Tree} 4 field.Arguments items_in ts

streams_good : (ts : List Tree) → Good (element.streams ts)
streams_good ts = may_good {A = List (List ℕ)} [] 5 field.StreamIds texts_in ts

item_good : (ts : List Tree) → Good (element.item ts)
item_good ts = must_good {A = Tree} 3 field.Item Some ts

result_kind_good : (ts : List Tree) → Good (element.result_kind ts)
result_kind_good ts = must_good {A = ℤ} 3 field.Ending whole_in ts

error_good : (ts : List Tree) → Good (element.error ts)
error_good ts = must_good {A = List ℕ} 4 field.Error text_in ts

outcome_good : (ts : List Tree) → Good (element.outcome ts)
outcome_good ts = must_good {A = Tree} 4 field.Ending Some ts

close_error_good : (ts : List Tree) → Good (element.close_error ts)
close_error_good ts = must_good {A = Option (List ℕ)} 1 field.Error text_or_nil ts

allow_good : (ts : List Tree) → Good (element.allow ts)
allow_good ts = may_good {A = Bool} false 2 field.AllowReconnect flag_in ts

sequence_id_good : (ts : List Tree) → Good (element.sequence_id ts)
sequence_id_good ts = must_good {A = ℕ} 1 field.SequenceId number_in ts

chosen_good : (b : Bool) (o p : Option PackRefusal) → GoodFault o → GoodFault p → GoodFault (cond b o p)
chosen_good true o p x y = x
chosen_good false o p x y = y

none_good : GoodFault None
none_good e h = absurd cc

result_kind_faulty : (n : ℤ) → GoodFault (Some (ResultKind n))
result_kind_faulty n e h = let same : ResultKind n ≡ e = cc in subst OfElement same tt

behind_good : (n : ℤ) (ts : List Tree) → GoodFault (behind n ts)
behind_good n ts =
    chosen_good (int_eq n (pos 1)) _ _ (error_good ts) (chosen_good (int_eq n (pos 2)) _ _ none_good (chosen_good (int_eq n (pos 3)) _ _ (outcome_good ts) (result_kind_faulty n)))

kind_or_behind_good : (r : Result ℤ PackRefusal) (ts : List Tree) → Good r → GoodFault (kind_or_behind r ts)
kind_or_behind_good (Ok n) ts good = behind_good n ts
kind_or_behind_good (Err r) ts good = good

ending_good : (ts : List Tree) → GoodFault (element.ending ts)
ending_good ts = kind_or_behind_good (element.result_kind ts) ts (result_kind_good ts)

abbrev AllGood : List (Option PackRefusal) → Type 0
AllGood [] = Unit {0}
AllGood (o ∷ os) = GoodFault o × AllGood os

first_good : (os : List (Option PackRefusal)) → AllGood os → GoodFault (first os)
first_good [] good e h = absurd cc
first_good (None ∷ os) good e h = first_good os good.1 e h
first_good (Some r ∷ os) good e h = good.0 e h

all_good : (k : Kind) (ts : List Tree) → AllGood (faults k ts)
all_good kinds.Invocation ts = (headers_good ts, (optional_id_good ts, (target_good ts, (arguments_good ts, (streams_good ts, tt)))))
all_good kinds.StreamItem ts = (headers_good ts, (id_good ts, (item_good ts, tt)))
all_good kinds.Completion ts = (headers_good ts, (id_good ts, (ending_good ts, tt)))
all_good kinds.StreamInvocation ts = (headers_good ts, (id_good ts, (target_good ts, (arguments_good ts, (streams_good ts, tt)))))
all_good kinds.CancelInvocation ts = (headers_good ts, (id_good ts, tt))
all_good kinds.Ping ts = tt
all_good kinds.Close ts = (close_error_good ts, (allow_good ts, tt))
all_good kinds.Ack ts = (sequence_id_good ts, tt)
all_good kinds.Sequence ts = (sequence_id_good ts, tt)

pub faults_good : (k : Kind) (ts : List Tree) (e : PackRefusal) → first (faults k ts) ≡ Some e → OfElement e
faults_good k ts e h = first_good (faults k ts) (all_good k ts) e h

pub type_good : (ts : List Tree) (e : PackRefusal) → type_of ts ≡ Err e → OfElement e
type_good ts e h = must_good {A = ℤ} 0 field.Kind whole_in ts e (rw h refl)

-- ---- a refusal of an element is the frame's

pub why_faulty : (frame : List ℕ) (ts : List Tree) (e : PackRefusal) → OfElement e → IsArray frame ts → IsFaulty ts e → Why frame e
why_faulty frame ts (Missing f) good r h = (ts, (r, h))
why_faulty frame ts (Wrong f) good r h = (ts, (r, h))
why_faulty frame ts (ResultKind n) good r h = (ts, (r, h))
why_faulty frame ts (Value e) good r h = absurd good
why_faulty frame ts (Trailing at) good r h = absurd good
why_faulty frame ts NotArray good r h = absurd good
why_faulty frame ts NoMemory good r h = absurd good

unless_memory : (e : PackRefusal) (P Q : Type 0) → (P → Q) → MemoryOr e P → MemoryOr e Q
unless_memory (Value e) P Q f p = f p
unless_memory (Trailing at) P Q f p = f p
unless_memory NotArray P Q f p = f p
unless_memory (Missing field) P Q f p = f p
unless_memory (Wrong field) P Q f p = f p
unless_memory (ResultKind n) P Q f p = f p
unless_memory NoMemory P Q f p = tt

faulty_good : (ts : List Tree) (e : PackRefusal) → IsFaulty ts e → OfElement e
faulty_good ts e (inl h) = type_good ts e h
faulty_good ts e (inr (k, (h, f))) = faults_good k ts e f

-- what refuses the elements of its array refuses a frame
pub why_of_elements : (frame : List ℕ) (ts : List Tree) (e : PackRefusal) → IsArray frame ts → MemoryOr e (IsFaulty ts e) → MemoryOr e (Why frame e)
why_of_elements frame ts e r f = unless_memory e (IsFaulty ts e) (Why frame e) (λ h. why_faulty frame ts e (faulty_good ts e h) r h) f

-- ---- what holds of the elements holds of the frame

pub message_of_frame : (o : Result Read PackRefusal) (P Q : Message → Type 0) → ((m : Message) → P m → Q m) → IfOk o (λ r. MessageIs r P) → IfOk o (λ r. MessageIs r Q)
message_of_frame (Ok (read.Message m)) P Q f h = f m h
message_of_frame (Ok (read.Unknown n)) P Q f h = tt
message_of_frame (Err e) P Q f h = tt

pub refusal_of_frame : (o : Result Read PackRefusal) (P Q : PackRefusal → Type 0) → ((e : PackRefusal) → MemoryOr e (P e) → MemoryOr e (Q e)) → IfErr o (λ e. MemoryOr e (P e)) → IfErr o (λ e. MemoryOr e (Q e))
refusal_of_frame (Ok r) P Q f h = tt
refusal_of_frame (Err e) P Q f h = f e h
