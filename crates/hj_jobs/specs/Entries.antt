-- One live job as it is kept: what it is given next, and what it is after a turn.
use Rattle.std.specs.Prelude.{◌≡◌, ℕ, ◌+◌, Bool, true, false, not, ◌&&◌, ◌||◌, List, [], ◌∷◌, drop, Option, Some, None, is_some}
use Rattle.hd_calls.specs.declared.vocabulary.Call.{Call}
use Rattle.hd_calls.specs.declared.vocabulary.Input.{Input}
use Rattle.hd_calls.specs.declared.vocabulary.Input.TheVariants as input
use Rattle.hd_calls.specs.declared.vocabulary.Act.{Act}
use Rattle.hd_calls.specs.declared.vocabulary.Act.TheVariants as act
use Rattle.hd_calls.specs.Hubs.{Hub}
use Rattle.hm_message.specs.declared.message.Ending.TheVariants.{Void}
use Rattle.hd_calls.specs.Rules.{is_deed_answer}
use Rattle.hj_jobs.specs.Counted.{counted, input_count, Takes, weight_as_given}
use Rattle.hj_jobs.specs.declared.entry.Awaits.{Awaits}
use Rattle.hj_jobs.specs.declared.entry.Awaits.TheVariants as awaits
use Rattle.hj_jobs.specs.declared.entry.Entry.{Entry}

-- what a job awaits after its last act
abbrev pub awaited : Option Act → Awaits
awaited (Some act.Wait) = awaits.Upload
awaited (Some (act.Ask target arguments)) = awaits.CallEnd
awaited (Some (act.Do deed)) = awaits.Deed
awaited _ = awaits.Turn

abbrev pub first_input : List Input → Option Input
first_input [] = None
first_input (i ∷ is) = Some i

-- what is given next to one that awaits this, of the inputs of its uploads that are left, and what has answered it
abbrev pub given_at : Awaits → List Input → Option Input → Option Input
given_at awaits.Turn inputs reply = Some input.Go
given_at awaits.Upload inputs reply = first_input inputs
given_at awaits.CallEnd inputs reply = reply
given_at awaits.Deed inputs reply = reply

abbrev pub given_next : {J : Type 0} → Entry J → Option Input
given_next e = given_at e.awaits e.inputs.items e.reply

-- whether it has a turn to come
abbrev pub is_due_entry : {J : Type 0} → Entry J → Bool
is_due_entry e = e.is_cancelled || is_some (given_next e)

-- the inputs that are left once what was awaited is given
abbrev pub inputs_after : Awaits → List Input → List Input
inputs_after awaits.Upload inputs = drop 1 inputs
inputs_after _ inputs = inputs

-- what the input counts that is given, if it is one of its uploads
abbrev pub given_count : Awaits → List Input → ℕ
given_count awaits.Upload inputs = input_count (first_input inputs)
given_count _ inputs = 0

-- what leaves with a turn counts
abbrev pub taken_count : {J : Type 0} → Entry J → ℕ
taken_count e = given_count e.awaits e.inputs.items + input_count e.reply

-- whether the input answers what is awaited
abbrev pub is_answer_to : Awaits → Input → Bool
is_answer_to awaits.CallEnd (input.Asked e) = true
is_answer_to awaits.Deed i = is_deed_answer i
is_answer_to _ _ = false

-- what has answered it, if something has, is what was awaited
abbrev pub AnswersOrNot : Awaits → Option Input → Type 0
AnswersOrNot awaits None = Unit {0}
AnswersOrNot awaits (Some i) = is_answer_to awaits i ≡ true

-- whether the input answers what is awaited, and nothing did before
abbrev pub is_open_for : {J : Type 0} → Entry J → Input → Bool
is_open_for e i = not (is_some e.reply) && is_answer_to e.awaits i

-- the job of this call begins
pub record Begins {J : Type 0} (e : Entry J) (call : Call) (job : J) : Type 0 where
  pub id : e.id ≡ call.id
  pub kind : e.kind ≡ call.kind
  pub streams : e.streams ≡ call.streams
  pub job_is : e.job ≡ job
  pub awaits : e.awaits ≡ awaits.Turn
  pub inputs : e.inputs.items ≡ []
  pub reply : e.reply ≡ None
  pub is_cancelled : e.is_cancelled ≡ false
  pub weight : e.weight ≡ counted (weight_as_given call)

-- the job was given an input, if there was one, and did what the hub means. Nothing else of what is kept changed
abbrev pub Gives : {J : Type 0} → Hub J → Entry J → Entry J → ℕ → Option Input → Option Act → Type 0
Gives hub old new now None None = new ≡ old
Gives hub old new now None (Some what) = ⊥
Gives hub old new now (Some input) None = ⊥
Gives hub old new now (Some input) (Some what) = ((new.job, what) ≡ hub.step_of old.job input now) × (new ≡ record old { job = new.job })

-- so it was with what was next. The act of one that was cancelled is its end, without the hub
abbrev pub PreparesIf : {J : Type 0} → Bool → Hub J → Entry J → Entry J → ℕ → Option Act → Type 0
PreparesIf true hub old new now what = (what ≡ Some (act.End Void)) × (new ≡ old)
PreparesIf false hub old new now what = Gives hub old new now (given_next old) what

abbrev pub PreparesOrNot : {J : Type 0} → Hub J → Entry J → Entry J → ℕ → Option Act → Type 0
PreparesOrNot hub old new now what = PreparesIf old.is_cancelled hub old new now what

-- what was given is gone, and it awaits what the act asks for
pub record IsTurned {J : Type 0} (what : Act) (old new : Entry J) : Type 0 where
  pub awaits : new.awaits ≡ awaited (Some what)
  pub inputs : new.inputs.items ≡ inputs_after old.awaits old.inputs.items
  pub reply : new.reply ≡ None
  pub job : new.job ≡ old.job
  pub is_cancelled : new.is_cancelled ≡ old.is_cancelled
  pub id : new.id ≡ old.id
  pub kind : new.kind ≡ old.kind
  pub streams : new.streams ≡ old.streams
  pub weight : Takes old.weight new.weight (taken_count old)
