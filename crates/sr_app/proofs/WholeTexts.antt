-- How a command ends that reads its whole text before it writes.
use Rattle.std.proofs.Common.{◌≡◌, ◌<◌, ◌≤◌, ℕ, ◌⊎◌, inl, inr, List, [], ◌++◌, length, take, Option, Some, None, refl, sym, ◌∙◌, ap, subst, arith}
use Rattle.std.specs.Io.KnownBytes.{Appends, Consumes, IsAtEnd}
use Rattle.std.proofs.lemmas.Bool.{cases_lt}
use Rattle.std.proofs.lemmas.List.{append-nil}
use Rattle.hd_facts.specs.Counts.{one_more}
use Rattle.hd_facts.specs.Writes.{IsText}
use Rattle.sr_app.specs.declared.run.Status.{Status}
use Rattle.sr_app.specs.declared.run.Status.TheVariants.{Done, Usage, Refused, ReadFault, WriteFault, NoMemory}
use Rattle.sr_app.specs.Run.{Answers, Meaning, ReadsBounded, HasAnswered, Ends, IsEndedOtherwise, input_output}
use Rattle.sr_app.proofs.Told.{bytes_of, appended_nothing, text_is_told}

-- what is answered to a text of more bytes is answered with more bytes after it
abbrev pub StaysOfLong : ℕ → Answers → Type 0
StaysOfLong most A = (front more answer : List ℕ) → most < length front → A front answer → A (front ++ more) answer

-- what is answered is answered to short texts alone
abbrev pub IsOfShort : ℕ → Answers → Type 0
IsOfShort most A = (text answer : List ℕ) → A text answer → length text ≤ most

pub short_stays : (most : ℕ) (A : Answers) → IsOfShort most A → StaysOfLong most A
short_stays most A short front more answer long is = absurd (omega (arith, long, short front answer is))

-- What a command of this meaning answers to a text of which so many bytes were read at most.
pub record IsOfText (most : ℕ) (m : Meaning) : Type 0 where
  pub done : IsOfShort most m.done
  pub refused : StaysOfLong most m.refused
  pub part : StaysOfLong most m.part
  pub begun : StaysOfLong most m.begun
  pub ended : (status : Status) → IsOfShort most (m.ended status)
  pub nothing : (text : List ℕ) → m.begun text [] × m.read text []
  pub leaves : (left : Option (List ℕ)) → IsAtEnd left → m.leaves left
  pub reads : (input left : Option (List ℕ)) → ReadsBounded most input left → m.reads input left

-- what is known of a command that read its text
pub record IsReadWhole (most : ℕ) (input left : Option (List ℕ)) (text : List ℕ) : Type 0 where
  pub read : Consumes input left text
  pub ended : length text ≤ most → IsAtEnd left
  pub reads : ReadsBounded most input left

-- the input, to which the answer is one
record IsTold (A : Answers) (input : Option (List ℕ)) (answer : List ℕ) : Type 0 where
  pub text : List ℕ
  pub told : IsText input text
  pub is : A text answer

told_by : (most : ℕ) (A : Answers) → StaysOfLong most A → (bytes rest text answer : List ℕ) → bytes ≡ text ++ rest → (length text ≤ most → rest ≡ [])
    → A text answer → (most < length text) ⊎ (length text ≤ most) → A bytes answer
told_by most A stays bytes rest text answer read ended is (inl long) = subst (λ (xs : List ℕ). A xs answer) (sym read) (stays text rest answer long is)
told_by most A stays bytes rest text answer read ended is (inr short) =
    subst (λ (xs : List ℕ). A xs answer) (sym (read ∙ ap (λ xs. text ++ xs) (ended short) ∙ append-nil text)) is

told_of : (most : ℕ) (A : Answers) → StaysOfLong most A → (input left : Option (List ℕ)) (text answer : List ℕ) → Consumes input left text
    → (length text ≤ most → IsAtEnd left) → A text answer → IsTold A input answer
told_of most A stays None left text answer read ended is = record { text = text; told = tt; is = is }
told_of most A stays (Some bytes) None text answer read ended is = absurd read
told_of most A stays (Some bytes) (Some rest) text answer read ended is =
    record { text = bytes; told = refl; is = told_by most A stays bytes rest text answer read ended is (cases_lt most (length text)) }

-- it read its text, and answered it
pub whole_answered : (most : ℕ) (m : Meaning) → IsOfText most m → (input left before now : Option (List ℕ)) (faults faults' sink sink' : ℕ) (text : List ℕ)
    (result : Status) → IsReadWhole most input left text → HasAnswered m text result before now sink sink'
    → Ends m result (input_output input faults before sink) (input_output left faults' now sink')
whole_answered most m law input left before now faults faults' sink sink' text result w a = record {
  done = λ is. (let d = a.done is in let t = told_of most m.done (short_stays most m.done law.done) input left text d.0 w.read w.ended d.1 in
      (law.leaves left (w.ended (law.done text d.0 d.1)), (t.text, d.0, t.told, t.is, d.2)));
  usage = a.usage;
  refused = λ is. (let d = a.refused is in let t = told_of most m.refused law.refused input left text d.0 w.read w.ended d.1 in
      (t.text, d.0, t.told, t.is, d.2));
  read_fault = λ is. absurd (a.read_fault is);
  write_fault = λ is. (let d = a.write_fault is in let t = told_of most m.part law.part input left text d.1.0 w.read w.ended d.1.1 in
      (d.0, (t.text, d.1.0, t.told, t.is, d.1.2)));
  no_memory = λ is. (let d = a.no_memory is in let t = told_of most m.begun law.begun input left text d.0 w.read w.ended d.1 in
      (t.text, d.0, t.told, t.is, d.2));
  ended = λ is. (let d = a.ended is in
      let t = told_of most (m.ended result) (short_stays most (m.ended result) (law.ended result)) input left text d.0 w.read w.ended d.1 in
      (law.leaves left (w.ended (law.ended result text d.0 d.1)), (t.text, d.0, t.told, t.is, d.2)));
  reads = law.reads input left w.reads;
}

-- the source failed before the text was whole
pub whole_unread : (most : ℕ) (m : Meaning) → IsOfText most m → (input left held : Option (List ℕ)) (faults faults' sink : ℕ) → faults' ≡ one_more faults
    → ReadsBounded most input left → Ends m ReadFault (input_output input faults held sink) (input_output left faults' held sink)
whole_unread most m law input left held faults faults' sink rose reads = record {
  done = λ is. cc;
  usage = λ is. cc;
  refused = λ is. cc;
  read_fault = λ is. (rose, (reads.0, [], reads.1, (law.nothing reads.0).1, appended_nothing held));
  write_fault = λ is. cc;
  no_memory = λ is. cc;
  ended = λ is. absurd is;
  reads = law.reads input left reads;
}

-- memory ran out before a byte was written
pub whole_forgone : (most : ℕ) (m : Meaning) → IsOfText most m → (input left held : Option (List ℕ)) (faults faults' sink sink' : ℕ)
    → ReadsBounded most input left → Ends m NoMemory (input_output input faults held sink) (input_output left faults' held sink')
whole_forgone most m law input left held faults faults' sink sink' reads = record {
  done = λ is. cc;
  usage = λ is. cc;
  refused = λ is. cc;
  read_fault = λ is. cc;
  write_fault = λ is. cc;
  no_memory = λ is. (bytes_of input, [], text_is_told input, (law.nothing (bytes_of input)).0, appended_nothing held);
  ended = λ is. absurd is;
  reads = law.reads input left reads;
}
