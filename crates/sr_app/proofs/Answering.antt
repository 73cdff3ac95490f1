-- How each command ends, by what it read and wrote.
use Rattle.std.proofs.Common.{rules, ◌≡◌, ◌<◌, ◌≤◌, ℕ, nat_eq, cond, ◌⊎◌, inl, inr, List, [], ◌++◌, length, take, Option, Some, None, refl, sym, ◌∙◌, ap, subst, arith}
use Rattle.std.specs.Io.KnownBytes.{Appends, Consumes, IsAtEnd}
use Rattle.std.proofs.lemmas.Bool.{cases_lt}
use Rattle.std.proofs.lemmas.List.{append-nil}
use Rattle.hd_facts.specs.Counts.{one_more}
use Rattle.hd_facts.specs.Unique.{IsTheOne}
use Rattle.hd_facts.specs.Writes.{IsText, Writes, WritesPart}
use Rattle.hf_split.specs.Laws.{EmptyWaits}
use Rattle.sr_check.specs.declared.task.Stop.{Stop}
use Rattle.sr_check.specs.declared.task.Stop.TheVariants as stop
use Rattle.sr_check.specs.declared.task.Task.{Task}
use Rattle.sr_check.specs.declared.task.Task.TheVariants as task
use Rattle.sr_check.specs.Stream.{ReadsNoFurther}
use Rattle.sr_words.specs.declared.commands.Command.{Command}
use Rattle.sr_words.specs.declared.commands.Command.TheVariants.{Replay, Record, Audit, Soak, Check, Convert, Serve, Client, User}
use Rattle.sr_app.specs.declared.run.Status.{Status}
use Rattle.sr_app.specs.declared.run.Status.TheVariants.{Done, Usage, Refused, ReadFault, WriteFault, DoorFault, KeeperFault, NoMemory, ConnectionRefused, LotsFault, TurnsDone, BrokenOff}
use Rattle.sr_script.specs.Script.{IsRefusedAt}
use Rattle.sr_script.specs.Laws.{LongIsRefusedByItsFront}
use Rattle.sr_soak.specs.declared.totals.Totals.{Totals}
use Rattle.sr_soak.specs.Soaks.{IsSoak, soak_line}
use Rattle.sr_app.specs.Run.{soaking, IsReplayed, IsRefused, IsTextAnswer, AnswersWith, Answered, ReadsBounded, Ends, IsEndedOtherwise, replaying, meaning_of, input_output, code_of, status_of}
use Rattle.sr_app.proofs.Told.{bytes_of, consumed_nothing, appended_nothing, text_is_told, whole_is_told}

-- ---- statuses, their codes, and how tasks stop

abbrev status_with : ℕ → Status
status_with n = cond (nat_eq n 0) Done (cond (nat_eq n 1) Usage (cond (nat_eq n 2) Refused (cond (nat_eq n 3) ReadFault (cond (nat_eq n 4) WriteFault (cond (nat_eq n 5) DoorFault (cond (nat_eq n 6) KeeperFault (cond (nat_eq n 7) NoMemory
    (cond (nat_eq n 8) ConnectionRefused (cond (nat_eq n 9) LotsFault (cond (nat_eq n 10) TurnsDone BrokenOff))))))))))

status_with-code_of : (s : Status) → status_with (code_of s) ≡ s
status_with-code_of Done = refl
status_with-code_of Usage = refl
status_with-code_of Refused = refl
status_with-code_of ReadFault = refl
status_with-code_of WriteFault = refl
status_with-code_of DoorFault = refl
status_with-code_of KeeperFault = refl
status_with-code_of NoMemory = refl
status_with-code_of ConnectionRefused = refl
status_with-code_of LotsFault = refl
status_with-code_of TurnsDone = refl
status_with-code_of BrokenOff = refl

-- a code is that of one status
pub same_status : (s t : Status) → code_of s ≡ code_of t → s ≡ t
same_status s t e = sym (status_with-code_of s) ∙ ap status_with e ∙ status_with-code_of t

pub is_code : (s : Status) → (code_of s ≡ 0) ⊎ (code_of s ≡ 1) ⊎ (code_of s ≡ 2) ⊎ (code_of s ≡ 3) ⊎ (code_of s ≡ 4) ⊎ (code_of s ≡ 5) ⊎ (code_of s ≡ 6) ⊎ (code_of s ≡ 7)
    ⊎ (code_of s ≡ 8) ⊎ (code_of s ≡ 9) ⊎ (code_of s ≡ 10) ⊎ (code_of s ≡ 11)
is_code Done = search rules
is_code Usage = search rules
is_code Refused = search rules
is_code ReadFault = search rules
is_code WriteFault = search rules
is_code DoorFault = search rules
is_code KeeperFault = search rules
is_code NoMemory = search rules
is_code ConnectionRefused = search rules
is_code LotsFault = search rules
is_code TurnsDone = search rules
is_code BrokenOff = search rules

abbrev stop_with : Status → Stop
stop_with Refused = stop.Refused
stop_with ReadFault = stop.ReadFault
stop_with WriteFault = stop.WriteFault
stop_with _ = stop.NoMemory

stop_with-status_of : (s : Stop) → stop_with (status_of s) ≡ s
stop_with-status_of stop.Refused = refl
stop_with-status_of stop.ReadFault = refl
stop_with-status_of stop.WriteFault = refl
stop_with-status_of stop.NoMemory = refl

-- a status is that of one way to stop
pub same_stop : (s t : Stop) → status_of s ≡ status_of t → s ≡ t
same_stop s t e = sym (stop_with-status_of s) ∙ ap stop_with e ∙ stop_with-status_of t

pub not_done : (s : Stop) → status_of s ≡ Done → ⊥
not_done stop.Refused is = cc
not_done stop.ReadFault is = cc
not_done stop.WriteFault is = cc
not_done stop.NoMemory is = cc

pub not_usage : (s : Stop) → status_of s ≡ Usage → ⊥
not_usage stop.Refused is = cc
not_usage stop.ReadFault is = cc
not_usage stop.WriteFault is = cc
not_usage stop.NoMemory is = cc

pub not_ended : (s : Stop) → IsEndedOtherwise (status_of s) → ⊥
not_ended stop.Refused is = is
not_ended stop.ReadFault is = is
not_ended stop.WriteFault is = is
not_ended stop.NoMemory is = is

-- ---- what is answered to the bytes that were read is the answer to the whole input

replayed_told : (input left : Option (List ℕ)) (text report : List ℕ) → Consumes input left text → (length text ≤ 16777216 → IsAtEnd left) → IsReplayed text report → IsText input text
replayed_told input left text report read ended replayed = whole_is_told input left text read (ended replayed.script.holds.short)

-- the input, and its refusal
record IsRefusedInput (input : Option (List ℕ)) (answer : List ℕ) : Type 0 where
  pub text : List ℕ
  pub told : IsText input text
  pub refused : IsRefused text answer

refused_by : LongIsRefusedByItsFront → (bytes rest text answer : List ℕ) → bytes ≡ text ++ rest → (length text ≤ 16777216 → rest ≡ []) → IsRefused text answer
    → (16777216 < length text) ⊎ (length text ≤ 16777216) → IsRefused bytes answer
refused_by law bytes rest text answer read ended refused (inl long) = record {
  number = refused.number;
  first = subst (λ (xs : List ℕ). IsTheOne (IsRefusedAt xs) refused.number) (sym read) (law text rest refused.number long refused.first);
  line = refused.line;
}
refused_by law bytes rest text answer read ended refused (inr short) =
    subst (λ (xs : List ℕ). IsRefused xs answer) (sym (read ∙ ap (λ xs. text ++ xs) (ended short) ∙ append-nil text)) refused

refused_told : LongIsRefusedByItsFront → (input left : Option (List ℕ)) (text answer : List ℕ) → Consumes input left text → (length text ≤ 16777216 → IsAtEnd left) → IsRefused text answer → IsRefusedInput input answer
refused_told law None left text answer read ended refused = record { text = text; told = tt; refused = refused }
refused_told law (Some bytes) None text answer read ended refused = absurd read
refused_told law (Some bytes) (Some rest) text answer read ended refused =
    record { text = bytes; told = refl; refused = refused_by law bytes rest text answer read ended refused (cases_lt 16777216 (length text)) }

writes_refusal : LongIsRefusedByItsFront → (input left before now : Option (List ℕ)) (text answer : List ℕ) → Consumes input left text → (length text ≤ 16777216 → IsAtEnd left)
    → IsRefused text answer → Appends before now answer → Writes IsRefused input before now
writes_refusal law input left before now text answer read ended refused appends =
    let is = refused_told law input left text answer read ended refused in
    (is.text, answer, is.told, is.refused, appends)

writes_report : (input left before now : Option (List ℕ)) (text answer : List ℕ) → Consumes input left text → (length text ≤ 16777216 → IsAtEnd left)
    → IsReplayed text answer → Appends before now answer → IsAtEnd left × Writes IsReplayed input before now
writes_report input left before now text answer read ended replayed appends =
    (ended replayed.script.holds.short, (text, answer, replayed_told input left text answer read ended replayed, replayed, appends))

writes_part : LongIsRefusedByItsFront → (input left before now : Option (List ℕ)) (text answer : List ℕ) (n : ℕ) (status : Status) → Consumes input left text → (length text ≤ 16777216 → IsAtEnd left)
    → AnswersWith status text answer → Appends before now (take n answer) → WritesPart IsTextAnswer input before now
writes_part law input left before now text answer n Done read ended replayed appends =
    (text, answer, replayed_told input left text answer read ended replayed, inl replayed, (n, appends))
writes_part law input left before now text answer n Refused read ended refused appends =
    let is = refused_told law input left text answer read ended refused in
    (is.text, answer, is.told, inr is.refused, (n, appends))
writes_part law input left before now text answer n Usage read ended none appends = absurd none
writes_part law input left before now text answer n ReadFault read ended none appends = absurd none
writes_part law input left before now text answer n WriteFault read ended none appends = absurd none
writes_part law input left before now text answer n DoorFault read ended none appends = absurd none
writes_part law input left before now text answer n KeeperFault read ended none appends = absurd none
writes_part law input left before now text answer n NoMemory read ended none appends = absurd none
writes_part law input left before now text answer n ConnectionRefused read ended none appends = absurd none
writes_part law input left before now text answer n LotsFault read ended none appends = absurd none
writes_part law input left before now text answer n TurnsDone read ended none appends = absurd none
writes_part law input left before now text answer n BrokenOff read ended none appends = absurd none

-- a status is not one with another code
apart : (result own other : Status) → result ≡ own → (code_of own < code_of other) ⊎ (code_of other < code_of own) → result ≡ other → ⊥
apart result own other same (inl less) is = omega (arith, less, ap code_of same, ap code_of is)
apart result own other same (inr more) is = omega (arith, more, ap code_of same, ap code_of is)

-- ---- how a replay ends

-- the source failed before the script was whole
pub replay_unread : (input left held : Option (List ℕ)) (faults faults' sink : ℕ) → faults' ≡ one_more faults → ReadsBounded 16777216 input left
    → Ends replaying ReadFault (input_output input faults held sink) (input_output left faults' held sink)
replay_unread input left held faults faults' sink rose reads = record {
  done = λ is. cc;
  usage = λ is. cc;
  refused = λ is. cc;
  read_fault = λ is. (rose, (reads.0, [], reads.1, refl, appended_nothing held));
  write_fault = λ is. cc;
  no_memory = λ is. cc;
  ended = λ is. absurd is;
  reads = reads;
}

-- memory ran out before a byte was written
pub replay_forgone : (input left held : Option (List ℕ)) (faults faults' sink sink' : ℕ) → ReadsBounded 16777216 input left
    → Ends replaying NoMemory (input_output input faults held sink) (input_output left faults' held sink')
replay_forgone input left held faults faults' sink sink' reads = record {
  done = λ is. cc;
  usage = λ is. cc;
  refused = λ is. cc;
  read_fault = λ is. cc;
  write_fault = λ is. cc;
  no_memory = λ is. (_, [], text_is_told input, refl, appended_nothing held);
  ended = λ is. absurd is;
  reads = reads;
}

-- what is known of a replay that read its script
pub record IsWritten (input left : Option (List ℕ)) (text : List ℕ) : Type 0 where
  pub read : Consumes input left text
  pub ended : length text ≤ 16777216 → IsAtEnd left
  pub reads : ReadsBounded 16777216 input left

written_part : LongIsRefusedByItsFront → (input left before now : Option (List ℕ)) (faults faults' sink sink' : ℕ) (text answer : List ℕ) (status result : Status)
    → IsWritten input left text → AnswersWith status text answer → sink' ≡ one_more sink → (n : ℕ) → Appends before now (take n answer) → result ≡ WriteFault
    → Ends replaying result (input_output input faults before sink) (input_output left faults' now sink')
written_part law input left before now faults faults' sink sink' text answer status result w answers rose n part fault = record {
  done = λ is. absurd (apart result WriteFault Done fault (inr (omega arith)) is);
  usage = apart result WriteFault Usage fault (inr (omega arith));
  refused = λ is. absurd (apart result WriteFault Refused fault (inr (omega arith)) is);
  read_fault = λ is. absurd (apart result WriteFault ReadFault fault (inr (omega arith)) is);
  write_fault = λ is. (rose, writes_part law input left before now text answer n status w.read w.ended answers part);
  no_memory = λ is. absurd (apart result WriteFault NoMemory fault (inl (omega arith)) is);
  ended = λ is. absurd (subst IsEndedOtherwise fault is);
  reads = w.reads;
}

written_report : LongIsRefusedByItsFront → (input left before now : Option (List ℕ)) (faults faults' sink sink' : ℕ) (text answer : List ℕ) (result : Status)
    → IsWritten input left text → IsReplayed text answer → Appends before now answer → result ≡ Done
    → Ends replaying result (input_output input faults before sink) (input_output left faults' now sink')
written_report law input left before now faults faults' sink sink' text answer result w answers whole same = record {
  done = λ is. writes_report input left before now text answer w.read w.ended answers whole;
  usage = apart result Done Usage same (inl (omega arith));
  refused = λ is. absurd (apart result Done Refused same (inl (omega arith)) is);
  read_fault = λ is. absurd (apart result Done ReadFault same (inl (omega arith)) is);
  write_fault = λ is. absurd (apart result Done WriteFault same (inl (omega arith)) is);
  no_memory = λ is. absurd (apart result Done NoMemory same (inl (omega arith)) is);
  ended = λ is. absurd (subst IsEndedOtherwise same is);
  reads = w.reads;
}

written_refusal : LongIsRefusedByItsFront → (input left before now : Option (List ℕ)) (faults faults' sink sink' : ℕ) (text answer : List ℕ) (result : Status)
    → IsWritten input left text → IsRefused text answer → Appends before now answer → result ≡ Refused
    → Ends replaying result (input_output input faults before sink) (input_output left faults' now sink')
written_refusal law input left before now faults faults' sink sink' text answer result w answers whole same = record {
  done = λ is. absurd (apart result Refused Done same (inr (omega arith)) is);
  usage = apart result Refused Usage same (inr (omega arith));
  refused = λ is. writes_refusal law input left before now text answer w.read w.ended answers whole;
  read_fault = λ is. absurd (apart result Refused ReadFault same (inl (omega arith)) is);
  write_fault = λ is. absurd (apart result Refused WriteFault same (inl (omega arith)) is);
  no_memory = λ is. absurd (apart result Refused NoMemory same (inl (omega arith)) is);
  ended = λ is. absurd (subst IsEndedOtherwise same is);
  reads = w.reads;
}

written_by : LongIsRefusedByItsFront → (input left before now : Option (List ℕ)) (faults faults' sink sink' : ℕ) (text answer : List ℕ) (status result : Status)
    → IsWritten input left text → AnswersWith status text answer → (result ≡ status → Appends before now answer)
    → (result ≡ WriteFault → (sink' ≡ one_more sink) × ((n : ℕ) × Appends before now (take n answer))) → (result ≡ status) ⊎ (result ≡ WriteFault)
    → Ends replaying result (input_output input faults before sink) (input_output left faults' now sink')
written_by law input left before now faults faults' sink sink' text answer status result w answers whole part (inr fault) =
    written_part law input left before now faults faults' sink sink' text answer status result w answers (part fault).0 (part fault).1.0 (part fault).1.1 fault
written_by law input left before now faults faults' sink sink' text answer Done result w answers whole part (inl same) =
    written_report law input left before now faults faults' sink sink' text answer result w answers (whole same) same
written_by law input left before now faults faults' sink sink' text answer Refused result w answers whole part (inl same) =
    written_refusal law input left before now faults faults' sink sink' text answer result w answers (whole same) same
written_by law input left before now faults faults' sink sink' text answer Usage result w answers whole part (inl same) = absurd answers
written_by law input left before now faults faults' sink sink' text answer ReadFault result w answers whole part (inl same) = absurd answers
written_by law input left before now faults faults' sink sink' text answer WriteFault result w answers whole part (inl same) = absurd answers
written_by law input left before now faults faults' sink sink' text answer DoorFault result w answers whole part (inl same) = absurd answers
written_by law input left before now faults faults' sink sink' text answer KeeperFault result w answers whole part (inl same) = absurd answers
written_by law input left before now faults faults' sink sink' text answer NoMemory result w answers whole part (inl same) = absurd answers
written_by law input left before now faults faults' sink sink' text answer ConnectionRefused result w answers whole part (inl same) = absurd answers
written_by law input left before now faults faults' sink sink' text answer LotsFault result w answers whole part (inl same) = absurd answers
written_by law input left before now faults faults' sink sink' text answer TurnsDone result w answers whole part (inl same) = absurd answers
written_by law input left before now faults faults' sink sink' text answer BrokenOff result w answers whole part (inl same) = absurd answers

pub replay_written : LongIsRefusedByItsFront → (input left before now : Option (List ℕ)) (faults faults' sink sink' : ℕ) (text : List ℕ) (result : Status)
    → IsWritten input left text → Answered text result before now sink sink' → Ends replaying result (input_output input faults before sink) (input_output left faults' now sink')
replay_written law input left before now faults faults' sink sink' text result w a =
    written_by law input left before now faults faults' sink sink' text a.answer a.status result w a.answers a.whole a.part a.either

-- an answer was written, or memory ran out before
pub replay_ends : LongIsRefusedByItsFront → (input left before now : Option (List ℕ)) (faults faults' sink sink' : ℕ) (text : List ℕ) (result : Status)
    → IsWritten input left text → ((result ≡ NoMemory → ⊥) → Answered text result before now sink sink') → (result ≡ NoMemory → now ≡ before)
    → Ends replaying result (input_output input faults before sink) (input_output left faults' now sink')
replay_ends law input left before now faults faults' sink sink' text NoMemory w a same =
    subst (λ held. Ends replaying NoMemory (input_output input faults before sink) (input_output left faults' held sink')) (sym (same refl))
    (replay_forgone input left before faults faults' sink sink' w.reads)
replay_ends law input left before now faults faults' sink sink' text Done w a same = replay_written law input left before now faults faults' sink sink' text Done w (a (λ is. cc))
replay_ends law input left before now faults faults' sink sink' text Usage w a same = replay_written law input left before now faults faults' sink sink' text Usage w (a (λ is. cc))
replay_ends law input left before now faults faults' sink sink' text Refused w a same = replay_written law input left before now faults faults' sink sink' text Refused w (a (λ is. cc))
replay_ends law input left before now faults faults' sink sink' text ReadFault w a same = replay_written law input left before now faults faults' sink sink' text ReadFault w (a (λ is. cc))
replay_ends law input left before now faults faults' sink sink' text DoorFault w a same = replay_written law input left before now faults faults' sink sink' text DoorFault w (a (λ is. cc))
replay_ends law input left before now faults faults' sink sink' text KeeperFault w a same = replay_written law input left before now faults faults' sink sink' text KeeperFault w (a (λ is. cc))
replay_ends law input left before now faults faults' sink sink' text ConnectionRefused w a same = replay_written law input left before now faults faults' sink sink' text ConnectionRefused w (a (λ is. cc))
replay_ends law input left before now faults faults' sink sink' text LotsFault w a same = replay_written law input left before now faults faults' sink sink' text LotsFault w (a (λ is. cc))
replay_ends law input left before now faults faults' sink sink' text TurnsDone w a same = replay_written law input left before now faults faults' sink sink' text TurnsDone w (a (λ is. cc))
replay_ends law input left before now faults faults' sink sink' text BrokenOff w a same = replay_written law input left before now faults faults' sink sink' text BrokenOff w (a (λ is. cc))
replay_ends law input left before now faults faults' sink sink' text WriteFault w a same = replay_written law input left before now faults faults' sink sink' text WriteFault w (a (λ is. cc))

-- a task that reads nothing
task_reads_nothing : EmptyWaits → (t : Task) (input : Option (List ℕ)) → ReadsNoFurther t input input
task_reads_nothing waits t input = record {
  front = [];
  piece = [];
  text = [];
  good = record {
    within = omega arith;
    items = [];
    rest = [];
    cut = record { whole = refl; each = tt; ends = (waits _ _).no_frame };
    written = refl;
    not_bad = (waits _ _).no_fault;
  };
  short = omega arith;
  read = consumed_nothing input;
}

-- no command reads too far that reads nothing
pub reads_nothing : EmptyWaits → (command : Command) (input : Option (List ℕ)) → (meaning_of command).reads input input
reads_nothing waits Replay input = ([], consumed_nothing input, omega arith)
reads_nothing waits Record input = ([], consumed_nothing input, omega arith)
reads_nothing waits (Audit side) input = ([], consumed_nothing input, omega arith)
reads_nothing waits (Soak seed steps) input = refl
reads_nothing waits (Check codec) input = task_reads_nothing waits (task.Check codec) input
reads_nothing waits (Convert from to) input = task_reads_nothing waits (task.Convert from to) input
reads_nothing waits (Serve asked) input = refl
reads_nothing waits (Client asked) input = ([], consumed_nothing input, omega arith)
reads_nothing waits (User asked) input = refl

-- ---- how a soak ends, whatever the input is

pub soak_done : (seed steps : ℕ) (totals : Totals) (input before now : Option (List ℕ)) (faults sink sink' : ℕ) (result : Status) → IsSoak seed steps totals
    → Appends before now (soak_line seed steps totals) → result ≡ Done → Ends (soaking seed steps) result (input_output input faults before sink) (input_output input faults now sink')
soak_done seed steps totals input before now faults sink sink' result is whole same = record {
  done = λ same. (tt, (bytes_of input, soak_line seed steps totals, text_is_told input, record { totals = totals; is_soak = is; line_is = refl }, whole));
  usage = apart result Done Usage same (inl (omega arith));
  refused = λ other. absurd (apart result Done Refused same (inl (omega arith)) other);
  read_fault = λ other. absurd (apart result Done ReadFault same (inl (omega arith)) other);
  write_fault = λ other. absurd (apart result Done WriteFault same (inl (omega arith)) other);
  no_memory = λ other. absurd (apart result Done NoMemory same (inl (omega arith)) other);
  ended = λ is. absurd (subst IsEndedOtherwise same is);
  reads = refl;
}

pub soak_part : (seed steps : ℕ) (totals : Totals) (input before now : Option (List ℕ)) (faults sink sink' : ℕ) (result : Status) → IsSoak seed steps totals
    → sink' ≡ one_more sink → (n : ℕ) → Appends before now (take n (soak_line seed steps totals)) → result ≡ WriteFault
    → Ends (soaking seed steps) result (input_output input faults before sink) (input_output input faults now sink')
soak_part seed steps totals input before now faults sink sink' result is rose n part same = record {
  done = λ other. absurd (apart result WriteFault Done same (inr (omega arith)) other);
  usage = apart result WriteFault Usage same (inr (omega arith));
  refused = λ other. absurd (apart result WriteFault Refused same (inr (omega arith)) other);
  read_fault = λ other. absurd (apart result WriteFault ReadFault same (inr (omega arith)) other);
  write_fault = λ same.
      (rose, (bytes_of input, soak_line seed steps totals, text_is_told input, record { totals = totals; is_soak = is; line_is = refl }, (n, part)));
  no_memory = λ other. absurd (apart result WriteFault NoMemory same (inl (omega arith)) other);
  ended = λ is. absurd (subst IsEndedOtherwise same is);
  reads = refl;
}

pub soak_forgone : (seed steps : ℕ) (input before now : Option (List ℕ)) (faults sink sink' : ℕ) (result : Status) → now ≡ before → result ≡ NoMemory
    → Ends (soaking seed steps) result (input_output input faults before sink) (input_output input faults now sink')
soak_forgone seed steps input before now faults sink sink' result kept same = record {
  done = λ other. absurd (apart result NoMemory Done same (inr (omega arith)) other);
  usage = apart result NoMemory Usage same (inr (omega arith));
  refused = λ other. absurd (apart result NoMemory Refused same (inr (omega arith)) other);
  read_fault = λ other. absurd (apart result NoMemory ReadFault same (inr (omega arith)) other);
  write_fault = λ other. absurd (apart result NoMemory WriteFault same (inr (omega arith)) other);
  no_memory = λ same. (bytes_of input, [], text_is_told input, refl, subst (λ held. Appends before held []) (sym kept) (appended_nothing before));
  ended = λ is. absurd (subst IsEndedOtherwise same is);
  reads = refl;
}
