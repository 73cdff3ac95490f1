-- How a client ends, by what it read, printed and asked.
use Rattle.std.proofs.Common.{◌≡◌, ◌≤◌, ◌<◌, ◌⊎◌, ℕ, inl, inr, List, [], ◌∷◌, ◌++◌, length, take, Option, Some, None, Result, Ok, Err, refl, sym, subst, ap, ◌∙◌, append-nil, arith, length-append, take_all, le_refl}
use Rattle.std.specs.Io.KnownBytes.{Appends, Consumes, IsAtEnd}
use Rattle.std.proofs.lemmas.Bool.{cases_lt}
use Rattle.hd_facts.specs.Counts.{one_more}
use Rattle.hd_facts.specs.Unique.{IsTheOne}
use Rattle.hd_facts.specs.Writes.{IsText, Writes, WritesPart}
use Rattle.he_wire.specs.Laws.{HasWire}
use Rattle.hw_door.specs.DoorCalls.{DoorCall, flushed}
use Rattle.hd_delivery.specs.Worlds.{Limits}
use Rattle.hw_door.specs.declared.error.DoorError.{DoorError}
use Rattle.hd_server.specs.Numbers.{most_frame}
use Rattle.hub_server.specs.Resend.{limits_with}
use Rattle.hd_dialing.specs.Asks.{setup_at}
use Rattle.hd_client.specs.declared.order.Order.{Order}
use Rattle.hd_client.specs.Setups.{Setup}
use Rattle.hd_client.specs.Events.{ClientEvent}
use Rattle.hd_client.specs.Telling.{Told, Cut}
use Rattle.sr_client.specs.declared.client.ClientError.{ClientError}
use Rattle.sr_client.specs.declared.client.ClientError.TheVariants as over
use Rattle.sr_client.specs.Grammar.{LongIsRefusedByItsFront, Parses, IsRefusedAt, RefusesText}
use Rattle.sr_client.specs.Lines.{json_words}
use Rattle.sr_script.specs.Script.{refusal_line}
use Rattle.sr_script.specs.declared.script.ScriptError.TheVariants.{Line}
use Rattle.sr_client.specs.Running.{Faults, HasRun, IsCausedBy, IsSetup, RunsBy, RunsCut, RunsWhole, WentSo, faults}
use Rattle.sr_words.specs.declared.commands.Command.{Command}
use Rattle.sr_words.specs.declared.commands.Command.TheVariants.{Client}
use Rattle.sr_words.specs.declared.dialing.Dialing.{Dialing}
use Rattle.sr_app.specs.declared.run.Status.{Status}
use Rattle.sr_app.specs.declared.run.Status.TheVariants.{Done, Usage, Refused, ReadFault, WriteFault, DoorFault, KeeperFault, NoMemory, ConnectionRefused, LotsFault, TurnsDone, BrokenOff}
use Rattle.sr_app.specs.Run.{DialEnvironment, Ends, EndsDialing, EndsUndialed, HasDialed, IsAskedFor, IsEndedOtherwise, IsNoScript, IsPrinted, ReadsBounded, dial_environment, dialing, input_output, status_of_run}
use Rattle.sr_app.proofs.Told.{appended_nothing, bytes_of, text_is_told, whole_is_told}

-- ---- the status of a run

-- a run has none of these statuses
abbrev pub IsOfNoRun : Status → Type 0
IsOfNoRun Usage = Unit {0}
IsOfNoRun Refused = Unit {0}
IsOfNoRun ReadFault = Unit {0}
IsOfNoRun KeeperFault = Unit {0}
IsOfNoRun BrokenOff = Unit {0}
IsOfNoRun status = ⊥

run_has : (ran : Result Unit ClientError) → IsOfNoRun (status_of_run ran) → ⊥
run_has (Ok done) is = is
run_has (Err over.Refused) is = is
run_has (Err over.Dial) is = is
run_has (Err over.Write) is = is
run_has (Err over.Lots) is = is
run_has (Err over.NoMemory) is = is
run_has (Err over.Turns) is = is

pub not_of_a_run : (status : Status) → IsOfNoRun status → (ran : Result Unit ClientError) → status ≡ status_of_run ran → ⊥
not_of_a_run status is ran same = run_has ran (subst IsOfNoRun same is)

-- ---- what a run printed, by itself

abbrev Prints : List ℕ → List DoorCall → Told → Type 0
Prints lines last told = lines ≡ told.printed

-- what was printed was appended
abbrev Puts : (List DoorCall → Told → Type 0) → Option (List ℕ) → Option (List ℕ) → Type 0
Puts Went held now = (last : List DoorCall) (told : Told) → Went last told → Appends held now told.printed

whole_prints : (s : Setup) (orders : List Order) (AtEnd : List ClientEvent → Type 0) (Went : List DoorCall → Told → Type 0) (held now : Option (List ℕ)) → Puts Went held now
    → (n : ℕ) → RunsWhole s orders AtEnd Went n → (lines : List ℕ) × RunsWhole s orders AtEnd (Prints lines) n × Appends held now lines
whole_prints s orders AtEnd Went held now puts n w = (w.told.printed, record { told = w.told; dials = w.dials; went = refl }, puts [] w.told w.went)

cut_prints : (s : Setup) (orders : List Order) (cut : Cut) (why : DoorError) (Went : List DoorCall → Told → Type 0) (held now : Option (List ℕ)) → Puts Went held now
    → (n : ℕ) → RunsCut s orders cut why Went n → (lines : List ℕ) × RunsCut s orders cut why (Prints lines) n × Appends held now lines
cut_prints s orders cut why Went held now puts n w = (w.told.printed, record { told = w.told; dials = w.dials; went = refl }, puts _ w.told w.went)

run_prints : (s : Setup) (orders : List Order) (Went : List DoorCall → Told → Type 0) (held now : Option (List ℕ)) → Puts Went held now
    → (turns : ℕ) (ran : Result Unit ClientError) → RunsBy s orders Went turns ran → (lines : List ℕ) × RunsBy s orders (Prints lines) turns ran × Appends held now lines
run_prints s orders Went held now puts turns (Ok done) (n, most, w) = let p = whole_prints s orders _ Went held now puts n w in (p.0, (n, most, p.1), p.2)
run_prints s orders Went held now puts turns (Err over.Refused) (n, most, w) = let p = whole_prints s orders _ Went held now puts n w in (p.0, (n, most, p.1), p.2)
run_prints s orders Went held now puts turns (Err over.Lots) (n, most, w) = let p = whole_prints s orders _ Went held now puts n w in (p.0, (n, most, p.1), p.2)
run_prints s orders Went held now puts turns (Err over.Turns) w = whole_prints s orders _ Went held now puts turns w
run_prints s orders Went held now puts turns (Err over.Dial) (n, less, (ask, w)) =
    let p = cut_prints s orders _ _ Went held now puts n w in (p.0, (n, less, (ask, p.1)), p.2)
run_prints s orders Went held now puts turns (Err over.Write) (n, less, w) = let p = cut_prints s orders _ _ Went held now puts n w in (p.0, (n, less, p.1), p.2)
run_prints s orders Went held now puts turns (Err over.NoMemory) (inl none) = ([], inl refl, puts [] _ none)
run_prints s orders Went held now puts turns (Err over.NoMemory) (inr (n, less, inl w)) =
    let p = cut_prints s orders _ _ Went held now puts n w in (p.0, inr (n, less, inl p.1), p.2)
run_prints s orders Went held now puts turns (Err over.NoMemory) (inr (n, less, inr (ask, w))) =
    let p = cut_prints s orders _ _ Went held now puts n w in (p.0, inr (n, less, inr (ask, p.1)), p.2)

-- there is a client that is begun so
asked_setup : HasWire → (asked : Dialing) → (s : Setup) × IsAskedFor asked s
asked_setup wires asked =
    let wire = wires most_frame in (
      record { dialing = setup_at 0 asked.address; codec = asked.codec; wire = wire.0; limits = limits_with asked.resend; words = json_words },
      record { dialing = refl; speaks = refl; wire = wire.1; holds = refl; words = refl },
    )

prints_with : (asked : Dialing) (Goes : List DoorCall → Type 0) (input : Option (List ℕ)) (b n : DialEnvironment) (ran : Result Unit ClientError) (status : Status) → status ≡ status_of_run ran
    → HasDialed asked Goes input b n ran → (s : Setup) → IsAskedFor asked s → Writes (IsPrinted asked status) input b.holds n.holds
prints_with asked Goes input b n ran status same d s is =
    let p = run_prints s d.orders _ b.holds n.holds (λ last told went. went.puts) asked.turns ran (d.runs s is).by in
    (d.text, p.0, d.told, record { orders = d.orders; script = d.script; ran = ran; status_is = same; setup = s; is_asked_for = is; runs = record { by = p.1 } }, p.2)

dialed_prints : HasWire → (asked : Dialing) (Goes : List DoorCall → Type 0) (input : Option (List ℕ)) (b n : DialEnvironment) (ran : Result Unit ClientError) (status : Status)
    → status ≡ status_of_run ran → HasDialed asked Goes input b n ran → Writes (IsPrinted asked status) input b.holds n.holds
dialed_prints wires asked Goes input b n ran status same d = let s = asked_setup wires asked in prints_with asked Goes input b n ran status same d s.0 s.1

-- ---- what is said of the text that was read is said of the whole input

-- the input, and its refusal
record IsNoScriptInput (input : Option (List ℕ)) (answer : List ℕ) : Type 0 where
  pub text : List ℕ
  pub told : IsText input text
  pub refused : IsNoScript text answer

refused_by : LongIsRefusedByItsFront → (bytes rest text answer : List ℕ) → bytes ≡ text ++ rest → (length text ≤ 1048576 → rest ≡ []) → IsNoScript text answer
    → (1048576 < length text) ⊎ (length text ≤ 1048576) → IsNoScript bytes answer
refused_by law bytes rest text answer read ended refused (inl long) = record {
  number = refused.number;
  refuses = (
    subst (λ (xs : List ℕ). IsTheOne (IsRefusedAt xs) refused.number) (sym read) (law text rest refused.number long refused.refuses.0),
    λ orders parses. (let short : length bytes ≤ 1048576 = parses.short in omega (arith, short, long, ap length read, length-append text rest)),
  );
  line = refused.line;
}
refused_by law bytes rest text answer read ended refused (inr short) =
    subst (λ (xs : List ℕ). IsNoScript xs answer) (sym (read ∙ ap (λ xs. text ++ xs) (ended short) ∙ append-nil text)) refused

refused_told : LongIsRefusedByItsFront → (input left : Option (List ℕ)) (text answer : List ℕ) → Consumes input left text → (length text ≤ 1048576 → IsAtEnd left) → IsNoScript text answer
    → IsNoScriptInput input answer
refused_told law None left text answer read ended refused = record { text = text; told = tt; refused = refused }
refused_told law (Some bytes) None text answer read ended refused = absurd read
refused_told law (Some bytes) (Some rest) text answer read ended refused =
    record { text = bytes; told = refl; refused = refused_by law bytes rest text answer read ended refused (cases_lt 1048576 (length text)) }

-- what was read of the input
pub record IsRead (input left : Option (List ℕ)) (text : List ℕ) : Type 0 where
  pub read : Consumes input left text
  pub ended : length text ≤ 1048576 → IsAtEnd left
  pub reads : ReadsBounded 1048576 input left

short_of : (asked : Dialing) (Goes : List DoorCall → Type 0) (text : List ℕ) (b n : DialEnvironment) (ran : Result Unit ClientError) → HasDialed asked Goes (Some text) b n ran → length text ≤ 1048576
short_of asked Goes text b n ran d = subst (λ (xs : List ℕ). length xs ≤ 1048576) (sym d.told) d.script.holds.short

dialed_told : (asked : Dialing) (Goes : List DoorCall → Type 0) (input left : Option (List ℕ)) (text : List ℕ) (b n : DialEnvironment) (ran : Result Unit ClientError) → IsRead input left text
    → HasDialed asked Goes (Some text) b n ran → HasDialed asked Goes input b n ran
dialed_told asked Goes input left text b n ran r d = record {
  text = text;
  told = whole_is_told input left text r.read (r.ended (short_of asked Goes text b n ran d));
  orders = d.orders;
  script = subst (λ (xs : List ℕ). IsTheOne (Parses xs) d.orders) (sym d.told) d.script;
  runs = d.runs;
  cause = d.cause;
}

writes_told : LongIsRefusedByItsFront → (input left : Option (List ℕ)) (text : List ℕ) (before now : Option (List ℕ)) → IsRead input left text → Writes IsNoScript (Some text) before now
    → Writes IsNoScript input before now
writes_told law input left text before now r (other, answer, told, refused, appends) =
    let is = refused_told law input left text answer r.read r.ended (subst (λ (xs : List ℕ). IsNoScript xs answer) (sym told) refused) in
    (is.text, answer, is.told, is.refused, appends)

part_told : LongIsRefusedByItsFront → (input left : Option (List ℕ)) (text : List ℕ) (before now : Option (List ℕ)) → IsRead input left text → WritesPart IsNoScript (Some text) before now
    → WritesPart IsNoScript input before now
part_told law input left text before now r (other, answer, told, refused, part) =
    let is = refused_told law input left text answer r.read r.ended (subst (λ (xs : List ℕ). IsNoScript xs answer) (sym told) refused) in
    (is.text, answer, is.told, is.refused, part)

undialed_told : LongIsRefusedByItsFront → (status : Status) (input left : Option (List ℕ)) (text : List ℕ) (b n : DialEnvironment) → IsRead input left text → EndsUndialed status (Some text) b n
    → EndsUndialed status input b n
undialed_told law Refused input left text b n r (writes, same) = (writes_told law input left text b.holds n.holds r writes, same)
undialed_told law WriteFault input left text b n r (part, rose, same) = (part_told law input left text b.holds n.holds r part, rose, same)
undialed_told law ReadFault input left text b n r ends = ends
undialed_told law NoMemory input left text b n r ends = ends
undialed_told law Done input left text b n r none = absurd none
undialed_told law Usage input left text b n r none = absurd none
undialed_told law DoorFault input left text b n r none = absurd none
undialed_told law KeeperFault input left text b n r none = absurd none
undialed_told law ConnectionRefused input left text b n r none = absurd none
undialed_told law LotsFault input left text b n r none = absurd none
undialed_told law TurnsDone input left text b n r none = absurd none
undialed_told law BrokenOff input left text b n r none = absurd none

pub ends_told : LongIsRefusedByItsFront → (asked : Dialing) (status : Status) (Goes : List DoorCall → Type 0) (IsUndialed : Type 0) (input left : Option (List ℕ)) (text : List ℕ) (b n : DialEnvironment)
    → IsRead input left text → EndsDialing asked status Goes IsUndialed (Some text) b n → EndsDialing asked status Goes IsUndialed input b n
ends_told law asked status Goes IsUndialed input left text b n r (inl (ran, same, d)) = inl (ran, same, dialed_told asked Goes input left text b n ran r d)
ends_told law asked status Goes IsUndialed input left text b n r (inr (ends, undialed)) = inr (undialed_told law status input left text b n r ends, undialed)

-- ---- what was written

part_of_whole : (asked : Dialing) (input before now : Option (List ℕ)) → Writes (IsPrinted asked WriteFault) input before now → WritesPart (dialing asked).part input before now
part_of_whole asked input before now (text, lines, told, printed, appends) =
    (text, lines, told, inl printed, (length lines, subst (λ (xs : List ℕ). Appends before now xs) (sym (take_all (length lines) lines (le_refl (length lines)))) appends))

begun_of_whole : (asked : Dialing) (input before now : Option (List ℕ)) → Writes (IsPrinted asked NoMemory) input before now → Writes (dialing asked).begun input before now
begun_of_whole asked input before now (text, lines, told, printed, appends) = (text, lines, told, inr printed, appends)

-- a run ended so
run_ends : (asked : Dialing) (status : Status) (input left before now : Option (List ℕ)) (faults faults' sink sink' : ℕ) → IsAtEnd left → ReadsBounded 1048576 input left
    → (status ≡ WriteFault → sink' ≡ one_more sink) → Writes (IsPrinted asked status) input before now
    → Ends (dialing asked) status (input_output input faults before sink) (input_output left faults' now sink')
run_ends asked status input left before now faults faults' sink sink' ended reads rose writes =
    let has : (other : Status) → IsOfNoRun other → status ≡ other → ⊥ = λ other none is. not_of_a_run other none writes.3.ran (sym is ∙ writes.3.status_is) in
    record {
      done = λ is. (ended, subst (λ s. Writes (IsPrinted asked s) input before now) is writes);
      usage = has Usage tt;
      refused = λ is. absurd (has Refused tt is);
      read_fault = λ is. absurd (has ReadFault tt is);
      write_fault = λ is. (rose is, part_of_whole asked input before now (subst (λ s. Writes (IsPrinted asked s) input before now) is writes));
      no_memory = λ is. begun_of_whole asked input before now (subst (λ s. Writes (IsPrinted asked s) input before now) is writes);
      ended = λ is. (ended, writes);
      reads = reads;
    }

-- none ran
pub undialed_ends : (asked : Dialing) (status : Status) (input left : Option (List ℕ)) (faults faults' : ℕ) (b n : DialEnvironment) → ReadsBounded 1048576 input left
    → (status ≡ ReadFault → faults' ≡ one_more faults) → EndsUndialed status input b n
    → Ends (dialing asked) status (input_output input faults b.holds b.failed.output) (input_output left faults' n.holds n.failed.output)
undialed_ends asked Refused input left faults faults' b n reads rose ends = record {
  done = λ is. cc;
  usage = λ is. cc;
  refused = λ is. ends.0;
  read_fault = λ is. cc;
  write_fault = λ is. cc;
  no_memory = λ is. cc;
  ended = λ is. absurd is;
  reads = reads;
}
undialed_ends asked ReadFault input left faults faults' b n reads rose ends = record {
  done = λ is. cc;
  usage = λ is. cc;
  refused = λ is. cc;
  read_fault = λ is. (rose refl, (reads.0, [], reads.1, refl, ends.0));
  write_fault = λ is. cc;
  no_memory = λ is. cc;
  ended = λ is. absurd is;
  reads = reads;
}
undialed_ends asked WriteFault input left faults faults' b n reads rose ((text, answer, told, refused, part), risen, same) = record {
  done = λ is. cc;
  usage = λ is. cc;
  refused = λ is. cc;
  read_fault = λ is. cc;
  write_fault = λ is. (risen, (text, answer, told, inr refused, part));
  no_memory = λ is. cc;
  ended = λ is. absurd is;
  reads = reads;
}
undialed_ends asked NoMemory input left faults faults' b n reads rose ends = record {
  done = λ is. cc;
  usage = λ is. cc;
  refused = λ is. cc;
  read_fault = λ is. cc;
  write_fault = λ is. cc;
  no_memory = λ is. (bytes_of input, [], text_is_told input, inl refl, ends.0);
  ended = λ is. absurd is;
  reads = reads;
}
undialed_ends asked Done input left faults faults' b n reads rose none = absurd none
undialed_ends asked Usage input left faults faults' b n reads rose none = absurd none
undialed_ends asked DoorFault input left faults faults' b n reads rose none = absurd none
undialed_ends asked KeeperFault input left faults faults' b n reads rose none = absurd none
undialed_ends asked ConnectionRefused input left faults faults' b n reads rose none = absurd none
undialed_ends asked LotsFault input left faults faults' b n reads rose none = absurd none
undialed_ends asked TurnsDone input left faults faults' b n reads rose none = absurd none
undialed_ends asked BrokenOff input left faults faults' b n reads rose none = absurd none

-- ---- faults

output_risen : (b n : Faults) (ran : Result Unit ClientError) → IsCausedBy b n ran → WriteFault ≡ status_of_run ran → n.output ≡ one_more b.output
output_risen b n (Ok done) cause is = cc
output_risen b n (Err over.Refused) cause is = cc
output_risen b n (Err over.Dial) cause is = cc
output_risen b n (Err over.Write) cause is = cause.0.1
output_risen b n (Err over.Lots) cause is = cc
output_risen b n (Err over.NoMemory) cause is = cc
output_risen b n (Err over.Turns) cause is = cc

output_kept : (b n : Faults) (ran : Result Unit ClientError) → IsCausedBy b n ran → (status_of_run ran ≡ WriteFault → ⊥) → n.output ≡ b.output
output_kept b n (Ok done) cause differ = ap (λ (f : Faults). f.output) cause
output_kept b n (Err over.Refused) cause differ = ap (λ (f : Faults). f.output) cause
output_kept b n (Err over.Dial) cause differ = ap (λ (f : Faults). f.output) cause.1
output_kept b n (Err over.Write) cause differ = absurd (differ refl)
output_kept b n (Err over.Lots) cause differ = ap (λ (f : Faults). f.output) cause.1
output_kept b n (Err over.NoMemory) cause differ = ap (λ (f : Faults). f.output) cause
output_kept b n (Err over.Turns) cause differ = ap (λ (f : Faults). f.output) cause

dialer_kept : (b n : Faults) (ran : Result Unit ClientError) → IsCausedBy b n ran → (status_of_run ran ≡ DoorFault → ⊥) → n.dialer ≡ b.dialer
dialer_kept b n (Ok done) cause differ = ap (λ (f : Faults). f.dialer) cause
dialer_kept b n (Err over.Refused) cause differ = ap (λ (f : Faults). f.dialer) cause
dialer_kept b n (Err over.Dial) cause differ = absurd (differ refl)
dialer_kept b n (Err over.Write) cause differ = ap (λ (f : Faults). f.dialer) cause.1
dialer_kept b n (Err over.Lots) cause differ = ap (λ (f : Faults). f.dialer) cause.1
dialer_kept b n (Err over.NoMemory) cause differ = ap (λ (f : Faults). f.dialer) cause
dialer_kept b n (Err over.Turns) cause differ = ap (λ (f : Faults). f.dialer) cause

lots_kept : (b n : Faults) (ran : Result Unit ClientError) → IsCausedBy b n ran → (status_of_run ran ≡ LotsFault → ⊥) → n.lots ≡ b.lots
lots_kept b n (Ok done) cause differ = ap (λ (f : Faults). f.lots) cause
lots_kept b n (Err over.Refused) cause differ = ap (λ (f : Faults). f.lots) cause
lots_kept b n (Err over.Dial) cause differ = ap (λ (f : Faults). f.lots) cause.1
lots_kept b n (Err over.Write) cause differ = ap (λ (f : Faults). f.lots) cause.1
lots_kept b n (Err over.Lots) cause differ = absurd (differ refl)
lots_kept b n (Err over.NoMemory) cause differ = ap (λ (f : Faults). f.lots) cause
lots_kept b n (Err over.Turns) cause differ = ap (λ (f : Faults). f.lots) cause

-- where none ran, the output alone may have failed
record IsKept (status : Status) (b n : Faults) : Type 0 where
  pub dialer : n.dialer ≡ b.dialer
  pub lots : n.lots ≡ b.lots
  pub output : (status ≡ WriteFault → ⊥) → n.output ≡ b.output

same_kept : (status : Status) (b n : Faults) → n ≡ b → IsKept status b n
same_kept status b n same = record {
  dialer = ap (λ (f : Faults). f.dialer) same;
  lots = ap (λ (f : Faults). f.lots) same;
  output = λ differ. ap (λ (f : Faults). f.output) same;
}

undialed_kept : (status : Status) (input : Option (List ℕ)) (b n : DialEnvironment) → EndsUndialed status input b n → IsKept status b.failed n.failed
undialed_kept Refused input b n ends = same_kept Refused b.failed n.failed ends.1
undialed_kept ReadFault input b n ends = same_kept ReadFault b.failed n.failed ends.1
undialed_kept NoMemory input b n ends = same_kept NoMemory b.failed n.failed ends.1
undialed_kept WriteFault input b n ends =
    record { dialer = ap (λ (f : Faults). f.dialer) ends.2; lots = ap (λ (f : Faults). f.lots) ends.2; output = λ differ. absurd (differ refl) }
undialed_kept Done input b n none = absurd none
undialed_kept Usage input b n none = absurd none
undialed_kept DoorFault input b n none = absurd none
undialed_kept KeeperFault input b n none = absurd none
undialed_kept ConnectionRefused input b n none = absurd none
undialed_kept LotsFault input b n none = absurd none
undialed_kept TurnsDone input b n none = absurd none
undialed_kept BrokenOff input b n none = absurd none

pub dialing_output_kept : (asked : Dialing) (status : Status) (Goes : List DoorCall → Type 0) (IsUndialed : Type 0) (input : Option (List ℕ)) (b n : DialEnvironment)
    → EndsDialing asked status Goes IsUndialed input b n → (status ≡ WriteFault → ⊥) → n.failed.output ≡ b.failed.output
dialing_output_kept asked status Goes IsUndialed input b n (inl (ran, same, d)) differ = output_kept b.failed n.failed ran d.cause (λ is. differ (same ∙ is))
dialing_output_kept asked status Goes IsUndialed input b n (inr (ends, undialed)) differ = (undialed_kept status input b n ends).output differ

pub dialing_dialer_kept : (asked : Dialing) (status : Status) (Goes : List DoorCall → Type 0) (IsUndialed : Type 0) (input : Option (List ℕ)) (b n : DialEnvironment)
    → EndsDialing asked status Goes IsUndialed input b n → (status ≡ DoorFault → ⊥) → n.failed.dialer ≡ b.failed.dialer
dialing_dialer_kept asked status Goes IsUndialed input b n (inl (ran, same, d)) differ = dialer_kept b.failed n.failed ran d.cause (λ is. differ (same ∙ is))
dialing_dialer_kept asked status Goes IsUndialed input b n (inr (ends, undialed)) differ = (undialed_kept status input b n ends).dialer

pub dialing_lots_kept : (asked : Dialing) (status : Status) (Goes : List DoorCall → Type 0) (IsUndialed : Type 0) (input : Option (List ℕ)) (b n : DialEnvironment)
    → EndsDialing asked status Goes IsUndialed input b n → (status ≡ LotsFault → ⊥) → n.failed.lots ≡ b.failed.lots
dialing_lots_kept asked status Goes IsUndialed input b n (inl (ran, same, d)) differ = lots_kept b.failed n.failed ran d.cause (λ is. differ (same ∙ is))
dialing_lots_kept asked status Goes IsUndialed input b n (inr (ends, undialed)) differ = (undialed_kept status input b n ends).lots

-- ---- where the text is refused

refused_isnt_cut : Refused ≡ WriteFault → ⊥
refused_isnt_cut is = cc

memory_isnt_cut : NoMemory ≡ WriteFault → ⊥
memory_isnt_cut is = cc

-- the refusal was written, or a first part of it, or memory ran out before
pub refused_ends : (asked : Dialing) (status : Status) (Goes : List DoorCall → Type 0) (IsUndialed : Type 0) (text : List ℕ) (number : ℕ) (drawn : Option (List (Option (List ℕ))))
    (held held' : Option (List ℕ)) (d l o o' : ℕ) → IsUndialed → RefusesText (Line number) text → (status ≡ Refused) ⊎ (status ≡ WriteFault) ⊎ (status ≡ NoMemory)
    → (status ≡ Refused → Appends held held' (refusal_line number))
    → (status ≡ WriteFault → (o' ≡ one_more o) × ((k : ℕ) × Appends held held' (take k (refusal_line number)))) → ((status ≡ WriteFault → ⊥) → o' ≡ o) → (status ≡ NoMemory → held' ≡ held)
    → EndsDialing asked status Goes IsUndialed (Some text) (dial_environment drawn held (faults d l o)) (dial_environment drawn held' (faults d l o'))
refused_ends asked status Goes IsUndialed text number drawn held held' d l o o' undialed refuses (inl is) whole part unfailed same =
    inr (
      subst (λ s. EndsUndialed s (Some text) (dial_environment drawn held (faults d l o)) (dial_environment drawn held' (faults d l o'))) (sym is) (
        (text, refusal_line number, refl, record { number = number; refuses = refuses; line = refl }, whole is),
        ap (λ x. faults d l x) (unfailed (λ other. refused_isnt_cut (sym is ∙ other))),
      ),
      undialed,
    )
refused_ends asked status Goes IsUndialed text number drawn held held' d l o o' undialed refuses (inr (inl is)) whole part unfailed same =
    let wrote = part is in
    inr (
      subst (λ s. EndsUndialed s (Some text) (dial_environment drawn held (faults d l o)) (dial_environment drawn held' (faults d l o'))) (sym is)
          ((text, refusal_line number, refl, record { number = number; refuses = refuses; line = refl }, wrote.1), wrote.0, refl),
      undialed,
    )
refused_ends asked status Goes IsUndialed text number drawn held held' d l o o' undialed refuses (inr (inr is)) whole part unfailed same =
    inr (
      subst (λ s. EndsUndialed s (Some text) (dial_environment drawn held (faults d l o)) (dial_environment drawn held' (faults d l o'))) (sym is)
          (subst (λ (h : Option (List ℕ)). Appends held h []) (sym (same is)) (appended_nothing held), ap (λ x. faults d l x) (unfailed (λ other. memory_isnt_cut (sym is ∙ other)))),
      undialed,
    )

-- ---- where a client ran

pub ran_ends : (asked : Dialing) (limits : Limits) (Goes : List DoorCall → Type 0) (IsUndialed : Type 0) (text : List ℕ) (orders : List Order)
    (drawn drawn' : Option (List (Option (List ℕ)))) (held held' : Option (List ℕ)) (f f' : Faults) (status : Status) (ran : Result Unit ClientError)
    → status ≡ status_of_run ran → limits ≡ limits_with asked.resend → IsTheOne (Parses text) orders
    → ((s : Setup) → IsSetup s asked.address asked.codec limits → HasRun s orders (WentSo (λ calls. Goes (calls ++ flushed ∷ [])) drawn drawn' held held') asked.turns ran)
    → IsCausedBy f f' ran → EndsDialing asked status Goes IsUndialed (Some text) (dial_environment drawn held f) (dial_environment drawn' held' f')
ran_ends asked limits Goes IsUndialed text orders drawn drawn' held held' f f' status ran same limits_are script runs cause = inl (
  ran,
  same,
  record {
    text = text;
    told = refl;
    orders = orders;
    script = script;
    runs = λ s is. runs s (subst (λ l. IsSetup s asked.address asked.codec l) (sym limits_are) is);
    cause = cause;
  },
)

-- the keeper isn't asked
pub asks_no_keeper : (asked : Dialing) (status : Status) (Goes : List DoorCall → Type 0) (IsUndialed : Type 0) (input : Option (List ℕ)) (b n : DialEnvironment)
    → EndsDialing asked status Goes IsUndialed input b n → status ≡ KeeperFault → ⊥
asks_no_keeper asked status Goes IsUndialed input b n (inl (ran, same, d)) is = not_of_a_run KeeperFault tt ran (sym is ∙ same)
asks_no_keeper asked status Goes IsUndialed input b n (inr (ends, undialed)) is = subst (λ s. EndsUndialed s input b n) is ends

-- ---- how it ends

pub dialing_ends : HasWire → LongIsRefusedByItsFront → (asked : Dialing) (status : Status) (Goes : List DoorCall → Type 0) (IsUndialed : Type 0) (input left : Option (List ℕ)) (text : List ℕ)
    (faults faults' : ℕ) (b n : DialEnvironment) → IsRead input left text → (status ≡ ReadFault → ⊥) → EndsDialing asked status Goes IsUndialed (Some text) b n
    → Ends (dialing asked) status (input_output input faults b.holds b.failed.output) (input_output left faults' n.holds n.failed.output)
dialing_ends wires law asked status Goes IsUndialed input left text faults faults' b n r has_read (inl (ran, same, d)) =
    run_ends asked status input left b.holds n.holds faults faults' b.failed.output n.failed.output (r.ended (short_of asked Goes text b n ran d)) r.reads
    (λ is. output_risen b.failed n.failed ran d.cause (sym is ∙ same))
    (dialed_prints wires asked Goes input b n ran status same (dialed_told asked Goes input left text b n ran r d))
dialing_ends wires law asked status Goes IsUndialed input left text faults faults' b n r has_read (inr (ends, undialed)) =
    undialed_ends asked status input left faults faults' b n r.reads (λ is. absurd (has_read is)) (undialed_told law status input left text b n r ends)

-- the command asks for one way of dialing
pub dialing_as : (command : Command) (given asked : Dialing) (status : Status) (Goes : List DoorCall → Type 0) (IsUndialed : Type 0) (input : Option (List ℕ)) (b n : DialEnvironment)
    → command ≡ Client given → EndsDialing given status Goes IsUndialed input b n → command ≡ Client asked → EndsDialing asked status Goes IsUndialed input b n
dialing_as command given asked status Goes IsUndialed input b n is ends other =
    let one : ◌≡◌ {A = Command} (Client given) (Client asked) = sym is ∙ other in
    let same : given ≡ asked = cc in
    subst (λ a. EndsDialing a status Goes IsUndialed input b n) same ends
