-- What the program does with its words and its input, where the source and the sink tell their bytes.
use Rattle.std.specs.Prelude.{◌≡◌, ◌≢◌, ◌≤◌, ◌+◌, ℕ, Bool, true, false, List, [], ◌∷◌, ◌++◌, length, take, codes, String, Option, None, Some, option_map, is_none, IfSome, ◌⊎◌, Result, Ok, Err, IfOk}
use Rattle.std.specs.Io.KnownBytes.{Appends, Consumes, IsAtEnd}
use Rattle.std.specs.declared.alloc.Global.{Global}
use Rattle.ha_audit.specs.AloneVerdict.{IsAuditedAlone}
use Rattle.ha_audit.specs.AuditVerdict.{IsAudited}
use Rattle.ha_audit.specs.Grammar.{most_trace}
use Rattle.ha_audit.specs.Reading.{TraceText}
use Rattle.ha_audit.specs.Reading as audit
use Rattle.ha_audit.specs.declared.error.TraceError.TheVariants as trace_error
use Rattle.ha_audit.specs.VerdictLines.{verdict_alone_line, verdict_line}
use Rattle.hd_delivery.specs.declared.vocabulary.Side.{Side}
use Rattle.hd_facts.specs.Counts.{one_more}
use Rattle.hd_facts.specs.Unique.{IsTheOne}
use Rattle.hd_facts.specs.Writes.{IsText, Writes, WritesPart, WritesOfRead}
use Rattle.hd_trace.specs.declared.verdict.Verdict.{Verdict}
use Rattle.hd_trace.specs.declared.verdict.Verdict.TheVariants as both
use Rattle.hd_trace.specs.declared.verdict.VerdictAlone.{VerdictAlone}
use Rattle.hd_trace.specs.declared.verdict.VerdictAlone.TheVariants as alone
use Rattle.hd_rooms.specs.declared.vocabulary.Asked.{Asked}
use Rattle.hd_rooms.specs.declared.vocabulary.Asked.TheVariants.{AddUser}
use Rattle.hd_rooms.specs.Kept.{Content, name_of, with_user}
use Rattle.hd_client.specs.declared.order.Order.{Order}
use Rattle.hd_client.specs.Setups.{Setup}
use Rattle.sr_app.specs.declared.run.Status.{Status}
use Rattle.sr_app.specs.declared.run.Status.TheVariants.{Done, Usage, Refused, ReadFault, WriteFault, DoorFault, KeeperFault, NoMemory, ConnectionRefused, LotsFault, TurnsDone, BrokenOff}
use Rattle.hk_keeper.specs.Calls.{HasFaultCause, IsNoted}
use Rattle.hk_keeper.specs.declared.keeper.KeepError.{KeepError}
use Rattle.hk_keeper.specs.declared.keeper.KeepError.TheVariants as keep
use Rattle.hw_door.specs.DoorCalls.{DoorCall, flushed}
use Rattle.hub_server.specs.Resend.{limits_with}
use Rattle.sr_script.specs.Script.{Program, Parses, IsRefusedAt, IsRefusedWithoutPeers, refusal_line, most_script}
use Rattle.sr_script.specs.Reading.{ParsesWithoutPeers}
use Rattle.sr_replay.specs.Report.{IsReportOf}
use Rattle.sr_replay.specs.Trace as traces
use Rattle.sr_soak.specs.declared.totals.Totals.{Totals}
use Rattle.sr_soak.specs.Soaks.{IsSoak, soak_line}
use Rattle.sr_check.specs.declared.task.Task.{Task}
use Rattle.sr_check.specs.declared.task.Task.TheVariants as task
use Rattle.sr_check.specs.declared.task.Stop.{Stop}
use Rattle.sr_check.specs.declared.task.Stop.TheVariants as stop
use Rattle.sr_check.specs.Stream.{IsDone, IsStopped, IsBegun, IsAllSoFar, IsPart, ReadsNoFurther, most_piece}
use Rattle.sr_words.specs.declared.commands.Command.{Command}
use Rattle.sr_words.specs.declared.commands.Command.TheVariants.{Replay, Record, Audit, Soak, Check, Convert, Serve, Client, User}
use Rattle.sr_words.specs.declared.adding.Adding.{Adding}
use Rattle.sr_words.specs.declared.serving.Serving.{Serving}
use Rattle.sr_words.specs.declared.dialing.Dialing.{Dialing}
use Rattle.sr_words.specs.Words.{Asks, IsNoCommand}
use Rattle.sr_serve.specs.declared.serving.ServeError.{ServeError}
use Rattle.sr_serve.specs.declared.serving.ServeError.TheVariants as end
use Rattle.sr_serve.specs.Serving.{serving_line}
use Rattle.sr_serve.specs.Serving as serve
use Rattle.sr_client.specs.declared.client.ClientError.{ClientError}
use Rattle.sr_client.specs.declared.client.ClientError.TheVariants as over
use Rattle.sr_client.specs.Grammar.{RefusesText}
use Rattle.sr_client.specs.Grammar as client
use Rattle.sr_client.specs.Running.{Faults, HasRun, IsCausedBy, IsSetup, WentSo, faults}
use Rattle.sr_script.specs.declared.script.ScriptError.TheVariants.{Line}

abbrev pub usage_line : List ℕ
usage_line = codes "usage: sr replay, soak, serve, client, check, convert, user, record or audit\n"

-- the exit status, as the shell has it
abbrev pub code_of : Status → ℕ
code_of Done = 0
code_of Usage = 1
code_of Refused = 2
code_of ReadFault = 3
code_of WriteFault = 4
code_of DoorFault = 5
code_of KeeperFault = 6
code_of NoMemory = 7
code_of ConnectionRefused = 8
code_of LotsFault = 9
code_of TurnsDone = 10
code_of BrokenOff = 11

-- It ended in one of these ways: by what is outside, which is the door or the dialer, the keeper, the other side or the lots, by the number of its
-- turns, or because a trace breaks off
abbrev pub IsEndedOtherwise : Status → Type 0
IsEndedOtherwise DoorFault = Unit {0}
IsEndedOtherwise KeeperFault = Unit {0}
IsEndedOtherwise ConnectionRefused = Unit {0}
IsEndedOtherwise LotsFault = Unit {0}
IsEndedOtherwise TurnsDone = Unit {0}
IsEndedOtherwise BrokenOff = Unit {0}
IsEndedOtherwise status = ⊥

-- ---- what a command means

-- whether this answer is one to this text
abbrev pub Answers : Type 1
Answers = List ℕ → List ℕ → Type 0

-- What a command writes, by how it ends, and how far it reads. Each command has one such meaning.
pub record Meaning : Type 1 where
  -- it is done: the whole answer to the input
  pub done : Answers
  -- the input is refused: the refusal, after what is written of what came before it
  pub refused : Answers
  -- the output failed: whatever may be written, of which a first part was
  pub part : Answers
  -- out of memory: what is written of a first part of the input
  pub begun : Answers
  -- the input failed: what is written of the bytes that were read
  pub read : Answers
  -- what the input has left before and after
  pub reads : Option (List ℕ) → Option (List ℕ) → Type 0
  -- what it has left once the command is done, or ended with a status of its own
  pub leaves : Option (List ℕ) → Type 0
  -- it ended otherwise, with this status: what was written until then
  pub ended : Status → Answers

-- the text is a script, which asks for one program, and this is a report of that: the one there is, if it has no peers
pub record IsReplayed (text report : List ℕ) : Type 0 where
  pub asks : Program
  pub script : IsTheOne (Parses text) asks
  pub report_is : IsReportOf asks report

-- the text is no script, and this is its refusal
pub record IsRefused (text answer : List ℕ) : Type 0 where
  pub number : ℕ
  pub first : IsTheOne (IsRefusedAt text) number
  pub line : answer ≡ refusal_line number

-- the answer to a text, whether it is a script or not
abbrev pub IsTextAnswer : Answers
IsTextAnswer text answer = IsReplayed text answer ⊎ IsRefused text answer

-- the same with the status that tells which it is
abbrev pub AnswersWith : Status → Answers
AnswersWith Done text answer = IsReplayed text answer
AnswersWith Refused text answer = IsRefused text answer
AnswersWith _ text answer = ⊥

-- no answer
abbrev pub IsNothing : Answers
IsNothing text answer = answer ≡ []

-- it never comes to this
abbrev pub Never : Answers
Never text answer = ⊥

-- of the bytes that are told no more were read than a script may have at most, and one piece
abbrev pub ReadsBounded : ℕ → Option (List ℕ) → Option (List ℕ) → Type 0
ReadsBounded most before now = (taken : List ℕ) × Consumes before now taken × (length taken ≤ most + most_piece)

-- A replay writes nothing before it has read its script whole.
abbrev pub replaying : Meaning
replaying = record {
  done = IsReplayed;
  refused = IsRefused;
  part = IsTextAnswer;
  begun = IsNothing;
  read = IsNothing;
  reads = ReadsBounded most_script;
  leaves = IsAtEnd;
  ended = λ status. Never;
}

-- ---- texts that are read whole

-- A command that reads a text of at most so many bytes whole before it writes: what it answers, what refuses the text, and what of an answer is
-- written before it is whole.
abbrev pub of_text : ℕ → Answers → Answers → Answers → Meaning
of_text most Answer Refusal Front = record {
  done = Answer;
  refused = Refusal;
  part = λ text answer. Front text answer ⊎ Refusal text answer;
  begun = λ text answer. IsNothing text answer ⊎ Front text answer;
  read = IsNothing;
  reads = ReadsBounded most;
  leaves = IsAtEnd;
  ended = λ status. Never;
}

-- the text is a script of two ends alone, and this is its trace
pub record IsRecorded (text trace : List ℕ) : Type 0 where
  pub asks : Program
  pub script : ParsesWithoutPeers text asks
  pub trace_is : IsTheOne (traces.IsTrace asks) trace

-- this is a first part of that
pub record IsRecordedFront (text front : List ℕ) : Type 0 where
  pub asks : Program
  pub script : ParsesWithoutPeers text asks
  pub front_is : traces.IsPart asks front

-- the text is no such script, and this is its refusal
pub record IsRefusedToRecord (text answer : List ℕ) : Type 0 where
  pub number : ℕ
  pub first : IsTheOne (IsRefusedWithoutPeers text) number
  pub line : answer ≡ refusal_line number

-- A recording writes of each action once it is done.
abbrev pub recording : Meaning
recording = of_text most_script IsRecorded IsRefusedToRecord IsRecordedFront

-- the status that goes with a verdict
abbrev pub status_of_verdict : Verdict → Status
status_of_verdict (both.World client server still) = Done
status_of_verdict (both.Breaks number rule) = BrokenOff

abbrev pub status_of_verdict_alone : VerdictAlone → Status
status_of_verdict_alone (alone.History counts) = Done
status_of_verdict_alone (alone.Breaks number rule) = BrokenOff

-- the one verdict to which the trace comes, of both ends or of the one that is named, has this status and this line
abbrev pub ComesToLine : Option Side → TraceText → Status → List ℕ → Type 0
ComesToLine None trace status line =
    (verdict : Verdict) × IsTheOne (IsAudited trace) verdict × (status ≡ status_of_verdict verdict) × (line ≡ verdict_line verdict)
ComesToLine (Some side) trace status line =
    (verdict : VerdictAlone) × IsTheOne (IsAuditedAlone side trace) verdict × (status ≡ status_of_verdict_alone verdict)
    × (line ≡ verdict_alone_line side verdict)

-- the text is such a trace, and this is the line of its verdict
pub record IsJudged (side : Option Side) (status : Status) (text line : List ℕ) : Type 0 where
  pub trace : TraceText
  pub parsed : audit.Parses side text trace
  pub comes : ComesToLine side trace status line

-- the text is none, and this is its refusal
pub record IsNoTrace (side : Option Side) (text answer : List ℕ) : Type 0 where
  pub number : ℕ
  pub refuses : audit.RefusesText side (trace_error.Line number) text
  pub line : answer ≡ refusal_line number

-- the answer to a text, whether it is a trace or not
abbrev pub IsAuditAnswer : Option Side → Answers
IsAuditAnswer side text answer = ((status : Status) × IsJudged side status text answer) ⊎ IsNoTrace side text answer

-- An audit writes nothing before its verdict is known.
abbrev pub auditing : Option Side → Meaning
auditing side = record {
  done = IsJudged side Done;
  refused = IsNoTrace side;
  part = IsAuditAnswer side;
  begun = IsNothing;
  read = IsNothing;
  reads = ReadsBounded most_trace;
  leaves = IsAtEnd;
  ended = IsJudged side;
}

-- A task over frames writes of each frame before it has read the next piece.
abbrev pub doing : Task → Meaning
doing task = record {
  done = IsDone task;
  refused = IsStopped task;
  part = IsPart task;
  begun = IsBegun task;
  read = IsAllSoFar task;
  reads = ReadsNoFurther task;
  leaves = IsAtEnd;
  ended = λ status. Never;
}

-- a soak of this seed and so many steps, whatever the input is, and its line
pub record IsSoaked (seed steps : ℕ) (text line : List ℕ) : Type 0 where
  pub totals : Totals
  pub is_soak : IsSoak seed steps totals
  pub line_is : line ≡ soak_line seed steps totals

-- A soak reads nothing.
abbrev pub soaking : ℕ → ℕ → Meaning
soaking seed steps = record {
  done = IsSoaked seed steps;
  refused = Never;
  part = IsSoaked seed steps;
  begun = IsNothing;
  read = Never;
  reads = λ before now. now ≡ before;
  leaves = λ left. Unit {0};
  ended = λ status. Never;
}

-- the line with which serving begins, whatever the input is
abbrev pub IsServing : Answers
IsServing text line = (rows : ℕ) × (line ≡ serving_line rows)

-- its line stands where the door failed. The keeper is asked before
abbrev pub IsServingUntil : Status → Answers
IsServingUntil DoorFault = IsServing
IsServingUntil KeeperFault = IsNothing
IsServingUntil status = Never

-- Serving reads nothing. Memory may run out before its line and after it.
abbrev pub serving : Meaning
serving = record {
  done = IsServing;
  refused = Never;
  part = IsServing;
  begun = λ text line. IsNothing text line ⊎ IsServing text line;
  read = Never;
  reads = λ before now. now ≡ before;
  leaves = λ left. Unit {0};
  ended = IsServingUntil;
}

-- the status that goes with how a client's run ended
abbrev pub status_of_client : ClientError → Status
status_of_client over.Refused = ConnectionRefused
status_of_client over.Dial = DoorFault
status_of_client over.Write = WriteFault
status_of_client over.Lots = LotsFault
status_of_client over.NoMemory = NoMemory
status_of_client over.Turns = TurnsDone

abbrev pub status_of_run : Result Unit ClientError → Status
status_of_run (Ok done) = Done
status_of_run (Err error) = status_of_client error

-- a client is begun as it is asked for
abbrev pub IsAskedFor : Dialing → Setup → Type 0
IsAskedFor asked s = IsSetup s asked.address asked.codec (limits_with asked.resend)

-- the text is a client's script, and this is what a client prints that runs it and ends with this status
pub record IsPrinted (asked : Dialing) (status : Status) (text lines : List ℕ) : Type 0 where
  pub orders : List Order
  pub script : IsTheOne (client.Parses text) orders
  pub ran : Result Unit ClientError
  pub status_is : status ≡ status_of_run ran
  pub setup : Setup
  pub is_asked_for : IsAskedFor asked setup
  pub runs : HasRun setup orders (λ last told. lines ≡ told.printed) asked.turns ran

-- the text is no script of a client, and this is its refusal
pub record IsNoScript (text answer : List ℕ) : Type 0 where
  pub number : ℕ
  pub refuses : RefusesText (Line number) text
  pub line : answer ≡ refusal_line number

-- A client dials, and writes, once it has read its script whole.
abbrev pub dialing : Dialing → Meaning
dialing asked = record {
  done = IsPrinted asked Done;
  refused = IsNoScript;
  part = λ text answer. IsPrinted asked WriteFault text answer ⊎ IsNoScript text answer;
  begun = λ text answer. IsNothing text answer ⊎ IsPrinted asked NoMemory text answer;
  read = IsNothing;
  reads = ReadsBounded client.most_script;
  leaves = IsAtEnd;
  ended = IsPrinted asked;
}

-- the line that tells whether a user was added
abbrev pub adding_line : Bool → List ℕ
adding_line true = codes "added\n"
adding_line false = codes "known\n"

-- either of these lines, whatever the input is
abbrev pub IsAdding : Answers
IsAdding text line = (is_new : Bool) × (line ≡ adding_line is_new)

-- its line doesn't stand where the keeper failed
abbrev pub IsAddingUntil : Status → Answers
IsAddingUntil KeeperFault = IsNothing
IsAddingUntil status = Never

-- Adding a user reads nothing, and writes once it was answered.
abbrev pub adding : Meaning
adding = record {
  done = IsAdding;
  refused = Never;
  part = IsAdding;
  begun = IsNothing;
  read = Never;
  reads = λ before now. now ≡ before;
  leaves = λ left. Unit {0};
  ended = IsAddingUntil;
}

-- what each command means
abbrev pub meaning_of : Command → Meaning
meaning_of Replay = replaying
meaning_of Record = recording
meaning_of (Audit side) = auditing side
meaning_of (Soak seed steps) = soaking seed steps
meaning_of (Check codec) = doing (task.Check codec)
meaning_of (Convert from to) = doing (task.Convert from to)
meaning_of (Serve asked) = serving
meaning_of (Client asked) = dialing asked
meaning_of (User asked) = adding

-- the command reads no input
abbrev pub ReadsNothing : Command → Type 0
ReadsNothing (Soak seed steps) = Unit {0}
ReadsNothing (Serve asked) = Unit {0}
ReadsNothing (User asked) = Unit {0}
ReadsNothing command = ⊥

-- the command leaves the door alone
abbrev pub ServesNothing : Command → Type 0
ServesNothing (Serve asked) = ⊥
ServesNothing command = Unit {0}

-- the command leaves the keeper alone
abbrev pub KeepsNothing : Command → Type 0
KeepsNothing (Serve asked) = ⊥
KeepsNothing (User asked) = ⊥
KeepsNothing command = Unit {0}

-- the command leaves the dialer alone
abbrev pub DialsNothing : Command → Type 0
DialsNothing (Client asked) = ⊥
DialsNothing command = Unit {0}

-- the command draws no lots if it ends with this status
abbrev pub DrawsNothing : Command → ℕ → Type 0
DrawsNothing (Serve asked) status = (status ≡ code_of WriteFault) ⊎ (status ≡ code_of KeeperFault)
DrawsNothing (Client asked) status = ⊥
DrawsNothing command status = Unit {0}

-- the command writes its whole answer at once, once it is known
abbrev pub WritesOnce : Command → Type 0
WritesOnce Replay = Unit {0}
WritesOnce (Audit side) = Unit {0}
WritesOnce (Soak seed steps) = Unit {0}
WritesOnce (User asked) = Unit {0}
WritesOnce command = ⊥

-- ---- what a command did

-- An answer was written, with the status that goes with it, or a first part of it if the sink failed; or memory ran out before.
pub record Answered (text : List ℕ) (result : Status) (before now : Option (List ℕ)) (faults faults' : ℕ) : Type 0 where
  pub status : Status
  pub answer : List ℕ
  pub answers : AnswersWith status text answer
  pub whole : result ≡ status → Appends before now answer
  pub part : result ≡ WriteFault → (faults' ≡ one_more faults) × ((n : ℕ) × Appends before now (take n answer))
  pub either : (result ≡ status) ⊎ (result ≡ WriteFault)

-- What a command did that read this text, by the status with which it ended.
pub record HasAnswered (m : Meaning) (text : List ℕ) (result : Status) (before now : Option (List ℕ)) (faults faults' : ℕ) : Type 0 where
  pub done : result ≡ Done → (answer : List ℕ) × m.done text answer × Appends before now answer
  pub usage : result ≢ Usage
  pub refused : result ≡ Refused → (answer : List ℕ) × m.refused text answer × Appends before now answer
  pub read_fault : result ≢ ReadFault
  pub write_fault : result ≡ WriteFault → (faults' ≡ one_more faults)
      × ((answer : List ℕ) × m.part text answer × ((n : ℕ) × Appends before now (take n answer)))
  pub no_memory : result ≡ NoMemory → (answer : List ℕ) × m.begun text answer × Appends before now answer
  pub ended : IsEndedOtherwise result → (answer : List ℕ) × m.ended result text answer × Appends before now answer

-- What the source has left and the sink holds, where they tell it, and how often each has failed.
pub record InputOutput : Type 0 where
  pub left : Option (List ℕ)
  pub source_faults : ℕ
  pub holds : Option (List ℕ)
  pub sink_faults : ℕ

abbrev pub input_output : Option (List ℕ) → ℕ → Option (List ℕ) → ℕ → InputOutput
input_output left source_faults holds sink_faults =
    record { left = left; source_faults = source_faults; holds = holds; sink_faults = sink_faults }

-- What a command of this meaning did that ended with this status.
pub record Ends (m : Meaning) (status : Status) (before now : InputOutput) : Type 0 where
  pub done : status ≡ Done → m.leaves now.left × Writes m.done before.left before.holds now.holds
  pub usage : status ≢ Usage
  pub refused : status ≡ Refused → Writes m.refused before.left before.holds now.holds
  pub read_fault : status ≡ ReadFault → (now.source_faults ≡ one_more before.source_faults)
      × WritesOfRead m.read before.left now.left before.holds now.holds
  pub write_fault : status ≡ WriteFault → (now.sink_faults ≡ one_more before.sink_faults)
      × WritesPart m.part before.left before.holds now.holds
  pub no_memory : status ≡ NoMemory → Writes m.begun before.left before.holds now.holds
  pub ended : IsEndedOtherwise status → m.leaves now.left × Writes (m.ended status) before.left before.holds now.holds
  pub reads : m.reads before.left now.left

-- No fault is passed over: a count of faults rises only if the status tells of that fault, and then by one (`Ends`).
pub record TellsFaults (status : Status) (before now : InputOutput) : Type 0 where
  pub source : status ≢ ReadFault → now.source_faults ≡ before.source_faults
  pub sink : status ≢ WriteFault → now.sink_faults ≡ before.sink_faults

-- ---- what the words come to

-- the words ask for one command, and this holds of its meaning
abbrev pub AsksFor : List (String Global) → (Meaning → Type 0) → Type 0
AsksFor words Holds = (command : Command) × IsTheOne (Asks words) command × Holds (meaning_of command)

-- a first part of what is written for these words, and nothing else
abbrev pub WritesPartFor : List (String Global) → Option (List ℕ) → Option (List ℕ) → Option (List ℕ) → Type 0
WritesPartFor words input before now =
    AsksFor words (λ m. WritesPart m.part input before now)
    ⊎ (IsNoCommand words × ((n : ℕ) × Appends before now (take n usage_line)))

-- the status that goes with how a task ended
abbrev pub status_of : Stop → Status
status_of stop.Refused = Refused
status_of stop.ReadFault = ReadFault
status_of stop.WriteFault = WriteFault
status_of stop.NoMemory = NoMemory

-- the status that goes with why serving ended
abbrev pub status_of_error : ServeError → Status
status_of_error end.Write = WriteFault
status_of_error end.Door = DoorFault
status_of_error end.Keeper = KeeperFault
status_of_error end.NoMemory = NoMemory

abbrev pub status_of_end : Result Unit ServeError → Status
status_of_end (Ok done) = Done
status_of_end (Err error) = status_of_error error

-- what serving did that ended with this status
abbrev pub EndsServing : Serving → Status → (List DoorCall → Type 0) → serve.Environment → serve.Environment → Type 0
EndsServing asked status Goes before now =
    (result : Result Unit ServeError) × (status ≡ status_of_end result) × serve.Ends asked.base asked.resend asked.live asked.turns Goes before now result

-- what a client's lots and output tell of themselves, and how often its dialer and these have failed
pub record DialEnvironment : Type 0 where
  pub drawn : Option (List (Option (List ℕ)))
  pub holds : Option (List ℕ)
  pub failed : Faults

abbrev pub dial_environment : Option (List (Option (List ℕ))) → Option (List ℕ) → Faults → DialEnvironment
dial_environment drawn holds failed = record { drawn = drawn; holds = holds; failed = failed }

-- The input is a script, and a client that is begun as it is asked for ran it, which ended so. Its dialer was flushed last
pub record HasDialed (asked : Dialing) (Goes : List DoorCall → Type 0) (input : Option (List ℕ)) (before now : DialEnvironment) (ran : Result Unit ClientError) : Type 0 where
  pub text : List ℕ
  pub told : IsText input text
  pub orders : List Order
  pub script : IsTheOne (client.Parses text) orders
  pub runs : (s : Setup) → IsAskedFor asked s → HasRun s orders
      (WentSo (λ calls. Goes (calls ++ flushed ∷ [])) before.drawn now.drawn before.holds now.holds) asked.turns ran
  pub cause : IsCausedBy before.failed now.failed ran

-- the script wasn't read whole, or is none, and this was written
abbrev pub EndsUndialed : Status → Option (List ℕ) → DialEnvironment → DialEnvironment → Type 0
EndsUndialed Refused input before now = Writes IsNoScript input before.holds now.holds × (now.failed ≡ before.failed)
EndsUndialed WriteFault input before now = WritesPart IsNoScript input before.holds now.holds
    × (now.failed.output ≡ one_more before.failed.output) × (now.failed ≡ faults before.failed.dialer before.failed.lots now.failed.output)
EndsUndialed ReadFault input before now = Appends before.holds now.holds [] × (now.failed ≡ before.failed)
EndsUndialed NoMemory input before now = Appends before.holds now.holds [] × (now.failed ≡ before.failed)
EndsUndialed status input before now = ⊥

-- what a client did that ended with this status: it ran, or `IsUndialed` holds of its dialer and its lots
abbrev pub EndsDialing : Dialing → Status → (List DoorCall → Type 0) → Type 0 → Option (List ℕ) → DialEnvironment → DialEnvironment → Type 0
EndsDialing asked status Goes IsUndialed input before now =
    ((ran : Result Unit ClientError) × (status ≡ status_of_run ran) × HasDialed asked Goes input before now ran)
    ⊎ (EndsUndialed status input before now × IsUndialed)

-- the status that goes with a keeper's failure
abbrev pub status_of_keeper : KeepError → Status
status_of_keeper keep.Failed = KeeperFault
status_of_keeper keep.NoMemory = NoMemory

-- what a keeper tells of what it keeps and of what it was asked, what the output tells of itself, and how often each has failed
pub record AddEnvironment : Type 0 where
  pub kept : Option Content
  pub answers : Option (List Asked)
  pub keeper_faults : ℕ
  pub holds : Option (List ℕ)
  pub sink_faults : ℕ

abbrev pub add_environment : Option Content → Option (List Asked) → ℕ → Option (List ℕ) → ℕ → AddEnvironment
add_environment kept answers keeper_faults holds sink_faults =
    record { kept = kept; answers = answers; keeper_faults = keeper_faults; holds = holds; sink_faults = sink_faults }

-- what is kept after this answer: one user more, who is the last, if it was new
abbrev pub kept_with : Adding → Result Bool KeepError → Option Content → Option Content
kept_with asked (Ok true) kept = option_map (with_user asked.token asked.name) kept
kept_with asked answer kept = kept

-- The keeper was asked to add this user, once, and nothing else, and answered so: the user is new exactly where nobody had the token
pub record IsAskedToAdd (asked : Adding) (answer : Result Bool KeepError) (before now : AddEnvironment) : Type 0 where
  pub noted : IsNoted before.answers now.answers (AddUser asked.token asked.name) answer
  pub is_new : IfOk answer (λ is_new. IfSome before.kept (λ kept. is_new ≡ is_none (name_of asked.token kept.users)))
  pub kept : now.kept ≡ kept_with asked answer before.kept
  pub cause : HasFaultCause before.keeper_faults now.keeper_faults answer

-- nothing was written, and the output didn't fail
abbrev pub IsUnwritten : AddEnvironment → AddEnvironment → Type 0
IsUnwritten before now = (now.holds ≡ before.holds) × (now.sink_faults ≡ before.sink_faults)

-- What adding a user did that ended with this status: the line says what the keeper answered. Where the output failed the keeper has the user all the same.
abbrev pub EndsAdding : Adding → Status → AddEnvironment → AddEnvironment → Type 0
EndsAdding asked Done before now = (is_new : Bool) × IsAskedToAdd asked (Ok is_new) before now
    × Appends before.holds now.holds (adding_line is_new) × (now.sink_faults ≡ before.sink_faults)
EndsAdding asked WriteFault before now = (is_new : Bool) × IsAskedToAdd asked (Ok is_new) before now
    × ((n : ℕ) × Appends before.holds now.holds (take n (adding_line is_new))) × (now.sink_faults ≡ one_more before.sink_faults)
EndsAdding asked KeeperFault before now = IsAskedToAdd asked (Err keep.Failed) before now × IsUnwritten before now
EndsAdding asked NoMemory before now = IsAskedToAdd asked (Err keep.NoMemory) before now × IsUnwritten before now
EndsAdding asked status before now = ⊥
