-- How an audit ends.
use Rattle.std.proofs.Common.{◌≡◌, ◌∙◌, ◌<◌, ◌≤◌, ℕ, ◌⊎◌, inl, inr, List, [], ◌++◌, length, take, Option, Some, None, refl, sym, subst, arith, length-append}
use Rattle.std.specs.Io.KnownBytes.{Appends}
use Rattle.hd_delivery.specs.declared.vocabulary.Side.{Side}
use Rattle.hd_facts.specs.Counts.{one_more}
use Rattle.hd_trace.specs.declared.verdict.Verdict.{Verdict}
use Rattle.hd_trace.specs.declared.verdict.Verdict.TheVariants as both
use Rattle.hd_trace.specs.declared.verdict.VerdictAlone.{VerdictAlone}
use Rattle.hd_trace.specs.declared.verdict.VerdictAlone.TheVariants as alone
use Rattle.ha_audit.specs.Laws.{LongIsRefusedByItsFront}
use Rattle.ha_audit.specs.Reading.{RefusesText, TraceText}
use Rattle.ha_audit.specs.declared.error.TraceError.TheVariants as trace_error
use Rattle.sr_script.specs.Script.{refusal_line}
use Rattle.sr_app.specs.declared.run.Status.{Status}
use Rattle.sr_app.specs.declared.run.Status.TheVariants.{Done, Usage, Refused, ReadFault, WriteFault, DoorFault, KeeperFault, NoMemory, ConnectionRefused, LotsFault, TurnsDone, BrokenOff}
use Rattle.sr_app.specs.Run.{ComesToLine, HasAnswered, IsAuditAnswer, IsJudged, IsNoTrace, auditing, status_of_verdict, status_of_verdict_alone}
use Rattle.sr_app.proofs.Told.{appended_nothing}
use Rattle.sr_app.proofs.WholeTexts.{IsOfText, IsOfShort, StaysOfLong, short_stays}

-- ---- the statuses of verdicts

-- no verdict has this status
abbrev pub IsOfNoVerdict : Status → Type 0
IsOfNoVerdict Done = ⊥
IsOfNoVerdict BrokenOff = ⊥
IsOfNoVerdict status = Unit {0}

verdict_has : (verdict : Verdict) → IsOfNoVerdict (status_of_verdict verdict) → ⊥
verdict_has (both.World client server still) is = is
verdict_has (both.Breaks number rule) is = is

verdict_alone_has : (verdict : VerdictAlone) → IsOfNoVerdict (status_of_verdict_alone verdict) → ⊥
verdict_alone_has (alone.History counts) is = is
verdict_alone_has (alone.Breaks number rule) is = is

line_has : (side : Option Side) (trace : TraceText) (status : Status) (line : List ℕ) → ComesToLine side trace status line → IsOfNoVerdict status → ⊥
line_has None trace status line comes is = verdict_has comes.0 (subst IsOfNoVerdict comes.2 is)
line_has (Some side) trace status line comes is = verdict_alone_has comes.0 (subst IsOfNoVerdict comes.2 is)

pub not_of_a_verdict : (side : Option Side) (status : Status) → IsOfNoVerdict status → (text line : List ℕ) → IsJudged side status text line → ⊥
not_of_a_verdict side status is text line judged = line_has side judged.trace status line judged.comes is

-- ---- it is a command that reads its text whole

judged_is_short : (side : Option Side) (status : Status) → IsOfShort 67108864 (IsJudged side status)
judged_is_short side status text answer is = subst (λ (xs : List ℕ). length xs ≤ 67108864) is.parsed.text_is is.parsed.told.short

refusal_stays : LongIsRefusedByItsFront → (side : Option Side) → StaysOfLong 67108864 (IsNoTrace side)
refusal_stays law side front more answer long is = record {
  number = is.number;
  refuses = (law side front more is.number long is.refuses.0, λ head lines told. absurd (let short = told.short in omega (arith, long, short, length-append front more)));
  line = is.line;
}

answer_stays : LongIsRefusedByItsFront → (side : Option Side) → StaysOfLong 67108864 (IsAuditAnswer side)
answer_stays law side front more answer long (inl is) =
    inl (is.0, short_stays 67108864 (IsJudged side is.0) (judged_is_short side is.0) front more answer long is.1)
answer_stays law side front more answer long (inr is) = inr (refusal_stays law side front more answer long is)

pub auditing_is_of_text : LongIsRefusedByItsFront → (side : Option Side) → IsOfText 67108864 (auditing side)
auditing_is_of_text law side = record {
  done = judged_is_short side Done;
  refused = refusal_stays law side;
  part = answer_stays law side;
  begun = λ front more answer long is. is;
  ended = judged_is_short side;
  nothing = λ text. (refl, refl);
  leaves = λ left is. is;
  reads = λ input left is. is;
}

-- ---- what it answers to its text

judged_done : (side : Option Side) (text line : List ℕ) (before now : Option (List ℕ)) (faults faults' : ℕ) → IsJudged side Done text line
    → Appends before now line → HasAnswered (auditing side) text Done before now faults faults'
judged_done side text line before now faults faults' is whole = record {
  done = λ same. (line, is, whole);
  usage = λ other. cc;
  refused = λ other. cc;
  read_fault = λ other. cc;
  write_fault = λ other. cc;
  no_memory = λ other. cc;
  ended = λ other. absurd other;
}

judged_broken : (side : Option Side) (text line : List ℕ) (before now : Option (List ℕ)) (faults faults' : ℕ) → IsJudged side BrokenOff text line
    → Appends before now line → HasAnswered (auditing side) text BrokenOff before now faults faults'
judged_broken side text line before now faults faults' is whole = record {
  done = λ other. cc;
  usage = λ other. cc;
  refused = λ other. cc;
  read_fault = λ other. cc;
  write_fault = λ other. cc;
  no_memory = λ other. cc;
  ended = λ same. (line, is, whole);
}

-- the output failed after a first part
audited_part : (side : Option Side) (text line : List ℕ) (before now : Option (List ℕ)) (faults faults' : ℕ) → IsAuditAnswer side text line
    → faults' ≡ one_more faults → (n : ℕ) → Appends before now (take n line) → HasAnswered (auditing side) text WriteFault before now faults faults'
audited_part side text line before now faults faults' is rose n part = record {
  done = λ other. cc;
  usage = λ other. cc;
  refused = λ other. cc;
  read_fault = λ other. cc;
  write_fault = λ fault. (rose, (line, is, (n, part)));
  no_memory = λ other. cc;
  ended = λ other. absurd other;
}

-- or memory ran out before a byte was written
pub audited_nothing : (side : Option Side) (text : List ℕ) (before now : Option (List ℕ)) (faults faults' : ℕ) → now ≡ before
    → HasAnswered (auditing side) text NoMemory before now faults faults'
audited_nothing side text before now faults faults' same = record {
  done = λ other. cc;
  usage = λ other. cc;
  refused = λ other. cc;
  read_fault = λ other. cc;
  write_fault = λ other. cc;
  no_memory = λ out. ([], refl, subst (λ held. Appends before held []) (sym same) (appended_nothing before));
  ended = λ other. absurd other;
}

refused_whole : (side : Option Side) (text : List ℕ) (before now : Option (List ℕ)) (faults faults' number : ℕ)
    → RefusesText side (trace_error.Line number) text → Appends before now (refusal_line number) → HasAnswered (auditing side) text Refused before now faults faults'
refused_whole side text before now faults faults' number first whole = record {
  done = λ other. cc;
  usage = λ other. cc;
  refused = λ refused. (refusal_line number, record { number = number; refuses = first; line = refl }, whole);
  read_fault = λ other. cc;
  write_fault = λ other. cc;
  no_memory = λ other. cc;
  ended = λ other. absurd other;
}

-- the text was refused
pub refused_to_audit : (side : Option Side) (text : List ℕ) (result : Status) (before now : Option (List ℕ)) (faults faults' number : ℕ)
    → RefusesText side (trace_error.Line number) text → (result ≡ Refused) ⊎ (result ≡ WriteFault) ⊎ (result ≡ NoMemory)
    → (result ≡ Refused → Appends before now (refusal_line number))
    → (result ≡ WriteFault → (faults' ≡ one_more faults) × ((n : ℕ) × Appends before now (take n (refusal_line number))))
    → (result ≡ NoMemory → now ≡ before)
    → HasAnswered (auditing side) text result before now faults faults'
refused_to_audit side text result before now faults faults' number first (inl is) whole part none =
    subst (λ status. HasAnswered (auditing side) text status before now faults faults') (sym is)
    (refused_whole side text before now faults faults' number first (whole is))
refused_to_audit side text result before now faults faults' number first (inr (inl is)) whole part none =
    let p = part is in
    subst (λ status. HasAnswered (auditing side) text status before now faults faults') (sym is)
    (audited_part side text (refusal_line number) before now faults faults'
    (inr (record { number = number; refuses = first; line = refl })) p.0 p.1.0 p.1.1)
refused_to_audit side text result before now faults faults' number first (inr (inr is)) whole part none =
    subst (λ status. HasAnswered (auditing side) text status before now faults faults') (sym is)
    (audited_nothing side text before now faults faults' (none is))

-- a verdict with this status was written whole
judged_whole : (side : Option Side) (status : Status) (text line : List ℕ) (before now : Option (List ℕ)) (faults faults' : ℕ)
    → IsJudged side status text line → Appends before now line → HasAnswered (auditing side) text status before now faults faults'
judged_whole side Done text line before now faults faults' is whole = judged_done side text line before now faults faults' is whole
judged_whole side BrokenOff text line before now faults faults' is whole = judged_broken side text line before now faults faults' is whole
judged_whole side Usage text line before now faults faults' is whole = absurd (not_of_a_verdict side Usage tt text line is)
judged_whole side Refused text line before now faults faults' is whole = absurd (not_of_a_verdict side Refused tt text line is)
judged_whole side ReadFault text line before now faults faults' is whole = absurd (not_of_a_verdict side ReadFault tt text line is)
judged_whole side WriteFault text line before now faults faults' is whole = absurd (not_of_a_verdict side WriteFault tt text line is)
judged_whole side DoorFault text line before now faults faults' is whole = absurd (not_of_a_verdict side DoorFault tt text line is)
judged_whole side KeeperFault text line before now faults faults' is whole = absurd (not_of_a_verdict side KeeperFault tt text line is)
judged_whole side NoMemory text line before now faults faults' is whole = absurd (not_of_a_verdict side NoMemory tt text line is)
judged_whole side ConnectionRefused text line before now faults faults' is whole = absurd (not_of_a_verdict side ConnectionRefused tt text line is)
judged_whole side LotsFault text line before now faults faults' is whole = absurd (not_of_a_verdict side LotsFault tt text line is)
judged_whole side TurnsDone text line before now faults faults' is whole = absurd (not_of_a_verdict side TurnsDone tt text line is)

-- a verdict with this status was written, or a first part of it
pub judged : (side : Option Side) (status result : Status) (text line : List ℕ) (before now : Option (List ℕ)) (faults faults' : ℕ)
    → IsJudged side status text line → (result ≡ status) ⊎ (result ≡ WriteFault) → (result ≡ status → Appends before now line)
    → (result ≡ WriteFault → (faults' ≡ one_more faults) × ((n : ℕ) × Appends before now (take n line)))
    → HasAnswered (auditing side) text result before now faults faults'
judged side status result text line before now faults faults' is (inl same) whole part =
    subst (λ status. HasAnswered (auditing side) text status before now faults faults') (sym same)
    (judged_whole side status text line before now faults faults' is (whole same))
judged side status result text line before now faults faults' is (inr fault) whole part =
    let p = part fault in
    subst (λ status. HasAnswered (auditing side) text status before now faults faults') (sym fault)
    (audited_part side text line before now faults faults' (inl (status, is)) p.0 p.1.0 p.1.1)
