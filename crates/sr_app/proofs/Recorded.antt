-- How a recording ends.
use Rattle.std.proofs.Common.{◌≡◌, ◌<◌, ◌≤◌, ℕ, ◌⊎◌, inl, inr, List, [], ◌++◌, length, take, Option, refl, sym, subst, arith}
use Rattle.std.specs.Io.KnownBytes.{Appends}
use Rattle.std.proofs.lemmas.List.{take_all}
use Rattle.hd_facts.specs.Counts.{one_more}
use Rattle.hd_facts.specs.Unique.{IsTheOne}
use Rattle.sr_script.specs.Script.{IsRefusedWithoutPeers, refusal_line}
use Rattle.sr_script.specs.Laws.{LongIsRefusedByItsFrontWithoutPeers}
use Rattle.sr_app.specs.declared.run.Status.{Status}
use Rattle.sr_app.specs.declared.run.Status.TheVariants.{Done, Refused, WriteFault, NoMemory}
use Rattle.sr_app.specs.Run.{HasAnswered, IsRecorded, IsRecordedFront, IsRefusedToRecord, recording}
use Rattle.sr_app.proofs.Told.{appended_nothing}
use Rattle.sr_app.proofs.WholeTexts.{IsOfText, IsOfShort, StaysOfLong, short_stays}

trace_is_short : IsOfShort 16777216 IsRecorded
trace_is_short text answer is = is.script.0.holds.short

front_is_short : IsOfShort 16777216 IsRecordedFront
front_is_short text answer is = is.script.0.holds.short

refusal_stays : LongIsRefusedByItsFrontWithoutPeers → StaysOfLong 16777216 IsRefusedToRecord
refusal_stays law front more answer long is = record { number = is.number; first = law front more is.number long is.first; line = is.line }

part_stays : LongIsRefusedByItsFrontWithoutPeers → StaysOfLong 16777216 recording.part
part_stays law front more answer long (inl is) = inl (short_stays 16777216 IsRecordedFront front_is_short front more answer long is)
part_stays law front more answer long (inr is) = inr (refusal_stays law front more answer long is)

begun_stays : StaysOfLong 16777216 recording.begun
begun_stays front more answer long (inl is) = inl is
begun_stays front more answer long (inr is) = inr (short_stays 16777216 IsRecordedFront front_is_short front more answer long is)

pub recording_is_of_text : LongIsRefusedByItsFrontWithoutPeers → IsOfText 16777216 recording
recording_is_of_text law = record {
  done = trace_is_short;
  refused = refusal_stays law;
  part = part_stays law;
  begun = begun_stays;
  ended = λ status text answer is. absurd is;
  nothing = λ text. (inl refl, refl);
  leaves = λ left is. is;
  reads = λ input left is. is;
}

-- ---- what it answers to its text

pub recorded : (text answer : List ℕ) (before now : Option (List ℕ)) (faults faults' : ℕ) → IsRecorded text answer → Appends before now answer
    → HasAnswered recording text Done before now faults faults'
recorded text answer before now faults faults' is whole = record {
  done = λ done. (answer, is, whole);
  usage = λ other. cc;
  refused = λ other. cc;
  read_fault = λ other. cc;
  write_fault = λ other. cc;
  no_memory = λ other. cc;
  ended = λ outside. absurd outside;
}

-- the output failed after a first part
pub recorded_part : (text front : List ℕ) (before now : Option (List ℕ)) (faults faults' : ℕ) → IsRecordedFront text front → faults' ≡ one_more faults
    → Appends before now front → HasAnswered recording text WriteFault before now faults faults'
recorded_part text front before now faults faults' is rose part = record {
  done = λ other. cc;
  usage = λ other. cc;
  refused = λ other. cc;
  read_fault = λ other. cc;
  write_fault = λ fault. (rose, (front, inl is, (length front, subst (λ (xs : List ℕ). Appends before now xs) (sym (take_all (length front) front (omega arith))) part)));
  no_memory = λ other. cc;
  ended = λ outside. absurd outside;
}

-- memory ran out after one
pub recorded_front : (text front : List ℕ) (before now : Option (List ℕ)) (faults faults' : ℕ) → IsRecordedFront text front → Appends before now front
    → HasAnswered recording text NoMemory before now faults faults'
recorded_front text front before now faults faults' is part = record {
  done = λ other. cc;
  usage = λ other. cc;
  refused = λ other. cc;
  read_fault = λ other. cc;
  write_fault = λ other. cc;
  no_memory = λ out. (front, inr is, part);
  ended = λ outside. absurd outside;
}

-- or before a byte was written
pub recorded_nothing : (text : List ℕ) (before now : Option (List ℕ)) (faults faults' : ℕ) → now ≡ before → HasAnswered recording text NoMemory before now faults faults'
recorded_nothing text before now faults faults' same = record {
  done = λ other. cc;
  usage = λ other. cc;
  refused = λ other. cc;
  read_fault = λ other. cc;
  write_fault = λ other. cc;
  no_memory = λ out. ([], inl refl, subst (λ held. Appends before held []) (sym same) (appended_nothing before));
  ended = λ outside. absurd outside;
}

refused_whole : (text : List ℕ) (before now : Option (List ℕ)) (faults faults' number : ℕ) → IsTheOne (IsRefusedWithoutPeers text) number
    → Appends before now (refusal_line number) → HasAnswered recording text Refused before now faults faults'
refused_whole text before now faults faults' number first whole = record {
  done = λ other. cc;
  usage = λ other. cc;
  refused = λ refused. (refusal_line number, record { number = number; first = first; line = refl }, whole);
  read_fault = λ other. cc;
  write_fault = λ other. cc;
  no_memory = λ other. cc;
  ended = λ outside. absurd outside;
}

refused_part : (text : List ℕ) (before now : Option (List ℕ)) (faults faults' number : ℕ) → IsTheOne (IsRefusedWithoutPeers text) number
    → faults' ≡ one_more faults → (n : ℕ) → Appends before now (take n (refusal_line number)) → HasAnswered recording text WriteFault before now faults faults'
refused_part text before now faults faults' number first rose n part = record {
  done = λ other. cc;
  usage = λ other. cc;
  refused = λ other. cc;
  read_fault = λ other. cc;
  write_fault = λ fault. (rose, (refusal_line number, inr (record { number = number; first = first; line = refl }), (n, part)));
  no_memory = λ other. cc;
  ended = λ outside. absurd outside;
}

-- the text was refused
pub refused_to_record : (text : List ℕ) (result : Status) (before now : Option (List ℕ)) (faults faults' number : ℕ) → IsTheOne (IsRefusedWithoutPeers text) number
    → (result ≡ Refused) ⊎ (result ≡ WriteFault) ⊎ (result ≡ NoMemory) → (result ≡ Refused → Appends before now (refusal_line number))
    → (result ≡ WriteFault → (faults' ≡ one_more faults) × ((n : ℕ) × Appends before now (take n (refusal_line number)))) → (result ≡ NoMemory → now ≡ before)
    → HasAnswered recording text result before now faults faults'
refused_to_record text result before now faults faults' number first (inl is) whole part none =
    subst (λ status. HasAnswered recording text status before now faults faults') (sym is) (refused_whole text before now faults faults' number first (whole is))
refused_to_record text result before now faults faults' number first (inr (inl is)) whole part none =
    let p = part is in
    subst (λ status. HasAnswered recording text status before now faults faults') (sym is) (refused_part text before now faults faults' number first p.0 p.1.0 p.1.1)
refused_to_record text result before now faults faults' number first (inr (inr is)) whole part none =
    subst (λ status. HasAnswered recording text status before now faults faults') (sym is) (recorded_nothing text before now faults faults' (none is))
