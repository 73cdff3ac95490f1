-- How adding a user ends, by what the keeper answered and what was written.
use Rattle.std.proofs.Common.{◌≡◌, ◌∙◌, ◌⊎◌, ℕ, inl, inr, Bool, true, false, if◌then◌else◌, List, [], take, Option, option_map, Ok, Err, refl, sym, subst}
use Rattle.std.specs.Io.KnownBytes.{Appends}
use Rattle.hd_facts.specs.Counts.{one_more}
use Rattle.hd_rooms.specs.Kept.{Content, with_user}
use Rattle.hk_keeper.specs.declared.keeper.KeepError.{KeepError}
use Rattle.hk_keeper.specs.declared.keeper.KeepError.TheVariants as keep
use Rattle.sr_words.specs.declared.adding.Adding.{Adding}
use Rattle.sr_words.specs.declared.commands.Command.{Command}
use Rattle.sr_words.specs.declared.commands.Command.TheVariants.{User}
use Rattle.sr_app.specs.declared.run.Status.{Status}
use Rattle.sr_app.specs.declared.run.Status.TheVariants.{Done, Usage, Refused, ReadFault, WriteFault, DoorFault, KeeperFault, NoMemory, ConnectionRefused, LotsFault, TurnsDone, BrokenOff}
use Rattle.sr_app.specs.Run.{AddEnvironment, Ends, EndsAdding, IsAskedToAdd, IsUnwritten, adding, adding_line, input_output, kept_with, status_of_keeper}
use Rattle.sr_app.proofs.Told.{bytes_of, appended_nothing, text_is_told}

-- what is kept after an answer, as the keeper says it
pub kept_by : (asked : Adding) (is_new : Bool) (before now : Option Content)
    → now ≡ (if is_new then option_map (with_user asked.token asked.name) before else before) → now ≡ kept_with asked (Ok is_new) before
kept_by asked true before now is = is
kept_by asked false before now is = is

-- the line of an answer was written, or a first part of it
pub told : (asked : Adding) (is_new : Bool) (line : List ℕ) (status : Status) (b n : AddEnvironment) → IsAskedToAdd asked (Ok is_new) b n → line ≡ adding_line is_new
    → (status ≡ Done) ⊎ (status ≡ WriteFault) → (status ≡ Done → Appends b.holds n.holds line)
    → (status ≡ WriteFault → (n.sink_faults ≡ one_more b.sink_faults) × ((count : ℕ) × Appends b.holds n.holds (take count line)))
    → ((status ≡ WriteFault → ⊥) → n.sink_faults ≡ b.sink_faults) → EndsAdding asked status b n
told asked is_new line status b n asks line_is (inl is) whole part unfailed =
    let kept : n.sink_faults ≡ b.sink_faults = unfailed (λ fault. let both : ◌≡◌ {A = Status} Done WriteFault = sym is ∙ fault in cc) in
    let wrote : Appends b.holds n.holds (adding_line is_new) = subst (λ written. Appends b.holds n.holds written) line_is (whole is) in
    subst (λ s. EndsAdding asked s b n) (sym is) (is_new, asks, wrote, kept)
told asked is_new line status b n asks line_is (inr is) whole part unfailed =
    let wrote : (count : ℕ) × Appends b.holds n.holds (take count (adding_line is_new)) =
    ((part is).1.0, subst (λ written. Appends b.holds n.holds (take (part is).1.0 written)) line_is (part is).1.1) in
    subst (λ s. EndsAdding asked s b n) (sym is) (is_new, asks, wrote, (part is).0)

-- the keeper failed, or memory was out
pub failed : (asked : Adding) (error : KeepError) (status : Status) (b n : AddEnvironment) → IsAskedToAdd asked (Err error) b n → IsUnwritten b n
    → status ≡ status_of_keeper error → EndsAdding asked status b n
failed asked keep.Failed status b n asks unwritten is = subst (λ s. EndsAdding asked s b n) (sym is) (asks, unwritten)
failed asked keep.NoMemory status b n asks unwritten is = subst (λ s. EndsAdding asked s b n) (sym is) (asks, unwritten)

-- it reads nothing, so no fault of the input ends it
pub not_by_reading : (asked : Adding) (status : Status) (b n : AddEnvironment) → EndsAdding asked status b n → status ≡ ReadFault → ⊥
not_by_reading asked status b n ends is = subst (λ s. EndsAdding asked s b n) is ends

-- ---- what was written

pub adding_ends : (asked : Adding) (status : Status) (b n : AddEnvironment) (input : Option (List ℕ)) (faults : ℕ) → EndsAdding asked status b n
    → Ends adding status (input_output input faults b.holds b.sink_faults) (input_output input faults n.holds n.sink_faults)
adding_ends asked Done b n input faults ends = record {
  done = λ is. (tt, (bytes_of input, adding_line ends.0, text_is_told input, (ends.0, refl), ends.2));
  usage = λ is. cc;
  refused = λ is. cc;
  read_fault = λ is. cc;
  write_fault = λ is. cc;
  no_memory = λ is. cc;
  ended = λ is. absurd is;
  reads = refl;
}
adding_ends asked WriteFault b n input faults ends = record {
  done = λ is. cc;
  usage = λ is. cc;
  refused = λ is. cc;
  read_fault = λ is. cc;
  write_fault = λ is. (ends.3, (bytes_of input, adding_line ends.0, text_is_told input, (ends.0, refl), ends.2));
  no_memory = λ is. cc;
  ended = λ is. absurd is;
  reads = refl;
}
adding_ends asked KeeperFault b n input faults ends = record {
  done = λ is. cc;
  usage = λ is. cc;
  refused = λ is. cc;
  read_fault = λ is. cc;
  write_fault = λ is. cc;
  no_memory = λ is. cc;
  ended = λ is.
      (tt, (bytes_of input, [], text_is_told input, refl, subst (λ held. Appends b.holds held []) (sym ends.1.0) (appended_nothing b.holds)));
  reads = refl;
}
adding_ends asked NoMemory b n input faults ends = record {
  done = λ is. cc;
  usage = λ is. cc;
  refused = λ is. cc;
  read_fault = λ is. cc;
  write_fault = λ is. cc;
  no_memory = λ is. (bytes_of input, [], text_is_told input, refl, subst (λ held. Appends b.holds held []) (sym ends.1.0) (appended_nothing b.holds));
  ended = λ is. absurd is;
  reads = refl;
}
adding_ends asked Usage b n input faults ends = absurd ends
adding_ends asked Refused b n input faults ends = absurd ends
adding_ends asked ReadFault b n input faults ends = absurd ends
adding_ends asked DoorFault b n input faults ends = absurd ends
adding_ends asked ConnectionRefused b n input faults ends = absurd ends
adding_ends asked LotsFault b n input faults ends = absurd ends
adding_ends asked TurnsDone b n input faults ends = absurd ends
adding_ends asked BrokenOff b n input faults ends = absurd ends

-- the command asks for one user
pub adding_as : (command : Command) (own asked : Adding) (status : Status) (b n : AddEnvironment)
    → command ≡ User own → EndsAdding own status b n → command ≡ User asked → EndsAdding asked status b n
adding_as command own asked status b n is ends other =
    let one : ◌≡◌ {A = Command} (User own) (User asked) = sym is ∙ other in
    let same : own ≡ asked = cc in
    subst (λ s. EndsAdding s status b n) same ends

-- ---- faults

pub adding_sink_kept : (asked : Adding) (status : Status) (b n : AddEnvironment) → EndsAdding asked status b n
    → (status ≡ WriteFault → ⊥) → n.sink_faults ≡ b.sink_faults
adding_sink_kept asked Done b n ends differ = ends.3
adding_sink_kept asked WriteFault b n ends differ = absurd (differ refl)
adding_sink_kept asked KeeperFault b n ends differ = ends.1.1
adding_sink_kept asked NoMemory b n ends differ = ends.1.1
adding_sink_kept asked Usage b n ends differ = absurd ends
adding_sink_kept asked Refused b n ends differ = absurd ends
adding_sink_kept asked ReadFault b n ends differ = absurd ends
adding_sink_kept asked DoorFault b n ends differ = absurd ends
adding_sink_kept asked ConnectionRefused b n ends differ = absurd ends
adding_sink_kept asked LotsFault b n ends differ = absurd ends
adding_sink_kept asked TurnsDone b n ends differ = absurd ends
adding_sink_kept asked BrokenOff b n ends differ = absurd ends
