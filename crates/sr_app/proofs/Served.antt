-- How serving ends, by what it wrote, heard and asked.
use Rattle.std.proofs.Common.{◌≡◌, ◌⊎◌, ℕ, inl, inr, ⊎_elim, List, [], Option, Result, Ok, Err, refl, sym, subst, ◌∙◌}
use Rattle.std.specs.Io.KnownBytes.{Appends}
use Rattle.hw_door.specs.DoorCalls.{DoorCall}
use Rattle.sr_check.specs.Stream.{IsTouchedByBytesAlone}
use Rattle.sr_words.specs.declared.commands.Command.{Command}
use Rattle.sr_words.specs.declared.commands.Command.TheVariants.{Serve}
use Rattle.sr_words.specs.declared.serving.Serving.{Serving}
use Rattle.sr_serve.specs.declared.serving.ServeError.{ServeError}
use Rattle.sr_serve.specs.declared.serving.ServeError.TheVariants as end
use Rattle.sr_serve.specs.Serving.{serving_line}
use Rattle.sr_serve.specs.Serving as serve
use Rattle.sr_app.specs.declared.run.Status.{Status}
use Rattle.sr_app.specs.declared.run.Status.TheVariants.{WriteFault, DoorFault, KeeperFault, NoMemory}
use Rattle.sr_app.specs.Run.{Ends, EndsServing, input_output, serving, status_of_end}
use Rattle.sr_app.proofs.Told.{bytes_of, appended_nothing, text_is_told}

-- ---- what was written

ends_by : (asked : Serving) (Goes : List DoorCall → Type 0) (b n : serve.Environment) (input : Option (List ℕ)) (faults : ℕ) (result : Result Unit ServeError)
    → serve.Ends asked.base asked.resend asked.live asked.turns Goes b n result
    → Ends serving (status_of_end result) (input_output input faults b.holds b.sink_faults) (input_output input faults n.holds n.sink_faults)
ends_by asked Goes b n input faults (Ok done) ends = record {
  done = λ is. (tt, (bytes_of input, serving_line ends.0.rows, text_is_told input, (ends.0.rows, refl), ends.0.line));
  usage = λ is. cc;
  refused = λ is. cc;
  read_fault = λ is. cc;
  write_fault = λ is. cc;
  no_memory = λ is. cc;
  ended = λ is. absurd is;
  reads = refl;
}
ends_by asked Goes b n input faults (Err end.Door) ends = record {
  done = λ is. cc;
  usage = λ is. cc;
  refused = λ is. cc;
  read_fault = λ is. cc;
  write_fault = λ is. cc;
  no_memory = λ is. cc;
  ended = λ is. (tt, (bytes_of input, serving_line ends.0.rows, text_is_told input, (ends.0.rows, refl), ends.0.line));
  reads = refl;
}
ends_by asked Goes b n input faults (Err end.Keeper) ends = record {
  done = λ is. cc;
  usage = λ is. cc;
  refused = λ is. cc;
  read_fault = λ is. cc;
  write_fault = λ is. cc;
  no_memory = λ is. cc;
  ended = λ is.
      (tt, (bytes_of input, [], text_is_told input, refl, subst (λ held. Appends b.holds held []) (sym ends.0.holds) (appended_nothing b.holds)));
  reads = refl;
}
ends_by asked Goes b n input faults (Err end.Write) ends = record {
  done = λ is. cc;
  usage = λ is. cc;
  refused = λ is. cc;
  read_fault = λ is. cc;
  write_fault = λ is.
      (ends.2, (bytes_of input, serving_line ends.0.rows, text_is_told input, (ends.0.rows, refl), (ends.0.n, ends.0.part)));
  no_memory = λ is. cc;
  ended = λ is. absurd is;
  reads = refl;
}
ends_by asked Goes b n input faults (Err end.NoMemory) (inl (nothing, kept), whole, heard) = record {
  done = λ is. cc;
  usage = λ is. cc;
  refused = λ is. cc;
  read_fault = λ is. cc;
  write_fault = λ is. cc;
  no_memory = λ is.
      (bytes_of input, [], text_is_told input, inl refl, subst (λ held. Appends b.holds held []) (sym nothing.holds) (appended_nothing b.holds));
  ended = λ is. absurd is;
  reads = refl;
}
ends_by asked Goes b n input faults (Err end.NoMemory) (inr some, whole, heard) = record {
  done = λ is. cc;
  usage = λ is. cc;
  refused = λ is. cc;
  read_fault = λ is. cc;
  write_fault = λ is. cc;
  no_memory = λ is. (bytes_of input, serving_line some.rows, text_is_told input, inr (some.rows, refl), some.line);
  ended = λ is. absurd is;
  reads = refl;
}

pub serving_ends : (asked : Serving) (status : Status) (Goes : List DoorCall → Type 0) (b n : serve.Environment) (input : Option (List ℕ)) (faults : ℕ) → EndsServing asked status Goes b n
    → Ends serving status (input_output input faults b.holds b.sink_faults) (input_output input faults n.holds n.sink_faults)
serving_ends asked status Goes b n input faults ends =
    subst (λ s. Ends serving s (input_output input faults b.holds b.sink_faults) (input_output input faults n.holds n.sink_faults)) (sym ends.1)
    (ends_by asked Goes b n input faults ends.0 ends.2)

-- the command asks for one way of serving
pub serving_as : (command : Command) (serving asked : Serving) (status : Status) (Goes : List DoorCall → Type 0) (b n : serve.Environment)
    → command ≡ Serve serving → EndsServing serving status Goes b n → command ≡ Serve asked → EndsServing asked status Goes b n
serving_as command serving asked status Goes b n is ends other =
    let one : ◌≡◌ {A = Command} (Serve serving) (Serve asked) = sym is ∙ other in
    let same : serving ≡ asked = cc in
    subst (λ s. EndsServing s status Goes b n) same ends

-- ---- faults

sink_kept : (asked : Serving) (Goes : List DoorCall → Type 0) (b n : serve.Environment) (result : Result Unit ServeError) → serve.Ends asked.base asked.resend asked.live asked.turns Goes b n result
    → (status_of_end result ≡ WriteFault → ⊥) → n.sink_faults ≡ b.sink_faults
sink_kept asked Goes b n (Ok done) ends differ = ends.1
sink_kept asked Goes b n (Err end.Door) ends differ = ends.1
sink_kept asked Goes b n (Err end.Keeper) ends differ = ends.1
sink_kept asked Goes b n (Err end.Write) ends differ = absurd (differ refl)
sink_kept asked Goes b n (Err end.NoMemory) ends differ = ends.1

door_kept : (asked : Serving) (Goes : List DoorCall → Type 0) (b n : serve.Environment) (result : Result Unit ServeError) → serve.Ends asked.base asked.resend asked.live asked.turns Goes b n result
    → (status_of_end result ≡ DoorFault → ⊥) → n.door_faults ≡ b.door_faults
door_kept asked Goes b n (Ok done) ends differ = ends.2
door_kept asked Goes b n (Err end.Door) ends differ = absurd (differ refl)
door_kept asked Goes b n (Err end.Keeper) ends differ = ends.2
door_kept asked Goes b n (Err end.Write) ends differ = ends.1
door_kept asked Goes b n (Err end.NoMemory) ends differ = ends.2

pub serving_sink_kept : (asked : Serving) (status : Status) (Goes : List DoorCall → Type 0) (b n : serve.Environment) → EndsServing asked status Goes b n
    → (status ≡ WriteFault → ⊥) → n.sink_faults ≡ b.sink_faults
serving_sink_kept asked status Goes b n ends differ = sink_kept asked Goes b n ends.0 ends.2 (λ is. differ (ends.1 ∙ is))

pub serving_door_kept : (asked : Serving) (status : Status) (Goes : List DoorCall → Type 0) (b n : serve.Environment) → EndsServing asked status Goes b n
    → (status ≡ DoorFault → ⊥) → n.door_faults ≡ b.door_faults
serving_door_kept asked status Goes b n ends differ = door_kept asked Goes b n ends.0 ends.2 (λ is. differ (ends.1 ∙ is))

-- ---- the output is touched by bytes alone

line_is_some : (rows : ℕ) → serving_line rows ≡ [] → ⊥
line_is_some rows none = cc

touched_by : {K : Type 0} (holds : K → Option (List ℕ)) (old new : K) (asked : Serving) (Goes : List DoorCall → Type 0) (b n : serve.Environment) (result : Result Unit ServeError)
    → b.holds ≡ holds old → n.holds ≡ holds new → serve.Ends asked.base asked.resend asked.live asked.turns Goes b n result
    → (status_of_end result ≡ KeeperFault → new ≡ old)
    → (status_of_end result ≡ NoMemory → (new ≡ old) ⊎ ((rows : ℕ) × Appends (holds old) (holds new) (serving_line rows)))
    → (status_of_end result ≡ WriteFault → ⊥) → IsTouchedByBytesAlone holds old new
touched_by holds old new asked Goes b n (Ok done) before now ends keeper memory differ =
    inr (serving_line ends.0.rows, line_is_some ends.0.rows, rw (sym before) rw (sym now) ends.0.line)
touched_by holds old new asked Goes b n (Err end.Door) before now ends keeper memory differ =
    inr (serving_line ends.0.rows, line_is_some ends.0.rows, rw (sym before) rw (sym now) ends.0.line)
touched_by holds old new asked Goes b n (Err end.Keeper) before now ends keeper memory differ = inl (keeper refl)
touched_by holds old new asked Goes b n (Err end.Write) before now ends keeper memory differ = absurd (differ refl)
touched_by holds old new asked Goes b n (Err end.NoMemory) before now ends keeper memory differ =
    ⊎_elim (λ same. inl same) (λ some. inr (serving_line some.0, line_is_some some.0, some.1)) (memory refl)

pub serving_touches : {K : Type 0} (holds : K → Option (List ℕ)) (old new : K) (asked : Serving) (status : Status) (Goes : List DoorCall → Type 0) (b n : serve.Environment)
    → b.holds ≡ holds old → n.holds ≡ holds new → EndsServing asked status Goes b n → (status ≡ KeeperFault → new ≡ old)
    → (status ≡ NoMemory → (new ≡ old) ⊎ ((rows : ℕ) × Appends (holds old) (holds new) (serving_line rows)))
    → (status ≡ WriteFault → ⊥) → IsTouchedByBytesAlone holds old new
serving_touches holds old new asked status Goes b n before now ends keeper memory differ =
    touched_by holds old new asked Goes b n ends.0 before now ends.2 (λ is. keeper (ends.1 ∙ is)) (λ is. memory (ends.1 ∙ is)) (λ is. differ (ends.1 ∙ is))
