-- What is recorded of a world, or of one end, tells it; and lines are what is recorded of what they tell.
use Rattle.std.proofs.Common.{inl, inr, ◌≡◌, ℕ, suc, List, [], ◌∷◌, ◌++◌, length, Some, refl, sym, ap, ◌∙◌, subst}
use Rattle.std.specs.Prelude.{◌⊎◌, option_map, option_to_list}
use Rattle.hd_delivery.specs.declared.vocabulary.Reason.TheVariants.{Done}
use Rattle.hd_delivery.specs.declared.vocabulary.Side.{Side}
use Rattle.hd_delivery.specs.declared.vocabulary.Side.TheVariants.{Client, Server}
use Rattle.hd_delivery.specs.Frames.{LinkFrame}
use Rattle.hd_delivery.specs.Histories.{EndEvent, Attached, Detached, Fed, Took, Failed, Sent, Lent, Ticked, Silenced, Closed, Config, codec_of, processed_messages}
use Rattle.hd_delivery.specs.Worlds.{config, Event, ByClient, ByServer}
use Rattle.hd_delivery.specs.Bytes.{ByteStep, Bytes, Does}
use Rattle.hd_delivery.specs.Sides.{by}
use Rattle.hd_trace.specs.declared.trace.ToldStep.{ToldStep}
use Rattle.hd_trace.specs.declared.trace.ToldStep.TheVariants.{Attach, Detach, Feed, Lend, Send, Take, Tick, Close}
use Rattle.hd_trace.specs.declared.trace.TraceLine.{TraceLine}
use Rattle.hd_trace.specs.Traces.{Setup, Tells, clock, steps_of, frames_beside, MayBeside, TellWorld}
use Rattle.hd_trace.specs.Alone.{frames_alone, MayAlone, TellHistory}
use Rattle.hd_trace.specs.Recording.{told_step, line_of, lines_of, CanBeTold, AllCanBeTold, lines_alone, AllCanBeToldAlone}
use Rattle.hd_trace.specs.Laws.{RecordsTell, RecordsTellAlone, ToldIsRecorded, ToldIsRecordedAlone}

-- a step that isn't frames that are fed
abbrev pub IsNoFrames : ByteStep → Type 0
IsNoFrames (Does (Fed piece)) = ⊥
IsNoFrames s = Unit {0}

-- a line tells the step
abbrev pub IsToldBy : Setup → Config → List EndEvent → ℕ → ByteStep → Type 0
IsToldBy x c k now s = (step : ToldStep) × (told_step x c k s ≡ Some step) × Tells x c k now step s

line_of_step : (x : Setup) (c : Config) (k : List EndEvent) (now : ℕ) (s : ByteStep) → IsNoFrames s → CanBeTold now s → IsToldBy x c k now s
line_of_step x c k now (Bytes piece) i t = (Feed piece, refl, refl)
line_of_step x c k now (Does (Attached l at)) i t = (Attach l, refl, ap (λ n. Does (Attached l n)) t)
line_of_step x c k now (Does (Detached at)) i t = (Detach, refl, ap (λ n. Does (Detached n)) t)
line_of_step x c k now (Does (Fed piece)) i t = absurd i
line_of_step x c k now (Does (Took got)) i t = (Take (x.words (suc (length (processed_messages k))) got), refl, (got, (refl, refl)))
line_of_step x c k now (Does (Failed fault)) i t = absurd t
line_of_step x c k now (Does (Sent m)) i t = (Send m, refl, refl)
line_of_step x c k now (Does (Lent f)) i t = (Lend (x.wire.spell (codec_of c k) f), refl, (f, (refl, refl)))
line_of_step x c k now (Does (Ticked at)) i t = (Tick at, refl, (t, inl refl))
line_of_step x c k now (Does (Silenced at)) i t = (Tick at, refl, (t, inr refl))
line_of_step x c k now (Does (Closed reason allow)) i t = (
  Close,
  ap (λ r. told_step x c k (Does (Closed r allow))) t.0 ∙ ap (λ b. told_step x c k (Does (Closed Done b))) t.1,
  ap (λ r. Does (Closed r allow)) t.0 ∙ ap (λ b. Does (Closed Done b)) t.1,
)

-- no rule lets an end be fed frames
no_frames : (May : ByteStep → Type 0) → ((piece : List LinkFrame) → May (Does (Fed piece)) → ⊥) → (s : ByteStep) → May s → IsNoFrames s
no_frames May none (Bytes piece) m = tt
no_frames May none (Does (Fed piece)) m = none piece m
no_frames May none (Does (Attached l now)) m = tt
no_frames May none (Does (Detached now)) m = tt
no_frames May none (Does (Took got)) m = tt
no_frames May none (Does (Failed fault)) m = tt
no_frames May none (Does (Sent msg)) m = tt
no_frames May none (Does (Lent f)) m = tt
no_frames May none (Does (Ticked now)) m = tt
no_frames May none (Does (Silenced now)) m = tt
no_frames May none (Does (Closed reason allow)) m = tt

pub tell : RecordsTell
tell x [] i t = refl
tell x (ByClient s ∷ w) i t =
    let line = line_of_step x (config Client x.terms) (frames_beside x Client w) (clock (steps_of (lines_of x w))) s (no_frames (MayBeside x Client w) (λ piece m. m) s i.1) t.1 in
    subst (λ o. TellWorld x (option_to_list (option_map (line_of Client) o) ++ lines_of x w) (ByClient s ∷ w)) (sym line.1)
    (w, s, (tell x w i.0 t.0, record { tells = line.2; allowed = i.1 }, refl))
tell x (ByServer s ∷ w) i t =
    let line = line_of_step x (config Server x.terms) (frames_beside x Server w) (clock (steps_of (lines_of x w))) s (no_frames (MayBeside x Server w) (λ piece m. m) s i.1) t.1 in
    subst (λ o. TellWorld x (option_to_list (option_map (line_of Server) o) ++ lines_of x w) (ByServer s ∷ w)) (sym line.1)
    (w, s, (tell x w i.0 t.0, record { tells = line.2; allowed = i.1 }, refl))

pub tell_alone : RecordsTellAlone
tell_alone x side [] i n t = refl
tell_alone x side (s ∷ h) i n t =
    let line = line_of_step x (config side x.terms) (frames_alone x side h) (clock (lines_alone x side h)) s (no_frames (MayAlone x side h) (λ piece m. m.0) s (i.1, n.1)) t.1 in
    subst (λ o. TellHistory x side (option_to_list o ++ lines_alone x side h) (s ∷ h)) (sym line.1)
    (h, s, (tell_alone x side h i.0 n.0 t.0, record { tells = line.2; allowed = (i.1, n.1) }, refl))

-- ---- lines are what is recorded

-- what tells the step is this line, and a line can tell it
abbrev pub IsRecordedBy : Setup → Config → List EndEvent → ℕ → ToldStep → ByteStep → Type 0
IsRecordedBy x c k now step s = (told_step x c k s ≡ Some step) × CanBeTold now s

recorded : (x : Setup) (c : Config) (k : List EndEvent) (now : ℕ) (step : ToldStep) (s : ByteStep) → Tells x c k now step s → IsRecordedBy x c k now step s
recorded x c k now (Attach l) s t = subst (IsRecordedBy x c k now (Attach l)) (sym t) (refl, refl)
recorded x c k now Detach s t = subst (IsRecordedBy x c k now Detach) (sym t) (refl, refl)
recorded x c k now (Feed piece) s t = subst (IsRecordedBy x c k now (Feed piece)) (sym t) (refl, tt)
recorded x c k now (Lend bytes) s t = subst (IsRecordedBy x c k now (Lend bytes)) (sym t.1.0) (ap (λ b. Some (Lend b)) t.1.1, tt)
recorded x c k now (Send m) s t = subst (IsRecordedBy x c k now (Send m)) (sym t) (refl, tt)
recorded x c k now (Take words) s t = subst (IsRecordedBy x c k now (Take words)) (sym t.1.0) (ap (λ b. Some (Take b)) t.1.1, tt)
recorded x c k now (Tick later) s t = go t.1
  where
    go : (s ≡ Does (Ticked later)) ⊎ (s ≡ Does (Silenced later)) → IsRecordedBy x c k now (Tick later) s
    go (inl e) = subst (IsRecordedBy x c k now (Tick later)) (sym e) (refl, t.0)
    go (inr e) = subst (IsRecordedBy x c k now (Tick later)) (sym e) (refl, t.0)
recorded x c k now Close s t = subst (IsRecordedBy x c k now Close) (sym t) (refl, (refl, refl))

-- the line of a side, and those before it
with_line : (x : Setup) (side : Side) (v : List (Event ByteStep)) (step : ToldStep) (s : ByteStep) (lines : List TraceLine) → lines ≡ lines_of x v → AllCanBeTold x v
    → IsRecordedBy x (config side x.terms) (frames_beside x side v) (clock (steps_of lines)) step s
    → (line_of side step ∷ lines ≡ lines_of x (by side s ∷ v)) × AllCanBeTold x (by side s ∷ v)
with_line x Client v step s lines e a r = (
  ap (λ ls. line_of Client step ∷ ls) e ∙ ap (λ o. option_to_list (option_map (line_of Client) o) ++ lines_of x v) (sym r.0),
  (a, subst (λ ls. CanBeTold (clock (steps_of ls)) s) e r.1),
)
with_line x Server v step s lines e a r = (
  ap (λ ls. line_of Server step ∷ ls) e ∙ ap (λ o. option_to_list (option_map (line_of Server) o) ++ lines_of x v) (sym r.0),
  (a, subst (λ ls. CanBeTold (clock (steps_of ls)) s) e r.1),
)

pub is_recorded : ToldIsRecorded
is_recorded x [] w t = subst (λ w. ([] ≡ lines_of x w) × AllCanBeTold x w) (sym t) (refl, tt)
is_recorded x (line ∷ lines) w t =
    let before = is_recorded x lines t.0 t.2.0 in
    let here = recorded x (config line.side x.terms) (frames_beside x line.side t.0) (clock (steps_of lines)) line.step t.1 t.2.1.tells in
    subst (λ w. (line ∷ lines ≡ lines_of x w) × AllCanBeTold x w) (sym t.2.2) (with_line x line.side t.0 line.step t.1 lines before.0 before.1 here)

pub is_recorded_alone : ToldIsRecordedAlone
is_recorded_alone x side [] h t = subst (λ h. ([] ≡ lines_alone x side h) × AllCanBeToldAlone x side h) (sym t) (refl, tt)
is_recorded_alone x side (step ∷ steps) h t =
    let before = is_recorded_alone x side steps t.0 t.2.0 in
    let here = recorded x (config side x.terms) (frames_alone x side t.0) (clock steps) step t.1 t.2.1.tells in
    subst (λ h. (step ∷ steps ≡ lines_alone x side h) × AllCanBeToldAlone x side h) (sym t.2.2) (
      ap (λ ls. step ∷ ls) before.0 ∙ ap (λ o. option_to_list o ++ lines_alone x side t.0) (sym here.0),
      (before.1, subst (λ ls. CanBeTold (clock ls) t.1) before.0 here.1),
    )
