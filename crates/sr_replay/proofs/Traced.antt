-- What is told of a run as a trace, and of its first actions.
use Rattle.std.proofs.Common.{◌≡◌, ℕ, true, false, List, [], ◌∷◌, ◌++◌, take, drop, Option, Some, None, refl, sym, ap, ◌∙◌, subst, append_assoc, append-nil}
use Rattle.std.specs.Prelude.{option_map, option_to_list}
use Rattle.std.specs.Io.KnownBytes.{Appends}
use Rattle.hd_facts.specs.Prefixes.{IsPrefix}
use Rattle.hd_delivery.specs.declared.vocabulary.Reason.TheVariants as reason
use Rattle.hd_delivery.specs.declared.vocabulary.Side.{Side}
use Rattle.hd_delivery.specs.declared.vocabulary.Side.TheVariants.{Client, Server}
use Rattle.hd_delivery.specs.Histories as of
use Rattle.hd_delivery.specs.Histories.{EndEvent, Attached, Detached, Fed, Took, Failed, Sent, Lent, Ticked, Silenced, Closed}
use Rattle.hd_delivery.specs.Worlds.{Limits, Terms, config, Event, ByClient, ByServer}
use Rattle.hd_delivery.specs.Bytes.{Wire, ByteStep, Bytes, Does}
use Rattle.hd_delivery.specs.Sides.{history, frames_at}
use Rattle.hd_trace.specs.declared.trace.ToldStep.{ToldStep}
use Rattle.hd_trace.specs.declared.trace.TraceLine.{TraceLine}
use Rattle.hd_trace.specs.Recording.{told_step, line_of, line_at, lines_of}
use Rattle.he_wire.specs.Laws.{HasWire}
use Rattle.he_wire.specs.Wires.{IsHouseWire}
use Rattle.sr_notation.specs.declared.setting.Setting.{Setting}
use Rattle.sr_notation.specs.Terms.{limits_in, peers_in, terms_in}
use Rattle.sr_script.specs.declared.action.Action.{Action}
use Rattle.sr_script.specs.Script.{Program, Parses}
use Rattle.sr_replay.specs.declared.pair.Pair.{Pair}
use Rattle.sr_replay.specs.declared.text_kind.TextKind.{TextKind}
use Rattle.sr_replay.specs.declared.text_kind.TextKind.TheVariants as kinds
use Rattle.sr_replay.specs.Runs.{Makes, Refuses, Run, Runs, world_of}
use Rattle.sr_replay.specs.Laws.{RunsOnce}
use Rattle.sr_replay.specs.Report.{IsReportOver, report_text}
use Rattle.sr_replay.specs.Trace.{head_line, lines_text, setup_in, trace_text, IsTraceOver, IsTrace, IsPartOver, IsPart}
use Rattle.sr_replay.specs.Told.{told_line, step_line, told_text, told_run}
use Rattle.sr_replay.specs.Follows.{Follows}
use Rattle.sr_replay.specs.Replays.{IsBegun, ActsAll}
use Rattle.sr_replay.specs.Records.{IsToldPart}
use Rattle.sr_replay.proofs.Small.{prefix_trans, take_prefix}

-- ---- a run and its first part

-- what was told stays, whatever is told after it
pub run_grows : (kind : TextKind) (wire : Wire) (t : Terms) (made r : Run) → IsPrefix (told_run kind wire t r) (told_run kind wire t (made ++ r))
run_grows kind wire t [] r = ([], append-nil (told_run kind wire t r))
run_grows kind wire t (ByClient d ∷ made) r =
    let line = told_text kind wire (config Client t) (history Client (world_of (made ++ r))) d in
    let k = run_grows kind wire t made r in
    (k.0 ++ line, sym (append_assoc (told_run kind wire t r) k.0 line) ∙ ap (λ x. x ++ line) k.1)
run_grows kind wire t (ByServer d ∷ made) r =
    let line = told_text kind wire (config Server t) (history Server (world_of (made ++ r))) d in
    let k = run_grows kind wire t made r in
    (k.0 ++ line, sym (append_assoc (told_run kind wire t r) k.0 line) ∙ ap (λ x. x ++ line) k.1)

-- the run of some actions begins with that of the first of them
pub runs_before : (limits : Limits) (wire : Wire) (t : Terms) (later before : List Action) (r : Run) → Runs limits wire t (later ++ before) r
    → (q : Run) × (Runs limits wire t before q × ((made : Run) × (r ≡ made ++ q)))
runs_before limits wire t [] before r runs = (r, (runs, ([], refl)))
runs_before limits wire t (a ∷ later) before r runs =
    let k = runs_before limits wire t later before runs.0 runs.2.0 in
    (k.0, (k.1.0, (runs.1 ++ k.1.1.0, runs.2.2 ∙ ap (λ x. runs.1 ++ x) k.1.1.1 ∙ sym (append_assoc runs.1 k.1.1.0 k.0))))

-- ---- its trace

-- how a step is told doesn't depend on the options
same_told : (wire : Wire) (settings : List Setting) (c : of.Config) (k : List EndEvent) (s : ByteStep)
    → told_step (setup_in wire []) c k s ≡ told_step (setup_in wire settings) c k s
same_told wire settings c k (Bytes piece) = refl
same_told wire settings c k (Does (Attached l now)) = refl
same_told wire settings c k (Does (Detached now)) = refl
same_told wire settings c k (Does (Fed piece)) = refl
same_told wire settings c k (Does (Took got)) = refl
same_told wire settings c k (Does (Failed fault)) = refl
same_told wire settings c k (Does (Sent m)) = refl
same_told wire settings c k (Does (Lent f)) = refl
same_told wire settings c k (Does (Ticked now)) = refl
same_told wire settings c k (Does (Silenced now)) = refl
same_told wire settings c k (Does (Closed reason.Done true)) = refl
same_told wire settings c k (Does (Closed reason.Done false)) = refl
same_told wire settings c k (Does (Closed reason.Protocol allow)) = refl
same_told wire settings c k (Does (Closed reason.InUse allow)) = refl
same_told wire settings c k (Does (Closed reason.TooMany allow)) = refl
same_told wire settings c k (Does (Closed reason.Flood allow)) = refl
same_told wire settings c k (Does (Closed reason.Slow allow)) = refl
same_told wire settings c k (Does (Closed reason.Expired allow)) = refl

-- a line more, or none
lines_more : (side : Side) (o : Option ToldStep) (lines : List TraceLine)
    → lines_text lines ++ told_line side o ≡ lines_text (option_to_list (option_map (line_of side) o) ++ lines)
lines_more side None lines = append-nil (lines_text lines)
lines_more side (Some step) lines = refl

-- what is told as a trace are the lines of the world
module _ (wire : Wire) (settings : List Setting) where
  one_line : (side : Side) (w : List (Event ByteStep)) (s : ByteStep) (text : List ℕ) → text ≡ lines_text (lines_of (setup_in wire settings) w)
      → text ++ step_line wire (config side (terms_in settings)) (history side w) s
      ≡ lines_text (option_to_list (line_at (setup_in wire settings) side w s) ++ lines_of (setup_in wire settings) w)
  one_line side w s text is =
      let c = config side (terms_in settings) in
      let k = frames_at wire (terms_in settings) w side in
      let told = told_step (setup_in wire settings) c k s in
      ap (λ o. text ++ told_line side o) (same_told wire settings c k s)
      ∙ ap (λ y. y ++ told_line side told) is
      ∙ lines_more side told (lines_of (setup_in wire settings) w)

  pub told_is_lines : (r : Run) → told_run kinds.Trace wire (terms_in settings) r ≡ lines_text (lines_of (setup_in wire settings) (world_of r))
  told_is_lines [] = refl
  told_is_lines (ByClient (Makes s) ∷ r) = one_line Client (world_of r) s (told_run kinds.Trace wire (terms_in settings) r) (told_is_lines r)
  told_is_lines (ByServer (Makes s) ∷ r) = one_line Server (world_of r) s (told_run kinds.Trace wire (terms_in settings) r) (told_is_lines r)
  told_is_lines (ByClient (Refuses words) ∷ r) = append-nil (told_run kinds.Trace wire (terms_in settings) r) ∙ told_is_lines r
  told_is_lines (ByServer (Refuses words) ∷ r) = append-nil (told_run kinds.Trace wire (terms_in settings) r) ∙ told_is_lines r

-- the text of the lines of a run's world
abbrev lines_in : Wire → List Setting → Run → List ℕ
lines_in wire settings r = lines_text (lines_of (setup_in wire settings) (world_of r))

prefix_after : (xs ys zs : List ℕ) → IsPrefix ys zs → IsPrefix (xs ++ ys) (xs ++ zs)
prefix_after xs ys zs p = (p.0, append_assoc xs ys p.0 ∙ ap (λ x. xs ++ x) p.1)

-- the trace of a longer run begins with the trace of its first part
trace_grows : (wire : Wire) (settings : List Setting) (made r : Run) → IsPrefix (trace_text wire settings (world_of r)) (trace_text wire settings (world_of (made ++ r)))
trace_grows wire settings made r =
    let k = run_grows kinds.Trace wire (terms_in settings) made r in
    prefix_after (head_line settings) (lines_in wire settings r) (lines_in wire settings (made ++ r))
    (k.0, ap (λ x. x ++ k.0) (sym (told_is_lines wire settings r)) ∙ (k.1 ∙ told_is_lines wire settings (made ++ r)))

-- ---- a first part of it

-- what the first actions make is told first of all
part_of_trace : RunsOnce → (wire : Wire) (p : Program) (bytes text : List ℕ) → IsPartOver wire p bytes → IsTraceOver wire p text → IsPrefix bytes text
part_of_trace once wire p bytes text part is =
    let limits = limits_in p.settings in
    let t = terms_in p.settings in
    let whole = is.reported.run in
    let all : Runs limits wire t (part.later ++ part.before) whole = subst (λ actions. Runs limits wire t actions whole) part.actions is.reported.runs.holds in
    let first = runs_before limits wire t part.later part.before whole all in
    let same : first.0 ≡ part.run = once limits wire t part.before first.0 part.run first.1.0 part.runs in
    let made = first.1.1.0 in
    let whole_is : whole ≡ made ++ part.run = first.1.1.1 ∙ ap (λ q. made ++ q) same in
    let front = trace_text wire p.settings (world_of part.run) in
    let text_is : trace_text wire p.settings (world_of (made ++ part.run)) ≡ text = ap (λ q. trace_text wire p.settings (world_of q)) (sym whole_is) ∙ sym is.text_is in
    prefix_trans bytes front text part.part (subst (λ x. IsPrefix front x) text_is (trace_grows wire p.settings made part.run))

pub is_part : HasWire → RunsOnce → (p : Program) (bytes : List ℕ) → ((wire : Wire) → IsHouseWire (limits_in p.settings).frame wire → IsPartOver wire p bytes) → IsPart p bytes
is_part has once p bytes over = record {
  of_actions = over;
  of_trace = λ text is.
      let house = has (limits_in p.settings).frame in
      part_of_trace once house.0 p bytes text (over house.0 house.1) (is house.0 house.1);
}

-- such bytes were put
abbrev pub PutsPartOf : List ℕ → Option (List ℕ) → Option (List ℕ) → Type 0
PutsPartOf script before now = (p : Program) → Parses script p → (bytes : List ℕ) × (IsPart p bytes × Appends before now bytes)

-- they were, if the script is one without peers
abbrev pub PutsPartOfEnds : List ℕ → Option (List ℕ) → Option (List ℕ) → Type 0
PutsPartOfEnds script before now = (p : Program) → Parses script p → peers_in p.settings ≡ false → (bytes : List ℕ) × (IsPart p bytes × Appends before now bytes)

-- a trace is some bytes
pub head_is_some : (p : Program) (bytes : List ℕ) → head_line p.settings ++ bytes ≡ [] → ⊥
head_is_some p bytes e = (let z : ◌≡◌ {A = List ℕ} (116 ∷ drop 1 (head_line p.settings ++ bytes)) [] = e in cc)

-- before an action is done, that is some of the head
head_over : (p : Program) → peers_in p.settings ≡ false → (n : ℕ) (wire : Wire) → IsPartOver wire p (take n (head_line p.settings))
head_over p none n wire =
    let front = take_prefix n (head_line p.settings) in record {
      without = none;
      later = p.actions;
      before = [];
      run = [];
      actions = sym (append-nil p.actions);
      runs = refl;
      part = (front.0, front.1 ∙ sym (append-nil (head_line p.settings)));
    }

pub part_of_head : HasWire → RunsOnce → (p : Program) → peers_in p.settings ≡ false → (n : ℕ) → IsPart p (take n (head_line p.settings))
part_of_head has once p none n = is_part has once p (take n (head_line p.settings)) (λ wire house. head_over p none n wire)

-- or nothing
pub part_of_none : (p : Program) → peers_in p.settings ≡ false → IsPart p []
part_of_none p none = record { of_actions = λ wire house. head_over p none 0 wire; of_trace = λ text is. (text, refl) }

-- later it is what was told after the head
pub part_of_told : HasWire → RunsOnce → (p : Program) → peers_in p.settings ≡ false → (pair : Pair) (bytes : List ℕ) → IsBegun kinds.Trace p pair → IsToldPart pair p bytes → IsPart p (head_line p.settings ++ bytes)
part_of_told has once p none pair bytes begun part = is_part has once p (head_line p.settings ++ bytes) (λ wire house.
    let t = terms_in p.settings in
    let told = part.told kinds.Trace (limits_in p.settings) wire t (begun wire house) in record {
      without = none;
      later = part.later;
      before = part.before;
      run = told.0;
      actions = part.actions;
      runs = told.1.0;
      part = prefix_after (head_line p.settings) bytes (lines_in wire p.settings told.0) (told.1.1.0, told.1.1.1 ∙ told_is_lines wire p.settings told.0);
    })

-- ---- all of it

-- all that two ends told of a script's actions, after the head
pub is_trace : (p : Program) → peers_in p.settings ≡ false → (old new : Pair) (bytes : List ℕ) → IsBegun kinds.Trace p old → ActsAll old p.actions bytes new → new.told.items ≡ []
    → ((wire : Wire) (r : Run) → IsHouseWire (limits_in p.settings).frame wire → Follows kinds.Trace bytes (limits_in p.settings) wire (terms_in p.settings) p.actions r new
    → IsReportOver wire p (report_text (terms_in p.settings) r)) → IsTrace p (head_line p.settings ++ bytes)
is_trace p none old new bytes begun acts empty reports wire house =
    let t = terms_in p.settings in
    let run = acts kinds.Trace (limits_in p.settings) wire t (begun wire house) in
    let over = reports wire run.0 house run.1 in
    let same : run.0 ≡ over.run = over.runs.only run.0 run.1.runs in
    let told : bytes ≡ lines_in wire p.settings run.0 =
    sym (append-nil bytes) ∙ ap (λ x. bytes ++ x) (sym empty) ∙ run.1.told ∙ told_is_lines wire p.settings run.0 in
    record {
      without = none;
      report = report_text t run.0;
      reported = over;
      text_is = ap (λ x. head_line p.settings ++ x) (told ∙ ap (lines_in wire p.settings) same);
    }

-- a program has one trace
pub traces_once : HasWire → (p : Program) (x y : List ℕ) → IsTrace p x → IsTrace p y → x ≡ y
traces_once has p x y e f =
    let house = has (limits_in p.settings).frame in
    let a = e house.0 house.1 in
    let b = f house.0 house.1 in
    a.text_is ∙ ap (λ q. trace_text house.0 p.settings (world_of q)) (b.reported.runs.only a.reported.run a.reported.runs.holds) ∙ sym b.text_is
