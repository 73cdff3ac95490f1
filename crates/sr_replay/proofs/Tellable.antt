-- The steps of a script's run can be told by lines: the clock of its lines is that of its actions, and no end meets a fault.
use Rattle.std.proofs.Common.{◌≡◌, ◌≤◌, ℕ, Bool, true, false, List, [], ◌∷◌, ◌++◌, map, Option, Some, None, inl, inr, refl, sym, subst, le_refl}
use Rattle.std.specs.Prelude.{option_map, option_to_list, is_some, not, ◌&&◌, if◌then◌else◌}
use Rattle.hm_message.specs.declared.message.Message.{Message}
use Rattle.hd_delivery.specs.declared.vocabulary.Got.TheVariants as gives
use Rattle.hd_delivery.specs.declared.vocabulary.Why.TheVariants.{Duplicate, Unknown, BeforeSequence, NotUsed}
use Rattle.hd_delivery.specs.declared.vocabulary.Side.{Side}
use Rattle.hd_delivery.specs.declared.vocabulary.Side.TheVariants.{Client, Server}
use Rattle.hd_delivery.specs.Histories as of
use Rattle.hd_delivery.specs.Histories.{EndEvent, Attached, Detached, Fed, Took, Failed, Sent, Lent, Ticked, Silenced, Closed, first_of, present_link, first_link, was_on, is_shaken, is_resumable, is_closed, is_silence}
use Rattle.hd_delivery.specs.Processes.{processes}
use Rattle.hd_delivery.specs.Worlds.{Limits, Terms, config, Event, ByClient, ByServer, client_of, server_of, IsFaultless}
use Rattle.hd_delivery.specs.Bytes.{Wire, ByteStep, Bytes, Does, in_frames}
use Rattle.hd_delivery.specs.Sides.{by, history, frames_at}
use Rattle.hd_delivery.specs.Following.{Follow}
use Rattle.hd_delivery.specs.Alone.{IsOfFrame, writing, feeding, reading, piece_fed}
use Rattle.hd_delivery.specs.AloneLaws.{FramesAreTaken}
use Rattle.hd_trace.specs.declared.trace.TraceLine.{TraceLine}
use Rattle.hd_trace.specs.Traces.{Setup, clock, steps_of}
use Rattle.hd_trace.specs.Recording.{told_step, line_of, lines_of, CanBeTold, AllCanBeTold}
use Rattle.hd_trace.specs.Laws.{LinesTellOneWorld, RecordsTell}
use Rattle.sr_notation.specs.Terms.{limits_in, terms_in}
use Rattle.sr_script.specs.declared.action.Action.{Action}
use Rattle.sr_script.specs.declared.action.Action.TheVariants as action
use Rattle.sr_script.specs.Script.{Program, IsInTurn, AreInTurn, opened, moment_after}
use Rattle.sr_replay.specs.Runs.{Doing, Makes, Refuses, Run, Runs, Acts, Sending, world_of, attaching, losing, closing, made_by}
use Rattle.sr_replay.specs.Trace.{setup_in, IsTraceOver, IsTold}
use Rattle.sr_replay.proofs.Small.{both}
use Rattle.sr_replay.proofs.Doings.{made_is}
use Rattle.sr_replay.proofs.Written.{AreLent, are_lent, follow_of}

-- ---- one step

-- as far as moments and closes go, a line can tell the step
abbrev pub MayBeTold : ℕ → ByteStep → Type 0
MayBeTold last (Does (Failed fault)) = Unit {0}
MayBeTold last s = CanBeTold last s

-- it is so, and no tick
abbrev pub IsQuiet : ℕ → ByteStep → Type 0
IsQuiet last (Does (Ticked now)) = ⊥
IsQuiet last (Does (Silenced now)) = ⊥
IsQuiet last s = MayBeTold last s

quiet_may : (last : ℕ) (s : ByteStep) → IsQuiet last s → MayBeTold last s
quiet_may last (Bytes piece) q = q
quiet_may last (Does (Attached l now)) q = q
quiet_may last (Does (Detached now)) q = q
quiet_may last (Does (Fed piece)) q = q
quiet_may last (Does (Took got)) q = q
quiet_may last (Does (Failed fault)) q = q
quiet_may last (Does (Sent m)) q = q
quiet_may last (Does (Lent f)) q = q
quiet_may last (Does (Ticked now)) q = absurd q
quiet_may last (Does (Silenced now)) q = absurd q
quiet_may last (Does (Closed reason allow)) q = q

-- the line of such a step, if it has one, moves no clock
quiet_clock : (x : Setup) (side : Side) (c : of.Config) (k : List EndEvent) (last : ℕ) (s : ByteStep) (lines : List TraceLine) → IsQuiet last s → clock (steps_of lines) ≡ last
    → clock (steps_of (option_to_list (option_map (line_of side) (told_step x c k s)) ++ lines)) ≡ last
quiet_clock x side c k last (Bytes piece) lines q e = e
quiet_clock x side c k last (Does (Attached l now)) lines q e = e
quiet_clock x side c k last (Does (Detached now)) lines q e = e
quiet_clock x side c k last (Does (Fed piece)) lines q e = e
quiet_clock x side c k last (Does (Took got)) lines q e = e
quiet_clock x side c k last (Does (Failed fault)) lines q e = e
quiet_clock x side c k last (Does (Sent m)) lines q e = e
quiet_clock x side c k last (Does (Lent f)) lines q e = e
quiet_clock x side c k last (Does (Ticked now)) lines q e = absurd q
quiet_clock x side c k last (Does (Silenced now)) lines q e = absurd q
quiet_clock x side c k last (Does (Closed why allow)) lines q e = rw (q.0, q.1) e

-- ---- a world

module _ (x : Setup) where
  abbrev pub AllMayBeTold : List (Event ByteStep) → Type 0
  AllMayBeTold [] = Unit {0}
  AllMayBeTold (ByClient s ∷ w) = AllMayBeTold w × MayBeTold (clock (steps_of (lines_of x w))) s
  AllMayBeTold (ByServer s ∷ w) = AllMayBeTold w × MayBeTold (clock (steps_of (lines_of x w))) s

  -- so it is of each step, and the last tick came at this moment
  pub record IsOnClock (last : ℕ) (w : List (Event ByteStep)) : Type 0 where
    pub told : AllMayBeTold w
    pub now : clock (steps_of (lines_of x w)) ≡ last

  one_more : (last : ℕ) (side : Side) (s : ByteStep) (w : List (Event ByteStep)) → IsOnClock last w → IsQuiet last s → IsOnClock last (by side s ∷ w)
  one_more last Client s w i q = record {
    told = (i.told, subst (λ n. MayBeTold n s) (sym i.now) (quiet_may last s q));
    now = quiet_clock x Client (config Client x.terms) (frames_at x.wire x.terms w Client) last s (lines_of x w) q i.now;
  }
  one_more last Server s w i q = record {
    told = (i.told, subst (λ n. MayBeTold n s) (sym i.now) (quiet_may last s q));
    now = quiet_clock x Server (config Server x.terms) (frames_at x.wire x.terms w Server) last s (lines_of x w) q i.now;
  }

  one_tick : (last now : ℕ) (c : of.Config) (k : List EndEvent) (w : List (Event ByteStep)) → last ≤ now → IsOnClock last w
      → IsOnClock now (ByClient (Does (if is_silence c now k then Silenced now else Ticked now)) ∷ w)
      × IsOnClock now (ByServer (Does (if is_silence c now k then Silenced now else Ticked now)) ∷ w)
  one_tick last now c k w late i =
      let after : clock (steps_of (lines_of x w)) ≤ now = subst (λ n. n ≤ now) (sym i.now) late in (
        both (λ s. IsOnClock now (ByClient (Does s) ∷ w)) (is_silence c now k) (Silenced now) (Ticked now)
            (λ e. record { told = (i.told, after); now = refl }) (λ e. record { told = (i.told, after); now = refl }),
        both (λ s. IsOnClock now (ByServer (Does s) ∷ w)) (is_silence c now k) (Silenced now) (Ticked now)
            (λ e. record { told = (i.told, after); now = refl }) (λ e. record { told = (i.told, after); now = refl }),
      )

-- ---- what an end did

abbrev pub AllQuiet : ℕ → List Doing → Type 0
AllQuiet last [] = Unit {0}
AllQuiet last (Makes s ∷ ds) = AllQuiet last ds × IsQuiet last s
AllQuiet last (Refuses words ∷ ds) = AllQuiet last ds

all_more : (x : Setup) (last : ℕ) (side : Side) (ds : List Doing) (r : Run) → IsOnClock x last (world_of r) → AllQuiet last ds → IsOnClock x last (world_of (map (by side) ds ++ r))
all_more x last side [] r i q = i
all_more x last Client (Makes s ∷ ds) r i q = one_more x last Client s (world_of (map (by Client) ds ++ r)) (all_more x last Client ds r i q.0) q.1
all_more x last Server (Makes s ∷ ds) r i q = one_more x last Server s (world_of (map (by Server) ds ++ r)) (all_more x last Server ds r i q.0) q.1
all_more x last Client (Refuses words ∷ ds) r i q = all_more x last Client ds r i q
all_more x last Server (Refuses words ∷ ds) r i q = all_more x last Server ds r i q

attach_is_quiet : (c : of.Config) (k : List EndEvent) (link last : ℕ) → AllQuiet last (attaching c k link last ∷ [])
attach_is_quiet c k link last = both (λ d. AllQuiet last (d ∷ [])) (is_closed c k) _ _ (λ e. tt)
    (λ e. both (λ d. AllQuiet last (d ∷ [])) (is_some (first_link k) && not (is_resumable c k)) _ _ (λ f. tt) (λ f. (tt, refl)))

loss_is_quiet : (k : List EndEvent) (last : ℕ) → AllQuiet last (losing k last)
loss_is_quiet k last = both (AllQuiet last) (is_some (present_link k)) _ _ (λ e. (tt, refl)) (λ e. tt)

close_is_quiet : (c : of.Config) (k : List EndEvent) (last : ℕ) → AllQuiet last (closing c k)
close_is_quiet c k last = both (AllQuiet last) (is_closed c k) _ _ (λ e. tt) (λ e. (tt, (refl, refl)))

send_is_quiet : (limits : Limits) (wire : Wire) (c : of.Config) (k : List EndEvent) (m : Message) (d : Doing) (last : ℕ) → Sending limits wire c k m d → AllQuiet last (d ∷ [])
send_is_quiet limits wire c k m d last (inl p) = subst (λ d. AllQuiet last (d ∷ [])) (sym p.1) (tt, tt)
send_is_quiet limits wire c k m d last (inr p) = subst (λ d. AllQuiet last (d ∷ [])) (sym p.1.1) tt

lent_is_quiet : (last : ℕ) (ss : List ByteStep) → AreLent ss → AllQuiet last (map Makes ss)
lent_is_quiet last [] a = tt
lent_is_quiet last (Does (Lent f) ∷ ss) a = (lent_is_quiet last ss a, tt)
lent_is_quiet last (s ∷ ss) a = absurd a

frame_is_quiet : (shaken : Bool) (u : EndEvent) (last : ℕ) → IsOfFrame shaken u → IsQuiet last (Does u)
frame_is_quiet shaken (Took got) last is = tt
frame_is_quiet shaken (Failed fault) last is = tt
frame_is_quiet shaken u last is = absurd is

piece_is_quiet : (piece : List ℕ) (s : ByteStep) (last : ℕ) → piece_fed piece ≡ Some s → IsQuiet last s
piece_is_quiet [] s last e = absurd (cc)
piece_is_quiet (b ∷ piece) s last e = let is : Bytes (b ∷ piece) ≡ s = cc in subst (IsQuiet last) is tt

module _ (taken : FramesAreTaken) (limits : Limits) (wire : Wire) (c : of.Config) (all : List ℕ) (last : ℕ) where
  read_is_quiet : (h : List ByteStep) (s : ByteStep) → reading limits wire c all h ≡ Some s → IsQuiet last s
  read_is_quiet h s e = go (processes c (in_frames wire c h)) refl e
    where
      feeds : (o : Option ℕ) → feeding limits wire c all h o ≡ Some s → IsQuiet last s
      feeds None f = absurd (cc)
      feeds (Some l) f = piece_is_quiet _ s last f

      open_end : (b : Bool) → (if b then None else feeding limits wire c all h (present_link (in_frames wire c h))) ≡ Some s → IsQuiet last s
      open_end true f = absurd (cc)
      open_end false f = feeds (present_link (in_frames wire c h)) f

      go : (o : Option EndEvent) → processes c (in_frames wire c h) ≡ o
          → first_of (option_map Does o) (if is_closed c (in_frames wire c h) then None else feeding limits wire c all h (present_link (in_frames wire c h))) ≡ Some s → IsQuiet last s
      go None p f = open_end (is_closed c (in_frames wire c h)) f
      go (Some u) p f = let is : Does u ≡ s = cc in subst (IsQuiet last) is (frame_is_quiet (is_shaken (in_frames wire c h)) u last (taken c (in_frames wire c h) u p))

  reads_are_quiet : (h ss : List ByteStep) → Follow (reading limits wire c all) h ss → AllQuiet last (map Makes ss)
  reads_are_quiet h [] f = tt
  reads_are_quiet h (s ∷ ss) f = (reads_are_quiet h ss f.0, read_is_quiet (ss ++ h) s f.1)

-- ---- a run

module _ (taken : FramesAreTaken) (x : Setup) (limits : Limits) (wire : Wire) (t : Terms) where
  made_more : (last : ℕ) (side : Side) (ss : List ByteStep) (r : Run) → IsOnClock x last (world_of r) → AllQuiet last (map Makes ss)
      → IsOnClock x last (world_of (made_by side ss ++ r))
  made_more last side ss r i q = subst (λ n. IsOnClock x last (world_of (n ++ r))) (sym (made_is side ss)) (all_more x last side (map Makes ss) r i q)

  acts : (before : List Action) (r : Run) (a : Action) (new : Run) → IsOnClock x (moment_after before) (world_of r) → IsInTurn before a → Acts limits wire t before r a new
      → IsOnClock x (moment_after (a ∷ before)) (world_of (new ++ r))
  acts before r action.Open new i turn e = subst (λ n. IsOnClock x (moment_after before) (world_of (n ++ r))) (sym e)
      (let d = attaching (config Client t) (frames_at wire t (world_of r) Client) (opened before) (moment_after before) in
      all_more x (moment_after before) Client (d ∷ []) r i (attach_is_quiet (config Client t) (frames_at wire t (world_of r) Client) (opened before) (moment_after before)))
  acts before r (action.Accept link) new i turn e = subst (λ n. IsOnClock x (moment_after before) (world_of (n ++ r))) (sym e)
      (both (λ n. IsOnClock x (moment_after before) (world_of (n ++ r))) (was_on link (frames_at wire t (world_of r) Client)) _ _
      (λ on. let d = attaching (config Server t) (frames_at wire t (world_of r) Server) link (moment_after before) in
      all_more x (moment_after before) Server (d ∷ []) r i (attach_is_quiet (config Server t) (frames_at wire t (world_of r) Server) link (moment_after before)))
      (λ off. i))
  acts before r (action.Lose side) new i turn e = subst (λ n. IsOnClock x (moment_after before) (world_of (n ++ r))) (sym e)
      (all_more x (moment_after before) side (losing (frames_at wire t (world_of r) side) (moment_after before)) r i (loss_is_quiet (frames_at wire t (world_of r) side) (moment_after before)))
  acts before r (action.Write side count) new i turn e = subst (λ n. IsOnClock x (moment_after before) (world_of (n ++ r))) (sym e.1.1)
      (made_more (moment_after before) side e.0 r i (lent_is_quiet (moment_after before) e.0
      (are_lent wire (config side t) (history side (world_of r)) e.0 (follow_of count (writing wire (config side t)) (history side (world_of r)) e.0 e.1.0))))
  acts before r (action.Read side count) new i turn e = subst (λ n. IsOnClock x (moment_after before) (world_of (n ++ r))) (sym e.1.1)
      (made_more (moment_after before) side e.0 r i (reads_are_quiet taken limits wire (config side t) _ (moment_after before) (history side (world_of r)) e.0 e.1.0.0))
  acts before r (action.Close side) new i turn e = subst (λ n. IsOnClock x (moment_after before) (world_of (n ++ r))) (sym e)
      (all_more x (moment_after before) side (closing (config side t) (frames_at wire t (world_of r) side)) r i (close_is_quiet (config side t) (frames_at wire t (world_of r) side) (moment_after before)))
  acts before r (action.Send Client m) new i turn e = subst (λ n. IsOnClock x (moment_after before) (world_of (n ++ r))) (sym e.1.1)
      (all_more x (moment_after before) Client (e.0 ∷ []) r i (send_is_quiet limits wire (config Client t) (frames_at wire t (world_of r) Client) m e.0 (moment_after before) e.1.0))
  acts before r (action.Send Server m) new i turn e = subst (λ n. IsOnClock x (moment_after before) (world_of (n ++ r))) (sym e.1.1)
      (all_more x (moment_after before) Server (e.0 ∷ []) r i (send_is_quiet limits wire (config Server t) (frames_at wire t (world_of r) Server) m e.0 (moment_after before) e.1.0))
  acts before r (action.Tick now) new i turn e = subst (λ n. IsOnClock x now (world_of (n ++ r))) (sym e)
      (let first = (one_tick x (moment_after before) now (config Client t) (frames_at wire t (world_of r) Client) (world_of r) turn i).0 in
      (one_tick x now now (config Server t) (frames_at wire t (world_of r) Server) (ByClient (Does (if is_silence (config Client t) now (frames_at wire t (world_of r) Client) then Silenced now else Ticked now)) ∷ world_of r)
      (le_refl now) first).1)
  acts before r _ new i turn e = absurd e

  on_clock : (actions : List Action) (r : Run) → AreInTurn actions → Runs limits wire t actions r → IsOnClock x (moment_after actions) (world_of r)
  on_clock [] r turns e = subst (λ r. IsOnClock x 0 (world_of r)) (sym e) (record { told = tt; now = refl })
  on_clock (a ∷ before) r turns e = subst (λ r. IsOnClock x (moment_after (a ∷ before)) (world_of r)) (sym e.2.2)
      (acts before e.0 a e.1 (on_clock before e.0 turns.0 e.2.0) turns.1 e.2.1)

-- ---- faults

-- before the last step there was no fault either
earlier : (s : EndEvent) (k : List EndEvent) → IsFaultless (s ∷ k) → IsFaultless k
earlier (Attached l now) k f = f
earlier (Detached now) k f = f
earlier (Fed piece) k f = f
earlier (Took (gives.Shaken codec version)) k f = f
earlier (Took (gives.Message m)) k f = f
earlier (Took (gives.Acked upto)) k f = f
earlier (Took (gives.Sequenced first)) k f = f
earlier (Took (gives.Resumed first received)) k f = f
earlier (Took gives.Ping) k f = f
earlier (Took (gives.Skipped (Duplicate n))) k f = f
earlier (Took (gives.Skipped (Unknown n))) k f = absurd f
earlier (Took (gives.Skipped BeforeSequence)) k f = absurd f
earlier (Took (gives.Skipped NotUsed)) k f = absurd f
earlier (Took (gives.Closed error allow)) k f = f
earlier (Failed fault) k f = absurd f
earlier (Sent m) k f = f
earlier (Lent f) k g = g
earlier (Ticked now) k f = f
earlier (Silenced now) k f = f
earlier (Closed reason allow) k f = f

-- a step that is no fault can be told, if moments and closes allow it
no_fault : (wire : Wire) (c : of.Config) (h : List ByteStep) (s : ByteStep) (last : ℕ) → IsFaultless (in_frames wire c (s ∷ h))
    → IsFaultless (in_frames wire c h) × (MayBeTold last s → CanBeTold last s)
no_fault wire c h (Bytes piece) last f = (f, λ may. may)
no_fault wire c h (Does (Attached l now)) last f = (f, λ may. may)
no_fault wire c h (Does (Detached now)) last f = (f, λ may. may)
no_fault wire c h (Does (Fed piece)) last f = (f, λ may. may)
no_fault wire c h (Does (Took got)) last f = (earlier (Took got) (in_frames wire c h) f, λ may. may)
no_fault wire c h (Does (Failed fault)) last f = absurd f
no_fault wire c h (Does (Sent m)) last f = (f, λ may. may)
no_fault wire c h (Does (Lent frame)) last f = (f, λ may. may)
no_fault wire c h (Does (Ticked now)) last f = (f, λ may. may)
no_fault wire c h (Does (Silenced now)) last f = (f, λ may. may)
no_fault wire c h (Does (Closed reason allow)) last f = (f, λ may. may)

module _ (x : Setup) where
  -- so it is in a world in which no end met a fault
  all_can : (w : List (Event ByteStep)) → IsFaultless (in_frames x.wire (config Client x.terms) (client_of w))
      → IsFaultless (in_frames x.wire (config Server x.terms) (server_of w)) → AllMayBeTold x w → AllCanBeTold x w
  all_can [] client server may = tt
  all_can (ByClient s ∷ w) client server may =
      let one = no_fault x.wire (config Client x.terms) (client_of w) s (clock (steps_of (lines_of x w))) client in
      (all_can w one.0 server may.0, one.1 may.1)
  all_can (ByServer s ∷ w) client server may =
      let one = no_fault x.wire (config Server x.terms) (server_of w) s (clock (steps_of (lines_of x w))) server in
      (all_can w client one.0 may.0, one.1 may.1)

-- ---- the trace of a script

pub traces_tell : FramesAreTaken → LinesTellOneWorld → RecordsTell → (p : Program) (text : List ℕ) (wire : Wire) → AreInTurn p.actions → IsTraceOver wire p text → IsTold wire p text
traces_tell taken once records p text wire turns is =
    let x = setup_in wire p.settings in
    let w = world_of is.reported.run in
    let clocked = on_clock taken x (limits_in p.settings) wire (terms_in p.settings) p.actions is.reported.run turns is.reported.runs.holds in
    let can = all_can x w is.reported.delivers.holds.client_faultless is.reported.delivers.holds.server_faultless clocked.told in
    let tell = records x w is.reported.world can in record {
      run = is.reported.run;
      runs = is.reported.runs;
      lines = lines_of x w;
      tell = record { holds = tell; only = λ other told. once x (lines_of x w) other w told tell };
      text_is = is.text_is;
    }
