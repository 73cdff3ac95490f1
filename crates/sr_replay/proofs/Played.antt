-- What one step of an end makes of what a replay keeps of it.
use Rattle.std.proofs.Common.{◌≡◌, ℕ, Bool, true, false, List, [], ◌∷◌, ◌++◌, length, Option, Some, None, refl, sym, ap, ◌∙◌, subst}
use Rattle.std.specs.Prelude.{slice_get, is_some, option_map, if◌then◌else◌, OnOk, OnErr, Result, Ok, Err}
use Rattle.hm_message.specs.declared.message.Message.{Message}
use Rattle.hd_delivery.specs.declared.vocabulary.Reason.TheVariants.{Done}
use Rattle.hd_delivery.specs.Histories as of
use Rattle.hd_delivery.specs.Histories.{EndEvent, Attached, Detached, Sent, Ticked, Silenced, Closed, present_link, was_on, fed_frames, taken_count, is_closed, is_silence}
use Rattle.hd_delivery.specs.Processes.{processes, reads, next_number, next_frame}
use Rattle.hd_delivery.specs.Worlds.{Limits}
use Rattle.hd_delivery.specs.Bytes.{Wire, ByteStep, Does, bytes_on, in_frames, lent_bytes}
use Rattle.hd_delivery.specs.HistoryLaws.{UnusedIsUntouched}
use Rattle.hd_delivery.specs.AloneLaws.{UnusedIsEmpty}
use Rattle.sr_replay.specs.declared.player.Player.{Player}
use Rattle.sr_replay.specs.Runs.{Makes, steps_of, attaching, losing, closing, ticking}
use Rattle.sr_replay.specs.Plays.{Plays, limits_at}
use Rattle.sr_replay.specs.Follows.{IsPlayed, Tries}
use Rattle.sr_replay.proofs.Small.{both}

-- after this nothing is said, and the end was on no other link
pub record SaysNothing (wire : Wire) (c : of.Config) (h now : List ByteStep) : Type 0 where
  pub lent : (l : ℕ) → lent_bytes wire c l now ≡ lent_bytes wire c l h
  pub names : (l : ℕ) → was_on l (in_frames wire c now) ≡ was_on l (in_frames wire c h)

pub nothing : (wire : Wire) (c : of.Config) (h : List ByteStep) → SaysNothing wire c h h
nothing wire c h = record { lent = λ l. refl; names = λ l. refl }

-- ---- frames that were taken

some_none : {A B : Type 0} (f : A → B) (o : Option A) → option_map f o ≡ None → o ≡ None
some_none f None e = refl
some_none f (Some x) e = absurd (cc)

-- an end that isn't closed and processes nothing has taken every frame of its link
pub took_all : (c : of.Config) (k : List EndEvent) → processes c k ≡ None → (l : ℕ) → present_link k ≡ Some l → is_closed c k ≡ false → slice_get (fed_frames l k) (taken_count l k) ≡ None
took_all c k e l at live =
    some_none (reads c k (next_number c k l)) (slice_get (fed_frames l k) (taken_count l k))
    (ap (next_frame c k) (sym at) ∙ ap (λ b. if b then None else next_frame c k (present_link k)) (sym live) ∙ e)

-- and the other way round
pub processes_none : (c : of.Config) (k : List EndEvent)
    → ((l : ℕ) → present_link k ≡ Some l → is_closed c k ≡ false → slice_get (fed_frames l k) (taken_count l k) ≡ None) → processes c k ≡ None
processes_none c k none = both (λ o. o ≡ None) (is_closed c k) None (next_frame c k (present_link k)) (λ e. refl) (λ e. on_link (present_link k) refl e)
  where
    on_link : (o : Option ℕ) → present_link k ≡ o → is_closed c k ≡ false → next_frame c k o ≡ None
    on_link None at live = refl
    on_link (Some l) at live = ap (option_map (reads c k (next_number c k l))) (none l at live)

-- ---- one step

module _ (limits : Limits) (wire : Wire) (c : of.Config) (p x : Player) (place : ℕ) (h : List ByteStep) (was : IsPlayed limits wire c p place h) (same : limits_at x ≡ limits_at p) where
  still : Plays wire c x h → IsPlayed limits wire c x place h
  still plays = record { plays = plays; keeps = same ∙ was.keeps; took_all = was.took_all; read_to = was.read_to }

  -- an end that is closed, or has no link, reads nothing
  idle : (now : List ByteStep) → Plays wire c x now → ((l : ℕ) → present_link (in_frames wire c now) ≡ Some l → is_closed c (in_frames wire c now) ≡ false → ⊥)
      → IsPlayed limits wire c x place now
  idle now plays apart = record {
    plays = plays;
    keeps = same ∙ was.keeps;
    took_all = λ l at live. absurd (apart l at live);
    read_to = λ l at live. absurd (apart l at live);
  }

  pub closes : Plays wire c x (steps_of (closing c (in_frames wire c h)) ++ h) → IsPlayed limits wire c x place (steps_of (closing c (in_frames wire c h)) ++ h)
  closes = both (λ ds. Plays wire c x (steps_of ds ++ h) → IsPlayed limits wire c x place (steps_of ds ++ h)) (is_closed c (in_frames wire c h)) [] (Makes (Does (Closed Done false)) ∷ [])
      (λ e. still) (λ e plays. idle (Does (Closed Done false) ∷ h) plays (λ l at live. absurd (cc)))

  pub loses : (now : ℕ) → Plays wire c x (steps_of (losing (in_frames wire c h) now) ++ h) → IsPlayed limits wire c x place (steps_of (losing (in_frames wire c h) now) ++ h)
  loses now = both (λ ds. Plays wire c x (steps_of ds ++ h) → IsPlayed limits wire c x place (steps_of ds ++ h)) (is_some (present_link (in_frames wire c h))) (Makes (Does (Detached now)) ∷ []) []
      (λ e plays. idle (Does (Detached now) ∷ h) plays (λ l at live. absurd (cc))) (λ e. still)

  pub ticks : (now : ℕ) → Plays wire c x (steps_of (ticking c (in_frames wire c h) now ∷ []) ++ h) → IsPlayed limits wire c x place (steps_of (ticking c (in_frames wire c h) now ∷ []) ++ h)
  ticks now = both (λ s. Plays wire c x (Does s ∷ h) → IsPlayed limits wire c x place (Does s ∷ h)) (is_silence c now (in_frames wire c h)) (Silenced now) (Ticked now)
      (λ e plays. idle (Does (Silenced now) ∷ h) plays (λ l at live. absurd (cc)))
      (λ e plays. record { plays = plays; keeps = same ∙ was.keeps; took_all = was.took_all; read_to = was.read_to })

  pub sends : (m : Message) → Plays wire c x (Does (Sent m) ∷ h) → IsPlayed limits wire c x place (Does (Sent m) ∷ h)
  sends m plays = record { plays = plays; keeps = same ∙ was.keeps; took_all = was.took_all; read_to = was.read_to }

  pub sends_none : Plays wire c x h → IsPlayed limits wire c x place h
  sends_none = still

  -- a new link begins with nothing read, and nothing to take
  module _ (untouched : UnusedIsUntouched) (empty : UnusedIsEmpty) (link now : ℕ) (new : was_on link (in_frames wire c h) ≡ false) where
    attached : Plays wire c x (Does (Attached link now) ∷ h) → IsPlayed limits wire c x 0 (Does (Attached link now) ∷ h)
    attached plays = record {
      plays = plays;
      keeps = same ∙ was.keeps;
      took_all = λ l at live. let e : link ≡ l = cc in subst (λ l. slice_get (fed_frames l (in_frames wire c h)) (taken_count l (in_frames wire c h)) ≡ None) e
          (ap (λ fs. slice_get fs (taken_count link (in_frames wire c h))) (untouched (in_frames wire c h) link new).fed);
      read_to = λ l at live. let e : link ≡ l = cc in subst (λ l. 0 ≡ length (bytes_on l h)) e (ap length (sym (empty wire c h link new).1));
    }

    pub attaches : (taken : Bool) (after : ℕ) → Tries c (in_frames wire c h) link now taken place after
        → Plays wire c x (steps_of (attaching c (in_frames wire c h) link now ∷ []) ++ h) → IsPlayed limits wire c x after (steps_of (attaching c (in_frames wire c h) link now ∷ []) ++ h)
    attaches true after tried plays =
        let e = tried.0 in
        subst (λ d. IsPlayed limits wire c x after (steps_of (d ∷ []) ++ h)) (sym e)
        (subst (λ n. IsPlayed limits wire c x n (Does (Attached link now) ∷ h)) (sym tried.1) (attached (subst (λ d. Plays wire c x (steps_of (d ∷ []) ++ h)) e plays)))
    attaches false after tried plays =
        let e = tried.1.0 in
        subst (λ d. IsPlayed limits wire c x after (steps_of (d ∷ []) ++ h)) (sym e)
        (subst (λ n. IsPlayed limits wire c x n h) (sym tried.1.1) (still (subst (λ d. Plays wire c x (steps_of (d ∷ []) ++ h)) e plays)))

-- ---- what is said meanwhile

pub closing_says_nothing : (wire : Wire) (c : of.Config) (h : List ByteStep) → SaysNothing wire c h (steps_of (closing c (in_frames wire c h)) ++ h)
closing_says_nothing wire c h = both (λ ds. SaysNothing wire c h (steps_of ds ++ h)) (is_closed c (in_frames wire c h)) [] (Makes (Does (Closed Done false)) ∷ [])
    (λ e. nothing wire c h) (λ e. record { lent = λ l. refl; names = λ l. refl })

pub losing_says_nothing : (wire : Wire) (c : of.Config) (h : List ByteStep) (now : ℕ) → SaysNothing wire c h (steps_of (losing (in_frames wire c h) now) ++ h)
losing_says_nothing wire c h now = both (λ ds. SaysNothing wire c h (steps_of ds ++ h)) (is_some (present_link (in_frames wire c h))) (Makes (Does (Detached now)) ∷ []) []
    (λ e. record { lent = λ l. refl; names = λ l. refl }) (λ e. nothing wire c h)

pub ticking_says_nothing : (wire : Wire) (c : of.Config) (h : List ByteStep) (now : ℕ) → SaysNothing wire c h (steps_of (ticking c (in_frames wire c h) now ∷ []) ++ h)
ticking_says_nothing wire c h now = both (λ s. SaysNothing wire c h (Does s ∷ h)) (is_silence c now (in_frames wire c h)) (Silenced now) (Ticked now)
    (λ e. record { lent = λ l. refl; names = λ l. refl }) (λ e. record { lent = λ l. refl; names = λ l. refl })

-- ---- answers

-- what follows if both hold at Ok
pub on_ok : {A E P Q R : Type 0} (result : Result A E) → (P → Q → R) → OnOk result P → OnOk result Q → OnOk result R
on_ok (Ok a) f p q = f p q
on_ok (Err e) f p q = tt

-- what holds anyway holds at Err
pub on_err : {A E P : Type 0} (result : Result A E) → P → OnErr result P
on_err (Ok a) p = tt
on_err (Err e) p = p
