-- What each line leaves as it should be: the clock, the moments of its end, and that there was no fault.
use Rattle.std.proofs.Common.{inl, inr, ◌≡◌, ◌≤◌, ℕ, max, List, ◌∷◌, sym, subst, arith}
use Rattle.std.specs.Prelude.{◌⊎◌}
use Rattle.hd_delivery.specs.Histories.{EndEvent, Ticked, Silenced, Config, moment}
use Rattle.hd_delivery.specs.Worlds.{moment_of}
use Rattle.hd_delivery.specs.Bytes.{ByteStep, Does, in_frames}
use Rattle.hd_trace.specs.declared.trace.ToldStep.{ToldStep}
use Rattle.hd_trace.specs.declared.trace.ToldStep.TheVariants.{Attach, Detach, Feed, Lend, Send, Take, Tick, Close}
use Rattle.hd_trace.specs.Traces.{Setup, clock_after, Tells}
use Rattle.hd_trace.specs.Laws.{HasNoFault, bare_step}

pub stays : (n : ℕ) → n ≤ n
stays n = omega arith

no_later : (now last : ℕ) → last ≤ now → max now last ≤ now
no_later now last low = omega arith

rises : (later now last : ℕ) → last ≤ now → now ≤ later → max later last ≤ later
rises later now last low less = omega arith

module _ (x : Setup) (c : Config) (h : List ByteStep) (now : ℕ) where
  pub clock_rises : (step : ToldStep) (s : ByteStep) → Tells x c (in_frames x.wire c h) now step s → now ≤ clock_after step now
  clock_rises (Attach l) s t = stays now
  clock_rises Detach s t = stays now
  clock_rises (Feed piece) s t = stays now
  clock_rises (Lend bytes) s t = stays now
  clock_rises (Send m) s t = stays now
  clock_rises (Take words) s t = stays now
  clock_rises (Tick later) s t = t.0
  clock_rises Close s t = stays now

  pub in_time : (step : ToldStep) (s : ByteStep) → Tells x c (in_frames x.wire c h) now step s → moment (in_frames x.wire c h) ≤ now
      → moment (in_frames x.wire c (s ∷ h)) ≤ clock_after step now
  in_time (Attach l) s t low = subst (λ s. moment (in_frames x.wire c (s ∷ h)) ≤ now) (sym t) (no_later now (moment (in_frames x.wire c h)) low)
  in_time Detach s t low = subst (λ s. moment (in_frames x.wire c (s ∷ h)) ≤ now) (sym t) (no_later now (moment (in_frames x.wire c h)) low)
  in_time (Feed piece) s t low = subst (λ s. moment (in_frames x.wire c (s ∷ h)) ≤ now) (sym t) low
  in_time (Lend bytes) s t low = subst (λ s. moment (in_frames x.wire c (s ∷ h)) ≤ now) (sym t.1.0) low
  in_time (Send m) s t low = subst (λ s. moment (in_frames x.wire c (s ∷ h)) ≤ now) (sym t) low
  in_time (Take words) s t low = subst (λ s. moment (in_frames x.wire c (s ∷ h)) ≤ now) (sym t.1.0) low
  in_time (Tick later) s t low = go t.1
    where
      go : (s ≡ Does (Ticked later)) ⊎ (s ≡ Does (Silenced later)) → moment (in_frames x.wire c (s ∷ h)) ≤ later
      go (inl e) = subst (λ s. moment (in_frames x.wire c (s ∷ h)) ≤ later) (sym e) (rises later now (moment (in_frames x.wire c h)) low t.0)
      go (inr e) = subst (λ s. moment (in_frames x.wire c (s ∷ h)) ≤ later) (sym e) (rises later now (moment (in_frames x.wire c h)) low t.0)
  in_time Close s t low = subst (λ s. moment (in_frames x.wire c (s ∷ h)) ≤ now) (sym t) low

  pub faultless : (step : ToldStep) (s : ByteStep) → Tells x c (in_frames x.wire c h) now step s → HasNoFault (in_frames x.wire c h)
      → HasNoFault (in_frames x.wire c (s ∷ h))
  faultless (Attach l) s t f = subst (λ s. HasNoFault (in_frames x.wire c (s ∷ h))) (sym t) f
  faultless Detach s t f = subst (λ s. HasNoFault (in_frames x.wire c (s ∷ h))) (sym t) f
  faultless (Feed piece) s t f = subst (λ s. HasNoFault (in_frames x.wire c (s ∷ h))) (sym t) f
  faultless (Lend bytes) s t f = subst (λ s. HasNoFault (in_frames x.wire c (s ∷ h))) (sym t.1.0) f
  faultless (Send m) s t f = subst (λ s. HasNoFault (in_frames x.wire c (s ∷ h))) (sym t) f
  faultless (Take words) s t f = subst (λ s. HasNoFault (in_frames x.wire c (s ∷ h))) (sym t.1.0) f
  faultless (Tick later) s t f = go t.1
    where
      go : (s ≡ Does (Ticked later)) ⊎ (s ≡ Does (Silenced later)) → HasNoFault (in_frames x.wire c (s ∷ h))
      go (inl e) = subst (λ s. HasNoFault (in_frames x.wire c (s ∷ h))) (sym e) f
      go (inr e) = subst (λ s. HasNoFault (in_frames x.wire c (s ∷ h))) (sym e) f
  faultless Close s t f = subst (λ s. HasNoFault (in_frames x.wire c (s ∷ h))) (sym t) f

-- a step on one clock that stands at this moment, after which it stands at that of the line
abbrev pub MovesClock : ℕ → ℕ → EndEvent → Type 0
MovesClock last next s = (last ≤ moment_of s last) × (max (moment_of s last) last ≡ next)

same_clock : (last : ℕ) → (last ≤ last) × (max last last ≡ last)
same_clock last = (omega arith, omega arith)

later_clock : (last later : ℕ) → last ≤ later → (last ≤ later) × (max later last ≡ later)
later_clock last later less = (less, omega arith)

pub moves_clock : (x : Setup) (c : Config) (k : List EndEvent) (now : ℕ) (step : ToldStep) (s : ByteStep) → Tells x c k now step s → MovesClock now (clock_after step now) (bare_step s)
moves_clock x c k now (Attach l) s t = subst (λ s. MovesClock now now (bare_step s)) (sym t) (same_clock now)
moves_clock x c k now Detach s t = subst (λ s. MovesClock now now (bare_step s)) (sym t) (same_clock now)
moves_clock x c k now (Feed piece) s t = subst (λ s. MovesClock now now (bare_step s)) (sym t) (same_clock now)
moves_clock x c k now (Lend bytes) s t = subst (λ s. MovesClock now now (bare_step s)) (sym t.1.0) (same_clock now)
moves_clock x c k now (Send m) s t = subst (λ s. MovesClock now now (bare_step s)) (sym t) (same_clock now)
moves_clock x c k now (Take words) s t = subst (λ s. MovesClock now now (bare_step s)) (sym t.1.0) (same_clock now)
moves_clock x c k now (Tick later) s t = go t.1
  where
    go : (s ≡ Does (Ticked later)) ⊎ (s ≡ Does (Silenced later)) → MovesClock now later (bare_step s)
    go (inl e) = subst (λ s. MovesClock now later (bare_step s)) (sym e) (later_clock now later t.0)
    go (inr e) = subst (λ s. MovesClock now later (bare_step s)) (sym e) (later_clock now later t.0)
moves_clock x c k now Close s t = subst (λ s. MovesClock now now (bare_step s)) (sym t) (same_clock now)
