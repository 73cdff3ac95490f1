-- Lines of one end: one history, which it can make by itself, and one verdict.
use Rattle.std.proofs.Common.{◌≡◌, ℕ, List, [], ◌∷◌, refl, sym, ap, ◌∙◌, subst}
use Rattle.hd_delivery.specs.declared.vocabulary.Side.{Side}
use Rattle.hd_delivery.specs.Histories.{EndEvent, Attached, Detached, Fed, Took, Sent, Lent, Ticked, Silenced, Closed, Failed}
use Rattle.hd_delivery.specs.Worlds.{config, MayHear, MayDo}
use Rattle.hd_delivery.specs.Bytes.{sizes_of, ByteStep, Bytes, Does}
use Rattle.hd_trace.specs.declared.trace.ToldStep.{ToldStep}
use Rattle.hd_trace.specs.declared.trace.Rule.{Rule}
use Rattle.hd_trace.specs.Traces.{Setup, clock, clock_after}
use Rattle.hd_trace.specs.Alone.{frames_alone, MayAlone, MakesAlone, TellHistory}
use Rattle.hd_trace.specs.Breaking.{BreaksHistory}
use Rattle.hd_trace.specs.Laws.{IsToldHistory, ToldIsHistory, HasOneVerdict}
use Rattle.hd_trace.proofs.Steps.{IsOwn, one_step, no_step, step_or_rule, one_rule}
use Rattle.hd_trace.proofs.AfterLine as after_line
use Rattle.hd_trace.proofs.OneVerdict as verdicts

-- ---- what may come next

alone_hears : (x : Setup) (side : Side) (h : List ByteStep) (piece : List ℕ) → MayAlone x side h (Bytes piece) → MayHear (config side x.terms) (frames_alone x side h)
alone_hears x side h piece m = record { link = m.0.link; at = m.0.at; unclosed = m.0.unclosed }

alone_does : (x : Setup) (side : Side) (h : List ByteStep) (s : EndEvent) → MayAlone x side h (Does s)
    → MayDo x.limits (sizes_of x.wire) (config side x.terms) (frames_alone x side h) s
alone_does x side h (Fed piece) m = absurd m.0
alone_does x side h (Attached l now) m = m.0
alone_does x side h (Detached now) m = m.0
alone_does x side h (Took got) m = m.0
alone_does x side h (Failed fault) m = m.0
alone_does x side h (Sent msg) m = m.0
alone_does x side h (Lent f) m = m.0
alone_does x side h (Ticked now) m = m.0
alone_does x side h (Silenced now) m = m.0
alone_does x side h (Closed reason allow) m = m.0

may_alone : (x : Setup) (side : Side) (h : List ByteStep) (s : EndEvent) → IsOwn s
    → MayDo x.limits (sizes_of x.wire) (config side x.terms) (frames_alone x side h) s → MayAlone x side h (Does s)
may_alone x side h (Attached l now) i m = absurd i
may_alone x side h (Fed piece) i m = absurd i
may_alone x side h (Detached now) i m = (m, tt)
may_alone x side h (Took got) i m = (m, tt)
may_alone x side h (Failed fault) i m = (m, tt)
may_alone x side h (Sent msg) i m = (m, tt)
may_alone x side h (Lent f) i m = (m, tt)
may_alone x side h (Ticked now) i m = (m, tt)
may_alone x side h (Silenced now) i m = (m, tt)
may_alone x side h (Closed reason allow) i m = (m, tt)

-- ---- one history

made_once : (x : Setup) (side : Side) (h : List ByteStep) (now : ℕ) (step : ToldStep) (s t : ByteStep) → MakesAlone x side h now step s → MakesAlone x side h now step t → s ≡ t
made_once x side h now step s t m n =
    one_step x (MayAlone x side h) (config side x.terms) (frames_alone x side h) now (alone_hears x side h) (alone_does x side h) step s t m n

pub one_history : (x : Setup) (side : Side) (steps : List ToldStep) (g h : List ByteStep) → TellHistory x side steps g → TellHistory x side steps h → g ≡ h
one_history x side [] g h a b = a ∙ sym b
one_history x side (step ∷ steps) g h a b =
    let same : b.0 ≡ a.0 = one_history x side steps b.0 a.0 b.2.0 a.2.0 in
    let n : MakesAlone x side a.0 (clock steps) step b.1 = subst (λ u. MakesAlone x side u (clock steps) step b.1) same b.2.1 in
    a.2.2 ∙ (ap (λ s. s ∷ a.0) (made_once x side a.0 (clock steps) step a.1 b.1 a.2.1 n) ∙ (ap (λ u. b.1 ∷ u) (sym same) ∙ sym b.2.2))

-- ---- what a told history is

goes_on : (x : Setup) (side : Side) (g : List ByteStep) (now : ℕ) (step : ToldStep) (s : ByteStep) → MakesAlone x side g now step s → IsToldHistory x side now g
    → IsToldHistory x side (clock_after step now) (s ∷ g)
goes_on x side g now step s m i = record {
  is_history = (i.is_history, m.allowed.0);
  named = (i.named, m.allowed.1);
  in_time = after_line.in_time x (config side x.terms) g now step s m.tells i.in_time;
  faultless = after_line.faultless x (config side x.terms) g now step s m.tells i.faultless;
}

pub is_history : ToldIsHistory
is_history x side [] h e = subst (λ h. IsToldHistory x side 0 h) (sym e) (record { is_history = tt; named = tt; in_time = after_line.stays 0; faultless = tt })
is_history x side (step ∷ steps) h t = subst (λ h. IsToldHistory x side (clock (step ∷ steps)) h) (sym t.2.2)
    (goes_on x side t.0 (clock steps) step t.1 t.2.1 (is_history x side steps t.0 t.2.0))

-- ---- one verdict

ends_there : (x : Setup) (side : Side) (step : ToldStep) (steps : List ToldStep) (g h : List ByteStep) (r : Rule) → BreaksHistory x side steps step g r
    → TellHistory x side steps g → TellHistory x side (step ∷ steps) h → ⊥
ends_there x side step steps g h r b t u =
    let m : MakesAlone x side g (clock steps) step u.1 = subst (λ z. MakesAlone x side z (clock steps) step u.1) (one_history x side steps u.0 g u.2.0 t) u.2.1 in
    no_step x (MayAlone x side g) (config side x.terms) (frames_alone x side g) (clock steps) (alone_hears x side g) (alone_does x side g) step r u.1 b.0 m

goes_or_breaks : (x : Setup) (side : Side) (step : ToldStep) (steps : List ToldStep) (g : List ByteStep) → TellHistory x side steps g
    → ((r : Rule) → BreaksHistory x side steps step g r → ⊥) → ((h : List ByteStep) → TellHistory x side (step ∷ steps) h → ⊥) → ⊥
goes_or_breaks x side step steps g t breaks tells =
    step_or_rule x (MayAlone x side g) (config side x.terms) (frames_alone x side g) (clock steps) (is_history x side steps g t).in_time (may_alone x side g) step breaks
    (λ s m. tells (s ∷ g) (g, s, (t, m, refl)))

pub one_verdict : (x : Setup) (side : Side) (steps : List ToldStep) → HasOneVerdict (TellHistory x side) (BreaksHistory x side) steps
one_verdict x side steps = verdicts.one_verdict ToldStep (List ByteStep) (TellHistory x side) (BreaksHistory x side)
    (one_history x side) (λ step ls h t. (t.0, t.2.0)) (ends_there x side)
    (λ step ls g q r a b. one_rule x (MayAlone x side g) (config side x.terms) (frames_alone x side g) (clock ls) step q r a b)
    (goes_or_breaks x side) [] refl steps
