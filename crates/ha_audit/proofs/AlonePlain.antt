-- Lines of one end alone that don't look at its bytes: a link is lost, a moment comes, the end is closed.
use Rattle.std.proofs.Common.{inl, inr, ◌≡◌, ◌≤◌, ◌<◌, ℕ, Bool, true, false, List, ◌∷◌, Option, Some, None, IfNone, IfSome, refl, sym, ap, ◌∙◌, subst, arith}
use Rattle.std.specs.Prelude.{if◌then◌else◌}
use Rattle.hd_delivery.specs.declared.vocabulary.Reason.TheVariants.{Done}
use Rattle.hd_delivery.specs.Histories.{Ticked, Silenced, Closed, is_silence}
use Rattle.hd_delivery.specs.HistoryLaws.{UnreadStays}
use Rattle.hd_delivery.specs.Worlds.{config}
use Rattle.hd_delivery.specs.Bytes.{ByteStep, Does}
use Rattle.hd_trace.specs.declared.trace.Rule.{Rule}
use Rattle.hd_trace.specs.declared.trace.Rule.TheVariants as rule
use Rattle.hd_trace.specs.declared.trace.ToldStep.{ToldStep}
use Rattle.hd_trace.specs.declared.trace.ToldStep.TheVariants.{Tick, Close}
use Rattle.hd_trace.specs.Traces.{Setup, clock, clock_after}
use Rattle.hd_trace.specs.Alone.{frames_alone, MayAlone, MakesAlone, TellHistory}
use Rattle.hd_trace.specs.Breaking.{BreaksHistory}
use Rattle.hd_trace.specs.Laws.{ToldIsHistory}
use Rattle.hd_trace.specs.Marks.{left, ticked, closed_for}
use Rattle.hd_trace.specs.MarkLaws.{MarksFollow, TakesAreMarked}
use Rattle.hd_trace.specs.ByMarks.{is_silence_by}
use Rattle.ha_audit.specs.declared.alone.auditor.AuditAlone.{AuditAlone}
use Rattle.ha_audit.specs.AuditKeeps.{IsBegunSo}
use Rattle.ha_audit.specs.AloneKeeps.{KeepsOne, KeepsAlone, IsJudgedAlone, JudgesAlone}
use Rattle.ha_audit.proofs.AloneKept.{kept_silenced, kept_ticked, kept_closed}
use Rattle.ha_audit.proofs.AuditRules.{tick_breaks, close_breaks}

-- how the end was begun stays, and the clock is this
pub record StaysBegun (old new : AuditAlone) (now : ℕ) : Type 0 where
  pub head : new.head ≡ old.head
  pub side : new.side ≡ old.side
  pub clock : new.clock ≡ now

-- the bytes stay as well
pub record StaysAlone (old new : AuditAlone) (now : ℕ) : Type 0 where
  pub begun : StaysBegun old new now
  pub splitter : new.splitter ≡ old.splitter
  pub over : new.over ≡ old.over

-- the history that goes on with a step is kept
pub alone_on : (x : Setup) (steps : List ToldStep) (step : ToldStep) (old new : AuditAlone) (h : List ByteStep) (s : ByteStep)
    → KeepsAlone x steps old h
    → MakesAlone x old.side h (clock steps) step s → StaysBegun old new (clock_after step old.clock)
    → KeepsOne x old.side new.end new.splitter new.over (s ∷ h)
    → IsJudgedAlone x steps step h old new None
alone_on x steps step old new h s keeps makes stays kept = (
  stays.side,
  (
    s,
    (
      makes,
      record {
        begun = subst (IsBegunSo x) (sym stays.head) keeps.begun;
        tells = subst (λ side. TellHistory x side (step ∷ steps) (s ∷ h)) (sym stays.side) (h, s, (keeps.tells, makes, refl));
        clock_is = stays.clock ∙ ap (clock_after step) keeps.clock_is;
        kept = subst (λ side. KeepsOne x side new.end new.splitter new.over (s ∷ h)) (sym stays.side) kept;
      },
    ),
  ),
)

-- so it is where the bytes stay
pub plain_on : (x : Setup) (steps : List ToldStep) (step : ToldStep) (old new : AuditAlone) (h : List ByteStep) (s : ByteStep)
    → KeepsAlone x steps old h
    → MakesAlone x old.side h (clock steps) step s → StaysAlone old new (clock_after step old.clock)
    → KeepsOne x old.side new.end old.splitter old.over (s ∷ h)
    → IsJudgedAlone x steps step h old new None
plain_on x steps step old new h s keeps makes stays kept = alone_on x steps step old new h s keeps makes stays.begun
    (subst (λ held. KeepsOne x old.side new.end held new.over (s ∷ h)) (sym stays.splitter)
    (subst (λ over. KeepsOne x old.side new.end old.splitter over (s ∷ h)) (sym stays.over) kept))

-- ---- a moment comes

pub tick_broken : (old new : AuditAlone) (later : ℕ) → later < old.clock → JudgesAlone old new (Tick later) (Some rule.State)
tick_broken old new later low x steps h keeps =
    tick_breaks x (MayAlone x old.side h) (config old.side x.terms) (frames_alone x old.side h) (clock steps) later
    (subst (λ n. later < n) keeps.clock_is low)

tick_made : MarksFollow → ToldIsHistory → UnreadStays → (old new : AuditAlone) (x : Setup) (steps : List ToldStep) (h : List ByteStep)
    → KeepsAlone x steps old h → (later : ℕ) → old.clock ≤ later
    → StaysAlone old new later → (b : Bool) → is_silence (config old.side x.terms) later (frames_alone x old.side h) ≡ b
    → new.end ≡ record old.end { marks = (if b then left later old.end.marks else ticked later old.end.marks) } → IsJudgedAlone x steps
    (Tick later) h old new None
tick_made follow told stay old new x steps h keeps later high stays true silent e =
    let low : clock steps ≤ later = subst (λ n. n ≤ later) keeps.clock_is high in
    let time = (told x old.side steps h keeps.tells).in_time in
    plain_on x steps (Tick later) old new h (Does (Silenced later)) keeps
    (record { tells = (low, inr refl); allowed = ((silent, omega arith), tt) }) stays
    (kept_silenced follow x old.side old.end old.splitter old.over h keeps.kept later new.end e)
tick_made follow told stay old new x steps h keeps later high stays false silent e =
    let low : clock steps ≤ later = subst (λ n. n ≤ later) keeps.clock_is high in
    let time = (told x old.side steps h keeps.tells).in_time in
    plain_on x steps (Tick later) old new h (Does (Ticked later)) keeps
    (record { tells = (low, inl refl); allowed = ((silent, omega arith), tt) }) stays
    (kept_ticked follow x old.side old.end old.splitter old.over h keeps.kept stay later new.end e)

pub tick_judged : MarksFollow → ToldIsHistory → UnreadStays → TakesAreMarked → (old new : AuditAlone) (later : ℕ) → old.clock ≤ later
    → StaysAlone old new later
    → new.end ≡ record old.end { marks = (if is_silence_by later old.end.marks then left later old.end.marks else ticked later old.end.marks) }
    → JudgesAlone old new (Tick later) None
tick_judged follow told stay says old new later high stays e x steps h keeps =
    let silent : is_silence (config old.side x.terms) later (frames_alone x old.side h) ≡ is_silence_by later old.end.marks =
    (says (config old.side x.terms) (frames_alone x old.side h)).silence later ∙ ap (is_silence_by later) (sym keeps.kept.marks) in
    tick_made follow told stay old new x steps h keeps later high stays (is_silence_by later old.end.marks) silent e

-- ---- its own side closes it

pub close_judged : MarksFollow → UnreadStays → (old new : AuditAlone) (verdict : Option Rule)
    → IfNone verdict ((old.end.marks.closed ≡ false) × (new.end ≡ record old.end { marks = closed_for Done false old.end.marks }))
    → IfSome verdict (λ r. (r ≡ rule.State) × (old.end.marks.closed ≡ true)) → StaysAlone old new old.clock → JudgesAlone old new Close verdict
close_judged follow stay old new None ok wrong stays x steps h keeps =
    plain_on x steps Close old new h (Does (Closed Done false)) keeps
    (record { tells = refl; allowed = (sym (ap (λ m. m.closed) keeps.kept.marks) ∙ ok.0, tt) }) stays
    (kept_closed follow x old.side old.end old.splitter old.over h keeps.kept stay Done false new.end ok.1)
close_judged follow stay old new (Some r) ok wrong stays x steps h keeps = subst (BreaksHistory x old.side steps Close h) (sym wrong.0)
    (close_breaks x (MayAlone x old.side h) (config old.side x.terms) (frames_alone x old.side h) (clock steps)
    (sym (ap (λ m. m.closed) keeps.kept.marks) ∙ wrong.1))
