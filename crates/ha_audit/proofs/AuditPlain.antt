-- Lines that ask nothing of the other end: a link is lost, a moment comes, an end is closed.
use Rattle.std.proofs.Common.{inl, inr, ◌≡◌, ◌≤◌, ◌<◌, ℕ, Bool, true, false, List, Option, Some, None, IfNone, IfSome, refl, sym, ap, ◌∙◌, subst, arith}
use Rattle.std.specs.Prelude.{if◌then◌else◌}
use Rattle.hd_delivery.specs.declared.vocabulary.Reason.TheVariants.{Done}
use Rattle.hd_delivery.specs.declared.vocabulary.Side.{Side}
use Rattle.hd_delivery.specs.Histories.{Detached, Ticked, Silenced, Closed, is_silence}
use Rattle.hd_delivery.specs.Worlds.{config, Event}
use Rattle.hd_delivery.specs.Bytes.{ByteStep, Does}
use Rattle.hd_delivery.specs.Sides.{other, history}
use Rattle.hd_trace.specs.declared.trace.Rule.{Rule}
use Rattle.hd_trace.specs.declared.trace.Rule.TheVariants as rule
use Rattle.hd_trace.specs.declared.trace.ToldStep.TheVariants.{Detach, Tick, Close}
use Rattle.hd_trace.specs.declared.trace.TraceLine.{TraceLine}
use Rattle.hd_trace.specs.Traces.{Setup, clock, steps_of, frames_beside, MayBeside, MakesAt}
use Rattle.hd_trace.specs.Breaking.{BreaksWorld}
use Rattle.hd_trace.specs.Recording.{line_of}
use Rattle.hd_trace.specs.Laws.{ToldIsWorld}
use Rattle.hd_trace.specs.Marks.{left, ticked, closed_for}
use Rattle.hd_trace.specs.MarkLaws.{MarksFollow, TakesAreMarked}
use Rattle.hd_trace.specs.ByMarks.{is_silence_by}
use Rattle.ha_audit.specs.declared.auditor.Audit.{Audit}
use Rattle.ha_audit.specs.AuditKeeps.{Keeps, end_of, IsJudged, Judges}
use Rattle.ha_audit.proofs.AuditKept.{kept_detached, kept_silenced, kept_ticked, kept_closed}
use Rattle.ha_audit.proofs.AuditKnown.{keeps_on}
use Rattle.ha_audit.proofs.AuditRules.{detach_breaks, tick_breaks, close_breaks}

-- all but one end stays, and the clock is this
pub record StaysBeside (side : Side) (old new : Audit) (now : ℕ) : Type 0 where
  pub head : new.head ≡ old.head
  pub clock : new.clock ≡ now
  pub there : end_of (other side) new ≡ end_of (other side) old

some_of : (o : Option ℕ) → (o ≡ None → ⊥) → (l : ℕ) × (o ≡ Some l)
some_of None wrong = absurd (wrong refl)
some_of (Some l) wrong = (l, refl)

module _ (follow : MarksFollow) (told : ToldIsWorld) (side : Side) (old new : Audit) where
  -- ---- a link is lost

  pub detach_judged : (verdict : Option Rule)
      → IfNone verdict (((end_of side old).marks.link ≡ None → ⊥) × (end_of side new ≡ record (end_of side old) { marks = left old.clock (end_of side old).marks }))
      → IfSome verdict (λ r. (r ≡ rule.Link) × ((end_of side old).marks.link ≡ None))
      → StaysBeside side old new old.clock → Judges old new (line_of side Detach) verdict
  detach_judged None ok wrong stays x lines w keeps =
      let kept = keeps.ends side in
      let here = some_of (end_of side old).marks.link ok.0 in
      let makes : MakesAt x side w (clock (steps_of lines)) Detach (Does (Detached (clock (steps_of lines)))) =
      record { tells = refl; allowed = (here.0, sym (ap (λ m. m.link) kept.marks) ∙ here.1, (told x lines w keeps.tells).in_time side) } in (
        Does (Detached (clock (steps_of lines))),
        (
          makes,
          keeps_on x lines (line_of side Detach) old new w (Does (Detached (clock (steps_of lines)))) keeps makes stays.head stays.clock stays.there
              (kept_detached follow x side (end_of side old) (history side w) kept (clock (steps_of lines)) (end_of side new)
              (ok.1 ∙ ap (λ n. record (end_of side old) { marks = left n (end_of side old).marks }) keeps.clock_is)),
        ),
      )
  detach_judged (Some r) ok wrong stays x lines w keeps = subst (BreaksWorld x lines (line_of side Detach) w) (sym wrong.0)
      (detach_breaks x (MayBeside x side w) (config side x.terms) (frames_beside x side w) (clock (steps_of lines)) (sym (ap (λ m. m.link) (keeps.ends side).marks) ∙ wrong.1))

  -- ---- a moment comes

  pub tick_broken : (later : ℕ) → later < old.clock → Judges old new (line_of side (Tick later)) (Some rule.State)
  tick_broken later low x lines w keeps =
      tick_breaks x (MayBeside x side w) (config side x.terms) (frames_beside x side w) (clock (steps_of lines)) later (subst (λ n. later < n) keeps.clock_is low)

  tick_made : (x : Setup) (lines : List TraceLine) (w : List (Event ByteStep)) → Keeps x lines old w → (later : ℕ) → old.clock ≤ later → StaysBeside side old new later
      → (b : Bool) → is_silence (config side x.terms) later (frames_beside x side w) ≡ b
      → end_of side new ≡ record (end_of side old) { marks = (if b then left later (end_of side old).marks else ticked later (end_of side old).marks) }
      → IsJudged x lines (line_of side (Tick later)) w new None
  tick_made x lines w keeps later high stays true silent e =
      let low : clock (steps_of lines) ≤ later = subst (λ n. n ≤ later) keeps.clock_is high in
      let time = (told x lines w keeps.tells).in_time side in
      let makes : MakesAt x side w (clock (steps_of lines)) (Tick later) (Does (Silenced later)) = record { tells = (low, inr refl); allowed = (silent, omega arith) } in (
        Does (Silenced later),
        (
          makes,
          keeps_on x lines (line_of side (Tick later)) old new w (Does (Silenced later)) keeps makes stays.head stays.clock stays.there
              (kept_silenced follow x side (end_of side old) (history side w) (keeps.ends side) later (end_of side new) e),
        ),
      )
  tick_made x lines w keeps later high stays false silent e =
      let low : clock (steps_of lines) ≤ later = subst (λ n. n ≤ later) keeps.clock_is high in
      let time = (told x lines w keeps.tells).in_time side in
      let makes : MakesAt x side w (clock (steps_of lines)) (Tick later) (Does (Ticked later)) = record { tells = (low, inl refl); allowed = (silent, omega arith) } in (
        Does (Ticked later),
        (
          makes,
          keeps_on x lines (line_of side (Tick later)) old new w (Does (Ticked later)) keeps makes stays.head stays.clock stays.there
              (kept_ticked follow x side (end_of side old) (history side w) (keeps.ends side) later (end_of side new) e),
        ),
      )

  pub tick_judged : TakesAreMarked → (later : ℕ) → old.clock ≤ later → StaysBeside side old new later
      → end_of side new ≡ record (end_of side old) { marks = (if is_silence_by later (end_of side old).marks then left later (end_of side old).marks else ticked later (end_of side old).marks) }
      → Judges old new (line_of side (Tick later)) None
  tick_judged says later high stays e x lines w keeps =
      let silent : is_silence (config side x.terms) later (frames_beside x side w) ≡ is_silence_by later (end_of side old).marks =
      (says (config side x.terms) (frames_beside x side w)).silence later ∙ ap (is_silence_by later) (sym (keeps.ends side).marks) in
      tick_made x lines w keeps later high stays (is_silence_by later (end_of side old).marks) silent e

  -- ---- its own side closes it

  pub close_judged : (verdict : Option Rule)
      → IfNone verdict (((end_of side old).marks.closed ≡ false) × (end_of side new ≡ record (end_of side old) { marks = closed_for Done false (end_of side old).marks }))
      → IfSome verdict (λ r. (r ≡ rule.State) × ((end_of side old).marks.closed ≡ true))
      → StaysBeside side old new old.clock → Judges old new (line_of side Close) verdict
  close_judged None ok wrong stays x lines w keeps =
      let kept = keeps.ends side in
      let makes : MakesAt x side w (clock (steps_of lines)) Close (Does (Closed Done false)) = record { tells = refl; allowed = sym (ap (λ m. m.closed) kept.marks) ∙ ok.0 } in (
        Does (Closed Done false),
        (
          makes,
          keeps_on x lines (line_of side Close) old new w (Does (Closed Done false)) keeps makes stays.head stays.clock stays.there
              (kept_closed follow x side (end_of side old) (history side w) kept Done false (end_of side new) ok.1),
        ),
      )
  close_judged (Some r) ok wrong stays x lines w keeps = subst (BreaksWorld x lines (line_of side Close) w) (sym wrong.0)
      (close_breaks x (MayBeside x side w) (config side x.terms) (frames_beside x side w) (clock (steps_of lines)) (sym (ap (λ m. m.closed) (keeps.ends side).marks) ∙ wrong.1))
