-- A link that an end begins.
use Rattle.std.proofs.Common.{inl, inr, ⊎_elim, ◌≡◌, ◌⊎◌, ℕ, Bool, true, false, not, ◌&&◌, ◌||◌, List, Option, Some, None, refl, sym, ◌∙◌, subst, is_some}
use Rattle.hd_delivery.specs.declared.vocabulary.Side.{Side}
use Rattle.hd_delivery.specs.declared.vocabulary.Side.TheVariants.{Client, Server}
use Rattle.hd_delivery.specs.Histories.{Attached}
use Rattle.hd_delivery.specs.HistoryLaws.{UnusedIsUntouched}
use Rattle.hd_delivery.specs.AloneLaws.{UnusedIsEmpty}
use Rattle.hd_delivery.specs.Worlds.{config, Event}
use Rattle.hd_delivery.specs.Bytes.{ByteStep, Does}
use Rattle.hd_delivery.specs.Sides.{history}
use Rattle.hd_trace.specs.declared.marks.Marks.{Marks}
use Rattle.hd_trace.specs.declared.trace.Rule.TheVariants as rule
use Rattle.hd_trace.specs.declared.trace.ToldStep.TheVariants.{Attach}
use Rattle.hd_trace.specs.Traces.{Setup, clock, steps_of, frames_beside, MayBeside, MakesAt}
use Rattle.hd_trace.specs.Recording.{line_of}
use Rattle.hd_trace.specs.Laws.{ToldIsWorld}
use Rattle.hd_trace.specs.Marks.{marks_of}
use Rattle.hd_trace.specs.MarkLaws.{MarksFollow}
use Rattle.hd_trace.specs.ByNumbers.{IsAbove, IsNewBeside, AttachesByNumbers}
use Rattle.ha_audit.specs.declared.auditor.Audit.{Audit}
use Rattle.ha_audit.specs.AuditState.{has_link}
use Rattle.ha_audit.specs.AuditKeeps.{KeepsEnd, end_of, Judges}
use Rattle.ha_audit.specs.AuditSteps.{Attaches}
use Rattle.ha_audit.proofs.AuditKept.{kept_attached}
use Rattle.ha_audit.proofs.AuditKnown.{keeps_on}
use Rattle.ha_audit.proofs.AuditRules.{attach_breaks}
use Rattle.ha_audit.proofs.AuditPlain.{StaysBeside}

-- whether an end with these marks may begin a link
abbrev pub may_begin : Marks → Bool
may_begin m = not m.closed && (not (is_some m.first) || m.resumable)

pub begins : (closed resumable : Bool) (first : Option ℕ) → (not closed && (not (is_some first) || resumable)) ≡ true → (closed ≡ false) × ((first ≡ None) ⊎ (resumable ≡ true))
begins true resumable first e = absurd (cc)
begins false resumable None e = (refl, inl refl)
begins false true (Some l) e = (refl, inr refl)
begins false false (Some l) e = absurd (cc)

pub began : (closed resumable : Bool) (first : Option ℕ) → closed ≡ false → (first ≡ None) ⊎ (resumable ≡ true) → (not closed && (not (is_some first) || resumable)) ≡ true
began true resumable first c g = absurd (cc)
began false resumable None c g = refl
began false true (Some l) c g = refl
began false false (Some l) c g = absurd (⊎_elim (λ (h : Some l ≡ None). let z : Some l ≡ None = h in cc) (λ (h : false ≡ true). cc) g)

pub may_not : (b : Bool) → b ≡ false → b ≡ true → ⊥
may_not true p q = absurd (cc)
may_not false p q = absurd (cc)

-- the name is new to this side, by what is kept of both
abbrev pub IsNewName : Side → Audit → ℕ → Type 0
IsNewName Client a l = IsAbove a.client.last l
IsNewName Server a l = (has_link a.client.links l ≡ true) × (has_link a.server.links l ≡ false)

module _ (follow : MarksFollow) (told : ToldIsWorld) (attaches : AttachesByNumbers) (side : Side) (old new : Audit) (l : ℕ) where
  new_beside : (side : Side) (x : Setup) (w : List (Event ByteStep)) → ((t : Side) → KeepsEnd x t (end_of t old) (history t w)) → IsNewName side old l → IsNewBeside x side w l
  new_beside Client x w ends above = subst (λ o. IsAbove o l) (ends Client).last above
  new_beside Server x w ends new = (sym ((ends Client).links l) ∙ new.0, sym ((ends Server).links l) ∙ new.1)

  new_name : (side : Side) (x : Setup) (w : List (Event ByteStep)) → ((t : Side) → KeepsEnd x t (end_of t old) (history t w)) → IsNewBeside x side w l → IsNewName side old l
  new_name Client x w ends above = subst (λ o. IsAbove o l) (sym (ends Client).last) above
  new_name Server x w ends new = ((ends Client).links l ∙ new.0, (ends Server).links l ∙ new.1)

  -- it may not be begun
  pub attach_broken : ((may_begin (end_of side old).marks ≡ false) ⊎ (IsNewName side old l → ⊥)) → Judges old new (line_of side (Attach l)) (Some rule.Link)
  attach_broken wrong x lines w keeps = attach_breaks x (MayBeside x side w) (config side x.terms) (frames_beside x side w) (clock (steps_of lines)) l
      (λ may. let by = (attaches x side w l (clock (steps_of lines)) (told x lines w keeps.tells).is_world).0 may in ⊎_elim
      (λ (h : may_begin (end_of side old).marks ≡ false). may_not (may_begin (end_of side old).marks) h
      (subst (λ m. may_begin m ≡ true) (sym (keeps.ends side).marks)
      (began (marks_of (config side x.terms) (frames_beside x side w)).closed (marks_of (config side x.terms) (frames_beside x side w)).resumable
      (marks_of (config side x.terms) (frames_beside x side w)).first by.0.unclosed by.0.granted)))
      (λ (h : IsNewName side old l → ⊥). h (new_name side x w keeps.ends by.1))
      wrong)

  -- it is begun
  pub attach_judged : UnusedIsUntouched → UnusedIsEmpty → may_begin (end_of side old).marks ≡ true → IsNewName side old l
      → Attaches (end_of side old) (end_of side new) l old.clock → StaysBeside side old new old.clock → Judges old new (line_of side (Attach l)) None
  attach_judged untouched empty may name a stays x lines w keeps =
      let kept = keeps.ends side in
      let now = clock (steps_of lines) in
      let world = told x lines w keeps.tells in
      let b = begins (marks_of (config side x.terms) (frames_beside x side w)).closed (marks_of (config side x.terms) (frames_beside x side w)).resumable
      (marks_of (config side x.terms) (frames_beside x side w)).first (subst (λ m. may_begin m ≡ true) kept.marks may) in
      let allowed = (attaches x side w l now world.is_world).1
      (record { unclosed = b.0; granted = b.1; in_time = world.in_time side }, new_beside side x w keeps.ends name) in
      let makes : MakesAt x side w now (Attach l) (Does (Attached l now)) = record { tells = refl; allowed = allowed } in (
        Does (Attached l now),
        (
          makes,
          keeps_on x lines (line_of side (Attach l)) old new w (Does (Attached l now)) keeps makes stays.head stays.clock stays.there
              (kept_attached follow x side (end_of side old) (history side w) kept untouched empty l now (end_of side new) allowed.own.unused
              (subst (Attaches (end_of side old) (end_of side new) l) keeps.clock_is a)),
        ),
      )
