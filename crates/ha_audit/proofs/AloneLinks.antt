-- A link that an end alone begins.
use Rattle.std.proofs.Common.{⊎_elim, ◌≡◌, ◌⊎◌, ℕ, true, false, List, ◌∷◌, Some, None, refl, sym, ◌∙◌, subst}
use Rattle.hf_split.specs.Held.{at_start}
use Rattle.hd_delivery.specs.declared.vocabulary.Side.{Side}
use Rattle.hd_delivery.specs.declared.vocabulary.Side.TheVariants.{Client, Server}
use Rattle.hd_delivery.specs.Histories.{Attached, was_on}
use Rattle.hd_delivery.specs.HistoryLaws.{UnreadBegins}
use Rattle.hd_delivery.specs.Worlds.{config}
use Rattle.hd_delivery.specs.Bytes.{ByteStep, Does}
use Rattle.hd_trace.specs.declared.trace.Rule.TheVariants as rule
use Rattle.hd_trace.specs.declared.trace.ToldStep.{ToldStep}
use Rattle.hd_trace.specs.declared.trace.ToldStep.TheVariants.{Attach}
use Rattle.hd_trace.specs.Traces.{Setup, clock}
use Rattle.hd_trace.specs.Alone.{frames_alone, MayAlone}
use Rattle.hd_trace.specs.Laws.{ToldIsHistory}
use Rattle.hd_trace.specs.Marks.{marks_of}
use Rattle.hd_trace.specs.MarkLaws.{MarksFollow}
use Rattle.hd_trace.specs.ByNumbers.{last_link, IsAbove, IsNewAlone, AttachesAloneByNumbers}
use Rattle.ha_audit.specs.declared.alone.auditor.AuditAlone.{AuditAlone}
use Rattle.ha_audit.specs.AuditSteps.{Attaches}
use Rattle.ha_audit.specs.AloneState.{framing_by}
use Rattle.ha_audit.specs.AloneKeeps.{KeepsOne, KeepsAlone, JudgesAlone}
use Rattle.ha_audit.specs.AloneSteps.{IsNewName}
use Rattle.ha_audit.proofs.AloneKept.{kept_attached}
use Rattle.ha_audit.proofs.AlonePlain.{StaysBegun, alone_on}
use Rattle.ha_audit.proofs.AuditLinks.{may_begin, may_not, begins, began}
use Rattle.ha_audit.proofs.AuditRules.{attach_breaks}

-- what is new by the name is new to the end
new_alone : (x : Setup) (steps : List ToldStep) (a : AuditAlone) (h : List ByteStep) → KeepsAlone x steps a h → (l : ℕ) → (side : Side)
    → a.side ≡ side → IsNewName side a.end l → IsNewAlone x side h l
new_alone x steps a h keeps l Client is above = subst (λ side. IsAbove (last_link (frames_alone x side h)) l) is
    (subst (λ o. IsAbove o l) keeps.kept.last above)
new_alone x steps a h keeps l Server is new = subst (λ side. was_on l (frames_alone x side h) ≡ false) is (sym (keeps.kept.links l) ∙ new)

new_name : (x : Setup) (steps : List ToldStep) (a : AuditAlone) (h : List ByteStep) → KeepsAlone x steps a h → (l : ℕ) → (side : Side) → a.side ≡ side
    → IsNewAlone x side h l → IsNewName side a.end l
new_name x steps a h keeps l Client is above = subst (λ o. IsAbove o l) (sym keeps.kept.last)
    (subst (λ side. IsAbove (last_link (frames_alone x side h)) l) (sym is) above)
new_name x steps a h keeps l Server is new = keeps.kept.links l ∙ subst (λ side. was_on l (frames_alone x side h) ≡ false) (sym is) new

module _ (follow : MarksFollow) (told : ToldIsHistory) (attaches : AttachesAloneByNumbers) (old new : AuditAlone) (l : ℕ) where
  -- it may not be begun
  pub attach_broken : ((may_begin old.end.marks ≡ false) ⊎ (IsNewName old.side old.end l → ⊥)) → JudgesAlone old new (Attach l) (Some rule.Link)
  attach_broken wrong x steps h keeps = attach_breaks x (MayAlone x old.side h) (config old.side x.terms) (frames_alone x old.side h) (clock steps) l
      (λ may. let by = (attaches x old.side h l (clock steps) (told x old.side steps h keeps.tells).named).0 may in ⊎_elim
      (λ (b : may_begin old.end.marks ≡ false). may_not (may_begin old.end.marks) b
      (subst (λ m. may_begin m ≡ true) (sym keeps.kept.marks)
      (began (marks_of (config old.side x.terms) (frames_alone x old.side h)).closed
      (marks_of (config old.side x.terms) (frames_alone x old.side h)).resumable
      (marks_of (config old.side x.terms) (frames_alone x old.side h)).first by.0.unclosed by.0.granted)))
      (λ (b : IsNewName old.side old.end l → ⊥). b (new_name x steps old h keeps l old.side refl by.1))
      wrong)

  -- it is begun
  pub attach_judged : UnreadBegins → may_begin old.end.marks ≡ true → IsNewName old.side old.end l
      → Attaches old.end new.end l old.clock → StaysBegun old new old.clock → new.splitter ≡ at_start (framing_by new.end.marks) old.splitter.most
      → new.over ≡ 0 → JudgesAlone old new (Attach l) None
  attach_judged begin may name a stays held none x steps h keeps =
      let now = clock steps in
      let history = told x old.side steps h keeps.tells in
      let b = begins (marks_of (config old.side x.terms) (frames_alone x old.side h)).closed
      (marks_of (config old.side x.terms) (frames_alone x old.side h)).resumable
      (marks_of (config old.side x.terms) (frames_alone x old.side h)).first (subst (λ m. may_begin m ≡ true) keeps.kept.marks may) in
      let allowed = (attaches x old.side h l now history.named).1
      (record { unclosed = b.0; granted = b.1; in_time = history.in_time }, new_alone x steps old h keeps l old.side refl name) in
      alone_on x steps (Attach l) old new h (Does (Attached l now)) keeps (record { tells = refl; allowed = allowed }) stays
      (subst (λ over. KeepsOne x old.side new.end new.splitter over (Does (Attached l now) ∷ h)) (sym none)
      (kept_attached follow x old.side old.end old.splitter old.over h keeps.kept begin l now new.end new.splitter allowed.0.unused
      (subst (Attaches old.end new.end l) keeps.clock_is a) held))
