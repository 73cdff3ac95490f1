-- What the lines of one end alone come to, one line after the other.
use Rattle.std.proofs.Common.{◌≡◌, ℕ, suc, true, false, List, [], ◌∷◌, length, Option, Some, None, is_some, refl, sym, ap, ◌∙◌, subst}
use Rattle.std.proofs.lemmas.List.{length-map}
use Rattle.hd_delivery.specs.declared.vocabulary.Side.{Side}
use Rattle.hd_delivery.specs.declared.vocabulary.Side.TheVariants.{Client, Server}
use Rattle.hd_delivery.specs.Worlds.{codec_at, version_at}
use Rattle.hd_delivery.specs.Bytes.{Wire}
use Rattle.hd_facts.specs.Unique.{IsTheOne}
use Rattle.he_wire.specs.Laws.{HasWire}
use Rattle.he_wire.specs.Wires.{IsHouseWire}
use Rattle.hd_trace.specs.declared.trace.Rule.{Rule}
use Rattle.hd_trace.specs.declared.trace.TraceLine.{TraceLine}
use Rattle.hd_trace.specs.Traces.{Setup, steps_of}
use Rattle.hd_trace.specs.Alone.{TellHistory}
use Rattle.hd_trace.specs.Breaking.{BreaksHistory, BreaksOffAlone}
use Rattle.hd_trace.specs.Verdicts.{IsVerdictAlone, VerdictAloneIsOne}
use Rattle.hd_trace.specs.declared.verdict.VerdictAlone.{VerdictAlone}
use Rattle.ha_audit.specs.declared.alone.auditor.AuditAlone.{AuditAlone}
use Rattle.ha_audit.specs.declared.verdict.Break.{Break}
use Rattle.ha_audit.specs.declared.alone.ProgressAlone.{ProgressAlone}
use Rattle.ha_audit.specs.declared.head.Head.{Head}
use Rattle.ha_audit.specs.Grammar.{IsHead, terms_of}
use Rattle.ha_audit.specs.AuditKeeps.{IsBegunSo}
use Rattle.ha_audit.specs.AloneKeeps.{KeepsAlone, JudgesAlone}
use Rattle.ha_audit.specs.Laws.{TracesAreToldOnce}
use Rattle.ha_audit.specs.Reading.{TraceText, HasLines}
use Rattle.ha_audit.specs.AloneVerdict.{ComesToAlone, IsAuditedAlone, StandsAloneOver, StandsAlone}
use Rattle.ha_audit.specs.AuditVerdict.{setup_of}

-- a session is begun as the head says
pub begun_so : (head : Head) (wire : Wire) → IsHead head → IsHouseWire head.limits.frame wire → IsBegunSo (setup_of head wire) head
begun_so head wire is_head house = record {
  limits = refl;
  codec = codec;
  version = version;
  reconnect = refl;
  words = refl;
  is_wire = house;
  in_range = is_head.limits;
  is_version = is_head.version;
}
  where
    codec : (side : Side) → codec_at side (terms_of head) ≡ head.codec
    codec Client = refl
    codec Server = refl

    version : (side : Side) → version_at side (terms_of head) ≡ head.version
    version Client = refl
    version Server = refl

-- before the first line
pub stands_first : (head : Head) (side : Side) (audit : AuditAlone) → IsHead head → audit.side ≡ side →
    ((x : Setup) → IsBegunSo x head → KeepsAlone x [] audit [])
    → StandsAlone head side [] (record { audit = audit; broken = None })
stands_first head side audit is_head same keeps wire house = (same, ([], keeps (setup_of head wire) (begun_so head wire is_head house)))

module _ (head : Head) (side : Side) (lines : List TraceLine) (line : TraceLine) where
  -- a trace that broke off goes on so
  pub stays_broken : (audit new : AuditAlone) (broken : Break) → StandsAlone head side (steps_of lines)
      (record { audit = audit; broken = Some broken })
      → StandsAlone head side (steps_of (line ∷ lines)) (record { audit = new; broken = Some broken })
  stays_broken audit new broken stands wire house = let b = stands wire house in record {
    before = b.before;
    line = b.line;
    after = line.step ∷ b.after;
    session = b.session;
    lines_are = ap (λ steps. line.step ∷ steps) b.lines_are;
    number_is = b.number_is;
    tells = b.tells;
    breaks = b.breaks;
  }

  goes_over : (x : Setup) (audit new : AuditAlone) → JudgesAlone audit new line.step None → StandsAloneOver x side (steps_of lines) audit None
      → StandsAloneOver x side (steps_of (line ∷ lines)) new None
  goes_over x audit new judges (same, (h, keeps)) = let j = judges x (steps_of lines) h keeps in (j.0 ∙ same, (j.1.0 ∷ h, j.1.1.1))

  -- a line that breaks no rule
  pub goes_on : (audit new : AuditAlone) → JudgesAlone audit new line.step None → StandsAlone head side (steps_of lines)
      (record { audit = audit; broken = None })
      → StandsAlone head side (steps_of (line ∷ lines)) (record { audit = new; broken = None })
  goes_on audit new judges stands wire house = goes_over (setup_of head wire) audit new judges (stands wire house)

  breaks_over : (x : Setup) (audit new : AuditAlone) (number : ℕ) (rule : Rule) → number ≡ suc (length (line ∷ lines))
      → JudgesAlone audit new line.step (Some rule)
      → StandsAloneOver x side (steps_of lines) audit None → BreaksOffAlone x side (steps_of (line ∷ lines)) number rule
  breaks_over x audit new number rule count judges (same, (h, keeps)) = record {
    before = steps_of lines;
    line = line.step;
    after = [];
    session = h;
    lines_are = refl;
    number_is = count ∙ ap (λ n. suc (suc n)) (sym (length-map lines (λ l. l.step)));
    tells = subst (λ side. TellHistory x side (steps_of lines) h) same keeps.tells;
    breaks = subst (λ side. BreaksHistory x side (steps_of lines) line.step h rule) same (judges x (steps_of lines) h keeps);
  }

  -- one that breaks a rule
  pub breaks_off : (audit new : AuditAlone) (number : ℕ) (rule : Rule) → number ≡ suc (length (line ∷ lines)) → JudgesAlone audit new line.step
      (Some rule)
      → StandsAlone head side (steps_of lines) (record { audit = audit; broken = None })
      → StandsAlone head side (steps_of (line ∷ lines)) (record { audit = new; broken = Some (record { line = number; rule = rule }) })
  breaks_off audit new number rule count judges stands wire house = breaks_over (setup_of head wire) audit new number rule count judges
      (stands wire house)

-- as the progress is kept
module _ (head : Head) (side : Side) (lines : List TraceLine) (line : TraceLine) (old : ProgressAlone) where
  pub still_broken : is_some old.broken ≡ true → StandsAlone head side (steps_of lines) old → StandsAlone head side (steps_of (line ∷ lines)) old
  still_broken e stands = go old.broken e stands
    where
      go : (o : Option Break) → is_some o ≡ true → StandsAlone head side (steps_of lines) (record { audit = old.audit; broken = o })
          → StandsAlone head side (steps_of (line ∷ lines)) (record { audit = old.audit; broken = o })
      go None e stands = absurd (cc)
      go (Some broken) e stands = stays_broken head side lines line old.audit old.audit broken stands

  pub broken_now : is_some old.broken ≡ false → (new : AuditAlone) (number : ℕ) (rule : Rule) → number ≡ suc (length (line ∷ lines))
      → JudgesAlone old.audit new line.step (Some rule)
      → StandsAlone head side (steps_of lines) old → StandsAlone head side (steps_of (line ∷ lines))
      (record { audit = new; broken = Some (record { line = number; rule = rule }) })
  broken_now e new number rule count judges stands = go old.broken e stands
    where
      go : (o : Option Break) → is_some o ≡ false → StandsAlone head side (steps_of lines) (record { audit = old.audit; broken = o })
          → StandsAlone head side (steps_of (line ∷ lines)) (record { audit = new; broken = Some (record { line = number; rule = rule }) })
      go None e stands = breaks_off head side lines line old.audit new number rule count judges stands
      go (Some broken) e stands = absurd (cc)

-- ---- the one verdict

one_audited : TracesAreToldOnce → VerdictAloneIsOne → HasWire → (side : Side) (trace : TraceText) (u v : VerdictAlone) → IsAuditedAlone side trace u
    → IsAuditedAlone side trace v → u ≡ v
one_audited once one wires side trace u v a b =
    let same = (once trace.only trace.text trace.head trace.head a.lines b.lines a.told b.told).1 in
    let wire = wires trace.head.limits.frame in
    let x = setup_of trace.head wire.0 in
    one x side (steps_of b.lines) u v (subst (λ (ls : List TraceLine). IsVerdictAlone x side (steps_of ls) u) same (a.comes_to wire.0 wire.1))
    (b.comes_to wire.0 wire.1)

-- a trace of one end comes to this verdict and to no other
pub audited_alone : TracesAreToldOnce → VerdictAloneIsOne → HasWire → (side : Side) (trace : TraceText) (lines : List TraceLine) (v : VerdictAlone)
    → HasLines trace lines → ComesToAlone trace.head side (steps_of lines) v → IsTheOne (IsAuditedAlone side trace) v
audited_alone once one wires side trace lines v told comes =
    let is : IsAuditedAlone side trace v = record { lines = lines; told = told; comes_to = comes } in record {
      holds = is;
      only = λ u a. one_audited once one wires side trace u v a is;
    }
