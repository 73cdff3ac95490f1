-- A trace that is judged line by line.
use Rattle.std.proofs.Common.{◌≡◌, ◌∷◌, ℕ, suc, true, false, List, [], length, is_some, Option, Some, None, refl, sym, ap, subst}
use Rattle.hd_facts.specs.Unique.{IsTheOne}
use Rattle.hd_delivery.specs.declared.vocabulary.Side.{Side}
use Rattle.hd_delivery.specs.declared.vocabulary.Side.TheVariants.{Client, Server}
use Rattle.hd_delivery.specs.Worlds.{codec_at, version_at}
use Rattle.hd_delivery.specs.Bytes.{Wire}
use Rattle.he_wire.specs.Laws.{HasWire}
use Rattle.he_wire.specs.Wires.{IsHouseWire}
use Rattle.hd_trace.specs.declared.trace.Rule.{Rule}
use Rattle.hd_trace.specs.declared.trace.TraceLine.{TraceLine}
use Rattle.hd_trace.specs.declared.verdict.Verdict.{Verdict}
use Rattle.hd_trace.specs.Traces.{Setup}
use Rattle.hd_trace.specs.Breaking.{BreaksOff}
use Rattle.hd_trace.specs.Verdicts.{IsVerdict, VerdictIsOne}
use Rattle.ha_audit.specs.declared.auditor.Audit.{Audit}
use Rattle.ha_audit.specs.declared.head.Head.{Head}
use Rattle.ha_audit.specs.declared.verdict.Break.{Break}
use Rattle.ha_audit.specs.Grammar.{IsHead}
use Rattle.ha_audit.specs.Laws.{TracesAreToldOnce}
use Rattle.ha_audit.specs.Reading.{TraceText, HasLines}
use Rattle.ha_audit.specs.AuditKeeps.{IsBegunSo, Judges, Keeps}
use Rattle.ha_audit.specs.AuditVerdict.{ComesTo, IsAudited, Stands, setup_of}

-- ---- before the first line

begun_so : (head : Head) (wire : Wire) → IsHead head → IsHouseWire head.limits.frame wire → IsBegunSo (setup_of head wire) head
begun_so head wire is house = record {
  limits = refl;
  codec = λ side. codec_is side;
  version = λ side. version_is side;
  reconnect = refl;
  words = refl;
  is_wire = house;
  in_range = is.limits;
  is_version = is.version;
}
  where
    codec_is : (side : Side) → codec_at side (setup_of head wire).terms ≡ head.codec
    codec_is Client = refl
    codec_is Server = refl

    version_is : (side : Side) → version_at side (setup_of head wire).terms ≡ head.version
    version_is Client = refl
    version_is Server = refl

pub stands_first : (head : Head) (a : Audit) → IsHead head → a.head ≡ head → ((x : Setup) → IsBegunSo x a.head → Keeps x [] a [])
    → Stands head [] (record { audit = a; broken = None })
stands_first head a is same kept wire house =
    ([], kept (setup_of head wire) (subst (IsBegunSo (setup_of head wire)) (sym same) (begun_so head wire is house)))

-- ---- one line more

-- lines that broke off do so at the same line with one more
later : (x : Setup) (lines : List TraceLine) (line : TraceLine) (number : ℕ) (r : Rule) → BreaksOff x lines number r
    → BreaksOff x (line ∷ lines) number r
later x lines line number r b = record {
  before = b.before;
  line = b.line;
  after = line ∷ b.after;
  session = b.session;
  lines_are = ap (λ (ls : List TraceLine). line ∷ ls) b.lines_are;
  number_is = b.number_is;
  tells = b.tells;
  breaks = b.breaks;
}

pub stands_broken : (head : Head) (lines : List TraceLine) (line : TraceLine) (a : Audit) (broken : Option Break) → is_some broken ≡ true
    → Stands head lines (record { audit = a; broken = broken }) → Stands head (line ∷ lines) (record { audit = a; broken = broken })
stands_broken head lines line a None is s = absurd (let z : false ≡ true = is in cc)
stands_broken head lines line a (Some broken) is s = λ wire house. later (setup_of head wire) lines line broken.line broken.rule (s wire house)

pub stands_off : (head : Head) (lines : List TraceLine) (line : TraceLine) (old new : Audit) (before : Option Break) (r : Rule) (number : ℕ)
    → is_some before ≡ false → Judges old new line (Some r) → number ≡ suc (length (line ∷ lines))
    → Stands head lines (record { audit = old; broken = before })
    → Stands head (line ∷ lines) (record { audit = new; broken = Some (record { line = number; rule = r }) })
stands_off head lines line old new (Some broken) r number is judges at s = absurd (let z : true ≡ false = is in cc)
stands_off head lines line old new None r number is judges at s = λ wire house.
    let kept = s wire house in record {
      before = lines;
      line = line;
      after = [];
      session = kept.0;
      lines_are = refl;
      number_is = at;
      tells = kept.1.tells;
      breaks = judges (setup_of head wire) lines kept.0 kept.1;
    }

-- ---- the one verdict

-- a trace comes to one verdict at most
one_audited : TracesAreToldOnce → VerdictIsOne → HasWire → (trace : TraceText) (u v : Verdict) → IsAudited trace u → IsAudited trace v → u ≡ v
one_audited once one wires trace u v a b =
    let same = (once trace.only trace.text trace.head trace.head a.lines b.lines a.told b.told).1 in
    let wire = wires trace.head.limits.frame in
    let x = setup_of trace.head wire.0 in
    one x b.lines u v (subst (λ ls. IsVerdict x ls u) same (a.comes_to wire.0 wire.1)) (b.comes_to wire.0 wire.1)

pub audited : TracesAreToldOnce → VerdictIsOne → HasWire → (trace : TraceText) (lines : List TraceLine) (v : Verdict) → HasLines trace lines
    → ComesTo trace.head lines v → IsTheOne (IsAudited trace) v
audited once one wires trace lines v told comes =
    let is : IsAudited trace v = record { lines = lines; told = told; comes_to = comes } in record {
      holds = is;
      only = λ u a. one_audited once one wires trace u v a is;
    }
