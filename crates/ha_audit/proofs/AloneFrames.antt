-- Frames that an end alone says.
use Rattle.std.proofs.Common.{◌≡◌, ◌<◌, ℕ, List, length, max, Option, Some, None, IfSome, refl, sym, ap, ◌∙◌, subst, arith, option_map}
use Rattle.hd_delivery.specs.Numbers.{most_of_64_bits}
use Rattle.hd_delivery.specs.Frames.{LinkFrame}
use Rattle.hd_delivery.specs.Histories.{Config, Lent, present_link, sent_messages, codec_of}
use Rattle.hd_delivery.specs.HistoryLaws.{UnreadStays}
use Rattle.hd_delivery.specs.Due.{due}
use Rattle.hd_delivery.specs.Worlds.{config}
use Rattle.hd_delivery.specs.Bytes.{Does}
use Rattle.he_wire.specs.Spelling.{spelling}
use Rattle.hd_trace.specs.declared.trace.Rule.{Rule}
use Rattle.hd_trace.specs.declared.trace.Rule.TheVariants as rule
use Rattle.hd_trace.specs.declared.trace.ToldStep.TheVariants.{Lend}
use Rattle.hd_trace.specs.Traces.{clock}
use Rattle.hd_trace.specs.Alone.{frames_alone, MayAlone}
use Rattle.hd_trace.specs.Marks.{marks_of}
use Rattle.hd_trace.specs.MarkLaws.{MarksFollow, DueIsMarked}
use Rattle.hd_trace.specs.ByMarks.{due_by}
use Rattle.hd_trace.specs.Owed.{HasNextNumbers}
use Rattle.ha_audit.specs.declared.alone.auditor.AuditAlone.{AuditAlone}
use Rattle.ha_audit.specs.AuditState.{messages_of}
use Rattle.ha_audit.specs.AuditSteps.{LendsSo}
use Rattle.ha_audit.specs.AloneKeeps.{KnownAlone, KeptAloneIsKnown, IsJudgedAlone, JudgesAlone}
use Rattle.ha_audit.proofs.AuditLists.{as_many}
use Rattle.ha_audit.proofs.AuditFrames.{spelled_by}
use Rattle.ha_audit.proofs.AuditRules.{lend_breaks_link, lend_breaks_due}
use Rattle.ha_audit.proofs.AloneNumbers.{due_low, said_told}
use Rattle.ha_audit.proofs.AloneKept.{kept_lent}
use Rattle.ha_audit.proofs.AlonePlain.{StaysAlone, plain_on}

-- what the end's own step says of each history that is kept
abbrev pub LendsAlone : AuditAlone → AuditAlone → List ℕ → Option Rule → Type 0
LendsAlone old new bytes verdict = (c : Config) → c.side ≡ old.side → c.codec ≡ old.head.codec → c.version ≡ old.head.version
    → length old.end.sent.items ≡ old.end.marks.sent
    → HasNextNumbers old.end.marks → LendsSo c old.end new.end bytes verdict

pub lend_judged : MarksFollow → DueIsMarked → KeptAloneIsKnown → UnreadStays → (old new : AuditAlone) (bytes : List ℕ) (verdict : Option Rule)
    → LendsAlone old new bytes verdict → StaysAlone old new old.clock → JudgesAlone old new (Lend bytes) verdict
lend_judged follow marked knows stay old new bytes verdict lends stays x steps h keeps =
    go verdict (lends (config old.side x.terms) refl (keeps.begun.codec old.side) (keeps.begun.version old.side)
    (as_many (codec_of (config old.side x.terms) (frames_alone x old.side h)) old.end.sent.items
    (sent_messages (frames_alone x old.side h)) keeps.kept.sent ∙ sym (ap (λ m. m.sent) keeps.kept.marks)) numbers)
  where
    known : KnownAlone x old.side (clock steps) h
    known = knows x steps old h keeps

    numbers : HasNextNumbers old.end.marks
    numbers = record {
      place = subst (λ m. max m.acked m.written < most_of_64_bits) (sym keeps.kept.marks)
          (let acked = known.facts.acked_were_lent in let written = known.facts.written_were_lent in let lent = known.facts.lent_were_sent in
          let sent = known.facts.sent_are_few in omega arith);
      number = subst (λ m. IfSome m.said (λ n. n < most_of_64_bits)) (sym keeps.kept.marks)
          (said_told (marks_of (config old.side x.terms) (frames_alone x old.side h))
          (let acked = known.facts.acked_were_lent in let written = known.facts.written_were_lent in let lent = known.facts.lent_were_sent in
          let sent = known.facts.sent_are_few in omega arith) keeps.kept.near);
    }

    due_is : due (config old.side x.terms) (frames_alone x old.side h) ≡ due_by (config old.side x.terms) old.end.marks
        (messages_of old.end.sent.items)
    due_is = marked (config old.side x.terms) (frames_alone x old.side h) known.told.faultless
        ∙ (ap (λ m. due_by (config old.side x.terms) m (sent_messages (frames_alone x old.side h))) (sym keeps.kept.marks) ∙ ap
        (due_by (config old.side x.terms) old.end.marks) (sym keeps.kept.sent.messages_are))

    spells : (f : LinkFrame) → x.wire.spell (codec_of (config old.side x.terms) (frames_alone x old.side h)) f ≡ spelling old.end.marks.codec f
    spells f = keeps.begun.is_wire.spells (codec_of (config old.side x.terms) (frames_alone x old.side h)) f ∙ ap (λ y. spelling y f)
        (sym (ap (λ m. m.codec) keeps.kept.marks))

    go : (verdict : Option Rule) → LendsSo (config old.side x.terms) old.end new.end bytes verdict → IsJudgedAlone x steps
        (Lend bytes) h old new verdict
    go None (l, f, (here, is, spelled, says)) =
        let at : present_link (frames_alone x old.side h) ≡ Some l = sym (ap (λ m. m.link) keeps.kept.marks) ∙ here in
        plain_on x steps (Lend bytes) old new h (Does (Lent f)) keeps
        (record { tells = (f, (refl, spells f ∙ spelled)); allowed = (due_is ∙ is, tt) }) stays
        (kept_lent follow x old.side old.end old.splitter old.over h keeps.kept stay l f bytes new.end at (known.facts.is_where_it_was l at)
        (due_low (config old.side x.terms) (marks_of (config old.side x.terms) (frames_alone x old.side h)) (messages_of old.end.sent.items) f
        (subst (λ m. due_by (config old.side x.terms) m (messages_of old.end.sent.items) ≡ Some f) keeps.kept.marks is)) says)
    go (Some rule.Link) b = lend_breaks_link x (MayAlone x old.side h) (config old.side x.terms) (frames_alone x old.side h) (clock steps) bytes
        (sym (ap (λ m. m.link) keeps.kept.marks) ∙ b)
    go (Some rule.Due) (l, (here, wrong)) = lend_breaks_due x (MayAlone x old.side h) (config old.side x.terms) (frames_alone x old.side h)
        (clock steps) l (sym (ap (λ m. m.link) keeps.kept.marks) ∙ here) bytes
        (λ e. wrong (subst (λ o. option_map (spelling old.end.marks.codec) o ≡ Some bytes) due_is
        (spelled_by (x.wire.spell (codec_of (config old.side x.terms) (frames_alone x old.side h))) old.end.marks.codec
        (due (config old.side x.terms) (frames_alone x old.side h)) bytes spells e)))
    go (Some rule.State) b = absurd b
    go (Some rule.Bytes) b = absurd b
    go (Some rule.Took) b = absurd b
    go (Some rule.Room) b = absurd b
