-- Frames that an end says.
use Rattle.std.proofs.Common.{◌≡◌, ◌≤◌, ◌<◌, ◌==◌, ℕ, ◌+◌, Bool, true, false, List, [], ◌∷◌, ◌++◌, length, Option, Some, None, refl, sym, ap, ◌∙◌, subst, option_map, slice_get, map}
use Rattle.std.specs.Prelude.{if◌then◌else◌}
use Rattle.std.proofs.lemmas.Bool.{eqb-true}
use Rattle.hm_message.specs.declared.message.Codec.{Codec}
use Rattle.hm_message.specs.declared.message.Message.{Message}
use Rattle.hd_delivery.specs.declared.vocabulary.Side.{Side}
use Rattle.hd_delivery.specs.Numbers.{most_messages}
use Rattle.hd_delivery.specs.Frames.{LinkFrame}
use Rattle.hd_delivery.specs.Histories.{Config, EndEvent, Lent, is_this, present_link, was_on, lent_frames, sent_messages, codec_of}
use Rattle.hd_delivery.specs.Due.{due}
use Rattle.hd_delivery.specs.Worlds.{config, Event}
use Rattle.hd_delivery.specs.Bytes.{ByteStep, Does, in_frames}
use Rattle.hd_delivery.specs.Sides.{history}
use Rattle.he_wire.specs.Spelling.{spelling}
use Rattle.hd_trace.specs.declared.trace.Rule.{Rule}
use Rattle.hd_trace.specs.declared.trace.Rule.TheVariants as rule
use Rattle.hd_trace.specs.declared.trace.ToldStep.TheVariants.{Lend}
use Rattle.hd_trace.specs.declared.trace.TraceLine.{TraceLine}
use Rattle.hd_trace.specs.Traces.{Setup, clock, steps_of, frames_beside, MayBeside, MakesAt}
use Rattle.hd_trace.specs.Recording.{line_of}
use Rattle.hd_trace.specs.Marks.{lent}
use Rattle.hd_trace.specs.MarkLaws.{MarksFollow, DueIsMarked}
use Rattle.hd_trace.specs.ByMarks.{due_by}
use Rattle.ha_audit.specs.declared.auditor.Audit.{Audit}
use Rattle.ha_audit.specs.declared.auditor.audited_end.AuditedEnd.{AuditedEnd}
use Rattle.ha_audit.specs.declared.auditor.said.SaidOnLink.{SaidOnLink}
use Rattle.ha_audit.specs.AuditState.{AreSent, messages_of, said_on, bytes_of, frames_of, frame_said, IsSaidOn}
use Rattle.ha_audit.specs.AuditKeeps.{KeepsEnd, Keeps, end_of, IsJudged, Judges}
use Rattle.ha_audit.specs.AuditSteps.{LendsSo, Says, Adds}
use Rattle.ha_audit.specs.AuditLaws.{Known, KeptIsKnown}
use Rattle.ha_audit.proofs.AuditLists.{frame_more}
use Rattle.ha_audit.proofs.AuditKnown.{keeps_on}
use Rattle.ha_audit.proofs.AuditRules.{lend_breaks_link, lend_breaks_due}
use Rattle.ha_audit.proofs.AuditPlain.{StaysBeside}
use Rattle.ha_audit.proofs.AuditBytes.{here_is}

-- what is kept of a link by what was said there
said_same : (spell : LinkFrame → List ℕ) (c : Config) (messages : List Message) (old new : Option SaidOnLink) (fs : List LinkFrame)
    → bytes_of new ≡ bytes_of old → frames_of new ≡ frames_of old → IsSaidOn spell c messages old fs → IsSaidOn spell c messages new fs
said_same spell c messages old new fs bytes frames is = record {
  frames_are = ap (map (frame_said c messages)) frames ∙ is.frames_are;
  ends = λ n s at. is.ends n s (subst (λ xs. slice_get xs n ≡ Some s) frames at);
  bytes_are = bytes ∙ is.bytes_are;
  few = subst (λ xs. length xs ≤ most_messages) (sym frames) is.few;
}

module _ (follow : MarksFollow) (x : Setup) (side : Side) (end : AuditedEnd) (h : List ByteStep) (keeps : KeepsEnd x side end h) where
  abbrev c : Config
  c = config side x.terms

  abbrev k : List EndEvent
  k = in_frames x.wire c h

  abbrev spell : LinkFrame → List ℕ
  spell = x.wire.spell x.terms.codec

  module _ (l : ℕ) (f : LinkFrame) (bytes : List ℕ) (new : AuditedEnd) (here : present_link k ≡ Some l) (was : was_on l k ≡ true) (spelled : spell f ≡ bytes) (s : Says c end new l f bytes) where
    adds : Adds end.links new.links l s.frame bytes
    adds = s.links (keeps.links l ∙ was)

    more_there : (m : ℕ) → IsSaidOn spell c (sent_messages k) (said_on new.links m) (lent_frames m (Lent f ∷ k))
    more_there m = go (m == l) refl (adds.bytes_are m) (adds.frames_are m)
      where
        at : (b : Bool) → (m == l) ≡ b → (if b then lent_frames m k ++ f ∷ [] else lent_frames m k) ≡ lent_frames m (Lent f ∷ k)
        at b e = ap (λ b. if b then lent_frames m k ++ f ∷ [] else lent_frames m k) (sym e)
            ∙ ap (λ o. if is_this m o then lent_frames m k ++ f ∷ [] else lent_frames m k) (sym here)

        go : (b : Bool) → (m == l) ≡ b → bytes_of (said_on new.links m) ≡ (if m == l then bytes_of (said_on end.links m) ++ bytes else bytes_of (said_on end.links m))
            → frames_of (said_on new.links m) ≡ (if m == l then frames_of (said_on end.links m) ++ s.frame ∷ [] else frames_of (said_on end.links m))
            → IsSaidOn spell c (sent_messages k) (said_on new.links m) (lent_frames m (Lent f ∷ k))
        go true e p q = let same : m ≡ l = eqb-true m l e in
            subst (IsSaidOn spell c (sent_messages k) (said_on new.links m)) (at true e)
            (frame_more spell c (sent_messages k) (said_on end.links m) (lent_frames m k) (keeps.said m) (said_on new.links m) s.frame f bytes
            (subst (λ ms. frame_said c ms s.frame ≡ Some f) keeps.sent.messages_are s.is_frame) spelled
            (subst (λ n. s.frame.end ≡ length (bytes_of (said_on end.links n)) + length bytes) (sym same) s.ends)
            (p ∙ ap (λ b. if b then bytes_of (said_on end.links m) ++ bytes else bytes_of (said_on end.links m)) e)
            (q ∙ ap (λ b. if b then frames_of (said_on end.links m) ++ s.frame ∷ [] else frames_of (said_on end.links m)) e)
            (subst (λ n. length (frames_of (said_on end.links n)) < most_messages) (sym same) adds.few))
        go false e p q = subst (IsSaidOn spell c (sent_messages k) (said_on new.links m)) (at false e)
            (said_same spell c (sent_messages k) (said_on end.links m) (said_on new.links m) (lent_frames m k)
            (p ∙ ap (λ b. if b then bytes_of (said_on end.links m) ++ bytes else bytes_of (said_on end.links m)) e)
            (q ∙ ap (λ b. if b then frames_of (said_on end.links m) ++ s.frame ∷ [] else frames_of (said_on end.links m)) e) (keeps.said m))

    pub kept_lent : KeepsEnd x side new (Does (Lent f) ∷ h)
    kept_lent = record {
      marks = s.marks ∙ (ap (lent f) keeps.marks ∙ sym ((follow c k).lent l f here));
      codec = keeps.codec;
      sent = subst (λ v. AreSent x.terms.codec v.items (sent_messages k)) (sym s.sent) keeps.sent;
      links = λ m. adds.names m ∙ keeps.links m;
      said = more_there;
      last = s.last ∙ keeps.last;
      read = λ m at. record { fed = s.fed ∙ (keeps.read m at).fed; taken = s.taken ∙ (keeps.read m at).taken };
    }

-- what is due, in the bytes of the wire
pub spelled_by : (spell : LinkFrame → List ℕ) (codec : Codec) (o : Option LinkFrame) (bytes : List ℕ) → ((f : LinkFrame) → spell f ≡ spelling codec f)
    → option_map spell o ≡ Some bytes → option_map (spelling codec) o ≡ Some bytes
spelled_by spell codec None bytes same e = absurd (let z : None ≡ Some bytes = e in cc)
spelled_by spell codec (Some f) bytes same e = ap Some (sym (same f)) ∙ e

pub lend_judged : MarksFollow → DueIsMarked → KeptIsKnown → (side : Side) (old new : Audit) (bytes : List ℕ) (verdict : Option Rule)
    → ((x : Setup) (lines : List TraceLine) (w : List (Event ByteStep)) → Keeps x lines old w → LendsSo (config side x.terms) (end_of side old) (end_of side new) bytes verdict)
    → StaysBeside side old new old.clock → Judges old new (line_of side (Lend bytes)) verdict
lend_judged follow marked knows side old new bytes verdict lends stays x lines w keeps = go verdict (lends x lines w keeps)
  where
    known : Known x lines w
    known = knows x lines old w keeps

    codec_is : (end_of side old).marks.codec ≡ codec_of (config side x.terms) (frames_beside x side w)
    codec_is = ap (λ m. m.codec) (keeps.ends side).marks

    due_is : due (config side x.terms) (frames_beside x side w) ≡ due_by (config side x.terms) (end_of side old).marks (messages_of (end_of side old).sent.items)
    due_is = marked (config side x.terms) (frames_beside x side w) (known.told.faultless side)
        ∙ (ap (λ m. due_by (config side x.terms) m (sent_messages (frames_beside x side w))) (sym (keeps.ends side).marks) ∙ ap (due_by (config side x.terms) (end_of side old).marks) (sym (keeps.ends side).sent.messages_are))

    spells : (f : LinkFrame) → x.wire.spell (codec_of (config side x.terms) (frames_beside x side w)) f ≡ spelling (end_of side old).marks.codec f
    spells f = keeps.begun.is_wire.spells (codec_of (config side x.terms) (frames_beside x side w)) f ∙ ap (λ y. spelling y f) (sym codec_is)

    go : (verdict : Option Rule) → LendsSo (config side x.terms) (end_of side old) (end_of side new) bytes verdict → IsJudged x lines (line_of side (Lend bytes)) w new verdict
    go None (l, f, (here, is, spelled, says)) =
        let at : present_link (frames_beside x side w) ≡ Some l = sym (here_is x side lines old w keeps) ∙ here in
        let makes : MakesAt x side w (clock (steps_of lines)) (Lend bytes) (Does (Lent f)) = record { tells = (f, (refl, spells f ∙ spelled)); allowed = due_is ∙ is } in (
          Does (Lent f),
          (
            makes,
            keeps_on x lines (line_of side (Lend bytes)) old new w (Does (Lent f)) keeps makes stays.head stays.clock stays.there
                (kept_lent follow x side (end_of side old) (history side w) (keeps.ends side) l f bytes (end_of side new) at ((known.facts side).is_where_it_was l at)
                (ap (λ y. x.wire.spell y f) (sym (keeps.ends side).codec) ∙ (spells f ∙ spelled)) says),
          ),
        )
    go (Some rule.Link) b = lend_breaks_link x (MayBeside x side w) (config side x.terms) (frames_beside x side w) (clock (steps_of lines)) bytes (sym (here_is x side lines old w keeps) ∙ b)
    go (Some rule.Due) (l, (here, wrong)) = lend_breaks_due x (MayBeside x side w) (config side x.terms) (frames_beside x side w) (clock (steps_of lines)) l (sym (here_is x side lines old w keeps) ∙ here) bytes
        (λ e. wrong (subst (λ o. option_map (spelling (end_of side old).marks.codec) o ≡ Some bytes) due_is
        (spelled_by (x.wire.spell (codec_of (config side x.terms) (frames_beside x side w))) (end_of side old).marks.codec (due (config side x.terms) (frames_beside x side w)) bytes spells e)))
    go (Some rule.State) b = absurd b
    go (Some rule.Bytes) b = absurd b
    go (Some rule.Took) b = absurd b
    go (Some rule.Room) b = absurd b
