-- What a step of an end makes of what is kept of it.
use Rattle.std.proofs.Common.{◌≡◌, ◌≤◌, ℕ, ◌+◌, Bool, true, false, ◌==◌, ◌||◌, List, [], ◌∷◌, ◌++◌, length, Some, None, refl, sym, ap, ◌∙◌, subst, length-append, is_some}
use Rattle.std.specs.Prelude.{if◌then◌else◌}
use Rattle.std.proofs.lemmas.Bool.{eqb-true, eq-eqb}
use Rattle.hm_message.specs.declared.message.Message.{Message}
use Rattle.hm_codec.specs.Frames.{IsSaid}
use Rattle.hd_delivery.specs.declared.vocabulary.Reason.{Reason}
use Rattle.hd_delivery.specs.declared.vocabulary.Side.{Side}
use Rattle.hd_delivery.specs.Histories.{Config, EndEvent, Attached, Detached, Sent, Ticked, Silenced, Closed, is_this, present_link, was_on, fed_frames, lent_frames, taken_count, sent_messages}
use Rattle.hd_delivery.specs.HistoryLaws.{UnusedIsUntouched}
use Rattle.hd_delivery.specs.AloneLaws.{UnusedIsEmpty}
use Rattle.hd_delivery.specs.Laws.{FedIsUnseen}
use Rattle.hd_delivery.specs.Worlds.{config}
use Rattle.hd_delivery.specs.Bytes.{ByteStep, Bytes, Does, bytes_on, in_frames}
use Rattle.hd_trace.specs.Traces.{Setup}
use Rattle.hd_trace.specs.Marks.{attached, left, heard_something, ticked, sent_one, closed_for}
use Rattle.hd_trace.specs.MarkLaws.{MarksFollow}
use Rattle.ha_audit.specs.declared.auditor.audited_end.AuditedEnd.{AuditedEnd}
use Rattle.ha_audit.specs.declared.auditor.said.SaidOnLink.{SaidOnLink}
use Rattle.ha_audit.specs.AuditState.{AreSent, said_on, has_link, IsSaidOn, framed_size, sum_of_first}
use Rattle.ha_audit.specs.AuditKeeps.{KeepsEnd}
use Rattle.ha_audit.specs.AuditSteps.{Attaches, SendsOne}
use Rattle.ha_audit.proofs.AuditLists.{sent_more, message_more, said_none}

module _ (follow : MarksFollow) (x : Setup) (side : Side) (end : AuditedEnd) (h : List ByteStep)
    (keeps : KeepsEnd x side end h) where
  -- the end as it was begun, and its history in frames
  abbrev c : Config
  c = config side x.terms

  abbrev k : List EndEvent
  k = in_frames x.wire c h

  -- ---- steps that change the marks alone

  -- the link is lost
  pub kept_detached : (now : ℕ) (new : AuditedEnd) → new ≡ record end { marks = left now end.marks } → KeepsEnd x side new (Does (Detached now) ∷ h)
  kept_detached now new e = subst (λ n. KeepsEnd x side n (Does (Detached now) ∷ h)) (sym e) (record {
    marks = ap (left now) keeps.marks ∙ sym ((follow c k).detached now);
    codec = keeps.codec;
    sent = keeps.sent;
    links = keeps.links;
    said = keeps.said;
    last = keeps.last;
    read = λ l here. absurd (let z : None ≡ Some l = here in cc);
  })

  pub kept_silenced : (now : ℕ) (new : AuditedEnd) → new ≡ record end { marks = left now end.marks } → KeepsEnd x side new (Does (Silenced now) ∷ h)
  kept_silenced now new e = subst (λ n. KeepsEnd x side n (Does (Silenced now) ∷ h)) (sym e) (record {
    marks = ap (left now) keeps.marks ∙ sym ((follow c k).silenced now);
    codec = keeps.codec;
    sent = keeps.sent;
    links = keeps.links;
    said = keeps.said;
    last = keeps.last;
    read = λ l here. absurd (let z : None ≡ Some l = here in cc);
  })

  -- a moment came
  pub kept_ticked : (now : ℕ) (new : AuditedEnd) → new ≡ record end { marks = ticked now end.marks } → KeepsEnd x side new (Does (Ticked now) ∷ h)
  kept_ticked now new e = subst (λ n. KeepsEnd x side n (Does (Ticked now) ∷ h)) (sym e) (record {
    marks = ap (ticked now) keeps.marks ∙ sym ((follow c k).ticked now);
    codec = keeps.codec;
    sent = keeps.sent;
    links = keeps.links;
    said = keeps.said;
    last = keeps.last;
    read = λ l here. record { fed = (keeps.read l here).fed; taken = (keeps.read l here).taken };
  })

  -- its own side closed it
  pub kept_closed : (reason : Reason) (allow : Bool) (new : AuditedEnd) → new ≡ record end { marks = closed_for reason allow end.marks }
      → KeepsEnd x side new (Does (Closed reason allow) ∷ h)
  kept_closed reason allow new e = subst (λ n. KeepsEnd x side n (Does (Closed reason allow) ∷ h)) (sym e) (record {
    marks = ap (closed_for reason allow) keeps.marks ∙ sym ((follow c k).closed reason allow);
    codec = keeps.codec;
    sent = keeps.sent;
    links = keeps.links;
    said = keeps.said;
    last = keeps.last;
    read = λ l here. record { fed = (keeps.read l here).fed; taken = (keeps.read l here).taken };
  })

  -- ---- a new link

  new_name : (m l : ℕ) (said : SaidOnLink) → has_link end.links m ≡ was_on m k
      → is_some (if m == l then Some said else said_on end.links m) ≡ ((m == l) || was_on m k)
  new_name m l said e = go (m == l)
    where
      go : (b : Bool) → is_some (if b then Some said else said_on end.links m) ≡ (b || was_on m k)
      go true = refl
      go false = e

  said_there : UnusedIsUntouched → (m l : ℕ) (said : SaidOnLink) → was_on l k ≡ false → said.bytes.items ≡ [] → said.frames.items ≡ []
      → IsSaidOn (x.wire.spell x.terms.codec) c (sent_messages k) (if m == l then Some said else said_on end.links m) (lent_frames m k)
  said_there unused m l said new bytes frames = go (m == l) refl
    where
      go : (b : Bool) → (m == l) ≡ b → IsSaidOn (x.wire.spell x.terms.codec) c (sent_messages k) (if b then Some said else said_on end.links m) (lent_frames m k)
      go true e = let same : m ≡ l = eqb-true m l e in
          subst (IsSaidOn (x.wire.spell x.terms.codec) c (sent_messages k) (Some said)) (sym ((unused k m (subst (λ n. was_on n k ≡ false) (sym same) new)).lent))
          (said_none (x.wire.spell x.terms.codec) c (sent_messages k) (Some said) bytes frames)
      go false e = keeps.said m

  pub kept_attached : UnusedIsUntouched → UnusedIsEmpty → (l now : ℕ) (new : AuditedEnd) → was_on l k ≡ false → Attaches end new l now
      → KeepsEnd x side new (Does (Attached l now) ∷ h)
  kept_attached untouched empty l now new unused a = record {
    marks = a.marks ∙ (ap (attached l now) keeps.marks ∙ sym ((follow c k).attached l now unused));
    codec = keeps.codec;
    sent = subst (λ v. AreSent x.terms.codec v.items (sent_messages k)) (sym a.sent) keeps.sent;
    links = λ m. ap is_some (a.links.links m) ∙ new_name m l a.links.said (keeps.links m);
    said = λ m. subst (λ o. IsSaidOn (x.wire.spell x.terms.codec) c (sent_messages k) o (lent_frames m k)) (sym (a.links.links m))
        (said_there untouched m l a.links.said unused a.links.no_bytes a.links.no_frames);
    last = a.last;
    read = λ m here. let same : l ≡ m = (let z : Some l ≡ Some m = here in cc) in record {
      fed = a.fed ∙ sym (ap length ((empty x.wire c h m (subst (λ n. was_on n k ≡ false) same unused)).1));
      taken = a.taken ∙ sym ((untouched k m (subst (λ n. was_on n k ≡ false) same unused)).taken);
    };
  }

  -- ---- bytes that are fed

  same_link : (m l : ℕ) → present_link k ≡ Some l → present_link k ≡ Some m → m ≡ l
  same_link m l p q = let z : Some m ≡ Some l = sym q ∙ p in cc

  grows_there : FedIsUnseen → (m : ℕ) (piece : List ℕ) → present_link k ≡ Some m → bytes_on m (Bytes piece ∷ h) ≡ bytes_on m h ++ piece
  grows_there unseen m piece here = ap (λ o. if is_this m o then bytes_on m h ++ piece else bytes_on m h) (sym (unseen x.wire c h).link ∙ here)
      ∙ ap (λ b. if b then bytes_on m h ++ piece else bytes_on m h) (eq-eqb m m refl)

  pub kept_fed : FedIsUnseen → (l : ℕ) (piece : List ℕ) (new : AuditedEnd) → present_link k ≡ Some l → taken_count l k ≤ length (fed_frames l k)
      → new ≡ record end { marks = heard_something end.marks; fed = end.fed + length piece } → KeepsEnd x side new (Bytes piece ∷ h)
  kept_fed unseen l piece new here low e = subst (λ n. KeepsEnd x side n (Bytes piece ∷ h)) (sym e) (record {
    marks = ap heard_something keeps.marks ∙ sym ((follow c k).fed l _ here low);
    codec = keeps.codec;
    sent = keeps.sent;
    links = keeps.links;
    said = keeps.said;
    last = keeps.last;
    read = λ m at. record {
      fed = ap (λ n. n + length piece) (keeps.read m at).fed ∙ (sym (length-append (bytes_on m h) piece) ∙ ap length (sym (grows_there unseen m piece at)));
      taken = (keeps.read m at).taken;
    };
  })

  -- ---- a message that is sent

  pub kept_sent : (m : Message) (new : AuditedEnd) → SendsOne end new m → KeepsEnd x side new (Does (Sent m) ∷ h)
  kept_sent m new s = record {
    marks = s.marks ∙ (ap sent_one keeps.marks ∙ sym ((follow c k).sent m));
    codec = keeps.codec;
    sent = subst (λ v. AreSent x.terms.codec v (sent_messages k ++ m ∷ [])) (sym s.sent)
        (sent_more x.terms.codec end.sent.items (sent_messages k) keeps.sent s.last m s.message
        (subst (λ codec. s.last.sum ≡ sum_of_first end.sent.items (length end.sent.items) + framed_size codec m) codec_is s.sum) (subst (λ codec. IsSaid codec m) codec_is s.is_said));
    links = λ l. ap (λ v. has_link v l) s.links ∙ keeps.links l;
    said = λ l. subst (λ v. IsSaidOn (x.wire.spell x.terms.codec) c (sent_messages k ++ m ∷ []) (said_on v l) (lent_frames l k)) (sym s.links)
        (message_more (x.wire.spell x.terms.codec) c (sent_messages k) (said_on end.links l) (lent_frames l k) (keeps.said l) m);
    last = s.last_is ∙ keeps.last;
    read = λ l here. record { fed = s.fed ∙ (keeps.read l here).fed; taken = s.taken ∙ (keeps.read l here).taken };
  }
    where
      codec_is : end.marks.codec ≡ x.terms.codec
      codec_is = ap (λ m. m.codec) keeps.marks ∙ keeps.codec
