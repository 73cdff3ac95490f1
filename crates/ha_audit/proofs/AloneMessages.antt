-- Messages that an end alone is handed to send.
use Rattle.std.proofs.Common.{inl, inr, ⊎_elim, ◌≡◌, ◌≤◌, Bool, true, false, List, length, take, sum_by, Option, Some, None, refl, sym, ap, ◌∙◌, subst, arith}
use Rattle.std.specs.Prelude.{if◌then◌else◌}
use Rattle.std.proofs.lemmas.List.Sums.{sum_by-le-sum_by}
use Rattle.hm_message.specs.declared.message.Codec.{Codec}
use Rattle.hm_message.specs.declared.message.Message.{Message}
use Rattle.hm_codec.specs.Frames.{frame_of}
use Rattle.hd_delivery.specs.Frames.{Numbered}
use Rattle.hd_delivery.specs.Histories.{Config, EndEvent, Sent, sent_messages, codec_of, is_shaken, is_resumable, acked_count, most_lent}
use Rattle.hd_delivery.specs.HistoryLaws.{HistoryFacts, UnreadStays}
use Rattle.hd_delivery.specs.Worlds.{config, Limits, HasRoom, IsAsRead, MaySend}
use Rattle.hd_delivery.specs.Bytes.{ByteStep, Does, sizes_of}
use Rattle.hd_trace.specs.declared.trace.Rule.{Rule}
use Rattle.hd_trace.specs.declared.trace.Rule.TheVariants as rule
use Rattle.hd_trace.specs.declared.trace.ToldStep.{ToldStep}
use Rattle.hd_trace.specs.declared.trace.ToldStep.TheVariants.{Send}
use Rattle.hd_trace.specs.Traces.{Setup, clock}
use Rattle.hd_trace.specs.Alone.{frames_alone, MayAlone}
use Rattle.hd_trace.specs.MarkLaws.{MarksFollow}
use Rattle.hd_trace.specs.ByNumbers.{RoomByNumbers, released}
use Rattle.ha_audit.specs.declared.alone.auditor.AuditAlone.{AuditAlone}
use Rattle.ha_audit.specs.declared.auditor.audited_end.AuditedEnd.{AuditedEnd}
use Rattle.ha_audit.specs.Grammar.{HasText}
use Rattle.ha_audit.specs.AuditState.{framed_size, sum_of_first}
use Rattle.ha_audit.specs.AuditSteps.{HasRoomFor, SendsSo, CanSend, released_by}
use Rattle.ha_audit.specs.AloneKeeps.{KeepsAlone, KeptAloneIsKnown, JudgesAlone}
use Rattle.ha_audit.proofs.AuditLists.{sum_is, sum_of_all}
use Rattle.ha_audit.proofs.AuditRules.{send_breaks_state, send_breaks_room}
use Rattle.ha_audit.proofs.AloneKept.{kept_sent}
use Rattle.ha_audit.proofs.AlonePlain.{StaysAlone, plain_on}

module _ (room : RoomByNumbers) (x : Setup) (steps : List ToldStep) (a : AuditAlone) (h : List ByteStep) (keeps : KeepsAlone x steps a h)
    (facts : HistoryFacts (config a.side x.terms) (frames_alone x a.side h)) where
  abbrev e : AuditedEnd
  e = a.end

  abbrev c : Config
  c = config a.side x.terms

  abbrev k : List EndEvent
  k = frames_alone x a.side h

  abbrev codec : Codec
  codec = codec_of c k

  codec_is : e.marks.codec ≡ codec
  codec_is = ap (λ m. m.codec) keeps.kept.marks

  -- the size of a message over the wire
  pub size_is : (m : Message) → (sizes_of x.wire).framed (codec_of c k) m ≡ framed_size codec m
  size_is m = ap length (keeps.begun.is_wire.spells (codec_of c k) (Numbered m))

  sizes_are : (ms : List Message) → sum_by ((sizes_of x.wire).framed (codec_of c k)) ms ≡ sum_by (framed_size codec) ms
  sizes_are ms =
      let up = sum_by-le-sum_by ((sizes_of x.wire).framed (codec_of c k)) (framed_size codec) ms (λ m. let e = size_is m in omega arith) in
      let down = sum_by-le-sum_by (framed_size codec) ((sizes_of x.wire).framed (codec_of c k)) ms (λ m. let e = size_is m in omega arith) in
      omega arith

  shaken_is : e.marks.shaken ≡ is_shaken k
  shaken_is = ap (λ m. m.shaken) keeps.kept.marks

  sent_is : e.marks.sent ≡ length (sent_messages k)
  sent_is = ap (λ m. m.sent) keeps.kept.marks

  released_is : released_by e.marks ≡ released c k
  released_is = ap released_by keeps.kept.marks

  released_low : released c k ≤ length (sent_messages k)
  released_low = go (is_resumable c k)
    where
      go : (b : Bool) → (if b then acked_count k else most_lent k) ≤ length (sent_messages k)
      go true = let low = facts.acked_were_lent in let lent = facts.lent_were_sent in omega arith
      go false = facts.lent_were_sent

  -- the sums
  all_is : sum_of_first e.sent.items (length e.sent.items) ≡ sum_by ((sizes_of x.wire).framed (codec_of c k)) (sent_messages k)
  all_is = sum_of_all codec e.sent.items (sent_messages k) keeps.kept.sent ∙ sym (sizes_are (sent_messages k))

  front_is : sum_of_first e.sent.items (released_by e.marks) ≡ sum_by ((sizes_of x.wire).framed (codec_of c k))
      (take (released c k) (sent_messages k))
  front_is = ap (sum_of_first e.sent.items) released_is
      ∙ (sum_is codec e.sent.items (sent_messages k) keeps.kept.sent (released c k) released_low ∙ sym
      (sizes_are (take (released c k) (sent_messages k))))

  module _ (m : Message) where
    here_size : framed_size e.marks.codec m ≡ (sizes_of x.wire).framed (codec_of c k) m
    here_size = ap (λ y. framed_size y m) codec_is ∙ sym (size_is m)

    short_is : length (frame_of e.marks.codec m) ≡ (sizes_of x.wire).frame (codec_of c k) m
    short_is = ap (λ y. length (frame_of y m)) codec_is ∙ sym (keeps.begun.is_wire.sizes (codec_of c k) m)

    -- there is room in the world
    has_room : (limits : Limits) → x.limits ≡ limits → HasRoomFor e limits m → HasRoom x.limits (sizes_of x.wire) c k
        ((sizes_of x.wire).framed (codec_of c k) m)
    has_room limits same r = (room x.limits (sizes_of x.wire) c k ((sizes_of x.wire).framed (codec_of c k) m) released_low).1 (
      (let few = r.of_count in let n = ap (λ l. l.count) same in let sent = sent_is in let free = released_is in omega (arith, few, n, sent, free)),
      (let few = r.of_bytes in let n = ap (λ l. l.bytes) same in let all = all_is in let front = front_is in let size = here_size in omega
          (arith, few, n, all, front, size)),
    )

    room_for : (limits : Limits) → x.limits ≡ limits → MaySend x.limits (sizes_of x.wire) c k m → HasRoomFor e limits m
    room_for limits same may =
        let r = (room x.limits (sizes_of x.wire) c k ((sizes_of x.wire).framed (codec_of c k) m) released_low).0 may.room in record {
          few = (let few = may.few in let sent = sent_is in omega (arith, few, sent));
          short = (let short = may.can_be.short in let is = short_is in let n = ap (λ l. l.frame) same in omega (arith, short, is, n));
          of_count = (let few = r.0 in let n = ap (λ l. l.count) same in let sent = sent_is in let free = released_is in omega
              (arith, few, n, sent, free));
          of_bytes = (let few = r.1 in let n = ap (λ l. l.bytes) same in let all = all_is in let front = front_is in let size = here_size in omega
              (arith, few, n, all, front, size));
        }

    may_send : (limits : Limits) → x.limits ≡ limits → HasText m → CanSend e.marks → HasRoomFor e limits m → IsAsRead e.marks.codec m
        → MaySend x.limits (sizes_of x.wire) c k m
    may_send limits same text can r read = record {
      unclosed = sym (ap (λ m. m.closed) keeps.kept.marks) ∙ can.unclosed;
      shakes = sym shaken_is ∙ can.shaken;
      few = (let few = r.few in let sent = sent_is in omega (arith, few, sent));
      can_be = record {
        sequenced = text.sent;
        fits = text.fits;
        as_read = subst (λ y. IsAsRead y m) codec_is read;
        short = (let short = r.short in let is = short_is in let n = ap (λ l. l.frame) same in omega (arith, short, is, n));
      };
      room = has_room limits same r;
    }

pub send_judged : MarksFollow → RoomByNumbers → KeptAloneIsKnown → UnreadStays → (old new : AuditAlone) (m : Message) (verdict : Option Rule)
    → HasText m
    → SendsSo old.end new.end old.head.limits m verdict → StaysAlone old new old.clock → JudgesAlone old new (Send m) verdict
send_judged follow room knows stay old new m None text (can, r, sends) stays x steps h keeps =
    plain_on x steps (Send m) old new h (Does (Sent m)) keeps
    (record {
      tells = refl;
      allowed = (
        may_send room x steps old h keeps
            (knows x steps old h keeps).facts m old.head.limits keeps.begun.limits text can r sends.as_read,
        tt,
      );
    }) stays
    (kept_sent follow x old.side old.end old.splitter old.over h keeps.kept stay m new.end sends)
send_judged follow room knows stay old new m (Some rule.State) text b stays x steps h keeps =
    send_breaks_state x (MayAlone x old.side h) (config old.side x.terms) (frames_alone x old.side h) (clock steps) m (⊎_elim
    (λ h. inl (sym (ap (λ m. m.closed) keeps.kept.marks) ∙ h))
    (λ h. inr (sym (ap (λ m. m.shaken) keeps.kept.marks) ∙ h)) b)
send_judged follow room knows stay old new m (Some rule.Room) text (can, none) stays x steps h keeps =
    send_breaks_room x (MayAlone x old.side h) (config old.side x.terms) (frames_alone x old.side h) (clock steps) m
    (sym (ap (λ m. m.closed) keeps.kept.marks) ∙ can.unclosed) (sym (ap (λ m. m.shaken) keeps.kept.marks) ∙ can.shaken)
    (λ may. none (room_for room x steps old h keeps (knows x steps old h keeps).facts m old.head.limits keeps.begun.limits may.0))
send_judged follow room knows stay old new m (Some rule.Link) text b stays x steps h keeps = absurd b
send_judged follow room knows stay old new m (Some rule.Bytes) text b stays x steps h keeps = absurd b
send_judged follow room knows stay old new m (Some rule.Due) text b stays x steps h keeps = absurd b
send_judged follow room knows stay old new m (Some rule.Took) text b stays x steps h keeps = absurd b
