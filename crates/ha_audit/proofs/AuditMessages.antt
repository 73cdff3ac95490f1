-- Messages that an end is handed to send.
use Rattle.std.proofs.Common.{inl, inr, ⊎_elim, ◌≡◌, ◌≤◌, Bool, true, false, List, length, take, sum_by, Option, Some, None, refl, sym, ap, ◌∙◌, subst, arith}
use Rattle.std.specs.Prelude.{if◌then◌else◌}
use Rattle.std.proofs.lemmas.List.Sums.{sum_by-le-sum_by}
use Rattle.hm_message.specs.declared.message.Codec.{Codec}
use Rattle.hm_message.specs.declared.message.Message.{Message}
use Rattle.hm_codec.specs.Frames.{frame_of}
use Rattle.hd_delivery.specs.declared.vocabulary.Side.{Side}
use Rattle.hd_delivery.specs.Frames.{Numbered}
use Rattle.hd_delivery.specs.Histories.{Config, EndEvent, Sent, sent_messages, codec_of, is_shaken, is_resumable, acked_count, most_lent}
use Rattle.hd_delivery.specs.Worlds.{config, Event, Limits, HasRoom, IsAsRead, MaySend}
use Rattle.hd_delivery.specs.Bytes.{ByteStep, Does, sizes_of}
use Rattle.hd_delivery.specs.Sides.{history}
use Rattle.hd_trace.specs.declared.trace.Rule.{Rule}
use Rattle.hd_trace.specs.declared.trace.Rule.TheVariants as rule
use Rattle.hd_trace.specs.declared.trace.ToldStep.TheVariants.{Send}
use Rattle.hd_trace.specs.declared.trace.TraceLine.{TraceLine}
use Rattle.hd_trace.specs.Traces.{Setup, clock, steps_of, frames_beside, MayBeside, MakesAt}
use Rattle.hd_trace.specs.Recording.{line_of}
use Rattle.hd_trace.specs.MarkLaws.{MarksFollow}
use Rattle.hd_trace.specs.ByNumbers.{RoomByNumbers, released}
use Rattle.ha_audit.specs.declared.auditor.Audit.{Audit}
use Rattle.ha_audit.specs.declared.auditor.audited_end.AuditedEnd.{AuditedEnd}
use Rattle.ha_audit.specs.Grammar.{HasText}
use Rattle.ha_audit.specs.AuditState.{framed_size, sum_of_first}
use Rattle.ha_audit.specs.AuditKeeps.{Keeps, end_of, Judges}
use Rattle.ha_audit.specs.AuditSteps.{HasRoomFor, SendsSo, CanSend, released_by}
use Rattle.ha_audit.specs.AuditLaws.{Known, KeptIsKnown}
use Rattle.ha_audit.proofs.AuditLists.{sum_is, sum_of_all}
use Rattle.ha_audit.proofs.AuditKept.{kept_sent}
use Rattle.ha_audit.proofs.AuditKnown.{keeps_on}
use Rattle.ha_audit.proofs.AuditRules.{send_breaks_state, send_breaks_room}
use Rattle.ha_audit.proofs.AuditPlain.{StaysBeside}
use Rattle.ha_audit.proofs.AuditBytes.{closed_is}

module _ (room : RoomByNumbers) (x : Setup) (side : Side) (lines : List TraceLine) (a : Audit) (w : List (Event ByteStep)) (keeps : Keeps x lines a w) (known : Known x lines w) where
  abbrev e : AuditedEnd
  e = end_of side a

  abbrev c : Config
  c = config side x.terms

  abbrev k : List EndEvent
  k = frames_beside x side w

  abbrev codec : Codec
  codec = x.terms.codec

  codec_is : e.marks.codec ≡ codec
  codec_is = ap (λ m. m.codec) (keeps.ends side).marks ∙ (keeps.ends side).codec

  -- the size of a message over the wire
  pub size_is : (m : Message) → (sizes_of x.wire).framed (codec_of c k) m ≡ framed_size codec m
  size_is m = ap length (keeps.begun.is_wire.spells (codec_of c k) (Numbered m)) ∙ ap (λ y. framed_size y m) (keeps.ends side).codec

  sizes_are : (ms : List Message) → sum_by ((sizes_of x.wire).framed (codec_of c k)) ms ≡ sum_by (framed_size codec) ms
  sizes_are ms =
      let up = sum_by-le-sum_by ((sizes_of x.wire).framed (codec_of c k)) (framed_size codec) ms (λ m. let e = size_is m in omega arith) in
      let down = sum_by-le-sum_by (framed_size codec) ((sizes_of x.wire).framed (codec_of c k)) ms (λ m. let e = size_is m in omega arith) in
      omega arith

  shaken_is : e.marks.shaken ≡ is_shaken k
  shaken_is = ap (λ m. m.shaken) (keeps.ends side).marks

  sent_is : e.marks.sent ≡ length (sent_messages k)
  sent_is = ap (λ m. m.sent) (keeps.ends side).marks

  released_is : released_by e.marks ≡ released c k
  released_is = ap released_by (keeps.ends side).marks

  released_low : released c k ≤ length (sent_messages k)
  released_low = go (is_resumable c k)
    where
      go : (b : Bool) → (if b then acked_count k else most_lent k) ≤ length (sent_messages k)
      go true = let low = (known.facts side).acked_were_lent in let lent = (known.facts side).lent_were_sent in omega arith
      go false = (known.facts side).lent_were_sent

  -- the sums
  all_is : sum_of_first e.sent.items (length e.sent.items) ≡ sum_by ((sizes_of x.wire).framed (codec_of c k)) (sent_messages k)
  all_is = sum_of_all codec e.sent.items (sent_messages k) (keeps.ends side).sent ∙ sym (sizes_are (sent_messages k))

  front_is : sum_of_first e.sent.items (released_by e.marks) ≡ sum_by ((sizes_of x.wire).framed (codec_of c k)) (take (released c k) (sent_messages k))
  front_is = ap (sum_of_first e.sent.items) released_is
      ∙ (sum_is codec e.sent.items (sent_messages k) (keeps.ends side).sent (released c k) released_low ∙ sym (sizes_are (take (released c k) (sent_messages k))))

  module _ (m : Message) where
    here_size : framed_size e.marks.codec m ≡ (sizes_of x.wire).framed (codec_of c k) m
    here_size = ap (λ y. framed_size y m) codec_is ∙ sym (size_is m)

    short_is : length (frame_of e.marks.codec m) ≡ (sizes_of x.wire).frame (codec_of c k) m
    short_is = ap (λ y. length (frame_of y m)) (codec_is ∙ sym (keeps.ends side).codec) ∙ sym (keeps.begun.is_wire.sizes (codec_of c k) m)

    -- there is room in the world
    has_room : (limits : Limits) → x.limits ≡ limits → HasRoomFor e limits m → HasRoom x.limits (sizes_of x.wire) c k ((sizes_of x.wire).framed (codec_of c k) m)
    has_room limits same r = (room x.limits (sizes_of x.wire) c k ((sizes_of x.wire).framed (codec_of c k) m) released_low).1 (
      (let few = r.of_count in let n = ap (λ l. l.count) same in let sent = sent_is in let free = released_is in omega (arith, few, n, sent, free)),
      (let few = r.of_bytes in let n = ap (λ l. l.bytes) same in let all = all_is in let front = front_is in let size = here_size in omega (arith, few, n, all, front, size)),
    )

    room_for : (limits : Limits) → x.limits ≡ limits → MaySend x.limits (sizes_of x.wire) c k m → HasRoomFor e limits m
    room_for limits same may =
        let r = (room x.limits (sizes_of x.wire) c k ((sizes_of x.wire).framed (codec_of c k) m) released_low).0 may.room in record {
          few = (let few = may.few in let sent = sent_is in omega (arith, few, sent));
          short = (let short = may.can_be.short in let is = short_is in let n = ap (λ l. l.frame) same in omega (arith, short, is, n));
          of_count = (let few = r.0 in let n = ap (λ l. l.count) same in let sent = sent_is in let free = released_is in omega (arith, few, n, sent, free));
          of_bytes = (let few = r.1 in let n = ap (λ l. l.bytes) same in let all = all_is in let front = front_is in let size = here_size in omega (arith, few, n, all, front, size));
        }

    may_send : (limits : Limits) → x.limits ≡ limits → HasText m → CanSend e.marks → HasRoomFor e limits m → IsAsRead e.marks.codec m → MaySend x.limits (sizes_of x.wire) c k m
    may_send limits same text can r read = record {
      unclosed = sym (closed_is x side lines a w keeps) ∙ can.unclosed;
      shakes = sym shaken_is ∙ can.shaken;
      few = (let few = r.few in let sent = sent_is in omega (arith, few, sent));
      can_be = record {
        sequenced = text.sent;
        fits = text.fits;
        as_read = subst (λ y. IsAsRead y m) (codec_is ∙ sym (keeps.ends side).codec) read;
        short = (let short = r.short in let is = short_is in let n = ap (λ l. l.frame) same in omega (arith, short, is, n));
      };
      room = has_room limits same r;
    }

pub send_judged : MarksFollow → RoomByNumbers → KeptIsKnown → (side : Side) (old new : Audit) (m : Message) (verdict : Option Rule) → HasText m
    → SendsSo (end_of side old) (end_of side new) old.head.limits m verdict → StaysBeside side old new old.clock → Judges old new (line_of side (Send m)) verdict
send_judged follow room knows side old new m None text (can, r, sends) stays x lines w keeps =
    let makes : MakesAt x side w (clock (steps_of lines)) (Send m) (Does (Sent m)) =
    record { tells = refl; allowed = may_send room x side lines old w keeps (knows x lines old w keeps) m old.head.limits keeps.begun.limits text can r sends.as_read } in (
      Does (Sent m),
      (
        makes,
        keeps_on x lines (line_of side (Send m)) old new w (Does (Sent m)) keeps makes stays.head stays.clock stays.there
            (kept_sent follow x side (end_of side old) (history side w) (keeps.ends side) m (end_of side new) sends),
      ),
    )
send_judged follow room knows side old new m (Some rule.State) text b stays x lines w keeps =
    send_breaks_state x (MayBeside x side w) (config side x.terms) (frames_beside x side w) (clock (steps_of lines)) m (⊎_elim
    (λ h. inl (sym (closed_is x side lines old w keeps) ∙ h))
    (λ h. inr (sym (shaken_is room x side lines old w keeps (knows x lines old w keeps)) ∙ h)) b)
send_judged follow room knows side old new m (Some rule.Room) text (can, none) stays x lines w keeps =
    let known = knows x lines old w keeps in
    send_breaks_room x (MayBeside x side w) (config side x.terms) (frames_beside x side w) (clock (steps_of lines)) m
    (sym (closed_is x side lines old w keeps) ∙ can.unclosed) (sym (shaken_is room x side lines old w keeps known) ∙ can.shaken)
    (λ may. none (room_for room x side lines old w keeps known m old.head.limits keeps.begun.limits may))
send_judged follow room knows side old new m (Some rule.Link) text b stays x lines w keeps = absurd b
send_judged follow room knows side old new m (Some rule.Bytes) text b stays x lines w keeps = absurd b
send_judged follow room knows side old new m (Some rule.Due) text b stays x lines w keeps = absurd b
send_judged follow room knows side old new m (Some rule.Took) text b stays x lines w keeps = absurd b
