-- What an auditor hands to the rules, by what it keeps.
use Rattle.std.proofs.Common.{◌≡◌, ◌≤◌, Some, List, length, sym, ap, ◌∙◌, subst}
use Rattle.hd_delivery.specs.declared.vocabulary.Side.{Side}
use Rattle.hd_delivery.specs.Numbers.{most_messages}
use Rattle.hd_delivery.specs.Worlds.{config, Event}
use Rattle.hd_delivery.specs.Bytes.{ByteStep}
use Rattle.hd_trace.specs.declared.trace.TraceLine.{TraceLine}
use Rattle.hd_trace.specs.Traces.{Setup, frames_beside}
use Rattle.hd_delivery.specs.Histories.{sent_messages, lent_frames}
use Rattle.ha_audit.specs.declared.auditor.Audit.{Audit}
use Rattle.ha_audit.specs.AuditState.{said_on, frames_of, frame_said}
use Rattle.ha_audit.specs.AuditKeeps.{Keeps, end_of}
use Rattle.ha_audit.specs.AuditSteps.{IsBegunLike, HasFrames}
use Rattle.ha_audit.specs.AuditLaws.{Known}
use Rattle.ha_audit.proofs.AuditLists.{as_many, frame_there}

module _ (x : Setup) (lines : List TraceLine) (a : Audit) (w : List (Event ByteStep)) (keeps : Keeps x lines a w) where
  -- the end is begun as the head says
  pub begun_like : (side : Side) → IsBegunLike (config side x.terms) (record { codec = a.head.codec; version = a.head.version }) a.head.reconnect
  begun_like side = record { codec = keeps.begun.codec side; version = keeps.begun.version side; keeps = keeps.begun.reconnect }

  -- as many messages are kept as the marks say
  pub sent_many : (side : Side) → length (end_of side a).sent.items ≡ (end_of side a).marks.sent
  sent_many side = as_many x.terms.codec (end_of side a).sent.items (sent_messages (frames_beside x side w)) (keeps.ends side).sent ∙ sym (ap (λ m. m.sent) (keeps.ends side).marks)

  pub processed_few : (side : Side) → Known x lines w → (end_of side a).marks.processed ≤ most_messages
  processed_few side known = subst (λ m. m.processed ≤ most_messages) (sym (keeps.ends side).marks) (known.facts side).processed_are_few

  -- each frame that is kept is one that the end said
  pub has_frames : (side : Side) → HasFrames (config side x.terms) (end_of side a)
  has_frames side l n s at =
      let f = frame_there (config side x.terms) (sent_messages (frames_beside x side w)) (frames_of (said_on (end_of side a).links l)) (lent_frames l (frames_beside x side w))
      ((keeps.ends side).said l).frames_are n s at in
      (f.0, subst (λ ms. frame_said (config side x.terms) ms s ≡ Some f.0) (sym (keeps.ends side).sent.messages_are) f.1.1)
