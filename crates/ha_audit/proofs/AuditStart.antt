-- What is kept before the first line.
use Rattle.std.proofs.Common.{◌≡◌, ℕ, [], Option, Some, None, refl, sym, ap, ◌∙◌, is_some}
use Rattle.hm_message.specs.declared.message.Codec.{Codec}
use Rattle.hd_delivery.specs.declared.vocabulary.Side.{Side}
use Rattle.hd_delivery.specs.declared.vocabulary.Side.TheVariants.{Client, Server}
use Rattle.hd_delivery.specs.Histories.{Config}
use Rattle.hd_delivery.specs.Worlds.{config, codec_at}
use Rattle.hd_delivery.specs.Sides.{history}
use Rattle.hd_trace.specs.Traces.{Setup}
use Rattle.hd_trace.specs.Marks.{marks_of}
use Rattle.ha_audit.specs.declared.auditor.Audit.{Audit}
use Rattle.ha_audit.specs.declared.auditor.audited_end.AuditedEnd.{AuditedEnd}
use Rattle.ha_audit.specs.AuditState.{said_on, bytes_of, frames_of}
use Rattle.ha_audit.specs.AuditKeeps.{IsBegunSo, KeepsEnd, Keeps, end_of}
use Rattle.ha_audit.proofs.AuditLists.{sent_none, said_none}

-- an end before its first step
pub record IsFresh (codec : Codec) (end : AuditedEnd) : Type 0 where
  pub marks : (c : Config) → c.codec ≡ codec → end.marks ≡ marks_of c []
  pub sent : end.sent.items ≡ []
  pub last : end.last ≡ None
  pub links : (l : ℕ) → said_on end.links l ≡ None

-- it is kept, where both ends are begun in this codec
kept_fresh : (x : Setup) (side : Side) (codec : Codec) (end : AuditedEnd) → ((s : Side) → codec_at s x.terms ≡ codec)
    → IsFresh codec end → KeepsEnd x side end []
kept_fresh x side codec end begun fresh = record {
  marks = fresh.marks (config side x.terms) (begun side);
  codec = begun side ∙ sym (begun Client);
  sent = sent_none x.terms.codec end.sent.items fresh.sent;
  links = λ l. ap is_some (fresh.links l);
  said = λ l. said_none (x.wire.spell x.terms.codec) (config side x.terms) [] (said_on end.links l)
      (ap bytes_of (fresh.links l)) (ap frames_of (fresh.links l));
  last = fresh.last;
  read = λ l at. absurd (let z : ◌≡◌ {A = Option ℕ} None (Some l) = at in cc);
}

-- no line tells the world without a step
pub kept_before : (x : Setup) (a : Audit) → IsBegunSo x a.head → a.clock ≡ 0
    → IsFresh a.head.codec a.client → IsFresh a.head.codec a.server → Keeps x [] a []
kept_before x a begun clock client server = record { begun = begun; tells = refl; clock_is = clock; ends = ends }
  where
    ends : (side : Side) → KeepsEnd x side (end_of side a) (history side [])
    ends Client = kept_fresh x Client a.head.codec a.client begun.codec client
    ends Server = kept_fresh x Server a.head.codec a.server begun.codec server
