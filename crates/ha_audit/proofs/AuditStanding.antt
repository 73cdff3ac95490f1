-- What lines come to that broke no rule: the numbers of their world, and whether it is still.
use Rattle.std.proofs.Common.{◌≡◌, ◌<◌, ℕ, List, length, Some, None, sym, ap, ◌∙◌, subst, arith}
use Rattle.hd_delivery.specs.declared.vocabulary.Side.{Side}
use Rattle.hd_delivery.specs.declared.vocabulary.Side.TheVariants.{Client, Server}
use Rattle.hd_delivery.specs.Numbers.{most_of_64_bits}
use Rattle.hd_delivery.specs.Histories.{lent_frames, present_link, sent_messages}
use Rattle.hd_delivery.specs.Worlds.{config, Event, client_of, server_of}
use Rattle.hd_delivery.specs.Bytes.{ByteStep, StillOverBytes}
use Rattle.hd_delivery.specs.Due.{due}
use Rattle.hd_delivery.specs.Sides.{other}
use Rattle.hd_trace.specs.declared.trace.TraceLine.{TraceLine}
use Rattle.hd_trace.specs.declared.verdict.Counts.{Counts}
use Rattle.hd_trace.specs.Traces.{Setup, frames_beside}
use Rattle.hd_trace.specs.MarkLaws.{DueIsMarked, TakesAreMarked}
use Rattle.hd_trace.specs.ByMarks.{due_by, state_by}
use Rattle.hd_trace.specs.ByNumbers.{IsStillAt, StillByNumbers}
use Rattle.hd_trace.specs.Verdicts.{counts_of}
use Rattle.ha_audit.specs.declared.auditor.Audit.{Audit}
use Rattle.ha_audit.specs.AuditState.{frames_of, messages_of, said_on}
use Rattle.ha_audit.specs.AuditKeeps.{Keeps, end_of}
use Rattle.ha_audit.specs.AuditLaws.{Known}
use Rattle.ha_audit.specs.AuditStill.{IsStillOn}
use Rattle.ha_audit.proofs.AuditLists.{as_many_frames}
use Rattle.ha_audit.proofs.AuditBytes.{here_is, said_is, fed_is}

module _ (x : Setup) (lines : List TraceLine) (a : Audit) (w : List (Event ByteStep)) (keeps : Keeps x lines a w) where
  -- the numbers of an end are those of its history
  pub counts_are : (side : Side) (counts : Counts) → (counts.sent ≡ (end_of side a).marks.sent) × (counts.processed ≡ (end_of side a).marks.processed)
      → counts ≡ counts_of (frames_beside x side w)
  counts_are side counts e =
      let sent = e.0 ∙ ap (λ m. m.sent) (keeps.ends side).marks in
      let processed = e.1 ∙ ap (λ m. m.processed) (keeps.ends side).marks in
      ap (λ (n : ℕ). record { sent = n; processed = counts.processed }) sent
      ∙ ap (λ (n : ℕ). record { sent = length (sent_messages (frames_beside x side w)); processed = n }) processed

  module _ (known : Known x lines w) where
    -- so many messages of an end were acknowledged that the next one has a number
    pub acked_small : (side : Side) → (end_of side a).marks.acked < most_of_64_bits
    acked_small side = subst (λ m. m.acked < most_of_64_bits) (sym (keeps.ends side).marks)
        (let acked = (known.facts side).acked_were_lent in let lent = (known.facts side).lent_were_sent in
        let sent = (known.facts side).sent_are_few in omega arith)

    module _ (marked : DueIsMarked) (takes : TakesAreMarked) (side : Side) (l : ℕ) where
      -- how many frames the other end said there
      said_many : length (frames_of (said_on (end_of (other side) a).links l)) ≡ length (lent_frames l (frames_beside x (other side) w))
      said_many = as_many_frames _ _ _ (said_on (end_of (other side) a).links l) (lent_frames l (frames_beside x (other side) w))
          ((keeps.ends (other side)).said l)

      -- what is due, by what is kept
      due_is : due (config side x.terms) (frames_beside x side w)
          ≡ due_by (config side x.terms) (end_of side a).marks (messages_of (end_of side a).sent.items)
      due_is = marked (config side x.terms) (frames_beside x side w) (known.told.faultless side)
          ∙ (ap (λ m. due_by (config side x.terms) m (sent_messages (frames_beside x side w))) (sym (keeps.ends side).marks)
          ∙ ap (due_by (config side x.terms) (end_of side a).marks) (sym (keeps.ends side).sent.messages_are))

      pub still_at : IsStillOn (config side x.terms) (end_of side a) (end_of (other side) a) l → IsStillAt x side w l
      still_at s =
          let here : present_link (frames_beside x side w) ≡ Some l = sym (here_is x side lines a w keeps) ∙ s.here in record {
            here = here;
            ready = (takes (config side x.terms) (frames_beside x side w)).stands ∙ (ap state_by (sym (keeps.ends side).marks) ∙ s.ready);
            fed = sym (fed_is x side lines a w keeps l here) ∙ (s.fed ∙ ap length (said_is x side lines a w keeps l here));
            took = sym ((keeps.ends side).read l here).taken ∙ (s.took ∙ said_many);
            owes_nothing = due_is ∙ s.owes_nothing;
          }

      pub still_on : IsStillAt x side w l → IsStillOn (config side x.terms) (end_of side a) (end_of (other side) a) l
      still_on s = record {
        here = here_is x side lines a w keeps ∙ s.here;
        ready = ap state_by (keeps.ends side).marks ∙ (sym (takes (config side x.terms) (frames_beside x side w)).stands ∙ s.ready);
        fed = fed_is x side lines a w keeps l s.here ∙ (s.fed ∙ sym (ap length (said_is x side lines a w keeps l s.here)));
        took = ((keeps.ends side).read l s.here).taken ∙ (s.took ∙ sym said_many);
        owes_nothing = sym due_is ∙ s.owes_nothing;
      }

    module _ (marked : DueIsMarked) (takes : TakesAreMarked) (numbers : StillByNumbers) where
      -- two ends are still where both are so on one link
      pub both_still : (l : ℕ) → IsStillOn (config Client x.terms) a.client a.server l → IsStillOn (config Server x.terms) a.server a.client l
          → StillOverBytes x.wire (config Client x.terms) (config Server x.terms) (client_of w) (server_of w)
      both_still l c s = (numbers x w known.faithful).1 (l, still_at marked takes Client l c, still_at marked takes Server l s)

      -- and they are so on the client's link, where they are still
      pub still_both : (l : ℕ) → a.client.marks.link ≡ Some l
          → StillOverBytes x.wire (config Client x.terms) (config Server x.terms) (client_of w) (server_of w)
          → IsStillOn (config Client x.terms) a.client a.server l × IsStillOn (config Server x.terms) a.server a.client l
      still_both l here still =
          let at = (numbers x w known.faithful).0 still in
          let same : Some at.0 ≡ Some l = sym (still_on marked takes Client at.0 at.1).here ∙ here in
          let is : at.0 ≡ l = cc in
          subst (λ l. IsStillOn (config Client x.terms) a.client a.server l × IsStillOn (config Server x.terms) a.server a.client l) is
          (still_on marked takes Client at.0 at.1, still_on marked takes Server at.0 at.2)

      -- without a link of the client they aren't
      pub away : a.client.marks.link ≡ None → StillOverBytes x.wire (config Client x.terms) (config Server x.terms) (client_of w) (server_of w) → ⊥
      away none still =
          let at = (numbers x w known.faithful).0 still in
          let z : None ≡ Some at.0 = sym none ∙ (still_on marked takes Client at.0 at.1).here in cc
