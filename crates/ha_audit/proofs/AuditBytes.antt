-- Bytes that an end is fed.
use Rattle.std.proofs.Common.{◌≡◌, ◌≤◌, ℕ, ◌+◌, ◌-◌, List, length, drop, flat_map, Option, Some, None, refl, sym, ap, ◌∙◌, subst, arith}
use Rattle.hd_facts.specs.Prefixes.{IsPrefix}
use Rattle.hd_delivery.specs.declared.vocabulary.Side.{Side}
use Rattle.hd_delivery.specs.Numbers.{most_framing}
use Rattle.hd_delivery.specs.Histories.{present_link, lent_frames, taken_count, is_closed}
use Rattle.hd_delivery.specs.Laws.{FedIsUnseen}
use Rattle.hd_delivery.specs.Worlds.{config, Event}
use Rattle.hd_delivery.specs.Bytes.{ByteStep, Bytes, bytes_on, unread_count}
use Rattle.hd_delivery.specs.Sides.{other, history}
use Rattle.hd_trace.specs.declared.trace.Rule.{Rule}
use Rattle.hd_trace.specs.declared.trace.Rule.TheVariants as rule
use Rattle.hd_trace.specs.declared.trace.ToldStep.TheVariants.{Feed}
use Rattle.hd_trace.specs.declared.trace.TraceLine.{TraceLine}
use Rattle.hd_trace.specs.Traces.{Setup, clock, steps_of, frames_beside, MayBeside, MakesAt}
use Rattle.hd_trace.specs.Recording.{line_of}
use Rattle.hd_trace.specs.MarkLaws.{MarksFollow}
use Rattle.hd_trace.specs.ByNumbers.{FeedsByNumbers, IsNextThere, IsOpenOn, UnreadByNumbers, read_there, said_there, TakenAreLent}
use Rattle.ha_audit.specs.declared.auditor.Audit.{Audit}
use Rattle.ha_audit.specs.AuditState.{said_on, bytes_of, frames_of, size_of_first}
use Rattle.ha_audit.specs.AuditKeeps.{Keeps, end_of, Judges}
use Rattle.ha_audit.specs.AuditSteps.{FeedsSo, IsNextOf, IsOpenAt}
use Rattle.ha_audit.proofs.AuditLists.{size_is}
use Rattle.ha_audit.proofs.AuditKept.{kept_fed}
use Rattle.ha_audit.specs.AuditLaws.{Known, KeptIsKnown}
use Rattle.ha_audit.proofs.AuditKnown.{keeps_on}
use Rattle.ha_audit.proofs.AuditRules.{feed_breaks_link, feed_breaks_state, feed_breaks_bytes}
use Rattle.ha_audit.proofs.AuditPlain.{StaysBeside}

-- what is kept of both ends says where the end of this side stands
module _ (x : Setup) (side : Side) (lines : List TraceLine) (a : Audit) (w : List (Event ByteStep)) (keeps : Keeps x lines a w) where
  pub here_is : (end_of side a).marks.link ≡ present_link (frames_beside x side w)
  here_is = ap (λ m. m.link) (keeps.ends side).marks

  pub closed_is : (end_of side a).marks.closed ≡ is_closed (config side x.terms) (frames_beside x side w)
  closed_is = ap (λ m. m.closed) (keeps.ends side).marks

  pub open_on : (l : ℕ) → IsOpenAt (end_of side a).marks l → IsOpenOn x side w l
  open_on l o = record { here = sym here_is ∙ o.here; unclosed = sym closed_is ∙ o.unclosed }

  module _ (l : ℕ) (here : present_link (frames_beside x side w) ≡ Some l) where
    -- what the other end said there, in bytes
    pub said_is : bytes_of (said_on (end_of (other side) a).links l) ≡ said_there x side w l
    said_is = ((keeps.ends (other side)).said l).bytes_are
        ∙ ap (λ codec. flat_map (x.wire.spell codec) (lent_frames l (frames_beside x (other side) w))) (sym (keeps.ends (other side)).codec)

    -- how many of them are read
    pub read_is : taken_count l (frames_beside x side w) ≤ length (lent_frames l (frames_beside x (other side) w))
        → size_of_first (frames_of (said_on (end_of (other side) a).links l)) (end_of side a).taken ≡ read_there x side w l
    read_is low = ap (size_of_first (frames_of (said_on (end_of (other side) a).links l))) ((keeps.ends side).read l here).taken
        ∙ size_is (x.wire.spell x.terms.codec) (config (other side) x.terms) _ (said_on (end_of (other side) a).links l) (lent_frames l (frames_beside x (other side) w))
        ((keeps.ends (other side)).said l) (taken_count l (frames_beside x side w)) low

    pub fed_is : (end_of side a).fed ≡ length (bytes_on l (history side w))
    fed_is = ((keeps.ends side).read l here).fed

    -- and how many aren't
    pub unread_is : UnreadByNumbers → TakenAreLent → Known x lines w
        → (end_of side a).fed - size_of_first (frames_of (said_on (end_of (other side) a).links l)) (end_of side a).taken ≡ unread_count x.wire (config side x.terms) l (history side w)
    unread_is unread lent known =
        let sum = unread x side w l known.sound known.faithful here in
        let read = read_is (lent x side w l known.faithful here) in
        let fed = fed_is in
        omega (arith, sum, read, fed)

    pub next_there_is : UnreadByNumbers → TakenAreLent → Known x lines w → (most : ℕ) (piece : List ℕ) → most ≡ x.limits.frame + most_framing
        → IsNextOf (end_of side a) (end_of (other side) a) l most piece → IsNextThere x side w l piece
    next_there_is unread lent known most piece limit n = record {
      front = subst (λ k. IsPrefix piece (drop k (said_there x side w l))) fed_is (subst (λ b. IsPrefix piece (drop (end_of side a).fed b)) said_is n.front);
      few = let few = n.few in let same = unread_is unread lent known in omega (arith, few, same, limit);
    }

    pub next_of_is : UnreadByNumbers → TakenAreLent → Known x lines w → (most : ℕ) (piece : List ℕ) → most ≡ x.limits.frame + most_framing
        → IsNextThere x side w l piece → IsNextOf (end_of side a) (end_of (other side) a) l most piece
    next_of_is unread lent known most piece limit n = record {
      front = subst (λ b. IsPrefix piece (drop (end_of side a).fed b)) (sym said_is) (subst (λ k. IsPrefix piece (drop k (said_there x side w l))) (sym fed_is) n.front);
      few = let few = n.few in let same = unread_is unread lent known in omega (arith, few, same, limit);
    }

module _ (follow : MarksFollow) (feeds : FeedsByNumbers) (unread : UnreadByNumbers) (lent : TakenAreLent) (unseen : FedIsUnseen)
    (side : Side) (old new : Audit) (knows : KeptIsKnown) where
  pub feed_judged : (most : ℕ) (piece : List ℕ) (verdict : Option Rule) → ((x : Setup) (lines : List TraceLine) (w : List (Event ByteStep)) → Keeps x lines old w → most ≡ x.limits.frame + most_framing)
      → FeedsSo (end_of side old) (end_of side new) (end_of (other side) old) most piece verdict → StaysBeside side old new old.clock
      → Judges old new (line_of side (Feed piece)) verdict
  feed_judged most piece None limit (l, (o, n, e)) stays x lines w keeps =
      let known = knows x lines old w keeps in
      let on = open_on x side lines old w keeps l o in
      let makes : MakesAt x side w (clock (steps_of lines)) (Feed piece) (Bytes piece) = record {
        tells = refl;
        allowed = (feeds x side w l piece known.sound known.told.is_world on).1 (next_there_is x side lines old w keeps l on.here unread lent known most piece (limit x lines w keeps) n);
      } in (
        Bytes piece,
        (
          makes,
          keeps_on x lines (line_of side (Feed piece)) old new w (Bytes piece) keeps makes stays.head stays.clock stays.there
              (kept_fed follow x side (end_of side old) (history side w) (keeps.ends side) unseen l piece (end_of side new) on.here ((known.facts side).taken_were_fed l) e),
        ),
      )
  feed_judged most piece (Some rule.Link) limit b stays x lines w keeps =
      feed_breaks_link x (MayBeside x side w) (config side x.terms) (frames_beside x side w) (clock (steps_of lines)) piece (sym (here_is x side lines old w keeps) ∙ b)
  feed_judged most piece (Some rule.State) limit (l, b) stays x lines w keeps =
      feed_breaks_state x (MayBeside x side w) (config side x.terms) (frames_beside x side w) (clock (steps_of lines)) l (sym (here_is x side lines old w keeps) ∙ b.0) piece
      (sym (closed_is x side lines old w keeps) ∙ b.1)
  feed_judged most piece (Some rule.Bytes) limit (l, (o, not)) stays x lines w keeps =
      let known = knows x lines old w keeps in
      let on = open_on x side lines old w keeps l o in
      feed_breaks_bytes x (MayBeside x side w) (config side x.terms) (frames_beside x side w) (clock (steps_of lines)) l on.here piece on.unclosed
      (λ may. not (next_of_is x side lines old w keeps l on.here unread lent known most piece (limit x lines w keeps) ((feeds x side w l piece known.sound known.told.is_world on).0 may)))
  feed_judged most piece (Some rule.Due) limit b stays x lines w keeps = absurd b
  feed_judged most piece (Some rule.Took) limit b stays x lines w keeps = absurd b
  feed_judged most piece (Some rule.Room) limit b stays x lines w keeps = absurd b
