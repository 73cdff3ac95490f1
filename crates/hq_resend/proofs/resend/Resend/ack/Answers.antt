use Rattle.std.proofs.Common.{arith, ap, sym, subst, ◌∙◌, ◌∷◌, List, ℕ, length}
use Rattle.std.specs.Prelude.{sum_by}
use Rattle.circular_buffer.specs.Buffer as rings
use Rattle.hq_resend.specs.ResendEvents.{Stands, Acked}
use Rattle.hq_resend.proofs.Places.{ack-IsRing, ack-buffer, ring-IsWithin}
use Rattle.hq_resend.proofs.Standing.{ack-Stands}
use Rattle.hq_resend.proofs.resend.Resend.ack.Goals as goal

pub invariant_of-self-2 : goal.invariant_of-self-2
invariant_of-self-2 c =
    rw c.drop_counted-self-inside.ensures.items
    (ack-IsRing c.self.inside c.args.upto c.max-self-inside.result c.drop_counted-self-inside.result c.self.invariant c.if-not-self.false
    (omega arith) (omega arith) c.max-self-inside.ensures (c.drop_counted-self-inside.ensures.bytes ∙ ap (λ (b : rings.Buffer (List ℕ)). sum_by length b.items) c.drop_counted-self-inside.ensures.items) c.drop_counted-self-inside.ensures.fewer)

pub returns-clause-stands : goal.returns-clause-stands
returns-clause-stands c = λ h.
    rw (← c.self.view_is, c.drop_counted-self-inside.ensures.items) (λ stands.
    subst (Stands (Acked c.args.upto ∷ h))
    (sym (ack-buffer c.self.inside c.args.upto c.max-self-inside.result c.drop_counted-self-inside.result c.self.invariant c.if-not-self.false (omega arith) c.max-self-inside.ensures))
    (ack-Stands h _ c.args.upto (ring-IsWithin c.self.inside c.self.invariant) (omega arith) stands))
