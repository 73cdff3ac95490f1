use Rattle.std.proofs.Common.{arith, refl, ap, sym, ◌≡◌, ◌<◌, ◌+◌, ◌-◌, ◌∙◌, Some, slice_get, true, false}
use Rattle.hq_resend.specs.Rings.{dropped_of}
use Rattle.std.specs.Option.{option_copied}
use Rattle.hq_resend.proofs.Places.{next-IsRing, dropped-within}
use Rattle.hq_resend.proofs.Sizes.{not-none, slice_get-drop}
use Rattle.hq_resend.proofs.Standing.{next-buffer, next-Stands}
use Rattle.hq_resend.proofs.resend.Resend.next_unwritten.Goals as goal

pub invariant_of-self-in-Some : goal.invariant_of-self-in-Some
invariant_of-self-in-Some c =
    next-IsRing c.self.inside c.max-self-inside.result c.bytes_after_writing-self-inside.result c.self.invariant
    (omega arith) c.max-self-inside.ensures c.bytes_after_writing-self-inside.ensures.value c.bytes_after_writing-self-inside.ensures.fewer

pub invariant_of-self-in-None : goal.invariant_of-self-in-None
invariant_of-self-in-None c =
    next-IsRing c.self.inside c.max-self-inside.result c.bytes_after_writing-self-inside.result c.self.invariant
    (omega arith) c.max-self-inside.ensures c.bytes_after_writing-self-inside.ensures.value c.bytes_after_writing-self-inside.ensures.fewer

pub returns-in-Some : goal.returns-in-Some
returns-in-Some c =
    let less : c.self.inside.written < c.self.inside.sent = omega arith in
    let places = dropped-within c.self.inside.keeps c.self.inside.acked c.self.inside.written c.self.invariant.acked in
    let stale = dropped_of c.self.inside - c.self.inside.gone in
    let place : stale + (c.self.inside.written - dropped_of c.self.inside) ≡ c.self.inside.written - c.self.inside.gone = omega (arith, places, c.self.invariant.gone) in
    let found = ap (slice_get c.self.inside.ring.items) (sym place) ∙ sym (slice_get-drop stale c.self.inside.ring.items (c.self.inside.written - dropped_of c.self.inside)) in
    rw (← c.self.view_is) ((
      (refl, (λ _. tt), next-buffer c.self.inside c.max-self-inside.result c.bytes_after_writing-self-inside.result c.self.invariant less c.max-self-inside.ensures),
      record {
        after = tt;
        none = ((λ some. absurd (let clash : true ≡ false = some in cc)), (λ last. absurd (omega arith)));
        number = omega arith;
        frame = ap Some c.bytes.ensures ∙ sym (ap option_copied c.in-Some.is) ∙ c.get.ensures ∙ found;
        stands = λ h stands. next-Stands h _ less stands;
      },
    ))

pub returns-in-None : goal.returns-in-None
returns-in-None c = absurd (not-none c.self.inside.ring.items (c.self.inside.written - c.self.inside.gone) (omega (arith, c.self.invariant.items, c.self.invariant.gone, dropped-within c.self.inside.keeps c.self.inside.acked c.self.inside.written c.self.invariant.acked)) (sym c.get.ensures ∙ ap option_copied c.in-None.is))
