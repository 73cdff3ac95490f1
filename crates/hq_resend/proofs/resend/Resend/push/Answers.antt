use Rattle.std.proofs.Common.{arith, ap, ◌≡◌, ◌<◌, ◌+◌, ◌-◌, length, drop, List, ℕ}
use Rattle.circular_buffer.specs.Buffer as rings
use Rattle.hq_resend.specs.Buffers.{Buffer}
use Rattle.hq_resend.proofs.Places.{push-IsRing}
use Rattle.hq_resend.proofs.Sizes.{keeps-all}
use Rattle.hq_resend.proofs.resend.Resend.push.Goals as goal

pub invariant_of-self-2 : goal.invariant_of-self-2
invariant_of-self-2 c =
    let left = drop (c.dropped-gone.result - c.self.inside.gone) c.self.inside.ring.items in
    let count : length c.drop_first.new.ring.items ≡ length left = ap (λ (b : rings.Buffer (List ℕ)). length b.items) c.drop_first.ensures in
    let room : length left < c.self.inside.limits.count = omega (arith, count, c.count.ensures.value) in
    let size : length c.bytes.result.now ≡ length c.args.frame = ap length c.bytes.ensures in
    push-IsRing c.self.inside c.dropped-gone.result _ c.args.frame c.push_back.new.self c.self.invariant c.dropped-gone.ensures
    (rw (c.push_back.ensures.items, c.drop_first.ensures)
    (ap (λ (frames : List (List ℕ)). rings.buffer frames c.self.inside.ring.capacity) (keeps-all left c.args.frame c.self.inside.ring.capacity (omega (arith, room, c.self.invariant.capacity)))))
    room
    (ap (λ (n : ℕ). c.self.inside.bytes + n) size)
    (omega (arith, c.bytes-else-held-count.ensures.value, c.self.invariant.few_bytes))
    (omega (arith, c.requires, ap (λ (b : Buffer). b.limits.frame) c.self.view_is))
    (omega arith)
