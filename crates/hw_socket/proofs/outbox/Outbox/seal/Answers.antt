use Rattle.std.proofs.Common.{◌≡◌, List, ℕ, Option, None, Some, length, ap, sym, ◌∙◌, arith, length-append}
use Rattle.websocket.specs.Connection.{Outgoing, Sends}
use Rattle.hw_socket.specs.Masks.{Written, after_reply, with_mask}
use Rattle.hw_socket.specs.Messages.{role_of}
use Rattle.hw_socket.proofs.Seals.{not_empty}
use Rattle.hw_socket.proofs.outbox.Outbox.seal.Goals as goal

nothing_written : (w : Written) (reply : Option Outgoing) (before : List ℕ) (from : ℕ) → from ≡ length before → Sends (role_of w.side) reply before w.bytes → length w.bytes ≡ from
    → w ≡ after_reply (record w { bytes = before }) reply
nothing_written w None before from size sent same = ap (λ (b : List ℕ). let same : Written = record w { bytes = b } in same) sent
nothing_written w (Some f) before from size sent same =
    let more = not_empty sent.0 f in
    absurd (omega (arith, length-append before (with_mask sent.0 f), size, same, ap length sent.2))

pub returns-then-len-from : goal.returns-then-len-from
returns-then-len-from c reply before size short sent =
    nothing_written c.args.self.now reply before c.args.from size sent (rw (← c.self.view_is) (sym c.self.inside.bytes.ok.0 ∙ sym c.len.ensures ∙ c.if-len-from.true))
