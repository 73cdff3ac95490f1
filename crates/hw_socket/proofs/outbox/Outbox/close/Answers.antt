use Rattle.std.proofs.Common.{◌∙◌}
use Rattle.hw_socket.proofs.Seals.{close_written}
use Rattle.hw_socket.proofs.outbox.Outbox.close.Goals as goal

pub returns-clause-written : goal.returns-clause-written
returns-clause-written c =
    rw (← c.self.view_is) (close_written (record { side = c.self.inside.side; frames = c.self.inside.frames; bytes = c.self.inside.bytes.items }) c.seal.new.self c.close-closed.new.output.items c.args.context.now c.close-closed.new.self c.args.code _
    (rw (← c.self.view_is) at c.requires.role) c.requires.may_be_sent (rw c.in_ok-closed.was at c.close-closed.ensures.ok) (λ reply short sent. c.seal.ensures reply c.self.inside.bytes.items (c.len-from.ensures ∙ c.self.inside.bytes.ok.0) short (rw c.trim.ensures.unchanged sent)))
