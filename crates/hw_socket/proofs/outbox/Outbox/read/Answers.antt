use Rattle.std.proofs.Common.{refl, ◌∙◌}
use Rattle.hw_socket.proofs.Seals.{leaves}
use Rattle.hw_socket.proofs.outbox.Outbox.read.Goals as goal

pub returns-clause-leaves : goal.returns-clause-leaves
returns-clause-leaves c =
    rw (← c.self.view_is) (leaves (record { side = c.self.inside.side; frames = c.self.inside.frames; bytes = c.self.inside.bytes.items }) c.seal.new.self c.read-read.new.output.items c.args.input.now c.args.context.now c.read-read.new.self _ refl
    (rw (← c.self.view_is) at c.requires) (rw c.in_ok-status.was at c.read-read.ensures.leaves) (λ reply short sent. c.seal.ensures reply c.self.inside.bytes.items (c.len-from.ensures ∙ c.self.inside.bytes.ok.0) short (rw c.trim.ensures.unchanged sent)))
