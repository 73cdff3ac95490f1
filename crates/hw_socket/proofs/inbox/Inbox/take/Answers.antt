use Rattle.std.proofs.Common.{sym, ◌∙◌}
use Rattle.hw_socket.proofs.Buffers.{not_all_taken}
use Rattle.hw_socket.proofs.inbox.Inbox.take.Goals as goal

pub invariant_of-self-else-self-len : goal.invariant_of-self-else-self-len
invariant_of-self-else-self-len c =
    not_all_taken c.self.inside.start c.args.count _ c.self.inside.fed.items c.self.invariant.0 (rw (← c.self.view_is) at c.requires)
    (λ same. c.if-self-len.false (same ∙ sym (c.len.ensures ∙ c.self.inside.fed.ok.0)))
