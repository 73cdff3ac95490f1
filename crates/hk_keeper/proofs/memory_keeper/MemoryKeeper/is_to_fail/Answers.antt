use Rattle.std.proofs.Common.{rules, ◌≡◌, length}
use Rattle.hk_keeper.proofs.memory_keeper.MemoryKeeper.is_to_fail.Goals as goal

pub returns : goal.returns
returns c =
    let call : c.len.result ≡ length c.self.inside.asked.items = search rules in
    rw (← c.self.view_is, ← call) (rw c.deref.ensures.value at c.is_among.ensures)
