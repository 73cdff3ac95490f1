use Rattle.std.proofs.Common.{take}
use Rattle.hf_split.proofs.Places.{waiting_plain}
use Rattle.hf_split.proofs.next.next_after.Goals as goal

pub next_record-requires-clause-plain : goal.next_record-requires-clause-plain
next_record-requires-clause-plain c =
    waiting_plain c.args.most (take c.args.held c.args.bytes.now) (rw (c.in-Waiting-Record.is-0, c.in-Waiting-Record.is-1) at c.requires.next)
