use Rattle.std.proofs.Common.{drop}
use Rattle.std.proofs.lemmas.Bool.{false≢true}
use Rattle.hf_split.proofs.Finding.{next_not_faulty}
use Rattle.hf_split.proofs.splitter.Splitter.feed.Goals as goal

pub returns-clause-refused : goal.returns-clause-refused
returns-clause-refused c =
    rw (← c.self.view_is) (λ faulty.
    absurd (next_not_faulty c.self.inside.framing c.self.inside.most (drop c.self.inside.start c.self.inside.buffer.items) c.self.inside.next c.self.invariant.found
    (λ stuck. false≢true (c.if-is_fault.ensures.1 stuck)) faulty))
