use Rattle.std.proofs.Common.{drop, take, refl}
use Rattle.hf_split.proofs.Finding.{lent_begins, waits_not_full}
use Rattle.hf_split.proofs.Spellings.{too_long_begins_none, bad_length_begins_none}
use Rattle.hf_split.proofs.Streams.{next_of_stands, cuts_of_stands}
use Rattle.hf_split.proofs.splitter.Splitter.frame.Goals as goal

pub returns-in-Waiting-clause-not_full : goal.returns-in-Waiting-clause-not_full
returns-in-Waiting-clause-not_full c =
    rw (← c.self.view_is) (waits_not_full c.self.inside.framing c.self.inside.most (drop c.self.inside.start c.self.inside.buffer.items) (rw c.in-Waiting.is at c.self.invariant.found))

pub returns-in-Frame-clause-lent : goal.returns-in-Frame-clause-lent
returns-in-Frame-clause-lent c =
    rw (← c.self.view_is, c.deref.ensures.value) (
      refl,
      (
        take c.in-Frame.past (drop c.self.inside.start c.self.inside.buffer.items),
        lent_begins c.self.inside.framing c.self.inside.most c.self.inside.start c.in-Frame.from c.in-Frame.to c.in-Frame.past c.self.inside.buffer.items (rw c.in-Frame.is at c.self.invariant.found),
      ),
    )

pub returns-in-Frame-clause-next_of_stream : goal.returns-in-Frame-clause-next_of_stream
returns-in-Frame-clause-next_of_stream c =
    rw (← c.self.view_is, c.deref.ensures.value) (λ framings stream passed stands step. (
      take c.in-Frame.past (drop c.self.inside.start c.self.inside.buffer.items),
      next_of_stands framings (record { framing = c.self.inside.framing; most = c.self.inside.most; place = c.self.inside.place; bytes = drop c.self.inside.start c.self.inside.buffer.items })
          stream passed _ stands step
          (lent_begins c.self.inside.framing c.self.inside.most c.self.inside.start c.in-Frame.from c.in-Frame.to c.in-Frame.past c.self.inside.buffer.items (rw c.in-Frame.is at c.self.invariant.found)),
    ))

pub returns-in-TooLong-clause-fault_of_stream : goal.returns-in-TooLong-clause-fault_of_stream
returns-in-TooLong-clause-fault_of_stream c =
    rw (← c.self.view_is) (λ framings stream passed stands step.
    cuts_of_stands framings (record { framing = c.self.inside.framing; most = c.self.inside.most; place = c.self.inside.place; bytes = drop c.self.inside.start c.self.inside.buffer.items })
    stream passed stands step
    (λ item. too_long_begins_none c.self.inside.framing c.self.inside.most (drop c.self.inside.start c.self.inside.buffer.items) item (rw c.in-TooLong.is at c.self.invariant.found)))

pub returns-in-BadLength-clause-fault_of_stream : goal.returns-in-BadLength-clause-fault_of_stream
returns-in-BadLength-clause-fault_of_stream c =
    rw (← c.self.view_is) (λ framings stream passed stands step.
    cuts_of_stands framings (record { framing = c.self.inside.framing; most = c.self.inside.most; place = c.self.inside.place; bytes = drop c.self.inside.start c.self.inside.buffer.items })
    stream passed stands step
    (λ item. bad_length_begins_none c.self.inside.framing c.self.inside.most (drop c.self.inside.start c.self.inside.buffer.items) item (rw c.in-BadLength.is at c.self.invariant.found)))
