use Rattle.std.proofs.Common.{◌≡◌, ◌∷◌, ◌++◌, [], drop, length, sym, subst}
use Rattle.hf_split.specs.Held.{Held, Stands}
use Rattle.hf_split.proofs.Finding.{next_is_frame, spelling_of_frame, past_view}
use Rattle.hf_split.proofs.Streams.{stands_past}
use Rattle.hf_split.proofs.splitter.Splitter.pass.Goals as goal

pub returns-in-Frame-clause-past : goal.returns-in-Frame-clause-past
returns-in-Frame-clause-past c = rw (← c.self.view_is) (λ item begins.
    let size : length item.spelling ≡ c.in-Frame.past =
    spelling_of_frame c.self.inside.framing c.self.inside.most (drop c.self.inside.start c.self.inside.buffer.items) c.in-Frame.from c.in-Frame.to c.in-Frame.past item
    (rw c.in-Frame.is at c.self.invariant.found) begins in
    past_view c.self.inside.framing c.self.inside.most c.self.inside.place c.self.inside.start c.in-Frame.past c.saturating_add-self-inside.result c.self.inside.buffer.items item size c.saturating_add-self-inside.ensures)

pub returns-in-Frame-clause-stands : goal.returns-in-Frame-clause-stands
returns-in-Frame-clause-stands c = rw (← c.self.view_is) (λ framings stream passed item stands step begins.
    let size : length item.spelling ≡ c.in-Frame.past =
    spelling_of_frame c.self.inside.framing c.self.inside.most (drop c.self.inside.start c.self.inside.buffer.items) c.in-Frame.from c.in-Frame.to c.in-Frame.past item
    (rw c.in-Frame.is at c.self.invariant.found) begins in
    subst (λ (h : Held). Stands framings h stream (passed ++ item ∷ []))
    (sym (past_view c.self.inside.framing c.self.inside.most c.self.inside.place c.self.inside.start c.in-Frame.past c.saturating_add-self-inside.result c.self.inside.buffer.items item size c.saturating_add-self-inside.ensures))
    (stands_past framings _ stream passed item stands step begins))

pub returns-in_default : goal.returns-in_default
returns-in_default c =
    let can = rw (← c.self.view_is) at c.requires in
    absurd (next_is_frame c.self.inside.framing c.self.inside.most (drop c.self.inside.start c.self.inside.buffer.items) c.self.inside.next can.0 c.self.invariant.found can.1 c.in_default.not-Frame)
