use Rattle.std.proofs.Common.{List, sym, ap, subst, ◌∙◌}
use Rattle.hd_server.specs.Plans.{onto}
use Rattle.hd_client.specs.Events.{ClientEvent}
use Rattle.hd_client.specs.Plans.{closing}
use Rattle.hd_client.specs.Turns.{LinesDone}
use Rattle.sr_client.specs.Clients.{Working}
use Rattle.sr_client.specs.Turning.{WorksOn}
use Rattle.sr_client.proofs.Worked.{worked_all, worked_none, works_all}
use Rattle.sr_client.proofs.client.Client.work.Goals as goal

pub returns-then-is_over-clause-worked : goal.returns-then-is_over-clause-worked
returns-then-is_over-clause-worked c = λ s script b h x is none empty.
    works_all s script b c.args.self.now c.end_turn.new.self c.args.words.now c.end_turn.new.words h
    (worked_none s script b c.args.self.now c.args.words.now h (sym (c.is_over.ensures s h x.standing) ∙ c.if-is_over.true) x)
    (λ k y. c.in_ok-end_turn.ensures.said s b k y none empty)

pub returns-clause-worked : goal.returns-clause-worked
returns-clause-worked c = λ s script b h x is none empty.
    let told = c.obey_all.new.words in
    let reads = ap (λ z. z.script) c.round.ensures.others ∙ is in
    works_all s script b c.close_at_end.new.self c.end_turn-2.new.self told c.end_turn-2.new.words h
    (worked_all s script b c.round.new.self c.obey_all.new.self c.close_at_end.new.self c.args.words.now told h
    (sym (c.is_over.ensures s h x.standing) ∙ c.if-is_over.false) (c.in_ok-round.ensures.round s b c.args.words.now h x)
    (λ k y.
    subst (λ z. (lines : List (List ClientEvent)) × WorksOn s b c.obey_all.new.self told (LinesDone s z lines k)) reads
    (c.in_ok-obey_all.ensures.obeyed s b k y))
    (λ k y.
    subst (λ z. Working s b c.close_at_end.new.self told (onto (closing s z k) k)) (c.obey_all.ensures.others.0 ∙ reads)
    (c.close_at_end.ensures.closed s b told k y)))
    (λ k y.
    c.in_ok-end_turn-2.ensures.said s b k y (c.obey_all.ensures.others.2 ∙ none) (ap (λ z. z.items) c.obey_all.ensures.others.3 ∙ empty))
