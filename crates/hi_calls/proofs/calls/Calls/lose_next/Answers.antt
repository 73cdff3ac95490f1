use Rattle.std.proofs.Common.{sym, ◌∙◌, subst}
use Rattle.hi_calls.specs.Calls.{Loses}
use Rattle.hi_calls.proofs.Ending.{removed, over_gone}
use Rattle.hi_calls.proofs.Least.{none_least, least_there, none_less}
use Rattle.hi_calls.proofs.Looking.{is_live, isnt_live, live_within}
use Rattle.hi_calls.proofs.calls.Calls.lose_next.Goals as goal

pub returns-in_err-least-clause-lost : goal.returns-in_err-least-clause-lost
returns-in_err-least-clause-lost c = λ prefix h s.
    subst (Loses c.args.self.now prefix h) (sym c.from_residual.ensures)
    (λ n. isnt_live c.args.self.now prefix h s n (none_least c.args.self.now.calls.entries (sym c.in_err-least.was ∙ c.least.ensures) n), s)

pub returns-clause-lost : goal.returns-clause-lost
returns-clause-lost c = λ prefix h s.
    let n = c.in_ok-least.least in
    let e = sym c.in_ok-least.was ∙ c.least.ensures in
    let live = is_live c.args.self.now prefix h s n (least_there c.args.self.now.calls.entries n e) in
    let r = c.remove.ensures in (
      live,
      λ k l. isnt_live c.args.self.now prefix h s k (none_less c.args.self.now.calls.entries n e k l),
      removed c.args.self.now c.remove.new.self prefix h _ n s r.ids (r.drawn ∙ s.drawn) r.call r.calls_size (r.uploads_end (live_within c.args.self.now prefix h s n live))
          (over_gone c.args.self.now prefix h n s live),
    )
