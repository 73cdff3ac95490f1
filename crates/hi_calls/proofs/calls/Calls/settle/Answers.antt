use Rattle.std.proofs.Common.{◌∙◌}
use Rattle.hi_calls.proofs.Ending.{removed, over_got}
use Rattle.hi_calls.proofs.Looking.{live_within}
use Rattle.hi_calls.proofs.calls.Calls.settle.Goals as goal

pub returns-clause-ok : goal.returns-clause-ok
returns-clause-ok c = λ prefix h s.
    let n = c.in-Ok.number in
    let f = c.in-Ok.ensures.ok prefix h s in
    let r = c.remove.ensures in
    record {
      is = f.is;
      live = f.live;
      stands = λ e. removed c.args.self.now c.remove.new.self prefix h _ n s r.ids (r.drawn ∙ s.drawn) r.call r.calls_size (r.uploads_end (live_within c.args.self.now prefix h s n f.live))
          (over_got c.args.self.now prefix h n s f.live e);
      forgets = r.newest;
    }
