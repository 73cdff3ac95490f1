use Rattle.std.proofs.Common.{sym, ◌∙◌, ◌≡◌, suc, ◌+◌, subst, arith}
use Rattle.hd_calls.specs.Numbers.{most_uploads}
use Rattle.hi_calls.specs.Maps.{EndsUploads}
use Rattle.hi_calls.proofs.Owned.{all_ended, none_ended, one_ended}
use Rattle.hi_calls.proofs.owners.Owners.end_all.Goals as goal

pub loop-which-init : goal.loop-which-init
loop-which-init c = none_ended c.args.self.now c.args.call

pub loop-which-preserved : goal.loop-which-preserved
loop-which-preserved c =
    let j = c.loop-which.which in
    let e : suc j ≡ j + 1 = omega arith in
    subst (EndsUploads c.args.self.now c.end.new.self c.args.call) e
    (one_ended c.args.self.now c.loop-which.self c.end.new.self c.args.call j c.loop-which.invariant c.end.ensures.ended c.end.ensures.size)

pub returns-then-len-eq0 : goal.returns-then-len-eq0
returns-then-len-eq0 c = all_ended c.args.self.now c.args.call most_uploads (sym c.len.ensures.size ∙ c.if-len-eq0.true)
