use Rattle.std.proofs.Common.{arith}
use Rattle.hi_calls.proofs.Drawing.{after_step}
use Rattle.hi_calls.proofs.ids.Ids.after.Goals as goal

pub loop-which-preserved : goal.loop-which-preserved
loop-which-preserved c =
    let e = c.upload_number.ensures in
    after_step c.args.self.now.prefix c.args.number c.loop-which.which c.upload_number.result c.loop-which.ids.items c.push.new.self.items c.in_ok-id.field-0 c.loop-which.invariant e
    (c.in_ok-id.ensures (omega arith)) c.in_ok-push.ensures.items
