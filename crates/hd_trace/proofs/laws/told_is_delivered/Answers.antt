use Rattle.hd_delivery.specs.Worlds.{alike}
use Rattle.hd_trace.proofs.laws.told_is_delivered.Goals as goal

pub returns : goal.returns
returns c x lines w t faithful = c.delivery_over_bytes.ensures (alike x.limits) x.wire x.terms w faithful (c.told_is_world.ensures x lines w t).is_world
