use Rattle.std.proofs.Common.{sym}
use Rattle.hd_delivery.specs.declared.vocabulary.Side.TheVariants.{Client, Server}
use Rattle.hd_calls.proofs.Once.{both_once}
use Rattle.hd_calls.proofs.calls_once.Goals as goal

pub returns : goal.returns
returns g c hc hs p w apart faithful q =
    both_once hc hs p c.facts_hold.ensures c.worlds_are_histories.ensures c.delivery_over_bytes.ensures
    (record { own = apart.own Client; other = apart.across }) (record { own = apart.own Server; other = λ m n e. apart.across n m (sym e) })
    w faithful q
