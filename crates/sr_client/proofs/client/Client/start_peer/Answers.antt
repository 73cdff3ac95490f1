use Rattle.std.proofs.Common.{sym, ◌∙◌}
use Rattle.sr_client.proofs.Starting.{starts_later, starts_now}
use Rattle.sr_client.proofs.client.Client.start_peer.Goals as goal

pub returns-in_ok-start-clause-started : goal.returns-in_ok-start-clause-started
returns-in_ok-start-clause-started c = λ s h kept may.
    starts_now s h c.args.self.now kept may (sym c.is_some.ensures ∙ c.if-is_some.false) c.in_ok-start.field-0 c.granted.result c.in-Some.reconnect
    (c.granted.ensures s.dialing _ kept.dialed) c.in-Some.is c.in_ok-start.ensures

pub returns-in_default-clause-started : goal.returns-in_default-clause-started
returns-in_default-clause-started c = λ s h kept may.
    starts_later s h c.args.self.now kept may (sym c.is_some.ensures ∙ c.if-is_some.false) c.granted.result
    (c.granted.ensures s.dialing _ kept.dialed) c.in_default.not-Some
