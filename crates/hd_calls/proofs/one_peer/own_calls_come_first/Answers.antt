use Rattle.hd_calls.proofs.Hostile.{item_is_fed, ending_is_not_fed}
use Rattle.hd_calls.proofs.one_peer.own_calls_come_first.Goals as goal

pub returns-clause-item : goal.returns-clause-item
returns-clause-item c = item_is_fed

pub returns-clause-not_fed : goal.returns-clause-not_fed
returns-clause-not_fed c = ending_is_not_fed
