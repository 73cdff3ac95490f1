use Rattle.hd_delivery.proofs.ExamplesOverBytes.{lazy_is_unsound, padded_is_unsound}
use Rattle.hd_delivery.proofs.worlds.what_is_excluded.Goals as goal

pub returns-clause-waiting : goal.returns-clause-waiting
returns-clause-waiting c = lazy_is_unsound

pub returns-clause-framing : goal.returns-clause-framing
returns-clause-framing c = padded_is_unsound
