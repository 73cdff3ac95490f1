use Rattle.std.proofs.Common.{ℕ, List}
use Rattle.hf_split.specs.declared.framing.Framing.{Framing}
use Rattle.hf_split.specs.declared.splitter.SplitFault.{SplitFault}
use Rattle.hf_split.specs.declared.splitter.SplitFault.TheVariants.{TooLong, BadLength}
use Rattle.hf_split.specs.Laws.{TooLongBeginsNone, BadLengthBeginsNone, TooLongStays, BadLengthStays}
use Rattle.sr_check.specs.Stream.{most_frame}
use Rattle.sr_check.specs.Laws.{FaultsLast}
use Rattle.sr_check.proofs.laws.faults_last.Goals as goal

by_fault : TooLongBeginsNone → BadLengthBeginsNone → TooLongStays → BadLengthStays → FaultsLast
by_fault long_none bad_none long_stays bad_stays framing place bytes more (TooLong at) is =
    ((is.0, long_stays framing most_frame bytes more is.1), λ item. long_none framing most_frame bytes more item is.1)
by_fault long_none bad_none long_stays bad_stays framing place bytes more (BadLength at) is =
    ((is.0, bad_stays framing bytes more is.1), λ item. bad_none framing most_frame bytes more item is.1)

pub returns : goal.returns
returns c = by_fault c.too_long_begins_none.ensures c.bad_length_begins_none.ensures c.too_long_stays.ensures c.bad_length_stays.ensures
