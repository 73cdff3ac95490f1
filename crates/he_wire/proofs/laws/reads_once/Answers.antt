use Rattle.hf_split.specs.declared.framing.Framing.TheVariants.{Record}
use Rattle.hm_codec.specs.Frames.{framing_of}
use Rattle.he_wire.specs.Readings.{IsLaterFrame, IsRefused, IsFirstFrame}
use Rattle.he_wire.proofs.Readers.{once}
use Rattle.he_wire.proofs.Meanings.{NoReason, later_means, later_by, first_means, first_by}
use Rattle.he_wire.proofs.laws.reads_once.Goals as goal

pub returns : goal.returns
returns c = λ most bytes x y.
    let begins = c.begins_once.ensures in
    let one = c.one_beginning.ensures in (
      λ side p q. once Record most (IsFirstFrame side) NoReason (first_means c.one_request_meaning.ensures c.one_response_meaning.ensures side) begins one bytes x y
          (first_by most side bytes x p) (first_by most side bytes y q),
      λ codec p q. once (framing_of codec) most (IsLaterFrame codec) (IsRefused codec) (later_means c.one_meaning.ensures codec) begins one bytes x y
          (later_by most codec bytes x p) (later_by most codec bytes y q),
    )
