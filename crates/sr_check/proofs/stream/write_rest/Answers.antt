use Rattle.std.proofs.Common.{◌≡◌, ◌++◌, length, codes, arith, refl, ap, ◌∙◌}
use Rattle.std.specs.Fmt.{decimal}
use Rattle.sr_check.specs.Output.{last_text}
use Rattle.sr_check.proofs.Inputs.{ends_rest}
use Rattle.sr_check.proofs.stream.write_rest.Goals as goal

pub returns-clause-ended : goal.returns-clause-ended
returns-clause-ended g c =
    let words : c.as_bytes-words.result.now ≡ decimal (length c.args.splitter.now.bytes) = c.as_bytes-words.ensures.value ∙ c.format.ensures.text ∙ ap decimal c.held-held.ensures in
    let last = rw c.place.ensures at (rw words at c.write_last.ensures.last) in
    ends_rest c.args.task c.args.splitter.now (g.K.Sink.holds c.args.out.now) (g.K.Sink.holds c.write_last.new.out)
    (last_text c.args.task c.args.splitter.now.place (codes "unfinished " ++ decimal (length c.args.splitter.now.bytes))) c.write_last.result c.requires.resting (omega (arith, c.held-held.ensures)) refl last
