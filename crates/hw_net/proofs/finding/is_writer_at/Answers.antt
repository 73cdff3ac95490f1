use Rattle.std.proofs.Common.{rules, ◌≡◌, sym, ◌∙◌, get_or}
use Rattle.hw_net.specs.Tally.{is_writer}
use Rattle.hw_net.proofs.Findings.{no-writer, writer-there}
use Rattle.hw_net.proofs.finding.is_writer_at.Goals as goal

pub returns-in-Some : goal.returns-in-Some
returns-in-Some c =
    let lane = c.index-lanes-index.result in
    let found : get_or c.args.lanes.now c.in-Some.index lane ≡ lane = search rules in
    let same : c.is_writer.result ≡ is_writer lane = search rules in
    same ∙ writer-there c.args.wire c.requires.0 c.args.lanes.now c.in-Some.index lane c.requires.1 (search rules) found

pub returns-in-None : goal.returns-in-None
returns-in-None c = sym (no-writer c.args.wire c.args.lanes.now (search rules))
