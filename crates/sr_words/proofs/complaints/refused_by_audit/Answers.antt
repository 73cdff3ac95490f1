use Rattle.std.proofs.Common.{◌∙◌, ap}
use Rattle.clap.specs.Words.{is_simple_and_free}
use Rattle.sr_words.proofs.Simple.{audit_is_simple}
use Rattle.sr_words.proofs.complaints.refused_by_audit.Goals as goal

pub matches_in-requires : goal.matches_in-requires
matches_in-requires c = ap is_simple_and_free c.in_ok-audit_command.ensures ∙ audit_is_simple
