use Rattle.ha_audit.proofs.AuditNames.{put}
use Rattle.ha_audit.proofs.auditor.audited_end.AuditedEnd.open.Goals as goal

pub returns-in-Ok-clause-links : goal.returns-in-Ok-clause-links
returns-in-Ok-clause-links c = record {
  said = record { bytes = c.new.result; frames = c.new-2.result };
  no_bytes = c.new.ensures.items;
  no_frames = c.new-2.ensures.items;
  links = put c.args.self.now.links c.insert.new.self c.args.link (record { bytes = c.new.result; frames = c.new-2.result }) c.in-Ok.ensures.updates;
}
