use Rattle.ha_audit.proofs.AuditKnown.{known}
use Rattle.ha_audit.proofs.auditor.laws.kept_is_known.Goals as goal

pub returns : goal.returns
returns c = known c.told_is_world.ensures c.worlds_are_histories.ensures c.facts_hold.ensures c.wire_is_sound.ensures c.wire_is_faithful.ensures
