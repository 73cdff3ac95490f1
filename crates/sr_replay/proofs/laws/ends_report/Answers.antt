use Rattle.sr_replay.proofs.Reported.{ends_report}
use Rattle.sr_replay.proofs.laws.ends_report.Goals as goal

pub returns : goal.returns
returns c = ends_report c.args.client.now c.args.server.now c.scripts_are_in_turn.ensures c.scripts_are_settled.ensures c.runs_once.ensures c.runs_are_worlds.ensures c.wire_is_sound.ensures c.ends_deliver.ensures
