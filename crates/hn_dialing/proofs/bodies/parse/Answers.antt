use Rattle.std.proofs.Common.{sym, rules}
use Rattle.serde_json.specs.View.{view}
use Rattle.hn_dialing.proofs.Reading.{is_json, is_no_json}
use Rattle.hn_dialing.proofs.bodies.parse.Goals as goal

pub returns-in-Ok : goal.returns-in-Ok
returns-in-Ok c = sym (is_json c.args.bytes.now (view c.in-Ok.json) c.in-Ok.ensures.ok.0 c.in-Ok.ensures.ok.1)

pub returns-else-is_memory : goal.returns-else-is_memory
returns-else-is_memory c = sym (is_no_json c.args.bytes.now (c.in-Err.ensures.err (λ m. search rules)))
