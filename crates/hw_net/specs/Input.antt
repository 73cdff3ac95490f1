-- What one turn of a lane hears.
use Rattle.std.specs.Prelude.{Bool, true, false}
use Rattle.hw_net.specs.declared.input.Input.{Input}
use Rattle.hw_net.specs.declared.input.Input.TheVariants as input

abbrev pub is_nothing : Input → Bool
is_nothing input.Nothing = true
is_nothing (input.Request request) = false
is_nothing (input.Refused refusal) = false
is_nothing (input.Response status body) = false
is_nothing input.Upgraded = false
is_nothing (input.Message bytes) = false
is_nothing input.Broken = false
is_nothing input.Gone = false

abbrev pub is_upgraded : Input → Bool
is_upgraded input.Upgraded = true
is_upgraded _ = false
