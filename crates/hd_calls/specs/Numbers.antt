-- The bounds in the rules of a peer, which are this project's own.
use Rattle.std.specs.Prelude.{ℕ, ◌^◌}

-- the most own calls and uploads that are live, and the most live jobs
abbrev pub most_live : ℕ
most_live = 1024

-- the most uploads of one call
abbrev pub most_uploads : ℕ
most_uploads = 8

-- the most inputs that wait at one job
abbrev pub most_inputs : ℕ
most_inputs = 4096

-- the most that the calls of live jobs, the inputs that wait at them and the answers to their asks weigh together
abbrev pub most_weight : ℕ
most_weight = 2 ^ 24

-- what a value, a list of arguments, a target, an id, a stream's end or an ending weighs, beside its bytes and what is in it
abbrev pub base_weight : ℕ
base_weight = 48

-- the greatest number that is drawn
abbrev pub most_numbers : ℕ
most_numbers = 2 ^ 62

-- how deep the content of a message that is sent may nest
abbrev pub most_depth : ℕ
most_depth = 63
