-- The meaning of the hub that is served, of the meanings of the two hubs.
use Rattle.std.specs.Prelude.{ℕ, is_some, if◌then◌else◌}
use Rattle.hd_calls.specs.declared.vocabulary.Call.{Call}
use Rattle.hd_calls.specs.declared.vocabulary.Input.{Input}
use Rattle.hd_calls.specs.declared.vocabulary.Act.{Act}
use Rattle.hd_calls.specs.Hubs.{Hub}
use Rattle.hd_rooms.specs.Rooms.{rooms, method_of}
use Rattle.hub_calc.specs.Table.{calc_hub}
use Rattle.hub_demo.specs.declared.hub.ServeJob.{ServeJob}
use Rattle.hub_demo.specs.declared.hub.ServeJob.TheVariants.{Calc, Rooms}

-- a target that names a room's method is the rooms hub's, and every other one the calculator's
abbrev pub serve_begin : Call → ℕ → ServeJob
serve_begin call now = if is_some (method_of call.target) then Rooms (rooms.begin_of call now) else Calc (calc_hub.begin_of call now)

-- a job stays with its hub
abbrev pub serve_step : ServeJob → Input → ℕ → ServeJob × Act
serve_step (Calc job) input now = let s = calc_hub.step_of job input now in (Calc s.0, s.1)
serve_step (Rooms job) input now = let s = rooms.step_of job input now in (Rooms s.0, s.1)

-- the hub
abbrev pub serve_hub : Hub ServeJob
serve_hub = record { begin_of = serve_begin; step_of = serve_step }
