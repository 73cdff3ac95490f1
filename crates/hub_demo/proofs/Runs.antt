-- A job does at the served hub what it does at its own.
use Rattle.std.proofs.Common.{◌≡◌, ℕ, List, [], ◌∷◌, refl, ap, ◌∙◌}
use Rattle.std.specs.Prelude.{true, false, is_some, if◌then◌else◌}
use Rattle.hd_calls.specs.declared.vocabulary.Act.{Act}
use Rattle.hd_calls.specs.Hubs.{Turn, Given, Cancelled}
use Rattle.hd_calls.specs.Rules.{run, goes_on}
use Rattle.hd_rooms.specs.Rooms.{Job, rooms, method_of}
use Rattle.hub_calc.specs.Table.{Plan, calc_hub}
use Rattle.hub_demo.specs.declared.hub.ServeJob.{ServeJob}
use Rattle.hub_demo.specs.declared.hub.ServeJob.TheVariants.{Calc, Rooms}
use Rattle.hub_demo.specs.Serving.{serve_hub}
use Rattle.hub_demo.specs.Laws.{RoomsAreServed, CalculationsAreServed}

room_job : (job : Job) (turns : List Turn) → run serve_hub (Rooms job) turns ≡ run rooms job turns
room_job job [] = refl
room_job job (Given i now ∷ ts) = let s = rooms.step_of job i now in ap (λ xs. s.1 ∷ goes_on s.1 xs) (room_job s.0 ts)
room_job job (Cancelled ∷ ts) = refl

calc_job : (job : Plan) (turns : List Turn) → run serve_hub (Calc job) turns ≡ run calc_hub job turns
calc_job job [] = refl
calc_job job (Given i now ∷ ts) = let s = calc_hub.step_of job i now in ap (λ xs. s.1 ∷ goes_on s.1 xs) (calc_job s.0 ts)
calc_job job (Cancelled ∷ ts) = refl

pub rooms_served : RoomsAreServed
rooms_served call since turns e = ap (λ b. run serve_hub (if b then Rooms (rooms.begin_of call since) else Calc (calc_hub.begin_of call since)) turns) e ∙ room_job (rooms.begin_of call since) turns

pub calculations_served : CalculationsAreServed
calculations_served call since turns e = ap (λ b. run serve_hub (if b then Rooms (rooms.begin_of call since) else Calc (calc_hub.begin_of call since)) turns) e ∙ calc_job (calc_hub.begin_of call since) turns
