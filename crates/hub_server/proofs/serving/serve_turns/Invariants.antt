use Rattle.std.proofs.Common.{◌≡◌, true}
use Rattle.hd_server.specs.Serving.{all_answered}
use Rattle.hj_jobs.specs.Meaning.{meaning}
use Rattle.hub_server.specs.Serving.{HasServed}
use Rattle.hub_server.specs.Steps.{outside}
use Rattle.hub_server.proofs.serving.serve_turns.Given as goal

abbrev pub invariant-loop-turn : goal.invariant-loop-turn
invariant-loop-turn g l = record {
  served : HasServed {H = g.row.H.Denot} (meaning g.H.Hub.begin_of g.H.Hub.step_of) l.fn.server l.server
      (outside (g.K.Keeper.holds l.fn.keeper) (g.K.Keeper.answers l.fn.keeper) (g.K.Keeper.faults l.fn.keeper) (g.L.Lots.drawn l.fn.lots)
      (g.L.Lots.faults l.fn.lots))
      (outside (g.K.Keeper.holds l.keeper) (g.K.Keeper.answers l.keeper) (g.K.Keeper.faults l.keeper) (g.L.Lots.drawn l.lots) (g.L.Lots.faults l.lots))
      (λ calls. g.D.Door.Goes l.fn.door calls l.door) (g.D.Door.moment l.fn.door) (g.D.Door.moment l.door) l._turn all_answered;
  ended : l.fn.server.is_ended ≡ true → (l._turn ≡ 0) × (l.server.is_ended ≡ true);
  unfailed : g.D.Door.faults l.door ≡ g.D.Door.faults l.fn.door;
}
