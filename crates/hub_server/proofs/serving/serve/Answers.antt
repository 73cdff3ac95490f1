use Rattle.std.proofs.Common.{[], ◌∷◌, ◌++◌, sym, subst}
use Rattle.hw_door.specs.DoorCalls.{flushed}
use Rattle.hub_server.specs.Serving.{IsCausedBy}
use Rattle.hub_server.proofs.ServeRun.{served_flushed}
use Rattle.hub_server.proofs.serving.serve.Goals as goal

pub returns-clause-served : goal.returns-clause-served
returns-clause-served g c = (
  c.serve_turns-served.ensures.served.0,
  c.serve_turns-served.ensures.served.1,
  served_flushed {H = g.row.H.Denot} {Job = g.row.H-Job.Denot}
      {Goes = λ calls. g.D.Door.Goes c.args.door.now calls c.serve_turns-served.new.door}
      {Then = λ calls. g.D.Door.Goes c.args.door.now (calls ++ flushed ∷ []) c.flush.new.self}
      (λ calls goes. g.met.D.Door.joins c.args.door.now c.serve_turns-served.new.door c.flush.new.self calls (flushed ∷ []) goes c.flush.ensures.goes)
      c.flush.ensures.others_unchanged c.serve_turns-served.ensures.served.2,
)

pub returns-clause-cause : goal.returns-clause-cause
returns-clause-cause g c =
    subst (λ n. IsCausedBy (g.D.Door.faults c.args.door.now) n c.serve_turns-served.result) (sym c.flush.ensures.unfailed)
    c.serve_turns-served.ensures.cause
