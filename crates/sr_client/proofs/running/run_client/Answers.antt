use Rattle.std.proofs.Common.{[], ◌∷◌, ◌++◌}
use Rattle.hw_door.specs.DoorCalls.{flushed}
use Rattle.sr_client.proofs.RunTurns.{run_flushed}
use Rattle.sr_client.proofs.running.run_client.Goals as goal

pub returns-clause-dials : goal.returns-clause-dials
returns-clause-dials g c = λ s is.
    run_flushed s _ (λ calls. g.C.Dialer.Goes c.args.dialer.now calls c.start_and_run-ran.new.dialer)
    (λ calls. g.C.Dialer.Goes c.args.dialer.now (calls ++ flushed ∷ []) c.flush.new.self) _ _ _ _ _ c.start_and_run-ran.result
    (λ calls goes. g.met.C.Dialer.joins c.args.dialer.now c.start_and_run-ran.new.dialer c.flush.new.self calls (flushed ∷ []) goes c.flush.ensures.goes)
    (c.start_and_run-ran.ensures.dials s is)
