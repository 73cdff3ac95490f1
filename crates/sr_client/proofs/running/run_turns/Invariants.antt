use Rattle.std.proofs.Common.{◌≡◌, List, []}
use Rattle.hd_client.specs.declared.order.Order.{Order}
use Rattle.hd_client.specs.Setups.{Setup}
use Rattle.sr_client.specs.Clients.{StandsClient}
use Rattle.sr_client.specs.Running.{IsTouchedByBytes, WentSo, faults}
use Rattle.sr_client.proofs.RunTurns.{Ran}
use Rattle.sr_client.proofs.running.run_turns.Given as goal

abbrev pub invariant-loop-turn : goal.invariant-loop-turn
invariant-loop-turn g l = record {
  ran : (s : Setup) (script : List Order) → StandsClient s script l.fn.client [] → Ran s script (WentSo (λ calls. g.C.Dialer.Goes l.fn.dialer calls l.dialer)
      (g.L.Lots.drawn l.fn.lots) (g.L.Lots.drawn l.lots) (g.K.Sink.holds l.fn.out) (g.K.Sink.holds l.out)) l.client (g.C.Dialer.lanes l.dialer)
      (g.C.Dialer.moment l.dialer) l._turn;
  unfailed : (s : Setup) (script : List Order) → StandsClient s script l.fn.client [] → faults (g.C.Dialer.faults l.dialer) (g.L.Lots.faults l.lots) (g.K.Sink.faults l.out)
      ≡ faults (g.C.Dialer.faults l.fn.dialer) (g.L.Lots.faults l.fn.lots) (g.K.Sink.faults l.fn.out);
  touched : IsTouchedByBytes g.K.Sink.holds l.fn.out l.out;
}
