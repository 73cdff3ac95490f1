use Rattle.std.proofs.Common.{[], ◌∷◌, ◌≡◌, ◌≤◌, Ok, Err, refl}
use Rattle.hw_door.specs.Calls.{AddsSome}
use Rattle.hw_door.specs.DoorCalls.{given_in}
use Rattle.hn_dialing.specs.Calls.{AreNewLanes, IsCountOf}
use Rattle.hd_dialing.specs.Asks.{negotiate_ask}
use Rattle.hd_dialing.specs.Events.{Asks}
use Rattle.hn_dialing.specs.Stands.{setup_of}
use Rattle.hn_dialing.specs.declared.phase.Phase.{Phase}
use Rattle.hn_dialing.proofs.Asked.{not_ok, undrawn}
use Rattle.hn_dialing.proofs.Noted.{socket_broken_as, token_broken, token_noted}
use Rattle.hn_dialing.proofs.Telling.{none_drawn, undrawn_too}
use Rattle.hn_dialing.proofs.connection.Connection.ask.Goals as goal

pub returns-in_err-phase-in-Some-clause-asked : goal.returns-in_err-phase-in-Some-clause-asked
returns-in_err-phase-in-Some-clause-asked g c = (
  c.in_err-phase-in-Some.ensures.asked.0,
  not_ok c.from_residual.result (λ e. e ≡ c.in_err-phase-in-Some.field-0.0) (λ done. g.D.Dialer.lanes c.args.dialer.now ≤ c.in_err-phase-in-Some.ensures.asked.0.lane) c.from_residual.ensures.1,
  socket_broken_as c.args.self.now (λ calls. g.D.Dialer.Goes c.args.dialer.now calls c.ask_for_socket.new.dialer × AreNewLanes (given_in calls) (g.D.Dialer.lanes c.args.dialer.now) (g.D.Dialer.lanes c.ask_for_socket.new.dialer)) (λ drawn. AddsSome (g.L.Lots.drawn c.args.lots.now) (g.L.Lots.drawn c.ask_for_socket.new.lots) drawn × IsCountOf drawn (g.L.Lots.faults c.args.lots.now) (g.L.Lots.faults c.ask_for_socket.new.lots))
      c.in_err-phase-in-Some.ensures.asked.0 c.in-Some.granted c.in-Some.is c.as_str-token.result.now c.as_str-token.ensures Phase c.args.self.now c.in_err-phase-in-Some.field-0.0
      c.from_residual.result c.from_residual.ensures.1 c.in_err-phase-in-Some.ensures.asked.2,
)

pub returns-in_err-self-in-None-clause-asked : goal.returns-in_err-self-in-None-clause-asked
returns-in_err-self-in-None-clause-asked g c =
    let d = undrawn c.in_err-self-in-None.ensures.asked.0 in (
      d,
      not_ok c.from_residual-in_err-self-in-None.result (λ e. e ≡ c.in_err-self-in-None.field-0.0) (λ done. g.D.Dialer.lanes c.args.dialer.now ≤ d.lane) c.from_residual-in_err-self-in-None.ensures.1,
      token_broken c.args.self.now (λ calls. g.D.Dialer.Goes c.args.dialer.now calls c.ask_for_token.new.dialer × AreNewLanes (given_in calls) (g.D.Dialer.lanes c.args.dialer.now) (g.D.Dialer.lanes c.ask_for_token.new.dialer))
          (λ drawn. AddsSome (g.L.Lots.drawn c.args.lots.now) (g.L.Lots.drawn c.args.lots.now) drawn × IsCountOf drawn (g.L.Lots.faults c.args.lots.now) (g.L.Lots.faults c.args.lots.now))
          d c.in-None.is Phase c.args.self.now c.in_err-self-in-None.field-0.0 c.from_residual-in_err-self-in-None.result c.from_residual-in_err-self-in-None.ensures.1
          (undrawn_too {T = Phase} (Asks d.lane (negotiate_ask (setup_of c.args.self.now.setup)) ∷ []) (λ calls. g.D.Dialer.Goes c.args.dialer.now calls c.ask_for_token.new.dialer × AreNewLanes (given_in calls) (g.D.Dialer.lanes c.args.dialer.now) (g.D.Dialer.lanes c.ask_for_token.new.dialer))
          (λ drawn. AddsSome (g.L.Lots.drawn c.args.lots.now) (g.L.Lots.drawn c.args.lots.now) drawn × IsCountOf drawn (g.L.Lots.faults c.args.lots.now) (g.L.Lots.faults c.args.lots.now))
          (Err c.in_err-self-in-None.field-0.0) (none_drawn (g.L.Lots.drawn c.args.lots.now), refl) c.in_err-self-in-None.ensures.asked.1),
    )

pub returns-in_ok-self-in-None-clause-asked : goal.returns-in_ok-self-in-None-clause-asked
returns-in_ok-self-in-None-clause-asked g c =
    let d = undrawn c.in_ok-self-in-None.ensures.asked.0 in (
      d,
      c.in_ok-self-in-None.ensures.asked.2.1,
      token_noted c.args.self.now (λ calls. g.D.Dialer.Goes c.args.dialer.now calls c.ask_for_token.new.dialer × AreNewLanes (given_in calls) (g.D.Dialer.lanes c.args.dialer.now) (g.D.Dialer.lanes c.ask_for_token.new.dialer))
          (λ drawn. AddsSome (g.L.Lots.drawn c.args.lots.now) (g.L.Lots.drawn c.args.lots.now) drawn × IsCountOf drawn (g.L.Lots.faults c.args.lots.now) (g.L.Lots.faults c.args.lots.now))
          d c.in-None.is c.in_ok-self-in-None.field-0 c.in_ok-self-in-None.ensures.asked.2.0
          (undrawn_too {T = Phase} (Asks d.lane (negotiate_ask (setup_of c.args.self.now.setup)) ∷ []) (λ calls. g.D.Dialer.Goes c.args.dialer.now calls c.ask_for_token.new.dialer × AreNewLanes (given_in calls) (g.D.Dialer.lanes c.args.dialer.now) (g.D.Dialer.lanes c.ask_for_token.new.dialer))
          (λ drawn. AddsSome (g.L.Lots.drawn c.args.lots.now) (g.L.Lots.drawn c.args.lots.now) drawn × IsCountOf drawn (g.L.Lots.faults c.args.lots.now) (g.L.Lots.faults c.args.lots.now))
          (Ok c.in_ok-self-in-None.field-0) (none_drawn (g.L.Lots.drawn c.args.lots.now), refl) c.in_ok-self-in-None.ensures.asked.1),
    )
