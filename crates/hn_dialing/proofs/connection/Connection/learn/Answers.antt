use Rattle.std.proofs.Common.{◌≡◌, ◌≤◌, IfOk, option_map, refl, sym, ap, ◌∙◌, subst}
use Rattle.hw_door.specs.Calls.{AddsSome}
use Rattle.hn_dialing.specs.Calls.{IsCountOf}
use Rattle.hn_dialing.specs.Calls.{fault_by}
use Rattle.hn_dialing.specs.declared.errors.DialFault.TheVariants as fault
use Rattle.hn_dialing.specs.Stands.{told_of}
use Rattle.hn_dialing.proofs.Asked.{not_ok, undrawn}
use Rattle.hn_dialing.proofs.Learned.{learn_all, learn_nothing, learn_unread, learn_unshut}
use Rattle.hn_dialing.proofs.Telling.{at_most_itself, none_drawn}
use Rattle.hn_dialing.proofs.connection.Connection.learn.Goals as goal

pub returns-in_err-told-clause-negotiated : goal.returns-in_err-told-clause-negotiated
returns-in_err-told-clause-negotiated g c = (
  undrawn (g.D.Dialer.lanes c.args.dialer.now),
  not_ok c.from_residual.result (λ e. e ≡ fault.NoMemory) (λ done. g.D.Dialer.lanes c.args.dialer.now ≤ g.D.Dialer.lanes c.args.dialer.now) c.from_residual.ensures.1,
  learn_unread c.args.self.now c.args.lane c.args.status c.args.body.now (λ calls. g.D.Dialer.Goes c.args.dialer.now calls c.args.dialer.now) (g.D.Dialer.lanes c.args.dialer.now) (g.D.Dialer.lanes c.args.dialer.now)
      (λ drawn. AddsSome (g.L.Lots.drawn c.args.lots.now) (g.L.Lots.drawn c.args.lots.now) drawn × IsCountOf drawn (g.L.Lots.faults c.args.lots.now) (g.L.Lots.faults c.args.lots.now))
      c.args.self.now c.from_residual.result (g.met.D.Dialer.stays c.args.dialer.now) refl (none_drawn (g.L.Lots.drawn c.args.lots.now), refl) c.from_residual.ensures.1,
)

pub returns-in_err-shut-clause-negotiated : goal.returns-in_err-shut-clause-negotiated
returns-in_err-shut-clause-negotiated g c = (
  undrawn (g.D.Dialer.lanes c.args.dialer.now),
  not_ok c.from_residual-in_err-shut.result (λ e. e ≡ fault_by c.in_err-shut.field-0.0) (λ done. g.D.Dialer.lanes c.args.dialer.now ≤ g.D.Dialer.lanes c.args.dialer.now) c.from_residual-in_err-shut.ensures.1,
  learn_unshut c.args.self.now c.args.lane c.args.status c.args.body.now (λ calls. g.D.Dialer.Goes c.args.dialer.now calls c.shut.new.self) (g.D.Dialer.lanes c.args.dialer.now) (g.D.Dialer.lanes c.shut.new.self)
      (λ drawn. AddsSome (g.L.Lots.drawn c.args.lots.now) (g.L.Lots.drawn c.args.lots.now) drawn × IsCountOf drawn (g.L.Lots.faults c.args.lots.now) (g.L.Lots.faults c.args.lots.now))
      c.args.self.now c.in_err-shut.field-0.0 c.from_residual-in_err-shut.result c.in_err-shut.ensures.given.1 c.in_err-shut.ensures.lanes (none_drawn (g.L.Lots.drawn c.args.lots.now), refl) c.from_residual-in_err-shut.ensures.1,
)

pub returns-in-None-clause-negotiated : goal.returns-in-None-clause-negotiated
returns-in-None-clause-negotiated g c = (
  undrawn (g.D.Dialer.lanes c.args.dialer.now),
  at_most_itself (g.D.Dialer.lanes c.args.dialer.now),
  learn_nothing c.args.self.now c.args.lane c.args.status c.args.body.now (λ calls. g.D.Dialer.Goes c.args.dialer.now calls c.shut.new.self) (g.D.Dialer.lanes c.args.dialer.now) (g.D.Dialer.lanes c.shut.new.self)
      (λ drawn. AddsSome (g.L.Lots.drawn c.args.lots.now) (g.L.Lots.drawn c.args.lots.now) drawn × IsCountOf drawn (g.L.Lots.faults c.args.lots.now) (g.L.Lots.faults c.args.lots.now))
      c.in_ok-shut.ensures.given.0 c.in_ok-shut.ensures.given.1 c.in_ok-shut.ensures.lanes (none_drawn (g.L.Lots.drawn c.args.lots.now), refl) (sym (ap (option_map told_of) c.in-None.is) ∙ c.in_ok-told.ensures),
)

pub returns-in-Some-clause-negotiated : goal.returns-in-Some-clause-negotiated
returns-in-Some-clause-negotiated g c = (
  c.ask.ensures.asked.0,
  subst (λ k. IfOk c.ask.result (λ done. k ≤ c.ask.ensures.asked.0.lane)) c.in_ok-shut.ensures.lanes c.ask.ensures.asked.1,
  learn_all c.args.self.now c.args.lane c.args.status c.args.body.now (λ calls. g.D.Dialer.Goes c.args.dialer.now calls c.ask.new.dialer) (g.D.Dialer.lanes c.args.dialer.now) (g.D.Dialer.lanes c.ask.new.dialer)
      (λ drawn. AddsSome (g.L.Lots.drawn c.args.lots.now) (g.L.Lots.drawn c.ask.new.lots) drawn × IsCountOf drawn (g.L.Lots.faults c.args.lots.now) (g.L.Lots.faults c.ask.new.lots))
      c.what_is_new_is_told_last.ensures c.in-Some.granted (sym (ap (option_map told_of) c.in-Some.is) ∙ c.in_ok-told.ensures) c.ask.ensures.asked.0 c.in_ok-shut.ensures.given.0
      (λ calls. g.D.Dialer.Goes c.shut.new.self calls c.ask.new.dialer) (g.D.Dialer.lanes c.shut.new.self) c.in_ok-shut.ensures.lanes
      (λ calls then. g.met.D.Dialer.joins c.args.dialer.now c.shut.new.self c.ask.new.dialer _ calls c.in_ok-shut.ensures.given.1 then)
      c.ask.new.self c.ask.result c.ask.ensures.asked.2,
)
