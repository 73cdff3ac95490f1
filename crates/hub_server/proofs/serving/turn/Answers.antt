use Rattle.std.proofs.Common.{◌≡◌, true, false, Some, refl, sym, ap, subst, ◌∙◌}
use Rattle.std.specs.Prelude.{nat_le}
use Rattle.std.proofs.lemmas.Bool.{cond-false, cond-true}
use Rattle.hw_door.specs.Calls.{IsCaused}
use Rattle.hw_door.specs.DoorCalls.{to_hear, to_say}
use Rattle.hd_server.specs.Numbers.{most_wait}
use Rattle.hd_server.specs.Serving.{all_answered, at_door, in_step, is_idle}
use Rattle.hj_jobs.specs.Meaning.{meaning}
use Rattle.hub_server.specs.declared.serving.ServeFault.TheVariants as fault
use Rattle.hub_server.specs.Serving.{cause_of}
use Rattle.hub_server.specs.Steps.{outside}
use Rattle.hub_server.proofs.ServeRun.{caused_door, caused_memory, fault_passed, served_answer, served_ended, served_nothing, unok}
use Rattle.hub_server.proofs.serving.turn.Goals.{then-idle, else-idle}
use Rattle.hub_server.proofs.serving.turn.Goals as goal

pub returns-in_err-heard-clause-served : goal.returns-in_err-heard-clause-served
returns-in_err-heard-clause-served g c = (
  at_door (to_hear c.if-idle.wait) c.in_err-heard.field-0.0,
  fault_passed c.from_residual.result (cause_of c.in_err-heard.field-0.0) c.from_residual.ensures.1,
  served_nothing {H = g.row.H.Denot} {Job = g.row.H-Job.Denot} (meaning g.H.Hub.begin_of g.H.Hub.step_of) c.args.server.now
      (outside (g.K.Keeper.holds c.args.keeper.now) (g.K.Keeper.answers c.args.keeper.now) (g.K.Keeper.faults c.args.keeper.now) (g.L.Lots.drawn c.args.lots.now) (g.L.Lots.faults c.args.lots.now))
      (λ calls. g.D.Door.Goes c.args.door.now calls c.next.new.self) (g.D.Door.moment c.args.door.now) (g.D.Door.moment c.next.new.self) c.if-idle.wait
      c.in_err-heard.field-0.0 c.in_err-heard.ensures.heard c.in_err-heard.ensures.later
      (elim c.if-idle.branch [
        | then-idle w ↦ subst (λ n. nat_le n most_wait ≡ true) (sym w.wait-is) refl
        | else-idle w ↦ subst (λ n. nat_le n most_wait ≡ true) (sym w.wait-is) refl
      ])
      (λ s h stands. elim c.if-idle.branch [
        | then-idle w ↦ w.wait-is ∙ sym (cond-true (is_idle h) most_wait 0 (sym (c.idle.ensures s h stands) ∙ w.if-idle.true))
        | else-idle w ↦ w.wait-is ∙ sym (cond-false (is_idle h) most_wait 0 (sym (c.idle.ensures s h stands) ∙ w.if-idle.false))
      ]),
)

pub returns-in_err-heard-clause-ended : goal.returns-in_err-heard-clause-ended
returns-in_err-heard-clause-ended g c = λ e. (unok c.from_residual.result c.from_residual.ensures.0, e)

pub returns-in_err-heard-clause-cause : goal.returns-in_err-heard-clause-cause
returns-in_err-heard-clause-cause g c =
    caused_door (g.D.Door.faults c.args.door.now) (g.D.Door.faults c.next.new.self) c.in_err-heard.field-0.0 c.from_residual.result
    c.in_err-heard.ensures.cause c.from_residual.ensures.1

pub returns-in_err-words-clause-served : goal.returns-in_err-words-clause-served
returns-in_err-words-clause-served g c = (
  in_step,
  fault_passed c.from_residual-in_err-words.result fault.NoMemory c.from_residual-in_err-words.ensures.1,
  served_ended {H = g.row.H.Denot} {Job = g.row.H-Job.Denot} (meaning g.H.Hub.begin_of g.H.Hub.step_of) c.args.server.now c.step.new.self c.step.new.self
      (outside (g.K.Keeper.holds c.args.keeper.now) (g.K.Keeper.answers c.args.keeper.now) (g.K.Keeper.faults c.args.keeper.now) (g.L.Lots.drawn c.args.lots.now) (g.L.Lots.faults c.args.lots.now))
      (outside (g.K.Keeper.holds c.step.new.keeper) (g.K.Keeper.answers c.step.new.keeper) (g.K.Keeper.faults c.step.new.keeper) (g.L.Lots.drawn c.step.new.lots) (g.L.Lots.faults c.step.new.lots))
      (λ calls. g.D.Door.Goes c.args.door.now calls c.next.new.self) (λ calls. g.D.Door.Goes c.args.door.now calls c.next.new.self) (λ calls. g.D.Door.Goes c.args.door.now calls c.next.new.self)
      (g.D.Door.moment c.args.door.now) (g.D.Door.moment c.next.new.self) c.if-idle.wait c.in_ok-heard.heard c.in_ok-heard.ensures.heard
      c.in_ok-heard.ensures.later c.in_err-words.ensures.ended
      (elim c.if-idle.branch [
        | then-idle w ↦ subst (λ n. nat_le n most_wait ≡ true) (sym w.wait-is) refl
        | else-idle w ↦ subst (λ n. nat_le n most_wait ≡ true) (sym w.wait-is) refl
      ])
      (λ s h stands. elim c.if-idle.branch [
        | then-idle w ↦ w.wait-is ∙ sym (cond-true (is_idle h) most_wait 0 (sym (c.idle.ensures s h stands) ∙ w.if-idle.true))
        | else-idle w ↦ w.wait-is ∙ sym (cond-false (is_idle h) most_wait 0 (sym (c.idle.ensures s h stands) ∙ w.if-idle.false))
      ]),
)

pub returns-in_err-words-clause-ended : goal.returns-in_err-words-clause-ended
returns-in_err-words-clause-ended g c =
    λ e. (unok c.from_residual-in_err-words.result c.from_residual-in_err-words.ensures.0, c.in_err-words.ensures.ended)

pub returns-in_err-words-clause-cause : goal.returns-in_err-words-clause-cause
returns-in_err-words-clause-cause g c =
    caused_memory (g.D.Door.faults c.args.door.now) (g.D.Door.faults c.next.new.self) c.from_residual-in_err-words.result
    c.in_ok-heard.ensures.cause c.from_residual-in_err-words.ensures.1

pub returns-in_err-give_all-clause-served : goal.returns-in_err-give_all-clause-served
returns-in_err-give_all-clause-served g c = (
  at_door (to_say c.in_err-give_all.ensures.given.0) c.in_err-give_all.field-0.0,
  fault_passed c.from_residual-in_err-give_all.result (cause_of c.in_err-give_all.field-0.0) c.from_residual-in_err-give_all.ensures.1,
  served_answer {H = g.row.H.Denot} {Job = g.row.H-Job.Denot} (meaning g.H.Hub.begin_of g.H.Hub.step_of) c.args.server.now c.step.new.self
      c.give_all.new.server (outside (g.K.Keeper.holds c.args.keeper.now) (g.K.Keeper.answers c.args.keeper.now) (g.K.Keeper.faults c.args.keeper.now) (g.L.Lots.drawn c.args.lots.now) (g.L.Lots.faults c.args.lots.now))
      (outside (g.K.Keeper.holds c.step.new.keeper) (g.K.Keeper.answers c.step.new.keeper) (g.K.Keeper.faults c.step.new.keeper) (g.L.Lots.drawn c.step.new.lots) (g.L.Lots.faults c.step.new.lots))
      (λ calls. g.D.Door.Goes c.args.door.now calls c.next.new.self) (λ calls. g.D.Door.Goes c.next.new.self calls c.give_all.new.door)
      (λ calls. g.D.Door.Goes c.args.door.now calls c.give_all.new.door) (g.D.Door.moment c.args.door.now) (g.D.Door.moment c.give_all.new.door) c.if-idle.wait
      c.in_ok-heard.heard c.parts_of_turns.ensures (g.met.D.Door.joins c.args.door.now c.next.new.self c.give_all.new.door) (at_door (to_say c.in_err-give_all.ensures.given.0) c.in_err-give_all.field-0.0)
      c.in_ok-words.words.items c.in_ok-heard.ensures.heard
      (c.in_ok-heard.ensures.later.0, c.give_all.ensures.others_unchanged ∙ c.in_ok-heard.ensures.later.1)
      (elim c.if-idle.branch [
        | then-idle w ↦ subst (λ n. nat_le n most_wait ≡ true) (sym w.wait-is) refl
        | else-idle w ↦ subst (λ n. nat_le n most_wait ≡ true) (sym w.wait-is) refl
      ])
      c.in_ok-words.ensures.turn
      (λ s h stands. elim c.if-idle.branch [
        | then-idle w ↦ w.wait-is ∙ sym (cond-true (is_idle h) most_wait 0 (sym (c.idle.ensures s h stands) ∙ w.if-idle.true))
        | else-idle w ↦ w.wait-is ∙ sym (cond-false (is_idle h) most_wait 0 (sym (c.idle.ensures s h stands) ∙ w.if-idle.false))
      ])
      c.in_err-give_all.ensures.given.1,
)

pub returns-in_err-give_all-clause-ended : goal.returns-in_err-give_all-clause-ended
returns-in_err-give_all-clause-ended g c = λ e. absurd (let z : false ≡ true = (c.in_ok-words.ensures.stays e).0 in cc)

pub returns-in_err-give_all-clause-cause : goal.returns-in_err-give_all-clause-cause
returns-in_err-give_all-clause-cause g c =
    caused_door (g.D.Door.faults c.args.door.now) (g.D.Door.faults c.give_all.new.door) c.in_err-give_all.field-0.0 c.from_residual-in_err-give_all.result
    (subst (λ n. IsCaused n (g.D.Door.faults c.give_all.new.door) c.in_err-give_all.field-0.0) c.in_ok-heard.ensures.cause c.in_err-give_all.ensures.cause)
    c.from_residual-in_err-give_all.ensures.1

pub returns-clause-served : goal.returns-clause-served
returns-clause-served g c = (
  all_answered,
  refl,
  served_answer {H = g.row.H.Denot} {Job = g.row.H-Job.Denot} (meaning g.H.Hub.begin_of g.H.Hub.step_of) c.args.server.now c.step.new.self
      c.give_all.new.server (outside (g.K.Keeper.holds c.args.keeper.now) (g.K.Keeper.answers c.args.keeper.now) (g.K.Keeper.faults c.args.keeper.now) (g.L.Lots.drawn c.args.lots.now) (g.L.Lots.faults c.args.lots.now))
      (outside (g.K.Keeper.holds c.step.new.keeper) (g.K.Keeper.answers c.step.new.keeper) (g.K.Keeper.faults c.step.new.keeper) (g.L.Lots.drawn c.step.new.lots) (g.L.Lots.faults c.step.new.lots))
      (λ calls. g.D.Door.Goes c.args.door.now calls c.next.new.self) (λ calls. g.D.Door.Goes c.next.new.self calls c.give_all.new.door)
      (λ calls. g.D.Door.Goes c.args.door.now calls c.give_all.new.door) (g.D.Door.moment c.args.door.now) (g.D.Door.moment c.give_all.new.door) c.if-idle.wait
      c.in_ok-heard.heard c.parts_of_turns.ensures (g.met.D.Door.joins c.args.door.now c.next.new.self c.give_all.new.door) all_answered
      c.in_ok-words.words.items c.in_ok-heard.ensures.heard
      (c.in_ok-heard.ensures.later.0, c.give_all.ensures.others_unchanged ∙ c.in_ok-heard.ensures.later.1)
      (elim c.if-idle.branch [
        | then-idle w ↦ subst (λ n. nat_le n most_wait ≡ true) (sym w.wait-is) refl
        | else-idle w ↦ subst (λ n. nat_le n most_wait ≡ true) (sym w.wait-is) refl
      ])
      c.in_ok-words.ensures.turn
      (λ s h stands. elim c.if-idle.branch [
        | then-idle w ↦ w.wait-is ∙ sym (cond-true (is_idle h) most_wait 0 (sym (c.idle.ensures s h stands) ∙ w.if-idle.true))
        | else-idle w ↦ w.wait-is ∙ sym (cond-false (is_idle h) most_wait 0 (sym (c.idle.ensures s h stands) ∙ w.if-idle.false))
      ])
      c.in_ok-give_all.ensures.given,
)

pub returns-clause-ended : goal.returns-clause-ended
returns-clause-ended g c = λ e. absurd (let z : false ≡ true = (c.in_ok-words.ensures.stays e).0 in cc)

pub returns-clause-cause : goal.returns-clause-cause
returns-clause-cause g c = c.in_ok-give_all.ensures.cause ∙ c.in_ok-heard.ensures.cause
