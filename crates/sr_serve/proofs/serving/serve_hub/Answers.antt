use Rattle.std.proofs.Common.{◌≡◌, [], ◌∷◌, ◌++◌, refl, inl, inr, ⊎_elim, ap, Some, None, Err}
use Rattle.std.proofs.lemmas.Result.{err_from_is_err_and}
use Rattle.hw_door.specs.DoorCalls.{flushed}
use Rattle.sr_serve.specs.declared.serving.ServeError.TheVariants as end
use Rattle.sr_serve.specs.Serving.{error_of_server}
use Rattle.sr_serve.proofs.Delivering.{laws_of}
use Rattle.sr_serve.proofs.Served.{counted_by, not_keeper, not_write, serves_by, serving_failed}
use Rattle.sr_serve.proofs.serving.serve_hub.Goals as goal

pub returns-in_err-tell_rows-clause-ends : goal.returns-in_err-tell_rows-clause-ends
returns-in_err-tell_rows-clause-ends g c =
    let p = err_from_is_err_and c.from_residual-in_err-tell_rows.result c.from_residual-in_err-tell_rows.ensures.1 in
    let rows = c.in_ok-rows.ensures in
    let line = c.in_err-tell_rows.ensures in
    let kept = counted_by c.in_ok-rows.rows _ _ _ _ _ _ (g.L.Lots.drawn c.args.lots.now) (g.L.Lots.faults c.args.lots.now) rows.unchanged rows.noted rows.cause in
    rw (p.1, p.2) (⊎_elim
    (λ write. rw write (let part = line.part (ap Err write) in
    (record { rows = c.in_ok-rows.rows; are_rows = rows.count; n = part.1.0; part = part.1.1; uncalled = g.met.D.Door.stays c.args.door.now; kept = kept }, refl, part.0)))
    (λ memory. rw memory (
      inl (
        record { holds = ap g.K.Sink.holds (line.untouched (ap Err memory)); uncalled = g.met.D.Door.stays c.args.door.now; heard_at = refl },
        inr (c.in_ok-rows.rows, rows.count, kept),
      ),
      ap g.K.Sink.faults (line.untouched (ap Err memory)),
      refl,
    ))
    line.causes)

pub returns-in_err-serve-clause-ends : goal.returns-in_err-serve-clause-ends
returns-in_err-serve-clause-ends g c =
    let p = err_from_is_err_and c.from_residual-in_err-serve.result c.from_residual-in_err-serve.ensures.1 in
    let rows = c.in_ok-rows.ensures in
    let kept = counted_by c.in_ok-rows.rows _ _ _ _ _ _ (g.L.Lots.drawn c.args.lots.now) (g.L.Lots.faults c.args.lots.now) rows.unchanged rows.noted rows.cause in
    rw (p.1, p.2) (serving_failed c.args.base c.args.resend c.args.live c.args.turns
    (λ calls. g.D.Door.Goes c.args.door.now calls c.serve.new.door) _ _ c.in_err-serve.field-0.0
    (serves_by (laws_of c.delivery_as_sent.ensures c.facts_hold.ensures c.fed_is_unseen.ensures c.sent_can_be_sent.ensures c.worlds_are_histories.ensures c.wire_is_faithful.ensures) c.args.base c.args.resend c.args.live c.args.turns c.in_ok-rows.rows
    (λ calls. g.D.Door.Goes c.args.door.now (calls ++ flushed ∷ []) c.serve.new.door) (λ calls. g.D.Door.Goes c.args.door.now calls c.serve.new.door)
    (Some c.in_err-serve.field-0.0) _ _ _ _ _ (λ calls goes. goes) rows.count
    c.in_ok-tell_rows.ensures.told kept c.in_ok-server.ensures c.in_err-serve.ensures.served)
    (c.in_ok-tell_rows.ensures.unfailed (λ is. cc)) c.in_err-serve.ensures.cause)

pub returns-in_err-serve-clause-unwritten : goal.returns-in_err-serve-clause-unwritten
returns-in_err-serve-clause-unwritten g c = λ is.
    let p = err_from_is_err_and c.from_residual-in_err-serve.result c.from_residual-in_err-serve.ensures.1 in
    let q : error_of_server c.in_err-serve.field-0.0 ≡ end.Keeper = cc in
    absurd (not_keeper c.in_err-serve.field-0.0 q)

pub returns-in_err-serve-clause-unheard : goal.returns-in_err-serve-clause-unheard
returns-in_err-serve-clause-unheard g c = λ either.
    let p = err_from_is_err_and c.from_residual-in_err-serve.result c.from_residual-in_err-serve.ensures.1 in
    absurd (⊎_elim
    (λ is. (let q : error_of_server c.in_err-serve.field-0.0 ≡ end.Keeper = cc in not_keeper c.in_err-serve.field-0.0 q))
    (λ is. (let q : error_of_server c.in_err-serve.field-0.0 ≡ end.Write = cc in not_write c.in_err-serve.field-0.0 q)) either)

pub returns-clause-ends : goal.returns-clause-ends
returns-clause-ends g c =
    let rows = c.in_ok-rows.ensures in
    let kept = counted_by c.in_ok-rows.rows _ _ _ _ _ _ (g.L.Lots.drawn c.args.lots.now) (g.L.Lots.faults c.args.lots.now) rows.unchanged rows.noted rows.cause in (
      serves_by (laws_of c.delivery_as_sent.ensures c.facts_hold.ensures c.fed_is_unseen.ensures c.sent_can_be_sent.ensures c.worlds_are_histories.ensures c.wire_is_faithful.ensures) c.args.base c.args.resend c.args.live c.args.turns c.in_ok-rows.rows
          (λ calls. g.D.Door.Goes c.args.door.now (calls ++ flushed ∷ []) c.serve.new.door) (λ calls. g.D.Door.Goes c.args.door.now calls c.serve.new.door) None _ _ _ _ _
          (λ calls goes. goes) rows.count
          c.in_ok-tell_rows.ensures.told kept c.in_ok-server.ensures c.in_ok-serve.ensures.served,
      c.in_ok-tell_rows.ensures.unfailed (λ is. cc),
      c.in_ok-serve.ensures.cause,
    )
