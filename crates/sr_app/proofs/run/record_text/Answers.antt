use Rattle.std.proofs.Common.{◌≡◌, ap, refl, sym, subst}
use Rattle.sr_script.specs.Reading.{RefusesWithoutPeers}
use Rattle.sr_script.specs.Script.{Parses}
use Rattle.sr_app.proofs.Recorded.{recorded, recorded_front, recorded_nothing, recorded_part, refused_to_record}
use Rattle.sr_app.proofs.run.record_text.Goals as goal

pub returns-in-Err-Line-clause-answered : goal.returns-in-Err-Line-clause-answered
returns-in-Err-Line-clause-answered g c =
    refused_to_record c.args.text.now c.refuse.result _ _ _ _ c.in-Err-Line.number
    (subst (λ e. RefusesWithoutPeers e c.args.text.now) c.in-Err-Line.field-0-is c.in-Err-Line.ensures.refused).0
    c.refuse.ensures.same c.refuse.ensures.whole c.refuse.ensures.part (λ is. ap g.K.Sink.holds (c.refuse.ensures.no_memory is))

pub returns-in-Err-NoMemory-clause-answered : goal.returns-in-Err-NoMemory-clause-answered
returns-in-Err-NoMemory-clause-answered g c = recorded_nothing c.args.text.now _ _ _ _ refl

pub returns-in-Ok-record-clause-answered : goal.returns-in-Ok-record-clause-answered
returns-in-Ok-record-clause-answered g c =
    let asks = c.in-Ok.ensures.ok in
    let p = asks.1.0 in
    let wrote = c.in-Ok-record.ensures.ok p (subst (λ x. Parses x p) (sym asks.0) asks.1.1.0.holds) in
    recorded c.args.text.now wrote.1.0 _ _ _ _ (record { asks = p; script = asks.1.1; trace_is = wrote.1.1.0 }) wrote.1.1.1

pub returns-in-Err-Write-clause-answered : goal.returns-in-Err-Write-clause-answered
returns-in-Err-Write-clause-answered g c =
    let asks = c.in-Ok.ensures.ok in
    let p = asks.1.0 in
    let part = c.record.ensures.part in
    let wrote = c.in-Err-Write.ensures.part p (subst (λ x. Parses x p) (sym asks.0) asks.1.1.0.holds) asks.1.1.1 in
    recorded_part c.args.text.now wrote.0 _ _ _ _ (record { asks = p; script = asks.1.1; front_is = wrote.1.0 }) (c.record.ensures.write (cc)) wrote.1.1
