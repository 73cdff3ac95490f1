use Rattle.hd_delivery.specs.Bytes.{Does}
use Rattle.hd_delivery.specs.Histories.{Took}
use Rattle.std.proofs.Common.{◌∷◌, refl, sym}
use Rattle.sr_replay.proofs.Taking.{goes_took, goes_failed}
use Rattle.sr_replay.proofs.player.Player.take_one.Goals as goal

pub returns-in_ok-push_took-in-Ok-Some-clause-took : goal.returns-in_ok-push_took-in-Ok-Some-clause-took
returns-in_ok-push_took-in-Ok-Some-clause-took c wire config h plays =
    let made = rw c.in-Ok-Some.field-0-is at c.in-Ok-Some.ensures.ok in
    let gave = made wire config h plays.stands in
    goes_took c.args.kind wire config c.args.self.now h plays c.next.new.self c.args.told.now.items c.push_took.new.told.items
    c.in-Ok-Some.got c.processed_count-number.result gave (c.processed_count-number.ensures wire config (Does (Took c.in-Ok-Some.got) ∷ h) gave.1)
    (c.in_ok-push_took-in-Ok-Some.ensures wire config h)

pub returns-in_ok-push_failed-in_default : goal.returns-in_ok-push_failed-in_default
returns-in_ok-push_failed-in_default c = record {
  took = λ wire config h plays.
      goes_failed c.args.kind wire config c.args.self.now h plays c.next.new.self c.args.told.now.items c.push_failed.new.told.items
      c.in-Err.fault c.in_default.not-NoMemory (c.in-Err.ensures.failed wire config h plays.stands)
      (λ fault. c.in_ok-push_failed-in_default.ensures wire config h fault (sym plays.side_is));
  limits = c.next.ensures.limits;
  link = refl;
}
