use Rattle.std.proofs.Common.{◌∷◌, ◌++◌, [], ap, sym, subst, ◌∙◌}
use Rattle.hd_rooms.specs.declared.vocabulary.Row.{Row}
use Rattle.hk_latest.specs.Latest.{HoldsLatest, after_log}
use Rattle.hk_latest.proofs.Ends.{HoldsLatest-log}
use Rattle.hk_latest.proofs.latest_keeper.LatestKeeperKeeper.log.Goals as goal

pub returns-clause-latest : goal.returns-clause-latest
returns-clause-latest c = λ all holds.
    let row : Row = record { room = c.args.room.now; who = c.args.who.now; text = c.args.text.now } in
    subst (HoldsLatest (all ++ row ∷ []))
    (sym (c.in_ok-hold.ensures.ok ∙ ap (λ (r : Row). after_log r c.args.self.now) c.in_ok-row.ensures))
    (HoldsLatest-log all row c.args.self.now holds)
