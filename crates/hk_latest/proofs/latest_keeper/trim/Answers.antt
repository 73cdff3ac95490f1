use Rattle.std.proofs.Common.{rules, ◌≡◌, length, sym, ◌∙◌}
use Rattle.hk_latest.proofs.Ends.{latest-whole}
use Rattle.hk_latest.proofs.latest_keeper.trim.Goals as goal

pub returns-clause-latest : goal.returns-clause-latest
returns-clause-latest c =
    let rows = c.loop-rows.rows.items in
    let count : c.len.result ≡ length rows = search rules in
    sym (latest-whole rows (sym (c.loop-rows-test.ensures rows count c.loop-rows.invariant.index.weighed))) ∙ c.loop-rows.invariant.same
