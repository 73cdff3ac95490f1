use Rattle.std.proofs.Common.{IsTrue}
use Rattle.sqlite.specs.Held.{state}
use Rattle.hk_sqlite.specs.Stored.{Holds, tables}
use Rattle.hk_sqlite.proofs.Refused.{spared, at_err, either_way}
use Rattle.hk_sqlite.proofs.Counting.{read_counts, count_fails, count_leaves}
use Rattle.hk_sqlite.proofs.statements.count_rows.Goals as goal

pub returns-in_err-row-clause-left : goal.returns-in_err-row-clause-left
returns-in_err-row-clause-left g c clean has =
    let old = state g.S.Store c.args.connection.now in
    let new = state g.S.Store c.query_row.new.self in
    at_err _ _ _ c.from_residual.result c.from_residual.ensures.1 (spared old new has (count_fails old new _ has (c.in_err-row.ensures.row clean)))

pub returns-clause-count : goal.returns-clause-count
returns-clause-count g c clean has =
    read_counts (state g.S.Store c.args.connection.now) (state g.S.Store c.query_row.new.self) c.in_ok-row.row _ c.get.result has (c.in_ok-row.ensures.row clean) c.get.ensures.ok

pub returns-clause-left : goal.returns-clause-left
returns-clause-left g c clean has =
    let old = state g.S.Store c.args.connection.now in
    let new = state g.S.Store c.query_row.new.self in
    either_way (Holds new (tables old)) (IsTrue new.is_open) c.get.result (count_leaves old new c.in_ok-row.row has (c.in_ok-row.ensures.row clean))
