use Rattle.std.proofs.Common.{◌≡◌, IfOk, IsTrue, subst}
use Rattle.sqlite.specs.Held.{state}
use Rattle.hk_sqlite.specs.Stored.{Holds, tables}
use Rattle.hk_sqlite.proofs.Refused.{spared, read_fails, at_err, either_way}
use Rattle.hk_sqlite.proofs.Naming.{reads_user}
use Rattle.hk_sqlite.proofs.statements.name_with.Goals as goal

pub returns-in_err-rows-clause-left : goal.returns-in_err-rows-clause-left
returns-in_err-rows-clause-left g c clean has =
    at_err _ _ _ c.from_residual.result c.from_residual.ensures.1
    (spared (state g.S.Store c.args.connection.now) (state g.S.Store c.query_all.new.self) has (read_fails _ _ _ _ _ (c.in_err-rows.ensures.err clean)))

pub returns-clause-first : goal.returns-clause-first
returns-clause-first g c clean has =
    let it = reads_user (state g.S.Store c.args.connection.now) (state g.S.Store c.query_all.new.self) c.args.token.now c.in_ok-rows.rows.items has (rw c.params-to_sql.ensures at (c.in_ok-rows.ensures.ok clean)) in
    subst (λ y. IfOk c.first_text.result (λ name. name ≡ y)) it.0 (rw c.deref.ensures.value at c.first_text.ensures)

pub returns-clause-left : goal.returns-clause-left
returns-clause-left g c clean has =
    let old = state g.S.Store c.args.connection.now in
    let new = state g.S.Store c.query_all.new.self in
    let it = reads_user old new c.args.token.now c.in_ok-rows.rows.items has (rw c.params-to_sql.ensures at (c.in_ok-rows.ensures.ok clean)) in
    either_way (Holds new (tables old)) (IsTrue new.is_open) c.first_text.result it.1
