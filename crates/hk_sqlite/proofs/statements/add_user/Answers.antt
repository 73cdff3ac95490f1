use Rattle.sqlite.specs.Held.{state}
use Rattle.hk_sqlite.proofs.Refused.{spared, write_fails, at_err}
use Rattle.hk_sqlite.proofs.Adding.{add_answers}
use Rattle.hk_sqlite.proofs.statements.add_user.Goals as goal

pub returns-in_err-count-clause-left : goal.returns-in_err-count-clause-left
returns-in_err-count-clause-left g c clean has =
    at_err _ _ _ c.from_residual.result c.from_residual.ensures.1
    (spared (state g.S.Store c.args.connection.now) (state g.S.Store c.execute.new.self) has (write_fails _ _ _ _ _ (c.in_err-count.ensures.runs clean)))

pub returns-clause-is_new : goal.returns-clause-is_new
returns-clause-is_new g c clean has =
    (add_answers (state g.S.Store c.args.connection.now) (state g.S.Store c.execute.new.self) c.args.token.now c.args.name.now c.in_ok-count.count has
    (rw (c.params-to_sql.ensures, c.params-to_sql-2.ensures) at (c.in_ok-count.ensures.runs clean))).0

pub returns-clause-left : goal.returns-clause-left
returns-clause-left g c clean has =
    (add_answers (state g.S.Store c.args.connection.now) (state g.S.Store c.execute.new.self) c.args.token.now c.args.name.now c.in_ok-count.count has
    (rw (c.params-to_sql.ensures, c.params-to_sql-2.ensures) at (c.in_ok-count.ensures.runs clean))).1
