use Rattle.sqlite.specs.Held.{state}
use Rattle.hk_sqlite.proofs.Logging.{log_leaves}
use Rattle.hk_sqlite.proofs.statements.add_row.Goals as goal

pub returns : goal.returns
returns g c =
    log_leaves (state g.S.Store c.args.connection.now) (state g.S.Store c.execute.new.self) c.args.room.now c.args.who.now c.args.text.now c.execute.result
    (λ clean. rw (c.params-to_sql.ensures, c.params-to_sql-2.ensures, c.params-to_sql-3.ensures) at (c.execute.ensures.runs clean))
