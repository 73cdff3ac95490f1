use Rattle.std.proofs.Common.{◌≡◌, map, ◌∙◌, rules}
use Rattle.sqlite.specs.Order.{column, bytes}
use Rattle.sqlite.specs.Held.{state}
use Rattle.hd_rooms.specs.Kept.{texts_of_room}
use Rattle.hk_sqlite.specs.Stored.{tables}
use Rattle.hk_sqlite.proofs.Refused.{spared, read_fails, at_err}
use Rattle.hk_sqlite.proofs.Recalling.{reads_history, oldest_first}
use Rattle.hk_sqlite.proofs.statements.last_texts.Goals as goal

pub returns-in_err-rows-clause-left : goal.returns-in_err-rows-clause-left
returns-in_err-rows-clause-left g c clean has =
    at_err _ _ _ c.from_residual.result c.from_residual.ensures.1
    (spared (state g.S.Store c.args.connection.now) (state g.S.Store c.query_all.new.self) has (read_fails _ _ _ _ _ (c.in_err-rows.ensures.err clean)))

pub returns-in_err-texts-clause-left : goal.returns-in_err-texts-clause-left
returns-in_err-texts-clause-left g c clean has =
    let it = reads_history (state g.S.Store c.args.connection.now) (state g.S.Store c.query_all.new.self) c.args.room.now c.args.most c.in_ok-rows.rows.items has
    (rw (c.params-to_sql.ensures, c.params-to_sql-2.ensures) at (c.in_ok-rows.ensures.ok clean)) in
    at_err _ _ _ c.from_residual-in_err-texts.result c.from_residual-in_err-texts.ensures.1 (λ live. it.1)

pub returns-clause-last : goal.returns-clause-last
returns-clause-last g c clean has =
    let it = reads_history (state g.S.Store c.args.connection.now) (state g.S.Store c.query_all.new.self) c.args.room.now c.args.most c.in_ok-rows.rows.items has
    (rw (c.params-to_sql.ensures, c.params-to_sql-2.ensures) at (c.in_ok-rows.ensures.ok clean)) in
    let told : c.in_ok-texts.texts.items ≡ map (λ row. bytes (column row 0)) c.in_ok-rows.rows.items = search rules in
    c.of.ensures ∙ c.reverse.ensures.items
    ∙ oldest_first c.args.most (texts_of_room c.args.room.now (tables (state g.S.Store c.args.connection.now)).rows) c.in_ok-rows.rows.items c.in_ok-texts.texts.items it.0 told

pub returns-clause-left : goal.returns-clause-left
returns-clause-left g c clean has =
    (reads_history (state g.S.Store c.args.connection.now) (state g.S.Store c.query_all.new.self) c.args.room.now c.args.most c.in_ok-rows.rows.items has
    (rw (c.params-to_sql.ensures, c.params-to_sql-2.ensures) at (c.in_ok-rows.ensures.ok clean))).1
