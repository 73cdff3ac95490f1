use Rattle.hk_sqlite.proofs.Making.{store_failed}
use Rattle.hk_sqlite.proofs.opening.prepare.Goals as goal

pub returns-in-Err-clause-refused : goal.returns-in-Err-clause-refused
returns-in-Err-clause-refused g c store =
    (c.make_tables.new.connection, c.in-Err.error, c.in-Err.ensures.refused, store_failed c.in-Err.error c.why.result c.open_error.result c.why.ensures c.open_error.ensures store)
