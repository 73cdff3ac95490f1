use Rattle.sqlite.specs.Held.{state}
use Rattle.hk_sqlite.proofs.Making.{index_keeps}
use Rattle.hk_sqlite.proofs.opening.make_index.Goals as goal

pub returns-clause-left : goal.returns-clause-left
returns-clause-left g c clean = index_keeps (state g.S.Store c.args.connection.now) (state g.S.Store c.execute.new.self) c.execute.result (c.execute.ensures.runs clean)
