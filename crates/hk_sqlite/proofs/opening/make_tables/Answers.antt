use Rattle.std.proofs.Common.{inl, arith}
use Rattle.sqlite.specs.Held.{state}
use Rattle.hk_sqlite.proofs.Making.{ready, refuses}
use Rattle.hk_sqlite.proofs.opening.make_tables.Goals as goal

pub returns-in-Ok-clause-ok : goal.returns-in-Ok-clause-ok
returns-in-Ok-clause-ok g c =
    ready (state g.S.Store c.args.connection.now) (state g.S.Store c.execute-users.new.self) (state g.S.Store c.execute.new.self) c.in-Ok.field-0 c.execute.result
    (λ clean. omega (arith, clean, c.execute.ensures.survives.clean)) c.in-Ok.ensures.runs c.execute.ensures.runs

pub returns-in-Ok-clause-refused : goal.returns-in-Ok-clause-refused
returns-in-Ok-clause-refused g c =
    refuses g.S.Store c.args.connection.now c.execute-users.new.self c.execute.new.self c.in-Ok.field-0 c.execute.result c.in-Ok.ensures.runs c.execute.ensures.runs

pub returns-in-Err-clause-refused : goal.returns-in-Err-clause-refused
returns-in-Err-clause-refused g c = inl c.in-Err.ensures.runs
