use Rattle.std.proofs.Common.{Ok, Err, Some}
use Rattle.std.proofs.lemmas.Result.{err_from_is_err_and}
use Rattle.he_wire.specs.Faults.{of_shake}
use Rattle.he_wire.proofs.Tellings.{first_read, first_refused, told_first}
use Rattle.he_wire.proofs.reading.read_handshake.Goals as goal

pub returns-in_err-read_shaken : goal.returns-in_err-read_shaken
returns-in_err-read_shaken c =
    let held = c.args.splitter.now in
    let lent = (rw c.in-Some.is at c.in_ok-frame.ensures.lent).1 in
    let p = err_from_is_err_and c.from_residual-in_err-read_shaken.result c.from_residual-in_err-read_shaken.ensures.1 in
    let reads = first_refused c.args.side held lent.0 c.in-Some.frame.now c.in_err-read_shaken.field-0.0 lent.1 c.in_err-read_shaken.ensures.refused in
    rw (p.1, p.2) (record { begins = tt; reads = reads; told = told_first c.reads_once.ensures c.args.side held (Err (of_shake c.in_err-read_shaken.field-0.0)) reads })

pub returns : goal.returns
returns c =
    let held = c.args.splitter.now in
    let lent = (rw c.in-Some.is at c.in_ok-frame.ensures.lent).1 in
    let reads = first_read c.args.side held lent.0 c.in-Some.frame.now c.in_ok-read_shaken.field-0 lent.1 c.in_ok-read_shaken.ensures.ok in
    record { begins = (record { spelling = lent.0; frame = c.in-Some.frame.now }, lent.1); reads = reads; told = told_first c.reads_once.ensures c.args.side held (Ok (Some c.in_ok-read_shaken.field-0)) reads }
