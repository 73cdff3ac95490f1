use Rattle.std.proofs.Common.{arith}
use Rattle.ha_audit.proofs.Passing.{head_front, long_first, no_first_end, refused_first, wrong_first}
use Rattle.ha_audit.proofs.trace.read_head.Goals as goal

pub returns-in_default-clause-refused : goal.returns-in_default-clause-refused
returns-in_default-clause-refused c = λ only. refused_first only c.args.text.now (no_first_end c.args.text.now c.in_default.ensures.none)

pub returns-then-line-ge-MOST_TRACE-clause-refused : goal.returns-then-line-ge-MOST_TRACE-clause-refused
returns-then-line-ge-MOST_TRACE-clause-refused c = λ only.
    let cut = c.in-Some.ensures.found in
    refused_first only c.args.text.now (long_first c.lines_are_lines.ensures c.args.text.now c.in-Some.line.now c.in-Some._rest.now cut.0 cut.1 (omega arith))

pub returns-in_default-2-clause-refused : goal.returns-in_default-2-clause-refused
returns-in_default-2-clause-refused c = λ only.
    let cut = c.in-Some.ensures.found in
    let none = rw c.in_default-2.is at c.in_ok-head.ensures.none in
    refused_first only c.args.text.now (wrong_first c.lines_are_lines.ensures c.args.text.now c.in-Some.line.now c.in-Some._rest.now cut.0 cut.1 none)

pub returns-clause-ok : goal.returns-clause-ok
returns-clause-ok c = λ only.
    let cut = c.in-Some.ensures.found in
    let found = rw c.in-Some-2.is at c.in_ok-head.ensures.found in
    head_front only c.args.text.now c.in-Some.line.now c.in-Some._rest.now c.in-Some-2.head cut.1 found.0 found.1 (omega arith)
