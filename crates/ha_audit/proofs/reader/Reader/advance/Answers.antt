use Rattle.std.proofs.Common.{arith, drop, refl}
use Rattle.std.proofs.lemmas.Bool.{both_ways}
use Rattle.std.proofs.lemmas.List.{take_rest}
use Rattle.ha_audit.proofs.Passing.{counted, no_step, of_another, passed_on, refused_passed, too_far, unended}
use Rattle.ha_audit.proofs.reader.Reader.advance.Goals as goal

pub overflow_add-result :
    goal.overflow_add-result
overflow_add-result c =
    omega (arith, counted c.args.only c.args.self.now c.args.text.now c.requires.0 c.requires.1.0 c.requires.1.1)

pub returns-in_default-clause-refused :
    goal.returns-in_default-clause-refused
returns-in_default-clause-refused c =
    refused_passed c.lines_are_lines.ensures c.args.only c.args.self.now c.args.text.now c.requires.0 c.requires.1.0 c.requires.1.1 c.if-self-text.false
    (unended c.args.only c.args.self.now.at (drop c.args.self.now.at c.args.text.now) (rw take_rest at c.in_default.ensures.none))

pub overflow_add-result-then-after-gt-MOST_TRACE :
    goal.overflow_add-result-then-after-gt-MOST_TRACE
overflow_add-result-then-after-gt-MOST_TRACE c =
    omega (arith, counted c.args.only c.args.self.now c.args.text.now c.requires.0 c.requires.1.0 c.requires.1.1)

pub returns-then-after-gt-MOST_TRACE-clause-refused :
    goal.returns-then-after-gt-MOST_TRACE-clause-refused
returns-then-after-gt-MOST_TRACE-clause-refused c =
    let cut = rw take_rest at c.in-Some.ensures.found in
    refused_passed c.lines_are_lines.ensures c.args.only c.args.self.now c.args.text.now c.requires.0 c.requires.1.0 c.requires.1.1 c.if-self-text.false
    (too_far c.lines_are_lines.ensures c.args.only c.args.self.now.at (drop c.args.self.now.at c.args.text.now) c.in-Some.line.now c.in-Some._rest.now cut.0 cut.1 (omega arith))

pub overflow_add-result-in_default-2 :
    goal.overflow_add-result-in_default-2
overflow_add-result-in_default-2 c =
    omega (arith, counted c.args.only c.args.self.now c.args.text.now c.requires.0 c.requires.1.0 c.requires.1.1)

pub returns-in_default-2-clause-refused :
    goal.returns-in_default-2-clause-refused
returns-in_default-2-clause-refused c =
    let cut = rw take_rest at c.in-Some.ensures.found in
    let none = rw c.in_default-2.is at c.in_ok-told.ensures.none in
    refused_passed c.lines_are_lines.ensures c.args.only c.args.self.now c.args.text.now c.requires.0 c.requires.1.0 c.requires.1.1 c.if-self-text.false
    (no_step c.lines_are_lines.ensures c.args.only c.args.self.now.at (drop c.args.self.now.at c.args.text.now) c.in-Some.line.now c.in-Some._rest.now cut.0 cut.1 none)

pub overflow_add-result-then-not-is_of :
    goal.overflow_add-result-then-not-is_of
overflow_add-result-then-not-is_of c =
    omega (arith, counted c.args.only c.args.self.now c.args.text.now c.requires.0 c.requires.1.0 c.requires.1.1)

pub returns-then-not-is_of-clause-refused :
    goal.returns-then-not-is_of-clause-refused
returns-then-not-is_of-clause-refused c =
    let cut = rw take_rest at c.in-Some.ensures.found in
    let found = rw c.in-Some-2.is at c.in_ok-told.ensures.found in
    refused_passed c.lines_are_lines.ensures c.args.only c.args.self.now c.args.text.now c.requires.0 c.requires.1.0 c.requires.1.1 c.if-self-text.false
    (of_another c.lines_are_lines.ensures c.args.only c.args.self.now.at (drop c.args.self.now.at c.args.text.now) c.in-Some.line.now c.in-Some._rest.now c.in-Some-2.told cut.0 cut.1 found.0 found.1
    (λ is. both_ways c.is_of.result c.if-not-is_of.true (c.is_of.ensures.1 is)))

pub overflow_add-self :
    goal.overflow_add-self
overflow_add-self c =
    omega (arith, counted c.args.only c.args.self.now c.args.text.now c.requires.0 c.requires.1.0 c.requires.1.1)

pub returns-clause-next : goal.returns-clause-next
returns-clause-next c = λ head lines p.
    let cut = rw take_rest at c.in-Some.ensures.found in
    let found = rw c.in-Some-2.is at c.in_ok-told.ensures.found in
    passed_on c.args.only c.args.self.now _ c.args.text.now c.in-Some.line.now c.in-Some._rest.now head lines c.in-Some-2.told p cut.1 found.0
    (record { side = c.is_of.ensures.0 c.if-not-is_of.false; step = found.1 }) (omega arith) refl refl
