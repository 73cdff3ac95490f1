use Rattle.std.proofs.Common.{◌≡◌, ◌+◌, ℕ, arith, drop, refl, sym, ap, length-drop}
use Rattle.sr_script.specs.declared.script.ScriptError.{ScriptError}
use Rattle.sr_script.specs.declared.script.ScriptError.TheVariants.{Line, NoMemory}
use Rattle.std.proofs.lemmas.Bool.{both_ways}
use Rattle.std.proofs.lemmas.Result.{err_from_is_err_and}
use Rattle.std.proofs.lemmas.List.{take_rest}
use Rattle.sr_script.specs.Reading.{IsLineEnd}
use Rattle.sr_script.proofs.Parsing.{place_after, read_passed, read_asked, refused_past, refused_ask, parsed}
use Rattle.sr_script.proofs.Scripts.{allowed}
use Rattle.sr_script.proofs.script.Reader.next.Goals as goal

pub returns-then-after-gt-MOST_SCRIPT-clause-refused :
    goal.returns-then-after-gt-MOST_SCRIPT-clause-refused
returns-then-after-gt-MOST_SCRIPT-clause-refused c =
    let read = c.loop-self.invariant.same c.requires.0 c.requires.1 in
    let end : IsLineEnd (drop c.loop-self.self.at c.args.text.now) c.line_end-end.result = rw take_rest at c.line_end-end.ensures in
    refused_past c.args.text.now c.line_end-end.result c.loop-self.self c.requires.0 (omega arith) end
    (omega (arith, c.min.ensures, length-drop c.loop-self.self.at c.args.text.now)) read

pub returns-in_err-asked-clause-refused : goal.returns-in_err-asked-clause-refused
returns-in_err-asked-clause-refused c =
    let q = err_from_is_err_and c.from_residual.result c.from_residual.ensures.1 in
    let read = c.loop-self.invariant.same c.requires.0 c.requires.1 in
    let end : IsLineEnd (drop c.loop-self.self.at c.args.text.now) c.line_end-end.result = rw take_rest at c.line_end-end.ensures in
    let passed = rw take_rest at c.is_passed_over.ensures in
    rw (q.1, q.2) (refused_ask c.args.text.now c.line_end-end.result c.loop-self.self c.requires.0 c.in_err-asked.field-0.0 (omega arith) end
    (λ over. both_ways c.is_passed_over.result c.if-not-is_passed_over.true (passed.1 over)) (rw take_rest at c.in_err-asked.ensures.refused) read)

pub overflow_add-self : goal.overflow_add-self
overflow_add-self c =
    let read = c.loop-self.invariant.same c.requires.0 c.requires.1 in
    omega (arith, read.number, read.few, read.within, c.in_ok-asked.ensures.place.1)

pub returns-then-not-is_passed_over-clause-next : goal.returns-then-not-is_passed_over-clause-next
returns-then-not-is_passed_over-clause-next c = λ p old.
    let read = c.loop-self.invariant.same p old in
    let end : IsLineEnd (drop c.loop-self.self.at c.args.text.now) c.line_end-end.result = rw take_rest at c.line_end-end.ensures in
    let size = length-drop c.loop-self.self.at c.args.text.now in
    let place : c.loop-self.self.at + c.min.result ≡ place_after c.args.text.now c.loop-self.self.at c.line_end-end.result = omega (arith, c.min.ensures, size) in
    let number : c.ask.new.self.number + 1 ≡ c.loop-self.self.number + 1 = omega (arith, c.in_ok-asked.ensures.place.1) in
    let ok = rw take_rest at (c.in_ok-asked.ensures.ok p read.turn) in (
      ok.0.in_turn,
      allowed _ c.in_ok-asked.asked ok.0.wanted.holds ok.0.readable,
      read_asked c.args.text.now c.line_end-end.result c.loop-self.self _ p c.in_ok-asked.asked (omega arith) end place (omega arith) number ok.0 ok.1 read,
    )

pub overflow_add-self-in-loop-self : goal.overflow_add-self-in-loop-self
overflow_add-self-in-loop-self c =
    let read = c.loop-self.invariant.same c.requires.0 c.requires.1 in
    omega (arith, read.number, read.few, read.within)

pub loop-self-preserved : goal.loop-self-preserved
loop-self-preserved c =
    let end : IsLineEnd (drop c.loop-self.self.at c.args.text.now) c.line_end-end.result = rw take_rest at c.line_end-end.ensures in
    let size = length-drop c.loop-self.self.at c.args.text.now in
    let place : c.loop-self.self.at + c.min.result ≡ place_after c.args.text.now c.loop-self.self.at c.line_end-end.result = omega (arith, c.min.ensures, size) in
    let passed = rw take_rest at c.is_passed_over.ensures in
    record {
      same = λ p old. read_passed c.args.text.now c.line_end-end.result c.loop-self.self _ p (omega arith) end place (omega arith) refl refl
          (passed.0 c.if-not-is_passed_over.false) (c.loop-self.invariant.same p old);
      forth = omega (arith, c.loop-self.invariant.forth);
    }

pub returns-clause-end : goal.returns-clause-end
returns-clause-end c = λ p old. parsed c.args.text.now c.loop-self.self p (omega arith) (c.loop-self.invariant.same p old)

abbrev number_in : ScriptError → ℕ
number_in (Line number) = number
number_in NoMemory = 0

pub returns-then-after-gt-MOST_SCRIPT-clause-stopped : goal.returns-then-after-gt-MOST_SCRIPT-clause-stopped
returns-then-after-gt-MOST_SCRIPT-clause-stopped c = λ n is p old.
    record { reader = c.loop-self.self; read = c.loop-self.invariant.same p old; number_is = ap number_in is }

pub returns-in_err-asked-clause-stopped : goal.returns-in_err-asked-clause-stopped
returns-in_err-asked-clause-stopped c =
    let q = err_from_is_err_and c.from_residual.result c.from_residual.ensures.1 in
    rw (q.1, q.2) (λ n is p old.
    record { reader = c.loop-self.self; read = c.loop-self.invariant.same p old; number_is = sym (c.in_err-asked.ensures.refused n is).0 })

pub returns-then-not-is_passed_over-clause-came : goal.returns-then-not-is_passed_over-clause-came
returns-then-not-is_passed_over-clause-came c = λ some p old. (
  c.loop-self.self.number,
  record { reader = c.loop-self.self; read = c.loop-self.invariant.same p old; number_is = refl },
  omega (arith, c.in_ok-asked.ensures.place.1),
)
