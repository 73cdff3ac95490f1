-- A line that was made is appended to the report.
use Rattle.std.proofs.Common.{◌≡◌, ℕ, List, ◌++◌, Result, Ok, Err, ap, ◌∙◌, if◌then◌else◌}
use Rattle.std.specs.Prelude.{OnOk, is_ok}
use Rattle.std.specs.declared.alloc.AllocError.{AllocError}

pub on_one_line : (result : Result (Unit {0}) AllocError) (before after line text : List ℕ)
    → after ≡ (if is_ok result then before ++ line else before) → line ≡ text → OnOk result (after ≡ before ++ text)
on_one_line (Ok u) before after line text is same = is ∙ ap (λ x. before ++ x) same
on_one_line (Err e) before after line text is same = tt
