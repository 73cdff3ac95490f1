use Rattle.std.proofs.Common.{◌≡◌, ◌∙◌, Err, Result, ap, sym}
use Rattle.std.proofs.lemmas.Result.{err_from_is_err_and}
use Rattle.sr_words.specs.declared.error.WordsError.{WordsError}
use Rattle.sr_words.specs.declared.serving.Settings.{Settings}
use Rattle.sr_words.proofs.words.settings.Goals as goal

inside : {a b : WordsError} → ◌≡◌ {A = Result Settings WordsError} (Err a) (Err b) → a ≡ b
inside e = cc

pub returns-in_err-command-clause-no_command : goal.returns-in_err-command-clause-no_command
returns-in_err-command-clause-no_command c =
    let p = err_from_is_err_and c.from_residual.result c.from_residual.ensures.1 in
    λ is. c.in_err-command.ensures.no_command (ap Err (inside (ap Err (sym p.2) ∙ (sym p.1 ∙ is))))
