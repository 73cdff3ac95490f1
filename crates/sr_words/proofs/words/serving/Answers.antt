use Rattle.std.proofs.Common.{◌≡◌, ◌∙◌, Err, List, Result, ap, codes, subst, sym}
use Rattle.std.proofs.lemmas.Result.{err_from_is_err_and}
use Rattle.clap.specs.Words.{Row}
use Rattle.sr_words.specs.declared.error.WordsError.{WordsError}
use Rattle.sr_words.specs.declared.serving.Serving.{Serving}
use Rattle.sr_words.specs.Options.{texts_of}
use Rattle.sr_words.specs.Resends.{IsResend}
use Rattle.sr_words.specs.Words.{SaysServing}
use Rattle.sr_words.proofs.words.serving.Goals as goal

inside : {a b : WordsError} → ◌≡◌ {A = Result Serving WordsError} (Err a) (Err b) → a ≡ b
inside e = cc

-- what rows say of how much the ends hold
resend_said : (rows : List Row) (serving : Serving) → SaysServing rows serving
    → IsResend (texts_of (codes "resend") (codes "1024", codes "100000") rows) serving.resend
unfolding SaysServing
resend_said rows serving says = says.1.1.1.1.0

pub returns-in_err-resend-clause-none : goal.returns-in_err-resend-clause-none
returns-in_err-resend-clause-none c =
    let p = err_from_is_err_and c.from_residual-in_err-resend.result c.from_residual-in_err-resend.ensures.1 in
    λ is serving says.
    c.in_err-resend.ensures.none (ap Err (inside (ap Err (sym p.2) ∙ (sym p.1 ∙ is)))) serving.resend
    (subst (λ texts. IsResend texts serving.resend) (sym c.texts.ensures) (resend_said _ serving says))
