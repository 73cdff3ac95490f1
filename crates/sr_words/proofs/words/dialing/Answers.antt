use Rattle.std.proofs.Common.{◌≡◌, ◌∙◌, Err, List, Result, ap, codes, subst, sym}
use Rattle.std.proofs.lemmas.Result.{err_from_is_err_and}
use Rattle.clap.specs.Words.{Row}
use Rattle.sr_words.specs.declared.dialing.Dialing.{Dialing}
use Rattle.sr_words.specs.declared.error.WordsError.{WordsError}
use Rattle.sr_words.specs.Options.{texts_of}
use Rattle.sr_words.specs.Resends.{IsResend}
use Rattle.sr_words.specs.Words.{SaysAddress, SaysDialing}
use Rattle.sr_words.proofs.words.dialing.Goals as goal

inside : {a b : WordsError} → ◌≡◌ {A = Result Dialing WordsError} (Err a) (Err b) → a ≡ b
inside e = cc

-- what rows say of where the hub stands
address_said : (rows : List Row) (dialing : Dialing) → SaysDialing rows dialing → SaysAddress rows dialing.address
unfolding SaysDialing
address_said rows dialing says = says.0

-- and of how much the client's end holds
resend_said : (rows : List Row) (dialing : Dialing) → SaysDialing rows dialing
    → IsResend (texts_of (codes "resend") (codes "1024", codes "100000") rows) dialing.resend
unfolding SaysDialing
resend_said rows dialing says = says.1.1.1.1.0

pub returns-in_err-address-clause-none : goal.returns-in_err-address-clause-none
returns-in_err-address-clause-none c =
    let p = err_from_is_err_and c.from_residual.result c.from_residual.ensures.1 in
    λ is dialing says.
    c.in_err-address.ensures.none (ap Err (inside (ap Err (sym p.2) ∙ (sym p.1 ∙ is)))) dialing.address (address_said _ dialing says)

pub returns-in_err-resend-clause-none : goal.returns-in_err-resend-clause-none
returns-in_err-resend-clause-none c =
    let p = err_from_is_err_and c.from_residual-in_err-resend.result c.from_residual-in_err-resend.ensures.1 in
    λ is dialing says.
    c.in_err-resend.ensures.none (ap Err (inside (ap Err (sym p.2) ∙ (sym p.1 ∙ is)))) dialing.resend
    (subst (λ texts. IsResend texts dialing.resend) (sym c.texts.ensures) (resend_said _ dialing says))
