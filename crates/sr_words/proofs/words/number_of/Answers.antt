use Rattle.std.proofs.Common.{◌≡◌, ◌∙◌, ℕ, Result, Ok, Err, IfOk, IfErr, Some, None, option_map, sym, ap, subst, refl, rules}
use Rattle.clap.specs.Words.{found_of, Text}
use Rattle.clap.proofs.WalkLemmas.{first_value-rows}
use Rattle.sr_words.specs.declared.error.WordsError.{WordsError}
use Rattle.sr_words.specs.Clap.{IsNumber}
use Rattle.sr_words.proofs.words.number_of.Goals as goal

inside : {a b : Text} → Some a ≡ Some b → a ≡ b
inside e = cc

ok_too : {P Q : ℕ → Type 0} → ((n : ℕ) → P n → Q n) → (r : Result ℕ WordsError) → IfOk r P → IfOk r Q
ok_too f (Ok n) x = f n x
ok_too f (Err e) x = tt

err_too : {P Q : WordsError → Type 0} → ((e : WordsError) → P e → Q e) → (r : Result ℕ WordsError) → IfErr r P → IfErr r Q
err_too f (Ok n) x = tt
err_too f (Err e) x = f e x

pub returns-in_default-clause-none : goal.returns-in_default-clause-none
returns-in_default-clause-none c = (
  refl,
  λ n says.
      let read : None ≡ Some says.0 = sym (ap (option_map (λ s. s.now)) c.in_default.is) ∙ (c.get_str.ensures ∙ (first_value-rows (found_of c.args.matches.now) c.args.id.now ∙ says.1.0)) in
      cc,
)

pub returns-clause-said : goal.returns-clause-said
returns-clause-said c = ok_too (λ n number. (
  c.in-Some.text.now,
  (sym (first_value-rows (found_of c.args.matches.now) c.args.id.now) ∙ (sym c.get_str.ensures ∙ search rules), number),
)) c.number.result c.number.ensures.said

pub returns-clause-none : goal.returns-clause-none
returns-clause-none c = err_too (λ e none. (
  none.0,
  λ n says.
      let same : c.in-Some.text.now ≡ says.0 =
      inside (sym (ap (option_map (λ s. s.now)) c.in-Some.is) ∙ (c.get_str.ensures ∙ (first_value-rows (found_of c.args.matches.now) c.args.id.now ∙ says.1.0))) in
      none.1 n (subst (λ text. IsNumber 64 text n) (sym same) says.1.1),
)) c.number.result c.number.ensures.none
