use Rattle.std.proofs.Common.{◌≡◌, ◌∙◌, Result, Ok, Err, IfOk, IfErr, Some, None, option_map, sym, ap, refl}
use Rattle.clap.specs.Words.{found_of, Text}
use Rattle.clap.proofs.WalkLemmas.{first_value-rows}
use Rattle.hm_message.specs.declared.message.Codec.{Codec}
use Rattle.sr_words.specs.declared.error.WordsError.{WordsError}
use Rattle.sr_words.specs.Words.{codec_name}
use Rattle.sr_words.proofs.words.codec_of.Goals as goal

inside : {a b : Text} → Some a ≡ Some b → a ≡ b
inside e = cc

ok_too : {P Q : Codec → Type 0} → ((codec : Codec) → P codec → Q codec) → (r : Result Codec WordsError) → IfOk r P → IfOk r Q
ok_too f (Ok codec) x = f codec x
ok_too f (Err e) x = tt

err_too : {P Q : WordsError → Type 0} → ((e : WordsError) → P e → Q e) → (r : Result Codec WordsError) → IfErr r P → IfErr r Q
err_too f (Ok codec) x = tt
err_too f (Err e) x = f e x

pub returns-in_default-clause-none : goal.returns-in_default-clause-none
returns-in_default-clause-none c = (
  refl,
  λ codec e.
      let read : None ≡ Some (codec_name codec) =
      sym (ap (option_map (λ s. s.now)) c.in_default.is) ∙ (c.get_str.ensures ∙ (first_value-rows (found_of c.args.matches.now) c.args.id.now ∙ e)) in
      cc,
)

pub returns-clause-named : goal.returns-clause-named
returns-clause-named c = ok_too (λ codec named.
    sym (first_value-rows (found_of c.args.matches.now) c.args.id.now)
    ∙ (sym c.get_str.ensures ∙ (ap (option_map (λ s. s.now)) c.in-Some.is ∙ ap Some named)))
    c.codec.result c.codec.ensures.said

pub returns-clause-none : goal.returns-clause-none
returns-clause-none c = err_too (λ e none. (
  none.0,
  λ codec says. none.1 codec (
      inside (sym (ap (option_map (λ s. s.now)) c.in-Some.is) ∙ (c.get_str.ensures ∙ (first_value-rows (found_of c.args.matches.now) c.args.id.now ∙ says)))),
)) c.codec.result c.codec.ensures.none
