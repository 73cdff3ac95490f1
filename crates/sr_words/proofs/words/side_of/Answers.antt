use Rattle.std.proofs.Common.{◌≡◌, ◌∙◌, Option, Some, None, option_map, sym, ap}
use Rattle.clap.specs.Words.{found_of, Text}
use Rattle.clap.proofs.WalkLemmas.{first_value-rows}
use Rattle.hd_delivery.specs.declared.vocabulary.Side.{Side}
use Rattle.sr_words.specs.Words.{IsSide, side_name}
use Rattle.sr_words.proofs.words.side_of.Goals as goal

inside : {a b : Text} → Some a ≡ Some b → a ≡ b
inside e = cc

-- a text that names no end is not what rows say of an end or of none
no_name : (text : Text) → ((side : Side) → IsSide text side → ⊥) → (named : Option Side) → Some text ≡ option_map side_name named → ⊥
no_name text none None e = cc
no_name text none (Some side) e = none side (inside e)

pub returns-in_default-clause-said : goal.returns-in_default-clause-said
returns-in_default-clause-said c =
    sym (first_value-rows (found_of c.args.matches.now) _) ∙ (sym c.get_str.ensures ∙ ap (option_map (λ s. s.now)) c.in_default.is)

pub returns-in-Ok-clause-said : goal.returns-in-Ok-clause-said
returns-in-Ok-clause-said c =
    sym (first_value-rows (found_of c.args.matches.now) _)
    ∙ (sym c.get_str.ensures ∙ (ap (option_map (λ s. s.now)) c.in-Some.is ∙ ap Some c.in-Ok.ensures.said))

pub returns-in-Err-clause-none : goal.returns-in-Err-clause-none
returns-in-Err-clause-none c = (
  c.in-Err.ensures.none.0,
  λ named says. no_name c.in-Some.text.now c.in-Err.ensures.none.1 named
      (sym (ap (option_map (λ s. s.now)) c.in-Some.is) ∙ (c.get_str.ensures ∙ (first_value-rows (found_of c.args.matches.now) _ ∙ says))),
)
