use Rattle.std.proofs.Common.{◌≡◌, ◌∙◌, Option, Some, None, Bor, ap, option_map, refl, unwrap_or}
use Rattle.clap.specs.Words.{Text, found_of}
use Rattle.clap.proofs.WalkLemmas.{first_value-rows}
use Rattle.sr_words.proofs.words.text.Goals as goal

now_too : (text : Option (Bor Text)) (usual : Bor Text) → (unwrap_or text usual).now ≡ unwrap_or (option_map (λ s. s.now) text) usual.now
now_too (Some text) usual = refl
now_too None usual = refl

pub returns : goal.returns
returns c =
    let name = c.args.name.now in
    ap (λ s. s.now) c.unwrap_or.ensures
    ∙ (now_too c.get_str.result c.args.usual
    ∙ ap (λ text. unwrap_or text c.args.usual.now) (c.get_str.ensures ∙ first_value-rows (found_of c.args.matches.now) name))
