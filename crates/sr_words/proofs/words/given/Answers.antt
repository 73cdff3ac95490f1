use Rattle.std.proofs.Common.{◌∙◌, Some, ap, option_map, sym}
use Rattle.clap.specs.Words.{found_of}
use Rattle.clap.proofs.WalkLemmas.{first_value-rows}
use Rattle.sr_words.proofs.words.given.Goals as goal

pub returns-in_ok-of-in-Some : goal.returns-in_ok-of-in-Some
returns-in_ok-of-in-Some c =
    ap Some c.in_ok-of-in-Some.ensures
    ∙ (sym (ap (option_map (λ s. s.now)) c.in-Some.is) ∙ (c.get_str.ensures ∙ first_value-rows (found_of c.args.matches.now) c.args.name.now))

pub returns-in-None : goal.returns-in-None
returns-in-None c =
    sym (ap (option_map (λ s. s.now)) c.in-None.is) ∙ (c.get_str.ensures ∙ first_value-rows (found_of c.args.matches.now) c.args.name.now)
