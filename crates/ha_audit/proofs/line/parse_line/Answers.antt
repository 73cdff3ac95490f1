use Rattle.std.proofs.Common.{◌≡◌, ◌++◌, ℕ, List, Some, codes, subst}
use Rattle.std.proofs.lemmas.Bool.Decides.{Decides-eqb}
use Rattle.std.proofs.lemmas.Slice.Eq.{strip_prefix_is}
use Rattle.ha_audit.specs.Grammar.{IsOneLine}
use Rattle.ha_audit.proofs.Lines.{rest_line}
use Rattle.ha_audit.proofs.line.parse_line.Goals as goal

pub parse_step-requires : goal.parse_step-requires
parse_step-requires c =
    let cut : c.args.line.now ≡ codes "c " ++ c.in-Some.words.now =
    strip_prefix_is Decides-eqb c.args.line.now (codes "c ") (Some c.in-Some.words) c.in-Some.ensures.cases in
    rest_line (codes "c ") c.in-Some.words.now (subst (λ (w : List ℕ). IsOneLine w) cut c.requires)

pub parse_step-requires-in-Some-strip_prefix : goal.parse_step-requires-in-Some-strip_prefix
parse_step-requires-in-Some-strip_prefix c =
    let cut : c.args.line.now ≡ codes "s " ++ c.in-Some-strip_prefix.words.now =
    strip_prefix_is Decides-eqb c.args.line.now (codes "s ") (Some c.in-Some-strip_prefix.words) c.in-Some-strip_prefix.ensures.cases in
    rest_line (codes "s ") c.in-Some-strip_prefix.words.now (subst (λ (w : List ℕ). IsOneLine w) cut c.requires)
