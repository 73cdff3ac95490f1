use Rattle.std.proofs.Common.{◌≡◌, ℕ, List, ◌++◌, Some, ap, ◌∙◌}
use Rattle.std.proofs.lemmas.Bool.Decides.{Decides-eqb}
use Rattle.std.proofs.lemmas.Slice.Eq.{strip_prefix_is, strip_suffix_is}
use Rattle.hm_json.proofs.short_frames.between.Goals as goal

pub returns : goal.returns
returns c =
    let begins : c.args.frame.now ≡ c.args.before.now ++ c.in_ok-rest.rest.now = strip_prefix_is Decides-eqb c.args.frame.now c.args.before.now (Some c.in_ok-rest.rest) c.in_ok-rest.ensures.cases in
    let ends : c.in_ok-rest.rest.now ≡ c.in_ok-part.part.now ++ c.args.after.now = strip_suffix_is Decides-eqb c.in_ok-rest.rest.now c.args.after.now (Some c.in_ok-part.part) c.in_ok-part.ensures.cases in
    begins ∙ ap (λ (rest : List ℕ). c.args.before.now ++ rest) ends
