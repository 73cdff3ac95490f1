use Rattle.std.proofs.Common.{ℕ, [], ◌∷◌, ap, sym, ◌∙◌}
use Rattle.std.specs.Prelude.{◌==◌}
use Rattle.std.specs.List.{ends_with}
use Rattle.std.proofs.lemmas.Bool.{cond-true, cond-false}
use Rattle.hd_dialing.specs.Asks.{ends_with_slash, slash}
use Rattle.hn_dialing.proofs.Pieces.{slash_last}
use Rattle.hn_dialing.proofs.targets.slash_after.Goals as goal

pub returns-then-ends_with : goal.returns-then-ends_with
returns-then-ends_with c = sym (cond-true (ends_with_slash c.args.path.now) [] (slash ∷ [])
    (sym (slash_last c.args.path.now) ∙ (ap (λ bytes. ends_with {X = ℕ} (λ x y. x == y) bytes (slash ∷ [])) (sym c.as_bytes.ensures.value) ∙ (sym c.ends_with.ensures.value ∙ c.if-ends_with.true))))

pub returns-else-ends_with : goal.returns-else-ends_with
returns-else-ends_with c = sym (cond-false (ends_with_slash c.args.path.now) [] (slash ∷ [])
    (sym (slash_last c.args.path.now) ∙ (ap (λ bytes. ends_with {X = ℕ} (λ x y. x == y) bytes (slash ∷ [])) (sym c.as_bytes.ensures.value) ∙ (sym c.ends_with.ensures.value ∙ c.if-ends_with.false))))
