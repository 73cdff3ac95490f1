use Rattle.std.proofs.Common.{◌≡◌, ◌∙◌, ◌+◌, ◌<◌, ℕ, List, ap, drop, get_or, length, map, sym}
use Rattle.std.proofs.lemmas.List.{at_drop_all, at_drop_more}
use Rattle.clap.specs.Words.{App, app_of, with_rule}
use Rattle.sr_words.specs.declared.choice.Choice.{Choice}
use Rattle.sr_words.specs.Clap.{optional}
use Rattle.sr_words.specs.Options.{with_options}
use Rattle.sr_words.proofs.words.with_options.Goals as goal

-- the options that are left make the same of the command with the next one
step : (options : List Choice) (i : ℕ) (d : Choice) (before after all : App) → i < length options
    → after ≡ with_rule before (optional (get_or options i d).name.now (get_or options i d).values)
    → with_options before (map (λ o. (o.name.now, o.values)) (drop i options)) ≡ all
    → with_options after (map (λ o. (o.name.now, o.values)) (drop (i + 1) options)) ≡ all
step options i d before after all lt next left =
    ap (λ app. with_options app (map (λ o. (o.name.now, o.values)) (drop (i + 1) options))) next
    ∙ (sym (at_drop_more (λ rest. with_options before (map (λ o. (o.name.now, o.values)) rest)) options i d lt) ∙ left)

pub loop-option-preserved : goal.loop-option-preserved
loop-option-preserved c = step c.args.options.now c.loop-option.option-index _ (app_of c.loop-option.command) _ _ c.loop-option-test.true
    ((c.in_ok-command.ensures).shape c.optional.ensures.local ∙ ap (with_rule (app_of c.loop-option.command)) c.optional.ensures.rule)
    c.loop-option.invariant

pub returns : goal.returns
returns c =
    sym (at_drop_all (λ rest. with_options (app_of c.loop-option.command) (map (λ o. (o.name.now, o.values)) rest)) c.args.options.now c.loop-option.option-index c.loop-option-test.false)
    ∙ c.loop-option.invariant
