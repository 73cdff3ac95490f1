use Rattle.std.proofs.Common.{◌≡◌, drop, map}
use Rattle.clap.specs.Words.{app_of}
use Rattle.sr_words.specs.Options.{with_options}
use Rattle.sr_words.proofs.words.with_options.Given as goal

-- the options that are left make of the command what all make of the first
abbrev pub invariant-loop-option : goal.invariant-loop-option
invariant-loop-option l =
    with_options (app_of l.command) (map (λ o. (o.name.now, o.values)) (drop l.option-index l.fn.options))
    ≡ with_options (app_of l.fn.command) (map (λ o. (o.name.now, o.values)) l.fn.options)
