-- A command with any options is one of which clap says what it makes of all words.
use Rattle.std.proofs.Common.{◌≡◌, ◌∙◌, ◌++◌, ℕ, List, [], ◌∷◌, ap, codes, map, refl, sym, true, false}
use Rattle.std.proofs.lemmas.List.{append-nil, append_assoc}
use Rattle.std.specs.List.{list_all, list_any}
use Rattle.clap.specs.Simple.{filled_from}
use Rattle.clap.specs.Walk.{Rule, Text, is_early_multiple}
use Rattle.clap.specs.Words.{App, is_simple_and_free}
use Rattle.sr_words.specs.Clap.{bare_app, optional}
use Rattle.sr_words.specs.Options.{Told, told_of, with_options}
use Rattle.sr_words.specs.Words.{audit_app, client_app, serve_app, serve_options, user_app}

abbrev rules_of : List Told → List Rule
rules_of options = map (λ option. optional option.0 option.1) options

-- the command with these rules
abbrev ruled : App → List Rule → App
ruled app rules = record app { top = record app.top { rules = rules } }

adds_rules : (app : App) (options : List Told) → with_options app options ≡ ruled app (app.top.rules ++ rules_of options)
adds_rules app [] = ap (ruled app) (sym (append-nil app.top.rules))
adds_rules app (option ∷ rest) =
    adds_rules (ruled app (app.top.rules ++ optional option.0 option.1 ∷ [])) rest
    ∙ ap (ruled app) (append_assoc app.top.rules (optional option.0 option.1 ∷ []) (rules_of rest))

simple : (options : List Told) → list_all (λ rule. rule.is_simple) (rules_of options) ≡ true
simple [] = refl
simple (option ∷ rest) = simple rest

simple_filled : (i : ℕ) (options : List Told) → list_all (λ rule. rule.is_simple) (filled_from i (rules_of options)) ≡ true
simple_filled i [] = refl
simple_filled i (option ∷ rest) = simple_filled i rest

free_filled : (i : ℕ) (options : List Told) → list_all (λ rule. rule.is_free) (filled_from i (rules_of options)) ≡ true
free_filled i [] = refl
free_filled i (option ∷ rest) = free_filled i rest

none_early : (n i : ℕ) (options : List Told) → list_any (is_early_multiple n) (filled_from i (rules_of options)) ≡ false
none_early n i [] = refl
none_early n i (option ∷ rest) = none_early n i rest

pub simple_and_free : (name : Text) (options : List Told) → is_simple_and_free (with_options (bare_app name) options) ≡ true
simple_and_free name options =
    ap is_simple_and_free (adds_rules (bare_app name) options)
    ∙ rw (simple options, simple_filled 1 options, free_filled 1 options, none_early _ 1 options) refl

pub serve_is_simple : is_simple_and_free serve_app ≡ true
unfolding serve_app
serve_is_simple = simple_and_free (codes "serve") (told_of serve_options)

pub client_is_simple : is_simple_and_free client_app ≡ true
unfolding client_app
client_is_simple = refl

pub user_is_simple : is_simple_and_free user_app ≡ true
user_is_simple = refl

pub audit_is_simple : is_simple_and_free audit_app ≡ true
audit_is_simple = refl
