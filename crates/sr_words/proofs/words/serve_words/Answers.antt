use Rattle.std.proofs.Common.{◌≡◌, ◌∙◌, Err, List, Result, ap, codes, refl, subst, sym}
use Rattle.std.proofs.lemmas.Result.{err_from_is_err_and}
use Rattle.clap.specs.Words.{App, Row, Text, is_simple_and_free, matches_of}
use Rattle.sr_words.specs.declared.commands.Command.{Command}
use Rattle.sr_words.specs.declared.commands.Command.TheVariants.{Replay, Record, Audit, Soak, Check, Convert, Serve, Client, User}
use Rattle.sr_words.specs.declared.error.WordsError.{WordsError}
use Rattle.sr_words.specs.declared.serving.Serving.{Serving}
use Rattle.hd_facts.specs.Unique.{IsTheOne}
use Rattle.sr_words.specs.Clap.{Takes}
use Rattle.sr_words.specs.Words.{AsksAfter, AsksNothingAfter, SaysServing, serve_app, texts}
use Rattle.sr_words.proofs.Names.{apart, same_serving}
use Rattle.sr_words.proofs.Simple.{serve_is_simple}
use Rattle.sr_words.proofs.words.serve_words.Goals as goal

the_one : (rest : List Text) (serving : Serving) → Takes serve_app rest → SaysServing (matches_of serve_app rest) serving
    → IsTheOne (AsksAfter (codes "serve") rest) (Serve serving)
the_one rest serving takes says = record { holds = (refl, takes, says); only = only }
  where
    only : (other : Command) → AsksAfter (codes "serve") rest other → other ≡ Serve serving
    only Replay asks = absurd (apart (codes "serve") (codes "replay") refl asks.0)
    only Record asks = absurd (apart (codes "serve") (codes "record") refl asks.0)
    only (Audit side) asks = absurd (apart (codes "serve") (codes "audit") refl asks.0)
    only (Soak seed steps) asks = absurd (apart (codes "serve") (codes "soak") refl asks.0)
    only (Check codec) asks = absurd (apart (codes "serve") (codes "check") refl asks.0)
    only (Convert from to) asks = absurd (apart (codes "serve") (codes "convert") refl asks.0)
    only (Serve other) asks = ap Serve (same_serving (matches_of serve_app rest) other serving asks.2 says)
    only (Client dialing) asks = absurd (apart (codes "serve") (codes "client") refl asks.0)
    only (User adding) asks = absurd (apart (codes "serve") (codes "user") refl asks.0)

-- the rows that clap found for the words say what its rows for them say
says_too : (own : App) (words : List Text) (rows : List Row) (serving : Serving) → own ≡ serve_app → rows ≡ matches_of own words
    → SaysServing (matches_of serve_app words) serving → SaysServing rows serving
says_too own words rows serving same found says =
    subst (λ rows. SaysServing rows serving) (sym (found ∙ ap (λ app. matches_of app words) same)) says

-- the name asks for no other command
nothing : (rest : List Text) → ((serving : Serving) → SaysServing (matches_of serve_app rest) serving → ⊥) → AsksNothingAfter (codes "serve") rest
nothing rest none Replay asks = apart (codes "serve") (codes "replay") refl asks.0
nothing rest none Record asks = apart (codes "serve") (codes "record") refl asks.0
nothing rest none (Audit side) asks = apart (codes "serve") (codes "audit") refl asks.0
nothing rest none (Soak seed steps) asks = apart (codes "serve") (codes "soak") refl asks.0
nothing rest none (Check codec) asks = apart (codes "serve") (codes "check") refl asks.0
nothing rest none (Convert from to) asks = apart (codes "serve") (codes "convert") refl asks.0
nothing rest none (Serve serving) asks = none serving asks.2
nothing rest none (Client dialing) asks = apart (codes "serve") (codes "client") refl asks.0
nothing rest none (User adding) asks = apart (codes "serve") (codes "user") refl asks.0

inside : {a b : WordsError} → ◌≡◌ {A = Result Command WordsError} (Err a) (Err b) → a ≡ b
inside e = cc

pub matches_in-requires : goal.matches_in-requires
matches_in-requires c = ap is_simple_and_free c.in_ok-serve_command.ensures ∙ serve_is_simple

pub returns-in_err-serving-clause-no_command : goal.returns-in_err-serving-clause-no_command
returns-in_err-serving-clause-no_command c =
    let p = err_from_is_err_and c.from_residual-in_err-serving.result c.from_residual-in_err-serving.ensures.1 in
    λ is. nothing (texts c.args.words.now) (λ serving says.
    c.in_err-serving.ensures.none (ap Err (inside (ap Err (sym p.2) ∙ (sym p.1 ∙ is)))) serving
    (says_too _ (texts c.args.words.now) _ serving c.in_ok-serve_command.ensures c.in_ok-matches.ensures.rows says))

pub returns-clause-ok : goal.returns-clause-ok
returns-clause-ok c =
    let app_is = c.in_ok-serve_command.ensures in
    let words = texts c.args.words.now in
    the_one words _ (subst (λ (app : App). Takes app words) app_is c.in_ok-matches.ensures.taken)
    (subst (λ (rows : List Row). SaysServing rows c.in_ok-serving.field-0)
    (c.in_ok-matches.ensures.rows ∙ ap (λ app. matches_of app words) app_is) c.in_ok-serving.ensures.said)
