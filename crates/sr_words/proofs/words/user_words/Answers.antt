use Rattle.std.proofs.Common.{◌≡◌, ◌∙◌, Err, List, Result, ap, codes, refl, subst, sym}
use Rattle.std.proofs.lemmas.Result.{err_from_is_err_and}
use Rattle.clap.specs.Words.{App, Row, Text, is_simple_and_free, matches_of}
use Rattle.sr_words.specs.declared.adding.Adding.{Adding}
use Rattle.sr_words.specs.declared.commands.Command.{Command}
use Rattle.sr_words.specs.declared.commands.Command.TheVariants.{Replay, Record, Audit, Soak, Check, Convert, Serve, Client, User}
use Rattle.sr_words.specs.declared.error.WordsError.{WordsError}
use Rattle.hd_facts.specs.Unique.{IsTheOne}
use Rattle.sr_words.specs.Clap.{Takes}
use Rattle.sr_words.specs.Words.{AsksAfter, AsksNothingAfter, SaysAdding, texts, user_app}
use Rattle.sr_words.proofs.Names.{apart, same_adding}
use Rattle.sr_words.proofs.Simple.{user_is_simple}
use Rattle.sr_words.proofs.words.user_words.Goals as goal

the_one : (rest : List Text) (adding : Adding) → Takes user_app rest → SaysAdding (matches_of user_app rest) adding
    → IsTheOne (AsksAfter (codes "user") rest) (User adding)
the_one rest adding takes says = record { holds = (refl, takes, says); only = only }
  where
    only : (other : Command) → AsksAfter (codes "user") rest other → other ≡ User adding
    only Replay asks = absurd (apart (codes "user") (codes "replay") refl asks.0)
    only Record asks = absurd (apart (codes "user") (codes "record") refl asks.0)
    only (Audit side) asks = absurd (apart (codes "user") (codes "audit") refl asks.0)
    only (Soak seed steps) asks = absurd (apart (codes "user") (codes "soak") refl asks.0)
    only (Check codec) asks = absurd (apart (codes "user") (codes "check") refl asks.0)
    only (Convert from to) asks = absurd (apart (codes "user") (codes "convert") refl asks.0)
    only (Serve serving) asks = absurd (apart (codes "user") (codes "serve") refl asks.0)
    only (Client dialing) asks = absurd (apart (codes "user") (codes "client") refl asks.0)
    only (User other) asks = ap User (same_adding (matches_of user_app rest) other adding asks.2 says)

-- the rows that clap found for the words say what its rows for them say
says_too : (own : App) (words : List Text) (rows : List Row) (adding : Adding) → own ≡ user_app → rows ≡ matches_of own words
    → SaysAdding (matches_of user_app words) adding → SaysAdding rows adding
says_too own words rows adding same found says =
    subst (λ rows. SaysAdding rows adding) (sym (found ∙ ap (λ app. matches_of app words) same)) says

-- the name asks for no other command
nothing : (rest : List Text) → ((adding : Adding) → SaysAdding (matches_of user_app rest) adding → ⊥) → AsksNothingAfter (codes "user") rest
nothing rest none Replay asks = apart (codes "user") (codes "replay") refl asks.0
nothing rest none Record asks = apart (codes "user") (codes "record") refl asks.0
nothing rest none (Audit side) asks = apart (codes "user") (codes "audit") refl asks.0
nothing rest none (Soak seed steps) asks = apart (codes "user") (codes "soak") refl asks.0
nothing rest none (Check codec) asks = apart (codes "user") (codes "check") refl asks.0
nothing rest none (Convert from to) asks = apart (codes "user") (codes "convert") refl asks.0
nothing rest none (Serve serving) asks = apart (codes "user") (codes "serve") refl asks.0
nothing rest none (Client dialing) asks = apart (codes "user") (codes "client") refl asks.0
nothing rest none (User adding) asks = none adding asks.2

inside : {a b : WordsError} → ◌≡◌ {A = Result Command WordsError} (Err a) (Err b) → a ≡ b
inside e = cc

pub matches_in-requires : goal.matches_in-requires
matches_in-requires c = ap is_simple_and_free c.in_ok-user_command.ensures ∙ user_is_simple

pub returns-in_err-adding-clause-no_command : goal.returns-in_err-adding-clause-no_command
returns-in_err-adding-clause-no_command c =
    let p = err_from_is_err_and c.from_residual-in_err-adding.result c.from_residual-in_err-adding.ensures.1 in
    λ is. nothing (texts c.args.words.now) (λ adding says.
    c.in_err-adding.ensures.none (ap Err (inside (ap Err (sym p.2) ∙ (sym p.1 ∙ is)))) adding
    (says_too _ (texts c.args.words.now) _ adding c.in_ok-user_command.ensures c.in_ok-matches.ensures.rows says))

pub returns-clause-ok : goal.returns-clause-ok
returns-clause-ok c =
    let app_is = c.in_ok-user_command.ensures in
    let words = texts c.args.words.now in
    the_one words _ (subst (λ (app : App). Takes app words) app_is c.in_ok-matches.ensures.taken)
    (subst (λ (rows : List Row). SaysAdding rows c.in_ok-adding.field-0)
    (c.in_ok-matches.ensures.rows ∙ ap (λ app. matches_of app words) app_is) c.in_ok-adding.ensures.said)
