use Rattle.std.proofs.Common.{◌≡◌, ◌∙◌, Err, List, Result, ap, codes, refl, subst, sym}
use Rattle.std.proofs.lemmas.Result.{err_from_is_err_and}
use Rattle.clap.specs.Words.{App, Row, Text, is_simple_and_free, matches_of}
use Rattle.hn_dialing.specs.Addresses.{AddressesAreOne}
use Rattle.sr_words.specs.declared.commands.Command.{Command}
use Rattle.sr_words.specs.declared.commands.Command.TheVariants.{Replay, Record, Audit, Soak, Check, Convert, Serve, Client, User}
use Rattle.sr_words.specs.declared.dialing.Dialing.{Dialing}
use Rattle.sr_words.specs.declared.error.WordsError.{WordsError}
use Rattle.hd_facts.specs.Unique.{IsTheOne}
use Rattle.sr_words.specs.Clap.{Takes}
use Rattle.sr_words.specs.Words.{AsksAfter, AsksNothingAfter, SaysDialing, client_app, texts}
use Rattle.sr_words.proofs.Names.{apart, same_dialing}
use Rattle.sr_words.proofs.Simple.{client_is_simple}
use Rattle.sr_words.proofs.words.client_words.Goals as goal

the_one : AddressesAreOne → (rest : List Text) (dialing : Dialing) → Takes client_app rest → SaysDialing (matches_of client_app rest) dialing
    → IsTheOne (AsksAfter (codes "client") rest) (Client dialing)
the_one one rest dialing takes says = record { holds = (refl, takes, says); only = only }
  where
    only : (other : Command) → AsksAfter (codes "client") rest other → other ≡ Client dialing
    only Replay asks = absurd (apart (codes "client") (codes "replay") refl asks.0)
    only Record asks = absurd (apart (codes "client") (codes "record") refl asks.0)
    only (Audit side) asks = absurd (apart (codes "client") (codes "audit") refl asks.0)
    only (Soak seed steps) asks = absurd (apart (codes "client") (codes "soak") refl asks.0)
    only (Check codec) asks = absurd (apart (codes "client") (codes "check") refl asks.0)
    only (Convert from to) asks = absurd (apart (codes "client") (codes "convert") refl asks.0)
    only (Serve serving) asks = absurd (apart (codes "client") (codes "serve") refl asks.0)
    only (Client other) asks = ap Client (same_dialing one (matches_of client_app rest) other dialing asks.2 says)
    only (User adding) asks = absurd (apart (codes "client") (codes "user") refl asks.0)

-- the rows that clap found for the words say what its rows for them say
says_too : (own : App) (words : List Text) (rows : List Row) (dialing : Dialing) → own ≡ client_app → rows ≡ matches_of own words
    → SaysDialing (matches_of client_app words) dialing → SaysDialing rows dialing
says_too own words rows dialing same found says =
    subst (λ rows. SaysDialing rows dialing) (sym (found ∙ ap (λ app. matches_of app words) same)) says

-- the name asks for no other command
nothing : (rest : List Text) → ((dialing : Dialing) → SaysDialing (matches_of client_app rest) dialing → ⊥) → AsksNothingAfter (codes "client") rest
nothing rest none Replay asks = apart (codes "client") (codes "replay") refl asks.0
nothing rest none Record asks = apart (codes "client") (codes "record") refl asks.0
nothing rest none (Audit side) asks = apart (codes "client") (codes "audit") refl asks.0
nothing rest none (Soak seed steps) asks = apart (codes "client") (codes "soak") refl asks.0
nothing rest none (Check codec) asks = apart (codes "client") (codes "check") refl asks.0
nothing rest none (Convert from to) asks = apart (codes "client") (codes "convert") refl asks.0
nothing rest none (Serve serving) asks = apart (codes "client") (codes "serve") refl asks.0
nothing rest none (Client dialing) asks = none dialing asks.2
nothing rest none (User adding) asks = apart (codes "client") (codes "user") refl asks.0

inside : {a b : WordsError} → ◌≡◌ {A = Result Command WordsError} (Err a) (Err b) → a ≡ b
inside e = cc

pub matches_in-requires : goal.matches_in-requires
matches_in-requires c = ap is_simple_and_free c.in_ok-client_command.ensures ∙ client_is_simple

pub returns-in_err-dialing-clause-no_command : goal.returns-in_err-dialing-clause-no_command
returns-in_err-dialing-clause-no_command c =
    let p = err_from_is_err_and c.from_residual-in_err-dialing.result c.from_residual-in_err-dialing.ensures.1 in
    λ is. nothing (texts c.args.words.now) (λ dialing says.
    c.in_err-dialing.ensures.none (ap Err (inside (ap Err (sym p.2) ∙ (sym p.1 ∙ is)))) dialing
    (says_too _ (texts c.args.words.now) _ dialing c.in_ok-client_command.ensures c.in_ok-matches.ensures.rows says))

pub returns-clause-ok : goal.returns-clause-ok
returns-clause-ok c =
    let app_is = c.in_ok-client_command.ensures in
    let words = texts c.args.words.now in
    the_one c.addresses_are_one.ensures words _ (subst (λ (app : App). Takes app words) app_is c.in_ok-matches.ensures.taken)
    (subst (λ (rows : List Row). SaysDialing rows c.in_ok-dialing.field-0)
    (c.in_ok-matches.ensures.rows ∙ ap (λ app. matches_of app words) app_is) c.in_ok-dialing.ensures.said)
