use Rattle.std.proofs.Common.{◌≡◌, ◌∙◌, Err, List, Option, Result, ap, codes, refl, subst, sym}
use Rattle.clap.specs.Words.{App, Row, Text, is_simple_and_free, matches_of}
use Rattle.hd_delivery.specs.declared.vocabulary.Side.{Side}
use Rattle.sr_words.specs.declared.commands.Command.{Command}
use Rattle.sr_words.specs.declared.commands.Command.TheVariants.{Replay, Record, Audit, Soak, Check, Convert, Serve, Client, User}
use Rattle.hd_facts.specs.Unique.{IsTheOne}
use Rattle.sr_words.specs.Clap.{Takes}
use Rattle.sr_words.specs.Words.{AsksAfter, AsksNothingAfter, SaysSide, audit_app, texts}
use Rattle.sr_words.proofs.Names.{apart, same_side}
use Rattle.sr_words.proofs.Simple.{audit_is_simple}
use Rattle.sr_words.proofs.words.audit_words.Goals as goal

the_one : (rest : List Text) (side : Option Side) → Takes audit_app rest → SaysSide (matches_of audit_app rest) side
    → IsTheOne (AsksAfter (codes "audit") rest) (Audit side)
the_one rest side takes says = record { holds = (refl, takes, says); only = only }
  where
    only : (other : Command) → AsksAfter (codes "audit") rest other → other ≡ Audit side
    only Replay asks = absurd (apart (codes "audit") (codes "replay") refl asks.0)
    only Record asks = absurd (apart (codes "audit") (codes "record") refl asks.0)
    only (Audit other) asks = ap Audit (same_side (matches_of audit_app rest) other side asks.2 says)
    only (Soak seed steps) asks = absurd (apart (codes "audit") (codes "soak") refl asks.0)
    only (Check codec) asks = absurd (apart (codes "audit") (codes "check") refl asks.0)
    only (Convert from to) asks = absurd (apart (codes "audit") (codes "convert") refl asks.0)
    only (Serve serving) asks = absurd (apart (codes "audit") (codes "serve") refl asks.0)
    only (Client dialing) asks = absurd (apart (codes "audit") (codes "client") refl asks.0)
    only (User adding) asks = absurd (apart (codes "audit") (codes "user") refl asks.0)

-- the rows that clap found for the words say what its rows for them say
says_too : (own : App) (words : List Text) (rows : List Row) (side : Option Side) → own ≡ audit_app → rows ≡ matches_of own words
    → SaysSide (matches_of audit_app words) side → SaysSide rows side
says_too own words rows side same found says =
    subst (λ rows. SaysSide rows side) (sym (found ∙ ap (λ app. matches_of app words) same)) says

-- the name asks for no other command
nothing : (rest : List Text) → ((side : Option Side) → SaysSide (matches_of audit_app rest) side → ⊥) → AsksNothingAfter (codes "audit") rest
nothing rest none Replay asks = apart (codes "audit") (codes "replay") refl asks.0
nothing rest none Record asks = apart (codes "audit") (codes "record") refl asks.0
nothing rest none (Audit side) asks = none side asks.2
nothing rest none (Soak seed steps) asks = apart (codes "audit") (codes "soak") refl asks.0
nothing rest none (Check codec) asks = apart (codes "audit") (codes "check") refl asks.0
nothing rest none (Convert from to) asks = apart (codes "audit") (codes "convert") refl asks.0
nothing rest none (Serve serving) asks = apart (codes "audit") (codes "serve") refl asks.0
nothing rest none (Client dialing) asks = apart (codes "audit") (codes "client") refl asks.0
nothing rest none (User adding) asks = apart (codes "audit") (codes "user") refl asks.0

pub matches_in-requires : goal.matches_in-requires
matches_in-requires c = ap is_simple_and_free c.in_ok-audit_command.ensures ∙ audit_is_simple

pub returns-in_err-side-clause-no_command : goal.returns-in_err-side-clause-no_command
returns-in_err-side-clause-no_command c = λ is. nothing (texts c.args.words.now) (λ side says.
    c.in_err-side.ensures.none.1 side
    (says_too _ (texts c.args.words.now) _ side c.in_ok-audit_command.ensures c.in_ok-matches.ensures.rows says))

pub returns-clause-ok : goal.returns-clause-ok
returns-clause-ok c =
    let app_is = c.in_ok-audit_command.ensures in
    let words = texts c.args.words.now in
    the_one words _ (subst (λ (app : App). Takes app words) app_is c.in_ok-matches.ensures.taken)
    (subst (λ (rows : List Row). SaysSide rows c.in_ok-side.side)
    (c.in_ok-matches.ensures.rows ∙ ap (λ app. matches_of app words) app_is) c.in_ok-side.ensures.said)
