use Rattle.std.proofs.Common.{◌≡◌, ◌≢◌, ◌∙◌, List, Some, codes, ap, ap₂, refl, sym, subst, rules}
use Rattle.clap.specs.Words.{App, Row, Text, first_of, matches_of}
use Rattle.hm_message.specs.declared.message.Codec.{Codec}
use Rattle.sr_words.specs.declared.commands.Command.{Command}
use Rattle.sr_words.specs.declared.commands.Command.TheVariants.{Replay, Record, Audit, Soak, Check, Convert, Serve, Client, User}
use Rattle.hd_facts.specs.Unique.{IsTheOne}
use Rattle.sr_words.specs.Clap.{Gives, Takes}
use Rattle.sr_words.specs.Words.{AsksAfter, codec_name, convert_app, texts}
use Rattle.sr_words.proofs.Names.{apart, same_codec}
use Rattle.sr_words.proofs.words.convert_words.Goals as goal

the_one : (rest : List Text) (from to : Codec) → Takes convert_app rest → Gives convert_app rest (codes "from") (codec_name from)
    → Gives convert_app rest (codes "to") (codec_name to) → from ≢ to → IsTheOne (AsksAfter (codes "convert") rest) (Convert from to)
the_one rest from to takes from_is to_is differ = record { holds = (refl, takes, from_is, to_is, differ); only = only }
  where
    only : (other : Command) → AsksAfter (codes "convert") rest other → other ≡ Convert from to
    only Replay asks = absurd (apart (codes "convert") (codes "replay") refl asks.0)
    only Record asks = absurd (apart (codes "convert") (codes "record") refl asks.0)
    only (Audit side) asks = absurd (apart (codes "convert") (codes "audit") refl asks.0)
    only (Soak seed steps) asks = absurd (apart (codes "convert") (codes "soak") refl asks.0)
    only (Check codec) asks = absurd (apart (codes "convert") (codes "check") refl asks.0)
    only (Convert a b) asks = ap₂ Convert (same_codec a from (sym asks.2 ∙ from_is)) (same_codec b to (sym asks.3 ∙ to_is))
    only (Serve serving) asks = absurd (apart (codes "convert") (codes "serve") refl asks.0)
    only (Client dialing) asks = absurd (apart (codes "convert") (codes "client") refl asks.0)
    only (User adding) asks = absurd (apart (codes "convert") (codes "user") refl asks.0)

gives : (own app : App) (words : List Text) (rows : List Row) (id value : Text) → own ≡ app → rows ≡ matches_of own words
    → first_of id rows ≡ Some value → Gives app words id value
gives own app words rows id value same found first = ap (first_of id) (sym (found ∙ ap (λ a. matches_of a words) same)) ∙ first

pub returns-clause-ok : goal.returns-clause-ok
returns-clause-ok c =
    let app_is = c.in_ok-convert_command.ensures in
    let words = texts c.args.words.now in
    the_one words _ _ (subst (λ (app : App). Takes app words) app_is c.in_ok-matches.ensures.taken)
    (gives _ convert_app words _ (codes "from") _ app_is c.in_ok-matches.ensures.rows c.in_ok-from.ensures.named)
    (gives _ convert_app words _ (codes "to") _ app_is c.in_ok-matches.ensures.rows c.in_ok-to.ensures.named)
    (search rules)
