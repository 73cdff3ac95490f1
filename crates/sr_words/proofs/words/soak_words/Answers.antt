use Rattle.std.proofs.Common.{◌≡◌, ◌≤◌, ◌∙◌, ℕ, List, codes, ap, ap₂, refl, sym, subst, rules}
use Rattle.clap.specs.Words.{App, Row, Text, matches_of}
use Rattle.sr_words.specs.declared.commands.Command.{Command}
use Rattle.sr_words.specs.declared.commands.Command.TheVariants.{Replay, Record, Audit, Soak, Check, Convert, Serve, Client, User}
use Rattle.hd_facts.specs.Unique.{IsTheOne}
use Rattle.sr_words.specs.Clap.{SaysNumber, Takes}
use Rattle.sr_words.specs.Words.{AsksAfter, AsksNothingAfter, most_steps, soak_app, texts}
use Rattle.sr_words.proofs.Names.{apart, same_number}
use Rattle.sr_words.proofs.words.soak_words.Goals as goal

the_one : (rest : List Text) (seed steps : ℕ) → Takes soak_app rest → SaysNumber (codes "seed") seed (matches_of soak_app rest)
    → SaysNumber (codes "steps") steps (matches_of soak_app rest) → steps ≤ most_steps → IsTheOne (AsksAfter (codes "soak") rest) (Soak seed steps)
the_one rest seed steps takes seed_is steps_are few = record { holds = (refl, takes, seed_is, steps_are, few); only = only }
  where
    only : (other : Command) → AsksAfter (codes "soak") rest other → other ≡ Soak seed steps
    only Replay asks = absurd (apart (codes "soak") (codes "replay") refl asks.0)
    only Record asks = absurd (apart (codes "soak") (codes "record") refl asks.0)
    only (Audit side) asks = absurd (apart (codes "soak") (codes "audit") refl asks.0)
    only (Soak a b) asks = ap₂ Soak (same_number (codes "seed") (matches_of soak_app rest) a seed asks.2 seed_is)
        (same_number (codes "steps") (matches_of soak_app rest) b steps asks.3 steps_are)
    only (Check codec) asks = absurd (apart (codes "soak") (codes "check") refl asks.0)
    only (Convert a b) asks = absurd (apart (codes "soak") (codes "convert") refl asks.0)
    only (Serve serving) asks = absurd (apart (codes "soak") (codes "serve") refl asks.0)
    only (Client dialing) asks = absurd (apart (codes "soak") (codes "client") refl asks.0)
    only (User adding) asks = absurd (apart (codes "soak") (codes "user") refl asks.0)

-- what the rows say that clap found, its rows for the words say
said : (own : App) (words : List Text) (rows : List Row) (id : Text) (n : ℕ) → own ≡ soak_app → rows ≡ matches_of own words → SaysNumber id n rows
    → SaysNumber id n (matches_of soak_app words)
said own words rows id n same found says = subst (λ rows. SaysNumber id n rows) (found ∙ ap (λ a. matches_of a words) same) says

-- and the rows that clap found say what its rows for the words say
found_too : (own : App) (words : List Text) (rows : List Row) (id : Text) (n : ℕ) → own ≡ soak_app → rows ≡ matches_of own words
    → SaysNumber id n (matches_of soak_app words) → SaysNumber id n rows
found_too own words rows id n same found says = subst (λ rows. SaysNumber id n rows) (sym (found ∙ ap (λ a. matches_of a words) same)) says

-- the name asks for no other command
nothing : (rest : List Text) → ((seed steps : ℕ) → AsksAfter (codes "soak") rest (Soak seed steps) → ⊥) → AsksNothingAfter (codes "soak") rest
nothing rest none Replay asks = apart (codes "soak") (codes "replay") refl asks.0
nothing rest none Record asks = apart (codes "soak") (codes "record") refl asks.0
nothing rest none (Audit side) asks = apart (codes "soak") (codes "audit") refl asks.0
nothing rest none (Soak seed steps) asks = none seed steps asks
nothing rest none (Check codec) asks = apart (codes "soak") (codes "check") refl asks.0
nothing rest none (Convert a b) asks = apart (codes "soak") (codes "convert") refl asks.0
nothing rest none (Serve serving) asks = apart (codes "soak") (codes "serve") refl asks.0
nothing rest none (Client dialing) asks = apart (codes "soak") (codes "client") refl asks.0
nothing rest none (User adding) asks = apart (codes "soak") (codes "user") refl asks.0

pub returns-in_err-seed-clause-no_command : goal.returns-in_err-seed-clause-no_command
returns-in_err-seed-clause-no_command c = λ is. nothing (texts c.args.words.now) (λ seed steps asks.
    c.in_err-seed.ensures.none.1 seed
    (found_too _ (texts c.args.words.now) _ (codes "seed") seed c.in_ok-soak_command.ensures c.in_ok-matches.ensures.rows asks.2))

pub returns-in_err-steps-clause-no_command : goal.returns-in_err-steps-clause-no_command
returns-in_err-steps-clause-no_command c = λ is. nothing (texts c.args.words.now) (λ seed steps asks.
    c.in_err-steps.ensures.none.1 steps
    (found_too _ (texts c.args.words.now) _ (codes "steps") steps c.in_ok-soak_command.ensures c.in_ok-matches.ensures.rows asks.3))

pub returns-clause-ok : goal.returns-clause-ok
returns-clause-ok c =
    let app_is = c.in_ok-soak_command.ensures in
    let words = texts c.args.words.now in
    the_one words _ _ (subst (λ (app : App). Takes app words) app_is c.in_ok-matches.ensures.taken)
    (said _ words _ (codes "seed") _ app_is c.in_ok-matches.ensures.rows c.in_ok-seed.ensures.said)
    (said _ words _ (codes "steps") _ app_is c.in_ok-matches.ensures.rows c.in_ok-steps.ensures.said)
    (search rules)
