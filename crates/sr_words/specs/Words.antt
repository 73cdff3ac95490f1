-- What the words of the command line ask for.
use Rattle.std.specs.Prelude.{◌≡◌, ◌≢◌, ◌≤◌, ℕ, List, [], ◌∷◌, Option, Some, None, map, option_map, codes, String, string_bytes}
use Rattle.std.specs.Net.Grammar.{IsIpText}
use Rattle.std.specs.declared.alloc.Global.{Global}
use Rattle.clap.specs.Words.{App, Row, Text, first_of, matches_of, with_rule}
use Rattle.hd_facts.specs.Unique.{IsTheOne}
use Rattle.hd_delivery.specs.declared.vocabulary.Side.{Side}
use Rattle.hd_delivery.specs.declared.vocabulary.Side.TheVariants as end
use Rattle.hm_message.specs.declared.message.Codec.{Codec}
use Rattle.hm_message.specs.declared.message.Codec.TheVariants.{Json, Pack}
use Rattle.hn_dialing.specs.Addresses.{IsAddress}
use Rattle.hw_door.specs.declared.heard.Address.{Address}
use Rattle.sr_words.specs.declared.adding.Adding.{Adding}
use Rattle.sr_words.specs.declared.commands.Command.{Command}
use Rattle.sr_words.specs.declared.commands.Command.TheVariants.{Replay, Record, Audit, Soak, Check, Convert, Serve, Client, User}
use Rattle.sr_words.specs.declared.dialing.Dialing.{Dialing}
use Rattle.sr_words.specs.declared.serving.Serving.{Serving}
use Rattle.sr_words.specs.declared.serving.Settings.{Settings}
use Rattle.sr_words.specs.Base.{IsBase}
use Rattle.sr_words.specs.Clap.{Gives, IsNumber, SaysNumber, Takes, bare_app, optional, required, required_option}
use Rattle.sr_words.specs.Options.{Choice, SayAll, choice, choice_if_given, choice_of_two, told_of, with_options}
use Rattle.sr_words.specs.Resends.{IsResend}
use Rattle.sr_words.specs.Lives.{IsLive}

abbrev pub codec_name : Codec → Text
codec_name Json = codes "json"
codec_name Pack = codes "pack"

-- the text names the codec
abbrev pub IsCodec : Text → Codec → Type 0
IsCodec text codec = text ≡ codec_name codec

abbrev pub side_name : Side → Text
side_name end.Client = codes "client"
side_name end.Server = codes "server"

-- the text names the end
abbrev pub IsSide : Text → Side → Type 0
IsSide text side = text ≡ side_name side

-- the value is the text that is given, if one is
abbrev pub IsGiven : Option Text → Option Text → Type 0
IsGiven text value = value ≡ text

-- the most steps of a soak
abbrev pub most_steps : ℕ
most_steps = 100000

-- the options of `serve`: each with its name, its text if none is given, what a text says, and what it is of a server
abbrev pub serve_options : List (Choice Serving)
serve_options =
    choice (codes "port") (codes "8080") (IsNumber 16) (λ serving. serving.port)
    ∷ choice (codes "base") (codes "/hub") IsBase (λ serving. serving.base)
    ∷ choice (codes "turns") (codes "18446744073709551615") (IsNumber 64) (λ serving. serving.turns)
    ∷ choice (codes "listen") (codes "127.0.0.1") IsIpText (λ serving. serving.listen)
    ∷ choice_of_two (codes "resend") (codes "1024", codes "100000") IsResend (λ serving. serving.resend)
    ∷ choice (codes "live") (codes "10000") IsLive (λ serving. serving.live)
    ∷ choice_if_given (codes "store") IsGiven (λ serving. serving.store)
    ∷ []

-- the options of `client`
abbrev pub client_options : List (Choice Dialing)
client_options =
    choice (codes "codec") (codes "json") IsCodec (λ dialing. dialing.codec)
    ∷ choice_if_given (codes "token") IsGiven (λ dialing. dialing.address.token)
    ∷ choice (codes "turns") (codes "18446744073709551615") (IsNumber 64) (λ dialing. dialing.turns)
    ∷ choice_of_two (codes "resend") (codes "1024", codes "100000") IsResend (λ dialing. dialing.resend)
    ∷ []

-- what clap is told of the words after each name
abbrev pub replay_app : App
replay_app = bare_app (codes "replay")

abbrev pub record_app : App
record_app = bare_app (codes "record")

abbrev pub audit_app : App
audit_app = with_rule (bare_app (codes "audit")) (optional (codes "side") 1)

-- these rows give the option `side` the name of this end, or nothing if there is none
abbrev pub SaysSide : List Row → Option Side → Type 0
SaysSide rows side = first_of (codes "side") rows ≡ option_map side_name side

abbrev pub soak_app : App
soak_app = with_rule (with_rule (bare_app (codes "soak")) (required (codes "seed"))) (required (codes "steps"))

abbrev pub check_app : App
check_app = with_rule (bare_app (codes "check")) (required (codes "codec"))

abbrev pub convert_app : App
convert_app = with_rule (with_rule (bare_app (codes "convert")) (required (codes "from"))) (required (codes "to"))

unfoldable pub serve_app : App
serve_app = with_options (bare_app (codes "serve")) (told_of serve_options)

-- what these rows give the options of `serve` says this
unfoldable pub SaysServing : List Row → Serving → Type 0
SaysServing = SayAll serve_options

unfoldable pub client_app : App
client_app = with_options (with_rule (bare_app (codes "client")) (required (codes "url"))) (told_of client_options)

-- these rows give the argument `url` a text that is the URL of a hub at this address
abbrev pub SaysAddress : List Row → Address → Type 0
SaysAddress rows address = (text : Text) × ((first_of (codes "url") rows ≡ Some text) × IsAddress text address)

-- what these rows give the URL and the options of `client` says this
unfoldable pub SaysDialing : List Row → Dialing → Type 0
SaysDialing rows dialing = SaysAddress rows dialing.address × SayAll client_options rows dialing

abbrev pub user_app : App
user_app =
    with_rule (with_rule (with_rule (bare_app (codes "user")) (required (codes "token"))) (required (codes "name"))) (required_option (codes "store"))

-- what these rows give the arguments and the option of `user` is this
abbrev pub SaysAdding : List Row → Adding → Type 0
SaysAdding rows adding =
    (first_of (codes "token") rows ≡ Some adding.token) × (first_of (codes "name") rows ≡ Some adding.name)
    × (first_of (codes "store") rows ≡ Some adding.store)

-- the command of this name, with these words after it, asks for this
abbrev pub AsksAfter : Text → List Text → Command → Type 0
AsksAfter name rest Replay = (name ≡ codes "replay") × Takes replay_app rest
AsksAfter name rest Record = (name ≡ codes "record") × Takes record_app rest
AsksAfter name rest (Audit side) = (name ≡ codes "audit") × Takes audit_app rest × SaysSide (matches_of audit_app rest) side
AsksAfter name rest (Soak seed steps) =
    (name ≡ codes "soak") × Takes soak_app rest × SaysNumber (codes "seed") seed (matches_of soak_app rest)
    × SaysNumber (codes "steps") steps (matches_of soak_app rest) × (steps ≤ most_steps)
AsksAfter name rest (Check codec) =
    (name ≡ codes "check") × Takes check_app rest × Gives check_app rest (codes "codec") (codec_name codec)
AsksAfter name rest (Convert from to) =
    (name ≡ codes "convert") × Takes convert_app rest × Gives convert_app rest (codes "from") (codec_name from)
    × Gives convert_app rest (codes "to") (codec_name to) × (from ≢ to)
AsksAfter name rest (Serve serving) =
    (name ≡ codes "serve") × Takes serve_app rest × SaysServing (matches_of serve_app rest) serving
AsksAfter name rest (Client dialing) =
    (name ≡ codes "client") × Takes client_app rest × SaysDialing (matches_of client_app rest) dialing
AsksAfter name rest (User adding) =
    (name ≡ codes "user") × Takes user_app rest × SaysAdding (matches_of user_app rest) adding

abbrev pub AsksNothingAfter : Text → List Text → Type 0
AsksNothingAfter name rest = (command : Command) → AsksAfter name rest command → ⊥

abbrev pub texts : List (String Global) → List Text
texts = map string_bytes

-- the words of the command line, without the program's name, ask for this
abbrev pub Asks : List (String Global) → Command → Type 0
Asks words command = (name : Text) × (rest : List Text) × (texts words ≡ name ∷ rest) × AsksAfter name rest command

abbrev pub IsNoCommand : List (String Global) → Type 0
IsNoCommand words = (command : Command) → Asks words command → ⊥

-- what has to be known of a command that needs nothing outside but input and output
abbrev pub no_settings : Settings
no_settings = record { port = None; base = None; listen = None; live = None; store = None; address = None }

-- what has to be known before the command can run: something of a server, where a client dials, and in which file a store is
abbrev pub settings_of : Command → Settings
settings_of (Serve serving) = record {
  port = Some serving.port;
  base = Some serving.base;
  listen = Some serving.listen;
  live = Some serving.live;
  store = serving.store;
  address = None;
}
settings_of (Client dialing) = record no_settings { address = Some dialing.address }
settings_of (User adding) = record no_settings { store = Some adding.store }
settings_of _ = no_settings

-- these are the settings of the one command that the words ask for
abbrev pub AreSettings : List (String Global) → Settings → Type 0
AreSettings words settings = (command : Command) × (IsTheOne (Asks words) command × (settings ≡ settings_of command))
