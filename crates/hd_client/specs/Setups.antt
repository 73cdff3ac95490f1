-- How a client is begun, and the words in which it prints.
use Rattle.std.specs.Prelude.{ℕ, Bool, List, codes, Option, option_map}
use Rattle.hv_value.specs.Tree.{Tree}
use Rattle.hv_value.specs.declared.value.Value.{Value}
use Rattle.hm_message.specs.declared.message.Codec.{Codec}
use Rattle.hd_delivery.specs.declared.vocabulary.Side.TheVariants.{Client}
use Rattle.hd_delivery.specs.Worlds.{Limits}
use Rattle.hd_delivery.specs.Bytes.{Wire}
use Rattle.hd_calls.specs.Ids.{id_at}
use Rattle.hd_calls.specs.Peers.{Settings}
use Rattle.hd_dialing.specs.Bodies.{Told}
use Rattle.hd_dialing.specs.Asks as dialing

-- the JSON texts of a value, of a text and of a list
pub record Words : Type 0 where
  pub value : Value → List ℕ
  pub text : List ℕ → List ℕ
  pub list : List Tree → List ℕ

-- how it dials; its codec, and how frames are written and read; the limits of its end; and the texts of what it prints
pub record Setup : Type 0 where
  pub dialing : dialing.Setup
  pub codec : Codec
  pub wire : Wire
  pub limits : Limits
  pub words : Words

-- the name under which its hub knows the server
abbrev pub the_server : List ℕ
the_server = codes "server"

-- the version that it asks for
abbrev pub the_version : ℕ
the_version = 2

abbrev pub peer_settings : Setup → Bool → Settings
peer_settings s reconnect = record {
  config = record { side = Client; codec = s.codec; version = the_version; reconnect = reconnect };
  wire = s.wire;
  limits = s.limits;
  name = id_at Client;
  who = the_server;
}

-- its peer is begun once a token was told
abbrev pub settings_with : Setup → Option Told → Option Settings
settings_with s told = option_map (λ t. peer_settings s t.reconnect) told
