-- The client's peer before its first link.
use Rattle.std.proofs.Common.{◌≡◌, ℕ, Bool, false, List, [], refl, sym, subst, true≢false}
use Rattle.hm_message.specs.declared.message.Codec.{Codec}
use Rattle.hd_delivery.specs.declared.vocabulary.Side.TheVariants.{Client}
use Rattle.hd_delivery.specs.Worlds.{Limits}
use Rattle.hp_peer.specs.Stands.{Stands, settings}
use Rattle.hub_calc.specs.Client.{client_hub}
use Rattle.hd_calls.specs.Peers.{Settings}
use Rattle.hd_client.specs.Setups.{Setup, peer_settings, the_server, the_version}
use Rattle.sr_client.specs.declared.peer.ClientPeer.{ClientPeer}
use Rattle.sr_client.specs.Peers.{Plays}

-- how it is begun with this codec, these limits and this name
abbrev pub begun_with : Setup → Codec → Limits → List ℕ → Bool → Settings
begun_with s codec limits who reconnect =
    settings Client (record { codec = codec; version = the_version; reconnect = reconnect; limits = limits }) s.wire who

pub begins : (s : Setup) (codec : Codec) (limits : Limits) (who : List ℕ) (reconnect : Bool) (p : ClientPeer) → s.codec ≡ codec → s.limits ≡ limits
    → who ≡ the_server → p.linked ≡ false → Stands client_hub (begun_with s codec limits who reconnect) p.peer [] → Plays (peer_settings s reconnect) p []
begins s codec limits who reconnect p same_codec same_limits same_who unlinked stands = record {
  on = record {
    stands = subst (λ w. Stands client_hub (begun_with s s.codec s.limits w reconnect) p.peer []) same_who
        (subst (λ l. Stands client_hub (begun_with s s.codec l who reconnect) p.peer []) (sym same_limits)
        (subst (λ k. Stands client_hub (begun_with s k limits who reconnect) p.peer []) (sym same_codec) stands));
    side = refl;
    linked = unlinked;
    links = λ l was. absurd (true≢false (sym was));
    handled = refl;
  };
  taken = refl;
}
