-- What two ends, or two peers, are begun with is what the options say.
use Rattle.std.proofs.Common.{◌≡◌, List, [], refl, sym, subst}
use Rattle.hd_delivery.specs.Worlds.{Limits, Terms}
use Rattle.hd_delivery.specs.Bytes.{Wire}
use Rattle.he_wire.specs.Wires.{IsHouseWire}
use Rattle.he_end.specs.declared.config.Config.{Config}
use Rattle.sr_notation.specs.declared.setting.Setting.{Setting}
use Rattle.sr_script.specs.Script.{Program}
use Rattle.sr_notation.specs.Terms.{limits_in, terms_in}
use Rattle.sr_peers.specs.declared.peers.Peers.{Peers}
use Rattle.sr_peers.specs.Begun.{terms_of}
use Rattle.sr_peers.specs.Runs.{pair_of}
use Rattle.sr_peers.specs.Follows.{Follows}
use Rattle.sr_replay.specs.Replays.{Begins}
use Rattle.sr_replay.specs.WithPeers.{AreBegun}

pub same_terms : (settings : List Setting) (config : Config) → Begins settings config → terms_of config ≡ terms_in settings
same_terms settings config b = rw (b.codec, b.version, b.reconnect) refl

-- peers that are begun so are begun as the options say
pub are_begun : (p : Program) (config : Config) (peers : Peers) → Begins p.settings config
    → ((wire : Wire) → IsHouseWire config.limits.frame wire → Follows (pair_of config.limits wire (terms_of config)) [] [] peers) → AreBegun p peers
are_begun p config peers begins begun wire house =
    let own = begun wire (subst (λ (l : Limits). IsHouseWire l.frame wire) (sym begins.limits) house) in
    let limited = subst (λ (l : Limits). Follows (pair_of l wire (terms_of config)) [] [] peers) begins.limits own in
    subst (λ (t : Terms). Follows (pair_of (limits_in p.settings) wire t) [] [] peers) (same_terms p.settings config begins) limited
