-- What the two peers of a soak are begun with is what its options say.
use Rattle.std.proofs.Common.{◌≡◌, [], refl, sym, subst}
use Rattle.hd_delivery.specs.Worlds.{Limits, Terms}
use Rattle.hd_delivery.specs.Bytes.{Wire}
use Rattle.he_wire.specs.Wires.{IsHouseWire}
use Rattle.he_end.specs.declared.config.Config.{Config}
use Rattle.sr_notation.specs.Terms.{limits_in, terms_in}
use Rattle.sr_peers.specs.declared.peers.Peers.{Peers}
use Rattle.sr_peers.specs.Begun.{terms_of}
use Rattle.sr_peers.specs.Runs.{pair_of}
use Rattle.sr_peers.specs.Follows.{Follows}
use Rattle.sr_replay.specs.Replays.{Begins}
use Rattle.sr_soak.specs.Recipe.{soak_settings}
use Rattle.sr_soak.specs.Plays.{Reaches}

usual_terms : (config : Config) → Begins [] config → terms_of config ≡ terms_in soak_settings
usual_terms config b = rw (b.codec, b.version, b.reconnect) refl

pub are_begun : (config : Config) (peers : Peers) → Begins [] config
    → ((wire : Wire) → IsHouseWire config.limits.frame wire → Follows (pair_of config.limits wire (terms_of config)) [] [] peers) → Reaches [] peers
are_begun config peers begins begun = λ wire house.
    let own = begun wire (subst (λ (l : Limits). IsHouseWire l.frame wire) (sym begins.limits) house) in
    let limited = subst (λ (l : Limits). Follows (pair_of l wire (terms_of config)) [] [] peers) begins.limits own in
    ([], subst (λ (t : Terms). Follows (pair_of (limits_in soak_settings) wire t) [] [] peers) (usual_terms config begins) limited)
