-- How a client's peer begins, once a token was told.
use Rattle.std.proofs.Common.{inl, inr, ◌≡◌, ℕ, ◌≤◌, Bool, false, List, [], Option, Some, None, is_some, refl, sym, ap, subst, ◌∙◌, arith, true≢false}
use Rattle.std.specs.Prelude.{option_map}
use Rattle.hd_delivery.specs.Histories as of
use Rattle.he_wire.specs.Wires.{IsHouseWire}
use Rattle.hd_calls.specs.Peers.{PeerEvent, Settings, steps}
use Rattle.hd_dialing.specs.Bodies.{Told}
use Rattle.hd_dialing.specs.Events.{told}
use Rattle.hd_client.specs.Setups.{Setup, peer_settings}
use Rattle.hd_client.specs.Events.{ClientEvent, dialing, moment, moves, settings_of}
use Rattle.sr_client.specs.declared.client.Client.{Client}
use Rattle.sr_client.specs.declared.peer.ClientPeer.{ClientPeer}
use Rattle.sr_client.specs.Clients.{Kept, PlaysBy}
use Rattle.sr_client.specs.Peers.{Plays}
use Rattle.sr_client.specs.Turning.{MayStart}
use Rattle.sr_client.proofs.Parts.{plays_as, unplayed}

none_there : (x : Option ClientPeer) → is_some x ≡ false → x ≡ None
none_there None e = refl
none_there (Some p) e = absurd (true≢false e)

-- nothing moved before it
unmoved : (o : Option Settings) (x : Option ClientPeer) (g : List PeerEvent) (now : ℕ) → x ≡ None → MayStart o x g now → g ≡ []
unmoved o x g now none (inl plays) = (unplayed o x g now plays none).1
unmoved o x g now none (inr before) = before.1

settings_so : (s : Setup) (o : Option Told) (r : Bool) → option_map (λ t. t.reconnect) o ≡ Some r
    → option_map (λ t. peer_settings s t.reconnect) o ≡ Some (peer_settings s r)
settings_so s None r e = absurd (true≢false (sym (ap is_some e)))
settings_so s (Some t) r e = let same : t.reconnect ≡ r = cc in ap (λ x. Some (peer_settings s x)) same

settings_none : (s : Setup) (o : Option Told) → option_map (λ t. t.reconnect) o ≡ None → option_map (λ t. peer_settings s t.reconnect) o ≡ None
settings_none s None e = refl
settings_none s (Some t) e = absurd (true≢false (ap is_some e))

module _ (s : Setup) (h : List ClientEvent) (c : Client) (kept : Kept s c h) (may : MayStart (settings_of s h) c.peer (moves h) (moment h))
    (before : is_some c.peer ≡ false) where
  none : c.peer ≡ None
  none = none_there c.peer before

  unmoved_yet : moves h ≡ []
  unmoved_yet = unmoved (settings_of s h) c.peer (moves h) (moment h) none may

  pub starts_now : (p : ClientPeer) (granted : Option Bool) (r : Bool) → granted ≡ option_map (λ t. t.reconnect) (told (dialing h)) → granted ≡ Some r
      → ((z : Setup) → z.codec ≡ c.codec → z.limits ≡ c.limits → IsHouseWire c.limits.frame z.wire → Plays (peer_settings z r) p [])
      → PlaysBy (settings_of s h) (Some p) (moves h) (moment h)
  starts_now p granted r is some plays =
      plays_as (settings_of s h) (peer_settings s r) p (moves h) (moment h) (settings_so s (told (dialing h)) r (sym is ∙ some))
      (subst (λ g. Plays (peer_settings s r) p g) (sym unmoved_yet) (plays s kept.codec kept.limits kept.wire))
      (subst (λ g. of.moment (steps (peer_settings s r) g) ≤ moment h) (sym unmoved_yet) (omega arith))

  pub starts_later : (granted : Option Bool) → granted ≡ option_map (λ t. t.reconnect) (told (dialing h)) → ((r : Bool) → granted ≡ Some r → ⊥)
      → PlaysBy (settings_of s h) c.peer (moves h) (moment h)
  starts_later granted is not =
      subst (λ x. PlaysBy (settings_of s h) x (moves h) (moment h)) (sym none)
      (subst (λ o. PlaysBy o None (moves h) (moment h)) (sym (settings_none s (told (dialing h)) (sym is ∙ absent granted not))) unmoved_yet)
    where
      absent : (g : Option Bool) → ((r : Bool) → g ≡ Some r → ⊥) → g ≡ None
      absent None not = refl
      absent (Some r) not = absurd (not r refl)
