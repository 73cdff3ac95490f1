-- What a peer says once, and what its connection says then.
use Rattle.std.proofs.Common.{◌≡◌, ℕ, Bool, true, false, List, [], ◌∷◌, ◌++◌, Option, Some, None, refl, sym, ap, ◌∙◌}
use Rattle.std.specs.Prelude.{option_map}
use Rattle.std.specs.Ordering.{nat_cmp}
use Rattle.std.specs.BTreeMap.{BTreeMap, WritesThrough}
use Rattle.hd_delivery.specs.Frames.{LinkFrame}
use Rattle.hd_delivery.specs.Histories.{Lent}
use Rattle.hd_delivery.specs.Due.{due}
use Rattle.hd_delivery.specs.Bytes.{Does as Step_of}
use Rattle.hd_calls.specs.Hubs.{Hub}
use Rattle.hd_calls.specs.Peers.{PeerEvent, Plain, Settings, codec, is_shut, steps}
use Rattle.hd_server.specs.Machine.{MachineEvent, moves}
use Rattle.hp_peer.specs.declared.peer.Peer.{Peer}
use Rattle.hp_peer.specs.Lending.{HasLent}
use Rattle.hp_peer.specs.Stands.{OfEach, Stands}
use Rattle.hub_machine.specs.declared.machine.Machine.{Machine}
use Rattle.hub_machine.specs.Machines.{OfConn, StandsMachine, idle_peer_at, peer_at, settings_there}
use Rattle.hub_machine.specs.Calls.{HasSaid, doing}
use Rattle.hub_machine.specs.PeerTraffic.{SaysOne}
use Rattle.hub_machine.specs.Traffic.{lends}
use Rattle.hub_machine.proofs.Ends.{goes_on, written}
use Rattle.hub_machine.proofs.Lags.{lags}
use Rattle.hub_machine.proofs.SaysSome.{shut_lends}

-- ---- the peer

module _ {H Job : Type 0} (hub : Hub Job) (t : Settings) (h : List PeerEvent) (p : Peer H Job) where
  -- nothing was due
  quiet : (o : Option LinkFrame) → o ≡ due t.config (steps t h) → (before : List ℕ) → None ≡ option_map (t.wire.spell (codec t h)) o
      → HasLent {H = H} hub t h p o → SaysOne {H = H} hub t h p false before before
  quiet None e before none lent = (sym e, refl, lent)
  quiet (Some f) e before none lent = absurd (cc)

  -- the frame that was due was said
  said : (o : Option LinkFrame) → o ≡ due t.config (steps t h) → (before bytes now : List ℕ) → now ≡ before ++ bytes
      → Some bytes ≡ option_map (t.wire.spell (codec t h)) o → HasLent {H = H} hub t h p o → SaysOne {H = H} hub t h p true before now
  said None e before bytes now appended some lent = absurd (cc)
  said (Some f) e before bytes now appended some lent =
      let text : bytes ≡ t.wire.spell (codec t h) f = cc in (f, sym e, appended ∙ ap (λ b. before ++ b) text, lent)

  pub says_none : (before : List ℕ) → None ≡ option_map (t.wire.spell (codec t h)) (due t.config (steps t h))
      → HasLent {H = H} hub t h p (due t.config (steps t h)) → SaysOne {H = H} hub t h p false before before
  says_none before none lent = quiet (due t.config (steps t h)) refl before none lent

  pub says_one : (before bytes now : List ℕ) → now ≡ before ++ bytes
      → Some bytes ≡ option_map (t.wire.spell (codec t h)) (due t.config (steps t h)) → HasLent {H = H} hub t h p (due t.config (steps t h))
      → SaysOne {H = H} hub t h p true before now
  says_one before bytes now appended some lent = said (due t.config (steps t h)) refl before bytes now appended some lent

-- ---- its connection

-- whether its end is closed, as its peer says
pub shut_there : {H Job : Type 0} (hub : Hub Job) (old : Machine H Job) (c : ℕ) (was p : Peer H Job) → Some was ≡ peer_at old c
    → (ps : BTreeMap ℕ (Peer H Job)) → WritesThrough nat_cmp (nat_cmp c) old.peers p ps → (over : Bool) → OfEach {H = H} hub p (λ t h. over ≡ is_shut t h)
    → OfConn {H = H} hub (record old { peers = ps }) c (λ w t h. over ≡ is_shut t h)
shut_there {H} {Job} hub old c was p at ps through over says w t s there =
    let l = lags {H = H} {Job = Job} hub (record old { peers = ps }) w c t p s there
    (sym (written {H = H} {Job = Job} old (record old { peers = ps }) c was p at through).at) in
    says t l.before l.stands ∙ sym l.same.shut

module _ {H Job : Type 0} (hub : Hub Job) (old : Machine H Job) (w : List MachineEvent) (c : ℕ) (t : Settings) (was p : Peer H Job)
    (s : StandsMachine {H = H} hub old w) (there : settings_there c w ≡ Some t) (at : Some was ≡ peer_at old c) (awake : idle_peer_at old c ≡ None)
    (ps : BTreeMap ℕ (Peer H Job)) (through : WritesThrough nat_cmp (nat_cmp c) old.peers p ps) where
  pub says : (more : Bool) (before now : List ℕ) → SaysOne {H = H} hub t (moves c w) p more before now
      → HasSaid {H = H} hub (record old { peers = ps }) c w t (moves c w) more before now
  says false before now one = (one.0, one.1, goes_on {H = H} {Job = Job} hub old w c t was p [] s there at awake ps through (λ h. one.2) refl)
  says true before now one = (
    one.0,
    one.1,
    one.2,
    goes_on {H = H} {Job = Job} hub old w c t was p (Plain (Step_of (Lent one.0)) ∷ []) s there at awake ps through (λ h. one.3) refl,
  )

  -- frames that are lent close no end
  pub lends_on : (frames : List LinkFrame) → Stands {H = H} hub t p (lends frames ++ moves c w)
      → StandsMachine {H = H} hub (record old { peers = ps }) (doing c (lends frames) w)
  lends_on frames stands =
      goes_on {H = H} {Job = Job} hub old w c t was p (lends frames) s there at awake ps through (λ h. stands) (shut_lends t (moves c w) frames)
