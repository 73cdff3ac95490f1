-- How often a message to many is spelled: the codecs that a machine tells of its peers are those that its happenings tell.
use Rattle.std.proofs.Common.{◌≡◌, ℕ, ◌+◌, ◌≤◌, Bool, true, ◌||◌, List, [], ◌∷◌, map, Option, refl, sym, ap, subst, ◌∙◌}
use Rattle.hv_value.specs.Tree.{Tree}
use Rattle.hm_message.specs.declared.message.Codec.{Codec}
use Rattle.hm_message.specs.declared.message.Codec.TheVariants.{Json, Pack}
use Rattle.hd_calls.specs.Hubs.{Hub}
use Rattle.hd_calls.specs.Peers.{Settings}
use Rattle.hd_server.specs.Machine.{MachineEvent, fates_among, moves}
use Rattle.hub_machine.specs.declared.machine.Machine.{Machine}
use Rattle.hub_machine.specs.MachineView.{AreUp, machine_view, is_up_in}
use Rattle.hub_machine.specs.Delivers.{codec_at}
use Rattle.hub_machine.specs.Machines.{StandsMachine, idle_peer_at, peer_at, settings_there}
use Rattle.hub_machine.specs.KeeperState.{spoken_at, spoken_to}
use Rattle.hub_machine.specs.Spreads.{codecs_among, is_in_codec, is_spoken, one_if}
use Rattle.hub_machine.proofs.Carry.{up_settings}
use Rattle.hub_machine.proofs.Deliver.{kept_codec}

-- ---- one connection

-- one that is up is spoken to as its moves tell
codec_so : {H Job : Type 0} (hub : Hub Job) (m : Machine H Job) (r : List MachineEvent) (c : ℕ) → StandsMachine {H = H} hub m r
    → is_up_in (machine_view r) c ≡ true → codec_at {H = H} m c ≡ spoken_at c r
codec_so {H} {Job} hub m r c s up =
    kept_codec {H = H} {Job = Job} hub m.idle_set.clock (idle_peer_at m c) (settings_there c r) (moves c r) (peer_at m c) (s.at c)
    ∙ ap (λ (o : Option Settings). spoken_to o (moves c r)) (up_settings r c up)

-- ---- all members

-- a codec is that of one of them, by the machine as by its happenings
spoken_so : {H Job : Type 0} (hub : Hub Job) (m : Machine H Job) (r : List MachineEvent) (codec : Codec) (cs : List ℕ) → StandsMachine {H = H} hub m r
    → AreUp (machine_view r) cs → is_spoken codec (codec_at {H = H} m) cs ≡ is_spoken codec (λ k. spoken_at k r) cs
spoken_so hub m r codec [] s up = refl
spoken_so {H} {Job} hub m r codec (c ∷ cs) s up =
    ap (λ (o : Option Codec). is_in_codec codec o || is_spoken codec (codec_at {H = H} m) cs) (codec_so {H = H} {Job = Job} hub m r c s up.0)
    ∙ ap (λ (b : Bool). is_in_codec codec (spoken_at c r) || b) (spoken_so {H = H} {Job = Job} hub m r codec cs s up.1)

-- there are as many codecs among them
codecs_so : {H Job : Type 0} (hub : Hub Job) (m : Machine H Job) (r : List MachineEvent) (cs : List ℕ) → StandsMachine {H = H} hub m r
    → AreUp (machine_view r) cs → codecs_among (codec_at {H = H} m) cs ≡ codecs_among (λ k. spoken_at k r) cs
codecs_so {H} {Job} hub m r cs s up =
    ap (λ (b : Bool). one_if b + one_if (is_spoken Pack (codec_at {H = H} m) cs)) (spoken_so {H = H} {Job = Job} hub m r Json cs s up)
    ∙ ap (λ (b : Bool). one_if (is_spoken Json (λ k. spoken_at k r) cs) + one_if b) (spoken_so {H = H} {Job = Job} hub m r Pack cs s up)

-- those that have a fate are those to which it goes
fates_to : (cs : List ℕ) (target : List ℕ) (arguments : List Tree) (r : List MachineEvent) → map (λ f. f.0) (fates_among cs target arguments r) ≡ cs
fates_to [] target arguments r = refl
fates_to (c ∷ cs) target arguments r = ap (λ (ks : List ℕ). c ∷ ks) (fates_to cs target arguments r)

-- so no more is spelled than once for each codec among them
pub spelled_so : {H Job : Type 0} (hub : Hub Job) (m : Machine H Job) (r : List MachineEvent) (before now : ℕ) (cs to : List ℕ) (target : List ℕ)
    (arguments : List Tree) → StandsMachine {H = H} hub m r → AreUp (machine_view r) to → cs ≡ to → now ≤ before + codecs_among (codec_at {H = H} m) cs
    → now ≤ before + codecs_among (λ k. spoken_at k r) (map (λ f. f.0) (fates_among to target arguments r))
spelled_so {H} {Job} hub m r before now cs to target arguments s up are cost =
    subst (λ (ks : List ℕ). now ≤ before + codecs_among (λ k. spoken_at k r) ks) (sym (fates_to to target arguments r))
    (subst (λ (n : ℕ). now ≤ before + n) (codecs_so {H = H} {Job = Job} hub m r to s up)
    (subst (λ (ks : List ℕ). now ≤ before + codecs_among (codec_at {H = H} m) ks) are cost))
