-- A job that is told what came of its deed, by the peer of its connection.
use Rattle.std.proofs.Common.{◌≡◌, ℕ, suc, List, ◌∷◌, Option, Some, None, Result, Ok, Err, OnErr, OnOk, refl, sym, subst, ◌∙◌}
use Rattle.hd_calls.specs.declared.vocabulary.Input.{Input}
use Rattle.hd_calls.specs.Hubs.{Hub}
use Rattle.hd_calls.specs.Peers.{PeerEvent, Answers, Settings}
use Rattle.hd_calls.specs.Rules.{MayAnswer}
use Rattle.hg_groups.specs.Standing.{StandsRegistry}
use Rattle.hp_peer.specs.declared.peer.Peer.{Peer}
use Rattle.hp_peer.specs.Stands.{OfEach, Stands}
use Rattle.hp_peer.specs.Turning.{HasAnswered, IsUnanswerable}
use Rattle.hub_machine.specs.declared.machine.Machine.{Machine}
use Rattle.hub_machine.specs.declared.idle_set.IdleClock.{IdleClock}
use Rattle.hub_machine.specs.declared.idle_set.IdlePeer.{IdlePeer}
use Rattle.hub_machine.specs.MachineView.{MachineView, StandsFor, moved}
use Rattle.hub_machine.specs.Carrying.{AnswersAt}
use Rattle.hub_machine.specs.Machines.{IsKeptAs, idle_peer_at, peer_at}
use Rattle.hub_machine.proofs.Deliver.{changes_here, has_peer, is_its_peer, moved_here, stands_at}
use Rattle.hub_machine.proofs.Doing.{KeepsIdleSet, PutsPeer, idle_peer_stays}

-- the peer takes an answer that it may be given
pub takes_answer : {H Job E : Type 0} (hub : Hub Job) (p q : Peer H Job) (number j : ℕ) (i : Input) (result : Result (Unit {0}) E) → number ≡ suc j
    → OnOk result (OfEach {H = H} hub p (λ t h. HasAnswered {H = H} hub t h q number i))
    → OnErr result (OfEach {H = H} hub p (λ t h. IsUnanswerable t h number i))
    → (t : Settings) (h : List PeerEvent) → Stands {H = H} hub t p h → MayAnswer t j i h → Stands {H = H} hub t q (Answers j i ∷ h)
takes_answer {H} hub p q number j i (Ok v) n ok unknown t h s may =
    let x = ok t h s in
    let is_number : suc x.job ≡ suc j = sym x.number_is ∙ n in
    let is_job : x.job ≡ j = cc in
    subst (λ k. Stands {H = H} hub t q (Answers k i ∷ h)) is_job x.stands
takes_answer hub p q number j i (Err e) n ok unknown t h s may = absurd (unknown t h s j n may)

-- the machine stands for the answer, if the peer of its connection does
pub answer_stands : {H Job : Type 0} (hub : Hub Job) (old new : Machine H Job) (c j : ℕ) (i : Input) (p q : Peer H Job) (a : MachineView)
    → StandsFor {H = H} hub old a → idle_peer_at old c ≡ None → KeepsIdleSet {H = H} old new → Some p ≡ peer_at old c → PutsPeer {H = H} old new c q
    → new.registry ≡ old.registry → AnswersAt (a.settings c) j i (a.moves c)
    → ((t : Settings) (h : List PeerEvent) → Stands {H = H} hub t p h → MayAnswer t j i h → Stands {H = H} hub t q (Answers j i ∷ h))
    → StandsFor {H = H} hub new (moved c (Answers j i) a)
answer_stands {H} {Job} hub old new c j i p q a s awake keeps was puts kept may takes =
    let m = Answers j i in
    let x = has_peer {H = H} {Job = Job} hub old a c p s awake (sym was) in
    let may_here = subst (λ o. AnswersAt o j i (a.moves c)) x.are may in
    stands_at {H = H} {Job = Job} hub old new c a (moved c m a) s keeps (changes_here c m a a.lists) puts.others
    (is_its_peer {H = H} {Job = Job} hub new c (a.settings c) x.settings ((moved c m a).moves c) q
    (idle_peer_stays {H = H} {Job = Job} old new c keeps.idle_set ∙ awake) x.are puts.at
    (subst (λ h. Stands {H = H} hub x.settings q h) (sym (moved_here c m a)) (takes x.settings (a.moves c) x.stands may_here)))
    (subst (λ r. StandsRegistry r a.lists) (sym kept) s.registry)

-- where there is no peer nothing is remembered of a connection's moves
unremembered : {H Job : Type 0} (hub : Hub Job) (clock : IdleClock) (idle_peer : Option IdlePeer) (o : Option Settings) (g h : List PeerEvent) (p : Option (Peer H Job)) → None ≡ p
    → IsKeptAs {H = H} hub clock idle_peer o g p → IsKeptAs {H = H} hub clock idle_peer o h p
unremembered hub clock None None g h None e x = x
unremembered hub clock None (Some t) g h None e x = absurd x
unremembered hub clock (Some idle_peer) None g h None e x = absurd x
unremembered hub clock (Some idle_peer) (Some t) g h None e x = absurd x
unremembered {H} {Job} hub clock idle_peer o g h (Some p) e x = absurd (let z : ◌≡◌ {A = Option (Peer H Job)} None (Some p) = e in cc)

-- so the machine stands for any answer there
pub answer_unheard : {H Job : Type 0} (hub : Hub Job) (m : Machine H Job) (c j : ℕ) (i : Input) (a : MachineView) → StandsFor {H = H} hub m a
    → None ≡ peer_at m c → StandsFor {H = H} hub m (moved c (Answers j i) a)
answer_unheard {H} {Job} hub m c j i a s none =
    let b = moved c (Answers j i) a in
    stands_at {H = H} {Job = Job} hub m m c a b s (record { idle_set = refl; count = refl; there = λ k. refl })
    (changes_here c (Answers j i) a a.lists) (λ k e. refl)
    (unremembered {H = H} {Job = Job} hub m.idle_set.clock (idle_peer_at m c) (a.settings c) (a.moves c) (b.moves c) (peer_at m c) none (s.at c)) s.registry
