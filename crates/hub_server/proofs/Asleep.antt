-- Of a connection that sleeps, as a server stands for it: its end is open, nothing is due on its link, and it says nothing.
use Rattle.std.proofs.Common.{◌≡◌, ℕ, ◌+◌, Bool, true, false, not, ◌&&◌, List, [], ◌∷◌, ◌++◌, Option, Some, None, is_some, filter, inl}
use Rattle.std.proofs.Common.{refl, sym, ap, ◌∙◌, true≢false}
use Rattle.std.specs.Prelude.{if◌then◌else◌, nat_le}
use Rattle.std.proofs.lemmas.Bool.{both_ways, false_from_ne_true}
use Rattle.hd_delivery.specs.Due.{due}
use Rattle.hd_delivery.specs.Frames.{LinkFrame}
use Rattle.hd_delivery.specs.Histories as of
use Rattle.hd_calls.specs.Hubs.{Hub}
use Rattle.hd_calls.specs.Peers.{Settings, is_shut, steps}
use Rattle.hd_server.specs.Numbers.{held_for}
use Rattle.hd_server.specs.Lives.{ended_at, is_polling, numbers_to, poll_of, socket_of}
use Rattle.hd_server.specs.Machine.{MachineEvent, greatest, is_there, moves}
use Rattle.hd_server.specs.Doings.{ServerEvent, Notes, config_of, has_closed, has_peer, history, moment, notes, work}
use Rattle.hd_server.specs.Lives.{Answered, Ended}
use Rattle.hd_server.specs.Plans.{Setup, bare_reply, removing_conn, replying, shutting}
use Rattle.hd_server.specs.Serves.{AreAllDue, AreDueBy, AreDueOn, all_flushing, ending, flushing, flushing_on, flushing_some_poll, is_withheld}
use Rattle.hp_peer.specs.declared.peer.Peer.{Peer}
use Rattle.hub_machine.specs.declared.machine.Machine.{Machine}
use Rattle.hub_machine.specs.declared.idle_set.IdlePeer.{IdlePeer}
use Rattle.hub_machine.specs.Laws.{ConnectionsAreNumbered}
use Rattle.hub_machine.specs.Machines.{IsKeptAs, MaySleep, Sleeps, StandsMachine, is_awake_at, idle_peer_at, peer_at, settings_there}
use Rattle.hub_machine.specs.Rounds.{AreNumbers}
use Rattle.hub_server.specs.Servers.{IsRested}
use Rattle.hub_machine.specs.Spreads.{is_listed}
use Rattle.hub_server.proofs.Conns.{here_by_peer, listed_filter, rising_to, same_rising, there_within}
use Rattle.hub_server.proofs.FlushSaid.{up_there}
use Rattle.hub_server.proofs.TickSteps.{IsBegun, begun_here}

-- ---- one that sleeps

pub record IsAsleep {H Job : Type 0} (m : Machine H Job) (c : ℕ) (w : List MachineEvent) : Type 0 where
  pub idle_peer : IdlePeer
  pub settings : Settings
  pub idle_peers : idle_peer_at m c ≡ Some idle_peer
  pub there : settings_there c w ≡ Some settings
  pub may : MaySleep m.idle_set.clock idle_peer.deadline settings (moves c w)

pub asleep : {H Job : Type 0} (hub : Hub Job) (m : Machine H Job) (w : List MachineEvent) (c : ℕ) → StandsMachine {H = H} hub m w
    → is_some (idle_peer_at m c) ≡ true → IsAsleep {H = H} m c w
asleep {H} {Job} hub m w c s e = by (idle_peer_at m c) refl (settings_there c w) refl (peer_at m c) e (s.at c)
  where
    by : (o : Option IdlePeer) → idle_peer_at m c ≡ o → (t : Option Settings) → settings_there c w ≡ t → (p : Option (Peer H Job)) → is_some o ≡ true
        → IsKeptAs {H = H} hub m.idle_set.clock o t (moves c w) p → IsAsleep {H = H} m c w
    by None f t g p e is = absurd (true≢false (sym e))
    by (Some idle_peer) f None g p e is = absurd is
    by (Some idle_peer) f (Some t) g None e is = absurd is
    by (Some idle_peer) f (Some t) g (Some p) e is = let z : Sleeps {H = H} hub m.idle_set.clock idle_peer t p (moves c w) = is in
        record { idle_peer = idle_peer; settings = t; idle_peers = f; there = g; may = z.may }

-- whoever is there and isn't awake sleeps
pub not_awake : {H Job : Type 0} (hub : Hub Job) (m : Machine H Job) (w : List MachineEvent) (c : ℕ) → StandsMachine {H = H} hub m w
    → is_there c w ≡ true → is_awake_at m c ≡ false → is_some (idle_peer_at m c) ≡ true
not_awake {H} {Job} hub m w c s there e =
    by (is_some (peer_at m c)) (is_some (idle_peer_at m c)) (sym (here_by_peer {H = H} {Job = Job} hub m w s c) ∙ there) e
  where
    by : (a b : Bool) → a ≡ true → (a && not b) ≡ false → b ≡ true
    by true true f g = refl
    by true false f g = absurd (true≢false g)
    by false b f g = absurd (true≢false (sym f))

-- and whoever is awake is there
pub awake_there : {H Job : Type 0} (hub : Hub Job) (m : Machine H Job) (w : List MachineEvent) (c : ℕ) → StandsMachine {H = H} hub m w
    → is_awake_at m c ≡ true → is_there c w ≡ true
awake_there {H} {Job} hub m w c s e = here_by_peer {H = H} {Job = Job} hub m w s c ∙ by (is_some (peer_at m c)) (not (is_some (idle_peer_at m c))) e
  where
    by : (a b : Bool) → (a && b) ≡ true → a ≡ true
    by true b f = refl
    by false b f = f

-- those that are numbered are the awake ones of all numbers
pub awake_are : {H Job : Type 0} → ConnectionsAreNumbered → (hub : Hub Job) (m : Machine H Job) (w : List MachineEvent) (conns : List ℕ)
    → StandsMachine {H = H} hub m w → AreNumbers {H = H} m conns → conns ≡ filter (λ k. is_awake_at m k) (numbers_to (greatest w))
awake_are {H} {Job} law hub m w conns s numbers =
    same_rising conns (filter (λ k. is_awake_at m k) (numbers_to (greatest w))) numbers.rise (rising_to (λ k. is_awake_at m k) (greatest w))
    (λ c. sym (numbers.are c) ∙ by c (is_awake_at m c) refl ∙ sym (listed_filter (λ k. is_awake_at m k) c (numbers_to (greatest w))))
  where
    by : (c : ℕ) (b : Bool) → is_awake_at m c ≡ b → is_awake_at m c ≡ (is_awake_at m c && is_listed c (numbers_to (greatest w)))
    by c true e =
        e ∙ sym (sym (ap (λ b. b && is_listed c (numbers_to (greatest w))) (there ∙ sym e)) ∙ there_within law w s.from_one c ∙ there)
      where
        there : is_there c w ≡ true
        there = awake_there {H = H} {Job = Job} hub m w c s e
    by c false e = e ∙ ap (λ b. b && is_listed c (numbers_to (greatest w))) (sym e)

-- ---- it says nothing

-- nothing is due on the connection, and nothing is said
pub record IsMute (s : Setup) (c : ℕ) (h : List ServerEvent) : Type 0 where
  pub due : AreDueOn s c (socket_of c (notes h)) (poll_of c (notes h)) [] h
  pub silent : flushing s (moment h) c [] h ≡ []
  pub rested : IsRested c h

neither : {A : Type 0} (b : Bool) (xs : List A) → b ≡ false → (if b then xs else []) ≡ []
neither b xs e = ap (λ d. if d then xs else []) e

-- one that sleeps is mute, unless its poll was held for as long as it may be
pub mute_asleep : {H Job : Type 0} (s : Setup) (m : Machine H Job) (c : ℕ) (h : List ServerEvent) → IsAsleep {H = H} m c (work h) → has_peer c h ≡ true
    → ((lane since : ℕ) → poll_of c (notes h) ≡ Some (lane, since) → nat_le (since + held_for) (moment h) ≡ false) → IsMute s c h
mute_asleep s m c h z there held = record {
  due = due_by (socket_of c (notes h)) (poll_of c (notes h));
  silent = silent_by (socket_of c (notes h));
  rested = λ at quiet. up_there c h at closed;
}
  where
    is : IsBegun c h
    is = begun_here c h there

    same : is.settings ≡ z.settings
    same = let e : ◌≡◌ {A = Option Settings} (Some is.settings) (Some z.settings) = sym is.there ∙ z.there in cc

    closed : has_closed c h ≡ false
    closed =
        ap (λ k. of.is_closed k (history c h)) is.config_is ∙ ap (λ k. of.is_closed is.settings.config k) is.history_is
        ∙ ap (λ (t : Settings). is_shut t (moves c (work h))) same ∙ (let may = z.may in may.unshut)

    none : due (config_of c h) (history c h) ≡ None
    none =
        ap (λ k. due k (history c h)) is.config_is ∙ ap (λ k. due is.settings.config k) is.history_is
        ∙ ap (λ (t : Settings). due t.config (steps t (moves c (work h)))) same ∙ (let may = z.may in may.unsaid)

    -- whether its lane is full or not
    either_way : (b : Bool) → AreDueBy b c [] h
    either_way true = refl
    either_way false = (tt, none)

    due_by : (o : Option ℕ) (p : Option (ℕ × ℕ)) → AreDueOn s c o p [] h
    due_by (Some lane) p = either_way (is_withheld c lane h)
    due_by None (Some p) = inl none
    due_by None None = refl

    poll_by : (p : Option (ℕ × ℕ)) → poll_of c (notes h) ≡ p → flushing_some_poll s (moment h) c p [] h ≡ []
    poll_by None e = refl
    poll_by (Some p) e =
        ap (λ (b : Bool). if b then replying p.0 (bare_reply 204) h ++ removing_conn c h
        else (if nat_le (p.1 + held_for) (moment h) then replying p.0 (bare_reply 200) h ++ Notes (Answered c p.0 (moment h)) ∷ [] else [])) closed
        ∙ neither (nat_le (p.1 + held_for) (moment h)) (replying p.0 (bare_reply 200) h ++ Notes (Answered c p.0 (moment h)) ∷ []) (held p.0 p.1 e)

    unending : ending (moment h) c h ≡ []
    unending = ap (λ (b : Bool). if b && not (is_some (ended_at c (notes h))) then Notes (Ended c (moment h)) ∷ [] else []) closed

    either : (b : Bool) (xs ys : List ServerEvent) → xs ≡ [] → ys ≡ [] → (if b then xs else ys) ≡ []
    either true xs ys e f = e
    either false xs ys e f = f

    silent_by : (o : Option ℕ) → flushing_on s (moment h) c o [] h ≡ []
    silent_by (Some lane) = neither (has_closed c h) (shutting lane h ++ removing_conn c h) closed
    silent_by None =
        either (is_polling c (notes h)) (ending (moment h) c h ++ flushing_some_poll s (moment h) c (poll_of c (notes h)) [] h)
        (if has_closed c h then removing_conn c h else [])
        (ap (λ (xs : List ServerEvent). xs ++ flushing_some_poll s (moment h) c (poll_of c (notes h)) [] h) unending
        ∙ poll_by (poll_of c (notes h)) refl)
        (neither (has_closed c h) (removing_conn c h) closed)

-- of one that would be awake if its poll was held for as long as it may be
pub not_held : {H Job : Type 0} (m : Machine H Job) (c : ℕ) (h : List ServerEvent) → IsAsleep {H = H} m c (work h) → (since : ℕ)
    → (nat_le (since + held_for) (moment h) ≡ true → idle_peer_at m c ≡ None) → nat_le (since + held_for) (moment h) ≡ false
not_held m c h z since awake =
    false_from_ne_true (nat_le (since + held_for) (moment h))
    (λ late. let no : ◌≡◌ {A = Option IdlePeer} None (Some z.idle_peer) = sym (awake late) ∙ z.idle_peers in cc)

-- ---- all that is said

-- the same is said where those that are mute say it too
pub record SaidByAll (s : Setup) (h : List ServerEvent) (all some : List ℕ) (pieces : List (List (List LinkFrame))) : Type 0 where
  pub whole : List (List (List LinkFrame))
  pub due : AreAllDue s all whole h
  pub same : all_flushing s (moment h) all whole h ≡ all_flushing s (moment h) some pieces h

pub said_by_all : (s : Setup) (h : List ServerEvent) (q p : ℕ → Bool) (cs : List ℕ) (pieces : List (List (List LinkFrame)))
    → ((k : ℕ) → p k ≡ true → q k ≡ true) → ((k : ℕ) → q k ≡ true → p k ≡ false → IsMute s k h) → AreAllDue s (filter p cs) pieces h
    → SaidByAll s h (filter q cs) (filter p cs) pieces
said_by_all s h q p [] [] among mute x = record { whole = []; due = tt; same = refl }
said_by_all s h q p [] (x ∷ pieces) among mute y = absurd y
said_by_all s h q p (c ∷ cs) pieces among mute x =
    by (q c) refl (p c) refl pieces x (λ more y. said_by_all s h q p cs more among mute y)
  where
    by : (a : Bool) → q c ≡ a → (b : Bool) → p c ≡ b → (pieces : List (List (List LinkFrame)))
        → AreAllDue s (if b then c ∷ filter p cs else filter p cs) pieces h
        → ((more : List (List (List LinkFrame))) → AreAllDue s (filter p cs) more h → SaidByAll s h (filter q cs) (filter p cs) more)
        → SaidByAll s h (if a then c ∷ filter q cs else filter q cs) (if b then c ∷ filter p cs else filter p cs) pieces
    by true e true f [] y rest = absurd y
    by true e true f (one ∷ more) y rest = let r = rest more y.1 in record {
      whole = one ∷ r.whole;
      due = (y.0, r.due);
      same = ap (λ (xs : List ServerEvent). flushing s (moment h) c one h ++ xs) r.same;
    }
    by true e false f pieces y rest = let r = rest pieces y in let silence : IsMute s c h = mute c e f in record {
      whole = [] ∷ r.whole;
      due = (silence.due, r.due);
      same = ap (λ (xs : List ServerEvent). xs ++ all_flushing s (moment h) (filter q cs) r.whole h) silence.silent ∙ r.same;
    }
    by false e true f pieces y rest = absurd (both_ways (q c) e (among c f))
    by false e false f pieces y rest = let r = rest pieces y in record { whole = r.whole; due = r.due; same = r.same }
