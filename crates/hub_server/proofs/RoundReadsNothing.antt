-- What comes in a round reads nothing: no end takes a frame by it, and no message comes to wait.
use Rattle.std.proofs.Common.{◌≡◌, ℕ, ◌==◌, Bool, true, false, List, [], ◌∷◌, ◌++◌, Option, Some, None, is_some, refl, sym, ap, subst, ◌∙◌}
use Rattle.std.proofs.Common.{true≢false}
use Rattle.std.specs.Prelude.{if◌then◌else◌, option_map}
use Rattle.hm_message.specs.declared.message.Message.{Message}
use Rattle.hd_delivery.specs.declared.vocabulary.Reason.TheVariants.{Slow}
use Rattle.hd_delivery.specs.Histories.{Config, Sent}
use Rattle.hd_delivery.specs.Bytes.{Wire, ByteStep, Does as Step_of, in_frames}
use Rattle.hd_calls.specs.declared.vocabulary.Deed.{Deed}
use Rattle.hd_calls.specs.declared.vocabulary.Input.{Input}
use Rattle.hd_calls.specs.Hubs.{Invoked, message_of}
use Rattle.hd_calls.specs.Peers.{PeerEvent, Plain, Calls, Runs, Answers, Refuses, Settings, add, answer_of, byte_steps, codec, message_for, steps, waiting}
use Rattle.hd_calls.specs.Peers as peers
use Rattle.hd_calls.specs.Rules.{settles}
use Rattle.hd_server.specs.Machine.{MachineEvent, Does, Rounds, Carries, DeliveryOutcome, Got, TooSlow, PassedOver, Owed, NothingOwed, OwesDeed, OwesCall, GoesOn}
use Rattle.hd_server.specs.Machine.{MayFollow}
use Rattle.hd_server.specs.Machine.{answer_to, outcome_in, is_there, moves, notice_of, notifies, owed, settings_of, with_fate}
use Rattle.hd_server.specs.Doings.{config_with, history_with}
use Rattle.hub_server.proofs.Calm.{Leaves, leaves_closed, leaves_same, leaves_sent, leaves_then}

-- ---- the moves of one peer

-- a move of a round, but for that of a member that is too slow
abbrev pub IsQuietMove : PeerEvent → Type 0
IsQuietMove (Calls asker number call) = Unit {0}
IsQuietMove (Runs j call since turn what) = Unit {0}
IsQuietMove (Answers j input) = Unit {0}
IsQuietMove (Refuses j) = Unit {0}
IsQuietMove peers.Rounds = Unit {0}
IsQuietMove _ = ⊥

-- moves of a peer, begun or not, that read nothing
pub record Quietly (s : Option Settings) (last : ℕ) (g h : List PeerEvent) : Type 0 where
  pub waits : waiting g ≡ waiting h
  pub left : Leaves (config_with s) last (history_with s g) (history_with s h)

pub quietly_same : (s : Option Settings) (last : ℕ) (h : List PeerEvent) → Quietly s last h h
quietly_same s last h = record { waits = refl; left = leaves_same (config_with s) last (history_with s h) }

pub quietly_then : (s : Option Settings) (last : ℕ) (f g h : List PeerEvent) → Quietly s last f g → Quietly s last g h → Quietly s last f h
quietly_then s last f g h a b = record {
  waits = a.waits ∙ b.waits;
  left = leaves_then (config_with s) last (history_with s f) (history_with s g) (history_with s h) a.left b.left;
}

-- a message is sent, or none
sends : (wire : Wire) (c : Config) (last : ℕ) (o : Option Message) (h : List ByteStep)
    → Leaves c last (in_frames wire c (add (option_map (λ m. Step_of (Sent m)) o) h)) (in_frames wire c h)
sends wire c last None h = leaves_same c last (in_frames wire c h)
sends wire c last (Some m) h = leaves_sent c last (in_frames wire c h) m

leaves_move : (t : Settings) (last : ℕ) (m : PeerEvent) (h : List PeerEvent) → IsQuietMove m → Leaves t.config last (steps t (m ∷ h)) (steps t h)
leaves_move t last (Calls asker number call) h q = leaves_sent t.config last (steps t h) (message_of call)
leaves_move t last (Runs j call since turn what) h q =
    sends t.wire t.config last (message_for call.way (answer_of t (codec t h) call.way what)) (byte_steps t h)
leaves_move t last (Answers j input) h q = leaves_same t.config last (steps t h)
leaves_move t last (Refuses j) h q = leaves_same t.config last (steps t h)
leaves_move t last peers.Rounds h q = leaves_same t.config last (steps t h)
leaves_move t last m h q = absurd q

waits_on : (m : PeerEvent) (h : List PeerEvent) → IsQuietMove m → waiting (m ∷ h) ≡ waiting h
waits_on (Calls asker number call) h q = refl
waits_on (Runs j call since turn what) h q = refl
waits_on (Answers j input) h q = refl
waits_on (Refuses j) h q = refl
waits_on peers.Rounds h q = refl
waits_on m h q = absurd q

pub quiet_move : (s : Option Settings) (last : ℕ) (m : PeerEvent) (h : List PeerEvent) → IsQuietMove m → Quietly s last (m ∷ h) h
quiet_move None last m h q = record { waits = waits_on m h q; left = leaves_same (config_with None) last [] }
quiet_move (Some t) last m h q = record { waits = waits_on m h q; left = leaves_move t last m h q }

-- a member's part in a broadcast
notified : (s : Option Settings) (last : ℕ) (o : Option Invoked) (h : List PeerEvent) → Quietly s last (notifies o h) h
notified s last None h = quietly_same s last h
notified s last (Some call) h = quiet_move s last (Calls None 0 call) h tt

quiet_fate : (d : Deed) (s : Option Settings) (last : ℕ) (fate : Option DeliveryOutcome) (h : List PeerEvent) → Quietly s last (with_fate d s fate h) h
quiet_fate d (Some t) last (Some Got) h = notified (Some t) last (notice_of (codec t h) d) h
quiet_fate d (Some t) last (Some TooSlow) h = record { waits = refl; left = leaves_closed t.config last (steps t h) Slow false }
quiet_fate d (Some t) last (Some PassedOver) h = quietly_same (Some t) last h
quiet_fate d (Some t) last None h = quietly_same (Some t) last h
quiet_fate d None last fate h = quietly_same None last h

-- ---- happenings

abbrev pub IsQuiet : MachineEvent → Type 0
IsQuiet (Does c m) = IsQuietMove m
IsQuiet (Rounds now) = Unit {0}
IsQuiet (Carries c j d fates asked) = Unit {0}
IsQuiet _ = ⊥

abbrev pub AreQuiet : List MachineEvent → Type 0
AreQuiet [] = Unit {0}
AreQuiet (x ∷ xs) = IsQuiet x × AreQuiet xs

-- one way or the other
either : (s : Option Settings) (last : ℕ) (b : Bool) (f g h : List PeerEvent) → Quietly s last f h → Quietly s last g h
    → Quietly s last (if b then f else g) h
either s last true f g h x y = x
either s last false f g h x y = y

-- a move, or none
at_one : (s : Option Settings) (last : ℕ) (b : Bool) (m : PeerEvent) (h : List PeerEvent) → IsQuietMove m → Quietly s last (if b then m ∷ h else h) h
at_one s last b m h q = either s last b (m ∷ h) h h (quiet_move s last m h q) (quietly_same s last h)

-- a deed is carried out
carried : (s : Option Settings) (last : ℕ) (b : Bool) (j : ℕ) (d : Deed) (fate : Option DeliveryOutcome) (input : Input) (h : List PeerEvent)
    → Quietly s last (if b then Answers j input ∷ with_fate d s fate h else with_fate d s fate h) h
carried s last b j d fate input h = either s last b (Answers j input ∷ with_fate d s fate h) (with_fate d s fate h) h
    (quietly_then s last (Answers j input ∷ with_fate d s fate h) (with_fate d s fate h) h
    (quiet_move s last (Answers j input) (with_fate d s fate h) tt) (quiet_fate d s last fate h))
    (quiet_fate d s last fate h)

pub quiet_at : (s : Option Settings) (last c : ℕ) (x : MachineEvent) (w : List MachineEvent) → settings_of c w ≡ s → IsQuiet x
    → Quietly s last (moves c (x ∷ w)) (moves c w)
quiet_at s last c (Does k m) w e q = at_one s last (c == k) m (moves c w) q
quiet_at s last c (Rounds now) w e q = at_one s last (is_there c w) peers.Rounds (moves c w) tt
quiet_at s last c (Carries k j d fates asked) w e q =
    subst (λ o. let told = with_fate d o (outcome_in c fates) (moves c w) in
    Quietly s last (if c == k then Answers j (answer_to k d asked w) ∷ told else told) (moves c w))
    (sym e) (carried s last (c == k) j d (outcome_in c fates) (answer_to k d asked w) (moves c w))
quiet_at s last c x w e q = absurd q

-- ---- what comes in a round

none_some : (j : ℕ) → None ≡ Some j → ⊥
none_some j e = true≢false (sym (ap is_some e))

-- what settles an ask
settling : (m : PeerEvent) (j : ℕ) → settles m ≡ Some j → IsQuietMove m
settling (Calls asker number call) j e = tt
settling (Refuses k) j e = tt
settling (Runs k call since turn what) j e = tt
settling (Answers k input) j e = tt
settling peers.Rounds j e = tt
settling (Plain step) j e = absurd (none_some j e)
settling (peers.Uploads number which answer) j e = absurd (none_some j e)
settling (peers.Cancels number) j e = absurd (none_some j e)
settling (peers.Reads m) j e = absurd (none_some j e)
settling (peers.Handles m effect) j e = absurd (none_some j e)
settling (peers.Loses number) j e = absurd (none_some j e)

follows_quietly : (now : ℕ) (o : Owed) (h : List MachineEvent) (x : MachineEvent) → MayFollow now o h x → IsQuiet x
follows_quietly now (OwesDeed c j d) h x p = subst IsQuiet (sym p.2) tt
follows_quietly now (OwesCall c j) h x p = subst IsQuiet (sym p.2) (settling p.0 j p.1)
follows_quietly now NothingOwed h x p = subst IsQuiet (sym p.9) tt

pub round_is_quiet : (now : ℕ) (xs h : List MachineEvent) → GoesOn now xs h → AreQuiet xs
round_is_quiet now [] h p = tt
round_is_quiet now (x ∷ xs) h p = (follows_quietly now (owed (xs ++ h)) (xs ++ h) x p.1, round_is_quiet now xs h p.0)
