-- The calls of a door over wires, one by one, as steps from one state to another.
use Rattle.std.proofs.Common.{◌≡◌, ◌==◌, ◌||◌, ◌++◌, ◌∷◌, [], ℕ, Bool, true, false, List, Option, Result, Ok, Err, IfOk, IfErr, OnOk, OnErr, refl, sym, ap, ◌∙◌, subst, is_err, option_to_list}
use Rattle.hd_facts.specs.Counts.{Rose}
use Rattle.hw_lanes.specs.declared.http.Reply.{Reply}
use Rattle.hw_door.specs.declared.error.DoorError.{DoorError}
use Rattle.hw_door.specs.declared.error.DoorError.TheVariants.{Failed, NoMemory}
use Rattle.hw_door.specs.declared.heard.Given.{Given}
use Rattle.hw_door.specs.declared.heard.Given.TheVariants as say
use Rattle.hw_door.specs.declared.heard.Heard.{Heard}
use Rattle.hw_door.specs.DoorCalls.{Chain, heard_call, given_call, sent_call, failed, to_say, flushed}
use Rattle.hw_door.specs.Traffic.{Answer}
use Rattle.hw_net.specs.declared.door.NetDoor.{NetDoor}
use Rattle.hw_net.specs.Chains.{SendsAs, CallsNet, is_there, is_owed_at, is_live_at}
use Rattle.hw_net.specs.Door.{IsNumbered, KeepsLanes, DoesAt, state_of, kept, is_full_at}
use Rattle.hw_net.specs.Flushing.{FailsGathered, FlushesDoor, HaltsGathered, HearsGathered}
use Rattle.hw_net.specs.Lane.{Lane, wires_of}
use Rattle.hw_net.specs.Trace.{Tells, Chooses}
use Rattle.hw_net.specs.Turn.{AtLane, Replies, Sends, Shuts}
use Rattle.hw_net.proofs.Telling.{tells-none}

-- ---- what is heard

-- the lanes are kept in a call that first gathers, and at last writes what waits
pub keeps-on : (a b c d : ℕ) (first gathered heard last : List Lane) → b ≡ a → wires_of (kept gathered) ≡ wires_of (kept first) → KeepsLanes b c gathered heard → d ≡ c →
    wires_of last ≡ wires_of heard → KeepsLanes a d first last
keeps-on a b c d first gathered heard last e f h k l = (
  h.0,
  l ∙ h.1 ∙ ap (λ w. w ++ option_to_list h.0) f,
  subst (λ n. IsNumbered n d h.0) e (subst (λ n. IsNumbered b n h.0) (sym k) h.2),
)

pub hears-goes : {W : Type 0} (trace : W → Option (List Answer)) (bound faults : W → ℕ) (wait : ℕ) (result : Result Heard DoorError) (old new : NetDoor W) → is_err result ≡ false →
    IfOk result (λ what. (answers : List Answer) × Tells (trace old.wires) (trace new.wires) answers × HearsGathered wait old.gathering (state_of old) (state_of new) answers what new.gathering) →
    KeepsLanes (bound old.wires) (bound new.wires) old.lanes.items new.lanes.items → Chain (CallsNet trace bound faults) old (heard_call wait result ∷ []) new
hears-goes trace bound faults wait (Ok what) old new e h keeps = (new, (h.0, h.1, (h.2, keeps)), refl)
hears-goes trace bound faults wait (Err why) old new e h keeps = absurd (cc e)

pub fails-goes : {W : Type 0} (trace : W → Option (List Answer)) (bound faults : W → ℕ) (wait : ℕ) (result : Result Heard DoorError) (old new : NetDoor W) → is_err result ≡ true →
    (result ≡ Err Failed → Rose (faults old.wires) (faults new.wires)
    × ((answers : List Answer) × Tells (trace old.wires) (trace new.wires) answers × FailsGathered wait old.gathering (state_of old) (state_of new) answers)) →
    (result ≡ Err NoMemory → (answers : List Answer) × Tells (trace old.wires) (trace new.wires) answers × HaltsGathered wait old.gathering (state_of old) (state_of new) answers) →
    KeepsLanes (bound old.wires) (bound new.wires) old.lanes.items new.lanes.items → new.gathering ≡ 0 → Chain (CallsNet trace bound faults) old (heard_call wait result ∷ []) new
fails-goes trace bound faults wait (Ok what) old new e f h keeps none = absurd (cc e)
fails-goes trace bound faults wait (Err Failed) old new e f h keeps none = let k = f refl in (new, (k.1.0, k.1.1, (k.1.2, keeps, none, k.0)), refl)
fails-goes trace bound faults wait (Err NoMemory) old new e f h keeps none = let k = h refl in (new, (k.0, k.1, (k.2, keeps, none)), refl)

pub flush-goes : {W : Type 0} (trace : W → Option (List Answer)) (bound faults : W → ℕ) (old new : NetDoor W) →
    ((answers : List Answer) × Tells (trace old.wires) (trace new.wires) answers × FlushesDoor (state_of old) (state_of new) answers) → bound new.wires ≡ bound old.wires →
    new.gathering ≡ 0 → Chain (CallsNet trace bound faults) old (flushed ∷ []) new
flush-goes trace bound faults old new h b g = (new, (h.0, h.1, (h.2, b, g)), refl)

-- ---- what is given

tells-same : (a b : Option (List Answer)) → b ≡ a → Tells a b []
tells-same a b e = subst (λ (t : Option (List Answer)). Tells a t []) (sym e) (tells-none a)

-- a call that is given something is out of memory, and nothing is done
unsaid : {W : Type 0} (trace : W → Option (List Answer)) (bound faults : W → ℕ) (what : Given) (why : DoorError) (old new : NetDoor W) → why ≡ NoMemory →
    (state_of new ≡ state_of old) × (trace new.wires ≡ trace old.wires) → bound new.wires ≡ bound old.wires → new.gathering ≡ old.gathering →
    Chain (CallsNet trace bound faults) old (failed (to_say what) why ∷ []) new
unsaid trace bound faults what Failed old new e s b g = absurd (cc e)
unsaid trace bound faults what NoMemory old new e s b g = (new, ([], tells-same (trace old.wires) (trace new.wires) s.1, (s.0, refl, (b, g))), refl)

pub reply-goes : {W T : Type 0} (trace : W → Option (List Answer)) (bound faults : W → ℕ) (lane : ℕ) (reply : Reply) (result : Result T DoorError) (old new : NetDoor W) →
    OnOk result ((answers : List Answer) × Tells (trace old.wires) (trace new.wires) answers × DoesAt lane (Replies old.moment reply) (state_of old) (state_of new) answers) →
    IfErr result (λ why. why ≡ NoMemory) → OnErr result ((state_of new ≡ state_of old) × (trace new.wires ≡ trace old.wires)) → bound new.wires ≡ bound old.wires → new.gathering ≡ old.gathering →
    (is_said : Bool) × Chain (CallsNet trace bound faults) old (given_call (say.Reply lane reply) is_said result ∷ []) new
reply-goes trace bound faults lane reply (Ok done) old new h m u b g = (is_owed_at lane old.lanes.items, (new, (h.0, h.1, (refl, h.2, (b, g))), refl))
reply-goes trace bound faults lane reply (Err why) old new h m u b g = (false, unsaid trace bound faults (say.Reply lane reply) why old new m u b g)

pub shut-goes : {W T : Type 0} (trace : W → Option (List Answer)) (bound faults : W → ℕ) (lane : ℕ) (result : Result T DoorError) (old new : NetDoor W) →
    OnOk result ((answers : List Answer) × Tells (trace old.wires) (trace new.wires) answers × DoesAt lane (Shuts old.moment) (state_of old) (state_of new) answers) →
    IfErr result (λ why. why ≡ NoMemory) → OnErr result ((state_of new ≡ state_of old) × (trace new.wires ≡ trace old.wires)) → bound new.wires ≡ bound old.wires → new.gathering ≡ old.gathering →
    (is_said : Bool) × Chain (CallsNet trace bound faults) old (given_call (say.Shut lane) is_said result ∷ []) new
shut-goes trace bound faults lane (Ok done) old new h m u b g = (is_live_at lane old.lanes.items, (new, (h.0, h.1, (refl, h.2, (b, g))), refl))
shut-goes trace bound faults lane (Err why) old new h m u b g = (false, unsaid trace bound faults (say.Shut lane) why old new m u b g)

-- a lane that is given a message adds it to what waits or doesn't, and only one that is there does
pub put-or-not : (wire now : ℕ) (bytes : List ℕ) (text : Bool) (lanes after : List Lane) (answers : List Answer) → AtLane wire (Sends now bytes text) lanes after answers →
    (is_put : Bool) × (is_put ≡ true → is_there wire lanes ≡ true) × AtLane wire (SendsAs is_put now bytes text) lanes after answers
put-or-not wire now bytes text [] after answers h = (false, λ e. absurd (cc e), h)
put-or-not wire now bytes text (lane ∷ lanes) after answers h = go (lane.wire == wire) h (λ rest k. put-or-not wire now bytes text lanes rest answers k) where
  go : (b : Bool) → Chooses b ((next : Lane) × (after ≡ next ∷ lanes) × Sends now bytes text lane next answers)
      ((rest : List Lane) × (after ≡ lane ∷ rest) × AtLane wire (Sends now bytes text) lanes rest answers) →
      ((rest : List Lane) → AtLane wire (Sends now bytes text) lanes rest answers →
      (is_put : Bool) × (is_put ≡ true → is_there wire lanes ≡ true) × AtLane wire (SendsAs is_put now bytes text) lanes rest answers) →
      (is_put : Bool) × (is_put ≡ true → b || is_there wire lanes ≡ true)
      × Chooses b ((next : Lane) × (after ≡ next ∷ lanes) × SendsAs is_put now bytes text lane next answers)
      ((rest : List Lane) × (after ≡ lane ∷ rest) × AtLane wire (SendsAs is_put now bytes text) lanes rest answers)
  go true h again = (h.2.1, λ e. refl, (h.0, h.1, (h.2.0, h.2.2, h.2.3)))
  go false h again = let k = again h.0 h.2 in (k.0, k.1, (h.0, h.1, k.2))

pub send-goes : {W : Type 0} (trace : W → Option (List Answer)) (bound faults : W → ℕ) (lane : ℕ) (bytes : List ℕ) (text : Bool) (result : Result Bool DoorError) (old new : NetDoor W) →
    OnOk result ((answers : List Answer) × Tells (trace old.wires) (trace new.wires) answers × DoesAt lane (Sends old.moment bytes text) (state_of old) (state_of new) answers) →
    IfOk result (λ full. full ≡ is_full_at lane new.lanes.items) → IfErr result (λ why. why ≡ NoMemory) → OnErr result ((state_of new ≡ state_of old) × (trace new.wires ≡ trace old.wires)) →
    bound new.wires ≡ bound old.wires → new.gathering ≡ old.gathering → (is_said : Bool) × Chain (CallsNet trace bound faults) old (sent_call (say.Bytes lane bytes text) is_said result ∷ []) new
send-goes trace bound faults lane bytes text (Ok full) old new h f m u b g =
    let k = put-or-not lane old.moment bytes text old.lanes.items new.lanes.items h.0 h.2.0 in
    (k.0, (new, (h.0, h.1, (k.1, (k.2, h.2.1, h.2.2, h.2.3), f, (b, g))), refl))
send-goes trace bound faults lane bytes text (Err why) old new h f m u b g = (false, unsaid trace bound faults (say.Bytes lane bytes text) why old new m u b g)
