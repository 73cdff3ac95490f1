-- The lanes of a dialer's asks rise.
use Rattle.std.proofs.Common.{◌≡◌, ◌≤◌, ◌+◌, ◌++◌, ◌∷◌, [], ℕ, List, Option, None, Some, refl, sym, ap, ◌∙◌, subst, arith}
use Rattle.hw_door.specs.declared.error.DoorError.TheVariants as error
use Rattle.hw_door.specs.declared.heard.Event.{Event}
use Rattle.hw_door.specs.declared.heard.Given.TheVariants as say
use Rattle.hw_door.specs.DoorCalls as door
use Rattle.hw_door.specs.DoorCalls.{DoorCall, Chain}
use Rattle.hw_door.specs.Traffic.{Answer}
use Rattle.hw_net.specs.declared.dialer.NetDialer.{NetDialer}
use Rattle.hw_net.specs.Dialer.{DialerState, HearsLanes, after_dial, dialer_state_of}
use Rattle.hw_net.specs.DialerCalls.{CallsDialed, MakesDialed}
use Rattle.hw_net.specs.DialerNumbers.{AsksRise, asked_in, asked_of}
use Rattle.hw_net.specs.Rising.{IsRising}

abbrev last_of : DialerState → ℕ
last_of state = state.last

heard-last : (failed : List ℕ) (now : ℕ) (before after : DialerState) (answers : List Answer) (heard : Event) → HearsLanes failed now before after answers heard → after.last ≡ before.last
heard-last [] now before after answers heard h = ap last_of h.4
heard-last (lane ∷ failed) now before after answers heard h = ap last_of h.2

dialed-last : (wire : Option ℕ) (state : DialerState) → (after_dial wire state).last ≡ state.last + 1
dialed-last None state = refl
dialed-last (Some wire) state = refl

-- what a call answers an ask with, and which lane was answered last then
abbrev Numbers : ℕ → ℕ → List ℕ → Type 0
Numbers before after [] = after ≡ before
Numbers before after (lane ∷ more) = (lane ≡ before + 1) × (after ≡ before + 1) × (more ≡ [])

one-call : {W : Type 0} (bound faults : W → ℕ) (call : DoorCall) (before after : NetDialer W) (answers : List Answer) → MakesDialed bound faults call before after answers → Numbers before.last after.last (asked_of call)
one-call bound faults (door.heard wait what) before after answers h =
    let k = h.0 in
    heard-last before.failed what.now _ (dialer_state_of after) _ what.event k.6.hears
one-call bound faults (door.given (say.Ask lane place method target upgrade) is_said) before after answers h =
    let k = h.1 in
    (h.0, ap last_of k.4 ∙ dialed-last k.0 _, refl)
one-call bound faults (door.given (say.Shut lane) is_said) before after answers h = ap last_of h.1.1
one-call bound faults (door.given (say.Bytes lane bytes text) is_said) before after answers h = absurd h
one-call bound faults (door.given (say.Reply lane reply) is_said) before after answers h = absurd h
one-call bound faults (door.sent (say.Bytes lane bytes text) is_said full) before after answers h = ap last_of h.1.1
one-call bound faults (door.sent (say.Reply lane reply) is_said full) before after answers h = absurd h
one-call bound faults (door.sent (say.Shut lane) is_said full) before after answers h = absurd h
one-call bound faults (door.sent (say.Ask lane place method target upgrade) is_said full) before after answers h = absurd h
one-call bound faults door.flushed before after answers h = ap last_of h.1
one-call bound faults (door.failed (door.to_hear wait) error.Failed) before after answers h =
    let k = h.1.6 in
    ap last_of k.6 ∙ ap last_of k.4.1
one-call bound faults (door.failed (door.to_hear wait) error.NoMemory) before after answers h =
    let k = h.1.6 in
    ap last_of k.6 ∙ ap last_of k.4.halts.4
one-call bound faults (door.failed (door.to_say (say.Ask lane place method target upgrade)) error.NoMemory) before after answers h = ap last_of h.0
one-call bound faults (door.failed (door.to_say (say.Shut lane)) error.NoMemory) before after answers h = ap last_of h.0
one-call bound faults (door.failed (door.to_say (say.Bytes lane bytes text)) error.NoMemory) before after answers h = ap last_of h.0
one-call bound faults (door.failed (door.to_say (say.Reply lane reply)) error.NoMemory) before after answers h = ap last_of h.0
one-call bound faults (door.failed (door.to_say (say.Ask lane place method target upgrade)) error.Failed) before after answers h = absurd h
one-call bound faults (door.failed (door.to_say (say.Shut lane)) error.Failed) before after answers h = absurd h
one-call bound faults (door.failed (door.to_say (say.Bytes lane bytes text)) error.Failed) before after answers h = absurd h
one-call bound faults (door.failed (door.to_say (say.Reply lane reply)) error.Failed) before after answers h = absurd h

lower-by-one : (last : ℕ) → last + 1 ≤ last + 1
lower-by-one last = omega arith

-- ---- all calls

grown : (first after : ℕ) (own more : List ℕ) (mid : ℕ) → Numbers first mid own → IsRising (mid + 1) (after + 1) more → IsRising (first + 1) (after + 1) (own ++ more)
grown first after [] more mid e h = subst (λ n. IsRising (n + 1) (after + 1) more) e h
grown first after (lane ∷ []) more mid e h = (omega (arith, e.0), subst (λ n. IsRising n (after + 1) more) (ap (λ n. n + 1) (e.1 ∙ sym e.0)) h)
grown first after (lane ∷ next ∷ rest) more mid e h = absurd (cc e.2)

pub asks-rise : {W : Type 0} (trace : W → Option (List Answer)) (bound faults : W → ℕ) → AsksRise (Chain (CallsDialed trace bound faults))
asks-rise {W} trace bound faults [] before after h = subst (λ (d : NetDialer W). before.last + 1 ≤ d.last + 1) (sym h) (lower-by-one before.last)
asks-rise {W} trace bound faults (call ∷ calls) before after h =
    grown before.last after.last (asked_of call) (asked_in calls) h.0.last (one-call bound faults call before h.0 h.1.0 h.1.3) (asks-rise trace bound faults calls h.0 after h.2)
