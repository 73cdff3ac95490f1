-- Lanes that rest, as far as a door knows: a turn in which nothing comes would leave them as they are.
use Rattle.std.proofs.Common.{◌≡◌, ◌<◌, ◌≤◌, ◌&&◌, ◌||◌, ◌++◌, ◌∷◌, [], ℕ, zero, suc, Bool, true, false, not, List, Option, None, Some, is_some, refl, sym, ap, ◌∙◌, subst, inl, inr, arith, ◌+◌, length, set, take, get_or, Contains}
use Rattle.std.specs.List.{All}
use Rattle.std.proofs.lemmas.List.{append-nil, nil_from_length}
use Rattle.std.proofs.lemmas.List.Elements.{All-append, All-contains, All-filter, All-nil, All-cons, All-more, All-set}
use Rattle.hw_lanes.specs.declared.http.Request.{Request}
use Rattle.hh_http.specs.Asks.{Asks}
use Rattle.hw_door.specs.Traffic.{Answer, not_yet}
use Rattle.hw_net.specs.declared.full.Fullness.{Fullness}
use Rattle.hw_net.specs.declared.input.Input.TheVariants as input
use Rattle.hw_net.specs.declared.protocol.Protocol.{Protocol}
use Rattle.hw_net.specs.declared.protocol.Protocol.TheVariants.{Http, Response, Socket}
use Rattle.hw_net.specs.declared.protocol.Stage.{Stage}
use Rattle.hw_net.specs.declared.protocol.Stage.TheVariants.{Live, Lost, Closing, Over}
use Rattle.hw_net.specs.Door.{IsNothing, RestsAt, kept}
use Rattle.hw_net.proofs.HttpFacts.{none-fills, unfilled}
use Rattle.hw_net.specs.HttpState.{HttpStateView, IsHttpState, IsWaiting, HearsHttp, room_of, is_awake as http_is_awake}
use Rattle.hw_net.specs.Lane.{Lane, waits, frames_of, is_awake, is_awake_by, is_drained, is_live, is_late, is_over, has_drained, after_hearing}
use Rattle.hw_net.specs.Resting.{IsSound, IsKnown}
use Rattle.hw_net.specs.Saying.{SaysAt}
use Rattle.hw_net.specs.Tally.{has_unwritten, has_unwritten_by, is_restless, only_waits_by}
use Rattle.hw_net.specs.Turn.{Hears, TurnsAt}
use Rattle.hw_net.specs.WebSocketState.{WebSocketState, IsCalm}
use Rattle.hw_net.proofs.Calm.{http-hearing, quiet-listens, still-hears}
use Rattle.hw_net.proofs.ResponseFacts.{still-response}
use Rattle.hw_net.proofs.Walking.{silent}

-- ---- tests

neither : (a b : Bool) → (a || b) ≡ false → (a ≡ false) × (b ≡ false)
neither true b e = cc e
neither false b e = (refl, e)

both : (a b : Bool) → (a && b) ≡ true → (a ≡ true) × (b ≡ true)
both true b e = (refl, e)
both false b e = cc e

unless : (a b : Bool) → (a && not b) ≡ false → b ≡ false → a ≡ false
unless a true e f = cc f
unless true false e f = cc e
unless false false e f = refl

is-true : (a : Bool) → not a ≡ false → a ≡ true
is-true true e = refl
is-true false e = cc e

is-false : (a : Bool) → not a ≡ true → a ≡ false
is-false true e = cc e
is-false false e = refl

is-none : {A : Type 0} (o : Option A) → is_some o ≡ false → o ≡ None
is-none None e = refl
is-none (Some a) e = cc e

front-empty : (xs ys : List ℕ) → xs ++ ys ≡ [] → (xs ≡ []) × (ys ≡ [])
front-empty [] ys e = (refl, e)
front-empty (x ∷ xs) ys e = cc e

-- ---- a lane of requests

-- one that waits hears nothing, and stays as it is
still-http : (wire : ℕ) (http_state : HttpStateView) → IsHttpState http_state.lane http_state.busy http_state.has_unparsed → http_is_awake http_state ≡ false →
    (answers : List Answer) × IsNothing wire answers × HearsHttp wire http_state http_state answers input.Nothing
still-http wire http_state sound asleep = go (room_of http_state.lane) refl where
  waiting : http_state.busy ≡ false → IsWaiting http_state.lane
  waiting free = (sound.looked (unless http_state.has_unparsed http_state.busy (neither _ _ asleep).0 free)).1

  asks : (bytes : List ℕ) (requests : List Request) → Asks bytes requests http_state.lane.held → Asks (bytes ++ []) (requests ++ []) http_state.lane.held
  asks bytes requests a =
      subst (λ (l : List ℕ). Asks l (requests ++ []) http_state.lane.held) (sym (append-nil bytes))
      (subst (λ (l : List Request). Asks bytes l http_state.lane.held) (sym (append-nil requests)) a)

  go : (n : ℕ) → room_of http_state.lane ≡ n → (answers : List Answer) × IsNothing wire answers × HearsHttp wire http_state http_state answers input.Nothing
  go zero e = (
    [],
    inl refl,
    record {
      mid = http_state.lane;
      held = refl;
      busy = λ _. refl;
      got = Some [];
      read = refl;
      asks = asks;
      is_input = (refl, λ had. omega (arith, e, had), refl, waiting);
      continued = refl;
      full = refl;
    },
  )
  go (suc n) e = (
    not_yet wire ∷ [],
    inr refl,
    record {
      mid = http_state.lane;
      held = refl;
      busy = λ _. refl;
      got = Some [];
      read = (omega (arith, e), (refl, refl));
      asks = asks;
      is_input = (refl, λ had. omega arith, refl, waiting);
      continued = refl;
      full = unfilled http_state asleep (omega (arith, e)) ∙ sym (none-fills http_state.lane (omega (arith, e)));
    },
  )

-- ---- a live lane

-- nothing is heard of it, which leaves it as it is
abbrev StillAt : Lane → Protocol → Type 0
StillAt lane protocol =
    (answers : List Answer) × IsNothing lane.wire answers × Hears lane.wire protocol protocol answers input.Nothing × (after_hearing protocol lane ≡ lane)

http-still : (lane : Lane) (http_state : HttpStateView) → lane.protocol ≡ Http http_state → IsHttpState http_state.lane http_state.busy http_state.has_unparsed → http_is_awake http_state ≡ false →
    not http_state.awaits_continue ≡ true → StillAt lane (Http http_state)
http-still lane http_state is sound asleep undue =
    let h = still-http lane.wire http_state sound asleep in
    (h.0, h.1, h.2, http-hearing lane http_state is (is-false http_state.awaits_continue undue))

socket-still : (lane : Lane) (websocket_state : WebSocketState) → lane.protocol ≡ Socket websocket_state → IsSound (Socket websocket_state) → (not websocket_state.wants_read || websocket_state.last_read_was_full) ≡ false →
    (not websocket_state.lost_bytes && not (is_some websocket_state.lane.ending)) ≡ true → websocket_state.lane.out.bytes ≡ [] → StillAt lane (Socket websocket_state)
socket-still lane websocket_state is sound asleep there written =
    let wants = is-true websocket_state.wants_read (neither _ _ asleep).0 in
    let less = (neither _ _ asleep).1 in
    let whole = is-false websocket_state.lost_bytes (both _ _ there).0 in
    let unended = is-none websocket_state.lane.ending (is-false _ (both _ _ there).1) in
    let calm : IsCalm websocket_state = record {
      wants_read = wants;
      last_read_was_full = less;
      whole = whole;
      there = unended;
      waiting = sound wants whole unended;
      written = written;
    } in
    let same : after_hearing (Socket websocket_state) lane ≡ lane = ap (λ (p : Protocol). record lane { protocol = p }) (sym is) in
    (not_yet lane.wire ∷ [], inr refl, still-hears lane.wire websocket_state (not_yet lane.wire) calm (refl, refl), same)

still-at : (lane : Lane) (protocol : Protocol) → lane.protocol ≡ protocol → IsSound protocol → is_awake_by Live protocol ≡ false → only_waits_by Live protocol ≡ true → frames_of protocol ≡ [] →
    StillAt lane protocol
still-at lane (Http http_state) is sound asleep waits written = http-still lane http_state is sound asleep waits
still-at lane (Response response_state) is sound asleep waits written =
    let h = still-response lane.wire response_state sound asleep in
    (h.0, h.1, h.2, ap (λ (p : Protocol). record lane { protocol = p }) (sym is))
still-at lane (Socket websocket_state) is sound asleep waits written = socket-still lane websocket_state is sound asleep waits written

-- one that is full and has nothing to write has drained
unfull : (lane : Lane) → lane.stage ≡ Live → length (waits lane) ≡ 0 → is_drained lane ≡ false → lane.full ≡ None
unfull lane live none undrained =
    go lane.full (sym (ap (λ (s : Stage). is_live s && has_drained lane.full (length (waits lane))) live ∙ ap (λ n. has_drained lane.full n) none) ∙ undrained) where
      go : (full : Option Fullness) → has_drained full 0 ≡ false → full ≡ None
      go None e = refl
      go (Some full) e = cc e

-- what isn't so of a lane that isn't restless
record Restful (lane : Lane) : Type 0 where
  asleep : is_awake_by lane.stage lane.protocol ≡ false
  undrained : is_drained lane ≡ false
  unwritten : has_unwritten lane ≡ false
  waiting : only_waits_by lane.stage lane.protocol ≡ true

restful-of : (lane : Lane) → is_restless lane ≡ false → Restful lane
restful-of lane e =
    let awake = neither (is_awake lane) (has_unwritten lane || not (only_waits_by lane.stage lane.protocol)) e in
    let heard = neither (is_awake_by lane.stage lane.protocol) (is_drained lane) awake.0 in
    let writes = neither (has_unwritten lane) (not (only_waits_by lane.stage lane.protocol)) awake.1 in
    record { asleep = heard.0; undrained = heard.1; unwritten = writes.0; waiting = is-true (only_waits_by lane.stage lane.protocol) writes.1 }

live-rests : (now : ℕ) (lane : Lane) → lane.stage ≡ Live → IsSound lane.protocol → is_late now lane.since lane.protocol ≡ false → Restful lane → RestsAt now lane
live-rests now lane live sound in_time restful =
    let unwritten : has_unwritten_by Live (length (waits lane)) ≡ false = sym (ap (λ (s : Stage). has_unwritten_by s (length (waits lane))) live) ∙ restful.unwritten in
    let none : length (waits lane) ≡ 0 = grind (arith, unwritten) in
    let empty = front-empty lane.out (frames_of lane.protocol) (nil_from_length (waits lane) none) in
    let asleep : is_awake_by Live lane.protocol ≡ false = sym (ap (λ (s : Stage). is_awake_by s lane.protocol) live) ∙ restful.asleep in
    let waiting : only_waits_by Live lane.protocol ≡ true = sym (ap (λ (s : Stage). only_waits_by s lane.protocol) live) ∙ restful.waiting in
    let still = still-at lane lane.protocol refl sound asleep waiting empty.1 in
    record {
      answers = still.0;
      nothing = still.1;
      quiet = quiet-listens now lane still.0 live (unfull lane live none restful.undrained) restful.unwritten in_time still.2 still.3;
      silent = silent now lane restful.unwritten;
    }

over-rests : (now : ℕ) (lane : Lane) → lane.stage ≡ Over → RestsAt now lane
over-rests now lane over = record {
  answers = [];
  nothing = inl refl;
  quiet = subst (λ (s : Stage). TurnsAt s now lane lane [] None) (sym over) (refl, refl, refl);
  silent = subst (λ (s : Stage). SaysAt s now lane lane []) (sym over) (refl, refl);
}

-- a lane of which nothing but bytes or its time can make anything rests, if its time hasn't come
pub rests-at : (now due : ℕ) (lane : Lane) → now < due → IsKnown due lane → is_restless lane ≡ false → RestsAt now lane
rests-at now due lane before known restless = go lane.stage refl where
  restful : Restful lane
  restful = restful-of lane restless

  go : (s : Stage) → lane.stage ≡ s → RestsAt now lane
  go Live e = live-rests now lane e known.sound (known.in_time now before) restful
  go Lost e = absurd (cc (sym restful.asleep ∙ ap (λ (s : Stage). is_awake_by s lane.protocol) e))
  go Closing e = absurd (cc (sym restful.unwritten ∙ ap (λ (s : Stage). has_unwritten_by s (length (waits lane))) e))
  go Over e = over-rests now lane e

-- ---- lanes among others

pub all-rest : (now due : ℕ) (lanes : List Lane) → now < due → All (IsKnown due) lanes → All (λ (lane : Lane). is_restless lane ≡ false) lanes → (lane : Lane) → Contains lanes lane → RestsAt now lane
all-rest now due lanes before known restful lane here =
    rests-at now due lane before (All-contains (IsKnown due) lanes lane known here) (All-contains (λ (l : Lane). is_restless l ≡ false) lanes lane restful here)

-- what is known until a moment is known until an earlier one
pub sooner : (due sooner : ℕ) (lane : Lane) → sooner ≤ due → IsKnown due lane → IsKnown sooner lane
sooner due first lane le known = record { sound = known.sound; in_time = λ now lt. known.in_time now (omega (arith, le, lt)) }

pub all-sooner : (due first : ℕ) (lanes : List Lane) → first ≤ due → All (IsKnown due) lanes → All (IsKnown first) lanes
all-sooner due first lanes le known = λ k d lt. sooner due first _ le (known k d lt)

-- one lane is changed at its place
pub known-again : (due own least : ℕ) (lanes : List Lane) (index : ℕ) (next : Lane) → least ≤ due → least ≤ own → All (IsKnown due) lanes → IsKnown own next → All (IsKnown least) (set lanes index next)
known-again due own least lanes index next le before known one =
    All-set (IsKnown least) lanes index next (sooner own least next before one) (all-sooner due least lanes le known)

-- a lane comes after the others
pub known-more : (due own least : ℕ) (lanes : List Lane) (lane : Lane) → least ≤ due → least ≤ own → All (IsKnown due) lanes → IsKnown own lane → All (IsKnown least) (lanes ++ lane ∷ [])
known-more due own least lanes lane le before known one =
    All-append (IsKnown least) lanes (lane ∷ []) (all-sooner due least lanes le known)
    (All-cons (IsKnown least) lane [] (sooner own least lane before one) (All-nil (IsKnown least)))

-- those that are over go
pub known-kept : (due : ℕ) (lanes : List Lane) → All (IsKnown due) lanes → All (IsKnown due) (kept lanes)
known-kept due lanes known = All-filter (λ (lane : Lane). not (is_over lane.stage)) (IsKnown due) lanes known

-- one lane more is looked at, in their order
pub known-next : (due own least : ℕ) (lanes : List Lane) (index : ℕ) (lane : Lane) → least ≤ due → least ≤ own → index < length lanes → get_or lanes index lane ≡ lane → All (IsKnown due) (take index lanes) →
    IsKnown own lane → All (IsKnown least) (take (index + 1) lanes)
known-next due own least lanes index lane le before within found known one =
    All-more (IsKnown least) lanes index lane within (all-sooner due least (take index lanes) le known) (subst (IsKnown least) (sym found) (sooner own least lane before one))
