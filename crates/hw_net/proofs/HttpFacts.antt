-- How a look and a read come to one turn of a lane of requests.
use Rattle.std.proofs.Common.{◌||◌, ◌&&◌, not, ◌==◌, ◌+◌, ◌≡◌, ◌≤◌, ℕ, List, [], ◌++◌, ◌∷◌, true, false, Option, None, Some, refl, sym, ap, subst, ◌∙◌, arith, ◌⊎◌, inl, inr, is_some, IfOk, Result, Ok, Err, ◌<◌, length, min, take, option_map, Bool, length-take}
use Rattle.std.specs.Prelude.{nat_lt}
use Rattle.std.proofs.lemmas.Bool.{lt-ltb, ne_eqb}
use Rattle.std.proofs.lemmas.List.{append-nil, length-append}
use Rattle.hw_lanes.specs.declared.http.Request.{Request}
use Rattle.hw_lanes.specs.declared.http.Refusal.{Refusal}
use Rattle.hh_http.specs.Messages.{WaitsForHead, WaitsForBody, Refuses, Answers, Repeats, due_after}
use Rattle.hh_http.specs.declared.error.HttpError.TheVariants.{Refused}
use Rattle.hh_http.specs.Asks.{Asks, request_grammar}
use Rattle.hh_http.specs.Lane.{Lane, at_start, room, room_by, room_for}
use Rattle.hw_door.specs.Traffic.{Answer}
use Rattle.hw_net.specs.declared.input.Input.{Input}
use Rattle.hw_net.specs.declared.input.Input.TheVariants as input
use Rattle.hw_net.specs.Input.{is_nothing}
use Rattle.hw_net.specs.declared.limits.TheConstants.{PIECE}
use Rattle.hw_net.specs.Trace.{bytes_of, Gives, IsAsked, Reads, Tells, is_full_after}
use Rattle.hw_net.specs.HttpState.{HttpStateView, IsHttpState, HearsHttp, ReadsInto, Finds, IsCalm, IsInput, is_awake, requests_of, room_of, AwaitsAfter, IsWaiting}
use Rattle.hw_net.proofs.Shares.{equal}

-- what a look adds to the requests that were heard
abbrev pub Adds : HttpStateView → HttpStateView → Input → Type 0
Adds before after heard = (bytes : List ℕ) (requests : List Request) → Asks bytes requests before.lane.held → Asks bytes (requests ++ requests_of heard) after.lane.held

pub http_state-start : IsHttpState at_start false true
http_state-start = record { refused = λ refusal e. cc e; unended = λ e. refl; looked = λ e. cc e; taken = refl }

continued-of : (before after : HttpStateView) (heard : Input) → Finds before after heard → after.continued ≡ before.continued
continued-of before after input.Nothing f = f.5
continued-of before after (input.Request request) f = f.2
continued-of before after (input.Refused refusal) f = f.4
continued-of before after (input.Response status body) f = absurd f
continued-of before after input.Upgraded f = absurd f
continued-of before after (input.Message bytes) f = absurd f
continued-of before after input.Broken f = absurd f
continued-of before after input.Gone f = absurd f

full-of : (before after : HttpStateView) (heard : Input) → Finds before after heard → after.last_read_was_full ≡ before.last_read_was_full
full-of before after input.Nothing f = f.6
full-of before after (input.Request request) f = f.3
full-of before after (input.Refused refusal) f = f.5
full-of before after (input.Response status body) f = absurd f
full-of before after input.Upgraded f = absurd f
full-of before after (input.Message bytes) f = absurd f
full-of before after input.Broken f = absurd f
full-of before after input.Gone f = absurd f

-- a lane that was refused stays so
pub refused-state : (lane next : Lane) (busy has_unparsed : Bool) (refusal : Refusal) → IsHttpState lane busy has_unparsed → busy ≡ false → has_unparsed ≡ true →
    (lane.spent ≡ None → lane.ended ≡ false → Answers request_grammar lane next (Err (Refused refusal))) → Repeats {M = Request} lane next (Err (Refused refusal)) → IsHttpState next busy has_unparsed
refused-state lane next busy has_unparsed refusal is free unparsed answers repeats = go lane.spent refl where
  go : (o : Option Refusal) → lane.spent ≡ o → IsHttpState next busy has_unparsed
  go (Some spent) e = subst (λ (l : Lane). IsHttpState l busy has_unparsed) (sym (repeats spent e).1) is
  go None e =
      let a = answers e (is.unended free) in
      record {
        refused = λ other f.
            let same : refusal ≡ other = cc (sym (ap (λ (l : Lane). l.spent) a.1) ∙ f) in
            subst (λ (l : Lane). Refuses request_grammar l.held other) (sym a.1) (subst (λ (r : Refusal). Refuses request_grammar lane.held r) same a.0);
        unended = λ b. ap (λ (l : Lane). l.ended) a.1 ∙ is.unended b;
        looked = λ f. absurd (cc (sym unparsed ∙ f));
        taken = ap (λ (l : Lane). l.due) a.1 ∙ is.taken;
      }

-- a lane that holds the beginning of a request has room
room-left : (lane : Lane) → lane.spent ≡ None → length lane.held < room_for lane.want → 1 ≤ room lane
room-left lane e less =
    let left : room lane ≡ room_by None lane.want (length lane.held) = ap (λ (o : Option Refusal). room_by o lane.want (length lane.held)) e in
    omega (arith, left, less)

waiting-room : (lane : Lane) → lane.spent ≡ None → IsWaiting lane → 1 ≤ room lane
waiting-room lane e (inl w) = let short = w.2 in room-left lane e (omega (arith, short))
waiting-room lane e (inr w) =
    let body = w.1 in
    let whole : length lane.held ≡ length (request_grammar.print body.0) + length body.1 = ap length body.4.0.1 ∙ length-append (request_grammar.print body.0) body.1 in
    let less = body.6 in
    let want = body.7 in
    room-left lane e (omega (arith, whole, less, want))

or-none : (a b : Bool) → b ≡ false → (a || b) ≡ a
or-none true b e = refl
or-none false b e = e

-- what a look leaves that finds no request: the 100 that is due, if one is, is taken
abbrev pub none-after : HttpStateView → Lane → HttpStateView
none-after before next = record before {
  lane = record next { due = false };
  has_unparsed = false;
  awaits_continue = before.awaits_continue || next.due;
}

-- what a look that finds no request says of the bytes held
abbrev NoneIn : Lane → Lane → Type 0
NoneIn lane next =
    (WaitsForHead request_grammar lane.held × (next.want ≡ 0) × (next.due ≡ lane.due))
    ⊎ ((expects : Bool) × WaitsForBody request_grammar lane.held next.want expects × (next.due ≡ due_after lane.want expects lane.due))

none-waits : (lane next : Lane) → NoneIn lane next → next.held ≡ lane.held → IsWaiting next
none-waits lane next (inl w) same = inl (subst (λ (l : List ℕ). WaitsForHead request_grammar l) (sym same) w.0)
none-waits lane next (inr w) same = inr (w.0, subst (λ (l : List ℕ). WaitsForBody request_grammar l next.want w.0) (sym same) w.1)

pub none-state : (lane next : Lane) (busy has_unparsed : Bool) → IsHttpState lane busy has_unparsed → busy ≡ false →
    (lane.spent ≡ None → lane.ended ≡ false → Answers request_grammar lane next (Ok None)) → Repeats {M = Request} lane next (Ok None) → IsHttpState (record next { due = false }) busy false
none-state lane next busy has_unparsed is free answers repeats = go lane.spent refl where
  go : (o : Option Refusal) → lane.spent ≡ o → IsHttpState (record next { due = false }) busy false
  go (Some spent) e = absurd (cc (repeats spent e).0)
  go None e =
      let a = answers e (is.unended free) in
      let unspent : next.spent ≡ None = ap (λ (l : Lane). l.spent) a.0 ∙ e in
      let held : next.held ≡ lane.held = ap (λ (l : Lane). l.held) a.0 in
      record {
        refused = λ refusal f. absurd (cc (sym unspent ∙ f));
        unended = λ b. ap (λ (l : Lane). l.ended) a.0 ∙ is.unended b;
        looked = λ _. (unspent, none-waits lane next a.1 held);
        taken = refl;
      }

pub either-is : (value a b : Bool) → ((a ≡ true) × (value ≡ true)) ⊎ ((a ≡ false) × (value ≡ b)) → value ≡ (a || b)
either-is value a b (inl h) = h.1 ∙ sym (ap (λ c. c || b) h.0)
either-is value a b (inr h) = h.1 ∙ sym (ap (λ c. c || b) h.0)

-- a look that finds no request
pub none-found : (before : HttpStateView) (next : Lane) → IsHttpState before.lane before.busy before.has_unparsed → before.busy ≡ false →
    (before.lane.spent ≡ None → before.lane.ended ≡ false → Answers request_grammar before.lane next (Ok None)) → Repeats {M = Request} before.lane next (Ok None) →
    Finds before (none-after before next) input.Nothing
none-found before next is free answers repeats = go lane.spent refl where
  lane : Lane
  lane = before.lane

  go : (o : Option Refusal) → lane.spent ≡ o → Finds before (none-after before next) input.Nothing
  go (Some spent) e = absurd (cc (repeats spent e).0)
  go None e =
      let a = answers e (is.unended free) in
      let held : next.held ≡ lane.held = ap (λ (l : Lane). l.held) a.0 in
      let unspent : next.spent ≡ None = ap (λ (l : Lane). l.spent) a.0 ∙ e in
      let waiting = none-waits lane next a.1 held in
      (held, refl, λ b. waiting, inr (waiting-room next unspent waiting, awaits a.1), λ b. absurd (cc (sym free ∙ b)), refl, refl) where
        awaits : (WaitsForHead request_grammar lane.held × (next.want ≡ 0) × (next.due ≡ lane.due)) ⊎ ((expects : Bool) × WaitsForBody request_grammar lane.held next.want expects × (next.due ≡ due_after lane.want expects lane.due)) → AwaitsAfter before (none-after before next)
        awaits (inl w) = inl (w.0, or-none before.awaits_continue next.due (w.2 ∙ is.taken))
        awaits (inr w) = inr (w.0, w.1, ap (λ b. before.awaits_continue || b) (w.2 ∙ ap (λ b. due_after lane.want w.0 b) is.taken))

input-found : (before after : HttpStateView) (heard : Input) → Finds before after heard → is_nothing heard ≡ false → IsInput before after [] (Some []) heard
input-found before after input.Nothing f e = cc e
input-found before after (input.Request request) f e = (refl, f.0, f.1)
input-found before after (input.Refused refusal) f e = (refl, f.1, f.2, rw f.0 f.3)
input-found before after (input.Response status body) f e = absurd f
input-found before after input.Upgraded f e = absurd f
input-found before after (input.Message bytes) f e = absurd f
input-found before after input.Broken f e = absurd f
input-found before after input.Gone f e = absurd f

-- something is heard of the bytes held, and the wire isn't read
pub hears-found : (wire : ℕ) (before after : HttpStateView) (heard : Input) → Finds before after heard → Adds before after heard → is_nothing heard ≡ false → HearsHttp wire before after [] heard
hears-found wire before after heard f adds e =
    record {
      mid = before.lane;
      held = refl;
      busy = λ _. refl;
      got = Some [];
      read = refl;
      asks = λ bytes requests a. rw (append-nil bytes) (adds bytes requests a);
      is_input = input-found before after heard f e;
      continued = continued-of before after heard f;
      full = full-of before after heard f;
    }

-- a lane that holds less than it may has room, whatever room it had before
asked-later : (before mid : HttpStateView) (answers : List Answer) → (mid ≡ before) ⊎ ((1 ≤ room mid.lane) × AwaitsAfter before mid) → IsAsked (room mid.lane) answers → IsAsked (room before.lane) answers
asked-later before mid answers (inl e) h = subst (λ (a : HttpStateView). IsAsked (room a.lane) answers) e h
asked-later before mid answers (inr some) h = λ had. h some.0

input-later : (before mid after : HttpStateView) (answers : List Answer) (got : Option (List ℕ)) (heard : Input) → Finds before mid input.Nothing → IsInput mid after answers got heard →
    IsInput before after answers got heard
input-later before mid after answers got input.Nothing f n = (n.0, asked-later before mid answers f.3 n.1, n.2 ∙ f.1, n.3)
input-later before mid after answers got (input.Request request) f n = (n.0, sym f.1 ∙ n.1, n.2)
input-later before mid after answers got (input.Refused refusal) f n = (n.0, sym f.1 ∙ n.1, n.2, n.3)
input-later before mid after answers got (input.Response status body) f n = absurd n
input-later before mid after answers got input.Upgraded f n = absurd n
input-later before mid after answers got (input.Message bytes) f n = absurd n
input-later before mid after answers got input.Broken f n = (n.0, n.1 ∙ f.1)
input-later before mid after answers got input.Gone f n = absurd n

room-of : (lane : Lane) → 1 ≤ room lane → 1 ≤ room_of lane
room-of lane h = omega (arith, h)

pub none-of : (got : Option (List ℕ)) → false ≡ is_some got → got ≡ None
none-of None e = refl
none-of (Some piece) e = cc e

-- nothing is heard of the bytes held, and then the wire is read
pub hears-later : (wire : ℕ) (before mid after : HttpStateView) (answers : List Answer) (heard : Input) → Finds before mid input.Nothing → Adds before mid input.Nothing →
    HearsHttp wire mid after answers heard → HearsHttp wire before after answers heard
hears-later wire before mid after answers heard f adds h =
    record {
      mid = h.mid;
      held = h.held ∙ f.0;
      busy = λ e. let same = f.4 e in h.busy (ap (λ (a : HttpStateView). a.busy) same ∙ e) ∙ ap (λ (a : HttpStateView). a.lane) same;
      got = h.got;
      read = h.read;
      asks = λ bytes requests a. h.asks bytes requests (rw (append-nil requests) at (adds bytes requests a));
      is_input = input-later before mid after answers h.got heard f h.is_input;
      continued = h.continued ∙ f.5;
      full = h.full ∙ ap (is_full_after (room_of h.mid) answers h.got) f.6;
    }

-- the wire broke
pub hears-broken : (wire : ℕ) (before after : HttpStateView) (answers : List Answer) → ReadsInto wire before after answers false → HearsHttp wire before after answers input.Broken
hears-broken wire before after answers r =
    record {
      mid = before.lane;
      held = refl;
      busy = λ _. refl;
      got = r.got;
      read = r.read;
      asks = λ bytes requests a. rw (append-nil requests) (r.asks bytes requests a);
      is_input = (none-of r.got r.whole, r.busy);
      continued = r.continued;
      full = r.full;
    }

input-looked : (wire : ℕ) (before mid after : HttpStateView) (answers : List Answer) (heard : Input) → (r : ReadsInto wire before mid answers true) → Finds mid after heard →
    IsInput before after answers r.got heard
input-looked wire before mid after answers input.Nothing r f = (sym r.whole, λ had. r.asked (room-of before.lane had), f.1 ∙ r.busy, f.2)
input-looked wire before mid after answers (input.Request request) r f = (sym r.whole, sym r.busy ∙ f.0, f.1)
input-looked wire before mid after answers (input.Refused refusal) r f = (sym r.whole, sym r.busy ∙ f.1, f.2, rw f.0 f.3)
input-looked wire before mid after answers (input.Response status body) r f = absurd f
input-looked wire before mid after answers input.Upgraded r f = absurd f
input-looked wire before mid after answers (input.Message bytes) r f = absurd f
input-looked wire before mid after answers input.Broken r f = absurd f
input-looked wire before mid after answers input.Gone r f = absurd f

-- the wire was read, and then the bytes held are looked at
pub hears-looked : (wire : ℕ) (before mid after : HttpStateView) (answers : List Answer) (heard : Input) → ReadsInto wire before mid answers true → Finds mid after heard → Adds mid after heard →
    HearsHttp wire before after answers heard
hears-looked wire before mid after answers heard r f adds =
    record {
      mid = before.lane;
      held = refl;
      busy = λ _. refl;
      got = r.got;
      read = r.read;
      asks = λ bytes requests a. adds (bytes ++ bytes_of r.got) requests (r.asks bytes requests a);
      is_input = input-looked wire before mid after answers heard r f;
      continued = continued-of mid after heard f ∙ r.continued;
      full = full-of mid after heard f ∙ r.full;
    }

pub nothing-of : (heard : Input) → is_nothing heard ≡ true → heard ≡ input.Nothing
nothing-of input.Nothing e = refl
nothing-of (input.Request request) e = cc e
nothing-of (input.Refused refusal) e = cc e
nothing-of (input.Response status body) e = cc e
nothing-of input.Upgraded e = cc e
nothing-of (input.Message bytes) e = cc e
nothing-of input.Broken e = cc e
nothing-of input.Gone e = cc e

-- the same of a call that may be out of memory
pub later-all : {E : Type 0} (a b : Option (List Answer)) (wire : ℕ) (before mid after : HttpStateView) (r : Result Input E) → Finds before mid input.Nothing → Adds before mid input.Nothing →
    IfOk r (λ heard. (answers : List Answer) × Tells a b answers × HearsHttp wire mid after answers heard) →
    IfOk r (λ heard. (answers : List Answer) × Tells a b answers × HearsHttp wire before after answers heard)
later-all a b wire before mid after (Ok heard) f adds h = (h.0, h.1, hears-later wire before mid after h.0 heard f adds h.2)
later-all a b wire before mid after (Err e) f adds h = h

-- the wire was read, and then what is held is looked at, which may be out of memory
pub looked-all : {E : Type 0} (a b : Option (List Answer)) (wire : ℕ) (before mid after : HttpStateView) (r : Result Input E) →
    ((answers : List Answer) × Tells a b answers × ReadsInto wire before mid answers true) → IfOk r (λ heard. Finds mid after heard) → IfOk r (λ heard. Adds mid after heard) →
    IfOk r (λ heard. (answers : List Answer) × Tells a b answers × HearsHttp wire before after answers heard)
looked-all a b wire before mid after (Ok heard) h f adds = (h.0, h.1, hears-looked wire before mid after h.0 heard h.2 f adds)
looked-all a b wire before mid after (Err e) h f adds = f

-- ---- after a first look

-- one of which nothing is known that may be heard or said before more bytes come
pub calm-of : (http_state : HttpStateView) (room : ℕ) → IsHttpState http_state.lane http_state.busy http_state.has_unparsed → is_awake http_state ≡ false → http_state.awaits_continue ≡ false → room ≡ room_of http_state.lane →
    (room == PIECE) ≡ true → IsCalm http_state
calm-of http_state room sound asleep undue is size = record {
  asleep = asleep;
  undue = undue;
  waiting = λ free. (sound.looked (looked http_state.has_unparsed http_state.busy _ asleep free)).1;
  room = sym is ∙ equal room PIECE size;
} where
  looked : (a b c : Bool) → ((a && not b) || c) ≡ false → b ≡ false → a ≡ false
  looked false b c e f = refl
  looked true true c e f = cc f
  looked true false c e f = cc e

-- the wire of a calm lane was read
pub calm-gives : (wire : ℕ) (before : HttpStateView) (answer : Answer) (got : Option (List ℕ)) → IsCalm before → Reads wire PIECE answer got → Gives wire (room_of before.lane) (answer ∷ []) got
calm-gives wire before answer got calm h =
    let room = calm.room in
    (omega (arith, room), subst (λ n. Reads wire n answer got) (sym room) h)

-- no bytes fill no room that there is
pub none-fills : (lane : Lane) → 1 ≤ room_of lane → (0 == room_of lane) ≡ false
none-fills lane some = ne_eqb 0 (room_of lane) (λ e. omega (arith, e, some))

-- where something could be read, the last read didn't fill its room, unless the lane is awake
pub unfilled : (http_state : HttpStateView) → is_awake http_state ≡ false → 1 ≤ room_of http_state.lane → http_state.last_read_was_full ≡ false
unfilled http_state asleep some = by (http_state.has_unparsed && not http_state.busy) http_state.last_read_was_full (nat_lt 0 (room_of http_state.lane)) asleep (lt-ltb 0 (room_of http_state.lane) some) where
  by : (a full room : Bool) → (a || (full && room)) ≡ false → room ≡ true → full ≡ false
  by true full room e f = cc e
  by false true true e f = cc e
  by false true false e f = cc f
  by false false room e f = refl

calm-is-empty : (http_state : HttpStateView) → IsCalm http_state → http_state.last_read_was_full ≡ false
calm-is-empty http_state calm = unfilled http_state calm.asleep (omega (arith, calm.room))

-- nothing came
pub still-hears : (wire : ℕ) (http_state : HttpStateView) (answer : Answer) → IsCalm http_state → Reads wire PIECE answer (Some []) → HearsHttp wire http_state http_state (answer ∷ []) input.Nothing
still-hears wire http_state answer calm h =
    record {
      mid = http_state.lane;
      held = refl;
      busy = λ _. refl;
      got = Some [];
      read = calm-gives wire http_state answer (Some []) calm h;
      asks = λ bytes requests a. rw (append-nil bytes) (rw (append-nil requests) a);
      is_input = (refl, λ had. omega arith, refl, calm.waiting);
      continued = refl;
      full = calm-is-empty http_state calm ∙ sym (none-fills http_state.lane (omega (arith, calm.room)));
    }

-- what a read gives of which no more is taken than there is room for
abbrev pub TakesUpTo : HttpStateView → HttpStateView → ℕ → List ℕ → Type 0
TakesUpTo before mid taken buf =
    (bytes : List ℕ) (requests : List Request) → Asks bytes requests before.lane.held → Asks (bytes ++ take taken buf) requests mid.lane.held

-- a calm lane takes all of it
takes-all : (before mid : HttpStateView) (count taken : ℕ) (buf : List ℕ) → count ≤ PIECE → taken ≡ min count (room_of before.lane) → IsCalm before → TakesUpTo before mid taken buf → TakesUpTo before mid count buf
takes-all before mid count taken buf small is calm takes =
    let room = calm.room in
    let whole : taken ≡ count = omega (arith, is, room, small) in
    subst (λ n. TakesUpTo before mid n buf) whole takes

all-taken : (count taken room : ℕ) (buf : List ℕ) → room ≡ PIECE → count ≤ PIECE → taken ≡ min count room → length buf ≡ PIECE → taken ≡ length (take count buf)
all-taken count taken room buf whole small is long =
    let size : length (take count buf) ≡ min count (length buf) = length-take count buf in
    omega (arith, whole, small, is, long, size)

-- bytes came, and then what is held is looked at
pub hears-after : {E : Type 0} (r : Result Input E) (before mid after : HttpStateView) (count taken : ℕ) (buf : List ℕ) (got : Option ℕ) → got ≡ Some count → count ≤ PIECE → taken ≡ min count (room_of before.lane) →
    (mid.busy ≡ before.busy) × (mid.continued ≡ before.continued) × (mid.last_read_was_full ≡ (taken == room_of before.lane)) → length buf ≡ PIECE → TakesUpTo before mid taken buf → IfOk r (λ heard. Finds mid after heard) → IfOk r (λ heard. Adds mid after heard) →
    IfOk r (λ heard. (wire : ℕ) (answer : Answer) → IsCalm before → Reads wire PIECE answer (option_map (λ n. take n buf) got) → HearsHttp wire before after (answer ∷ []) heard)
hears-after (Ok heard) before mid after count taken buf got e small is same long takes f adds = λ wire answer calm h.
    let read : Reads wire PIECE answer (Some (take count buf)) = subst (λ (o : Option ℕ). Reads wire PIECE answer (option_map (λ n. take n buf) o)) e h in
    let into : ReadsInto wire before mid (answer ∷ []) true = record {
      got = Some (take count buf);
      read = calm-gives wire before answer (Some (take count buf)) calm read;
      asked = λ _. omega arith;
      whole = refl;
      busy = same.0;
      continued = same.1;
      full = same.2 ∙ ap (λ n. n == room_of before.lane) (all-taken count taken (room_of before.lane) buf calm.room small is long);
      asks = takes-all before mid count taken buf small is calm takes;
    } in
    hears-looked wire before mid after (answer ∷ []) heard into f adds
hears-after (Err why) before mid after count taken buf got e small is same long takes f adds = f
