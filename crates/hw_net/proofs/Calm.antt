-- Lanes that are calm: a read that gives nothing leaves them as they are, and is their turn.
use Rattle.std.proofs.Common.{◌≡◌, ◌<◌, ◌≤◌, ◌==◌, ◌++◌, ◌∷◌, [], ◌&&◌, ◌||◌, ◌⊎◌, if◌then◌else◌, ℕ, List, Bool, true, false, not, Option, None, Some, Result, Ok, Err, IfOk, option_map, set, get_or, refl, sym, ap, ◌∙◌, subst, inl, inr, arith, length, take}
use Rattle.std.proofs.lemmas.Bool.{ne_eqb}
use Rattle.std.proofs.lemmas.List.{append-nil, get_or_default}
use Rattle.hh_http.specs.Texts.{continue_text}
use Rattle.hw_door.specs.declared.heard.Event.{Event}
use Rattle.hw_door.specs.Traffic.{Answer}
use Rattle.hw_socket.specs.Lane as socket
use Rattle.hw_socket.specs.Reading.{Feeds, Takes}
use Rattle.hw_socket.specs.declared.vocabulary.SocketRead.TheVariants as read
use Rattle.hw_net.specs.declared.first_read.FirstRead.{FirstRead}
use Rattle.hw_net.specs.declared.first_read.FirstRead.TheVariants.{Unread, NothingRead, Read}
use Rattle.hw_net.specs.declared.limits.TheConstants.{PIECE}
use Rattle.hw_net.specs.declared.input.Input.{Input}
use Rattle.hw_net.specs.declared.input.Input.TheVariants as input
use Rattle.hw_net.specs.declared.protocol.Protocol.{Protocol}
use Rattle.hw_net.specs.declared.protocol.Protocol.TheVariants.{Http, Response, Socket}
use Rattle.hw_net.specs.declared.protocol.Stage.{Stage}
use Rattle.hw_net.specs.declared.protocol.Stage.TheVariants.{Live}
use Rattle.hw_net.specs.FirstReads.{ReadsFirst, ReadsFirstAt, IsCalmLane, IsCalmProtocol}
use Rattle.hw_net.specs.HttpState.{HttpStateView}
use Rattle.hw_net.specs.Lane.{Lane, waits, frames_of, is_late, is_live, is_drained, has_drained, is_overdue, is_stalled, has_stalled, after_hearing, after_turn, full_after_turn, out_after_continue}
use Rattle.hw_net.specs.Lanes.{DoesHere}
use Rattle.hw_net.specs.Tally.{has_unwritten, has_unwritten_by}
use Rattle.hw_net.specs.WebSocketState.{WebSocketState, HearsWebSocket, ReadsInto, Finds, IsCalm, room_of}
use Rattle.hw_net.specs.Trace.{Chooses, Reads, Gives, Tells}
use Rattle.hw_net.specs.Turn.{Hears, Settles, LosesAt, Drains, Falls, TurnsLive, TurnsByFullness, TurnsAt, Listens}
use Rattle.hw_net.proofs.HttpFacts.{still-hears as http-still-hears}
use Rattle.hw_net.proofs.WebSocketFacts.{filled, full-of, room-wants_read, input-of}
use Rattle.hw_net.proofs.Telling.{tells-none}
use Rattle.hw_net.proofs.Walking.{silent}

-- ---- a WebSocket

fed-nothing : (lane : socket.Lane) → Feeds lane [] lane
fed-nothing lane = ap (λ u. record lane { unread = u }) (sym (append-nil lane.unread))

pub last_read_was_full : (wire : ℕ) (before : WebSocketState) (answer : Answer) (got : Option (List ℕ)) → before.wants_read ≡ true → Reads wire PIECE answer got → Gives wire (room_of before) (answer ∷ []) got
last_read_was_full wire before answer got wants_read h =
    let room = room-wants_read before wants_read in
    (omega (arith, room), subst (λ n. Reads wire n answer got) (sym room) h)

-- bytes came, and one message was heard, or none
pub hears-after : (wire : ℕ) (before mid after : WebSocketState) (piece : List ℕ) (answer : Answer) (heard : Input) → before.wants_read ≡ true → before.lost_bytes ≡ false → Reads wire PIECE answer (Some piece) →
    Feeds before.lane piece mid.lane → mid.lost_bytes ≡ before.lost_bytes → mid.last_read_was_full ≡ (length piece == PIECE) → Finds mid after heard → after.lost_bytes ≡ before.lost_bytes → HearsWebSocket wire before after (answer ∷ []) heard
hears-after wire before mid after piece answer heard wants_read had_all h fed kept full f same =
    let read = last_read_was_full wire before answer (Some piece) wants_read h in
    let filled = full ∙ ap (λ n. length piece == n) (sym (room-wants_read before wants_read)) in
    let into : ReadsInto wire before mid (answer ∷ []) true = record { got = Some piece; read = read; asked = λ _. omega arith; whole = refl; fed = fed; lost_bytes = kept; full = filled } in
    record { got = Some piece; read = read; is_input = input-of wire before mid after (answer ∷ []) heard into f; lost_bytes = same; full = full-of mid after heard f ∙ filled; breaks = λ e. absurd (cc (sym had_all ∙ e)) }

-- the wire broke
pub breaks-after : (wire : ℕ) (before : WebSocketState) (answer : Answer) → IsCalm before → Reads wire PIECE answer None → HearsWebSocket wire before before (answer ∷ []) input.Broken
breaks-after wire before answer calm h = record {
  got = None;
  read = last_read_was_full wire before answer None calm.wants_read h;
  is_input = (inl (refl, λ there. calm.waiting), refl);
  lost_bytes = refl;
  full = refl;
  breaks = λ e. refl;
}

-- nothing came
pub still-hears : (wire : ℕ) (websocket_state : WebSocketState) (answer : Answer) → IsCalm websocket_state → Reads wire PIECE answer (Some []) → HearsWebSocket wire websocket_state websocket_state (answer ∷ []) input.Nothing
still-hears wire websocket_state answer calm h =
    let takes : Takes websocket_state.lane websocket_state.lane read.NotYet = inr (calm.there, ([], websocket_state.lane, refl, calm.waiting)) in
    hears-after wire websocket_state websocket_state websocket_state [] answer input.Nothing calm.wants_read calm.whole h (fed-nothing websocket_state.lane) refl (calm.last_read_was_full ∙ sym (ne_eqb 0 PIECE (λ e. omega (arith, e)))) (takes, calm.wants_read, refl) refl

-- ---- a lane

still-input : (wire : ℕ) (protocol : Protocol) (answer : Answer) → IsCalmProtocol protocol → Reads wire PIECE answer (Some []) → Hears wire protocol protocol (answer ∷ []) input.Nothing
still-input wire (Http http_state) answer calm h = http-still-hears wire http_state answer calm h
still-input wire (Response response_state) answer calm h = absurd calm
still-input wire (Socket websocket_state) answer calm h = still-hears wire websocket_state answer calm h

pub calm-input : (lane : Lane) (first : List Answer) (buf : List ℕ) → ReadsFirst lane first buf NothingRead → Hears lane.wire lane.protocol lane.protocol first input.Nothing
calm-input lane first buf h =
    subst (λ (l : List Answer). Hears lane.wire lane.protocol lane.protocol l input.Nothing) (sym h.1.1) (still-input lane.wire lane.protocol h.1.0 h.0.protocol h.1.2)

frameless : (protocol : Protocol) → IsCalmProtocol protocol → frames_of protocol ≡ []
frameless (Http http_state) calm = refl
frameless (Response response_state) calm = absurd calm
frameless (Socket websocket_state) calm = calm.written

nothing-unwritten : (lane : Lane) → IsCalmLane lane → has_unwritten lane ≡ false
nothing-unwritten lane calm =
    let none : waits lane ≡ [] = ap (λ (l : List ℕ). l ++ frames_of lane.protocol) calm.out ∙ frameless lane.protocol calm.protocol in
    ap (λ (s : Stage). has_unwritten_by s (length (waits lane))) calm.live ∙ ap (λ (l : List ℕ). has_unwritten_by Live (length l)) none

first-of : (b : Bool) (A B : Type 0) → b ≡ true → A → Chooses b A B
first-of true A B e h = h
first-of false A B e h = absurd (cc e)

second : (b : Bool) (A B : Type 0) → b ≡ false → B → Chooses b A B
second true A B e h = absurd (cc e)
second false A B e h = h

-- no 100 is said on a lane of requests if none is due
pub http-hearing : (lane : Lane) (http_state : HttpStateView) → lane.protocol ≡ Http http_state → http_state.awaits_continue ≡ false → after_hearing (Http http_state) lane ≡ lane
http-hearing lane http_state is none =
    let unsaid : record http_state { awaits_continue = false; continued = http_state.awaits_continue || http_state.continued } ≡ http_state =
    ap (λ b. record http_state { awaits_continue = false; continued = b || http_state.continued }) none ∙ ap (λ b. record http_state { awaits_continue = b }) (sym none) in
    let out : out_after_continue (Http http_state) lane.out ≡ lane.out = ap (λ b. if b && not http_state.continued then lane.out ++ continue_text else lane.out) none in
    ap (λ (s : HttpStateView). record lane { protocol = Http s; out = out_after_continue (Http http_state) lane.out }) unsaid
    ∙ ap (λ (l : List ℕ). record lane { protocol = Http http_state; out = l }) out ∙ ap (λ (p : Protocol). record lane { protocol = p }) (sym is)

-- nor on a calm one
calm-hearing : (lane : Lane) → IsCalmProtocol lane.protocol → after_hearing lane.protocol lane ≡ lane
calm-hearing lane calm = go lane.protocol refl calm where
  go : (protocol : Protocol) → lane.protocol ≡ protocol → IsCalmProtocol protocol → after_hearing protocol lane ≡ lane
  go (Http http_state) e calm = http-hearing lane http_state e calm.undue
  go (Response response_state) e calm = absurd calm
  go (Socket websocket_state) e calm = ap (λ (t : Protocol). record lane { protocol = t }) (sym e)

-- a lane that isn't full has neither drained nor stalled
not-drained : (lane : Lane) → lane.full ≡ None → is_drained lane ≡ false
not-drained lane e = ap (λ f. is_live lane.stage && has_drained f (length (waits lane))) e ∙ go (is_live lane.stage) where
  go : (b : Bool) → (b && false) ≡ false
  go true = refl
  go false = refl

not-stalled : (lane : Lane) → lane.full ≡ None → is_stalled lane ≡ false
not-stalled lane e = ap has_stalled e

-- a lane that is full isn't read by a first look
unread : (lane : Lane) (first : List Answer) (buf : List ℕ) (first_look : FirstRead) → ReadsFirst lane first buf first_look → (first ≡ []) ⊎ (lane.full ≡ None)
unread lane first buf Unread h = inl h
unread lane first buf NothingRead h = inr h.0.full
unread lane first buf (Read got) h = inr h.0.full

unread-drained : (lane : Lane) (first : List Answer) (buf : List ℕ) (first_look : FirstRead) → ReadsFirst lane first buf first_look → is_drained lane ≡ true → first ≡ []
unread-drained lane first buf first_look h drained = go (unread lane first buf first_look h) where
  go : (first ≡ []) ⊎ (lane.full ≡ None) → first ≡ []
  go (inl none) = none
  go (inr e) = absurd (cc (sym drained ∙ not-drained lane e))

unread-stalled : (lane : Lane) (first : List Answer) (buf : List ℕ) (first_look : FirstRead) → ReadsFirst lane first buf first_look → is_stalled lane ≡ true → first ≡ []
unread-stalled lane first buf first_look h stalled = go (unread lane first buf first_look h) where
  go : (first ≡ []) ⊎ (lane.full ≡ None) → first ≡ []
  go (inl none) = none
  go (inr e) = absurd (cc (sym stalled ∙ not-stalled lane e))

-- the turn of a live lane that isn't full nor overdue, and has nothing to write, if it hears nothing and that leaves it as it is
pub quiet-listens : (now : ℕ) (lane : Lane) (first : List Answer) → lane.stage ≡ Live → lane.full ≡ None → has_unwritten lane ≡ false → is_late now lane.since lane.protocol ≡ false →
    Hears lane.wire lane.protocol lane.protocol first input.Nothing → after_hearing lane.protocol lane ≡ lane → Listens now lane lane first None
quiet-listens now lane first live unfull unwritten in_time hears hearing =
    let settles : Settles now lane lane [] input.Nothing None = second (is_late now lane.since lane.protocol) _ _ in_time (refl, refl, refl) in
    let loses : LosesAt lane.stage lane lane None = subst (λ (s : Stage). LosesAt s lane lane None) (sym live) (refl, refl) in
    let turns : TurnsLive now lane lane first None = record {
      input = input.Nothing;
      protocol = lane.protocol;
      settled = lane;
      said = lane;
      trace = None;
      read = first;
      shut = [];
      written = [];
      all = sym (append-nil first);
      hears = hears;
      settles = subst (λ (l : Lane). Settles now l lane [] input.Nothing None) (sym hearing) settles;
      says = silent now lane unwritten;
      loses = loses;
    } in
    let still : lane ≡ after_turn now lane = ap (λ f. record lane { full = f }) (unfull ∙ ap (full_after_turn now) (sym unfull)) in
    let on : TurnsByFullness now lane lane first None = second (is_drained lane) _ _ (not-drained lane unfull) (second (is_stalled lane) _ _ (not-stalled lane unfull) (lane, turns, still)) in
    subst (λ (s : Stage). TurnsAt s now lane lane first None) (sym live) on

-- the turn of a calm lane that isn't overdue and whose wire gave nothing
pub calm-listens : (now : ℕ) (lane : Lane) (first : List Answer) (buf : List ℕ) → is_overdue now lane ≡ false → ReadsFirst lane first buf NothingRead → Listens now lane lane first None
calm-listens now lane first buf in_time h =
    let calm = h.0 in
    quiet-listens now lane first calm.live calm.full (nothing-unwritten lane calm) in_time (calm-input lane first buf h) (calm-hearing lane calm.protocol)

-- ---- what calls that end with this come to

-- a message is heard after bytes that came
pub looked : {E : Type 0} (r : Result Input E) (before mid after : WebSocketState) (count : ℕ) (buf : List ℕ) (got : Option ℕ) → got ≡ Some count → Feeds before.lane (take count buf) mid.lane → IfOk r (Finds mid after) → (mid.lost_bytes ≡ before.lost_bytes) × (after.lost_bytes ≡ before.lost_bytes) →
    count ≤ PIECE → length buf ≡ PIECE → mid.last_read_was_full ≡ (count == length buf) →
    IfOk r (λ heard. (wire : ℕ) (answer : Answer) → IsCalm before → Reads wire PIECE answer (option_map (λ n. take n buf) got) → HearsWebSocket wire before after (answer ∷ []) heard)
looked (Ok heard) before mid after count buf got e fed f same small long full = λ wire answer calm h.
    hears-after wire before mid after (take count buf) answer heard calm.wants_read calm.whole (subst (λ (o : Option ℕ). Reads wire PIECE answer (option_map (λ n. take n buf) o)) e h) fed same.0
    (filled count buf mid.last_read_was_full (omega (arith, small, long)) full ∙ ap (λ n. length (take count buf) == n) long) f same.1
looked (Err why) before mid after count buf got e fed f same small long full = f

-- nothing more is told after a look that read the wire
pub after-first_look : {E : Type 0} (r : Result Input E) (trace : Option (List Answer)) (before : Lane) (protocol : Protocol) (buf : List ℕ) (first_look : FirstRead) (got : Option ℕ) → first_look ≡ Read got →
    IfOk r (λ heard. (first : List Answer) → ReadsFirst before first buf (Read got) → Hears before.wire before.protocol protocol first heard) →
    IfOk r (λ heard. (first : List Answer) → ReadsFirst before first buf first_look → (answers : List Answer) × Tells trace trace answers × Hears before.wire before.protocol protocol (first ++ answers) heard)
after-first_look (Ok heard) trace before protocol buf first_look got e h = λ first reads_first.
    let k = h first (subst (λ x. ReadsFirst before first buf x) e reads_first) in
    ([], tells-none trace, subst (λ (l : List Answer). Hears before.wire before.protocol protocol l heard) (sym (append-nil first)) k)
after-first_look (Err why) trace before protocol buf first_look got e h = h

-- the turn of a live lane that has drained
pub drained-turns : (a b : Option (List Answer)) (now : ℕ) (before after : Lane) (buf : List ℕ) (first_look : FirstRead) (heard : Option Event) → is_drained before ≡ true →
    ((answers : List Answer) × Tells a b answers × Drains now before after answers heard) →
    (first : List Answer) → ReadsFirst before first buf first_look → (answers : List Answer) × Tells a b answers × TurnsByFullness now before after (first ++ answers) heard
drained-turns a b now before after buf first_look heard drained h first reads_first =
    let turns : TurnsByFullness now before after h.0 heard = first-of (is_drained before) _ _ drained h.2 in
    (h.0, h.1, subst (λ (l : List Answer). TurnsByFullness now before after (l ++ h.0) heard) (sym (unread-drained before first buf first_look reads_first drained)) turns)

-- of one that has stalled
pub stalled-turns : (a b : Option (List Answer)) (now : ℕ) (before after : Lane) (buf : List ℕ) (first_look : FirstRead) (heard : Option Event) → is_drained before ≡ false → is_stalled before ≡ true →
    ((answers : List Answer) × Tells a b answers × Falls before after answers heard) →
    (first : List Answer) → ReadsFirst before first buf first_look → (answers : List Answer) × Tells a b answers × TurnsByFullness now before after (first ++ answers) heard
stalled-turns a b now before after buf first_look heard more stalled h first reads_first =
    let turns : TurnsByFullness now before after h.0 heard = second (is_drained before) _ _ more (first-of (is_stalled before) _ _ stalled h.2) in
    (h.0, h.1, subst (λ (l : List Answer). TurnsByFullness now before after (l ++ h.0) heard) (sym (unread-stalled before first buf first_look reads_first stalled)) turns)

-- of any other
pub on-turns : (a b : Option (List Answer)) (now : ℕ) (before mid after : Lane) (first : List Answer) (heard : Option Event) → is_drained before ≡ false → is_stalled before ≡ false →
    ((answers : List Answer) × Tells a b answers × TurnsLive now before mid (first ++ answers) heard) → after ≡ after_turn now mid →
    (answers : List Answer) × Tells a b answers × TurnsByFullness now before after (first ++ answers) heard
on-turns a b now before mid after first heard more moves h e =
    (h.0, h.1, second (is_drained before) _ _ more (second (is_stalled before) _ _ moves (mid, h.2, e)))

-- of any live lane
pub live-turns : {E : Type 0} (r : Result (Option Event) E) (a b : Option (List Answer)) (now : ℕ) (before after : Lane) (buf : List ℕ) (first_look : FirstRead) → before.stage ≡ Live →
    IfOk r (λ heard. (first : List Answer) → ReadsFirst before first buf first_look → (answers : List Answer) × Tells a b answers × TurnsByFullness now before after (first ++ answers) heard) →
    IfOk r (λ heard. (first : List Answer) → ReadsFirst before first buf first_look → (answers : List Answer) × Tells a b answers × Listens now before after (first ++ answers) heard)
live-turns (Ok heard) a b now before after buf first_look live h = λ first reads_first.
    let k = h first reads_first in
    (k.0, k.1, subst (λ (s : Stage). TurnsAt s now before after (first ++ k.0) heard) (sym live) k.2)
live-turns (Err why) a b now before after buf first_look live h = h

-- the turn of the lane of a place
pub turns-here : {E : Type 0} (r : Result (Option Event) E) (a b : Option (List Answer)) (now index : ℕ) (lanes after : List Lane) (lane next : Lane) (buf : List ℕ) (first_look : FirstRead) → index < length lanes →
    get_or lanes index lane ≡ lane → after ≡ set lanes index next →
    IfOk r (λ heard. (first : List Answer) → ReadsFirst lane first buf first_look → (answers : List Answer) × Tells a b answers × Listens now lane next (first ++ answers) heard) →
    IfOk r (λ heard. (first : List Answer) → ReadsFirstAt index lanes first buf first_look → (answers : List Answer) × Tells a b answers
    × DoesHere index (λ before after said. Listens now before after (first ++ said) heard) lanes after answers)
turns-here (Ok heard) a b now index lanes after lane next buf first_look within found order h = λ first reads_first.
    let same : reads_first.0 ≡ lane = sym reads_first.1 ∙ get_or_default lanes index reads_first.0 lane within ∙ found in
    let k = h first (subst (λ (l : Lane). ReadsFirst l first buf first_look) same reads_first.2) in
    (k.0, k.1, record { lane = lane; next = next; at = found; order = order; does = k.2 })
turns-here (Err why) a b now index lanes after lane next buf first_look within found order h = h
