-- What memory leaves that runs out in a turn.
use Rattle.std.proofs.Common.{◌≡◌, ◌≤◌, ◌<◌, ℕ, List, [], ◌∷◌, ◌++◌, ◌⊎◌, Bool, true, Option, None, Some, Result, Ok, Err, OnErr, refl, sym, ap, ◌∙◌, subst, inl, inr, length, set, get_or, take, option_map, max, is_some}
use Rattle.std.proofs.lemmas.List.{append-nil, get_or_default}
use Rattle.hw_door.specs.declared.heard.Event.{Event}
use Rattle.hw_lanes.specs.declared.http.Request.{Request}
use Rattle.hh_http.specs.Asks.{Asks}
use Rattle.hw_door.specs.Traffic.{Answer, polled, accepted}
use Rattle.hw_socket.specs.Reading.{Feeds, Loses}
use Rattle.hw_net.specs.declared.input.Input.{Input}
use Rattle.hw_net.specs.declared.input.Input.TheVariants as input
use Rattle.hw_net.specs.declared.limits.TheConstants.{PIECE}
use Rattle.hw_net.specs.declared.first_read.FirstRead.{FirstRead}
use Rattle.hw_net.specs.declared.first_read.FirstRead.TheVariants.{Read}
use Rattle.hw_net.specs.declared.protocol.Protocol.{Protocol}
use Rattle.hw_net.specs.declared.protocol.Protocol.TheVariants.{Http, Response, Socket}
use Rattle.hw_net.specs.declared.protocol.Stage.TheVariants.{Live}
use Rattle.hw_net.specs.Door.{Begins, kept, time_to_wait, with_accepted, index_of_first}
use Rattle.hw_net.specs.FirstReads.{ReadsFirst, ReadsFirstAt, IsCalmProtocol}
use Rattle.hw_net.specs.Halting.{HaltsHttp, HaltsResponse, HaltsSocket, HaltsIn, Halts, HaltsWithin, HaltsAll, HaltsNext, IsDue, IsLasting}
use Rattle.hw_net.specs.HttpState.{HttpStateView, HearsHttp, Finds as HttpFinds, IsCalm as IsCalmHttp, requests_of}
use Rattle.hw_net.specs.ResponseState.{ResponseStateView, HearsResponse, IsAnswered}
use Rattle.hw_net.specs.Lane.{Lane, after_hearing}
use Rattle.hw_net.specs.Lanes.{DoesHere}
use Rattle.hw_net.specs.Trace.{Tells, Reads}
use Rattle.hw_net.specs.Turn.{Hears}
use Rattle.hw_net.specs.Walks.{Walks}
use Rattle.hw_net.specs.WebSocketState.{WebSocketState, HearsWebSocket, ReadsInto, IsCalm}
use Rattle.hw_net.proofs.Calm.{last_read_was_full}
use Rattle.hw_net.proofs.Telling.{tells-none, tells-more}

pub on-err : {T E P : Type 0} (r : Result T E) → P → OnErr r P
on-err (Ok x) h = tt
on-err (Err e) h = h

-- ---- lanes of requests

pub http-unread : (wire : ℕ) (before after : HttpStateView) → after ≡ before → HaltsHttp wire before after []
http-unread wire before after e = (
  before.lane,
  Some [],
  [],
  refl,
  λ bytes requests asks. subst (λ (b : List ℕ). Asks b (requests ++ []) after.lane.held) (sym (append-nil bytes))
      (subst (λ (r : List Request). Asks bytes r after.lane.held) (sym (append-nil requests)) (subst (λ (h : HttpStateView). Asks bytes requests h.lane.held) (sym e) asks)),
  inl refl,
)

http-later : (wire : ℕ) (before mid after : HttpStateView) (answers : List Answer) → HttpFinds before mid input.Nothing → HaltsHttp wire mid after answers → HaltsHttp wire before after answers
http-later wire before mid after answers f h =
    (h.0, h.1, h.2, h.3, λ bytes requests asks. h.4 bytes requests (subst (λ (l : List ℕ). Asks bytes requests l) (sym f.0) asks), h.5)

pub halts-later : {E : Type 0} (a b : Option (List Answer)) (wire : ℕ) (before mid after : HttpStateView) (r : Result Input E) → HttpFinds before mid input.Nothing →
    OnErr r ((answers : List Answer) × Tells a b answers × HaltsHttp wire mid after answers) → OnErr r ((answers : List Answer) × Tells a b answers × HaltsHttp wire before after answers)
halts-later a b wire before mid after (Ok heard) f h = h
halts-later a b wire before mid after (Err why) f h = (h.0, h.1, http-later wire before mid after h.0 f h.2)

-- ---- WebSockets

pub halts-unfed : (a b : Option (List Answer)) (wire room : ℕ) (before after : WebSocketState) (piece : List ℕ) → before.wants_read ≡ true → room ≡ PIECE →
    ((answer : Answer) × Tells a b (answer ∷ []) × Reads wire room answer (Some piece)) → after ≡ record before { last_read_was_full = true; lost_bytes = true } →
    (answers : List Answer) × Tells a b answers × HaltsSocket wire before after answers
halts-unfed a b wire room before after piece wants size h e =
    (h.0 ∷ [], h.1, (Some piece, last_read_was_full wire before h.0 (Some piece) wants (subst (λ n. Reads wire n h.0 (Some piece)) size h.2), inl e))

pub halts-unheard : {E : Type 0} (a b : Option (List Answer)) (wire : ℕ) (before mid after : WebSocketState) (whole : Bool) (r : Result Input E) → whole ≡ true →
    ((answers : List Answer) × Tells a b answers × ReadsInto wire before mid answers whole) → OnErr r (Loses mid.lane after.lane) →
    OnErr r ((answers : List Answer) × Tells a b answers × HaltsSocket wire before after answers)
halts-unheard a b wire before mid after whole (Ok heard) e h l = l
halts-unheard a b wire before mid after whole (Err why) e h l = (h.0, h.1, (h.2.got, h.2.read, inr (mid.lane, h.2.fed, inl l)))

-- the same after a first look
pub unfed-after : (before after : WebSocketState) (buf : List ℕ) (got : Option ℕ) → after ≡ record before { last_read_was_full = true; lost_bytes = true } →
    (wire : ℕ) (answer : Answer) → IsCalm before → Reads wire PIECE answer (option_map (λ n. take n buf) got) → HaltsSocket wire before after (answer ∷ [])
unfed-after before after buf got e wire answer calm h =
    (option_map (λ n. take n buf) got, last_read_was_full wire before answer (option_map (λ n. take n buf) got) calm.wants_read h, inl e)

pub unheard-after : {E : Type 0} (r : Result Input E) (before mid after : WebSocketState) (count : ℕ) (buf : List ℕ) (got : Option ℕ) → got ≡ Some count → Feeds before.lane (take count buf) mid.lane →
    OnErr r (Loses mid.lane after.lane) →
    OnErr r ((wire : ℕ) (answer : Answer) → IsCalm before → Reads wire PIECE answer (option_map (λ n. take n buf) got) → HaltsSocket wire before after (answer ∷ []))
unheard-after (Ok heard) before mid after count buf got e fed l = l
unheard-after (Err why) before mid after count buf got e fed l = λ wire answer calm h.
    let same : Reads wire PIECE answer (Some (take count buf)) = subst (λ (o : Option ℕ). Reads wire PIECE answer (option_map (λ n. take n buf) o)) e h in
    (Some (take count buf), last_read_was_full wire before answer (Some (take count buf)) calm.wants_read same, inr (mid.lane, fed, inl l))

-- ---- lanes

-- what was heard before memory ran out for a 100
pub due-halts : (wire : ℕ) (before after : Protocol) (answers : List Answer) (heard : Input) → Hears wire before after answers heard → IsDue after → HaltsIn wire before after answers
due-halts wire (Http before) (Http after) answers heard h due =
    (h.mid, h.got, requests_of heard, h.read, h.asks, inr due)
due-halts wire (Socket before) (Socket after) answers heard h due = absurd due
due-halts wire (Response before) (Response after) answers heard h due = absurd due
due-halts wire (Http before) (Socket after) answers heard h due = absurd h
due-halts wire (Socket before) (Http after) answers heard h due = absurd h
due-halts wire (Response before) (Http after) answers heard h due = absurd h
due-halts wire (Response before) (Socket after) answers heard h due = absurd h
due-halts wire (Http before) (Response after) answers heard h due = absurd h
due-halts wire (Socket before) (Response after) answers heard h due = absurd h

-- or for what it comes to
lasting-http : (wire : ℕ) (before after : HttpStateView) (answers : List Answer) (heard : Input) → HearsHttp wire before after answers heard → IsLasting heard → HaltsHttp wire before after answers
lasting-http wire before after answers input.Nothing h l = absurd l
lasting-http wire before after answers (input.Request request) h l = absurd l
lasting-http wire before after answers (input.Refused refusal) h l = (h.mid, h.got, [], h.read, h.asks, inl refl)
lasting-http wire before after answers (input.Response status body) h l = absurd l
lasting-http wire before after answers input.Upgraded h l = absurd h.is_input
lasting-http wire before after answers (input.Message bytes) h l = absurd l
lasting-http wire before after answers input.Broken h l = absurd l
lasting-http wire before after answers input.Gone h l = absurd h.is_input

-- an upgrade that was accepted is heard again
lasting-response : (wire : ℕ) (before after : ResponseStateView) (answers : List Answer) (heard : Input) → HearsResponse wire before after answers heard → IsLasting heard → HaltsResponse wire before after answers
lasting-response wire before after answers input.Nothing h l = absurd l
lasting-response wire before after answers (input.Request request) h l = absurd l
lasting-response wire before after answers (input.Refused refusal) h l = absurd h.is_input
lasting-response wire before after answers (input.Response status body) h l = absurd l
lasting-response wire before after answers input.Upgraded h l = (h.got, h.read, h.upgrade, inr (go h.is_input, h.is_input)) where
  go : ((before.accepted ≡ true) × (is_some before.upgrade ≡ true) × (after ≡ before)) ⊎ IsAnswered before after h.got input.Upgraded → after.accepted ≡ true
  go (inl k) = ap (λ (s : ResponseStateView). s.accepted) k.2 ∙ k.0
  go (inr k) = k.2
lasting-response wire before after answers (input.Message bytes) h l = absurd l
lasting-response wire before after answers input.Broken h l = absurd l
lasting-response wire before after answers input.Gone h l = absurd h.is_input

lasting-socket : (wire : ℕ) (before after : WebSocketState) (answers : List Answer) (heard : Input) → HearsWebSocket wire before after answers heard → IsLasting heard → HaltsSocket wire before after answers
lasting-socket wire before after answers input.Nothing h l = absurd l
lasting-socket wire before after answers (input.Request request) h l = absurd l
lasting-socket wire before after answers (input.Refused refusal) h l = absurd h.is_input
lasting-socket wire before after answers (input.Response status body) h l = absurd l
lasting-socket wire before after answers input.Upgraded h l = absurd h.is_input
lasting-socket wire before after answers (input.Message bytes) h l = absurd l
lasting-socket wire before after answers input.Broken h l = absurd l
lasting-socket wire before after answers input.Gone h l = let gets = h.is_input.0.1 in (h.got, h.read, inr (gets.0, gets.1, inr gets.2))

pub lasting-halts : (wire : ℕ) (before after : Protocol) (answers : List Answer) (heard : Input) → Hears wire before after answers heard → IsLasting heard → HaltsIn wire before after answers
lasting-halts wire (Http before) (Http after) answers heard h l = lasting-http wire before after answers heard h l
lasting-halts wire (Socket before) (Socket after) answers heard h l = lasting-socket wire before after answers heard h l
lasting-halts wire (Response before) (Response after) answers heard h l = lasting-response wire before after answers heard h l
lasting-halts wire (Http before) (Socket after) answers heard h l = absurd h
lasting-halts wire (Socket before) (Http after) answers heard h l = absurd h
lasting-halts wire (Response before) (Http after) answers heard h l = absurd h
lasting-halts wire (Response before) (Socket after) answers heard h l = absurd h
lasting-halts wire (Http before) (Response after) answers heard h l = absurd h
lasting-halts wire (Socket before) (Response after) answers heard h l = absurd h

-- a first look gave this, and then nothing else was read
pub after-look : {E : Type 0} (r : Result Input E) (a : Option (List Answer)) (lane after : Lane) (buf : List ℕ) (first_look : FirstRead) (got : Option ℕ) → first_look ≡ Read got →
    OnErr r ((first : List Answer) → ReadsFirst lane first buf (Read got) → HaltsIn lane.wire lane.protocol after.protocol first) →
    OnErr r ((first : List Answer) → ReadsFirst lane first buf first_look → (answers : List Answer) × Tells a a answers × HaltsIn lane.wire lane.protocol after.protocol (first ++ answers))
after-look (Ok heard) a lane after buf first_look got e h = h
after-look (Err why) a lane after buf first_look got e h = λ first reads_first. (
  [],
  tells-none a,
  subst (λ (l : List Answer). HaltsIn lane.wire lane.protocol after.protocol l) (sym (append-nil first)) (h first (subst (λ (f : FirstRead). ReadsFirst lane first buf f) e reads_first)),
)

pub calm-halts : {E : Type 0} (r : Result Input E) (lane : Lane) (before after : WebSocketState) (buf : List ℕ) (got : Option ℕ) → lane.protocol ≡ Socket before →
    OnErr r ((wire : ℕ) (answer : Answer) → IsCalm before → Reads wire PIECE answer (option_map (λ n. take n buf) got) → HaltsSocket wire before after (answer ∷ [])) →
    OnErr r ((first : List Answer) → ReadsFirst lane first buf (Read got) → HaltsIn lane.wire lane.protocol (Socket after) first)
calm-halts (Ok heard) lane before after buf got e h = h
calm-halts (Err why) lane before after buf got e h = λ first reads_first.
    let calm : IsCalm before = subst (λ (p : Protocol). IsCalmProtocol p) e reads_first.0.protocol in
    let halts = h lane.wire reads_first.1.0 calm reads_first.1.2 in
    subst (λ (l : List Answer). HaltsIn lane.wire lane.protocol (Socket after) l) (sym reads_first.1.1)
    (subst (λ (p : Protocol). HaltsIn lane.wire p (Socket after) (reads_first.1.0 ∷ [])) (sym e) halts)

pub calm-http-halts : {E : Type 0} (r : Result Input E) (lane : Lane) (before after : HttpStateView) (buf : List ℕ) (got : Option ℕ) → lane.protocol ≡ Http before →
    OnErr r ((wire : ℕ) (answer : Answer) → IsCalmHttp before → Reads wire PIECE answer (option_map (λ n. take n buf) got) → HaltsHttp wire before after (answer ∷ [])) →
    OnErr r ((first : List Answer) → ReadsFirst lane first buf (Read got) → HaltsIn lane.wire lane.protocol (Http after) first)
calm-http-halts (Ok heard) lane before after buf got e h = h
calm-http-halts (Err why) lane before after buf got e h = λ first reads_first.
    let calm : IsCalmHttp before = subst (λ (p : Protocol). IsCalmProtocol p) e reads_first.0.protocol in
    let halts = h lane.wire reads_first.1.0 calm reads_first.1.2 in
    subst (λ (l : List Answer). HaltsIn lane.wire lane.protocol (Http after) l) (sym reads_first.1.1)
    (subst (λ (p : Protocol). HaltsIn lane.wire p (Http after) (reads_first.1.0 ∷ [])) (sym e) halts)

-- the same of what the lane speaks
pub halts-in : {E : Type 0} (r : Result Input E) (a b : Option (List Answer)) (wire : ℕ) (protocol before after : Protocol) → protocol ≡ before →
    OnErr r ((answers : List Answer) × Tells a b answers × HaltsIn wire before after answers) → OnErr r ((answers : List Answer) × Tells a b answers × HaltsIn wire protocol after answers)
halts-in (Ok heard) a b wire protocol before after e h = h
halts-in (Err why) a b wire protocol before after e h = (h.0, h.1, subst (λ (p : Protocol). HaltsIn wire p after h.0) (sym e) h.2)

-- ---- a turn

pub halts-hearing : (a b : Option (List Answer)) (before heard : Lane) (first : List Answer) →
    ((answers : List Answer) × Tells a b answers × HaltsIn before.wire before.protocol heard.protocol (first ++ answers)) → heard ≡ record before { protocol = heard.protocol } →
    before.stage ≡ Live → (answers : List Answer) × Tells a b answers × Halts before heard (first ++ answers)
halts-hearing a b before heard first h e live = (h.0, h.1, (heard.protocol, h.2, inl e, live))

pub halts-saying : (a b : Option (List Answer)) (before heard said : Lane) (input : Input) (first : List Answer) →
    ((answers : List Answer) × Tells a b answers × Hears before.wire before.protocol heard.protocol (first ++ answers) input) → heard ≡ record before { protocol = heard.protocol } →
    (said ≡ heard) × IsDue heard.protocol → before.stage ≡ Live → (answers : List Answer) × Tells a b answers × Halts before said (first ++ answers)
halts-saying a b before heard said input first h e due live =
    (h.0, h.1, (heard.protocol, due-halts before.wire before.protocol heard.protocol (first ++ h.0) input h.2 due.1, inl (due.0 ∙ e), live))

pub halts-taking : (a b c : Option (List Answer)) (before heard said taken : Lane) (input : Input) (first : List Answer) →
    ((answers : List Answer) × Tells a b answers × Hears before.wire before.protocol heard.protocol (first ++ answers) input) → heard ≡ record before { protocol = heard.protocol } →
    said ≡ after_hearing heard.protocol heard → (taken ≡ said) × (c ≡ b) × IsLasting input → before.stage ≡ Live → (answers : List Answer) × Tells a c answers × Halts before taken (first ++ answers)
halts-taking a b c before heard said taken input first h e s lasts live = (
  h.0,
  subst (λ (o : Option (List Answer)). Tells a o h.0) (sym lasts.1) h.1,
  (
    heard.protocol,
    lasting-halts before.wire before.protocol heard.protocol (first ++ h.0) input h.2 lasts.2,
    inr (lasts.0 ∙ s ∙ ap (λ (l : Lane). after_hearing heard.protocol l) e),
    live,
  ),
)

-- ---- a place

pub halts-here : {E : Type 0} (r : Result (Option Event) E) (a b : Option (List Answer)) (index : ℕ) (lanes after : List Lane) (lane next : Lane) (buf : List ℕ) (first_look : FirstRead) → index < length lanes →
    get_or lanes index lane ≡ lane → after ≡ set lanes index next →
    OnErr r ((first : List Answer) → ReadsFirst lane first buf first_look → (answers : List Answer) × Tells a b answers × Halts lane next (first ++ answers)) →
    OnErr r ((first : List Answer) → ReadsFirstAt index lanes first buf first_look → (answers : List Answer) × Tells a b answers
    × DoesHere index (λ before after said. Halts before after (first ++ said)) lanes after answers)
halts-here (Ok heard) a b index lanes after lane next buf first_look within found order h = h
halts-here (Err why) a b index lanes after lane next buf first_look within found order h = λ first reads_first.
    let same : reads_first.0 ≡ lane = sym reads_first.1 ∙ get_or_default lanes index reads_first.0 lane within ∙ found in
    let k = h first (subst (λ (l : Lane). ReadsFirst l first buf first_look) same reads_first.2) in
    (k.0, k.1, record { lane = lane; next = next; at = found; order = order; does = k.2 })

-- after the turns of the places before it
pub halts-after-look : (a b c d : Option (List Answer)) (now : ℕ) (begin index end : ℕ) (all cur after : List Lane) (buf : List ℕ) (first_look : FirstRead) → begin ≤ index → index < end →
    ((answers : List Answer) × Tells a b answers × Walks now None begin index all cur answers None) →
    ((answers : List Answer) × Tells b c answers × ReadsFirstAt index cur answers buf first_look) →
    ((first : List Answer) → ReadsFirstAt index cur first buf first_look
    → (answers : List Answer) × Tells c d answers × DoesHere index (λ lane next said. Halts lane next (first ++ said)) cur after answers) →
    (answers : List Answer) × Tells a d answers × HaltsWithin now begin end all after answers
halts-after-look a b c d now begin index end all cur after buf first_look le lt h look turn =
    let k = turn look.0 look.2 in (
      h.0 ++ (look.0 ++ k.0),
      tells-more a b d h.0 (look.0 ++ k.0) h.1 (tells-more b c d look.0 k.0 look.1 k.1),
      (
        index,
        cur,
        h.0,
        look.0 ++ k.0,
        le,
        lt,
        refl,
        h.2,
        record { lane = k.2.lane; next = k.2.next; at = k.2.at; order = k.2.order; does = k.2.does },
      ),
    )

-- the lanes from this number on, and then those before it
pub halts-sooner : (a b : Option (List Answer)) (now from index end : ℕ) (all cur : List Lane) → index ≡ index_of_first from all → end ≡ length all →
    ((answers : List Answer) × Tells a b answers × HaltsWithin now index end all cur answers) → (answers : List Answer) × Tells a b answers × HaltsAll now from all cur answers
halts-sooner a b now from index end all cur e f h =
    (h.0, h.1, inl (subst (λ n. HaltsWithin now (index_of_first from all) n all cur h.0) f (subst (λ n. HaltsWithin now n end all cur h.0) e h.2)))

pub halts-later-on : {E : Type 0} (a b c : Option (List Answer)) (now from index : ℕ) (all cur after : List Lane) (r : Result (Option Event) E) → index ≡ index_of_first from all →
    ((answers : List Answer) × Tells a b answers × Walks now None index (length all) all cur answers None) →
    OnErr r ((answers : List Answer) × Tells b c answers × HaltsWithin now 0 index cur after answers) → OnErr r ((answers : List Answer) × Tells a c answers × HaltsAll now from all after answers)
halts-later-on a b c now from index all cur after (Ok heard) e w h = h
halts-later-on a b c now from index all cur after (Err why) e w h = (
  w.0 ++ h.0,
  tells-more a b c w.0 h.0 w.1 h.1,
  inr (cur, w.0, h.0, refl, subst (λ n. Walks now None n (length all) all cur w.0 None) e w.2, subst (λ n. HaltsWithin now 0 n cur after h.0) e h.2),
)

-- ---- a call of `next`

pub halts-next : (a b c d : Option (List Answer)) (wait now from before after_from after_moment named after_named : ℕ) (lanes kept_lanes with_new after : List Lane) →
    ((moment : ℕ) × Tells a b (polled (time_to_wait wait (kept lanes)) moment ∷ []) × (now ≡ max moment before)) → kept_lanes ≡ kept lanes →
    ((wire : Option ℕ) × Tells b c (accepted wire ∷ []) × (with_new ≡ with_accepted now wire kept_lanes)) →
    ((begin : ℕ) × Begins (record { lanes = with_new; from = from; named = named; moment = before }) begin after_named × ((answers : List Answer) × Tells c d answers × HaltsAll now begin with_new after answers)) →
    after_from ≡ from → after_moment ≡ before →
    (answers : List Answer) × Tells a d answers
    × HaltsNext wait (record { lanes = lanes; from = from; named = named; moment = before }) (record { lanes = after; from = after_from; named = after_named; moment = after_moment }) answers
halts-next a b c d wait now from before after_from after_moment named after_named lanes kept_lanes with_new after p same q h from_is moment_is =
    let grown : with_new ≡ with_accepted now q.0 (kept lanes) = q.2 ∙ ap (λ (l : List Lane). with_accepted now q.0 l) same in
    let halted : HaltsAll now h.0 (with_accepted now q.0 (kept lanes)) after h.2.0 = subst (λ (l : List Lane). HaltsAll now h.0 l after h.2.0) grown h.2.2 in (
      polled (time_to_wait wait (kept lanes)) p.0 ∷ accepted q.0 ∷ h.2.0,
      tells-more a b d (polled (time_to_wait wait (kept lanes)) p.0 ∷ []) (accepted q.0 ∷ h.2.0) p.1 (tells-more b c d (accepted q.0 ∷ []) h.2.0 q.1 h.2.1),
      inr (record {
        now = p.0;
        wire = q.0;
        turns = h.2.0;
        begin = h.0;
        all = refl;
        begins = h.1;
        halts = subst (λ n. HaltsAll n h.0 (with_accepted n q.0 (kept lanes)) after h.2.0) p.2 halted;
        from = from_is;
        moment = moment_is;
      }),
    )
