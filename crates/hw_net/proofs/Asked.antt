-- In a session the requests heard on a lane are those of all bytes read on its wire.
use Rattle.std.proofs.Common.{◌≡◌, ◌==◌, ◌++◌, ◌∷◌, [], ℕ, Bool, true, false, if◌then◌else◌, List, Option, None, Some, refl, sym, ap, ◌∙◌, subst, ◌⊎◌, inl, inr, append-nil, append_assoc, length}
use Rattle.hw_lanes.specs.declared.http.Refusal.{Refusal}
use Rattle.hw_lanes.specs.declared.http.Reply.{Reply}
use Rattle.hw_lanes.specs.declared.http.Request.{Request}
use Rattle.hh_http.specs.Asks.{Asks, request_grammar}
use Rattle.hh_http.specs.Messages.{Refuses}
use Rattle.hh_http.specs.Texts.{reply_text}
use Rattle.hw_door.specs.declared.heard.Event.{Event}
use Rattle.hw_door.specs.declared.heard.Event.TheVariants as event
use Rattle.hw_door.specs.Traffic.{Answer, bytes_in, not_yet, ended, read_failed, bytes_out, write_failed, was_shut, read_on}
use Rattle.hw_net.specs.declared.limits.TheConstants.{SWITCHING}
use Rattle.hw_net.specs.declared.input.Input.{Input}
use Rattle.hw_net.specs.declared.input.Input.TheVariants as input
use Rattle.hw_net.specs.declared.protocol.Protocol.{Protocol}
use Rattle.hw_net.specs.declared.protocol.Protocol.TheVariants.{Http, Response, Socket}
use Rattle.hw_net.specs.declared.protocol.Stage.{Stage}
use Rattle.hw_net.specs.declared.protocol.Stage.TheVariants.{Live, Lost, Closing, Over}
use Rattle.hw_net.specs.declared.response_state.Expected.{Expected}
use Rattle.hw_net.specs.HttpState.{HttpStateView, requests_of}
use Rattle.hw_net.specs.ResponseState.{ResponseStateView}
use Rattle.hw_net.specs.Door.{new_lane}
use Rattle.hw_net.specs.Lane.{Lane, waits, accepted_socket, after_reply, owes, is_live, is_overdue, protocol_after_shut, protocol_after_reply, protocol_after_upgrade, new_socket, rest_of, after_hearing, protocol_after_continue}
use Rattle.hw_net.specs.Saying.{Writes, WritesOut, DropsOrWrites, SpeaksAs, Says, SaysAt, SaysMore, GathersOrSays, must_end, has_closed_long, is_too_much}
use Rattle.hw_net.specs.Sessions as session
use Rattle.hw_net.specs.Sessions.{Call, Session, answers_in, answers_of, request_on, requests_on, HeardRequests, RequestsAreAsked, RefusalsAreDeserved}
use Rattle.hw_net.specs.Trace.{Reads, Gives, Chooses, bytes_of}
use Rattle.hw_net.specs.Turn.{Hears, Falls, Passes, Settles, Loses, LosesAt, TurnsLive, TurnsAt, Listens, Replies, PutsAt, Sends, Shuts}
use Rattle.hw_net.proofs.Bystanders.{SaysOrStays, Stays, gathered-says}
use Rattle.hw_net.proofs.Fullness.{by-fullness, SaysPut}
use Rattle.hw_net.proofs.Moves.{ActsAt, has-of}
use Rattle.hw_net.proofs.Owning.{is_on}
use Rattle.hw_net.proofs.Shares.{share, read-append, read-share, same}
use Rattle.hw_net.proofs.Walks.{IsHeard, Heeds, Moves, moves-wire, IsUntouched, each-lane, each-before, off-and-on, mover, unrequested}

-- these requests were heard of these bytes
abbrev pub HeardIn : List ℕ → List Request → Protocol → Type 0
HeardIn bytes requests (Http http_state) = Asks bytes requests http_state.lane.held
HeardIn bytes requests (Response response_state) = ⊥
HeardIn bytes requests (Socket websocket_state) =
    (first : List ℕ) × (rest : List ℕ) × (more : List ℕ) × (bytes ≡ first ++ more) × Asks first requests rest

-- the same, as far as what was read: the bytes held, or a WebSocket
abbrev pub ReadsAs : Protocol → Protocol → Type 0
ReadsAs (Http before) (Http after) = after.lane.held ≡ before.lane.held
ReadsAs (Http before) (Socket after) = Unit {0}
ReadsAs (Response before) (Response after) = after ≡ before
ReadsAs (Response before) (Socket after) = Unit {0}
ReadsAs (Socket before) (Socket after) = Unit {0}
ReadsAs _ _ = ⊥

pub reads-same : (before after : Protocol) → after ≡ before → ReadsAs before after
reads-same before after e = subst (λ (t : Protocol). ReadsAs before t) (sym e) (go before) where
  go : (t : Protocol) → ReadsAs t t
  go (Http http_state) = refl
  go (Response response_state) = refl
  go (Socket websocket_state) = tt

pub reads-on : (a b c : Protocol) → ReadsAs a b → ReadsAs b c → ReadsAs a c
reads-on (Http a) (Http b) (Http c) h k = k ∙ h
reads-on (Http a) (Http b) (Socket c) h k = tt
reads-on (Http a) (Socket b) (Socket c) h k = tt
reads-on (Response a) (Response b) (Response c) h k = k ∙ h
reads-on (Response a) (Response b) (Socket c) h k = tt
reads-on (Response a) (Socket b) (Socket c) h k = tt
reads-on (Socket a) (Socket b) (Socket c) h k = tt
reads-on (Http a) (Response b) c h k = absurd h
reads-on (Response a) (Http b) c h k = absurd h
reads-on (Socket a) (Http b) c h k = absurd h
reads-on (Socket a) (Response b) c h k = absurd h
reads-on (Http a) (Http b) (Response c) h k = absurd k
reads-on (Http a) (Socket b) (Http c) h k = absurd k
reads-on (Http a) (Socket b) (Response c) h k = absurd k
reads-on (Response a) (Response b) (Http c) h k = absurd k
reads-on (Response a) (Socket b) (Http c) h k = absurd k
reads-on (Response a) (Socket b) (Response c) h k = absurd k
reads-on (Socket a) (Socket b) (Http c) h k = absurd k
reads-on (Socket a) (Socket b) (Response c) h k = absurd k

-- so what was heard is as before
reads-heard : (before after : Protocol) (bytes : List ℕ) (requests : List Request) → ReadsAs before after → HeardIn bytes requests before → HeardIn bytes requests after
reads-heard (Http before) (Http after) bytes requests e h = subst (λ (l : List ℕ). Asks bytes requests l) (sym e) h
reads-heard (Http before) (Socket after) bytes requests e h = (bytes, before.lane.held, [], sym (append-nil bytes), h)
reads-heard (Response before) after bytes requests e h = absurd h
reads-heard (Socket before) (Socket after) bytes requests e h = h
reads-heard (Http before) (Response after) bytes requests e h = absurd e
reads-heard (Socket before) (Http after) bytes requests e h = absurd e
reads-heard (Socket before) (Response after) bytes requests e h = absurd e

-- nothing is read, and what was is as before
abbrev pub Silent : Lane → Lane → List Answer → Type 0
Silent before after answers = ((wire : ℕ) → read_on wire answers ≡ []) × ReadsAs before.protocol after.protocol

-- ---- writing

writes-none : (at wire : ℕ) (waits : List ℕ) (sent : List Answer) (left : List ℕ) (whole : Bool) → Writes wire waits sent left whole → read_on at sent ≡ []
writes-none at wire waits [] left whole h = refl
writes-none at wire waits (bytes_out to [] ∷ []) left whole h = refl
writes-none at wire waits (bytes_out to (b ∷ bs) ∷ answers) left whole h = writes-none at wire h.1.0 answers left whole h.1.2
writes-none at wire waits (write_failed to ∷ []) left whole h = refl
writes-none at wire waits _ left whole h = absurd h

speaks-reads : (before after : Protocol) → SpeaksAs before after → ReadsAs before after
speaks-reads (Http before) (Http after) e = ap (λ (a : HttpStateView). a.lane.held) e
speaks-reads (Response before) (Response after) e = e
speaks-reads (Socket before) (Socket after) e = tt
speaks-reads _ _ e = absurd e

none-of : (wire : ℕ) (answers all : List Answer) → all ≡ answers → read_on wire answers ≡ [] → read_on wire all ≡ []
none-of wire answers all e f = ap (λ l. read_on wire l) e ∙ f

pub writes-silent : (before after : Lane) (answers : List Answer) → WritesOut before after answers → Silent before after answers
writes-silent before after answers w = (λ wire. go wire (must_end before.stage (length (waits after)) w.is_whole) refl, speaks-reads before.protocol after.protocol w.still.protocol) where
  none : (wire : ℕ) → read_on wire w.sent ≡ []
  none wire = writes-none wire before.wire (waits before) w.sent (waits after) w.is_whole w.writes

  go : (wire : ℕ) (b : Bool) → must_end before.stage (length (waits after)) w.is_whole ≡ b → read_on wire answers ≡ []
  go wire true e = none-of wire (w.sent ++ was_shut before.wire ∷ []) answers (w.ends e).0 (read-append wire w.sent (was_shut before.wire ∷ []) ∙ append-nil (read_on wire w.sent) ∙ none wire)
  go wire false e = none-of wire w.sent answers (w.stays e).0 (none wire)

protocol-silent : (before after : Lane) (answers : List Answer) → ((wire : ℕ) → read_on wire answers ≡ []) → after.protocol ≡ before.protocol → Silent before after answers
protocol-silent before after answers none e = (none, reads-same before.protocol after.protocol e)

pub still-silent : (before after : Lane) (answers : List Answer) → answers ≡ [] → after ≡ before → Silent before after answers
still-silent before after answers e f = protocol-silent before after answers (λ wire. none-of wire [] answers e refl) (ap (λ (l : Lane). l.protocol) f)

dropped-or-silent : (is_dropped : Bool) (before after : Lane) (answers : List Answer) → DropsOrWrites is_dropped before after answers → Silent before after answers
dropped-or-silent true before after answers h = protocol-silent before after answers (λ wire. none-of wire (was_shut before.wire ∷ []) answers h.0 refl) (ap (λ (l : Lane). l.protocol) h.1)
dropped-or-silent false before after answers h = writes-silent before after answers h

pub says-silent : (now : ℕ) (before after : Lane) (answers : List Answer) → Says now before after answers → Silent before after answers
says-silent now before after answers h = go before.stage h where
  go : (s : Stage) → SaysAt s now before after answers → Silent before after answers
  go Live h = writes-silent before after answers h
  go Lost h = still-silent before after answers h.0 h.1
  go Closing h = dropped-or-silent (has_closed_long now before.since) before after answers h
  go Over h = still-silent before after answers h.0 h.1

pub more-silent : (before after : Lane) (answers : List Answer) → SaysMore before after answers → Silent before after answers
more-silent before after answers h = dropped-or-silent (is_too_much (length (waits before))) before after answers h

pub bystander-silent : (now : ℕ) (before after : Lane) (answers : List Answer) → SaysOrStays now before after answers → Silent before after answers
bystander-silent now before after answers (inl h) = says-silent now before after answers h
bystander-silent now before after answers (inr h) = still-silent before after answers h.1 h.0

gathered-silent : (before after : Lane) (answers : List Answer) → GathersOrSays before after answers → Silent before after answers
gathered-silent before after answers h = go (gathered-says before after answers h) where
  go : SaysMore before after answers ⊎ Stays before after answers → Silent before after answers
  go (inl k) = more-silent before after answers k
  go (inr k) = still-silent before after answers k.1 k.0

-- ---- hearing

got-read : (wire at : ℕ) (bytes piece : List ℕ) → at ≡ wire → piece ≡ bytes → (if at == wire then bytes ++ [] else []) ≡ piece
got-read wire at bytes piece e f = ap (λ n. if n == wire then bytes ++ [] else []) e ∙ ap (λ b. if b then bytes ++ [] else []) (same wire) ∙ append-nil bytes ∙ sym f

reads-bytes : (wire room : ℕ) (answer : Answer) (got : Option (List ℕ)) → Reads wire room answer got → read_on wire (answer ∷ []) ≡ bytes_of got
reads-bytes wire room (bytes_in at bytes) (Some piece) h = got-read wire at bytes piece h.0 h.1
reads-bytes wire room (not_yet at) (Some piece) h = sym h.1
reads-bytes wire room (ended at) None h = refl
reads-bytes wire room (read_failed at) None h = refl
reads-bytes wire room _ _ h = absurd h

pub gives-bytes : (wire room : ℕ) (answers : List Answer) (got : Option (List ℕ)) → Gives wire room answers got → read_on wire answers ≡ bytes_of got
gives-bytes wire room [] got h = sym (ap bytes_of h)
gives-bytes wire room (answer ∷ []) got h = reads-bytes wire room answer got h.1
gives-bytes wire room (answer ∷ next ∷ more) got h = absurd h

hears-asked : (wire : ℕ) (before after : Protocol) (answers : List Answer) (what : Input) (bytes : List ℕ) (requests : List Request) → Hears wire before after answers what → HeardIn bytes requests before →
    HeardIn (bytes ++ read_on wire answers) (requests ++ requests_of what) after
hears-asked wire (Http before) (Http after) answers what bytes requests h k =
    subst (λ (l : List ℕ). Asks (bytes ++ l) (requests ++ requests_of what) after.lane.held) (sym (gives-bytes wire _ answers h.got h.read)) (h.asks bytes requests k)
hears-asked wire (Response before) (Response after) answers what bytes requests h k = absurd k
hears-asked wire (Socket before) (Socket after) answers what bytes requests h k =
    (k.0, k.1, k.2 ++ read_on wire answers, ap (λ l. l ++ read_on wire answers) k.3 ∙ append_assoc k.0 k.2 (read_on wire answers), go what h.is_input) where
      same-requests : (more : List Request) → more ≡ [] → Asks k.0 (requests ++ more) k.1
      same-requests more e = subst (λ (l : List Request). Asks k.0 l k.1) (sym (ap (λ l. requests ++ l) e ∙ append-nil requests)) k.4

      go : (what : Input) → Rattle.hw_net.specs.WebSocketState.IsInput before after answers h.got what → Asks k.0 (requests ++ requests_of what) k.1
      go input.Nothing n = same-requests [] refl
      go (input.Request request) n = absurd n
      go (input.Refused refusal) n = absurd n
      go (input.Response status body) n = absurd n
      go input.Upgraded n = absurd n
      go (input.Message message) n = same-requests [] refl
      go input.Broken n = same-requests [] refl
      go input.Gone n = same-requests [] refl
hears-asked wire _ _ answers what bytes requests h k = absurd h

accepted-reads : (upgrade : Option Expected) (response_state : ResponseStateView) → ReadsAs (Response response_state) (accepted_socket upgrade response_state)
accepted-reads None response_state = refl
accepted-reads (Some expected) response_state = tt

upgrade-reads : (protocol : Protocol) → ReadsAs protocol (protocol_after_upgrade protocol)
upgrade-reads (Http http_state) = refl
upgrade-reads (Response response_state) = accepted-reads response_state.upgrade response_state
upgrade-reads (Socket websocket_state) = tt

shut-reads : (protocol : Protocol) → ReadsAs protocol (protocol_after_shut protocol)
shut-reads (Http http_state) = refl
shut-reads (Response response_state) = refl
shut-reads (Socket websocket_state) = tt

falls-silent : (before after : Lane) (answers : List Answer) (heard : Option Event) → Falls before after answers heard → Silent before after answers
falls-silent before after answers heard h = protocol-silent before after answers (λ wire. none-of wire (was_shut before.wire ∷ []) answers h.0 refl) (ap (λ (l : Lane). l.protocol) h.2)

passes-silent : (before becomes after : Lane) (answers : List Answer) (trace heard : Option Event) → becomes.protocol ≡ before.protocol → Passes becomes after answers trace heard → Silent before after answers
passes-silent before becomes after answers trace heard e h = protocol-silent before after answers (λ wire. none-of wire [] answers h.0 refl) (ap (λ (l : Lane). l.protocol) h.2 ∙ e)

pub settles-silent : (now : ℕ) (before after : Lane) (answers : List Answer) (what : Input) (heard : Option Event) → Settles now before after answers what heard → Silent before after answers
settles-silent now before after answers input.Nothing heard h = go (is_overdue now before) h where
  go : (b : Bool) → Chooses b (Falls before after answers heard) (Passes before after answers None heard) → Silent before after answers
  go true h = falls-silent before after answers heard h
  go false h = passes-silent before before after answers None heard refl h
settles-silent now before after answers (input.Request request) heard h = passes-silent before before after answers _ heard refl h
settles-silent now before after answers (input.Refused refusal) heard h = passes-silent before _ after answers _ heard refl h
settles-silent now before after answers (input.Message bytes) heard h = passes-silent before before after answers _ heard refl h
settles-silent now before after answers (input.Response status body) heard h = passes-silent before before after answers _ heard refl h
settles-silent now before after answers input.Upgraded heard h =
    (λ wire. none-of wire [] answers h.0 refl, subst (λ (l : Lane). ReadsAs before.protocol l.protocol) (sym h.2) (upgrade-reads before.protocol))
settles-silent now before after answers input.Broken heard h = falls-silent before after answers heard h
settles-silent now before after answers input.Gone heard h =
    (λ wire. none-of wire [] answers h.0 refl, subst (λ (l : Lane). ReadsAs before.protocol l.protocol) (sym h.2) (shut-reads before.protocol))

-- the requests that are heard
abbrev pub requests_in : ℕ → Option Event → List Request
requests_in wire None = []
requests_in wire (Some trace) = request_on wire trace

trace-request : (wire : ℕ) (request : Request) → request_on wire (event.Request wire request) ≡ request ∷ []
trace-request wire request = ap (λ b. if b then request ∷ [] else []) (same wire)

pub settles-requests : (now : ℕ) (before after : Lane) (answers : List Answer) (what : Input) (heard : Option Event) → Settles now before after answers what heard → requests_in before.wire heard ≡ requests_of what
settles-requests now before after answers input.Nothing heard h = go (is_overdue now before) h where
  go : (b : Bool) → Chooses b (Falls before after answers heard) (Passes before after answers None heard) → requests_in before.wire heard ≡ []
  go true h = ap (λ o. requests_in before.wire o) h.1
  go false h = ap (λ o. requests_in before.wire o) h.1
settles-requests now before after answers (input.Request request) heard h = ap (λ o. requests_in before.wire o) h.1 ∙ trace-request before.wire request
settles-requests now before after answers (input.Refused refusal) heard h = ap (λ o. requests_in before.wire o) h.1
settles-requests now before after answers (input.Response status body) heard h = ap (λ o. requests_in before.wire o) h.1
settles-requests now before after answers input.Upgraded heard h = ap (λ o. requests_in before.wire o) h.1
settles-requests now before after answers (input.Message bytes) heard h = ap (λ o. requests_in before.wire o) h.1
settles-requests now before after answers input.Broken heard h = ap (λ o. requests_in before.wire o) h.1
settles-requests now before after answers input.Gone heard h = ap (λ o. requests_in before.wire o) h.1

pub loses-requests : (wire : ℕ) (trace : Option Event) (before after : Lane) (heard : Option Event) → Loses trace before after heard → requests_in wire heard ≡ requests_in wire trace
loses-requests wire (Some here) before after heard h = ap (λ o. requests_in wire o) h.0
loses-requests wire None before after heard h = go before.stage h where
  go : (s : Stage) → LosesAt s before after heard → requests_in wire heard ≡ []
  go Live h = ap (λ o. requests_in wire o) h.0
  go Lost h = ap (λ o. requests_in wire o) h.0
  go Closing h = ap (λ o. requests_in wire o) h.0
  go Over h = ap (λ o. requests_in wire o) h.0

loses-protocol : (trace : Option Event) (before after : Lane) (heard : Option Event) → Loses trace before after heard → after.protocol ≡ before.protocol
loses-protocol (Some here) before after heard h = ap (λ (l : Lane). l.protocol) h.1
loses-protocol None before after heard h = go before.stage h where
  go : (s : Stage) → LosesAt s before after heard → after.protocol ≡ before.protocol
  go Live h = ap (λ (l : Lane). l.protocol) h.1
  go Lost h = ap (λ (l : Lane). l.protocol) h.1
  go Closing h = ap (λ (l : Lane). l.protocol) h.1
  go Over h = ap (λ (l : Lane). l.protocol) h.1

-- ---- turns

-- what a lane read and heard in a call
abbrev Asked : Lane → Lane → List Answer → List Request → Type 0
Asked x y mine more =
    (bytes : List ℕ) (requests : List Request) → HeardIn bytes requests x.protocol → HeardIn (bytes ++ read_on x.wire mine) (requests ++ more) y.protocol

nothing-more : (x y : Lane) (mine : List Answer) (more : List Request) → Silent x y mine → more ≡ [] → Asked x y mine more
nothing-more x y mine more s e bytes requests k =
    subst (λ (l : List Request). HeardIn (bytes ++ read_on x.wire mine) l y.protocol) (sym (ap (λ l. requests ++ l) e ∙ append-nil requests))
    (subst (λ (l : List ℕ). HeardIn l requests y.protocol) (sym (ap (λ l. bytes ++ l) (s.0 x.wire) ∙ append-nil bytes)) (reads-heard x.protocol y.protocol bytes requests s.1 k))

pub live-reads : (wire : ℕ) (answers read shut written : List Answer) → answers ≡ read ++ (shut ++ written) → read_on wire shut ≡ [] → read_on wire written ≡ [] → read_on wire answers ≡ read_on wire read
live-reads wire answers read shut written all e f =
    ap (λ l. read_on wire l) all ∙ read-append wire read (shut ++ written) ∙ ap (λ l. read_on wire read ++ l) (read-append wire shut written ∙ ap (λ l. l ++ read_on wire written) e ∙ f) ∙ append-nil (read_on wire read)

continue-reads : (protocol : Protocol) → ReadsAs protocol (protocol_after_continue protocol)
continue-reads (Http http_state) = refl
continue-reads (Response response_state) = refl
continue-reads (Socket websocket_state) = tt

-- once a live lane has heard, the rest of its turn is silent
pub rest-silent : (now : ℕ) (x y : Lane) (mine : List Answer) (own : Option Event) (h : TurnsLive now x y mine own) →
    (read_on x.wire mine ≡ read_on x.wire h.read) × ReadsAs h.protocol y.protocol × ReadsAs h.settled.protocol y.protocol
rest-silent now x y mine own h =
    let settled = settles-silent now (after_hearing h.protocol x) h.settled h.shut h.input h.trace h.settles in
    let said = says-silent now h.settled h.said h.written h.says in
    let last : ReadsAs h.settled.protocol y.protocol = subst (λ (t : Protocol). ReadsAs h.settled.protocol t) (sym (loses-protocol h.trace h.said y own h.loses)) said.1 in (
      live-reads x.wire mine h.read h.shut h.written h.all (settled.0 x.wire) (said.0 x.wire),
      reads-on h.protocol (protocol_after_continue h.protocol) y.protocol (continue-reads h.protocol) (reads-on (protocol_after_continue h.protocol) h.settled.protocol y.protocol settled.1 last),
      last,
    )

live-asked : (now : ℕ) (x y : Lane) (mine : List Answer) (own : Option Event) → TurnsLive now x y mine own → Asked x y mine (requests_in x.wire own)
live-asked now x y mine own h bytes requests k =
    let news_are : requests_in x.wire own ≡ requests_of h.input =
    loses-requests x.wire h.trace h.said y own h.loses ∙ settles-requests now (after_hearing h.protocol x) h.settled h.shut h.input h.trace h.settles in
    let rest = rest-silent now x y mine own h in
    let heard = hears-asked x.wire x.protocol h.protocol h.read h.input bytes requests h.hears k in
    let all = bytes ++ read_on x.wire h.read in
    let most = requests ++ requests_of h.input in
    let at_end : HeardIn all most y.protocol = reads-heard h.protocol y.protocol all most rest.1 heard in
    subst (λ (l : List ℕ). HeardIn (bytes ++ l) (requests ++ requests_in x.wire own) y.protocol) (sym rest.0) (subst (λ (l : List Request). HeardIn all (requests ++ l) y.protocol) (sym news_are) at_end)

listens-asked : (now : ℕ) (x y : Lane) (mine : List Answer) (own : Option Event) → Listens now x y mine own → Asked x y mine (requests_in x.wire own)
listens-asked now x y mine own h = go x.stage h where
  go : (s : Stage) → TurnsAt s now x y mine own → Asked x y mine (requests_in x.wire own)
  go Live h = by-fullness (λ (l : Lane). Asked x l mine (requests_in x.wire own)) now x y mine own
      (λ d e s. nothing-more x y mine (requests_in x.wire own) (says-silent now (record x { full = None }) y mine s) (ap (λ o. requests_in x.wire o) e))
      (λ s f. nothing-more x y mine (requests_in x.wire own) (falls-silent x y mine own f) (ap (λ o. requests_in x.wire o) f.1))
      (λ mid t. live-asked now x mid mine own t)
      h
  go Lost h = nothing-more x y mine (requests_in x.wire own) (passes-silent x _ y mine _ own refl h) (ap (λ o. requests_in x.wire o) h.1)
  go Closing h = nothing-more x y mine (requests_in x.wire own) (says-silent now x y mine h.1) (ap (λ o. requests_in x.wire o) h.0)
  go Over h = nothing-more x y mine (requests_in x.wire own) (passes-silent x x y mine _ own refl h) (ap (λ o. requests_in x.wire o) h.1)

pub heard-requests : (wire : ℕ) (own : Option Event) (what : Event) → IsHeard wire own what → request_on wire what ≡ requests_in wire own
heard-requests wire None what h = unrequested wire what h
heard-requests wire (Some trace) what h = ap (λ v. request_on wire v) h

heeds-asked : (now : ℕ) (what : Event) (x y : Lane) (mine : List Answer) → Heeds now what x y mine → Asked x y mine (request_on x.wire what)
heeds-asked now what x y mine (inl h) = subst (λ (l : List Request). Asked x y mine l) (sym (heard-requests x.wire h.0 what h.2)) (listens-asked now x y mine h.0 h.1)
heeds-asked now what x y mine (inr h) = nothing-more x y mine (request_on x.wire what) (bystander-silent now x y mine h.0) (unrequested x.wire what h.1)

-- ---- saying

replied-reads : (b : Bool) (protocol : Protocol) → ReadsAs protocol (if b then new_socket (rest_of protocol) else protocol_after_reply protocol)
replied-reads true (Http http_state) = tt
replied-reads true (Response response_state) = tt
replied-reads true (Socket websocket_state) = tt
replied-reads false (Http http_state) = refl
replied-reads false (Response response_state) = refl
replied-reads false (Socket websocket_state) = tt

replied-protocol : (now : ℕ) (reply : Reply) (lane : Lane) → (after_reply now reply lane).protocol ≡ (if reply.status == SWITCHING then new_socket (rest_of lane.protocol) else protocol_after_reply lane.protocol)
replied-protocol now reply lane = go (reply.status == SWITCHING) where
  go : (b : Bool) → (if b then record lane { protocol = new_socket (rest_of lane.protocol); out = lane.out ++ reply_text reply }
      else record lane { protocol = protocol_after_reply lane.protocol; out = lane.out ++ reply_text reply; since = now }).protocol ≡ (if b then new_socket (rest_of lane.protocol) else protocol_after_reply lane.protocol)
  go true = refl
  go false = refl

then-silent : (before mid after : Lane) (answers : List Answer) → ReadsAs before.protocol mid.protocol → Silent mid after answers → Silent before after answers
then-silent before mid after answers f s = (s.0, reads-on before.protocol mid.protocol after.protocol f s.1)

pub replies-silent : (now : ℕ) (reply : Reply) (before after : Lane) (answers : List Answer) → Replies now reply before after answers → Silent before after answers
replies-silent now reply before after answers h = go (owes before) h where
  go : (b : Bool) → Chooses b (SaysMore (after_reply now reply before) after answers) ((answers ≡ []) × (after ≡ before)) → Silent before after answers
  go true h = then-silent before (after_reply now reply before) after answers
      (subst (λ (t : Protocol). ReadsAs before.protocol t) (sym (replied-protocol now reply before)) (replied-reads (reply.status == SWITCHING) before.protocol))
      (more-silent (after_reply now reply before) after answers h)
  go false h = still-silent before after answers h.0 h.1

put-reads : (live : Bool) (protocol : Protocol) (bytes : List ℕ) (text : Bool) (before after : Lane) (is_put : Bool) → before.protocol ≡ protocol → PutsAt live protocol bytes text before after is_put → ReadsAs before.protocol after.protocol
put-reads true (Socket websocket_state) bytes text before after is_put e h = subst (λ (t : Protocol). ReadsAs t after.protocol) (sym e) (subst (λ (l : Lane). ReadsAs (Socket websocket_state) l.protocol) (sym h.2) tt)
put-reads true (Http http_state) bytes text before after is_put e h = reads-same before.protocol after.protocol (ap (λ (l : Lane). l.protocol) h.1)
put-reads true (Response response_state) bytes text before after is_put e h = reads-same before.protocol after.protocol (ap (λ (l : Lane). l.protocol) h.1)
put-reads false protocol bytes text before after is_put e h = reads-same before.protocol after.protocol (ap (λ (l : Lane). l.protocol) h.1)

pub sends-silent : (now : ℕ) (bytes : List ℕ) (text : Bool) (before after : Lane) (answers : List Answer) → Sends now bytes text before after answers → Silent before after answers
sends-silent now bytes text before after answers h = then-silent before h.0 after answers (put-reads (is_live before.stage) before.protocol bytes text before h.0 h.1 refl h.2) (go h.0 h.1 h.3) where
  go : (mid : Lane) (b : Bool) → SaysPut now b mid after answers → Silent mid after answers
  go mid true h = subst (λ (l : Lane). Silent mid l answers) (sym h.2) (gathered-silent mid h.0 answers h.1)
  go mid false h = still-silent mid after answers h.0 h.1

pub shuts-silent : (now : ℕ) (before after : Lane) (answers : List Answer) → Shuts now before after answers → Silent before after answers
shuts-silent now before after answers h = go (is_live before.stage) h where
  go : (b : Bool) → Chooses b (WritesOut (record before { since = now; protocol = protocol_after_shut before.protocol; stage = Closing }) after answers) ((answers ≡ []) × (after ≡ before)) → Silent before after answers
  go true h = then-silent before (record before { since = now; protocol = protocol_after_shut before.protocol; stage = Closing }) after answers (shut-reads before.protocol)
      (writes-silent (record before { since = now; protocol = protocol_after_shut before.protocol; stage = Closing }) after answers h)
  go false h = still-silent before after answers h.0 h.1

pub at-silent : (wire : ℕ) (Does : Lane → Lane → List Answer → Type 0) (x y : Lane) (mine : List Answer) → (Does x y mine → Silent x y mine) → ActsAt wire Does x y mine → Silent x y mine
at-silent wire Does x y mine each h = go (x.wire == wire) h where
  go : (b : Bool) → Chooses b (Does x y mine) ((y ≡ x) × (mine ≡ [])) → Silent x y mine
  go true h = each h
  go false h = still-silent x y mine h.1 h.0

-- ---- sessions

-- what is heard in a call
abbrev pub requests_by : ℕ → Call → List Request
requests_by wire (session.heard what answers) = request_on wire what.event
requests_by wire _ = []

moves-asked : (call : Call) (x y : Lane) → Moves call x y → Asked x y (share x.wire (answers_in call)) (requests_by x.wire call)
moves-asked (session.heard what answers) x y h = heeds-asked what.now what.event x y (share x.wire answers) h
moves-asked (session.replied lane reply answers) x y h =
    nothing-more x y (share x.wire answers) [] (at-silent lane (Replies h.0 reply) x y (share x.wire answers) (replies-silent h.0 reply x y (share x.wire answers)) h.1) refl
moves-asked (session.sent lane bytes text full answers) x y h =
    nothing-more x y (share x.wire answers) [] (at-silent lane (Sends h.0 bytes text) x y (share x.wire answers) (sends-silent h.0 bytes text x y (share x.wire answers)) h.1) refl
moves-asked (session.shut lane answers) x y h = nothing-more x y (share x.wire answers) [] (at-silent lane (Shuts h.0) x y (share x.wire answers) (shuts-silent h.0 x y (share x.wire answers)) h.1) refl
moves-asked (session.wrote lane answers) x y h = nothing-more x y (share x.wire answers) [] (bystander-silent 0 x y (share x.wire answers) h) refl

pub requests-more : (wire : ℕ) (call : Call) (calls : List Call) → requests_on wire (call ∷ calls) ≡ requests_on wire calls ++ requests_by wire call
requests-more wire (session.heard what answers) calls = refl
requests-more wire (session.replied lane reply answers) calls = sym (append-nil (requests_on wire calls))
requests-more wire (session.sent lane bytes text full answers) calls = sym (append-nil (requests_on wire calls))
requests-more wire (session.shut lane answers) calls = sym (append-nil (requests_on wire calls))
requests-more wire (session.wrote lane answers) calls = sym (append-nil (requests_on wire calls))

pub read-more : (wire : ℕ) (calls : List Call) (call : Call) → read_on wire (answers_of (call ∷ calls)) ≡ read_on wire (answers_of calls) ++ read_on wire (share wire (answers_in call))
read-more wire calls call = read-append wire (answers_of calls) (answers_in call) ∙ ap (λ l. read_on wire (answers_of calls) ++ l) (read-share wire (answers_in call))

abbrev pub IsAsked : List Call → Lane → Type 0
IsAsked calls lane = HeardIn (read_on lane.wire (answers_of calls)) (requests_on lane.wire calls) lane.protocol

-- what a lane heard, and then what a call adds
asked-more : (call : Call) (calls : List Call) (x y : Lane) → IsAsked calls x → Moves call x y → HeardIn (read_on x.wire (answers_of (call ∷ calls))) (requests_on x.wire (call ∷ calls)) y.protocol
asked-more call calls x y k h =
    subst (λ (l : List ℕ). HeardIn l (requests_on x.wire (call ∷ calls)) y.protocol) (sym (read-more x.wire calls call))
    (subst (λ (l : List Request). HeardIn (read_on x.wire (answers_of calls) ++ read_on x.wire (share x.wire (answers_in call))) l y.protocol) (sym (requests-more x.wire call calls))
    (moves-asked call x y h (read_on x.wire (answers_of calls)) (requests_on x.wire calls) k))

pub step-asked : (call : Call) (calls : List Call) (x y : Lane) → IsAsked calls x → Moves call x y → IsAsked (call ∷ calls) y
step-asked call calls x y k h =
    subst (λ n. HeardIn (read_on n (answers_of (call ∷ calls))) (requests_on n (call ∷ calls)) y.protocol) (sym (moves-wire call x y h)) (asked-more call calls x y k h)

pub new-asked : (calls : List Call) (now wire : ℕ) → IsUntouched wire calls → IsAsked calls (new_lane now wire)
new-asked calls now wire h =
    subst (λ (l : List Request). Asks (read_on wire (answers_of calls)) l []) (sym h.requests) (read-share wire (answers_of calls) ∙ ap (λ l. read_on wire l) h.answers)

heard-requests-of : (calls : List Call) (wire : ℕ) (protocol : Protocol) → HeardIn (read_on wire (answers_of calls)) (requests_on wire calls) protocol → HeardRequests calls wire protocol
heard-requests-of calls wire (Http http_state) h = h
heard-requests-of calls wire (Response response_state) h = h
heard-requests-of calls wire (Socket websocket_state) h = h

pub requests-are-asked : RequestsAreAsked
requests-are-asked calls bound now h lane has =
    heard-requests-of calls lane.wire lane.protocol (each-lane IsAsked new-asked step-asked calls bound now h lane (has-of now.lanes lane has))

-- ---- refusals

abbrev refusal_of : Input → Option Refusal
refusal_of (input.Refused refusal) = Some refusal
refusal_of _ = None

abbrev refusal_in : Option Event → Option Refusal
refusal_in (Some (event.Refused at refusal)) = Some refusal
refusal_in _ = None

settles-refusal : (now : ℕ) (before after : Lane) (answers : List Answer) (what : Input) (heard : Option Event) → Settles now before after answers what heard → refusal_in heard ≡ refusal_of what
settles-refusal now before after answers input.Nothing heard h = go (is_overdue now before) h where
  go : (b : Bool) → Chooses b (Falls before after answers heard) (Passes before after answers None heard) → refusal_in heard ≡ None
  go true h = ap (λ o. refusal_in o) h.1
  go false h = ap (λ o. refusal_in o) h.1
settles-refusal now before after answers (input.Request request) heard h = ap (λ o. refusal_in o) h.1
settles-refusal now before after answers (input.Refused refusal) heard h = ap (λ o. refusal_in o) h.1
settles-refusal now before after answers (input.Response status body) heard h = ap (λ o. refusal_in o) h.1
settles-refusal now before after answers input.Upgraded heard h = ap (λ o. refusal_in o) h.1
settles-refusal now before after answers (input.Message bytes) heard h = ap (λ o. refusal_in o) h.1
settles-refusal now before after answers input.Broken heard h = ap (λ o. refusal_in o) h.1
settles-refusal now before after answers input.Gone heard h = ap (λ o. refusal_in o) h.1

loses-refusal : (trace : Option Event) (before after : Lane) (heard : Option Event) → Loses trace before after heard → refusal_in heard ≡ refusal_in trace
loses-refusal (Some here) before after heard h = ap (λ o. refusal_in o) h.0
loses-refusal None before after heard h = go before.stage h where
  go : (s : Stage) → LosesAt s before after heard → refusal_in heard ≡ None
  go Live h = ap (λ o. refusal_in o) h.0
  go Lost h = ap (λ o. refusal_in o) h.0
  go Closing h = ap (λ o. refusal_in o) h.0
  go Over h = ap (λ o. refusal_in o) h.0

-- these bytes leave what is refused so
abbrev Deserves : List ℕ → List Request → Refusal → Type 0
Deserves bytes requests refusal = (rest : List ℕ) × Asks bytes requests rest × Refuses request_grammar rest refusal

hears-refused : (wire : ℕ) (before after : Protocol) (answers : List Answer) (what : Input) (refusal : Refusal) (bytes : List ℕ) (requests : List Request) → refusal_of what ≡ Some refusal → Hears wire before after answers what →
    HeardIn bytes requests before → Deserves (bytes ++ read_on wire answers) requests refusal
hears-refused wire (Http before) (Http after) answers (input.Refused trace) refusal bytes requests e h k =
    let same_refusal : trace ≡ refusal = cc e in (
      after.lane.held,
      subst (λ (l : List ℕ). Asks (bytes ++ l) requests after.lane.held) (sym (gives-bytes wire _ answers h.got h.read))
          (subst (λ (l : List Request). Asks (bytes ++ bytes_of h.got) l after.lane.held) (append-nil requests) (h.asks bytes requests k)),
      subst (λ (r : Refusal). Refuses request_grammar after.lane.held r) same_refusal h.is_input.3,
    )
hears-refused wire (Socket before) (Socket after) answers (input.Refused trace) refusal bytes requests e h k = absurd h.is_input
hears-refused wire (Http before) (Socket after) answers (input.Refused trace) refusal bytes requests e h k = absurd h
hears-refused wire (Socket before) (Http after) answers (input.Refused trace) refusal bytes requests e h k = absurd h
hears-refused wire (Response before) after answers (input.Refused trace) refusal bytes requests e h k = absurd k
hears-refused wire (Http before) (Response after) answers (input.Refused trace) refusal bytes requests e h k = absurd h
hears-refused wire (Socket before) (Response after) answers (input.Refused trace) refusal bytes requests e h k = absurd h
hears-refused wire before after answers _ refusal bytes requests e h k = absurd (cc e)

live-refused : (now : ℕ) (x y : Lane) (mine : List Answer) (own : Option Event) (refusal : Refusal) (bytes : List ℕ) (requests : List Request) → TurnsLive now x y mine own → refusal_in own ≡ Some refusal →
    HeardIn bytes requests x.protocol → Deserves (bytes ++ read_on x.wire mine) requests refusal
live-refused now x y mine own refusal bytes requests h e k =
    let news_is : refusal_of h.input ≡ Some refusal =
    sym (settles-refusal now (after_hearing h.protocol x) h.settled h.shut h.input h.trace h.settles) ∙ sym (loses-refusal h.trace h.said y own h.loses) ∙ e in
    subst (λ (l : List ℕ). Deserves (bytes ++ l) requests refusal) (sym (rest-silent now x y mine own h).0) (hears-refused x.wire x.protocol h.protocol h.read h.input refusal bytes requests news_is h.hears k)

listens-refused : (now : ℕ) (x y : Lane) (mine : List Answer) (own : Option Event) (refusal : Refusal) (bytes : List ℕ) (requests : List Request) → Listens now x y mine own → refusal_in own ≡ Some refusal →
    HeardIn bytes requests x.protocol → Deserves (bytes ++ read_on x.wire mine) requests refusal
listens-refused now x y mine own refusal bytes requests h e k = go x.stage h where
  never : ◌≡◌ {A = Option Refusal} None (Some refusal) → Deserves (bytes ++ read_on x.wire mine) requests refusal
  never f = absurd (cc f)

  go : (s : Stage) → TurnsAt s now x y mine own → Deserves (bytes ++ read_on x.wire mine) requests refusal
  go Live h = by-fullness (λ (l : Lane). Deserves (bytes ++ read_on x.wire mine) requests refusal) now x y mine own
      (λ d f s. never (sym (ap (λ o. refusal_in o) f) ∙ e))
      (λ s f. never (sym (ap (λ o. refusal_in o) f.1) ∙ e))
      (λ mid t. live-refused now x mid mine own refusal bytes requests t e k)
      h
  go Lost h = never (sym (ap (λ o. refusal_in o) h.1) ∙ e)
  go Closing h = never (sym (ap (λ o. refusal_in o) h.0) ∙ e)
  go Over h = never (sym (ap (λ o. refusal_in o) h.1) ∙ e)

is-refused : (wire : ℕ) (refusal : Refusal) → is_on wire (event.Refused wire refusal) ≡ true
is-refused wire refusal = same wire

heeds-refused : (now : ℕ) (what : Event) (x y : Lane) (mine : List Answer) (refusal : Refusal) (bytes : List ℕ) (requests : List Request) → Heeds now what x y mine → what ≡ event.Refused x.wire refusal →
    HeardIn bytes requests x.protocol → Deserves (bytes ++ read_on x.wire mine) requests refusal
heeds-refused now what x y mine refusal bytes requests (inl h) e k = go h.0 h.1 h.2 where
  go : (own : Option Event) → Listens now x y mine own → IsHeard x.wire own what → Deserves (bytes ++ read_on x.wire mine) requests refusal
  go None l is = absurd (off-and-on (is_on x.wire what) is (ap (λ v. is_on x.wire v) e ∙ is-refused x.wire refusal))
  go (Some trace) l is = listens-refused now x y mine (Some trace) refusal bytes requests l (ap (λ v. refusal_in (Some v)) (sym is ∙ e)) k
heeds-refused now what x y mine refusal bytes requests (inr h) e k = absurd (off-and-on (is_on x.wire what) h.1 (ap (λ v. is_on x.wire v) e ∙ is-refused x.wire refusal))

pub refusals-are-deserved : RefusalsAreDeserved
refusals-are-deserved what answers calls bound now h lane refusal e =
    let m = mover what answers calls bound now h lane (ap (λ v. is_on lane v) e ∙ is-refused lane refusal) in
    let x = m.0 in
    let heard_before : IsAsked calls x = each-before IsAsked new-asked step-asked (session.heard what answers) calls bound now h x m.2 in
    let here : what.event ≡ event.Refused x.wire refusal = e ∙ ap (λ n. event.Refused n refusal) (sym m.4) in
    let at_wire : Deserves (read_on x.wire (answers_of (session.heard what answers ∷ calls))) (requests_on x.wire calls) refusal =
    subst (λ (l : List ℕ). Deserves l (requests_on x.wire calls) refusal) (sym (read-more x.wire calls (session.heard what answers)))
    (heeds-refused what.now what.event x m.1 (share x.wire answers) refusal (read_on x.wire (answers_of calls)) (requests_on x.wire calls) m.5 here heard_before) in
    subst (λ n. Deserves (read_on n (answers_of (session.heard what answers ∷ calls))) (requests_on n calls) refusal) m.4 at_wire
