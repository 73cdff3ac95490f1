-- What a server does about an event that it hears: what it notes, which connections begin or end, which bytes go to which of them, and
-- what it replies at once.
use Rattle.std.specs.Prelude.{ℕ, suc, Bool, true, false, not, ◌&&◌, ◌||◌, ◌==◌, List, [], ◌∷◌, ◌++◌, find, Option, Some, None, is_some, option_map, unwrap_or, if◌then◌else◌}
use Rattle.std.specs.List.{flat_map}
use Rattle.std.specs.Fmt.{decimal}
use Rattle.hw_lanes.specs.declared.http.Request.{Request}
use Rattle.hw_lanes.specs.declared.http.Reply.{Reply}
use Rattle.hw_lanes.specs.declared.http.BodyKind.TheVariants as kind
use Rattle.hw_lanes.specs.declared.http.ReplyField.{ReplyField}
use Rattle.hw_lanes.specs.declared.http.ReplyField.TheVariants.{AllowPost, AllowGetPostDelete, AuthenticateBearer}
use Rattle.hd_delivery.specs.declared.vocabulary.Side.TheVariants.{Server}
use Rattle.hd_delivery.specs.declared.vocabulary.Reason.{Reason}
use Rattle.hd_delivery.specs.declared.vocabulary.Reason.TheVariants as reason
use Rattle.hd_delivery.specs.Histories.{EndEvent, Attached, Detached, Closed, is_this, link_count}
use Rattle.hd_delivery.specs.Worlds.{Limits}
use Rattle.hd_delivery.specs.Bytes.{Wire}
use Rattle.hd_delivery.specs.Bytes.{Does as Step_of}
use Rattle.hd_calls.specs.Ids.{id_at}
use Rattle.hd_calls.specs.Peers.{Plain, Settings}
use Rattle.hd_rooms.specs.declared.vocabulary.Asked.TheVariants as keeper
use Rattle.hw_door.specs.declared.heard.Event.{Event}
use Rattle.hw_door.specs.declared.heard.Event.TheVariants as event
use Rattle.hd_server.specs.declared.vocabulary.Life.{Life}
use Rattle.hd_server.specs.declared.vocabulary.Life.TheVariants.{Polling}
use Rattle.hd_server.specs.declared.vocabulary.Said.TheVariants as say
use Rattle.hd_server.specs.Numbers.{most_frame, most_held, most_held_bytes, most_live}
use Rattle.hd_server.specs.Lives.{ConnectionEvent, Negotiated, Opened, Socketed, Polled, Answered, LaneLost, Expired, Removed, made, conn_with, is_resumable_promise, socket_of, poll_of, standing, life_of_some, gives_way, is_busy, overdue}
use Rattle.hd_server.specs.Texts.{token_of, negotiate_body}
use Rattle.hd_server.specs.Table.{Caller, Facts, Outcome, Refusal, NewToken, PlainSocket, TokenSocket, FirstPoll, NextPoll, LastPoll, Posting, Deletion, is_base, id_in, asks_keeper, caller_without, caller_told, outcome}
use Rattle.hd_server.specs.Machine.{Connects, Does, Goes, settings_of, connections}
use Rattle.hd_server.specs.Doings.{ServerEvent, Learns, Draws, Notes, Works, Says, notes, work, wants_shut, was_refused, user_of, history, config_for, has_peer, is_up, may_resume}

-- how a server is begun: its base, how frames are written and read, the limits of each end, and how many connections may live
pub record Setup : Type 0 where
  pub base : List ℕ
  pub wire : Wire
  pub limits : Limits
  pub live : ℕ

-- the setup of every server with this base and wire
abbrev pub usual_setup : List ℕ → Wire → Setup
usual_setup base wire = record {
  base = base;
  wire = wire;
  limits = record { frame = most_frame; count = most_held; bytes = most_held_bytes };
  live = most_live;
}

-- these doings, the first first, after those
abbrev pub onto : {A : Type 0} → List A → List A → List A
onto [] h = h
onto (x ∷ xs) h = onto xs (x ∷ h)

-- ---- connections that begin and end

-- how the peer of a connection is begun. It is known by its user's name or, without one, by its number
abbrev pub peer_settings : Setup → ℕ → Option (List ℕ) → Bool → Settings
peer_settings s c user reconnect = record {
  config = config_for reconnect;
  wire = s.wire;
  limits = s.limits;
  name = id_at Server;
  who = unwrap_or user (decimal c);
}

abbrev pub step : ℕ → EndEvent → ServerEvent
step c x = Works (Does c (Plain (Step_of x)))

-- its peer begins, if it has none
abbrev pub connecting : Setup → ℕ → Bool → List ServerEvent → List ServerEvent
connecting s c reconnect h =
    if is_some (settings_of c (work h)) then []
    else (let user = user_of c h in Works (Connects c (peer_settings s c user reconnect) user) ∷ [])

-- a link begins, under the end's own next number
abbrev pub attaching : ℕ → ℕ → List ServerEvent → List ServerEvent
attaching c now h = step c (Attached (link_count (history c h)) now) ∷ []

-- its own side closes it, if it is open
abbrev pub closing : ℕ → Reason → List ServerEvent → List ServerEvent
closing c why h = if is_up c h then step c (Closed why false) ∷ [] else []

-- its peer is dropped, if it has one
abbrev pub dropping : ℕ → List ServerEvent → List ServerEvent
dropping c h = if has_peer c h then Works (Goes c) ∷ [] else []

-- nothing is kept of it
abbrev pub removing_conn : ℕ → List ServerEvent → List ServerEvent
removing_conn c h = dropping c h ++ Notes (Removed c) ∷ []

-- what a moment has ended: a connection that polls is closed, and of every other nothing is kept
abbrev pub expiring : ℕ → Life → ℕ → List ServerEvent → List ServerEvent
expiring now Polling c h = closing c reason.Expired h ++ Notes (Expired c now) ∷ []
expiring now _ c h = dropping c h ++ Notes (Expired c now) ∷ []

abbrev pub expiries : ℕ → List ServerEvent → List ServerEvent
expiries now h = flat_map (λ c. expiring now (standing c (notes h)) c h) (overdue now (notes h))

-- ---- replies

-- a status alone
abbrev pub bare_reply : ℕ → Reply
bare_reply status = record { status = status; kind = kind.None; body = []; accept = None; field = None; close = false }

abbrev pub socket_reply : Option (List ℕ) → Reply
socket_reply accept = record { status = 101; kind = kind.None; body = []; accept = accept; field = None; close = false }

abbrev pub token_reply : List ℕ → Reply
token_reply body = record { status = 200; kind = kind.Json; body = body; accept = None; field = None; close = false }

-- which methods a path allows that is the base, or else the negotiate (RFC 9110, section 10.2.1)
abbrev pub allowed_at : Bool → ReplyField
allowed_at true = AllowGetPostDelete
allowed_at false = AllowPost

-- what a refusal says of requests that would not be refused so: the methods that are allowed (section 15.5.6), or how a caller is known
-- (section 11.6.1). A path with 405 is one of the two
abbrev pub field_at : Bool → ℕ → Option ReplyField
field_at at_base status = if status == 405 then Some (allowed_at at_base) else (if status == 401 then Some AuthenticateBearer else None)

abbrev pub refusal_reply : List ℕ → Request → ℕ → Reply
refusal_reply base r status = record (bare_reply status) { field = field_at (is_base base r) status }

-- the frames of a poll
abbrev pub frames_reply : List ℕ → Reply
frames_reply body = record { status = 200; kind = kind.Octets; body = body; accept = None; field = None; close = false }

-- the lane is shut, unless the door shut it with a refusal
abbrev pub shutting : ℕ → List ServerEvent → List ServerEvent
shutting lane h = if was_refused lane h then [] else Says (say.Shut lane) ∷ []

-- the lane is shut after a reply of this status: after 400, and where the request asked for that, but for 101; unless the door shut it with
-- a refusal
abbrev pub ends_lane : ℕ → ℕ → List ServerEvent → Bool
ends_lane lane status h = ((status == 400) || (not (status == 101) && wants_shut lane h)) && not (was_refused lane h)

-- the reply as it is said on a lane: it tells whether the lane is shut after it
abbrev pub reply_on : ℕ → Reply → List ServerEvent → Reply
reply_on lane reply h = record reply { close = ends_lane lane reply.status h }

-- the end of a lane that is shut after its reply
abbrev pub shutting_after : ℕ → Reply → List ServerEvent → List ServerEvent
shutting_after lane reply h = if ends_lane lane reply.status h then Says (say.Shut lane) ∷ [] else []

-- a reply, and the end of a lane that is shut after it
abbrev pub replying : ℕ → Reply → List ServerEvent → List ServerEvent
replying lane reply h = Says (say.Reply lane (reply_on lane reply h)) ∷ shutting_after lane reply h

-- a poll that is held ends with 204
abbrev pub ending_poll : ℕ → ℕ → Option (ℕ × ℕ) → List ServerEvent → List ServerEvent
ending_poll c now None h = []
ending_poll c now (Some poll) h = replying poll.0 (bare_reply 204) h ++ Notes (Answered c poll.0 now) ∷ []

abbrev pub ending_held : ℕ → ℕ → List ServerEvent → List ServerEvent
ending_held c now h = ending_poll c now (poll_of c (notes h)) h

-- ---- who is asked for what an event needs

abbrev pub conn_of_some : Option (List ℕ) → List ConnectionEvent → Option ℕ
conn_of_some None h = None
conn_of_some (Some token) h = conn_with token h

-- the connection whose token a request names
abbrev pub named_conn : Request → List ServerEvent → Option ℕ
named_conn r h = conn_of_some (id_in r) (notes h)

abbrev pub may_resume_some : Option ℕ → List ServerEvent → Bool
may_resume_some None h = false
may_resume_some (Some c) h = may_resume c h

-- who asks, where the keeper was asked of this access token or of none
abbrev pub caller_by : Option (List ℕ) → Option (List ℕ) → Option (Option (List ℕ)) → Caller
caller_by None bearer name = caller_without bearer
caller_by (Some token) bearer name = caller_told name

-- the facts about a request, where the keeper answers this and the lots failed or didn't
abbrev pub facts : Setup → ℕ → Request → Option (Option (List ℕ)) → Bool → List ServerEvent → Facts
facts s now r name lots_failed h = record {
  caller = caller_by (asks_keeper s.base r) r.bearer name;
  busy = is_busy s.live now (notes h);
  lots_failed = lots_failed;
  life = life_of_some (named_conn r h) now (notes h);
  granted = may_resume_some (named_conn r h) h;
}

abbrev pub makes_token : Outcome → Bool
makes_token (NewToken reconnect) = true
makes_token _ = false

-- the lots are asked if nothing else stands against a token
abbrev pub asks_lots : Setup → ℕ → Request → Option (Option (List ℕ)) → List ServerEvent → Bool
asks_lots s now r name h = makes_token (outcome s.base r (facts s now r name false h))

abbrev pub learning : Option (List ℕ) → Option (Option (List ℕ)) → List ServerEvent
learning None name = []
learning (Some token) name = Learns (keeper.User token name) ∷ []

-- what is asked, where these are the answers
abbrev pub questions : Setup → ℕ → Event → Option (Option (List ℕ)) → Option (List ℕ) → List ServerEvent → List ServerEvent
questions s now (event.Request lane r) name drawn h =
    learning (asks_keeper s.base r) name ++ (if asks_lots s now r name h then Draws drawn ∷ [] else [])
questions s now _ name drawn h = []

-- ---- plans

-- first this is done; then these bytes are fed to this connection; then that is done
pub record Plan : Type 0 where
  pub first : List ServerEvent
  pub food : Option (ℕ × List ℕ)
  pub last : List ServerEvent

abbrev pub plan_of : List ServerEvent → Plan
plan_of xs = record { first = xs; food = None; last = [] }

-- a request on a lane at a moment
pub record PendingRequest : Type 0 where
  pub now : ℕ
  pub lane : ℕ
  pub request : Request

-- the connection stands on the lane from now on, and is told so
abbrev pub standing_on : Setup → PendingRequest → ℕ → Bool → List ServerEvent → List ServerEvent
standing_on s o c reconnect h =
    connecting s c reconnect h ++ attaching c o.now h ++ Notes (Socketed c o.lane o.now) ∷ replying o.lane (socket_reply o.request.upgrade) h

abbrev pub shutting_some : Option ℕ → List ServerEvent → List ServerEvent
shutting_some None h = []
shutting_some (Some lane) h = shutting lane h

abbrev pub removing_some : Option ℕ → List ServerEvent → List ServerEvent
removing_some None h = []
removing_some (Some c) h = removing_conn c h

-- where as many live as may, nothing is kept of the first that nobody used yet
abbrev pub giving_way : Setup → ℕ → List ServerEvent → List ServerEvent
giving_way s now h = removing_some (gives_way s.live now (notes h)) h

-- a token of what was drawn and the connection's number
abbrev pub new_token : PendingRequest → ℕ → List ℕ → Bool → List ServerEvent → List ServerEvent
new_token o c token reconnect h = Notes (Negotiated c token reconnect o.now) ∷ replying o.lane (token_reply (negotiate_body c token reconnect)) h

-- a connection without a token
abbrev pub new_plain : Setup → PendingRequest → ℕ → List ServerEvent → List ServerEvent
new_plain s o c h = Notes (Opened c o.now) ∷ standing_on s o c false (Notes (Opened c o.now) ∷ h)

-- what is done about a request, by its outcome; c is the connection that it names
abbrev pub request_plan : Setup → PendingRequest → Option (List ℕ) → ℕ → List ServerEvent → Outcome → Plan
request_plan s o drawn c h (Refusal status) = plan_of (replying o.lane (refusal_reply s.base o.request status) h)
request_plan s o drawn c h (NewToken reconnect) =
    let room = giving_way s o.now h in
    let g = onto room h in
    let k = suc (made (notes g)) in
    plan_of (room ++ new_token o k (token_of (unwrap_or drawn []) k) reconnect g)
request_plan s o drawn c h PlainSocket =
    let room = giving_way s o.now h in
    let g = onto room h in
    plan_of (room ++ new_plain s o (suc (made (notes g))) g)
request_plan s o drawn c h TokenSocket =
    plan_of (shutting_some (socket_of c (notes h)) h ++ standing_on s o c (is_resumable_promise c (notes h)) h)
request_plan s o drawn c h FirstPoll = record {
  first = connecting s c false h ++ attaching c o.now h;
  food = Some (c, []);
  last = Notes (Polled c o.lane o.now) ∷ Notes (Answered c o.lane o.now) ∷ replying o.lane (bare_reply 200) h;
}
request_plan s o drawn c h NextPoll = record {
  first = ending_held c o.now h;
  food = Some (c, []);
  last = Notes (Polled c o.lane o.now) ∷ [];
}
request_plan s o drawn c h LastPoll = plan_of (Notes (Polled c o.lane o.now) ∷ [])
request_plan s o drawn c h Posting = record {
  first = [];
  food = Some (c, o.request.body);
  last = replying o.lane (bare_reply 200) h;
}
request_plan s o drawn c h Deletion =
    plan_of (ending_held c o.now h ++ closing c reason.Done h ++ removing_conn c h ++ replying o.lane (bare_reply 202) h)

-- the connection that stands on a lane
abbrev pub conn_on : ℕ → List ServerEvent → Option ℕ
conn_on lane h = find (λ c. is_this lane (socket_of c (notes h))) (connections (work h))

-- the connection whose poll is held on a lane
abbrev pub poller_on : ℕ → List ServerEvent → Option ℕ
poller_on lane h = find (λ c. is_this lane (option_map (λ poll. poll.0) (poll_of c (notes h)))) (connections (work h))

-- a connection that may be resumed waits for its next link; of every other nothing is kept
abbrev pub losing : ℕ → ℕ → ℕ → List ServerEvent → List ServerEvent
losing c lane now h = if may_resume c h then Notes (LaneLost c lane now) ∷ [] else removing_conn c h

-- by who stands on the lane that is lost, and who polls there
abbrev pub losing_lane : Option ℕ → Option ℕ → ℕ → ℕ → List ServerEvent → List ServerEvent
losing_lane (Some c) poller lane now h = step c (Detached now) ∷ losing c lane now h
losing_lane None (Some c) lane now h = Notes (LaneLost c lane now) ∷ []
losing_lane None None lane now h = []

-- what is done about an event, where these are the answers. What only a client hears changes nothing
abbrev pub plan : Setup → ℕ → Event → Option (Option (List ℕ)) → Option (List ℕ) → List ServerEvent → Plan
plan s now (event.Request lane r) name drawn h =
    request_plan s (record { now = now; lane = lane; request = r }) drawn (unwrap_or (named_conn r h) 0) h
    (outcome s.base r (facts s now r name (not (is_some drawn)) h))
plan s now (event.Bytes lane bytes) name drawn h = record { first = []; food = option_map (λ c. (c, bytes)) (conn_on lane h); last = [] }
plan s now (event.Lost lane) name drawn h = plan_of (losing_lane (conn_on lane h) (poller_on lane h) lane now h)
plan s now _ name drawn h = plan_of []
