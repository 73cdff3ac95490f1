-- What passes on the wires of a server, by what it heard and gave.
use Rattle.std.proofs.Common.{◌≡◌, ◌⊎◌, ◌==◌, ℕ, Bool, true, false, if◌then◌else◌, List, [], ◌∷◌, ◌++◌, Option, refl, sym, ap, subst, ◌∙◌, append-nil}
use Rattle.std.specs.List.{flat_map, list_all}
use Rattle.std.specs.Prelude.{Contains}
use Rattle.std.proofs.lemmas.Grind.{flat_map-append}
use Rattle.hd_calls.specs.Hubs.{Hub}
use Rattle.hw_lanes.specs.declared.http.Reply.{Reply}
use Rattle.hw_lanes.specs.declared.http.Request.{Request}
use Rattle.hw_socket.specs.Calls as socket_calls
use Rattle.hw_socket.specs.Lane as socket
use Rattle.hw_socket.specs.Sending.{Sent}
use Rattle.hw_socket.specs.Sessions.{WritesFrames}
use Rattle.hw_socket.specs.Streams.{ClosesAs, stream}
use Rattle.hw_socket.specs.declared.vocabulary.SocketSide.TheVariants as side
use Rattle.hw_door.specs.declared.heard.Event.{Event}
use Rattle.hw_door.specs.declared.heard.Given.{Given}
use Rattle.hw_door.specs.declared.heard.Given.TheVariants as give
use Rattle.hw_door.specs.declared.heard.Heard.{Heard}
use Rattle.hw_door.specs.DoorCalls as door
use Rattle.hw_door.specs.DoorCalls.{DoorCall, given_in, heard_in}
use Rattle.hw_door.specs.Traffic.{Answer, read_on, written_on}
use Rattle.hw_net.specs.declared.door.NetDoor.{NetDoor}
use Rattle.hw_net.specs.declared.protocol.Protocol.{Protocol}
use Rattle.hw_net.specs.declared.protocol.Protocol.TheVariants.{Http, Response, Socket}
use Rattle.hw_net.specs.Awaited.{AreAwaited, GivesFirst, RepliesAreSaid, RequestsAreFree, given_on, given_since, refusals_on}
use Rattle.hw_net.specs.Chains.{Told, CallsAreASession, CallsSplit, gives, hears, sends, is_steady, told_by, told_in, told_in_all, told_of}
use Rattle.hw_net.specs.Door.{DoorState, state_of}
use Rattle.hw_net.specs.Lane.{Lane, is_live, waits}
use Rattle.hw_net.specs.Sessions as session
use Rattle.hw_net.specs.Sessions.{Call, CarriesSocket, HeardRequests, IsCarried, RepliesAreWritten, RequestsAreAsked, Session, SocketsAreCarried, WroteReplies, answers_of, by_reply, message_on, messages_on, refusal_on, replies_on, request_on, requests_on, sent_on}
use Rattle.hw_net.specs.Trace.{Tells}
use Rattle.hd_server.specs.Laws.{EachRequestIsAnswered, PartsOfTurns}
use Rattle.hd_server.specs.Plans.{Setup}
use Rattle.hd_server.specs.Serving.{ServeEnd, ServesOn, is_cut}
use Rattle.hd_carried.specs.Answered.{HasAnswered, IsStarted}
use Rattle.hd_carried.specs.Wires.{AreSentFirst, BytesAreServed, IsFramed, IsServed, IsServedOn, Passes, after_given, messages_among, refusals_among, replies_among, reply_of, requests_among, sent_after}
use Rattle.hd_carried.proofs.Coming.{all_ahead, back, back_more, calls_back, has_answered, steady_first, steady_more}
use Rattle.hd_carried.proofs.Known.{AwaitedIn, awaited_before, session_awaited}

-- ---- what is told, by what it is read off

-- of an event that was heard
abbrev of_heard : {A : Type 0} → (Event → List A) → Told → List A
of_heard f (hears what) = f what.event
of_heard f _ = []

-- of a word that was given
abbrev of_given : {A : Type 0} → (Given → List A) → Told → List A
of_given f (hears what) = []
of_given f (gives what) = f what
of_given f (sends what full) = f what

heard_told : {A : Type 0} (f : Event → List A) (calls : List DoorCall) → flat_map (of_heard f) (told_in calls) ≡ flat_map (λ (e : Heard). f e.event) (heard_in calls)
heard_told f [] = refl
heard_told f (door.heard wait what ∷ calls) = ap (λ l. f what.event ++ l) (heard_told f calls)
heard_told f (door.given what is_said ∷ calls) = heard_told f calls
heard_told f (door.sent what is_said full ∷ calls) = heard_told f calls
heard_told f (door.flushed ∷ calls) = heard_told f calls
heard_told f (door.failed ask why ∷ calls) = heard_told f calls

given_told : {A : Type 0} (f : Given → List A) (calls : List DoorCall) → flat_map (of_given f) (told_in calls) ≡ flat_map f (given_in calls)
given_told f [] = refl
given_told f (door.heard wait what ∷ calls) = given_told f calls
given_told f (door.given what is_said ∷ calls) = ap (λ l. f what ++ l) (given_told f calls)
given_told f (door.sent what is_said full ∷ calls) = ap (λ l. f what ++ l) (given_told f calls)
given_told f (door.flushed ∷ calls) = given_told f calls
given_told f (door.failed ask why ∷ calls) = given_told f calls

-- a list that grows with what a call tells
more_told : {A : Type 0} (f : Told → List A) (told by : List Told) (was now : List A) → was ≡ flat_map f told → now ≡ was ++ flat_map f by → now ≡ flat_map f (told ++ by)
more_told f told by was now e g = g ∙ ap (λ l. l ++ flat_map f by) e ∙ sym (flat_map-append f told by)

-- one that a call leaves as it is
same_told : {A : Type 0} (f : Told → List A) (told by : List Told) (was : List A) → was ≡ flat_map f told → flat_map f by ≡ [] → was ≡ flat_map f (told ++ by)
same_told f told by was e none = more_told f told by was was e (sym (ap (λ l. was ++ l) none ∙ append-nil was))

requests_told : (lane : ℕ) (calls : List Call) → requests_on lane calls ≡ flat_map (of_heard (request_on lane)) (told_in_all calls)
requests_told lane [] = refl
requests_told lane (session.heard what answers ∷ calls) =
    more_told (of_heard (request_on lane)) (told_in_all calls) (hears what ∷ []) _ _ (requests_told lane calls) (ap (λ l. requests_on lane calls ++ l) (sym (append-nil (request_on lane what.event))))
requests_told lane (session.replied at reply answers ∷ calls) = same_told (of_heard (request_on lane)) (told_in_all calls) _ _ (requests_told lane calls) refl
requests_told lane (session.sent at bytes text full answers ∷ calls) = same_told (of_heard (request_on lane)) (told_in_all calls) _ _ (requests_told lane calls) refl
requests_told lane (session.shut at answers ∷ calls) = same_told (of_heard (request_on lane)) (told_in_all calls) _ _ (requests_told lane calls) refl
requests_told lane (session.wrote at answers ∷ calls) = same_told (of_heard (request_on lane)) (told_in_all calls) _ _ (requests_told lane calls) refl

messages_told : (lane : ℕ) (calls : List Call) → messages_on lane calls ≡ flat_map (of_heard (message_on lane)) (told_in_all calls)
messages_told lane [] = refl
messages_told lane (session.heard what answers ∷ calls) =
    more_told (of_heard (message_on lane)) (told_in_all calls) (hears what ∷ []) _ _ (messages_told lane calls) (ap (λ l. messages_on lane calls ++ l) (sym (append-nil (message_on lane what.event))))
messages_told lane (session.replied at reply answers ∷ calls) = same_told (of_heard (message_on lane)) (told_in_all calls) _ _ (messages_told lane calls) refl
messages_told lane (session.sent at bytes text full answers ∷ calls) = same_told (of_heard (message_on lane)) (told_in_all calls) _ _ (messages_told lane calls) refl
messages_told lane (session.shut at answers ∷ calls) = same_told (of_heard (message_on lane)) (told_in_all calls) _ _ (messages_told lane calls) refl
messages_told lane (session.wrote at answers ∷ calls) = same_told (of_heard (message_on lane)) (told_in_all calls) _ _ (messages_told lane calls) refl

refusals_told : (lane : ℕ) (calls : List Call) → refusals_on lane calls ≡ flat_map (of_heard (refusal_on lane)) (told_in_all calls)
refusals_told lane [] = refl
refusals_told lane (session.heard what answers ∷ calls) =
    more_told (of_heard (refusal_on lane)) (told_in_all calls) (hears what ∷ []) _ _ (refusals_told lane calls) (ap (λ l. refusals_on lane calls ++ l) (sym (append-nil (refusal_on lane what.event))))
refusals_told lane (session.replied at reply answers ∷ calls) = same_told (of_heard (refusal_on lane)) (told_in_all calls) _ _ (refusals_told lane calls) refl
refusals_told lane (session.sent at bytes text full answers ∷ calls) = same_told (of_heard (refusal_on lane)) (told_in_all calls) _ _ (refusals_told lane calls) refl
refusals_told lane (session.shut at answers ∷ calls) = same_told (of_heard (refusal_on lane)) (told_in_all calls) _ _ (refusals_told lane calls) refl
refusals_told lane (session.wrote at answers ∷ calls) = same_told (of_heard (refusal_on lane)) (told_in_all calls) _ _ (refusals_told lane calls) refl

replies_told : (lane : ℕ) (calls : List Call) → given_on lane calls ≡ flat_map (of_given (reply_of lane)) (told_in_all calls)
replies_told lane [] = refl
replies_told lane (session.heard what answers ∷ calls) = same_told (of_given (reply_of lane)) (told_in_all calls) _ _ (replies_told lane calls) refl
replies_told lane (session.replied at reply answers ∷ calls) =
    more_told (of_given (reply_of lane)) (told_in_all calls) (gives (give.Reply at reply) ∷ []) _ _ (replies_told lane calls)
    (ap (λ l. given_on lane calls ++ l) (sym (append-nil (reply_of lane (give.Reply at reply)))))
replies_told lane (session.sent at bytes text full answers ∷ calls) = same_told (of_given (reply_of lane)) (told_in_all calls) _ _ (replies_told lane calls) refl
replies_told lane (session.shut at answers ∷ calls) = same_told (of_given (reply_of lane)) (told_in_all calls) _ _ (replies_told lane calls) refl
replies_told lane (session.wrote at answers ∷ calls) = same_told (of_given (reply_of lane)) (told_in_all calls) _ _ (replies_told lane calls) refl

-- the messages since the last reply
abbrev after_told : ℕ → Told → List Sent → List Sent
after_told lane (hears what) sent = sent
after_told lane (gives what) sent = after_given lane what sent
after_told lane (sends what full) sent = after_given lane what sent

abbrev sent_told : ℕ → List Sent → List Told → List Sent
sent_told lane sent [] = sent
sent_told lane sent (t ∷ told) = sent_told lane (after_told lane t sent) told

sent_more : (lane : ℕ) (sent : List Sent) (told by : List Told) → sent_told lane sent (told ++ by) ≡ sent_told lane (sent_told lane sent told) by
sent_more lane sent [] by = refl
sent_more lane sent (t ∷ told) by = sent_more lane (after_told lane t sent) told by

since_told : (lane : ℕ) (calls : List Call) → given_since lane calls ≡ sent_told lane [] (told_in_all calls)
since_told lane [] = refl
since_told lane (session.heard what answers ∷ calls) = since_told lane calls ∙ sym (sent_more lane [] (told_in_all calls) (hears what ∷ []))
since_told lane (session.replied at reply answers ∷ calls) =
    ap (λ s. if at == lane then [] else s) (since_told lane calls) ∙ sym (sent_more lane [] (told_in_all calls) (gives (give.Reply at reply) ∷ []))
since_told lane (session.sent at bytes text full answers ∷ calls) =
    ap (λ (s : List Sent). if at == lane then s ++ record { is_text = text; bytes = bytes } ∷ [] else s) (since_told lane calls)
    ∙ sym (sent_more lane [] (told_in_all calls) (sends (give.Bytes at bytes text) full ∷ []))
since_told lane (session.shut at answers ∷ calls) = since_told lane calls ∙ sym (sent_more lane [] (told_in_all calls) (gives (give.Shut at) ∷ []))
since_told lane (session.wrote at answers ∷ calls) = since_told lane calls ∙ sym (sent_more lane [] (told_in_all calls) [])

sent_in : (lane : ℕ) (sent : List Sent) (calls : List DoorCall) → sent_told lane sent (told_in calls) ≡ sent_after lane sent (given_in calls)
sent_in lane sent [] = refl
sent_in lane sent (door.heard wait what ∷ calls) = sent_in lane sent calls
sent_in lane sent (door.given what is_said ∷ calls) = sent_in lane (after_given lane what sent) calls
sent_in lane sent (door.sent what is_said full ∷ calls) = sent_in lane (after_given lane what sent) calls
sent_in lane sent (door.flushed ∷ calls) = sent_in lane sent calls
sent_in lane sent (door.failed ask why ∷ calls) = sent_in lane sent calls

-- ---- a wire

module _ (frames : WritesFrames) where
  framed : (live : Bool) (came wrote : List ℕ) (requests : List Request) (payloads : List (List ℕ)) (given : List Sent) (replies : List Reply) (now : socket.Lane)
      → IsCarried live came wrote (by_reply requests replies) payloads given now → IsFramed live came wrote requests payloads given replies now
  framed live came wrote requests payloads given replies now c =
      let f = frames side.Server c.calls c.keeps c.runs in
      let all : c.keeps.out.bytes ≡ stream side.Server 0 f.0 = ap (λ l. l ++ c.keeps.out.bytes) (sym c.undropped) ∙ f.1 in
      record {
        carried = c;
        frames = f.0;
        legal = f.3;
        took = f.2;
        closes = subst (λ k. ClosesAs k (socket_calls.is_shut c.calls) f.0) (sym (ap (λ (l : socket.Lane). l.ending) c.same)) f.4;
        wrote_frames = c.wrote_all ∙ ap (λ l. c.texts ++ l) all;
      }

  -- by what the lane speaks
  passes : (calls : List Call) (lane : Lane) (protocol : Protocol) → HeardRequests calls lane.wire protocol → WroteReplies calls lane protocol → CarriesSocket calls lane protocol
      → Passes protocol (is_live lane.stage) (read_on lane.wire (answers_of calls)) (written_on lane.wire (answers_of calls) ++ waits lane) (requests_on lane.wire calls) (messages_on lane.wire calls)
      (sent_on lane.wire calls) (replies_on lane.wire calls)
  passes calls lane (Http http_state) asks wrote carries = (asks, (wrote.0, wrote.1, wrote.2, wrote.3, wrote.4))
  passes calls lane (Response response_state) asks wrote carries = absurd asks
  passes calls lane (Socket websocket_state) asks wrote carries = framed _ _ _ _ _ _ _ _ carries

sent_first : (protocol : Protocol) (live : Bool) (lane : ℕ) (calls : List Call) (sent : List Sent) → given_since lane calls ≡ sent → GivesFirst protocol live lane calls
    → AreSentFirst protocol live sent (sent_on lane calls)
sent_first (Http http_state) live lane calls sent e k = tt
sent_first (Response response_state) live lane calls sent e k = tt
sent_first (Socket websocket_state) live lane calls sent e k = (k.0, sym e ∙ k.1, k.2)

-- the same of other names for what was heard and given
pass_as : (protocol : Protocol) (live : Bool) (came wrote : List ℕ) (r r' : List Request) (m m' : List (List ℕ)) (g : List Sent) (a a' : List Reply) → r ≡ r' → m ≡ m' → a ≡ a'
    → Passes protocol live came wrote r m g a → Passes protocol live came wrote r' m' g a'
pass_as protocol live came wrote r r' m m' g a a' e f k p =
    subst (λ l. Passes protocol live came wrote r' m' g l) k (subst (λ l. Passes protocol live came wrote r' l g a) f (subst (λ l. Passes protocol live came wrote l m g a) e p))

module _ (frames : WritesFrames) (asked : RequestsAreAsked) (written : RepliesAreWritten) (carried : SocketsAreCarried) (replied : RepliesAreSaid) where
  served_on : (all : List Call) (bound : ℕ) (now : DoorState) (calls : List DoorCall) → Session all bound now → AreAwaited all → told_in_all all ≡ told_in calls
      → (lane : Lane) → Contains now.lanes lane → IsServedOn (heard_in calls) (given_in calls) all lane
  served_on all bound now calls run awaited told lane has =
      let said = replied all bound now run awaited lane has in
      let w = lane.wire in
      let refusals : refusals_on w all ≡ refusals_among w (heard_in calls) =
      refusals_told w all ∙ ap (λ l. flat_map (of_heard (refusal_on w)) l) told ∙ heard_told (refusal_on w) calls in
      record {
        said = said.said;
        unsaid = said.unsaid;
        replies = sym (replies_told w all ∙ ap (λ l. flat_map (of_given (reply_of w)) l) told ∙ given_told (reply_of w) calls) ∙ said.given;
        few = said.few;
        live = λ live. ((said.all live).0, sym refusals ∙ (said.all live).1);
        sent = sent_first lane.protocol (is_live lane.stage) w all (sent_after w [] (given_in calls)) (since_told w all ∙ ap (λ l. sent_told w [] l) told ∙ sent_in w [] calls) said.messages;
        passes = pass_as lane.protocol (is_live lane.stage) _ _ _ _ _ _ _ _ _
            (requests_told w all ∙ ap (λ l. flat_map (of_heard (request_on w)) l) told ∙ heard_told (request_on w) calls)
            (messages_told w all ∙ ap (λ l. flat_map (of_heard (message_on w)) l) told ∙ heard_told (message_on w) calls)
            (said.replies ∙ ap (λ l. said.said ++ l) refusals)
            (passes frames all lane lane.protocol (asked all bound now run lane has) (written all bound now run lane has) (carried all bound now run lane has));
      }

  -- after calls that tell no more than these
  served : {W : Type 0} (Goes : NetDoor W → List DoorCall → NetDoor W → Type 0) (trace : W → Option (List Answer)) (bound : W → ℕ) → CallsAreASession Goes trace bound
      → (start now : NetDoor W) (whole calls : List DoorCall) → IsStarted start → Goes start whole now → list_all is_steady whole ≡ true → told_in whole ≡ told_in calls
      → AwaitedIn (back (told_in calls)) → IsServed trace start now calls
  served Goes trace bound sessions start now whole calls started goes steady same awaited =
      let all = sessions whole start now goes started steady in
      let told : told_in_all all.0 ≡ told_in calls = all.2 ∙ same in
      let each : AreAwaited all.0 = session_awaited all.0 (subst AwaitedIn (sym (calls_back all.0 ∙ ap back told)) awaited) in
      (all.0, bound now.wires, all.1, told, all.4, served_on all.0 (bound now.wires) (state_of now) calls all.1 each told)

  pub bytes_are_served : {W : Type 0} (Goes : NetDoor W → List DoorCall → NetDoor W → Type 0) (trace : W → Option (List Answer)) (bound : W → ℕ) {Job : Type 0}
      → CallsAreASession Goes trace bound → CallsSplit Goes → RequestsAreFree → PartsOfTurns → EachRequestIsAnswered Job → BytesAreServed Goes trace Job
  bytes_are_served Goes trace bound sessions split free parts answers_each hub s end calls rest start now started goes on =
      let parted = split start now calls rest goes in
      let ahead = all_ahead Goes trace bound sessions split free parts answers_each hub s end calls start parted.0 started parted.1 on in (
        has_answered hub s (is_cut end) calls ahead,
        λ first more mid are here.
            served Goes trace bound sessions start mid first first started here (steady_first first more (sym (ap (list_all is_steady) are) ∙ ahead.steady)) refl
            (awaited_before (back (told_in more)) (back (told_in first))
            (subst AwaitedIn (ap (λ l. back (told_in l)) are ∙ ap back (flat_map-append told_of first more) ∙ back_more (told_in first) (told_in more)) ahead.awaited)),
        λ nothing. served Goes trace bound sessions start now (calls ++ rest) calls started goes (steady_more calls rest ahead.steady nothing.1)
            (flat_map-append told_of calls rest ∙ ap (λ l. told_in calls ++ l) nothing.0 ∙ append-nil (told_in calls)) ahead.awaited,
      )
