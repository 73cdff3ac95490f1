-- In a session a lane that became a WebSocket carries a fresh one, call by call: a door's, as here, and a dialer's (DialerSockets).
use Rattle.std.proofs.Common.{◌≡◌, ◌==◌, ◌&&◌, ◌++◌, ◌∷◌, [], ℕ, Bool, true, false, if◌then◌else◌, List, Option, None, Some, refl, sym, ap, ◌∙◌, subst, ◌⊎◌, inl, inr, append-nil, append_assoc, length, option_map}
use Rattle.hw_lanes.specs.declared.http.Reply.{Reply}
use Rattle.hw_lanes.specs.declared.http.Request.{Request}
use Rattle.hh_http.specs.Asks.{Asks}
use Rattle.hh_http.specs.Texts.{reply_text}
use Rattle.hw_door.specs.declared.heard.Event.{Event}
use Rattle.hw_door.specs.declared.heard.Event.TheVariants as event
use Rattle.hw_door.specs.declared.heard.Upgrade.{Upgrade}
use Rattle.hw_door.specs.Traffic.{Answer, was_shut, read_on, written_on}
use Rattle.hw_socket.specs.Calls as socket_calls
use Rattle.hw_socket.specs.Lane as socket
use Rattle.hw_socket.specs.Reading as reading
use Rattle.hw_socket.specs.Reading.{Feeds, Steps, Takes, after_taking}
use Rattle.hw_socket.specs.Sending as sending
use Rattle.hw_socket.specs.Sending.{Sent}
use Rattle.hw_socket.specs.declared.vocabulary.SocketRead.{SocketRead}
use Rattle.hw_socket.specs.declared.vocabulary.SocketRead.TheVariants as read
use Rattle.hw_socket.specs.declared.vocabulary.Ending.TheVariants.{BadText}
use Rattle.hw_net.specs.declared.limits.TheConstants.{SWITCHING}
use Rattle.hw_net.specs.declared.input.Input.{Input}
use Rattle.hw_net.specs.declared.input.Input.TheVariants as input
use Rattle.hw_net.specs.declared.response_state.Expected.{Expected}
use Rattle.hw_net.specs.declared.protocol.Protocol.{Protocol}
use Rattle.hw_net.specs.declared.protocol.Protocol.TheVariants.{Http, Response, Socket}
use Rattle.hw_net.specs.declared.protocol.Stage.{Stage}
use Rattle.hw_net.specs.declared.protocol.Stage.TheVariants.{Live, Lost, Closing, Over}
use Rattle.hw_net.specs.HttpState.{HttpStateView, requests_of}
use Rattle.hw_net.specs.Door.{new_lane}
use Rattle.hw_net.specs.Lane.{Lane, waits, frames_of, is_live, is_busy, owes, is_overdue, refusal_of, after_reply, protocol_after_shut, protocol_after_reply, new_socket, rest_of, accepted_socket, after_hearing, expected_of}
use Rattle.hw_net.specs.ResponseState.{Answers, HearsResponse, ResponseStateView}
use Rattle.hw_net.specs.Saying.{WritesOut, DropsOrWrites, SpeaksAs, Says, SaysAt, SaysMore, GathersOrSays, must_end, has_closed_long, is_too_much}
use Rattle.hw_net.specs.Sessions as session
use Rattle.hw_net.specs.Sessions.{Call, Session, answers_in, answers_of, requests_on, replies_on, continue_of, message_on, messages_on, goes_on, sent_on, Opening, by_reply, by_ask, side_of, Leaves, Opens, IsCarried, CarriesSocket, SocketsAreCarried}
use Rattle.hw_net.specs.WebSocketState.{WebSocketState, Gets, HasHeardAll}
use Rattle.hw_net.specs.Trace.{Chooses, bytes_of}
use Rattle.hw_net.specs.Turn.{Hears, Falls, Passes, Settles, Loses, LosesAt, TurnsLive, TurnsAt, Listens, Replies, Puts, PutsAt, Sends, Shuts}
use Rattle.hw_net.proofs.Asked.{HeardIn, IsAsked, step-asked, new-asked, requests_by, requests-more, requests_in, settles-requests, loses-requests, heard-requests, gives-bytes, live-reads, settles-silent, says-silent, bystander-silent, read-more, replies-silent, sends-silent, shuts-silent}
use Rattle.hw_net.proofs.Bystanders.{SaysOrStays, Stays, gathered-says}
use Rattle.hw_net.proofs.Counting.{Lives, writes-live, dropped-or-live}
use Rattle.hw_net.proofs.DialerResponses.{Held, upgrade-begins}
use Rattle.hw_net.proofs.Ends.{dead}
use Rattle.hw_net.proofs.Fullness.{by-fullness, SaysPut}
use Rattle.hw_net.proofs.Speaking.{kind_of}
use Rattle.hw_net.proofs.Lasting.{IsLasting, Lasts, new-lasting, step-lasting}
use Rattle.hw_net.proofs.Moves.{has-of}
use Rattle.hw_net.proofs.Numbering.{replied-wire, put-wire}
use Rattle.hw_net.proofs.Owed.{IsOwed, by-number, replies_by, replies-more}
use Rattle.hw_net.proofs.Owning.{settles-keeps}
use Rattle.hw_net.proofs.Shares.{share, written-append, same}
use Rattle.hw_net.proofs.Shifts.{rewritten, Shifted, takes-shift, says-shift, shut-shift, session-more, fed-more, heard-more, said-more, dropped-more}
use Rattle.hw_net.proofs.Voices.{Voiced, HasSaid, step-said, new-said, writes-front, reply-said, texts-more, refusals_of, refusals_in, settles-refusals, loses-refusals, heard-refusals, hears-unwritten, settles-unwritten, live-written, written-more}
use Rattle.hw_net.proofs.Walks.{IsHeard, Heeds, Moves, moves-wire, IsUntouched, each-lane, unrequested, unheard, unrefused}

-- ---- why it is gone

-- it isn't, or by a text that was none
abbrev IsSound : socket.Lane → Type 0
IsSound now = (now.ending ≡ None) ⊎ (now.ending ≡ Some BadText)

took-on : (unsent : List Sent) (now next : socket.Lane) → next.ending ≡ now.ending → (unsent ≡ []) ⊎ (now.ending ≡ Some BadText) → (unsent ≡ []) ⊎ (next.ending ≡ Some BadText)
took-on unsent now next e (inl k) = inl k
took-on unsent now next e (inr k) = inr (e ∙ k)

ends-on : (now next : socket.Lane) → next.ending ≡ now.ending → IsSound now → IsSound next
ends-on now next e (inl k) = inl (e ∙ k)
ends-on now next e (inr k) = inr (e ∙ k)

bad-is-gone : (now : socket.Lane) → now.ending ≡ Some BadText → now.ending ≡ None → ⊥
bad-is-gone now e f = let z : Some BadText ≡ None = sym e ∙ f in cc z

-- ---- one call more of the WebSocket that is carried

-- the lane may be heard no more, and of what it has to write some may be gone
carries-on : (live after : Bool) (from wrote : List ℕ) (opening : Opening) (messages : List (List ℕ)) (sent : List Sent) (now next : socket.Lane) → (after ≡ true → live ≡ true) →
    next ≡ rewritten next.out.bytes now → IsCarried live from wrote opening messages sent now → IsCarried after from wrote opening messages sent next
carries-on live after from wrote opening messages sent now next f e c = record {
  calls = c.calls;
  keeps = c.keeps;
  runs = c.runs;
  undropped = c.undropped;
  same = e ∙ ap (λ l. rewritten next.out.bytes l) c.same;
  front = c.front;
  rest = c.rest;
  more = c.more;
  parts = c.parts;
  leaves = c.leaves;
  fed = c.fed;
  heard_all = c.heard_all;
  texts = c.texts;
  opens = c.opens;
  wrote_all = c.wrote_all;
  unsent = c.unsent;
  sent_all = c.sent_all;
  took_all = took-on c.unsent now next (ap (λ (l : socket.Lane). l.ending) e) c.took_all;
  sound = λ l. ends-on now next (ap (λ (l : socket.Lane). l.ending) e) (c.sound (f l));
}

carries-fed : (from wrote : List ℕ) (opening : Opening) (messages : List (List ℕ)) (sent : List Sent) (now next : socket.Lane) (piece : List ℕ) → Feeds now piece next →
    IsCarried true from wrote opening messages sent now → IsCarried true (from ++ piece) wrote opening messages sent next
carries-fed from wrote opening messages sent now next piece h c = record {
  calls = c.calls ++ socket_calls.Feed piece ∷ [];
  keeps = record c.keeps { unread = c.keeps.unread ++ piece };
  runs = session-more (socket.fresh_lane (side_of opening)) c.keeps (record c.keeps { unread = c.keeps.unread ++ piece }) c.calls (socket_calls.Feed piece) c.runs refl;
  undropped = dropped-more c.calls (socket_calls.Feed piece) ∙ append-nil (socket_calls.dropped c.calls) ∙ c.undropped;
  same = h ∙ ap (λ (l : socket.Lane). record l { unread = l.unread ++ piece }) c.same
      ∙ ap (λ l. rewritten l (record c.keeps { unread = c.keeps.unread ++ piece })) (sym (ap (λ (l : socket.Lane). l.out.bytes) h));
  front = c.front;
  rest = c.rest;
  more = c.more ++ piece;
  parts = ap (λ l. l ++ piece) c.parts ∙ append_assoc c.front c.more piece;
  leaves = c.leaves;
  fed = fed-more c.calls (socket_calls.Feed piece) ∙ ap (λ l. socket_calls.fed c.calls ++ l) (append-nil piece) ∙ ap (λ l. l ++ piece) c.fed ∙ append_assoc c.rest c.more piece;
  heard_all = heard-more c.calls (socket_calls.Feed piece) ∙ append-nil (socket_calls.heard c.calls) ∙ c.heard_all;
  texts = c.texts;
  opens = c.opens;
  wrote_all = c.wrote_all;
  unsent = c.unsent;
  sent_all = c.sent_all ∙ ap (λ l. l ++ c.unsent) (sym (said-more c.calls (socket_calls.Feed piece) ∙ append-nil (socket_calls.said c.calls)));
  took_all = took-on c.unsent now next (ap (λ (l : socket.Lane). l.ending) h) c.took_all;
  sound = λ l. ends-on now next (ap (λ (l : socket.Lane). l.ending) h) (c.sound refl);
}

-- nothing was read, and the lane is heard no more
carries-broken : (from wrote : List ℕ) (opening : Opening) (messages : List (List ℕ)) (sent : List Sent) (now next : socket.Lane) (piece : List ℕ) → piece ≡ [] → next ≡ now →
    IsCarried true from wrote opening messages sent now → IsCarried false (from ++ piece) wrote opening messages sent next
carries-broken from wrote opening messages sent now next piece none e c =
    subst (λ (l : List ℕ). IsCarried false l wrote opening messages sent next) (sym (ap (λ l. from ++ l) none ∙ append-nil from))
    (carries-on true false from wrote opening messages sent now next (λ l. refl) (e ∙ ap (λ (l : socket.Lane). rewritten l.out.bytes now) (sym e)) c)

-- what broke read nothing
broken-bytes : (old : WebSocketState) (got : Option (List ℕ)) → ((got ≡ None) × HasHeardAll old.lane) ⊎ ((old.lost_bytes ≡ true) × (got ≡ Some [])) → bytes_of got ≡ []
broken-bytes old got (inl k) = ap (λ (o : Option (List ℕ)). bytes_of o) k.0
broken-bytes old got (inr k) = ap (λ (o : Option (List ℕ)). bytes_of o) k.1

-- of the messages given none isn't taken, or it is gone by a text that was none
abbrev Taken : List Sent → List Sent → socket.Lane → Type 0
Taken sent said next = (unsent : List Sent) × (sent ≡ said ++ unsent) × ((unsent ≡ []) ⊎ (next.ending ≡ Some BadText))

-- a call that feeds nothing and drops nothing
carries-call : (live : Bool) (from written out : List ℕ) (opening : Opening) (messages more : List (List ℕ)) (sent after : List Sent) (now next : socket.Lane) (call : socket_calls.Call) →
    socket_calls.fed (call ∷ []) ≡ [] → socket_calls.dropped (call ∷ []) ≡ [] → socket_calls.heard (call ∷ []) ≡ more → (c : IsCarried live from (written ++ (out ++ now.out.bytes)) opening messages sent now) →
    Taken after (socket_calls.said c.calls ++ socket_calls.said (call ∷ [])) next → (live ≡ true → IsSound next) →
    Shifted (λ to. socket_calls.Does call c.keeps to) now.out.bytes c.keeps next → IsCarried live from (written ++ (out ++ next.out.bytes)) opening (messages ++ more) after next
carries-call live from written out opening messages more sent after now next call no_food no_drop hears c taken sound s =
    let grown : next.out.bytes ≡ now.out.bytes ++ s.2 = ap (λ (l : socket.Lane). l.out.bytes) s.3 in
    record {
      calls = c.calls ++ call ∷ [];
      keeps = s.0;
      runs = session-more (socket.fresh_lane (side_of opening)) c.keeps s.0 c.calls call c.runs s.1;
      undropped = dropped-more c.calls call ∙ ap (λ l. socket_calls.dropped c.calls ++ l) no_drop ∙ append-nil (socket_calls.dropped c.calls) ∙ c.undropped;
      same = s.3 ∙ ap (λ l. rewritten l s.0) (sym grown);
      front = c.front;
      rest = c.rest;
      more = c.more;
      parts = c.parts;
      leaves = c.leaves;
      fed = fed-more c.calls call ∙ ap (λ l. socket_calls.fed c.calls ++ l) no_food ∙ append-nil (socket_calls.fed c.calls) ∙ c.fed;
      heard_all = heard-more c.calls call ∙ ap (λ l. socket_calls.heard c.calls ++ l) hears ∙ ap (λ l. l ++ more) c.heard_all;
      texts = c.texts;
      opens = c.opens;
      wrote_all = ap (λ l. written ++ (out ++ l)) grown ∙ ap (λ l. written ++ l) (sym (append_assoc out now.out.bytes s.2)) ∙ sym (append_assoc written (out ++ now.out.bytes) s.2)
          ∙ ap (λ l. l ++ s.2) c.wrote_all ∙ append_assoc c.texts c.keeps.out.bytes s.2 ∙ ap (λ l. c.texts ++ l) (sym s.4);
      unsent = taken.0;
      sent_all = taken.1 ∙ ap (λ l. l ++ taken.0) (sym (said-more c.calls call));
      took_all = taken.2;
      sound = sound;
    }

-- a call that takes no message
took-none : (sent said unsent : List Sent) (now next : socket.Lane) → sent ≡ said ++ unsent → (unsent ≡ []) ⊎ (now.ending ≡ Some BadText) → (now.ending ≡ Some BadText → next.ending ≡ Some BadText) →
    Taken sent (said ++ []) next
took-none sent said unsent now next e f g = (unsent, e ∙ ap (λ l. l ++ unsent) (sym (append-nil said)), go f) where
  go : (unsent ≡ []) ⊎ (now.ending ≡ Some BadText) → (unsent ≡ []) ⊎ (next.ending ≡ Some BadText)
  go (inl k) = inl k
  go (inr k) = inr (g k)

taken-ending : (now next : socket.Lane) (answer : SocketRead) → Takes now next answer → now.ending ≡ Some BadText → next.ending ≡ Some BadText
taken-ending now next answer (inl h) e = ap (λ (l : socket.Lane). l.ending) h.1 ∙ e
taken-ending now next answer (inr h) e = absurd (bad-is-gone now e h.0)

passes-ending : (now : socket.Lane) (ps : _) (next : socket.Lane) → reading.Passes now ps next → next.ending ≡ now.ending
passes-ending now [] next h = ap (λ (l : socket.Lane). l.ending) h
passes-ending now (p ∷ ps) next h = passes-ending (after_taking now p) ps next h.2

-- one that gives something, or waits, isn't gone
steps-sound : (mid next : socket.Lane) (answer : SocketRead) → (answer ≡ read.Gone → ⊥) → mid.ending ≡ None → Steps mid next (Some answer) → IsSound next
steps-sound mid next (read.Payload payload) n e h = inl (ap (λ (l : socket.Lane). l.ending) h.3 ∙ e)
steps-sound mid next read.NotYet n e h = inl (ap (λ (l : socket.Lane). l.ending) h.2 ∙ e)
steps-sound mid next read.Gone n e h = absurd (n refl)

taken-sound : (now next : socket.Lane) (answer : SocketRead) → (answer ≡ read.Gone → ⊥) → Takes now next answer → IsSound next
taken-sound now next answer n (inl h) = absurd (n h.2)
taken-sound now next answer n (inr h) = steps-sound h.1.1 next answer n (passes-ending now h.1.0 h.1.1 h.1.2 ∙ h.0) h.1.3

carries-taken : (live : Bool) (from written out : List ℕ) (opening : Opening) (messages more : List (List ℕ)) (sent : List Sent) (now next : socket.Lane) (answer : SocketRead) →
    socket_calls.heard (socket_calls.Read answer ∷ []) ≡ more → Takes now next answer → (live ≡ true → IsSound next) → IsCarried live from (written ++ (out ++ now.out.bytes)) opening messages sent now →
    IsCarried live from (written ++ (out ++ next.out.bytes)) opening (messages ++ more) sent next
carries-taken live from written out opening messages more sent now next answer e h sound c =
    carries-call live from written out opening messages more sent sent now next (socket_calls.Read answer) refl refl e c
    (took-none sent (socket_calls.said c.calls) c.unsent now next c.sent_all c.took_all (taken-ending now next answer h)) sound
    (takes-shift now.out.bytes c.keeps next answer (subst (λ (l : socket.Lane). Takes l next answer) c.same h))

-- a message that is given to it is taken, or it is gone by a text that was none
said-taken : (sent said unsent : List Sent) (now next : socket.Lane) (bytes : List ℕ) (text answer : Bool) → sent ≡ said ++ unsent → (unsent ≡ []) ⊎ (now.ending ≡ Some BadText) → IsSound now →
    sending.Says now next bytes text answer →
    Taken (sent ++ record { is_text = text; bytes = bytes } ∷ []) (said ++ socket_calls.said (socket_calls.Send (record { is_text = text; bytes = bytes }) answer ∷ [])) next × IsSound next
said-taken sent said unsent now next bytes text true e f sound h = (([], ap (λ k. k ++ m ∷ []) (e ∙ ap (λ k. said ++ k) (none f) ∙ append-nil said) ∙ sym (append-nil (said ++ m ∷ [])), inl refl), inl (ap (λ (k : socket.Lane). k.ending) h.2.2 ∙ h.0)) where
  m : Sent
  m = record { is_text = text; bytes = bytes }

  none : (unsent ≡ []) ⊎ (now.ending ≡ Some BadText) → unsent ≡ []
  none (inl k) = k
  none (inr k) = absurd (bad-is-gone now k h.0)
said-taken sent said unsent now next bytes text false e f sound h = ((unsent ++ m ∷ [], ap (λ k. k ++ m ∷ []) (e ∙ ap (λ k. k ++ unsent) (sym (append-nil said))) ∙ append_assoc (said ++ []) unsent (m ∷ []), inr (bad sound h)), inr (bad sound h)) where
  m : Sent
  m = record { is_text = text; bytes = bytes }

  bad : IsSound now → sending.Says now next bytes text false → next.ending ≡ Some BadText
  bad (inl k) (inl h) = absurd (h.0 k)
  bad (inr k) (inl h) = ap (λ (l : socket.Lane). l.ending) h.1 ∙ k
  bad s (inr h) = ap (λ (l : socket.Lane). l.ending) h.3

carries-said : (live : Bool) (from written out : List ℕ) (opening : Opening) (messages : List (List ℕ)) (sent : List Sent) (now next : socket.Lane) (bytes : List ℕ) (text answer : Bool) → live ≡ true →
    sending.Says now next bytes text answer → IsCarried live from (written ++ (out ++ now.out.bytes)) opening messages sent now →
    IsCarried live from (written ++ (out ++ next.out.bytes)) opening (messages ++ []) (sent ++ record { is_text = text; bytes = bytes } ∷ []) next
carries-said live from written out opening messages sent now next bytes text answer l h c =
    let m : Sent = record { is_text = text; bytes = bytes } in
    let k = said-taken sent (socket_calls.said c.calls) c.unsent now next bytes text answer c.sent_all c.took_all (c.sound l) h in
    carries-call live from written out opening messages [] sent (sent ++ m ∷ []) now next (socket_calls.Send m answer) refl refl refl c k.0 (λ l. k.1)
    (says-shift now.out.bytes c.keeps next bytes text answer (subst (λ (l : socket.Lane). sending.Says l next bytes text answer) c.same h))

-- one that is heard no more is shut
carries-shut : (from written out : List ℕ) (opening : Opening) (messages : List (List ℕ)) (sent : List Sent) (now : socket.Lane) →
    IsCarried false from (written ++ (out ++ now.out.bytes)) opening messages sent now →
    IsCarried false from (written ++ (out ++ (sending.after_shut now).out.bytes)) opening (messages ++ []) sent (sending.after_shut now)
carries-shut from written out opening messages sent now c =
    carries-call false from written out opening messages [] sent sent now (sending.after_shut now) socket_calls.Shut refl refl refl c
    (took-none sent (socket_calls.said c.calls) c.unsent now (sending.after_shut now) c.sent_all c.took_all (λ e. ap (λ o. Some (sending.shut_ending o)) e)) (λ l. absurd (cc l))
    (subst (λ (l : socket.Lane). Shifted (λ to. to ≡ sending.after_shut c.keeps) now.out.bytes c.keeps (sending.after_shut l)) (sym c.same) (shut-shift now.out.bytes c.keeps))

-- ---- lanes

-- it is a dialer's
abbrev pub is_dialed : Opening → Bool
is_dialed (by_reply requests replies) = false
is_dialed (by_ask upgrade text) = true

-- A lane of requests is a door's, and no message is heard there. One that awaits its response is a dialer's, and none is heard or taken there. And another
-- carries its WebSocket.
abbrev pub Borne : Bool → List ℕ → List ℕ → Opening → List (List ℕ) → List Sent → Protocol → Type 0
Borne live from all opening messages sent (Http http_state) = (is_dialed opening ≡ false) × (messages ≡ [])
Borne live from all opening messages sent (Response response_state) = (is_dialed opening ≡ true) × (messages ≡ []) × (sent ≡ [])
Borne live from all opening messages sent (Socket websocket_state) = IsCarried live from all opening messages sent websocket_state.lane

abbrev pub IsBorne : List ℕ → List ℕ → Opening → List (List ℕ) → List Sent → Lane → Type 0
IsBorne from written opening messages sent lane = Borne (is_live lane.stage) from (written ++ waits lane) opening messages sent lane.protocol

-- nothing is added, and what waits is written
abbrev Glides : Lane → Lane → List Answer → Type 0
Glides x y mine = (from written : List ℕ) (opening : Opening) (messages : List (List ℕ)) (sent : List Sent) → IsBorne from written opening messages sent x →
    IsBorne from (written ++ written_on x.wire mine) opening messages sent y

borne-less : (live after : Bool) (from all : List ℕ) (opening : Opening) (messages : List (List ℕ)) (sent : List Sent) (protocol : Protocol) → (after ≡ true → live ≡ true) →
    Borne live from all opening messages sent protocol → Borne after from all opening messages sent protocol
borne-less live after from all opening messages sent (Http http_state) f b = b
borne-less live after from all opening messages sent (Response response_state) f b = b
borne-less live after from all opening messages sent (Socket websocket_state) f b = carries-on live after from all opening messages sent websocket_state.lane websocket_state.lane f refl b

speaks-borne : (live after : Bool) (from all : List ℕ) (opening : Opening) (messages : List (List ℕ)) (sent : List Sent) (old new : Protocol) → (after ≡ true → live ≡ true) → SpeaksAs old new →
    Borne live from all opening messages sent old → Borne after from all opening messages sent new
speaks-borne live after from all opening messages sent (Http old) (Http new) f e b = b
speaks-borne live after from all opening messages sent (Response old) (Response new) f e b = b
speaks-borne live after from all opening messages sent (Socket old) (Socket new) f e b = carries-on live after from all opening messages sent old.lane new.lane f (ap (λ (t : WebSocketState). t.lane) e) b
speaks-borne live after from all opening messages sent _ _ f e b = absurd e

glides : (x y : Lane) (mine : List Answer) → written_on x.wire mine ++ waits y ≡ waits x →
    ((from all : List ℕ) (opening : Opening) (messages : List (List ℕ)) (sent : List Sent) → Borne (is_live x.stage) from all opening messages sent x.protocol → Borne (is_live y.stage) from all opening messages sent y.protocol) → Glides x y mine
glides x y mine e f from written opening messages sent b =
    f from ((written ++ written_on x.wire mine) ++ waits y) opening messages sent
    (subst (λ (l : List ℕ). Borne (is_live x.stage) from l opening messages sent x.protocol) (sym (append_assoc written (written_on x.wire mine) (waits y) ∙ ap (λ l. written ++ l) e)) b)

lives-stage : (x y : Lane) → Lives x y → is_live y.stage ≡ true → is_live x.stage ≡ true
lives-stage x y l e = (l e).0

writes-glide : (x y : Lane) (mine : List Answer) → WritesOut x y mine → Glides x y mine
writes-glide x y mine w =
    glides x y mine (go (must_end x.stage (length (waits y)) w.is_whole) refl)
    (λ from all opening messages sent. speaks-borne (is_live x.stage) (is_live y.stage) from all opening messages sent x.protocol y.protocol (lives-stage x y (writes-live x y mine w)) w.still.protocol) where
      front : written_on x.wire w.sent ++ waits y ≡ waits x
      front = writes-front x.wire (waits x) w.sent (waits y) w.is_whole w.writes

      go : (b : Bool) → must_end x.stage (length (waits y)) w.is_whole ≡ b → written_on x.wire mine ++ waits y ≡ waits x
      go true e = ap (λ l. written_on x.wire l ++ waits y) (w.ends e).0
          ∙ ap (λ l. l ++ waits y) (written-append x.wire w.sent (was_shut x.wire ∷ []) ∙ append-nil (written_on x.wire w.sent)) ∙ front
      go false e = ap (λ l. written_on x.wire l ++ waits y) (w.stays e).0 ∙ front

-- the stage alone may be another
stage-glides : (x y : Lane) (mine : List Answer) → written_on x.wire mine ≡ [] → waits y ≡ waits x → y.protocol ≡ x.protocol → (is_live y.stage ≡ true → is_live x.stage ≡ true) → Glides x y mine
stage-glides x y mine e f g l =
    glides x y mine (ap (λ k. k ++ waits y) e ∙ f)
    (λ from all opening messages sent b. subst (λ (t : Protocol). Borne (is_live y.stage) from all opening messages sent t) (sym g)
    (borne-less (is_live x.stage) (is_live y.stage) from all opening messages sent x.protocol l b))

same-glides : (x y : Lane) (mine : List Answer) → mine ≡ [] → y ≡ x → Glides x y mine
same-glides x y mine e f =
    stage-glides x y mine (ap (λ l. written_on x.wire l) e) (ap waits f) (ap (λ (l : Lane). l.protocol) f) (λ k. sym (ap (λ (l : Lane). is_live l.stage) f) ∙ k)

dropped-or-glide : (is_dropped : Bool) (x y : Lane) (mine : List Answer) → DropsOrWrites is_dropped x y mine → Glides x y mine
dropped-or-glide true x y mine h = stage-glides x y mine (ap (λ l. written_on x.wire l) h.0) (ap waits h.1) (ap (λ (l : Lane). l.protocol) h.1) (lives-stage x y (dropped-or-live true x y mine h))
dropped-or-glide false x y mine h = writes-glide x y mine h

says-glide : (now : ℕ) (x y : Lane) (mine : List Answer) → Says now x y mine → Glides x y mine
says-glide now x y mine h = go x.stage h where
  go : (s : Stage) → SaysAt s now x y mine → Glides x y mine
  go Live h = writes-glide x y mine h
  go Lost h = same-glides x y mine h.0 h.1
  go Closing h = dropped-or-glide (has_closed_long now x.since) x y mine h
  go Over h = same-glides x y mine h.0 h.1

more-glide : (x y : Lane) (mine : List Answer) → SaysMore x y mine → Glides x y mine
more-glide x y mine h = dropped-or-glide (is_too_much (length (waits x))) x y mine h

bystander-glide : (now : ℕ) (x y : Lane) (mine : List Answer) → SaysOrStays now x y mine → Glides x y mine
bystander-glide now x y mine (inl h) = says-glide now x y mine h
bystander-glide now x y mine (inr h) = same-glides x y mine h.1 h.0

gathered-glide : (x y : Lane) (mine : List Answer) → GathersOrSays x y mine → Glides x y mine
gathered-glide x y mine h = go (gathered-says x y mine h) where
  go : SaysMore x y mine ⊎ Stays x y mine → Glides x y mine
  go (inl k) = more-glide x y mine k
  go (inr k) = same-glides x y mine k.1 k.0

-- ---- hearing

abbrev messages_of : Input → List (List ℕ)
messages_of (input.Message bytes) = bytes ∷ []
messages_of _ = []

abbrev messages_in : ℕ → Option Event → List (List ℕ)
messages_in wire None = []
messages_in wire (Some trace) = message_on wire trace

settles-messages : (now : ℕ) (before after : Lane) (answers : List Answer) (what : Input) (heard : Option Event) → Settles now before after answers what heard → messages_in before.wire heard ≡ messages_of what
settles-messages now before after answers input.Nothing heard h = go (is_overdue now before) h where
  go : (b : Bool) → Chooses b (Falls before after answers heard) (Passes before after answers None heard) → messages_in before.wire heard ≡ []
  go true h = ap (λ o. messages_in before.wire o) h.1
  go false h = ap (λ o. messages_in before.wire o) h.1
settles-messages now before after answers (input.Request request) heard h = ap (λ o. messages_in before.wire o) h.1
settles-messages now before after answers (input.Refused refusal) heard h = ap (λ o. messages_in before.wire o) h.1
settles-messages now before after answers (input.Response status body) heard h = ap (λ o. messages_in before.wire o) h.1
settles-messages now before after answers input.Upgraded heard h = ap (λ o. messages_in before.wire o) h.1
settles-messages now before after answers (input.Message bytes) heard h = ap (λ o. messages_in before.wire o) h.1 ∙ ap (λ b. if b then bytes ∷ [] else []) (same before.wire)
settles-messages now before after answers input.Broken heard h = ap (λ o. messages_in before.wire o) h.1
settles-messages now before after answers input.Gone heard h = ap (λ o. messages_in before.wire o) h.1

loses-messages : (wire : ℕ) (trace : Option Event) (before after : Lane) (heard : Option Event) → Loses trace before after heard → messages_in wire heard ≡ messages_in wire trace
loses-messages wire (Some here) before after heard h = ap (λ o. messages_in wire o) h.0
loses-messages wire None before after heard h = go before.stage h where
  go : (s : Stage) → LosesAt s before after heard → messages_in wire heard ≡ []
  go Live h = ap (λ o. messages_in wire o) h.0
  go Lost h = ap (λ o. messages_in wire o) h.0
  go Closing h = ap (λ o. messages_in wire o) h.0
  go Over h = ap (λ o. messages_in wire o) h.0

heard-messages : (wire : ℕ) (own : Option Event) (what : Event) → IsHeard wire own what → message_on wire what ≡ messages_in wire own
heard-messages wire None what h = unheard wire what h
heard-messages wire (Some trace) what h = ap (λ v. message_on wire v) h

-- what more was asked and replied is of the opening of a door's lane
abbrev pub grown : Opening → List Request → List Reply → Opening
grown (by_reply requests replies) asked said = by_reply (requests ++ asked) (replies ++ said)
grown (by_ask upgrade text) asked said = by_ask upgrade text

grown-none : (opening : Opening) (asked : List Request) (said : List Reply) → asked ≡ [] → said ≡ [] → grown opening asked said ≡ opening
grown-none (by_reply requests replies) asked said e f =
    ap (λ (l : List Request). by_reply (requests ++ l) (replies ++ said)) e ∙ ap (λ (l : List Reply). by_reply (requests ++ []) (replies ++ l)) f
    ∙ ap (λ (l : List Request). by_reply l (replies ++ [])) (append-nil requests) ∙ ap (λ (l : List Reply). by_reply requests l) (append-nil replies)
grown-none (by_ask upgrade text) asked said e f = refl

grown-dialed : (opening : Opening) (asked : List Request) (said : List Reply) → is_dialed (grown opening asked said) ≡ is_dialed opening
grown-dialed (by_reply requests replies) asked said = refl
grown-dialed (by_ask upgrade text) asked said = refl

-- a lane is borne also with no more requests, messages and replies
padded : (from written : List ℕ) (opening : Opening) (messages : List (List ℕ)) (sent : List Sent) (more_requests : List Request) (more_replies : List Reply) (lane : Lane) → more_requests ≡ [] → more_replies ≡ [] →
    IsBorne from written opening messages sent lane → IsBorne from written (grown opening more_requests more_replies) messages sent lane
padded from written opening messages sent more_requests more_replies lane e f b =
    subst (λ (o : Opening). IsBorne from written o messages sent lane) (sym (grown-none opening more_requests more_replies e f)) b

unpadded : {A : Type 0} (xs : List A) (P : List A → Type 0) → P (xs ++ []) → P xs
unpadded xs P p = subst P (append-nil xs) p

becomes : (from written : List ℕ) (opening : Opening) (messages : List (List ℕ)) (sent : List Sent) (lane mid : Lane) → lane ≡ mid → IsBorne from written opening messages sent mid → IsBorne from written opening messages sent lane
becomes from written opening messages sent lane mid e b = subst (λ (l : Lane). IsBorne from written opening messages sent l) (sym e) b

-- one that was opened so is a fresh one, which was fed with what its opening leaves
opened : (live : Bool) (from all texts rest : List ℕ) (opening : Opening) (messages : List (List ℕ)) → Leaves opening from rest → Opens opening texts → all ≡ texts ++ [] → messages ≡ [] →
    IsCarried live from all opening messages [] (record (socket.fresh_lane (side_of opening)) { unread = rest })
opened live from all texts rest opening messages leaves opens wrote none = record {
  calls = socket_calls.Feed rest ∷ [];
  keeps = record (socket.fresh_lane (side_of opening)) { unread = rest };
  runs = (record (socket.fresh_lane (side_of opening)) { unread = rest }, refl, refl);
  undropped = refl;
  same = refl;
  front = from;
  rest = rest;
  more = [];
  parts = sym (append-nil from);
  leaves = leaves;
  fed = refl;
  heard_all = sym none;
  texts = texts;
  opens = opens;
  wrote_all = wrote;
  unsent = [];
  sent_all = refl;
  took_all = inl refl;
  sound = λ l. inl refl;
}

-- What is known of a lane of this opening: on a door's the requests are those of the bytes read, and the replies stand before what waits; on a dialer's what is
-- held is what was read, if it is live, and its ask stands there.
abbrev pub Knows : Opening → Bool → List ℕ → List ℕ → Protocol → Type 0
Knows (by_reply requests replies) live from all protocol = HeardIn from requests protocol × Voiced None all replies protocol
Knows (by_ask upgrade text) live from all protocol =
    (live ≡ true → (answered : Bool) × Held (option_map expected_of upgrade) from answered protocol) × ((replies : List Reply) × Voiced (Some text) all replies protocol)

-- a lane whose upgrade was accepted carries the WebSocket that was asked for
accepted-carried : (upgrade : Option Upgrade) (text from all : List ℕ) (messages : List (List ℕ)) (live : Bool) (response_state : ResponseStateView) → Answers (option_map expected_of upgrade) from response_state.lane.held input.Upgraded →
    all ≡ text ++ [] → messages ≡ [] → Borne live from all (by_ask upgrade text) messages [] (accepted_socket (option_map expected_of upgrade) response_state)
accepted-carried None text from all messages live response_state a wrote none = absurd (cc a.2.1)
accepted-carried (Some upgrade) text from all messages live response_state a wrote none = opened live from all text response_state.lane.held (by_ask (Some upgrade) text) messages a refl wrote none

no-frames : (upgrade : Option Expected) (response_state : ResponseStateView) → frames_of (accepted_socket upgrade response_state) ≡ []
no-frames None response_state = refl
no-frames (Some expected) response_state = refl

accepts-borne : (x : Lane) (old new : ResponseStateView) (reads : List Answer) (from written : List ℕ) (opening : Opening) (messages : List (List ℕ)) (sent : List Sent) → HearsResponse x.wire old new reads input.Upgraded →
    Knows opening true from (written ++ (x.out ++ [])) (Response old) → (is_dialed opening ≡ true) × (messages ≡ []) × (sent ≡ []) →
    IsBorne (from ++ read_on x.wire reads) written opening messages sent (record x { protocol = accepted_socket new.upgrade new })
accepts-borne x old new reads from written (by_reply requests replies) messages sent h knows b = absurd (cc b.0)
accepts-borne x old new reads from written (by_ask upgrade text) messages sent h knows b =
    let expected = option_map expected_of upgrade in
    let held = knows.0 refl in
    let all = from ++ read_on x.wire reads in
    let answers : Answers expected all new.lane.held input.Upgraded = upgrade-begins x.wire old new reads expected from held.0 h held.1 in
    let wrote : written ++ (x.out ++ []) ≡ text = cc knows.1.1 in
    subst (λ (l : List Sent). IsBorne all written (by_ask upgrade text) messages l (record x { protocol = accepted_socket new.upgrade new })) (sym b.2)
    (subst (λ (u : Option Expected). IsBorne all written (by_ask upgrade text) messages [] (record x { protocol = accepted_socket u new })) (sym (h.upgrade ∙ held.1.0))
    (accepted-carried upgrade text all (written ++ (x.out ++ frames_of (accepted_socket expected new))) messages (is_live x.stage) new answers
    (ap (λ l. written ++ (x.out ++ l)) (no-frames expected new) ∙ wrote ∙ sym (append-nil text)) b.1))

-- the WebSocket was fed with what was read, and read once
gets-carried : (live : Bool) (from written out : List ℕ) (opening : Opening) (messages more : List (List ℕ)) (sent : List Sent) (old new : socket.Lane) (got : Option (List ℕ)) (answer : SocketRead) →
    (live ≡ true → answer ≡ read.Gone → ⊥) → socket_calls.heard (socket_calls.Read answer ∷ []) ≡ more → Gets old got answer new → IsCarried true from (written ++ (out ++ old.out.bytes)) opening messages sent old →
    IsCarried live (from ++ bytes_of got) (written ++ (out ++ new.out.bytes)) opening (messages ++ more) sent new
gets-carried live from written out opening messages more sent old new got answer n e h c =
    let fed = h.1.0 in
    let food = carries-on true live (from ++ bytes_of got) (written ++ (out ++ old.out.bytes)) opening messages sent fed fed (λ l. refl) refl
    (carries-fed from (written ++ (out ++ old.out.bytes)) opening messages sent old fed (bytes_of got) h.1.1 c) in
    let bytes : fed.out.bytes ≡ old.out.bytes = ap (λ (l : socket.Lane). l.out.bytes) h.1.1 in
    carries-taken live (from ++ bytes_of got) written out opening messages more sent fed new answer e h.1.2 (λ l. taken-sound fed new answer (n l) h.1.2)
    (subst (λ (l : List ℕ). IsCarried live (from ++ bytes_of got) (written ++ (out ++ l)) opening messages sent fed) (sym bytes) food)

settles-borne : (now : ℕ) (x : Lane) (protocol : Protocol) (after : Lane) (reads answers : List Answer) (what : Input) (heard : Option Event) (from written : List ℕ) (opening : Opening) (messages : List (List ℕ)) (sent : List Sent) →
    x.stage ≡ Live → Hears x.wire x.protocol protocol reads what → Settles now (after_hearing protocol x) after answers what heard → Knows opening (is_live x.stage) from (written ++ waits x) x.protocol →
    IsBorne from written opening messages sent x → IsBorne (from ++ read_on x.wire reads) written (grown opening (requests_of what) (refusals_of what)) (messages ++ messages_of what) sent after
settles-borne now x protocol after reads answers what heard from written opening messages sent live h s knows b =
    go x.protocol protocol what h s (subst (λ c. Knows opening c from (written ++ waits x) x.protocol) (ap is_live live) knows) was where
      was : Borne true from (written ++ (x.out ++ frames_of x.protocol)) opening messages sent x.protocol
      was = borne-less (is_live x.stage) true from (written ++ (x.out ++ frames_of x.protocol)) opening messages sent x.protocol (λ e. ap is_live live) b

      all : List ℕ
      all = from ++ read_on x.wire reads

      none : (asked : List Request) (said : List Reply) (mid : Lane) (http_state : HttpStateView) → after ≡ mid → mid.protocol ≡ Http http_state → (is_dialed opening ≡ false) × (messages ≡ []) →
          IsBorne all written (grown opening asked said) (messages ++ []) sent after
      none asked said mid http_state e f k = becomes all written (grown opening asked said) (messages ++ []) sent after mid e
          (subst (λ (t : Protocol). Borne (is_live mid.stage) all (written ++ waits mid) (grown opening asked said) (messages ++ []) sent t) (sym f)
          (grown-dialed opening asked said ∙ k.0, append-nil messages ∙ k.1))

      -- a lane that awaits its response still does
      awaits : (mid : Lane) (response_state : ResponseStateView) → after ≡ mid → mid.protocol ≡ Response response_state → (is_dialed opening ≡ true) × (messages ≡ []) × (sent ≡ []) →
          IsBorne all written (grown opening [] []) (messages ++ []) sent after
      awaits mid response_state e f k = becomes all written (grown opening [] []) (messages ++ []) sent after mid e
          (subst (λ (t : Protocol). Borne (is_live mid.stage) all (written ++ waits mid) (grown opening [] []) (messages ++ []) sent t) (sym f)
          (grown-dialed opening [] [] ∙ k.0, append-nil messages ∙ k.1, k.2))

      still : (new : ResponseStateView) → (is_dialed opening ≡ true) × (messages ≡ []) × (sent ≡ []) → (b : Bool) →
          Chooses b (Falls (after_hearing (Response new) x) after answers heard) (Passes (after_hearing (Response new) x) after answers None heard) → IsBorne all written (grown opening [] []) (messages ++ []) sent after
      still new k true f = awaits (record (after_hearing (Response new) x) { stage = Over }) new f.2 refl k
      still new k false f = awaits (after_hearing (Response new) x) new f.2 refl k

      accepted : (mid : Lane) → after ≡ mid → IsBorne all written opening messages sent mid → IsBorne all written (grown opening [] []) (messages ++ []) sent after
      accepted mid e k = becomes all written (grown opening [] []) (messages ++ []) sent after mid e
          (padded all written opening (messages ++ []) sent [] [] mid refl refl (subst (λ (l : List (List ℕ)). IsBorne all written opening l sent mid) (sym (append-nil messages)) k))

      carried : (new : WebSocketState) (mid : Lane) (what : Input) → after ≡ mid → requests_of what ≡ [] → refusals_of what ≡ [] → IsBorne (from ++ read_on x.wire reads) written opening (messages ++ messages_of what) sent mid →
          IsBorne (from ++ read_on x.wire reads) written (grown opening (requests_of what) (refusals_of what)) (messages ++ messages_of what) sent after
      carried new mid what e f g k = becomes (from ++ read_on x.wire reads) written (grown opening (requests_of what) (refusals_of what)) (messages ++ messages_of what) sent after mid e
          (padded (from ++ read_on x.wire reads) written opening (messages ++ messages_of what) sent (requests_of what) (refusals_of what) mid f g k)

      got : (live : Bool) (old new : WebSocketState) (bytes : Option (List ℕ)) (answer : SocketRead) (more : List (List ℕ)) → (live ≡ true → answer ≡ read.Gone → ⊥) → read_on x.wire reads ≡ bytes_of bytes → socket_calls.heard (socket_calls.Read answer ∷ []) ≡ more → Gets old.lane bytes answer new.lane →
          IsCarried true from (written ++ (x.out ++ old.lane.out.bytes)) opening messages sent old.lane → IsCarried live (from ++ read_on x.wire reads) (written ++ (x.out ++ new.lane.out.bytes)) opening (messages ++ more) sent new.lane
      got live old new bytes answer more n e f g c =
          subst (λ (l : List ℕ). IsCarried live (from ++ l) (written ++ (x.out ++ new.lane.out.bytes)) opening (messages ++ more) sent new.lane) (sym e)
          (gets-carried live from written x.out opening messages more sent old.lane new.lane bytes answer n f g c)

      stage : (new : WebSocketState) (more : List (List ℕ)) (s : Stage) → IsCarried true (from ++ read_on x.wire reads) (written ++ (x.out ++ new.lane.out.bytes)) opening more sent new.lane →
          IsBorne (from ++ read_on x.wire reads) written opening more sent (record x { protocol = Socket new; stage = s })
      stage new more s c = carries-on true (is_live s) (from ++ read_on x.wire reads) (written ++ (x.out ++ new.lane.out.bytes)) opening more sent new.lane new.lane (λ e. refl) refl c

      nothing : (new : WebSocketState) → IsCarried true (from ++ read_on x.wire reads) (written ++ (x.out ++ new.lane.out.bytes)) opening (messages ++ []) sent new.lane → (b : Bool) →
          Chooses b (Falls (record x { protocol = Socket new }) after answers heard) (Passes (record x { protocol = Socket new }) after answers None heard) →
          IsBorne (from ++ read_on x.wire reads) written (grown opening [] []) (messages ++ []) sent after
      nothing new c true f = carried new (record x { protocol = Socket new; stage = Over }) input.Nothing f.2 refl refl (stage new (messages ++ []) Over c)
      nothing new c false f = carried new (record x { protocol = Socket new }) input.Nothing f.2 refl refl (stage new (messages ++ []) x.stage c)

      go : (old new : Protocol) (what : Input) → Hears x.wire old new reads what → Settles now (after_hearing new x) after answers what heard → Knows opening true from (written ++ (x.out ++ frames_of old)) old →
          Borne true from (written ++ (x.out ++ frames_of old)) opening messages sent old →
          IsBorne (from ++ read_on x.wire reads) written (grown opening (requests_of what) (refusals_of what)) (messages ++ messages_of what) sent after
      go (Http old) (Http new) input.Nothing h s w k = idle (is_overdue now (after_hearing (Http new) x)) s where
        idle : (b : Bool) → Chooses b (Falls (after_hearing (Http new) x) after answers heard) (Passes (after_hearing (Http new) x) after answers None heard) →
            IsBorne (from ++ read_on x.wire reads) written (grown opening [] []) (messages ++ []) sent after
        idle true f = none [] [] (record (after_hearing (Http new) x) { stage = Over }) _ f.2 refl k
        idle false f = none [] [] (after_hearing (Http new) x) _ f.2 refl k
      go (Http old) (Http new) (input.Request request) h s w k = none (request ∷ []) [] _ _ s.2 refl k
      go (Http old) (Http new) (input.Refused refusal) h s w k = none [] (refusal_of refusal ∷ []) _ _ s.2 refl k
      go (Http old) (Http new) (input.Message bytes) h s w k = absurd h.is_input
      go (Http old) (Http new) (input.Response status body) h s w k = absurd h.is_input
      go (Http old) (Http new) input.Upgraded h s w k = absurd h.is_input
      go (Http old) (Http new) input.Broken h s w k = none [] [] _ _ s.2 refl k
      go (Http old) (Http new) input.Gone h s w k = absurd h.is_input
      go (Socket old) (Socket new) input.Nothing h s w k =
          nothing new (got true old new h.got read.NotYet [] (λ l e. cc e) (gives-bytes x.wire _ reads h.got h.read) refl h.is_input.0 k) (is_overdue now (record x { protocol = Socket new })) s
      go (Socket old) (Socket new) (input.Request request) h s w k = absurd h.is_input
      go (Socket old) (Socket new) (input.Refused refusal) h s w k = absurd h.is_input
      go (Socket old) (Socket new) (input.Response status body) h s w k = absurd h.is_input
      go (Socket old) (Socket new) input.Upgraded h s w k = absurd h.is_input
      go (Socket old) (Socket new) (input.Message bytes) h s w k =
          carried new (record x { protocol = Socket new }) (input.Message bytes) s.2 refl refl
          (stage new (messages ++ bytes ∷ []) x.stage (got true old new h.got (read.Payload bytes) (bytes ∷ []) (λ l e. cc e) (gives-bytes x.wire _ reads h.got h.read) refl h.is_input.0 k))
      go (Socket old) (Socket new) input.Broken h s w k =
          carried new (record x { protocol = Socket new; stage = Over }) input.Broken s.2 refl refl
          (subst (λ (l : List ℕ). IsCarried false (from ++ read_on x.wire reads) (written ++ (x.out ++ l)) opening (messages ++ []) sent new.lane) (sym (ap (λ (l : socket.Lane). l.out.bytes) h.is_input.1))
          (subst (λ (l : List (List ℕ)). IsCarried false (from ++ read_on x.wire reads) (written ++ (x.out ++ old.lane.out.bytes)) opening l sent new.lane) (sym (append-nil messages))
          (carries-broken from (written ++ (x.out ++ old.lane.out.bytes)) opening messages sent old.lane new.lane (read_on x.wire reads)
          (gives-bytes x.wire _ reads h.got h.read ∙ broken-bytes old h.got h.is_input.0) h.is_input.1 k)))
      go (Socket old) (Socket new) input.Gone h s w k =
          carried new (record x { since = now; protocol = protocol_after_shut (Socket new); stage = Closing }) input.Gone s.2 refl refl
          (unpadded (messages ++ []) (λ m. IsBorne (from ++ read_on x.wire reads) written opening m sent (record x { since = now; protocol = protocol_after_shut (Socket new); stage = Closing }))
          (carries-shut (from ++ read_on x.wire reads) written x.out opening (messages ++ []) sent new.lane
          (got false old new h.got read.Gone [] (λ l e. cc l) (gives-bytes x.wire _ reads h.got h.read) refl h.is_input.0 k)))
      go (Response old) (Response new) input.Nothing h s w k = still new k (is_overdue now (after_hearing (Response new) x)) s
      go (Response old) (Response new) (input.Request request) h s w k = absurd h.is_input
      go (Response old) (Response new) (input.Refused refusal) h s w k = absurd h.is_input
      go (Response old) (Response new) (input.Response status body) h s w k = awaits (after_hearing (Response new) x) new s.2 refl k
      go (Response old) (Response new) input.Upgraded h s w k =
          accepted (record x { protocol = accepted_socket new.upgrade new }) s.2 (accepts-borne x old new reads from written opening messages sent h w k)
      go (Response old) (Response new) (input.Message bytes) h s w k = absurd h.is_input
      go (Response old) (Response new) input.Broken h s w k = awaits (record (after_hearing (Response new) x) { stage = Over }) new s.2 refl k
      go (Response old) (Response new) input.Gone h s w k = absurd h.is_input
      go (Response old) (Http new) what h s w k = absurd h
      go (Response old) (Socket new) what h s w k = absurd h
      go (Http old) (Response new) what h s w k = absurd h
      go (Socket old) (Response new) what h s w k = absurd h
      go (Http old) (Socket new) what h s w k = absurd h
      go (Socket old) (Http new) what h s w k = absurd h

loses-borne : (trace : Option Event) (before after : Lane) (heard : Option Event) (from written : List ℕ) (opening : Opening) (messages : List (List ℕ)) (sent : List Sent) → Loses trace before after heard →
    IsBorne from written opening messages sent before → IsBorne from written opening messages sent after
loses-borne (Some here) before after heard from written opening messages sent h b = becomes from written opening messages sent after before h.1 b
loses-borne None before after heard from written opening messages sent h b = go before.stage h where
  go : (s : Stage) → LosesAt s before after heard → IsBorne from written opening messages sent after
  go Live h = becomes from written opening messages sent after before h.1 b
  go Lost h = becomes from written opening messages sent after (record before { stage = Over }) h.1
      (borne-less (is_live before.stage) false from (written ++ waits before) opening messages sent before.protocol (λ e. absurd (cc e)) b)
  go Closing h = becomes from written opening messages sent after before h.1 b
  go Over h = becomes from written opening messages sent after before h.1 b

-- what a call adds on a lane
abbrev Bears : Lane → Lane → List Answer → List Request → List (List ℕ) → List Reply → Type 0
Bears x y mine more_requests more_messages more_replies = (from written : List ℕ) (opening : Opening) (messages : List (List ℕ)) (sent : List Sent) →
    Knows opening (is_live x.stage) from (written ++ waits x) x.protocol → IsBorne from written opening messages sent x →
    IsBorne (from ++ read_on x.wire mine) (written ++ written_on x.wire mine) (grown opening more_requests more_replies) (messages ++ more_messages) sent y

glides-bear : (x y : Lane) (mine : List Answer) (more_requests : List Request) (more_messages : List (List ℕ)) (more_replies : List Reply) → Glides x y mine → read_on x.wire mine ≡ [] →
    more_requests ≡ [] → more_messages ≡ [] → more_replies ≡ [] → Bears x y mine more_requests more_messages more_replies
glides-bear x y mine more_requests more_messages more_replies g r e f k from written opening messages sent knows b =
    padded (from ++ read_on x.wire mine) (written ++ written_on x.wire mine) opening (messages ++ more_messages) sent more_requests more_replies y e k
    (subst (λ (l : List (List ℕ)). IsBorne (from ++ read_on x.wire mine) (written ++ written_on x.wire mine) opening l sent y) (sym (ap (λ l. messages ++ l) f ∙ append-nil messages))
    (subst (λ (l : List ℕ). IsBorne l (written ++ written_on x.wire mine) opening messages sent y) (sym (ap (λ l. from ++ l) r ∙ append-nil from)) (g from written opening messages sent b)))

live-bears : (now : ℕ) (x y : Lane) (mine : List Answer) (own : Option Event) → x.stage ≡ Live → TurnsLive now x y mine own → Bears x y mine (requests_in x.wire own) (messages_in x.wire own) (refusals_in x.wire own)
live-bears now x y mine own live h from written opening messages sent knows b =
    let mid = after_hearing h.protocol x in
    let w = x.wire in
    let kept = settles-keeps now mid h.settled h.shut h.input h.trace h.settles in
    let silent = settles-silent now mid h.settled h.shut h.input h.trace h.settles in
    let quiet = says-silent now h.settled h.said h.written h.says in
    let reads : read_on w mine ≡ read_on w h.read = live-reads w mine h.read h.shut h.written h.all (silent.0 w) (quiet.0 w) in
    let writes : written_on w mine ≡ written_on h.settled.wire h.written =
    live-written w mine h.read h.shut h.written h.all (hears-unwritten w w x.protocol h.protocol h.read h.input h.hears) (settles-unwritten w now mid h.settled h.shut h.input h.trace h.settles)
    ∙ ap (λ n. written_on n h.written) (sym kept.0.0) in
    let asked : requests_in w own ≡ requests_of h.input = loses-requests w h.trace h.said y own h.loses ∙ settles-requests now mid h.settled h.shut h.input h.trace h.settles in
    let trace : messages_in w own ≡ messages_of h.input = loses-messages w h.trace h.said y own h.loses ∙ settles-messages now mid h.settled h.shut h.input h.trace h.settles in
    let refused : refusals_in w own ≡ refusals_of h.input = loses-refusals w h.trace h.said y own h.loses ∙ settles-refusals now mid h.settled h.shut h.input h.trace h.settles in
    let bytes = from ++ read_on w h.read in
    let settled = settles-borne now x h.protocol h.settled h.read h.shut h.input h.trace from written opening messages sent live h.hears h.settles knows b in
    let said = says-glide now h.settled h.said h.written h.says bytes written (grown opening (requests_of h.input) (refusals_of h.input)) (messages ++ messages_of h.input) sent settled in
    let lost = loses-borne h.trace h.said y own bytes (written ++ written_on h.settled.wire h.written) (grown opening (requests_of h.input) (refusals_of h.input)) (messages ++ messages_of h.input) sent h.loses said in
    subst (λ (l : List ℕ). IsBorne (from ++ l) (written ++ written_on w mine) (grown opening (requests_in w own) (refusals_in w own)) (messages ++ messages_in w own) sent y) (sym reads)
    (subst (λ (l : List ℕ). IsBorne bytes (written ++ l) (grown opening (requests_in w own) (refusals_in w own)) (messages ++ messages_in w own) sent y) (sym writes)
    (subst (λ (l : List Request). IsBorne bytes (written ++ written_on h.settled.wire h.written) (grown opening l (refusals_in w own)) (messages ++ messages_in w own) sent y) (sym asked)
    (subst (λ (l : List (List ℕ)). IsBorne bytes (written ++ written_on h.settled.wire h.written) (grown opening (requests_of h.input) (refusals_in w own)) (messages ++ l) sent y) (sym trace)
    (subst (λ (l : List Reply). IsBorne bytes (written ++ written_on h.settled.wire h.written) (grown opening (requests_of h.input) l) (messages ++ messages_of h.input) sent y) (sym refused) lost))))

listens-bear : (now : ℕ) (x y : Lane) (mine : List Answer) (own : Option Event) → Listens now x y mine own → Bears x y mine (requests_in x.wire own) (messages_in x.wire own) (refusals_in x.wire own)
listens-bear now x y mine own h = go x.stage refl h where
  quiet : Glides x y mine → read_on x.wire mine ≡ [] → (requests_in x.wire own ≡ []) × (messages_in x.wire own ≡ []) × (refusals_in x.wire own ≡ []) → Bears x y mine (requests_in x.wire own) (messages_in x.wire own) (refusals_in x.wire own)
  quiet g r e = glides-bear x y mine (requests_in x.wire own) (messages_in x.wire own) (refusals_in x.wire own) g r e.0 e.1 e.2

  nothing : (o : Option Event) → own ≡ o → (requests_in x.wire o ≡ []) × (messages_in x.wire o ≡ []) × (refusals_in x.wire o ≡ []) → (requests_in x.wire own ≡ []) × (messages_in x.wire own ≡ []) × (refusals_in x.wire own ≡ [])
  nothing o e f = (ap (λ o. requests_in x.wire o) e ∙ f.0, ap (λ o. messages_in x.wire o) e ∙ f.1, ap (λ o. refusals_in x.wire o) e ∙ f.2)

  go : (s : Stage) → x.stage ≡ s → TurnsAt s now x y mine own → Bears x y mine (requests_in x.wire own) (messages_in x.wire own) (refusals_in x.wire own)
  go Live e h = by-fullness (λ (l : Lane). Bears x l mine (requests_in x.wire own) (messages_in x.wire own) (refusals_in x.wire own)) now x y mine own
      (λ d f s. quiet (says-glide now (record x { full = None }) y mine s) ((says-silent now (record x { full = None }) y mine s).0 x.wire) (nothing (Some (event.Drained x.wire)) f (refl, refl, refl)))
      (λ s f. quiet (stage-glides x y mine (ap (λ l. written_on x.wire l) f.0) (ap waits f.2) (ap (λ (l : Lane). l.protocol) f.2) (λ k. absurd (cc (sym (ap (λ (l : Lane). is_live l.stage) f.2) ∙ k))))
      (ap (λ l. read_on x.wire l) f.0) (nothing (Some (event.Lost x.wire)) f.1 (refl, refl, refl)))
      (λ mid t. live-bears now x mid mine own e t)
      h
  go Lost e h = quiet (stage-glides x y mine (ap (λ l. written_on x.wire l) h.0) (ap waits h.2) (ap (λ (l : Lane). l.protocol) h.2) (λ k. absurd (cc (sym (ap (λ (l : Lane). is_live l.stage) h.2) ∙ k))))
      (ap (λ l. read_on x.wire l) h.0) (nothing (Some (event.Lost x.wire)) h.1 (refl, refl, refl))
  go Closing e h = quiet (says-glide now x y mine h.1) ((says-silent now x y mine h.1).0 x.wire) (nothing None h.0 (refl, refl, refl))
  go Over e h = quiet (same-glides x y mine h.0 h.2) (ap (λ l. read_on x.wire l) h.0) (nothing None h.1 (refl, refl, refl))

heeds-bear : (now : ℕ) (what : Event) (x y : Lane) (mine : List Answer) → Heeds now what x y mine →
    Bears x y mine (session.request_on x.wire what) (message_on x.wire what) (session.refusal_on x.wire what)
heeds-bear now what x y mine (inl h) =
    subst (λ (l : List Request). Bears x y mine l (message_on x.wire what) (session.refusal_on x.wire what)) (sym (heard-requests x.wire h.0 what h.2))
    (subst (λ (l : List (List ℕ)). Bears x y mine (requests_in x.wire h.0) l (session.refusal_on x.wire what)) (sym (heard-messages x.wire h.0 what h.2))
    (subst (λ (l : List Reply). Bears x y mine (requests_in x.wire h.0) (messages_in x.wire h.0) l) (sym (heard-refusals x.wire h.0 what h.2)) (listens-bear now x y mine h.0 h.1)))
heeds-bear now what x y mine (inr h) =
    glides-bear x y mine (session.request_on x.wire what) (message_on x.wire what) (session.refusal_on x.wire what) (bystander-glide now x y mine h.0) ((bystander-silent now x y mine h.0).0 x.wire)
    (unrequested x.wire what h.1) (unheard x.wire what h.1) (unrefused x.wire what h.1)

-- ---- saying

-- a lane that owes a reply is a door's
owes-door : (x : Lane) (from all : List ℕ) (upgrade : Option Upgrade) (text : List ℕ) (messages : List (List ℕ)) (sent : List Sent) (protocol : Protocol) → (is_live x.stage && is_busy protocol) ≡ true →
    Borne (is_live x.stage) from all (by_ask upgrade text) messages sent protocol → ⊥
owes-door x from all upgrade text messages sent (Http http_state) owed b = cc b.0
owes-door x from all upgrade text messages sent (Response response_state) owed b = cc (sym (dead x.stage) ∙ owed)
owes-door x from all upgrade text messages sent (Socket websocket_state) owed b = cc (sym (dead x.stage) ∙ owed)

-- and says it; after a 101 it carries a WebSocket that was fed with what it held
reply-borne : (now : ℕ) (reply : Reply) (x : Lane) (from written : List ℕ) (opening : Opening) (messages : List (List ℕ)) (sent : List Sent) → owes x ≡ true →
    Knows opening (is_live x.stage) from (written ++ waits x) x.protocol → IsBorne from written opening messages sent x → IsBorne from written (grown opening [] (reply ∷ [])) messages [] (after_reply now reply x)
reply-borne now reply x from written (by_ask upgrade text) messages sent owed knows b = absurd (owes-door x from (written ++ waits x) upgrade text messages sent x.protocol owed b)
reply-borne now reply x from written (by_reply requests replies) messages sent owed knows b = go x.protocol refl owed knows.0 knows.1 b where
  after : Opening
  after = by_reply (requests ++ []) (replies ++ reply ∷ [])

  http : (http_state : HttpStateView) → x.protocol ≡ Http http_state → Asks from requests http_state.lane.held → Voiced None (written ++ (x.out ++ [])) replies (Http http_state) → messages ≡ [] → (b : Bool) →
      IsBorne from written after messages [] (if b then record x { protocol = new_socket (rest_of x.protocol); out = x.out ++ reply_text reply }
      else record x { protocol = protocol_after_reply x.protocol; out = x.out ++ reply_text reply; since = now })
  http http_state e asks wrote none true =
      subst (λ (t : Protocol). IsBorne from written after messages [] (record x { protocol = new_socket (rest_of t); out = x.out ++ reply_text reply })) (sym e)
      (opened (is_live x.stage) from (written ++ ((x.out ++ reply_text reply) ++ [])) (wrote.0 ++ (continue_of wrote.1 ++ reply_text reply)) http_state.lane.held after messages
      (subst (λ (l : List Request). Asks from l http_state.lane.held) (sym (append-nil requests)) asks) (texts-more wrote.1 replies reply wrote.0 wrote.2)
      (reply-said written x.out wrote.0 wrote.1 reply wrote.4) none)
  http http_state e asks wrote none false =
      subst (λ (t : Protocol). IsBorne from written after messages [] (record x { protocol = protocol_after_reply t; out = x.out ++ reply_text reply; since = now })) (sym e) (refl, none)

  go : (protocol : Protocol) → x.protocol ≡ protocol → (is_live x.stage && is_busy protocol) ≡ true → HeardIn from requests protocol → Voiced None (written ++ (x.out ++ frames_of protocol)) replies protocol →
      Borne (is_live x.stage) from (written ++ (x.out ++ frames_of protocol)) (by_reply requests replies) messages sent protocol → IsBorne from written after messages [] (after_reply now reply x)
  go (Http http_state) e owed asks wrote b = http http_state e asks wrote b.1 (reply.status == SWITCHING)
  go (Response response_state) e owed asks wrote b = absurd asks
  go (Socket websocket_state) e owed asks wrote b = absurd (cc (sym (dead x.stage) ∙ owed))

replies-borne : (now : ℕ) (reply : Reply) (x y : Lane) (mine : List Answer) (from written : List ℕ) (opening : Opening) (messages : List (List ℕ)) (sent : List Sent) → Replies now reply x y mine →
    Knows opening (is_live x.stage) from (written ++ waits x) x.protocol → IsBorne from written opening messages sent x →
    IsBorne from (written ++ written_on x.wire mine) (grown opening [] (if owes x then reply ∷ [] else [])) messages (if owes x then [] else sent) y
replies-borne now reply x y mine from written opening messages sent h knows b = go (owes x) refl h where
  go : (c : Bool) → owes x ≡ c → Chooses c (SaysMore (after_reply now reply x) y mine) ((mine ≡ []) × (y ≡ x)) →
      IsBorne from (written ++ written_on x.wire mine) (grown opening [] (if c then reply ∷ [] else [])) messages (if c then [] else sent) y
  go true e h =
      subst (λ n. IsBorne from (written ++ written_on n mine) (grown opening [] (reply ∷ [])) messages [] y) (replied-wire now reply x)
      (more-glide (after_reply now reply x) y mine h from written (grown opening [] (reply ∷ [])) messages [] (reply-borne now reply x from written opening messages sent e knows b))
  go false e h =
      padded from (written ++ written_on x.wire mine) opening messages sent [] [] y refl refl (same-glides x y mine h.0 h.1 from written opening messages sent b)

-- what is given on a lane that goes on is taken, and nothing else
abbrev after_sent : Bool → List Sent → Sent → List Sent
after_sent goes sent m = if goes then sent ++ m ∷ [] else sent

-- nothing is on a lane that awaits its response
none-taken : (goes : Bool) (sent : List Sent) (m : Sent) → goes ≡ false → sent ≡ [] → after_sent goes sent m ≡ []
none-taken goes sent m e f = ap (λ c. after_sent c sent m) e ∙ f

idle-borne : (goes : Bool) (from all : List ℕ) (opening : Opening) (messages : List (List ℕ)) (sent : List Sent) (m : Sent) (live : Bool) (protocol : Protocol) → live ≡ false →
    Lasts (is_dialed opening) live goes (kind_of protocol) → Borne live from all opening messages sent protocol → Borne live from all opening messages (after_sent goes sent m) protocol
idle-borne goes from all opening messages sent m live (Http http_state) l r b = b
idle-borne goes from all opening messages sent m live (Response response_state) l r b = (b.0, b.1, none-taken goes sent m r.1 b.2)
idle-borne goes from all opening messages sent m live (Socket websocket_state) l r b =
    subst (λ c. IsCarried live from all opening messages (after_sent c sent m) websocket_state.lane) (sym l ∙ r) b

put-borne : (goes live : Bool) (protocol : Protocol) (bytes : List ℕ) (text : Bool) (x mid : Lane) (is_put : Bool) (from written : List ℕ) (opening : Opening) (messages : List (List ℕ)) (sent : List Sent) →
    is_live x.stage ≡ live → x.protocol ≡ protocol → Lasts (is_dialed opening) (is_live x.stage) goes (kind_of x.protocol) → PutsAt live protocol bytes text x mid is_put →
    IsBorne from written opening messages sent x → IsBorne from written opening messages (after_sent goes sent (record { is_text = text; bytes = bytes })) mid
put-borne goes true (Socket websocket_state) bytes text x mid is_put from written opening messages sent l e r h b =
    let m : Sent = record { is_text = text; bytes = bytes } in
    let lasts : is_live x.stage ≡ goes = subst (λ (t : Protocol). Lasts (is_dialed opening) (is_live x.stage) goes (kind_of t)) e r in
    let on : true ≡ goes = sym l ∙ lasts in
    subst (λ c. IsBorne from written opening messages (after_sent c sent m) mid) on
    (becomes from written opening messages (sent ++ m ∷ []) mid (record x { protocol = Socket (record websocket_state { lane = h.0 }) }) h.2
    (unpadded messages (λ k. IsCarried (is_live x.stage) from (written ++ (x.out ++ h.0.out.bytes)) opening k (sent ++ m ∷ []) h.0)
    (carries-said (is_live x.stage) from written x.out opening messages sent websocket_state.lane h.0 bytes text is_put l h.1
    (subst (λ (t : Protocol). Borne (is_live x.stage) from (written ++ (x.out ++ frames_of t)) opening messages sent t) e b))))
put-borne goes true (Http http_state) bytes text x mid is_put from written opening messages sent l e r h b =
    let all = after_sent goes sent (record { is_text = text; bytes = bytes }) in
    let none : (is_dialed opening ≡ false) × (messages ≡ []) = subst (λ (t : Protocol). Borne (is_live x.stage) from (written ++ (x.out ++ frames_of t)) opening messages sent t) e b in
    becomes from written opening messages all mid x h.1
    (subst (λ (t : Protocol). Borne (is_live x.stage) from (written ++ (x.out ++ frames_of t)) opening messages all t) (sym e) none)
put-borne goes true (Response response_state) bytes text x mid is_put from written opening messages sent l e r h b =
    let m : Sent = record { is_text = text; bytes = bytes } in
    let none : (is_dialed opening ≡ true) × (messages ≡ []) × (sent ≡ []) = subst (λ (t : Protocol). Borne (is_live x.stage) from (written ++ (x.out ++ frames_of t)) opening messages sent t) e b in
    let idle : (is_dialed opening ≡ true) × (goes ≡ false) = subst (λ (t : Protocol). Lasts (is_dialed opening) (is_live x.stage) goes (kind_of t)) e r in
    becomes from written opening messages (after_sent goes sent m) mid x h.1
    (subst (λ (t : Protocol). Borne (is_live x.stage) from (written ++ (x.out ++ frames_of t)) opening messages (after_sent goes sent m) t) (sym e)
    (none.0, none.1, none-taken goes sent m idle.1 none.2))
put-borne goes false protocol bytes text x mid is_put from written opening messages sent l e r h b =
    let m : Sent = record { is_text = text; bytes = bytes } in
    becomes from written opening messages (after_sent goes sent m) mid x h.1
    (idle-borne goes from (written ++ waits x) opening messages sent m (is_live x.stage) x.protocol l r b)

sends-borne : (goes : Bool) (now : ℕ) (bytes : List ℕ) (text : Bool) (x y : Lane) (mine : List Answer) (from written : List ℕ) (opening : Opening) (messages : List (List ℕ)) (sent : List Sent) →
    Lasts (is_dialed opening) (is_live x.stage) goes (kind_of x.protocol) → Sends now bytes text x y mine → IsBorne from written opening messages sent x →
    IsBorne from (written ++ written_on x.wire mine) opening messages (after_sent goes sent (record { is_text = text; bytes = bytes })) y
sends-borne goes now bytes text x y mine from written opening messages sent r h b = go h.0 h.1 h.2 h.3 where
  all : List Sent
  all = after_sent goes sent (record { is_text = text; bytes = bytes })

  rest : (mid : Lane) (c : Bool) → SaysPut now c mid y mine → IsBorne from written opening messages all mid → IsBorne from (written ++ written_on mid.wire mine) opening messages all y
  rest mid true s put = subst (λ (l : Lane). IsBorne from (written ++ written_on mid.wire mine) opening messages all l) (sym s.2) (gathered-glide mid s.0 mine s.1 from written opening messages all put)
  rest mid false s put = same-glides mid y mine s.0 s.1 from written opening messages all put

  go : (mid : Lane) (c : Bool) → Puts bytes text x mid c → SaysPut now c mid y mine → IsBorne from (written ++ written_on x.wire mine) opening messages all y
  go mid c p s =
      let put = put-borne goes (is_live x.stage) x.protocol bytes text x mid c from written opening messages sent refl refl r p b in
      subst (λ n. IsBorne from (written ++ written_on n mine) opening messages all y) (put-wire (is_live x.stage) x.protocol bytes text x mid c p) (rest mid c s put)

shut-borne : (x : Lane) (protocol : Protocol) (from written : List ℕ) (opening : Opening) (messages : List (List ℕ)) (sent : List Sent) → Borne (is_live x.stage) from (written ++ (x.out ++ frames_of protocol)) opening messages sent protocol →
    Borne false from (written ++ (x.out ++ frames_of (protocol_after_shut protocol))) opening messages sent (protocol_after_shut protocol)
shut-borne x (Http http_state) from written opening messages sent b = b
shut-borne x (Response response_state) from written opening messages sent b = b
shut-borne x (Socket websocket_state) from written opening messages sent b =
    unpadded messages (λ m. IsCarried false from (written ++ (x.out ++ (sending.after_shut websocket_state.lane).out.bytes)) opening m sent (sending.after_shut websocket_state.lane))
    (carries-shut from written x.out opening messages sent websocket_state.lane
    (carries-on (is_live x.stage) false from (written ++ (x.out ++ websocket_state.lane.out.bytes)) opening messages sent websocket_state.lane websocket_state.lane (λ e. absurd (cc e)) refl b))

shuts-glide : (now : ℕ) (x y : Lane) (mine : List Answer) → Shuts now x y mine → Glides x y mine
shuts-glide now x y mine h = go (is_live x.stage) h where
  go : (b : Bool) → Chooses b (WritesOut (record x { since = now; protocol = protocol_after_shut x.protocol; stage = Closing }) y mine) ((mine ≡ []) × (y ≡ x)) → Glides x y mine
  go true h = λ from written opening messages sent b.
      writes-glide (record x { since = now; protocol = protocol_after_shut x.protocol; stage = Closing }) y mine h from written opening messages sent (shut-borne x x.protocol from written opening messages sent b)
  go false h = same-glides x y mine h.0 h.1

-- ---- sessions

abbrev messages_by : ℕ → Call → List (List ℕ)
messages_by wire (session.heard what answers) = message_on wire what.event
messages_by wire _ = []

messages-more : (wire : ℕ) (call : Call) (calls : List Call) → messages_on wire (call ∷ calls) ≡ messages_on wire calls ++ messages_by wire call
messages-more wire (session.heard what answers) calls = refl
messages-more wire (session.replied lane reply answers) calls = sym (append-nil (messages_on wire calls))
messages-more wire (session.sent lane bytes text full answers) calls = sym (append-nil (messages_on wire calls))
messages-more wire (session.shut lane answers) calls = sym (append-nil (messages_on wire calls))
messages-more wire (session.wrote lane answers) calls = sym (append-nil (messages_on wire calls))

-- the messages that were given on a lane since a reply was said there last, as long as it went on, after a call, where these were before
abbrev sent_by : ℕ → Bool → Bool → Call → List Sent → List Sent
sent_by wire owed goes (session.replied at reply answers) sent = if (at == wire) && owed then [] else sent
sent_by wire owed goes (session.sent at bytes text full answers) sent = if (at == wire) && goes then sent ++ record { is_text = text; bytes = bytes } ∷ [] else sent
sent_by wire owed goes _ sent = sent

sent-more : (call : Call) (calls : List Call) (x : Lane) → IsOwed calls x → sent_on x.wire (call ∷ calls) ≡ sent_by x.wire (owes x) (goes_on x.wire calls) call (sent_on x.wire calls)
sent-more (session.heard what answers) calls x k = refl
sent-more (session.replied at reply answers) calls x k = ap (λ b. if (at == x.wire) && b then [] else sent_on x.wire calls) (sym k)
sent-more (session.sent at bytes text full answers) calls x k = refl
sent-more (session.shut at answers) calls x k = refl
sent-more (session.wrote at answers) calls x k = refl

-- what a lane heard and said before, it does after a call with what this adds
abbrev BearsAt : Lane → Lane → List Answer → List ℕ → List ℕ → Opening → List (List ℕ) → List Sent → List Request → List (List ℕ) → List Reply → Type 0
BearsAt x y mine from written opening messages sent more_requests more_messages more_replies =
    IsBorne (from ++ read_on x.wire mine) (written ++ written_on x.wire mine) (grown opening more_requests more_replies) (messages ++ more_messages) sent y

-- nothing was read, and no message came
widened : (bytes from written : List ℕ) (opening : Opening) (messages : List (List ℕ)) (sent : List Sent) (y : Lane) → bytes ≡ [] → IsBorne from written opening messages sent y →
    IsBorne (from ++ bytes) written opening (messages ++ []) sent y
widened bytes from written opening messages sent y e k =
    subst (λ (l : List ℕ). IsBorne l written opening (messages ++ []) sent y) (sym (ap (λ l. from ++ l) e ∙ append-nil from))
    (subst (λ (l : List (List ℕ)). IsBorne from written opening l sent y) (sym (append-nil messages)) k)

moves-bear : (goes : Bool) (call : Call) (x y : Lane) (from written : List ℕ) (opening : Opening) (messages : List (List ℕ)) (sent : List Sent) → Lasts (is_dialed opening) (is_live x.stage) goes (kind_of x.protocol) →
    Moves call x y → Knows opening (is_live x.stage) from (written ++ waits x) x.protocol → IsBorne from written opening messages sent x →
    BearsAt x y (share x.wire (answers_in call)) from written opening messages (sent_by x.wire (owes x) goes call sent) (requests_by x.wire call) (messages_by x.wire call) (replies_by x.wire (owes x) call)
moves-bear goes (session.heard what answers) x y from written opening messages sent r h knows b = heeds-bear what.now what.event x y (share x.wire answers) h from written opening messages sent knows b
moves-bear goes (session.replied at reply answers) x y from written opening messages sent r h knows b =
    by-number at (Replies h.0 reply) x y mine (λ c. BearsAt x y mine from written opening messages (if c && owes x then [] else sent) [] [] (if c && owes x then reply ∷ [] else []))
    (λ s. widened (read_on x.wire mine) from (written ++ written_on x.wire mine) (grown opening [] (if owes x then reply ∷ [] else [])) messages (if owes x then [] else sent) y
    ((replies-silent h.0 reply x y mine s).0 x.wire) (replies-borne h.0 reply x y mine from written opening messages sent s knows b))
    (λ e f. glides-bear x y mine [] [] [] (same-glides x y mine f e) (ap (λ l. read_on x.wire l) f) refl refl refl from written opening messages sent knows b) h.1 where
      mine : List Answer
      mine = share x.wire answers
moves-bear goes (session.sent at bytes text full answers) x y from written opening messages sent r h knows b =
    by-number at (Sends h.0 bytes text) x y mine (λ c. BearsAt x y mine from written opening messages (if c && goes then sent ++ record { is_text = text; bytes = bytes } ∷ [] else sent) [] [] [])
    (λ s. padded (from ++ read_on x.wire mine) (written ++ written_on x.wire mine) opening (messages ++ []) all [] [] y refl refl
    (widened (read_on x.wire mine) from (written ++ written_on x.wire mine) opening messages all y ((sends-silent h.0 bytes text x y mine s).0 x.wire)
    (sends-borne goes h.0 bytes text x y mine from written opening messages sent r s b)))
    (λ e f. glides-bear x y mine [] [] [] (same-glides x y mine f e) (ap (λ l. read_on x.wire l) f) refl refl refl from written opening messages sent knows b) h.1 where
      mine : List Answer
      mine = share x.wire answers

      all : List Sent
      all = after_sent goes sent (record { is_text = text; bytes = bytes })
moves-bear goes (session.shut at answers) x y from written opening messages sent r h knows b =
    by-number at (Shuts h.0) x y (share x.wire answers) (λ c. BearsAt x y (share x.wire answers) from written opening messages sent [] [] [])
    (λ s. glides-bear x y (share x.wire answers) [] [] [] (shuts-glide h.0 x y (share x.wire answers) s) ((shuts-silent h.0 x y (share x.wire answers) s).0 x.wire) refl refl refl from written opening messages sent knows b)
    (λ e f. glides-bear x y (share x.wire answers) [] [] [] (same-glides x y (share x.wire answers) f e) (ap (λ l. read_on x.wire l) f) refl refl refl from written opening messages sent knows b) h.1
moves-bear goes (session.wrote at answers) x y from written opening messages sent r h knows b =
    glides-bear x y (share x.wire answers) [] [] [] (bystander-glide 0 x y (share x.wire answers) h) ((bystander-silent 0 x y (share x.wire answers) h).0 x.wire) refl refl refl from written opening messages sent knows b

-- what was read, written, heard and given on a wire, as far as these calls tell
abbrev pub BorneAt : ℕ → Opening → List Call → Lane → Type 0
BorneAt wire opening calls lane = IsBorne (read_on wire (answers_of calls)) (written_on wire (answers_of calls)) opening (messages_on wire calls) (sent_on wire calls) lane

abbrev pub KnownAt : ℕ → Opening → List Call → Lane → Type 0
KnownAt wire opening calls lane = Knows opening (is_live lane.stage) (read_on wire (answers_of calls)) (written_on wire (answers_of calls) ++ waits lane) lane.protocol

pub borne-more : (opening : Opening) (call : Call) (calls : List Call) (x y : Lane) → IsOwed calls x → IsLasting (is_dialed opening) calls x → KnownAt x.wire opening calls x → BorneAt x.wire opening calls x → Moves call x y →
    BorneAt x.wire (grown opening (requests_by x.wire call) (replies_by x.wire (owes x) call)) (call ∷ calls) y
borne-more opening call calls x y owed lasts knows b h =
    let w = x.wire in
    let mine = share w (answers_in call) in
    let from = read_on w (answers_of calls) in
    let written = written_on w (answers_of calls) in
    let after = grown opening (requests_by w call) (replies_by w (owes x) call) in
    let moved = moves-bear (goes_on w calls) call x y from written opening (messages_on w calls) (sent_on w calls) lasts h knows b in
    subst (λ (l : List ℕ). IsBorne l (written_on w (answers_of (call ∷ calls))) after (messages_on w (call ∷ calls)) (sent_on w (call ∷ calls)) y) (sym (read-more w calls call))
    (subst (λ (l : List ℕ). IsBorne (from ++ read_on w mine) l after (messages_on w (call ∷ calls)) (sent_on w (call ∷ calls)) y) (sym (written-more w calls call))
    (subst (λ (l : List (List ℕ)). IsBorne (from ++ read_on w mine) (written ++ written_on w mine) after l (sent_on w (call ∷ calls)) y) (sym (messages-more w call calls))
    (subst (λ (l : List Sent). IsBorne (from ++ read_on w mine) (written ++ written_on w mine) after (messages_on w calls ++ messages_by w call) l y) (sym (sent-more call calls x owed)) moved)))

-- ---- a door's sessions

abbrev opened_on : ℕ → List Call → Opening
opened_on wire calls = by_reply (requests_on wire calls) (replies_on wire calls)

abbrev IsWhole : List Call → Lane → Type 0
IsWhole calls lane = IsAsked calls lane × HasSaid calls lane × IsLasting false calls lane × BorneAt lane.wire (opened_on lane.wire calls) calls lane

borne-here : (call : Call) (calls : List Call) (x y : Lane) → IsWhole calls x → Moves call x y → BorneAt x.wire (opened_on x.wire (call ∷ calls)) (call ∷ calls) y
borne-here call calls x y k h =
    let w = x.wire in
    subst (λ (l : List Request). BorneAt w (by_reply l (replies_on w (call ∷ calls))) (call ∷ calls) y) (sym (requests-more w call calls))
    (subst (λ (l : List Reply). BorneAt w (by_reply (requests_on w calls ++ requests_by w call) l) (call ∷ calls) y) (sym (replies-more call calls x k.1.0))
    (borne-more (opened_on w calls) call calls x y k.1.0 k.2 (k.0, k.1.1) k.3 h))

step-whole : (call : Call) (calls : List Call) (x y : Lane) → IsWhole calls x → Moves call x y → IsWhole (call ∷ calls) y
step-whole call calls x y k h = (
  step-asked call calls x y k.0 h,
  step-said call calls x y k.1 h,
  step-lasting false call calls x y k.1.0 k.2 h,
  subst (λ n. BorneAt n (opened_on n (call ∷ calls)) (call ∷ calls) y) (sym (moves-wire call x y h)) (borne-here call calls x y k h),
)

new-whole : (calls : List Call) (now wire : ℕ) → IsUntouched wire calls → IsWhole calls (new_lane now wire)
new-whole calls now wire h = (new-asked calls now wire h, new-said calls now wire h, new-lasting calls now wire, (refl, h.messages))

carries-of : (calls : List Call) (lane : Lane) (protocol : Protocol) →
    Borne (is_live lane.stage) (read_on lane.wire (answers_of calls)) (written_on lane.wire (answers_of calls) ++ waits lane) (opened_on lane.wire calls) (messages_on lane.wire calls) (sent_on lane.wire calls) protocol →
    CarriesSocket calls lane protocol
carries-of calls lane (Http http_state) b = tt
carries-of calls lane (Response response_state) b = absurd (cc b.0)
carries-of calls lane (Socket websocket_state) b = b

pub sockets-are-carried : SocketsAreCarried
sockets-are-carried calls bound now h lane has =
    carries-of calls lane lane.protocol (each-lane IsWhole new-whole step-whole calls bound now h lane (has-of now.lanes lane has)).3
