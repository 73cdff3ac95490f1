-- In a session of a dialer a response is heard on a wire once, and it is the one with which all bytes begin that were read there.
use Rattle.std.proofs.Common.{◌≡◌, ◌⊎◌, ◌&&◌, ◌||◌, ◌++◌, ◌∷◌, [], ℕ, Bool, true, false, if◌then◌else◌, List, Option, None, Some, is_some, refl, sym, ap, ◌∙◌, subst, inl, inr, append-nil, length, option_map}
use Rattle.hw_lanes.specs.declared.http.Reply.{Reply}
use Rattle.hw_door.specs.declared.heard.Address.{Address}
use Rattle.hw_door.specs.declared.heard.Event.{Event}
use Rattle.hw_door.specs.declared.heard.Event.TheVariants as event
use Rattle.hw_door.specs.declared.heard.Upgrade.{Upgrade}
use Rattle.hw_door.specs.Traffic.{Answer, read_on}
use Rattle.hw_net.specs.declared.input.Input.{Input}
use Rattle.hw_net.specs.declared.input.Input.TheVariants as input
use Rattle.hw_net.specs.declared.protocol.Protocol.{Protocol}
use Rattle.hw_net.specs.declared.protocol.Protocol.TheVariants.{Http, Response, Socket}
use Rattle.hw_net.specs.declared.protocol.Stage.{Stage}
use Rattle.hw_net.specs.declared.protocol.Stage.TheVariants.{Live, Lost, Closing, Over}
use Rattle.hw_net.specs.declared.response_state.Expected.{Expected}
use Rattle.hw_net.specs.DialerSessions.{AwaitsResponse, DialerAsk, DialerCall, ResponsesAreAwaited, ResponsesAreGiven, all_on_wires, answers_in, answers_of, asked, cut, does, idle, input_of, is_answer_on, is_answered_on, missed, on_wires, text_of, upgrade_on}
use Rattle.hw_net.specs.Door.{lane_of}
use Rattle.hw_net.specs.Lane.{Lane, accepted_socket, after_hearing, dialed_lane, after_reply, expected_of, is_busy, is_live, is_overdue, owes, protocol_after_shut}
use Rattle.hw_net.specs.ResponseState.{Answers, HearsResponse, IsAnswered, IsBeginning, IsWaiting, ResponseStateView}
use Rattle.hw_net.specs.Saying.{SaysMore, is_too_much}
use Rattle.hw_net.specs.Sessions as session
use Rattle.hw_net.specs.Sessions.{Call}
use Rattle.hw_net.specs.Trace.{Chooses, bytes_of}
use Rattle.hw_net.specs.WebSocketState.{HearsWebSocket, WebSocketState}
use Rattle.hw_net.specs.Turn.{Falls, Hears, Listens, Loses, LosesAt, Passes, Replies, Sends, Settles, Shuts, TurnsAt, TurnsLive}
use Rattle.hw_net.proofs.Asked.{ReadsAs, Silent, at-silent, bystander-silent, gives-bytes, read-more, rest-silent, still-silent, says-silent, sends-silent, shuts-silent}
use Rattle.hw_net.proofs.Bystanders.{SaysOrStays}
use Rattle.hw_net.proofs.Closings.{owes-live}
use Rattle.hw_net.proofs.Counting.{bystander-live, same-lives, says-live, sends-live, shuts-live}
use Rattle.hw_net.proofs.DialerWalks.{IsOther, dialed-mover, each-dialed}
use Rattle.hw_net.proofs.Ends.{dead}
use Rattle.hw_net.proofs.Fullness.{by-fullness}
use Rattle.hw_net.proofs.Losses.{over-said}
use Rattle.hw_net.proofs.Moves.{has-of}
use Rattle.hw_net.proofs.Owed.{by-number}
use Rattle.hw_net.proofs.Owning.{bystander-keeps, is_on}
use Rattle.hw_net.proofs.Shares.{read-share, same, share}
use Rattle.hw_net.proofs.Speaking.{Keeps, bystander-kind, kind_of, loses-kind, same-kind, says-kind, sends-kind, shuts-kind}
use Rattle.hw_net.proofs.Walks.{Heeds, IsHeard, IsUntouched, Moves, moves-wire, off-and-on, unanswered}

-- What a lane has of these bytes, which were read on its wire, where this is expected of its response and it was heard, or not: it was exactly if it came.
abbrev pub Held : Option Expected → List ℕ → Bool → Protocol → Type 0
Held expected bytes answered (Http http_state) = ⊥
Held expected bytes answered (Response response_state) =
    (response_state.upgrade ≡ expected) × (response_state.accepted ≡ false)
    × (response_state.concluded ≡ false → (answered ≡ false) × (response_state.lane.held ≡ bytes) × ((bytes ≡ []) ⊎ IsBeginning bytes))
    × (response_state.concluded ≡ true → answered ≡ true)
Held expected bytes answered (Socket websocket_state) = answered ≡ true

-- what leaves what was read, and what the lane speaks, leaves this
held-on : (expected : Option Expected) (bytes : List ℕ) (answered : Bool) (before after : Protocol) → ReadsAs before after → kind_of after ≡ kind_of before → Held expected bytes answered before → Held expected bytes answered after
held-on expected bytes answered (Http before) after e k h = absurd h
held-on expected bytes answered (Response before) (Response after) e k h = subst (λ (a : ResponseStateView). Held expected bytes answered (Response a)) (sym e) h
held-on expected bytes answered (Response before) (Socket after) e k h = absurd (cc k)
held-on expected bytes answered (Response before) (Http after) e k h = absurd e
held-on expected bytes answered (Socket before) (Socket after) e k h = h
held-on expected bytes answered (Socket before) (Http after) e k h = absurd e
held-on expected bytes answered (Socket before) (Response after) e k h = absurd e

-- a beginning of a response is one
waiting-begins : (lane : _) → IsWaiting lane → IsBeginning lane.held
waiting-begins lane (inl h) = inl h
waiting-begins lane (inr h) = inr (lane.want, h.0, h.1)

-- ---- turns

-- the event is the response on the wire, or its upgrade; what it was heard as
abbrev answers_to : ℕ → Option Event → Bool
answers_to wire None = false
answers_to wire (Some trace) = is_answer_on wire trace

abbrev input_in : Option Event → Option Input
input_in None = None
input_in (Some trace) = input_of trace

-- so it is of an input
abbrev is_answer : Input → Bool
is_answer (input.Response status body) = true
is_answer input.Upgraded = true
is_answer _ = false

abbrev answer_of : Input → Option Input
answer_of (input.Response status body) = Some (input.Response status body)
answer_of input.Upgraded = Some input.Upgraded
answer_of _ = None

-- the event answers as its input does
abbrev Fits : ℕ → Option Event → Bool → Option Input → Type 0
Fits wire heard answers answer = (answers_to wire heard ≡ answers) × (input_in heard ≡ answer)

fits : (wire : ℕ) (heard to : Option Event) (answers : Bool) (answer : Option Input) → heard ≡ to → Fits wire to answers answer → Fits wire heard answers answer
fits wire heard to answers answer e f = (ap (λ o. answers_to wire o) e ∙ f.0, ap input_in e ∙ f.1)

settles-fits : (now : ℕ) (before after : Lane) (answers : List Answer) (what : Input) (heard : Option Event) → Settles now before after answers what heard → Fits before.wire heard (is_answer what) (answer_of what)
settles-fits now before after answers input.Nothing heard h = go (is_overdue now before) h where
  go : (b : Bool) → Chooses b (Falls before after answers heard) (Passes before after answers None heard) → Fits before.wire heard false None
  go true h = fits before.wire heard _ false None h.1 (refl, refl)
  go false h = fits before.wire heard None false None h.1 (refl, refl)
settles-fits now before after answers (input.Request request) heard h = fits before.wire heard _ false None h.1 (refl, refl)
settles-fits now before after answers (input.Refused refusal) heard h = fits before.wire heard _ false None h.1 (refl, refl)
settles-fits now before after answers (input.Response status body) heard h =
    fits before.wire heard (Some (event.Response before.wire status body)) true (Some (input.Response status body)) h.1 (same before.wire, refl)
settles-fits now before after answers input.Upgraded heard h = fits before.wire heard (Some (event.Upgraded before.wire)) true (Some input.Upgraded) h.1 (same before.wire, refl)
settles-fits now before after answers (input.Message bytes) heard h = fits before.wire heard _ false None h.1 (refl, refl)
settles-fits now before after answers input.Broken heard h = fits before.wire heard _ false None h.1 (refl, refl)
settles-fits now before after answers input.Gone heard h = fits before.wire heard _ false None h.1 (refl, refl)

loses-fits : (wire : ℕ) (trace : Option Event) (before after : Lane) (heard : Option Event) (answers : Bool) (answer : Option Input) → Loses trace before after heard → Fits wire trace answers answer → Fits wire heard answers answer
loses-fits wire (Some here) before after heard answers answer h f = fits wire heard (Some here) answers answer h.0 f
loses-fits wire None before after heard answers answer h f = go before.stage h where
  go : (s : Stage) → LosesAt s before after heard → Fits wire heard answers answer
  go Live h = fits wire heard None answers answer h.0 f
  go Lost h = fits wire heard _ answers answer h.0 f
  go Closing h = fits wire heard None answers answer h.0 f
  go Over h = fits wire heard None answers answer h.0 f

live-fits : (now : ℕ) (x y : Lane) (mine : List Answer) (own : Option Event) (h : TurnsLive now x y mine own) → Fits x.wire own (is_answer h.input) (answer_of h.input)
live-fits now x y mine own h =
    loses-fits x.wire h.trace h.said y own (is_answer h.input) (answer_of h.input) h.loses (settles-fits now (after_hearing h.protocol x) h.settled h.shut h.input h.trace h.settles)

-- what a live lane has once it read these bytes too, and heard its response or didn't
abbrev Takes : Lane → Lane → List Answer → Bool → Type 0
Takes x y mine heard =
    (expected : Option Expected) (bytes : List ℕ) (answered : Bool) → (is_live x.stage ≡ true → Held expected bytes answered x.protocol) → is_live y.stage ≡ true →
    Held expected (bytes ++ read_on x.wire mine) (heard || answered) y.protocol

silent-takes : (x y : Lane) (mine : List Answer) (heard : Bool) → Silent x y mine → Keeps x y → (is_live y.stage ≡ true → is_live x.stage ≡ true) → heard ≡ false → Takes x y mine heard
silent-takes x y mine heard s keeps lives e expected bytes answered k live =
    subst (λ b. Held expected (bytes ++ read_on x.wire mine) (b || answered) y.protocol) (sym e)
    (subst (λ (l : List ℕ). Held expected l answered y.protocol) (sym (ap (λ l. bytes ++ l) (s.0 x.wire) ∙ append-nil bytes)) (held-on expected bytes answered x.protocol y.protocol s.1 keeps (k (lives live))))

concluded-now : {A : Type 0} (b : Bool) → b ≡ true → b ≡ false → A
concluded-now b e f = absurd (cc (sym e ∙ f))

-- a lane that hears its upgrade asked for one, so it is a WebSocket
becomes-socket : (upgrade : Option Expected) (bytes rest : List ℕ) (expected : Option Expected) (all : List ℕ) (response_state : ResponseStateView) → Answers upgrade bytes rest input.Upgraded →
    Held expected all true (accepted_socket upgrade response_state)
becomes-socket None bytes rest expected all response_state a = absurd (cc a.2.1)
becomes-socket (Some upgrade) bytes rest expected all response_state a = refl

-- once it settled what it heard, unless its wire broke
settled-held : (now : ℕ) (x : Lane) (protocol : Protocol) (after : Lane) (read shut : List Answer) (what : Input) (heard : Option Event) (expected : Option Expected) (bytes : List ℕ) (answered : Bool) → Hears x.wire x.protocol protocol read what →
    Settles now (after_hearing protocol x) after shut what heard → Held expected bytes answered x.protocol → (what ≡ input.Broken) ⊎ Held expected (bytes ++ read_on x.wire read) (is_answer what || answered) after.protocol
settled-held now x protocol after read shut what heard expected bytes answered h s k = go x.protocol protocol what h s k where
  all : List ℕ
  all = bytes ++ read_on x.wire read

  at : (heard : Bool) (mid : Lane) → after ≡ mid → Held expected all heard mid.protocol → Held expected all heard after.protocol
  at heard mid e v = subst (λ (l : Lane). Held expected all heard l.protocol) (sym e) v

  response : (old new : ResponseStateView) (what : Input) → (h : HearsResponse x.wire old new read what) → Settles now (after_hearing (Response new) x) after shut what heard → Held expected bytes answered (Response old) →
      (what ≡ input.Broken) ⊎ Held expected all (is_answer what || answered) after.protocol
  response old new input.Nothing h s k = inr (by (is_overdue now (after_hearing (Response new) x)) s) where
    begun : new.concluded ≡ false → (answered ≡ false) × (new.lane.held ≡ all) × ((all ≡ []) ⊎ IsBeginning all)
    begun g =
        let was = k.2 (sym h.is_input.4 ∙ g) in
        let held : new.lane.held ≡ all = h.is_input.5 ∙ ap (λ l. l ++ bytes_of h.got) was.1 ∙ ap (λ l. bytes ++ l) (sym (gives-bytes x.wire _ read h.got h.read)) in
        (was.0, held, inr (subst (λ (l : List ℕ). IsBeginning l) held (waiting-begins new.lane (h.is_input.6 g))))

    nothing : Held expected all answered (Response new)
    nothing = (h.upgrade ∙ k.0, h.is_input.3, begun, λ g. k.3 (sym h.is_input.4 ∙ g))

    by : (b : Bool) → Chooses b (Falls (after_hearing (Response new) x) after shut heard) (Passes (after_hearing (Response new) x) after shut None heard) → Held expected all answered after.protocol
    by true f = at answered (record (after_hearing (Response new) x) { stage = Over }) f.2 nothing
    by false f = at answered (after_hearing (Response new) x) f.2 nothing
  response old new (input.Request request) h s k = absurd h.is_input
  response old new (input.Refused refusal) h s k = absurd h.is_input
  response old new (input.Response status body) h s k =
      inr (at true (after_hearing (Response new) x) s.2 (h.upgrade ∙ k.0, h.is_input.2, λ g. concluded-now new.concluded h.is_input.1 g, λ g. refl))
  response old new input.Upgraded h s k = inr (at true (record (after_hearing (Response new) x) { protocol = accepted_socket new.upgrade new }) s.2 (by h.is_input)) where
    by : ((old.accepted ≡ true) × (is_some old.upgrade ≡ true) × (new ≡ old)) ⊎ IsAnswered old new h.got input.Upgraded → Held expected all true (accepted_socket new.upgrade new)
    by (inl a) = absurd (cc (sym k.1 ∙ a.0))
    by (inr a) = becomes-socket new.upgrade (old.lane.held ++ bytes_of h.got) new.lane.held expected all new (subst (λ (u : Option Expected). Answers u (old.lane.held ++ bytes_of h.got) new.lane.held input.Upgraded) (sym h.upgrade) a.3)
  response old new (input.Message message) h s k = absurd h.is_input
  response old new input.Broken h s k = inl refl
  response old new input.Gone h s k = absurd h.is_input

  message : (old new : WebSocketState) (what : Input) → HearsWebSocket x.wire old new read what → Settles now (after_hearing (Socket new) x) after shut what heard → answered ≡ true → (what ≡ input.Broken) ⊎ Held expected all (is_answer what || answered) after.protocol
  message old new input.Nothing h s k = inr (by (is_overdue now (after_hearing (Socket new) x)) s) where
    by : (b : Bool) → Chooses b (Falls (after_hearing (Socket new) x) after shut heard) (Passes (after_hearing (Socket new) x) after shut None heard) → Held expected all answered after.protocol
    by true f = at answered (record (after_hearing (Socket new) x) { stage = Over }) f.2 k
    by false f = at answered (after_hearing (Socket new) x) f.2 k
  message old new (input.Request request) h s k = absurd h.is_input
  message old new (input.Refused refusal) h s k = absurd h.is_input
  message old new (input.Response status body) h s k = absurd h.is_input
  message old new input.Upgraded h s k = absurd h.is_input
  message old new (input.Message bytes) h s k = inr (at answered (after_hearing (Socket new) x) s.2 k)
  message old new input.Broken h s k = inl refl
  message old new input.Gone h s k = inr (at answered (record (after_hearing (Socket new) x) { since = now; protocol = protocol_after_shut (Socket new); stage = Closing }) s.2 k)

  go : (old new : Protocol) (what : Input) → Hears x.wire old new read what → Settles now (after_hearing new x) after shut what heard → Held expected bytes answered old → (what ≡ input.Broken) ⊎ Held expected all (is_answer what || answered) after.protocol
  go (Response old) (Response new) what h s k = response old new what h s k
  go (Socket old) (Socket new) what h s k = message old new what h s k
  go (Http old) new what h s k = absurd k
  go (Response old) (Http new) what h s k = absurd h
  go (Response old) (Socket new) what h s k = absurd h
  go (Socket old) (Http new) what h s k = absurd h
  go (Socket old) (Response new) what h s k = absurd h

-- a lane whose wire broke isn't live after its turn
broken-dead : (now : ℕ) (x y : Lane) (mine : List Answer) (own : Option Event) (h : TurnsLive now x y mine own) → h.input ≡ input.Broken → is_live y.stage ≡ true → ⊥
broken-dead now x y mine own h e live = go (subst (λ (i : Input). Settles now (after_hearing h.protocol x) h.settled h.shut i h.trace) e h.settles) where
  go : Falls (after_hearing h.protocol x) h.settled h.shut h.trace → ⊥
  go f = absurd (cc (sym live ∙ ap (λ (l : Lane). is_live l.stage) (over-said now h.settled h.said y h.written (ap (λ (l : Lane). l.stage) f.2) h.says (heard (subst (λ (o : Option Event). Loses o h.said y own) f.1 h.loses))
      ∙ f.2))) where
        heard : Loses (Some (event.Lost x.wire)) h.said y own → y ≡ h.said
        heard l = l.1

live-takes : (now : ℕ) (x y : Lane) (mine : List Answer) (own : Option Event) → x.stage ≡ Live → TurnsLive now x y mine own → Takes x y mine (answers_to x.wire own)
live-takes now x y mine own was h expected bytes answered k live = go (settled-held now x h.protocol h.settled h.read h.shut h.input h.trace expected bytes answered h.hears h.settles (k (ap is_live was))) where
  keeps : Keeps h.settled y
  keeps = loses-kind h.trace h.said y own h.loses ∙ says-kind now h.settled h.said h.written h.says

  rest : (read_on x.wire mine ≡ read_on x.wire h.read) × ReadsAs h.settled.protocol y.protocol
  rest = let r = rest-silent now x y mine own h in (r.0, r.2)

  go : (h.input ≡ input.Broken) ⊎ Held expected (bytes ++ read_on x.wire h.read) (is_answer h.input || answered) h.settled.protocol → Held expected (bytes ++ read_on x.wire mine) (answers_to x.wire own || answered) y.protocol
  go (inl e) = absurd (broken-dead now x y mine own h e live)
  go (inr v) =
      subst (λ b. Held expected (bytes ++ read_on x.wire mine) (b || answered) y.protocol) (sym (live-fits now x y mine own h).0)
      (subst (λ (l : List ℕ). Held expected (bytes ++ l) (is_answer h.input || answered) y.protocol) (sym rest.0)
      (held-on expected (bytes ++ read_on x.wire h.read) (is_answer h.input || answered) h.settled.protocol y.protocol rest.1 keeps v))

dead-takes : (x y : Lane) (mine : List Answer) (heard : Bool) → is_live y.stage ≡ false → Takes x y mine heard
dead-takes x y mine heard e expected bytes answered k live = absurd (cc (sym e ∙ live))

listens-takes : (now : ℕ) (x y : Lane) (mine : List Answer) (own : Option Event) → Listens now x y mine own → Takes x y mine (answers_to x.wire own)
listens-takes now x y mine own h = go x.stage refl h where
  go : (s : Stage) → x.stage ≡ s → TurnsAt s now x y mine own → Takes x y mine (answers_to x.wire own)
  go Live e h = by-fullness (λ (l : Lane). Takes x l mine (answers_to x.wire own)) now x y mine own
      (λ d f s. silent-takes x y mine (answers_to x.wire own) (says-silent now (record x { full = None }) y mine s) (says-kind now (record x { full = None }) y mine s) (λ live. (says-live now (record x { full = None }) y mine s live).0) (ap (λ o. answers_to x.wire o) f))
      (λ s f. dead-takes x y mine (answers_to x.wire own) (ap (λ (l : Lane). is_live l.stage) f.2))
      (λ mid t. live-takes now x mid mine own e t)
      h
  go Lost e h = dead-takes x y mine (answers_to x.wire own) (ap (λ (l : Lane). is_live l.stage) h.2)
  go Closing e h = silent-takes x y mine (answers_to x.wire own) (says-silent now x y mine h.1) (says-kind now x y mine h.1) (λ live. (says-live now x y mine h.1 live).0) (ap (λ o. answers_to x.wire o) h.0)
  go Over e h = dead-takes x y mine (answers_to x.wire own) (ap (λ (l : Lane). is_live l.stage) h.2 ∙ ap is_live e)

heard-answers : (wire : ℕ) (own : Option Event) (what : Event) → IsHeard wire own what → is_answer_on wire what ≡ answers_to wire own
heard-answers wire None what h = unanswered wire what h
heard-answers wire (Some trace) what h = ap (λ v. is_answer_on wire v) h

heeds-takes : (now : ℕ) (what : Event) (x y : Lane) (mine : List Answer) → Heeds now what x y mine → Takes x y mine (is_answer_on x.wire what)
heeds-takes now what x y mine (inl h) = subst (λ b. Takes x y mine b) (sym (heard-answers x.wire h.0 what h.2)) (listens-takes now x y mine h.0 h.1)
heeds-takes now what x y mine (inr h) = silent-takes x y mine (is_answer_on x.wire what) (bystander-silent now x y mine h.0) (bystander-kind now x y mine h.0) (λ live. (bystander-live now x y mine h.0 live).0) (unanswered x.wire what h.1)

-- the call is heard as the response on this wire, or its upgrade
abbrev answers_by : ℕ → Call → Bool
answers_by wire (session.heard what answers) = is_answer_on wire what.event
answers_by wire _ = false

same-takes : (x y : Lane) (mine : List Answer) → y ≡ x → mine ≡ [] → Takes x y mine false
same-takes x y mine e f = silent-takes x y mine false (still-silent x y mine f e) (same-kind x y e) (λ live. sym (ap (λ (l : Lane). is_live l.stage) e) ∙ live) refl

-- only a door's lane waits for a reply
no-reply : (x : Lane) (expected : Option Expected) (bytes : List ℕ) (answered : Bool) (protocol : Protocol) → (is_live x.stage && is_busy protocol) ≡ true → Held expected bytes answered protocol → (is_live x.stage ≡ true → ⊥)
no-reply x expected bytes answered (Http http_state) e h live = h
no-reply x expected bytes answered (Response response_state) e h live = cc (sym (dead x.stage) ∙ e)
no-reply x expected bytes answered (Socket websocket_state) e h live = cc (sym (dead x.stage) ∙ e)

replies-take : (now : ℕ) (reply : Reply) (x y : Lane) (mine : List Answer) → Replies now reply x y mine → Takes x y mine false
replies-take now reply x y mine h = go (owes x) refl h where
  go : (b : Bool) → owes x ≡ b → Chooses b (SaysMore (after_reply now reply x) y mine) ((mine ≡ []) × (y ≡ x)) → Takes x y mine false
  go true e h = λ expected bytes answered k live. absurd (no-reply x expected bytes answered x.protocol e (k (owes-live x e)) (owes-live x e))
  go false e h = same-takes x y mine h.1 h.0

moves-take : (call : Call) (x y : Lane) → Moves call x y → Takes x y (share x.wire (session.answers_in call)) (answers_by x.wire call)
moves-take (session.heard what answers) x y h = heeds-takes what.now what.event x y (share x.wire answers) h
moves-take (session.replied at reply answers) x y h =
    by-number at (Replies h.0 reply) x y (share x.wire answers) (λ b. Takes x y (share x.wire answers) false) (replies-take h.0 reply x y (share x.wire answers))
    (λ e f. same-takes x y (share x.wire answers) e f) h.1
moves-take (session.sent at bytes text full answers) x y h =
    silent-takes x y (share x.wire answers) false (at-silent at (Sends h.0 bytes text) x y (share x.wire answers) (sends-silent h.0 bytes text x y (share x.wire answers)) h.1)
    (by-number at (Sends h.0 bytes text) x y (share x.wire answers) (λ b. Keeps x y) (sends-kind h.0 bytes text x y (share x.wire answers)) (λ e f. same-kind x y e) h.1)
    (by-number at (Sends h.0 bytes text) x y (share x.wire answers) (λ b. is_live y.stage ≡ true → is_live x.stage ≡ true) (λ s live. (sends-live h.0 bytes text x y (share x.wire answers) s live).0)
    (λ e f live. (same-lives x y e live).0) h.1) refl
moves-take (session.shut at answers) x y h =
    silent-takes x y (share x.wire answers) false (at-silent at (Shuts h.0) x y (share x.wire answers) (shuts-silent h.0 x y (share x.wire answers)) h.1)
    (by-number at (Shuts h.0) x y (share x.wire answers) (λ b. Keeps x y) (shuts-kind h.0 x y (share x.wire answers)) (λ e f. same-kind x y e) h.1)
    (by-number at (Shuts h.0) x y (share x.wire answers) (λ b. is_live y.stage ≡ true → is_live x.stage ≡ true) (λ s live. (shuts-live h.0 x y (share x.wire answers) s live).0) (λ e f live. (same-lives x y e live).0) h.1) refl
moves-take (session.wrote at answers) x y h =
    silent-takes x y (share x.wire answers) false (bystander-silent 0 x y (share x.wire answers) h) (bystander-kind 0 x y (share x.wire answers) h) (λ live. (bystander-live 0 x y (share x.wire answers) h live).0) refl

-- ---- sessions

answered-more : (wire : ℕ) (call : Call) (calls : List Call) → is_answered_on wire (call ∷ calls) ≡ (answers_by wire call || is_answered_on wire calls)
answered-more wire (session.heard what answers) calls = refl
answered-more wire (session.replied at reply answers) calls = refl
answered-more wire (session.sent at bytes text full answers) calls = refl
answered-more wire (session.shut at answers) calls = refl
answered-more wire (session.wrote at answers) calls = refl

pub upgrade-kept : (wire : ℕ) (call : DialerCall) (calls : List DialerCall) → IsOther call wire → upgrade_on wire (call ∷ calls) ≡ upgrade_on wire calls
upgrade-kept wire (does lane call) calls other = refl
upgrade-kept wire (asked ask None answers) calls other = refl
upgrade-kept wire (asked ask (Some at) answers) calls other = ap (λ b. if b then ask.upgrade else upgrade_on wire calls) other
upgrade-kept wire (missed now lane answers) calls other = refl
upgrade-kept wire (idle told) calls other = refl
upgrade-kept wire (cut answers) calls other = refl

-- what a live lane of a session has
abbrev pub HeldOn : ℕ → List DialerCall → Protocol → Type 0
HeldOn wire calls protocol = Held (option_map expected_of (upgrade_on wire calls)) (read_on wire (answers_of calls)) (is_answered_on wire (all_on_wires calls)) protocol

abbrev pub IsHeld : List DialerCall → Lane → Type 0
IsHeld calls lane = is_live lane.stage ≡ true → HeldOn lane.wire calls lane.protocol

held-more : (call : DialerCall) (calls : List DialerCall) (x y : Lane) (upgrade : Option Upgrade) → upgrade_on x.wire (call ∷ calls) ≡ upgrade → y.wire ≡ x.wire →
    Held (option_map expected_of upgrade) (read_on x.wire (answers_of calls) ++ read_on x.wire (share x.wire (answers_in call))) (answers_by x.wire (on_wires call) || is_answered_on x.wire (all_on_wires calls)) y.protocol →
    HeldOn y.wire (call ∷ calls) y.protocol
held-more call calls x y upgrade e at v =
    subst (λ n. HeldOn n (call ∷ calls) y.protocol) (sym at)
    (subst (λ (u : Option Upgrade). Held (option_map expected_of u) (read_on x.wire (answers_of (call ∷ calls))) (is_answered_on x.wire (all_on_wires (call ∷ calls))) y.protocol) (sym e)
    (subst (λ b. Held (option_map expected_of upgrade) (read_on x.wire (answers_of (call ∷ calls))) b y.protocol) (sym (answered-more x.wire (on_wires call) (all_on_wires calls)))
    (subst (λ (l : List ℕ). Held (option_map expected_of upgrade) l (answers_by x.wire (on_wires call) || is_answered_on x.wire (all_on_wires calls)) y.protocol) (sym (read-more x.wire (all_on_wires calls) (on_wires call))) v)))

pub step-held : (call : DialerCall) (calls : List DialerCall) (x y : Lane) → IsOther call x.wire → IsHeld calls x → Moves (on_wires call) x y → IsHeld (call ∷ calls) y
step-held call calls x y other k m live =
    held-more call calls x y (upgrade_on x.wire calls) (upgrade-kept x.wire call calls other) (moves-wire (on_wires call) x y m)
    (moves-take (on_wires call) x y m (option_map expected_of (upgrade_on x.wire calls)) (read_on x.wire (answers_of calls)) (is_answered_on x.wire (all_on_wires calls)) k live)

-- a lane that was just dialed has read nothing
pub first-held : (wire : ℕ) (upgrade : Option Upgrade) (text : List ℕ) (now : ℕ) (calls : List DialerCall) → IsUntouched wire (all_on_wires calls) →
    Held (option_map expected_of upgrade) (read_on wire (answers_of calls)) (is_answered_on wire (all_on_wires calls)) (dialed_lane now wire text upgrade).protocol
first-held wire upgrade text now calls fresh =
    let none : read_on wire (answers_of calls) ≡ [] = read-share wire (answers_of calls) ∙ ap (λ l. read_on wire l) fresh.answers in
    (refl, refl, λ e. (fresh.answered, sym none, inl none), λ e. absurd (cc e))

pub new-held : (addresses : List Address) (ask : DialerAsk) (wire : ℕ) (answers : List Answer) (calls : List DialerCall) (now : ℕ) (y : Lane) → IsUntouched wire (all_on_wires calls) → is_too_much (length (text_of addresses ask)) ≡ false →
    SaysOrStays 0 (dialed_lane now wire (text_of addresses ask) ask.upgrade) y (share wire answers) → IsHeld (asked ask (Some wire) answers ∷ calls) y
new-held addresses ask wire answers calls now y fresh little m live =
    let x = dialed_lane now wire (text_of addresses ask) ask.upgrade in
    held-more (asked ask (Some wire) answers) calls x y ask.upgrade (ap (λ b. if b then ask.upgrade else upgrade_on wire calls) (same wire)) (bystander-keeps 0 x y (share wire answers) m).0
    (moves-take (session.wrote wire answers) x y m (option_map expected_of ask.upgrade) (read_on wire (answers_of calls)) (is_answered_on wire (all_on_wires calls)) (λ e. first-held wire ask.upgrade (text_of addresses ask) now calls fresh) live)

awaits-of : (calls : List DialerCall) (wire : ℕ) (protocol : Protocol) → HeldOn wire calls protocol → AwaitsResponse calls wire protocol
awaits-of calls wire (Http http_state) h = absurd h
awaits-of calls wire (Response response_state) h = (same_as response_state.concluded refl, λ e. begun response_state.concluded refl e) where
  same_as : (b : Bool) → response_state.concluded ≡ b → is_answered_on wire (all_on_wires calls) ≡ response_state.concluded
  same_as true e = h.3 e ∙ sym e
  same_as false e = (h.2 e).0 ∙ sym e

  begun : (b : Bool) → response_state.concluded ≡ b → is_answered_on wire (all_on_wires calls) ≡ false → (read_on wire (answers_of calls) ≡ []) ⊎ IsBeginning (read_on wire (answers_of calls))
  begun true e f = absurd (cc (sym (h.3 e) ∙ f))
  begun false e f = (h.2 e).2
awaits-of calls wire (Socket websocket_state) h = h

pub responses-are-awaited : ResponsesAreAwaited
responses-are-awaited addresses calls bound now h lane has live =
    awaits-of calls lane.wire lane.protocol (each-dialed addresses IsHeld (new-held addresses) step-held calls bound now h lane (has-of now.door.lanes lane has) live)

-- ---- the response that is heard

-- what leaves the response is what it leaves of all bytes
begins : (wire : ℕ) (old new : ResponseStateView) (read : List Answer) (expected : Option Expected) (bytes : List ℕ) (answered : Bool) (what heard : Input) (h : HearsResponse wire old new read what) →
    Answers old.upgrade (old.lane.held ++ bytes_of h.got) new.lane.held heard → old.concluded ≡ false → Held expected bytes answered (Response old) → Answers expected (bytes ++ read_on wire read) new.lane.held heard
begins wire old new read expected bytes answered what heard h a free k =
    subst (λ (u : Option Expected). Answers u (bytes ++ read_on wire read) new.lane.held heard) k.0
    (subst (λ (l : List ℕ). Answers old.upgrade l new.lane.held heard) (ap (λ l. l ++ bytes_of h.got) (k.2 free).1 ∙ ap (λ l. bytes ++ l) (sym (gives-bytes wire _ read h.got h.read))) a)

pub upgrade-begins : (wire : ℕ) (old new : ResponseStateView) (read : List Answer) (expected : Option Expected) (bytes : List ℕ) (answered : Bool) → HearsResponse wire old new read input.Upgraded → Held expected bytes answered (Response old) →
    Answers expected (bytes ++ read_on wire read) new.lane.held input.Upgraded
upgrade-begins wire old new read expected bytes answered h k = by h.is_input where
  by : ((old.accepted ≡ true) × (is_some old.upgrade ≡ true) × (new ≡ old)) ⊎ IsAnswered old new h.got input.Upgraded → Answers expected (bytes ++ read_on wire read) new.lane.held input.Upgraded
  by (inl a) = absurd (cc (sym k.1 ∙ a.0))
  by (inr a) = begins wire old new read expected bytes answered input.Upgraded input.Upgraded h a.3 a.0 k

-- these bytes begin with a response that is heard as this, the first
abbrev IsGiven : Option Expected → List ℕ → Bool → Input → Type 0
IsGiven expected bytes answered heard = (answered ≡ false) × ((rest : List ℕ) × Answers expected bytes rest heard)

answered-given : (wire : ℕ) (old new : ResponseStateView) (read : List Answer) (expected : Option Expected) (bytes : List ℕ) (answered : Bool) (what heard : Input) → (h : HearsResponse wire old new read what) →
    Answers old.upgrade (old.lane.held ++ bytes_of h.got) new.lane.held heard → old.concluded ≡ false → Held expected bytes answered (Response old) → IsGiven expected (bytes ++ read_on wire read) answered heard
answered-given wire old new read expected bytes answered what heard h a free k =
    ((k.2 free).0, (new.lane.held, begins wire old new read expected bytes answered what heard h a free k))

hears-given : (wire : ℕ) (before after : Protocol) (read : List Answer) (what heard : Input) (expected : Option Expected) (bytes : List ℕ) (answered : Bool) → answer_of what ≡ Some heard → Hears wire before after read what →
    Held expected bytes answered before → IsGiven expected (bytes ++ read_on wire read) answered heard
hears-given wire (Http before) after read what heard expected bytes answered e h k = absurd k
hears-given wire (Response old) (Response new) read (input.Response status body) heard expected bytes answered e h k =
    let is : input.Response status body ≡ heard = cc e in
    subst (λ (i : Input). IsGiven expected (bytes ++ read_on wire read) answered i) is
    (answered-given wire old new read expected bytes answered (input.Response status body) (input.Response status body) h h.is_input.3 h.is_input.0 k)
hears-given wire (Response old) (Response new) read input.Upgraded heard expected bytes answered e h k = subst (λ (i : Input). IsGiven expected (bytes ++ read_on wire read) answered i) is (by h.is_input) where
  is : input.Upgraded ≡ heard
  is = cc e

  by : ((old.accepted ≡ true) × (is_some old.upgrade ≡ true) × (new ≡ old)) ⊎ IsAnswered old new h.got input.Upgraded → IsGiven expected (bytes ++ read_on wire read) answered input.Upgraded
  by (inl a) = absurd (cc (sym k.1 ∙ a.0))
  by (inr a) = answered-given wire old new read expected bytes answered input.Upgraded input.Upgraded h a.3 a.0 k
hears-given wire (Response old) (Response new) read _ heard expected bytes answered e h k = absurd (cc e)
hears-given wire (Socket old) (Socket new) read (input.Response status body) heard expected bytes answered e h k = absurd h.is_input
hears-given wire (Socket old) (Socket new) read input.Upgraded heard expected bytes answered e h k = absurd h.is_input
hears-given wire (Socket old) (Socket new) read _ heard expected bytes answered e h k = absurd (cc e)
hears-given wire (Response old) (Http new) read what heard expected bytes answered e h k = absurd h
hears-given wire (Response old) (Socket new) read what heard expected bytes answered e h k = absurd h
hears-given wire (Socket old) (Http new) read what heard expected bytes answered e h k = absurd h
hears-given wire (Socket old) (Response new) read what heard expected bytes answered e h k = absurd h

listens-given : (now : ℕ) (x y : Lane) (mine : List Answer) (own : Option Event) (heard : Input) (expected : Option Expected) (bytes : List ℕ) (answered : Bool) → input_in own ≡ Some heard → Listens now x y mine own →
    (is_live x.stage ≡ true → Held expected bytes answered x.protocol) → IsGiven expected (bytes ++ read_on x.wire mine) answered heard
listens-given now x y mine own heard expected bytes answered e h k = go x.stage refl h where
  never : {A : Type 0} (o : Option Event) → own ≡ o → input_in o ≡ None → A
  never o f g = absurd (cc (sym g ∙ sym (ap input_in f) ∙ e))

  live : x.stage ≡ Live → (mid : Lane) → TurnsLive now x mid mine own → IsGiven expected (bytes ++ read_on x.wire mine) answered heard
  live was mid t = subst (λ (l : List ℕ). IsGiven expected (bytes ++ l) answered heard) (sym (rest-silent now x mid mine own t).0)
      (hears-given x.wire x.protocol t.protocol t.read t.input heard expected bytes answered (sym (live-fits now x mid mine own t).1 ∙ e) t.hears (k (ap is_live was)))

  go : (s : Stage) → x.stage ≡ s → TurnsAt s now x y mine own → IsGiven expected (bytes ++ read_on x.wire mine) answered heard
  go Live was h = by-fullness (λ (l : Lane). IsGiven expected (bytes ++ read_on x.wire mine) answered heard) now x y mine own (λ d f s. never _ f refl) (λ s f. never _ f.1 refl) (λ mid t. live was mid t) h
  go Lost was h = never _ h.1 refl
  go Closing was h = never None h.0 refl
  go Over was h = never None h.1 refl

heard-given : (now : ℕ) (what : Event) (x y : Lane) (mine : List Answer) (heard : Input) (expected : Option Expected) (bytes : List ℕ) (answered : Bool) → input_of what ≡ Some heard → is_on x.wire what ≡ true →
    Heeds now what x y mine → (is_live x.stage ≡ true → Held expected bytes answered x.protocol) → IsGiven expected (bytes ++ read_on x.wire mine) answered heard
heard-given now what x y mine heard expected bytes answered e on (inl h) k = go h.0 h.1 h.2 where
  go : (own : Option Event) → Listens now x y mine own → IsHeard x.wire own what → IsGiven expected (bytes ++ read_on x.wire mine) answered heard
  go None l is = absurd (off-and-on (is_on x.wire what) is on)
  go (Some trace) l is = listens-given now x y mine (Some trace) heard expected bytes answered (ap input_of (sym is) ∙ e) l k
heard-given now what x y mine heard expected bytes answered e on (inr h) k = absurd (off-and-on (is_on x.wire what) h.1 on)

on-its-lane : (what : Event) (heard : Input) → input_of what ≡ Some heard → is_on (lane_of what) what ≡ true
on-its-lane (event.Response wire status body) heard e = same wire
on-its-lane (event.Upgraded wire) heard e = same wire
on-its-lane _ heard e = absurd (cc e)

pub responses-are-given : ResponsesAreGiven
responses-are-given addresses lane what answers calls bound now h heard e =
    let wire = lane_of what.event in
    let call = session.heard what answers in
    let m = dialed-mover addresses lane what answers calls bound now h wire (on-its-lane what.event heard e) in
    let x = m.0 in
    let held : IsHeld calls x = each-dialed addresses IsHeld (new-held addresses) step-held calls h.0 h.1 h.2 x m.2 in
    let bytes = read_on x.wire (answers_of calls) in
    let given = heard-given what.now what.event x m.1 (share x.wire answers) heard (option_map expected_of (upgrade_on x.wire calls)) bytes (is_answered_on x.wire (all_on_wires calls)) e (ap (λ n. is_on n what.event) m.4 ∙ on-its-lane what.event heard e)
    m.5 held in
    subst (λ n. IsGiven (option_map expected_of (upgrade_on n calls)) (read_on n (answers_of (does lane call ∷ calls))) (is_answered_on n (all_on_wires calls)) heard) m.4
    (subst (λ (l : List ℕ). IsGiven (option_map expected_of (upgrade_on x.wire calls)) l (is_answered_on x.wire (all_on_wires calls)) heard) (sym (read-more x.wire (all_on_wires calls) call)) given)
