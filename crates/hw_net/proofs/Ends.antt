-- What a lane's share of the answers says of its stage: whether its wire was shut, and whether a reply is still owed.
use Rattle.std.proofs.Common.{if◌then◌else◌, ◌≡◌, ◌⊎◌, ◌==◌, ◌&&◌, ◌||◌, ◌++◌, ◌∷◌, [], ℕ, Bool, true, false, not, List, Option, None, Some, refl, sym, ap, ◌∙◌, subst, inl, inr, length}
use Rattle.hw_lanes.specs.declared.http.Reply.{Reply}
use Rattle.hh_http.specs.Texts.{reply_text}
use Rattle.hw_door.specs.declared.heard.Event.{Event}
use Rattle.hw_door.specs.Traffic.{Answer, bytes_in, not_yet, ended, read_failed, bytes_out, write_failed, was_shut}
use Rattle.hw_net.specs.declared.limits.TheConstants.{SWITCHING}
use Rattle.hw_net.specs.declared.input.Input.{Input}
use Rattle.hw_net.specs.declared.input.Input.TheVariants as input
use Rattle.hw_net.specs.declared.protocol.Protocol.{Protocol}
use Rattle.hw_net.specs.declared.protocol.Protocol.TheVariants.{Http, Response, Socket}
use Rattle.hw_net.specs.declared.protocol.Stage.{Stage}
use Rattle.hw_net.specs.declared.protocol.Stage.TheVariants.{Live, Lost, Closing, Over}
use Rattle.hw_net.specs.HttpState.{HttpStateView}
use Rattle.hw_net.specs.declared.response_state.Expected.{Expected}
use Rattle.hw_net.specs.Lane.{Lane, waits, is_live, is_busy, owes, is_overdue, after_end, after_reply, protocol_after_shut, protocol_after_reply, protocol_after_upgrade, accepted_socket, new_socket, rest_of, after_hearing, protocol_after_continue}
use Rattle.hw_net.specs.Saying.{Writes, WritesOut, DropsOrWrites, SpeaksAs, Says, SaysAt, SaysMore, GathersOrSays, must_end, has_closed_long, is_too_much}
use Rattle.hw_net.specs.Sessions.{was_shut_in, is_request_on}
use Rattle.hw_net.specs.Trace.{Reads, Gives, Chooses}
use Rattle.hw_net.specs.Turn.{Hears, Falls, Passes, Settles, Loses, LosesAt, TurnsLive, TurnsAt, Listens, Replies, PutsAt, Sends, Shuts}
use Rattle.hw_net.proofs.Bystanders.{SaysOrStays, Stays, gathered-says}
use Rattle.hw_net.proofs.Fullness.{by-fullness, SaysPut}
use Rattle.hw_net.proofs.Owning.{settles-keeps}
use Rattle.hw_net.proofs.Shares.{shut-append, same}
use Rattle.hw_net.proofs.Walks.{IsHeard, Heeds, not-request}

-- ---- whether the wire was shut

pub writes-unshut : (at wire : ℕ) (waits : List ℕ) (sent : List Answer) (left : List ℕ) (whole : Bool) → Writes wire waits sent left whole → was_shut_in at sent ≡ false
writes-unshut at wire waits [] left whole h = refl
writes-unshut at wire waits (bytes_out to [] ∷ []) left whole h = refl
writes-unshut at wire waits (bytes_out to (b ∷ bs) ∷ answers) left whole h = writes-unshut at wire h.1.0 answers left whole h.1.2
writes-unshut at wire waits (write_failed to ∷ []) left whole h = refl
writes-unshut at wire waits _ left whole h = absurd h

reads-unshut : (at wire room : ℕ) (answer : Answer) (got : Option (List ℕ)) → Reads wire room answer got → was_shut_in at (answer ∷ []) ≡ false
reads-unshut at wire room (bytes_in to bytes) (Some piece) h = refl
reads-unshut at wire room (not_yet to) (Some piece) h = refl
reads-unshut at wire room (ended to) None h = refl
reads-unshut at wire room (read_failed to) None h = refl
reads-unshut at wire room _ _ h = absurd h

gives-unshut : (at wire room : ℕ) (answers : List Answer) (got : Option (List ℕ)) → Gives wire room answers got → was_shut_in at answers ≡ false
gives-unshut at wire room [] got h = refl
gives-unshut at wire room (answer ∷ []) got h = reads-unshut at wire room answer got h.1
gives-unshut at wire room (answer ∷ next ∷ more) got h = absurd h

pub hears-unshut : (at wire : ℕ) (before after : Protocol) (answers : List Answer) (what : Input) → Hears wire before after answers what → was_shut_in at answers ≡ false
hears-unshut at wire (Http before) (Http after) answers what h = gives-unshut at wire _ answers h.got h.read
hears-unshut at wire (Response before) (Response after) answers what h = gives-unshut at wire _ answers h.got h.read
hears-unshut at wire (Socket before) (Socket after) answers what h = gives-unshut at wire _ answers h.got h.read
hears-unshut at wire _ _ answers what h = absurd h

pub one-shut : (wire : ℕ) → was_shut_in wire (was_shut wire ∷ []) ≡ true
one-shut wire = ap (λ b. b || false) (same wire)

-- the wire was shut, and the lane ended, or neither
abbrev pub Ends : ℕ → Stage → Stage → List Answer → Type 0
Ends wire before after answers =
    ((was_shut_in wire answers ≡ true) × (after ≡ after_end before)) ⊎ ((was_shut_in wire answers ≡ false) × (after ≡ before))

pub writes-end : (before after : Lane) (answers : List Answer) → WritesOut before after answers → Ends before.wire before.stage after.stage answers
writes-end before after answers w = go (must_end before.stage (length (waits after)) w.is_whole) refl where
  go : (b : Bool) → must_end before.stage (length (waits after)) w.is_whole ≡ b → Ends before.wire before.stage after.stage answers
  go true e = inl (
    ap (λ l. was_shut_in before.wire l) (w.ends e).0 ∙ shut-append before.wire w.sent (was_shut before.wire ∷ [])
        ∙ ap (λ b. b || was_shut_in before.wire (was_shut before.wire ∷ [])) (writes-unshut before.wire before.wire (waits before) w.sent (waits after) w.is_whole w.writes) ∙ one-shut before.wire,
    (w.ends e).1,
  )
  go false e = inr (
    ap (λ l. was_shut_in before.wire l) (w.stays e).0 ∙ writes-unshut before.wire before.wire (waits before) w.sent (waits after) w.is_whole w.writes,
    (w.stays e).1,
  )

pub dropped-or-end : (is_dropped : Bool) (before after : Lane) (answers : List Answer) → DropsOrWrites is_dropped before after answers → Ends before.wire before.stage after.stage answers
dropped-or-end true before after answers h = inl (ap (λ l. was_shut_in before.wire l) h.0 ∙ one-shut before.wire, ap (λ (l : Lane). l.stage) h.1)
dropped-or-end false before after answers h = writes-end before after answers h

-- ---- whether a reply is owed

not-live : (s : Stage) → is_live (after_end s) ≡ false
not-live Live = refl
not-live Lost = refl
not-live Closing = refl
not-live Over = refl

pub speaks-busy : (before after : Protocol) → SpeaksAs before after → is_busy after ≡ is_busy before
speaks-busy (Http before) (Http after) e = ap (λ (a : HttpStateView). a.busy) e
speaks-busy (Response before) (Response after) e = refl
speaks-busy (Socket before) (Socket after) e = refl
speaks-busy _ _ e = absurd e

ends-owes : (wire : ℕ) (before after : Lane) (answers : List Answer) → Ends wire before.stage after.stage answers → is_busy after.protocol ≡ is_busy before.protocol →
    owes after ≡ (not (was_shut_in wire answers) && owes before)
ends-owes wire before after answers (inl h) e =
    ap (λ s. is_live s && is_busy after.protocol) h.1 ∙ ap (λ b. b && is_busy after.protocol) (not-live before.stage) ∙ ap (λ b. not b && owes before) (sym h.0)
ends-owes wire before after answers (inr h) e =
    ap (λ s. is_live s && is_busy after.protocol) h.1 ∙ ap (λ b. is_live before.stage && b) e ∙ ap (λ b. not b && owes before) (sym h.0)

-- after writing, one is owed if it was and the wire wasn't shut
abbrev pub KeepsOwing : Lane → Lane → List Answer → Type 0
KeepsOwing before after answers = owes after ≡ (not (was_shut_in before.wire answers) && owes before)

writes-owes : (before after : Lane) (answers : List Answer) → WritesOut before after answers → KeepsOwing before after answers
writes-owes before after answers w = ends-owes before.wire before after answers (writes-end before after answers w) (speaks-busy before.protocol after.protocol w.still.protocol)

still-owes : (before after : Lane) (answers : List Answer) → answers ≡ [] → after ≡ before → KeepsOwing before after answers
still-owes before after answers e f = ap owes f ∙ ap (λ l. not (was_shut_in before.wire l) && owes before) (sym e)

dropped-or-owes : (is_dropped : Bool) (before after : Lane) (answers : List Answer) → DropsOrWrites is_dropped before after answers → KeepsOwing before after answers
dropped-or-owes true before after answers h = ends-owes before.wire before after answers (inl (ap (λ l. was_shut_in before.wire l) h.0 ∙ one-shut before.wire, ap (λ (l : Lane). l.stage) h.1)) (ap (λ (l : Lane). is_busy l.protocol) h.1)
dropped-or-owes false before after answers h = writes-owes before after answers h

pub says-owes : (now : ℕ) (before after : Lane) (answers : List Answer) → Says now before after answers → KeepsOwing before after answers
says-owes now before after answers h = go before.stage h where
  go : (s : Stage) → SaysAt s now before after answers → KeepsOwing before after answers
  go Live h = writes-owes before after answers h
  go Lost h = still-owes before after answers h.0 h.1
  go Closing h = dropped-or-owes (has_closed_long now before.since) before after answers h
  go Over h = still-owes before after answers h.0 h.1

pub more-owes : (before after : Lane) (answers : List Answer) → SaysMore before after answers → KeepsOwing before after answers
more-owes before after answers h = dropped-or-owes (is_too_much (length (waits before))) before after answers h

pub bystander-owes : (now : ℕ) (before after : Lane) (answers : List Answer) → SaysOrStays now before after answers → KeepsOwing before after answers
bystander-owes now before after answers (inl h) = says-owes now before after answers h
bystander-owes now before after answers (inr h) = still-owes before after answers h.1 h.0

gathered-owes : (before after : Lane) (answers : List Answer) → GathersOrSays before after answers → KeepsOwing before after answers
gathered-owes before after answers h = go (gathered-says before after answers h) where
  go : SaysMore before after answers ⊎ Stays before after answers → KeepsOwing before after answers
  go (inl k) = more-owes before after answers k
  go (inr k) = still-owes before after answers k.1 k.0

-- ---- hearing

abbrev pub is_request : Input → Bool
is_request (input.Request request) = true
is_request _ = false

abbrev pub is_request_in : ℕ → Option Event → Bool
is_request_in wire None = false
is_request_in wire (Some trace) = is_request_on wire trace

-- what is heard of a lane that was live, before it writes
abbrev pub Settled : Lane → Protocol → Lane → List Answer → Bool → Type 0
Settled before protocol after answers requested =
    owes after ≡ (not (was_shut_in before.wire answers) && (requested || is_busy before.protocol))

falls-owes : (before websocket_state after : Lane) (answers : List Answer) (heard : Option Event) (busy : Bool) → websocket_state.wire ≡ before.wire → Falls websocket_state after answers heard →
    owes after ≡ (not (was_shut_in before.wire answers) && busy)
falls-owes before websocket_state after answers heard busy e h =
    ap owes h.2 ∙ ap (λ b. not b && busy) (sym (ap (λ l. was_shut_in before.wire l) h.0 ∙ ap (λ n. was_shut_in before.wire (was_shut n ∷ [])) e ∙ one-shut before.wire))

passes-owes : (wire : ℕ) (becomes after : Lane) (answers : List Answer) (trace heard : Option Event) (owed : Bool) → Passes becomes after answers trace heard → owes becomes ≡ owed →
    owes after ≡ (not (was_shut_in wire answers) && owed)
passes-owes wire becomes after answers trace heard owed h e = ap owes h.2 ∙ e ∙ ap (λ l. not (was_shut_in wire l) && owed) (sym h.0)

-- an upgrade that was accepted changes nothing of what is owed
pub upgrade-busy : (protocol : Protocol) → is_busy (protocol_after_upgrade protocol) ≡ is_busy protocol
upgrade-busy (Http http_state) = refl
upgrade-busy (Response response_state) = go response_state.upgrade where
  go : (upgrade : Option Expected) → is_busy (accepted_socket upgrade response_state) ≡ false
  go None = refl
  go (Some expected) = refl
upgrade-busy (Socket websocket_state) = refl

-- nor does a 100
pub continue-busy : (protocol : Protocol) → is_busy (protocol_after_continue protocol) ≡ is_busy protocol
continue-busy (Http http_state) = refl
continue-busy (Response response_state) = refl
continue-busy (Socket websocket_state) = refl

settles-owes : (now : ℕ) (x : Lane) (protocol : Protocol) (after : Lane) (read answers : List Answer) (what : Input) (heard : Option Event) → x.stage ≡ Live → Hears x.wire x.protocol protocol read what →
    Settles now (after_hearing protocol x) after answers what heard → owes after ≡ (not (was_shut_in x.wire answers) && (is_request what || is_busy x.protocol))
settles-owes now x protocol after read answers what heard live h s = go x.protocol protocol what h s where
  was-live : is_live x.stage ≡ true
  was-live = ap is_live live

  kept : (protocol : Protocol) (busy : Bool) → is_busy protocol ≡ busy → (is_live x.stage && is_busy protocol) ≡ busy
  kept protocol busy e = ap (λ b. b && is_busy protocol) was-live ∙ e

  nothing : (protocol : Protocol) (busy : Bool) → is_busy protocol ≡ busy → (b : Bool) → Chooses b (Falls (after_hearing protocol x) after answers heard) (Passes (after_hearing protocol x) after answers None heard) →
      owes after ≡ (not (was_shut_in x.wire answers) && busy)
  nothing protocol busy e true k = falls-owes x (after_hearing protocol x) after answers heard busy refl k
  nothing protocol busy e false k = passes-owes x.wire (after_hearing protocol x) after answers None heard busy k (kept (protocol_after_continue protocol) busy (continue-busy protocol ∙ e))

  go : (old new : Protocol) (what : Input) → Hears x.wire old new read what → Settles now (after_hearing new x) after answers what heard →
      owes after ≡ (not (was_shut_in x.wire answers) && (is_request what || is_busy old))
  go (Http old) (Http new) input.Nothing h s = nothing (Http new) old.busy h.is_input.2 (is_overdue now (after_hearing (Http new) x)) s
  go (Http old) (Http new) (input.Request request) h s = passes-owes x.wire (after_hearing (Http new) x) after answers _ heard true s (kept (Http new) true h.is_input.2)
  go (Http old) (Http new) (input.Refused refusal) h s = passes-owes x.wire _ after answers _ heard old.busy s (sym h.is_input.1)
  go (Http old) (Http new) (input.Message bytes) h s = absurd h.is_input
  go (Http old) (Http new) (input.Response status body) h s = absurd h.is_input
  go (Http old) (Http new) input.Upgraded h s = absurd h.is_input
  go (Http old) (Http new) input.Broken h s = falls-owes x (after_hearing (Http new) x) after answers heard old.busy refl s
  go (Http old) (Http new) input.Gone h s = absurd h.is_input
  go (Response old) (Response new) input.Nothing h s = nothing (Response new) false refl (is_overdue now (after_hearing (Response new) x)) s
  go (Response old) (Response new) (input.Request request) h s = absurd h.is_input
  go (Response old) (Response new) (input.Refused refusal) h s = absurd h.is_input
  go (Response old) (Response new) (input.Response status body) h s = passes-owes x.wire (after_hearing (Response new) x) after answers _ heard false s (kept (Response new) false refl)
  go (Response old) (Response new) input.Upgraded h s =
      passes-owes x.wire _ after answers _ heard false s (kept (protocol_after_upgrade (Response new)) false (upgrade-busy (Response new)))
  go (Response old) (Response new) (input.Message bytes) h s = absurd h.is_input
  go (Response old) (Response new) input.Broken h s = falls-owes x (after_hearing (Response new) x) after answers heard false refl s
  go (Response old) (Response new) input.Gone h s = absurd h.is_input
  go (Socket old) (Socket new) input.Nothing h s = nothing (Socket new) false refl (is_overdue now (after_hearing (Socket new) x)) s
  go (Socket old) (Socket new) (input.Request request) h s = absurd h.is_input
  go (Socket old) (Socket new) (input.Refused refusal) h s = absurd h.is_input
  go (Socket old) (Socket new) (input.Response status body) h s = absurd h.is_input
  go (Socket old) (Socket new) input.Upgraded h s = absurd h.is_input
  go (Socket old) (Socket new) (input.Message bytes) h s = passes-owes x.wire (after_hearing (Socket new) x) after answers _ heard false s (kept (Socket new) false refl)
  go (Socket old) (Socket new) input.Broken h s = falls-owes x (after_hearing (Socket new) x) after answers heard false refl s
  go (Socket old) (Socket new) input.Gone h s = passes-owes x.wire _ after answers _ heard false s refl
  go (Http old) (Socket new) what h s = absurd h
  go (Socket old) (Http new) what h s = absurd h
  go (Response old) (Http new) what h s = absurd h
  go (Response old) (Socket new) what h s = absurd h
  go (Http old) (Response new) what h s = absurd h
  go (Socket old) (Response new) what h s = absurd h

trace-is-request : (wire : ℕ) (trace : Option Event) (here : Event) (b : Bool) → trace ≡ Some here → is_request_on wire here ≡ b → is_request_in wire trace ≡ b
trace-is-request wire trace here b e f = ap (λ o. is_request_in wire o) e ∙ f

pub settles-request : (now : ℕ) (before after : Lane) (answers : List Answer) (what : Input) (heard : Option Event) → Settles now before after answers what heard → is_request_in before.wire heard ≡ is_request what
settles-request now before after answers input.Nothing heard h = go (is_overdue now before) h where
  go : (b : Bool) → Chooses b (Falls before after answers heard) (Passes before after answers None heard) → is_request_in before.wire heard ≡ false
  go true h = ap (λ o. is_request_in before.wire o) h.1
  go false h = ap (λ o. is_request_in before.wire o) h.1
settles-request now before after answers (input.Request request) heard h = trace-is-request before.wire heard _ true h.1 (same before.wire)
settles-request now before after answers (input.Refused refusal) heard h = ap (λ o. is_request_in before.wire o) h.1
settles-request now before after answers (input.Response status body) heard h = ap (λ o. is_request_in before.wire o) h.1
settles-request now before after answers input.Upgraded heard h = ap (λ o. is_request_in before.wire o) h.1
settles-request now before after answers (input.Message bytes) heard h = ap (λ o. is_request_in before.wire o) h.1
settles-request now before after answers input.Broken heard h = ap (λ o. is_request_in before.wire o) h.1
settles-request now before after answers input.Gone heard h = ap (λ o. is_request_in before.wire o) h.1

pub loses-request : (wire : ℕ) (trace : Option Event) (before after : Lane) (heard : Option Event) → Loses trace before after heard → is_request_in wire heard ≡ is_request_in wire trace
loses-request wire (Some here) before after heard h = ap (λ o. is_request_in wire o) h.0
loses-request wire None before after heard h = go before.stage h where
  go : (s : Stage) → LosesAt s before after heard → is_request_in wire heard ≡ false
  go Live h = ap (λ o. is_request_in wire o) h.0
  go Lost h = ap (λ o. is_request_in wire o) h.0
  go Closing h = ap (λ o. is_request_in wire o) h.0
  go Over h = ap (λ o. is_request_in wire o) h.0

loses-owes : (trace : Option Event) (before after : Lane) (heard : Option Event) → Loses trace before after heard → owes after ≡ owes before
loses-owes (Some here) before after heard h = ap owes h.1
loses-owes None before after heard h = go before.stage refl h where
  go : (s : Stage) → before.stage ≡ s → LosesAt s before after heard → owes after ≡ owes before
  go Live e h = ap owes h.1
  go Lost e h = ap owes h.1 ∙ ap (λ s. is_live s && is_busy before.protocol) (sym e)
  go Closing e h = ap owes h.1
  go Over e h = ap owes h.1

thrice : (a b c q : Bool) → a ≡ false → (not c && (not b && q)) ≡ (not (a || (b || c)) && q)
thrice a b c q e = ap (λ d. not c && (not b && q)) e ∙ go b c ∙ ap (λ d. not (d || (b || c)) && q) (sym e) where
  go : (b c : Bool) → (not c && (not b && q)) ≡ (not (b || c) && q)
  go true true = refl
  go true false = refl
  go false true = refl
  go false false = refl

pub live-shuts : (wire : ℕ) (answers read shut written : List Answer) → answers ≡ read ++ (shut ++ written) → was_shut_in wire answers ≡ (was_shut_in wire read || (was_shut_in wire shut || was_shut_in wire written))
live-shuts wire answers read shut written all =
    ap (λ l. was_shut_in wire l) all ∙ shut-append wire read (shut ++ written) ∙ ap (λ b. was_shut_in wire read || b) (shut-append wire shut written)

live-owes : (now : ℕ) (x y : Lane) (mine : List Answer) (own : Option Event) → x.stage ≡ Live → TurnsLive now x y mine own →
    owes y ≡ (not (was_shut_in x.wire mine) && (is_request_in x.wire own || is_busy x.protocol))
live-owes now x y mine own live h =
    let w = x.wire in
    let kept = settles-keeps now (after_hearing h.protocol x) h.settled h.shut h.input h.trace h.settles in
    let requested : is_request_in w own ≡ is_request h.input =
    loses-request w h.trace h.said y own h.loses ∙ settles-request now (after_hearing h.protocol x) h.settled h.shut h.input h.trace h.settles in
    let q = is_request h.input || is_busy x.protocol in
    let wrote : owes h.said ≡ (not (was_shut_in w h.written) && owes h.settled) =
    subst (λ n. owes h.said ≡ (not (was_shut_in n h.written) && owes h.settled)) kept.0.0 (says-owes now h.settled h.said h.written h.says) in
    loses-owes h.trace h.said y own h.loses ∙ wrote
    ∙ ap (λ b. not (was_shut_in w h.written) && b) (settles-owes now x h.protocol h.settled h.read h.shut h.input h.trace live h.hears h.settles)
    ∙ thrice (was_shut_in w h.read) (was_shut_in w h.shut) (was_shut_in w h.written) q (hears-unshut w w x.protocol h.protocol h.read h.input h.hears)
    ∙ ap (λ b. not b && q) (sym (live-shuts w mine h.read h.shut h.written h.all))
    ∙ ap (λ b. not (was_shut_in w mine) && (b || is_busy x.protocol)) (sym requested)

-- a lane that isn't live owes nothing
idle : (x : Lane) (s : Stage) → x.stage ≡ s → is_live s ≡ false → owes x ≡ false
idle x s e f = ap (λ t. is_live t && is_busy x.protocol) e ∙ ap (λ b. b && is_busy x.protocol) f

none-owed : (shut : Bool) → (not shut && false) ≡ false
none-owed true = refl
none-owed false = refl

-- what is owed after a turn in which this was heard
abbrev pub OwesAfter : Lane → Lane → List Answer → Bool → Type 0
OwesAfter x y mine requested = owes y ≡ (not (was_shut_in x.wire mine) && (requested || owes x))

listens-owes : (now : ℕ) (x y : Lane) (mine : List Answer) (own : Option Event) → Listens now x y mine own → OwesAfter x y mine (is_request_in x.wire own)
listens-owes now x y mine own h = go x.stage refl h where
  unowed : (s : Stage) → x.stage ≡ s → is_live s ≡ false → is_request_in x.wire own ≡ false → owes y ≡ false → OwesAfter x y mine (is_request_in x.wire own)
  unowed s e f r k = k ∙ sym (ap (λ b. not (was_shut_in x.wire mine) && (b || owes x)) r ∙ ap (λ b. not (was_shut_in x.wire mine) && b) (idle x s e f) ∙ none-owed (was_shut_in x.wire mine))

  go : (s : Stage) → x.stage ≡ s → TurnsAt s now x y mine own → OwesAfter x y mine (is_request_in x.wire own)
  go Live e h = by-fullness (λ (l : Lane). OwesAfter x l mine (is_request_in x.wire own)) now x y mine own
      (λ d f s. says-owes now (record x { full = None }) y mine s ∙ ap (λ o. not (was_shut_in x.wire mine) && (is_request_in x.wire o || owes x)) (sym f))
      (λ s f. falls-owes x x y mine own (is_request_in x.wire own || owes x) refl f)
      (λ mid t. live-owes now x mid mine own e t ∙ ap (λ b. not (was_shut_in x.wire mine) && (is_request_in x.wire own || b)) (sym (ap (λ s. is_live s && is_busy x.protocol) e)))
      h
  go Lost e h = unowed Lost e refl (ap (λ o. is_request_in x.wire o) h.1) (ap owes h.2)
  go Closing e h = says-owes now x y mine h.1 ∙ ap (λ o. not (was_shut_in x.wire mine) && (is_request_in x.wire o || owes x)) (sym h.0)
  go Over e h = unowed Over e refl (ap (λ o. is_request_in x.wire o) h.1) (ap owes h.2 ∙ idle x Over e refl)

pub heard-request : (wire : ℕ) (own : Option Event) (what : Event) → IsHeard wire own what → is_request_on wire what ≡ is_request_in wire own
heard-request wire None what h = not-request wire what h
heard-request wire (Some trace) what h = ap (λ v. is_request_on wire v) h

pub heeds-owes : (now : ℕ) (what : Event) (x y : Lane) (mine : List Answer) → Heeds now what x y mine → OwesAfter x y mine (is_request_on x.wire what)
heeds-owes now what x y mine (inl h) = subst (λ b. OwesAfter x y mine b) (sym (heard-request x.wire h.0 what h.2)) (listens-owes now x y mine h.0 h.1)
heeds-owes now what x y mine (inr h) = bystander-owes now x y mine h.0 ∙ ap (λ b. not (was_shut_in x.wire mine) && (b || owes x)) (sym (not-request x.wire what h.1))

-- ---- saying

pub dead : (s : Stage) → (is_live s && false) ≡ false
dead Live = refl
dead Lost = refl
dead Closing = refl
dead Over = refl

pub replied-owes : (now : ℕ) (reply : Reply) (lane : Lane) → owes (after_reply now reply lane) ≡ false
replied-owes now reply lane = go (reply.status == SWITCHING) where
  unbusy : (protocol : Protocol) → is_busy (protocol_after_reply protocol) ≡ false
  unbusy (Http http_state) = refl
  unbusy (Response response_state) = refl
  unbusy (Socket websocket_state) = refl

  go : (b : Bool) → owes (if b then record lane { protocol = new_socket (rest_of lane.protocol); out = lane.out ++ reply_text reply }
      else record lane { protocol = protocol_after_reply lane.protocol; out = lane.out ++ reply_text reply; since = now }) ≡ false
  go true = dead lane.stage
  go false = ap (λ b. is_live lane.stage && b) (unbusy lane.protocol) ∙ dead lane.stage

-- nothing is owed after a reply, nor after the caller shut the lane, and a message changes nothing
pub replies-owe : (now : ℕ) (reply : Reply) (x y : Lane) (mine : List Answer) → Replies now reply x y mine → owes y ≡ false
replies-owe now reply x y mine h = go (owes x) refl h where
  go : (b : Bool) → owes x ≡ b → Chooses b (SaysMore (after_reply now reply x) y mine) ((mine ≡ []) × (y ≡ x)) → owes y ≡ false
  go true e h = more-owes (after_reply now reply x) y mine h ∙ ap (λ b. not (was_shut_in (after_reply now reply x).wire mine) && b) (replied-owes now reply x)
      ∙ none-owed (was_shut_in (after_reply now reply x).wire mine)
  go false e h = ap owes h.1 ∙ e

puts-owe : (live : Bool) (protocol : Protocol) (bytes : List ℕ) (text : Bool) (x mid : Lane) (is_put : Bool) → x.protocol ≡ protocol → PutsAt live protocol bytes text x mid is_put →
    (owes mid ≡ owes x) × ((is_put ≡ false) ⊎ (owes x ≡ false))
puts-owe true (Socket websocket_state) bytes text x mid is_put e h =
    let unowed : owes x ≡ false = ap (λ t. is_live x.stage && is_busy t) e ∙ dead x.stage in
    (ap owes h.2 ∙ dead x.stage ∙ sym unowed, inr unowed)
puts-owe true (Http http_state) bytes text x mid is_put e h = (ap owes h.1, inl h.0)
puts-owe true (Response response_state) bytes text x mid is_put e h = (ap owes h.1, inl h.0)
puts-owe false protocol bytes text x mid is_put e h = (ap owes h.1, inl h.0)

pub sends-owe : (now : ℕ) (bytes : List ℕ) (text : Bool) (x y : Lane) (mine : List Answer) → Sends now bytes text x y mine → owes y ≡ owes x
sends-owe now bytes text x y mine h = go h.0 h.1 (puts-owe (is_live x.stage) x.protocol bytes text x h.0 h.1 refl h.2) h.3 where
  go : (mid : Lane) (b : Bool) → (owes mid ≡ owes x) × ((b ≡ false) ⊎ (owes x ≡ false)) → SaysPut now b mid y mine → owes y ≡ owes x
  go mid true (e, inl f) h = absurd (cc f)
  go mid true (e, inr f) h = ap owes h.2 ∙ gathered-owes mid h.0 mine h.1 ∙ ap (λ b. not (was_shut_in mid.wire mine) && b) (e ∙ f) ∙ none-owed (was_shut_in mid.wire mine) ∙ sym f
  go mid false (e, f) h = ap owes h.1 ∙ e

pub shuts-owe : (now : ℕ) (x y : Lane) (mine : List Answer) → Shuts now x y mine → owes y ≡ false
shuts-owe now x y mine h = go (is_live x.stage) refl h where
  go : (b : Bool) → is_live x.stage ≡ b → Chooses b (WritesOut (record x { since = now; protocol = protocol_after_shut x.protocol; stage = Closing }) y mine) ((mine ≡ []) × (y ≡ x)) → owes y ≡ false
  go true e h = writes-owes (record x { since = now; protocol = protocol_after_shut x.protocol; stage = Closing }) y mine h ∙ none-owed (was_shut_in x.wire mine)
  go false e h = ap owes h.1 ∙ ap (λ b. b && is_busy x.protocol) e
