-- In a session a live lane awaits a reply, and became a WebSocket, exactly if its caller knows so.
use Rattle.std.proofs.Common.{if◌then◌else◌, ◌≡◌, ◌==◌, ◌&&◌, ◌||◌, ◌++◌, ◌∷◌, [], ℕ, Bool, true, false, not, List, Option, None, Some, refl, sym, ap, ◌∙◌, subst, inl, inr}
use Rattle.hw_lanes.specs.declared.http.Reply.{Reply}
use Rattle.hh_http.specs.Texts.{reply_text}
use Rattle.hw_door.specs.declared.heard.Event.{Event}
use Rattle.hw_door.specs.declared.heard.Event.TheVariants as event
use Rattle.hw_door.specs.Traffic.{Answer}
use Rattle.hw_net.specs.declared.limits.TheConstants.{SWITCHING}
use Rattle.hw_net.specs.declared.input.Input.{Input}
use Rattle.hw_net.specs.declared.input.Input.TheVariants as input
use Rattle.hw_net.specs.declared.protocol.Protocol.{Protocol}
use Rattle.hw_net.specs.declared.protocol.Protocol.TheVariants.{Http, Response, Socket}
use Rattle.hw_net.specs.declared.protocol.Stage.{Stage}
use Rattle.hw_net.specs.declared.protocol.Stage.TheVariants.{Live, Lost, Closing, Over}
use Rattle.hw_net.specs.Awaited.{is_lost_on, awaits_on, upgraded_on, AreAwaited, RequestsAreFree}
use Rattle.hw_net.specs.Door.{new_lane}
use Rattle.hw_net.specs.Lane.{Lane, is_live, is_busy, owes, is_overdue, after_reply, protocol_after_reply, new_socket, rest_of, after_hearing}
use Rattle.hw_net.specs.Saying.{SaysMore}
use Rattle.hw_net.specs.Sessions as session
use Rattle.hw_net.specs.Sessions.{Call, Session, is_end_on, is_request_on, request_on, requests_on}
use Rattle.hw_net.specs.Trace.{Chooses}
use Rattle.hw_net.specs.Turn.{Hears, Falls, Passes, Settles, Loses, LosesAt, TurnsLive, TurnsAt, Listens, Replies, Sends, Shuts}
use Rattle.hw_net.proofs.Counting.{hears_no_request, Lives, same-lives, says-live, more-live, bystander-live, loses-live, sends-live, shuts-live, live-busy, heeds-free}
use Rattle.hw_net.proofs.Ends.{is_request_in, heard-request, continue-busy, upgrade-busy, replied-owes}
use Rattle.hw_net.proofs.Fullness.{by-fullness}
use Rattle.hw_net.proofs.Speaking.{Speaks, bystander-speech, heeds-speech, more-kind, same-speech, sends-speech, shuts-speech, speaks}
use Rattle.hw_net.proofs.Owed.{by-number}
use Rattle.hw_net.proofs.Owning.{is_on}
use Rattle.hw_net.proofs.Shares.{equal, same}
use Rattle.hw_net.proofs.Walks.{IsHeard, Heeds, Moves, moves-wire, IsUntouched, each-before, mover, not-request}

-- ---- what is heard of a lane that stays live

abbrev is_end_in : ℕ → Option Event → Bool
is_end_in wire None = false
is_end_in wire (Some what) = is_end_on wire what

-- it was live, it waits for a reply if it did or its request was heard, and neither its loss nor a refusal was heard
abbrev pub Stands : Lane → Lane → Bool → Bool → Type 0
Stands x y requested ended = is_live y.stage ≡ true → (is_live x.stage ≡ true) × (is_busy y.protocol ≡ (requested || is_busy x.protocol)) × (ended ≡ false)

quiet : (x y : Lane) (requested ended : Bool) → Lives x y → requested ≡ false → ended ≡ false → Stands x y requested ended
quiet x y requested ended l e f live = let was = l live in (was.0, was.1 ∙ ap (λ b. b || is_busy x.protocol) (sym e), f)

-- the lane that becomes of it isn't live
over : (x mid after : Lane) (requested ended : Bool) → after ≡ mid → is_live mid.stage ≡ false → Stands x after requested ended
over x mid after requested ended e f live = absurd (cc (sym f ∙ sym (ap (λ (l : Lane). is_live l.stage) e) ∙ live))

settles-stands : (now : ℕ) (x : Lane) (protocol : Protocol) (after : Lane) (read answers : List Answer) (what : Input) (heard : Option Event) → Hears x.wire x.protocol protocol read what →
    Settles now (after_hearing protocol x) after answers what heard → Stands x after (is_request_in x.wire heard) (is_end_in x.wire heard)
settles-stands now x protocol after read answers what heard h s = go x.protocol protocol refl what h s where
  Here : Type 0
  Here = Stands x after (is_request_in x.wire heard) (is_end_in x.wire heard)

  passed-as : (old : Protocol) (mid : Lane) (trace : Option Event) → x.protocol ≡ old → mid.stage ≡ x.stage → is_busy mid.protocol ≡ (is_request_in x.wire trace || is_busy old) →
      is_end_in x.wire trace ≡ false → heard ≡ trace → after ≡ mid → Here
  passed-as old mid trace p same e f t g live = (
    sym (ap (λ (l : Lane). is_live l.stage) g ∙ ap is_live same) ∙ live,
    ap (λ (l : Lane). is_busy l.protocol) g ∙ e ∙ ap (λ (o : Option Event). is_request_in x.wire o || is_busy old) (sym t)
        ∙ ap (λ (q : Protocol). is_request_in x.wire heard || is_busy q) (sym p),
    ap (λ (o : Option Event). is_end_in x.wire o) t ∙ f,
  )

  passed : (old new : Protocol) (trace : Option Event) → x.protocol ≡ old → is_busy new ≡ (is_request_in x.wire trace || is_busy old) → is_end_in x.wire trace ≡ false →
      heard ≡ trace → after ≡ after_hearing new x → Here
  passed old new trace p e f t g = passed-as old (after_hearing new x) trace p refl (continue-busy new ∙ e) f t g

  ended : (mid : Lane) → after ≡ mid → is_live mid.stage ≡ false → Here
  ended mid e f = over x mid after (is_request_in x.wire heard) (is_end_in x.wire heard) e f

  nothing : (old new : Protocol) → x.protocol ≡ old → is_busy new ≡ is_busy old → (b : Bool) →
      Chooses b (Falls (after_hearing new x) after answers heard) (Passes (after_hearing new x) after answers None heard) → Here
  nothing old new p e true k = ended (record (after_hearing new x) { stage = Over }) k.2 refl
  nothing old new p e false k = passed old new None p e refl k.1 k.2

  go : (old new : Protocol) → x.protocol ≡ old → (what : Input) → Hears x.wire old new read what → Settles now (after_hearing new x) after answers what heard → Here
  go (Http old) (Http new) p input.Nothing h s = nothing (Http old) (Http new) p h.is_input.2 (is_overdue now (after_hearing (Http new) x)) s
  go (Http old) (Http new) p (input.Request request) h s =
      passed (Http old) (Http new) (Some (event.Request x.wire request)) p (h.is_input.2 ∙ sym (ap (λ b. b || old.busy) (same x.wire))) refl s.1 s.2
  go (Http old) (Http new) p (input.Refused refusal) h s = ended _ s.2 refl
  go (Http old) (Http new) p (input.Message bytes) h s = absurd h.is_input
  go (Http old) (Http new) p (input.Response status body) h s = absurd h.is_input
  go (Http old) (Http new) p input.Upgraded h s = absurd h.is_input
  go (Http old) (Http new) p input.Broken h s = ended _ s.2 refl
  go (Http old) (Http new) p input.Gone h s = absurd h.is_input
  go (Response old) (Response new) p input.Nothing h s = nothing (Response old) (Response new) p refl (is_overdue now (after_hearing (Response new) x)) s
  go (Response old) (Response new) p (input.Request request) h s = absurd h.is_input
  go (Response old) (Response new) p (input.Refused refusal) h s = absurd h.is_input
  go (Response old) (Response new) p (input.Response status body) h s = passed (Response old) (Response new) (Some (event.Response x.wire status body)) p refl refl s.1 s.2
  go (Response old) (Response new) p input.Upgraded h s =
      passed-as (Response old) _ (Some (event.Upgraded x.wire)) p refl (upgrade-busy (Response new)) refl s.1 s.2
  go (Response old) (Response new) p (input.Message bytes) h s = absurd h.is_input
  go (Response old) (Response new) p input.Broken h s = ended _ s.2 refl
  go (Response old) (Response new) p input.Gone h s = absurd h.is_input
  go (Socket old) (Socket new) p input.Nothing h s = nothing (Socket old) (Socket new) p refl (is_overdue now (after_hearing (Socket new) x)) s
  go (Socket old) (Socket new) p (input.Request request) h s = absurd h.is_input
  go (Socket old) (Socket new) p (input.Refused refusal) h s = absurd h.is_input
  go (Socket old) (Socket new) p (input.Response status body) h s = absurd h.is_input
  go (Socket old) (Socket new) p input.Upgraded h s = absurd h.is_input
  go (Socket old) (Socket new) p (input.Message bytes) h s = passed (Socket old) (Socket new) (Some (event.Bytes x.wire bytes)) p refl refl s.1 s.2
  go (Socket old) (Socket new) p input.Broken h s = ended _ s.2 refl
  go (Socket old) (Socket new) p input.Gone h s = ended _ s.2 refl
  go (Http old) (Socket new) p what h s = absurd h
  go (Socket old) (Http new) p what h s = absurd h
  go (Response old) (Http new) p what h s = absurd h
  go (Response old) (Socket new) p what h s = absurd h
  go (Http old) (Response new) p what h s = absurd h
  go (Socket old) (Response new) p what h s = absurd h

-- of a lane that stays live nothing more is heard than what its input was
loses-nothing : (trace : Option Event) (x y : Lane) (heard : Option Event) → Loses trace x y heard → is_live y.stage ≡ true → heard ≡ trace
loses-nothing (Some here) x y heard h live = h.0
loses-nothing None x y heard h live = go x.stage h where
  go : (s : Stage) → LosesAt s x y heard → heard ≡ None
  go Live h = h.0
  go Lost h = absurd (cc (sym (ap (λ (l : Lane). is_live l.stage) h.1) ∙ live))
  go Closing h = h.0
  go Over h = h.0

live-stands : (now : ℕ) (x y : Lane) (mine : List Answer) (own : Option Event) → TurnsLive now x y mine own → Stands x y (is_request_in x.wire own) (is_end_in x.wire own)
live-stands now x y mine own h live =
    let said = loses-live h.trace h.said y own h.loses live in
    let settled = says-live now h.settled h.said h.written h.says said.0 in
    let was = settles-stands now x h.protocol h.settled h.read h.shut h.input h.trace h.hears h.settles settled.0 in
    let e : own ≡ h.trace = loses-nothing h.trace h.said y own h.loses live in (
      was.0,
      said.1 ∙ settled.1 ∙ was.1 ∙ ap (λ (o : Option Event). is_request_in x.wire o || is_busy x.protocol) (sym e),
      ap (λ (o : Option Event). is_end_in x.wire o) e ∙ was.2,
    )

listens-stands : (now : ℕ) (x y : Lane) (mine : List Answer) (own : Option Event) → Listens now x y mine own → Stands x y (is_request_in x.wire own) (is_end_in x.wire own)
listens-stands now x y mine own h = go x.stage refl h where
  unheard : own ≡ None → Lives x y → Stands x y (is_request_in x.wire own) (is_end_in x.wire own)
  unheard e l = quiet x y _ _ l (ap (λ (o : Option Event). is_request_in x.wire o) e) (ap (λ (o : Option Event). is_end_in x.wire o) e)

  go : (s : Stage) → x.stage ≡ s → TurnsAt s now x y mine own → Stands x y (is_request_in x.wire own) (is_end_in x.wire own)
  go Live e h = by-fullness (λ (l : Lane). Stands x l (is_request_in x.wire own) (is_end_in x.wire own)) now x y mine own
      (λ d f s. quiet x y _ _ (says-live now (record x { full = None }) y mine s) (ap (λ (o : Option Event). is_request_in x.wire o) f) (ap (λ (o : Option Event). is_end_in x.wire o) f))
      (λ s f. over x (record x { stage = Over }) y _ _ f.2 refl)
      (λ mid t. live-stands now x mid mine own t)
      h
  go Lost e h = over x (record x { stage = Over }) y _ _ h.2 refl
  go Closing e h = unheard h.0 (says-live now x y mine h.1)
  go Over e h = over x x y _ _ h.2 (ap is_live e)

not-end : (wire : ℕ) (what : Event) → is_on wire what ≡ false → is_end_on wire what ≡ false
not-end wire (event.Request at request) h = refl
not-end wire (event.Refused at refusal) h = h
not-end wire (event.Bytes at bytes) h = refl
not-end wire (event.Response at status body) h = refl
not-end wire (event.Upgraded at) h = refl
not-end wire (event.Lost at) h = h
not-end wire (event.Drained at) h = refl
not-end wire event.Quiet h = refl

heard-end : (wire : ℕ) (own : Option Event) (what : Event) → IsHeard wire own what → is_end_on wire what ≡ is_end_in wire own
heard-end wire None what h = not-end wire what h
heard-end wire (Some trace) what h = ap (λ v. is_end_on wire v) h

pub heeds-stands : (now : ℕ) (what : Event) (x y : Lane) (mine : List Answer) → Heeds now what x y mine → Stands x y (is_request_on x.wire what) (is_end_on x.wire what)
heeds-stands now what x y mine (inl h) live =
    let was = listens-stands now x y mine h.0 h.1 live in
    (was.0, was.1 ∙ ap (λ b. b || is_busy x.protocol) (sym (heard-request x.wire h.0 what h.2)), heard-end x.wire h.0 what h.2 ∙ was.2)
heeds-stands now what x y mine (inr h) live =
    quiet x y (is_request_on x.wire what) (is_end_on x.wire what) (bystander-live now x y mine h.0) (not-request x.wire what h.1) (not-end x.wire what h.1) live

pub end-lost : (wire : ℕ) (what : Event) → is_end_on wire what ≡ false → is_lost_on wire what ≡ false
end-lost wire (event.Request at request) h = refl
end-lost wire (event.Refused at refusal) h = refl
end-lost wire (event.Bytes at bytes) h = refl
end-lost wire (event.Response at status body) h = refl
end-lost wire (event.Upgraded at) h = refl
end-lost wire (event.Lost at) h = h
end-lost wire (event.Drained at) h = refl
end-lost wire event.Quiet h = refl

-- ---- replies

replied-stage : (now : ℕ) (reply : Reply) (x : Lane) → (after_reply now reply x).stage ≡ x.stage
replied-stage now reply x = go (reply.status == SWITCHING) where
  go : (b : Bool) → (if b then record x { protocol = new_socket (rest_of x.protocol); out = x.out ++ reply_text reply }
      else record x { protocol = protocol_after_reply x.protocol; out = x.out ++ reply_text reply; since = now }).stage ≡ x.stage
  go true = refl
  go false = refl

-- a lane of requests is none after an upgrade
pub replied-speech : (now : ℕ) (reply : Reply) (x : Lane) → hears_no_request x.protocol ≡ false → hears_no_request (after_reply now reply x).protocol ≡ (reply.status == SWITCHING)
replied-speech now reply x e = go (reply.status == SWITCHING) where
  still : (protocol : Protocol) → hears_no_request (protocol_after_reply protocol) ≡ hears_no_request protocol
  still (Http http_state) = refl
  still (Response response_state) = refl
  still (Socket websocket_state) = refl

  go : (b : Bool) → hears_no_request (if b then record x { protocol = new_socket (rest_of x.protocol); out = x.out ++ reply_text reply }
      else record x { protocol = protocol_after_reply x.protocol; out = x.out ++ reply_text reply; since = now }).protocol ≡ b
  go true = refl
  go false = still x.protocol ∙ e

pub busy-speech : (protocol : Protocol) → is_busy protocol ≡ true → hears_no_request protocol ≡ false
busy-speech (Http http_state) e = refl
busy-speech (Response response_state) e = absurd (cc e)
busy-speech (Socket websocket_state) e = absurd (cc e)

pub replies-were-live : (now : ℕ) (reply : Reply) (x y : Lane) (mine : List Answer) → Replies now reply x y mine → is_live y.stage ≡ true → is_live x.stage ≡ true
replies-were-live now reply x y mine h live = go (owes x) h where
  go : (b : Bool) → Chooses b (SaysMore (after_reply now reply x) y mine) ((mine ≡ []) × (y ≡ x)) → is_live x.stage ≡ true
  go true h = sym (ap is_live (replied-stage now reply x)) ∙ (more-live (after_reply now reply x) y mine h live).0
  go false h = (same-lives x y h.1 live).0

-- a lane that waits for its reply is given it
replies-stand : (now : ℕ) (reply : Reply) (x y : Lane) (mine : List Answer) → Replies now reply x y mine → owes x ≡ true → hears_no_request x.protocol ≡ false → is_live y.stage ≡ true →
    (is_busy y.protocol ≡ false) × (hears_no_request y.protocol ≡ (reply.status == SWITCHING))
replies-stand now reply x y mine h e f live = go (subst (λ b. Chooses b (SaysMore (after_reply now reply x) y mine) ((mine ≡ []) × (y ≡ x))) e h) where
  go : SaysMore (after_reply now reply x) y mine → (is_busy y.protocol ≡ false) × (hears_no_request y.protocol ≡ (reply.status == SWITCHING))
  go h =
      let was = more-live (after_reply now reply x) y mine h live in (
        was.1 ∙ sym (live-busy (after_reply now reply x) was.0) ∙ replied-owes now reply x,
        speaks (after_reply now reply x) y (more-kind (after_reply now reply x) y mine h) ∙ replied-speech now reply x f,
      )

-- ---- sessions

-- a live lane stands as the caller knows, if that replies only where it is awaited
abbrev pub IsKnown : List Call → Lane → ℕ → Type 0
IsKnown calls lane wire = (awaits_on wire calls ≡ is_busy lane.protocol) × (upgraded_on wire calls ≡ hears_no_request lane.protocol)

abbrev pub IsAsKnown : List Call → Lane → Type 0
IsAsKnown calls lane = AreAwaited calls → is_live lane.stage ≡ true → IsKnown calls lane lane.wire

or-false : (b : Bool) → (b || false) ≡ b
or-false true = refl
or-false false = refl

-- a reply that is awaited on the lane
known-reply : (calls : List Call) (now at : ℕ) (reply : Reply) (x y : Lane) (mine : List Answer) → IsAsKnown calls x → AreAwaited calls → awaits_on at calls ≡ true → (at == x.wire) ≡ true →
    Replies now reply x y mine → is_live y.stage ≡ true →
    ((not true && awaits_on x.wire calls) ≡ is_busy y.protocol) × (((true && (reply.status == SWITCHING)) || upgraded_on x.wire calls) ≡ hears_no_request y.protocol)
known-reply calls now at reply x y mine known all awaited e h live =
    let was = replies-were-live now reply x y mine h live in
    let k = known all was in
    let busy : is_busy x.protocol ≡ true = sym k.0 ∙ ap (λ n. awaits_on n calls) (sym (equal at x.wire e)) ∙ awaited in
    let speech = busy-speech x.protocol busy in
    let stand = replies-stand now reply x y mine h (live-busy x was ∙ busy) speech live in (
      sym stand.0,
      ap (λ b. (reply.status == SWITCHING) || b) (k.1 ∙ speech) ∙ or-false (reply.status == SWITCHING) ∙ sym stand.1,
    )

known-here : (call : Call) (calls : List Call) (x y : Lane) → IsAsKnown calls x → Moves call x y → AreAwaited (call ∷ calls) → is_live y.stage ≡ true → IsKnown (call ∷ calls) y x.wire
known-here (session.heard what answers) calls x y known h all live =
    let was = heeds-stands what.now what.event x y _ h live in
    let there = end-lost x.wire what.event was.2 in
    let k = known all was.0 in (
      ap (λ b. is_request_on x.wire what.event || (not b && awaits_on x.wire calls)) there ∙ ap (λ b. is_request_on x.wire what.event || b) k.0 ∙ sym was.1,
      ap (λ b. not b && upgraded_on x.wire calls) there ∙ k.1 ∙ sym (heeds-speech what.now what.event x y _ h),
    )
known-here (session.replied at reply answers) calls x y known h all live =
    by-number at (Replies h.0 reply) x y _
    (λ b. (at == x.wire) ≡ b → ((not b && awaits_on x.wire calls) ≡ is_busy y.protocol) × (((b && (reply.status == SWITCHING)) || upgraded_on x.wire calls) ≡ hears_no_request y.protocol))
    (λ r e. known-reply calls h.0 at reply x y _ known all.1 all.0 e r live)
    (λ s m e. stays s)
    h.1 refl where
      stays : y ≡ x → (awaits_on x.wire calls ≡ is_busy y.protocol) × (upgraded_on x.wire calls ≡ hears_no_request y.protocol)
      stays s = let k = known all.1 (sym (ap (λ (l : Lane). is_live l.stage) s) ∙ live) in (k.0 ∙ sym (ap (λ (l : Lane). is_busy l.protocol) s), k.1 ∙ sym (same-speech x y s))
known-here (session.sent at bytes text full answers) calls x y known h all live =
    by-number at (Sends h.0 bytes text) x y _ (λ b. IsKnown calls y x.wire)
    (λ s. kept (sends-live h.0 bytes text x y _ s) (sends-speech h.0 bytes text x y _ s)) (λ s m. kept (same-lives x y s) (same-speech x y s)) h.1 where
      kept : Lives x y → Speaks x y → IsKnown calls y x.wire
      kept l s = let was = l live in let k = known all was.0 in (k.0 ∙ sym was.1, k.1 ∙ sym s)
known-here (session.shut at answers) calls x y known h all live =
    by-number at (Shuts h.0) x y _ (λ b. IsKnown calls y x.wire)
    (λ s. kept (shuts-live h.0 x y _ s) (shuts-speech h.0 x y _ s)) (λ s m. kept (same-lives x y s) (same-speech x y s)) h.1 where
      kept : Lives x y → Speaks x y → IsKnown calls y x.wire
      kept l s = let was = l live in let k = known all was.0 in (k.0 ∙ sym was.1, k.1 ∙ sym s)
known-here (session.wrote at answers) calls x y known h all live =
    let was = bystander-live 0 x y _ h live in
    let k = known all was.0 in
    (k.0 ∙ sym was.1, k.1 ∙ sym (bystander-speech 0 x y _ h))

pub step-known : (call : Call) (calls : List Call) (x y : Lane) → IsAsKnown calls x → Moves call x y → IsAsKnown (call ∷ calls) y
step-known call calls x y known h all live = subst (λ n. IsKnown (call ∷ calls) y n) (sym (moves-wire call x y h)) (known-here call calls x y known h all live)

-- ---- new lanes

pub no-parts : {A : Type 0} (xs ys : List A) → xs ++ ys ≡ [] → (xs ≡ []) × (ys ≡ [])
no-parts [] ys e = (refl, e)
no-parts (x ∷ xs) ys e = absurd (cc e)

no-request : (lane : ℕ) (what : Event) → request_on lane what ≡ [] → is_request_on lane what ≡ false
no-request lane (event.Request at request) e = go (at == lane) e where
  go : (b : Bool) → (if b then request ∷ [] else []) ≡ [] → b ≡ false
  go true e = absurd (cc e)
  go false e = refl
no-request lane (event.Refused at refusal) e = refl
no-request lane (event.Bytes at bytes) e = refl
no-request lane (event.Response at status body) e = refl
no-request lane (event.Upgraded at) e = refl
no-request lane (event.Lost at) e = refl
no-request lane (event.Drained at) e = refl
no-request lane event.Quiet e = refl

and-false : (a : Bool) → (a && false) ≡ false
and-false true = refl
and-false false = refl

unawaited : (lane : ℕ) (calls : List Call) → requests_on lane calls ≡ [] → awaits_on lane calls ≡ false
unawaited lane [] e = refl
unawaited lane (session.heard what answers ∷ calls) e =
    let parts = no-parts (requests_on lane calls) (request_on lane what.event) e in
    ap (λ b. b || (not (is_lost_on lane what.event) && awaits_on lane calls)) (no-request lane what.event parts.1)
    ∙ ap (λ b. not (is_lost_on lane what.event) && b) (unawaited lane calls parts.0) ∙ and-false (not (is_lost_on lane what.event))
unawaited lane (session.replied at reply answers ∷ calls) e = ap (λ b. not (at == lane) && b) (unawaited lane calls e) ∙ and-false (not (at == lane))
unawaited lane (session.sent at bytes text full answers ∷ calls) e = unawaited lane calls e
unawaited lane (session.shut at answers ∷ calls) e = unawaited lane calls e
unawaited lane (session.wrote at answers ∷ calls) e = unawaited lane calls e

ungiven : (lane : ℕ) (calls : List Call) → requests_on lane calls ≡ [] → AreAwaited calls → upgraded_on lane calls ≡ false
ungiven lane [] e all = refl
ungiven lane (session.heard what answers ∷ calls) e all =
    ap (λ b. not (is_lost_on lane what.event) && b) (ungiven lane calls (no-parts (requests_on lane calls) (request_on lane what.event) e).0 all) ∙ and-false (not (is_lost_on lane what.event))
ungiven lane (session.replied at reply answers ∷ calls) e all = go (at == lane) refl (ungiven lane calls e all.1) where
  go : (b : Bool) → (at == lane) ≡ b → upgraded_on lane calls ≡ false → ((b && (reply.status == SWITCHING)) || upgraded_on lane calls) ≡ false
  go true f again = absurd (cc (sym all.0 ∙ ap (λ n. awaits_on n calls) (equal at lane f) ∙ unawaited lane calls e))
  go false f again = again
ungiven lane (session.sent at bytes text full answers ∷ calls) e all = ungiven lane calls e all
ungiven lane (session.shut at answers ∷ calls) e all = ungiven lane calls e all
ungiven lane (session.wrote at answers ∷ calls) e all = ungiven lane calls e all

pub new-known : (calls : List Call) (now wire : ℕ) → IsUntouched wire calls → IsAsKnown calls (new_lane now wire)
new-known calls now wire h all live = (unawaited wire calls h.requests, ungiven wire calls h.requests all)

pub requests-are-free : RequestsAreFree
requests-are-free what answers calls bound now h all lane request e =
    let m = mover what answers calls bound now h lane (ap (λ v. is_on lane v) e ∙ same lane) in
    let x = m.0 in
    let trace : request_on x.wire what.event ≡ request ∷ [] =
    ap (λ v. request_on x.wire v) e ∙ ap (λ n. if lane == n then request ∷ [] else []) m.4 ∙ ap (λ b. if b then request ∷ [] else []) (same lane) in
    let free = heeds-free what.now what.event x m.1 _ request m.5 trace in
    let k = each-before IsAsKnown new-known step-known (session.heard what answers) calls bound now h x m.2 all free.0 in
    let here : (awaits_on x.wire calls ≡ false) × (upgraded_on x.wire calls ≡ false) = (k.0 ∙ free.1, k.1 ∙ free.2) in
    subst (λ n. (awaits_on n calls ≡ false) × (upgraded_on n calls ≡ false)) m.4 here
