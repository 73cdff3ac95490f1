-- In a session a request is heard on a lane only once each one before it there was replied to.
use Rattle.std.proofs.Common.{◌≡◌, ◌==◌, ◌&&◌, ◌+◌, ◌++◌, ◌∷◌, [], ℕ, Bool, true, false, if◌then◌else◌, List, Option, None, Some, refl, sym, ap, ◌∙◌, subst, ◌⊎◌, inl, inr, arith, length}
use Rattle.hw_lanes.specs.declared.http.Reply.{Reply}
use Rattle.hw_lanes.specs.declared.http.Request.{Request}
use Rattle.hh_http.specs.Texts.{reply_text}
use Rattle.hw_door.specs.declared.heard.Event.{Event}
use Rattle.hw_door.specs.Traffic.{Answer}
use Rattle.hw_net.specs.declared.limits.TheConstants.{SWITCHING}
use Rattle.hw_net.specs.declared.input.Input.{Input}
use Rattle.hw_net.specs.declared.input.Input.TheVariants as input
use Rattle.hw_net.specs.declared.protocol.Protocol.{Protocol}
use Rattle.hw_net.specs.declared.protocol.Protocol.TheVariants.{Http, Response, Socket}
use Rattle.hw_net.specs.declared.protocol.Stage.{Stage}
use Rattle.hw_net.specs.declared.protocol.Stage.TheVariants.{Live, Lost, Closing, Over}
use Rattle.hw_net.specs.HttpState.{HttpStateView, requests_of}
use Rattle.hw_net.specs.Door.{new_lane}
use Rattle.hw_net.specs.Lane.{Lane, waits, is_live, is_busy, owes, is_overdue, after_end, after_reply, protocol_after_shut, protocol_after_reply, new_socket, rest_of, after_hearing}
use Rattle.hw_net.specs.Saying.{WritesOut, DropsOrWrites, Says, SaysAt, SaysMore, GathersOrSays, has_closed_long, is_too_much}
use Rattle.hw_net.specs.Sessions as session
use Rattle.hw_net.specs.Sessions.{Call, Session, requests_on, replies_on, request_on, refusal_on, RequestsWaitForReplies}
use Rattle.hw_net.specs.Trace.{Chooses}
use Rattle.hw_net.specs.Turn.{Hears, Falls, Passes, Settles, Loses, LosesAt, TurnsLive, TurnsAt, Listens, Replies, PutsAt, Sends, Shuts}
use Rattle.hw_net.proofs.Asked.{requests_in, settles-requests, loses-requests, heard-requests, requests_by, requests-more}
use Rattle.hw_net.proofs.Bystanders.{SaysOrStays, Stays, gathered-says}
use Rattle.hw_net.proofs.Ends.{writes-end, speaks-busy, replied-owes, Ends, dropped-or-end, continue-busy, upgrade-busy}
use Rattle.hw_net.proofs.Fullness.{by-fullness, SaysPut}
use Rattle.hw_net.proofs.Owed.{IsOwed, step-owed, new-owed, by-number, replies_by, replies-more}
use Rattle.hw_net.proofs.Owning.{is_on}
use Rattle.hw_net.proofs.Shares.{same}
use Rattle.hw_net.proofs.Voices.{refusals_of, refusals_in, settles-refusals, loses-refusals, heard-refusals}
use Rattle.hw_net.proofs.Walks.{Heeds, Moves, moves-wire, IsUntouched, each-before, mover, unrequested, unrefused}

-- how many requests wait for a reply
abbrev busy_count : Protocol → ℕ
busy_count protocol = if is_busy protocol then 1 else 0

-- as long as a lane is live, the replies said there are as many as the requests heard, but for the one that waits
abbrev IsEven : ℕ → ℕ → Lane → Type 0
IsEven requests replies lane = is_live lane.stage ≡ true → requests ≡ replies + busy_count lane.protocol

-- a call adds these many
abbrev StaysEven : Lane → Lane → ℕ → ℕ → Type 0
StaysEven x y requests replies = (n m : ℕ) → IsEven n m x → IsEven (n + requests) (m + replies) y

-- ---- calls that add nothing

-- a lane that is live was so before, and is as busy
abbrev pub Lives : Lane → Lane → Type 0
Lives x y = is_live y.stage ≡ true → (is_live x.stage ≡ true) × (is_busy y.protocol ≡ is_busy x.protocol)

even-lives : (x y : Lane) (requests replies : ℕ) → Lives x y → requests ≡ 0 → replies ≡ 0 → StaysEven x y requests replies
even-lives x y requests replies l e f n m k live =
    let was = l live in
    let count : busy_count y.protocol ≡ busy_count x.protocol = ap (λ b. if b then 1 else 0) was.1 in
    let before : n ≡ m + busy_count x.protocol = k was.0 in
    omega (arith, count, before, e, f)

ended : (s : Stage) → is_live (after_end s) ≡ true → ⊥
ended Live e = absurd (cc e)
ended Lost e = absurd (cc e)
ended Closing e = absurd (cc e)
ended Over e = absurd (cc e)

ends-lives : (wire : ℕ) (x y : Lane) (answers : List Answer) → Ends wire x.stage y.stage answers → is_busy y.protocol ≡ is_busy x.protocol → Lives x y
ends-lives wire x y answers (inl h) e live = absurd (ended x.stage (sym (ap is_live h.1) ∙ live))
ends-lives wire x y answers (inr h) e live = (sym (ap is_live h.1) ∙ live, e)

pub same-lives : (x y : Lane) → y ≡ x → Lives x y
same-lives x y e live = (sym (ap (λ (l : Lane). is_live l.stage) e) ∙ live, ap (λ (l : Lane). is_busy l.protocol) e)

pub writes-live : (x y : Lane) (answers : List Answer) → WritesOut x y answers → Lives x y
writes-live x y answers w = ends-lives x.wire x y answers (writes-end x y answers w) (speaks-busy x.protocol y.protocol w.still.protocol)

pub dropped-or-live : (is_dropped : Bool) (x y : Lane) (answers : List Answer) → DropsOrWrites is_dropped x y answers → Lives x y
dropped-or-live true x y answers h = ends-lives x.wire x y answers (dropped-or-end true x y answers h) (ap (λ (l : Lane). is_busy l.protocol) h.1)
dropped-or-live false x y answers h = writes-live x y answers h

pub says-live : (now : ℕ) (x y : Lane) (answers : List Answer) → Says now x y answers → Lives x y
says-live now x y answers h = go x.stage h where
  go : (s : Stage) → SaysAt s now x y answers → Lives x y
  go Live h = writes-live x y answers h
  go Lost h = same-lives x y h.1
  go Closing h = dropped-or-live (has_closed_long now x.since) x y answers h
  go Over h = same-lives x y h.1

pub more-live : (x y : Lane) (answers : List Answer) → SaysMore x y answers → Lives x y
more-live x y answers h = dropped-or-live (is_too_much (length (waits x))) x y answers h

pub bystander-live : (now : ℕ) (x y : Lane) (answers : List Answer) → SaysOrStays now x y answers → Lives x y
bystander-live now x y answers (inl h) = says-live now x y answers h
bystander-live now x y answers (inr h) = same-lives x y h.0

gathered-live : (x y : Lane) (answers : List Answer) → GathersOrSays x y answers → Lives x y
gathered-live x y answers h = go (gathered-says x y answers h) where
  go : SaysMore x y answers ⊎ Stays x y answers → Lives x y
  go (inl k) = more-live x y answers k
  go (inr k) = same-lives x y k.0

pub lives-on : (x y z : Lane) → Lives x y → Lives y z → Lives x z
lives-on x y z f g live = let a = g live in let b = f a.0 in (b.0, a.1 ∙ b.1)

pub loses-live : (trace : Option Event) (x y : Lane) (heard : Option Event) → Loses trace x y heard → Lives x y
loses-live (Some here) x y heard h = same-lives x y h.1
loses-live None x y heard h = go x.stage h where
  go : (s : Stage) → LosesAt s x y heard → Lives x y
  go Live h = same-lives x y h.1
  go Lost h = λ live. absurd (cc (sym (ap (λ (l : Lane). is_live l.stage) h.1) ∙ live))
  go Closing h = same-lives x y h.1
  go Over h = same-lives x y h.1

-- ---- turns

-- the lane that becomes of it isn't live
gone : (x mid after : Lane) (requests replies : ℕ) → after ≡ mid → is_live mid.stage ≡ false → StaysEven x after requests replies
gone x mid after requests replies e f n m k live = absurd (cc (sym f ∙ sym (ap (λ (l : Lane). is_live l.stage) e) ∙ live))

settles-even : (now : ℕ) (x : Lane) (protocol : Protocol) (after : Lane) (read answers : List Answer) (what : Input) (heard : Option Event) → Hears x.wire x.protocol protocol read what → Settles now (after_hearing protocol x) after answers what heard →
    StaysEven x after (length (requests_of what)) (length (refusals_of what))
settles-even now x protocol after read answers what heard h s n m k = go x.protocol protocol what h s k where
  kept-as : (old : Protocol) (mid l : Lane) → mid.stage ≡ x.stage → is_busy mid.protocol ≡ is_busy old → l ≡ mid → (is_live x.stage ≡ true → n ≡ m + busy_count old) → is_live l.stage ≡ true → n + 0 ≡ m + 0 + busy_count l.protocol
  kept-as old mid l same e f k live =
      let was : is_live x.stage ≡ true = sym (ap (λ (l : Lane). is_live l.stage) f ∙ ap is_live same) ∙ live in
      let count : busy_count l.protocol ≡ busy_count old = ap (λ (l : Lane). busy_count l.protocol) f ∙ ap (λ b. if b then 1 else 0) e in
      let before : n ≡ m + busy_count old = k was in
      omega (arith, count, before)

  kept : (old new : Protocol) → is_busy new ≡ is_busy old → (l : Lane) → l ≡ after_hearing new x → (is_live x.stage ≡ true → n ≡ m + busy_count old) → is_live l.stage ≡ true → n + 0 ≡ m + 0 + busy_count l.protocol
  kept old new e l f k live = kept-as old (after_hearing new x) l refl (continue-busy new ∙ e) f k live

  asked : (old new : HttpStateView) → old.busy ≡ false → new.busy ≡ true → (l : Lane) → l ≡ after_hearing (Http new) x → (is_live x.stage ≡ true → n ≡ m + busy_count (Http old)) → is_live l.stage ≡ true → n + 1 ≡ m + 0 + busy_count l.protocol
  asked old new e f l g k live =
      let was : is_live x.stage ≡ true = sym (ap (λ (l : Lane). is_live l.stage) g) ∙ live in
      let now_is : busy_count l.protocol ≡ 1 = ap (λ (l : Lane). busy_count l.protocol) g ∙ ap (λ b. if b then 1 else 0) f in
      let then_was : busy_count (Http old) ≡ 0 = ap (λ b. if b then 1 else 0) e in
      let before : n ≡ m + busy_count (Http old) = k was in
      omega (arith, now_is, then_was, before)

  nothing : (old new : Protocol) → is_busy new ≡ is_busy old → (is_live x.stage ≡ true → n ≡ m + busy_count old) → (b : Bool) →
      Chooses b (Falls (after_hearing new x) after answers heard) (Passes (after_hearing new x) after answers None heard) → is_live after.stage ≡ true → n + 0 ≡ m + 0 + busy_count after.protocol
  nothing old new e k true f live = absurd (cc (sym (ap (λ (l : Lane). is_live l.stage) f.2) ∙ live))
  nothing old new e k false f live = kept old new e after f.2 k live

  over : (mid : Lane) (requests replies : ℕ) → after ≡ mid → is_live mid.stage ≡ false → is_live after.stage ≡ true → n + requests ≡ m + replies + busy_count after.protocol
  over mid requests replies e f live = absurd (cc (sym f ∙ sym (ap (λ (l : Lane). is_live l.stage) e) ∙ live))

  go : (old new : Protocol) (what : Input) → Hears x.wire old new read what → Settles now (after_hearing new x) after answers what heard → (is_live x.stage ≡ true → n ≡ m + busy_count old) →
      is_live after.stage ≡ true → n + length (requests_of what) ≡ m + length (refusals_of what) + busy_count after.protocol
  go (Http old) (Http new) input.Nothing h s k = nothing (Http old) (Http new) h.is_input.2 k (is_overdue now (after_hearing (Http new) x)) s
  go (Http old) (Http new) (input.Request request) h s k = asked old new h.is_input.1 h.is_input.2 after s.2 k
  go (Http old) (Http new) (input.Refused refusal) h s k = over _ 0 1 s.2 refl
  go (Http old) (Http new) (input.Message bytes) h s k = absurd h.is_input
  go (Http old) (Http new) (input.Response status body) h s k = absurd h.is_input
  go (Http old) (Http new) input.Upgraded h s k = absurd h.is_input
  go (Http old) (Http new) input.Broken h s k = over _ 0 0 s.2 refl
  go (Http old) (Http new) input.Gone h s k = absurd h.is_input
  go (Response old) (Response new) input.Nothing h s k = nothing (Response old) (Response new) refl k (is_overdue now (after_hearing (Response new) x)) s
  go (Response old) (Response new) (input.Request request) h s k = absurd h.is_input
  go (Response old) (Response new) (input.Refused refusal) h s k = absurd h.is_input
  go (Response old) (Response new) (input.Response status body) h s k = kept (Response old) (Response new) refl after s.2 k
  go (Response old) (Response new) input.Upgraded h s k = kept-as (Response old) _ after refl (upgrade-busy (Response new)) s.2 k
  go (Response old) (Response new) (input.Message bytes) h s k = absurd h.is_input
  go (Response old) (Response new) input.Broken h s k = over _ 0 0 s.2 refl
  go (Response old) (Response new) input.Gone h s k = absurd h.is_input
  go (Socket old) (Socket new) input.Nothing h s k = nothing (Socket old) (Socket new) refl k (is_overdue now (after_hearing (Socket new) x)) s
  go (Socket old) (Socket new) (input.Request request) h s k = absurd h.is_input
  go (Socket old) (Socket new) (input.Refused refusal) h s k = absurd h.is_input
  go (Socket old) (Socket new) (input.Response status body) h s k = absurd h.is_input
  go (Socket old) (Socket new) input.Upgraded h s k = absurd h.is_input
  go (Socket old) (Socket new) (input.Message bytes) h s k = kept (Socket old) (Socket new) refl after s.2 k
  go (Socket old) (Socket new) input.Broken h s k = over _ 0 0 s.2 refl
  go (Socket old) (Socket new) input.Gone h s k = over _ 0 0 s.2 refl
  go (Http old) (Socket new) what h s k = absurd h
  go (Socket old) (Http new) what h s k = absurd h
  go (Response old) (Http new) what h s k = absurd h
  go (Response old) (Socket new) what h s k = absurd h
  go (Http old) (Response new) what h s k = absurd h
  go (Socket old) (Response new) what h s k = absurd h

even-on : (x y z : Lane) (requests replies : ℕ) → StaysEven x y requests replies → Lives y z → StaysEven x z requests replies
even-on x y z requests replies f l n m k live =
    let was = l live in
    let count : busy_count z.protocol ≡ busy_count y.protocol = ap (λ b. if b then 1 else 0) was.1 in
    let before : n + requests ≡ m + replies + busy_count y.protocol = f n m k was.0 in
    omega (arith, count, before)

live-even : (now : ℕ) (x y : Lane) (mine : List Answer) (own : Option Event) → TurnsLive now x y mine own → StaysEven x y (length (requests_in x.wire own)) (length (refusals_in x.wire own))
live-even now x y mine own h =
    let mid = after_hearing h.protocol x in
    let requests : requests_in x.wire own ≡ requests_of h.input = loses-requests x.wire h.trace h.said y own h.loses ∙ settles-requests now mid h.settled h.shut h.input h.trace h.settles in
    let refusals : refusals_in x.wire own ≡ refusals_of h.input = loses-refusals x.wire h.trace h.said y own h.loses ∙ settles-refusals now mid h.settled h.shut h.input h.trace h.settles in
    let at_end = even-on x h.settled y (length (requests_of h.input)) (length (refusals_of h.input)) (settles-even now x h.protocol h.settled h.read h.shut h.input h.trace h.hears h.settles)
    (lives-on h.settled h.said y (says-live now h.settled h.said h.written h.says) (loses-live h.trace h.said y own h.loses)) in
    subst (λ (l : List Request). StaysEven x y (length l) (length (refusals_in x.wire own))) (sym requests)
    (subst (λ (l : List Reply). StaysEven x y (length (requests_of h.input)) (length l)) (sym refusals) at_end)

-- nothing is heard and said
quiet-even : (x y : Lane) (wire : ℕ) (own : Option Event) → Lives x y → requests_in wire own ≡ [] → refusals_in wire own ≡ [] → StaysEven x y (length (requests_in wire own)) (length (refusals_in wire own))
quiet-even x y wire own l e f = even-lives x y _ _ l (ap (λ (l : List Request). length l) e) (ap (λ (l : List Reply). length l) f)

listens-even : (now : ℕ) (x y : Lane) (mine : List Answer) (own : Option Event) → Listens now x y mine own → StaysEven x y (length (requests_in x.wire own)) (length (refusals_in x.wire own))
listens-even now x y mine own h = go x.stage refl h where
  go : (s : Stage) → x.stage ≡ s → TurnsAt s now x y mine own → StaysEven x y (length (requests_in x.wire own)) (length (refusals_in x.wire own))
  go Live e h = by-fullness (λ (l : Lane). StaysEven x l (length (requests_in x.wire own)) (length (refusals_in x.wire own))) now x y mine own
      (λ d f s. quiet-even x y x.wire own (says-live now (record x { full = None }) y mine s) (ap (λ o. requests_in x.wire o) f) (ap (λ o. refusals_in x.wire o) f))
      (λ s f. gone x (record x { stage = Over }) y _ _ f.2 refl)
      (λ mid t. live-even now x mid mine own t)
      h
  go Lost e h = gone x (record x { stage = Over }) y _ _ h.2 refl
  go Closing e h = quiet-even x y x.wire own (says-live now x y mine h.1) (ap (λ o. requests_in x.wire o) h.0) (ap (λ o. refusals_in x.wire o) h.0)
  go Over e h = gone x x y _ _ h.2 (ap is_live e)

heeds-even : (now : ℕ) (what : Event) (x y : Lane) (mine : List Answer) → Heeds now what x y mine → StaysEven x y (length (request_on x.wire what)) (length (refusal_on x.wire what))
heeds-even now what x y mine (inl h) =
    subst (λ (l : List Request). StaysEven x y (length l) (length (refusal_on x.wire what))) (sym (heard-requests x.wire h.0 what h.2))
    (subst (λ (l : List Reply). StaysEven x y (length (requests_in x.wire h.0)) (length l)) (sym (heard-refusals x.wire h.0 what h.2)) (listens-even now x y mine h.0 h.1))
heeds-even now what x y mine (inr h) =
    even-lives x y _ _ (bystander-live now x y mine h.0) (ap (λ (l : List Request). length l) (unrequested x.wire what h.1)) (ap (λ (l : List Reply). length l) (unrefused x.wire what h.1))

-- ---- saying

pub live-busy : (x : Lane) → is_live x.stage ≡ true → owes x ≡ is_busy x.protocol
live-busy x e = ap (λ b. b && is_busy x.protocol) e

-- a lane after its reply is live as it was, and not busy
replied-even : (now : ℕ) (reply : Reply) (x : Lane) → owes x ≡ true → StaysEven x (after_reply now reply x) 0 1
replied-even now reply x owed n m k live =
    let stage : (after_reply now reply x).stage ≡ x.stage = go (reply.status == SWITCHING) in
    let was : is_live x.stage ≡ true = sym (ap is_live stage) ∙ live in
    let busy : is_busy x.protocol ≡ true = sym (live-busy x was) ∙ owed in
    let unbusy : is_busy (after_reply now reply x).protocol ≡ false = sym (live-busy (after_reply now reply x) live) ∙ replied-owes now reply x in
    let count : busy_count x.protocol ≡ 1 = ap (λ b. if b then 1 else 0) busy in
    let uncount : busy_count (after_reply now reply x).protocol ≡ 0 = ap (λ b. if b then 1 else 0) unbusy in
    let before : n ≡ m + busy_count x.protocol = k was in
    omega (arith, count, uncount, before) where
      go : (b : Bool) → (if b then record x { protocol = new_socket (rest_of x.protocol); out = x.out ++ reply_text reply }
          else record x { protocol = protocol_after_reply x.protocol; out = x.out ++ reply_text reply; since = now }).stage ≡ x.stage
      go true = refl
      go false = refl

replies-even : (now : ℕ) (reply : Reply) (x y : Lane) (mine : List Answer) → Replies now reply x y mine → StaysEven x y 0 (length (if owes x then reply ∷ [] else []))
replies-even now reply x y mine h = go (owes x) refl h where
  go : (b : Bool) → owes x ≡ b → Chooses b (SaysMore (after_reply now reply x) y mine) ((mine ≡ []) × (y ≡ x)) → StaysEven x y 0 (length (if b then reply ∷ [] else []))
  go true e h = even-on x (after_reply now reply x) y 0 1 (replied-even now reply x e) (more-live (after_reply now reply x) y mine h)
  go false e h = even-lives x y 0 0 (same-lives x y h.1) refl refl

put-lives : (live : Bool) (protocol : Protocol) (bytes : List ℕ) (text : Bool) (x mid : Lane) (is_put : Bool) → x.protocol ≡ protocol → PutsAt live protocol bytes text x mid is_put → Lives x mid
put-lives true (Socket websocket_state) bytes text x mid is_put e h = λ alive.
    (sym (ap (λ (l : Lane). is_live l.stage) h.2) ∙ alive, ap (λ (l : Lane). is_busy l.protocol) h.2 ∙ sym (ap is_busy e))
put-lives true (Http http_state) bytes text x mid is_put e h = same-lives x mid h.1
put-lives true (Response response_state) bytes text x mid is_put e h = same-lives x mid h.1
put-lives false protocol bytes text x mid is_put e h = same-lives x mid h.1

pub sends-live : (now : ℕ) (bytes : List ℕ) (text : Bool) (x y : Lane) (mine : List Answer) → Sends now bytes text x y mine → Lives x y
sends-live now bytes text x y mine h = lives-on x h.0 y (put-lives (is_live x.stage) x.protocol bytes text x h.0 h.1 refl h.2) (go h.0 h.1 h.3) where
  go : (mid : Lane) (b : Bool) → SaysPut now b mid y mine → Lives mid y
  go mid true h = subst (λ (l : Lane). Lives mid l) (sym h.2) (gathered-live mid h.0 mine h.1)
  go mid false h = same-lives mid y h.1

pub shuts-live : (now : ℕ) (x y : Lane) (mine : List Answer) → Shuts now x y mine → Lives x y
shuts-live now x y mine h = go (is_live x.stage) h where
  go : (b : Bool) → Chooses b (WritesOut (record x { since = now; protocol = protocol_after_shut x.protocol; stage = Closing }) y mine) ((mine ≡ []) × (y ≡ x)) → Lives x y
  go true h = λ live. absurd (cc ((writes-live (record x { since = now; protocol = protocol_after_shut x.protocol; stage = Closing }) y mine h live).0))
  go false h = same-lives x y h.1

-- ---- sessions

moves-even : (call : Call) (x y : Lane) → Moves call x y → StaysEven x y (length (requests_by x.wire call)) (length (replies_by x.wire (owes x) call))
moves-even (session.heard what answers) x y h = heeds-even what.now what.event x y _ h
moves-even (session.replied at reply answers) x y h =
    by-number at (Replies h.0 reply) x y _ (λ b. StaysEven x y 0 (length (if b && owes x then reply ∷ [] else [])))
    (replies-even h.0 reply x y _) (λ e f. even-lives x y 0 0 (same-lives x y e) refl refl) h.1
moves-even (session.sent at bytes text full answers) x y h =
    by-number at (Sends h.0 bytes text) x y _ (λ b. StaysEven x y 0 0)
    (λ s. even-lives x y 0 0 (sends-live h.0 bytes text x y _ s) refl refl) (λ e f. even-lives x y 0 0 (same-lives x y e) refl refl) h.1
moves-even (session.shut at answers) x y h =
    by-number at (Shuts h.0) x y _ (λ b. StaysEven x y 0 0)
    (λ s. even-lives x y 0 0 (shuts-live h.0 x y _ s) refl refl) (λ e f. even-lives x y 0 0 (same-lives x y e) refl refl) h.1
moves-even (session.wrote at answers) x y h = even-lives x y 0 0 (bystander-live 0 x y _ h) refl refl

abbrev AreEven : List Call → Lane → Type 0
AreEven calls lane = IsOwed calls lane × IsEven (length (requests_on lane.wire calls)) (length (replies_on lane.wire calls)) lane

length-more : {A : Type 0} (xs ys : List A) → length (xs ++ ys) ≡ length xs + length ys
length-more [] ys = omega arith
length-more (x ∷ xs) ys = let again = length-more xs ys in omega (arith, again)

step-even : (call : Call) (calls : List Call) (x y : Lane) → AreEven calls x → Moves call x y → AreEven (call ∷ calls) y
step-even call calls x y k h = (step-owed call calls x y k.0 h, subst (λ n. IsEven (length (requests_on n (call ∷ calls))) (length (replies_on n (call ∷ calls))) y) (sym (moves-wire call x y h)) here) where
  here : IsEven (length (requests_on x.wire (call ∷ calls))) (length (replies_on x.wire (call ∷ calls))) y
  here = subst (λ n. IsEven n (length (replies_on x.wire (call ∷ calls))) y) (sym (ap (λ (l : List Request). length l) (requests-more x.wire call calls) ∙ length-more (requests_on x.wire calls) (requests_by x.wire call)))
      (subst (λ n. IsEven (length (requests_on x.wire calls) + length (requests_by x.wire call)) n y)
      (sym (ap (λ (l : List Reply). length l) (replies-more call calls x k.0) ∙ length-more (replies_on x.wire calls) (replies_by x.wire (owes x) call)))
      (moves-even call x y h (length (requests_on x.wire calls)) (length (replies_on x.wire calls)) k.1))

new-even : (calls : List Call) (now wire : ℕ) → IsUntouched wire calls → AreEven calls (new_lane now wire)
new-even calls now wire h = (
  new-owed calls now wire h,
  λ live.
      let none : length (requests_on wire calls) ≡ 0 = ap (λ (l : List Request). length l) h.requests in
      let unsaid : length (replies_on wire calls) ≡ 0 = ap (λ (l : List Reply). length l) h.replies in
      omega (arith, none, unsaid),
)

abbrev pub hears_no_request : Protocol → Bool
hears_no_request (Http http_state) = false
hears_no_request (Response response_state) = true
hears_no_request (Socket websocket_state) = true

-- a lane on which a request is heard is live, not busy, and no WebSocket
abbrev pub IsFree : Lane → Type 0
IsFree x = (is_live x.stage ≡ true) × (is_busy x.protocol ≡ false) × (hears_no_request x.protocol ≡ false)

hears-free : (wire : ℕ) (before after : Protocol) (answers : List Answer) (what : Input) (request : Request) → Hears wire before after answers what → requests_of what ≡ request ∷ [] →
    (is_busy before ≡ false) × (hears_no_request before ≡ false)
hears-free wire (Http before) (Http after) answers (input.Request trace) request h e = (h.is_input.1, refl)
hears-free wire (Socket before) (Socket after) answers (input.Request trace) request h e = absurd h.is_input
hears-free wire (Response before) (Response after) answers (input.Request trace) request h e = absurd h.is_input
hears-free wire (Http before) (Socket after) answers (input.Request trace) request h e = absurd h
hears-free wire (Socket before) (Http after) answers (input.Request trace) request h e = absurd h
hears-free wire (Response before) (Http after) answers (input.Request trace) request h e = absurd h
hears-free wire (Response before) (Socket after) answers (input.Request trace) request h e = absurd h
hears-free wire (Http before) (Response after) answers (input.Request trace) request h e = absurd h
hears-free wire (Socket before) (Response after) answers (input.Request trace) request h e = absurd h
hears-free wire before after answers _ request h e = absurd (cc e)

listens-free : (now : ℕ) (x y : Lane) (mine : List Answer) (own : Option Event) (request : Request) → Listens now x y mine own → requests_in x.wire own ≡ request ∷ [] → IsFree x
listens-free now x y mine own request h e = go x.stage refl h where
  never : requests_in x.wire own ≡ [] → IsFree x
  never f = absurd (cc (sym f ∙ e))

  go : (s : Stage) → x.stage ≡ s → TurnsAt s now x y mine own → IsFree x
  go Live f h = by-fullness (λ (l : Lane). IsFree x) now x y mine own (λ d g s. never (ap (λ o. requests_in x.wire o) g)) (λ s g. never (ap (λ o. requests_in x.wire o) g.1)) turned h where
    turned : (mid : Lane) → TurnsLive now x mid mine own → IsFree x
    turned mid t =
        let free = hears-free x.wire x.protocol t.protocol t.read t.input request t.hears
        (sym (loses-requests x.wire t.trace t.said mid own t.loses ∙ settles-requests now (after_hearing t.protocol x) t.settled t.shut t.input t.trace t.settles) ∙ e) in
        (ap is_live f, free.0, free.1)
  go Lost f h = never (ap (λ o. requests_in x.wire o) h.1)
  go Closing f h = never (ap (λ o. requests_in x.wire o) h.0)
  go Over f h = never (ap (λ o. requests_in x.wire o) h.1)

pub heeds-free : (now : ℕ) (what : Event) (x y : Lane) (mine : List Answer) (request : Request) → Heeds now what x y mine → request_on x.wire what ≡ request ∷ [] → IsFree x
heeds-free now what x y mine request (inl h) e = listens-free now x y mine h.0 request h.1 (sym (heard-requests x.wire h.0 what h.2) ∙ e)
heeds-free now what x y mine request (inr h) e = absurd (cc (sym (unrequested x.wire what h.1) ∙ e))

pub requests-wait : RequestsWaitForReplies
requests-wait what answers calls bound now h lane request e =
    let m = mover what answers calls bound now h lane (ap (λ v. is_on lane v) e ∙ same lane) in
    let x = m.0 in
    let even = each-before AreEven new-even step-even (session.heard what answers) calls bound now h x m.2 in
    let trace : request_on x.wire what.event ≡ request ∷ [] =
    ap (λ v. request_on x.wire v) e ∙ ap (λ n. if lane == n then request ∷ [] else []) m.4 ∙ ap (λ b. if b then request ∷ [] else []) (same lane) in
    let free = heeds-free what.now what.event x m.1 _ request m.5 trace in
    let count : busy_count x.protocol ≡ 0 = ap (λ b. if b then 1 else 0) free.1 in
    let here : length (requests_on x.wire calls) ≡ length (replies_on x.wire calls) + busy_count x.protocol = even.1 free.0 in
    let at_wire : length (replies_on x.wire calls) ≡ length (requests_on x.wire calls) = omega (arith, count, here) in
    subst (λ n. length (replies_on n calls) ≡ length (requests_on n calls)) m.4 at_wire
