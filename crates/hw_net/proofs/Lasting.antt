-- In a session a WebSocket's lane is live exactly as long as it went on by its calls, on a door as on a dialer.
use Rattle.std.proofs.Common.{if◌then◌else◌, ◌≡◌, ◌⊎◌, ◌==◌, ◌&&◌, ◌||◌, ◌++◌, ◌∷◌, [], ℕ, Bool, true, false, not, List, Option, None, Some, refl, sym, ap, ◌∙◌, subst, inl, inr}
use Rattle.hw_lanes.specs.declared.http.Reply.{Reply}
use Rattle.hh_http.specs.Texts.{reply_text}
use Rattle.hw_door.specs.declared.heard.Heard.{Heard}
use Rattle.hw_door.specs.Traffic.{Answer}
use Rattle.hw_net.specs.declared.limits.TheConstants.{SWITCHING}
use Rattle.hw_net.specs.declared.protocol.Protocol.{Protocol}
use Rattle.hw_net.specs.declared.protocol.Protocol.TheVariants.{Http, Response, Socket}
use Rattle.hw_net.specs.declared.protocol.Stage.{Stage}
use Rattle.hw_net.specs.declared.protocol.Stage.TheVariants.{Live, Lost, Closing, Over}
use Rattle.hw_net.specs.Bounds.{has_wire}
use Rattle.hw_net.specs.Door.{new_lane}
use Rattle.hw_net.specs.Lane.{Lane, is_live, is_busy, owes, after_reply, new_socket, protocol_after_reply, protocol_after_shut, rest_of}
use Rattle.hw_net.specs.Saying.{SaysMore, WritesOut}
use Rattle.hw_net.specs.Sessions as session
use Rattle.hw_net.specs.Sessions.{Call, answers_in, goes_on, is_end_on, is_owed_on, is_upgrade_on, was_shut_in}
use Rattle.hw_net.specs.Trace.{Chooses}
use Rattle.hw_net.specs.Turn.{Replies, Sends, Shuts}
use Rattle.hw_net.proofs.Awaiting.{heeds-stands, replies-were-live}
use Rattle.hw_net.proofs.Closings.{Closes, ends_by, is_done, live-has, moves-close}
use Rattle.hw_net.proofs.Counting.{hears_no_request, bystander-live, sends-live, writes-live}
use Rattle.hw_net.proofs.Ends.{dead}
use Rattle.hw_net.proofs.Speaking.{Turns, bystander-kind, heeds-turns, kind_of, more-kind, same-kind, sends-kind, shuts-kind}
use Rattle.hw_net.proofs.Owed.{IsOwed, by-number}
use Rattle.hw_net.proofs.Shares.{share, shut-share}
use Rattle.hw_net.proofs.Walks.{Moves, moves-wire}

clash : (b : Bool) → b ≡ true → b ≡ false → ⊥
clash b e f = let z : true ≡ false = sym e ∙ f in cc z

live-of : (s : Stage) → has_wire s ≡ true → is_done s ≡ false → is_live s ≡ true
live-of Live e f = refl
live-of Lost e f = absurd (cc e)
live-of Closing e f = absurd (cc f)
live-of Over e f = absurd (cc e)

live-undone : (s : Stage) → is_live s ≡ true → is_done s ≡ false
live-undone Live e = refl
live-undone Lost e = absurd (cc e)
live-undone Closing e = absurd (cc e)
live-undone Over e = absurd (cc e)

-- a lane is live after a call if it was before, the call didn't end it, and its wire wasn't shut
lasts : (wire : ℕ) (x y : Lane) (mine : List Answer) (ended : Bool) → Closes wire x.stage y.stage mine ended → (is_live y.stage ≡ true → (is_live x.stage ≡ true) × (ended ≡ false)) →
    is_live y.stage ≡ (not ended && (not (was_shut_in wire mine) && is_live x.stage))
lasts wire x y mine ended k f = go (is_live y.stage) refl where
  unshut : is_live y.stage ≡ true → was_shut_in wire mine ≡ false
  unshut e = by_end k.ends where
    by_end : ((was_shut_in wire mine ≡ true) × (has_wire y.stage ≡ false)) ⊎ ((was_shut_in wire mine ≡ false) × (has_wire y.stage ≡ has_wire x.stage)) → was_shut_in wire mine ≡ false
    by_end (inl h) = absurd (clash (has_wire y.stage) (live-has y.stage e) h.1)
    by_end (inr h) = h.0

  goes : ended ≡ false → was_shut_in wire mine ≡ false → is_live x.stage ≡ true → is_live y.stage ≡ true
  goes e u l = live-of y.stage (wired k.ends) (undone (is_done y.stage) refl) where
    wired : ((was_shut_in wire mine ≡ true) × (has_wire y.stage ≡ false)) ⊎ ((was_shut_in wire mine ≡ false) × (has_wire y.stage ≡ has_wire x.stage)) → has_wire y.stage ≡ true
    wired (inl h) = absurd (clash (was_shut_in wire mine) h.0 u)
    wired (inr h) = h.1 ∙ live-has x.stage l

    undone : (b : Bool) → is_done y.stage ≡ b → is_done y.stage ≡ false
    undone false d = d
    undone true d = by_done (k.done d) where
      by_done : (is_done x.stage ≡ true) ⊎ (ended ≡ true) → is_done y.stage ≡ false
      by_done (inl was) = absurd (clash (is_done x.stage) was (live-undone x.stage l))
      by_done (inr was) = absurd (clash ended was e)

  stopped : is_live y.stage ≡ false → (a b c : Bool) → ended ≡ a → was_shut_in wire mine ≡ b → is_live x.stage ≡ c → (not a && (not b && c)) ≡ false
  stopped d true b c e g h = refl
  stopped d false true c e g h = refl
  stopped d false false false e g h = refl
  stopped d false false true e g h = absurd (clash (is_live y.stage) (goes e g h) d)

  go : (live : Bool) → is_live y.stage ≡ live → is_live y.stage ≡ (not ended && (not (was_shut_in wire mine) && is_live x.stage))
  go true e =
      let was = f e in
      e ∙ sym (ap (λ b. not b && (not (was_shut_in wire mine) && is_live x.stage)) was.1 ∙ ap (λ b. not b && is_live x.stage) (unshut e) ∙ was.0)
  go false e = e ∙ sym (stopped e ended (was_shut_in wire mine) (is_live x.stage) refl refl refl)

shuts-stop : (now : ℕ) (x y : Lane) (mine : List Answer) → Shuts now x y mine → is_live y.stage ≡ true → ⊥
shuts-stop now x y mine h live = go (is_live x.stage) refl h where
  go : (b : Bool) → is_live x.stage ≡ b → Chooses b (WritesOut (record x { since = now; protocol = protocol_after_shut x.protocol; stage = Closing }) y mine) ((mine ≡ []) × (y ≡ x)) → ⊥
  go true e h = let was = writes-live (record x { since = now; protocol = protocol_after_shut x.protocol; stage = Closing }) y mine h live in cc was.0
  go false e h = clash (is_live x.stage) (sym (ap (λ (l : Lane). is_live l.stage) h.1) ∙ live) e

-- what is live after a call was so before, and the call didn't end it
pub moves-live : (call : Call) (x y : Lane) → Moves call x y → is_live y.stage ≡ true → (is_live x.stage ≡ true) × (ends_by x.wire call ≡ false)
moves-live (session.heard what answers) x y h live = let was = heeds-stands what.now what.event x y (share x.wire answers) h live in (was.0, was.2)
moves-live (session.replied at reply answers) x y h live = (
  by-number at (Replies h.0 reply) x y _ (λ b. is_live x.stage ≡ true) (λ r. replies-were-live h.0 reply x y _ r live) (λ s m. sym (ap (λ (l : Lane). is_live l.stage) s) ∙ live) h.1,
  refl,
)
moves-live (session.sent at bytes text full answers) x y h live = (
  by-number at (Sends h.0 bytes text) x y _ (λ b. is_live x.stage ≡ true) (λ s. (sends-live h.0 bytes text x y _ s live).0) (λ s m. sym (ap (λ (l : Lane). is_live l.stage) s) ∙ live) h.1,
  refl,
)
moves-live (session.shut at answers) x y h live =
    by-number at (Shuts h.0) x y _ (λ b. (is_live x.stage ≡ true) × (b ≡ false)) (λ s. absurd (shuts-stop h.0 x y _ s live)) (λ s m. (sym (ap (λ (l : Lane). is_live l.stage) s) ∙ live, refl)) h.1
moves-live (session.wrote at answers) x y h live = ((bystander-live 0 x y _ h live).0, refl)

-- by the answers of a call
lasts-by : (call : Call) (x y : Lane) → Moves call x y → is_live y.stage ≡ (not (ends_by x.wire call) && (not (was_shut_in x.wire (answers_in call)) && is_live x.stage))
lasts-by call x y h =
    lasts x.wire x y (share x.wire (answers_in call)) (ends_by x.wire call) (moves-close call x y h) (moves-live call x y h)
    ∙ ap (λ b. not (ends_by x.wire call) && (not b && is_live x.stage)) (sym (shut-share x.wire (answers_in call)))

-- ---- sessions

-- A lane of requests is a door's. One that awaits its response is a dialer's, and doesn't go on yet. A WebSocket goes on as long as it is live.
abbrev pub Lasts : Bool → Bool → Bool → Option Bool → Type 0
Lasts dialed live goes None = dialed ≡ false
Lasts dialed live goes (Some false) = (dialed ≡ true) × (goes ≡ false)
Lasts dialed live goes (Some true) = live ≡ goes

abbrev pub IsLasting : Bool → List Call → Lane → Type 0
IsLasting dialed calls lane = Lasts dialed (is_live lane.stage) (goes_on lane.wire calls) (kind_of lane.protocol)

lasts-on : (dialed live goes after later : Bool) (kind : Option Bool) → (goes ≡ false → later ≡ false) → (live ≡ goes → after ≡ later) → Lasts dialed live goes kind → Lasts dialed after later kind
lasts-on dialed live goes after later None f g k = k
lasts-on dialed live goes after later (Some false) f g k = (k.0, f k.1)
lasts-on dialed live goes after later (Some true) f g k = g k

lasts-as : (dialed live goes : Bool) (kind to : Option Bool) → to ≡ kind → Lasts dialed live goes kind → Lasts dialed live goes to
lasts-as dialed live goes kind to e k = subst (λ (o : Option Bool). Lasts dialed live goes o) (sym e) k

and-false : (a : Bool) → (a && false) ≡ false
and-false true = refl
and-false false = refl

-- a reply makes of a lane that owes one another lane of requests, or a WebSocket
replied-kind : (now : ℕ) (reply : Reply) (x : Lane) → owes x ≡ true → (kind_of x.protocol ≡ None) × (kind_of (after_reply now reply x).protocol ≡ (if reply.status == SWITCHING then Some true else None))
replied-kind now reply x owed = go x.protocol refl owed where
  by : (protocol : Protocol) → x.protocol ≡ protocol → kind_of (protocol_after_reply protocol) ≡ None → (b : Bool) →
      kind_of (if b then record x { protocol = new_socket (rest_of x.protocol); out = x.out ++ reply_text reply }
      else record x { protocol = protocol_after_reply x.protocol; out = x.out ++ reply_text reply; since = now }).protocol ≡ (if b then Some true else None)
  by protocol e k true = refl
  by protocol e k false = ap (λ (t : Protocol). kind_of (protocol_after_reply t)) e ∙ k

  go : (protocol : Protocol) → x.protocol ≡ protocol → (is_live x.stage && is_busy protocol) ≡ true →
      (kind_of x.protocol ≡ None) × (kind_of (after_reply now reply x).protocol ≡ (if reply.status == SWITCHING then Some true else None))
  go (Http http_state) e owed = (ap kind_of e, by (Http http_state) e refl (reply.status == SWITCHING))
  go (Response response_state) e owed = absurd (cc (sym (dead x.stage) ∙ owed))
  go (Socket websocket_state) e owed = absurd (cc (sym (dead x.stage) ∙ owed))

heard-lasts : (dialed : Bool) (what : Heard) (answers : List Answer) (calls : List Call) (x y : Lane) → IsLasting dialed calls x → Moves (session.heard what answers) x y →
    Lasts dialed (is_live y.stage) (goes_on x.wire (session.heard what answers ∷ calls)) (kind_of y.protocol)
heard-lasts dialed what answers calls x y k h = go (heeds-turns what.now what.event x y (share x.wire answers) h) where
  up : Bool
  up = is_upgrade_on x.wire what.event

  later : Bool → Bool
  later b = not (is_end_on x.wire what.event) && (not (was_shut_in x.wire answers) && b)

  none : later false ≡ false
  none = ap (λ b. not (is_end_on x.wire what.event) && b) (and-false (not (was_shut_in x.wire answers))) ∙ and-false (not (is_end_on x.wire what.event))

  live : is_live y.stage ≡ later (is_live x.stage)
  live = lasts-by (session.heard what answers) x y h

  go : Turns up (is_live x.stage) (kind_of x.protocol) (kind_of y.protocol) → Lasts dialed (is_live y.stage) (later (up || goes_on x.wire calls)) (kind_of y.protocol)
  go (inl t) =
      let same : later (up || goes_on x.wire calls) ≡ later (goes_on x.wire calls) = ap (λ b. later (b || goes_on x.wire calls)) t.1 in
      lasts-as dialed (is_live y.stage) (later (up || goes_on x.wire calls)) (kind_of x.protocol) (kind_of y.protocol) t.0
      (lasts-on dialed (is_live x.stage) (goes_on x.wire calls) (is_live y.stage) (later (up || goes_on x.wire calls)) (kind_of x.protocol)
      (λ e. same ∙ ap later e ∙ none) (λ e. live ∙ ap later e ∙ sym same) k)
  go (inr t) =
      lasts-as dialed (is_live y.stage) (later (up || goes_on x.wire calls)) (Some true) (kind_of y.protocol) t.1
      (live ∙ ap later t.3 ∙ sym (ap (λ b. later (b || goes_on x.wire calls)) t.2))

-- a call that keeps what the lane speaks, and in which only its wire may be shut, or it is ended so
kept-lasts : (dialed : Bool) (call : Call) (calls : List Call) (x y : Lane) → goes_on x.wire (call ∷ calls) ≡ (not (ends_by x.wire call) && (not (was_shut_in x.wire (answers_in call)) && goes_on x.wire calls)) →
    kind_of y.protocol ≡ kind_of x.protocol → IsLasting dialed calls x → Moves call x y →
    Lasts dialed (is_live y.stage) (goes_on x.wire (call ∷ calls)) (kind_of y.protocol)
kept-lasts dialed call calls x y goes kind k h =
    lasts-as dialed (is_live y.stage) (goes_on x.wire (call ∷ calls)) (kind_of x.protocol) (kind_of y.protocol) kind
    (lasts-on dialed (is_live x.stage) (goes_on x.wire calls) (is_live y.stage) (goes_on x.wire (call ∷ calls)) (kind_of x.protocol)
    (λ e. goes ∙ ap later e ∙ none) (λ e. lasts-by call x y h ∙ ap later e ∙ sym goes) k) where
      later : Bool → Bool
      later b = not (ends_by x.wire call) && (not (was_shut_in x.wire (answers_in call)) && b)

      none : later false ≡ false
      none = ap (λ b. not (ends_by x.wire call) && b) (and-false (not (was_shut_in x.wire (answers_in call)))) ∙ and-false (not (ends_by x.wire call))

replied-lasts : (dialed : Bool) (at : ℕ) (reply : Reply) (answers : List Answer) (calls : List Call) (x y : Lane) → IsOwed calls x → IsLasting dialed calls x → Moves (session.replied at reply answers) x y →
    Lasts dialed (is_live y.stage) (goes_on x.wire (session.replied at reply answers ∷ calls)) (kind_of y.protocol)
replied-lasts dialed at reply answers calls x y owed k h =
    by-number at (Replies h.0 reply) x y (share x.wire answers) (λ b. Lasts dialed (is_live y.stage) (later ((b && is_owed_on x.wire calls) || goes_on x.wire calls)) (kind_of y.protocol))
    (λ r. said (owes x) refl r) (λ s m. kept s false refl) h.1 where
      mine : List Answer
      mine = share x.wire answers

      later : Bool → Bool
      later b = not (was_shut_in x.wire answers) && b

      live : is_live y.stage ≡ later (is_live x.stage)
      live = lasts-by (session.replied at reply answers) x y h

      kept : y ≡ x → (b : Bool) → b ≡ false → Lasts dialed (is_live y.stage) (later (b || goes_on x.wire calls)) (kind_of y.protocol)
      kept s b e =
          let same : later (b || goes_on x.wire calls) ≡ later (goes_on x.wire calls) = ap (λ c. later (c || goes_on x.wire calls)) e in
          lasts-as dialed (is_live y.stage) (later (b || goes_on x.wire calls)) (kind_of x.protocol) (kind_of y.protocol) (same-kind x y s)
          (lasts-on dialed (is_live x.stage) (goes_on x.wire calls) (is_live y.stage) (later (b || goes_on x.wire calls)) (kind_of x.protocol)
          (λ f. same ∙ ap later f ∙ and-false (not (was_shut_in x.wire answers))) (λ f. live ∙ ap later f ∙ sym same) k)

      both : (a b : Bool) → (a && b) ≡ true → a ≡ true
      both true b e = refl
      both false b e = absurd (cc e)

      -- what it becomes
      became : owes x ≡ true → (b : Bool) → kind_of y.protocol ≡ (if b then Some true else None) → kind_of x.protocol ≡ None → Lasts dialed (is_live y.stage) (later (is_owed_on x.wire calls || goes_on x.wire calls)) (kind_of y.protocol)
      became e true kind was = lasts-as dialed (is_live y.stage) (later (is_owed_on x.wire calls || goes_on x.wire calls)) (Some true) (kind_of y.protocol) kind
          (live ∙ ap later (both (is_live x.stage) (is_busy x.protocol) e ∙ ap (λ b. b || goes_on x.wire calls) (sym (sym owed ∙ e))))
      became e false kind was = lasts-as dialed (is_live y.stage) (later (is_owed_on x.wire calls || goes_on x.wire calls)) None (kind_of y.protocol) kind
          (subst (λ (o : Option Bool). Lasts dialed (is_live x.stage) (goes_on x.wire calls) o) was k)

      said : (b : Bool) → owes x ≡ b → Chooses b (SaysMore (after_reply h.0 reply x) y mine) ((mine ≡ []) × (y ≡ x)) →
          Lasts dialed (is_live y.stage) (later (is_owed_on x.wire calls || goes_on x.wire calls)) (kind_of y.protocol)
      said true e r = let z = replied-kind h.0 reply x e in became e (reply.status == SWITCHING) (more-kind (after_reply h.0 reply x) y mine r ∙ z.1) z.0
      said false e r = kept r.1 (is_owed_on x.wire calls) (sym owed ∙ e)

lasting-here : (dialed : Bool) (call : Call) (calls : List Call) (x y : Lane) → IsOwed calls x → IsLasting dialed calls x → Moves call x y → Lasts dialed (is_live y.stage) (goes_on x.wire (call ∷ calls)) (kind_of y.protocol)
lasting-here dialed (session.heard what answers) calls x y owed k h = heard-lasts dialed what answers calls x y k h
lasting-here dialed (session.replied at reply answers) calls x y owed k h = replied-lasts dialed at reply answers calls x y owed k h
lasting-here dialed (session.sent at bytes text full answers) calls x y owed k h =
    kept-lasts dialed (session.sent at bytes text full answers) calls x y refl
    (by-number at (Sends h.0 bytes text) x y _ (λ b. kind_of y.protocol ≡ kind_of x.protocol) (λ s. sends-kind h.0 bytes text x y _ s) (λ s m. same-kind x y s) h.1) k h
lasting-here dialed (session.shut at answers) calls x y owed k h =
    kept-lasts dialed (session.shut at answers) calls x y refl
    (by-number at (Shuts h.0) x y _ (λ b. kind_of y.protocol ≡ kind_of x.protocol) (λ s. shuts-kind h.0 x y _ s) (λ s m. same-kind x y s) h.1) k h
lasting-here dialed (session.wrote at answers) calls x y owed k h = kept-lasts dialed (session.wrote at answers) calls x y refl (bystander-kind 0 x y _ h) k h

pub step-lasting : (dialed : Bool) (call : Call) (calls : List Call) (x y : Lane) → IsOwed calls x → IsLasting dialed calls x → Moves call x y → IsLasting dialed (call ∷ calls) y
step-lasting dialed call calls x y owed k h =
    subst (λ n. Lasts dialed (is_live y.stage) (goes_on n (call ∷ calls)) (kind_of y.protocol)) (sym (moves-wire call x y h)) (lasting-here dialed call calls x y owed k h)

pub new-lasting : (calls : List Call) (now wire : ℕ) → IsLasting false calls (new_lane now wire)
new-lasting calls now wire = refl

-- so it is of a door's lane that hears no request
pub lasts-there : (live goes : Bool) (protocol : Protocol) → Lasts false live goes (kind_of protocol) → hears_no_request protocol ≡ true → live ≡ goes
lasts-there live goes (Http http_state) k e = absurd (cc e)
lasts-there live goes (Response response_state) k e = absurd (cc k.0)
lasts-there live goes (Socket websocket_state) k e = k
