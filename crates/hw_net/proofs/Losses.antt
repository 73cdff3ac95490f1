-- In a session a lane is heard as lost for a cause.
use Rattle.std.proofs.Common.{◌≡◌, ◌⊎◌, ◌==◌, ◌||◌, ◌++◌, ◌∷◌, [], ℕ, Bool, true, false, not, List, Option, None, Some, refl, sym, ap, ◌∙◌, subst, inl, inr, length, Contains}
use Rattle.hw_lanes.specs.declared.http.Reply.{Reply}
use Rattle.hw_door.specs.declared.heard.Event.{Event}
use Rattle.hw_door.specs.declared.heard.Event.TheVariants as event
use Rattle.hw_door.specs.declared.heard.Heard.{Heard}
use Rattle.hw_door.specs.Traffic.{Answer, ended, read_failed, bytes_out, write_failed, was_shut, read_on}
use Rattle.hw_socket.specs.Lane as socket
use Rattle.hw_socket.specs.Reading.{Feeds}
use Rattle.hw_net.specs.declared.input.Input.{Input}
use Rattle.hw_net.specs.declared.input.Input.TheVariants as input
use Rattle.hw_net.specs.declared.protocol.Protocol.{Protocol}
use Rattle.hw_net.specs.declared.protocol.Protocol.TheVariants.{Http, Response, Socket}
use Rattle.hw_net.specs.declared.protocol.Stage.{Stage}
use Rattle.hw_net.specs.declared.protocol.Stage.TheVariants.{Live, Lost, Closing, Over}
use Rattle.hw_net.specs.Bounds.{has_wire}
use Rattle.hw_net.specs.Door.{new_lane}
use Rattle.hw_net.specs.Lane.{Lane, waits, is_live, owes, is_overdue, is_stalled, after_end, after_reply, protocol_after_continue, protocol_after_shut, after_hearing}
use Rattle.hw_net.specs.Saying.{Writes, WritesOut, DropsOrWrites, Says, SaysAt, SaysMore, GathersOrSays, must_end, has_closed_long, is_too_much}
use Rattle.hw_net.specs.Sessions as session
use Rattle.hw_net.specs.Sessions.{Call, Session, Does, answers_in, answers_of, ended_in, failed_in, IsGone, IsSpoiled, IsHeardOut, IsLostRightly, LossesHaveCauses}
use Rattle.hw_net.specs.ResponseState.{Fails, IsAnswered, IsBeginning}
use Rattle.hw_net.specs.Trace.{Reads, Gives, Chooses}
use Rattle.hw_net.specs.WebSocketState.{HasHeardAll}
use Rattle.hw_net.specs.Turn.{Hears, Falls, Passes, Settles, Loses, LosesAt, TurnsLive, TurnsAt, Listens, Replies, Puts, PutsAt, Sends, Shuts}
use Rattle.hw_net.proofs.Asked.{Silent, gives-bytes, live-reads, settles-silent, says-silent}
use Rattle.hw_net.proofs.Bystanders.{SaysOrStays, Stays, gathered-says}
use Rattle.hw_net.proofs.Closings.{or-true, replied-stage, put-stage, live-has, owes-live}
use Rattle.hw_net.proofs.Fullness.{by-fullness, SaysPut}
use Rattle.hw_net.proofs.Moves.{Has, contains-of}
use Rattle.hw_net.proofs.Numbering.{replied-wire, put-wire}
use Rattle.hw_net.proofs.Owed.{by-number}
use Rattle.hw_net.proofs.Owning.{is_on, settles-keeps}
use Rattle.hw_net.proofs.Shares.{share, ended-append, ended-share, failed-append, failed-share, read-share, same}
use Rattle.hw_net.proofs.Walks.{IsHeard, Heeds, Moves, moves-wire, IsNew, IsUntouched, steps-in, each-before, mover, off-and-on}

-- a write on the wire failed, or too much waits
abbrev Cause : ℕ → List Answer → Lane → Type 0
Cause wire answers lane = (failed_in wire answers ≡ true) ⊎ (is_too_much (length (waits lane)) ≡ true)

-- a lane that becomes lost does so for a cause
abbrev Breaks : Lane → Lane → List Answer → Type 0
Breaks x y mine = y.stage ≡ Lost → Cause x.wire mine y ⊎ (y ≡ x)

-- ---- stages

abbrev is_lost : Stage → Bool
is_lost Live = false
is_lost Lost = true
is_lost Closing = false
is_lost Over = false

pub unlost : {A : Type 0} (s t : Stage) → s ≡ t → is_lost t ≡ false → s ≡ Lost → A
unlost s t e f g = absurd (cc (sym f ∙ sym (ap is_lost e) ∙ ap is_lost g))

has-unlost : (s : Stage) → has_wire s ≡ true → is_lost s ≡ false
has-unlost Live e = refl
has-unlost Lost e = absurd (cc e)
has-unlost Closing e = refl
has-unlost Over e = refl

-- ---- writing

named-here : (at wire : ℕ) → at ≡ wire → ((at == wire) || false) ≡ true
named-here at wire e = ap (λ n. (n == wire) || false) e ∙ ap (λ b. b || false) (same wire)

writes-failed : (wire : ℕ) (waits : List ℕ) (sent : List Answer) (left : List ℕ) → Writes wire waits sent left false → failed_in wire sent ≡ true
writes-failed wire waits [] left h = absurd (cc h.2)
writes-failed wire waits (bytes_out at [] ∷ []) left h = absurd (cc h.3)
writes-failed wire waits (bytes_out at (b ∷ bs) ∷ answers) left h = writes-failed wire h.1.0 answers left h.1.2
writes-failed wire waits (write_failed at ∷ []) left h = named-here at wire h.0
writes-failed wire waits _ left h = absurd h

writes-break : (x y : Lane) (mine : List Answer) → has_wire x.stage ≡ true → WritesOut x y mine → y.stage ≡ Lost → Cause x.wire mine y
writes-break x y mine has w lost = go (must_end x.stage (length (waits y)) w.is_whole) refl where
  whole : (b : Bool) → w.is_whole ≡ b → (not b || is_too_much (length (waits y))) ≡ true → failed_in x.wire mine ≡ failed_in x.wire (w.sent ++ was_shut x.wire ∷ []) → Cause x.wire mine y
  whole true e m f = inr m
  whole false e m f = inl (f ∙ failed-append x.wire w.sent (was_shut x.wire ∷ [])
      ∙ ap (λ b. b || false) (writes-failed x.wire (waits x) w.sent (waits y) (subst (λ b. Writes x.wire (waits x) w.sent (waits y) b) e w.writes)))

  by : (s : Stage) → y.stage ≡ after_end s → must_end s (length (waits y)) w.is_whole ≡ true → failed_in x.wire mine ≡ failed_in x.wire (w.sent ++ was_shut x.wire ∷ []) → Cause x.wire mine y
  by Live e m f = whole w.is_whole refl m f
  by Lost e m f = absurd (cc m)
  by Closing e m f = unlost y.stage Over e refl lost
  by Over e m f = absurd (cc m)

  go : (b : Bool) → must_end x.stage (length (waits y)) w.is_whole ≡ b → Cause x.wire mine y
  go true e = by x.stage (w.ends e).1 e (ap (λ l. failed_in x.wire l) (w.ends e).0)
  go false e = unlost y.stage x.stage (w.stays e).1 (has-unlost x.stage has) lost

-- a lane that closes is over after its wire was shut
closing-break : (is_dropped : Bool) (x y : Lane) (mine : List Answer) → x.stage ≡ Closing → DropsOrWrites is_dropped x y mine → y.stage ≡ Lost → Cause x.wire mine y
closing-break true x y mine e h lost = unlost y.stage Over (ap (λ (l : Lane). l.stage) h.1 ∙ ap after_end e) refl lost
closing-break false x y mine e h lost = writes-break x y mine (ap has_wire e) h lost

says-break : (now : ℕ) (x y : Lane) (mine : List Answer) → Says now x y mine → Breaks x y mine
says-break now x y mine h = go x.stage refl h where
  go : (s : Stage) → x.stage ≡ s → SaysAt s now x y mine → Breaks x y mine
  go Live e h = λ lost. inl (writes-break x y mine (ap has_wire e) h lost)
  go Lost e h = λ lost. inr h.1
  go Closing e h = λ lost. inl (closing-break (has_closed_long now x.since) x y mine e h lost)
  go Over e h = λ lost. inr h.1

more-break : (x y : Lane) (mine : List Answer) → has_wire x.stage ≡ true → SaysMore x y mine → y.stage ≡ Lost → Cause x.wire mine y
more-break x y mine has h = go (is_too_much (length (waits x))) refl h where
  go : (b : Bool) → is_too_much (length (waits x)) ≡ b → Chooses b ((mine ≡ was_shut x.wire ∷ []) × (y ≡ record x { stage = after_end x.stage })) (WritesOut x y mine) → y.stage ≡ Lost → Cause x.wire mine y
  go true e h lost = inr (ap (λ (l : Lane). is_too_much (length (waits l))) h.1 ∙ e)
  go false e h lost = writes-break x y mine has h lost

bystander-break : (now : ℕ) (x y : Lane) (mine : List Answer) → SaysOrStays now x y mine → Breaks x y mine
bystander-break now x y mine (inl h) = says-break now x y mine h
bystander-break now x y mine (inr h) = λ lost. inr h.0

gathered-break : (x y : Lane) (mine : List Answer) → has_wire x.stage ≡ true → GathersOrSays x y mine → y.stage ≡ Lost → Cause x.wire mine y
gathered-break x y mine has h lost = go (gathered-says x y mine h) where
  go : SaysMore x y mine ⊎ Stays x y mine → Cause x.wire mine y
  go (inl k) = more-break x y mine has k lost
  go (inr k) = unlost y.stage x.stage (ap (λ (l : Lane). l.stage) k.0) (has-unlost x.stage has) lost

-- ---- turns

-- a lane that settled has its wire, or it is over
settled-unlost : (now : ℕ) (x after : Lane) (shut : List Answer) (what : Input) (trace : Option Event) → x.stage ≡ Live → Settles now x after shut what trace → is_lost after.stage ≡ false
settled-unlost now x after shut what trace live s = go what s where
  same-stage : (mid : Lane) → after ≡ mid → is_lost mid.stage ≡ false → is_lost after.stage ≡ false
  same-stage mid e f = ap (λ (l : Lane). is_lost l.stage) e ∙ f

  nothing : (b : Bool) → Chooses b (Falls x after shut trace) (Passes x after shut None trace) → is_lost after.stage ≡ false
  nothing true f = same-stage _ f.2 refl
  nothing false f = same-stage x f.2 (ap is_lost live)

  go : (what : Input) → Settles now x after shut what trace → is_lost after.stage ≡ false
  go input.Nothing s = nothing (is_overdue now x) s
  go (input.Request request) s = same-stage x s.2 (ap is_lost live)
  go (input.Refused refusal) s = same-stage _ s.2 refl
  go (input.Response status body) s = same-stage x s.2 (ap is_lost live)
  go input.Upgraded s = same-stage _ s.2 (ap is_lost live)
  go (input.Message bytes) s = same-stage x s.2 (ap is_lost live)
  go input.Broken s = same-stage _ s.2 refl
  go input.Gone s = same-stage _ s.2 refl

live-ended : (wire : ℕ) (answers read shut written : List Answer) → answers ≡ read ++ (shut ++ written) → (ended_in wire read || (ended_in wire shut || ended_in wire written)) ≡ ended_in wire answers
live-ended wire answers read shut written all =
    sym (ap (λ l. ended_in wire l) all ∙ ended-append wire read (shut ++ written) ∙ ap (λ b. ended_in wire read || b) (ended-append wire shut written))

live-failed : (wire : ℕ) (answers read shut written : List Answer) → answers ≡ read ++ (shut ++ written) → (failed_in wire read || (failed_in wire shut || failed_in wire written)) ≡ failed_in wire answers
live-failed wire answers read shut written all =
    sym (ap (λ l. failed_in wire l) all ∙ failed-append wire read (shut ++ written) ∙ ap (λ b. failed_in wire read || b) (failed-append wire shut written))

or-last : (a b c d : Bool) → (a || (b || c)) ≡ d → c ≡ true → d ≡ true
or-last a b c d e f = sym e ∙ ap (λ k. a || (b || k)) f ∙ ap (λ k. a || k) (or-true b) ∙ or-true a

or-first : (a b c d : Bool) → (a || (b || c)) ≡ d → a ≡ true → d ≡ true
or-first a b c d e f = sym e ∙ ap (λ k. k || (b || c)) f

-- a lane that writes at the end of its turn and is lost then
said-cause : (now : ℕ) (x y : Lane) (mine : List Answer) (own : Option Event) → x.stage ≡ Live → (h : TurnsLive now x y mine own) → h.said.stage ≡ Lost → Cause x.wire mine h.said
said-cause now x y mine own live h lost = go (says-break now h.settled h.said h.written h.says lost) where
  kept : h.settled.wire ≡ x.wire
  kept = (settles-keeps now (after_hearing h.protocol x) h.settled h.shut h.input h.trace h.settles).0.0

  go : Cause h.settled.wire h.written h.said ⊎ (h.said ≡ h.settled) → Cause x.wire mine h.said
  go (inl (inl e)) = inl (or-last (failed_in x.wire h.read) (failed_in x.wire h.shut) (failed_in x.wire h.written) (failed_in x.wire mine)
      (live-failed x.wire mine h.read h.shut h.written h.all) (subst (λ n. failed_in n h.written ≡ true) kept e))
  go (inl (inr e)) = inr e
  go (inr e) = unlost h.said.stage h.settled.stage (ap (λ (l : Lane). l.stage) e) (settled-unlost now (after_hearing h.protocol x) h.settled h.shut h.input h.trace live h.settles) lost

live-breaks : (now : ℕ) (x y : Lane) (mine : List Answer) (own : Option Event) → x.stage ≡ Live → TurnsLive now x y mine own → y.stage ≡ Lost → Cause x.wire mine y
live-breaks now x y mine own live h lost = go h.trace h.loses where
  by : y ≡ h.said → Cause x.wire mine y
  by e = subst (λ (l : Lane). Cause x.wire mine l) (sym e) (said-cause now x y mine own live h (sym (ap (λ (l : Lane). l.stage) e) ∙ lost))

  at : (s : Stage) → LosesAt s h.said y own → Cause x.wire mine y
  at Live k = by k.1
  at Lost k = unlost y.stage Over (ap (λ (l : Lane). l.stage) k.1) refl lost
  at Closing k = by k.1
  at Over k = by k.1

  go : (trace : Option Event) → Loses trace h.said y own → Cause x.wire mine y
  go (Some here) k = by k.1
  go None k = at h.said.stage k

listens-break : (now : ℕ) (x y : Lane) (mine : List Answer) (own : Option Event) → Listens now x y mine own → Breaks x y mine
listens-break now x y mine own h = go x.stage refl h where
  go : (s : Stage) → x.stage ≡ s → TurnsAt s now x y mine own → Breaks x y mine
  go Live e h = λ lost. inl (by-fullness (λ (l : Lane). l.stage ≡ Lost → Cause x.wire mine l) now x y mine own
      (λ d f s was. writes-break (record x { full = None }) y mine (ap has_wire e) (subst (λ (t : Stage). SaysAt t now (record x { full = None }) y mine) e s) was)
      (λ s f was. unlost y.stage Over (ap (λ (l : Lane). l.stage) f.2) refl was)
      (λ mid t was. live-breaks now x mid mine own e t was)
      h lost)
  go Lost e h = λ lost. unlost y.stage Over (ap (λ (l : Lane). l.stage) h.2) refl lost
  go Closing e h = says-break now x y mine h.1
  go Over e h = λ lost. inr h.2

heeds-break : (now : ℕ) (what : Event) (x y : Lane) (mine : List Answer) → Heeds now what x y mine → Breaks x y mine
heeds-break now what x y mine (inl h) = listens-break now x y mine h.0 h.1
heeds-break now what x y mine (inr h) = bystander-break now x y mine h.0

-- ---- saying

replies-break : (now : ℕ) (reply : Reply) (x y : Lane) (mine : List Answer) → Replies now reply x y mine → Breaks x y mine
replies-break now reply x y mine h = go (owes x) refl h where
  go : (b : Bool) → owes x ≡ b → Chooses b (SaysMore (after_reply now reply x) y mine) ((mine ≡ []) × (y ≡ x)) → Breaks x y mine
  go true e h = λ lost. inl (subst (λ n. Cause n mine y) (replied-wire now reply x)
      (more-break (after_reply now reply x) y mine (ap has_wire (replied-stage now reply x) ∙ live-has x.stage (owes-live x e)) h lost))
  go false e h = λ lost. inr h.1

-- a message that isn't put leaves the stage, and what waits
sends-break : (now : ℕ) (bytes : List ℕ) (text : Bool) (x y : Lane) (mine : List Answer) → Sends now bytes text x y mine → Breaks x y mine
sends-break now bytes text x y mine h = go h.0 h.1 h.2 h.3 where
  unput : (live : Bool) (protocol : Protocol) (mid : Lane) → is_live x.stage ≡ live → PutsAt live protocol bytes text x mid false → y ≡ mid → Breaks x y mine
  unput true (Socket websocket_state) mid e p f = λ lost. unlost y.stage x.stage (ap (λ (l : Lane). l.stage) (f ∙ p.2)) (has-unlost x.stage (live-has x.stage e)) lost
  unput true (Http http_state) mid e p f = λ lost. inr (f ∙ p.1)
  unput true (Response response_state) mid e p f = λ lost. inr (f ∙ p.1)
  unput false protocol mid e p f = λ lost. inr (f ∙ p.1)

  go : (mid : Lane) (b : Bool) → Puts bytes text x mid b → SaysPut now b mid y mine → Breaks x y mine
  go mid true p s = λ lost.
      let put = put-stage (is_live x.stage) x.protocol bytes text x mid true p in
      inl (subst (λ (l : Lane). Cause x.wire mine l) (sym s.2) (subst (λ n. Cause n mine s.0) (put-wire (is_live x.stage) x.protocol bytes text x mid true p)
      (gathered-break mid s.0 mine (ap has_wire put.0 ∙ live-has x.stage (put.1 refl)) s.1 (sym (ap (λ (l : Lane). l.stage) s.2) ∙ lost))))
  go mid false p s = unput (is_live x.stage) x.protocol mid refl p s.1

shuts-break : (now : ℕ) (x y : Lane) (mine : List Answer) → Shuts now x y mine → Breaks x y mine
shuts-break now x y mine h = go (is_live x.stage) h where
  go : (b : Bool) → Chooses b (WritesOut (record x { since = now; protocol = protocol_after_shut x.protocol; stage = Closing }) y mine) ((mine ≡ []) × (y ≡ x)) → Breaks x y mine
  go true h = λ lost. inl (writes-break (record x { since = now; protocol = protocol_after_shut x.protocol; stage = Closing }) y mine refl h lost)
  go false h = λ lost. inr h.1

-- ---- sessions

moves-break : (call : Call) (x y : Lane) → Moves call x y → Breaks x y (share x.wire (answers_in call))
moves-break (session.heard what answers) x y h = heeds-break what.now what.event x y (share x.wire answers) h
moves-break (session.replied at reply answers) x y h =
    by-number at (Replies h.0 reply) x y (share x.wire answers) (λ b. Breaks x y (share x.wire answers)) (replies-break h.0 reply x y (share x.wire answers)) (λ e f lost. inr e) h.1
moves-break (session.sent at bytes text full answers) x y h =
    by-number at (Sends h.0 bytes text) x y (share x.wire answers) (λ b. Breaks x y (share x.wire answers)) (sends-break h.0 bytes text x y (share x.wire answers)) (λ e f lost. inr e) h.1
moves-break (session.shut at answers) x y h =
    by-number at (Shuts h.0) x y (share x.wire answers) (λ b. Breaks x y (share x.wire answers)) (shuts-break h.0 x y (share x.wire answers)) (λ e f lost. inr e) h.1
moves-break (session.wrote at answers) x y h = bystander-break 0 x y (share x.wire answers) h

failed-more : (wire : ℕ) (calls : List Call) (call : Call) → failed_in wire (answers_of (call ∷ calls)) ≡ (failed_in wire (answers_of calls) || failed_in wire (share wire (answers_in call)))
failed-more wire calls call = failed-append wire (answers_of calls) (answers_in call) ∙ ap (λ b. failed_in wire (answers_of calls) || b) (failed-share wire (answers_in call))

-- what failed in this call, or before it, failed
failed-now : (wire : ℕ) (calls : List Call) (call : Call) → failed_in wire (share wire (answers_in call)) ≡ true → failed_in wire (answers_of (call ∷ calls)) ≡ true
failed-now wire calls call e = failed-more wire calls call ∙ ap (λ b. failed_in wire (answers_of calls) || b) e ∙ or-true (failed_in wire (answers_of calls))

failed-before : (wire : ℕ) (calls : List Call) (call : Call) → failed_in wire (answers_of calls) ≡ true → failed_in wire (answers_of (call ∷ calls)) ≡ true
failed-before wire calls call e = failed-more wire calls call ∙ ap (λ b. b || failed_in wire (share wire (answers_in call))) e

-- what ended in this call ended
ended-now : (wire : ℕ) (calls : List Call) (call : Call) → ended_in wire (share wire (answers_in call)) ≡ true → ended_in wire (answers_of (call ∷ calls)) ≡ true
ended-now wire calls call e =
    ended-append wire (answers_of calls) (answers_in call) ∙ ap (λ b. ended_in wire (answers_of calls) || b) (ended-share wire (answers_in call) ∙ e)
    ∙ or-true (ended_in wire (answers_of calls))

abbrev pub IsCaused : List Call → Lane → Type 0
IsCaused calls lane = lane.stage ≡ Lost → Cause lane.wire (answers_of calls) lane

pub step-caused : (call : Call) (calls : List Call) (x y : Lane) → IsCaused calls x → Moves call x y → IsCaused (call ∷ calls) y
step-caused call calls x y k h lost = subst (λ n. Cause n (answers_of (call ∷ calls)) y) (sym (moves-wire call x y h)) (go (moves-break call x y h lost)) where
  before : Cause x.wire (answers_of calls) x → y ≡ x → Cause x.wire (answers_of (call ∷ calls)) y
  before (inl e) f = inl (failed-before x.wire calls call e)
  before (inr e) f = inr (ap (λ (l : Lane). is_too_much (length (waits l))) f ∙ e)

  go : Cause x.wire (share x.wire (answers_in call)) y ⊎ (y ≡ x) → Cause x.wire (answers_of (call ∷ calls)) y
  go (inl (inl e)) = inl (failed-now x.wire calls call e)
  go (inl (inr e)) = inr e
  go (inr f) = before (k (sym (ap (λ (l : Lane). l.stage) f) ∙ lost)) f

new-caused : (calls : List Call) (now wire : ℕ) → IsUntouched wire calls → IsCaused calls (new_lane now wire)
new-caused calls now wire h lost = unlost Live Live refl refl lost

-- ---- the loss that is heard

reads-ended : (wire room : ℕ) (answer : Answer) → Reads wire room answer None → ended_in wire (answer ∷ []) ≡ true
reads-ended wire room (ended at) h = named-here at wire h
reads-ended wire room (read_failed at) h = named-here at wire h
reads-ended wire room _ h = absurd h

gives-ended : (wire room : ℕ) (answers : List Answer) (got : Option (List ℕ)) → got ≡ None → Gives wire room answers got → ended_in wire answers ≡ true
gives-ended wire room [] got e h = absurd (cc (sym h ∙ e))
gives-ended wire room (answer ∷ []) got e h = reads-ended wire room answer (subst (λ (o : Option (List ℕ)). Reads wire room answer o) e h.1)
gives-ended wire room (answer ∷ next ∷ more) got e h = absurd h

-- the loss of a lane is told
abbrev is_loss : Option Event → Bool
is_loss (Some (event.Lost at)) = true
is_loss _ = false

-- the wire is shut, so the lane says nothing more
pub over-said : (now : ℕ) (after said y : Lane) (written : List Answer) → after.stage ≡ Over → Says now after said written → y ≡ said → y ≡ after
over-said now after said y written o s last = go after.stage o s where
  go : (t : Stage) → t ≡ Over → SaysAt t now after said written → y ≡ after
  go Live f k = absurd (cc f)
  go Lost f k = last ∙ k.1
  go Closing f k = absurd (cc f)
  go Over f k = last ∙ k.1

-- what the lane shows, of which this was the protocol before
abbrev ShowsOf : ℕ → Protocol → List Answer → Lane → ℕ → Type 0
ShowsOf wire old mine y now =
    ((ended_in wire mine ≡ true) × IsHeardOut y.protocol)
    ⊎ ((failed_in wire mine ≡ true) ⊎ ((is_overdue now y ≡ true) ⊎ ((is_too_much (length (waits y)) ≡ true) ⊎ (IsGone (read_on wire mine) old ⊎ IsSpoiled old))))

-- the loss is that of the input
input-shows : (now wire : ℕ) (x : Lane) (protocol : Protocol) (after y : Lane) (mine read shut : List Answer) (what : Input) (trace : Option Event) → is_loss trace ≡ true → Hears wire x.protocol protocol read what →
    Settles now (after_hearing protocol x) after shut what trace → (ended_in wire read ≡ true → ended_in wire mine ≡ true) → read_on wire mine ≡ read_on wire read → (after.stage ≡ Over → y ≡ after) →
    ShowsOf wire x.protocol mine y now
input-shows now wire x protocol after y mine read shut what trace loss h s ended_too same_read last = go x.protocol protocol what h s where
  never : {A : Type 0} (o : Option Event) → trace ≡ o → is_loss o ≡ false → A
  never o e f = absurd (cc (sym f ∙ sym (ap is_loss e) ∙ loss))

  nothing : (old new : Protocol) (b : Bool) → is_overdue now (after_hearing new x) ≡ b → Chooses b (Falls (after_hearing new x) after shut trace) (Passes (after_hearing new x) after shut None trace) → ShowsOf wire old mine y now
  nothing old new true e f = inr (inr (inl (ap (λ (l : Lane). is_overdue now l) (last (ap (λ (l : Lane). l.stage) f.2) ∙ f.2) ∙ e)))
  nothing old new false e f = never None f.1 refl

  -- a read found the wire's end, after which the lane is as it was, but that it is over
  finished : (old new : Protocol) → ended_in wire read ≡ true → IsHeardOut (protocol_after_continue new) → Falls (after_hearing new x) after shut trace → ShowsOf wire old mine y now
  finished old new e heard f = inl (ended_too e, subst (λ (l : Lane). IsHeardOut l.protocol) (sym (last (ap (λ (l : Lane). l.stage) f.2) ∙ f.2)) heard)

  go : (old new : Protocol) (what : Input) → Hears wire old new read what → Settles now (after_hearing new x) after shut what trace → ShowsOf wire old mine y now
  go old new input.Nothing h s = nothing old new (is_overdue now (after_hearing new x)) refl s
  go old new (input.Request request) h s = never _ s.1 refl
  go old new (input.Refused refusal) h s = never _ s.1 refl
  go old new (input.Response status body) h s = never _ s.1 refl
  go old new input.Upgraded h s = never _ s.1 refl
  go old new (input.Message bytes) h s = never _ s.1 refl
  go (Http old) (Http new) input.Broken h s = finished (Http old) (Http new) (gives-ended wire _ read h.got h.is_input.0 h.read) tt s
  go (Response old) (Response new) input.Broken h s = by h.is_input where
    by : ((h.got ≡ None) × (old.concluded ≡ false → IsBeginning old.lane.held)) ⊎ IsAnswered old new h.got input.Broken → ShowsOf wire (Response old) mine y now
    by (inl e) = finished (Response old) (Response new) (gives-ended wire _ read h.got e.0 h.read) tt s
    by (inr k) = inr (inr (inr (inr (inl (k.0, subst (λ (l : List ℕ). Fails old.upgrade (old.lane.held ++ l)) (sym (same_read ∙ gives-bytes wire _ read h.got h.read)) k.3)))))
  go (Socket old) (Socket new) input.Broken h s = by h.is_input.0 where
    by : ((h.got ≡ None) × HasHeardAll old.lane) ⊎ ((old.lost_bytes ≡ true) × (h.got ≡ Some [])) → ShowsOf wire (Socket old) mine y now
    by (inl e) = finished (Socket old) (Socket new) (gives-ended wire _ read h.got e.0 h.read) (subst (λ (l : socket.Lane). HasHeardAll l) (sym h.is_input.1) e.1) s
    by (inr e) = inr (inr (inr (inr (inr e.0))))
  go (Http old) (Socket new) input.Broken h s = absurd h
  go (Socket old) (Http new) input.Broken h s = absurd h
  go (Response old) (Http new) input.Broken h s = absurd h
  go (Response old) (Socket new) input.Broken h s = absurd h
  go (Http old) (Response new) input.Broken h s = absurd h
  go (Socket old) (Response new) input.Broken h s = absurd h
  go (Http old) (Http new) input.Gone h s = absurd h.is_input
  go (Response old) (Response new) input.Gone h s = absurd h.is_input
  go (Socket old) (Socket new) input.Gone h s =
      let gets = h.is_input.0 in
      inr (inr (inr (inr (inl (
        gets.1.0,
        new.lane,
        subst (λ (l : List ℕ). Feeds old.lane l gets.1.0) (sym (same_read ∙ gives-bytes wire _ read h.got h.read)) gets.1.1,
        gets.1.2,
      )))))
  go (Http old) (Socket new) input.Gone h s = absurd h
  go (Socket old) (Http new) input.Gone h s = absurd h
  go (Response old) (Http new) input.Gone h s = absurd h
  go (Response old) (Socket new) input.Gone h s = absurd h
  go (Http old) (Response new) input.Gone h s = absurd h
  go (Socket old) (Response new) input.Gone h s = absurd h

live-shows : (now : ℕ) (x y : Lane) (mine : List Answer) (own : Option Event) → x.stage ≡ Live → is_loss own ≡ true → TurnsLive now x y mine own → ShowsOf x.wire x.protocol mine y now
live-shows now x y mine own live loss h = go h.trace refl h.loses where
  settled : Silent (after_hearing h.protocol x) h.settled h.shut
  settled = settles-silent now (after_hearing h.protocol x) h.settled h.shut h.input h.trace h.settles

  said : Silent h.settled h.said h.written
  said = says-silent now h.settled h.said h.written h.says

  never : {A : Type 0} → own ≡ None → A
  never e = absurd (cc (sym (ap is_loss e) ∙ loss))

  by : y ≡ record h.said { stage = Over } → Cause x.wire mine h.said → ShowsOf x.wire x.protocol mine y now
  by e (inl b) = inr (inl b)
  by e (inr m) = inr (inr (inr (inl (ap (λ (l : Lane). is_too_much (length (waits l))) e ∙ m))))

  at : (s : Stage) → h.said.stage ≡ s → LosesAt s h.said y own → ShowsOf x.wire x.protocol mine y now
  at Live e k = never k.0
  at Lost e k = by k.1 (said-cause now x y mine own live h e)
  at Closing e k = never k.0
  at Over e k = never k.0

  go : (trace : Option Event) → h.trace ≡ trace → Loses trace h.said y own → ShowsOf x.wire x.protocol mine y now
  go (Some here) e k =
      input-shows now x.wire x h.protocol h.settled y mine h.read h.shut h.input h.trace (ap is_loss (e ∙ sym k.0) ∙ loss) h.hears h.settles
      (or-first (ended_in x.wire h.read) (ended_in x.wire h.shut) (ended_in x.wire h.written) (ended_in x.wire mine) (live-ended x.wire mine h.read h.shut h.written h.all))
      (live-reads x.wire mine h.read h.shut h.written h.all (settled.0 x.wire) (said.0 x.wire))
      (λ o. over-said now h.settled h.said y h.written o h.says k.1)
  go None e k = at h.said.stage refl k

-- the loss of a lane that heard it: shown in this call, or the lane stalled, or the cause of a lane whose wire was shut before
abbrev Heard-loss : ℕ → Lane → Lane → List Answer → Type 0
Heard-loss now x y mine = ShowsOf x.wire x.protocol mine y now ⊎ ((is_stalled y ≡ true) ⊎ ((x.stage ≡ Lost) × (waits y ≡ waits x)))

listens-loss : (now : ℕ) (x y : Lane) (mine : List Answer) (own : Option Event) → is_loss own ≡ true → Listens now x y mine own → Heard-loss now x y mine
listens-loss now x y mine own loss h = go x.stage refl h where
  never : {A : Type 0} → own ≡ None → A
  never e = absurd (cc (sym (ap is_loss e) ∙ loss))

  go : (s : Stage) → x.stage ≡ s → TurnsAt s now x y mine own → Heard-loss now x y mine
  go Live e h = by-fullness (λ (l : Lane). Heard-loss now x l mine) now x y mine own
      (λ d f s. absurd (cc (sym (ap is_loss f) ∙ loss)))
      (λ s f. inr (inl (ap (λ (l : Lane). is_stalled l) f.2 ∙ s)))
      (λ mid t. inl (live-shows now x mid mine own e loss t))
      h
  go Lost e h = inr (inr (e, ap waits h.2))
  go Closing e h = never h.0
  go Over e h = never h.1

pub heeds-loss : (now : ℕ) (what : Event) (x y : Lane) (mine : List Answer) → what ≡ event.Lost x.wire → Heeds now what x y mine → Heard-loss now x y mine
heeds-loss now what x y mine e (inl h) = go h.0 h.1 h.2 where
  go : (own : Option Event) → Listens now x y mine own → IsHeard x.wire own what → Heard-loss now x y mine
  go None l is = absurd (off-and-on (is_on x.wire what) is (ap (λ v. is_on x.wire v) e ∙ same x.wire))
  go (Some trace) l is = listens-loss now x y mine (Some trace) (ap (λ v. is_loss (Some v)) (sym is ∙ e)) l
heeds-loss now what x y mine e (inr h) = absurd (off-and-on (is_on x.wire what) h.1 (ap (λ v. is_on x.wire v) e ∙ same x.wire))

-- a lane that is no WebSocket isn't gone or spoiled
new-protocol : (bound : ℕ) (x : Lane) (bytes : List ℕ) → IsNew bound x → IsGone bytes x.protocol ⊎ IsSpoiled x.protocol → ⊥
new-protocol bound x bytes n h = go (subst (λ (l : Lane). IsGone bytes l.protocol ⊎ IsSpoiled l.protocol) n.2 h) where
  go : ⊥ ⊎ ⊥ → ⊥
  go (inl e) = e
  go (inr e) = e

pub loss-cause : (now : ℕ) (what : Heard) (answers : List Answer) (calls : List Call) (x y : Lane) (before after : List Lane) (bound : ℕ) → Has after y → y.wire ≡ x.wire → Has before x ⊎ IsNew bound x → IsCaused calls x →
    Heard-loss now x y (share x.wire answers) →
    ((lane : Lane) × Contains after lane × (lane.wire ≡ x.wire) × IsLostRightly now (answers_of (session.heard what answers ∷ calls)) lane)
    ⊎ ((lane : Lane) × Contains before lane × (lane.wire ≡ x.wire) × (IsGone (read_on x.wire answers) lane.protocol ⊎ IsSpoiled lane.protocol))
loss-cause now what answers calls x y before after bound has wire were caused h = go h where
  call : Call
  call = session.heard what answers

  all : List Answer
  all = answers_of (call ∷ calls)

  lost : IsLostRightly now all y → (lane : Lane) × Contains after lane × (lane.wire ≡ x.wire) × IsLostRightly now all lane
  lost right = (y, contains-of after y has, wire, right)

  finished : ended_in x.wire all ≡ true → IsHeardOut y.protocol → (lane : Lane) × Contains after lane × (lane.wire ≡ x.wire) × IsLostRightly now all lane
  finished e heard = lost (inl (subst (λ n. ended_in n all ≡ true) (sym wire) e, heard))

  failed : failed_in x.wire all ≡ true → (lane : Lane) × Contains after lane × (lane.wire ≡ x.wire) × IsLostRightly now all lane
  failed e = lost (inr (inl (subst (λ n. failed_in n all ≡ true) (sym wire) e)))

  much : is_too_much (length (waits y)) ≡ true → (lane : Lane) × Contains after lane × (lane.wire ≡ x.wire) × IsLostRightly now all lane
  much e = lost (inr (inr (inr (inr e))))

  gone : IsGone (read_on x.wire (share x.wire answers)) x.protocol ⊎ IsSpoiled x.protocol → Has before x ⊎ IsNew bound x →
      (lane : Lane) × Contains before lane × (lane.wire ≡ x.wire) × (IsGone (read_on x.wire answers) lane.protocol ⊎ IsSpoiled lane.protocol)
  gone g (inl k) = (x, contains-of before x k, refl, subst (λ (l : List ℕ). IsGone l x.protocol ⊎ IsSpoiled x.protocol) (sym (read-share x.wire answers)) g)
  gone g (inr n) = absurd (new-protocol bound x (read_on x.wire (share x.wire answers)) n g)

  earlier : waits y ≡ waits x → Cause x.wire (answers_of calls) x → (lane : Lane) × Contains after lane × (lane.wire ≡ x.wire) × IsLostRightly now all lane
  earlier e (inl b) = failed (failed-before x.wire calls call b)
  earlier e (inr m) = much (ap (λ l. is_too_much (length l)) e ∙ m)

  go : Heard-loss now x y (share x.wire answers) →
      ((lane : Lane) × Contains after lane × (lane.wire ≡ x.wire) × IsLostRightly now all lane)
      ⊎ ((lane : Lane) × Contains before lane × (lane.wire ≡ x.wire) × (IsGone (read_on x.wire answers) lane.protocol ⊎ IsSpoiled lane.protocol))
  go (inl (inl e)) = inl (finished (ended-now x.wire calls call e.0) e.1)
  go (inl (inr (inl e))) = inl (failed (failed-now x.wire calls call e))
  go (inl (inr (inr (inl e)))) = inl (lost (inr (inr (inl e))))
  go (inl (inr (inr (inr (inl e))))) = inl (much e)
  go (inl (inr (inr (inr (inr g))))) = inr (gone g were)
  go (inr (inl e)) = inl (lost (inr (inr (inr (inl e)))))
  go (inr (inr k)) = inl (earlier k.1 (caused k.0))

pub losses-have-causes : LossesHaveCauses
losses-have-causes what answers calls bound bound_after before after h d wire e =
    let m = mover what answers calls bound_after after (bound, before, h, d) wire (ap (λ v. is_on wire v) e ∙ same wire) in
    let x = m.0 in
    let y = m.1 in
    let here : what.event ≡ event.Lost x.wire = e ∙ ap (λ n. event.Lost n) (sym m.4) in
    let step = steps-in (session.heard what answers) calls bound_after after (bound, before, h, d) in
    let caused = each-before IsCaused new-caused step-caused (session.heard what answers) calls bound_after after (bound, before, h, d) x m.2 in
    subst (λ n. ((lane : Lane) × Contains after.lanes lane × (lane.wire ≡ n) × IsLostRightly what.now (answers_of (session.heard what answers ∷ calls)) lane)
    ⊎ ((lane : Lane) × Contains before.lanes lane × (lane.wire ≡ n) × (IsGone (read_on n answers) lane.protocol ⊎ IsSpoiled lane.protocol))) m.4
    (loss-cause what.now what answers calls x y before.lanes after.lanes bound m.3 (moves-wire (session.heard what answers) x y m.5) (step.were x m.2) caused
    (heeds-loss what.now what.event x y (share x.wire answers) here m.5))
