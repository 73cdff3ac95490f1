-- A lane keeps its number, and what it does is told of its own wire and heard on it.
use Rattle.std.proofs.Common.{◌≡◌, ◌==◌, ◌++◌, ◌∷◌, [], ℕ, Bool, true, false, List, Option, None, Some, refl, sym, ap, ◌∙◌, subst, length, ◌⊎◌, inl, inr}
use Rattle.hw_lanes.specs.declared.http.Reply.{Reply}
use Rattle.hw_door.specs.declared.heard.Event.{Event}
use Rattle.hw_door.specs.declared.heard.Event.TheVariants as event
use Rattle.hw_door.specs.Traffic.{Answer, bytes_in, not_yet, ended, read_failed, bytes_out, write_failed, was_shut}
use Rattle.hw_net.specs.declared.input.Input.{Input}
use Rattle.hw_net.specs.declared.input.Input.TheVariants as input
use Rattle.hw_net.specs.declared.protocol.Protocol.{Protocol}
use Rattle.hw_net.specs.declared.protocol.Protocol.TheVariants.{Http, Response, Socket}
use Rattle.hw_net.specs.declared.protocol.Stage.{Stage}
use Rattle.hw_net.specs.declared.protocol.Stage.TheVariants.{Live, Lost, Closing, Over}
use Rattle.hw_net.specs.Lane.{Lane, waits, after_reply, owes, is_live, is_overdue, protocol_after_shut, after_hearing}
use Rattle.hw_net.specs.Saying.{Writes, WritesOut, DropsOrWrites, Says, SaysAt, SaysMore, WritesIfLive, must_end, has_closed_long, is_too_much}
use Rattle.hw_net.specs.Sessions.{is_about}
use Rattle.hw_net.specs.Trace.{Reads, Gives, Chooses}
use Rattle.hw_net.specs.Turn.{Hears, Falls, Passes, Settles, Loses, LosesAt, TurnsLive, TurnsAt, Listens, Turns, Replies, Puts, Sends, Shuts}
use Rattle.hw_net.proofs.Bystanders.{Stays, SaysOrStays, ended-says, live-says, gathered-says}
use Rattle.hw_net.proofs.Fullness.{by-fullness, SaysPut}
use Rattle.hw_net.proofs.Numbering.{reply-wire, send-wire, shut-wire, replied-wire, put-wire}
use Rattle.hw_net.proofs.Shares.{AreOwn, own-append, same}

-- the event is heard on this lane
abbrev pub is_on : ℕ → Event → Bool
is_on lane (event.Request at request) = at == lane
is_on lane (event.Refused at refusal) = at == lane
is_on lane (event.Bytes at bytes) = at == lane
is_on lane (event.Response at status body) = at == lane
is_on lane (event.Upgraded at) = at == lane
is_on lane (event.Lost at) = at == lane
is_on lane (event.Drained at) = at == lane
is_on lane event.Quiet = false

-- if it is heard on any lane, it is on this one
abbrev pub IsOn : ℕ → Option Event → Type 0
IsOn lane None = Unit {0}
IsOn lane (Some heard) = is_on lane heard ≡ true

-- what a lane does is told of its own wire, and leaves its number
abbrev pub Keeps : Lane → Lane → List Answer → Type 0
Keeps before after answers = (after.wire ≡ before.wire) × AreOwn before.wire answers

is-wire : (at wire : ℕ) → at ≡ wire → (at == wire) ≡ true
is-wire at wire e = ap (λ n. n == wire) e ∙ same wire

wire-of : (before after : Lane) → after ≡ before → after.wire ≡ before.wire
wire-of before after e = ap (λ (l : Lane). l.wire) e

-- ---- writing

pub writes-own : (wire : ℕ) (waits : List ℕ) (sent : List Answer) (left : List ℕ) (whole : Bool) → Writes wire waits sent left whole → AreOwn wire sent
writes-own wire waits [] left whole h = tt
writes-own wire waits (bytes_out at [] ∷ []) left whole h = (is-wire at wire h.0, tt)
writes-own wire waits (bytes_out at (b ∷ bs) ∷ answers) left whole h = (is-wire at wire h.0, writes-own wire h.1.0 answers left whole h.1.2)
writes-own wire waits (write_failed at ∷ []) left whole h = (is-wire at wire h.0, tt)
writes-own wire waits _ left whole h = absurd h

own-shut : (wire : ℕ) → AreOwn wire (was_shut wire ∷ [])
own-shut wire = (same wire, tt)

to-own : (wire : ℕ) (answers all : List Answer) → all ≡ answers → AreOwn wire answers → AreOwn wire all
to-own wire answers all e h = subst (λ (l : List Answer). AreOwn wire l) (sym e) h

pub writes-out-keeps : (before after : Lane) (answers : List Answer) → WritesOut before after answers → Keeps before after answers
writes-out-keeps before after answers w = (w.still.wire, go (must_end before.stage (length (waits after)) w.is_whole) refl) where
  own : AreOwn before.wire w.sent
  own = writes-own before.wire (waits before) w.sent (waits after) w.is_whole w.writes

  go : (b : Bool) → must_end before.stage (length (waits after)) w.is_whole ≡ b → AreOwn before.wire answers
  go true e = to-own before.wire (w.sent ++ was_shut before.wire ∷ []) answers (w.ends e).0 (own-append before.wire w.sent (was_shut before.wire ∷ []) own (own-shut before.wire))
  go false e = to-own before.wire w.sent answers (w.stays e).0 own

still-keeps : (before after : Lane) (answers : List Answer) → answers ≡ [] → after ≡ before → Keeps before after answers
still-keeps before after answers e f = (wire-of before after f, to-own before.wire [] answers e tt)

dropped-or-keeps : (is_dropped : Bool) (before after : Lane) (answers : List Answer) → DropsOrWrites is_dropped before after answers → Keeps before after answers
dropped-or-keeps true before after answers h = (ap (λ (l : Lane). l.wire) h.1, to-own before.wire (was_shut before.wire ∷ []) answers h.0 (own-shut before.wire))
dropped-or-keeps false before after answers h = writes-out-keeps before after answers h

pub says-keeps : (now : ℕ) (before after : Lane) (answers : List Answer) → Says now before after answers → Keeps before after answers
says-keeps now before after answers h = go before.stage h where
  go : (s : Stage) → SaysAt s now before after answers → Keeps before after answers
  go Live h = writes-out-keeps before after answers h
  go Lost h = still-keeps before after answers h.0 h.1
  go Closing h = dropped-or-keeps (has_closed_long now before.since) before after answers h
  go Over h = still-keeps before after answers h.0 h.1

pub bystander-keeps : (now : ℕ) (before after : Lane) (answers : List Answer) → SaysOrStays now before after answers → Keeps before after answers
bystander-keeps now before after answers (inl h) = says-keeps now before after answers h
bystander-keeps now before after answers (inr h) = still-keeps before after answers h.1 h.0

pub live-writes-keeps : (before after : Lane) (answers : List Answer) → WritesIfLive before after answers → Keeps before after answers
live-writes-keeps before after answers h = bystander-keeps 0 before after answers (live-says 0 before after answers h)

more-keeps : (before after : Lane) (answers : List Answer) → SaysMore before after answers → Keeps before after answers
more-keeps before after answers h = dropped-or-keeps (is_too_much (length (waits before))) before after answers h

-- ---- hearing

reads-about : (wire room : ℕ) (answer : Answer) (got : Option (List ℕ)) → Reads wire room answer got → is_about wire answer ≡ true
reads-about wire room (bytes_in at bytes) (Some piece) h = is-wire at wire h.0
reads-about wire room (not_yet at) (Some piece) h = is-wire at wire h.0
reads-about wire room (ended at) None h = is-wire at wire h
reads-about wire room (read_failed at) None h = is-wire at wire h
reads-about wire room _ _ h = absurd h

gives-own : (wire room : ℕ) (answers : List Answer) (got : Option (List ℕ)) → Gives wire room answers got → AreOwn wire answers
gives-own wire room [] got h = tt
gives-own wire room (answer ∷ []) got h = (reads-about wire room answer got h.1, tt)
gives-own wire room (answer ∷ next ∷ more) got h = absurd h

hears-own : (wire : ℕ) (before after : Protocol) (answers : List Answer) (heard : Input) → Hears wire before after answers heard → AreOwn wire answers
hears-own wire (Http before) (Http after) answers heard h = gives-own wire _ answers h.got h.read
hears-own wire (Response before) (Response after) answers heard h = gives-own wire _ answers h.got h.read
hears-own wire (Socket before) (Socket after) answers heard h = gives-own wire _ answers h.got h.read
hears-own wire _ _ answers heard h = absurd h

-- what is settled of the input: the number, the answers, and where it is heard
abbrev pub Settled : Lane → Lane → List Answer → Option Event → Type 0
Settled before after answers heard = Keeps before after answers × IsOn before.wire heard

on-own : (wire : ℕ) (heard : Option Event) (here : Event) → is_on wire here ≡ true → heard ≡ Some here → IsOn wire heard
on-own wire heard here is e = subst (λ (o : Option Event). IsOn wire o) (sym e) is

falls-keeps : (before after : Lane) (answers : List Answer) (heard : Option Event) → Falls before after answers heard → Settled before after answers heard
falls-keeps before after answers heard h =
    ((ap (λ (l : Lane). l.wire) h.2, to-own before.wire (was_shut before.wire ∷ []) answers h.0 (own-shut before.wire)), on-own before.wire heard (event.Lost before.wire) (same before.wire) h.1)

passes-keeps : (before becomes after : Lane) (answers : List Answer) (trace : Event) (heard : Option Event) → becomes.wire ≡ before.wire → is_on before.wire trace ≡ true →
    Passes becomes after answers (Some trace) heard → Settled before after answers heard
passes-keeps before becomes after answers trace heard e is h =
    ((ap (λ (l : Lane). l.wire) h.2 ∙ e, to-own before.wire [] answers h.0 tt), on-own before.wire heard trace is h.1)

pub settles-keeps : (now : ℕ) (before after : Lane) (answers : List Answer) (heard_news : Input) (heard : Option Event) → Settles now before after answers heard_news heard → Settled before after answers heard
settles-keeps now before after answers input.Nothing heard h = go (is_overdue now before) h where
  go : (b : Bool) → Chooses b (Falls before after answers heard) (Passes before after answers None heard) → Settled before after answers heard
  go true h = falls-keeps before after answers heard h
  go false h = (still-keeps before after answers h.0 h.2, subst (λ (o : Option Event). IsOn before.wire o) (sym h.1) tt)
settles-keeps now before after answers (input.Request request) heard h = passes-keeps before _ after answers (event.Request before.wire request) heard refl (same before.wire) h
settles-keeps now before after answers (input.Refused refusal) heard h = passes-keeps before _ after answers (event.Refused before.wire refusal) heard refl (same before.wire) h
settles-keeps now before after answers (input.Response status body) heard h = passes-keeps before _ after answers (event.Response before.wire status body) heard refl (same before.wire) h
settles-keeps now before after answers input.Upgraded heard h = passes-keeps before _ after answers (event.Upgraded before.wire) heard refl (same before.wire) h
settles-keeps now before after answers (input.Message bytes) heard h = passes-keeps before _ after answers (event.Bytes before.wire bytes) heard refl (same before.wire) h
settles-keeps now before after answers input.Broken heard h = falls-keeps before after answers heard h
settles-keeps now before after answers input.Gone heard h = passes-keeps before _ after answers (event.Lost before.wire) heard refl (same before.wire) h

loses-keeps : (wire : ℕ) (trace : Option Event) (before after : Lane) (heard : Option Event) → before.wire ≡ wire → IsOn wire trace → Loses trace before after heard →
    (after.wire ≡ before.wire) × IsOn wire heard
loses-keeps wire (Some here) before after heard e is h = (wire-of before after h.1, on-own wire heard here is h.0)
loses-keeps wire None before after heard e is h = go before.stage h where
  go : (s : Stage) → LosesAt s before after heard → (after.wire ≡ before.wire) × IsOn wire heard
  go Live h = (wire-of before after h.1, subst (λ (o : Option Event). IsOn wire o) (sym h.0) tt)
  go Lost h = (ap (λ (l : Lane). l.wire) h.1, on-own wire heard (event.Lost before.wire) (is-wire before.wire wire e) h.0)
  go Closing h = (wire-of before after h.1, subst (λ (o : Option Event). IsOn wire o) (sym h.0) tt)
  go Over h = (wire-of before after h.1, subst (λ (o : Option Event). IsOn wire o) (sym h.0) tt)

live-keeps : (now : ℕ) (before after : Lane) (answers : List Answer) (heard : Option Event) → TurnsLive now before after answers heard → Settled before after answers heard
live-keeps now before after answers heard h =
    let settled = settles-keeps now (after_hearing h.protocol before) h.settled h.shut h.input h.trace h.settles in
    let said = says-keeps now h.settled h.said h.written h.says in
    let wrote : AreOwn before.wire h.written = subst (λ n. AreOwn n h.written) settled.0.0 said.1 in
    let loses = loses-keeps before.wire h.trace h.said after heard (said.0 ∙ settled.0.0) settled.1 h.loses in (
      (
        loses.0 ∙ said.0 ∙ settled.0.0,
        to-own before.wire (h.read ++ (h.shut ++ h.written)) answers h.all
            (own-append before.wire h.read (h.shut ++ h.written) (hears-own before.wire before.protocol h.protocol h.read h.input h.hears) (own-append before.wire h.shut h.written settled.0.1 wrote)),
      ),
      loses.1,
    )

pub listens-keeps : (now : ℕ) (before after : Lane) (answers : List Answer) (heard : Option Event) → Listens now before after answers heard → Keeps before after answers × IsOn before.wire heard
listens-keeps now before after answers heard h = go before.stage h where
  go : (s : Stage) → TurnsAt s now before after answers heard → Settled before after answers heard
  go Live h = by-fullness (λ (l : Lane). Settled before l answers heard) now before after answers heard
      (λ d e s. (says-keeps now (record before { full = None }) after answers s, on-own before.wire heard (event.Drained before.wire) (same before.wire) e))
      (λ s f. falls-keeps before after answers heard f)
      (λ mid t. live-keeps now before mid answers heard t)
      h
  go Lost h = passes-keeps before (record before { stage = Over }) after answers (event.Lost before.wire) heard refl (same before.wire) h
  go Closing h = (says-keeps now before after answers h.1, subst (λ (o : Option Event). IsOn before.wire o) (sym h.0) tt)
  go Over h = (still-keeps before after answers h.0 h.2, subst (λ (o : Option Event). IsOn before.wire o) (sym h.1) tt)

pub turns-keeps : (now : ℕ) (trace : Option Event) (before after : Lane) (answers : List Answer) (heard : Option Event) → Turns now trace before after answers heard → Keeps before after answers
turns-keeps now None before after answers heard h = (listens-keeps now before after answers heard h).0
turns-keeps now (Some trace) before after answers heard h = bystander-keeps now before after answers (ended-says now before after answers h.1)

-- ---- saying

more-own : (wire : ℕ) (before after : Lane) (answers : List Answer) → before.wire ≡ wire → SaysMore before after answers → AreOwn wire answers
more-own wire before after answers e h = subst (λ n. AreOwn n answers) e (more-keeps before after answers h).1

pub replies-keeps : (now : ℕ) (reply : Reply) (before after : Lane) (answers : List Answer) → Replies now reply before after answers → Keeps before after answers
replies-keeps now reply before after answers h = (reply-wire now reply before after answers h, go (owes before) h) where
  go : (b : Bool) → Chooses b (SaysMore (after_reply now reply before) after answers) ((answers ≡ []) × (after ≡ before)) → AreOwn before.wire answers
  go true h = more-own before.wire (after_reply now reply before) after answers (replied-wire now reply before) h
  go false h = to-own before.wire [] answers h.0 tt

pub sends-keeps : (now : ℕ) (bytes : List ℕ) (text : Bool) (before after : Lane) (answers : List Answer) → Sends now bytes text before after answers → Keeps before after answers
sends-keeps now bytes text before after answers h = (send-wire now bytes text before after answers h, go h.0 h.1 h.2 h.3) where
  go : (mid : Lane) (b : Bool) → Puts bytes text before mid b → SaysPut now b mid after answers → AreOwn before.wire answers
  go mid true p h = said (gathered-says mid h.0 answers h.1) where
    said : SaysMore mid h.0 answers ⊎ Stays mid h.0 answers → AreOwn before.wire answers
    said (inl k) = more-own before.wire mid h.0 answers (put-wire (is_live before.stage) before.protocol bytes text before mid true p) k
    said (inr k) = to-own before.wire [] answers k.1 tt
  go mid false p h = to-own before.wire [] answers h.0 tt

pub shuts-keeps : (now : ℕ) (before after : Lane) (answers : List Answer) → Shuts now before after answers → Keeps before after answers
shuts-keeps now before after answers h = (shut-wire now before after answers h, go (is_live before.stage) h) where
  go : (b : Bool) → Chooses b (WritesOut (record before { since = now; protocol = protocol_after_shut before.protocol; stage = Closing }) after answers) ((answers ≡ []) × (after ≡ before)) → AreOwn before.wire answers
  go true h = (writes-out-keeps (record before { since = now; protocol = protocol_after_shut before.protocol; stage = Closing }) after answers h).1
  go false h = to-own before.wire [] answers h.0 tt
