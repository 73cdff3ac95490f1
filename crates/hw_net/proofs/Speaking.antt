-- What a lane speaks: requests, a response that it awaits, or a WebSocket. It is a WebSocket once its upgrade is heard, and else stays what it is until a reply.
use Rattle.std.proofs.Common.{◌≡◌, ◌⊎◌, [], ℕ, Bool, true, false, List, Option, None, Some, is_some, refl, sym, ap, ◌∙◌, inl, inr, length}
use Rattle.hw_door.specs.declared.heard.Event.{Event}
use Rattle.hw_door.specs.declared.heard.Event.TheVariants as event
use Rattle.hw_door.specs.Traffic.{Answer}
use Rattle.hw_net.specs.declared.input.Input.{Input}
use Rattle.hw_net.specs.declared.input.Input.TheVariants as input
use Rattle.hw_net.specs.declared.response_state.Expected.{Expected}
use Rattle.hw_net.specs.declared.protocol.Protocol.{Protocol}
use Rattle.hw_net.specs.declared.protocol.Protocol.TheVariants.{Http, Response, Socket}
use Rattle.hw_net.specs.declared.protocol.Stage.{Stage}
use Rattle.hw_net.specs.declared.protocol.Stage.TheVariants.{Live, Lost, Closing, Over}
use Rattle.hw_net.specs.Lane.{Lane, waits, is_live, is_overdue, protocol_after_shut, protocol_after_upgrade, accepted_socket, protocol_after_continue, after_hearing}
use Rattle.hw_net.specs.ResponseState.{HearsResponse, IsAnswered, ResponseStateView}
use Rattle.hw_net.specs.Saying.{WritesOut, DropsOrWrites, SpeaksAs, Says, SaysAt, SaysMore, GathersOrSays, has_closed_long, is_too_much}
use Rattle.hw_net.specs.Sessions.{is_upgrade_on}
use Rattle.hw_net.specs.Trace.{Chooses}
use Rattle.hw_net.specs.Turn.{Hears, Falls, Passes, Settles, Loses, LosesAt, TurnsLive, TurnsAt, Listens, PutsAt, Sends, Shuts}
use Rattle.hw_net.proofs.Bystanders.{SaysOrStays, Stays, gathered-says}
use Rattle.hw_net.proofs.Counting.{hears_no_request}
use Rattle.hw_net.proofs.Fullness.{by-fullness, SaysPut}
use Rattle.hw_net.proofs.Shares.{same}
use Rattle.hw_net.proofs.Walks.{IsHeard, Heeds, unupgraded}

-- nothing if it hears requests, and else whether it is a WebSocket
abbrev pub kind_of : Protocol → Option Bool
kind_of (Http http_state) = None
kind_of (Response response_state) = Some false
kind_of (Socket websocket_state) = Some true

-- a lane speaks what it spoke
abbrev pub Keeps : Lane → Lane → Type 0
Keeps x y = kind_of y.protocol ≡ kind_of x.protocol

-- it is one of requests if it was
abbrev pub Speaks : Lane → Lane → Type 0
Speaks x y = hears_no_request y.protocol ≡ hears_no_request x.protocol

speech-of : (protocol : Protocol) → hears_no_request protocol ≡ is_some (kind_of protocol)
speech-of (Http http_state) = refl
speech-of (Response response_state) = refl
speech-of (Socket websocket_state) = refl

pub speaks : (x y : Lane) → Keeps x y → Speaks x y
speaks x y e = speech-of y.protocol ∙ ap is_some e ∙ sym (speech-of x.protocol)

pub same-kind : (x y : Lane) → y ≡ x → Keeps x y
same-kind x y e = ap (λ (l : Lane). kind_of l.protocol) e

pub same-speech : (x y : Lane) → y ≡ x → Speaks x y
same-speech x y e = ap (λ (l : Lane). hears_no_request l.protocol) e

-- ---- what is written and shut

as-kind : (before after : Protocol) → SpeaksAs before after → kind_of after ≡ kind_of before
as-kind (Http before) (Http after) e = refl
as-kind (Response before) (Response after) e = refl
as-kind (Socket before) (Socket after) e = refl
as-kind _ _ e = absurd e

writes-kind : (x y : Lane) (answers : List Answer) → WritesOut x y answers → Keeps x y
writes-kind x y answers w = as-kind x.protocol y.protocol w.still.protocol

dropped-or-kind : (is_dropped : Bool) (x y : Lane) (answers : List Answer) → DropsOrWrites is_dropped x y answers → Keeps x y
dropped-or-kind true x y answers h = ap (λ (l : Lane). kind_of l.protocol) h.1
dropped-or-kind false x y answers h = writes-kind x y answers h

pub says-kind : (now : ℕ) (x y : Lane) (answers : List Answer) → Says now x y answers → Keeps x y
says-kind now x y answers h = go x.stage h where
  go : (s : Stage) → SaysAt s now x y answers → Keeps x y
  go Live h = writes-kind x y answers h
  go Lost h = same-kind x y h.1
  go Closing h = dropped-or-kind (has_closed_long now x.since) x y answers h
  go Over h = same-kind x y h.1

pub more-kind : (x y : Lane) (answers : List Answer) → SaysMore x y answers → Keeps x y
more-kind x y answers h = dropped-or-kind (is_too_much (length (waits x))) x y answers h

pub bystander-kind : (now : ℕ) (x y : Lane) (answers : List Answer) → SaysOrStays now x y answers → Keeps x y
bystander-kind now x y answers (inl h) = says-kind now x y answers h
bystander-kind now x y answers (inr h) = same-kind x y h.0

pub bystander-speech : (now : ℕ) (x y : Lane) (answers : List Answer) → SaysOrStays now x y answers → Speaks x y
bystander-speech now x y answers h = speaks x y (bystander-kind now x y answers h)

gathered-kind : (x y : Lane) (answers : List Answer) → GathersOrSays x y answers → Keeps x y
gathered-kind x y answers h = go (gathered-says x y answers h) where
  go : SaysMore x y answers ⊎ Stays x y answers → Keeps x y
  go (inl k) = more-kind x y answers k
  go (inr k) = same-kind x y k.0

pub loses-kind : (trace : Option Event) (x y : Lane) (heard : Option Event) → Loses trace x y heard → Keeps x y
loses-kind (Some here) x y heard h = same-kind x y h.1
loses-kind None x y heard h = go x.stage h where
  go : (s : Stage) → LosesAt s x y heard → Keeps x y
  go Live h = same-kind x y h.1
  go Lost h = ap (λ (l : Lane). kind_of l.protocol) h.1
  go Closing h = same-kind x y h.1
  go Over h = same-kind x y h.1

continue-kind : (protocol : Protocol) → kind_of (protocol_after_continue protocol) ≡ kind_of protocol
continue-kind (Http http_state) = refl
continue-kind (Response response_state) = refl
continue-kind (Socket websocket_state) = refl

shut-kind : (protocol : Protocol) → kind_of (protocol_after_shut protocol) ≡ kind_of protocol
shut-kind (Http http_state) = refl
shut-kind (Response response_state) = refl
shut-kind (Socket websocket_state) = refl

put-kind : (live : Bool) (protocol : Protocol) (bytes : List ℕ) (text : Bool) (x mid : Lane) (is_put : Bool) → x.protocol ≡ protocol → PutsAt live protocol bytes text x mid is_put → Keeps x mid
put-kind true (Socket websocket_state) bytes text x mid is_put e h = ap (λ (l : Lane). kind_of l.protocol) h.2 ∙ sym (ap kind_of e)
put-kind true (Http http_state) bytes text x mid is_put e h = same-kind x mid h.1
put-kind true (Response response_state) bytes text x mid is_put e h = same-kind x mid h.1
put-kind false protocol bytes text x mid is_put e h = same-kind x mid h.1

pub sends-kind : (now : ℕ) (bytes : List ℕ) (text : Bool) (x y : Lane) (mine : List Answer) → Sends now bytes text x y mine → Keeps x y
sends-kind now bytes text x y mine h = go h.0 h.1 h.3 ∙ put-kind (is_live x.stage) x.protocol bytes text x h.0 h.1 refl h.2 where
  go : (mid : Lane) (b : Bool) → SaysPut now b mid y mine → Keeps mid y
  go mid true h = ap (λ (l : Lane). kind_of l.protocol) h.2 ∙ gathered-kind mid h.0 mine h.1
  go mid false h = same-kind mid y h.1

pub sends-speech : (now : ℕ) (bytes : List ℕ) (text : Bool) (x y : Lane) (mine : List Answer) → Sends now bytes text x y mine → Speaks x y
sends-speech now bytes text x y mine h = speaks x y (sends-kind now bytes text x y mine h)

pub shuts-kind : (now : ℕ) (x y : Lane) (mine : List Answer) → Shuts now x y mine → Keeps x y
shuts-kind now x y mine h = go (is_live x.stage) h where
  go : (b : Bool) → Chooses b (WritesOut (record x { since = now; protocol = protocol_after_shut x.protocol; stage = Closing }) y mine) ((mine ≡ []) × (y ≡ x)) → Keeps x y
  go true h = writes-kind (record x { since = now; protocol = protocol_after_shut x.protocol; stage = Closing }) y mine h ∙ shut-kind x.protocol
  go false h = same-kind x y h.1

pub shuts-speech : (now : ℕ) (x y : Lane) (mine : List Answer) → Shuts now x y mine → Speaks x y
shuts-speech now x y mine h = speaks x y (shuts-kind now x y mine h)

-- ---- what is heard

abbrev is_upgrade_in : ℕ → Option Event → Bool
is_upgrade_in wire None = false
is_upgrade_in wire (Some what) = is_upgrade_on wire what

-- a lane of this kind becomes one of that, where its upgrade is heard or isn't
abbrev pub Turns : Bool → Bool → Option Bool → Option Bool → Type 0
Turns upgraded live before after = ((after ≡ before) × (upgraded ≡ false)) ⊎ ((before ≡ Some false) × (after ≡ Some true) × (upgraded ≡ true) × (live ≡ true))

turns-on : (upgraded live : Bool) (before mid after : Option Bool) → after ≡ mid → Turns upgraded live before mid → Turns upgraded live before after
turns-on upgraded live before mid after e (inl h) = inl (e ∙ h.0, h.1)
turns-on upgraded live before mid after e (inr h) = inr (h.0, e ∙ h.1, h.2, h.3)

turns-as : (upgraded to live : Bool) (before after : Option Bool) → to ≡ upgraded → Turns upgraded live before after → Turns to live before after
turns-as upgraded to live before after e (inl h) = inl (h.0, e ∙ h.1)
turns-as upgraded to live before after e (inr h) = inr (h.0, h.1, e ∙ h.2, h.3)

hears-kind : (wire : ℕ) (before after : Protocol) (answers : List Answer) (what : Input) → Hears wire before after answers what → kind_of after ≡ kind_of before
hears-kind wire (Http before) (Http after) answers what h = refl
hears-kind wire (Response before) (Response after) answers what h = refl
hears-kind wire (Socket before) (Socket after) answers what h = refl
hears-kind wire _ _ answers what h = absurd h

-- an upgrade is heard where one was asked for
asked-for : (wire : ℕ) (old new : ResponseStateView) (answers : List Answer) → HearsResponse wire old new answers input.Upgraded → is_some new.upgrade ≡ true
asked-for wire old new answers h = ap is_some h.upgrade ∙ go h.is_input where
  go : ((old.accepted ≡ true) × (is_some old.upgrade ≡ true) × (new ≡ old)) ⊎ IsAnswered old new h.got input.Upgraded → is_some old.upgrade ≡ true
  go (inl k) = k.1
  go (inr k) = ap is_some k.3.2.1

accepted-kind : (upgrade : Option Expected) (response_state : ResponseStateView) → is_some upgrade ≡ true → kind_of (accepted_socket upgrade response_state) ≡ Some true
accepted-kind None response_state e = absurd (cc e)
accepted-kind (Some expected) response_state e = refl

upgrade-turns : (wire : ℕ) (before after : Protocol) (answers : List Answer) → Hears wire before after answers input.Upgraded → (kind_of before ≡ Some false) × (kind_of (protocol_after_upgrade (protocol_after_continue after)) ≡ Some true)
upgrade-turns wire (Http before) (Http after) answers h = absurd h.is_input
upgrade-turns wire (Response before) (Response after) answers h = (refl, accepted-kind after.upgrade after (asked-for wire before after answers h))
upgrade-turns wire (Socket before) (Socket after) answers h = absurd h.is_input
upgrade-turns wire (Http before) (Response after) answers h = absurd h
upgrade-turns wire (Http before) (Socket after) answers h = absurd h
upgrade-turns wire (Response before) (Http after) answers h = absurd h
upgrade-turns wire (Response before) (Socket after) answers h = absurd h
upgrade-turns wire (Socket before) (Http after) answers h = absurd h
upgrade-turns wire (Socket before) (Response after) answers h = absurd h

settles-turns : (now : ℕ) (x : Lane) (protocol : Protocol) (after : Lane) (read answers : List Answer) (what : Input) (heard : Option Event) → is_live x.stage ≡ true → Hears x.wire x.protocol protocol read what →
    Settles now (after_hearing protocol x) after answers what heard → Turns (is_upgrade_in x.wire heard) (is_live x.stage) (kind_of x.protocol) (kind_of after.protocol)
settles-turns now x protocol after read answers what heard live h s = go what h s where
  kept : (what : Input) → Hears x.wire x.protocol protocol read what → kind_of (protocol_after_continue protocol) ≡ kind_of x.protocol
  kept what h = continue-kind protocol ∙ hears-kind x.wire x.protocol protocol read what h

  stays : (what : Input) (mid : Lane) (trace : Option Event) → Hears x.wire x.protocol protocol read what → after ≡ mid → kind_of mid.protocol ≡ kind_of (protocol_after_continue protocol) →
      heard ≡ trace → is_upgrade_in x.wire trace ≡ false → Turns (is_upgrade_in x.wire heard) (is_live x.stage) (kind_of x.protocol) (kind_of after.protocol)
  stays what mid trace h e k f g = inl (same-kind mid after e ∙ k ∙ kept what h, ap (λ o. is_upgrade_in x.wire o) f ∙ g)

  nothing : Hears x.wire x.protocol protocol read input.Nothing → (b : Bool) → Chooses b (Falls (after_hearing protocol x) after answers heard) (Passes (after_hearing protocol x) after answers None heard) →
      Turns (is_upgrade_in x.wire heard) (is_live x.stage) (kind_of x.protocol) (kind_of after.protocol)
  nothing h true s = stays input.Nothing _ (Some (event.Lost x.wire)) h s.2 refl s.1 refl
  nothing h false s = stays input.Nothing _ None h s.2 refl s.1 refl

  go : (what : Input) → Hears x.wire x.protocol protocol read what → Settles now (after_hearing protocol x) after answers what heard → Turns (is_upgrade_in x.wire heard) (is_live x.stage) (kind_of x.protocol) (kind_of after.protocol)
  go input.Nothing h s = nothing h (is_overdue now (after_hearing protocol x)) s
  go (input.Request request) h s = stays (input.Request request) _ _ h s.2 refl s.1 refl
  go (input.Refused refusal) h s = stays (input.Refused refusal) _ _ h s.2 refl s.1 refl
  go (input.Response status body) h s = stays (input.Response status body) _ _ h s.2 refl s.1 refl
  go input.Upgraded h s =
      let t = upgrade-turns x.wire x.protocol protocol read h in
      inr (t.0, ap (λ (l : Lane). kind_of l.protocol) s.2 ∙ t.1, ap (λ o. is_upgrade_in x.wire o) s.1 ∙ same x.wire, live)
  go (input.Message bytes) h s = stays (input.Message bytes) _ _ h s.2 refl s.1 refl
  go input.Broken h s = stays input.Broken _ _ h s.2 refl s.1 refl
  go input.Gone h s = stays input.Gone _ _ h s.2 (shut-kind (protocol_after_continue protocol)) s.1 refl

loses-upgrade : (wire : ℕ) (trace : Option Event) (x y : Lane) (heard : Option Event) → Loses trace x y heard → is_upgrade_in wire heard ≡ is_upgrade_in wire trace
loses-upgrade wire (Some here) x y heard h = ap (λ o. is_upgrade_in wire o) h.0
loses-upgrade wire None x y heard h = go x.stage h where
  go : (s : Stage) → LosesAt s x y heard → is_upgrade_in wire heard ≡ false
  go Live h = ap (λ o. is_upgrade_in wire o) h.0
  go Lost h = ap (λ o. is_upgrade_in wire o) h.0
  go Closing h = ap (λ o. is_upgrade_in wire o) h.0
  go Over h = ap (λ o. is_upgrade_in wire o) h.0

live-turns : (now : ℕ) (x y : Lane) (mine : List Answer) (own : Option Event) → is_live x.stage ≡ true → TurnsLive now x y mine own → Turns (is_upgrade_in x.wire own) (is_live x.stage) (kind_of x.protocol) (kind_of y.protocol)
live-turns now x y mine own live h =
    turns-as (is_upgrade_in x.wire h.trace) (is_upgrade_in x.wire own) (is_live x.stage) (kind_of x.protocol) (kind_of y.protocol) (loses-upgrade x.wire h.trace h.said y own h.loses)
    (turns-on (is_upgrade_in x.wire h.trace) (is_live x.stage) (kind_of x.protocol) (kind_of h.settled.protocol) (kind_of y.protocol)
    (loses-kind h.trace h.said y own h.loses ∙ says-kind now h.settled h.said h.written h.says)
    (settles-turns now x h.protocol h.settled h.read h.shut h.input h.trace live h.hears h.settles))

listens-turns : (now : ℕ) (x y : Lane) (mine : List Answer) (own : Option Event) → Listens now x y mine own → Turns (is_upgrade_in x.wire own) (is_live x.stage) (kind_of x.protocol) (kind_of y.protocol)
listens-turns now x y mine own h = go x.stage refl h where
  stays : (mid : Lane) (trace : Option Event) → Keeps x mid → own ≡ trace → is_upgrade_in x.wire trace ≡ false → Turns (is_upgrade_in x.wire own) (is_live x.stage) (kind_of x.protocol) (kind_of mid.protocol)
  stays mid trace k e f = inl (k, ap (λ o. is_upgrade_in x.wire o) e ∙ f)

  go : (s : Stage) → x.stage ≡ s → TurnsAt s now x y mine own → Turns (is_upgrade_in x.wire own) (is_live x.stage) (kind_of x.protocol) (kind_of y.protocol)
  go Live e h = by-fullness (λ (l : Lane). Turns (is_upgrade_in x.wire own) (is_live x.stage) (kind_of x.protocol) (kind_of l.protocol)) now x y mine own
      (λ d f s. stays y (Some (event.Drained x.wire)) (says-kind now (record x { full = None }) y mine s) f refl)
      (λ s f. stays y (Some (event.Lost x.wire)) (ap (λ (l : Lane). kind_of l.protocol) f.2) f.1 refl)
      (λ mid t. live-turns now x mid mine own (ap is_live e) t)
      h
  go Lost e h = stays y (Some (event.Lost x.wire)) (ap (λ (l : Lane). kind_of l.protocol) h.2) h.1 refl
  go Closing e h = stays y None (says-kind now x y mine h.1) h.0 refl
  go Over e h = stays y None (same-kind x y h.2) h.1 refl

heard-upgrade : (wire : ℕ) (own : Option Event) (what : Event) → IsHeard wire own what → is_upgrade_on wire what ≡ is_upgrade_in wire own
heard-upgrade wire None what h = unupgraded wire what h
heard-upgrade wire (Some trace) what h = ap (λ v. is_upgrade_on wire v) h

pub heeds-turns : (now : ℕ) (what : Event) (x y : Lane) (mine : List Answer) → Heeds now what x y mine → Turns (is_upgrade_on x.wire what) (is_live x.stage) (kind_of x.protocol) (kind_of y.protocol)
heeds-turns now what x y mine (inl h) =
    turns-as (is_upgrade_in x.wire h.0) (is_upgrade_on x.wire what) (is_live x.stage) (kind_of x.protocol) (kind_of y.protocol) (heard-upgrade x.wire h.0 what h.2) (listens-turns now x y mine h.0 h.1)
heeds-turns now what x y mine (inr h) = inl (bystander-kind now x y mine h.0, unupgraded x.wire what h.1)

pub heeds-speech : (now : ℕ) (what : Event) (x y : Lane) (mine : List Answer) → Heeds now what x y mine → Speaks x y
heeds-speech now what x y mine h = go (heeds-turns now what x y mine h) where
  go : Turns (is_upgrade_on x.wire what) (is_live x.stage) (kind_of x.protocol) (kind_of y.protocol) → Speaks x y
  go (inl t) = speaks x y t.0
  go (inr t) = speech-of y.protocol ∙ ap is_some t.1 ∙ sym (ap is_some t.0) ∙ sym (speech-of x.protocol)
