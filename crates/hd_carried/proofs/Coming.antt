-- Over a door that was just started no request comes that may not come, and so each event is answered.
use Rattle.std.proofs.Common.{refl, inl, inr, ap, subst, sym, ◌∙◌, ◌≡◌, ◌⊎◌, ◌≤◌, ◌&&◌, ◌==◌, ℕ, Bool, true, false, List, [], ◌∷◌, ◌++◌, Option, append_assoc, append-nil, length, reverse, map}
use Rattle.std.specs.List.{list_all}
use Rattle.std.proofs.lemmas.Grind.{flat_map-append, reverse_onto}
use Rattle.std.proofs.lemmas.List.{length-map, map-append}
use Rattle.hd_calls.specs.Hubs.{Hub}
use Rattle.hw_lanes.specs.declared.http.Request.{Request}
use Rattle.hw_door.specs.declared.heard.Event.{Event}
use Rattle.hw_door.specs.declared.heard.Event.TheVariants as event
use Rattle.hw_door.specs.declared.heard.Given.{Given}
use Rattle.hw_door.specs.declared.heard.Given.TheVariants as give
use Rattle.hw_door.specs.declared.heard.Heard.{Heard}
use Rattle.hw_door.specs.DoorCalls as door
use Rattle.hw_door.specs.DoorCalls.{DoorCall, given_in, given_of, heard_in, is_giving, full_in, full_of, to_hear, to_say}
use Rattle.hw_door.specs.Traffic.{Answer}
use Rattle.hw_net.specs.declared.door.NetDoor.{NetDoor}
use Rattle.hw_net.specs.Awaited.{RequestsAreFree}
use Rattle.hw_net.specs.Chains.{Told, CallsAreASession, CallsSplit, gives, hears, sends, is_steady, told_by, told_in, told_in_all, told_of}
use Rattle.hw_net.specs.Door.{DoorState, state_of}
use Rattle.hw_net.specs.Sessions as session
use Rattle.hw_net.specs.Sessions.{Call, Session}
use Rattle.hd_server.specs.declared.vocabulary.Said.{Said}
use Rattle.hd_server.specs.Doings.{ServerEvent, moment, said, seen}
use Rattle.hd_server.specs.Laws.{EachRequestIsAnswered, PartsOfTurns}
use Rattle.hd_server.specs.Plans.{Setup}
use Rattle.hd_server.specs.Serves.{IsFree, IsSeen, Serves, ServesOne, given_as, lanes_sent, seeing}
use Rattle.hd_server.specs.Serving.{AreGiving, IsAnswered, IsCutShort, IsGivenWhole, ServeEnd, ServesOn, all_answered, at_door, in_step, is_cut, wait_for}
use Rattle.hd_carried.specs.Answered.{HasAnswered, IsAnsweredInPart, IsLeft, IsStarted, RequestsComeFree}
use Rattle.hd_carried.specs.Told.{told_by_calls, told_by_server}
use Rattle.hd_carried.proofs.Known.{AwaitedIn, all_awaited, awaited_before, lanes_are_known, server_awaited}
use Rattle.hd_carried.proofs.Turned.{told_of_given, told_of_more, turn_seen, turn_told, seen_all, seen_told, seen_said}

-- ---- what calls tell, the latest first

abbrev plain : Told → Told
plain (sends what full) = gives what
plain (gives what) = gives what
plain (hears what) = hears what

abbrev pub back : List Told → List Told
back [] = []
back (one ∷ told) = back told ++ plain one ∷ []

pub back_more : (told more : List Told) → back (told ++ more) ≡ back more ++ back told
back_more [] more = sym (append-nil (back more))
back_more (one ∷ told) more = ap (λ l. l ++ plain one ∷ []) (back_more told more) ∙ append_assoc (back more) (back told) (plain one ∷ [])

pub calls_back : (calls : List Call) → told_by_calls calls ≡ back (told_in_all calls)
calls_back [] = refl
calls_back (session.heard what answers ∷ calls) = ap (λ l. hears what ∷ l) (calls_back calls) ∙ sym (back_more (told_in_all calls) _)
calls_back (session.replied lane reply answers ∷ calls) = ap (λ l. gives (give.Reply lane reply) ∷ l) (calls_back calls) ∙ sym (back_more (told_in_all calls) _)
calls_back (session.sent lane bytes text full answers ∷ calls) = ap (λ l. gives (give.Bytes lane bytes text) ∷ l) (calls_back calls) ∙ sym (back_more (told_in_all calls) _)
calls_back (session.shut lane answers ∷ calls) = ap (λ l. gives (give.Shut lane) ∷ l) (calls_back calls) ∙ sym (back_more (told_in_all calls) _)
calls_back (session.wrote lane answers ∷ calls) = calls_back calls ∙ sym (back_more (told_in_all calls) [])

both_true : (a b : Bool) → a && b ≡ true → (a ≡ true) × (b ≡ true)
both_true true true e = (refl, refl)
both_true true false e = absurd (cc e)
both_true false b e = absurd (cc e)

-- calls that give tell what they give
given_back : (calls : List DoorCall) → AreGiving calls → back (told_in calls) ≡ told_of_given (given_in calls)
given_back [] a = refl
given_back (door.given what is_said ∷ calls) a = ap (λ l. l ++ gives what ∷ []) (given_back calls a)
given_back (door.sent what is_said full ∷ calls) a = ap (λ l. l ++ gives what ∷ []) (given_back calls a)
given_back (door.heard wait what ∷ calls) a = absurd (cc a)
given_back (door.flushed ∷ calls) a = absurd (cc a)
given_back (door.failed ask why ∷ calls) a = absurd (cc a)

giving_steady : (calls : List DoorCall) → AreGiving calls → list_all is_steady calls ≡ true
giving_steady [] a = refl
giving_steady (door.given what is_said ∷ calls) a = giving_steady calls a
giving_steady (door.sent what is_said full ∷ calls) a = giving_steady calls a
giving_steady (door.heard wait what ∷ calls) a = absurd (cc a)
giving_steady (door.flushed ∷ calls) a = absurd (cc a)
giving_steady (door.failed ask why ∷ calls) a = absurd (cc a)

pub steady_more : (calls more : List DoorCall) → list_all is_steady calls ≡ true → list_all is_steady more ≡ true → list_all is_steady (calls ++ more) ≡ true
steady_more [] more a b = b
steady_more (call ∷ calls) more a b =
    let c = both_true (is_steady call) (list_all is_steady calls) a in
    ap (λ x. x && list_all is_steady (calls ++ more)) c.0 ∙ steady_more calls more c.1 b

pub steady_first : (calls more : List DoorCall) → list_all is_steady (calls ++ more) ≡ true → list_all is_steady calls ≡ true
steady_first [] more a = refl
steady_first (call ∷ calls) more a =
    let c = both_true (is_steady call) (list_all is_steady (calls ++ more)) a in
    ap (λ x. x && list_all is_steady calls) c.0 ∙ steady_first calls more c.1

-- ---- the last call that told something

no_last : {A : Type 0} (xs : List A) (a : A) → [] ≡ xs ++ a ∷ [] → ⊥
no_last [] a e = absurd (cc e)
no_last (x ∷ xs) a e = absurd (cc e)

same_last : {A : Type 0} (xs ys : List A) (a b : A) → xs ++ a ∷ [] ≡ ys ++ b ∷ [] → (xs ≡ ys) × (a ≡ b)
same_last [] [] a b e = (refl, cc e)
same_last [] (y ∷ ys) a b e = absurd (no_last ys b (cc e))
same_last (x ∷ xs) [] a b e = absurd (no_last xs a (sym (cc e)))
same_last (x ∷ xs) (y ∷ ys) a b e =
    let rest = same_last xs ys a b (cc e) in
    let first : x ≡ y = cc e in
    (ap (λ l. x ∷ l) rest.0 ∙ ap (λ z. z ∷ ys) first, rest.1)

-- a session that told last that this was heard
abbrev HeardLast : Heard → List Told → Type 0
HeardLast e told = (answers : List Answer) × (calls : List Call) × (bound : ℕ) × (now : DoorState) × Session (session.heard e answers ∷ calls) bound now × (told_in_all calls ≡ told)

heard_last : (all : List Call) (bound : ℕ) (now : DoorState) (e : Heard) (told : List Told) → Session all bound now → told_in_all all ≡ told ++ hears e ∷ [] → HeardLast e told
heard_last [] bound now e told run is = absurd (no_last told (hears e) is)
heard_last (session.heard what answers ∷ calls) bound now e told run is =
    let k = same_last (told_in_all calls) told (hears what) (hears e) is in
    let same : what ≡ e = cc k.1 in
    (answers, calls, bound, now, subst (λ w. Session (session.heard w answers ∷ calls) bound now) same run, k.0)
heard_last (session.replied lane reply answers ∷ calls) bound now e told run is = absurd (let k = (same_last (told_in_all calls) told _ (hears e) is).1 in cc k)
heard_last (session.sent lane bytes text full answers ∷ calls) bound now e told run is = absurd (let k = (same_last (told_in_all calls) told _ (hears e) is).1 in cc k)
heard_last (session.shut lane answers ∷ calls) bound now e told run is = absurd (let k = (same_last (told_in_all calls) told _ (hears e) is).1 in cc k)
heard_last (session.wrote lane answers ∷ calls) bound now e told run is =
    heard_last calls run.0 run.1 e told run.2 (sym (append-nil (told_in_all calls)) ∙ is)

-- ---- one event

-- the latest comes first
turned : (e : Heard) (es before : List Heard) → reverse es ++ e ∷ before ≡ reverse (e ∷ es) ++ before
turned e es before = sym (ap (λ l. l ++ before) (reverse_onto es e []) ∙ append_assoc (reverse es) (e ∷ []) before)

abbrev pub Always : List ServerEvent → Type 0
Always after = Unit {0}

-- what was heard from a history on, and given; and what all of these calls are
pub record Ahead {Job : Type 0} (hub : Hub Job) (s : Setup) (cut : Bool) (whole : List DoorCall) (h : List ServerEvent) (before es : List Heard) (given : List Given) (full : List Bool) : Type 0 where
  pub awaited : AwaitedIn (back (told_in whole))
  pub steady : list_all is_steady whole ≡ true
  pub answered : List Heard
  pub rest : List Heard
  pub are : es ≡ answered ++ rest
  pub after : List ServerEvent
  pub serves : Serves hub s (reverse answered ++ before) after
  pub part : List Given
  pub gives_all : map given_as (said h) ++ given ≡ map given_as (said after) ++ part
  pub left : IsLeft hub s cut after rest part
  pub sights : List Bool
  pub sees : seen h ++ full ≡ seen after ++ sights
  pub each : length sights ≡ length (lanes_sent part)

module _ {W : Type 0} (Goes : NetDoor W → List DoorCall → NetDoor W → Type 0) (trace : W → Option (List Answer)) (bound : W → ℕ) {Job : Type 0}
    (sessions : CallsAreASession Goes trace bound) (split : CallsSplit Goes) (free : RequestsAreFree) (parts : PartsOfTurns) (answers_each : EachRequestIsAnswered Job)
    (hub : Hub Job) (s : Setup) (end : ServeEnd) (start now : NetDoor W) (whole : List DoorCall) (started : IsStarted start) (goes : Goes start whole now) where
  -- what holds once these calls were made
  record Point (done : List DoorCall) (before : List Heard) (h : List ServerEvent) : Type 0 where
    serves : Serves hub s before h
    tells : told_by_server h ≡ back (told_in done)
    steady : list_all is_steady done ≡ true

  comes_free : (done more : List DoorCall) (before : List Heard) (h : List ServerEvent) (wait : ℕ) (e : Heard) → Point done before h
      → whole ≡ done ++ door.heard wait e ∷ more → IsFree e.event h
  comes_free done more before h wait e p is_whole = by_event e.event refl where
    request_free : (lane : ℕ) (r : Request) → e.event ≡ event.Request lane r → IsFree (event.Request lane r) h
    request_free lane r is =
        let parted = split start now (done ++ door.heard wait e ∷ []) more (subst (λ l. Goes start l now) (is_whole ∙ sym (append_assoc done (door.heard wait e ∷ []) more)) goes) in
        let all = sessions (done ++ door.heard wait e ∷ []) start parted.0 parted.1 started (steady_more done (door.heard wait e ∷ []) p.steady refl) in
        let told : told_in_all all.0 ≡ told_in done ++ hears e ∷ [] = all.2 ∙ flat_map-append told_of done (door.heard wait e ∷ []) in
        let last = heard_last all.0 (bound parted.0.wires) (state_of parted.0) e (told_in done) all.1 told in
        let same : told_by_calls last.1 ≡ told_by_server h = calls_back last.1 ∙ ap back last.5 ∙ sym p.tells in
        let awaited = all_awaited last.1 h same (answers_each hub s before h p.serves).0 in
        let k = free e last.0 last.1 last.2 last.3 last.4 awaited lane r is in
        let known = lanes_are_known last.1 h same lane in
        (known.1 ∙ k.1, known.0 ∙ k.0)

    by_event : (x : Event) → e.event ≡ x → IsFree x h
    by_event (event.Request lane r) is = request_free lane r is
    by_event (event.Refused lane refusal) is = tt
    by_event (event.Bytes lane bytes) is = tt
    by_event (event.Response lane status body) is = tt
    by_event (event.Upgraded lane) is = tt
    by_event (event.Lost lane) is = tt
    by_event (event.Drained lane) is = tt
    by_event event.Quiet is = tt

  -- an event that is answered, and what is seen of the answer
  one_served : (h mid after : List ServerEvent) (e : Heard) (own : List Given) (sights : List Bool) → IsAnswered hub s h e mid own → IsSeen own sights mid after
      → ServesOne hub s e h after
  one_served h mid after e own sights answer sees = record {
    turned = mid;
    turn = answer.turn;
    words = answer.new;
    tells = answer.tells;
    full = sights;
    seen = subst (λ l. IsSeen l sights mid after) answer.gives sees;
  }

  -- what the calls of an event tell, after those before
  event_told : (done own : List DoorCall) (h : List ServerEvent) (wait : ℕ) (e : Heard) → told_by_server h ≡ back (told_in done) → AreGiving own
      → back (told_in (done ++ door.heard wait e ∷ own)) ≡ told_of_given (given_in own) ++ hears e ∷ told_by_server h
  event_told done own h wait e tells giving =
      ap back (flat_map-append told_of done (door.heard wait e ∷ own)) ∙ back_more (told_in done) (hears e ∷ told_in own)
      ∙ append_assoc (back (told_in own)) (hears e ∷ []) (back (told_in done))
      ∙ ap (λ l. back (told_in own) ++ hears e ∷ l) (sym tells) ∙ ap (λ l. l ++ hears e ∷ told_by_server h) (given_back own giving)

  next_point : (done own : List DoorCall) (before : List Heard) (h mid after : List ServerEvent) (wait : ℕ) (e : Heard) → Point done before h → moment h ≤ e.now → IsFree e.event h
      → AreGiving own → IsAnswered hub s h e mid (given_in own) → IsSeen (given_in own) (full_in own) mid after
      → Point (done ++ door.heard wait e ∷ own) (e ∷ before) after
  next_point done own before h mid after wait e p later may giving answer sees = record {
    serves = (h, p.serves, (later, may), one_served h mid after e (given_in own) (full_in own) answer sees);
    tells = seen_told (given_in own) (full_in own) mid after sees ∙ turn_told parts hub s e h mid answer.new answer.turn answer.tells
        ∙ ap (λ l. told_of_given l ++ hears e ∷ told_by_server h) (sym answer.gives) ∙ sym (event_told done own h wait e p.tells giving);
    steady = steady_more done (door.heard wait e ∷ own) p.steady (giving_steady own giving);
  }

  -- an event that is answered, and those after it
  one_more : (h mid after : List ServerEvent) (e : Heard) (before es : List Heard) (own rest more : List DoorCall) → more ≡ own ++ rest
      → IsAnswered hub s h e mid (given_in own) → IsSeen (given_in own) (full_in own) mid after
      → Ahead hub s (is_cut end) whole after (e ∷ before) es (given_in rest) (full_in rest) → Ahead hub s (is_cut end) whole h before (e ∷ es) (given_in more) (full_in more)
  one_more h mid after e before es own rest more are answer sees last = record {
    awaited = last.awaited;
    steady = last.steady;
    answered = e ∷ last.answered;
    rest = last.rest;
    are = ap (λ l. e ∷ l) last.are;
    after = last.after;
    serves = subst (λ l. Serves hub s l last.after) (turned e last.answered before) last.serves;
    part = last.part;
    gives_all = ap (λ l. map given_as (said h) ++ given_in l) are
        ∙ ap (λ l. map given_as (said h) ++ l) (flat_map-append given_of own rest) ∙ sym (append_assoc (map given_as (said h)) (given_in own) (given_in rest))
        ∙ ap (λ l. l ++ given_in rest) (ap (λ l. map given_as (said h) ++ l) answer.gives ∙ sym (map-append given_as (said h) answer.new)
        ∙ sym (ap (map given_as) (seen_said (given_in own) (full_in own) mid after sees ∙ answer.tells)))
        ∙ last.gives_all;
    left = last.left;
    sights = last.sights;
    sees = ap (λ l. seen h ++ full_in l) are ∙ ap (λ l. seen h ++ l) (flat_map-append full_of own rest) ∙ sym (append_assoc (seen h) (full_in own) (full_in rest))
        ∙ ap (λ l. l ++ full_in rest) (ap (λ l. l ++ full_in own) (sym (turn_seen parts hub s e h mid answer.turn)) ∙ sym (seen_all (given_in own) (full_in own) mid after sees))
        ∙ last.sees;
    each = last.each;
  }

  -- whatever is answered to the messages of a turn, each of its replies was awaited
  turn_awaited : (before : List Heard) (h turned : List ServerEvent) (e : Heard) (own : List Given) → Serves hub s before h → moment h ≤ e.now → IsFree e.event h → IsAnswered hub s h e turned own
      → AwaitedIn (told_of_given own ++ hears e ∷ told_by_server h)
  turn_awaited before h mid e own serves later may answer =
      let full = map (λ (lane : ℕ). false) (lanes_sent own) in
      let after = seeing (lanes_sent own) full mid in
      let sees : IsSeen own full mid after = record { each = length-map (lanes_sent own) (λ (lane : ℕ). false); sees = refl } in
      let all = (answers_each hub s (e ∷ before) after (h, serves, (later, may), one_served h mid after e own full answer sees)).0 in
      let told : told_by_server after ≡ told_of_given own ++ hears e ∷ told_by_server h =
      seen_told own full mid after sees ∙ turn_told parts hub s e h mid answer.new answer.turn answer.tells
      ∙ ap (λ l. told_of_given l ++ hears e ∷ told_by_server h) (sym answer.gives) in
      subst AwaitedIn told (server_awaited after all)

  -- an event that is answered in part
  part_awaited : (before : List Heard) (h : List ServerEvent) (e : Heard) (calls : List DoorCall) → Serves hub s before h → moment h ≤ e.now → IsFree e.event h → AreGiving calls
      → IsAnsweredInPart hub s h e (given_in calls) → AwaitedIn (told_of_given (given_in calls) ++ hears e ∷ told_by_server h)
  part_awaited before h e calls serves later may giving (inl none) =
      subst (λ l. AwaitedIn (told_of_given l ++ hears e ∷ told_by_server h)) (sym none) (server_awaited h (answers_each hub s before h serves).0)
  part_awaited before h e calls serves later may giving (inr (turned, all, answer, begins)) =
      let here = turn_awaited before h turned e all serves later may answer in
      awaited_before (told_of_given begins.0) (told_of_given (given_in calls) ++ hears e ∷ told_by_server h)
      (subst AwaitedIn (ap (λ l. told_of_given l ++ hears e ∷ told_by_server h) (sym begins.1) ∙ ap (λ l. l ++ hears e ∷ told_by_server h) (told_of_more (given_in calls) begins.0)
      ∙ append_assoc (told_of_given begins.0) (told_of_given (given_in calls)) (hears e ∷ told_by_server h)) here)

  -- how the last event is answered, by how serving ends
  cut_part : (x : ServeEnd) (h : List ServerEvent) (e : Heard) (calls : List DoorCall) → IsCutShort hub s x Always Always h e calls
      → (is_cut x ≡ true) × AreGiving calls × IsAnsweredInPart hub s h e (given_in calls) × (length (full_in calls) ≡ length (lanes_sent (given_in calls)))
  cut_part all_answered h e calls k = absurd k
  cut_part (at_door (to_hear wait) why) h e calls k = absurd k
  cut_part (at_door (to_say next) why) h e calls k =
      (refl, k.4, inr (k.0, k.2, k.3, (next ∷ k.5.0, sym (append_assoc (given_in calls) (next ∷ []) k.5.0) ∙ k.5.1)), k.6.each)
  cut_part in_step h e calls k = (refl, subst AreGiving (sym k.0) refl, inl (ap given_in k.0), subst (λ l. length (full_in l) ≡ length (lanes_sent (given_in l))) (sym k.0) refl)

  -- the last event, which is answered in part
  last_one : (done : List DoorCall) (h : List ServerEvent) (e : Heard) (before es : List Heard) (calls : List DoorCall) → Point done before h → whole ≡ done ++ door.heard (wait_for h) e ∷ calls
      → moment h ≤ e.now → IsFree e.event h → es ≡ [] → IsCutShort hub s end Always Always h e calls → Ahead hub s (is_cut end) whole h before (e ∷ es) (given_in calls) (full_in calls)
  last_one done h e before es calls p is_whole later may none short =
      let k = cut_part end h e calls short in
      record {
        awaited = subst AwaitedIn (sym (ap (λ l. back (told_in l)) is_whole ∙ event_told done calls h (wait_for h) e p.tells k.1)) (part_awaited before h e calls p.serves later may k.1 k.2);
        steady = ap (list_all is_steady) is_whole ∙ steady_more done (door.heard (wait_for h) e ∷ calls) p.steady (giving_steady calls k.1);
        answered = [];
        rest = e ∷ es;
        are = refl;
        after = h;
        serves = p.serves;
        part = given_in calls;
        gives_all = refl;
        left = (k.0, none, (later, may), k.2);
        sights = full_in calls;
        sees = refl;
        each = k.3;
      }

  ahead : (done : List DoorCall) (before : List Heard) (h : List ServerEvent) (es : List Heard) (calls : List DoorCall) → Point done before h → whole ≡ done ++ calls
      → ServesOn hub s end Always Always h es calls → Ahead hub s (is_cut end) whole h before es (given_in calls) (full_in calls)
  ahead done before h [] calls p is_whole on =
      let all : whole ≡ done = is_whole ∙ ap (λ l. done ++ l) on.0 ∙ append-nil done in
      record {
        awaited = subst AwaitedIn (p.tells ∙ sym (ap (λ l. back (told_in l)) all)) (server_awaited h (answers_each hub s before h p.serves).0);
        steady = ap (list_all is_steady) all ∙ p.steady;
        answered = [];
        rest = [];
        are = refl;
        after = h;
        serves = p.serves;
        part = [];
        gives_all = ap (λ l. map given_as (said h) ++ given_in l) on.0;
        left = refl;
        sights = [];
        sees = ap (λ l. seen h ++ full_in l) on.0;
        each = refl;
      }
  ahead done before h (e ∷ es) calls p is_whole (more, are, later, answers) =
      let to_here : whole ≡ done ++ door.heard (wait_for h) e ∷ more = is_whole ∙ ap (λ l. done ++ l) are in
      let may = comes_free done more before h (wait_for h) e p to_here in
      subst (λ l. Ahead hub s (is_cut end) whole h before (e ∷ es) (given_in l) (full_in l)) (sym are) (elim (answers may) [
        | inl (mid, after, own, rest, parted, giving, answer, sees, on) ↦ one_more h mid after e before es own rest more parted answer sees
            (ahead (done ++ door.heard (wait_for h) e ∷ own) (e ∷ before) after es rest (next_point done own before h mid after (wait_for h) e p later may giving answer sees)
            (to_here ∙ ap (λ l. done ++ door.heard (wait_for h) e ∷ l) parted ∙ sym (append_assoc done (door.heard (wait_for h) e ∷ own) rest)) on)
        | inr (none, short) ↦ last_one done h e before es more p to_here later may none short
      ])

-- what all calls of a server are that did nothing before, over a door that was just started
pub all_ahead : {W : Type 0} (Goes : NetDoor W → List DoorCall → NetDoor W → Type 0) (trace : W → Option (List Answer)) (bound : W → ℕ) {Job : Type 0}
    → CallsAreASession Goes trace bound → CallsSplit Goes → RequestsAreFree → PartsOfTurns → EachRequestIsAnswered Job
    → (hub : Hub Job) (s : Setup) (end : ServeEnd) (calls : List DoorCall) (start now : NetDoor W) → IsStarted start → Goes start calls now
    → ServesOn hub s end Always Always [] (heard_in calls) calls → Ahead hub s (is_cut end) calls [] [] (heard_in calls) (given_in calls) (full_in calls)
all_ahead Goes trace bound sessions split free parts answers_each hub s end calls start now started goes on =
    ahead Goes trace bound sessions split free parts answers_each hub s end start now calls started goes [] [] [] (heard_in calls) calls
    (record { serves = refl; tells = refl; steady = refl }) refl on

pub has_answered : {Job : Type 0} (hub : Hub Job) (s : Setup) (cut : Bool) (calls : List DoorCall) → Ahead hub s cut calls [] [] (heard_in calls) (given_in calls) (full_in calls)
    → HasAnswered hub s cut (heard_in calls) (given_in calls) (full_in calls)
has_answered hub s cut calls all = record {
  answered = all.answered;
  rest = all.rest;
  are = all.are;
  after = all.after;
  serves = subst (λ l. Serves hub s l all.after) (append-nil (reverse all.answered)) all.serves;
  part = all.part;
  gives = all.gives_all;
  left = all.left;
  sights = all.sights;
  sees = all.sees;
  each = all.each;
}

pub requests_come_free : {W : Type 0} (Goes : NetDoor W → List DoorCall → NetDoor W → Type 0) (trace : W → Option (List Answer)) (bound : W → ℕ) {Job : Type 0}
    → CallsAreASession Goes trace bound → CallsSplit Goes → RequestsAreFree → PartsOfTurns → EachRequestIsAnswered Job → RequestsComeFree Goes Job
requests_come_free Goes trace bound sessions split free parts answers_each hub s end calls start now started goes on =
    has_answered hub s (is_cut end) calls (all_ahead Goes trace bound sessions split free parts answers_each hub s end calls start now started goes on)
