-- What is done about an event is noted in order: the table lets through only what may be noted.
use Rattle.std.proofs.Common.{refl, ap, subst, sym, ◌∙◌, ◌≡◌, ℕ, suc, ◌<◌, Bool, true, false, List, [], ◌∷◌, ◌++◌, Option, Some, None, if◌then◌else◌}
use Rattle.std.specs.Prelude.{◌==◌, not, is_some, find, option_map, unwrap_or, ◌&&◌, ◌||◌}
use Rattle.std.proofs.lemmas.Bool.{eq-eqb, or_left, or_right}
use Rattle.hw_lanes.specs.declared.http.Method.{Method}
use Rattle.hw_lanes.specs.declared.http.Method.TheVariants.{Get, Post, Delete, Other}
use Rattle.hw_lanes.specs.declared.http.Request.{Request}
use Rattle.hd_delivery.specs.declared.vocabulary.Reason.TheVariants as reason
use Rattle.hd_delivery.specs.Histories.{Detached, is_this}
use Rattle.hw_door.specs.declared.heard.Event.{Event}
use Rattle.hw_door.specs.declared.heard.Event.TheVariants as event
use Rattle.hd_server.specs.declared.vocabulary.Life.{Life}
use Rattle.hd_server.specs.declared.vocabulary.Life.TheVariants.{Unknown, Fresh, Socket, Lost, Polling, Ending}
use Rattle.hd_server.specs.Lives.{Negotiated, Opened, Socketed, Polled, Answered, HasRoom, gives_way, is_known, is_busy, is_resumable_promise, life_of_some, made, numbers_to, poll_of, socket_of}
use Rattle.hd_server.specs.Numbers.{most_connections}
use Rattle.hd_server.specs.Texts.{token_of, negotiate_body}
use Rattle.hd_server.specs.Table.{Facts, Outcome, Refusal, NewToken, PlainSocket, TokenSocket, FirstPoll, NextPoll, LastPoll, Posting, Deletion, is_base, is_negotiate, is_socket, has_id, has_version, same_method, is_entry, is_unauthorized, is_keepers_fault, socket_outcome, poll_outcome, post_outcome, delete_outcome, method_outcome, named_outcome, outcome}
use Rattle.hd_server.specs.Machine.{connections, greatest, is_there}
use Rattle.hd_server.specs.Doings.{ServerEvent, Notes, notes, work, Learns, Draws}
use Rattle.hd_server.specs.Plans.{Setup, onto, step, connecting, attaching, closing, removing_conn, bare_reply, socket_reply, token_reply, refusal_reply, replying, ending_poll, ending_held, questions, standing_on, shutting_some, request_plan, conn_on, poller_on, losing, losing_lane, named_conn, facts, plan, giving_way, removing_some}
use Rattle.hd_server.specs.Serves.{IsFed}
use Rattle.hd_server.specs.Parts.{Each, IsQuestion}
use Rattle.hd_server.proofs.PartsOfTurns.{questions_are}
use Rattle.hd_server.proofs.Each.{either_way, each_so, each_shutting_some, each_replying, each_closing, each_move}
use Rattle.hd_server.proofs.Flushing.{is_in}
use Rattle.hd_server.proofs.OrderlyNotes.{Known, known_of_life}
use Rattle.hd_server.proofs.OrderlyDoings.{Settled, Parted, Lively, quiet_settled, quiet_settled_after, quiet_notes_after, quiet_lively, in_turn, socketing, polling, answering, lane_losing, connects, connecting_notes, negotiating, opening, opened_known, IsQuiet}
use Rattle.hd_server.proofs.GivingWay.{either_room, has_room, makes_room, not_last, removed_so, unused}
use Rattle.hd_server.proofs.OrderlyEach.{Keeps, keeps_quiet, keeps_both, keeps_answer, keeps_none, fits_after, fits_leaving, fits_losing, passes}

-- ---- the table

-- a new connection is made where there is room; and a token is used whose life is known
abbrev IsRight : Life → Bool → Outcome → Type 0
IsRight life busy (Refusal status) = Unit {0}
IsRight life busy (NewToken reconnect) = busy ≡ false
IsRight life busy PlainSocket = busy ≡ false
IsRight life busy TokenSocket = is_known life ≡ true
IsRight life busy FirstPoll = is_known life ≡ true
IsRight life busy NextPoll = is_known life ≡ true
IsRight life busy LastPoll = is_known life ≡ true
IsRight life busy Posting = Unit {0}
IsRight life busy Deletion = is_known life ≡ true

pub row : (P : Outcome → Type 0) (b : Bool) (x y : Outcome) → (b ≡ true → P x) → (b ≡ false → P y) → P (if b then x else y)
row P true x y p q = p refl
row P false x y p q = q refl

socket_right : (life : Life) (granted busy : Bool) → IsRight life busy (socket_outcome life granted)
socket_right Unknown granted busy = tt
socket_right Fresh granted busy = refl
socket_right (Socket lane) true busy = refl
socket_right (Socket lane) false busy = tt
socket_right Lost granted busy = refl
socket_right Polling granted busy = tt
socket_right Ending granted busy = tt

poll_right : (life : Life) (busy : Bool) → IsRight life busy (poll_outcome life)
poll_right Unknown busy = tt
poll_right Fresh busy = refl
poll_right (Socket lane) busy = tt
poll_right Lost busy = tt
poll_right Polling busy = refl
poll_right Ending busy = refl

post_right : (life : Life) (busy : Bool) → IsRight life busy (post_outcome life)
post_right Unknown busy = tt
post_right Fresh busy = tt
post_right (Socket lane) busy = tt
post_right Lost busy = tt
post_right Polling busy = tt
post_right Ending busy = tt

delete_right : (life : Life) (busy : Bool) → IsRight life busy (delete_outcome life)
delete_right Unknown busy = tt
delete_right Fresh busy = refl
delete_right (Socket lane) busy = tt
delete_right Lost busy = tt
delete_right Polling busy = refl
delete_right Ending busy = refl

method_right : (m : Method) (life : Life) (busy : Bool) → IsRight life busy (method_outcome m life)
method_right Get life busy = poll_right life busy
method_right Post life busy = post_right life busy
method_right Delete life busy = delete_right life busy
method_right Other life busy = tt

named_right : (r : Request) (f : Facts) → IsRight f.life f.busy (named_outcome r f)
named_right r f =
    either_way (IsRight f.life f.busy) (is_socket r) (socket_outcome f.life f.granted) (method_outcome r.method f.life)
    (socket_right f.life f.granted f.busy) (method_right r.method f.life f.busy)

token_room : (negotiates posts versioned other busy : Bool) → (negotiates && not posts) ≡ false → (negotiates && not versioned) ≡ false
    → (((negotiates && (posts && versioned)) || other) && busy) ≡ false → negotiates ≡ true → busy ≡ false
token_room true true true other busy e f g here = g
token_room true true false other busy e f g here = absurd (cc)
token_room true false versioned other busy e f g here = absurd (cc)
token_room false posts versioned other busy e f g here = absurd (cc)

plain_room : (based negotiates other opens busy : Bool) → not (based || negotiates) ≡ false → negotiates ≡ false → opens ≡ true
    → (((negotiates && other) || (based && opens)) && busy) ≡ false → busy ≡ false
plain_room true false other true busy e f here g = g
plain_room true false other false busy e f here g = absurd (cc)
plain_room false false other opens busy e f here g = absurd (cc)
plain_room based true other opens busy e f here g = absurd (cc)

outcome_right : (base : List ℕ) (r : Request) (f : Facts) → IsRight f.life f.busy (outcome base r f)
outcome_right base r f =
    row (IsRight f.life f.busy) (not (is_base base r || is_negotiate base r)) _ _ (λ e. tt) (λ at_one.
    row (IsRight f.life f.busy) (is_negotiate base r && not (same_method r.method Post)) _ _ (λ e. tt) (λ posts.
    row (IsRight f.life f.busy) (is_negotiate base r && not (has_version r)) _ _ (λ e. tt) (λ versioned.
    row (IsRight f.life f.busy) (is_entry base r && is_unauthorized f.caller) _ _ (λ e. tt) (λ named.
    row (IsRight f.life f.busy) (is_entry base r && is_keepers_fault f.caller) _ _ (λ e. tt) (λ told.
    row (IsRight f.life f.busy) (is_entry base r && f.busy) _ _ (λ e. tt) (λ room.
    row (IsRight f.life f.busy) (is_negotiate base r && f.lots_failed) _ _ (λ e. tt) (λ drawn.
    row (IsRight f.life f.busy) (is_negotiate base r) _ _
    (λ here. token_room (is_negotiate base r) (same_method r.method Post) (has_version r)
    (is_base base r && (is_socket r && not (has_id r))) f.busy posts versioned room here) (λ elsewhere.
    row (IsRight f.life f.busy) (is_socket r && not (has_id r)) _ _
    (λ here. plain_room (is_base base r) (is_negotiate base r) (same_method r.method Post && has_version r)
    (is_socket r && not (has_id r)) f.busy at_one elsewhere here room) (λ no_socket.
    row (IsRight f.life f.busy) (same_method r.method Other) _ _ (λ e. tt) (λ method.
    row (IsRight f.life f.busy) (not (has_id r)) _ _ (λ e. tt) (λ id. named_right r f)))))))))))

-- ---- food

fed_settled : {most : ℕ} (now : ℕ) (o : Option (ℕ × List ℕ)) (h after : List ServerEvent) → IsFed now o h after → Settled most now h → Settled most now after
fed_settled {most} now None h after e s = subst (Settled most now) (sym e) s
fed_settled {most} now (Some f) h after one s = subst (Settled most now) (sym one.are) (quiet_settled_after now _ h (each_move IsQuiet f.0 one.moves (λ m. tt)) s)

fed_notes : (now : ℕ) (o : Option (ℕ × List ℕ)) (h after : List ServerEvent) → IsFed now o h after → notes after ≡ notes h
fed_notes now None h after e = ap notes e
fed_notes now (Some f) h after one = ap notes one.are ∙ quiet_notes_after _ h (each_move IsQuiet f.0 one.moves (λ m. tt))

-- ---- requests

abbrev IsLive : ℕ → ℕ → ℕ → List ServerEvent → Type 0
IsLive most now c g = Settled most now g × Known c (notes g)

begins : {most : ℕ} (now c : ℕ) (s : Setup) (reconnect : Bool) (h g : List ServerEvent) → IsLive most now c g
    → IsLive most now c (onto (connecting s c reconnect h ++ attaching c now h) g)
begins {most} now c s reconnect h g live =
    let begun : IsLive most now c (onto (connecting s c reconnect h) g)
    = (connects now c g live.0 live.1 s reconnect h, subst (Known c) (sym (connecting_notes c s reconnect h g)) live.1) in
    in_turn (IsLive most now c) (connecting s c reconnect h) (attaching c now h) g
    (quiet_settled now (attaching c now h) (onto (connecting s c reconnect h) g) (tt, tt) begun.0, begun.1)

stands : {most : ℕ} (now lane c : ℕ) (r : Request) (s : Setup) (reconnect : Bool) (h g : List ServerEvent) → IsLive most now c g
    → Settled most now (onto (standing_on s (record { now = now; lane = lane; request = r }) c reconnect h) g)
stands {most} now lane c r s reconnect h g live =
    let x : List ServerEvent = onto (connecting s c reconnect h ++ attaching c now h) g in
    let begun : IsLive most now c x = begins now c s reconnect h g live in
    let reply = replying lane (socket_reply r.upgrade) h in
    in_turn (Settled most now) (connecting s c reconnect h ++ attaching c now h) (Notes (Socketed c lane now) ∷ reply) g
    (quiet_settled now reply (Notes (Socketed c lane now) ∷ x) (each_replying IsQuiet lane (socket_reply r.upgrade) h tt tt)
    (socketing now c x begun.0 begun.1 lane).settled)

poll_ends : {most : ℕ} (c now : ℕ) (o : Option (ℕ × ℕ)) (h : List ServerEvent) → Keeps most now c (ending_poll c now o h)
poll_ends c now None h = keeps_none now c
poll_ends c now (Some poll) h =
    keeps_both now c (replying poll.0 (bare_reply 204) h) (Notes (Answered c poll.0 now) ∷ [])
    (keeps_quiet now c (replying poll.0 (bare_reply 204) h) (each_replying IsQuiet poll.0 (bare_reply 204) h tt tt)) (keeps_answer now c poll.0)

-- after one gave way there is room, unless the server is busy
pub gave_way : (s : Setup) (now : ℕ) (h : List ServerEvent) → Settled s.live now h → Settled s.live now (onto (giving_way s now h) h)
gave_way s now h ok =
    either_room (Settled s.live now) (gives_way s.live now (notes h)) h h ok
    (λ c e. (fits_leaving now c h h ok (known_of_life c now (notes h) (unused s.live now (notes h) c e).known) refl).settled)

abbrev Room : Setup → ℕ → List ServerEvent → Type 0
Room s now g = HasRoom s.live now (suc (made (notes g))) (notes g)

room_for_next : (s : Setup) (now : ℕ) (h : List ServerEvent) → Settled s.live now h → is_busy s.live now (notes h) ≡ false
    → Room s now (onto (giving_way s now h) h)
room_for_next s now h ok free = by (gives_way s.live now (notes h)) refl where
  few : made (notes h) < most_connections
  few = not_last s.live now (notes h) free

  by : (o : Option ℕ) → gives_way s.live now (notes h) ≡ o → Room s now (onto (removing_some o h) h)
  by None e = record { next = refl; not_full = has_room s.live now (notes h) free e; not_last = few }
  by (Some c) e =
      let room = makes_room s.live now (notes h) ok.in_order ok.not_later c e in
      removed_so (Room s now) c h h (record { next = refl; not_full = room; not_last = few }) (record { next = refl; not_full = room; not_last = few })

module _ (s : Setup) (now lane : ℕ) (r : Request) (drawn : Option (List ℕ)) (c : ℕ) (h : List ServerEvent) (ok : Settled s.live now h) where
  deletes : Known c (notes h) → Settled s.live now (onto (ending_held c now h ++ closing c reason.Done h ++ removing_conn c h ++ replying lane (bare_reply 202) h) h)
  deletes k =
      let ended : List ServerEvent = ending_held c now h ++ closing c reason.Done h in
      let keeps : Keeps s.live now c ended
      = keeps_both now c (ending_held c now h) (closing c reason.Done h) (poll_ends c now (poll_of c (notes h)) h)
      (keeps_quiet now c (closing c reason.Done h) (each_closing IsQuiet c reason.Done h tt)) in
      let left : Parted s.live now c h (onto (ended ++ removing_conn c h) h) = fits_after now c h ended (removing_conn c h) keeps (fits_leaving now c h) h ok k refl in
      in_turn (Settled s.live now) (ended ++ removing_conn c h) (replying lane (bare_reply 202) h) h
      (quiet_settled now (replying lane (bare_reply 202) h) (onto (ended ++ removing_conn c h) h) (each_replying IsQuiet lane (bare_reply 202) h tt tt) left.settled)

  request_settled : (life : Life) (busy : Bool) → (is_known life ≡ true → Known c (notes h)) → (busy ≡ false → is_busy s.live now (notes h) ≡ false)
      → (out : Outcome) → IsRight life busy out → (fed : List ServerEvent)
      → IsFed now (request_plan s (record { now = now; lane = lane; request = r }) drawn c h out).food
      (onto (request_plan s (record { now = now; lane = lane; request = r }) drawn c h out).first h) fed
      → Settled s.live now (onto (request_plan s (record { now = now; lane = lane; request = r }) drawn c h out).last fed)
  request_settled life busy known room (Refusal status) right fed e =
      subst (Settled s.live now) (sym e) (quiet_settled now (replying lane (refusal_reply s.base r status) h) h (each_replying IsQuiet lane (refusal_reply s.base r status) h tt tt) ok)
  request_settled life busy known room (NewToken reconnect) right fed e =
      let g : List ServerEvent = onto (giving_way s now h) h in
      let k : ℕ = suc (made (notes g)) in
      let token : List ℕ = token_of (unwrap_or drawn []) k in
      let reply : List ServerEvent = replying lane (token_reply (negotiate_body k token reconnect)) g in
      subst (Settled s.live now) (sym e)
      (in_turn (Settled s.live now) (giving_way s now h) (Notes (Negotiated k token reconnect now) ∷ reply) h
      (quiet_settled now reply (Notes (Negotiated k token reconnect now) ∷ g) (each_replying IsQuiet lane (token_reply (negotiate_body k token reconnect)) g tt tt)
      (negotiating now g (gave_way s now h ok) (room_for_next s now h ok (room right)) token reconnect)))
  request_settled life busy known room PlainSocket right fed e =
      let g : List ServerEvent = onto (giving_way s now h) h in
      let k : ℕ = suc (made (notes g)) in
      let x : List ServerEvent = Notes (Opened k now) ∷ g in
      let ok_g = gave_way s now h ok in
      let free = room_for_next s now h ok (room right) in
      subst (Settled s.live now) (sym e)
      (in_turn (Settled s.live now) (giving_way s now h) (Notes (Opened k now) ∷ standing_on s (record { now = now; lane = lane; request = r }) k false x) h
      (stands now lane k r s false x x (opening now g ok_g free, opened_known now g ok_g free)))
  request_settled life busy known room TokenSocket right fed e =
      let shut : List ServerEvent = shutting_some (socket_of c (notes h)) h in
      let after_it : Lively s.live now c h (onto shut h) = quiet_lively now c shut h (each_shutting_some IsQuiet (socket_of c (notes h)) h (λ l. tt)) ok (known right) in
      subst (Settled s.live now) (sym e)
      (in_turn (Settled s.live now) shut (standing_on s (record { now = now; lane = lane; request = r }) c (is_resumable_promise c (notes h)) h) h
      (stands now lane c r s (is_resumable_promise c (notes h)) h (onto shut h) (after_it.settled, after_it.known)))
  request_settled life busy known room FirstPoll right fed e =
      let begun : List ServerEvent = onto (connecting s c false h ++ attaching c now h) h in
      let live : IsLive s.live now c begun = begins now c s false h h (ok, known right) in
      let ate : Settled s.live now fed = fed_settled now (Some (c, [])) begun fed e live.0 in
      let still : Known c (notes fed) = subst (Known c) (sym (fed_notes now (Some (c, [])) begun fed e)) live.1 in
      let polls = polling now c fed ate still lane in
      let answers = answering now c (Notes (Polled c lane now) ∷ fed) polls.settled polls.known lane in
      quiet_settled now (replying lane (bare_reply 200) h) (Notes (Answered c lane now) ∷ Notes (Polled c lane now) ∷ fed)
      (each_replying IsQuiet lane (bare_reply 200) h tt tt) answers.settled
  request_settled life busy known room NextPoll right fed e =
      let begun : List ServerEvent = onto (ending_held c now h) h in
      let live : Lively s.live now c h begun = poll_ends c now (poll_of c (notes h)) h h ok (known right) in
      let ate : Settled s.live now fed = fed_settled now (Some (c, [])) begun fed e live.settled in
      let still : Known c (notes fed) = subst (Known c) (sym (fed_notes now (Some (c, [])) begun fed e)) live.known in
      (polling now c fed ate still lane).settled
  request_settled life busy known room LastPoll right fed e = subst (Settled s.live now) (sym e) (polling now c h ok (known right) lane).settled
  request_settled life busy known room Posting right fed e =
      quiet_settled now (replying lane (bare_reply 200) h) fed (each_replying IsQuiet lane (bare_reply 200) h tt tt) (fed_settled now (Some (c, r.body)) h fed e ok)
  request_settled life busy known room Deletion right fed e = subst (Settled s.live now) (sym e) (deletes (known right))

-- the connection that is named is known if its life is
pub named_known : (o : Option ℕ) (now : ℕ) (h : List ServerEvent) → is_known (life_of_some o now (notes h)) ≡ true → Known (unwrap_or o 0) (notes h)
named_known None now h e = absurd (cc)
named_known (Some c) now h e = known_of_life c now (notes h) e

-- ---- lanes that are lost

found_in : (p : ℕ → Bool) (xs : List ℕ) (c : ℕ) → find p xs ≡ Some c → is_in c xs ≡ true
found_in p [] c e = absurd (cc)
found_in p (x ∷ xs) c e = by (p x) e (found_in p xs c) where
  by : (b : Bool) → (if b then Some x else find p xs) ≡ Some c → (find p xs ≡ Some c → is_in c xs ≡ true) → is_in c (x ∷ xs) ≡ true
  by true f further = let here : c ≡ x = cc in or_left (c == x) (is_in c xs) (eq-eqb c x here)
  by false f further = or_right (c == x) (is_in c xs) (further f)

found_known : {most : ℕ} (now : ℕ) (h : List ServerEvent) → Settled most now h → (p : ℕ → Bool) (c : ℕ) → find p (connections (work h)) ≡ Some c → Known c (notes h)
found_known now h ok p c e =
    ok.peers c (passes (λ k. is_there k (work h)) c (numbers_to (greatest (work h))) (found_in p (connections (work h)) c e))

module _ {most : ℕ} (now lane : ℕ) (h : List ServerEvent) (ok : Settled most now h) where
  losing_settled : (a b : Option ℕ) → conn_on lane h ≡ a → poller_on lane h ≡ b → Settled most now (onto (losing_lane a b lane now h) h)
  losing_settled (Some c) b e f =
      let k : Known c (notes h) = found_known now h ok (λ c. is_this lane (socket_of c (notes h))) c e in
      (fits_after now c h (step c (Detached now) ∷ []) (losing c lane now h)
      (keeps_quiet now c (step c (Detached now) ∷ []) (tt, tt)) (fits_losing now c lane h) h ok k refl).settled
  losing_settled None (Some c) e f =
      let k : Known c (notes h) = found_known now h ok (λ c. is_this lane (option_map (λ poll. poll.0) (poll_of c (notes h)))) c f in
      (lane_losing now c h ok k lane).settled
  losing_settled None None e f = ok

-- ---- any event

pub plan_settled : (s : Setup) (now : ℕ) (e : Event) (name : Option (Option (List ℕ))) (drawn : Option (List ℕ)) (h fed : List ServerEvent) → Settled s.live now h
    → IsFed now (plan s now e name drawn h).food (onto (plan s now e name drawn h).first h) fed → Settled s.live now (onto (plan s now e name drawn h).last fed)
plan_settled s now (event.Request lane r) name drawn h fed ok e =
    let f : Facts = facts s now r name (not (is_some drawn)) h in
    request_settled s now lane r drawn (unwrap_or (named_conn r h) 0) h ok f.life f.busy
    (named_known (named_conn r h) now h) (λ room. room) (outcome s.base r f) (outcome_right s.base r f) fed e
plan_settled s now (event.Bytes lane bytes) name drawn h fed ok e = fed_settled now (option_map (λ c. (c, bytes)) (conn_on lane h)) h fed e ok
plan_settled s now (event.Lost lane) name drawn h fed ok e =
    subst (Settled s.live now) (sym e) (losing_settled now lane h ok (conn_on lane h) (poller_on lane h) refl refl)
plan_settled s now heard name drawn h fed ok e = subst (Settled s.live now) (sym e) ok

-- ---- questions

question_quiet : (d : ServerEvent) → IsQuestion d → IsQuiet d
question_quiet (Learns ask) e = tt
question_quiet (Draws drawn) e = tt
question_quiet d e = absurd e

pub asks : (s : Setup) (now : ℕ) (e : Event) (name : Option (Option (List ℕ))) (drawn : Option (List ℕ)) (h : List ServerEvent)
    → Each IsQuiet (questions s now e name drawn h)
asks s now e name drawn h = each_so IsQuestion IsQuiet question_quiet (questions s now e name drawn h) (questions_are s now e name drawn h)

pub asked_settled : {most : ℕ} (s : Setup) (now : ℕ) (e : Event) (name : Option (Option (List ℕ))) (drawn : Option (List ℕ)) (h : List ServerEvent) → Settled most now h
    → Settled most now (onto (questions s now e name drawn h) h)
asked_settled s now e name drawn h ok = quiet_settled now (questions s now e name drawn h) h (asks s now e name drawn h) ok
