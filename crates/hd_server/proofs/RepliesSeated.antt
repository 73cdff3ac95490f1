-- Who stands on which lane after what is done about an event.
use Rattle.std.proofs.Common.{refl, ap, subst, sym, ◌∙◌, ◌≡◌, ℕ, suc, Bool, true, false, List, [], ◌∷◌, ◌++◌, Option, Some, None, if◌then◌else◌}
use Rattle.std.specs.Prelude.{◌==◌, not, is_some, unwrap_or, ◌&&◌}
use Rattle.std.proofs.lemmas.Bool.{eqb-true, eq-eqb}
use Rattle.hw_lanes.specs.declared.http.Request.{Request}
use Rattle.hw_lanes.specs.declared.http.Reply.{Reply}
use Rattle.hd_delivery.specs.declared.vocabulary.Reason.TheVariants as reason
use Rattle.hd_delivery.specs.Histories.{Detached, is_this}
use Rattle.hw_door.specs.declared.heard.Event.{Event}
use Rattle.hw_door.specs.declared.heard.Event.TheVariants as event
use Rattle.hd_server.specs.declared.vocabulary.Life.{Life}
use Rattle.hd_server.specs.declared.vocabulary.Life.TheVariants.{Unknown, Fresh, Socket, Lost, Polling, Ending}
use Rattle.hd_server.specs.declared.vocabulary.Said.TheVariants as say
use Rattle.hd_server.specs.Lives.{Negotiated, Opened, Socketed, Polled, Answered, LaneLost, gives_way, is_known, is_resumable_promise, life_of_some, made, poll_of, socket_of}
use Rattle.hd_server.specs.Texts.{token_of, negotiate_body}
use Rattle.hd_server.specs.Table.{Outcome, Refusal, NewToken, PlainSocket, TokenSocket, FirstPoll, NextPoll, LastPoll, Posting, Deletion, outcome}
use Rattle.hd_server.specs.Machine.{Connects, connections, settings_of, has_gone}
use Rattle.hd_server.specs.Doings.{ServerEvent, Hears, Notes, Works, Says, notes, work, may_resume, is_upgraded, user_of, has_peer}
use Rattle.hd_server.specs.Plans.{Setup, onto, step, connecting, attaching, closing, removing_conn, losing, losing_lane, conn_on, poller_on, named_conn, facts, plan, peer_settings, bare_reply, socket_reply, token_reply, refusal_reply, shutting_after, replying, ending_held, standing_on, shutting_some, request_plan, giving_way, removing_some}
use Rattle.hd_server.specs.Serves.{IsFed, IsFree}
use Rattle.hd_server.specs.Parts.{Each}
use Rattle.hd_server.proofs.Each.{either_way, each_join, each_shutting_some, each_shutting_after, each_replying, each_ending_poll, each_closing, each_removing, each_losing, each_move}
use Rattle.hd_server.proofs.Flushing.{is_in}
use Rattle.hd_server.proofs.OrderlyDoings.{in_turn, quiet_notes, IsQuiet}
use Rattle.hd_server.proofs.RepliesSent.{IsSent, outcome_sent}
use Rattle.hd_server.proofs.RepliesFlushed.{left_alone}
use Rattle.hd_server.proofs.RepliesTurns.{finds, finds_none, on_this, there_of}
use Rattle.hd_server.proofs.RepliesHandled.{Hearing}
use Rattle.hd_server.proofs.RepliesSeats.{Seats, Less, less_same, less_then, less_seats, less_onto, less_after, unasked, poll_seats, stand_seats, IsLess}
use Rattle.hd_server.proofs.GivingWay.{either_room, removed_so}

-- it stands nowhere and holds no poll
abbrev pub IsOff : ℕ → List ServerEvent → Type 0
IsOff c g = (socket_of c (notes g) ≡ None) × (poll_of c (notes g) ≡ None)

-- ---- a peer begins

connects_less : (s : Setup) (c : ℕ) (reconnect : Bool) (h g : List ServerEvent) → (is_some (settings_of c (work h)) ≡ false → IsOff c g)
    → Less g (onto (connecting s c reconnect h) g)
connects_less s c reconnect h g none = by (is_some (settings_of c (work h))) none where
  its : (k : ℕ) → (k ≡ c → ⊥) → (b : Bool) → (k == c) ≡ b
      → (is_some (if b then Some (peer_settings s c (user_of c h) reconnect) else settings_of k (work g)) && not (has_gone k (work g))) ≡ true
      → has_peer k g ≡ true
  its k other true i there = absurd (other (eqb-true k c i))
  its k other false i there = there

  begun : IsOff c g → Less g (Works (Connects c (peer_settings s c (user_of c h) reconnect) (user_of c h)) ∷ g)
  begun off = record {
    socket = λ k l p f. (its k (λ i. no_socket l (sym (ap (λ x. socket_of x (notes g)) i) ∙ f)) (k == c) refl p, f);
    poll = λ k l t p f. (its k (λ i. no_poll (l, t) (sym (ap (λ x. poll_of x (notes g)) i) ∙ f)) (k == c) refl p, f);
    same = λ l. refl;
  }
    where
      no_socket : (l : ℕ) → socket_of c (notes g) ≡ Some l → ⊥
      no_socket l e = absurd (let z : ◌≡◌ {A = Option ℕ} None (Some l) = sym off.0 ∙ e in cc)

      no_poll : (p : ℕ × ℕ) → poll_of c (notes g) ≡ Some p → ⊥
      no_poll p e = absurd (let z : ◌≡◌ {A = Option (ℕ × ℕ)} None (Some p) = sym off.1 ∙ e in cc)

  by : (b : Bool) → (b ≡ false → IsOff c g)
      → Less g (onto (if b then [] else Works (Connects c (peer_settings s c (user_of c h) reconnect) (user_of c h)) ∷ []) g)
  by true e = less_same g
  by false e = begun (e refl)

begins_less : (s : Setup) (now c : ℕ) (reconnect : Bool) (h g : List ServerEvent) → (is_some (settings_of c (work h)) ≡ false → IsOff c g)
    → Less g (onto (connecting s c reconnect h ++ attaching c now h) g)
begins_less s now c reconnect h g none =
    in_turn (Less g) (connecting s c reconnect h) (attaching c now h) g
    (less_then g (onto (connecting s c reconnect h) g) (onto (attaching c now h) (onto (connecting s c reconnect h) g))
    (connects_less s c reconnect h g none) (less_onto (attaching c now h) (onto (connecting s c reconnect h) g) (tt, tt)))

stands_seats : (s : Setup) (now lane c : ℕ) (r : Request) (reconnect : Bool) (h g : List ServerEvent) → (is_some (settings_of c (work h)) ≡ false → IsOff c g)
    → Seats (Some lane) None g → Seats None None (onto (standing_on s (record { now = now; lane = lane; request = r }) c reconnect h) g)
stands_seats s now lane c r reconnect h g none ok =
    let x : List ServerEvent = onto (connecting s c reconnect h ++ attaching c now h) g in
    let reply : Reply = socket_reply r.upgrade in
    let y : List ServerEvent = Says (say.Reply lane reply) ∷ Notes (Socketed c lane now) ∷ x in
    in_turn (Seats None None) (connecting s c reconnect h ++ attaching c now h) (Notes (Socketed c lane now) ∷ replying lane reply h) g
    (less_seats None None y (onto (shutting_after lane reply h) y) (less_onto (shutting_after lane reply h) y (each_shutting_after IsLess lane reply h tt))
    (stand_seats c lane now reply x refl (less_seats (Some lane) None g x (begins_less s now c reconnect h g none) ok)))

fed_less : (now : ℕ) (o : Option (ℕ × List ℕ)) (h after : List ServerEvent) → IsFed now o h after → Less h after
fed_less now None h after e = subst (Less h) (sym e) (less_same h)
fed_less now (Some f) h after one = subst (Less h) (sym one.are) (less_after _ h (each_move IsLess f.0 one.moves (λ m. tt)))

-- ---- a request

no_upgrade : (status : ℕ) → (status ≡ 101 → ⊥) → (status == 101) ≡ false
no_upgrade status other = by (status == 101) refl where
  by : (b : Bool) → (status == 101) ≡ b → b ≡ false
  by true e = absurd (other (eqb-true status 101 e))
  by false e = refl

known_but : (l : Life) → (l ≡ Unknown → ⊥) → is_known l ≡ true
known_but Unknown f = absurd (f refl)
known_but Fresh f = refl
known_but (Socket l) f = refl
known_but Lost f = refl
known_but Polling f = refl
known_but Ending f = refl

module _ (s : Setup) (now lane : ℕ) (r : Request) (drawn : Option (List ℕ)) (c : ℕ) (h : List ServerEvent) (life : Life) (ok : Seats (Some lane) None h)
    (named : is_known life ≡ true → is_some (settings_of c (work h)) ≡ false → IsOff c h) (next : IsOff (suc (made (notes h))) h) where
  -- where none comes onto a lane
  answers : (ds : List ServerEvent) → Each IsLess ds → Seats None None (onto ds h)
  answers ds a = unasked lane None (onto ds h) (less_seats (Some lane) None h (onto ds h) (less_onto ds h a) ok)

  gives_less : Each IsLess (giving_way s now h)
  gives_less = by (gives_way s.live now (notes h)) where
    by : (o : Option ℕ) → Each IsLess (removing_some o h)
    by None = tt
    by (Some k) = each_removing IsLess k h tt tt

  -- the next connection after one gave way
  next_still : IsOff (suc (made (notes (onto (giving_way s now h) h)))) (onto (giving_way s now h) h)
  next_still =
      either_room (λ g. IsOff (suc (made (notes g))) g) (gives_way s.live now (notes h)) h h next
      (λ k e. removed_so (λ g. IsOff (suc (made (notes g))) g) k h h next next)

  request_seats : (out : Outcome) → IsSent r life out → (fed : List ServerEvent)
      → IsFed now (request_plan s (record { now = now; lane = lane; request = r }) drawn c h out).food
      (onto (request_plan s (record { now = now; lane = lane; request = r }) drawn c h out).first h) fed
      → Seats None None (onto (request_plan s (record { now = now; lane = lane; request = r }) drawn c h out).last fed)
  request_seats (Refusal status) right fed e =
      subst (Seats None None) (sym e)
      (answers (replying lane (refusal_reply s.base r status) h) (each_replying IsLess lane (refusal_reply s.base r status) h (no_upgrade status right.1) tt))
  request_seats (NewToken reconnect) right fed e =
      let room : List ServerEvent = giving_way s now h in
      let g : List ServerEvent = onto room h in
      let k : ℕ = suc (made (notes g)) in
      let token : List ℕ = token_of (unwrap_or drawn []) k in
      let reply : Reply = token_reply (negotiate_body k token reconnect) in
      let told : List ServerEvent = Notes (Negotiated k token reconnect now) ∷ replying lane reply g in
      subst (Seats None None) (sym e)
      (answers (room ++ told) (each_join IsLess room told gives_less (tt, each_replying IsLess lane reply g refl tt)))
  request_seats PlainSocket right fed e =
      let room : List ServerEvent = giving_way s now h in
      let g : List ServerEvent = onto room h in
      let k : ℕ = suc (made (notes g)) in
      let x : List ServerEvent = Notes (Opened k now) ∷ g in
      subst (Seats None None) (sym e)
      (in_turn (Seats None None) room (Notes (Opened k now) ∷ standing_on s (record { now = now; lane = lane; request = r }) k false x) h
      (stands_seats s now lane k r false x x (λ z. next_still)
      (less_seats (Some lane) None g x (less_onto (Notes (Opened k now) ∷ []) g (tt, tt))
      (less_seats (Some lane) None h g (less_onto room h gives_less) ok))))
  request_seats TokenSocket right fed e =
      let shut : List ServerEvent = shutting_some (socket_of c (notes h)) h in
      let same : notes (onto shut h) ≡ notes h = quiet_notes shut h (each_shutting_some IsQuiet (socket_of c (notes h)) h (λ l. tt)) in
      subst (Seats None None) (sym e)
      (in_turn (Seats None None) shut (standing_on s (record { now = now; lane = lane; request = r }) c (is_resumable_promise c (notes h)) h) h
      (stands_seats s now lane c r (is_resumable_promise c (notes h)) h (onto shut h)
      (λ z. let off = named (known_but life right.1.2) z in (ap (socket_of c) same ∙ off.0, ap (poll_of c) same ∙ off.1))
      (less_seats (Some lane) None h (onto shut h) (less_onto shut h (each_shutting_some IsLess (socket_of c (notes h)) h (λ l. tt))) ok)))
  request_seats FirstPoll right fed e =
      let begun : List ServerEvent = onto (connecting s c false h ++ attaching c now h) h in
      let less = less_then h begun fed (begins_less s now c false h h (named (ap is_known right))) (fed_less now (Some (c, [])) begun fed e) in
      let x : List ServerEvent = Notes (Polled c lane now) ∷ fed in
      let last : List ServerEvent = Notes (Answered c lane now) ∷ replying lane (bare_reply 200) h in
      less_seats None None x (onto last x) (less_onto last x (tt, each_replying IsLess lane (bare_reply 200) h refl tt))
      (poll_seats c lane now fed (less_seats (Some lane) None h fed less ok))
  request_seats NextPoll right fed e =
      let begun : List ServerEvent = onto (ending_held c now h) h in
      let less = less_then h begun fed (less_onto (ending_held c now h) h (each_ending_poll IsLess c now (poll_of c (notes h)) h (λ l. refl) (λ l. tt) (λ l. tt)))
      (fed_less now (Some (c, [])) begun fed e) in
      poll_seats c lane now fed (less_seats (Some lane) None h fed less ok)
  request_seats LastPoll right fed e = subst (Seats None None) (sym e) (poll_seats c lane now h ok)
  request_seats Posting right fed e =
      let last : List ServerEvent = replying lane (bare_reply 200) h in
      let less = less_then h fed (onto last fed) (fed_less now (Some (c, r.body)) h fed e) (less_onto last fed (each_replying IsLess lane (bare_reply 200) h refl tt)) in
      unasked lane None (onto last fed) (less_seats (Some lane) None h (onto last fed) less ok)
  request_seats Deletion right fed e =
      let polls : List ServerEvent = ending_held c now h in
      let ends : List ServerEvent = polls ++ closing c reason.Done h in
      subst (Seats None None) (sym e)
      (answers (ends ++ removing_conn c h ++ replying lane (bare_reply 202) h)
      (each_join IsLess (ends ++ removing_conn c h) (replying lane (bare_reply 202) h)
      (each_join IsLess ends (removing_conn c h)
      (each_join IsLess polls (closing c reason.Done h) (each_ending_poll IsLess c now (poll_of c (notes h)) h (λ l. refl) (λ l. tt) (λ l. tt)) (each_closing IsLess c reason.Done h tt)) (each_removing IsLess c h tt tt))
      (each_replying IsLess lane (bare_reply 202) h refl tt)))

-- ---- a lane that is lost

-- none stands on it any more
found_seats : (lane : ℕ) (g : List ServerEvent) → ((k : ℕ) → has_peer k g ≡ true → socket_of k (notes g) ≡ Some lane → ⊥) → Seats None (Some lane) g
    → Seats None None g
found_seats lane g none ok = record {
  raised = λ k l p e f. raised k l p e (l == lane) refl;
  plain = ok.plain;
  free = ok.free;
  alone = ok.alone;
  clash = ok.clash;
}
  where
    raised : (k l : ℕ) → has_peer k g ≡ true → socket_of k (notes g) ≡ Some l → (b : Bool) → (l == lane) ≡ b → is_upgraded l g ≡ true
    raised k l p e true f = absurd (none k p (subst (λ x. socket_of k (notes g) ≡ Some x) (eqb-true l lane f) e))
    raised k l p e false f = ok.raised k l p e f

module _ (now lane : ℕ) (h : List ServerEvent) (among : (k : ℕ) → has_peer k h ≡ true → is_in k (connections (work h)) ≡ true)
    (ok : Seats None (Some lane) h) where
  -- one that lost its lane doesn't stand on it
  leaves_it : (c : ℕ) → socket_of c (notes h) ≡ Some lane → has_peer c (onto (losing c lane now h) (step c (Detached now) ∷ h)) ≡ true
      → socket_of c (notes (onto (losing c lane now h) (step c (Detached now) ∷ h))) ≡ Some lane → ⊥
  leaves_it c stands =
      let x : List ServerEvent = step c (Detached now) ∷ h in
      either_way (λ ds. has_peer c (onto ds x) ≡ true → socket_of c (notes (onto ds x)) ≡ Some lane → ⊥) (may_resume c h)
      (Notes (LaneLost c lane now) ∷ []) (removing_conn c h)
      (λ p i. absurd (let z : ◌≡◌ {A = Option ℕ} None (Some lane) = sym off ∙ i in cc))
      (λ p i. absurd (let z : false ≡ true = sym (left_alone c h x refl) ∙ p in cc))
    where
      off : socket_of c (LaneLost c lane now ∷ notes h) ≡ None
      off =
          ap (λ b. if b && is_this lane (socket_of c (notes h)) then None else socket_of c (notes h)) (eq-eqb c c refl)
          ∙ ap (λ o. if is_this lane o then None else o) stands
          ∙ ap (λ b. if◌then◌else◌ {A = Option ℕ} b None (Some lane)) (eq-eqb lane lane refl)

  nobody : conn_on lane h ≡ None → (k : ℕ) → has_peer k h ≡ true → socket_of k (notes h) ≡ Some lane → ⊥
  nobody e k p i =
      absurd (let z : true ≡ false
      = sym (ap (λ o. is_this lane o) i ∙ eq-eqb lane lane refl)
      ∙ finds_none (λ j. is_this lane (socket_of j (notes h))) (connections (work h)) k e (among k p) in cc)

  losing_seats : (a b : Option ℕ) → conn_on lane h ≡ a → Seats None None (onto (losing_lane a b lane now h) h)
  losing_seats (Some c) b e =
      let found = finds (λ k. is_this lane (socket_of k (notes h))) (connections (work h)) c e in
      let there = there_of h c found.1 in
      let stands = on_this lane (socket_of c (notes h)) found.0 in
      let y : List ServerEvent = onto (losing c lane now h) (step c (Detached now) ∷ h) in
      let less : Less h y = less_onto (step c (Detached now) ∷ losing c lane now h) h (tt, each_losing IsLess c lane now h tt tt tt) in
      found_seats lane y (λ k p i.
      let was = less.socket k lane p i in
      let same : k ≡ c = ok.alone k c lane was.0 there was.1 stands in
      leaves_it c stands (subst (λ z. has_peer z y ≡ true) same p) (subst (λ z. socket_of z (notes y) ≡ Some lane) same i))
      (less_seats None (Some lane) h y less ok)
  losing_seats None (Some c) e =
      less_seats None None h (Notes (LaneLost c lane now) ∷ h) (less_onto (Notes (LaneLost c lane now) ∷ []) h (tt, tt))
      (found_seats lane h (nobody e) ok)
  losing_seats None None e = found_seats lane h (nobody e) ok

-- ---- any event

-- who stands while an event is handled
abbrev pub Seating : Event → List ServerEvent → Type 0
Seating (event.Request lane r) h = Seats (Some lane) None h
Seating (event.Lost lane) h = Seats None (Some lane) h
Seating _ h = Seats None None h

pub seating_less : (e : Event) (g x : List ServerEvent) → Less g x → Seating e g → Seating e x
seating_less (event.Request lane r) g x a ok = less_seats (Some lane) None g x a ok
seating_less (event.Lost lane) g x a ok = less_seats None (Some lane) g x a ok
seating_less (event.Refused lane refusal) g x a ok = less_seats None None g x a ok
seating_less (event.Bytes lane bytes) g x a ok = less_seats None None g x a ok
seating_less (event.Response lane status body) g x a ok = less_seats None None g x a ok
seating_less (event.Upgraded lane) g x a ok = less_seats None None g x a ok
seating_less (event.Drained lane) g x a ok = less_seats None None g x a ok
seating_less event.Quiet g x a ok = less_seats None None g x a ok

hears_less : (now : ℕ) (e : Event) (g : List ServerEvent) → ((lane : ℕ) → is_upgraded lane (Hears now e ∷ g) ≡ is_upgraded lane g) → Less g (Hears now e ∷ g)
hears_less now e g same = record { socket = λ c l p f. (p, f); poll = λ c l t p f. (p, f); same = same }

pub heard_seats : (now : ℕ) (e : Event) (g : List ServerEvent) → IsFree e g → Hearing e (Hears now e ∷ g) → Seats None None g → Seating e (Hears now e ∷ g)
heard_seats now (event.Request lane r) g free hearing ok = record {
  raised = λ c l p e f. ok.raised c l p e refl;
  plain = λ l e. ap (λ x. is_upgraded x g) (eqb-true l lane e) ∙ free.0;
  free = hearing.free;
  alone = ok.alone;
  clash = ok.clash;
}
heard_seats now (event.Lost lane) g free hearing ok = record {
  raised = λ c l p e f. ap (λ b. if b then false else is_upgraded l g) f ∙ ok.raised c l p e refl;
  plain = λ l e. absurd (let z : false ≡ true = e in cc);
  free = λ c l t p e. refl;
  alone = ok.alone;
  clash = ok.clash;
}
heard_seats now (event.Refused lane refusal) g free hearing ok = less_seats None None g _ (hears_less now (event.Refused lane refusal) g (λ l. refl)) ok
heard_seats now (event.Bytes lane bytes) g free hearing ok = less_seats None None g _ (hears_less now (event.Bytes lane bytes) g (λ l. refl)) ok
heard_seats now (event.Response lane status body) g free hearing ok =
    less_seats None None g _ (hears_less now (event.Response lane status body) g (λ l. refl)) ok
heard_seats now (event.Upgraded lane) g free hearing ok = less_seats None None g _ (hears_less now (event.Upgraded lane) g (λ l. refl)) ok
heard_seats now (event.Drained lane) g free hearing ok = less_seats None None g _ (hears_less now (event.Drained lane) g (λ l. refl)) ok
heard_seats now event.Quiet g free hearing ok = less_seats None None g _ (hears_less now event.Quiet g (λ l. refl)) ok

pub handled_seats : (s : Setup) (now : ℕ) (e : Event) (name : Option (Option (List ℕ))) (drawn : Option (List ℕ)) (h fed : List ServerEvent) → Seating e h
    → ((c : ℕ) (o : Option ℕ) → unwrap_or o 0 ≡ c → is_known (life_of_some o now (notes h)) ≡ true → is_some (settings_of c (work h)) ≡ false → IsOff c h)
    → IsOff (suc (made (notes h))) h → ((k : ℕ) → has_peer k h ≡ true → is_in k (connections (work h)) ≡ true)
    → IsFed now (plan s now e name drawn h).food (onto (plan s now e name drawn h).first h) fed
    → Seats None None (onto (plan s now e name drawn h).last fed)
handled_seats s now (event.Request lane r) name drawn h fed ok named next among e =
    let f = facts s now r name (not (is_some drawn)) h in
    request_seats s now lane r drawn (unwrap_or (named_conn r h) 0) h f.life ok (named (unwrap_or (named_conn r h) 0) (named_conn r h) refl) next
    (outcome s.base r f) (outcome_sent s.base r f) fed e
handled_seats s now (event.Lost lane) name drawn h fed ok named next among e =
    subst (Seats None None) (sym e) (losing_seats now lane h among ok (conn_on lane h) (poller_on lane h) refl)
handled_seats s now (event.Bytes lane bytes) name drawn h fed ok named next among e = less_seats None None h fed (fed_less now _ h fed e) ok
handled_seats s now (event.Refused lane refusal) name drawn h fed ok named next among e = subst (Seats None None) (sym e) ok
handled_seats s now (event.Response lane status body) name drawn h fed ok named next among e = subst (Seats None None) (sym e) ok
handled_seats s now (event.Upgraded lane) name drawn h fed ok named next among e = subst (Seats None None) (sym e) ok
handled_seats s now (event.Drained lane) name drawn h fed ok named next among e = subst (Seats None None) (sym e) ok
handled_seats s now event.Quiet name drawn h fed ok named next among e = subst (Seats None None) (sym e) ok
