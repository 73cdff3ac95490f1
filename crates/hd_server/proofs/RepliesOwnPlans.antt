-- What holds of each connection by itself holds after what is done about an event.
use Rattle.std.proofs.Common.{refl, ap, subst, sym, ◌∙◌, ◌≡◌, ℕ, suc, ◌≤◌, Bool, true, false, List, [], ◌∷◌, ◌++◌, Option, Some, None, arith, if◌then◌else◌}
use Rattle.std.specs.Prelude.{◌==◌, not, is_some, unwrap_or, option_map, ◌&&◌, ◌||◌}
use Rattle.std.proofs.lemmas.Bool.{eqb-true, eq-eqb}
use Rattle.hw_lanes.specs.declared.http.Request.{Request}
use Rattle.hd_delivery.specs.declared.vocabulary.Reason.TheVariants as reason
use Rattle.hd_delivery.specs.Histories.{Detached, first_of}
use Rattle.hd_calls.specs.Peers.{Settings}
use Rattle.hd_server.specs.declared.vocabulary.Life.{Life}
use Rattle.hd_server.specs.declared.vocabulary.Life.TheVariants.{Unknown, Fresh, Socket, Lost, Polling, Ending}
use Rattle.hd_server.specs.Lives.{Negotiated, Opened, Socketed, Polled, Answered, LaneLost, ended_at, gives_way, is_known, is_removed, is_opened, is_polling, is_resumable_promise, lost_at, made, negotiated_at, poll_of, socket_of, standing, when}
use Rattle.hd_server.specs.Texts.{token_of, negotiate_body}
use Rattle.hd_server.specs.Table.{Outcome, Refusal, NewToken, PlainSocket, TokenSocket, FirstPoll, NextPoll, LastPoll, Posting, Deletion}
use Rattle.hd_server.specs.Machine.{Connects, settings_of, has_gone}
use Rattle.hd_server.specs.Doings.{ServerEvent, Notes, Works, notes, work, user_of, has_peer, may_resume}
use Rattle.hd_server.specs.Plans.{Setup, onto, step, connecting, attaching, closing, removing_conn, losing, peer_settings, bare_reply, socket_reply, token_reply, refusal_reply, replying, ending_poll, ending_held, standing_on, shutting_some, request_plan, giving_way}
use Rattle.hd_server.specs.Serves.{IsFed}
use Rattle.hd_server.specs.Parts.{Each}
use Rattle.hd_server.proofs.Each.{either_way, each_join, each_shutting_some, each_replying, each_ending_poll, each_connecting, each_closing, each_removing, each_losing, each_move}
use Rattle.hd_server.proofs.Few.{standing_same}
use Rattle.hd_server.proofs.OrderlyNotes.{Known, still_polled, still_answered}
use Rattle.hd_server.proofs.OrderlyDoings.{in_turn, IsQuiet}
use Rattle.hd_server.proofs.RepliesSent.{IsSent}
use Rattle.hd_server.proofs.RepliesOwn.{Alike, others_alike, quiet_onto, quiet_after, peer_alike, own_alike, Own, own_opened, own_negotiated, own_connects, own_socketed, own_polled, own_answered, own_lost, IsOne}
use Rattle.hd_server.proofs.RepliesPhases.{quiet_one, removed_own, polls_of, fresh_of, ending_of}
use Rattle.hd_server.proofs.GivingWay.{either_room, unused}

-- a part of one connection, after which each holds what it held
all_after : (c : ℕ) (ds g : List ServerEvent) → Each (IsOne c) ds → ((k : ℕ) → Own k g) → Own c (onto ds g) → (k : ℕ) → Own k (onto ds g)
all_after c ds g one all own k = by (k == c) refl where
  by : (b : Bool) → (k == c) ≡ b → Own k (onto ds g)
  by false e = own_alike k g (onto ds g) (others_alike c k ds g e one) (all k)
  by true e = subst (λ i. Own i (onto ds g)) (sym (eqb-true k c e)) own

all_quiet : (ds g : List ServerEvent) → Each IsQuiet ds → ((k : ℕ) → Own k g) → (k : ℕ) → Own k (onto ds g)
all_quiet ds g q all k = own_alike k g (onto ds g) (quiet_onto k ds g q) (all k)

pub all_fed : (now : ℕ) (o : Option (ℕ × List ℕ)) (h after : List ServerEvent) → IsFed now o h after → ((k : ℕ) → Own k h) → (k : ℕ) → Own k after
all_fed now None h after e all k = subst (Own k) (sym e) (all k)
all_fed now (Some f) h after one all k =
    subst (Own k) (sym one.are) (own_alike k h _ (quiet_after k _ h (each_move IsQuiet f.0 one.moves (λ m. tt))) (all k))

-- ---- a peer begins

-- what is so of a connection whose peer has begun
record Begun (c : ℕ) (g x : List ServerEvent) : Type 0 where
  own : Own c x
  peer_is : has_peer c x ≡ true
  same_notes : notes x ≡ notes g

module _ (s : Setup) (now c : ℕ) (reconnect : Bool) (h g : List ServerEvent) (same : settings_of c (work g) ≡ settings_of c (work h)) (o : Own c g)
    (known : Known c (notes g)) (old : c ≤ made (notes g)) where
  connects_own : Begun c g (onto (connecting s c reconnect h) g)
  connects_own = by (is_some (settings_of c (work h))) refl where
    t : Settings
    t = peer_settings s c (user_of c h) reconnect

    by : (b : Bool) → is_some (settings_of c (work h)) ≡ b
        → Begun c g (onto (if b then [] else Works (Connects c (peer_settings s c (user_of c h) reconnect) (user_of c h)) ∷ []) g)
    by true e = record { own = o; peer_is = rw (same, e, o.not_gone known) refl; same_notes = refl }
    by false e = record {
      own = own_connects c g o old t (user_of c h) (ap is_some same ∙ e);
      peer_is = rw (eq-eqb c c refl, o.not_gone known) refl;
      same_notes = refl;
    }

  begins_own : Begun c g (onto (connecting s c reconnect h ++ attaching c now h) g)
  begins_own =
      let y : List ServerEvent = onto (connecting s c reconnect h) g in
      let a = quiet_onto c (attaching c now h) y (tt, tt) in
      in_turn (Begun c g) (connecting s c reconnect h) (attaching c now h) g
      (record { own = own_alike c y (onto (attaching c now h) y) a connects_own.own; peer_is = connects_own.peer_is; same_notes = connects_own.same_notes })

  stands_own : (lane : ℕ) (r : Request) → is_polling c (notes g) ≡ false
      → Own c (onto (standing_on s (record { now = now; lane = lane; request = r }) c reconnect h) g)
  stands_own lane r none =
      let x : List ServerEvent = onto (connecting s c reconnect h ++ attaching c now h) g in
      let b = begins_own in
      let reply : List ServerEvent = replying lane (socket_reply r.upgrade) h in
      let y : List ServerEvent = Notes (Socketed c lane now) ∷ x in
      let own_y : Own c y
      = own_socketed c x b.own (subst (λ n. c ≤ made n) (sym b.same_notes) old) (subst (Known c) (sym b.same_notes) known) lane now b.peer_is
      (ap (is_polling c) b.same_notes ∙ none) in
      in_turn (Own c) (connecting s c reconnect h ++ attaching c now h) (Notes (Socketed c lane now) ∷ reply) g
      (own_alike c y (onto reply y) (quiet_onto c reply y (each_replying IsQuiet lane (socket_reply r.upgrade) h tt tt)) own_y)

begins_one : (s : Setup) (now c : ℕ) (reconnect : Bool) (h : List ServerEvent) → Each (IsOne c) (connecting s c reconnect h ++ attaching c now h)
begins_one s now c reconnect h = each_join (IsOne c) (connecting s c reconnect h) (attaching c now h) (each_connecting (IsOne c) s c reconnect h (λ t user. refl)) (tt, tt)

stands_one : (s : Setup) (now lane c : ℕ) (r : Request) (reconnect : Bool) (h : List ServerEvent)
    → Each (IsOne c) (standing_on s (record { now = now; lane = lane; request = r }) c reconnect h)
stands_one s now lane c r reconnect h =
    each_join (IsOne c) (connecting s c reconnect h ++ attaching c now h) (Notes (Socketed c lane now) ∷ replying lane (socket_reply r.upgrade) h)
    (begins_one s now c reconnect h)
    (refl, quiet_one c (replying lane (socket_reply r.upgrade) h) (each_replying IsQuiet lane (socket_reply r.upgrade) h tt tt))

-- ---- lives

polls_life : (gone : Bool) (ended socket lost : Option ℕ) (polls fresh : Bool) → socket ≡ None → lost ≡ None → polls ≡ true → (life : Life)
    → unwrap_or
    (first_of (when gone Unknown)
    (first_of (when (is_some ended) Ending)
    (first_of (option_map Socket socket)
    (first_of (when (is_some lost) Lost)
    (first_of (when polls Polling)
    (when fresh Fresh)))))) Unknown ≡ life → (life ≡ Polling → ⊥) → (life ≡ Ending → ⊥) → (life ≡ Unknown → ⊥) → ⊥
polls_life true ended socket lost polls fresh a b e life i f g u = u (sym i)
polls_life false (Some m) socket lost polls fresh a b e life i f g u = g (sym i)
polls_life false None (Some l) lost polls fresh a b e life i f g u = absurd (let z : ◌≡◌ {A = Option ℕ} (Some l) None = a in cc)
polls_life false None None (Some m) polls fresh a b e life i f g u = absurd (let z : ◌≡◌ {A = Option ℕ} (Some m) None = b in cc)
polls_life false None None None true fresh a b e life i f g u = f (sym i)
polls_life false None None None false fresh a b e life i f g u = absurd (let z : false ≡ true = e in cc)

not_polling : (c : ℕ) (h : List ServerEvent) → Own c h → Known c (notes h) → (life : Life) → standing c (notes h) ≡ life
    → (life ≡ Polling → ⊥) → (life ≡ Ending → ⊥) → (life ≡ Unknown → ⊥) → is_polling c (notes h) ≡ false
not_polling c h o known life e f g u = by (is_polling c (notes h)) refl where
  by : (b : Bool) → is_polling c (notes h) ≡ b → b ≡ false
  by false i = refl
  by true i =
      let none = o.no_socket known i in
      absurd (polls_life (is_removed c (notes h)) (ended_at c (notes h)) (socket_of c (notes h)) (lost_at c (notes h)) (is_polling c (notes h))
      (is_opened c (notes h) || is_some (negotiated_at c (notes h))) none.0 none.1 i life e f g u)

-- what stays when a poll that is held ends
record Stays (c : ℕ) (g x : List ServerEvent) : Type 0 where
  own : Own c x
  known : Known c (notes x)
  more : made (notes g) ≤ made (notes x)
  same_peer : has_peer c x ≡ has_peer c g
  same_socket : socket_of c (notes x) ≡ socket_of c (notes g)
  same_loss : lost_at c (notes x) ≡ lost_at c (notes g)

ends_own : (c now : ℕ) (p : Option (ℕ × ℕ)) (h g : List ServerEvent) → Own c g → Known c (notes g) → c ≤ made (notes g) → Stays c g (onto (ending_poll c now p h) g)
ends_own c now None h g o known old =
    record { own = o; known = known; more = omega arith; same_peer = refl; same_socket = refl; same_loss = refl }
ends_own c now (Some poll) h g o known old =
    let reply : List ServerEvent = replying poll.0 (bare_reply 204) h in
    let y : List ServerEvent = onto reply g in
    let a = quiet_onto c reply g (each_replying IsQuiet poll.0 (bare_reply 204) h tt tt) in
    let known_y : Known c (notes y) = ap is_known (standing_same c (notes y) (notes g) a.same_notes) ∙ known in
    in_turn (Stays c g) reply (Notes (Answered c poll.0 now) ∷ []) g
    (record {
      own = own_answered c y (own_alike c g y a o) (omega (arith, old, a.more)) known_y poll.0 now;
      known = still_answered c (notes y) poll.0 now known_y;
      more = a.more;
      same_peer = peer_alike c g y a;
      same_socket = a.same_notes.of_socket;
      same_loss = a.same_notes.of_loss;
    })

-- ---- a lane that is lost

pub loses_own : (c lane now : ℕ) (h : List ServerEvent) → Known c (notes h) → c ≤ made (notes h) → ((k : ℕ) → Own k h)
    → (k : ℕ) → Own k (onto (step c (Detached now) ∷ losing c lane now h) h)
loses_own c lane now h known old all k =
    let x : List ServerEvent = step c (Detached now) ∷ h in
    let all_x = all_quiet (step c (Detached now) ∷ []) h (tt, tt) all in
    all_after c (losing c lane now h) x (each_losing (IsOne c) c lane now h refl refl refl) all_x
    (either_way (λ ds. Own c (onto ds x)) (may_resume c h) (Notes (LaneLost c lane now) ∷ []) (removing_conn c h)
    (own_lost c x (all_x c) old known lane now) (removed_own c h x (all_x c) old)) k

pub poll_loses_own : (c lane now : ℕ) (h : List ServerEvent) → Known c (notes h) → c ≤ made (notes h) → ((k : ℕ) → Own k h)
    → (k : ℕ) → Own k (Notes (LaneLost c lane now) ∷ h)
poll_loses_own c lane now h known old all k =
    all_after c (Notes (LaneLost c lane now) ∷ []) h (refl, tt) all (own_lost c h (all c) old known lane now) k

-- ---- a request

module _ (s : Setup) (now lane : ℕ) (r : Request) (drawn : Option (List ℕ)) (c : ℕ) (h : List ServerEvent) (all : (k : ℕ) → Own k h)
    (new_known : let g = onto (giving_way s now h) h in Known (suc (made (notes g))) (Opened (suc (made (notes g))) now ∷ notes g)) where
  -- after one gave way
  gave_own : (k : ℕ) → Own k (onto (giving_way s now h) h)
  gave_own =
      either_room (λ g. (k : ℕ) → Own k g) (gives_way s.live now (notes h)) h h all
      (λ gone e. all_after gone (removing_conn gone h) h (each_removing (IsOne gone) gone h refl refl) all
      (removed_own gone h h (all gone) (unused s.live now (notes h) gone e).made_so.1))

  pub request_own : (life : Life) → (is_known life ≡ true → (standing c (notes h) ≡ life) × (c ≤ made (notes h)))
      → (out : Outcome) → IsSent r life out → (fed : List ServerEvent)
      → IsFed now (request_plan s (record { now = now; lane = lane; request = r }) drawn c h out).food
      (onto (request_plan s (record { now = now; lane = lane; request = r }) drawn c h out).first h) fed
      → (k : ℕ) → Own k (onto (request_plan s (record { now = now; lane = lane; request = r }) drawn c h out).last fed)
  request_own life named (Refusal status) right fed e k =
      subst (Own k) (sym e) (all_quiet (replying lane (refusal_reply s.base r status) h) h (each_replying IsQuiet lane (refusal_reply s.base r status) h tt tt) all k)
  request_own life named (NewToken reconnect) right fed e k =
      let room : List ServerEvent = giving_way s now h in
      let g : List ServerEvent = onto room h in
      let n : ℕ = suc (made (notes g)) in
      let token : List ℕ = token_of (unwrap_or drawn []) n in
      let x : List ServerEvent = Notes (Negotiated n token reconnect now) ∷ g in
      let reply = token_reply (negotiate_body n token reconnect) in
      subst (Own k) (sym e)
      (in_turn (Own k) room (Notes (Negotiated n token reconnect now) ∷ replying lane reply g) h
      (all_quiet (replying lane reply g) x (each_replying IsQuiet lane reply g tt tt)
      (all_after n (Notes (Negotiated n token reconnect now) ∷ []) g (refl, tt) gave_own (own_negotiated n g (gave_own n) token reconnect now refl)) k))
  request_own life named PlainSocket right fed e k =
      let room : List ServerEvent = giving_way s now h in
      let g : List ServerEvent = onto room h in
      let n : ℕ = suc (made (notes g)) in
      let x : List ServerEvent = Notes (Opened n now) ∷ g in
      let all_x : (j : ℕ) → Own j x = all_after n (Notes (Opened n now) ∷ []) g (refl, tt) gave_own (own_opened n g (gave_own n) now refl) in
      let blank = (gave_own n).unmade (omega arith) in
      let stands : List ServerEvent = standing_on s (record { now = now; lane = lane; request = r }) n false x in
      subst (Own k) (sym e)
      (in_turn (Own k) room (Notes (Opened n now) ∷ stands) h
      (all_after n stands x (stands_one s now lane n r false x) all_x
      (stands_own s now n false x x refl (all_x n) new_known (omega arith) lane r blank.no_poll) k))
  request_own life named TokenSocket right fed e k =
      let shut : List ServerEvent = shutting_some (socket_of c (notes h)) h in
      let x : List ServerEvent = onto shut h in
      let known_life : is_known life ≡ true = by life right.1.2 in
      let n = named known_life in
      let known : Known c (notes h) = ap is_known n.0 ∙ known_life in
      let a = quiet_onto c shut h (each_shutting_some IsQuiet (socket_of c (notes h)) h (λ l. tt)) in
      let all_x = all_quiet shut h (each_shutting_some IsQuiet (socket_of c (notes h)) h (λ l. tt)) all in
      let known_x : Known c (notes x) = ap is_known (standing_same c (notes x) (notes h) a.same_notes) ∙ known in
      let life_x : standing c (notes x) ≡ life = standing_same c (notes x) (notes h) a.same_notes ∙ n.0 in
      subst (Own k) (sym e)
      (in_turn (Own k) shut (standing_on s (record { now = now; lane = lane; request = r }) c (is_resumable_promise c (notes h)) h) h
      (all_after c (standing_on s (record { now = now; lane = lane; request = r }) c (is_resumable_promise c (notes h)) h) x
      (stands_one s now lane c r (is_resumable_promise c (notes h)) h) all_x
      (stands_own s now c (is_resumable_promise c (notes h)) h x a.same_settings (all_x c) known_x (omega (arith, n.1, a.more)) lane r
      (not_polling c x (all_x c) known_x life life_x right.1.0 right.1.1 right.1.2)) k))
    where
      by : (l : Life) → (l ≡ Unknown → ⊥) → is_known l ≡ true
      by Unknown f = absurd (f refl)
      by Fresh f = refl
      by (Socket l) f = refl
      by Lost f = refl
      by Polling f = refl
      by Ending f = refl
  request_own life named FirstPoll right fed e k =
      let n = named (ap is_known right) in
      let lives : standing c (notes h) ≡ Fresh = n.0 ∙ right in
      let known : Known c (notes h) = ap is_known lives in
      let fresh = fresh_of c (notes h) lives in
      let first : List ServerEvent = connecting s c false h ++ attaching c now h in
      let b = begins_own s now c false h h refl (all c) known n.1 in
      let begun : List ServerEvent = onto first h in
      let all_begun = all_after c first h (begins_one s now c false h) all b.own in
      let all_fed_now = all_fed now (Some (c, [])) begun fed e all_begun in
      let a : Alike c begun fed = subst (Alike c begun) (sym e.are) (quiet_after c _ begun (each_move IsQuiet c e.moves (λ m. tt))) in
      let same : notes begun ≡ notes h = b.same_notes in
      let known_fed : Known c (notes fed) = ap is_known (standing_same c (notes fed) (notes begun) a.same_notes ∙ ap (standing c) same) ∙ known in
      let old_fed : c ≤ made (notes fed) = (let m : made (notes begun) ≡ made (notes h) = ap made same in omega (arith, n.1, a.more, m)) in
      let peer_fed : has_peer c fed ≡ true
      = ap (λ o. is_some o && not (has_gone c (work fed))) a.same_settings ∙ ap (λ q. is_some (settings_of c (work begun)) && not q) a.same_gone ∙ b.peer_is in
      let socket_fed : socket_of c (notes fed) ≡ None = a.same_notes.of_socket ∙ ap (socket_of c) same ∙ fresh.1 in
      let loss_fed : lost_at c (notes fed) ≡ None = a.same_notes.of_loss ∙ ap (lost_at c) same ∙ fresh.2 in
      let x : List ServerEvent = Notes (Polled c lane now) ∷ fed in
      let polled : Own c x = own_polled c fed (all_fed_now c) old_fed known_fed lane now peer_fed socket_fed loss_fed in
      let y : List ServerEvent = Notes (Answered c lane now) ∷ x in
      let answered : Own c y = own_answered c x polled old_fed (still_polled c (notes fed) lane now known_fed) lane now in
      all_quiet (replying lane (bare_reply 200) h) y (each_replying IsQuiet lane (bare_reply 200) h tt tt)
      (all_after c (Notes (Polled c lane now) ∷ Notes (Answered c lane now) ∷ []) fed (refl, (refl, tt)) all_fed_now answered) k
  request_own life named NextPoll right fed e k =
      let n = named (ap is_known right) in
      let lives : standing c (notes h) ≡ Polling = n.0 ∙ right in
      let known : Known c (notes h) = ap is_known lives in
      let first : List ServerEvent = ending_held c now h in
      let begun : List ServerEvent = onto first h in
      let stays = ends_own c now (poll_of c (notes h)) h h (all c) known n.1 in
      let all_begun = all_after c first h (each_ending_poll (IsOne c) c now (poll_of c (notes h)) h (λ l. tt) (λ l. tt) (λ l. refl)) all stays.own in
      let all_fed_now = all_fed now (Some (c, [])) begun fed e all_begun in
      let a : Alike c begun fed = subst (Alike c begun) (sym e.are) (quiet_after c _ begun (each_move IsQuiet c e.moves (λ m. tt))) in
      let polls = polls_of c (notes h) lives in
      let known_fed : Known c (notes fed) = ap is_known (standing_same c (notes fed) (notes begun) a.same_notes) ∙ stays.known in
      all_after c (Notes (Polled c lane now) ∷ []) fed (refl, tt) all_fed_now
      (own_polled c fed (all_fed_now c) (omega (arith, n.1, stays.more, a.more)) known_fed lane now
      (peer_alike c begun fed a ∙ stays.same_peer ∙ (all c).there known polls.0) (a.same_notes.of_socket ∙ stays.same_socket ∙ polls.1)
      (a.same_notes.of_loss ∙ stays.same_loss ∙ polls.2)) k
  request_own life named LastPoll right fed e k =
      let n = named (ap is_known right) in
      let lives : standing c (notes h) ≡ Ending = n.0 ∙ right in
      let known : Known c (notes h) = ap is_known lives in
      let o = all c in
      let polls = o.ended_polls known (ending_of c (notes h) lives) in
      let none = o.no_socket known polls in
      subst (Own k) (sym e)
      (all_after c (Notes (Polled c lane now) ∷ []) h (refl, tt) all (own_polled c h o n.1 known lane now (o.there known polls) none.0 none.1) k)
  request_own life named Posting right fed e k =
      all_quiet (replying lane (bare_reply 200) h) fed (each_replying IsQuiet lane (bare_reply 200) h tt tt) (all_fed now (Some (c, r.body)) h fed e all) k
  request_own life named Deletion right fed e k =
      let known_life : is_known life ≡ true = right in
      let n = named known_life in
      let known : Known c (notes h) = ap is_known n.0 ∙ known_life in
      let polls : List ServerEvent = ending_held c now h in
      let x : List ServerEvent = onto polls h in
      let stays = ends_own c now (poll_of c (notes h)) h h (all c) known n.1 in
      let all_x = all_after c polls h (each_ending_poll (IsOne c) c now (poll_of c (notes h)) h (λ l. tt) (λ l. tt) (λ l. refl)) all stays.own in
      let y : List ServerEvent = onto (closing c reason.Done h) x in
      let a = quiet_onto c (closing c reason.Done h) x (each_closing IsQuiet c reason.Done h tt) in
      let all_y = all_quiet (closing c reason.Done h) x (each_closing IsQuiet c reason.Done h tt) all_x in
      let z : List ServerEvent = onto (removing_conn c h) y in
      let all_z = all_after c (removing_conn c h) y (each_removing (IsOne c) c h refl refl) all_y (removed_own c h y (all_y c) (omega (arith, n.1, stays.more, a.more))) in
      subst (Own k) (sym e)
      (in_turn (Own k) (polls ++ closing c reason.Done h ++ removing_conn c h) (replying lane (bare_reply 202) h) h
      (in_turn (λ w. Own k (onto (replying lane (bare_reply 202) h) w)) (polls ++ closing c reason.Done h) (removing_conn c h) h
      (in_turn (λ w. Own k (onto (replying lane (bare_reply 202) h) (onto (removing_conn c h) w))) polls (closing c reason.Done h) h
      (all_quiet (replying lane (bare_reply 202) h) z (each_replying IsQuiet lane (bare_reply 202) h tt tt) all_z k))))
