-- Of which events each part of a turn consists.
use Rattle.std.proofs.Common.{refl, ℕ, suc, Bool, false, List, [], ◌∷◌, ◌++◌, Option, Some, None}
use Rattle.std.specs.Prelude.{is_some, nat_le, not, unwrap_or, ◌+◌}
use Rattle.std.specs.List.{flat_map}
use Rattle.hd_delivery.specs.declared.vocabulary.Reason.TheVariants as reason
use Rattle.hd_delivery.specs.Frames.{LinkFrame}
use Rattle.hd_delivery.specs.Histories.{present_link, is_silence}
use Rattle.hw_door.specs.declared.heard.Event.{Event}
use Rattle.hw_door.specs.declared.heard.Event.TheVariants as event
use Rattle.hd_server.specs.declared.vocabulary.Life.{Life}
use Rattle.hd_server.specs.declared.vocabulary.Life.TheVariants.{Polling}
use Rattle.hd_server.specs.Numbers.{held_for}
use Rattle.hd_server.specs.Lives.{Opened, Answered, gives_way, made, is_polling, is_resumable_promise, overdue, poll_of, socket_of, standing}
use Rattle.hd_server.specs.Texts.{token_of, negotiate_body}
use Rattle.hd_server.specs.Table.{Outcome, Refusal, NewToken, PlainSocket, TokenSocket, FirstPoll, NextPoll, LastPoll, Posting, Deletion, asks_keeper, outcome}
use Rattle.hd_server.specs.Machine.{Does, Goes}
use Rattle.hd_server.specs.Doings.{ServerEvent, Draws, Notes, Works, Says, notes, config_of, has_closed, history}
use Rattle.hd_server.specs.Plans.{Setup, PendingRequest, onto, connecting, attaching, closing, dropping, removing_conn, expiring, expiries, bare_reply, frames_reply, socket_reply, token_reply, refusal_reply, replying, ending_held, learning, asks_lots, questions, standing_on, shutting, shutting_some, request_plan, conn_on, poller_on, losing, losing_lane, named_conn, facts, plan, giving_way}
use Rattle.hd_server.specs.Serves.{silenced, ticking, lending, writing, all_of, bytes_of, flushing_poll, flushing_some_poll, ending, flushing_on, flushing, all_flushing}
use Rattle.hd_server.specs.Parts.{Each, IsOfAny, IsExpiry, IsQuestion, IsPlanned, IsTick, IsFlush}
use Rattle.hd_server.specs.Laws.{PartsOfTurns}
use Rattle.hd_server.proofs.Each.{either_way, each_of_any, each_join, each_when, each_of_all, each_shutting, each_shutting_some, each_replying, each_ending_poll, each_lending, each_writing, each_connecting, each_closing, each_dropping, each_removing, each_removing_some, each_losing, each_ending}

-- ---- moments that come, and questions

pub expiring_is : (now : ℕ) (life : Life) (c : ℕ) (h : List ServerEvent) → Each (IsExpiry c) (expiring now life c h)
expiring_is now Polling c h = each_join (IsExpiry c) (closing c reason.Expired h) _ (each_closing (IsExpiry c) c reason.Expired h refl) (refl, tt)
expiring_is now life c h = each_join (IsExpiry c) (dropping c h) _ (each_dropping (IsExpiry c) c h refl) (refl, tt)

pub expiries_are : (now : ℕ) (h : List ServerEvent) → Each (IsOfAny IsExpiry) (expiries now h)
expiries_are now h =
    each_of_all (IsOfAny IsExpiry) (λ c. expiring now (standing c (notes h)) c h)
    (λ c. each_of_any IsExpiry c _ (expiring_is now (standing c (notes h)) c h)) (overdue now (notes h))

pub questions_are : (s : Setup) (now : ℕ) (e : Event) (name : Option (Option (List ℕ))) (drawn : Option (List ℕ)) (h : List ServerEvent)
    → Each IsQuestion (questions s now e name drawn h)
questions_are s now (event.Request lane r) name drawn h =
    each_join IsQuestion (learning (asks_keeper s.base r) name) _ (learns (asks_keeper s.base r))
    (each_when IsQuestion (asks_lots s now r name h) (Draws drawn ∷ []) (tt, tt))
  where
    learns : (token : Option (List ℕ)) → Each IsQuestion (learning token name)
    learns None = tt
    learns (Some token) = (tt, tt)
questions_are s now e name drawn h = tt

-- ---- plans

begins : (s : Setup) (c now : ℕ) (reconnect : Bool) (h : List ServerEvent) → Each IsPlanned (connecting s c reconnect h ++ attaching c now h)
begins s c now reconnect h =
    each_join IsPlanned (connecting s c reconnect h) (attaching c now h) (each_connecting IsPlanned s c reconnect h (λ t user. tt)) (tt, tt)

stands : (s : Setup) (o : PendingRequest) (c : ℕ) (reconnect : Bool) (h : List ServerEvent) → Each IsPlanned (standing_on s o c reconnect h)
stands s o c reconnect h =
    each_join IsPlanned (connecting s c reconnect h ++ attaching c o.now h) _ (begins s c o.now reconnect h)
    (tt, each_replying IsPlanned o.lane (socket_reply o.request.upgrade) h tt tt)

gives : (s : Setup) (now : ℕ) (h : List ServerEvent) → Each IsPlanned (giving_way s now h)
gives s now h = each_removing_some IsPlanned (gives_way s.live now (notes h)) h (λ c. tt) (λ c. tt)

ends : (c now : ℕ) (h : List ServerEvent) → Each IsPlanned (ending_held c now h)
ends c now h = each_ending_poll IsPlanned c now (poll_of c (notes h)) h (λ l. tt) (λ l. tt) (λ l. tt)

request_first : (s : Setup) (o : PendingRequest) (drawn : Option (List ℕ)) (c : ℕ) (h : List ServerEvent) (out : Outcome)
    → Each IsPlanned (request_plan s o drawn c h out).first
request_first s o drawn c h (Refusal status) = each_replying IsPlanned o.lane (refusal_reply s.base o.request status) h tt tt
request_first s o drawn c h (NewToken reconnect) =
    let g = onto (giving_way s o.now h) h in
    let k = suc (made (notes g)) in
    each_join IsPlanned (giving_way s o.now h) _ (gives s o.now h)
    (tt, each_replying IsPlanned o.lane (token_reply (negotiate_body k (token_of (unwrap_or drawn []) k) reconnect)) g tt tt)
request_first s o drawn c h PlainSocket =
    let g = onto (giving_way s o.now h) h in
    let k = suc (made (notes g)) in
    each_join IsPlanned (giving_way s o.now h) _ (gives s o.now h) (tt, stands s o k false (Notes (Opened k o.now) ∷ g))
request_first s o drawn c h TokenSocket =
    each_join IsPlanned (shutting_some (socket_of c (notes h)) h) _ (each_shutting_some IsPlanned (socket_of c (notes h)) h (λ l. tt))
    (stands s o c (is_resumable_promise c (notes h)) h)
request_first s o drawn c h FirstPoll = begins s c o.now false h
request_first s o drawn c h NextPoll = ends c o.now h
request_first s o drawn c h LastPoll = (tt, tt)
request_first s o drawn c h Posting = tt
request_first s o drawn c h Deletion =
    each_join IsPlanned (ending_held c o.now h ++ closing c reason.Done h ++ removing_conn c h) _
    (each_join IsPlanned (ending_held c o.now h ++ closing c reason.Done h) _
    (each_join IsPlanned (ending_held c o.now h) _ (ends c o.now h) (each_closing IsPlanned c reason.Done h tt))
    (each_removing IsPlanned c h tt tt))
    (each_replying IsPlanned o.lane (bare_reply 202) h tt tt)

request_last : (s : Setup) (o : PendingRequest) (drawn : Option (List ℕ)) (c : ℕ) (h : List ServerEvent) (out : Outcome)
    → Each IsPlanned (request_plan s o drawn c h out).last
request_last s o drawn c h FirstPoll = (tt, (tt, each_replying IsPlanned o.lane (bare_reply 200) h tt tt))
request_last s o drawn c h NextPoll = (tt, tt)
request_last s o drawn c h Posting = each_replying IsPlanned o.lane (bare_reply 200) h tt tt
request_last s o drawn c h out = tt

loses : (a b : Option ℕ) (lane now : ℕ) (h : List ServerEvent) → Each IsPlanned (losing_lane a b lane now h)
loses (Some c) b lane now h = (tt, each_losing IsPlanned c lane now h tt tt tt)
loses None (Some c) lane now h = (tt, tt)
loses None None lane now h = tt

module _ (s : Setup) (now : ℕ) where
  pub first_is : (e : Event) (name : Option (Option (List ℕ))) (drawn : Option (List ℕ)) (h : List ServerEvent) → Each IsPlanned (plan s now e name drawn h).first
  first_is (event.Request lane r) name drawn h =
      request_first s (record { now = now; lane = lane; request = r }) drawn (unwrap_or (named_conn r h) 0) h (outcome s.base r (facts s now r name (not (is_some drawn)) h))
  first_is (event.Bytes lane bytes) name drawn h = tt
  first_is (event.Lost lane) name drawn h = loses (conn_on lane h) (poller_on lane h) lane now h
  first_is e name drawn h = tt

  pub last_is : (e : Event) (name : Option (Option (List ℕ))) (drawn : Option (List ℕ)) (h : List ServerEvent) → Each IsPlanned (plan s now e name drawn h).last
  last_is (event.Request lane r) name drawn h =
      request_last s (record { now = now; lane = lane; request = r }) drawn (unwrap_or (named_conn r h) 0) h (outcome s.base r (facts s now r name (not (is_some drawn)) h))
  last_is (event.Bytes lane bytes) name drawn h = tt
  last_is (event.Lost lane) name drawn h = tt
  last_is e name drawn h = tt

-- ---- ticks

pub ticking_is : (now c : ℕ) (h : List ServerEvent) → Each (IsTick c) (ticking now c h)
ticking_is now c h =
    each_when (IsTick c) (is_some (present_link (history c h))) _
    (either_way (Each (IsTick c)) (is_silence (config_of c h) now (history c h)) _ _ (silent (socket_of c (notes h))) (refl, tt))
  where
    silent : (o : Option ℕ) → Each (IsTick c) (silenced c o now h)
    silent None = (refl, tt)
    silent (Some lane) = (
      refl,
      each_join (IsTick c) (losing c lane now h) (shutting lane h) (each_losing (IsTick c) c lane now h refl refl refl) (each_shutting (IsTick c) lane h tt),
    )

pub ticks_are : (now : ℕ) (cs : List ℕ) (h : List ServerEvent) → Each (IsOfAny IsTick) (flat_map (λ c. ticking now c h) cs)
ticks_are now cs h = each_of_all (IsOfAny IsTick) (λ c. ticking now c h) (λ c. each_of_any IsTick c (ticking now c h) (ticking_is now c h)) cs

-- ---- what is said

module _ (s : Setup) (now c : ℕ) (h : List ServerEvent) where
  pub poll_flush : (poll : ℕ × ℕ) (frames : List LinkFrame) → Each (IsFlush c) (flushing_poll s now c poll frames h)
  poll_flush poll [] =
      either_way (Each (IsFlush c)) (has_closed c h) _ _
      (each_join (IsFlush c) (replying poll.0 (bare_reply 204) h) _ (each_replying (IsFlush c) poll.0 (bare_reply 204) h refl tt) (each_removing (IsFlush c) c h refl refl))
      (each_when (IsFlush c) (nat_le (poll.1 + held_for) now) (replying poll.0 (bare_reply 200) h ++ Notes (Answered c poll.0 now) ∷ [])
      (each_join (IsFlush c) (replying poll.0 (bare_reply 200) h) _ (each_replying (IsFlush c) poll.0 (bare_reply 200) h refl tt) (refl, tt)))
  poll_flush poll (f ∷ fs) =
      let reply = frames_reply (bytes_of s c (f ∷ fs) h) in
      each_join (IsFlush c) (lending c (f ∷ fs) ++ replying poll.0 reply h) _
      (each_join (IsFlush c) (lending c (f ∷ fs)) _ (each_lending (IsFlush c) c (f ∷ fs) (λ x. refl)) (each_replying (IsFlush c) poll.0 reply h refl tt))
      (refl, tt)

  some_poll : (o : Option (ℕ × ℕ)) (frames : List LinkFrame) → Each (IsFlush c) (flushing_some_poll s now c o frames h)
  some_poll None frames = tt
  some_poll (Some poll) frames = poll_flush poll frames

  pub flushing_is : (lane : Option ℕ) (pieces : List (List LinkFrame)) → Each (IsFlush c) (flushing_on s now c lane pieces h)
  flushing_is (Some lane) pieces =
      each_join (IsFlush c) (lending c (all_of pieces) ++ writing s c lane pieces h) _
      (each_join (IsFlush c) (lending c (all_of pieces)) _ (each_lending (IsFlush c) c (all_of pieces) (λ x. refl))
      (each_writing (IsFlush c) s c lane pieces h (λ bytes text. tt)))
      (each_when (IsFlush c) (has_closed c h) (shutting lane h ++ removing_conn c h)
      (each_join (IsFlush c) (shutting lane h) _ (each_shutting (IsFlush c) lane h tt) (each_removing (IsFlush c) c h refl refl)))
  flushing_is None pieces =
      either_way (Each (IsFlush c)) (is_polling c (notes h)) _ _
      (each_join (IsFlush c) (ending now c h) _ (each_ending (IsFlush c) now c h refl) (some_poll (poll_of c (notes h)) (all_of pieces)))
      (each_when (IsFlush c) (has_closed c h) (removing_conn c h) (each_removing (IsFlush c) c h refl refl))

pub all_flushing_is : (s : Setup) (now : ℕ) (cs : List ℕ) (pieces : List (List (List LinkFrame))) (h : List ServerEvent)
    → Each (IsOfAny IsFlush) (all_flushing s now cs pieces h)
all_flushing_is s now [] all h = tt
all_flushing_is s now (c ∷ cs) [] h = tt
all_flushing_is s now (c ∷ cs) (p ∷ more) h =
    each_join (IsOfAny IsFlush) (flushing s now c p h) _ (each_of_any IsFlush c _ (flushing_is s now c h (socket_of c (notes h)) p))
    (all_flushing_is s now cs more h)

-- ---- all of them may be planned

pub expiry_planned : (d : ServerEvent) → IsOfAny IsExpiry d → IsPlanned d
expiry_planned (Works (Does k m)) e = tt
expiry_planned (Works (Goes k)) e = tt
expiry_planned (Notes note) e = tt
expiry_planned d e = absurd e.1

pub tick_planned : (d : ServerEvent) → IsOfAny IsTick d → IsPlanned d
tick_planned (Works (Does k m)) e = tt
tick_planned (Works (Goes k)) e = tt
tick_planned (Notes note) e = tt
tick_planned (Says x) e = tt
tick_planned d e = absurd e.1

pub flush_planned : (d : ServerEvent) → IsOfAny IsFlush d → IsPlanned d
flush_planned (Works (Does k m)) e = tt
flush_planned (Works (Goes k)) e = tt
flush_planned (Notes note) e = tt
flush_planned (Says x) e = tt
flush_planned d e = absurd e.1

pub parts_of_turns : PartsOfTurns
parts_of_turns = record {
  expiring_is = expiring_is;
  expiries_are = expiries_are;
  questions_are = questions_are;
  first_is = first_is;
  last_is = last_is;
  ticking_is = ticking_is;
  ticks_are = ticks_are;
  flushing_is = λ s now c lane pieces h. flushing_is s now c h lane pieces;
  all_flushing_is = all_flushing_is;
  expiry_planned = expiry_planned;
  tick_planned = tick_planned;
  flush_planned = flush_planned;
}
