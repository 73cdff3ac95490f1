-- What is done about an event leaves as waiting only the lanes on which a poll is held.
use Rattle.std.proofs.Common.{refl, ap, subst, sym, ◌∙◌, ◌≡◌, ℕ, suc, Bool, true, false, List, [], ◌∷◌, ◌++◌, Option, Some, None, if◌then◌else◌}
use Rattle.std.specs.Prelude.{◌==◌, not, is_some, unwrap_or, option_map, ◌&&◌}
use Rattle.std.proofs.lemmas.Bool.{eqb-true, eq-eqb}
use Rattle.hw_lanes.specs.declared.http.Request.{Request}
use Rattle.hw_lanes.specs.declared.http.Reply.{Reply}
use Rattle.hw_lanes.specs.Replies.{IsReply}
use Rattle.hd_delivery.specs.declared.vocabulary.Reason.TheVariants as reason
use Rattle.hd_delivery.specs.Histories.{is_this}
use Rattle.hd_server.specs.declared.vocabulary.Life.{Life}
use Rattle.hd_server.specs.declared.vocabulary.Life.TheVariants.{Unknown, Fresh, Socket, Lost, Polling, Ending}
use Rattle.hd_server.specs.declared.vocabulary.Said.TheVariants as say
use Rattle.hd_server.specs.Lives.{Negotiated, Opened, Socketed, Polled, Answered, gives_way, is_known, is_resumable_promise, made, poll_of, socket_of}
use Rattle.hd_server.specs.Texts.{token_of, negotiate_body}
use Rattle.hd_server.specs.Table.{Outcome, Refusal, NewToken, PlainSocket, TokenSocket, FirstPoll, NextPoll, LastPoll, Posting, Deletion, is_socket}
use Rattle.hd_server.specs.Machine.{Connects, settings_of, has_gone}
use Rattle.hd_server.specs.Doings.{ServerEvent, Notes, Works, Says, notes, work, awaits_reply, user_of, has_peer}
use Rattle.hd_server.specs.Plans.{Setup, onto, connecting, attaching, closing, removing_conn, peer_settings, bare_reply, socket_reply, token_reply, refusal_reply, reply_on, shutting_after, replying, ending_poll, ending_held, standing_on, shutting_some, request_plan, giving_way}
use Rattle.hd_server.specs.Serves.{IsFed}
use Rattle.hd_server.specs.Parts.{Each}
use Rattle.hd_server.proofs.Each.{each_join, each_shutting_some, each_shutting_after, each_closing, each_removing, each_move}
use Rattle.hd_server.proofs.OrderlyDoings.{in_turn}
use Rattle.hd_server.proofs.RepliesSent.{IsSent, bare_sent, refusal_sent, sent_on, token_sent, socket_sent, plain_200, plain_202, plain_204}
use Rattle.hd_server.proofs.RepliesLanes.{Held, Holds, Calm, calm_same, calm_then, calm_holds, calm_onto, calm_after, replied, IsCalm}
use Rattle.hd_server.proofs.RepliesFlushed.{answers_held}
use Rattle.hd_server.proofs.GivingWay.{either_room, removed_so}

-- ---- single parts

pub fed_calm : (now : ℕ) (o : Option (ℕ × List ℕ)) (h after : List ServerEvent) → IsFed now o h after → Calm h after
fed_calm now None h after e = subst (Calm h) (sym e) (calm_same h)
fed_calm now (Some f) h after one = subst (Calm h) (sym one.are) (calm_after _ h (each_move IsCalm f.0 one.moves (λ m. tt)))

-- a peer begins of one that holds no poll
connects_calm : (s : Setup) (c : ℕ) (reconnect : Bool) (h g : List ServerEvent) → (is_some (settings_of c (work h)) ≡ false → poll_of c (notes g) ≡ None)
    → Calm g (onto (connecting s c reconnect h) g)
connects_calm s c reconnect h g none = by (is_some (settings_of c (work h))) none where
  begun : poll_of c (notes g) ≡ None → Calm g (Works (Connects c (peer_settings s c (user_of c h) reconnect) (user_of c h)) ∷ g)
  begun e = record { same_polls = λ k. refl; fewer = λ k p f there. its k p f (k == c) refl there; same_waits = λ lane. refl; told_still = λ t. t } where
    its : (k : ℕ) (p : ℕ × ℕ) → poll_of k (notes g) ≡ Some p → (b : Bool) → (k == c) ≡ b
        → (is_some (if b then Some (peer_settings s c (user_of c h) reconnect) else settings_of k (work g)) && not (has_gone k (work g))) ≡ true
        → has_peer k g ≡ true
    its k p f true same there =
        absurd (let z : ◌≡◌ {A = Option (ℕ × ℕ)} None (Some p) = sym e ∙ sym (ap (λ x. poll_of x (notes g)) (eqb-true k c same)) ∙ f in cc)
    its k p f false other there = there

  by : (b : Bool) → (b ≡ false → poll_of c (notes g) ≡ None)
      → Calm g (onto (if b then [] else Works (Connects c (peer_settings s c (user_of c h) reconnect) (user_of c h)) ∷ []) g)
  by true e = calm_same g
  by false e = begun (e refl)

-- a poll that is answered when it comes, of one that holds none
first_poll_calm : (c lane now : ℕ) (g : List ServerEvent) → poll_of c (notes g) ≡ None → Calm g (Notes (Answered c lane now) ∷ Notes (Polled c lane now) ∷ g)
first_poll_calm c lane now g none = record {
  same_polls = λ k. by k (k == c) refl;
  fewer = λ k p e f. f;
  same_waits = λ l. refl;
  told_still = λ t. t;
}
  where
    abbrev_after : (k : ℕ) → Bool → Option (ℕ × ℕ)
    abbrev_after k b =
        if b && is_this lane (option_map (λ p. p.0) (if b then Some (lane, now) else poll_of k (notes g))) then None
        else (if b then Some (lane, now) else poll_of k (notes g))

    by : (k : ℕ) (b : Bool) → (k == c) ≡ b → abbrev_after k b ≡ poll_of k (notes g)
    by k false e = refl
    by k true e = ap (λ d. if◌then◌else◌ {A = Option (ℕ × ℕ)} d None (Some (lane, now))) (eq-eqb lane lane refl)
        ∙ sym none ∙ sym (ap (λ x. poll_of x (notes g)) (eqb-true k c e))

-- a poll that stays, of one that holds none
poll_holds : (c lane now : ℕ) (g : List ServerEvent) → Holds (Some lane) None g → poll_of c (notes g) ≡ None → Holds None None (Notes (Polled c lane now) ∷ g)
poll_holds c lane now g ok none = record {
  told = ok.told;
  waits = λ l e f. waits l (l == lane) refl e;
  asked = λ l e. absurd (let z : false ≡ true = e in cc);
  held = λ k l t p e f. held k l t p (k == c) refl e;
  free = λ k l t p e. refl;
  apart = λ j k l t u p q e f. apart j k l t u p q (j == c) refl e (k == c) refl f;
}
  where
    polls : ℕ → Bool → Option (ℕ × ℕ)
    polls k b = if b then Some (lane, now) else poll_of k (notes g)

    its_lane : (l t : ℕ) → ◌≡◌ {A = Option (ℕ × ℕ)} (Some (lane, now)) (Some (l, t)) → lane ≡ l
    its_lane l t e = ap (λ o. unwrap_or (option_map (λ p. p.0) o) 0) e

    waits : (l : ℕ) (b : Bool) → (l == lane) ≡ b → awaits_reply l g ≡ true → Held l (Notes (Polled c lane now) ∷ g)
    waits l true e f =
        (c, now, ap (λ b. polls c b) (eq-eqb c c refl) ∙ ap (λ x. Some (x, now)) (sym (eqb-true l lane e)))
    waits l false e f = let w = ok.waits l f e in (w.0, w.1, other w.0 w.1 w.2 (w.0 == c) refl) where
      other : (k t : ℕ) → poll_of k (notes g) ≡ Some (l, t) → (b : Bool) → (k == c) ≡ b → polls k b ≡ Some (l, t)
      other k t i false j = i
      other k t i true j =
          absurd (let z : ◌≡◌ {A = Option (ℕ × ℕ)} None (Some (l, t)) = sym none ∙ sym (ap (λ x. poll_of x (notes g)) (eqb-true k c j)) ∙ i in cc)

    held : (k l t : ℕ) → has_peer k g ≡ true → (b : Bool) → (k == c) ≡ b → polls k b ≡ Some (l, t) → awaits_reply l g ≡ true
    held k l t p true i e = ok.asked l (eq-eqb l lane (sym (its_lane l t e)))
    held k l t p false i e = ok.held k l t p e refl

    apart : (j k l t u : ℕ) → has_peer j g ≡ true → has_peer k g ≡ true → (b : Bool) → (j == c) ≡ b → polls j b ≡ Some (l, t)
        → (d : Bool) → (k == c) ≡ d → polls k d ≡ Some (l, u) → j ≡ k
    apart j k l t u p q true a e true b f = eqb-true j c a ∙ sym (eqb-true k c b)
    apart j k l t u p q true a e false b f =
        absurd (let z : true ≡ false = sym (eq-eqb l lane (sym (its_lane l t e))) ∙ ok.free k l u q f in cc)
    apart j k l t u p q false a e true b f =
        absurd (let z : true ≡ false = sym (eq-eqb l lane (sym (its_lane l u f))) ∙ ok.free j l t p e in cc)
    apart j k l t u p q false a e false b f = ok.apart j k l t u p q e f

-- the request is answered
replies_now : (lane : ℕ) (reply : Reply) (h g : List ServerEvent) → IsReply reply → Holds (Some lane) None g → Holds None None (onto (replying lane reply h) g)
replies_now lane reply h g sent ok =
    let x : List ServerEvent = Says (say.Reply lane (reply_on lane reply h)) ∷ g in
    calm_holds None None x (onto (replying lane reply h) g)
    (calm_onto (shutting_after lane reply h) x (each_shutting_after IsCalm lane reply h tt)) (replied lane None (reply_on lane reply h) g (sent_on lane reply h sent) ok)

begins_calm : (s : Setup) (now c : ℕ) (reconnect : Bool) (h g : List ServerEvent) → (is_some (settings_of c (work h)) ≡ false → poll_of c (notes g) ≡ None)
    → Calm g (onto (connecting s c reconnect h ++ attaching c now h) g)
begins_calm s now c reconnect h g none =
    in_turn (Calm g) (connecting s c reconnect h) (attaching c now h) g
    (calm_then g (onto (connecting s c reconnect h) g) (onto (attaching c now h) (onto (connecting s c reconnect h) g))
    (connects_calm s c reconnect h g none) (calm_onto (attaching c now h) (onto (connecting s c reconnect h) g) (tt, tt)))

stands_holds : (s : Setup) (now lane c : ℕ) (r : Request) (reconnect : Bool) (h g : List ServerEvent) → is_socket r ≡ true
    → (is_some (settings_of c (work h)) ≡ false → poll_of c (notes g) ≡ None) → Holds (Some lane) None g
    → Holds None None (onto (standing_on s (record { now = now; lane = lane; request = r }) c reconnect h) g)
stands_holds s now lane c r reconnect h g asks none ok =
    let x : List ServerEvent = onto (connecting s c reconnect h ++ attaching c now h) g in
    let calm : Calm g (Notes (Socketed c lane now) ∷ x)
    = calm_then g x (Notes (Socketed c lane now) ∷ x) (begins_calm s now c reconnect h g none) (calm_onto (Notes (Socketed c lane now) ∷ []) x (tt, tt)) in
    let reply : List ServerEvent = replying lane (socket_reply r.upgrade) h in
    in_turn (Holds None None) (connecting s c reconnect h ++ attaching c now h) (Notes (Socketed c lane now) ∷ reply) g
    (replies_now lane (socket_reply r.upgrade) h (Notes (Socketed c lane now) ∷ x) (socket_sent r.upgrade asks)
    (calm_holds (Some lane) None g (Notes (Socketed c lane now) ∷ x) calm ok))

-- a poll that is held is ended
ended_none : (c now : ℕ) (o : Option (ℕ × ℕ)) (h g : List ServerEvent) → poll_of c (notes g) ≡ o → poll_of c (notes (onto (ending_poll c now o h) g)) ≡ None
ended_none c now None h g e = e
ended_none c now (Some poll) h g e =
    in_turn (λ x. poll_of c (notes x) ≡ None) (replying poll.0 (bare_reply 204) h) (Notes (Answered c poll.0 now) ∷ []) g
    (ap (λ b. if b && is_this poll.0 (option_map (λ p. p.0) (poll_of c (notes y))) then None else poll_of c (notes y)) (eq-eqb c c refl)
    ∙ ap (λ o. if is_this poll.0 (option_map (λ p. p.0) o) then None else o) still ∙ ap (λ b. if b then None else Some poll) (eq-eqb poll.0 poll.0 refl))
  where
    y : List ServerEvent
    y = onto (replying poll.0 (bare_reply 204) h) g

    still : poll_of c (notes y) ≡ Some poll
    still =
        (calm_onto (shutting_after poll.0 (bare_reply 204) h) (Says (say.Reply poll.0 (reply_on poll.0 (bare_reply 204) h)) ∷ g)
        (each_shutting_after IsCalm poll.0 (bare_reply 204) h tt)).same_polls c ∙ e

ends_holds : (asks : Option ℕ) (c now : ℕ) (o : Option (ℕ × ℕ)) (h g : List ServerEvent) → Holds asks None g → poll_of c (notes g) ≡ o
    → (is_some o ≡ true → has_peer c g ≡ true) → Holds asks None (onto (ending_poll c now o h) g)
ends_holds asks c now None h g ok e there = ok
ends_holds asks c now (Some poll) h g ok e there = answers_held asks c poll now h g ok (there refl) e (bare_reply 204) (bare_sent 204 plain_204)

-- ---- a request

-- what is known of the connection that it names, and of the next one
pub record Named (c : ℕ) (life : Life) (h : List ServerEvent) : Type 0 where
  pub never_begun : is_known life ≡ true → is_some (settings_of c (work h)) ≡ false → poll_of c (notes h) ≡ None
  pub polls_there : is_known life ≡ true → is_some (poll_of c (notes h)) ≡ true → has_peer c h ≡ true
  pub fresh : life ≡ Fresh → poll_of c (notes h) ≡ None
  pub done : life ≡ Ending → poll_of c (notes h) ≡ None
  pub next : poll_of (suc (made (notes h))) (notes h) ≡ None

known_but : (l : Life) → (l ≡ Unknown → ⊥) → is_known l ≡ true
known_but Unknown f = absurd (f refl)
known_but Fresh f = refl
known_but (Socket l) f = refl
known_but Lost f = refl
known_but Polling f = refl
known_but Ending f = refl

module _ (s : Setup) (now lane : ℕ) (r : Request) (drawn : Option (List ℕ)) (c : ℕ) (h : List ServerEvent) (life : Life) (n : Named c life h)
    (ok : Holds (Some lane) None h) where
  -- after one gave way
  gave : Holds (Some lane) None (onto (giving_way s now h) h)
  gave =
      either_room (Holds (Some lane) None) (gives_way s.live now (notes h)) h h ok
      (λ k e. calm_holds (Some lane) None h (onto (removing_conn k h) h) (calm_onto (removing_conn k h) h (each_removing IsCalm k h tt tt)) ok)

  next_none : poll_of (suc (made (notes (onto (giving_way s now h) h)))) (notes (onto (giving_way s now h) h)) ≡ None
  next_none =
      either_room (λ g. poll_of (suc (made (notes g))) (notes g) ≡ None) (gives_way s.live now (notes h)) h h n.next
      (λ k e. removed_so (λ g. poll_of (suc (made (notes g))) (notes g) ≡ None) k h h n.next n.next)

  pub request_holds : (out : Outcome) → IsSent r life out → (fed : List ServerEvent)
      → IsFed now (request_plan s (record { now = now; lane = lane; request = r }) drawn c h out).food
      (onto (request_plan s (record { now = now; lane = lane; request = r }) drawn c h out).first h) fed
      → Holds None None (onto (request_plan s (record { now = now; lane = lane; request = r }) drawn c h out).last fed)
  request_holds (Refusal status) right fed e =
      subst (Holds None None) (sym e) (replies_now lane (refusal_reply s.base r status) h h (refusal_sent s.base r status right) ok)
  request_holds (NewToken reconnect) right fed e =
      let room : List ServerEvent = giving_way s now h in
      let g : List ServerEvent = onto room h in
      let k : ℕ = suc (made (notes g)) in
      let token : List ℕ = token_of (unwrap_or drawn []) k in
      let x : List ServerEvent = Notes (Negotiated k token reconnect now) ∷ g in
      let reply : List ServerEvent = replying lane (token_reply (negotiate_body k token reconnect)) g in
      subst (Holds None None) (sym e)
      (in_turn (Holds None None) room (Notes (Negotiated k token reconnect now) ∷ reply) h
      (replies_now lane (token_reply (negotiate_body k token reconnect)) g x (token_sent (negotiate_body k token reconnect))
      (calm_holds (Some lane) None g x (calm_onto (Notes (Negotiated k token reconnect now) ∷ []) g (tt, tt)) gave)))
  request_holds PlainSocket right fed e =
      let room : List ServerEvent = giving_way s now h in
      let g : List ServerEvent = onto room h in
      let k : ℕ = suc (made (notes g)) in
      let x : List ServerEvent = Notes (Opened k now) ∷ g in
      subst (Holds None None) (sym e)
      (in_turn (Holds None None) room (Notes (Opened k now) ∷ standing_on s (record { now = now; lane = lane; request = r }) k false x) h
      (stands_holds s now lane k r false x x right (λ z. next_none)
      (calm_holds (Some lane) None g x (calm_onto (Notes (Opened k now) ∷ []) g (tt, tt)) gave)))
  request_holds TokenSocket right fed e =
      let shut : List ServerEvent = shutting_some (socket_of c (notes h)) h in
      let calm = calm_onto shut h (each_shutting_some IsCalm (socket_of c (notes h)) h (λ l. tt)) in
      subst (Holds None None) (sym e)
      (in_turn (Holds None None) shut (standing_on s (record { now = now; lane = lane; request = r }) c (is_resumable_promise c (notes h)) h) h
      (stands_holds s now lane c r (is_resumable_promise c (notes h)) h (onto shut h) right.0 (λ z. calm.same_polls c ∙ n.never_begun (known_but life right.1.2) z)
      (calm_holds (Some lane) None h (onto shut h) calm ok)))
  request_holds FirstPoll right fed e =
      let begun : List ServerEvent = onto (connecting s c false h ++ attaching c now h) h in
      let calm = calm_then h begun fed (begins_calm s now c false h h (n.never_begun (ap is_known right))) (fed_calm now (Some (c, [])) begun fed e) in
      let x : List ServerEvent = Notes (Answered c lane now) ∷ Notes (Polled c lane now) ∷ fed in
      let to_x = calm_then h fed x calm (first_poll_calm c lane now fed (calm.same_polls c ∙ n.fresh right)) in
      replies_now lane (bare_reply 200) h x (bare_sent 200 plain_200) (calm_holds (Some lane) None h x to_x ok)
  request_holds NextPoll right fed e =
      let begun : List ServerEvent = onto (ending_held c now h) h in
      let calm = fed_calm now (Some (c, [])) begun fed e in
      let ended : Holds (Some lane) None begun = ends_holds (Some lane) c now (poll_of c (notes h)) h h ok refl (n.polls_there (ap is_known right)) in
      poll_holds c lane now fed (calm_holds (Some lane) None begun fed calm ended)
      (calm.same_polls c ∙ ended_none c now (poll_of c (notes h)) h h refl)
  request_holds LastPoll right fed e = subst (Holds None None) (sym e) (poll_holds c lane now h ok (n.done right))
  request_holds Posting right fed e =
      replies_now lane (bare_reply 200) h fed (bare_sent 200 plain_200)
      (calm_holds (Some lane) None h fed (fed_calm now (Some (c, r.body)) h fed e) ok)
  request_holds Deletion right fed e =
      let polls : List ServerEvent = ending_held c now h in
      let ends : List ServerEvent = closing c reason.Done h ++ removing_conn c h in
      let calm : Each IsCalm ends = each_join IsCalm (closing c reason.Done h) (removing_conn c h) (each_closing IsCalm c reason.Done h tt) (each_removing IsCalm c h tt tt) in
      let ended : Holds (Some lane) None (onto polls h) = ends_holds (Some lane) c now (poll_of c (notes h)) h h ok refl (n.polls_there right) in
      let y : List ServerEvent = onto (closing c reason.Done h) (onto polls h) in
      let z : List ServerEvent = onto (removing_conn c h) y in
      let at_y = calm_holds (Some lane) None (onto polls h) y (calm_onto (closing c reason.Done h) (onto polls h) (each_closing IsCalm c reason.Done h tt)) ended in
      let at_z = calm_holds (Some lane) None y z (calm_onto (removing_conn c h) y (each_removing IsCalm c h tt tt)) at_y in
      subst (Holds None None) (sym e)
      (in_turn (Holds None None) (polls ++ closing c reason.Done h ++ removing_conn c h) (replying lane (bare_reply 202) h) h
      (in_turn (λ x. Holds None None (onto (replying lane (bare_reply 202) h) x)) (polls ++ closing c reason.Done h) (removing_conn c h) h
      (in_turn (λ x. Holds None None (onto (replying lane (bare_reply 202) h) (onto (removing_conn c h) x))) polls (closing c reason.Done h) h
      (replies_now lane (bare_reply 202) h z (bare_sent 202 plain_202) at_z))))
