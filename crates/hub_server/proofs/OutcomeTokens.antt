-- Requests that name a token: what its life tells of its connection, and what each outcome comes to.
use Rattle.std.proofs.Common.{◌≡◌, ℕ, Bool, true, false, List, ◌∷◌, ◌++◌, Option, Some, None, refl, sym, ap, subst, ◌∙◌}
use Rattle.std.specs.Prelude.{not, ◌&&◌, if◌then◌else◌}
use Rattle.hw_lanes.specs.declared.http.Reply.{Reply}
use Rattle.hw_lanes.specs.declared.http.Request.{Request}
use Rattle.hw_lanes.specs.Replies.{IsReply}
use Rattle.hd_delivery.specs.declared.vocabulary.Reason.TheVariants as reason
use Rattle.hd_calls.specs.Hubs.{Hub}
use Rattle.hd_server.specs.declared.vocabulary.Life.{Life}
use Rattle.hd_server.specs.declared.vocabulary.Life.TheVariants.{Unknown, Fresh, Socket, Lost, Polling, Ending}
use Rattle.hd_server.specs.declared.vocabulary.Outcome.{Outcome}
use Rattle.hd_server.specs.declared.vocabulary.Outcome.TheVariants.{Refusal, NewToken, PlainSocket, TokenSocket, FirstPoll, NextPoll, LastPoll, Posting, Deletion}
use Rattle.hd_server.specs.declared.vocabulary.Said.{Said}
use Rattle.hd_server.specs.Laws.{Suits}
use Rattle.hd_server.specs.Lives.{ConnectionEvent, Polled, is_known, is_removed, is_made, is_resumable_promise, socket_of}
use Rattle.hd_server.specs.Table.{Facts, delete_outcome, socket_outcome}
use Rattle.hd_server.specs.Doings.{ServerEvent, Notes, has_peer, moment, notes}
use Rattle.hd_server.specs.Plans.{PendingRequest, Setup, bare_reply, field_at, refusal_reply, closing, ending_held, removing_conn, onto, replying, request_plan, shutting_some, standing_on}
use Rattle.hd_server.specs.Serves.{FeedsOne}
use Rattle.hn_server_front.specs.Stands as front
use Rattle.hn_server_front.specs.Calls.{lane_of}
use Rattle.hub_server.specs.declared.server.Server.{Server}
use Rattle.hub_server.specs.Lanes.{settled}
use Rattle.hub_server.specs.Servers.{IsOrderly, IsRested, Standing}
use Rattle.hub_server.specs.Connections.{CanHold, CanStand, IsKnown}
use Rattle.hub_server.specs.Steps.{Follows, HasCome}
use Rattle.hub_server.specs.Requests.{CanBeSaid, IsCarriedOut, IsNamed, Erases, OpensTo, StandsOver, is_about_token}
use Rattle.hub_server.proofs.OutcomeLives.{Reads, ending_holds, fresh_lacks, fresh_stands, held_there, lost_stands, poller_holds, reads, socketed_stands, socketed_there}
use Rattle.hub_server.proofs.OutcomeCome.{Stays, closed_stays, come_stays, deleted_so, ended_stays, replying_stays, shut_either, standing_on_shut, stays_fed, stays_shut, stays_then}

-- ---- what the front tells

-- one that isn't let go is there
pub there_of : (c : ℕ) (n : List ConnectionEvent) → is_made c n ≡ true → is_removed c n ≡ false → front.is_there c n ≡ true
there_of c n made held = ap (λ (b : Bool). b && not (is_removed c n)) made ∙ ap not held

-- the lane of its socket
pub lane_is : (c : ℕ) (n : List ConnectionEvent) (o : Option ℕ) → is_made c n ≡ true → is_removed c n ≡ false → o ≡ lane_of c n → o ≡ socket_of c n
lane_is c n o made held e = e ∙ ap (λ (b : Bool). if b then socket_of c n else None) (there_of c n made held)

pub promised_is : (c : ℕ) (n : List ConnectionEvent) (b : Bool) → is_made c n ≡ true → is_removed c n ≡ false → b ≡ (front.is_there c n && is_resumable_promise c n)
    → b ≡ is_resumable_promise c n
promised_is c n b made held e = e ∙ ap (λ (x : Bool). x && is_resumable_promise c n) (there_of c n made held)

-- ---- what an outcome tells

-- its reply can be sent
pub said_by : (r : Request) (f : Facts) (out : Outcome) → Suits r f out → CanBeSaid r.upgrade out
said_by r f (Refusal status) d = d
said_by r f (NewToken reconnect) d = tt
said_by r f PlainSocket d = d.0
said_by r f TokenSocket d = d.0
said_by r f FirstPoll d = tt
said_by r f NextPoll d = tt
said_by r f LastPoll d = tt
said_by r f Posting d = tt
said_by r f Deletion d = tt

socket_known : (l : Life) (g : Bool) → socket_outcome l g ≡ TokenSocket → is_known l ≡ true
socket_known Unknown g e = absurd (cc)
socket_known Fresh g e = refl
socket_known (Socket lane) g e = refl
socket_known Lost g e = refl
socket_known Polling g e = refl
socket_known Ending g e = refl

delete_known : (l : Life) → delete_outcome l ≡ Deletion → is_known l ≡ true
delete_known Unknown e = absurd (cc)
delete_known Fresh e = refl
delete_known (Socket lane) e = refl
delete_known Lost e = refl
delete_known Polling e = refl
delete_known Ending e = refl

-- the life of the token that it is about is known
pub known_by : (r : Request) (f : Facts) (out : Outcome) → Suits r f out → is_about_token out ≡ true → is_known f.life ≡ true
known_by r f (Refusal status) d e = absurd (let z : false ≡ true = e in cc)
known_by r f (NewToken reconnect) d e = absurd (let z : false ≡ true = e in cc)
known_by r f PlainSocket d e = absurd (let z : false ≡ true = e in cc)
known_by r f TokenSocket d e = socket_known f.life f.granted d.1
known_by r f FirstPoll d e = ap is_known d
known_by r f NextPoll d e = ap is_known d
known_by r f LastPoll d e = ap is_known d
known_by r f Posting d e = ap is_known d
known_by r f Deletion d e = delete_known f.life d

-- and so of its connection
module _ (f : Facts) (c : ℕ) (h : List ServerEvent) (o : IsOrderly settled c h) (n : IsNamed f c h) where
  reads_as : (l : Life) → f.life ≡ l → Reads l c (notes h)
  reads_as l e = reads c (notes h) l (sym n.lives ∙ e)

  pub can_stand : IsRested c h → socket_outcome f.life f.granted ≡ TokenSocket → CanStand c h
  can_stand rests e = go f.life f.granted refl refl e
    where
      go : (l : Life) (g : Bool) → f.life ≡ l → f.granted ≡ g → socket_outcome l g ≡ TokenSocket → CanStand c h
      go Unknown g i j k = absurd (cc)
      go Fresh g i j k = fresh_stands c h o n.made (reads_as Fresh i)
      go (Socket lane) true i j k = socketed_stands settled c lane h o n.made (reads_as (Socket lane) i) (sym n.grants ∙ j)
      go (Socket lane) false i j k = absurd (cc)
      go Lost g i j k = lost_stands settled c h o rests n.made (reads_as Lost i)
      go Polling g i j k = absurd (cc)
      go Ending g i j k = absurd (cc)

  pub fresh_can_stand : f.life ≡ Fresh → CanStand c h
  fresh_can_stand e = fresh_stands c h o n.made (reads_as Fresh e)

  pub fresh_has_none : f.life ≡ Fresh → has_peer c h ≡ false
  fresh_has_none e = fresh_lacks c h o (reads_as Fresh e)

  pub fresh_reads : f.life ≡ Fresh → Reads Fresh c (notes h)
  fresh_reads e = reads_as Fresh e

  pub polling_can_hold : f.life ≡ Polling → CanHold c h
  polling_can_hold e = poller_holds settled c h o n.made (reads_as Polling e)

  pub ending_can_hold : f.life ≡ Ending → CanHold c h
  ending_can_hold e = ending_holds settled c h o n.made (reads_as Ending e)

  pub deleted_known : delete_outcome f.life ≡ Deletion → IsKnown c h
  deleted_known e = go f.life refl e
    where
      go : (l : Life) → f.life ≡ l → delete_outcome l ≡ Deletion → IsKnown c h
      go Unknown i k = absurd (cc)
      go Fresh i k = record { made = n.made; held = (reads_as Fresh i).0 }
      go (Socket lane) i k = absurd (cc)
      go Lost i k = absurd (cc)
      go Polling i k = record { made = n.made; held = (reads_as Polling i).0 }
      go Ending i k = record { made = n.made; held = (reads_as Ending i).0 }

-- ---- outcomes

-- a refusal that tells what would not be refused, by whether its path is the base
abbrev pub told_at : Bool → ℕ → Reply
told_at at_base status = record (bare_reply status) { field = field_at at_base status }

pub told_sent : (at_base : Bool) (status : ℕ) → IsReply (bare_reply status) → IsReply (told_at at_base status)
told_sent at_base status sent = record { status = sent.status; accept = sent.accept; body = sent.body }

module _ {H Job : Type 0} (hub : Hub Job) (s : Setup) (before : List Said) (new : Server H Job) (o : PendingRequest) (c : ℕ) (h : List ServerEvent) where
  -- a refusal
  pub refuses : (status lane : ℕ) (reply : Reply) → o.lane ≡ lane → reply ≡ refusal_reply s.base o.request status
      → Standing {H = H} hub s settled before new (onto (replying lane reply h) h) → IsCarriedOut {H = H} hub s before new o c (Refusal status) h
  refuses status lane reply on told st =
      let refusal : Reply = refusal_reply s.base o.request status in
      record {
        after = onto (replying o.lane refusal h) h;
        follows = record { fed = onto (replying o.lane refusal h) h; feeds = refl; is = refl };
        stands = subst (λ (l : ℕ). Standing {H = H} hub s settled before new (onto (replying l refusal h) h)) (sym on)
            (subst (λ (r : Reply). Standing {H = H} hub s settled before new (onto (replying lane r h) h)) told st);
      }

  -- a poll comes
  pub follows_for : (out : Outcome) → (after : List ServerEvent) × Follows (request_plan s o None c h out) h after
      × Standing {H = H} hub s settled before new after → IsCarriedOut {H = H} hub s before new o c out h
  follows_for out f = record { after = f.0; follows = f.1; stands = f.2 }

  pub holds_last : (lane : ℕ) → o.now ≡ moment h → o.lane ≡ lane → Standing {H = H} hub s settled before new (Notes (Polled c lane (moment h)) ∷ h)
      → IsCarriedOut {H = H} hub s before new o c LastPoll h
  holds_last lane at on st = record {
    after = Notes (Polled c o.lane o.now) ∷ h;
    follows = record { fed = Notes (Polled c o.lane o.now) ∷ h; feeds = refl; is = refl };
    stands = subst (λ (m : ℕ). Standing {H = H} hub s settled before new (Notes (Polled c o.lane m) ∷ h)) (sym at)
        (subst (λ (l : ℕ). Standing {H = H} hub s settled before new (Notes (Polled c l (moment h)) ∷ h)) (sym on) st);
  }

  -- bytes come
  pub posts : (lane : ℕ) (bytes : List ℕ) (fed : List ServerEvent) (reply : Reply) → o.lane ≡ lane → o.request.body ≡ bytes → reply ≡ bare_reply 200
      → FeedsOne (moment h) c bytes h fed → Standing {H = H} hub s settled before new (onto (replying lane reply fed) fed)
      → IsCarriedOut {H = H} hub s before new o c Posting h
  posts lane bytes fed reply on body bare f st = record {
    after = onto (replying o.lane (bare_reply 200) h) fed;
    follows = record { fed = fed; feeds = subst (λ (b : List ℕ). FeedsOne (moment h) c b h fed) (sym body) f; is = refl };
    stands = subst (λ (l : ℕ). Standing {H = H} hub s settled before new (onto (replying l (bare_reply 200) h) fed)) (sym on)
        (subst (λ (xs : List ServerEvent). Standing {H = H} hub s settled before new (onto xs fed))
        (replying_stays lane (bare_reply 200) fed h (stays_fed lane (moment h) c bytes h fed f))
        (subst (λ (r : Reply). Standing {H = H} hub s settled before new (onto (replying lane r fed) fed)) bare st));
  }

  -- a connection stands on the socket from now on, or is deleted
  pub opens : OpensTo {H = H} hub s before new o h → IsCarriedOut {H = H} hub s before new o c PlainSocket h
  opens st =
      let after : List ServerEvent = onto (request_plan s o None 0 h PlainSocket).first h in
      record { after = after; follows = record { fed = after; feeds = refl; is = refl }; stands = st }

  pub takes_over : StandsOver {H = H} hub s before new o c h → IsCarriedOut {H = H} hub s before new o c TokenSocket h
  takes_over st =
      let after : List ServerEvent = onto (request_plan s o None c h TokenSocket).first h in
      record { after = after; follows = record { fed = after; feeds = refl; is = refl }; stands = st }

  pub deletes : Erases {H = H} hub s before new o c h → IsCarriedOut {H = H} hub s before new o c Deletion h
  deletes st =
      let after : List ServerEvent = onto (request_plan s o None c h Deletion).first h in
      record { after = after; follows = record { fed = after; feeds = refl; is = refl }; stands = st }

module _ {H Job : Type 0} (hub : Hub Job) (s : Setup) (before : List Said) (new : Server H Job) (o : PendingRequest) (c : ℕ) (h : List ServerEvent) where
  pub stands_over : (resumable : Bool) (lane : Option ℕ) → lane ≡ socket_of c (notes h) → resumable ≡ is_resumable_promise c (notes h)
      → Standing {H = H} hub s settled before new (onto (standing_on s o c resumable (onto (shutting_some lane h) h)) (onto (shutting_some lane h) h))
      → StandsOver {H = H} hub s before new o c h
  stands_over resumable lane on told st =
      subst (λ (p : Bool). Standing {H = H} hub s settled before new (onto (shutting_some (socket_of c (notes h)) h ++ standing_on s o c p h) h)) told
      (subst (λ (l : Option ℕ). Standing {H = H} hub s settled before new (onto (shutting_some l h ++ standing_on s o c resumable h) h)) on
      (subst (λ (g : List ServerEvent). Standing {H = H} hub s settled before new g) (standing_on_shut s o c resumable lane h) st))

  pub erases : (lane : ℕ) (reply : Reply) → o.now ≡ moment h → o.lane ≡ lane → reply ≡ bare_reply 202
      → Stays lane (onto (closing c reason.Done (onto (ending_held c (moment h) h) h) ++ removing_conn c (onto (ending_held c (moment h) h) h))
      (onto (ending_held c (moment h) h) h)) h
      → Standing {H = H} hub s settled before new
      (onto (replying lane reply (onto (closing c reason.Done (onto (ending_held c (moment h) h) h)
      ++ removing_conn c (onto (ending_held c (moment h) h) h)) (onto (ending_held c (moment h) h) h)))
      (onto (closing c reason.Done (onto (ending_held c (moment h) h) h) ++ removing_conn c (onto (ending_held c (moment h) h) h))
      (onto (ending_held c (moment h) h) h)))
      → Erases {H = H} hub s before new o c h
  erases lane reply at on bare stays st =
      let plan : ℕ → ℕ → Reply → List ServerEvent = λ m l r. ending_held c m h ++ closing c reason.Done h ++ removing_conn c h ++ replying l r h in
      subst (λ (m : ℕ). Standing {H = H} hub s settled before new (onto (plan m o.lane (bare_reply 202)) h)) (sym at)
      (subst (λ (l : ℕ). Standing {H = H} hub s settled before new (onto (plan (moment h) l (bare_reply 202)) h)) (sym on)
      (subst (λ (r : Reply). Standing {H = H} hub s settled before new (onto (plan (moment h) lane r) h)) bare
      (subst (λ (g : List ServerEvent). Standing {H = H} hub s settled before new g) (deleted_so lane c (moment h) reason.Done reply h stays) st)))

-- the doings of a deletion leave the request's lane
pub deletion_stays : (c lane : ℕ) (is_last : Bool) (h : List ServerEvent) → IsOrderly settled c h → is_removed c (notes h) ≡ false → HasCome lane is_last h
    → Stays lane (onto (closing c reason.Done (onto (ending_held c (moment h) h) h) ++ removing_conn c (onto (ending_held c (moment h) h) h))
    (onto (ending_held c (moment h) h) h)) h
deletion_stays c lane is_last h o held come =
    let ended : List ServerEvent = onto (ending_held c (moment h) h) h in
    stays_then lane (onto (closing c reason.Done ended ++ removing_conn c ended) ended) ended h (closed_stays lane c reason.Done ended ended)
    (ended_stays lane c (moment h) h come.nobody (λ polls. held_there settled c h o held polls))

-- ---- an older lane is shut

module _ (lane : ℕ) (older : Option ℕ) (h : List ServerEvent) where
  pub shut_come : (is_last : Bool) → HasCome lane is_last h → HasCome lane is_last (onto (shutting_some older h) h)
  shut_come is_last come = shut_either (HasCome lane is_last) older h come (λ l. come_stays lane is_last _ h (stays_shut lane l h) come)

  pub shut_stands : (c : ℕ) → CanStand c h → CanStand c (onto (shutting_some older h) h)
  shut_stands c can = shut_either (CanStand c) older h can
      (λ l. record { known = record { made = can.known.made; held = can.known.held }; unpolled = can.unpolled; granted = can.granted })

  pub shut_moment : (now : ℕ) → now ≡ moment h → now ≡ moment (onto (shutting_some older h) h)
  shut_moment now at = shut_either (λ (g : List ServerEvent). now ≡ moment g) older h at (λ l. at)

-- a connection that stands on a socket has a peer
pub on_socket_there : (c lane : ℕ) (h : List ServerEvent) → IsOrderly settled c h → is_removed c (notes h) ≡ false → socket_of c (notes h) ≡ Some lane
    → has_peer c h ≡ true
on_socket_there c lane h o held on = socketed_there settled c lane h o (held, on)
