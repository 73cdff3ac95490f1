-- In a session of a caller that replies only where that is awaited, all replies are said but for the last on a lane that isn't live any more.
use Rattle.std.proofs.Common.{if◌then◌else◌, ◌≡◌, ◌⊎◌, ◌==◌, ◌&&◌, ◌||◌, ◌++◌, ◌∷◌, [], ℕ, Bool, true, false, not, List, refl, sym, ap, ◌∙◌, subst, inl, inr, append-nil, append_assoc}
use Rattle.hw_lanes.specs.declared.http.Reply.{Reply}
use Rattle.hw_lanes.specs.declared.http.Request.{Request}
use Rattle.hw_door.specs.declared.heard.Event.{Event}
use Rattle.hw_door.specs.declared.heard.Event.TheVariants as event
use Rattle.hw_door.specs.Traffic.{Answer}
use Rattle.hw_socket.specs.Sending.{Sent}
use Rattle.hw_net.specs.declared.protocol.Protocol.{Protocol}
use Rattle.hw_net.specs.declared.protocol.Protocol.TheVariants.{Http, Response, Socket}
use Rattle.hw_net.specs.Awaited.{is_lost_on, awaits_on, AreAwaited, given_on, refusals_on, given_since, GivesFirst, RepliesAreSaid}
use Rattle.hw_net.specs.Door.{new_lane}
use Rattle.hw_net.specs.Lane.{Lane, is_live, is_busy, owes, after_reply, refusal_of}
use Rattle.hw_net.specs.Saying.{SaysMore}
use Rattle.hw_net.specs.Sessions as session
use Rattle.hw_net.specs.Sessions.{Call, is_end_on, is_owed_on, is_request_on, refusal_on, replies_on, request_on, requests_on, goes_on, sent_on}
use Rattle.hw_net.specs.Trace.{Chooses}
use Rattle.hw_net.specs.Turn.{Replies, Sends, Shuts}
use Rattle.hw_net.proofs.Awaiting.{IsAsKnown, heeds-stands, new-known, no-parts, step-known}
use Rattle.hw_net.proofs.Counting.{hears_no_request, Lives, IsFree, bystander-live, heeds-free, sends-live, shuts-live}
use Rattle.hw_net.proofs.Speaking.{Speaks, bystander-speech, heeds-speech, sends-speech, shuts-speech}
use Rattle.hw_net.proofs.Lasting.{IsLasting, lasts-there, new-lasting, step-lasting}
use Rattle.hw_net.proofs.Moves.{has-of}
use Rattle.hw_net.proofs.Owed.{IsOwed, by-number, new-owed, step-owed}
use Rattle.hw_net.proofs.Shares.{equal}
use Rattle.hw_net.proofs.Walks.{Heeds, Moves, moves-wire, IsUntouched, each-lane}

-- what holds of these, on this lane
record Holds (given replies refusals : List Reply) (awaits : Bool) (sent since : List Sent) (lane : Lane) : Type 0 where
  said : List Reply
  unsaid : List Reply
  parted : given ≡ said ++ unsaid
  are : replies ≡ said ++ refusals
  few : (unsaid ≡ []) ⊎ ((reply : Reply) × (unsaid ≡ reply ∷ []) × (awaits ≡ false))
  all : is_live lane.stage ≡ true → (unsaid ≡ []) × (refusals ≡ [])
  quiet : hears_no_request lane.protocol ≡ true → (late : List Sent) × (awaits ≡ false) × (since ≡ sent ++ late) × (is_live lane.stage ≡ true → late ≡ [])

abbrev HoldsOn : ℕ → List Call → Lane → Type 0
HoldsOn wire calls lane =
    Holds (given_on wire calls) (replies_on wire calls) (refusals_on wire calls) (awaits_on wire calls) (sent_on wire calls) (given_since wire calls) lane

abbrev IsTold : List Call → Lane → Type 0
IsTold calls lane = IsAsKnown calls lane × IsOwed calls lane × IsLasting false calls lane × (AreAwaited calls → HoldsOn lane.wire calls lane)

no-refusal : (wire : ℕ) (what : Event) → is_end_on wire what ≡ false → refusal_on wire what ≡ []
no-refusal wire (event.Refused at refusal) h = ap (λ b. if b then refusal_of refusal ∷ [] else []) h
no-refusal wire (event.Request at request) h = refl
no-refusal wire (event.Bytes at bytes) h = refl
no-refusal wire (event.Response at status body) h = refl
no-refusal wire (event.Upgraded at) h = refl
no-refusal wire (event.Lost at) h = refl
no-refusal wire (event.Drained at) h = refl
no-refusal wire event.Quiet h = refl

-- what is a request of the lane
a-request : (wire : ℕ) (what : Event) → is_request_on wire what ≡ true → (request : Request) × (request_on wire what ≡ request ∷ [])
a-request wire (event.Request at request) h = (request, ap (λ b. if b then request ∷ [] else []) h)
a-request wire (event.Refused at refusal) h = absurd (cc h)
a-request wire (event.Bytes at bytes) h = absurd (cc h)
a-request wire (event.Response at status body) h = absurd (cc h)
a-request wire (event.Upgraded at) h = absurd (cc h)
a-request wire (event.Lost at) h = absurd (cc h)
a-request wire (event.Drained at) h = absurd (cc h)
a-request wire event.Quiet h = absurd (cc h)

and-false : (a : Bool) → (a && false) ≡ false
and-false true = refl
and-false false = refl

clash : (b : Bool) → b ≡ true → b ≡ false → ⊥
clash b e f = let z : true ≡ false = sym e ∙ f in cc z

not-empty : (unsaid : List Reply) (reply : Reply) → unsaid ≡ [] → unsaid ≡ reply ∷ [] → ⊥
not-empty unsaid reply e f = let z : [] ≡ reply ∷ [] = sym e ∙ f in cc z

-- ---- what is heard

none-awaited : (requested lost awaits : Bool) → requested ≡ false → awaits ≡ false → (requested || (not lost && awaits)) ≡ false
none-awaited requested lost awaits e f = ap (λ b. b || (not lost && awaits)) e ∙ ap (λ b. not lost && b) f ∙ and-false (not lost)

heard-holds : (now : ℕ) (what : Event) (x y : Lane) (mine : List Answer) (given replies refusals : List Reply) (awaits : Bool) (sent since : List Sent) → Heeds now what x y mine →
    Holds given replies refusals awaits sent since x →
    Holds given (replies ++ refusal_on x.wire what) (refusals ++ refusal_on x.wire what) (is_request_on x.wire what || (not (is_lost_on x.wire what) && awaits)) sent since y
heard-holds now what x y mine given replies refusals awaits sent since h p = record {
  said = p.said;
  unsaid = p.unsaid;
  parted = p.parted;
  are = ap (λ l. l ++ refusal_on x.wire what) p.are ∙ append_assoc p.said refusals (refusal_on x.wire what);
  few = by_few (is_request_on x.wire what) refl p.few;
  all = λ live. let was = heeds-stands now what x y mine h live in
      let before = p.all was.0 in
      (before.0, ap (λ l. l ++ refusal_on x.wire what) before.1 ∙ no-refusal x.wire what was.2);
  quiet = λ socket. let was : hears_no_request x.protocol ≡ true = sym (heeds-speech now what x y mine h) ∙ socket in
      let k = p.quiet was in
      (k.0, by_quiet (is_request_on x.wire what) refl was k.1, k.2, λ live. k.3 (heeds-stands now what x y mine h live).0);
} where
  free : is_request_on x.wire what ≡ true → IsFree x
  free e = let r = a-request x.wire what e in heeds-free now what x y mine r.0 h r.1

  by_few : (b : Bool) → is_request_on x.wire what ≡ b → (p.unsaid ≡ []) ⊎ ((reply : Reply) × (p.unsaid ≡ reply ∷ []) × (awaits ≡ false)) →
      (p.unsaid ≡ []) ⊎ ((reply : Reply) × (p.unsaid ≡ reply ∷ []) × ((is_request_on x.wire what || (not (is_lost_on x.wire what) && awaits)) ≡ false))
  by_few b e (inl k) = inl k
  by_few true e (inr k) = inl (p.all (free e).0).0
  by_few false e (inr k) = inr (k.0, k.1, none-awaited (is_request_on x.wire what) (is_lost_on x.wire what) awaits e k.2)

  by_quiet : (b : Bool) → is_request_on x.wire what ≡ b → hears_no_request x.protocol ≡ true → awaits ≡ false → (is_request_on x.wire what || (not (is_lost_on x.wire what) && awaits)) ≡ false
  by_quiet true e socket f = absurd (clash (hears_no_request x.protocol) socket (free e).2)
  by_quiet false e socket f = none-awaited (is_request_on x.wire what) (is_lost_on x.wire what) awaits e f

-- ---- what is given

-- a reply that is owed is said
owed-holds : (reply : Reply) (x y : Lane) (given replies refusals : List Reply) (awaits : Bool) (sent since : List Sent) → is_live x.stage ≡ true →
    Holds given replies refusals awaits sent since x → Holds (given ++ reply ∷ []) (replies ++ reply ∷ []) refusals false [] [] y
owed-holds reply x y given replies refusals awaits sent since live p = record {
  said = p.said ++ reply ∷ [];
  unsaid = [];
  parted = ap (λ l. l ++ reply ∷ []) (p.parted ∙ ap (λ l. p.said ++ l) (p.all live).0 ∙ append-nil p.said) ∙ sym (append-nil (p.said ++ reply ∷ []));
  are = ap (λ l. l ++ reply ∷ []) (p.are ∙ ap (λ l. p.said ++ l) (p.all live).1 ∙ append-nil p.said) ∙ sym (append-nil (p.said ++ reply ∷ [])) ∙ ap (λ l. (p.said ++ reply ∷ []) ++ l) (sym (p.all live).1);
  few = inl refl;
  all = λ k. (refl, (p.all live).1);
  quiet = λ k. ([], refl, refl, λ l. refl);
}

-- on a lane that isn't live a reply is said no more
late-holds : (reply : Reply) (x : Lane) (given replies refusals : List Reply) (awaits : Bool) (sent since : List Sent) → is_live x.stage ≡ false → awaits ≡ true →
    Holds given replies refusals awaits sent since x → Holds (given ++ reply ∷ []) (replies ++ []) refusals false sent [] x
late-holds reply x given replies refusals awaits sent since dead awaited p = record {
  said = p.said;
  unsaid = p.unsaid ++ reply ∷ [];
  parted = ap (λ l. l ++ reply ∷ []) p.parted ∙ append_assoc p.said p.unsaid (reply ∷ []);
  are = append-nil replies ∙ p.are;
  few = by_few p.few;
  all = λ live. absurd (clash (is_live x.stage) live dead);
  quiet = λ socket. absurd (clash awaits awaited (p.quiet socket).1);
} where
  by_few : (p.unsaid ≡ []) ⊎ ((other : Reply) × (p.unsaid ≡ other ∷ []) × (awaits ≡ false)) →
      (p.unsaid ++ reply ∷ [] ≡ []) ⊎ ((other : Reply) × (p.unsaid ++ reply ∷ [] ≡ other ∷ []) × (false ≡ false))
  by_few (inl k) = inr (reply, ap (λ l. l ++ reply ∷ []) k, refl)
  by_few (inr k) = absurd (clash awaits awaited k.2)

-- another lane is as before
other-holds : (x y : Lane) (given replies refusals : List Reply) (awaits : Bool) (sent since : List Sent) → (is_live y.stage ≡ true → is_live x.stage ≡ true) → Speaks x y →
    Holds given replies refusals awaits sent since x → Holds given replies refusals awaits sent since y
other-holds x y given replies refusals awaits sent since lives speaks p = record {
  said = p.said;
  unsaid = p.unsaid;
  parted = p.parted;
  are = p.are;
  few = p.few;
  all = λ live. p.all (lives live);
  quiet = λ socket. let q = p.quiet (sym speaks ∙ socket) in (q.0, q.1, q.2, λ live. q.3 (lives live));
}

lives : (x y : Lane) → Lives x y → is_live y.stage ≡ true → is_live x.stage ≡ true
lives x y l e = (l e).0

as-lane : (x y : Lane) (given replies refusals : List Reply) (awaits : Bool) (sent since : List Sent) → y ≡ x → Holds given replies refusals awaits sent since x → Holds given replies refusals awaits sent since y
as-lane x y given replies refusals awaits sent since e p = subst (λ (l : Lane). Holds given replies refusals awaits sent since l) (sym e) p

both : (a b : Bool) → a && b ≡ true → a ≡ true
both true b e = refl
both false b e = absurd (cc e)

-- a reply on the lane where it is awaited
reply-holds : (now : ℕ) (reply : Reply) (calls : List Call) (x y : Lane) (mine : List Answer) → IsAsKnown calls x → IsOwed calls x → AreAwaited calls → awaits_on x.wire calls ≡ true →
    Replies now reply x y mine → HoldsOn x.wire calls x →
    Holds (given_on x.wire calls ++ reply ∷ []) (replies_on x.wire calls ++ (if is_owed_on x.wire calls then reply ∷ [] else [])) (refusals_on x.wire calls) false
    (if is_owed_on x.wire calls then [] else sent_on x.wire calls) [] y
reply-holds now reply calls x y mine known owed all awaited h p =
    subst (λ b. Holds (given_on x.wire calls ++ reply ∷ []) (replies_on x.wire calls ++ (if b then reply ∷ [] else [])) (refusals_on x.wire calls) false
    (if b then [] else sent_on x.wire calls) [] y) owed (go (owes x) refl h) where
      dead : (live : Bool) → is_live x.stage ≡ live → owes x ≡ false → is_live x.stage ≡ false
      dead false e f = e
      dead true e f = absurd (clash (owes x) (ap (λ b. b && is_busy x.protocol) e ∙ sym (known all e).0 ∙ awaited) f)

      go : (b : Bool) → owes x ≡ b → Chooses b (SaysMore (after_reply now reply x) y mine) ((mine ≡ []) × (y ≡ x)) →
          Holds (given_on x.wire calls ++ reply ∷ []) (replies_on x.wire calls ++ (if b then reply ∷ [] else [])) (refusals_on x.wire calls) false (if b then [] else sent_on x.wire calls) [] y
      go true e h = owed-holds reply x y _ _ _ _ _ _ (both (is_live x.stage) (is_busy x.protocol) e) p
      go false e h = as-lane x y _ _ _ _ _ _ h.1 (late-holds reply x _ _ _ _ _ _ (dead (is_live x.stage) refl e) awaited p)

-- ---- sessions

told-here : (call : Call) (calls : List Call) (x y : Lane) → IsTold calls x → Moves call x y → AreAwaited (call ∷ calls) → HoldsOn x.wire (call ∷ calls) y
told-here (session.heard what answers) calls x y k h all = heard-holds what.now what.event x y _ _ _ _ _ _ _ h (k.3 all)
told-here (session.replied at reply answers) calls x y k h all =
    by-number at (Replies h.0 reply) x y _
    (λ b. (at == x.wire) ≡ b → Holds (given_on x.wire calls ++ (if b then reply ∷ [] else [])) (replies_on x.wire calls ++ (if b && is_owed_on x.wire calls then reply ∷ [] else []))
    (refusals_on x.wire calls) (not b && awaits_on x.wire calls) (if b && is_owed_on x.wire calls then [] else sent_on x.wire calls) (if b then [] else given_since x.wire calls) y)
    (λ r e. reply-holds h.0 reply calls x y _ k.0 k.1 all.1 (ap (λ n. awaits_on n calls) (sym (equal at x.wire e)) ∙ all.0) r (k.3 all.1))
    (λ s m e. stays s (k.3 all.1))
    h.1 refl where
      stays : y ≡ x → HoldsOn x.wire calls x →
          Holds (given_on x.wire calls ++ []) (replies_on x.wire calls ++ []) (refusals_on x.wire calls) (awaits_on x.wire calls) (sent_on x.wire calls) (given_since x.wire calls) y
      stays s p =
          subst (λ l. Holds l (replies_on x.wire calls ++ []) (refusals_on x.wire calls) (awaits_on x.wire calls) (sent_on x.wire calls) (given_since x.wire calls) y) (sym (append-nil (given_on x.wire calls)))
          (subst (λ l. Holds (given_on x.wire calls) l (refusals_on x.wire calls) (awaits_on x.wire calls) (sent_on x.wire calls) (given_since x.wire calls) y) (sym (append-nil (replies_on x.wire calls)))
          (as-lane x y _ _ _ _ _ _ s p))
told-here (session.sent at bytes text full answers) calls x y k h all =
    by-number at (Sends h.0 bytes text) x y _ (λ b. Holds (given_on x.wire calls) (replies_on x.wire calls) (refusals_on x.wire calls) (awaits_on x.wire calls)
    (if b && goes_on x.wire calls then sent_on x.wire calls ++ m ∷ [] else sent_on x.wire calls) (if b then given_since x.wire calls ++ m ∷ [] else given_since x.wire calls) y)
    (λ s. other-holds x y _ _ _ _ _ _ (lives x y (sends-live h.0 bytes text x y _ s)) (sends-speech h.0 bytes text x y _ s) (more (goes_on x.wire calls) (lasts-there (is_live x.stage) (goes_on x.wire calls) x.protocol k.2) (k.3 all)))
    (λ s e. as-lane x y _ _ _ _ _ _ s (k.3 all)) h.1 where
      m : Sent
      m = record { is_text = text; bytes = bytes }

      more : (goes : Bool) → (hears_no_request x.protocol ≡ true → is_live x.stage ≡ goes) → HoldsOn x.wire calls x →
          Holds (given_on x.wire calls) (replies_on x.wire calls) (refusals_on x.wire calls) (awaits_on x.wire calls) (if goes then sent_on x.wire calls ++ m ∷ [] else sent_on x.wire calls)
          (given_since x.wire calls ++ m ∷ []) x
      more true r p = record {
        said = p.said;
        unsaid = p.unsaid;
        parted = p.parted;
        are = p.are;
        few = p.few;
        all = p.all;
        quiet = λ socket. let q = p.quiet socket in
            ([], q.1, ap (λ l. l ++ m ∷ []) (q.2 ∙ ap (λ l. sent_on x.wire calls ++ l) (q.3 (r socket)) ∙ append-nil (sent_on x.wire calls)) ∙ sym (append-nil (sent_on x.wire calls ++ m ∷ [])), λ l. refl);
      }
      more false r p = record {
        said = p.said;
        unsaid = p.unsaid;
        parted = p.parted;
        are = p.are;
        few = p.few;
        all = p.all;
        quiet = λ socket. let q = p.quiet socket in
            (q.0 ++ m ∷ [], q.1, ap (λ l. l ++ m ∷ []) q.2 ∙ append_assoc (sent_on x.wire calls) q.0 (m ∷ []), λ live. absurd (clash (is_live x.stage) live (r socket)));
      }
told-here (session.shut at answers) calls x y k h all =
    by-number at (Shuts h.0) x y _ (λ b. HoldsOn x.wire calls y)
    (λ s. other-holds x y _ _ _ _ _ _ (lives x y (shuts-live h.0 x y _ s)) (shuts-speech h.0 x y _ s) (k.3 all))
    (λ s e. as-lane x y _ _ _ _ _ _ s (k.3 all)) h.1
told-here (session.wrote at answers) calls x y k h all =
    other-holds x y _ _ _ _ _ _ (lives x y (bystander-live 0 x y _ h)) (bystander-speech 0 x y _ h) (k.3 all)

step-told : (call : Call) (calls : List Call) (x y : Lane) → IsTold calls x → Moves call x y → IsTold (call ∷ calls) y
step-told call calls x y k h = (
  step-known call calls x y k.0 h,
  step-owed call calls x y k.1 h,
  step-lasting false call calls x y k.1 k.2 h,
  λ all. subst (λ n. HoldsOn n (call ∷ calls) y) (sym (moves-wire call x y h)) (told-here call calls x y k h all),
)

-- ---- new lanes

ungiven : (lane : ℕ) (calls : List Call) → requests_on lane calls ≡ [] → AreAwaited calls → (given_on lane calls ≡ []) × (awaits_on lane calls ≡ false)
ungiven lane [] e all = (refl, refl)
ungiven lane (session.heard what answers ∷ calls) e all =
    let parts = no-parts (requests_on lane calls) (request_on lane what.event) e in
    let before = ungiven lane calls parts.0 all in
    (before.0, unrequested (is_request_on lane what.event) refl parts.1 before.1) where
      unrequested : (b : Bool) → is_request_on lane what.event ≡ b → request_on lane what.event ≡ [] → awaits_on lane calls ≡ false →
          (is_request_on lane what.event || (not (is_lost_on lane what.event) && awaits_on lane calls)) ≡ false
      unrequested true f none was = absurd (let r = a-request lane what.event f in let z : [] ≡ r.0 ∷ [] = sym none ∙ r.1 in cc z)
      unrequested false f none was = none-awaited (is_request_on lane what.event) (is_lost_on lane what.event) (awaits_on lane calls) f was
ungiven lane (session.replied at reply answers ∷ calls) e all = go (at == lane) refl (ungiven lane calls e all.1) where
  go : (b : Bool) → (at == lane) ≡ b → (given_on lane calls ≡ []) × (awaits_on lane calls ≡ false) →
      (given_on lane calls ++ (if b then reply ∷ [] else []) ≡ []) × ((not b && awaits_on lane calls) ≡ false)
  go true f was = absurd (clash (awaits_on lane calls) (ap (λ n. awaits_on n calls) (sym (equal at lane f)) ∙ all.0) was.1)
  go false f was = (append-nil (given_on lane calls) ∙ was.0, was.1)
ungiven lane (session.sent at bytes text full answers ∷ calls) e all = ungiven lane calls e all
ungiven lane (session.shut at answers ∷ calls) e all = ungiven lane calls e all
ungiven lane (session.wrote at answers ∷ calls) e all = ungiven lane calls e all

unrefused : (lane : ℕ) (calls : List Call) → replies_on lane calls ≡ [] → refusals_on lane calls ≡ []
unrefused lane [] e = refl
unrefused lane (session.heard what answers ∷ calls) e =
    let parts = no-parts (replies_on lane calls) (refusal_on lane what.event) e in
    ap (λ l. l ++ refusal_on lane what.event) (unrefused lane calls parts.0) ∙ parts.1
unrefused lane (session.replied at reply answers ∷ calls) e = unrefused lane calls (no-parts (replies_on lane calls) _ e).0
unrefused lane (session.sent at bytes text full answers ∷ calls) e = unrefused lane calls e
unrefused lane (session.shut at answers ∷ calls) e = unrefused lane calls e
unrefused lane (session.wrote at answers ∷ calls) e = unrefused lane calls e

new-told : (calls : List Call) (now wire : ℕ) → IsUntouched wire calls → IsTold calls (new_lane now wire)
new-told calls now wire h = (
  new-known calls now wire h,
  new-owed calls now wire h,
  new-lasting calls now wire,
  λ all. record {
    said = [];
    unsaid = [];
    parted = (ungiven wire calls h.requests all).0;
    are = h.replies ∙ sym (unrefused wire calls h.replies);
    few = inl refl;
    all = λ live. (refl, unrefused wire calls h.replies);
    quiet = λ socket. absurd (cc socket);
  },
)

gives-first : (protocol : Protocol) (live : Bool) (wire : ℕ) (calls : List Call) (awaits : Bool) →
    (hears_no_request protocol ≡ true → (late : List Sent) × (awaits ≡ false) × (given_since wire calls ≡ sent_on wire calls ++ late) × (live ≡ true → late ≡ [])) → GivesFirst protocol live wire calls
gives-first (Http http_state) live wire calls awaits q = tt
gives-first (Response response_state) live wire calls awaits q = tt
gives-first (Socket websocket_state) live wire calls awaits q = let k = q refl in (k.0, k.2, k.3)

few-of : (unsaid : List Reply) (awaits : Bool) → (unsaid ≡ []) ⊎ ((reply : Reply) × (unsaid ≡ reply ∷ []) × (awaits ≡ false)) → (unsaid ≡ []) ⊎ ((reply : Reply) × (unsaid ≡ reply ∷ []))
few-of unsaid awaits (inl k) = inl k
few-of unsaid awaits (inr k) = inr (k.0, k.1)

pub replies-are-said : RepliesAreSaid
replies-are-said calls bound now h all lane has =
    let p = (each-lane IsTold new-told step-told calls bound now h lane (has-of now.lanes lane has)).3 all in
    record {
      said = p.said;
      unsaid = p.unsaid;
      given = p.parted;
      replies = p.are;
      few = few-of p.unsaid (awaits_on lane.wire calls) p.few;
      all = p.all;
      messages = gives-first lane.protocol (is_live lane.stage) lane.wire calls (awaits_on lane.wire calls) p.quiet;
    }
