-- What the front decides about a request is what the table says of it, and what the server was told of its connection is so.
use Rattle.std.proofs.Common.{◌≡◌, ℕ, Bool, true, false, List, Option, Some, None, IfSome, refl, sym, ap, subst, ◌∙◌}
use Rattle.std.specs.Prelude.{unwrap_or, if◌then◌else◌}
use Rattle.hw_lanes.specs.declared.http.Request.{Request}
use Rattle.hd_calls.specs.Hubs.{Hub}
use Rattle.hd_rooms.specs.declared.vocabulary.Asked.{Asked}
use Rattle.hd_rooms.specs.Kept.{Content}
use Rattle.hw_door.specs.declared.heard.Event.TheVariants as event
use Rattle.hd_server.specs.declared.vocabulary.Caller.{Caller}
use Rattle.hd_server.specs.declared.vocabulary.Life.{Life}
use Rattle.hd_server.specs.declared.vocabulary.Life.TheVariants.{Unknown, Fresh, Socket, Lost, Polling, Ending}
use Rattle.hd_server.specs.declared.vocabulary.Outcome.{Outcome}
use Rattle.hd_server.specs.declared.vocabulary.Outcome.TheVariants.{Refusal, NewToken, PlainSocket, TokenSocket, FirstPoll, NextPoll, LastPoll, Posting, Deletion}
use Rattle.hd_server.specs.declared.vocabulary.Said.{Said}
use Rattle.hd_server.specs.Laws.{LivesAreSettled, LotsMatterToTokens, OutcomesSuit, Suits, PartsOfTurns}
use Rattle.hd_server.specs.Lives.{ConnectionEvent, conn_with, is_busy, is_known, is_made, known_conn, life, life_of, life_of_some}
use Rattle.hd_server.specs.Table.{Facts, asks_keeper, id_in, is_base, is_keepers_fault, is_unauthorized, outcome, socket_outcome}
use Rattle.hd_server.specs.Doings.{ServerEvent, moment, name_now, notes}
use Rattle.hd_server.specs.Plans.{PendingRequest, Setup, caller_by, conn_of_some, facts, may_resume_some, learning, named_conn, onto}
use Rattle.hn_server_front.specs.Calls as calls
use Rattle.hn_server_front.specs.Routes.{RoutesTo, entry_outcome, facts_at, is_entry_at, known_conn_of_some, outcome_at, token_at}
use Rattle.hn_server_front.specs.declared.route.Route.{Route}
use Rattle.hn_server_front.specs.declared.route.Route.TheVariants as route
use Rattle.hub_server.specs.declared.server.Server.{Server}
use Rattle.hub_server.specs.Lanes.{settled}
use Rattle.hub_server.specs.Servers.{OfEach, Standing}
use Rattle.hub_server.specs.Steps.{Handles, NoneOverdue, outside}
use Rattle.hub_server.specs.Requests.{CarriesOut, IsCaller, IsSeen, OfRequest, is_about_token, name_meant, text_asked}
use Rattle.hub_server.proofs.OutcomeHandles.{handled, learned_come, learned_moment, learned_none, learned_rested, learned_standing, name_learned, pending_request}
use Rattle.hub_server.proofs.OutcomeTokens.{known_by}

-- ---- a route that names a token

not_about : (b : Bool) (x y : Outcome) → is_about_token x ≡ false → is_about_token y ≡ false → is_about_token (if b then x else y) ≡ false
not_about true x y e f = e
not_about false x y e f = f

entry_not_about : (made : Outcome) (f : Facts) → is_about_token made ≡ false → is_about_token (entry_outcome made f) ≡ false
entry_not_about made f e =
    not_about (is_unauthorized f.caller) (Refusal 401) _ refl (not_about (is_keepers_fault f.caller) (Refusal 500) _ refl
    (not_about f.busy (Refusal 503) made refl e))

-- an outcome about a token comes only there
names_one : (to : Route) (f : Facts) → is_about_token (outcome_at to f) ≡ true → (token : List ℕ) × (token_at to ≡ Some token)
names_one (route.Refuse status) f e = absurd (let z : false ≡ true = e in cc)
names_one (route.Negotiate asked) f e =
    let none = entry_not_about (if f.lots_failed then Refusal 500 else NewToken asked) f
    (not_about f.lots_failed (Refusal 500) (NewToken asked) refl refl) in
    absurd (let z : false ≡ true = sym none ∙ e in cc)
names_one route.Open f e = absurd (let z : false ≡ true = sym (entry_not_about PlainSocket f refl) ∙ e in cc)
names_one (route.Socket token) f e = (token, refl)
names_one (route.Poll token) f e = (token, refl)
names_one (route.Post token) f e = (token, refl)
names_one (route.Delete token) f e = (token, refl)

-- ---- whether an end may be resumed

-- it matters only if the life is known
by_life : (l : Life) (a b : Bool) → (is_known l ≡ true → a ≡ b) → socket_outcome l a ≡ socket_outcome l b
by_life Unknown a b e = refl
by_life Fresh a b e = refl
by_life (Socket lane) a b e = ap (λ (x : Bool). socket_outcome (Socket lane) x) (e refl)
by_life Lost a b e = refl
by_life Polling a b e = refl
by_life Ending a b e = refl

-- and if a token is named
by_grant : (to : Route) (f : Facts) (a b : Bool) → ((token : List ℕ) → token_at to ≡ Some token → is_known f.life ≡ true → a ≡ b)
    → outcome_at to (record f { granted = a }) ≡ outcome_at to (record f { granted = b })
by_grant (route.Refuse status) f a b e = refl
by_grant (route.Negotiate asked) f a b e = refl
by_grant route.Open f a b e = refl
by_grant (route.Socket token) f a b e = by_life f.life a b (λ k. e token refl k)
by_grant (route.Poll token) f a b e = refl
by_grant (route.Post token) f a b e = refl
by_grant (route.Delete token) f a b e = refl

-- ---- the connection that is named

-- a token's connection, as long as its life is known
conn_is : (id : Option (List ℕ)) (token : List ℕ) (named : Option ℕ) (now : ℕ) (n : List ConnectionEvent) → id ≡ Some token
    → named ≡ known_conn token now n → is_known (life_of_some (conn_of_some id n) now n) ≡ true → named ≡ conn_of_some id n
conn_is id token named now n is e k =
    let lives : is_known (life token now n) ≡ true = subst (λ (i : Option (List ℕ)). is_known (life_of_some (conn_of_some i n) now n) ≡ true) is k in
    e ∙ ap (λ (b : Bool). if b then conn_with token n else None) lives ∙ ap (λ (i : Option (List ℕ)). conn_of_some i n) (sym is)

-- what is named by a route is named by its request
id_is : (base : List ℕ) (r : Request) (to : Route) (token : List ℕ) → RoutesTo base r to → token_at to ≡ Some token → id_in r ≡ Some token
id_is base r to token routed e = subst (λ (t : Option (List ℕ)). IfSome t (λ x. id_in r ≡ Some x)) e routed.named

-- the connection is found
found : (named : Option ℕ) (c : ℕ) (now : ℕ) (n : List ConnectionEvent) → is_known (life_of_some named now n) ≡ true → c ≡ unwrap_or named 0
    → named ≡ Some c
found None c now n k e = absurd (let z : false ≡ true = k in cc)
found (Some d) c now n k e = ap Some (sym e)

-- ---- what is carried out

-- the number matters only if it is a token's connection
for_conn : {H Job : Type 0} (hub : Hub Job) (s : Setup) (before : List Said) (new : Server H Job) (o : PendingRequest) (c d : ℕ)
    (told : Option (List (Option (List ℕ)))) (failures : ℕ) (told_now : Option (List (Option (List ℕ)))) (failures_now : ℕ) (h : List ServerEvent)
    (out : Outcome) → (is_about_token out ≡ true → c ≡ d) → CarriesOut {H = H} hub s before new o c told failures told_now failures_now h out
    → CarriesOut {H = H} hub s before new o d told failures told_now failures_now h out
for_conn hub s before new o c d told failures told_now failures_now h (Refusal status) same did =
    (did.0, did.1, record { after = did.2.after; follows = did.2.follows; stands = did.2.stands })
for_conn hub s before new o c d told failures told_now failures_now h (NewToken reconnect) same did = did
for_conn hub s before new o c d told failures told_now failures_now h PlainSocket same did =
    (did.0, did.1, record { after = did.2.after; follows = did.2.follows; stands = did.2.stands })
for_conn {H} hub s before new o c d told failures told_now failures_now h TokenSocket same did =
    subst (λ (k : ℕ). CarriesOut {H = H} hub s before new o k told failures told_now failures_now h TokenSocket) (same refl) did
for_conn {H} hub s before new o c d told failures told_now failures_now h FirstPoll same did =
    subst (λ (k : ℕ). CarriesOut {H = H} hub s before new o k told failures told_now failures_now h FirstPoll) (same refl) did
for_conn {H} hub s before new o c d told failures told_now failures_now h NextPoll same did =
    subst (λ (k : ℕ). CarriesOut {H = H} hub s before new o k told failures told_now failures_now h NextPoll) (same refl) did
for_conn {H} hub s before new o c d told failures told_now failures_now h LastPoll same did =
    subst (λ (k : ℕ). CarriesOut {H = H} hub s before new o k told failures told_now failures_now h LastPoll) (same refl) did
for_conn {H} hub s before new o c d told failures told_now failures_now h Posting same did =
    subst (λ (k : ℕ). CarriesOut {H = H} hub s before new o k told failures told_now failures_now h Posting) (same refl) did
for_conn {H} hub s before new o c d told failures told_now failures_now h Deletion same did =
    subst (λ (k : ℕ). CarriesOut {H = H} hub s before new o k told failures told_now failures_now h Deletion) (same refl) did

-- ---- at one list of doings

module _ (s : Setup) (r : Request) (to : Route) (routed : RoutesTo s.base r to) (who : Caller) (name : Option (Option (List ℕ)))
    (is_who : who ≡ caller_by (asks_keeper s.base r) r.bearer name) (now : ℕ) (g : List ServerEvent) (named : Option ℕ)
    (known_is : named ≡ known_conn_of_some (token_at to) now (notes g)) (resumable : Bool) (grants : resumable ≡ may_resume_some named g) where
  abbrev seen : Facts
  seen = facts s now r name false g

  named_is : (token : List ℕ) → token_at to ≡ Some token → is_known seen.life ≡ true → named ≡ named_conn r g
  named_is token e k =
      conn_is (id_in r) token named now (notes g) (id_is s.base r to token routed e)
      (known_is ∙ ap (λ (t : Option (List ℕ)). known_conn_of_some t now (notes g)) e) k

  -- what the front decides is the table's
  decides : (out : Outcome) → out ≡ outcome s.base r (facts_at s.live r who resumable now (notes g)) → out ≡ outcome s.base r seen
  decides out is =
      is
      ∙ routed.by_rows (facts_at s.live r who resumable now (notes g))
      ∙ by_grant to (facts_at s.live r who false now (notes g)) resumable seen.granted (λ token e k. grants ∙ ap (λ (o : Option ℕ). may_resume_some o g) (named_is token e k))
      ∙ sym (routed.by_rows (facts_at s.live r who seen.granted now (notes g)))
      ∙ ap (λ (w : Caller). outcome s.base r (facts_at s.live r w seen.granted now (notes g))) is_who

  -- a token's connection is the one that is named
  about : (out : Outcome) → out ≡ outcome s.base r seen → Suits r seen out → is_about_token out ≡ true → named ≡ named_conn r g
  about out is suits e =
      let one = names_one to seen (ap is_about_token (sym (is ∙ routed.by_rows seen)) ∙ e) in
      named_is one.0 one.1 (known_by r seen out suits e)

  seen_so : (out : Outcome) → out ≡ outcome s.base r seen → Suits r seen out → LivesAreSettled → now ≡ moment g → NoneOverdue g
      → IfSome named (λ c. is_made c (notes g) ≡ true) → IsSeen s.live seen (unwrap_or named 0) out g
  seen_so out is suits law at none made = record {
    busy = ap (λ (m : ℕ). is_busy s.live m (notes g)) at;
    named = λ e.
        let same : named ≡ named_conn r g = about out is suits e in
        let c : ℕ = unwrap_or named 0 in
        let one : named ≡ Some c = found named c now (notes g)
        (ap (λ (o : Option ℕ). is_known (life_of_some o now (notes g))) same ∙ known_by r seen out suits e) refl in
        let is_one : named_conn r g ≡ Some c = sym same ∙ one in
        let made_one : is_made c (notes g) ≡ true = subst (λ (o : Option ℕ). IfSome o (λ k. is_made k (notes g) ≡ true)) one made in
        record {
          made = made_one;
          lives = ap (λ (o : Option ℕ). life_of_some o now (notes g)) is_one ∙ ap (λ (m : ℕ). life_of c m (notes g)) at
              ∙ law c (moment g) (notes g) made_one none;
          grants = ap (λ (o : Option ℕ). may_resume_some o g) is_one;
        };
  }

-- ---- of any doings for which the server stood

module _ {H Job : Type 0} (hub : Hub Job) (old new : Server H Job) (lane : ℕ) (r : Request) (base : List ℕ) (read : base ≡ old.base) (to : Route)
    (routed : RoutesTo base r to) (lots : LotsMatterToTokens) (parts : PartsOfTurns) (suits : OutcomesSuit) (law : LivesAreSettled) (who : Caller)
    (holds holds_now : Option Content) (answers answers_now : Option (List Asked)) (faults faults_now : ℕ)
    (told told_now : Option (List (Option (List ℕ)))) (failures failures_now : ℕ)
    (called : IsCaller (text_asked (is_entry_at to) r.bearer) r.bearer who holds answers faults holds_now answers_now faults_now)
    (named : Option ℕ) (known_is : calls.OfEach old.front (λ n. named ≡ known_conn_of_some (token_at to) old.moment n))
    (made : calls.OfEach old.front (λ n. IfSome named (λ c. is_made c n ≡ true))) (conn : ℕ) (conn_is : conn ≡ unwrap_or named 0) (resumable : Bool)
    (grants : OfEach {H = H} hub old (λ s u before h. resumable ≡ may_resume_some named h)) (out : Outcome)
    (by_rows : calls.OfEach old.front (λ n. (b : List ℕ) (q : Request) → RoutesTo b q to → out ≡ outcome b q (facts_at old.front.live q who resumable old.moment n)))
  where
    pub handled_there : OfRequest {H = H} hub old lane r.shut (λ s before h. (o : PendingRequest) → o.now ≡ moment h → o.lane ≡ lane
        → o.request.upgrade ≡ r.upgrade → o.request.body ≡ r.body → is_base s.base o.request ≡ is_base old.base r → name_now h ≡ name_meant who → (f : Facts) → Suits o.request f out
        → IsSeen s.live f conn out h
        → CarriesOut {H = H} hub s before new o conn told failures told_now failures_now h out)
        → OfRequest {H = H} hub old lane r.shut (λ s before h. name_now h ≡ None → Handles {H = H} hub s before new
        (outside holds answers faults told failures) (outside holds_now answers_now faults_now told_now failures_now) (event.Request lane r) h)
    handled_there did s before h st rests come none unnamed =
        let based : base ≡ s.base = read ∙ sym (ap (λ (x : Setup). x.base) st.setup.given) in
        let routed_so : RoutesTo s.base r to = subst (λ (b : List ℕ). RoutesTo b r to) based routed in
        let asks : text_asked (is_entry_at to) r.bearer ≡ asks_keeper s.base r = ap (λ (b : Bool). text_asked b r.bearer) (sym routed_so.entry) in
        let called_so : IsCaller (asks_keeper s.base r) r.bearer who holds answers faults holds_now answers_now faults_now =
        subst (λ (t : Option (List ℕ)). IsCaller t r.bearer who holds answers faults holds_now answers_now faults_now) asks called in
        let text : Option (List ℕ) = asks_keeper s.base r in
        let name : Option (Option (List ℕ)) = called_so.name in
        let g : List ServerEvent = onto (learning text name) h in
        let st_g : Standing {H = H} hub s settled before old g = learned_standing {H = H} {Job = Job} hub s before old text name h st in
        let at : moment h ≡ moment g = learned_moment text name h in
        let now : old.moment ≡ moment h = st.clock in
        let f : Facts = facts s (moment h) r name false g in
        let named_is : named ≡ known_conn_of_some (token_at to) (moment h) (notes g) =
        subst (λ (m : ℕ). named ≡ known_conn_of_some (token_at to) m (notes g)) now (known_is (notes g) st_g.front.stands) in
        let granted : resumable ≡ may_resume_some named g = grants s settled before g st_g in
        let is : out ≡ outcome s.base r f = decides s r to routed_so who name called_so.is (moment h) g named named_is resumable granted out
        (subst (λ (m : ℕ). out ≡ outcome s.base r (facts_at s.live r who resumable m (notes g))) now
        (subst (λ (l : ℕ). out ≡ outcome s.base r (facts_at l r who resumable old.moment (notes g))) st_g.front.limit
        (by_rows (notes g) st_g.front.stands s.base r routed_so))) in
        let suits_so : Suits r f out = subst (Suits r f) (sym is) (suits s.base r f) in
        let o : PendingRequest = pending_request lane r h in
        let done = did s before g st_g (λ k. learned_rested text name h k (rests k)) (learned_come text name h lane r.shut come)
        (learned_none text name h none) o at refl refl refl (ap (λ (x : Setup). is_base x.base r) st.setup.given) (name_learned r.bearer text name who h unnamed called_so.is) f suits_so
        (subst (λ (k : ℕ). IsSeen s.live f k out g) (sym conn_is)
        (seen_so s r to routed_so who name called_so.is (moment h) g named named_is resumable granted out is suits_so law at (learned_none text name h none)
        (made (notes g) st_g.front.stands))) in
        handled {H = H} {Job = Job} hub s before new lane r h lots parts who holds holds_now answers answers_now faults faults_now told told_now
        failures failures_now called_so out is
        (for_conn {H = H} {Job = Job} hub s before new o conn (unwrap_or (named_conn r g) 0) told failures told_now failures_now g out
        (λ e. conn_is ∙ ap (λ (n : Option ℕ). unwrap_or n 0)
        (about s r to routed_so who name called_so.is (moment h) g named named_is resumable granted out is suits_so e)) done)
