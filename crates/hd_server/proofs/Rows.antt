-- What the rows of the table tell of a request, and to whom lots matter.
use Rattle.std.proofs.Common.{refl, ap, sym, ◌∙◌, ◌≡◌, ℕ, Bool, true, false, List}
use Rattle.std.specs.Prelude.{◌==◌, not, ◌&&◌, ◌||◌, if◌then◌else◌}
use Rattle.std.proofs.lemmas.Bool.{and_parts}
use Rattle.std.specs.List.{list_any}
use Rattle.hw_lanes.specs.declared.http.Method.{Method}
use Rattle.hw_lanes.specs.declared.http.Method.TheVariants.{Get, Post, Delete, Other}
use Rattle.hw_lanes.specs.declared.http.Request.{Request}
use Rattle.hw_lanes.specs.Replies.{IsReply, statuses}
use Rattle.hd_server.specs.declared.vocabulary.Life.{Life}
use Rattle.hd_server.specs.declared.vocabulary.Life.TheVariants.{Unknown, Fresh, Socket, Lost, Polling, Ending}
use Rattle.hd_server.specs.Table.{Facts, Outcome, Refusal, NewToken, PlainSocket}
use Rattle.hd_server.specs.Table.{asks_reconnect, is_base, is_negotiate, is_socket, has_id, has_version, same_method, is_entry, is_unauthorized, is_keepers_fault, socket_outcome, poll_outcome, post_outcome, delete_outcome, method_outcome, named_outcome, outcome}
use Rattle.hd_server.specs.Plans.{bare_reply, makes_token}
use Rattle.hd_server.specs.Laws.{HasWay, LotsMatterToTokens, OutcomesSuit, Suits}

-- ---- refusals

refused : (status : ℕ) → list_any (λ s. s == status) statuses ≡ true → (status == 101) ≡ false → IsReply (bare_reply status)
refused status e f = record {
  status = e;
  accept = (λ t. absurd (let z : false ≡ true = t in cc), λ s. absurd (let z : false ≡ true = sym f ∙ ap (λ n. n == 101) s in cc));
  body = λ x. refl;
}

-- ---- requests that name a token

module _ (r : Request) (f : Facts) where
  socket_suits : is_socket r ≡ true → (l : Life) (g : Bool) → f.life ≡ l → f.granted ≡ g → Suits r f (socket_outcome l g)
  socket_suits e Unknown g i j = refused 404 refl refl
  socket_suits e Fresh g i j = (e, ap (λ (x : Life). socket_outcome x f.granted) i)
  socket_suits e (Socket lane) true i j =
      (e, ap (λ (x : Life). socket_outcome x f.granted) i ∙ ap (λ (b : Bool). socket_outcome (Socket lane) b) j)
  socket_suits e (Socket lane) false i j = refused 409 refl refl
  socket_suits e Lost g i j = (e, ap (λ (x : Life). socket_outcome x f.granted) i)
  socket_suits e Polling g i j = refused 409 refl refl
  socket_suits e Ending g i j = refused 404 refl refl

  poll_suits : (l : Life) → f.life ≡ l → Suits r f (poll_outcome l)
  poll_suits Unknown i = refused 404 refl refl
  poll_suits Fresh i = i
  poll_suits (Socket lane) i = refused 409 refl refl
  poll_suits Lost i = refused 409 refl refl
  poll_suits Polling i = i
  poll_suits Ending i = i

  post_suits : (l : Life) → f.life ≡ l → Suits r f (post_outcome l)
  post_suits Unknown i = refused 404 refl refl
  post_suits Fresh i = refused 409 refl refl
  post_suits (Socket lane) i = refused 409 refl refl
  post_suits Lost i = refused 409 refl refl
  post_suits Polling i = i
  post_suits Ending i = refused 404 refl refl

  delete_suits : (l : Life) → f.life ≡ l → Suits r f (delete_outcome l)
  delete_suits Unknown i = refused 404 refl refl
  delete_suits Fresh i = ap delete_outcome i
  delete_suits (Socket lane) i = refused 409 refl refl
  delete_suits Lost i = refused 409 refl refl
  delete_suits Polling i = ap delete_outcome i
  delete_suits Ending i = ap delete_outcome i

  method_suits : (m : Method) → Suits r f (method_outcome m f.life)
  method_suits Get = poll_suits f.life refl
  method_suits Post = post_suits f.life refl
  method_suits Delete = delete_suits f.life refl
  method_suits Other = refused 405 refl refl

-- ---- the rows

-- what holds of an outcome by whether a row applies
row : (P : Outcome → Type 0) (b : Bool) (x y : Outcome) → (b ≡ true → P x) → (b ≡ false → P y) → P (if b then x else y)
row P true x y p q = p refl
row P false x y p q = q refl

named_suits : (r : Request) (f : Facts) → Suits r f (named_outcome r f)
named_suits r f =
    row (Suits r f) (is_socket r) (socket_outcome f.life f.granted) (method_outcome r.method f.life)
    (λ e. socket_suits r f e f.life f.granted refl refl) (λ e. method_suits r f r.method)

-- a row of entries that doesn't apply to one
passed : (entry b : Bool) → entry ≡ true → (entry && b) ≡ false → b ≡ false
passed true b e f = f
passed false b e f = absurd (cc)

-- a negotiate with the right method and a version is an entry, and a socket without a token is
negotiate_enters : (n p v other : Bool) → n ≡ true → (n && not p) ≡ false → (n && not v) ≡ false → ((n && (p && v)) || other) ≡ true
negotiate_enters true true true other e f g = refl
negotiate_enters true true false other e f g = absurd (cc)
negotiate_enters true false v other e f g = absurd (cc)
negotiate_enters false p v other e f g = absurd (cc)

socket_enters : (b n p v s : Bool) → not (b || n) ≡ false → n ≡ false → s ≡ true → ((n && (p && v)) || (b && s)) ≡ true
socket_enters true true p v true e f g = absurd (cc)
socket_enters true false p v true e f g = refl
socket_enters false true p v s e f g = absurd (cc)
socket_enters false false p v s e f g = absurd (cc)
socket_enters true n p v false e f g = absurd (cc)

has_way : (base : List ℕ) (r : Request) (f : Facts) → is_entry base r ≡ true → (is_entry base r && is_unauthorized f.caller) ≡ false
    → (is_entry base r && is_keepers_fault f.caller) ≡ false → (is_entry base r && f.busy) ≡ false → HasWay f
has_way base r f e unauthorized fault busy = record {
  authorized = passed (is_entry base r) (is_unauthorized f.caller) e unauthorized;
  told = passed (is_entry base r) (is_keepers_fault f.caller) e fault;
  free = passed (is_entry base r) f.busy e busy;
}

pub outcomes_suit : OutcomesSuit
outcomes_suit base r f =
    let n = is_negotiate base r in
    let post = same_method r.method Post in
    row (Suits r f) (not (is_base base r || n)) _ _ (λ e. refused 404 refl refl) (λ at_one.
    row (Suits r f) (n && not post) _ _ (λ e. refused 405 refl refl) (λ posts.
    row (Suits r f) (n && not (has_version r)) _ _ (λ e. refused 400 refl refl) (λ versioned.
    row (Suits r f) (is_entry base r && is_unauthorized f.caller) _ _ (λ e. refused 401 refl refl) (λ known.
    row (Suits r f) (is_entry base r && is_keepers_fault f.caller) _ _ (λ e. refused 500 refl refl) (λ told.
    row (Suits r f) (is_entry base r && f.busy) _ _ (λ e. refused 503 refl refl) (λ room.
    row (Suits r f) (n && f.lots_failed) _ _ (λ e. refused 500 refl refl) (λ drawn.
    row (Suits r f) n _ _ (λ e. has_way base r f (negotiate_enters n post (has_version r) _ e posts versioned) known told room) (λ elsewhere.
    row (Suits r f) (is_socket r && not (has_id r)) _ _ (λ e. (
      (and_parts (is_socket r) (not (has_id r)) e).0,
      has_way base r f (socket_enters (is_base base r) n post (has_version r) _ at_one elsewhere e) known told room,
    )) (λ no_socket.
    row (Suits r f) (same_method r.method Other) _ _ (λ e. refused 405 refl refl) (λ method.
    row (Suits r f) (not (has_id r)) _ _ (λ e. refused 400 refl refl) (λ id. named_suits r f)))))))))))

-- ---- lots

-- a row that makes no token, before those in which lots matter
before_lots : (b : Bool) (x y z : Outcome) → makes_token x ≡ false → z ≡ (if makes_token y then Refusal 500 else y)
    → (if b then x else z) ≡ (if makes_token (if b then x else y) then Refusal 500 else (if b then x else y))
before_lots true x y z e f = ap (λ (b : Bool). if b then Refusal 500 else x) (sym e)
before_lots false x y z e f = f

-- one that is passed by an outcome of no token
tokenless : (y : Outcome) → makes_token y ≡ false → y ≡ (if makes_token y then Refusal 500 else y)
tokenless y e = ap (λ (b : Bool). if b then Refusal 500 else y) (sym e)

-- the rows of a token
lots_row : (n : Bool) (reconnect : Bool) (y : Outcome) → makes_token y ≡ false
    → (if n && true then Refusal 500 else (if n then NewToken reconnect else y))
    ≡ (if makes_token (if n && false then Refusal 500 else (if n then NewToken reconnect else y)) then Refusal 500
    else (if n && false then Refusal 500 else (if n then NewToken reconnect else y)))
lots_row true reconnect y e = refl
lots_row false reconnect y e = tokenless y e

no_token : (b : Bool) (x y : Outcome) → makes_token x ≡ false → makes_token y ≡ false → makes_token (if b then x else y) ≡ false
no_token true x y e f = e
no_token false x y e f = f

socket_tokenless : (l : Life) (g : Bool) → makes_token (socket_outcome l g) ≡ false
socket_tokenless Unknown g = refl
socket_tokenless Fresh g = refl
socket_tokenless (Socket lane) true = refl
socket_tokenless (Socket lane) false = refl
socket_tokenless Lost g = refl
socket_tokenless Polling g = refl
socket_tokenless Ending g = refl

method_tokenless : (m : Method) (l : Life) → makes_token (method_outcome m l) ≡ false
method_tokenless Get Unknown = refl
method_tokenless Get Fresh = refl
method_tokenless Get (Socket lane) = refl
method_tokenless Get Lost = refl
method_tokenless Get Polling = refl
method_tokenless Get Ending = refl
method_tokenless Post Unknown = refl
method_tokenless Post Fresh = refl
method_tokenless Post (Socket lane) = refl
method_tokenless Post Lost = refl
method_tokenless Post Polling = refl
method_tokenless Post Ending = refl
method_tokenless Delete Unknown = refl
method_tokenless Delete Fresh = refl
method_tokenless Delete (Socket lane) = refl
method_tokenless Delete Lost = refl
method_tokenless Delete Polling = refl
method_tokenless Delete Ending = refl
method_tokenless Other l = refl

rest_tokenless : (r : Request) (f : Facts) → makes_token (if is_socket r && not (has_id r) then PlainSocket else
    (if same_method r.method Other then Refusal 405 else (if not (has_id r) then Refusal 400 else named_outcome r f))) ≡ false
rest_tokenless r f =
    no_token (is_socket r && not (has_id r)) _ _ refl (no_token (same_method r.method Other) _ _ refl (no_token (not (has_id r)) _ _ refl
    (no_token (is_socket r) (socket_outcome f.life f.granted) (method_outcome r.method f.life) (socket_tokenless f.life f.granted)
    (method_tokenless r.method f.life))))

-- where the lots haven't failed
module _ (base : List ℕ) (r : Request) (f : Facts) where
  lots_by : (failed : Bool) → failed ≡ false → outcome base r (record f { lots_failed = true })
      ≡ (if makes_token (outcome base r (record f { lots_failed = failed })) then Refusal 500 else outcome base r (record f { lots_failed = failed }))
  lots_by true e = absurd (cc)
  lots_by false e =
      before_lots (not (is_base base r || is_negotiate base r)) _ _ _ refl (
      before_lots (is_negotiate base r && not (same_method r.method Post)) _ _ _ refl (
      before_lots (is_negotiate base r && not (has_version r)) _ _ _ refl (
      before_lots (is_entry base r && is_unauthorized f.caller) _ _ _ refl (
      before_lots (is_entry base r && is_keepers_fault f.caller) _ _ _ refl (
      before_lots (is_entry base r && f.busy) _ _ _ refl (
      lots_row (is_negotiate base r) (asks_reconnect r) _ (rest_tokenless r f)))))))

pub lots_matter_to_tokens : LotsMatterToTokens
lots_matter_to_tokens base r f e = lots_by base r f f.lots_failed e
