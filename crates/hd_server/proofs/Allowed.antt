-- No request is refused with 405 whose method a 405 of its path allows.
use Rattle.std.proofs.Common.{◌≡◌, ℕ, Bool, true, false, List, [], ◌∷◌, ◌++◌, length, length-append, arith, refl, ap}
use Rattle.std.specs.Prelude.{◌==◌, not, ◌&&◌, ◌||◌, codes}
use Rattle.std.proofs.lemmas.Bool.{and_parts, both_ways, eq-eqb}
use Rattle.hm_message.specs.Same.{same_text}
use Rattle.hw_lanes.specs.declared.http.Method.{Method}
use Rattle.hw_lanes.specs.declared.http.Method.TheVariants.{Get, Post, Delete, Other}
use Rattle.hw_lanes.specs.declared.http.ReplyField.TheVariants.{AllowPost}
use Rattle.hw_lanes.specs.declared.http.Request.{Request}
use Rattle.hd_server.specs.declared.vocabulary.Life.{Life}
use Rattle.hd_server.specs.declared.vocabulary.Life.TheVariants.{Unknown, Fresh, Socket, Lost, Polling, Ending}
use Rattle.hd_server.specs.Table.{Outcome, Refusal, is_base, is_negotiate, is_socket, has_id, has_version, same_method, is_entry, is_unauthorized, is_keepers_fault, socket_outcome, poll_outcome, post_outcome, delete_outcome, method_outcome}
use Rattle.hd_server.specs.Plans.{allowed_at}
use Rattle.hd_server.specs.Laws.{AllowedAreServed, allows}
use Rattle.hd_server.proofs.OrderlyPlans.{row}

-- ---- the base is no negotiate

same_length : (s t : List ℕ) → same_text s t ≡ true → length s ≡ length t
same_length [] [] e = refl
same_length [] (y ∷ t) e = absurd (let z : false ≡ true = e in cc)
same_length (x ∷ s) [] e = absurd (let z : false ≡ true = e in cc)
same_length (x ∷ s) (y ∷ t) e = let s_t = same_length s t (and_parts (x == y) (same_text s t) e).1 in omega (arith, s_t)

one_path : (base path : List ℕ) → same_text path base ≡ true → same_text path (base ++ codes "/negotiate") ≡ true → ⊥
one_path base path e f =
    let a = same_length path base e in
    let b = same_length path (base ++ codes "/negotiate") f in
    let c = length-append base (codes "/negotiate") in
    omega (arith, a, b, c)

-- ---- outcomes

abbrev IsOther : Outcome → Type 0
IsOther out = out ≡ Refusal 405 → ⊥

abbrev status_of : Outcome → ℕ
status_of (Refusal status) = status
status_of out = 0

other : (out : Outcome) → (status_of out == 405) ≡ false → IsOther out
other out e f = both_ways (status_of out == 405) e (eq-eqb (status_of out) 405 (ap status_of f))

socket_other : (life : Life) (granted : Bool) → IsOther (socket_outcome life granted)
socket_other Unknown granted = other (Refusal 404) refl
socket_other Fresh granted = other _ refl
socket_other (Socket lane) true = other _ refl
socket_other (Socket lane) false = other (Refusal 409) refl
socket_other Lost granted = other _ refl
socket_other Polling granted = other (Refusal 409) refl
socket_other Ending granted = other (Refusal 404) refl

poll_other : (life : Life) → IsOther (poll_outcome life)
poll_other Unknown = other (Refusal 404) refl
poll_other Fresh = other _ refl
poll_other (Socket lane) = other (Refusal 409) refl
poll_other Lost = other (Refusal 409) refl
poll_other Polling = other _ refl
poll_other Ending = other _ refl

post_other : (life : Life) → IsOther (post_outcome life)
post_other Unknown = other (Refusal 404) refl
post_other Fresh = other (Refusal 409) refl
post_other (Socket lane) = other (Refusal 409) refl
post_other Lost = other (Refusal 409) refl
post_other Polling = other _ refl
post_other Ending = other (Refusal 404) refl

delete_other : (life : Life) → IsOther (delete_outcome life)
delete_other Unknown = other (Refusal 404) refl
delete_other Fresh = other _ refl
delete_other (Socket lane) = other (Refusal 409) refl
delete_other Lost = other (Refusal 409) refl
delete_other Polling = other _ refl
delete_other Ending = other _ refl

-- ---- methods

posts : (m : Method) → allows AllowPost m ≡ true → same_method m Post ≡ true
posts Get e = e
posts Post e = refl
posts Delete e = e
posts Other e = e

listed : (b : Bool) (m : Method) → allows (allowed_at b) m ≡ true → same_method m Other ≡ false
listed true Get e = refl
listed true Post e = refl
listed true Delete e = refl
listed true Other e = absurd (let z : false ≡ true = e in cc)
listed false Get e = refl
listed false Post e = refl
listed false Delete e = refl
listed false Other e = absurd (let z : false ≡ true = e in cc)

method_other : (b : Bool) (m : Method) (life : Life) → allows (allowed_at b) m ≡ true → IsOther (method_outcome m life)
method_other b Get life e = poll_other life
method_other b Post life e = post_other life
method_other b Delete life e = delete_other life
method_other b Other life e = absurd (both_ways (same_method Other Other) (listed b Other e) refl)

-- a negotiate that may be
posted : (base : List ℕ) (r : Request) (b : Bool) → is_base base r ≡ b → allows (allowed_at b) r.method ≡ true
    → (is_negotiate base r && not (same_method r.method Post)) ≡ true → ⊥
posted base r true at e f = one_path base r.path at (and_parts (is_negotiate base r) (not (same_method r.method Post)) f).0
posted base r false at e f =
    both_ways (not (same_method r.method Post)) (ap not (posts r.method e)) (and_parts (is_negotiate base r) (not (same_method r.method Post)) f).1

pub allowed_are_served : AllowedAreServed
allowed_are_served base r f e =
    let b : Bool = is_base base r in
    row IsOther (not (is_base base r || is_negotiate base r)) _ _ (λ x. other (Refusal 404) refl) (λ at_one.
    row IsOther (is_negotiate base r && not (same_method r.method Post)) _ _ (λ x. absurd (posted base r b refl e x)) (λ posts.
    row IsOther (is_negotiate base r && not (has_version r)) _ _ (λ x. other (Refusal 400) refl) (λ versioned.
    row IsOther (is_entry base r && is_unauthorized f.caller) _ _ (λ x. other (Refusal 401) refl) (λ named.
    row IsOther (is_entry base r && is_keepers_fault f.caller) _ _ (λ x. other (Refusal 500) refl) (λ told.
    row IsOther (is_entry base r && f.busy) _ _ (λ x. other (Refusal 503) refl) (λ room.
    row IsOther (is_negotiate base r && f.lots_failed) _ _ (λ x. other (Refusal 500) refl) (λ drawn.
    row IsOther (is_negotiate base r) _ _ (λ x. other _ refl) (λ elsewhere.
    row IsOther (is_socket r && not (has_id r)) _ _ (λ x. other _ refl) (λ no_socket.
    row IsOther (same_method r.method Other) _ _ (λ x. absurd (both_ways (same_method r.method Other) (listed b r.method e) x)) (λ method.
    row IsOther (not (has_id r)) _ _ (λ x. other (Refusal 400) refl) (λ id.
    row IsOther (is_socket r) (socket_outcome f.life f.granted) (method_outcome r.method f.life)
    (λ x. socket_other f.life f.granted) (λ x. method_other b r.method f.life e))))))))))))
