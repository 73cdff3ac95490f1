-- Each reply that is made is one that may be sent.
use Rattle.std.proofs.Common.{refl, ap, sym, ◌∙◌, ◌≡◌, ℕ, Bool, true, false, List, Option, arith, inl, inr}
use Rattle.std.specs.Prelude.{◌⊎◌, ◌==◌, not, is_some, ◌&&◌, ◌||◌}
use Rattle.std.proofs.lemmas.Bool.{and_parts}
use Rattle.std.specs.List.{list_any}
use Rattle.hw_lanes.specs.declared.http.Method.{Method}
use Rattle.hw_lanes.specs.declared.http.Method.TheVariants.{Get, Post, Delete, Other}
use Rattle.hw_lanes.specs.declared.http.Request.{Request}
use Rattle.hw_lanes.specs.declared.http.Reply.{Reply}
use Rattle.hw_lanes.specs.Replies.{IsReply, statuses}
use Rattle.hd_server.specs.declared.vocabulary.Life.{Life}
use Rattle.hd_server.specs.declared.vocabulary.Life.TheVariants.{Unknown, Fresh, Socket, Lost, Polling, Ending}
use Rattle.hd_server.specs.Lives.{is_known}
use Rattle.hd_server.specs.Table.{Facts, Outcome, Refusal, PlainSocket, TokenSocket, FirstPoll, NextPoll, LastPoll, Deletion, is_base, is_negotiate, is_socket, has_id, has_version, same_method, is_entry, is_unauthorized, is_keepers_fault, socket_outcome, poll_outcome, post_outcome, delete_outcome, method_outcome, named_outcome, outcome}
use Rattle.hd_server.specs.Doings.{ServerEvent}
use Rattle.hd_server.specs.Plans.{bare_reply, socket_reply, token_reply, frames_reply, refusal_reply, reply_on}
use Rattle.hd_server.proofs.OrderlyPlans.{row}

-- ---- replies

abbrev pub IsPlainStatus : ℕ → Type 0
IsPlainStatus status = (list_any (λ s. s == status) statuses ≡ true) × (status ≡ 101 → ⊥)

pub bare_sent : (status : ℕ) → IsPlainStatus status → IsReply (bare_reply status)
bare_sent status e = record { status = e.0; accept = (λ t. absurd (let z : false ≡ true = t in cc), λ s. absurd (e.1 s)); body = λ x. refl }

pub plain_200 : IsPlainStatus 200
plain_200 = (refl, λ e. omega (arith, e))

pub plain_202 : IsPlainStatus 202
plain_202 = (refl, λ e. omega (arith, e))

pub plain_204 : IsPlainStatus 204
plain_204 = (refl, λ e. omega (arith, e))

with_body : ◌≡◌ {A = ℕ} 200 101 → ⊥
with_body e = omega (arith, e)

neither : (◌≡◌ {A = ℕ} 200 101) ⊎ (◌≡◌ {A = ℕ} 200 204) → ⊥
neither (inl e) = omega (arith, e)
neither (inr e) = omega (arith, e)

pub frames_sent : (body : List ℕ) → IsReply (frames_reply body)
frames_sent body = record {
  status = refl;
  accept = (λ t. absurd (let z : false ≡ true = t in cc), λ s. absurd (with_body s));
  body = λ x. absurd (neither x);
}

pub token_sent : (body : List ℕ) → IsReply (token_reply body)
token_sent body = record {
  status = refl;
  accept = (λ t. absurd (let z : false ≡ true = t in cc), λ s. absurd (with_body s));
  body = λ x. absurd (neither x);
}

pub socket_sent : (accept : Option (List ℕ)) → is_some accept ≡ true → IsReply (socket_reply accept)
socket_sent accept e = record { status = refl; accept = (λ t. refl, λ s. e); body = λ x. refl }

-- fields of its head but that change nothing
pub refusal_sent : (base : List ℕ) (r : Request) (status : ℕ) → IsPlainStatus status → IsReply (refusal_reply base r status)
refusal_sent base r status e = let sent = bare_sent status e in record { status = sent.status; accept = sent.accept; body = sent.body }

pub sent_on : (lane : ℕ) (reply : Reply) (h : List ServerEvent) → IsReply reply → IsReply (reply_on lane reply h)
sent_on lane reply h sent = record { status = sent.status; accept = sent.accept; body = sent.body }

-- ---- the table

-- a refusal has a status that may be sent; and a socket is asked for with a key
abbrev pub IsSent : Request → Life → Outcome → Type 0
IsSent r life (Refusal status) = IsPlainStatus status
IsSent r life PlainSocket = is_socket r ≡ true
IsSent r life TokenSocket = (is_socket r ≡ true) × ((life ≡ Polling → ⊥) × (life ≡ Ending → ⊥) × (life ≡ Unknown → ⊥))
IsSent r life FirstPoll = life ≡ Fresh
IsSent r life NextPoll = life ≡ Polling
IsSent r life LastPoll = life ≡ Ending
IsSent r life Deletion = is_known life ≡ true
IsSent r life out = Unit {0}

refused : (r : Request) (life : Life) (status : ℕ) → list_any (λ s. s == status) statuses ≡ true → (status == 101) ≡ false → IsSent r life (Refusal status)
refused r life status e f = (e, λ s. let z : false ≡ true = sym f ∙ ap (λ n. n == 101) s in absurd (cc))

socket_right : (r : Request) (life : Life) (granted : Bool) → is_socket r ≡ true → IsSent r life (socket_outcome life granted)
socket_right r Unknown granted e = refused r Unknown 404 refl refl
socket_right r Fresh granted e = (e, (λ f. absurd (cc), λ f. absurd (cc), λ f. absurd (cc)))
socket_right r (Socket lane) true e = (e, (λ f. absurd (cc), λ f. absurd (cc), λ f. absurd (cc)))
socket_right r (Socket lane) false e = refused r (Socket lane) 409 refl refl
socket_right r Lost granted e = (e, (λ f. absurd (cc), λ f. absurd (cc), λ f. absurd (cc)))
socket_right r Polling granted e = refused r Polling 409 refl refl
socket_right r Ending granted e = refused r Ending 404 refl refl

poll_right : (r : Request) (life : Life) → IsSent r life (poll_outcome life)
poll_right r Unknown = refused r Unknown 404 refl refl
poll_right r Fresh = refl
poll_right r (Socket lane) = refused r (Socket lane) 409 refl refl
poll_right r Lost = refused r Lost 409 refl refl
poll_right r Polling = refl
poll_right r Ending = refl

post_right : (r : Request) (life : Life) → IsSent r life (post_outcome life)
post_right r Unknown = refused r Unknown 404 refl refl
post_right r Fresh = refused r Fresh 409 refl refl
post_right r (Socket lane) = refused r (Socket lane) 409 refl refl
post_right r Lost = refused r Lost 409 refl refl
post_right r Polling = tt
post_right r Ending = refused r Ending 404 refl refl

delete_right : (r : Request) (life : Life) → IsSent r life (delete_outcome life)
delete_right r Unknown = refused r Unknown 404 refl refl
delete_right r Fresh = refl
delete_right r (Socket lane) = refused r (Socket lane) 409 refl refl
delete_right r Lost = refused r Lost 409 refl refl
delete_right r Polling = refl
delete_right r Ending = refl

method_right : (r : Request) (m : Method) (life : Life) → IsSent r life (method_outcome m life)
method_right r Get life = poll_right r life
method_right r Post life = post_right r life
method_right r Delete life = delete_right r life
method_right r Other life = refused r life 405 refl refl

named_right : (r : Request) (f : Facts) → IsSent r f.life (named_outcome r f)
named_right r f =
    row (IsSent r f.life) (is_socket r) (socket_outcome f.life f.granted) (method_outcome r.method f.life)
    (λ e. socket_right r f.life f.granted e) (λ e. method_right r r.method f.life)

pub outcome_sent : (base : List ℕ) (r : Request) (f : Facts) → IsSent r f.life (outcome base r f)
outcome_sent base r f =
    row (IsSent r f.life) (not (is_base base r || is_negotiate base r)) _ _ (λ e. refused r f.life 404 refl refl) (λ at_one.
    row (IsSent r f.life) (is_negotiate base r && not (same_method r.method Post)) _ _ (λ e. refused r f.life 405 refl refl) (λ posts.
    row (IsSent r f.life) (is_negotiate base r && not (has_version r)) _ _ (λ e. refused r f.life 400 refl refl) (λ versioned.
    row (IsSent r f.life) (is_entry base r && is_unauthorized f.caller) _ _ (λ e. refused r f.life 401 refl refl) (λ named.
    row (IsSent r f.life) (is_entry base r && is_keepers_fault f.caller) _ _ (λ e. refused r f.life 500 refl refl) (λ told.
    row (IsSent r f.life) (is_entry base r && f.busy) _ _ (λ e. refused r f.life 503 refl refl) (λ room.
    row (IsSent r f.life) (is_negotiate base r && f.lots_failed) _ _ (λ e. refused r f.life 500 refl refl) (λ drawn.
    row (IsSent r f.life) (is_negotiate base r) _ _ (λ e. tt) (λ elsewhere.
    row (IsSent r f.life) (is_socket r && not (has_id r)) _ _ (λ e. (and_parts (is_socket r) (not (has_id r)) e).0) (λ no_socket.
    row (IsSent r f.life) (same_method r.method Other) _ _ (λ e. refused r f.life 405 refl refl) (λ method.
    row (IsSent r f.life) (not (has_id r)) _ _ (λ e. refused r f.life 400 refl refl) (λ id. named_right r f)))))))))))
