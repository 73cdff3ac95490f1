-- What is remembered once a message was said that was due, or pushed.
use Rattle.std.proofs.Common.{inl, inr, zero, ◌≡◌, ℕ, suc, ◌+◌, ◌-◌, ◌<◌, ◌≤◌, List, ◌∷◌, [], ◌++◌, Option, Some, None, Bool, true, false, refl, sym, ap, ◌∙◌, subst, arith, length, length-append}
use Rattle.std.specs.Prelude.{◌||◌, ◌&&◌, not, map, drop, slice_get, option_map, is_some, nat_lt, if◌then◌else◌}
use Rattle.std.proofs.lemmas.Option.{slice_get-map, slice_get_within}
use Rattle.std.proofs.lemmas.List.{drop-map, drop-drop, drop-append-le, map-append}
use Rattle.std.proofs.lemmas.Bool.{lt-ltb}
use Rattle.hm_message.specs.declared.message.Message.{Message}
use Rattle.hm_codec.specs.Frames.{framed}
use Rattle.hd_delivery.specs.declared.vocabulary.Side.{Side}
use Rattle.hd_delivery.specs.declared.vocabulary.Side.TheVariants.{Client, Server}
use Rattle.hd_delivery.specs.Frames.{LinkFrame, Request, Response, Numbered, Ack, Sequence, Ping, count, number, most_told}
use Rattle.hd_delivery.specs.Histories.{EndEvent, Config, Lent, Sent, is_this, first_of, first_link, present_link, lent_frames, most_lent, next_place, is_three, is_closed, is_shaken, state, acked_count, held_messages, is_resumable, sent_messages, processed_messages, codec_of}
use Rattle.hd_delivery.specs.Due.{handshake, opening, next_message, sequence_due, ack_due, may_write, message_due, is_quiet, is_ready, ping_due, farewell, has_close, close_due, due_after, answer, answer_due, due_there, due_on, due}
use Rattle.hq_resend.specs.Buffers.{Buffer, IsWithin, dropped_count, next_frame, after_next, after_push, after_writing}
use Rattle.he_end.specs.declared.session.Session.{Session}
use Rattle.he_end.specs.declared.link.Agreed.{Agreed}
use Rattle.he_end.specs.declared.link.Farewell.{Farewell}
use Rattle.he_end.specs.declared.link.Link.{Link}
use Rattle.he_end.specs.Remembers.{Agrees, Remembers, HoldsOf, close_of}
use Rattle.he_end.specs.Says.{HasNoMessage}
use Rattle.he_end.proofs.Dues.{on_link}
use Rattle.he_end.proofs.Links.{is_this-true, on_link_map}
use Rattle.he_end.proofs.Said.{link_after, remembers_lent}

-- ---- where a message is due

-- what is due is no message
abbrev IsNone : Message → Option LinkFrame → Type 0
IsNone m o = o ≡ Some (Numbered m) → ⊥

if_none : (m : Message) (b : Bool) (o p : Option LinkFrame) → IsNone m o → IsNone m p → IsNone m (if b then o else p)
if_none m true o p h i = h
if_none m false o p h i = i

handshake_none : (m : Message) (side : Side) (c : Config) (k : List EndEvent) → IsNone m (handshake side c k)
handshake_none m Client c k = if_none m (is_closed c k) None (Some (Request c.codec c.version)) (λ e. absurd (cc)) (λ e. absurd (cc))
handshake_none m Server c k = if_none m (is_shaken k) (Some Response) None (λ e. absurd (cc)) (λ e. absurd (cc))

opening_none : (m : Message) (c : Config) (k : List EndEvent) (l : ℕ) → IsNone m (opening c k l)
opening_none m c k l = if_none m (is_this l (first_link k)) (handshake c.side c k) (Some (Sequence (suc (acked_count k)) (if is_three k then Some (length (processed_messages k)) else None)))
    (handshake_none m c.side c k) (λ e. absurd (cc))

sequence_none : (m : Message) (k : List EndEvent) (said : List LinkFrame) → IsNone m (sequence_due k said)
sequence_none m k said = if_none m (not (is_three k) && (is_some (next_message k) && not (is_this (next_place k) (number said)))) (Some (Sequence (next_place k) None)) None (λ e. absurd (cc)) (λ e. absurd (cc))

ack_none : (m : Message) (c : Config) (k : List EndEvent) (said : List LinkFrame) → IsNone m (ack_due c k said)
ack_none m c k said = if_none m ((is_resumable c k && not (is_closed c k)) && nat_lt (most_told said) (length (processed_messages k))) (Some (Ack (length (processed_messages k)))) None (λ e. absurd (cc)) (λ e. absurd (cc))

ping_none : (m : Message) (c : Config) (k : List EndEvent) → IsNone m (ping_due c k)
ping_none m c k = if_none m (is_ready (state c k) && is_quiet k) (Some Ping) None (λ e. absurd (cc)) (λ e. absurd (cc))

farewell_none : (m : Message) (f : Option Farewell) → IsNone m (option_map close_of f)
farewell_none m None e = absurd (cc)
farewell_none m (Some f) e = absurd (cc)

close_none : (m : Message) (c : Config) (s : Session) (k : List EndEvent) (said : List LinkFrame) → Remembers c s k → IsNone m (close_due k said)
close_none m c s k said r = if_none m (is_shaken k && not (has_close said)) (farewell k) None (λ e. farewell_none m s.farewell (r.farewell ∙ e)) (λ e. absurd (cc))

answer_none : (m : Message) (text : List ℕ) (said : List LinkFrame) → IsNone m (answer_due text said)
answer_none m text [] e = absurd (cc)
answer_none m text (f ∷ frames) e = absurd (cc)

past : (m : Message) (a b : Option LinkFrame) → IsNone m a → first_of a b ≡ Some (Numbered m) → (a ≡ None) × (b ≡ Some (Numbered m))
past m None b h e = (refl, e)
past m (Some f) b h e = absurd (h e)

here : (m : Message) (a b : Option LinkFrame) → IsNone m b → first_of a b ≡ Some (Numbered m) → a ≡ Some (Numbered m)
here m None b h e = absurd (h e)
here m (Some f) b h e = e

-- the other end counts it as its place, and it is the next one
record IsNext (k : List EndEvent) (m : Message) (said : List LinkFrame) : Type 0 where
  pub next : next_message k ≡ Some m
  pub counted : is_three k ≡ false → number said ≡ Some (next_place k)

message_next : (m : Message) (b : Bool) (o : Option Message) → (if b then option_map Numbered o else None) ≡ Some (Numbered m) → o ≡ Some m
message_next m true None e = absurd (cc)
message_next m true (Some n) e = cc
message_next m false o e = absurd (cc)

no_sequence : (three : Bool) (o : Option Message) (n : ℕ) (p : Option ℕ) (m : Message) → (if not three && (is_some o && not (is_this n p)) then Some (Sequence n None) else None) ≡ None
    → o ≡ Some m → three ≡ false → p ≡ Some n
no_sequence true o n p m e is three = absurd (cc)
no_sequence false None n p m e is three = absurd (cc)
no_sequence false (Some x) n p m e is three = go (is_this n p) refl e
  where
    go : (b : Bool) → is_this n p ≡ b → ◌≡◌ {A = Option LinkFrame} (if not b then Some (Sequence n None) else None) None → p ≡ Some n
    go true this f = is_this-true n p this
    go false this f = absurd (cc)

after_said : (m : Message) (c : Config) (s : Session) (k : List EndEvent) (l : ℕ) (said : List LinkFrame) → Remembers c s k → due_after c k l said ≡ Some (Numbered m) → IsNext k m said
after_said m c s k l [] r e = absurd (opening_none m c k l e)
after_said m c s k l (f ∷ frames) r e =
    let said = f ∷ frames in
    let one = past m (sequence_due k said) _ (sequence_none m k said) e in
    let two = past m (ack_due c k said) _ (ack_none m c k said) one.1 in
    let later : IsNone m (first_of (ping_due c k) (close_due k said)) = λ g. close_none m c s k said r (past m (ping_due c k) (close_due k said) (ping_none m c k) g).1 in
    let next = message_next m (may_write k l) (next_message k) (here m (message_due k l) _ later two.1) in
    record { next = next; counted = no_sequence (is_three k) (next_message k) (next_place k) (number said) m one.0 next }

there : (m : Message) (c : Config) (k : List EndEvent) (l : ℕ) (o : Option (List ℕ)) → due_there c k l o ≡ Some (Numbered m) → due_after c k l (lent_frames l k) ≡ Some (Numbered m)
there m c k l None e = e
there m c k l (Some text) e = absurd (answer_none m text (lent_frames l k) e)

message_is_next : (m : Message) (c : Config) (s : Session) (k : List EndEvent) (l : ℕ) → Remembers c s k → present_link k ≡ Some l → due c k ≡ Some (Numbered m) → IsNext k m (lent_frames l k)
message_is_next m c s k l r at e = after_said m c s k l (lent_frames l k) r (there m c k l (answer k) (sym (ap (due_on c k) at) ∙ e))

-- ---- the ring

get-drop : {A : Type 0} (n : ℕ) (xs : List A) (j : ℕ) → slice_get (drop n xs) j ≡ slice_get xs (n + j)
get-drop zero xs j = let e : 0 + j ≡ j = omega arith in rw e refl
get-drop (suc n) [] j = refl
get-drop (suc n) (x ∷ xs) j = let e : suc n + j ≡ suc (n + j) = omega arith in rw e (get-drop n xs j)

-- what is lent is the message
pub lends : (m : Message) (b : Buffer) (c : Config) (k : List EndEvent) → HoldsOf b c k → IsWithin b → next_message k ≡ Some m → next_frame b ≡ Some (framed (codec_of c k) m)
lends m b c k h w next = go b.keeps refl
  where
    at : slice_get (sent_messages k) b.written ≡ Some m
    at = ap (slice_get (sent_messages k)) h.written ∙ next

    spelled : (n : ℕ) → n ≤ b.written → b.held ≡ map (framed (codec_of c k)) (drop n (sent_messages k)) → slice_get b.held (b.written - n) ≡ Some (framed (codec_of c k) m)
    spelled n less is =
        let place : n + (b.written - n) ≡ b.written = omega arith in
        ap (λ xs. slice_get xs (b.written - n)) is ∙ (slice_get-map (framed (codec_of c k)) (drop n (sent_messages k)) (b.written - n)
        ∙ ap (option_map (framed (codec_of c k))) (get-drop n (sent_messages k) (b.written - n) ∙ (ap (slice_get (sent_messages k)) place ∙ at)))

    go : (keeps : Bool) → b.keeps ≡ keeps → next_frame b ≡ Some (framed (codec_of c k) m)
    go true is =
        let kept : is_resumable c k ≡ true = sym h.keeps ∙ is in
        let held : b.held ≡ map (framed (codec_of c k)) (drop (acked_count k) (sent_messages k)) = h.held ∙ ap (λ q. map (framed (codec_of c k)) (if q then drop (acked_count k) (sent_messages k) else drop (most_lent k) (sent_messages k))) kept in
        let acked = h.acked in
        let less = w.acked in
        ap (λ q. slice_get b.held (b.written - dropped_count q b.acked b.written)) is ∙ (ap (λ n. slice_get b.held (b.written - n)) acked ∙ spelled (acked_count k) (omega arith) held)
    go false is =
        let plain : is_resumable c k ≡ false = sym h.keeps ∙ is in
        let held : b.held ≡ map (framed (codec_of c k)) (drop (most_lent k) (sent_messages k)) = h.held ∙ ap (λ q. map (framed (codec_of c k)) (if q then drop (acked_count k) (sent_messages k) else drop (most_lent k) (sent_messages k))) plain in
        let all : most_lent k ≡ b.written = sym h.furthest ∙ w.plain is in
        ap (λ q. slice_get b.held (b.written - dropped_count q b.acked b.written)) is ∙ (ap (λ n. slice_get b.held (b.written - n)) (sym all) ∙ spelled (most_lent k) (omega arith) held)

-- the message was lent
holds_lent : (m : Message) (b : Buffer) (c : Config) (k : List EndEvent) → HoldsOf b c k → IsWithin b → next_message k ≡ Some m → HoldsOf (after_next b) c (Lent (Numbered m) ∷ k)
holds_lent m b c k h w next = subst (λ q. HoldsOf (if q then after_writing b else b) c (Lent (Numbered m) ∷ k)) (sym (lt-ltb b.written b.sent less)) (record {
  keeps = h.keeps;
  sent = h.sent;
  acked = h.acked;
  written = let e = h.written in omega arith;
  furthest = let e = h.written in let f = h.furthest in omega arith;
  held = go b.keeps refl;
})
  where
    at : slice_get (sent_messages k) b.written ≡ Some m
    at = ap (slice_get (sent_messages k)) h.written ∙ next

    less : b.written < b.sent
    less = let e = slice_get_within (sent_messages k) b.written m at in let f = h.sent in omega arith

    go : (keeps : Bool) → b.keeps ≡ keeps → (if b.keeps then b.held else drop 1 b.held) ≡ map (framed (codec_of c k)) (held_messages c (Lent (Numbered m) ∷ k))
    go true is =
        let kept : is_resumable c k ≡ true = sym h.keeps ∙ is in
        ap (λ q. if q then b.held else drop 1 b.held) is ∙ (h.held
        ∙ (ap (λ q. map (framed (codec_of c k)) (if q then drop (acked_count k) (sent_messages k) else drop (most_lent k) (sent_messages k))) kept
        ∙ sym (ap (λ q. map (framed (codec_of c k)) (if q then drop (acked_count k) (sent_messages k) else drop (most_lent (Lent (Numbered m) ∷ k)) (sent_messages k))) kept)))
    go false is =
        let plain : is_resumable c k ≡ false = sym h.keeps ∙ is in
        let held : b.held ≡ map (framed (codec_of c k)) (drop (most_lent k) (sent_messages k)) = h.held ∙ ap (λ q. map (framed (codec_of c k)) (if q then drop (acked_count k) (sent_messages k) else drop (most_lent k) (sent_messages k))) plain in
        let all : most_lent k ≡ b.written = sym h.furthest ∙ w.plain is in
        let e = h.written in
        let more : most_lent k + 1 ≡ most_lent (Lent (Numbered m) ∷ k) = omega arith in
        ap (λ q. if q then b.held else drop 1 b.held) is ∙ (ap (drop 1) held ∙ (drop-map (framed (codec_of c k)) 1 (drop (most_lent k) (sent_messages k))
        ∙ (ap (map (framed (codec_of c k))) (drop-drop 1 (most_lent k) (sent_messages k) ∙ ap (λ n. drop n (sent_messages k)) more)
        ∙ sym (ap (λ q. map (framed (codec_of c k)) (if q then drop (acked_count k) (sent_messages k) else drop (most_lent (Lent (Numbered m) ∷ k)) (sent_messages k))) plain))))

-- ---- the message that was due was said

pub remembers_message : (c : Config) (s : Session) (k : List EndEvent) (m : Message) (x : Link) (b : Buffer) (n : ℕ) → Remembers c s k → IsWithin s.ring → due c k ≡ Some (Numbered m) → s.link ≡ Some x
    → b ≡ after_next s.ring → n ≡ suc s.ring.written
    → Remembers c (record s { link = Some (link_after s x (Some (n + 1)) x.told x.parted); ring = b }) (Lent (Numbered m) ∷ k)
remembers_message c s k m x b n r w due' at ring_is n_is =
    let found = on_link c s k x r at in
    let next = message_is_next m c s k found.0 r found.1 due' in
    let after : n + 1 ≡ suc (suc s.ring.written) = omega arith in
    remembers_lent c s k (Numbered m) x b (Some (n + 1)) x.told x.parted r at found.0 found.1 found.2
    (subst (λ q. HoldsOf q c (Lent (Numbered m) ∷ k)) (sym ring_is) (holds_lent m s.ring c k r.ring w next.next)) (ap (λ (q : Buffer). q.sent) ring_is ∙ same_sent s.ring)
    (λ three. ap Some after ∙ sym (ap (λ q. count q (Numbered m)) (next.counted three) ∙ ap (λ q. Some (suc (suc q))) (sym r.ring.written)))
    (omega arith) (sym (or_false x.parted))
  where
    same_sent : (b : Buffer) → (after_next b).sent ≡ b.sent
    same_sent b = go (nat_lt b.written b.sent)
      where
        go : (q : Bool) → (if q then after_writing b else b).sent ≡ b.sent
        go true = refl
        go false = refl

    or_false : (q : Bool) → (q || false) ≡ q
    or_false true = refl
    or_false false = refl

-- its bytes were lent
pub bytes_of : (c : Config) (s : Session) (k : List EndEvent) (m : Message) (x : Link) → Remembers c s k → IsWithin s.ring → due c k ≡ Some (Numbered m) → s.link ≡ Some x
    → next_frame s.ring ≡ Some (framed (codec_of c k) m)
bytes_of c s k m x r w due' at =
    let found = on_link c s k x r at in
    lends m s.ring c k r.ring w (message_is_next m c s k found.0 r found.1 due').next

-- then one waits
pub message_waits : (c : Config) (s : Session) (k : List EndEvent) (m : Message) (x : Link) → Remembers c s k → due c k ≡ Some (Numbered m) → s.link ≡ Some x → s.ring.written < s.ring.sent
message_waits c s k m x r due' at =
    let found = on_link c s k x r at in
    let next = message_is_next m c s k found.0 r found.1 due' in
    let less = slice_get_within (sent_messages k) s.ring.written m (ap (slice_get (sent_messages k)) r.ring.written ∙ next.next) in
    let e = r.ring.sent in omega arith

pub has_message : (s : Session) (x : Link) → s.link ≡ Some x → s.ring.written < s.ring.sent → HasNoMessage s → ⊥
has_message s x at less (inl none) = let e : ◌≡◌ {A = Option Link} (Some x) None = sym at ∙ none in cc
has_message s x at less (inr past) = omega arith

-- ---- a message was pushed

holds_pushed : (m : Message) (b : Buffer) (c : Config) (k : List EndEvent) (frame : List ℕ) → HoldsOf b c k → IsWithin b → frame ≡ framed (codec_of c k) m → HoldsOf (after_push b frame) c (Sent m ∷ k)
holds_pushed m b c k frame h w is = record {
  keeps = h.keeps;
  sent = let e = h.sent in let f = length-append (sent_messages k) (m ∷ []) in omega arith;
  acked = h.acked;
  written = h.written;
  furthest = h.furthest;
  held = ap (λ f. b.held ++ f ∷ []) is ∙ (ap (λ fs. fs ++ framed (codec_of c k) m ∷ []) h.held ∙ go (is_resumable c k));
}
  where
    few : (n : ℕ) → n ≤ length (sent_messages k) → map (framed (codec_of c k)) (drop n (sent_messages k)) ++ framed (codec_of c k) m ∷ [] ≡ map (framed (codec_of c k)) (drop n (sent_messages k ++ m ∷ []))
    few n less = sym (ap (map (framed (codec_of c k))) (drop-append-le n (sent_messages k) (m ∷ []) less) ∙ map-append (framed (codec_of c k)) (drop n (sent_messages k)) (m ∷ []))

    acked_few : acked_count k ≤ length (sent_messages k)
    acked_few = let a = w.acked in let d = w.written in let e = w.furthest in let f = h.acked in let g = h.sent in omega arith

    lent_few : most_lent k ≤ length (sent_messages k)
    lent_few = let e = w.furthest in let f = h.furthest in let g = h.sent in omega arith

    go : (kept : Bool) → map (framed (codec_of c k)) (if kept then drop (acked_count k) (sent_messages k) else drop (most_lent k) (sent_messages k)) ++ framed (codec_of c k) m ∷ []
        ≡ map (framed (codec_of c k)) (if kept then drop (acked_count k) (sent_messages k ++ m ∷ []) else drop (most_lent k) (sent_messages k ++ m ∷ []))
    go true = few (acked_count k) acked_few
    go false = few (most_lent k) lent_few

agrees_pushed : (c : Config) (k : List EndEvent) (m : Message) (a : Option Agreed) → Agrees a c k → Agrees a c (Sent m ∷ k)
agrees_pushed c k m None h = h
agrees_pushed c k m (Some a) h = h

pub remembers_pushed : (c : Config) (s : Session) (k : List EndEvent) (m : Message) (frame : List ℕ) (b : Buffer) → Remembers c s k → IsWithin s.ring → is_shaken k ≡ true → frame ≡ framed s.codec m
    → b ≡ after_push s.ring frame → Remembers c (record s { ring = b }) (Sent m ∷ k)
remembers_pushed c s k m frame b r w shaken is ring_is = record {
  side = r.side;
  codec = r.codec;
  version = r.version;
  reconnect = r.reconnect;
  agreed = agrees_pushed c k m s.agreed r.agreed;
  closed = r.closed;
  farewell = r.farewell;
  answer = r.answer;
  live = r.live;
  number = r.number;
  link = on_link_map s.link (present_link k) r.link (λ x l o p h. record {
    first = h.first;
    opened = h.opened;
    said = h.said;
    told = h.told;
    resumed = h.resumed;
    parted = h.parted;
    quiet = h.quiet;
    wrote = h.wrote;
    heard = h.heard;
    within = h.within;
    counted = h.counted;
    greets = h.greets;
    alone = h.alone;
    numbered = h.numbered;
  });
  ring = subst (λ q. HoldsOf q c (Sent m ∷ k)) (sym ring_is) (holds_pushed m s.ring c k frame r.ring w (is ∙ ap (λ codec. framed codec m) r.codec));
  processed = r.processed;
  moment = r.moment;
  begun = r.begun;
  unshaken = λ h. absurd (cc);
}

-- the number of a message is how many were sent with it
pub number_pushed : (c : Config) (s : Session) (k : List EndEvent) (m : Message) → Remembers c s k → suc s.ring.sent ≡ length (sent_messages k ++ m ∷ [])
number_pushed c s k m r = let e = r.ring.sent in let f = length-append (sent_messages k) (m ∷ []) in omega arith

-- a frame that is written changes no limit
pub next_limits : (b v : Buffer) → v ≡ after_next b → v.limits ≡ b.limits
next_limits b v is = ap (λ x. x.limits) is ∙ go (nat_lt b.written b.sent)
  where
    go : (t : Bool) → (if t then after_writing b else b).limits ≡ b.limits
    go true = refl
    go false = refl
