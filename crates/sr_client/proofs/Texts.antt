-- A client's end answers no handshake that it refuses, so its codec alone tells whether it writes texts.
use Rattle.std.proofs.Common.{◌≡◌, ℕ, Bool, true, false, not, ◌||◌, List, [], ◌∷◌, Option, Some, None, is_some, refl, sym, ap, subst, ◌∙◌, if◌then◌else◌}
use Rattle.std.specs.Prelude.{◌==◌, ◌+◌, suc, nat_le, length, option_map, slice_get}
use Rattle.std.specs.Option.{option_eq}
use Rattle.hm_message.specs.declared.message.Codec.{Codec}
use Rattle.hm_message.specs.declared.message.Codec.TheVariants.{Json, Pack}
use Rattle.hd_delivery.specs.declared.vocabulary.Side.TheVariants.{Client}
use Rattle.hd_delivery.specs.Numbers.{most_messages}
use Rattle.hd_delivery.specs.Frames.{LinkFrame, Response, Numbered, Ack, Sequence, Ping, Close, Foreign, Strange, Unreadable, received_of}
use Rattle.hd_delivery.specs.Histories.{Config, Unread, Shake, Gap, AckBeyond, EndEvent, Attached, Detached, Fed, Took, Failed, Sent, Lent, Ticked}
use Rattle.hd_delivery.specs.Histories.{Silenced, Closed, codec_of, fed_frames, is_closed, is_resumable, is_shaken, is_three, most_lent, present_link}
use Rattle.hd_delivery.specs.Histories.{processed_messages, taken_count}
use Rattle.hd_delivery.specs.Due.{answer}
use Rattle.hd_delivery.specs.Processes.{next_frame, next_number, processes, reads, reads_ack, reads_frame, reads_handshake, reads_sequence, resumes}
use Rattle.hd_delivery.specs.Worlds.{Limits}
use Rattle.hd_delivery.specs.Bytes.{Wire, ByteStep, Bytes, Does, in_frames}
use Rattle.hd_delivery.specs.OneHistory.{IsHistory, MayDoOverBytes}
use Rattle.he_end.specs.Stands.{is_client}
use Rattle.hd_server.specs.Serves.{is_json, is_text}

-- ---- what a client refuses

-- the step answers a handshake
abbrev answers : EndEvent → Bool
answers (Failed (Shake why text)) = is_some text
answers _ = false

one_of : (b : Bool) (x y : EndEvent) → answers x ≡ false → answers y ≡ false → answers (if b then x else y) ≡ false
one_of true x y e f = e
one_of false x y e f = f

not_in_message : (n : Option ℕ) (f : LinkFrame) (h : List EndEvent) (keeps : Bool) → answers (reads_frame keeps h n f) ≡ false
not_in_message (Some n) (Numbered m) h keeps =
    one_of (n == most_messages + 1) (Failed (Gap (most_messages + 1) most_messages)) _ refl
    (one_of (n == suc (length (processed_messages h))) _ _ refl refl)
not_in_message None (Numbered m) h keeps = refl
not_in_message n (Ack upto) h keeps = one_of keeps (reads_ack h upto) _ (one_of (nat_le upto (most_lent h)) _ _ refl refl) refl
not_in_message n (Sequence first received) h keeps = one_of keeps (reads_sequence h first (received_of received)) _
    (one_of (nat_le first (suc (length (processed_messages h)))) (resumes h first (received_of received)) _
    (one_of (is_three h) _ _ (one_of (nat_le (received_of received) (most_lent h)) _ _ refl refl) refl) refl) refl
not_in_message n Ping h keeps = refl
not_in_message n (Close error allow) h keeps = refl
not_in_message n (Foreign k) h keeps = refl
not_in_message n (Unreadable at why) h keeps = refl
not_in_message n f h keeps = refl

not_in_handshake : (c : Config) (h : List EndEvent) (f : LinkFrame) → answers (reads_handshake Client c h f) ≡ false
not_in_handshake c h Response = refl
not_in_handshake c h (Strange why text) = refl
not_in_handshake c h (Unreadable at why) = refl
not_in_handshake c h _ = refl

module _ (c : Config) (is : c.side ≡ Client) where
  not_read : (h : List EndEvent) (n : Option ℕ) (f : LinkFrame) → answers (reads c h n f) ≡ false
  not_read h n f = one_of (is_shaken h) (reads_frame (is_resumable c h) h n f) (reads_handshake c.side c h f) (not_in_message n f h (is_resumable c h))
      (subst (λ s. answers (reads_handshake s c h f) ≡ false) (sym is) (not_in_handshake c h f))

  abbrev none_or : Option EndEvent → Bool
  none_or None = false
  none_or (Some s) = answers s

  mapped : (g : LinkFrame → EndEvent) (o : Option LinkFrame) → ((f : LinkFrame) → answers (g f) ≡ false) → none_or (option_map g o) ≡ false
  mapped g None e = refl
  mapped g (Some f) e = e f

  not_next : (h : List EndEvent) (l : Option ℕ) → none_or (next_frame c h l) ≡ false
  not_next h None = refl
  not_next h (Some l) = mapped (reads c h (next_number c h l)) (slice_get (fed_frames l h) (taken_count l h)) (λ f. not_read h (next_number c h l) f)

  none_if : (b : Bool) (o : Option EndEvent) → none_or o ≡ false → none_or (if b then None else o) ≡ false
  none_if true o e = refl
  none_if false o e = e

  -- what it takes answers none
  unanswering : (h : List EndEvent) (s : EndEvent) → processes c h ≡ Some s → answers s ≡ false
  unanswering h s e = sym (ap none_or e) ∙ none_if (is_closed c h) (next_frame c h (present_link h)) (not_next h (present_link h))

  unanswered_then : (limits : Limits) (wire : Wire) (s : EndEvent) (h : List ByteStep) → MayDoOverBytes limits wire c h (Does s)
      → is_some (answer (in_frames wire c h)) ≡ false → is_some (answer (s ∷ in_frames wire c h)) ≡ false
  unanswered_then limits wire (Failed (Shake why text)) h x e = unanswering (in_frames wire c h) (Failed (Shake why text)) x
  unanswered_then limits wire (Failed (Unread link at why)) h x e = e
  unanswered_then limits wire (Failed (Gap got most)) h x e = e
  unanswered_then limits wire (Failed (AckBeyond got most)) h x e = e
  unanswered_then limits wire (Attached l now) h x e = e
  unanswered_then limits wire (Detached now) h x e = e
  unanswered_then limits wire (Silenced now) h x e = e
  unanswered_then limits wire (Fed piece) h x e = absurd x
  unanswered_then limits wire (Took got) h x e = e
  unanswered_then limits wire (Sent m) h x e = e
  unanswered_then limits wire (Lent f) h x e = e
  unanswered_then limits wire (Ticked now) h x e = e
  unanswered_then limits wire (Closed why allow) h x e = e

  unanswered : (limits : Limits) (wire : Wire) (h : List ByteStep) → IsHistory limits wire c h → is_some (answer (in_frames wire c h)) ≡ false
  unanswered limits wire [] x = refl
  unanswered limits wire (Bytes piece ∷ h) x = unanswered limits wire h x.0
  unanswered limits wire (Does s ∷ h) x = unanswered_then limits wire s h x.1 (unanswered limits wire h x.0)

-- ---- texts

-- the test whether a codec is this one
pub record Tells (eq : Codec → Codec → Bool) : Type 0 where
  pub other : eq Json Pack ≡ false
  pub same : eq Pack Pack ≡ true

is_not_pack : (eq : Codec → Codec → Bool) → Tells eq → (codec : Codec) → not (option_eq eq (Some codec) (Some Pack)) ≡ is_json codec
is_not_pack eq tells Json = ap not tells.other
is_not_pack eq tells Pack = ap not tells.same

always : (b : Bool) (codec : Codec) → (if b || true then Some codec else None) ≡ Some codec
always true codec = refl
always false codec = refl

pub is_text_by : (eq : Codec → Codec → Bool) → Tells eq → (limits : Limits) (wire : Wire) (c : Config) (h : List ByteStep) → IsHistory limits wire c h
    → c.side ≡ Client → (found : Option Codec)
    → found ≡ (if is_shaken (in_frames wire c h) || is_client c.side then Some (codec_of c (in_frames wire c h)) else None)
    → not (option_eq eq found (Some Pack)) ≡ is_text c (in_frames wire c h)
is_text_by eq tells limits wire c h x side found e =
    let k = in_frames wire c h in
    ap (λ o. not (option_eq eq o (Some Pack))) (e
    ∙ (ap (λ s. if is_shaken k || is_client s then Some (codec_of c k) else None) side ∙ always (is_shaken k) (codec_of c k)))
    ∙ (is_not_pack eq tells (codec_of c k)
    ∙ ap (λ b. if b then true else is_json (codec_of c k)) (sym (unanswered c side limits wire h x)))
