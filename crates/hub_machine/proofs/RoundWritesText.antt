-- Before a server's end took a request it writes texts; and once it did, no request was refused.
use Rattle.std.proofs.Common.{◌≡◌, ℕ, suc, ◌+◌, Bool, true, false, not, ◌||◌, List, [], ◌∷◌, length, Option, Some, None, is_some, refl, sym, ap}
use Rattle.std.proofs.Common.{subst, ◌∙◌, true≢false}
use Rattle.std.specs.Prelude.{if◌then◌else◌, ◌==◌, nat_le, option_map, slice_get}
use Rattle.std.specs.Option.{option_eq}
use Rattle.hm_message.specs.declared.message.Codec.{Codec}
use Rattle.hm_message.specs.declared.message.Codec.TheVariants.{Json, Pack}
use Rattle.hd_delivery.specs.declared.vocabulary.Side.TheVariants.{Server}
use Rattle.hd_delivery.specs.declared.vocabulary.Got.TheVariants.{Shaken}
use Rattle.hd_delivery.specs.Numbers.{most_messages}
use Rattle.hd_delivery.specs.Frames.{LinkFrame, Numbered, Ack, Sequence, Ping, Close, Foreign, Unreadable, received_of}
use Rattle.hd_delivery.specs.Histories.{Config, Unread, Shake, Gap, AckBeyond, EndEvent, Attached, Detached, Fed, Took, Failed, Sent, Lent, Ticked}
use Rattle.hd_delivery.specs.Histories.{Silenced, Closed, codec_of, fed_frames, is_closed, is_resumable, is_shaken, is_three, most_lent, present_link}
use Rattle.hd_delivery.specs.Histories.{processed_messages, taken_count}
use Rattle.hd_delivery.specs.Due.{answer}
use Rattle.hd_delivery.specs.Processes.{next_frame, next_number, processes, reads, reads_ack, reads_frame, reads_handshake, reads_sequence, resumes}
use Rattle.hd_delivery.specs.Worlds.{Limits}
use Rattle.hd_delivery.specs.Bytes.{Wire, ByteStep, Bytes, Does, in_frames}
use Rattle.hd_delivery.specs.OneHistory.{IsHistory, MayDoOverBytes}
use Rattle.he_end.specs.Stands.{is_client}
use Rattle.hd_server.specs.Serves.{is_json, is_text}

-- ---- the codec

-- before the handshake it is the end's own
own_codec : (c : Config) (k : List EndEvent) → is_shaken k ≡ false → codec_of c k ≡ c.codec
own_codec c [] e = refl
own_codec c (Took (Shaken codec version) ∷ k) e = absurd (true≢false e)
own_codec c (Took got ∷ k) e = own_codec c k e
own_codec c (Attached l now ∷ k) e = own_codec c k e
own_codec c (Detached now ∷ k) e = own_codec c k e
own_codec c (Fed piece ∷ k) e = own_codec c k e
own_codec c (Failed fault ∷ k) e = own_codec c k e
own_codec c (Sent m ∷ k) e = own_codec c k e
own_codec c (Lent f ∷ k) e = own_codec c k e
own_codec c (Ticked now ∷ k) e = own_codec c k e
own_codec c (Silenced now ∷ k) e = own_codec c k e
own_codec c (Closed why allow ∷ k) e = own_codec c k e

-- ---- what frames after the handshake are refused as

abbrev is_refusal : EndEvent → Bool
is_refusal (Failed (Shake why text)) = true
is_refusal _ = false

one_of : (b : Bool) (x y : EndEvent) → is_refusal x ≡ false → is_refusal y ≡ false → is_refusal (if b then x else y) ≡ false
one_of true x y e f = e
one_of false x y e f = f

not_in_message : (n : Option ℕ) (f : LinkFrame) (h : List EndEvent) (keeps : Bool) → is_refusal (reads_frame keeps h n f) ≡ false
not_in_message (Some n) (Numbered m) h keeps =
    one_of (n == most_messages + 1) (Failed (Gap (most_messages + 1) most_messages)) _ refl
    (one_of (n == suc (length (processed_messages h))) _ _ refl refl)
not_in_message None (Numbered m) h keeps = refl
not_in_message n (Ack upto) h keeps = one_of keeps (reads_ack h upto) _ (one_of (nat_le upto (most_lent h)) _ _ refl refl) refl
not_in_message n (Sequence first received) h keeps = one_of keeps (reads_sequence h first (received_of received)) _
    (one_of (nat_le first (suc (length (processed_messages h)))) (resumes h first (received_of received)) _
    (one_of (is_three h) _ _ (one_of (nat_le (received_of received) (most_lent h)) _ _ refl refl) refl) refl) refl
not_in_message n Ping h keeps = refl
not_in_message n (Close error allow) h keeps = refl
not_in_message n (Foreign k) h keeps = refl
not_in_message n (Unreadable at why) h keeps = refl
not_in_message n f h keeps = refl

abbrev none_or : Option EndEvent → Bool
none_or None = false
none_or (Some s) = is_refusal s

read_is_none : (c : Config) (h : List EndEvent) (n : Option ℕ) (f : LinkFrame) → is_shaken h ≡ true → is_refusal (reads c h n f) ≡ false
read_is_none c h n f e =
    subst (λ b. is_refusal (if b then reads_frame (is_resumable c h) h n f else reads_handshake c.side c h f) ≡ false) (sym e)
    (not_in_message n f h (is_resumable c h))

mapped : (g : LinkFrame → EndEvent) (o : Option LinkFrame) → ((f : LinkFrame) → is_refusal (g f) ≡ false) → none_or (option_map g o) ≡ false
mapped g None e = refl
mapped g (Some f) e = e f

next_is_none : (c : Config) (h : List EndEvent) (l : Option ℕ) → is_shaken h ≡ true → none_or (next_frame c h l) ≡ false
next_is_none c h None e = refl
next_is_none c h (Some l) e =
    mapped (reads c h (next_number c h l)) (slice_get (fed_frames l h) (taken_count l h)) (λ f. read_is_none c h (next_number c h l) f e)

none_if : (b : Bool) (o : Option EndEvent) → none_or o ≡ false → none_or (if b then None else o) ≡ false
none_if true o e = refl
none_if false o e = e

-- a handshake that is complete isn't refused
unrefused : (c : Config) (h : List EndEvent) (why : List ℕ) (text : Option (List ℕ)) → processes c h ≡ Some (Failed (Shake why text))
    → is_shaken h ≡ true → ⊥
unrefused c h why text e f =
    true≢false (sym (ap none_or e) ∙ none_if (is_closed c h) (next_frame c h (present_link h)) (next_is_none c h (present_link h) f))

-- ---- once a request was refused

closed_takes_none : (c : Config) (h : List EndEvent) (s : EndEvent) → processes c h ≡ Some s → is_closed c h ≡ true → ⊥
closed_takes_none c h s e f = true≢false (sym (ap is_some (subst (λ b. (if b then None else next_frame c h (present_link h)) ≡ Some s) f e)))

still_closed : (kept closed : Bool) → closed ≡ true → (if kept then closed else true) ≡ true
still_closed true closed e = e
still_closed false closed e = refl

not_true : (b : Bool) → (b ≡ true → ⊥) → b ≡ false
not_true true f = absurd (f refl)
not_true false f = refl

-- the end is closed, and its handshake never complete
record IsOut (c : Config) (k : List EndEvent) : Type 0 where
  unshaken : is_shaken k ≡ false
  closed : is_closed c k ≡ true

-- one more step of an end that is out if it refused a request
out_then : (limits : Limits) (wire : Wire) (c : Config) (s : EndEvent) (h : List ByteStep) → MayDoOverBytes limits wire c h (Does s)
    → is_some (answer (s ∷ in_frames wire c h)) ≡ true → (is_some (answer (in_frames wire c h)) ≡ true → IsOut c (in_frames wire c h))
    → IsOut c (s ∷ in_frames wire c h)
out_then limits wire c (Attached l now) h x e was = record { unshaken = (was e).unshaken; closed = (was e).closed }
out_then limits wire c (Detached now) h x e was =
    record { unshaken = (was e).unshaken; closed = still_closed (is_resumable c (in_frames wire c h)) (is_closed c (in_frames wire c h)) (was e).closed }
out_then limits wire c (Silenced now) h x e was =
    record { unshaken = (was e).unshaken; closed = still_closed (is_resumable c (in_frames wire c h)) (is_closed c (in_frames wire c h)) (was e).closed }
out_then limits wire c (Fed piece) h x e was = absurd x
out_then limits wire c (Took got) h x e was = absurd (closed_takes_none c (in_frames wire c h) (Took got) x (was e).closed)
out_then limits wire c (Failed (Shake why text)) h x e was =
    record { unshaken = not_true (is_shaken (in_frames wire c h)) (unrefused c (in_frames wire c h) why text x); closed = refl }
out_then limits wire c (Failed (Unread link at why)) h x e was = record { unshaken = (was e).unshaken; closed = refl }
out_then limits wire c (Failed (Gap got most)) h x e was = record { unshaken = (was e).unshaken; closed = refl }
out_then limits wire c (Failed (AckBeyond got most)) h x e was = record { unshaken = (was e).unshaken; closed = refl }
out_then limits wire c (Sent m) h x e was = record { unshaken = (was e).unshaken; closed = (was e).closed }
out_then limits wire c (Lent f) h x e was = record { unshaken = (was e).unshaken; closed = (was e).closed }
out_then limits wire c (Ticked now) h x e was = record { unshaken = (was e).unshaken; closed = (was e).closed }
out_then limits wire c (Closed why allow) h x e was = record { unshaken = (was e).unshaken; closed = refl }

refused_is_out : (limits : Limits) (wire : Wire) (c : Config) (h : List ByteStep) → IsHistory limits wire c h
    → is_some (answer (in_frames wire c h)) ≡ true → IsOut c (in_frames wire c h)
refused_is_out limits wire c [] x e = absurd (true≢false (sym e))
refused_is_out limits wire c (Bytes piece ∷ h) x e = out_still (refused_is_out limits wire c h x.0 e)
  where
    out_still : IsOut c (in_frames wire c h) → IsOut c (in_frames wire c (Bytes piece ∷ h))
    out_still out = record { unshaken = out.unshaken; closed = out.closed }
refused_is_out limits wire c (Does s ∷ h) x e = out_then limits wire c s h x.1 e (refused_is_out limits wire c h x.0)

shaken_is_unrefused : (limits : Limits) (wire : Wire) (c : Config) (h : List ByteStep) → IsHistory limits wire c h
    → is_shaken (in_frames wire c h) ≡ true → is_some (answer (in_frames wire c h)) ≡ false
shaken_is_unrefused limits wire c h x e = not_true (is_some (answer (in_frames wire c h)))
    (λ f. true≢false (sym e ∙ (refused_is_out limits wire c h x f).unshaken))

-- ---- texts

-- the test whether a codec is this one
pub record Tells (eq : Codec → Codec → Bool) : Type 0 where
  pub other : eq Json Pack ≡ false
  pub same : eq Pack Pack ≡ true

is_not_pack : (eq : Codec → Codec → Bool) → Tells eq → (codec : Codec) → not (option_eq eq (Some codec) (Some Pack)) ≡ is_json codec
is_not_pack eq tells Json = ap not tells.other
is_not_pack eq tells Pack = ap not tells.same

by_shaken : (eq : Codec → Codec → Bool) (tells : Tells eq) (shaken refused : Bool) (codec : Codec) → (shaken ≡ true → refused ≡ false)
    → (shaken ≡ false → codec ≡ Json)
    → not (option_eq eq (if shaken || false then Some codec else None) (Some Pack)) ≡ (if refused then true else is_json codec)
by_shaken eq tells true true codec none own = absurd (true≢false (none refl))
by_shaken eq tells true false codec none own = is_not_pack eq tells codec
by_shaken eq tells false true codec none own = refl
by_shaken eq tells false false codec none own = sym (ap is_json (own refl))

pub is_text_by : (eq : Codec → Codec → Bool) → Tells eq → (limits : Limits) (wire : Wire) (c : Config) (h : List ByteStep) → IsHistory limits wire c h
    → c.side ≡ Server → c.codec ≡ Json → (found : Option Codec)
    → found ≡ (if is_shaken (in_frames wire c h) || is_client c.side then Some (codec_of c (in_frames wire c h)) else None)
    → not (option_eq eq found (Some Pack)) ≡ is_text c (in_frames wire c h)
is_text_by eq tells limits wire c h x side codec found e =
    ap (λ o. not (option_eq eq o (Some Pack))) (e
    ∙ ap (λ s. if is_shaken (in_frames wire c h) || is_client s then Some (codec_of c (in_frames wire c h)) else None) side)
    ∙ by_shaken eq tells (is_shaken (in_frames wire c h)) (is_some (answer (in_frames wire c h))) (codec_of c (in_frames wire c h))
    (shaken_is_unrefused limits wire c h x) (λ f. own_codec c (in_frames wire c h) f ∙ codec)
