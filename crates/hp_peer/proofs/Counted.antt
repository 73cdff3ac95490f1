-- A message that an end hands out is one of those that are counted.
use Rattle.std.proofs.Common.{◌≡◌, ℕ, zero, suc, ◌+◌, Bool, true, false, List, [], ◌∷◌, ◌++◌, length, drop, Option, Some, None, refl, subst}
use Rattle.std.specs.Prelude.{slice_get, option_map, nat_le, ◌==◌, if◌then◌else◌}
use Rattle.hm_message.specs.declared.message.Codec.{Codec}
use Rattle.hm_message.specs.declared.message.Message.{Message}
use Rattle.hm_message.specs.Message.{is_sequenced}
use Rattle.hd_delivery.specs.declared.vocabulary.Got.TheVariants as gives
use Rattle.hd_delivery.specs.declared.vocabulary.Why.TheVariants.{Duplicate, NotUsed}
use Rattle.hd_delivery.specs.declared.vocabulary.Side.{Side}
use Rattle.hd_delivery.specs.declared.vocabulary.Side.TheVariants.{Client, Server}
use Rattle.hd_delivery.specs.Frames.{LinkFrame, Request, Response, Refusal, Numbered, Ack, Sequence, Ping, Close, Foreign, Strange, Unreadable, received_of}
use Rattle.hd_delivery.specs.Histories.{EndEvent, Fed, Took, Failed, Gap, AckBeyond, Config, present_link, first_link, is_this, stands_on, fed_frames, taken_count, codec_of, is_closed, is_resumable, is_shaken, processed_messages, most_lent, is_three}
use Rattle.hd_delivery.specs.Processes.{processes, next_frame, next_number, reads, reads_ack, reads_frame, reads_handshake, reads_message, reads_sequence, resumes}
use Rattle.hd_delivery.specs.Numbers.{most_messages}
use Rattle.hd_delivery.specs.Worlds.{Limits}
use Rattle.hd_delivery.specs.Bytes.{Wire, IsSoundWire, IsFirst, IsLater, Reading, Waits, Reads, Refuses, Stops, ByteStep, Bytes, Does, bytes_on, codec_after, cut, cut_all, cut_by, frames, in_frames, new_frames}
use Rattle.hd_delivery.specs.OneHistory.{IsHistory}

-- ---- frames

-- a frame of a message, if it is one, is of a counted one
abbrev IsCountedFrame : LinkFrame → Type 0
IsCountedFrame (Numbered m) = is_sequenced m ≡ true
IsCountedFrame _ = Unit {0}

abbrev AreCounted : List LinkFrame → Type 0
AreCounted [] = Unit {0}
AreCounted (f ∷ fs) = IsCountedFrame f × AreCounted fs

abbrev IsCountedOne : Option LinkFrame → Type 0
IsCountedOne None = Unit {0}
IsCountedOne (Some f) = IsCountedFrame f

both_counted : (xs ys : List LinkFrame) → AreCounted xs → AreCounted ys → AreCounted (xs ++ ys)
both_counted [] ys a b = b
both_counted (x ∷ xs) ys a b = (a.0, both_counted xs ys a.1 b)

rest_counted : (n : ℕ) (xs : List LinkFrame) → AreCounted xs → AreCounted (drop n xs)
rest_counted zero xs a = a
rest_counted (suc n) [] a = tt
rest_counted (suc n) (x ∷ xs) a = rest_counted n xs a.1

one_counted : (n : ℕ) (xs : List LinkFrame) → AreCounted xs → IsCountedOne (slice_get xs n)
one_counted n [] a = tt
one_counted zero (x ∷ xs) a = a.0
one_counted (suc n) (x ∷ xs) a = one_counted n xs a.1

first_counted : (side : Side) (f : LinkFrame) → IsFirst side f → IsCountedFrame f
first_counted Client (Numbered m) i = absurd i
first_counted Server (Numbered m) i = absurd i
first_counted side (Request codec version) i = tt
first_counted side Response i = tt
first_counted side (Refusal text) i = tt
first_counted side (Ack upto) i = tt
first_counted side (Sequence first received) i = tt
first_counted side Ping i = tt
first_counted side (Close error allow) i = tt
first_counted side (Foreign n) i = tt
first_counted side (Strange why answer) i = tt
first_counted side (Unreadable at why) i = tt

later_counted : (f : LinkFrame) → IsLater f → IsCountedFrame f
later_counted (Numbered m) i = i
later_counted (Request codec version) i = tt
later_counted Response i = tt
later_counted (Refusal text) i = tt
later_counted (Ack upto) i = tt
later_counted (Sequence first received) i = tt
later_counted Ping i = tt
later_counted (Close error allow) i = tt
later_counted (Foreign n) i = tt
later_counted (Strange why answer) i = tt
later_counted (Unreadable at why) i = tt

-- ---- what is cut

by_counted : (r : Reading) (at : ℕ) (bytes : List ℕ) (rest : LinkFrame → ℕ → List ℕ → List (LinkFrame × ℕ))
    → ((f : LinkFrame) (size : ℕ) → r ≡ Reads f size → IsCountedFrame f)
    → ((f : LinkFrame) (at : ℕ) (bytes : List ℕ) → AreCounted (frames (rest f at bytes))) → AreCounted (frames (cut_by r at bytes rest))
by_counted Waits at bytes rest first later = tt
by_counted (Reads f size) at bytes rest first later = (first f size refl, later f (at + size) (drop size bytes))
by_counted (Refuses why size) at bytes rest first later = (tt, later _ (at + size) (drop size bytes))
by_counted (Stops why) at bytes rest first later = (tt, tt)

all_counted : (reader : List ℕ → Reading) → ((bytes : List ℕ) (f : LinkFrame) (size : ℕ) → reader bytes ≡ Reads f size → IsCountedFrame f)
    → (left at : ℕ) (bytes : List ℕ) → AreCounted (frames (cut_all reader left at bytes))
all_counted reader counted zero at bytes = tt
all_counted reader counted (suc left) at bytes =
    by_counted (reader bytes) at bytes (λ f. cut_all reader left) (counted bytes) (λ f at bytes. all_counted reader counted left at bytes)

either : {A : Type 0} (P : A → Type 0) (b : Bool) (x y : A) → P x → P y → P (if b then x else y)
either P true x y p q = p
either P false x y p q = q

module _ (limits : Limits) (wire : Wire) (sound : IsSoundWire limits wire) (c : Config) where
  later : (codec : Codec) (bytes : List ℕ) (f : LinkFrame) (size : ℕ) → wire.later codec bytes ≡ Reads f size → IsCountedFrame f
  later codec bytes f size e = later_counted f ((sound.later codec).reads bytes f size e).0

  cut_counted : (k : List EndEvent) (l : ℕ) (bytes : List ℕ) → AreCounted (frames (cut wire c k l bytes))
  cut_counted k l bytes = either (λ cuts. AreCounted (frames cuts)) (is_this l (first_link k)) _ _
      (by_counted (wire.first c.side bytes) 0 bytes _ (λ f size e. first_counted c.side f ((sound.first c.side).reads bytes f size e).0)
      (λ f at rest. all_counted (wire.later (codec_after c.codec f)) (later (codec_after c.codec f)) (length rest) at rest))
      (all_counted (wire.later (codec_of c k)) (later (codec_of c k)) (length bytes) 0 bytes)

  new_counted : (h : List ByteStep) (k : List EndEvent) (o : Option ℕ) (piece : List ℕ) → AreCounted (new_frames wire c h k o piece)
  new_counted h k None piece = tt
  new_counted h k (Some l) piece = rest_counted (length (fed_frames l k)) _ (cut_counted k l (bytes_on l h ++ piece))

  fed_counted : (h : List ByteStep) → IsHistory limits wire c h → (l : ℕ) → AreCounted (fed_frames l (in_frames wire c h))
  fed_counted [] is l = tt
  fed_counted (Bytes piece ∷ h) is l = either AreCounted (stands_on l (in_frames wire c h)) _ _
      (both_counted (fed_frames l (in_frames wire c h)) _ (fed_counted h is.0 l) (new_counted h (in_frames wire c h) (present_link (in_frames wire c h)) piece))
      (fed_counted h is.0 l)
  fed_counted (Does (Fed piece) ∷ h) is l = absurd is.1
  fed_counted (Does s ∷ h) is l = fed_counted h is.0 l

-- ---- what is processed

-- the step hands out no message that isn't counted
abbrev IsCountedStep : EndEvent → Type 0
IsCountedStep (Took (gives.Message m)) = is_sequenced m ≡ true
IsCountedStep _ = Unit {0}

abbrev IsCountedNext : Option EndEvent → Type 0
IsCountedNext None = Unit {0}
IsCountedNext (Some s) = IsCountedStep s

one_of : (b : Bool) (x y : EndEvent) → IsCountedStep x → IsCountedStep y → IsCountedStep (if b then x else y)
one_of = either IsCountedStep

handshake_counted : (side : Side) (c : Config) (k : List EndEvent) (f : LinkFrame) → IsCountedStep (reads_handshake side c k f)
handshake_counted Client c k f = client f
  where
    client : (f : LinkFrame) → IsCountedStep (reads_handshake Client c k f)
    client Response = tt
    client (Strange why text) = tt
    client (Unreadable at why) = tt
    client _ = tt
handshake_counted Server c k f = server f
  where
    server : (f : LinkFrame) → IsCountedStep (reads_handshake Server c k f)
    server (Request codec version) = tt
    server (Strange why text) = tt
    server (Unreadable at why) = tt
    server _ = tt

message_counted : (p : ℕ) (n : Option ℕ) (m : Message) → is_sequenced m ≡ true → IsCountedStep (reads_message p n m)
message_counted p None m e = tt
message_counted p (Some n) m e =
    one_of (n == most_messages + 1) (Failed (Gap (most_messages + 1) most_messages)) (if n == suc p then Took (gives.Message m) else Took (gives.Skipped (Duplicate n)))
    tt (one_of (n == suc p) (Took (gives.Message m)) (Took (gives.Skipped (Duplicate n))) e tt)

ack_counted : (k : List EndEvent) (n : ℕ) → IsCountedStep (reads_ack k n)
ack_counted k n = one_of (nat_le n (most_lent k)) (Took (gives.Acked n)) (Failed (AckBeyond n (most_lent k))) tt tt

resumes_counted : (k : List EndEvent) (first received : ℕ) → IsCountedStep (resumes k first received)
resumes_counted k first received =
    one_of (is_three k) (if nat_le received (most_lent k) then Took (gives.Resumed first received) else Failed (AckBeyond received (most_lent k))) (Took (gives.Sequenced first))
    (one_of (nat_le received (most_lent k)) (Took (gives.Resumed first received)) (Failed (AckBeyond received (most_lent k))) tt tt) tt

sequence_counted : (k : List EndEvent) (first received : ℕ) → IsCountedStep (reads_sequence k first received)
sequence_counted k first received =
    one_of (nat_le first (suc (length (processed_messages k)))) (resumes k first received) (Failed (Gap first (suc (length (processed_messages k)))))
    (resumes_counted k first received) tt

frame_counted : (keeps : Bool) (k : List EndEvent) (n : Option ℕ) (f : LinkFrame) → IsCountedFrame f → IsCountedStep (reads_frame keeps k n f)
frame_counted keeps k n (Numbered m) e = message_counted (length (processed_messages k)) n m e
frame_counted keeps k n (Ack upto) e = one_of keeps (reads_ack k upto) (Took (gives.Skipped NotUsed)) (ack_counted k upto) tt
frame_counted keeps k n (Sequence first received) e =
    one_of keeps (reads_sequence k first (received_of received)) (Took (gives.Skipped NotUsed)) (sequence_counted k first (received_of received)) tt
frame_counted keeps k n Ping e = tt
frame_counted keeps k n (Close error allow) e = tt
frame_counted keeps k n (Foreign x) e = tt
frame_counted keeps k n (Unreadable at why) e = tt
frame_counted keeps k n _ e = tt

module _ (c : Config) (k : List EndEvent) (counted : (l : ℕ) → AreCounted (fed_frames l k)) where
  read_counted : (n : Option ℕ) (f : LinkFrame) → IsCountedFrame f → IsCountedStep (reads c k n f)
  read_counted n f e = one_of (is_shaken k) (reads_frame (is_resumable c k) k n f) (reads_handshake c.side c k f) (frame_counted (is_resumable c k) k n f e) (handshake_counted c.side c k f)

  next_counted : (o : Option ℕ) → IsCountedNext (next_frame c k o)
  next_counted None = tt
  next_counted (Some l) = go (slice_get (fed_frames l k) (taken_count l k)) (one_counted (taken_count l k) (fed_frames l k) (counted l))
    where
      go : (o : Option LinkFrame) → IsCountedOne o → IsCountedNext (option_map (reads c k (next_number c k l)) o)
      go None e = tt
      go (Some f) e = read_counted (next_number c k l) f e

  pub processes_counted : (m : Message) → processes c k ≡ Some (Took (gives.Message m)) → is_sequenced m ≡ true
  processes_counted m e = subst IsCountedNext e (either IsCountedNext (is_closed c k) None (next_frame c k (present_link k)) tt (next_counted (present_link k)))

-- what is handed out after such a history is counted
pub handed_counted : (limits : Limits) (wire : Wire) → IsSoundWire limits wire → (c : Config) (h : List ByteStep) → IsHistory limits wire c h → (m : Message)
    → processes c (in_frames wire c h) ≡ Some (Took (gives.Message m)) → is_sequenced m ≡ true
handed_counted limits wire sound c h is m e = processes_counted c (in_frames wire c h) (fed_counted limits wire sound c h is) m e
