-- Lists that grow by one, and what is kept beside them.
use Rattle.std.proofs.Common.{inl, inr, ⊎_elim, ◌≡◌, ◌⊎◌, ◌≤◌, ◌<◌, ℕ, zero, suc, ◌+◌, List, [], ◌∷◌, ◌++◌, length, take, map, flat_map, sum_by, slice_get, Option, Some, None, refl, sym, ap, ap₂, ◌∙◌, subst, arith, length-append, append-nil, take_all}
use Rattle.std.proofs.lemmas.List.{map-append, length-map}
use Rattle.std.proofs.lemmas.List.Concat.{flat_map-append, length-flat_map}
use Rattle.std.proofs.lemmas.List.Elements.{Contains-push_cases}
use Rattle.std.proofs.lemmas.List.Sums.{sum_by_push}
use Rattle.std.proofs.lemmas.Option.{slice_get_within}
use Rattle.hm_message.specs.declared.message.Codec.{Codec}
use Rattle.hm_message.specs.declared.message.Message.{Message}
use Rattle.hm_codec.specs.Frames.{IsSaid}
use Rattle.hd_delivery.specs.Numbers.{most_messages}
use Rattle.hd_delivery.specs.Frames.{LinkFrame}
use Rattle.hd_delivery.specs.Histories.{Config}
use Rattle.hd_trace.specs.declared.owed.Owed.{Owed}
use Rattle.hd_trace.specs.declared.owed.Owed.TheVariants as owed
use Rattle.hd_trace.specs.Owed.{owed_frame}
use Rattle.ha_audit.specs.declared.auditor.said.SaidFrame.{SaidFrame}
use Rattle.ha_audit.specs.declared.auditor.said.SaidOnLink.{SaidOnLink}
use Rattle.ha_audit.specs.declared.auditor.sent.SentMessage.{SentMessage}
use Rattle.ha_audit.specs.AuditState.{framed_size, AreSent, sum_in, sum_of_first, bytes_of, frames_of, frame_said, frames_size, IsSaidOn, end_in, size_of_first}

-- ---- places

-- what stands in a list that grew by one
pub grown : {A : Type 0} (xs : List A) (y z : A) (n : ℕ) → slice_get (xs ++ y ∷ []) n ≡ Some z → (slice_get xs n ≡ Some z) ⊎ ((n ≡ length xs) × (y ≡ z))
grown [] y z zero e = inr (refl, (let f : Some y ≡ Some z = e in cc))
grown [] y z (suc n) e = absurd (cc)
grown (x ∷ xs) y z zero e = inl e
grown (x ∷ xs) y z (suc n) e = ⊎_elim (λ h. inl h) (λ h. inr ((let p = h.0 in omega arith), h.1)) (grown xs y z n e)

-- what stood there stands there still
pub still_there : {A : Type 0} (xs ys : List A) (n : ℕ) (z : A) → slice_get xs n ≡ Some z → slice_get (xs ++ ys) n ≡ Some z
still_there [] ys n z e = absurd (cc)
still_there (x ∷ xs) ys zero z e = e
still_there (x ∷ xs) ys (suc n) z e = still_there xs ys n z e

pub take_front : {A : Type 0} (xs ys : List A) (n : ℕ) → n ≤ length xs → take n (xs ++ ys) ≡ take n xs
take_front xs ys zero low = refl
take_front [] ys (suc n) low = absurd (omega arith)
take_front (x ∷ xs) ys (suc n) low = ap (λ t. x ∷ t) (take_front xs ys n (omega arith))

-- something stands at each place of a list
pub some_at : {A : Type 0} (xs : List A) (n : ℕ) → n < length xs → (x : A) × (slice_get xs n ≡ Some x)
some_at [] n low = absurd (omega arith)
some_at (x ∷ xs) zero low = (x, refl)
some_at (x ∷ xs) (suc n) low = some_at xs n (omega arith)

-- the sum up to a place of a list that grew by one
sum_grown : {A : Type 0} (f : A → ℕ) (xs : List A) (y : A) (n : ℕ) → n < length xs → sum_by f (take (suc n) (xs ++ y ∷ [])) ≡ sum_by f (take (suc n) xs)
sum_grown f xs y n low = ap (sum_by f) (take_front xs (y ∷ []) (suc n) (omega arith))

sum_last : {A : Type 0} (f : A → ℕ) (xs : List A) (y : A) (n : ℕ) → n ≡ length xs → sum_by f (take (suc n) (xs ++ y ∷ [])) ≡ sum_by f xs + f y
sum_last f xs y n all = ap (sum_by f) (take_all (suc n) (xs ++ y ∷ []) (omega (arith, length-append xs (y ∷ [])))) ∙ sum_by_push f xs y

-- ---- messages

module _ (codec : Codec) (sent : List SentMessage) (messages : List Message) (are : AreSent codec sent messages) where
  pub as_many : length sent ≡ length messages
  as_many = sym (length-map sent (λ s. s.message)) ∙ ap length are.messages_are

  -- the sizes of the first so many
  pub sum_is : (n : ℕ) → n ≤ length messages → sum_of_first sent n ≡ sum_by (framed_size codec) (take n messages)
  sum_is zero low = refl
  sum_is (suc n) low = let s = some_at sent n (omega (arith, as_many)) in ap sum_in s.1 ∙ are.sums n s.0 s.1

  pub sum_of_all : sum_of_first sent (length sent) ≡ sum_by (framed_size codec) messages
  sum_of_all = sum_is (length sent) (omega (arith, as_many)) ∙ ap (sum_by (framed_size codec)) (take_all (length sent) messages (omega (arith, as_many)))

  -- one message more
  pub sent_more : (s : SentMessage) (m : Message) → s.message ≡ m → s.sum ≡ sum_of_first sent (length sent) + framed_size codec m → IsSaid codec m
      → AreSent codec (sent ++ s ∷ []) (messages ++ m ∷ [])
  sent_more s m is sum said = record {
    messages_are = map-append (λ s. s.message) sent (s ∷ []) ∙ ap₂ (λ xs x. xs ++ x ∷ []) are.messages_are is;
    sums = λ n z at. ⊎_elim
        (λ h. are.sums n z h ∙ sym (sum_grown (framed_size codec) messages m n (let low = slice_get_within sent n z h in omega (arith, as_many))))
        (λ h. ap (λ s. s.sum) (sym h.1) ∙ (sum ∙ (ap (λ k. k + framed_size codec m) sum_of_all ∙ sym (sum_last (framed_size codec) messages m n (h.0 ∙ as_many)))))
        (grown sent s z n at);
    are_said = λ x at. ⊎_elim (are.are_said x) (λ same. subst (IsSaid codec) same said) (Contains-push_cases messages m x at);
  }

-- none yet
pub sent_none : (codec : Codec) (sent : List SentMessage) → sent ≡ [] → AreSent codec sent []
sent_none codec sent e = subst (λ s. AreSent codec s []) (sym e) (record { messages_are = refl; sums = λ n s at. absurd (cc); are_said = λ m at. absurd (let low = at.1 in omega arith) })

-- ---- frames

-- a frame stays the same where more messages are sent
owed_still : (c : Config) (o p : Option Message) (owed : Owed) (f : LinkFrame) → ((m : Message) → o ≡ Some m → p ≡ Some m) → owed_frame c o (Some owed) ≡ Some f → owed_frame c p (Some owed) ≡ Some f
owed_still c o p owed.Request f h e = e
owed_still c o p owed.Response f h e = e
owed_still c o p (owed.Sequence first received) f h e = e
owed_still c o p (owed.Ack upto) f h e = e
owed_still c None p owed.Message f h e = absurd (cc)
owed_still c (Some m) p owed.Message f h e = rw (h m refl) e
owed_still c o p owed.Ping f h e = e
owed_still c o p (owed.Close farewell) f h e = e

frame_still : (c : Config) (messages more : List Message) (s : SaidFrame) (f : LinkFrame) → frame_said c messages s ≡ Some f → frame_said c (messages ++ more) s ≡ Some f
frame_still c messages more s f e =
    owed_still c (slice_get messages s.place) (slice_get (messages ++ more) s.place) s.owed f (λ m at. still_there messages more s.place m at) e

frames_still : (c : Config) (messages more : List Message) (xs : List SaidFrame) (fs : List LinkFrame) → map (frame_said c messages) xs ≡ map Some fs → map (frame_said c (messages ++ more)) xs ≡ map Some fs
frames_still c messages more [] [] e = refl
frames_still c messages more [] (f ∷ fs) e = absurd (cc)
frames_still c messages more (s ∷ xs) [] e = absurd (cc)
frames_still c messages more (s ∷ xs) (f ∷ fs) e =
    let all : frame_said c messages s ∷ map (frame_said c messages) xs ≡ Some f ∷ map Some fs = e in
    let head : frame_said c messages s ≡ Some f = cc in
    let tail : map (frame_said c messages) xs ≡ map Some fs = cc in
    ap₂ (λ x ys. x ∷ ys) (frame_still c messages more s f head) (frames_still c messages more xs fs tail)

-- the frame of a place
pub frame_there : (c : Config) (messages : List Message) (xs : List SaidFrame) (fs : List LinkFrame) → map (frame_said c messages) xs ≡ map Some fs
    → (n : ℕ) (s : SaidFrame) → slice_get xs n ≡ Some s → (f : LinkFrame) × ((slice_get fs n ≡ Some f) × (frame_said c messages s ≡ Some f))
frame_there c messages [] fs e n s at = absurd (cc)
frame_there c messages (x ∷ xs) [] e n s at = absurd (cc)
frame_there c messages (x ∷ xs) (f ∷ fs) e zero s at =
    let all : frame_said c messages x ∷ map (frame_said c messages) xs ≡ Some f ∷ map Some fs = e in
    let head : frame_said c messages x ≡ Some f = cc in
    let same : x ≡ s = (let z : Some x ≡ Some s = at in cc) in
    (f, (refl, subst (λ s. frame_said c messages s ≡ Some f) same head))
frame_there c messages (x ∷ xs) (f ∷ fs) e (suc n) s at =
    let all : frame_said c messages x ∷ map (frame_said c messages) xs ≡ Some f ∷ map Some fs = e in
    let tail : map (frame_said c messages) xs ≡ map Some fs = cc in
    frame_there c messages xs fs tail n s at

module _ (spell : LinkFrame → List ℕ) (c : Config) (messages : List Message) (said : Option SaidOnLink) (fs : List LinkFrame) (is : IsSaidOn spell c messages said fs) where
  pub as_many_frames : length (frames_of said) ≡ length fs
  as_many_frames = sym (length-map (frames_of said) (frame_said c messages)) ∙ (ap length is.frames_are ∙ length-map fs Some)

  pub as_many_bytes : length (bytes_of said) ≡ frames_size spell fs
  as_many_bytes = ap length is.bytes_are ∙ length-flat_map spell fs

  -- how many bytes the first so many frames have
  pub size_is : (n : ℕ) → n ≤ length fs → size_of_first (frames_of said) n ≡ frames_size spell (take n fs)
  size_is zero low = refl
  size_is (suc n) low = let s = some_at (frames_of said) n (omega (arith, as_many_frames)) in ap end_in s.1 ∙ is.ends n s.0 s.1

  -- one message more was sent
  pub message_more : (m : Message) → IsSaidOn spell c (messages ++ m ∷ []) said fs
  message_more m = record {
    frames_are = frames_still c messages (m ∷ []) (frames_of said) fs is.frames_are;
    ends = is.ends;
    bytes_are = is.bytes_are;
    few = is.few;
  }

  -- one frame more was said
  pub frame_more : (new : Option SaidOnLink) (s : SaidFrame) (f : LinkFrame) (bytes : List ℕ) → frame_said c messages s ≡ Some f → spell f ≡ bytes
      → s.end ≡ length (bytes_of said) + length bytes → bytes_of new ≡ bytes_of said ++ bytes → frames_of new ≡ frames_of said ++ s ∷ [] → length (frames_of said) < most_messages
      → IsSaidOn spell c messages new (fs ++ f ∷ [])
  frame_more new s f bytes frame spelled end all frames few = record {
    frames_are = ap (map (frame_said c messages)) frames
        ∙ (map-append (frame_said c messages) (frames_of said) (s ∷ [])
        ∙ (ap₂ (λ xs x. xs ++ x ∷ []) is.frames_are frame ∙ sym (map-append Some fs (f ∷ []))));
    ends = λ n z at. ⊎_elim
        (λ h. is.ends n z h ∙ sym (sum_grown (λ f. length (spell f)) fs f n (let low = slice_get_within (frames_of said) n z h in omega (arith, as_many_frames))))
        (λ h. ap (λ s. s.end) (sym h.1) ∙ (end ∙ (ap₂ (λ a b. a + b) as_many_bytes (ap length (sym spelled))
        ∙ sym (sum_last (λ f. length (spell f)) fs f n (h.0 ∙ as_many_frames)))))
        (grown (frames_of said) s z n (subst (λ xs. slice_get xs n ≡ Some z) frames at));
    bytes_are = all ∙ (ap₂ (λ a b. a ++ b) is.bytes_are (sym spelled) ∙ (ap (λ b. flat_map spell fs ++ b) (sym (append-nil (spell f))) ∙ sym (flat_map-append spell fs (f ∷ []))));
    few = subst (λ xs. length xs ≤ most_messages) (sym frames) (let n = few in omega (arith, length-append (frames_of said) (s ∷ [])));
  }

-- nothing was said yet
pub said_none : (spell : LinkFrame → List ℕ) (c : Config) (messages : List Message) (said : Option SaidOnLink) → bytes_of said ≡ [] → frames_of said ≡ [] → IsSaidOn spell c messages said []
said_none spell c messages said bytes frames = record {
  frames_are = ap (map (frame_said c messages)) frames;
  ends = λ n s at. absurd (let z : slice_get [] n ≡ Some s = subst (λ xs. slice_get xs n ≡ Some s) frames at in cc);
  bytes_are = bytes;
  few = subst (λ xs. length xs ≤ most_messages) (sym frames) (omega arith);
}
