-- The control frames in MessagePack, as bytes.
use Rattle.std.proofs.Common.{◌≡◌, ◌<◌, ◌+◌, ◌-◌, ℕ, set, Bool, List, [], ◌∷◌, ◌++◌, length, refl, sym, ◌∙◌, ap, subst, arith, append_assoc, Option, Some, None, ltb}
use Rattle.std.specs.Prelude.{pos, IfSome}
use Rattle.std.proofs.lemmas.Bool.{lt-ltb, cond-true}
use Rattle.std.proofs.lemmas.List.{append-nil}
use Rattle.hf_split.specs.VarInts.{shortest_in}
use Rattle.hf_split.specs.VarInts as var_int
use Rattle.hm_message.specs.declared.message.Message.TheVariants as message
use Rattle.hm_message.specs.declared.message.Codec.TheVariants.{Pack}
use Rattle.hm_codec.specs.Frames.{framed}
use Rattle.hm_message.specs.declared.message.Message.{Message}
use Rattle.hm_pack.specs.Frame.{frame_of, text_written}
use Rattle.hv_pack.specs.Writing.{list_head, int_text, text_head, bool_text, shortest}
use Rattle.hd_delivery.specs.declared.vocabulary.Reason.{Reason}
use Rattle.hd_delivery.specs.declared.vocabulary.Reason.TheVariants.{Done, Protocol, InUse, TooMany, Flood, Slow, Expired}
use Rattle.hd_delivery.specs.Frames.{error_of}

-- ---- the error of a Close

small_head : (n : ℕ) → n < 32 → text_head n ≡ (160 + n) ∷ []
unfolding text_head
small_head n small = cond-true (ltb n 32) _ _ (lt-ltb n 32 small)

-- an error is a text whose length has no bytes of its own
short : (reason : Reason) → IfSome (error_of reason) (λ s. length s < 32)
short Done = tt
short Protocol = omega arith
short InUse = omega arith
short TooMany = omega arith
short Flood = omega arith
short Slow = omega arith
short Expired = omega arith

pub error_is : (reason : Reason) (s : List ℕ) → Some s ≡ error_of reason → shortest (text_written (error_of reason)) ≡ (160 + length s) ∷ s
error_is reason s same =
    let small : length s < 32 = subst (λ (o : Option (List ℕ)). IfSome o (λ s. length s < 32)) (sym same) (short reason) in
    ap (λ (o : Option (List ℕ)). shortest (text_written o)) (sym same) ∙ ap (λ (head : List ℕ). head ++ s) (small_head (length s) small)

-- ---- the frames

pub ack_is : (n : ℕ) → frame_of (message.Ack n) ≡ 146 ∷ 8 ∷ int_text (pos n)
unfolding list_head int_text
ack_is n = ap (λ (xs : List ℕ). 146 ∷ 8 ∷ xs) (append-nil (int_text (pos n)))

pub sequence_is : (n : ℕ) → frame_of (message.Sequence n None) ≡ 146 ∷ 9 ∷ int_text (pos n)
unfolding list_head int_text
sequence_is n = ap (λ (xs : List ℕ). 146 ∷ 9 ∷ xs) (append-nil (int_text (pos n)))

pub resumed_is : (n r : ℕ) → frame_of (message.Sequence n (Some r)) ≡ 147 ∷ 9 ∷ (int_text (pos n) ++ int_text (pos r))
unfolding list_head int_text
resumed_is n r = ap (λ (xs : List ℕ). 147 ∷ 9 ∷ (int_text (pos n) ++ xs)) (append-nil (int_text (pos r)))

pub ping_is : frame_of message.Ping ≡ 145 ∷ 6 ∷ []
unfolding list_head int_text
ping_is = refl

pub close_is : (error : Option (List ℕ)) (allow : Bool) → frame_of (message.Close error allow) ≡ 147 ∷ 7 ∷ (shortest (text_written error) ++ bool_text allow)
unfolding list_head int_text
close_is error allow = ap (λ (xs : List ℕ). 147 ∷ 7 ∷ (shortest (text_written error) ++ xs)) (append-nil (bool_text allow))

-- ---- what was appended

pub two : (a b c x y : List ℕ) → b ≡ a ++ x → c ≡ b ++ y → c ≡ a ++ (x ++ y)
two a b c x y one last = last ∙ ap (λ (zs : List ℕ). zs ++ y) one ∙ append_assoc a x y

pub three : (a b c d x y z : List ℕ) → b ≡ a ++ x → c ≡ b ++ y → d ≡ c ++ z → d ≡ a ++ (x ++ (y ++ z))
three a b c d x y z one there last = two a c d (x ++ y) z (two a b c x y one there) last ∙ ap (λ (zs : List ℕ). a ++ zs) (append_assoc x y z)

-- ---- the length of a frame

one_byte : (n : ℕ) → n < 128 → var_int.shortest n ≡ n ∷ []
unfolding var_int.shortest
one_byte n small = cond-true (ltb n 128) _ _ (lt-ltb n 128 small)

framed_is : (m : Message) → length (frame_of m) < 128 → framed Pack m ≡ length (frame_of m) ∷ frame_of m
framed_is m small = ap (λ (head : List ℕ). head ++ frame_of m) (one_byte (length (frame_of m)) small)

-- the length is written into the place that was left for it
pub patched : (m : Message) (none start items : List ℕ) (count : ℕ) → none ≡ [] → start ≡ none ++ 0 ∷ [] → items ≡ start ++ frame_of m
    → count ≡ length items → length items < 128 → set items 0 (count - 1) ≡ framed Pack m
patched m none start items count empty place put counted small =
    let is : items ≡ 0 ∷ frame_of m = put ∙ ap (λ (xs : List ℕ). xs ++ frame_of m) (place ∙ ap (λ (xs : List ℕ). xs ++ 0 ∷ []) empty) in
    let size : count - 1 ≡ length (frame_of m) = omega (arith, counted, ap length is) in
    ap (λ (xs : List ℕ). set xs 0 (count - 1)) is ∙ ap (λ (k : ℕ). k ∷ frame_of m) size
    ∙ sym (framed_is m (omega (arith, small, ap length is)))
