-- The small way to write frames is faithful to what is sent in a worked world.
use Rattle.std.proofs.Common.{◌≡◌, ℕ, zero, suc, ◌<◌, Bool, true, false, List, [], ◌∷◌, ◌++◌, length, length-append, Option, Some, None, refl, ap, subst, arith}
use Rattle.std.specs.Prelude.{reverse, Contains}
use Rattle.hm_message.specs.declared.message.Codec.TheVariants.{Json}
use Rattle.hm_message.specs.declared.message.Message.{Message}
use Rattle.hd_delivery.specs.declared.vocabulary.Reason.{Reason}
use Rattle.hd_delivery.specs.declared.vocabulary.Reason.TheVariants.{Done, Protocol, InUse, TooMany, Flood, Slow, Expired}
use Rattle.hd_delivery.specs.declared.vocabulary.Side.TheVariants.{Client, Server}
use Rattle.hd_delivery.specs.Frames.{LinkFrame, Request, Response, Numbered, Ack, Sequence, Ping, Close, error_of}
use Rattle.hd_delivery.specs.Bytes.{Reading, Waits, Reads, IsRead, IsFaithful}
use Rattle.hd_delivery.specs.Examples.{usual}
use Rattle.hd_delivery.specs.ExamplesOverBytes.{flag_number, error_number, four_of, read_four, error_numbered, first_of_four}
use Rattle.hd_calls.specs.PeerWorlds.{all_sent}
use Rattle.hd_calls.specs.Examples.{number_of, message_at, spell_numbered, read_numbered, numbered, pair, three_calls}

module _ (says : ℕ → ℕ → ℕ → ℕ → Reading) where
  waits_for_four : (kind x y z : ℕ) (front rest : List ℕ) → front ++ rest ≡ four_of kind x y z → 0 < length rest → read_four says front ≡ Waits
  waits_for_four kind x y z [] rest e h = refl
  waits_for_four kind x y z (p ∷ []) rest e h = refl
  waits_for_four kind x y z (p ∷ q ∷ []) rest e h = refl
  waits_for_four kind x y z (p ∷ q ∷ r ∷ []) rest e h = refl
  waits_for_four kind x y z (p ∷ q ∷ r ∷ s ∷ front) [] e h = absurd (omega arith)
  waits_for_four kind x y z (p ∷ q ∷ r ∷ s ∷ front) (t ∷ rest) e h = absurd (let z = ap length e in let w = length-append front (t ∷ rest) in omega arith)

  is_read : (kind x y z : ℕ) (f : LinkFrame) → says kind x y z ≡ Reads f 4 → IsRead (read_four says) (four_of kind x y z) f
  is_read kind x y z f e = record { nonempty = omega arith; whole = λ rest. e; waits = waits_for_four kind x y z }

number_is : (reason : Reason) → error_numbered (error_number (error_of reason)) ≡ error_of reason
number_is Done = refl
number_is Protocol = refl
number_is InUse = refl
number_is TooMany = refl
number_is Flood = refl
number_is Slow = refl
number_is Expired = refl

closes : (reason : Reason) (allow : Bool) → read_numbered 7 (error_number (error_of reason)) (flag_number allow) 0 ≡ Reads (Close (error_of reason) allow) 4
closes reason true = ap (λ e. Reads (Close e true) 4) (number_is reason)
closes reason false = ap (λ e. Reads (Close e false) 4) (number_is reason)

sequences : (first : ℕ) (received : Option ℕ) → IsRead (read_four read_numbered) (spell_numbered (Sequence first received)) (Sequence first received)
sequences first None = is_read read_numbered 5 first 0 0 (Sequence first None) refl
sequences first (Some n) = is_read read_numbered 5 first 1 n (Sequence first (Some n)) refl

-- each of these messages is the one of its number
abbrev pub AreNumbered : List Message → Type 0
AreNumbered [] = Unit {0}
AreNumbered (m ∷ ms) = (message_at (number_of m) ≡ m) × AreNumbered ms

numbered_of : (ms : List Message) → AreNumbered ms → (m : Message) → Contains ms m → message_at (number_of m) ≡ m
numbered_of [] p m (k, h, e) = absurd (omega arith)
numbered_of (x ∷ ms) p m (zero, h, e) = subst (λ y. message_at (number_of y) ≡ y) e p.0
numbered_of (x ∷ ms) p m (suc k, h, e) = numbered_of ms p.1 m (k, omega (arith, h), e)

all_numbered : AreNumbered (all_sent (pair Json 1 false) (reverse (three_calls Json)))
all_numbered = (refl, (refl, (refl, (refl, (refl, (refl, (refl, (refl, (refl, (refl, (refl, (refl, tt))))))))))))

pub three_calls_is_faithful : IsFaithful usual numbered Json 1 (all_sent (pair Json 1 false) (reverse (three_calls Json)))
three_calls_is_faithful = record {
  request = is_read (first_of_four Server) 1 1 0 0 (Request Json 1) refl;
  response = is_read (first_of_four Client) 2 0 0 0 Response refl;
  message = λ m e c. is_read read_numbered 3 (number_of m) 0 0 (Numbered m) (ap (λ x. Reads (Numbered x) 4) (numbered_of (all_sent (pair Json 1 false) (reverse (three_calls Json))) all_numbered m e));
  ack = λ upto h. is_read read_numbered 4 upto 0 0 (Ack upto) refl;
  sequence = λ first received h k. sequences first received;
  ping = is_read read_numbered 6 0 0 0 Ping refl;
  close = λ reason allow. is_read read_numbered 7 (error_number (error_of reason)) (flag_number allow) 0 (Close (error_of reason) allow) (closes reason allow);
}
