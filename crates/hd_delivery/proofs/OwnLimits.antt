-- The two ends of a world have their own limits, with one greatest frame.
use Rattle.std.proofs.Common.{◌≡◌, ◌≤◌, List, [], ◌∷◌, subst}
use Rattle.hm_message.specs.declared.message.Codec.{Codec}
use Rattle.hm_message.specs.declared.message.Message.{Message}
use Rattle.hd_delivery.specs.declared.vocabulary.Side.{Side}
use Rattle.hd_delivery.specs.declared.vocabulary.Side.TheVariants.{Client, Server}
use Rattle.hd_delivery.specs.Worlds.{Limits, Sizes, CanBeSent, Terms, Event, ByClient, ByServer}
use Rattle.hd_delivery.specs.Bytes.{Wire, ByteStep, IsWorldOverBytes}

pub one_frame : (limits : Side → Limits) (wire : Wire) (t : Terms) (w : List (Event ByteStep)) → IsWorldOverBytes limits wire t w
    → (limits Client).frame ≡ (limits Server).frame
one_frame limits wire t [] i = i
one_frame limits wire t (ByClient s ∷ w) i = one_frame limits wire t w i.0
one_frame limits wire t (ByServer s ∷ w) i = one_frame limits wire t w i.0

-- which messages can be sent is a matter of the greatest frame alone
pub can_be_sent_too : (a b : Limits) (sizes : Sizes) (codec : Codec) (m : Message) → a.frame ≡ b.frame → CanBeSent a sizes codec m → CanBeSent b sizes codec m
can_be_sent_too a b sizes codec m same can = record {
  sequenced = can.sequenced;
  fits = can.fits;
  as_read = can.as_read;
  short = subst (λ n. sizes.frame codec m ≤ n) same can.short;
}
