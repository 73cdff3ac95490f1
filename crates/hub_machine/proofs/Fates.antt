-- What becomes of a notice at one connection is what was answered there.
use Rattle.std.proofs.Common.{◌≡◌, ◌≤◌, ℕ, suc, max, Bool, true, false, not, List, [], ◌∷◌, Option, Some, None, if◌then◌else◌}
use Rattle.std.proofs.Common.{inl, inr, true≢false, refl, sym, ap, subst, ◌∙◌, arith}
use Rattle.std.proofs.lemmas.Bool.{leb-true}
use Rattle.std.specs.Prelude.{nat_le}
use Rattle.hv_value.specs.Tree as tree
use Rattle.hv_value.specs.Tree.{Tree, Trees, Pairs, trees, depth, depths, depths_of_pairs}
use Rattle.hv_value.specs.Image.{image, images, trees_image, pairs_image}
use Rattle.hm_message.specs.declared.message.Codec.{Codec}
use Rattle.hm_message.specs.declared.message.Codec.TheVariants.{Json, Pack}
use Rattle.hm_message.specs.declared.message.Message.{Message}
use Rattle.hm_message.specs.declared.message.Message.TheVariants.{Invocation}
use Rattle.hm_message.specs.Message.{Fits, content_depth}
use Rattle.hd_delivery.specs.Histories.{EndEvent, Config, is_shaken}
use Rattle.hd_delivery.specs.Worlds.{Limits, Sizes, HasRoom, MaySend}
use Rattle.hd_delivery.specs.Sending as sending
use Rattle.hd_delivery.specs.Sending.{SendRefusal, IsRefusedToSend}
use Rattle.hd_delivery.specs.Bytes.{sizes_of}
use Rattle.he_end.specs.declared.errors.SendError.{SendError}
use Rattle.he_end.specs.declared.errors.SendError.TheVariants as send
use Rattle.hd_calls.specs.Numbers.{most_depth}
use Rattle.hd_calls.specs.Hubs.{Invoked, Way, Notify, message_of, message_in}
use Rattle.hd_calls.specs.Peers.{PeerEvent, Settings, codec, is_shut, steps}
use Rattle.hp_peer.specs.Calling.{IsNotice, heard}
use Rattle.hd_server.specs.Machine.{DeliveryOutcome, Got, TooSlow, PassedOver, notice, fate_of}
use Rattle.hd_server.specs.Laws.{IsRightFate, FatesAreRefusals}
use Rattle.hub_machine.specs.Delivers.{IsSent, IsUnsent}

-- ---- a message has one fate

-- a message that may be sent isn't refused
never_both : (limits : Limits) (sizes : Sizes) (c : Config) (k : List EndEvent) (m : Message) (why : SendRefusal)
    → MaySend limits sizes c k m → IsRefusedToSend limits sizes c k m why → ⊥
never_both limits sizes c k m sending.Opening may r = true≢false (sym may.shakes ∙ r.0)
never_both limits sizes c k m sending.Closed may r = true≢false (sym r ∙ may.unclosed)
never_both limits sizes c k m (sending.TooLong size) may r = omega (arith, may.can_be.short, r.2, r.3)
never_both limits sizes c k m (sending.Full held bytes size) may r = r.4 (subst (λ s. HasRoom limits sizes c k s) (sym r.3) may.room)
never_both limits sizes c k m sending.Exhausted may r = omega (arith, may.few, r.2)

-- the end of a peer that was begun so refuses it
abbrev pub Refuses : Settings → List PeerEvent → Message → SendRefusal → Type 0
Refuses t h m why = IsRefusedToSend t.limits (sizes_of t.wire) t.config (steps t h) m why

-- the fate of a message that is refused so
abbrev pub fate_for : SendRefusal → DeliveryOutcome
fate_for sending.Opening = PassedOver
fate_for sending.Closed = PassedOver
fate_for (sending.TooLong size) = PassedOver
fate_for (sending.Full held bytes size) = TooSlow
fate_for sending.Exhausted = PassedOver

-- what is refused for want of room is refused for nothing else
full_alone : (t : Settings) (h : List PeerEvent) (m : Message) (held bytes size : ℕ) (why : SendRefusal)
    → Refuses t h m (sending.Full held bytes size) → Refuses t h m why → fate_for why ≡ TooSlow
full_alone t h m held bytes size sending.Opening full r = absurd (true≢false (sym full.0.shakes ∙ r.0))
full_alone t h m held bytes size sending.Closed full r = absurd (true≢false (sym r ∙ full.0.unclosed))
full_alone t h m held bytes size (sending.TooLong long) full r = absurd (omega (arith, full.0.short, r.2, r.3))
full_alone t h m held bytes size (sending.Full k b s) full r = refl
full_alone t h m held bytes size sending.Exhausted full r =
    absurd (full.4 (subst (λ s. HasRoom t.limits (sizes_of t.wire) t.config (steps t h) s) (sym full.3) r.1))

-- so a refusal whose fate is to be passed over isn't one for want of room
never_full : (t : Settings) (h : List PeerEvent) (m : Message) (held bytes size : ℕ) (why : SendRefusal)
    → Refuses t h m (sending.Full held bytes size) → Refuses t h m why → fate_for why ≡ PassedOver → ⊥
never_full t h m held bytes size why full r e = let same : PassedOver ≡ TooSlow = sym e ∙ full_alone t h m held bytes size why full r in cc

-- a message that may be sent is got
got : (t : Settings) (h : List PeerEvent) (m : Message) (f : DeliveryOutcome) → Fits m → IsRightFate t h m f
    → MaySend t.limits (sizes_of t.wire) t.config (steps t h) m → f ≡ Got
got t h m Got fits right may = refl
got t h m TooSlow fits right may = absurd (never_both _ _ _ _ _ (sending.Full right.0 right.1 right.2) may right.3)
got t h m PassedOver fits (inl deep) may = absurd (deep fits)
got t h m PassedOver fits (inr (inl r)) may = absurd (never_both _ _ _ _ _ sending.Opening may r)
got t h m PassedOver fits (inr (inr (inl r))) may = absurd (never_both _ _ _ _ _ (sending.TooLong r.0) may r.1)
got t h m PassedOver fits (inr (inr (inr r))) may = absurd (never_both _ _ _ _ _ sending.Exhausted may r)

-- one that is passed over, and is refused, has the fate of its refusal
passed_or_full : (t : Settings) (h : List PeerEvent) (m : Message) (why : SendRefusal) → Fits m → IsRightFate t h m PassedOver → Refuses t h m why
    → PassedOver ≡ fate_for why
passed_or_full t h m sending.Opening fits right r = refl
passed_or_full t h m sending.Closed fits right r = refl
passed_or_full t h m (sending.TooLong size) fits right r = refl
passed_or_full t h m (sending.Full held bytes size) fits (inl deep) r = absurd (deep fits)
passed_or_full t h m (sending.Full held bytes size) fits (inr (inl o)) r = absurd (never_full t h m held bytes size sending.Opening r o refl)
passed_or_full t h m (sending.Full held bytes size) fits (inr (inr (inl o))) r = absurd (never_full t h m held bytes size (sending.TooLong o.0) r o.1 refl)
passed_or_full t h m (sending.Full held bytes size) fits (inr (inr (inr o))) r = absurd (never_full t h m held bytes size sending.Exhausted r o refl)
passed_or_full t h m sending.Exhausted fits right r = refl

-- and so has any that is refused
as_refused : (t : Settings) (h : List PeerEvent) (m : Message) (why : SendRefusal) (f : DeliveryOutcome) → Fits m → IsRightFate t h m f → Refuses t h m why
    → f ≡ fate_for why
as_refused t h m why Got fits right r = absurd (never_both _ _ _ _ _ why right r)
as_refused t h m why TooSlow fits right r = sym (full_alone t h m right.0 right.1 right.2 why right.3 r)
as_refused t h m why PassedOver fits right r = passed_or_full t h m why fits right r

-- ---- a notice as it is read is as deep as it is

mutual
  depth-image : (t : Tree) → depth (image t) ≡ depth t
  depth-image tree.null = refl
  depth-image (tree.boolean b) = refl
  depth-image (tree.int z) = refl
  depth-image (tree.text s) = refl
  depth-image (tree.bytes s) = refl
  depth-image (tree.list ts) = ap suc (depths-image ts)
  depth-image (tree.map ps) = ap suc (depths-pairs_image ps)

  depths-image : (ts : Trees) → depths (trees_image ts) ≡ depths ts
  depths-image tree.no_trees = refl
  depths-image (tree.more t ts) = λ i. max (depth-image t i) (depths-image ts i)

  depths-pairs_image : (ps : Pairs) → depths_of_pairs (pairs_image ps) ≡ depths_of_pairs ps
  depths-pairs_image tree.no_pairs = refl
  depths-pairs_image (tree.pair k t ps) = λ i. max (depth-image t i) (depths-pairs_image ps i)

depths-images : (ts : List Tree) → depths (trees (images ts)) ≡ depths (trees ts)
depths-images [] = refl
depths-images (t ∷ ts) = λ i. max (depth-image t i) (depths-images ts i)

-- what is said to each of them
abbrev pub said : List ℕ → List Tree → Message
said target arguments = Invocation [] None target arguments []

as_deep : (k : Codec) (target : List ℕ) (arguments : List Tree)
    → content_depth (message_of (notice k target arguments)) ≡ content_depth (said target arguments)
as_deep Json target arguments = ap suc (depths-images arguments)
as_deep Pack target arguments = refl

-- so what is read fits if what is said does
read_fits : (k : Codec) (target : List ℕ) (arguments : List Tree) → Fits (said target arguments) → Fits (message_of (notice k target arguments))
read_fits k target arguments fits = subst (λ n. n ≤ 63) (sym (as_deep k target arguments)) fits

-- and the other way round
said_fits : (k : Codec) (target : List ℕ) (arguments : List Tree) → Fits (message_of (notice k target arguments)) → Fits (said target arguments)
said_fits k target arguments fits = subst (λ n. n ≤ 63) (as_deep k target arguments) fits

-- ---- which call it is

-- the call that it is
abbrev pub notifying : List ℕ → List Tree → Invoked
notifying target arguments = record { way = Notify; target = target; arguments = arguments; streams = [] }

-- what is said is a notice of that call
pub is_notice : (target : List ℕ) (arguments : List Tree) → IsNotice (said target arguments) (notifying target arguments)
is_notice target arguments = record { way = refl; bare = refl; is = refl }

-- it is no other
pub is_call : (target : List ℕ) (arguments : List Tree) (call : Invoked) → IsNotice (said target arguments) call → call ≡ notifying target arguments
is_call target arguments call n = by call.way call.target call.arguments call.streams n.way n.bare n.is where
  by : (way : Way) (name : List ℕ) (args : List Tree) (streams : List (List ℕ)) → way ≡ Notify → streams ≡ []
      → said target arguments ≡ message_in way (record { way = way; target = name; arguments = args; streams = streams })
      → record { way = way; target = name; arguments = args; streams = streams } ≡ notifying target arguments
  by way name args streams e f m =
      let same : said target arguments ≡ Invocation [] None name args [] =
      m ∙ (λ i. message_in (e i) (record { way = way; target = name; arguments = args; streams = f i })) in
      let same_target : target ≡ name = cc in
      let same_arguments : arguments ≡ args = cc in
      λ i. record { way = e i; target = sym same_target i; arguments = sym same_arguments i; streams = f i }

-- ---- the fate by what was answered

-- by the answer of an end to which it was sent, None if it wasn't
abbrev pub fate_by : Option (Option SendError) → DeliveryOutcome
fate_by None = PassedOver
fate_by (Some None) = Got
fate_by (Some (Some (send.Full held bytes size))) = TooSlow
fate_by (Some (Some why)) = PassedOver

-- a notice as the other end reads it
abbrev pub read_as : Settings → List PeerEvent → List ℕ → List Tree → Message
read_as t h target arguments = message_of (notice (codec t h) target arguments)

-- a test between equals decides nothing
same_either : {A : Type 0} (b : Bool) (x : A) → (if b then x else x) ≡ x
same_either true x = refl
same_either false x = refl

-- before the handshake it is passed over
unshaken : (t : Settings) (h : List PeerEvent) (m : Message) → is_shaken (steps t h) ≡ false → fate_of t h m ≡ PassedOver
unshaken t h m e = rw e (same_either (not (nat_le (content_depth m) most_depth)) PassedOver)

-- what doesn't fit is passed over
pub unfit : (t : Settings) (h : List PeerEvent) (target : List ℕ) (arguments : List Tree) → (Fits (said target arguments) → ⊥)
    → fate_of t h (read_as t h target arguments) ≡ PassedOver
unfit t h target arguments deep = by (nat_le (content_depth (read_as t h target arguments)) most_depth) refl where
  by : (b : Bool) → nat_le (content_depth (read_as t h target arguments)) most_depth ≡ b → fate_of t h (read_as t h target arguments) ≡ PassedOver
  by true e = absurd (deep (said_fits (codec t h) target arguments (leb-true _ _ e)))
  by false e = rw e refl

-- at an open end, where what is said fits
module _ (law : FatesAreRefusals) (t : Settings) (h : List PeerEvent) (target : List ℕ) (arguments : List Tree)
    (fits : Fits (said target arguments)) (up : is_shut t h ≡ false) where
  abbrev here : DeliveryOutcome
  here = fate_of t h (read_as t h target arguments)

  right_here : IsRightFate t h (read_as t h target arguments) here
  right_here = law t h target arguments up

  fits_here : Fits (read_as t h target arguments)
  fits_here = read_fits (codec t h) target arguments fits

  -- what was sent is got
  pub sent_got : (after : List PeerEvent) → IsSent t (said target arguments) h after → here ≡ Got
  sent_got after s = got t h _ here fits_here right_here
      (subst (λ call. MaySend t.limits (sizes_of t.wire) t.config (steps t h) (message_of (heard t h call))) (is_call target arguments s.call s.notice) s.may)

  -- what was refused has the fate of its refusal
  pub unsent_by : (why : SendError) → IsUnsent t (said target arguments) h why → (why ≡ send.NoMemory → ⊥) → here ≡ fate_by (Some (Some why))
  unsent_by send.Opening u n = as_refused t h _ sending.Opening here fits_here right_here (u _ (is_notice target arguments))
  unsent_by send.Closed u n = as_refused t h _ sending.Closed here fits_here right_here (u _ (is_notice target arguments))
  unsent_by (send.TooLong size) u n = as_refused t h _ (sending.TooLong size) here fits_here right_here (u _ (is_notice target arguments))
  unsent_by (send.Full held bytes size) u n =
      as_refused t h _ (sending.Full held bytes size) here fits_here right_here (u _ (is_notice target arguments))
  unsent_by send.Exhausted u n = as_refused t h _ sending.Exhausted here fits_here right_here (u _ (is_notice target arguments))
  unsent_by send.NoMemory u n = absurd (n refl)

-- so is a notice before the handshake
pub unasked_passed : (t : Settings) (h : List PeerEvent) (target : List ℕ) (arguments : List Tree) → is_shaken (steps t h) ≡ false
    → fate_of t h (read_as t h target arguments) ≡ PassedOver
unasked_passed t h target arguments e = unshaken t h (read_as t h target arguments) e
