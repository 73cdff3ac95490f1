-- Some actions have one run.
use Rattle.std.proofs.Common.{inl, inr, ◌≡◌, ◌⊎◌, suc, ◌<◌, ◌≤◌, List, [], ◌∷◌, ◌++◌, length, Some, None, refl, sym, ap, ap₂, ◌∙◌, subst, arith}
use Rattle.std.proofs.lemmas.Bool.{both_ways, cases_order}
use Rattle.hm_message.specs.declared.message.Message.{Message}
use Rattle.hm_codec.specs.Frames.{said_again}
use Rattle.hd_delivery.specs.Histories as of
use Rattle.hd_delivery.specs.Histories.{EndEvent, present_link, codec_of, is_shaken, is_closed}
use Rattle.hd_delivery.specs.Sending as refusal
use Rattle.hd_delivery.specs.Sending.{SendRefusal, IsRefusedToSend}
use Rattle.hd_delivery.specs.Worlds.{Limits, Sizes, HasRoom, MaySend, Terms, config}
use Rattle.hd_delivery.specs.Bytes.{Wire, sizes_of, ByteStep}
use Rattle.sr_script.specs.declared.action.Action.{Action}
use Rattle.sr_script.specs.declared.action.Action.TheVariants.{Open, Accept, Lose, Write, Read, Close, Send, Tick}
use Rattle.sr_script.specs.declared.action.Count.{Count}
use Rattle.sr_script.specs.declared.action.Count.TheVariants.{UpTo, Everything}
use Rattle.sr_replay.specs.Runs.{Run, Doing, Refuses, Sending, to_be_read, made_by, world_of, Acts, Runs}
use Rattle.sr_lines.specs.Lines.{refusal_words}
use Rattle.hd_delivery.specs.Following.{Next, Follow, FollowAll, FollowUpTo}
use Rattle.hd_delivery.specs.Alone.{writing, reading}
use Rattle.hd_delivery.specs.Sides.{by, history, frames_at}
use Rattle.sr_script.specs.Script.{most_of}

-- ---- steps that follow from one another

-- as many of them are the same ones
same_length : (next : Next ByteStep) (h ss ts : List ByteStep) → Follow next h ss → Follow next h ts → length ss ≡ length ts → ss ≡ ts
same_length next h [] [] f g e = refl
same_length next h [] (t ∷ ts) f g e = absurd (omega arith)
same_length next h (s ∷ ss) [] f g e = absurd (omega arith)
same_length next h (s ∷ ss) (t ∷ ts) f g e =
    let same = same_length next h ss ts f.0 g.0 (omega arith) in
    let next_one : Some s ≡ Some t = sym f.1 ∙ (ap (λ us. next (us ++ h)) same ∙ g.1) in
    let one : s ≡ t = cc in
    ap₂ (λ x xs. x ∷ xs) one same

-- none follow once all did
none_longer : (next : Next ByteStep) (h ss ts : List ByteStep) → FollowAll next h ss → Follow next h ts → length ts ≤ length ss
none_longer next h ss [] f g = omega arith
none_longer next h ss (t ∷ ts) f g = go (none_longer next h ss ts f g.0) (cases_order (length ts) (length ss))
  where
    go : length ts ≤ length ss → (length ts ≡ length ss) ⊎ ((length ts < length ss) ⊎ (length ss < length ts)) → suc (length ts) ≤ length ss
    go l (inl e) =
        let same = same_length next h ts ss g.0 f.0 e in
        let none : Some t ≡ None = sym g.1 ∙ (ap (λ us. next (us ++ h)) same ∙ f.1) in
        absurd (cc)
    go l (inr (inl less)) = omega arith
    go l (inr (inr more)) = absurd (omega arith)

pub all_same : (next : Next ByteStep) (h ss ts : List ByteStep) → FollowAll next h ss → FollowAll next h ts → ss ≡ ts
all_same next h ss ts f g = same_length next h ss ts f.0 g.0 (omega (arith, none_longer next h ss ts f g.0, none_longer next h ts ss g f.0))

pub up_to_same : (count : Count) (next : Next ByteStep) (h ss ts : List ByteStep) → FollowUpTo (most_of count) next h ss → FollowUpTo (most_of count) next h ts → ss ≡ ts
up_to_same Everything next h ss ts f g = all_same next h ss ts f g
up_to_same (UpTo n) next h ss ts (inl a) (inl b) = same_length next h ss ts a.0 b.0 (a.1 ∙ sym b.1)
up_to_same (UpTo n) next h ss ts (inl a) (inr b) = same_length next h ss ts a.0 b.0.0 (omega (arith, none_longer next h ts ss b.0 a.0, a.1, b.1))
up_to_same (UpTo n) next h ss ts (inr a) (inl b) = same_length next h ss ts a.0.0 b.0 (omega (arith, none_longer next h ss ts a.0 b.0, a.1, b.1))
up_to_same (UpTo n) next h ss ts (inr a) (inr b) = all_same next h ss ts a.0 b.0

-- ---- what is sent

module _ (limits : Limits) (sizes : Sizes) (c : of.Config) (k : List EndEvent) (m : Message) where
  -- a message that may be sent is not refused
  not_refused : (why : SendRefusal) → MaySend limits sizes c k m → IsRefusedToSend limits sizes c k m why → ⊥
  not_refused refusal.Opening a r = both_ways (is_shaken k) r.0 a.shakes
  not_refused refusal.Closed a r = both_ways (is_closed c k) a.unclosed r
  not_refused (refusal.TooLong size) a r = omega (arith, r.2, r.3, a.can_be.short)
  not_refused (refusal.Full held bytes size) a r = r.4 (subst (λ n. HasRoom limits sizes c k n) (sym r.3) a.room)
  not_refused refusal.Exhausted a r = omega (arith, r.2, a.few)

  -- and for one reason
  one_refusal : (x y : SendRefusal) → IsRefusedToSend limits sizes c k m x → IsRefusedToSend limits sizes c k m y → x ≡ y
  one_refusal refusal.Opening refusal.Opening p q = refl
  one_refusal refusal.Opening refusal.Closed p q = absurd (both_ways (is_closed c k) p.1 q)
  one_refusal refusal.Opening (refusal.TooLong size) p q = absurd (both_ways (is_shaken k) p.0 q.1)
  one_refusal refusal.Opening (refusal.Full held bytes size) p q = absurd (both_ways (is_shaken k) p.0 q.0.shakes)
  one_refusal refusal.Opening refusal.Exhausted p q = absurd (both_ways (is_shaken k) p.0 q.0.shakes)
  one_refusal refusal.Closed refusal.Opening p q = absurd (both_ways (is_closed c k) q.1 p)
  one_refusal refusal.Closed refusal.Closed p q = refl
  one_refusal refusal.Closed (refusal.TooLong size) p q = absurd (both_ways (is_closed c k) q.0 p)
  one_refusal refusal.Closed (refusal.Full held bytes size) p q = absurd (both_ways (is_closed c k) q.0.unclosed p)
  one_refusal refusal.Closed refusal.Exhausted p q = absurd (both_ways (is_closed c k) q.0.unclosed p)
  one_refusal (refusal.TooLong n) refusal.Opening p q = absurd (both_ways (is_shaken k) q.0 p.1)
  one_refusal (refusal.TooLong n) refusal.Closed p q = absurd (both_ways (is_closed c k) p.0 q)
  one_refusal (refusal.TooLong n) (refusal.TooLong size) p q = ap refusal.TooLong (p.2 ∙ sym q.2)
  one_refusal (refusal.TooLong n) (refusal.Full held bytes size) p q = absurd (omega (arith, p.2, p.3, q.0.short))
  one_refusal (refusal.TooLong n) refusal.Exhausted p q = absurd (omega (arith, p.2, p.3, q.0.short))
  one_refusal (refusal.Full a b n) refusal.Opening p q = absurd (both_ways (is_shaken k) q.0 p.0.shakes)
  one_refusal (refusal.Full a b n) refusal.Closed p q = absurd (both_ways (is_closed c k) p.0.unclosed q)
  one_refusal (refusal.Full a b n) (refusal.TooLong size) p q = absurd (omega (arith, q.2, q.3, p.0.short))
  one_refusal (refusal.Full a b n) (refusal.Full held bytes size) p q =
      ap₂ (λ x y. refusal.Full x y n) (p.1 ∙ sym q.1) (p.2 ∙ sym q.2) ∙ ap (refusal.Full held bytes) (p.3 ∙ sym q.3)
  one_refusal (refusal.Full a b n) refusal.Exhausted p q = absurd (p.4 (subst (λ n. HasRoom limits sizes c k n) (sym p.3) q.1))
  one_refusal refusal.Exhausted refusal.Opening p q = absurd (both_ways (is_shaken k) q.0 p.0.shakes)
  one_refusal refusal.Exhausted refusal.Closed p q = absurd (both_ways (is_closed c k) p.0.unclosed q)
  one_refusal refusal.Exhausted (refusal.TooLong size) p q = absurd (omega (arith, q.2, q.3, p.0.short))
  one_refusal refusal.Exhausted (refusal.Full held bytes size) p q = absurd (q.4 (subst (λ n. HasRoom limits sizes c k n) (sym q.3) p.1))
  one_refusal refusal.Exhausted refusal.Exhausted p q = refl

pub sending_once : (limits : Limits) (wire : Wire) (c : of.Config) (k : List EndEvent) (m : Message) (d e : Doing)
    → Sending limits wire c k m d → Sending limits wire c k m e → d ≡ e
sending_once limits wire c k m d e (inl a) (inl b) = a.1 ∙ sym b.1
sending_once limits wire c k m d e (inl a) (inr b) = absurd (not_refused limits (sizes_of wire) c k (said_again (codec_of c k) m) b.0 a.0 b.1.0)
sending_once limits wire c k m d e (inr a) (inl b) = absurd (not_refused limits (sizes_of wire) c k (said_again (codec_of c k) m) a.0 b.0 a.1.0)
sending_once limits wire c k m d e (inr a) (inr b) =
    a.1.1 ∙ (ap (λ why. Refuses (refusal_words why)) (one_refusal limits (sizes_of wire) c k (said_again (codec_of c k) m) a.0 b.0 a.1.0 b.1.0) ∙ sym b.1.1)

-- ---- actions

acts_once : (limits : Limits) (wire : Wire) (t : Terms) (before : List Action) (r : Run) (a : Action) (m n : Run)
    → Acts limits wire t before r a m → Acts limits wire t before r a n → m ≡ n
acts_once limits wire t before r Open m n e f = e ∙ sym f
acts_once limits wire t before r (Accept link) m n e f = e ∙ sym f
acts_once limits wire t before r (Lose side) m n e f = e ∙ sym f
acts_once limits wire t before r (Write side count) m n e f =
    e.1.1 ∙ (ap (made_by side) (up_to_same count (writing wire (config side t)) (history side (world_of r)) e.0 f.0 e.1.0 f.1.0) ∙ sym f.1.1)
acts_once limits wire t before r (Read side count) m n e f =
    e.1.1 ∙ (ap (made_by side) (all_same (reading limits wire (config side t) (to_be_read wire t (world_of r) side count (present_link (frames_at wire t (world_of r) side))))
    (history side (world_of r)) e.0 f.0 e.1.0 f.1.0) ∙ sym f.1.1)
acts_once limits wire t before r (Close side) m n e f = e ∙ sym f
acts_once limits wire t before r (Send side message) m n e f =
    e.1.1 ∙ (ap (λ d. by side d ∷ []) (sending_once limits wire (config side t) (frames_at wire t (world_of r) side) message e.0 f.0 e.1.0 f.1.0) ∙ sym f.1.1)
acts_once limits wire t before r (Tick now) m n e f = e ∙ sym f
acts_once limits wire t before r _ m n e f = absurd e

pub runs_once : (limits : Limits) (wire : Wire) (t : Terms) (actions : List Action) (r q : Run) → Runs limits wire t actions r → Runs limits wire t actions q → r ≡ q
runs_once limits wire t [] r q e f = e ∙ sym f
runs_once limits wire t (a ∷ before) r q e f =
    let same = runs_once limits wire t before e.0 f.0 e.2.0 f.2.0 in
    let new = acts_once limits wire t before e.0 a e.1 f.1 e.2.1 (subst (λ m. Acts limits wire t before m a f.1) (sym same) f.2.1) in
    e.2.2 ∙ (ap₂ (λ x y. x ++ y) new same ∙ sym f.2.2)
