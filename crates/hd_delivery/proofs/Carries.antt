-- What a link carries.
use Rattle.std.proofs.Common.{◌≡◌, ℕ, zero, suc, ◌<◌, ◌≤◌, Bool, true, false, List, [], ◌∷◌, ◌++◌, length, take, Option, Some, None, refl, sym, ap, ◌∙◌, subst, arith}
use Rattle.std.specs.Prelude.{slice_get, fold, max, ◌==◌, ◌&&◌}
use Rattle.hm_message.specs.declared.message.Message.{Message}
use Rattle.hm_message.specs.declared.message.Codec.{Codec}
use Rattle.hd_delivery.specs.declared.vocabulary.Reason.{Reason}
use Rattle.hd_delivery.specs.declared.vocabulary.Side.{Side}
use Rattle.hd_delivery.specs.declared.vocabulary.Side.TheVariants.{Client, Server}
use Rattle.hd_delivery.specs.Frames.{LinkFrame, Request, Response, Refusal, Numbered, Ack, Sequence, Ping, Close, Foreign, Strange, Unreadable, error_of, one_more, count, number, received_of, told_count, most_told}
use Rattle.hd_delivery.specs.Histories.{EndEvent, first_link, sent_messages, processed_messages, most_lent, can_keep}
use Rattle.hd_delivery.specs.Due.{answer}
use Rattle.hd_facts.specs.Prefixes.{IsPrefix}
use Rattle.hd_delivery.specs.Worlds.{Terms, IsSound}
use Rattle.hd_delivery.proofs.Lists.{fold-append, get_front}

-- what is known of the end that writes, and how much the two have processed
pub record Facts : Type 0 where
  pub side : Side
  pub codec : Codec
  pub version : ℕ
  pub keeps : Bool
  pub first : Option ℕ
  pub sent : List Message
  pub most : ℕ
  pub writer : ℕ
  pub reader : ℕ

-- the connection is kept, once the handshake is complete
abbrev pub uses : Terms → Bool
uses terms = terms.reconnect && can_keep terms.version

abbrev pub facts : Side → Terms → List EndEvent → List EndEvent → Facts
facts side terms x y = record { side = side; codec = terms.codec; version = terms.version; keeps = uses terms; first = first_link x; sent = sent_messages x; most = most_lent x; writer = length (processed_messages x); reader = length (processed_messages y) }

abbrev pub HasNumber : Option ℕ → Type 0
HasNumber n = (k : ℕ) × (n ≡ Some k)

-- the frame may stand on the link where the next message has this number
abbrev pub MayStand : Facts → ℕ → Option ℕ → LinkFrame → Type 0
MayStand F l n (Request k v) = (F.side ≡ Client) × (n ≡ None) × (F.first ≡ Some l) × (v ≡ F.version) × (k ≡ F.codec)
MayStand F l n Response = (F.side ≡ Server) × (n ≡ None) × (F.first ≡ Some l)
MayStand F l n (Numbered m) = HasNumber n × ((F.version == 3) ≡ false → (k : ℕ) × (n ≡ Some (suc k)) × (slice_get F.sent k ≡ Some m) × (suc k ≤ F.most))
MayStand F l n (Ack a) = HasNumber n × (F.keeps ≡ true) × (a ≤ F.writer)
MayStand F l n (Sequence s received) = (k : ℕ) × (s ≡ suc k) × (k ≤ F.reader) × (F.keeps ≡ true) × (n ≡ None → F.first ≡ Some l → ⊥) × (received_of received ≤ F.writer) × ((F.version == 3) ≡ false → received ≡ None)
MayStand F l n Ping = HasNumber n
MayStand F l n (Close error allow) = HasNumber n × ((reason : Reason) × (error ≡ error_of reason))
MayStand F l n (Refusal text) = ⊥
MayStand F l n (Foreign k) = ⊥
MayStand F l n (Strange why answer) = ⊥
MayStand F l n (Unreadable at why) = ⊥

abbrev pub MayCarry : Facts → ℕ → Option ℕ → List LinkFrame → Type 0
MayCarry F l n [] = Unit {0}
MayCarry F l n (t ∷ ts) = MayStand F l n t × MayCarry F l (count n t) ts

pub MayCarry-at : (F : Facts) (l : ℕ) (n : Option ℕ) (ts : List LinkFrame) (k : ℕ) (t : LinkFrame) → MayCarry F l n ts → slice_get ts k ≡ Some t → MayStand F l (fold count n (take k ts)) t
MayCarry-at F l n [] k t g e = absurd (cc)
MayCarry-at F l n (u ∷ ts) zero t g e = let e' : u ≡ t = cc in subst (λ x. MayStand F l n x) e' g.0
MayCarry-at F l n (u ∷ ts) (suc k) t g e = MayCarry-at F l (count n u) ts k t g.1 e

pub MayCarry-push : (F : Facts) (l : ℕ) (n : Option ℕ) (ts : List LinkFrame) (t : LinkFrame) → MayCarry F l n ts → MayStand F l (fold count n ts) t → MayCarry F l n (ts ++ t ∷ [])
MayCarry-push F l n [] t g o = (o, tt)
MayCarry-push F l n (u ∷ ts) t g o = (g.0, MayCarry-push F l (count n u) ts t g.1 o)

pub MayCarry-front : (F : Facts) (l : ℕ) (n : Option ℕ) (ts us : List LinkFrame) → MayCarry F l n (ts ++ us) → MayCarry F l n ts
MayCarry-front F l n [] us g = tt
MayCarry-front F l n (u ∷ ts) us g = (g.0, MayCarry-front F l (count n u) ts us g.1)

pub MayCarry-prefix : (F : Facts) (l : ℕ) (ts us : List LinkFrame) → IsPrefix ts us → MayCarry F l None us → MayCarry F l None ts
MayCarry-prefix F l ts us p g = MayCarry-front F l None ts p.0 (subst (λ x. MayCarry F l None x) (sym p.1) g)

pub MayStand-count : (F : Facts) (l : ℕ) (n : Option ℕ) (t : LinkFrame) → MayStand F l n t → HasNumber (count n t)
MayStand-count F l n (Request k v) o = (1, refl)
MayStand-count F l n Response o = (1, refl)
MayStand-count F l n (Numbered m) o = (suc o.0.0, ap one_more o.0.1)
MayStand-count F l n (Ack a) o = o.0
MayStand-count F l n (Sequence s received) o = (s, refl)
MayStand-count F l n Ping o = o
MayStand-count F l n (Close error allow) o = o.0
MayStand-count F l n (Refusal text) o = absurd o
MayStand-count F l n (Foreign k) o = absurd o
MayStand-count F l n (Strange why answer) o = absurd o
MayStand-count F l n (Unreadable at why) o = absurd o

MayCarry-numbered : (F : Facts) (l : ℕ) (n : Option ℕ) (ts : List LinkFrame) → HasNumber n → MayCarry F l n ts → HasNumber (fold count n ts)
MayCarry-numbered F l n [] m g = m
MayCarry-numbered F l n (t ∷ ts) m g = MayCarry-numbered F l (count n t) ts (MayStand-count F l n t g.0) g.1

-- where anything was said, the next message has a number
pub MayCarry-some : (F : Facts) (l : ℕ) (t : LinkFrame) (ts : List LinkFrame) → MayCarry F l None (t ∷ ts) → HasNumber (number (t ∷ ts))
MayCarry-some F l t ts g = MayCarry-numbered F l (count None t) ts (MayStand-count F l None t g.0) g.1

pub MayCarry-any : (F : Facts) (l : ℕ) (ts : List LinkFrame) → MayCarry F l None ts → 0 < length ts → HasNumber (number ts)
MayCarry-any F l [] g h = absurd (omega arith)
MayCarry-any F l (t ∷ ts) g h = MayCarry-some F l t ts g

-- what is known may grow
pub record Grows (F G : Facts) : Type 0 where
  pub side : F.side ≡ G.side
  pub codec : F.codec ≡ G.codec
  pub version : F.version ≡ G.version
  pub keeps : F.keeps ≡ G.keeps
  pub first : F.first ≡ G.first
  pub sent : IsPrefix F.sent G.sent
  pub most : F.most ≤ G.most
  pub writer : F.writer ≤ G.writer
  pub reader : F.reader ≤ G.reader

MayStand-more : (F G : Facts) (l : ℕ) (n : Option ℕ) (t : LinkFrame) → Grows F G → MayStand F l n t → MayStand G l n t
MayStand-more F G l n (Request k v) r o = (sym r.side ∙ o.0, o.1, sym r.first ∙ o.2, o.3 ∙ r.version, o.4 ∙ r.codec)
MayStand-more F G l n Response r o = (sym r.side ∙ o.0, o.1, sym r.first ∙ o.2)
MayStand-more F G l n (Numbered m) r o = (
  o.0,
  λ e.
      let p = o.1 (ap (λ w. w == 3) r.version ∙ e) in
      (p.0, p.1, subst (λ xs. slice_get xs p.0 ≡ Some m) r.sent.1 (get_front F.sent r.sent.0 p.0 m p.2), omega (arith, r.most, p.3)),
)
MayStand-more F G l n (Ack a) r o = (o.0, sym r.keeps ∙ o.1, omega (arith, r.writer, o.2))
MayStand-more F G l n (Sequence s received) r o = (o.0, o.1, omega (arith, r.reader, o.2), sym r.keeps ∙ o.3, λ e f. o.4 e (r.first ∙ f), omega (arith, r.writer, o.5), λ e. o.6 (ap (λ w. w == 3) r.version ∙ e))
MayStand-more F G l n Ping r o = o
MayStand-more F G l n (Close error allow) r o = o
MayStand-more F G l n (Refusal text) r o = absurd o
MayStand-more F G l n (Foreign k) r o = absurd o
MayStand-more F G l n (Strange why answer) r o = absurd o
MayStand-more F G l n (Unreadable at why) r o = absurd o

pub MayCarry-more : (F G : Facts) (l : ℕ) (n : Option ℕ) (ts : List LinkFrame) → Grows F G → MayCarry F l n ts → MayCarry G l n ts
MayCarry-more F G l n [] r g = tt
MayCarry-more F G l n (t ∷ ts) r g = (MayStand-more F G l n t r g.0, MayCarry-more F G l (count n t) ts r g.1)

pub number-push : (ts : List LinkFrame) (t : LinkFrame) → number (ts ++ t ∷ []) ≡ count (number ts) t
number-push ts t = fold-append count None ts (t ∷ [])

pub most_told-push : (ts : List LinkFrame) (t : LinkFrame) → most_told (ts ++ t ∷ []) ≡ max (most_told ts) (told_count t)
most_told-push [] t = omega arith
most_told-push (u ∷ ts) t = let e = most_told-push ts t in omega arith

pub most_told_at : (ts : List LinkFrame) (k : ℕ) (t : LinkFrame) → slice_get ts k ≡ Some t → told_count t ≤ most_told ts
most_told_at [] k t e = absurd (cc)
most_told_at (u ∷ ts) zero t e = let f : u ≡ t = cc in let g = ap told_count f in omega arith
most_told_at (u ∷ ts) (suc k) t e = let h = most_told_at ts k t e in omega arith

MayStand-told : (F : Facts) (l : ℕ) (n : Option ℕ) (t : LinkFrame) → MayStand F l n t → told_count t ≤ F.writer
MayStand-told F l n (Ack a) o = o.2
MayStand-told F l n (Sequence s received) o = o.5
MayStand-told F l n t o = omega arith

-- no frame tells more than its writer has processed
pub MayCarry-told : (F : Facts) (l : ℕ) (n : Option ℕ) (ts : List LinkFrame) → MayCarry F l n ts → most_told ts ≤ F.writer
MayCarry-told F l n [] g = omega arith
MayCarry-told F l n (t ∷ ts) g = let h = MayCarry-told F l (count n t) ts g.1 in let k = MayStand-told F l n t g.0 in omega arith

-- what the frames tell is sound
pub MayCarry-sound : (F : Facts) (l : ℕ) (n : Option ℕ) (ts : List LinkFrame) → MayCarry F l n ts → IsSound F.writer F.reader ts
MayCarry-sound F l n [] g = tt
MayCarry-sound F l n (Ack a ∷ ts) g = (g.0.2, MayCarry-sound F l n ts g.1)
MayCarry-sound F l n (Sequence s received ∷ ts) g = (omega (arith, g.0.1, g.0.2), g.0.5, MayCarry-sound F l (Some s) ts g.1)
MayCarry-sound F l n (t ∷ ts) g = MayCarry-sound F l (count n t) ts g.1
