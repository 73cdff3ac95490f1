-- Which links an end may begin, by numbers.
use Rattle.std.proofs.Common.{⊎_elim, ◌≡◌, ◌≤◌, ◌<◌, ℕ, Bool, true, false, List, [], ◌∷◌, Option, Some, None, refl, sym, ap, ◌∙◌, arith}
use Rattle.std.specs.Prelude.{◌==◌, ◌||◌}
use Rattle.std.proofs.lemmas.Bool.{or_cases, eqb-true, eq-eqb}
use Rattle.hd_delivery.specs.declared.vocabulary.Side.TheVariants.{Client, Server}
use Rattle.hd_delivery.specs.Histories.{EndEvent, Attached, was_on}
use Rattle.hd_delivery.specs.Worlds.{Event, ByClient, ByServer, alike, client_of}
use Rattle.hd_delivery.specs.Bytes.{ByteStep, Bytes, Does, IsWorldOverBytes}
use Rattle.hd_trace.specs.Traces.{Setup}
use Rattle.hd_trace.specs.Alone.{frames_alone, MayNameAlone}
use Rattle.hd_trace.specs.Laws.{AreNamedAlone, AloneAgrees}
use Rattle.hd_trace.specs.ByNumbers.{last_link, IsAbove, AttachesByNumbers, AttachesAloneByNumbers}

-- ---- names

-- the name is at most that of this link
abbrev pub IsWithin : Option ℕ → ℕ → Type 0
IsWithin None l = ⊥
IsWithin (Some last) l = l ≤ last

either_true : (b : Bool) → (true || b) ≡ true
either_true b = refl

other_true : (a b : Bool) → b ≡ true → (a || b) ≡ true
other_true true b e = refl
other_true false b e = e

last_was : (k : List EndEvent) (last : ℕ) → last_link k ≡ Some last → was_on last k ≡ true
last_was [] last e = absurd (let z : ◌≡◌ {A = Option ℕ} None (Some last) = e in cc)
last_was (Attached l now ∷ k) last e = let same : l ≡ last = (let z : Some l ≡ Some last = e in cc) in
    ap (λ b. b || was_on last k) (eq-eqb last l (sym same)) ∙ either_true (was_on last k)
last_was (_ ∷ k) last e = last_was k last e

-- where a client's names rise, the last one is the greatest
within_last : (x : Setup) (h : List ByteStep) → AreNamedAlone x Client h → (m : ℕ) → was_on m (frames_alone x Client h) ≡ true → IsWithin (last_link (frames_alone x Client h)) m
within_last x [] n m e = absurd (let z : false ≡ true = e in cc)
within_last x (Bytes piece ∷ h) n m e = within_last x h n.0 m e
within_last x (Does (Attached l now) ∷ h) n m e = ⊎_elim
    (λ same. let z = eqb-true m l same in omega arith)
    (λ before. let z = n.1 m before in omega arith)
    (or_cases (m == l) (was_on m (frames_alone x Client h)) e)
within_last x (Does s ∷ h) n m e = within_last x h n.0 m e

above_last : (k : List EndEvent) (l : ℕ) → MayNameAlone Client l k → IsAbove (last_link k) l
above_last k l named = go (last_link k) refl
  where
    go : (o : Option ℕ) → last_link k ≡ o → IsAbove o l
    go None e = tt
    go (Some last) e = named last (last_was k last e)

above_all : (k : List EndEvent) (l : ℕ) → ((m : ℕ) → was_on m k ≡ true → IsWithin (last_link k) m) → IsAbove (last_link k) l → MayNameAlone Client l k
above_all k l within above m e = go (last_link k) (within m e) above
  where
    go : (o : Option ℕ) → IsWithin o m → IsAbove o l → m < l
    go None i a = absurd i
    go (Some last) i a = omega arith

unused : (k : List EndEvent) (l : ℕ) → MayNameAlone Client l k → was_on l k ≡ false
unused k l named = go (was_on l k) refl
  where
    go : (b : Bool) → was_on l k ≡ b → b ≡ false
    go true e = absurd (let z = named l e in omega arith)
    go false e = refl

-- ---- one end alone

pub alone_by_numbers : AttachesAloneByNumbers
alone_by_numbers x Client h l now n = (
  λ m. (record { unclosed = m.0.unclosed; granted = m.0.granted; in_time = m.0.in_time }, above_last (frames_alone x Client h) l m.1),
  λ m. let named = above_all (frames_alone x Client h) l (within_last x h n) m.1 in
      (record { unclosed = m.0.unclosed; granted = m.0.granted; unused = unused (frames_alone x Client h) l named; in_time = m.0.in_time }, named),
)
alone_by_numbers x Server h l now n = (
  λ m. (record { unclosed = m.0.unclosed; granted = m.0.granted; in_time = m.0.in_time }, m.0.unused),
  λ m. (record { unclosed = m.0.unclosed; granted = m.0.granted; unused = m.1; in_time = m.0.in_time }, tt),
)

-- ---- beside another end

named_beside : AloneAgrees → (x : Setup) (w : List (Event ByteStep)) → IsWorldOverBytes (alike x.limits) x.wire x.terms w → AreNamedAlone x Client (client_of w)
named_beside agrees x [] i = tt
named_beside agrees x (ByClient s ∷ w) i = (named_beside agrees x w i.0, ((agrees x Client w).fewer s i.1).1)
named_beside agrees x (ByServer s ∷ w) i = named_beside agrees x w i.0

pub by_numbers : AloneAgrees → AttachesAloneByNumbers → AttachesByNumbers
by_numbers agrees alone x Client w l now i =
    let as_alone = alone x Client (client_of w) l now (named_beside agrees x w i) in (
      λ m. as_alone.0 ((agrees x Client w).fewer (Does (Attached l now)) m),
      λ m. (agrees x Client w).same (Does (Attached l now)) tt (as_alone.1 m),
    )
by_numbers agrees alone x Server w l now i = (
  λ m. (record { unclosed = m.unclosed; granted = m.granted; in_time = m.in_time }, (m.named, m.unused)),
  λ m. record { own = record { unclosed = m.0.unclosed; granted = m.0.granted; unused = m.1.1; in_time = m.0.in_time }; named = m.1.0 },
)
