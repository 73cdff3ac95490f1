-- Sound readers cut the same frames off bytes that go on.
use Rattle.std.proofs.Common.{◌≡◌, ℕ, zero, suc, ◌+◌, ◌≤◌, Bool, true, false, List, [], ◌∷◌, ◌++◌, length, drop, refl, sym, ap, ◌∙◌, subst, arith, length-append}
use Rattle.hd_facts.specs.Prefixes.{IsPrefix}
use Rattle.hd_delivery.specs.Frames.{LinkFrame, Unreadable}
use Rattle.hd_delivery.specs.Histories.{Config, EndEvent, is_this, first_link, as_told, codec_of}
use Rattle.hd_delivery.specs.Worlds.{Limits}
use Rattle.hd_delivery.specs.Bytes.{Reading, Waits, Reads, Refuses, Stops, Wire, IsSize, IsSoundReader, IsSoundWire, Cut, cut_by, cut_all, codec_after, cut}

pub drop_within : (bytes more : List ℕ) (n : ℕ) → n ≤ length bytes → drop n (bytes ++ more) ≡ drop n bytes ++ more
drop_within bytes more zero h = refl
drop_within [] more (suc n) h = absurd (omega arith)
drop_within (b ∷ bytes) more (suc n) h = drop_within bytes more n (omega arith)

prefix_step : (x : Cut) (xs ys : List Cut) → IsPrefix xs ys → IsPrefix (x ∷ xs) (x ∷ ys)
prefix_step x xs ys p = (p.0, ap (λ zs. x ∷ zs) p.1)

module _ (limits : Limits) (IsKind : LinkFrame → Type 0) (reader : List ℕ → Reading) (sound : IsSoundReader limits IsKind reader)
    (old new : LinkFrame → ℕ → List ℕ → List Cut) (bytes more : List ℕ)
    (goes_on : (f : LinkFrame) (at size : ℕ) → IsSize limits bytes size → IsPrefix (old f at (drop size bytes)) (new f at (drop size bytes ++ more))) where
  pub cut_by-grows : (at : ℕ) → IsPrefix (cut_by (reader bytes) at bytes old) (cut_by (reader (bytes ++ more)) at (bytes ++ more) new)
  cut_by-grows at = go (reader bytes) refl
    where
      then_same : (r : Reading) → reader bytes ≡ r → (r ≡ Waits → ⊥) → reader (bytes ++ more) ≡ r
      then_same r e n = sound.steady bytes more (λ w. n (sym e ∙ w)) ∙ e

      go_on : (f : LinkFrame) (size : ℕ) → IsSize limits bytes size → IsPrefix ((f, size) ∷ old f (at + size) (drop size bytes)) ((f, size) ∷ new f (at + size) (drop size (bytes ++ more)))
      go_on f size i = subst (λ bs. IsPrefix ((f, size) ∷ old f (at + size) (drop size bytes)) ((f, size) ∷ new f (at + size) bs)) (sym (drop_within bytes more size i.there))
          (prefix_step (f, size) (old f (at + size) (drop size bytes)) (new f (at + size) (drop size bytes ++ more)) (goes_on f (at + size) size i))

      go : (r : Reading) → reader bytes ≡ r → IsPrefix (cut_by r at bytes old) (cut_by (reader (bytes ++ more)) at (bytes ++ more) new)
      go Waits e = (cut_by (reader (bytes ++ more)) at (bytes ++ more) new, refl)
      go (Reads f size) e = rw (then_same (Reads f size) e (λ w. absurd (cc))) (go_on f size (sound.reads bytes f size e).1)
      go (Refuses why size) e = rw (then_same (Refuses why size) e (λ w. absurd (cc))) (go_on (Unreadable (as_told at) why) size (sound.refuses bytes why size e))
      go (Stops why) e = rw (then_same (Stops why) e (λ w. absurd (cc))) ([], refl)

module _ (limits : Limits) (IsKind : LinkFrame → Type 0) (reader : List ℕ → Reading) (sound : IsSoundReader limits IsKind reader) where
  pub cut_all-grows : (n m at : ℕ) (bytes more : List ℕ) → n ≤ m → IsPrefix (cut_all reader n at bytes) (cut_all reader m at (bytes ++ more))
  cut_all-grows zero m at bytes more h = (cut_all reader m at (bytes ++ more), refl)
  cut_all-grows (suc n) zero at bytes more h = absurd (omega arith)
  cut_all-grows (suc n) (suc m) at bytes more h = cut_by-grows limits IsKind reader sound (λ f. cut_all reader n) (λ f. cut_all reader m) bytes more
      (λ f at size i. cut_all-grows n m at (drop size bytes) more (omega arith)) at

pub cuts_grow : (limits : Limits) (wire : Wire) (c : Config) (h : List EndEvent) (l : ℕ) (bytes more : List ℕ) → IsSoundWire limits wire
    → IsPrefix (cut wire c h l bytes) (cut wire c h l (bytes ++ more))
cuts_grow limits wire c h l bytes more sound = go (is_this l (first_link h)) refl
  where
    go : (b : Bool) → is_this l (first_link h) ≡ b → IsPrefix (cut wire c h l bytes) (cut wire c h l (bytes ++ more))
    go true e = rw e (cut_by-grows limits _ (wire.first c.side) (sound.first c.side)
        (λ f at rest. cut_all (wire.later (codec_after c.codec f)) (length rest) at rest) (λ f at rest. cut_all (wire.later (codec_after c.codec f)) (length rest) at rest) bytes more
        (λ f at size i. cut_all-grows limits _ (wire.later (codec_after c.codec f)) (sound.later (codec_after c.codec f)) (length (drop size bytes)) (length (drop size bytes ++ more)) at (drop size bytes) more
        (let e = length-append (drop size bytes) more in omega arith)) 0)
    go false e = rw e (cut_all-grows limits _ (wire.later (codec_of c h)) (sound.later (codec_of c h)) (length bytes) (length (bytes ++ more)) 0 bytes more
        (let e = length-append bytes more in omega arith))
