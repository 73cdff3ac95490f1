-- The next cut of some bytes is what the reader says after the cuts before it.
use Rattle.std.proofs.Common.{◌≡◌, ℕ, zero, suc, ◌+◌, ◌<◌, ◌≤◌, Bool, true, false, List, [], ◌∷◌, length, take, drop, Option, Some, None, refl, sym, ap, ◌∙◌, arith}
use Rattle.std.specs.Prelude.{slice_get, sum_by, ◌==◌, ◌&&◌, if◌then◌else◌}
use Rattle.std.proofs.lemmas.List.{drop-drop, length-drop}
use Rattle.std.proofs.lemmas.Bool.{ne_eqb}
use Rattle.std.proofs.lemmas.List.Sums.{sum_by-cons}
use Rattle.hm_message.specs.declared.message.Codec.{Codec}
use Rattle.hd_delivery.specs.Frames.{LinkFrame, Unreadable}
use Rattle.hd_delivery.specs.Histories.{Config, as_told}
use Rattle.hd_delivery.specs.Worlds.{Limits}
use Rattle.hd_delivery.specs.Bytes.{Reading, Waits, Reads, Refuses, Stops, Wire, IsSize, IsSoundReader, IsSoundWire, Cut, cut_by, cut_all, codec_after, frames}
use Rattle.hd_delivery.proofs.EndFacts.{AreLegible}

-- how many bytes some cuts take
abbrev pub sizes : List Cut → ℕ
sizes cuts = sum_by (λ x. x.1) cuts

-- what a reader says, as a cut
abbrev pub cut_of : ℕ → Reading → Option Cut
cut_of at Waits = None
cut_of at (Reads f size) = Some (f, size)
cut_of at (Refuses why size) = Some (Unreadable (as_told at) why, size)
cut_of at (Stops why) = Some (Unreadable (as_told at) why, 0)

first_cut : (r : Reading) (at : ℕ) (bytes : List ℕ) (rest : LinkFrame → ℕ → List ℕ → List Cut) → slice_get (cut_by r at bytes rest) 0 ≡ cut_of at r
first_cut Waits at bytes rest = refl
first_cut (Reads f size) at bytes rest = refl
first_cut (Refuses why size) at bytes rest = refl
first_cut (Stops why) at bytes rest = refl

take_nil : (n : ℕ) → ◌≡◌ {A = List Cut} (take n []) []
take_nil zero = refl
take_nil (suc n) = refl

module _ (limits : Limits) (IsKind : LinkFrame → Type 0) (reader : List ℕ → Reading) (sound : IsSoundReader limits IsKind reader) where
  -- the cuts take no more bytes than there are
  by_sizes : (rest : LinkFrame → ℕ → List ℕ → List Cut) (bytes : List ℕ) (n at : ℕ)
      → ((f : LinkFrame) (at size m : ℕ) → IsSize limits bytes size → sizes (take m (rest f at (drop size bytes))) ≤ length (drop size bytes))
      → sizes (take n (cut_by (reader bytes) at bytes rest)) ≤ length bytes
  by_sizes rest bytes zero at within = omega arith
  by_sizes rest bytes (suc n) at within = go (reader bytes) refl
    where
      one_more : (f : LinkFrame) (size : ℕ) → IsSize limits bytes size → sizes ((f, size) ∷ take n (rest f (at + size) (drop size bytes))) ≤ length bytes
      one_more f size i = rw (sum_by-cons (λ (x : Cut). x.1) (f, size) (take n (rest f (at + size) (drop size bytes))))
          (let w = within f (at + size) size n i in let d = length-drop size bytes in let t = i.there in omega arith)

      go : (r : Reading) → reader bytes ≡ r → sizes (take (suc n) (cut_by r at bytes rest)) ≤ length bytes
      go Waits e = omega arith
      go (Reads f size) e = one_more f size (sound.reads bytes f size e).1
      go (Refuses why size) e = one_more (Unreadable (as_told at) why) size (sound.refuses bytes why size e)
      go (Stops why) e = rw (sum_by-cons (λ (x : Cut). x.1) (Unreadable (as_told at) why, 0) (take n [])) (rw (take_nil n) (omega arith))

  all_sizes : (left n at : ℕ) (bytes : List ℕ) → sizes (take n (cut_all reader left at bytes)) ≤ length bytes
  all_sizes zero n at bytes = rw (take_nil n) (omega arith)
  all_sizes (suc left) n at bytes = by_sizes (λ f. cut_all reader left) bytes n at (λ f at size m i. all_sizes left m at (drop size bytes))

  -- the cut after the first n, which could be read, at the place p, where these take q bytes
  next_of_all : (left n at p q : ℕ) (bytes : List ℕ) → length bytes ≤ left → n ≤ length (cut_all reader left at bytes) → AreLegible (frames (take n (cut_all reader left at bytes)))
      → q ≡ sizes (take n (cut_all reader left at bytes)) → p ≡ at + q → slice_get (cut_all reader left at bytes) n ≡ cut_of p (reader (drop q bytes))
  next_of_all zero zero at p q [] enough there legible is place = rw is (rw sound.empty refl)
  next_of_all zero zero at p q (b ∷ bytes) enough there legible is place = absurd (omega arith)
  next_of_all zero (suc n) at p q bytes enough there legible is place = absurd (omega arith)
  next_of_all (suc left) zero at p q bytes enough there legible is place =
      first_cut (reader bytes) at bytes (λ f. cut_all reader left) ∙ (let e : at ≡ p = omega arith in let f : 0 ≡ q = sym is in λ i. cut_of (e i) (reader (drop (f i) bytes)))
  next_of_all (suc left) (suc n) at p q bytes enough there legible is place = go (λ at p q bytes. next_of_all left n at p q bytes) (reader bytes) refl there legible is
    where
      go : ((at p q : ℕ) (bytes : List ℕ) → length bytes ≤ left → n ≤ length (cut_all reader left at bytes) → AreLegible (frames (take n (cut_all reader left at bytes)))
          → q ≡ sizes (take n (cut_all reader left at bytes)) → p ≡ at + q → slice_get (cut_all reader left at bytes) n ≡ cut_of p (reader (drop q bytes)))
          → (r : Reading) → reader bytes ≡ r → suc n ≤ length (cut_by r at bytes (λ f. cut_all reader left)) → AreLegible (frames (take (suc n) (cut_by r at bytes (λ f. cut_all reader left))))
          → q ≡ sizes (take (suc n) (cut_by r at bytes (λ f. cut_all reader left))) → slice_get (cut_by r at bytes (λ f. cut_all reader left)) (suc n) ≡ cut_of p (reader (drop q bytes))
      go again Waits e t l s = absurd (omega arith)
      go again (Reads f size) e t l s =
          let i = (sound.reads bytes f size e).1 in
          let rest = cut_all reader left (at + size) (drop size bytes) in
          let d = length-drop size bytes in
          let some = i.some in
          let sum : q ≡ size + sizes (take n rest) = s ∙ sum_by-cons (λ (x : Cut). x.1) (f, size) (take n rest) in
          again (at + size) p (sizes (take n rest)) (drop size bytes) (omega arith) (omega arith) l.1 refl (omega arith)
          ∙ ap (λ bs. cut_of p (reader bs)) (drop-drop (sizes (take n rest)) size bytes ∙ ap (λ k. drop k bytes) (sym sum))
      go again (Refuses why size) e t l s = absurd l.0
      go again (Stops why) e t l s = absurd l.0

-- on a link, the first one or not
module _ (limits : Limits) (wire : Wire) (c : Config) (sound : IsSoundWire limits wire) where
  -- the cuts of a link, as `cut` has them
  abbrev pub cuts_on : Bool → Codec → List ℕ → List Cut
  cuts_on b codec bytes =
      if b
      then cut_by (wire.first c.side bytes) 0 bytes (λ f at rest. cut_all (wire.later (codec_after c.codec f)) (length rest) at rest)
      else cut_all (wire.later codec) (length bytes) 0 bytes

  -- the reader after the first n of them, as `next_reader` has it
  abbrev pub reader_on : Bool → Codec → ℕ → List ℕ → Reading
  reader_on b codec n bytes = if b && (n == 0) then wire.first c.side bytes else wire.later codec bytes

  -- the cuts after the first one of a first link
  abbrev after : LinkFrame → ℕ → List ℕ → List Cut
  after f at rest = cut_all (wire.later (codec_after c.codec f)) (length rest) at rest

  pub sizes_on : (b : Bool) (codec : Codec) (n : ℕ) (bytes : List ℕ) → sizes (take n (cuts_on b codec bytes)) ≤ length bytes
  sizes_on true codec n bytes = by_sizes limits _ (wire.first c.side) (sound.first c.side) (λ f at rest. cut_all (wire.later (codec_after c.codec f)) (length rest) at rest) bytes n 0
      (λ f at size m i. all_sizes limits _ (wire.later (codec_after c.codec f)) (sound.later (codec_after c.codec f)) (length (drop size bytes)) m at (drop size bytes))
  sizes_on false codec n bytes = all_sizes limits _ (wire.later codec) (sound.later codec) (length bytes) n 0 bytes

  -- the next cut, where those before it could be read and the first of a first link gave the codec
  pub next_on : (b : Bool) (codec : Codec) (n : ℕ) (bytes : List ℕ) → n ≤ length (cuts_on b codec bytes) → AreLegible (frames (take n (cuts_on b codec bytes)))
      → (b ≡ true → 0 < n → (t : LinkFrame) → slice_get (frames (cuts_on b codec bytes)) 0 ≡ Some t → codec ≡ codec_after c.codec t)
      → slice_get (cuts_on b codec bytes) n ≡ cut_of (sizes (take n (cuts_on b codec bytes))) (reader_on b codec n (drop (sizes (take n (cuts_on b codec bytes))) bytes))
  next_on false codec n bytes there legible gave =
      next_of_all limits _ (wire.later codec) (sound.later codec) (length bytes) n 0 (sizes (take n (cuts_on false codec bytes))) (sizes (take n (cuts_on false codec bytes))) bytes (omega arith) there legible refl (omega arith)
  next_on true codec zero bytes there legible gave = first_cut (wire.first c.side bytes) 0 bytes (λ f at rest. cut_all (wire.later (codec_after c.codec f)) (length rest) at rest)
  next_on true codec (suc n) bytes there legible gave =
      go (wire.first c.side bytes) refl there legible (gave refl (omega arith))
      ∙ ap (λ z. cut_of (sizes (take (suc n) (cuts_on true codec bytes))) (if z then wire.first c.side (drop (sizes (take (suc n) (cuts_on true codec bytes))) bytes) else wire.later codec (drop (sizes (take (suc n) (cuts_on true codec bytes))) bytes))) (sym (ne_eqb (suc n) 0 (λ e. absurd (omega arith))))
    where
      go : (r : Reading) → wire.first c.side bytes ≡ r → suc n ≤ length (cut_by r 0 bytes after) → AreLegible (frames (take (suc n) (cut_by r 0 bytes after)))
          → ((t : LinkFrame) → slice_get (frames (cut_by r 0 bytes after)) 0 ≡ Some t → codec ≡ codec_after c.codec t)
          → slice_get (cut_by r 0 bytes after) (suc n) ≡ cut_of (sizes (take (suc n) (cut_by r 0 bytes after))) (wire.later codec (drop (sizes (take (suc n) (cut_by r 0 bytes after))) bytes))
      go Waits e t l g = absurd (omega arith)
      go (Reads f size) e t l g =
          let k = codec_after c.codec f in
          let same : codec ≡ k = g f refl in
          let rest = after f (0 + size) (drop size bytes) in
          let sum : sizes ((f, size) ∷ take n rest) ≡ size + sizes (take n rest) = sum_by-cons (λ (x : Cut). x.1) (f, size) (take n rest) in
          next_of_all limits _ (wire.later k) (sound.later k) (length (drop size bytes)) n (0 + size) (sizes ((f, size) ∷ take n rest)) (sizes (take n rest)) (drop size bytes) (omega arith) (omega arith) l.1 refl (omega arith)
          ∙ (ap (λ bs. cut_of (sizes ((f, size) ∷ take n rest)) (wire.later k bs)) (drop-drop (sizes (take n rest)) size bytes ∙ ap (λ m. drop m bytes) (sym sum))
          ∙ ap (λ j. cut_of (sizes ((f, size) ∷ take n rest)) (wire.later j (drop (sizes ((f, size) ∷ take n rest)) bytes))) (sym same))
      go (Refuses why size) e t l g = absurd l.0
      go (Stops why) e t l g = absurd l.0
