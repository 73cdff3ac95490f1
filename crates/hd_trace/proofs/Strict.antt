-- Readers that stop at a frame of another size than its spelling has. They are as sound and as faithful as those that they are made of, and where they cut
-- off the same frames each of these has the size of its spelling.
use Rattle.std.proofs.Common.{◌≡◌, ℕ, zero, suc, ◌+◌, Bool, true, false, List, [], ◌∷◌, length, take, drop, refl, sym, ap, ◌∙◌, arith}
use Rattle.std.specs.Prelude.{◌==◌, sum_by, if◌then◌else◌}
use Rattle.std.proofs.lemmas.Bool.{eqb-true, eq-eqb}
use Rattle.std.proofs.lemmas.List.Sums.{sum_by-cons}
use Rattle.hm_message.specs.declared.message.Codec.{Codec}
use Rattle.hm_message.specs.declared.message.Message.{Message}
use Rattle.hd_delivery.specs.declared.vocabulary.Side.{Side}
use Rattle.hd_delivery.specs.declared.vocabulary.Side.TheVariants.{Client, Server}
use Rattle.hd_delivery.specs.Frames.{LinkFrame, Request, Response, Numbered, Ack, Sequence, Ping, Close, Unreadable, error_of}
use Rattle.hd_delivery.specs.Histories.{Config, EndEvent, is_this, first_link, as_told, codec_of}
use Rattle.hd_delivery.specs.Worlds.{Limits}
use Rattle.hd_delivery.specs.Bytes.{Reading, Waits, Reads, Refuses, Stops, Wire, IsRead, IsFaithful, IsFirst, IsLater, IsSoundReader, IsSoundWire, Cut, cut_by, cut_all, codec_after, cut, frames}

-- a test, with what it says
both : {A : Type 0} (P : A → Type 0) (b : Bool) (x y : A) → (b ≡ true → P x) → (b ≡ false → P y) → P (if b then x else y)
both P true x y f g = f refl
both P false x y f g = g refl

module _ (wire : Wire) (codec : Codec) where
  abbrev pub size_of : LinkFrame → ℕ
  size_of f = length (wire.spell codec f)

  abbrev pub strictly : Reading → Reading
  strictly Waits = Waits
  strictly (Reads f size) = if size_of f == size then Reads f size else Stops []
  strictly (Refuses why size) = Stops (0 ∷ why)
  strictly (Stops why) = Stops (0 ∷ why)

  abbrev pub strict : Wire
  strict = record { spell = wire.spell; frame_size = wire.frame_size; first = λ side bytes. strictly (wire.first side bytes); later = λ k bytes. strictly (wire.later k bytes) }

  -- ---- what they are

  waits_back : (r : Reading) → strictly r ≡ Waits → r ≡ Waits
  waits_back Waits e = refl
  waits_back (Reads f size) e = both (λ r. r ≡ Waits → Reads f size ≡ Waits) (size_of f == size) (Reads f size) (Stops []) (λ t e. e) (λ t e. absurd (cc)) e
  waits_back (Refuses why size) e = absurd (let z : Stops (0 ∷ why) ≡ Waits = e in cc)
  waits_back (Stops why) e = absurd (let z : Stops (0 ∷ why) ≡ Waits = e in cc)

  reads_back : (r : Reading) (f : LinkFrame) (size : ℕ) → strictly r ≡ Reads f size → r ≡ Reads f size
  reads_back Waits f size e = absurd (let z : Waits ≡ Reads f size = e in cc)
  reads_back (Reads g n) f size e = both (λ r. r ≡ Reads f size → Reads g n ≡ Reads f size) (size_of g == n) (Reads g n) (Stops []) (λ t e. e) (λ t e. absurd (cc)) e
  reads_back (Refuses why n) f size e = absurd (let z : Stops (0 ∷ why) ≡ Reads f size = e in cc)
  reads_back (Stops why) f size e = absurd (let z : Stops (0 ∷ why) ≡ Reads f size = e in cc)

  refuses_none : (r : Reading) (why : List ℕ) (size : ℕ) → strictly r ≡ Refuses why size → ⊥
  refuses_none Waits why size e = absurd (let z : Waits ≡ Refuses why size = e in cc)
  refuses_none (Reads g n) why size e = both (λ r. r ≡ Refuses why size → ⊥) (size_of g == n) (Reads g n) (Stops []) (λ t e. absurd (cc)) (λ t e. absurd (cc)) e
  refuses_none (Refuses words n) why size e = absurd (let z : Stops (0 ∷ words) ≡ Refuses why size = e in cc)
  refuses_none (Stops words) why size e = absurd (let z : Stops (0 ∷ words) ≡ Refuses why size = e in cc)

  sound_too : (limits : Limits) (IsKind : LinkFrame → Type 0) (reader : List ℕ → Reading) → IsSoundReader limits IsKind reader
      → IsSoundReader limits IsKind (λ bytes. strictly (reader bytes))
  sound_too limits IsKind reader s = record {
    empty = ap strictly s.empty;
    unfilled = λ bytes e. s.unfilled bytes (waits_back (reader bytes) e);
    reads = λ bytes f size e. s.reads bytes f size (reads_back (reader bytes) f size e);
    refuses = λ bytes why size e. absurd (refuses_none (reader bytes) why size e);
    steady = λ bytes more n. ap strictly (s.steady bytes more (λ e. n (ap strictly e)));
  }

  pub strict_sound : (limits : Limits) → IsSoundWire limits wire → IsSoundWire limits strict
  strict_sound limits s = record {
    framed = s.framed;
    first = λ side. sound_too limits (IsFirst side) (wire.first side) (s.first side);
    first_refuses_none = λ side bytes why size e. refuses_none (wire.first side bytes) why size e;
    later = λ k. sound_too limits IsLater (wire.later k) (s.later k);
  }

  read_too : (reader : List ℕ → Reading) (f : LinkFrame) → IsRead reader (wire.spell codec f) f → IsRead (λ bytes. strictly (reader bytes)) (wire.spell codec f) f
  read_too reader f r = record {
    nonempty = r.nonempty;
    whole = λ rest. ap strictly (r.whole rest) ∙ ap (λ b. if b then Reads f (size_of f) else Stops []) (eq-eqb (size_of f) (size_of f) refl);
    waits = λ front rest e some. ap strictly (r.waits front rest e some);
  }

  pub strict_faithful : (limits : Limits) (version : ℕ) (ms : List Message) → IsFaithful limits wire codec version ms → IsFaithful limits strict codec version ms
  strict_faithful limits version ms l = record {
    request = read_too (wire.first Server) (Request codec version) l.request;
    response = read_too (wire.first Client) Response l.response;
    message = λ m has can. read_too (wire.later codec) (Numbered m) (l.message m has can);
    ack = λ upto few. read_too (wire.later codec) (Ack upto) (l.ack upto few);
    sequence = λ first received few told. read_too (wire.later codec) (Sequence first received) (l.sequence first received few told);
    ping = read_too (wire.later codec) Ping l.ping;
    close = λ reason allow. read_too (wire.later codec) (Close (error_of reason) allow) (l.close reason allow);
  }

  -- ---- what they cut off

  -- each frame has the size of its spelling
  abbrev pub AreSized : List Cut → Type 0
  AreSized [] = Unit {0}
  AreSized (x ∷ xs) = (x.1 ≡ size_of x.0) × AreSized xs

  -- so it is, and both readers cut off the same
  abbrev pub Agree : List Cut → List Cut → Type 0
  Agree strict_cuts cuts = AreSized cuts × (strict_cuts ≡ cuts)

  longer : (why : List ℕ) → 0 ∷ why ≡ why → ⊥
  longer why e = let long = ap length e in absurd (omega (arith, long))

  by_reading : (r : Reading) (at : ℕ) (bytes : List ℕ) (strict_rest rest : LinkFrame → ℕ → List ℕ → List Cut)
      → ((n : ℕ) (why : List ℕ) (size : ℕ) → r ≡ Reads (Unreadable n why) size → ⊥)
      → ((f : LinkFrame) (at : ℕ) (bs : List ℕ) → frames (strict_rest f at bs) ≡ frames (rest f at bs) → Agree (strict_rest f at bs) (rest f at bs))
      → frames (cut_by (strictly r) at bytes strict_rest) ≡ frames (cut_by r at bytes rest) → Agree (cut_by (strictly r) at bytes strict_rest) (cut_by r at bytes rest)
  by_reading Waits at bytes strict_rest rest legible next e = (tt, refl)
  by_reading (Reads f size) at bytes strict_rest rest legible next e = go (size_of f == size) refl e
    where
      go : (b : Bool) → (size_of f == size) ≡ b
          → frames (cut_by (if b then Reads f size else Stops []) at bytes strict_rest) ≡ f ∷ frames (rest f (at + size) (drop size bytes))
          → Agree (cut_by (if b then Reads f size else Stops []) at bytes strict_rest) ((f, size) ∷ rest f (at + size) (drop size bytes))
      go true t e =
          let whole : f ∷ frames (strict_rest f (at + size) (drop size bytes)) ≡ f ∷ frames (rest f (at + size) (drop size bytes)) = e in
          let tail : frames (strict_rest f (at + size) (drop size bytes)) ≡ frames (rest f (at + size) (drop size bytes)) = cc in
          let a = next f (at + size) (drop size bytes) tail in
          ((sym (eqb-true (size_of f) size t), a.0), ap (λ xs. (f, size) ∷ xs) a.1)
      go false t e =
          let whole : Unreadable (as_told at) [] ∷ [] ≡ f ∷ frames (rest f (at + size) (drop size bytes)) = e in
          let head : Unreadable (as_told at) [] ≡ f = cc in
          absurd (legible (as_told at) [] size (ap (λ f. Reads f size) (sym head)))
  by_reading (Refuses why size) at bytes strict_rest rest legible next e =
      let whole : Unreadable (as_told at) (0 ∷ why) ∷ [] ≡ Unreadable (as_told at) why ∷ frames (rest (Unreadable (as_told at) why) (at + size) (drop size bytes)) = e in
      let head : Unreadable (as_told at) (0 ∷ why) ≡ Unreadable (as_told at) why = cc in
      absurd (longer why (let z : 0 ∷ why ≡ why = cc in z))
  by_reading (Stops why) at bytes strict_rest rest legible next e =
      let whole : Unreadable (as_told at) (0 ∷ why) ∷ [] ≡ Unreadable (as_told at) why ∷ [] = e in
      let head : Unreadable (as_told at) (0 ∷ why) ≡ Unreadable (as_told at) why = cc in
      absurd (longer why (let z : 0 ∷ why ≡ why = cc in z))

  module _ (limits : Limits) (s : IsSoundWire limits wire) where
    legible_later : (k : Codec) (bytes : List ℕ) (n : ℕ) (why : List ℕ) (size : ℕ) → wire.later k bytes ≡ Reads (Unreadable n why) size → ⊥
    legible_later k bytes n why size e = let r = (s.later k).reads bytes (Unreadable n why) size e in r.0

    legible_first : (side : Side) (bytes : List ℕ) (n : ℕ) (why : List ℕ) (size : ℕ) → wire.first side bytes ≡ Reads (Unreadable n why) size → ⊥
    legible_first Client bytes n why size e = let r = (s.first Client).reads bytes (Unreadable n why) size e in r.0
    legible_first Server bytes n why size e = let r = (s.first Server).reads bytes (Unreadable n why) size e in r.0

    by_later : (k : Codec) (left at : ℕ) (bytes : List ℕ) → frames (cut_all (strict.later k) left at bytes) ≡ frames (cut_all (wire.later k) left at bytes)
        → Agree (cut_all (strict.later k) left at bytes) (cut_all (wire.later k) left at bytes)
    by_later k zero at bytes e = (tt, refl)
    by_later k (suc left) at bytes e = by_reading (wire.later k bytes) at bytes (λ f. cut_all (strict.later k) left) (λ f. cut_all (wire.later k) left)
        (legible_later k bytes) (λ f at bs. by_later k left at bs) e

    -- where both cut off the same frames
    pub cuts_agree : (c : Config) (h : List EndEvent) (l : ℕ) (bytes : List ℕ) → frames (cut strict c h l bytes) ≡ frames (cut wire c h l bytes) → Agree (cut strict c h l bytes) (cut wire c h l bytes)
    cuts_agree c h l bytes e = go (is_this l (first_link h)) e
      where
        strict_first : List Cut
        strict_first = cut_by (strict.first c.side bytes) 0 bytes (λ f at rest. cut_all (strict.later (codec_after c.codec f)) (length rest) at rest)

        own_first : List Cut
        own_first = cut_by (wire.first c.side bytes) 0 bytes (λ f at rest. cut_all (wire.later (codec_after c.codec f)) (length rest) at rest)

        strict_later : List Cut
        strict_later = cut_all (strict.later (codec_of c h)) (length bytes) 0 bytes

        own_later : List Cut
        own_later = cut_all (wire.later (codec_of c h)) (length bytes) 0 bytes

        go : (b : Bool) → frames (if b then strict_first else strict_later) ≡ frames (if b then own_first else own_later)
            → Agree (if b then strict_first else strict_later) (if b then own_first else own_later)
        go true e = by_reading (wire.first c.side bytes) 0 bytes (λ f at rest. cut_all (strict.later (codec_after c.codec f)) (length rest) at rest)
            (λ f at rest. cut_all (wire.later (codec_after c.codec f)) (length rest) at rest)
            (legible_first c.side bytes) (λ f at bs. by_later (codec_after c.codec f) (length bs) at bs) e
        go false e = by_later (codec_of c h) (length bytes) 0 bytes e

  pub sizes_add_up : (n : ℕ) (xs : List Cut) → AreSized xs → sum_by (λ (x : Cut). x.1) (take n xs) ≡ sum_by size_of (take n (frames xs))
  sizes_add_up zero xs s = refl
  sizes_add_up (suc n) [] s = refl
  sizes_add_up (suc n) (x ∷ xs) s = sum_by-cons (λ (x : Cut). x.1) x (take n xs)
      ∙ (ap (λ a. a + sum_by (λ (x : Cut). x.1) (take n xs)) s.0 ∙ ap (λ b. size_of x.0 + b) (sizes_add_up n xs s.1))
      ∙ sym (sum_by-cons size_of x.0 (take n (frames xs)))
