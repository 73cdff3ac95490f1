-- The frames fed on a link are those cut off its bytes.
use Rattle.std.proofs.Common.{◌≡◌, ℕ, suc, ◌≤◌, Bool, true, false, List, [], ◌∷◌, ◌++◌, length, drop, Option, Some, None, refl, sym, ap, ◌∙◌, subst, arith}
use Rattle.std.specs.Prelude.{◌==◌, if◌then◌else◌}
use Rattle.hm_message.specs.declared.message.Codec.{Codec}
use Rattle.hd_delivery.specs.declared.vocabulary.Got.TheVariants.{Shaken}
use Rattle.hd_delivery.specs.Histories.{Config, EndEvent, Attached, Fed, Took, is_this, first_of, present_link, stands_on, was_on, first_link, link_count, fed_frames, codec_of}
use Rattle.hd_delivery.specs.Worlds.{Limits}
use Rattle.hd_delivery.specs.Bytes.{Wire, IsSoundWire, Cut, cut_by, cut_all, codec_after, cut, frames, ByteStep, Bytes, Does, bare_steps, bytes_on, new_frames, in_frames}
use Rattle.hd_delivery.specs.Laws.{IsInOrder}
use Rattle.hd_delivery.proofs.Local.{is_this-true, nothing_fed, none_was}
use Rattle.hd_delivery.proofs.OverBytes.{bare_here, nothing_on}
use Rattle.hd_delivery.proofs.Cuts.{drop_front}
use Rattle.hd_delivery.proofs.Growth.{cuts_grow}

frames-append : (xs ys : List Cut) → frames (xs ++ ys) ≡ frames xs ++ frames ys
frames-append [] ys = refl
frames-append (x ∷ xs) ys = ap (λ fs. x.0 ∷ fs) (frames-append xs ys)

-- where there was no link, or one, there was none but the first
no_link : (h : List EndEvent) → link_count h ≤ 0 → first_link h ≡ None
no_link [] e = refl
no_link (Attached k now ∷ h) e = absurd (omega arith)
no_link (_ ∷ h) e = no_link h e

one_link : (l : ℕ) (h : List EndEvent) → link_count h ≤ 1 → is_this l (first_link h) ≡ false → was_on l h ≡ false
one_link l [] e f = refl
one_link l (Attached k now ∷ h) e f =
    let n = no_link h (omega arith) in
    let g : (l == k) ≡ false = subst (λ o. is_this l (first_of o (Some k)) ≡ false) n f in
    rw (g, none_was l h n) refl
one_link l (_ ∷ h) e f = one_link l h e f

links : (wire : Wire) (c : Config) (h : List ByteStep) → link_count (bare_steps h) ≡ link_count (in_frames wire c h)
links wire c [] = refl
links wire c (Bytes piece ∷ h) = links wire c h
links wire c (Does (Attached l now) ∷ h) = ap suc (links wire c h)
links wire c (Does s ∷ h) = links wire c h

module _ (limits : Limits) (wire : Wire) (c : Config) (sound : IsSoundWire limits wire) where
  -- no frame is cut off no bytes
  cut_none : (b : Bool) (codec : Codec) → frames (if b
      then cut_by (wire.first c.side []) 0 [] (λ f at rest. cut_all (wire.later (codec_after c.codec f)) (length rest) at rest)
      else cut_all (wire.later codec) 0 0 []) ≡ []
  cut_none true codec = ap (λ r. frames (cut_by r 0 [] (λ f at rest. cut_all (wire.later (codec_after c.codec f)) (length rest) at rest))) (sound.first c.side).empty
  cut_none false codec = refl

  -- where the end never was, nothing was fed and nothing is cut
  nothing : (l : ℕ) (h : List ByteStep) (k : List EndEvent) → was_on l (in_frames wire c h) ≡ false → fed_frames l (in_frames wire c h) ≡ frames (cut wire c k l (bytes_on l h))
  nothing l h k e = nothing_fed l (in_frames wire c h) e
      ∙ sym (ap (λ bs. frames (cut wire c k l bs)) (nothing_on wire c l h e) ∙ cut_none (is_this l (first_link k)) (codec_of c k))

  -- what holds on each link
  abbrev Same : List ByteStep → ℕ → Type 0
  Same h l = fed_frames l (in_frames wire c h) ≡ frames (cut wire c (in_frames wire c h) l (bytes_on l h))

  -- by each step that looks at it
  more_bytes : (h : List ByteStep) (l : ℕ) (piece : List ℕ) → Same h l → Same (Bytes piece ∷ h) l
  more_bytes h l piece before = go (stands_on l (in_frames wire c h)) refl
    where
      same : stands_on l (bare_steps h) ≡ stands_on l (in_frames wire c h)
      same = ap (is_this l) (bare_here wire c h)

      grown : (rest : List Cut) → cut wire c (in_frames wire c h) l (bytes_on l h) ++ rest ≡ cut wire c (in_frames wire c h) l (bytes_on l h ++ piece)
          → fed_frames l (in_frames wire c h) ++ drop (length (fed_frames l (in_frames wire c h))) (frames (cut wire c (in_frames wire c h) l (bytes_on l h ++ piece)))
          ≡ frames (cut wire c (in_frames wire c h) l (bytes_on l h ++ piece))
      grown rest e =
          let f : frames (cut wire c (in_frames wire c h) l (bytes_on l h ++ piece)) ≡ fed_frames l (in_frames wire c h) ++ frames rest =
          sym (ap frames e) ∙ (frames-append (cut wire c (in_frames wire c h) l (bytes_on l h)) rest ∙ ap (λ fs. fs ++ frames rest) (sym before)) in
          ap (λ fs. fed_frames l (in_frames wire c h) ++ drop (length (fed_frames l (in_frames wire c h))) fs) f
          ∙ (ap (λ fs. fed_frames l (in_frames wire c h) ++ fs) (drop_front (fed_frames l (in_frames wire c h)) (frames rest)) ∙ sym f)

      go : (b : Bool) → stands_on l (in_frames wire c h) ≡ b → Same (Bytes piece ∷ h) l
      go true e =
          let at = is_this-true l (present_link (in_frames wire c h)) e in
          let p = cuts_grow limits wire c (in_frames wire c h) l (bytes_on l h) piece sound in
          rw (same ∙ e, e) (ap (λ o. fed_frames l (in_frames wire c h) ++ new_frames wire c h (in_frames wire c h) o piece) at ∙ grown p.0 p.1)
      go false e = rw (same ∙ e, e) before

  one_link_more : (h : List ByteStep) (l k now : ℕ) → Same h l → Same (Does (Attached k now) ∷ h) l
  one_link_more h l k now before = go (first_link (in_frames wire c h)) refl
    where
      go : (f : Option ℕ) → first_link (in_frames wire c h) ≡ f → Same (Does (Attached k now) ∷ h) l
      go None e = nothing l h (Attached k now ∷ in_frames wire c h) (none_was l (in_frames wire c h) e)
      go (Some j) e =
          let f : first_link (Attached k now ∷ in_frames wire c h) ≡ first_link (in_frames wire c h) = ap (λ o. first_of o (Some k)) e ∙ sym e in
          before ∙ rw f refl

  handshake_taken : (h : List ByteStep) (l : ℕ) (codec : Codec) (version : ℕ) → link_count (bare_steps h) ≤ 1 → Same h l → Same (Does (Took (Shaken codec version)) ∷ h) l
  handshake_taken h l codec version one before = go (is_this l (first_link (in_frames wire c h))) refl
    where
      go : (b : Bool) → is_this l (first_link (in_frames wire c h)) ≡ b → Same (Does (Took (Shaken codec version)) ∷ h) l
      go true e = before ∙ rw e refl
      go false e = nothing l h (Took (Shaken codec version) ∷ in_frames wire c h)
          (one_link l (in_frames wire c h) (subst (λ n. n ≤ 1) (links wire c h) one) e)

  pub fed_is_cut_here : (h : List ByteStep) (l : ℕ) → IsInOrder h → Same h l
  fed_is_cut_here [] l o = refl
  fed_is_cut_here (Bytes piece ∷ h) l o = more_bytes h l piece (fed_is_cut_here h l o)
  fed_is_cut_here (Does (Attached k now) ∷ h) l o = one_link_more h l k now (fed_is_cut_here h l o)
  fed_is_cut_here (Does (Fed piece) ∷ h) l o = absurd o
  fed_is_cut_here (Does (Took (Shaken codec version)) ∷ h) l o = handshake_taken h l codec version o.1 (fed_is_cut_here h l o.0)
  fed_is_cut_here (Does s ∷ h) l o = fed_is_cut_here h l o

pub fed_is_cut : (limits : Limits) (wire : Wire) (c : Config) (h : List ByteStep) (l : ℕ) → IsSoundWire limits wire → IsInOrder h
    → fed_frames l (in_frames wire c h) ≡ frames (cut wire c (in_frames wire c h) l (bytes_on l h))
fed_is_cut limits wire c h l sound o = fed_is_cut_here limits wire c sound h l o
