-- The bytes of a link that an end hasn't dealt with.
use Rattle.std.proofs.Common.{◌≡◌, ℕ, zero, suc, ◌+◌, ◌<◌, ◌≤◌, Bool, true, false, List, [], ◌∷◌, ◌++◌, length, take, drop, Option, Some, None, refl, sym, ap, ◌∙◌, subst, arith}
use Rattle.std.specs.Prelude.{slice_get, option_map}
use Rattle.std.proofs.lemmas.List.{take-map, length-map, length-drop, drop-drop, drop-append-le}
use Rattle.std.proofs.lemmas.List.Sums.{sum_by-append}
use Rattle.std.proofs.lemmas.Option.{slice_get-map}
use Rattle.hd_delivery.specs.declared.vocabulary.Got.{Got}
use Rattle.hd_delivery.specs.declared.vocabulary.Got.TheVariants.{Shaken}
use Rattle.hd_delivery.specs.Numbers.{most_framing}
use Rattle.hd_delivery.specs.Frames.{LinkFrame, Unreadable}
use Rattle.hd_delivery.specs.Histories.{Config, EndEvent, Attached, Detached, Fed, Took, Failed, Silenced, Fault, is_this, as_told, present_link, stands_on, was_on, first_link, fed_frames, taken_count, codec_of, is_shaken, is_closed}
use Rattle.hd_delivery.specs.Processes.{next_number, processes}
use Rattle.hd_delivery.specs.Worlds.{Limits}
use Rattle.hd_delivery.specs.Bytes.{Reading, Waits, Reads, Refuses, Stops, Wire, sizes_of, IsSoundWire, Cut, codec_after, cut, frames, ByteStep, Bytes, Does, bare_steps, bytes_on, in_frames, read_count, unread}
use Rattle.hd_delivery.specs.Laws.{IsSameButFed}
use Rattle.hd_delivery.specs.OneHistory.{IsHistory, next_reader, frame_of_reading, size_of_reading}
use Rattle.hd_delivery.specs.HistoryLaws.{StandsThere, MovesBy}
use Rattle.hd_delivery.proofs.Lists.{take_next, take_front}
use Rattle.hd_delivery.proofs.Local.{is_this-true, is_this-same, here_was, nothing_taken}
use Rattle.hd_delivery.proofs.OverBytes.{nothing_on}
use Rattle.hd_delivery.proofs.Growth.{cuts_grow}
use Rattle.hd_delivery.proofs.FedAndCut.{fed_is_cut}
use Rattle.hd_delivery.proofs.Unseen.{fed_is_unseen}
use Rattle.hd_delivery.proofs.WhatIsRead.{read_step}
use Rattle.hd_delivery.proofs.Makes.{Made, makes}
use Rattle.hd_delivery.proofs.EndFacts.{AreLegible, Known, known, processes_open}
use Rattle.hd_delivery.proofs.OneHistory.{in_frames_too, in_order}
use Rattle.hd_delivery.proofs.NextCut.{sizes, cut_of, cuts_on, sizes_on, next_on}

frame_of_cut : (at : ℕ) (r : Reading) → option_map (λ (x : Cut). x.0) (cut_of at r) ≡ frame_of_reading at r
frame_of_cut at Waits = refl
frame_of_cut at (Reads f size) = refl
frame_of_cut at (Refuses why size) = refl
frame_of_cut at (Stops why) = refl

size_of_cut : (at : ℕ) (r : Reading) (x : Cut) → cut_of at r ≡ Some x → x.1 ≡ size_of_reading r
size_of_cut at Waits x e = absurd (cc)
size_of_cut at (Reads f size) x e = let g : ◌≡◌ {A = Cut} (f, size) x = cc in ap (λ (y : Cut). y.1) (sym g)
size_of_cut at (Refuses why size) x e = let g : ◌≡◌ {A = Cut} (Unreadable (as_told at) why, size) x = cc in ap (λ (y : Cut). y.1) (sym g)
size_of_cut at (Stops why) x e = let g : ◌≡◌ {A = Cut} (Unreadable (as_told at) why, 0) x = cc in ap (λ (y : Cut). y.1) (sym g)

drop_none : (n : ℕ) → ◌≡◌ {A = List ℕ} (drop n []) []
drop_none zero = refl
drop_none (suc n) = refl

module _ (limits : Limits) (wire : Wire) (c : Config) (h : List ByteStep) (l : ℕ) (t : StandsThere limits wire c h l) where
  -- the history in frames
  abbrev k : List EndEvent
  k = in_frames wire c h

  -- the cuts of the link
  abbrev cuts : List Cut
  cuts = cut wire c k l (bytes_on l h)

  seen : IsSameButFed c k (bare_steps h)
  seen = fed_is_unseen wire c h

  i : Known c k
  i = known limits (sizes_of wire) c k (in_frames_too limits wire c h t.is_history)

  fed : fed_frames l k ≡ frames cuts
  fed = fed_is_cut limits wire c h l t.sound (in_order limits wire c h t.is_history)

  bare_cuts : (bs : List ℕ) → cut wire c (bare_steps h) l bs ≡ cut wire c k l bs
  bare_cuts bs = sym (λ j. cuts_on limits wire c t.sound (is_this l (seen.first j)) (seen.codec j) bs)

  count_is : read_count wire c l h ≡ sizes (take (taken_count l k) cuts)
  count_is = ap (λ n. sizes (take n (cut wire c (bare_steps h) l (bytes_on l h)))) (sym (seen.takes l)) ∙ ap (λ cs. sizes (take (taken_count l k) cs)) (bare_cuts (bytes_on l h))

  there : taken_count l k ≤ length cuts
  there = let w = i.within l in let e = ap length fed ∙ length-map cuts (λ (x : Cut). x.0) in omega arith

  pub few : read_count wire c l h ≤ length (bytes_on l h)
  few = rw count_is (sizes_on limits wire c t.sound (is_this l (first_link k)) (codec_of c k) (taken_count l k) (bytes_on l h))

  -- the next cut
  next : is_closed c k ≡ false → slice_get cuts (taken_count l k) ≡ cut_of (read_count wire c l h) (next_reader wire c l k (unread wire c l h))
  next opened = next_on limits wire c t.sound (is_this l (first_link k)) (codec_of c k) (taken_count l k) (bytes_on l h) there legible gave
      ∙ ap (λ n. cut_of n (next_reader wire c l k (drop n (bytes_on l h)))) (sym count_is)
    where
      legible : AreLegible (frames (take (taken_count l k) cuts))
      legible = subst (λ ts. AreLegible ts) (ap (take (taken_count l k)) fed ∙ take-map (λ (x : Cut). x.0) (taken_count l k) cuts) (i.legible opened l)

      gave : is_this l (first_link k) ≡ true → 0 < taken_count l k → (f : LinkFrame) → slice_get (frames cuts) 0 ≡ Some f → codec_of c k ≡ codec_after c.codec f
      gave e some f g = go (is_shaken k) refl
        where
          go : (b : Bool) → is_shaken k ≡ b → codec_of c k ≡ codec_after c.codec f
          go false s = let z = i.untaken s opened l in absurd (omega arith)
          go true s =
              let b = i.begun s l (is_this-true l (first_link k) e) in
              let same : b.0 ≡ f = (let z : Some b.0 ≡ Some f = sym b.1 ∙ (ap (λ fs. slice_get fs 0) fed ∙ g) in cc) in
              b.2 ∙ ap (codec_after c.codec) same

  pub next_frame_is : is_closed c k ≡ false → slice_get (fed_frames l k) (taken_count l k) ≡ frame_of_reading (read_count wire c l h) (next_reader wire c l k (unread wire c l h))
  next_frame_is opened =
      ap (λ fs. slice_get fs (taken_count l k)) fed
      ∙ (slice_get-map (λ (x : Cut). x.0) cuts (taken_count l k)
      ∙ (ap (option_map (λ (x : Cut). x.0)) (next opened)
      ∙ frame_of_cut (read_count wire c l h) (next_reader wire c l k (unread wire c l h))))

  stands : stands_on l (bare_steps h) ≡ true
  stands = is_this-same l (present_link (bare_steps h)) (sym seen.link ∙ t.here)

  -- what is fed comes after
  pub grows : (piece : List ℕ) → (unread wire c l (Bytes piece ∷ h) ≡ unread wire c l h ++ piece) × (read_count wire c l (Bytes piece ∷ h) ≡ read_count wire c l h)
  grows piece = ((λ j. drop (count j) (more j)) ∙ drop-append-le (read_count wire c l h) (bytes_on l h) piece few, count)
    where
      more : bytes_on l (Bytes piece ∷ h) ≡ bytes_on l h ++ piece
      more = rw stands refl

      count : read_count wire c l (Bytes piece ∷ h) ≡ read_count wire c l h
      count =
          let p = cuts_grow limits wire c (bare_steps h) l (bytes_on l h) piece t.sound in
          let e = seen.takes l in
          let f = ap length (bare_cuts (bytes_on l h)) in
          let w : taken_count l (bare_steps h) ≤ length (cut wire c (bare_steps h) l (bytes_on l h)) = omega (arith, there) in
          ap (λ bs. sizes (take (taken_count l (bare_steps h)) (cut wire c (bare_steps h) l bs))) more
          ∙ (ap (λ cs. sizes (take (taken_count l (bare_steps h)) cs)) (sym p.1)
          ∙ ap sizes (take_front (cut wire c (bare_steps h) l (bytes_on l h)) p.0 (taken_count l (bare_steps h)) w))

  -- a step that deals with a frame
  moves : (s : EndEvent) (x : Cut) → taken_count l (s ∷ bare_steps h) ≡ suc (taken_count l (bare_steps h)) → cut wire c (s ∷ bare_steps h) l (bytes_on l h) ≡ cut wire c (bare_steps h) l (bytes_on l h)
      → slice_get cuts (taken_count l k) ≡ Some x → MovesBy wire c l h s x.1
  moves s x one same is = record {
    drops = ap (λ n. drop n (bytes_on l h)) count ∙ sym (drop-drop x.1 (read_count wire c l h) (bytes_on l h));
    counts = count;
  }
    where
      count : read_count wire c l (Does s ∷ h) ≡ read_count wire c l h + x.1
      count =
          let e : taken_count l (s ∷ bare_steps h) ≡ suc (taken_count l k) = one ∙ ap suc (sym (seen.takes l)) in
          let f = sum_by-append (λ (x : Cut). x.1) (take (taken_count l k) cuts) (x ∷ []) in
          let g : read_count wire c l (Does s ∷ h) ≡ sizes (take (taken_count l k) cuts ++ x ∷ []) =
          ap (λ n. sizes (take n (cut wire c (s ∷ bare_steps h) l (bytes_on l h)))) e
          ∙ (ap (λ cs. sizes (take (suc (taken_count l k)) cs)) (same ∙ bare_cuts (bytes_on l h))
          ∙ ap sizes (take_next cuts (taken_count l k) x is)) in
          g ∙ (f ∙ (let z = count_is in omega arith))

  -- the cut that a step deals with
  dealt : (s : EndEvent) → processes c k ≡ Some s → (x : Cut) × (slice_get cuts (taken_count l k) ≡ Some x) × (x.1 ≡ size_of_reading (next_reader wire c l k (unread wire c l h)))
  dealt s made = go (slice_get cuts (taken_count l k)) refl
    where
      opened : is_closed c k ≡ false
      opened = processes_open c k s made

      some : option_map (λ (x : Cut). x.0) (slice_get cuts (taken_count l k)) ≡ Some (read_step c k s made).1
      some =
          let p = read_step c k s made in
          let same : p.0 ≡ l = (let z : Some p.0 ≡ Some l = sym p.2 ∙ t.here in cc) in
          sym (slice_get-map (λ (x : Cut). x.0) cuts (taken_count l k)) ∙ (ap (λ fs. slice_get fs (taken_count l k)) (sym fed) ∙ subst (λ j. slice_get (fed_frames j k) (taken_count j k) ≡ Some p.1) same p.3)

      go : (o : Option Cut) → slice_get cuts (taken_count l k) ≡ o → (x : Cut) × (slice_get cuts (taken_count l k) ≡ Some x) × (x.1 ≡ size_of_reading (next_reader wire c l k (unread wire c l h)))
      go None e = absurd (let z : ◌≡◌ {A = Option LinkFrame} None (Some (read_step c k s made).1) = sym (ap (option_map (λ (x : Cut). x.0)) e) ∙ some in cc)
      go (Some x) e = (x, e, size_of_cut (read_count wire c l h) (next_reader wire c l k (unread wire c l h)) x (sym (next opened) ∙ e))

  -- a handshake changes the codec, which the first link's cuts don't depend on
  cut_stays : (got : Got) → processes c k ≡ Some (Took got) → cut wire c (Took got ∷ bare_steps h) l (bytes_on l h) ≡ cut wire c (bare_steps h) l (bytes_on l h)
  cut_stays (Shaken codec version) made =
      let p = read_step c k (Took (Shaken codec version)) made in
      let m = subst (Made c k p.1) p.4 (makes c k (next_number c k p.0) p.1) in
      let first = is_this-same l (first_link (bare_steps h)) (sym seen.first ∙ i.first m.1.0 l (here_was l k t.here)) in
      rw first refl
  cut_stays got made = refl

  pub took : (got : Got) → processes c k ≡ Some (Took got) → MovesBy wire c l h (Took got) (size_of_reading (next_reader wire c l k (unread wire c l h)))
  took got made =
      let d = dealt (Took got) made in
      subst (λ n. MovesBy wire c l h (Took got) n) d.2 (moves (Took got) d.0 (rw stands refl) (cut_stays got made) d.1)

  pub failed : (fault : Fault) → processes c k ≡ Some (Failed fault) → MovesBy wire c l h (Failed fault) (size_of_reading (next_reader wire c l k (unread wire c l h)))
  failed fault made =
      let d = dealt (Failed fault) made in
      subst (λ n. MovesBy wire c l h (Failed fault) n) d.2 (moves (Failed fault) d.0 (rw stands refl) refl d.1)

-- a link begins with no bytes
pub begins : (wire : Wire) (c : Config) (h : List ByteStep) (l now : ℕ) → was_on l (in_frames wire c h) ≡ false
    → (unread wire c l (Does (Attached l now) ∷ h) ≡ []) × (read_count wire c l (Does (Attached l now) ∷ h) ≡ 0)
begins wire c h l now e =
    let seen = fed_is_unseen wire c h in
    let none : taken_count l (bare_steps h) ≡ 0 = sym (seen.takes l) ∙ nothing_taken l (in_frames wire c h) e in (
      ap (drop (read_count wire c l (Does (Attached l now) ∷ h))) (nothing_on wire c l h e) ∙ drop_none (read_count wire c l (Does (Attached l now) ∷ h)),
      ap (λ n. sizes (take n (cut wire c (Attached l now ∷ bare_steps h) l (bytes_on l h)))) none,
    )

module _ (limits : Limits) (wire : Wire) (c : Config) (sound : IsSoundWire limits wire) where
  fewer : (bytes now : List ℕ) (n : ℕ) → now ≡ drop n bytes → length bytes ≤ limits.frame + most_framing → length now ≤ limits.frame + most_framing
  fewer bytes now n e f = rw e (let d = length-drop n bytes in omega arith)

  pub bounded : (h : List ByteStep) → IsHistory limits wire c h → (l : ℕ) → present_link (in_frames wire c h) ≡ Some l → length (unread wire c l h) ≤ limits.frame + most_framing
  bounded [] i l e = absurd (cc)
  bounded (Bytes piece ∷ h) i l e =
      let same : i.1.link ≡ l = (let z : Some i.1.link ≡ Some l = sym i.1.at ∙ e in cc) in
      subst (λ j. length (unread wire c j (Bytes piece ∷ h)) ≤ limits.frame + most_framing) same i.1.few
  bounded (Does (Attached j now) ∷ h) i l e =
      let same : j ≡ l = cc in
      subst (λ l. length (unread wire c l (Does (Attached j now) ∷ h)) ≤ limits.frame + most_framing) same (rw (begins wire c h j now i.1.unused).0 (omega arith))
  bounded (Does (Detached now) ∷ h) i l e = absurd (cc)
  bounded (Does (Silenced now) ∷ h) i l e = absurd (cc)
  bounded (Does (Fed piece) ∷ h) i l e = absurd i.1
  bounded (Does (Took got) ∷ h) i l e =
      let m = took limits wire c h l (record { sound = sound; is_history = i.0; here = e }) got i.1 in
      fewer (unread wire c l h) (unread wire c l (Does (Took got) ∷ h)) _ m.drops (bounded h i.0 l e)
  bounded (Does (Failed fault) ∷ h) i l e =
      let m = failed limits wire c h l (record { sound = sound; is_history = i.0; here = e }) fault i.1 in
      fewer (unread wire c l h) (unread wire c l (Does (Failed fault) ∷ h)) _ m.drops (bounded h i.0 l e)
  bounded (Does s ∷ h) i l e = bounded h i.0 l e
