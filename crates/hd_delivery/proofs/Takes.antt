-- An end that takes frames is done after a few, and then has room for more bytes.
use Rattle.std.proofs.Common.{◌≡◌, ℕ, suc, ◌+◌, ◌-◌, ◌<◌, ◌≤◌, Bool, true, false, ◌&&◌, ◌==◌, List, [], ◌∷◌, ◌++◌, length, Option, Some, None, option_map, slice_get, refl, sym, ap, ◌∙◌, subst, arith, length-drop, if◌then◌else◌}
use Rattle.hd_delivery.specs.declared.vocabulary.Got.{Got}
use Rattle.hd_delivery.specs.declared.vocabulary.Side.{Side}
use Rattle.hd_delivery.specs.declared.vocabulary.Side.TheVariants.{Client, Server}
use Rattle.hd_delivery.specs.Numbers.{most_framing}
use Rattle.hd_delivery.specs.Frames.{LinkFrame, Unreadable}
use Rattle.hd_delivery.specs.Histories as of
use Rattle.hd_delivery.specs.Histories.{EndEvent, Took, Failed, is_this, as_told, present_link, first_link, fed_frames, taken_count, codec_of, is_shaken, is_resumable, is_closed}
use Rattle.hd_delivery.specs.Processes.{reads_handshake, next_number, reads_frame, reads, next_frame, processes}
use Rattle.hd_delivery.specs.Worlds.{Limits}
use Rattle.hd_delivery.specs.Bytes.{Wire, IsSoundWire, IsSoundReader, IsFirst, IsLater, IsSize, Reading, Waits, Reads, Refuses, Stops, ByteStep, Does, in_frames, unread, unread_count, read_count}
use Rattle.hd_delivery.specs.OneHistory.{IsHistory, next_reader, frame_of_reading, size_of_reading}
use Rattle.hd_delivery.specs.HistoryLaws.{StandsThere, NextIsRead, UnreadMoves, UnreadIsBounded}
use Rattle.hd_delivery.specs.AloneLaws.{HasRoomFor}
use Rattle.hd_delivery.specs.Following.{Follow}
use Rattle.hd_delivery.specs.Alone.{taking}
use Rattle.hd_delivery.proofs.TestsAndPrefixes.{both}
use Rattle.hd_delivery.proofs.TakenFrames.{processed}

-- ---- what a frame makes

-- a frame that can't be read is not taken
unreadable_fails : (c : of.Config) (k : List EndEvent) (n : Option ℕ) (at : ℕ) (why : List ℕ) (got : Got) → reads c k n (Unreadable at why) ≡ Took got → ⊥
unreadable_fails c k n at why got e = both (λ s. s ≡ Took got → ⊥) (is_shaken k) (reads_frame (is_resumable c k) k n (Unreadable at why)) (reads_handshake c.side c k (Unreadable at why))
    (λ f g. cc) (λ f. by_side c.side) e
  where
    by_side : (side : Side) → reads_handshake side c k (Unreadable at why) ≡ Took got → ⊥
    by_side Client g = cc
    by_side Server g = cc

-- what comes next where a step deals with a frame
record Comes (c : of.Config) (k : List EndEvent) (s : EndEvent) : Type 0 where
  link : ℕ
  at : present_link k ≡ Some link
  live : is_closed c k ≡ false
  frame : LinkFrame
  next : slice_get (fed_frames link k) (taken_count link k) ≡ Some frame
  made : reads c k (next_number c k link) frame ≡ s

comes : (c : of.Config) (k : List EndEvent) (s : EndEvent) → processes c k ≡ Some s → Comes c k s
comes c k s e = open_end (is_closed c k) refl e
  where
    there : (l : ℕ) → present_link k ≡ Some l → is_closed c k ≡ false → (o : Option LinkFrame) → slice_get (fed_frames l k) (taken_count l k) ≡ o
        → option_map (reads c k (next_number c k l)) o ≡ Some s → Comes c k s
    there l at live None n f = absurd (cc)
    there l at live (Some frame) n f = record { link = l; at = at; live = live; frame = frame; next = n; made = (let g : reads c k (next_number c k l) frame ≡ s = cc in g) }

    on_link : (o : Option ℕ) → present_link k ≡ o → is_closed c k ≡ false → next_frame c k o ≡ Some s → Comes c k s
    on_link None at live f = absurd (cc)
    on_link (Some l) at live f = there l at live (slice_get (fed_frames l k) (taken_count l k)) refl f

    open_end : (b : Bool) → is_closed c k ≡ b → (if b then None else next_frame c k (present_link k)) ≡ Some s → Comes c k s
    open_end true live f = absurd (cc)
    open_end false live f = on_link (present_link k) refl live f

-- ---- what sound readers say

abbrev Sized : Limits → List ℕ → Reading → Type 0
Sized limits bytes Waits = length bytes < limits.frame + most_framing
Sized limits bytes (Reads f size) = IsSize limits bytes size
Sized limits bytes (Refuses why size) = IsSize limits bytes size
Sized limits bytes (Stops why) = 0 < length bytes

reader_sized : (limits : Limits) (IsKind : LinkFrame → Type 0) (reader : List ℕ → Reading) → IsSoundReader limits IsKind reader
    → (bytes : List ℕ) (r : Reading) → reader bytes ≡ r → Sized limits bytes r
reader_sized limits IsKind reader sound bytes Waits e = sound.unfilled bytes e
reader_sized limits IsKind reader sound bytes (Reads f size) e = (sound.reads bytes f size e).1
reader_sized limits IsKind reader sound bytes (Refuses why size) e = sound.refuses bytes why size e
reader_sized limits IsKind reader sound [] (Stops why) e = absurd (let f = sound.empty in let g : Waits ≡ Stops why = sym f ∙ e in cc)
reader_sized limits IsKind reader sound (b ∷ bytes) (Stops why) e = omega arith

next_sized : (limits : Limits) (wire : Wire) (c : of.Config) (l : ℕ) (k : List EndEvent) (bytes : List ℕ) → IsSoundWire limits wire → Sized limits bytes (next_reader wire c l k bytes)
next_sized limits wire c l k bytes sound = both (Sized limits bytes) (is_this l (first_link k) && (taken_count l k == 0)) (wire.first c.side bytes) (wire.later (codec_of c k) bytes)
    (λ e. reader_sized limits (IsFirst c.side) (wire.first c.side) (sound.first c.side) bytes (wire.first c.side bytes) refl)
    (λ e. reader_sized limits IsLater (wire.later (codec_of c k)) (sound.later (codec_of c k)) bytes (wire.later (codec_of c k) bytes) refl)

-- ---- an end on a link

module _ (next : NextIsRead) (moves : UnreadMoves) (limits : Limits) (wire : Wire) (c : of.Config) where
  pub taking_drops : (h : List ByteStep) (l : ℕ) (got : Got) → StandsThere limits wire c h l → processes c (in_frames wire c h) ≡ Some (Took got)
      → unread_count wire c l (Does (Took got) ∷ h) < unread_count wire c l h
  taking_drops h l got there e = go (next_reader wire c l (in_frames wire c h) (unread wire c l h)) (next_sized limits wire c l (in_frames wire c h) (unread wire c l h) there.sound) read dropped
    where
      read : (f : LinkFrame) × (frame_of_reading (read_count wire c l h) (next_reader wire c l (in_frames wire c h) (unread wire c l h)) ≡ Some f) × (reads c (in_frames wire c h) (next_number c (in_frames wire c h) l) f ≡ Took got)
      read =
          let p = comes c (in_frames wire c h) (Took got) e in
          let same : p.link ≡ l = (let a = p.at in let b = there.here in let f : Some p.link ≡ Some l = sym a ∙ b in cc) in (
            p.frame,
            sym (next limits wire c h l there p.live) ∙ subst (λ l. slice_get (fed_frames l (in_frames wire c h)) (taken_count l (in_frames wire c h)) ≡ Some p.frame) same p.next,
            subst (λ l. reads c (in_frames wire c h) (next_number c (in_frames wire c h) l) p.frame ≡ Took got) same p.made,
          )

      dropped : unread_count wire c l (Does (Took got) ∷ h) ≡ length (unread wire c l h) - size_of_reading (next_reader wire c l (in_frames wire c h) (unread wire c l h))
      dropped = let m = (moves limits wire c h l there).0 got e in ap length m.drops ∙ length-drop (size_of_reading (next_reader wire c l (in_frames wire c h) (unread wire c l h))) (unread wire c l h)

      go : (r : Reading) → Sized limits (unread wire c l h) r
          → (f : LinkFrame) × (frame_of_reading (read_count wire c l h) r ≡ Some f) × (reads c (in_frames wire c h) (next_number c (in_frames wire c h) l) f ≡ Took got)
          → unread_count wire c l (Does (Took got) ∷ h) ≡ length (unread wire c l h) - size_of_reading r
          → unread_count wire c l (Does (Took got) ∷ h) < unread_count wire c l h
      go Waits s p d = absurd (let f = p.1 in cc)
      go (Reads f size) s p d = omega (arith, d, s.some, s.there)
      go (Refuses why size) s p d = omega (arith, d, s.some, s.there)
      go (Stops why) s p d = absurd (unreadable_fails c (in_frames wire c h) (next_number c (in_frames wire c h) l) (as_told (read_count wire c l h)) why got
          (subst (λ f. reads c (in_frames wire c h) (next_number c (in_frames wire c h) l) f ≡ Took got) (let q = p.1 in let f : Unreadable (as_told (read_count wire c l h)) why ≡ p.0 = cc in sym f) p.2))

pub taken_has_room : NextIsRead → (limits : Limits) (wire : Wire) (c : of.Config) (h : List ByteStep) (l : ℕ) → StandsThere limits wire c h l
    → is_closed c (in_frames wire c h) ≡ false → processes c (in_frames wire c h) ≡ None → HasRoomFor limits wire c h l
taken_has_room next limits wire c h l there live e = record { waits = waits; room = subst (Sized limits (unread wire c l h)) waits (next_sized limits wire c l (in_frames wire c h) (unread wire c l h) there.sound) }
  where
    none : (o : Option LinkFrame) (f : LinkFrame → EndEvent) → option_map f o ≡ None → o ≡ None
    none None f e = refl
    none (Some x) f e = absurd (cc)

    no_frame : slice_get (fed_frames l (in_frames wire c h)) (taken_count l (in_frames wire c h)) ≡ None
    no_frame = none _ (reads c (in_frames wire c h) (next_number c (in_frames wire c h) l))
        (subst (λ o. next_frame c (in_frames wire c h) o ≡ None) there.here (subst (λ b. (if b then None else next_frame c (in_frames wire c h) (present_link (in_frames wire c h))) ≡ None) live e))

    waits_if : (at : ℕ) (r : Reading) → frame_of_reading at r ≡ None → r ≡ Waits
    waits_if at Waits f = refl
    waits_if at (Reads g size) f = absurd (cc)
    waits_if at (Refuses why size) f = absurd (cc)
    waits_if at (Stops why) f = absurd (cc)

    waits : next_reader wire c l (in_frames wire c h) (unread wire c l h) ≡ Waits
    waits = waits_if (read_count wire c l h) _ (sym (next limits wire c h l there live) ∙ no_frame)

-- ---- an end that takes frames

module _ (next : NextIsRead) (moves : UnreadMoves) (limits : Limits) (wire : Wire) (c : of.Config) (h : List ByteStep) (sound : IsSoundWire limits wire) (is : IsHistory limits wire c h) where
  record Taken (ss : List ByteStep) : Type 0 where
    history : IsHistory limits wire c (ss ++ h)
    link : present_link (in_frames wire c (ss ++ h)) ≡ present_link (in_frames wire c h)
    few : (l : ℕ) → present_link (in_frames wire c h) ≡ Some l → is_closed c (in_frames wire c (ss ++ h)) ≡ false → length ss + unread_count wire c l (ss ++ h) ≤ unread_count wire c l h
    most : (l : ℕ) → present_link (in_frames wire c h) ≡ Some l → length ss ≤ suc (unread_count wire c l h)

  one_more : (ss : List ByteStep) (s : EndEvent) → Taken ss → processes c (in_frames wire c (ss ++ h)) ≡ Some s → Taken (Does s ∷ ss)
  one_more ss (Took got) i e =
      let live = (comes c (in_frames wire c (ss ++ h)) (Took got) e).live in
      record {
        history = (i.history, e);
        link = i.link;
        few = λ l at open_yet. omega (arith, i.few l at live, less l at);
        most = λ l at. omega (arith, i.few l at live, less l at);
      }
    where
      less : (l : ℕ) → present_link (in_frames wire c h) ≡ Some l → unread_count wire c l (Does (Took got) ∷ ss ++ h) < unread_count wire c l (ss ++ h)
      less l at = taking_drops next moves limits wire c (ss ++ h) l got (record { sound = sound; is_history = i.history; here = i.link ∙ at }) e
  one_more ss (Failed fault) i e =
      let live = (comes c (in_frames wire c (ss ++ h)) (Failed fault) e).live in
      record {
        history = (i.history, e);
        link = i.link;
        few = λ l at open_yet. absurd (cc);
        most = λ l at. omega (arith, i.few l at live);
      }
  one_more ss s i e = absurd (processed c (in_frames wire c (ss ++ h)) s e)

  does : (o : Option EndEvent) (s : ByteStep) → option_map Does o ≡ Some s → (t : EndEvent) × (o ≡ Some t) × (Does t ≡ s)
  does None s e = absurd (cc)
  does (Some t) s e = (t, refl, cc)

  taken : (ss : List ByteStep) → Follow (taking wire c) h ss → Taken ss
  taken [] e = record { history = is; link = refl; few = λ l at live. omega arith; most = λ l at. omega arith }
  taken (s ∷ ss) e =
      let p = does (processes c (in_frames wire c (ss ++ h))) s e.1 in
      subst (λ s. Taken (s ∷ ss)) p.2 (one_more ss p.0 (taken ss e.0) p.1)

  pub takes_few : UnreadIsBounded → (ss : List ByteStep) → Follow (taking wire c) h ss → length ss ≤ suc (limits.frame + most_framing)
  takes_few bounded [] e = omega arith
  takes_few bounded (s ∷ ss) e =
      let p = does (processes c (in_frames wire c (ss ++ h))) s e.1 in
      let q = comes c (in_frames wire c (ss ++ h)) p.0 p.1 in
      let before = taken ss e.0 in
      let all = taken (s ∷ ss) e in
      let at : present_link (in_frames wire c h) ≡ Some q.link = sym before.link ∙ q.at in
      omega (arith, all.most q.link at, bounded limits wire c h q.link (record { sound = sound; is_history = is; here = at }))
