-- A history with an idle tick more tells the same.
use Rattle.std.proofs.Common.{refl, ap, arith, ◌≡◌, ℕ, ◌+◌, ◌≤◌, ◌<◌, Bool, true, false, List, [], ◌∷◌, Option, Some, None}
use Rattle.std.specs.Prelude.{nat_le, nat_lt, is_some, max, ◌&&◌, ◌||◌, not, option_map, slice_get, length, suc, if◌then◌else◌}
use Rattle.std.proofs.lemmas.Bool.{and_parts, ltb-true, leb-true}
use Rattle.hd_delivery.specs.declared.vocabulary.Side.{Side}
use Rattle.hd_delivery.specs.declared.vocabulary.Side.TheVariants.{Client, Server}
use Rattle.hd_delivery.specs.Numbers.{ping_after}
use Rattle.hd_delivery.specs.Frames.{LinkFrame, Response, Sequence, Ping}
use Rattle.hd_delivery.specs.Histories.{EndEvent, Ticked, Config, is_silence, first_of, is_this, present_link, first_link, fed_frames, taken_count, lent_frames, acked_count, processed_messages, is_three, is_shaken, is_resumable, is_closed, state, heard_moment, written_moment, is_late}
use Rattle.hd_delivery.specs.Due.{handshake, sequence_due, ack_due, message_due, is_ready, is_quiet, ping_due, close_due, due_after, answer, due_there, due_on, due}
use Rattle.hd_delivery.specs.Processes.{reads_handshake, reads_frame, reads, next_number, next_frame, processes}
use Rattle.hd_server.specs.Laws.{IdleTicksAreUnseen}

module _ (c : Config) (now : ℕ) (h : List EndEvent) (early : (nat_le (written_moment h + ping_after) now || is_quiet h) ≡ is_quiet h) where
  -- ---- what is due

  opens : (side : Side) → handshake side c (Ticked now ∷ h) ≡ handshake side c h
  opens Client = refl
  opens Server = refl

  pings : ping_due c (Ticked now ∷ h) ≡ ping_due c h
  pings = ap (λ b. if is_ready (state c h) && b then Some Ping else None) early

  after : (l : ℕ) (said : List LinkFrame) → due_after c (Ticked now ∷ h) l said ≡ due_after c h l said
  after l [] = ap (λ o. if is_this l (first_link h) then o else Some (Sequence (suc (acked_count h)) (if is_three h then Some (length (processed_messages h)) else None))) (opens c.side)
  after l (f ∷ fs) =
      ap (λ o. first_of (sequence_due h (f ∷ fs)) (first_of (ack_due c h (f ∷ fs)) (first_of (message_due h l) (first_of o (close_due h (f ∷ fs)))))) pings

  there : (l : ℕ) (o : Option (List ℕ)) → due_there c (Ticked now ∷ h) l o ≡ due_there c h l o
  there l None = after l (lent_frames l h)
  there l (Some words) = refl

  on : (o : Option ℕ) → due_on c (Ticked now ∷ h) o ≡ due_on c h o
  on None = refl
  on (Some l) = there l (answer h)

  pub due_same : due c (Ticked now ∷ h) ≡ due c h
  due_same = on (present_link h)

  -- ---- what the next frame makes

  shakes : (side : Side) (f : LinkFrame) → reads_handshake side c (Ticked now ∷ h) f ≡ reads_handshake side c h f
  shakes Client Response = refl
  shakes Client f = refl
  shakes Server Response = refl
  shakes Server f = refl

  frames : (keeps : Bool) (n : Option ℕ) (f : LinkFrame) → reads_frame keeps (Ticked now ∷ h) n f ≡ reads_frame keeps h n f
  frames keeps n Response = refl
  frames keeps n f = refl

  reads_same : (b : Bool) (n : Option ℕ) (f : LinkFrame)
      → (if b then reads_frame (is_resumable c h) (Ticked now ∷ h) n f else reads_handshake c.side c (Ticked now ∷ h) f)
      ≡ (if b then reads_frame (is_resumable c h) h n f else reads_handshake c.side c h f)
  reads_same true n f = frames (is_resumable c h) n f
  reads_same false n f = shakes c.side f

  found : (n : Option ℕ) (o : Option LinkFrame) → option_map (reads c (Ticked now ∷ h) n) o ≡ option_map (reads c h n) o
  found n None = refl
  found n (Some f) = ap Some (reads_same (is_shaken h) n f)

  next : (o : Option ℕ) → next_frame c (Ticked now ∷ h) o ≡ next_frame c h o
  next None = refl
  next (Some l) = found (next_number c h l) (slice_get (fed_frames l h) (taken_count l h))

  pub processes_same : processes c (Ticked now ∷ h) ≡ processes c h
  processes_same = ap (λ o. if is_closed c h then None else o) (next (present_link h))

-- ---- moments

first_stays : {A : Type 0} (o p : Option A) → is_some o ≡ true → first_of o p ≡ o
first_stays None p e = absurd (cc)
first_stays (Some x) p e = refl

later_max : (later now m : ℕ) → now ≤ later → max later (max now m) ≡ max later m
later_max later now m e = omega arith

-- what is no later than a moment isn't past it
stays_quiet : (until now : ℕ) (b : Bool) → (b || nat_lt now until) ≡ true → (nat_le until now || b) ≡ b
stays_quiet until now true e = go (nat_le until now)
  where
    go : (x : Bool) → (x || true) ≡ true
    go true = refl
    go false = refl
stays_quiet until now false e = go (nat_le until now) refl
  where
    go : (x : Bool) → nat_le until now ≡ x → (x || false) ≡ false
    go true le = let past : until ≤ now = leb-true until now le in let before : now < until = ltb-true now until e in absurd (omega (arith, past, before))
    go false le = refl

pub idle_ticks_are_unseen : IdleTicksAreUnseen
idle_ticks_are_unseen c now h unseen =
    let parts = and_parts (is_some (heard_moment h) && not (is_silence c now h)) _ unseen in
    let as_quiet : (nat_le (written_moment h + ping_after) now || is_quiet h) ≡ is_quiet h = stays_quiet (written_moment h + ping_after) now (is_quiet h) parts.1 in
    let heard_same : heard_moment (Ticked now ∷ h) ≡ heard_moment h = first_stays (heard_moment h) _ (and_parts (is_some (heard_moment h)) _ parts.0).0 in
    record {
      same_link = refl;
      same_state = refl;
      same_sent = refl;
      same_processed = refl;
      same_held = refl;
      same_heard = heard_same;
      same_written = refl;
      same_quiet = as_quiet;
      same_due = due_same c now h as_quiet;
      same_next = processes_same c now h as_quiet;
      same_silence = λ later. ap (λ o. (is_some (present_link h) && not (is_closed c h)) && is_late later o) heard_same;
      same_moment = λ later e. later_max later now _ e;
    }
