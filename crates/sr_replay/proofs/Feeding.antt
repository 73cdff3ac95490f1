-- How an end of a replay reads: it is fed what it has room for, and takes each frame that is whole.
use Rattle.std.proofs.Common.{inr, ◌≡◌, ◌⊎◌, ℕ, zero, suc, ◌+◌, ◌-◌, ◌<◌, Bool, true, false, List, [], ◌∷◌, ◌++◌, length, take, drop, Some, None, option_map, refl, sym, ap, ◌∙◌, subst, arith, append_assoc, length-take, if◌then◌else◌}
use Rattle.std.specs.Prelude.{min}
use Rattle.std.proofs.lemmas.List.{append-nil, take_min}
use Rattle.hd_delivery.specs.Numbers.{most_framing}
use Rattle.hd_delivery.specs.Histories as of
use Rattle.hd_delivery.specs.Histories.{first_of, present_link, is_closed}
use Rattle.hd_delivery.specs.Processes.{processes}
use Rattle.hd_delivery.specs.Worlds.{Limits}
use Rattle.hd_delivery.specs.Bytes.{Wire, ByteStep, Bytes, Does, bytes_on, in_frames, unread, unread_count}
use Rattle.hd_delivery.specs.OneHistory.{next_reader}
use Rattle.he_wire.specs.Laws.{WireIsSound}
use Rattle.he_end.specs.declared.end.End.{End}
use Rattle.he_end.specs.Stands.{Stands}
use Rattle.he_end.specs.Calls.{taken_at}
use Rattle.sr_replay.specs.declared.player.Player.{Player}
use Rattle.hd_delivery.specs.AloneLaws.{TakenHasRoom, HasRoomFor}
use Rattle.hd_delivery.specs.Following.{Next, Follow}
use Rattle.hd_delivery.specs.Alone.{piece_fed, feeding, taking, reading}
use Rattle.sr_replay.specs.declared.text_kind.TextKind.{TextKind}
use Rattle.sr_replay.specs.Told.{steps_text}
use Rattle.sr_replay.specs.Plays.{Plays, Feeds, limits_at}

-- the player with another end
abbrev pub with : Player → End → Player
with p e = record p { end = e }

-- ---- lists of steps

pub follow_append : (next : Next ByteStep) (h rs ss : List ByteStep) → Follow next h rs → Follow next (rs ++ h) ss → Follow next h (ss ++ rs)
follow_append next h rs [] first then_more = first
follow_append next h rs (s ∷ ss) first then_more =
    (follow_append next h rs ss first then_more.0, ap next (append_assoc ss rs h) ∙ then_more.1)

pub text_append : (kind : TextKind) (wire : Wire) (c : of.Config) (h rs ss : List ByteStep)
    → steps_text kind wire c h (ss ++ rs) ≡ steps_text kind wire c h rs ++ steps_text kind wire c (rs ++ h) ss
text_append kind wire c h rs [] = sym (append-nil (steps_text kind wire c h rs))
text_append kind wire c h rs (s ∷ ss) =
    let one = steps_text kind wire c (ss ++ (rs ++ h)) (s ∷ []) in
    ap (λ k. steps_text kind wire c h (ss ++ rs) ++ steps_text kind wire c k (s ∷ [])) (append_assoc ss rs h)
    ∙ (ap (λ x. x ++ one) (text_append kind wire c h rs ss) ∙ append_assoc (steps_text kind wire c h rs) (steps_text kind wire c (rs ++ h) ss) one)

-- ---- what comes next

module _ (limits : Limits) (wire : Wire) (c : of.Config) (all : List ℕ) where
  -- an end that takes a frame does so when it reads
  pub takes_first : (h : List ByteStep) (s : ByteStep) → taking wire c h ≡ Some s → reading limits wire c all h ≡ Some s
  takes_first h s is = ap (λ o. first_of o (if is_closed c (in_frames wire c h) then None else feeding limits wire c all h (present_link (in_frames wire c h)))) is

  pub taken_follow : (h ss : List ByteStep) → Follow (taking wire c) h ss → Follow (reading limits wire c all) h ss
  taken_follow h [] f = tt
  taken_follow h (s ∷ ss) f = (taken_follow h ss f.0, takes_first (ss ++ h) s f.1)

  next_is : (h : List ByteStep) → processes c (in_frames wire c h) ≡ None
      → reading limits wire c all h ≡ (if is_closed c (in_frames wire c h) then None else feeding limits wire c all h (present_link (in_frames wire c h)))
  next_is h none = ap (λ o. first_of (option_map Does o) (if is_closed c (in_frames wire c h) then None else feeding limits wire c all h (present_link (in_frames wire c h)))) none

  -- a closed end does nothing
  pub closed_next : (h : List ByteStep) → processes c (in_frames wire c h) ≡ None → is_closed c (in_frames wire c h) ≡ true → reading limits wire c all h ≡ None
  closed_next h none over =
      next_is h none ∙ ap (λ b. if b then None else feeding limits wire c all h (present_link (in_frames wire c h))) over

  -- one that isn't closed is fed
  pub fed_next : (h : List ByteStep) (l : ℕ) → processes c (in_frames wire c h) ≡ None → is_closed c (in_frames wire c h) ≡ false → present_link (in_frames wire c h) ≡ Some l
      → reading limits wire c all h ≡ piece_fed (take ((limits.frame + most_framing) - unread_count wire c l h) (drop (length (bytes_on l h)) all))
  fed_next h l none live at =
      next_is h none ∙ (ap (λ b. if b then None else feeding limits wire c all h (present_link (in_frames wire c h))) live ∙ ap (feeding limits wire c all h) at)

take_none : {A : Type 0} (n : ℕ) (xs : List A) → xs ≡ [] → take n xs ≡ []
take_none zero xs is = refl
take_none (suc n) xs is = ap (take (suc n)) is

-- with no bytes left nothing comes next
pub ends : (limits : Limits) (wire : Wire) (c : of.Config) (all : List ℕ) (h : List ByteStep) (l : ℕ) → processes c (in_frames wire c h) ≡ None
    → present_link (in_frames wire c h) ≡ Some l → drop (length (bytes_on l h)) all ≡ [] → (b : Bool) → is_closed c (in_frames wire c h) ≡ b → reading limits wire c all h ≡ None
ends limits wire c all h l none at gone true over = closed_next limits wire c all h none over
ends limits wire c all h l none at gone false live =
    fed_next limits wire c all h l none live at ∙ ap piece_fed (take_none ((limits.frame + most_framing) - unread_count wire c l h) (drop (length (bytes_on l h)) all) gone)

-- ---- what is fed

-- some bytes that were to be fed were fed
feeds_some : (next : Next ByteStep) (wire : Wire) (c : of.Config) (h : List ByteStep) (new : Player) (piece : List ℕ) → 0 < length piece → next h ≡ piece_fed piece
    → Plays wire c new (Bytes piece ∷ h) → Feeds next wire c h new piece
feeds_some next wire c h new [] some is plays = absurd (omega arith)
feeds_some next wire c h new (b ∷ bytes) some is plays = (is, plays)

feeds_none : (next : Next ByteStep) (wire : Wire) (c : of.Config) (h : List ByteStep) (new : Player) (piece : List ℕ) → piece ≡ [] → next h ≡ None → Plays wire c new h → Feeds next wire c h new piece
feeds_none next wire c h new [] empty is plays = (is, plays)
feeds_none next wire c h new (b ∷ bytes) empty is plays = absurd (cc)

module _ (room : TakenHasRoom) (sound : WireIsSound) (wire : Wire) (c : of.Config) (p : Player) (h : List ByteStep) (plays : Plays wire c p h)
    (l : ℕ) (all piece : List ℕ) (at : present_link (in_frames wire c h) ≡ Some l) (is : piece ≡ drop (length (bytes_on l h)) all)
    (none : processes c (in_frames wire c h) ≡ None) (some : 0 < length piece) (e : End) (n : ℕ) where
  has_room : is_closed c (in_frames wire c h) ≡ false → HasRoomFor (limits_at p) wire c h l
  has_room live =
      room (limits_at p) wire c h l (record { sound = sound (limits_at p) wire plays.stands.house; is_history = plays.stands.history; here = at }) live none

  pub fed_live : is_closed c (in_frames wire c h) ≡ false
      → n ≡ taken_at (limits_at p) (next_reader wire c l (in_frames wire c h) (unread wire c l h)) (length (unread wire c l h)) (length piece)
      → Stands wire c e (Bytes (take n piece) ∷ h) → Feeds (reading (limits_at p) wire c all) wire c h (with p e) (take n piece)
  fed_live live count stands =
      let has = has_room live in
      let few : n ≡ min (length piece) ((limits_at p).frame + most_framing - length (unread wire c l h)) =
      count ∙ ap (λ r. taken_at (limits_at p) r (length (unread wire c l h)) (length piece)) has.waits in
      let left = (limits_at p).frame + most_framing - length (unread wire c l h) in
      let turned : n ≡ min left (length piece) = (let f = few in omega arith) in
      let same : take n piece ≡ take left piece = ap (λ m. take m piece) turned ∙ take_min left piece in
      let has_some : 0 < length (take n piece) = (let r = has.room in let f = few in omega (arith, length-take n piece)) in
      feeds_some (reading (limits_at p) wire c all) wire c h (with p e) (take n piece) has_some
      (fed_next (limits_at p) wire c all h l none live at ∙ ap piece_fed (sym (same ∙ ap (take left) is)))
      (record { stands = stands; side_is = plays.side_is; link_is = plays.link_is })

  pub fed_closed : is_closed c (in_frames wire c h) ≡ true → (n ≡ 0) × (e ≡ p.end) → Feeds (reading (limits_at p) wire c all) wire c h (with p e) (take n piece)
  fed_closed over same =
      feeds_none (reading (limits_at p) wire c all) wire c h (with p e) (take n piece) (ap (λ m. take m piece) same.0)
      (closed_next (limits_at p) wire c all h none over)
      (subst (λ x. Plays wire c (with p x) h) (sym same.1) plays)

  pub feeds : (b : Bool) → is_closed c (in_frames wire c h) ≡ b
      → (is_closed c (in_frames wire c h) ≡ false
      → n ≡ taken_at (limits_at p) (next_reader wire c l (in_frames wire c h) (unread wire c l h)) (length (unread wire c l h)) (length piece))
      → (is_closed c (in_frames wire c h) ≡ false → Stands wire c e (Bytes (take n piece) ∷ h))
      → ((present_link (in_frames wire c h) ≡ None) ⊎ (is_closed c (in_frames wire c h) ≡ true) → (n ≡ 0) × (e ≡ p.end))
      → Feeds (reading (limits_at p) wire c all) wire c h (with p e) (take n piece)
  feeds true over count stands same = fed_closed over (same (inr over))
  feeds false live count stands same = fed_live live (count live) (stands live)
