-- What an end of a replay has read of its link so far.
use Rattle.std.proofs.Common.{◌≡◌, ℕ, ◌+◌, ◌<◌, ◌≤◌, true, List, [], ◌∷◌, ◌++◌, length, drop, Option, Some, None, option_map, refl, sym, ap, ◌∙◌, subst, arith, append_assoc, length-append, if◌then◌else◌}
use Rattle.std.proofs.lemmas.Bool.{eq-eqb}
use Rattle.std.proofs.lemmas.List.{append-nil, drop-drop, drop_all}
use Rattle.hd_delivery.specs.Histories as of
use Rattle.hd_delivery.specs.Histories.{EndEvent, is_this, stands_on, present_link, is_closed}
use Rattle.hd_delivery.specs.Processes.{processes}
use Rattle.hd_delivery.specs.Worlds.{Limits}
use Rattle.hd_delivery.specs.Bytes.{Wire, ByteStep, Bytes, Does, bare_steps, bytes_on, in_frames}
use Rattle.hd_delivery.specs.Laws.{FedIsUnseen}
use Rattle.sr_replay.specs.declared.player.Player.{Player}
use Rattle.hd_delivery.specs.Following.{Next, Follow, FollowAll}
use Rattle.hd_delivery.specs.Alone.{taking, reading}
use Rattle.sr_replay.specs.declared.text_kind.TextKind.{TextKind}
use Rattle.sr_replay.specs.Runs.{Makes}
use Rattle.sr_replay.specs.Told.{told_text, steps_text}
use Rattle.sr_replay.specs.Plays.{Plays, Feeds}
use Rattle.sr_replay.proofs.Feeding.{follow_append, text_append, taken_follow, ends}

-- ---- the bytes of the link

not_fed : (o : Option EndEvent) (piece : List ℕ) → option_map Does o ≡ Some (Bytes piece) → ⊥
not_fed None piece is = cc
not_fed (Some s) piece is = cc

no_step : (o : Option EndEvent) → option_map Does o ≡ None → o ≡ None
no_step None is = refl
no_step (Some s) is = absurd (cc)

module _ (wire : Wire) (c : of.Config) (l : ℕ) where
  taken_bytes : (h ss : List ByteStep) → Follow (taking wire c) h ss → bytes_on l (ss ++ h) ≡ bytes_on l h
  taken_bytes h [] f = refl
  taken_bytes h (Bytes piece ∷ ss) f = absurd (not_fed (processes c (in_frames wire c (ss ++ h))) piece f.1)
  taken_bytes h (Does s ∷ ss) f = taken_bytes h ss f.0

  fed_bytes : FedIsUnseen → (h : List ByteStep) (piece : List ℕ) → present_link (in_frames wire c h) ≡ Some l → bytes_on l (Bytes piece ∷ h) ≡ bytes_on l h ++ piece
  fed_bytes unseen h piece at =
      let here : present_link (bare_steps h) ≡ Some l = sym (unseen wire c h).link ∙ at in
      let stands : stands_on l (bare_steps h) ≡ true = ap (is_this l) here ∙ eq-eqb l l refl in
      ap (λ b. if b then bytes_on l h ++ piece else bytes_on l h) stands

-- ---- so far

-- this many of the bytes that are to be read were read, and every frame that came was taken
pub record HasRead (kind : TextKind) (limits : Limits) (wire : Wire) (c : of.Config) (h : List ByteStep) (p : Player) (l : ℕ) (all before now : List ℕ) (at : ℕ) : Type 0 where
  pub steps : List ByteStep
  pub follow : Follow (reading limits wire c all) h steps
  pub plays : Plays wire c p (steps ++ h)
  pub text_is : now ≡ before ++ steps_text kind wire c h steps
  pub none : processes c (in_frames wire c (steps ++ h)) ≡ None
  pub here : present_link (in_frames wire c (steps ++ h)) ≡ Some l
  pub read : length (bytes_on l (steps ++ h)) ≡ length (bytes_on l h) + at

feeds_bytes : (next : Next ByteStep) (wire : Wire) (c : of.Config) (h : List ByteStep) (new : Player) (piece : List ℕ) → 0 < length piece → Feeds next wire c h new piece
    → (next h ≡ Some (Bytes piece)) × Plays wire c new (Bytes piece ∷ h)
feeds_bytes next wire c h new [] some fed = absurd (omega arith)
feeds_bytes next wire c h new (b ∷ bytes) some fed = fed

module _ (kind : TextKind) (limits : Limits) (wire : Wire) (c : of.Config) (h : List ByteStep) (l : ℕ) (all before : List ℕ) where
  pub read_none : (p : Player) → Plays wire c p h → present_link (in_frames wire c h) ≡ Some l → processes c (in_frames wire c h) ≡ None
      → HasRead kind limits wire c h p l all before before 0
  read_none p plays at none = record {
    steps = [];
    follow = tt;
    plays = plays;
    text_is = sym (append-nil before);
    none = none;
    here = at;
    read = omega arith;
  }

  module _ (p : Player) (now : List ℕ) (at : ℕ) (has : HasRead kind limits wire c h p l all before now at) where
    -- the bytes that are left are those that are to be read next
    pub left : (bytes : List ℕ) → bytes ≡ drop (length (bytes_on l h)) all → drop at bytes ≡ drop (length (bytes_on l (has.steps ++ h))) all
    left bytes is = ap (drop at) is ∙ (drop-drop at (length (bytes_on l h)) all ∙ ap (λ n. drop n all) (sym has.read))

    pub read_end : (bytes : List ℕ) → bytes ≡ drop (length (bytes_on l h)) all → length bytes ≤ at
        → (ss : List ByteStep) × (FollowAll (reading limits wire c all) h ss × Plays wire c p (ss ++ h) × (now ≡ before ++ steps_text kind wire c h ss))
    read_end bytes is end =
        let gone : drop (length (bytes_on l (has.steps ++ h))) all ≡ [] = sym (left bytes is) ∙ drop_all at bytes end in
        let last = ends limits wire c all (has.steps ++ h) l has.none has.here gone (is_closed c (in_frames wire c (has.steps ++ h))) refl in
        (has.steps, ((has.follow, last), has.plays, has.text_is))

    -- nothing can be fed any more
    pub read_stop : (new : Player) → Feeds (reading limits wire c all) wire c (has.steps ++ h) new []
        → (ss : List ByteStep) × (FollowAll (reading limits wire c all) h ss × Plays wire c new (ss ++ h) × (now ≡ before ++ steps_text kind wire c h ss))
    read_stop new fed = (has.steps, ((has.follow, fed.0), fed.1, has.text_is))

    module _ (unseen : FedIsUnseen) (mid new : Player) (piece between after : List ℕ) (some : 0 < length piece)
        (fed : Feeds (reading limits wire c all) wire c (has.steps ++ h) mid piece) (link : new.link ≡ p.link) (n : ℕ) (many : length piece ≡ n) where
      abbrev then_fed : List ByteStep
      then_fed = Bytes piece ∷ has.steps

      was_fed : (reading limits wire c all (has.steps ++ h) ≡ Some (Bytes piece)) × Plays wire c mid (Bytes piece ∷ (has.steps ++ h))
      was_fed = feeds_bytes (reading limits wire c all) wire c (has.steps ++ h) mid piece some fed

      pub plays_fed : Plays wire c mid (then_fed ++ h)
      plays_fed = was_fed.1

      pub read_on : between ≡ now ++ told_text kind wire c (has.steps ++ h) (Makes (Bytes piece))
          → (ss : List ByteStep) × (FollowAll (taking wire c) (then_fed ++ h) ss × Plays wire c new (ss ++ (then_fed ++ h))
          × (after ≡ between ++ steps_text kind wire c (then_fed ++ h) ss)) → HasRead kind limits wire c h new l all before after (at + n)
      read_on told took =
          let ss = took.0 in
          let x = then_fed ++ h in
          let taken = took.1.0.0 in
          let there : (ss ++ then_fed) ++ h ≡ ss ++ x = append_assoc ss then_fed h in
          let bytes : bytes_on l (ss ++ x) ≡ bytes_on l (has.steps ++ h) ++ piece =
          taken_bytes wire c l x ss taken ∙ fed_bytes wire c l unseen (has.steps ++ h) piece has.here in
          let size : length (bytes_on l (ss ++ x)) ≡ length (bytes_on l h) + (at + n) =
          (let e = ap length bytes in let f = has.read in let m = many in omega (arith, length-append (bytes_on l (has.steps ++ h)) piece)) in
          let on : present_link (in_frames wire c (ss ++ x)) ≡ Some l =
          sym took.1.1.link_is ∙ (link ∙ (has.plays.link_is ∙ has.here)) in
          let first = steps_text kind wire c h has.steps in
          let line = told_text kind wire c (has.steps ++ h) (Makes (Bytes piece)) in
          let rest = steps_text kind wire c x ss in
          let with_line : between ≡ before ++ (first ++ line) = told ∙ (ap (λ t. t ++ line) has.text_is ∙ append_assoc before first line) in
          record {
            steps = ss ++ then_fed;
            follow = follow_append (reading limits wire c all) h then_fed ss (has.follow, was_fed.0) (taken_follow limits wire c all x ss taken);
            plays = subst (λ k. Plays wire c new k) (sym there) took.1.1;
            text_is = took.1.2 ∙ (ap (λ t. t ++ rest) with_line ∙ (append_assoc before (first ++ line) rest
                ∙ ap (λ t. before ++ t) (sym (text_append kind wire c h then_fed ss))));
            none = ap (λ k. processes c (in_frames wire c k)) there ∙ no_step (processes c (in_frames wire c (ss ++ x))) took.1.0.1;
            here = ap (λ k. present_link (in_frames wire c k)) there ∙ on;
            read = ap (λ k. length (bytes_on l k)) there ∙ size;
          }
