-- The run of actions in turn is a world of two ends.
use Rattle.std.proofs.Common.{inl, inr, ⊎_elim, ◌≡◌, ◌⊎◌, ℕ, ◌+◌, ◌-◌, ◌<◌, ◌≤◌, Bool, true, false, not, ◌&&◌, List, [], ◌∷◌, ◌++◌, length, take, drop, map, Contains, Option, Some, None, is_some, option_map, refl, sym, ap, ◌∙◌, subst, arith, append-nil, length-append, le_refl, if◌then◌else◌}
use Rattle.std.specs.Prelude.{◌==◌}
use Rattle.std.proofs.lemmas.Bool.{and_cases, or_cases, eqb-true}
use Rattle.std.proofs.lemmas.List.Elements.{Contains-append_right}
use Rattle.hm_message.specs.declared.message.Message.{Message}
use Rattle.hm_codec.specs.Frames.{said_again}
use Rattle.hd_facts.specs.Prefixes.{IsPrefix}
use Rattle.hd_delivery.specs.declared.vocabulary.Reason.TheVariants.{Done}
use Rattle.hd_delivery.specs.declared.vocabulary.Side.{Side}
use Rattle.hd_delivery.specs.declared.vocabulary.Side.TheVariants.{Client, Server}
use Rattle.hd_delivery.specs.Numbers.{most_framing}
use Rattle.hd_delivery.specs.Frames.{LinkFrame}
use Rattle.hd_delivery.specs.Histories as of
use Rattle.hd_delivery.specs.Histories.{EndEvent, Attached, Detached, Took, Failed, Sent, Lent, Ticked, Silenced, Closed, present_link, was_on, first_link, first_of, codec_of, is_resumable, is_closed, is_shaken, is_silence}
use Rattle.hd_delivery.specs.Due.{due}
use Rattle.hd_delivery.specs.Processes.{processes}
use Rattle.hd_delivery.specs.Worlds.{alike, Limits, Terms, config, Event, ByClient, ByServer, client_of, server_of}
use Rattle.hd_delivery.specs.Bytes.{Wire, IsSoundWire, ByteStep, Bytes, Does, bytes_on, in_frames, unread, unread_count, lent_bytes, AllowedOverBytes, IsWorldOverBytes}
use Rattle.hd_delivery.specs.OneHistory.{IsHistory}
use Rattle.hd_delivery.specs.HistoryLaws.{StandsThere, UnreadGrows, UnreadIsBounded, WorldsAreHistories}
use Rattle.sr_script.specs.declared.action.Action.{Action}
use Rattle.sr_script.specs.declared.action.Action.TheVariants.{Open, Accept, Lose, Write, Read, Close, Send, Tick}
use Rattle.sr_script.specs.declared.action.Count.{Count}
use Rattle.sr_script.specs.declared.action.Count.TheVariants.{UpTo, Everything}
use Rattle.sr_script.specs.Script.{IsInTurn, AreInTurn, opened, moment_after, most_of}
use Rattle.sr_replay.specs.Runs.{Doing, Makes, Refuses, Run, world_of, attaching, losing, closing, ticking, Sending, made_by, to_be_read, Acts, Runs}
use Rattle.hd_delivery.specs.Sides.{by, history, other, frames_at}
use Rattle.hd_delivery.specs.Following.{Next, Follow, FollowUpTo}
use Rattle.hd_delivery.specs.Alone.{IsOfFrame, writing, piece_fed, feeding, reading}
use Rattle.hd_delivery.specs.AloneLaws.{FedIsLent, FramesAreTaken}
use Rattle.sr_replay.specs.Laws.{IsWorldOf}
use Rattle.sr_replay.proofs.Small.{both, take_prefix, take_few, next_piece}

-- ---- the world of a run

-- this holds of both sides
pick : (P : Side → Type 0) → P Client → P Server → (side : Side) → P side
pick P a b Client = a
pick P a b Server = b

-- the world with these steps of a side after it
abbrev After : Side → List ByteStep → List (Event ByteStep) → List (Event ByteStep)
After side [] w = w
After side (s ∷ ss) w = by side s ∷ After side ss w

own : (side : Side) (ss : List ByteStep) (w : List (Event ByteStep)) → history side (After side ss w) ≡ ss ++ history side w
own side [] w = refl
own Client (s ∷ ss) w = ap (λ x. s ∷ x) (own Client ss w)
own Server (s ∷ ss) w = ap (λ x. s ∷ x) (own Server ss w)

others : (side : Side) (ss : List ByteStep) (w : List (Event ByteStep)) → history (other side) (After side ss w) ≡ history (other side) w
others side [] w = refl
others Client (s ∷ ss) w = others Client ss w
others Server (s ∷ ss) w = others Server ss w

made : (side : Side) (ss : List ByteStep) (r : Run) → world_of (made_by side ss ++ r) ≡ After side ss (world_of r)
made side [] r = refl
made Client (s ∷ ss) r = ap (λ w. ByClient s ∷ w) (made Client ss r)
made Server (s ∷ ss) r = ap (λ w. ByServer s ∷ w) (made Server ss r)

made_one : (side : Side) (s : ByteStep) (r : Run) → world_of (by side (Makes s) ∷ r) ≡ by side s ∷ world_of r
made_one Client s r = refl
made_one Server s r = refl

refused_one : (side : Side) (words : List ℕ) (r : Run) → world_of (by side (Refuses words) ∷ r) ≡ world_of r
refused_one Client words r = refl
refused_one Server words r = refl

-- ---- steps in a world

-- a link that an end of this side may have been on, where so many were opened and these accepted
abbrev Named : ℕ → (ℕ → Type 0) → Side → ℕ → Type 0
Named most accepted Client l = l < most
Named most accepted Server l = accepted l

module _ (limits : Limits) (wire : Wire) (t : Terms) where
  record Good (most : ℕ) (accepted : ℕ → Type 0) (now : ℕ) (w : List (Event ByteStep)) : Type 0 where
    world : IsWorldOverBytes (alike limits) wire t w
    named : (side : Side) (l : ℕ) → was_on l (frames_at wire t w side) ≡ true → Named most accepted side l
    in_time : (side : Side) → of.moment (frames_at wire t w side) ≤ now

  -- a step that leaves links and moments as they were
  record Plain (c oc : of.Config) (x y : List ByteStep) (s : ByteStep) : Type 0 where
    allowed : AllowedOverBytes limits wire c oc x y s
    names : (l : ℕ) → was_on l (in_frames wire c (s ∷ x)) ≡ was_on l (in_frames wire c x)
    moves : of.moment (in_frames wire c (s ∷ x)) ≡ of.moment (in_frames wire c x)
    stands : present_link (in_frames wire c (s ∷ x)) ≡ present_link (in_frames wire c x)

  written : (c oc : of.Config) (x y : List ByteStep) (s : ByteStep) → writing wire c x ≡ Some s → Plain c oc x y s
  written c oc x y s e = go (due c (in_frames wire c x)) refl e
    where
      go : (o : Option LinkFrame) → due c (in_frames wire c x) ≡ o → option_map (λ f. Does (Lent f)) o ≡ Some s → Plain c oc x y s
      go None d f = absurd (cc)
      go (Some f) d g = let q : Does (Lent f) ≡ s = cc in subst (Plain c oc x y) q (record { allowed = d; names = λ l. refl; moves = refl; stands = refl })

  took : (c oc : of.Config) (x y : List ByteStep) (shaken : Bool) (s : EndEvent) → IsOfFrame shaken s → processes c (in_frames wire c x) ≡ Some s → Plain c oc x y (Does s)
  took c oc x y shaken (Took got) is e = record { allowed = e; names = λ l. refl; moves = refl; stands = refl }
  took c oc x y shaken (Failed fault) is e = record { allowed = e; names = λ l. refl; moves = refl; stands = refl }
  took c oc x y shaken s is e = absurd is

  fed_one : (piece : List ℕ) (s : ByteStep) → piece_fed piece ≡ Some s → Bytes piece ≡ s
  fed_one [] s e = absurd (cc)
  fed_one (b ∷ piece) s e = cc

  module _ (taken : FramesAreTaken) (grows : UnreadGrows) (bounded : UnreadIsBounded) (sound : IsSoundWire limits wire) (c oc : of.Config) (x y : List ByteStep) (bytes : List ℕ) (is : IsHistory limits wire c x)
      (came : (l : ℕ) → present_link (in_frames wire c x) ≡ Some l → IsPrefix (bytes_on l x) (lent_bytes wire oc l y))
      (there : (l : ℕ) → present_link (in_frames wire c x) ≡ Some l → IsPrefix bytes (lent_bytes wire oc l y)) where
    fed : (s : ByteStep) (l : ℕ) → present_link (in_frames wire c x) ≡ Some l → is_closed c (in_frames wire c x) ≡ false → feeding limits wire c bytes x (Some l) ≡ Some s → Plain c oc x y s
    fed s l at live e = subst (Plain c oc x y) (fed_one (take ((limits.frame + most_framing) - unread_count wire c l x) (drop (length (bytes_on l x)) bytes)) s e)
        (record {
          allowed = record {
            link = l;
            at = at;
            unclosed = live;
            front = next_piece ((limits.frame + most_framing) - unread_count wire c l x) (bytes_on l x) bytes (lent_bytes wire oc l y) (came l at) (there l at);
            few = few;
          };
          names = λ j. refl;
          moves = refl;
          stands = refl;
        })
      where
        stands_there : StandsThere limits wire c x l
        stands_there = record { sound = sound; is_history = is; here = at }

        few : unread_count wire c l (Bytes (take ((limits.frame + most_framing) - unread_count wire c l x) (drop (length (bytes_on l x)) bytes)) ∷ x) ≤ limits.frame + most_framing
        few =
            let piece = take ((limits.frame + most_framing) - unread_count wire c l x) (drop (length (bytes_on l x)) bytes) in
            let long : unread_count wire c l (Bytes piece ∷ x) ≡ length (unread wire c l x ++ piece) = ap length (grows limits wire c x l piece (record { sound = sound; is_history = is; here = at })).0 in
            omega (
              arith,
              long,
              length-append (unread wire c l x) piece,
              take_few ((limits.frame + most_framing) - unread_count wire c l x) (drop (length (bytes_on l x)) bytes),
              bounded limits wire c x l (record { sound = sound; is_history = is; here = at }),
            )

    read : (s : ByteStep) → reading limits wire c bytes x ≡ Some s → Plain c oc x y s
    read s e = go (processes c (in_frames wire c x)) refl e
      where
        on_link : (o : Option ℕ) → present_link (in_frames wire c x) ≡ o → is_closed c (in_frames wire c x) ≡ false → feeding limits wire c bytes x o ≡ Some s → Plain c oc x y s
        on_link None at live f = absurd (cc)
        on_link (Some l) at live f = fed s l at live f

        open_end : (b : Bool) → is_closed c (in_frames wire c x) ≡ b → (if b then None else feeding limits wire c bytes x (present_link (in_frames wire c x))) ≡ Some s → Plain c oc x y s
        open_end true live f = absurd (cc)
        open_end false live f = on_link (present_link (in_frames wire c x)) refl live f

        go : (o : Option EndEvent) → processes c (in_frames wire c x) ≡ o
            → first_of (option_map Does o) (if is_closed c (in_frames wire c x) then None else feeding limits wire c bytes x (present_link (in_frames wire c x))) ≡ Some s → Plain c oc x y s
        go None p f = open_end (is_closed c (in_frames wire c x)) refl f
        go (Some u) p f = let q : Does u ≡ s = cc in subst (Plain c oc x y) q (took c oc x y (is_shaken (in_frames wire c x)) u (taken c (in_frames wire c x) u p) p)

  module _ (most : ℕ) (accepted : ℕ → Type 0) (now : ℕ) where
    abbrev Is : List (Event ByteStep) → Type 0
    Is w = Good most accepted now w

    one_more : (side : Side) (s : ByteStep) (w : List (Event ByteStep)) → Is w
        → AllowedOverBytes limits wire (config side t) (config (other side) t) (history side w) (history (other side) w) s
        → ((l : ℕ) → was_on l (in_frames wire (config side t) (s ∷ history side w)) ≡ true → Named most accepted side l)
        → of.moment (in_frames wire (config side t) (s ∷ history side w)) ≤ now → Is (by side s ∷ w)
    one_more Client s w i a n m = record {
      world = (i.world, a);
      named = pick (λ side. (l : ℕ) → was_on l (frames_at wire t (ByClient s ∷ w) side) ≡ true → Named most accepted side l) n (i.named Server);
      in_time = pick (λ side. of.moment (frames_at wire t (ByClient s ∷ w) side) ≤ now) m (i.in_time Server);
    }
    one_more Server s w i a n m = record {
      world = (i.world, a);
      named = pick (λ side. (l : ℕ) → was_on l (frames_at wire t (ByServer s ∷ w) side) ≡ true → Named most accepted side l) (i.named Client) n;
      in_time = pick (λ side. of.moment (frames_at wire t (ByServer s ∷ w) side) ≤ now) (i.in_time Client) m;
    }

    plain_more : (side : Side) (s : ByteStep) (w : List (Event ByteStep)) → Is w → Plain (config side t) (config (other side) t) (history side w) (history (other side) w) s → Is (by side s ∷ w)
    plain_more side s w i p = one_more side s w i p.allowed (λ l e. i.named side l (sym (p.names l) ∙ e)) (subst (λ n. n ≤ now) (sym p.moves) (i.in_time side))

    -- steps of a side that follow from one another
    module _ (next : Next ByteStep) (side : Side) (w : List (Event ByteStep)) (i : Is w)
        (plain : (ss : List ByteStep) (s : ByteStep) → Is (After side ss w) → present_link (in_frames wire (config side t) (ss ++ history side w)) ≡ present_link (frames_at wire t w side)
        → next (ss ++ history side w) ≡ Some s → Plain (config side t) (config (other side) t) (ss ++ history side w) (history (other side) w) s) where
      follow : (ss : List ByteStep) → Follow next (history side w) ss
          → Is (After side ss w) × (present_link (in_frames wire (config side t) (ss ++ history side w)) ≡ present_link (frames_at wire t w side))
      follow [] f = (i, refl)
      follow (s ∷ ss) f =
          let before = follow ss f.0 in
          let p = plain ss s before.0 before.1 f.1 in (
            plain_more side s (After side ss w) before.0
                (subst (λ x. Plain (config side t) (config (other side) t) x (history (other side) (After side ss w)) s) (sym (own side ss w))
                (subst (λ y. Plain (config side t) (config (other side) t) (ss ++ history side w) y s) (sym (others side ss w)) p)),
            p.stands ∙ before.1,
          )

up_to : (count : Count) (next : Next ByteStep) (h ss : List ByteStep) → FollowUpTo (most_of count) next h ss → Follow next h ss
up_to Everything next h ss f = f.0
up_to (UpTo n) next h ss f = ⊎_elim (λ a. a.0) (λ a. a.0.0) f

-- ---- what an action adds

is_there : (o : Option ℕ) → is_some o ≡ true → (l : ℕ) × (o ≡ Some l)
is_there None e = absurd (cc)
is_there (Some l) e = (l, refl)

no_link : (o : Option ℕ) → is_some o ≡ false → o ≡ None
no_link None e = refl
no_link (Some l) e = absurd (cc)

not_off : (b : Bool) → not b ≡ false → b ≡ true
not_off true e = refl
not_off false e = absurd (cc)

-- an attach is refused, or allowed as far as the end's own state says
attach_cases : (P : Doing → Type 0) (c : of.Config) (k : List EndEvent) (l now : ℕ) → ((words : List ℕ) → P (Refuses words))
    → (is_closed c k ≡ false → (first_link k ≡ None) ⊎ (is_resumable c k ≡ true) → P (Makes (Does (Attached l now)))) → P (attaching c k l now)
attach_cases P c k l now refused attached = both P (is_closed c k) _ _ (λ e. refused _)
    (λ e. both P (is_some (first_link k) && not (is_resumable c k)) _ _ (λ f. refused _)
    (λ f. attached e (⊎_elim (λ g. inl (no_link (first_link k) g)) (λ g. inr (not_off (is_resumable c k) g)) (and_cases (is_some (first_link k)) (not (is_resumable c k)) f))))

was_not : (l : ℕ) (k : List EndEvent) → (was_on l k ≡ true → ⊥) → was_on l k ≡ false
was_not l k never = go (was_on l k) refl
  where
    go : (b : Bool) → was_on l k ≡ b → b ≡ false
    go true e = absurd (never e)
    go false e = refl

module _ (worlds : WorldsAreHistories) (taken : FramesAreTaken) (fed_is_lent : FedIsLent) (grows : UnreadGrows) (bounded : UnreadIsBounded) (limits : Limits) (wire : Wire) (t : Terms) (sound : IsSoundWire limits wire) where
  abbrev GoodFor : List Action → List (Event ByteStep) → Type 0
  GoodFor actions w = Good limits wire t (opened actions) (λ l. Contains actions (Accept l)) (moment_after actions) w

  histories : (side : Side) (w : List (Event ByteStep)) → IsWorldOverBytes (alike limits) wire t w → IsHistory limits wire (config side t) (history side w)
  histories Client w i = (worlds (alike limits) wire t w i).0
  histories Server w i = (worlds (alike limits) wire t w i).1

  -- links and moments as they were, for one action more
  widened : (a : Action) (before : List Action) (w : List (Event ByteStep)) → opened before ≤ opened (a ∷ before) → moment_after before ≤ moment_after (a ∷ before)
      → GoodFor before w → GoodFor (a ∷ before) w
  widened a before w few late i = record {
    world = i.world;
    named = pick (λ side. (l : ℕ) → was_on l (frames_at wire t w side) ≡ true → Named (opened (a ∷ before)) (λ l. Contains (a ∷ before) (Accept l)) side l)
        (λ l e. omega (arith, few, i.named Client l e)) (λ l e. Contains-append_right (a ∷ []) before (Accept l) (i.named Server l e));
    in_time = λ side. omega (arith, late, i.in_time side);
  }

  module _ (before : List Action) (r : Run) (i : GoodFor before (world_of r)) where
    opens : GoodFor (Open ∷ before) (world_of (by Client (attaching (config Client t) (frames_at wire t (world_of r) Client) (opened before) (moment_after before)) ∷ r))
    opens = attach_cases (λ d. GoodFor (Open ∷ before) (world_of (by Client d ∷ r))) (config Client t) (frames_at wire t (world_of r) Client) (opened before) (moment_after before)
        (λ words. wide)
        (λ live granted. one_more limits wire t (opened (Open ∷ before)) (λ l. Contains (Open ∷ before) (Accept l)) (moment_after (Open ∷ before)) Client (Does (Attached (opened before) (moment_after before))) (world_of r) wide
        (record {
          own = record {
            unclosed = live;
            granted = granted;
            unused = was_not (opened before) (frames_at wire t (world_of r) Client) (λ e. omega (arith, i.named Client (opened before) e));
            in_time = i.in_time Client;
          };
          named = λ k e. i.named Client k e;
        })
        (λ l e. ⊎_elim (λ f. omega (arith, eqb-true l (opened before) f)) (λ f. omega (arith, i.named Client l f)) (or_cases (l == opened before) (was_on l (frames_at wire t (world_of r) Client)) e))
        (omega (arith, i.in_time Client)))
      where
        wide : GoodFor (Open ∷ before) (world_of r)
        wide = widened Open before (world_of r) (omega arith) (le_refl (moment_after before)) i

    accepts : (link : ℕ) → (Contains before (Accept link) → ⊥) → was_on link (frames_at wire t (world_of r) Client) ≡ true
        → GoodFor (Accept link ∷ before) (world_of (by Server (attaching (config Server t) (frames_at wire t (world_of r) Server) link (moment_after before)) ∷ r))
    accepts link new on = attach_cases (λ d. GoodFor (Accept link ∷ before) (world_of (by Server d ∷ r))) (config Server t) (frames_at wire t (world_of r) Server) link (moment_after before)
        (λ words. wide)
        (λ live granted. one_more limits wire t (opened (Accept link ∷ before)) (λ l. Contains (Accept link ∷ before) (Accept l)) (moment_after (Accept link ∷ before)) Server (Does (Attached link (moment_after before))) (world_of r) wide
        (record {
          own = record {
            unclosed = live;
            granted = granted;
            unused = was_not link (frames_at wire t (world_of r) Server) (λ e. new (i.named Server link e));
            in_time = i.in_time Server;
          };
          named = on;
        })
        (λ l e. ⊎_elim (λ f. subst (λ l. Contains (Accept link ∷ before) (Accept l)) (sym (eqb-true l link f)) (0, omega arith, refl)) (λ f. wide.named Server l f)
        (or_cases (l == link) (was_on l (frames_at wire t (world_of r) Server)) e))
        (omega (arith, i.in_time Server)))
      where
        wide : GoodFor (Accept link ∷ before) (world_of r)
        wide = widened (Accept link) before (world_of r) (le_refl (opened before)) (le_refl (moment_after before)) i

    -- an action that opens no link and brings no moment
    module _ (a : Action) (few : opened before ≤ opened (a ∷ before)) (late : moment_after before ≤ moment_after (a ∷ before)) where
      wide : GoodFor (a ∷ before) (world_of r)
      wide = widened a before (world_of r) few late i

      -- one step of a side
      steps : (side : Side) (s : ByteStep) → AllowedOverBytes limits wire (config side t) (config (other side) t) (history side (world_of r)) (history (other side) (world_of r)) s
          → ((l : ℕ) → was_on l (in_frames wire (config side t) (s ∷ history side (world_of r))) ≡ was_on l (frames_at wire t (world_of r) side))
          → of.moment (in_frames wire (config side t) (s ∷ history side (world_of r))) ≤ moment_after (a ∷ before) → GoodFor (a ∷ before) (world_of (by side (Makes s) ∷ r))
      steps side s allowed same in_time = subst (GoodFor (a ∷ before)) (sym (made_one side s r))
          (one_more limits wire t (opened (a ∷ before)) (λ l. Contains (a ∷ before) (Accept l)) (moment_after (a ∷ before)) side s (world_of r) wide allowed (λ l e. wide.named side l (sym (same l) ∙ e)) in_time)

      loses : (side : Side) → GoodFor (a ∷ before) (world_of (map (by side) (losing (frames_at wire t (world_of r) side) (moment_after before)) ++ r))
      loses side = both (λ ds. GoodFor (a ∷ before) (world_of (map (by side) ds ++ r))) (is_some (present_link (frames_at wire t (world_of r) side))) _ _
          (λ e. let p = is_there (present_link (frames_at wire t (world_of r) side)) e in
          steps side (Does (Detached (moment_after before))) (p.0, p.1, i.in_time side) (λ l. refl) (omega (arith, i.in_time side, late)))
          (λ e. wide)

      closes : (side : Side) → GoodFor (a ∷ before) (world_of (map (by side) (closing (config side t) (frames_at wire t (world_of r) side)) ++ r))
      closes side = both (λ ds. GoodFor (a ∷ before) (world_of (map (by side) ds ++ r))) (is_closed (config side t) (frames_at wire t (world_of r) side)) _ _
          (λ e. wide)
          (λ e. steps side (Does (Closed Done false)) e (λ l. refl) (wide.in_time side))

      sends : (side : Side) (m : Message) (d : Doing) → Sending limits wire (config side t) (frames_at wire t (world_of r) side) m d → GoodFor (a ∷ before) (world_of (by side d ∷ r))
      sends side m d (inl p) = subst (λ d. GoodFor (a ∷ before) (world_of (by side d ∷ r))) (sym p.1)
          (steps side (Does (Sent (said_again (codec_of (config side t) (frames_at wire t (world_of r) side)) m))) p.0 (λ l. refl) (wide.in_time side))
      sends side m d (inr p) = subst (λ d. GoodFor (a ∷ before) (world_of (by side d ∷ r))) (sym p.1.1)
          (subst (GoodFor (a ∷ before)) (sym (refused_one side _ r)) wide)

      writes : (side : Side) (ss : List ByteStep) → Follow (writing wire (config side t)) (history side (world_of r)) ss → GoodFor (a ∷ before) (world_of (made_by side ss ++ r))
      writes side ss f = subst (GoodFor (a ∷ before)) (sym (made side ss r))
          (follow limits wire t (opened (a ∷ before)) (λ l. Contains (a ∷ before) (Accept l)) (moment_after (a ∷ before)) (writing wire (config side t)) side (world_of r) wide
          (λ ss s good same e. written limits wire t (config side t) (config (other side) t) (ss ++ history side (world_of r)) (history (other side) (world_of r)) s e) ss f).0

      -- what is to be read is a first part of what the other end said
      read_front : (side : Side) (count : Count) (o : Option ℕ) (l : ℕ) → o ≡ Some l
          → IsPrefix (to_be_read wire t (world_of r) side count o) (lent_bytes wire (config (other side) t) l (history (other side) (world_of r)))
      read_front side count None l e = absurd (cc)
      read_front side Everything (Some j) l e = let same : j ≡ l = cc in subst (λ l. IsPrefix (to_be_read wire t (world_of r) side Everything (Some j)) (lent_bytes wire (config (other side) t) l (history (other side) (world_of r)))) same
          ([], append-nil (lent_bytes wire (config (other side) t) j (history (other side) (world_of r))))
      read_front side (UpTo n) (Some j) l e = let same : j ≡ l = cc in subst (λ l. IsPrefix (to_be_read wire t (world_of r) side (UpTo n) (Some j)) (lent_bytes wire (config (other side) t) l (history (other side) (world_of r)))) same
          (take_prefix (length (bytes_on j (history side (world_of r))) + n) (lent_bytes wire (config (other side) t) j (history (other side) (world_of r))))

      reads : (side : Side) (count : Count) (ss : List ByteStep)
          → Follow (reading limits wire (config side t) (to_be_read wire t (world_of r) side count (present_link (frames_at wire t (world_of r) side)))) (history side (world_of r)) ss
          → GoodFor (a ∷ before) (world_of (made_by side ss ++ r))
      reads side count ss f = subst (GoodFor (a ∷ before)) (sym (made side ss r))
          (follow limits wire t (opened (a ∷ before)) (λ l. Contains (a ∷ before) (Accept l)) (moment_after (a ∷ before))
          (reading limits wire (config side t) (to_be_read wire t (world_of r) side count (present_link (frames_at wire t (world_of r) side)))) side (world_of r) wide
          (λ ss s good same e. read limits wire t taken grows bounded sound (config side t) (config (other side) t) (ss ++ history side (world_of r)) (history (other side) (world_of r))
          (to_be_read wire t (world_of r) side count (present_link (frames_at wire t (world_of r) side)))
          (subst (IsHistory limits wire (config side t)) (own side ss (world_of r)) (histories side (After side ss (world_of r)) good.world))
          (λ l at. subst (λ y. IsPrefix (bytes_on l (ss ++ history side (world_of r))) (lent_bytes wire (config (other side) t) l y)) (others side ss (world_of r))
          (subst (λ x. IsPrefix (bytes_on l x) (lent_bytes wire (config (other side) t) l (history (other side) (After side ss (world_of r))))) (own side ss (world_of r))
          (fed_is_lent (alike limits) wire t (After side ss (world_of r)) side l good.world)))
          (λ l at. read_front side count (present_link (frames_at wire t (world_of r) side)) l (sym same ∙ at))
          s e) ss f).0

    ticks : (now : ℕ) → moment_after before ≤ now
        → GoodFor (Tick now ∷ before) (world_of (by Server (ticking (config Server t) (frames_at wire t (world_of r) Server) now) ∷ by Client (ticking (config Client t) (frames_at wire t (world_of r) Client) now) ∷ r))
    ticks now late = both (λ s. GoodFor (Tick now ∷ before) (ByServer (Does s) ∷ ByClient (Does (if is_silence (config Client t) now (frames_at wire t (world_of r) Client) then Silenced now else Ticked now)) ∷ world_of r))
        (is_silence (config Server t) now (frames_at wire t (world_of r) Server)) (Silenced now) (Ticked now)
        (λ e. then_one (Does (Silenced now)) (e, omega (arith, late, i.in_time Server)) (λ l f. wide_now.named Server l f) (omega (arith, late, i.in_time Server)))
        (λ e. then_one (Does (Ticked now)) (e, omega (arith, late, i.in_time Server)) (λ l f. wide_now.named Server l f) (omega (arith, late, i.in_time Server)))
      where
        wide_now : GoodFor (Tick now ∷ before) (world_of r)
        wide_now = widened (Tick now) before (world_of r) (le_refl (opened before)) late i

        one : (s : ByteStep) → AllowedOverBytes limits wire (config Client t) (config Server t) (client_of (world_of r)) (server_of (world_of r)) s
            → ((l : ℕ) → was_on l (in_frames wire (config Client t) (s ∷ client_of (world_of r))) ≡ true → l < opened before)
            → of.moment (in_frames wire (config Client t) (s ∷ client_of (world_of r))) ≤ now → GoodFor (Tick now ∷ before) (ByClient s ∷ world_of r)
        one s allowed named in_time = one_more limits wire t (opened (Tick now ∷ before)) (λ l. Contains (Tick now ∷ before) (Accept l)) (moment_after (Tick now ∷ before)) Client s (world_of r) wide_now allowed named in_time

        first : GoodFor (Tick now ∷ before) (ByClient (Does (if is_silence (config Client t) now (frames_at wire t (world_of r) Client) then Silenced now else Ticked now)) ∷ world_of r)
        first = both (λ s. GoodFor (Tick now ∷ before) (ByClient (Does s) ∷ world_of r)) (is_silence (config Client t) now (frames_at wire t (world_of r) Client)) (Silenced now) (Ticked now)
            (λ e. one (Does (Silenced now)) (e, omega (arith, late, i.in_time Client)) (λ l f. i.named Client l f) (omega (arith, late, i.in_time Client)))
            (λ e. one (Does (Ticked now)) (e, omega (arith, late, i.in_time Client)) (λ l f. i.named Client l f) (omega (arith, late, i.in_time Client)))

        then_one : (s : ByteStep) → AllowedOverBytes limits wire (config Server t) (config Client t) (server_of (world_of r))
            (client_of (ByClient (Does (if is_silence (config Client t) now (frames_at wire t (world_of r) Client) then Silenced now else Ticked now)) ∷ world_of r)) s
            → ((l : ℕ) → was_on l (in_frames wire (config Server t) (s ∷ server_of (world_of r))) ≡ true → Contains (Tick now ∷ before) (Accept l))
            → of.moment (in_frames wire (config Server t) (s ∷ server_of (world_of r))) ≤ now
            → GoodFor (Tick now ∷ before) (ByServer s ∷ ByClient (Does (if is_silence (config Client t) now (frames_at wire t (world_of r) Client) then Silenced now else Ticked now)) ∷ world_of r)
        then_one s allowed named in_time = one_more limits wire t (opened (Tick now ∷ before)) (λ l. Contains (Tick now ∷ before) (Accept l)) (moment_after (Tick now ∷ before)) Server s
            (ByClient (Does (if is_silence (config Client t) now (frames_at wire t (world_of r) Client) then Silenced now else Ticked now)) ∷ world_of r) first allowed named in_time

    acts : (a : Action) (new : Run) → IsInTurn before a → Acts limits wire t before r a new → GoodFor (a ∷ before) (world_of (new ++ r))
    acts Open new turn e = subst (λ n. GoodFor (Open ∷ before) (world_of (n ++ r))) (sym e) opens
    acts (Accept link) new turn e = subst (λ n. GoodFor (Accept link ∷ before) (world_of (n ++ r))) (sym e)
        (both (λ n. GoodFor (Accept link ∷ before) (world_of (n ++ r))) (was_on link (frames_at wire t (world_of r) Client)) _ _
        (λ on. accepts link turn.1 on)
        (λ off. wide (Accept link) (le_refl (opened before)) (le_refl (moment_after before))))
    acts (Lose side) new turn e = subst (λ n. GoodFor (Lose side ∷ before) (world_of (n ++ r))) (sym e) (loses (Lose side) (le_refl (opened before)) (le_refl (moment_after before)) side)
    acts (Write side count) new turn e = subst (λ n. GoodFor (Write side count ∷ before) (world_of (n ++ r))) (sym e.1.1)
        (writes (Write side count) (le_refl (opened before)) (le_refl (moment_after before)) side e.0 (up_to count (writing wire (config side t)) (history side (world_of r)) e.0 e.1.0))
    acts (Read side count) new turn e = subst (λ n. GoodFor (Read side count ∷ before) (world_of (n ++ r))) (sym e.1.1)
        (reads (Read side count) (le_refl (opened before)) (le_refl (moment_after before)) side count e.0 e.1.0.0)
    acts (Close side) new turn e = subst (λ n. GoodFor (Close side ∷ before) (world_of (n ++ r))) (sym e) (closes (Close side) (le_refl (opened before)) (le_refl (moment_after before)) side)
    acts (Send side m) new turn e = subst (λ n. GoodFor (Send side m ∷ before) (world_of (n ++ r))) (sym e.1.1)
        (sends (Send side m) (le_refl (opened before)) (le_refl (moment_after before)) side m e.0 e.1.0)
    acts (Tick now) new turn e = subst (λ n. GoodFor (Tick now ∷ before) (world_of (n ++ r))) (sym e) (ticks now turn)
    acts _ new turn e = absurd e

  good : (actions : List Action) (r : Run) → AreInTurn actions → Runs limits wire t actions r → GoodFor actions (world_of r)
  good [] r turns e = subst (λ r. GoodFor [] (world_of r)) (sym e) (record {
    world = refl;
    named = pick (λ side. (l : ℕ) → was_on l (frames_at wire t [] side) ≡ true → Named 0 (λ l. Contains [] (Accept l)) side l) (λ l f. absurd (cc)) (λ l f. absurd (cc));
    in_time = pick (λ side. of.moment (frames_at wire t [] side) ≤ 0) (omega arith) (omega arith);
  })
  good (a ∷ before) r turns e = subst (λ r. GoodFor (a ∷ before) (world_of r)) (sym e.2.2)
      (acts before e.0 (good before e.0 turns.0 e.2.0) a e.1 turns.1 e.2.1)

  pub is_world : (actions : List Action) (r : Run) → AreInTurn actions → Runs limits wire t actions r → IsWorldOf limits wire t actions (world_of r)
  is_world actions r turns e = let g = good actions r turns e in record { world = g.world; opened_links = g.named Client; accepted_links = g.named Server; in_time = g.in_time }
