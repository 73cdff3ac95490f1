-- How an end of a replay goes on, step by step.
use Rattle.std.proofs.Common.{inl, inr, ◌≡◌, ℕ, ◌+◌, ◌<◌, ◌≤◌, Bool, true, false, List, [], ◌∷◌, ◌++◌, length, None, refl, sym, ap, ◌∙◌, arith, append_assoc, drop, length-drop, if◌then◌else◌}
use Rattle.std.proofs.lemmas.List.{append-nil}
use Rattle.hd_delivery.specs.Histories as of
use Rattle.hd_delivery.specs.Histories.{Lent, sent_messages, acked_count, most_lent, is_resumable, held_messages}
use Rattle.hd_delivery.specs.Worlds.{Limits}
use Rattle.hd_delivery.specs.OneHistory.{IsHistory}
use Rattle.hd_delivery.specs.HistoryLaws.{FactsHold}
use Rattle.he_wire.specs.Laws.{WireIsSound}
use Rattle.he_wire.specs.Wires.{IsHouseWire}
use Rattle.hd_delivery.specs.Bounds.{AreLimits}
use Rattle.hd_delivery.specs.Bytes.{Wire, ByteStep, Does, in_frames}
use Rattle.sr_script.specs.declared.action.Count.{Count}
use Rattle.sr_script.specs.declared.action.Count.TheVariants.{UpTo, Everything}
use Rattle.sr_replay.specs.declared.player.Player.{Player}
use Rattle.hd_delivery.specs.AloneLaws.{WritesFew, TakesFew}
use Rattle.hd_delivery.specs.Following.{Next, Follow, FollowAll, FollowUpTo}
use Rattle.hd_delivery.specs.Alone.{writing, taking}
use Rattle.sr_replay.specs.declared.text_kind.TextKind.{TextKind}
use Rattle.sr_replay.specs.Told.{steps_text}
use Rattle.sr_replay.specs.Plays.{Plays, Text, Goes, Says, most_steps}
use Rattle.hd_delivery.specs.Alone.{lent_text}
use Rattle.sr_script.specs.Script.{most_of}

-- ---- texts

-- the text of one step more comes after that of those before it
pub record Adds (text : Text) : Type 0 where
  pub none : (h : List ByteStep) → text h [] ≡ []
  pub more : (h ss : List ByteStep) (s : ByteStep) → text h (s ∷ ss) ≡ text h ss ++ text (ss ++ h) (s ∷ [])

pub steps_add : (kind : TextKind) (wire : Wire) (c : of.Config) → Adds (steps_text kind wire c)
steps_add kind wire c = record { none = λ h. refl; more = λ h ss s. refl }

lent_more : (wire : Wire) (c : of.Config) (h ss : List ByteStep) (s : ByteStep) → lent_text wire c h (s ∷ ss) ≡ lent_text wire c h ss ++ lent_text wire c (ss ++ h) (s ∷ [])
lent_more wire c h ss (Does (Lent f)) = refl
lent_more wire c h ss _ = sym (append-nil (lent_text wire c h ss))

pub lent_add : (wire : Wire) (c : of.Config) → Adds (lent_text wire c)
lent_add wire c = record { none = λ h. refl; more = lent_more wire c }

-- ---- so many steps

-- these steps followed, this many
pub record HasGone (next : Next ByteStep) (text : Text) (wire : Wire) (c : of.Config) (h : List ByteStep) (p : Player) (before now : List ℕ) (n : ℕ) : Type 0 where
  pub steps : List ByteStep
  pub follow : Follow next h steps
  pub many : length steps ≡ n
  pub plays : Plays wire c p (steps ++ h)
  pub text_is : now ≡ before ++ text h steps

module _ (next : Next ByteStep) (text : Text) (adds : Adds text) (wire : Wire) (c : of.Config) (h : List ByteStep) where
  pub gone_none : (p : Player) (before : List ℕ) → Plays wire c p h → HasGone next text wire c h p before before 0
  gone_none p before plays = record { steps = []; follow = tt; many = refl; plays = plays; text_is = sym (ap (λ x. before ++ x) (adds.none h) ∙ append-nil before) }

  module _ (p new : Player) (before now after : List ℕ) (n : ℕ) (gone : HasGone next text wire c h p before now n) where
    pub gone_on : Goes next text wire c (gone.steps ++ h) new now after true → HasGone next text wire c h new before after (n + 1)
    gone_on more = record {
      steps = more.0 ∷ gone.steps;
      follow = (gone.follow, more.1.0);
      many = (let many = gone.many in omega arith);
      plays = more.1.1;
      text_is = more.1.2 ∙ (ap (λ x. x ++ text (gone.steps ++ h) (more.0 ∷ [])) gone.text_is
          ∙ (append_assoc before (text h gone.steps) (text (gone.steps ++ h) (more.0 ∷ [])) ∙ ap (λ x. before ++ x) (sym (adds.more h gone.steps more.0))));
    }

    pub gone_same : Goes next text wire c (gone.steps ++ h) new now after false → HasGone next text wire c h new before after n
    gone_same done = record { steps = gone.steps; follow = gone.follow; many = gone.many; plays = done.1; text_is = done.2 ∙ gone.text_is }

    -- nothing comes next, so these are all of them
    pub all_done : Goes next text wire c (gone.steps ++ h) new now after false
        → (ss : List ByteStep) × (FollowAll next h ss × Plays wire c new (ss ++ h) × (after ≡ before ++ text h ss))
    all_done done = (gone.steps, ((gone.follow, done.0), done.1, done.2 ∙ gone.text_is))

    up_to_all : (count : Count) → n < most_steps count → next (gone.steps ++ h) ≡ None → FollowUpTo (most_of count) next h gone.steps
    up_to_all (UpTo m) few none = inr ((gone.follow, none), omega (arith, gone.many))
    up_to_all Everything few none = (gone.follow, none)

  module _ (p : Player) (before now : List ℕ) where
    -- so many of them
    up_to_end : (count : Count) (gone : HasGone next text wire c h p before now (most_steps count)) → length gone.steps < most_steps Everything → FollowUpTo (most_of count) next h gone.steps
    up_to_end (UpTo m) gone few = inl (gone.follow, gone.many)
    up_to_end Everything gone few = absurd (let many = gone.many in omega arith)

-- ---- frames that are said

-- these frames were said on the link, this many, and told
pub record HasSaid (kind : TextKind) (wire : Wire) (c : of.Config) (h : List ByteStep) (p : Player) (lane_before lane_now before now : List ℕ) (n : ℕ) : Type 0 where
  pub gone : HasGone (writing wire c) (lent_text wire c) wire c h p lane_before lane_now n
  pub told : now ≡ before ++ steps_text kind wire c h gone.steps

module _ (kind : TextKind) (wire : Wire) (c : of.Config) (h : List ByteStep) where
  -- what was said and told in the end
  abbrev pub Ends : Player → (lane_before lane_after before after : List ℕ) → Count → Type 0
  Ends new lane_before lane_after before after count = (ss : List ByteStep) × (FollowUpTo (most_of count) (writing wire c) h ss × Plays wire c new (ss ++ h)
      × (lane_after ≡ lane_before ++ lent_text wire c h ss) × (after ≡ before ++ steps_text kind wire c h ss))

  pub said_none : (p : Player) (lane told : List ℕ) → Plays wire c p h → HasSaid kind wire c h p lane lane told told 0
  said_none p lane told plays = record {
    gone = record { steps = []; follow = tt; many = refl; plays = plays; text_is = sym (append-nil lane) };
    told = sym (append-nil told);
  }

  module _ (p new : Player) (lane_before lane_now lane_after before now after : List ℕ) (n : ℕ) (has : HasSaid kind wire c h p lane_before lane_now before now n) where
    pub said_on : Says kind wire c (has.gone.steps ++ h) new lane_now lane_after now after true → HasSaid kind wire c h new lane_before lane_after before after (n + 1)
    said_on more = record {
      gone = record {
        steps = more.0 ∷ has.gone.steps;
        follow = (has.gone.follow, more.1.0);
        many = (let many = has.gone.many in omega arith);
        plays = more.1.1;
        text_is = more.1.2 ∙ (ap (λ x. x ++ lent_text wire c (has.gone.steps ++ h) (more.0 ∷ [])) has.gone.text_is
            ∙ (append_assoc lane_before (lent_text wire c h has.gone.steps) (lent_text wire c (has.gone.steps ++ h) (more.0 ∷ []))
            ∙ ap (λ x. lane_before ++ x) (sym (lent_more wire c h has.gone.steps more.0))));
      };
      told = more.1.3 ∙ (ap (λ x. x ++ steps_text kind wire c (has.gone.steps ++ h) (more.0 ∷ [])) has.told
          ∙ append_assoc before (steps_text kind wire c h has.gone.steps) (steps_text kind wire c (has.gone.steps ++ h) (more.0 ∷ [])));
    }

    pub said_done : (count : Count) → n < most_steps count → Says kind wire c (has.gone.steps ++ h) new lane_now lane_after now after false
        → Ends new lane_before lane_after before after count
    said_done count few done = (
      has.gone.steps,
      (
        up_to_all (writing wire c) (lent_text wire c) (lent_add wire c) wire c h p new lane_before lane_now lane_after n has.gone count few done.0,
        done.1,
        done.2 ∙ has.gone.text_is,
        done.3 ∙ has.told,
      ),
    )

  pub said_most : (p : Player) (lane_before lane_now before now : List ℕ) (count : Count) (has : HasSaid kind wire c h p lane_before lane_now before now (most_steps count))
      → length has.gone.steps < most_steps Everything → Ends p lane_before lane_now before now count
  said_most p lane_before lane_now before now count has few = (
    has.gone.steps,
    (
      up_to_end (writing wire c) (lent_text wire c) (lent_add wire c) wire c h p lane_before lane_now count has.gone few,
      has.gone.plays,
      has.gone.text_is,
      has.told,
    ),
  )

-- ---- they are few

shorter : {A : Type 0} (b : Bool) (n m : ℕ) (xs : List A) → length (if b then drop n xs else drop m xs) ≤ length xs
shorter true n m xs = omega (arith, length-drop n xs)
shorter false n m xs = omega (arith, length-drop m xs)

-- an end that writes makes fewer steps than 64 bits count
pub written_few : WritesFew → FactsHold → (limits : Limits) (wire : Wire) (c : of.Config) (h ss : List ByteStep) → IsHistory limits wire c h → Follow (writing wire c) h ss
    → length ss < most_steps Everything
written_few few facts limits wire c h ss history follow =
    let k = in_frames wire c h in
    let all = few limits wire c h ss history follow in
    let sent = (facts limits wire c h history).sent_are_few in
    let held : length (held_messages c k) ≤ length (sent_messages k) = shorter (is_resumable c k) (acked_count k) (most_lent k) (sent_messages k) in
    omega arith

-- so does one that takes what it was fed
pub taken_few : TakesFew → WireIsSound → (limits : Limits) (wire : Wire) (c : of.Config) (h ss : List ByteStep) → AreLimits limits → IsHouseWire limits.frame wire
    → IsHistory limits wire c h → Follow (taking wire c) h ss → length ss < most_steps Everything
taken_few few sound limits wire c h ss are house history follow =
    let all = few limits wire c h ss (sound limits wire house) history follow in
    let most = are.frame_not_more in
    omega arith
