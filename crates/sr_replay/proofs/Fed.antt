-- What an end reads on its link makes of what a replay keeps of it.
use Rattle.std.proofs.Common.{◌≡◌, ℕ, zero, suc, ◌+◌, ◌-◌, ◌<◌, ◌≤◌, Bool, true, false, List, [], ◌∷◌, ◌++◌, length, take, drop, Option, Some, None, refl, sym, ap, ◌∙◌, subst, arith, length-append, length-drop, append-nil, min, zero-le}
use Rattle.std.proofs.lemmas.List.{drop-take}
use Rattle.std.proofs.Math.Nat.{min-eq_left}
use Rattle.std.specs.Prelude.{option_map, if◌then◌else◌}
use Rattle.hd_facts.specs.Prefixes.{IsPrefix}
use Rattle.hd_delivery.specs.Numbers.{most_framing}
use Rattle.hd_delivery.specs.Histories as of
use Rattle.hd_delivery.specs.Histories.{EndEvent, Took, Failed, first_of, present_link, was_on, is_shaken, is_closed}
use Rattle.hd_delivery.specs.Processes.{processes, next_frame}
use Rattle.hd_delivery.specs.Worlds.{Limits}
use Rattle.hd_delivery.specs.Bytes.{Wire, IsSoundWire, ByteStep, Bytes, Does, bare_steps, bytes_on, in_frames, lent_bytes, unread_count}
use Rattle.hd_delivery.specs.OneHistory.{IsHistory}
use Rattle.hd_delivery.specs.Laws.{FedIsUnseen}
use Rattle.sr_script.specs.declared.action.Count.{Count}
use Rattle.sr_script.specs.declared.action.Count.TheVariants.{UpTo, Everything}
use Rattle.sr_replay.specs.declared.player.Player.{Player}
use Rattle.hd_delivery.specs.AloneLaws.{FramesAreTaken, LentStays, TakenHasRoom}
use Rattle.hd_delivery.specs.Following.{Follow, FollowAll}
use Rattle.hd_delivery.specs.Alone.{IsOfFrame, piece_fed, feeding, reading}
use Rattle.sr_replay.specs.Runs.{read_in_all}
use Rattle.sr_replay.specs.Plays.{Plays, limits_at}
use Rattle.sr_replay.specs.Follows.{IsPlayed}
use Rattle.sr_replay.proofs.Small.{both, is_this-same, next_piece}
use Rattle.sr_replay.proofs.Played.{took_all, processes_none}

-- ---- steps of an end that reads

fed_one : (piece : List ℕ) (s : ByteStep) → piece_fed piece ≡ Some s → Bytes piece ≡ s
fed_one [] s e = absurd (cc)
fed_one (b ∷ piece) s e = cc

live_of : (b : Bool) (o : Option EndEvent) (u : EndEvent) → (if b then None else o) ≡ Some u → b ≡ false
live_of true o u e = absurd (cc)
live_of false o u e = refl

module _ (taken : FramesAreTaken) (stays : LentStays) (unseen : FedIsUnseen) (limits : Limits) (wire : Wire) (c : of.Config) (l : ℕ) (all : List ℕ) where
  -- a step of an end that reads on this link, where it may read these bytes in all
  record Reads (x now : List ByteStep) : Type 0 where
    at : present_link (in_frames wire c now) ≡ Some l
    names : (j : ℕ) → was_on j (in_frames wire c now) ≡ was_on j (in_frames wire c x)
    lent : (j : ℕ) → lent_bytes wire c j now ≡ lent_bytes wire c j x
    front : IsPrefix (bytes_on l x) all → IsPrefix (bytes_on l now) all
    live : is_closed c (in_frames wire c now) ≡ false → is_closed c (in_frames wire c x) ≡ false

  took : (x : List ByteStep) (u : EndEvent) → present_link (in_frames wire c x) ≡ Some l → IsOfFrame (is_shaken (in_frames wire c x)) u → is_closed c (in_frames wire c x) ≡ false
      → IsHistory limits wire c (Does u ∷ x) → Reads x (Does u ∷ x)
  took x (Took got) at is live i = record { at = at; names = λ j. refl; lent = λ j. stays limits wire c x (Does (Took got)) j i (λ f e h. absurd (cc)); front = λ p. p; live = λ e. live }
  took x (Failed fault) at is live i = record { at = at; names = λ j. refl; lent = λ j. refl; front = λ p. p; live = λ e. live }
  took x u at is live i = absurd is

  fed : (x : List ByteStep) (n : ℕ) → present_link (in_frames wire c x) ≡ Some l → is_closed c (in_frames wire c x) ≡ false → Reads x (Bytes (take n (drop (length (bytes_on l x)) all)) ∷ x)
  fed x n at live = record {
    at = at;
    names = λ j. refl;
    lent = λ j. refl;
    front = λ p. subst (λ b. IsPrefix (if b then bytes_on l x ++ take n (drop (length (bytes_on l x)) all) else bytes_on l x) all) (sym (is_this-same l (present_link (bare_steps x)) (sym (unseen wire c x).link ∙ at)))
        (next_piece n (bytes_on l x) all all p ([], append-nil all));
    live = λ e. live;
  }

  one : (x : List ByteStep) (s : ByteStep) → present_link (in_frames wire c x) ≡ Some l → IsHistory limits wire c (s ∷ x) → reading limits wire c all x ≡ Some s → Reads x (s ∷ x)
  one x s at i e = go (processes c (in_frames wire c x)) refl e
    where
      feeds : (o : Option ℕ) → o ≡ Some l → is_closed c (in_frames wire c x) ≡ false → feeding limits wire c all x o ≡ Some s → Reads x (s ∷ x)
      feeds None there live f = absurd (cc)
      feeds (Some j) there live f =
          let same : j ≡ l = cc in
          let f' : feeding limits wire c all x (Some l) ≡ Some s = subst (λ j. feeding limits wire c all x (Some j) ≡ Some s) same f in
          subst (λ s. Reads x (s ∷ x)) (fed_one (take ((limits.frame + most_framing) - unread_count wire c l x) (drop (length (bytes_on l x)) all)) s f')
          (fed x ((limits.frame + most_framing) - unread_count wire c l x) at live)

      open_end : (b : Bool) → is_closed c (in_frames wire c x) ≡ b → (if b then None else feeding limits wire c all x (present_link (in_frames wire c x))) ≡ Some s → Reads x (s ∷ x)
      open_end true live f = absurd (cc)
      open_end false live f = feeds (present_link (in_frames wire c x)) at live f

      go : (o : Option EndEvent) → processes c (in_frames wire c x) ≡ o
          → first_of (option_map Does o) (if is_closed c (in_frames wire c x) then None else feeding limits wire c all x (present_link (in_frames wire c x))) ≡ Some s → Reads x (s ∷ x)
      go None p f = open_end (is_closed c (in_frames wire c x)) refl f
      go (Some u) p f =
          let q : Does u ≡ s = cc in
          let live = live_of (is_closed c (in_frames wire c x)) (next_frame c (in_frames wire c x) (present_link (in_frames wire c x))) u p in
          subst (λ s. IsHistory limits wire c (s ∷ x) → Reads x (s ∷ x)) q (took x u at (taken c (in_frames wire c x) u p) live) i

  follow : (h ss : List ByteStep) → present_link (in_frames wire c h) ≡ Some l → Follow (reading limits wire c all) h ss → IsHistory limits wire c (ss ++ h) → Reads h (ss ++ h)
  follow h [] at f i = record { at = at; names = λ j. refl; lent = λ j. refl; front = λ p. p; live = λ e. e }
  follow h (s ∷ ss) at f i =
      let before = follow h ss at f.0 i.0 in
      let now = one (ss ++ h) s before.at i f.1 in record {
        at = now.at;
        names = λ j. now.names j ∙ before.names j;
        lent = λ j. now.lent j ∙ before.lent j;
        front = λ p. now.front (before.front p);
        live = λ e. before.live (now.live e);
      }

-- ---- where it ends

neither : (o : Option EndEvent) (p : Option ByteStep) → first_of (option_map Does o) p ≡ None → (o ≡ None) × (p ≡ None)
neither None p e = (refl, e)
neither (Some u) p e = absurd (cc)

no_piece : (piece : List ℕ) → piece_fed piece ≡ None → length piece ≡ 0
no_piece [] e = refl
no_piece (b ∷ piece) e = absurd (cc)

-- with room for a byte nothing is left
none_left : (n : ℕ) (xs : List ℕ) → 0 < n → length (take n xs) ≡ 0 → length xs ≡ 0
none_left zero xs more e = absurd (omega (arith, more))
none_left (suc n) [] more e = refl
none_left (suc n) (x ∷ xs) more e = absurd (omega (arith, e))

module _ (taken : FramesAreTaken) (stays : LentStays) (unseen : FedIsUnseen) (room : TakenHasRoom) (limits : Limits) (wire : Wire) (sound : IsSoundWire limits wire) (c : of.Config) (l : ℕ) (all : List ℕ) (h ss : List ByteStep)
    (at : present_link (in_frames wire c h) ≡ Some l) (is : FollowAll (reading limits wire c all) h ss) (i : IsHistory limits wire c (ss ++ h)) where
  pub said_as_before : (j : ℕ) → lent_bytes wire c j (ss ++ h) ≡ lent_bytes wire c j h
  said_as_before = (follow taken stays unseen limits wire c l all h ss at is.0 i).lent

  pub named_as_before : (j : ℕ) → was_on j (in_frames wire c (ss ++ h)) ≡ was_on j (in_frames wire c h)
  named_as_before = (follow taken stays unseen limits wire c l all h ss at is.0 i).names

  -- an end that isn't closed then has read all
  read_all : IsPrefix (bytes_on l h) all → is_closed c (in_frames wire c (ss ++ h)) ≡ false → length all ≡ length (bytes_on l (ss ++ h))
  read_all p live =
      let now = follow taken stays unseen limits wire c l all h ss at is.0 i in
      let last = neither (processes c (in_frames wire c (ss ++ h))) (if is_closed c (in_frames wire c (ss ++ h)) then None else feeding limits wire c all (ss ++ h) (present_link (in_frames wire c (ss ++ h)))) is.1 in
      let unfed : feeding limits wire c all (ss ++ h) (Some l) ≡ None =
      ap (feeding limits wire c all (ss ++ h)) (sym now.at)
      ∙ ap (λ b. if b then None else feeding limits wire c all (ss ++ h) (present_link (in_frames wire c (ss ++ h)))) (sym live) ∙ last.1 in
      let has = (room limits wire c (ss ++ h) l (record { sound = sound; is_history = i; here = now.at }) live last.0).room in
      let none = none_left ((limits.frame + most_framing) - unread_count wire c l (ss ++ h)) (drop (length (bytes_on l (ss ++ h))) all) (omega (arith, has))
      (no_piece (take ((limits.frame + most_framing) - unread_count wire c l (ss ++ h)) (drop (length (bytes_on l (ss ++ h))) all)) unfed) in
      let front = now.front p in
      let whole = sym (length-append (bytes_on l (ss ++ h)) front.0) ∙ ap length front.1 in
      omega (arith, none, whole, length-drop (length (bytes_on l (ss ++ h))) all)

  pub reads : (p x : Player) (before place : ℕ) → IsPlayed limits wire c p before h → limits_at x ≡ limits_at p → IsPrefix (bytes_on l h) all
      → (is_closed c (in_frames wire c h) ≡ false → place ≡ length all) → Plays wire c x (ss ++ h) → IsPlayed limits wire c x place (ss ++ h)
  reads p x before place was same front ends plays =
      let now = follow taken stays unseen limits wire c l all h ss at is.0 i in
      let last = neither (processes c (in_frames wire c (ss ++ h))) (if is_closed c (in_frames wire c (ss ++ h)) then None else feeding limits wire c all (ss ++ h) (present_link (in_frames wire c (ss ++ h)))) is.1 in record {
        plays = plays;
        keeps = same ∙ was.keeps;
        took_all = took_all c (in_frames wire c (ss ++ h)) last.0;
        read_to = λ j there live. let same_link : Some l ≡ Some j = sym now.at ∙ there in let e : l ≡ j = cc in subst (λ j. place ≡ length (bytes_on j (ss ++ h))) e
            (ends (now.live live) ∙ read_all front live);
      }

-- without a link nothing is read
pub none_read : (limits : Limits) (wire : Wire) (c : of.Config) (all : List ℕ) (h : List ByteStep) → present_link (in_frames wire c h) ≡ None → reading limits wire c all h ≡ None
none_read limits wire c all h at =
    ap (λ o. first_of (option_map Does o) (if is_closed c (in_frames wire c h) then None else feeding limits wire c all h (present_link (in_frames wire c h))))
    (processes_none c (in_frames wire c h) (λ l there live. absurd (cc)))
    ∙ ap (λ o. if is_closed c (in_frames wire c h) then None else feeding limits wire c all h o) at
    ∙ both (λ o. o ≡ None) (is_closed c (in_frames wire c h)) None None (λ e. refl) (λ e. refl)

-- what was read is a first part of what is to be read in all
take_on : (xs rest : List ℕ) (n : ℕ) → take (length xs + n) (xs ++ rest) ≡ xs ++ take n rest
take_on [] rest n = let e : zero + n ≡ n = omega arith in ap (λ m. take m rest) e
take_on (x ∷ xs) rest n = let e : suc (length xs) + n ≡ suc (length xs + n) = omega arith in ap (λ m. take m (x ∷ xs ++ rest)) e ∙ ap (λ ys. x ∷ ys) (take_on xs rest n)

pub front_of_all : (count : Count) (before said : List ℕ) → IsPrefix before said → IsPrefix before (read_in_all count (length before) said)
front_of_all Everything before said p = p
front_of_all (UpTo n) before said p = (take n p.0, sym (take_on before p.0 n) ∙ ap (take (length before + n)) p.1)

-- ---- the bytes that are handed to an end

reach : (b n : ℕ) (xs : List ℕ) → b ≤ length xs → b ≤ length (take (b + n) xs)
reach zero n xs h = zero-le
reach (suc b) n [] h = absurd (omega (arith, h))
reach (suc b) n (x ∷ xs) h = let e : suc (b + n) ≡ suc b + n = omega arith in subst (λ m. suc b ≤ length (take m (x ∷ xs))) e (omega (arith, reach b n xs (omega (arith, h))))

reaches : (count : Count) (b : ℕ) (said : List ℕ) → b ≤ length said → b ≤ length (read_in_all count b said)
reaches Everything b said h = h
reaches (UpTo n) b said h = reach b n said h

sliced : (place end : ℕ) (said : List ℕ) → place ≤ end → take (end - place) (drop place said) ≡ drop place (take end said)
sliced place end said h = let e : place + (end - place) ≡ end = omega (arith, h) in sym (drop-take place (end - place) said) ∙ ap (λ m. drop place (take m said)) e

-- they are all that is to be read and wasn't
pub handed : (count : Count) (place from end b : ℕ) (said : List ℕ) → place ≡ b → b ≤ length said → from ≡ min place end
    → take end said ≡ read_in_all count place said → end ≡ length (read_in_all count place said) → take (end - from) (drop from said) ≡ drop b (read_in_all count b said)
handed count place from end b said before within least all_is end_is =
    let far : place ≤ end = omega (arith, end_is, reaches count place said (subst (λ n. n ≤ length said) (sym before) within)) in
    let from_is : from ≡ place = least ∙ min-eq_left far in
    ap (λ n. take (end - n) (drop n said)) from_is ∙ sliced place end said far ∙ ap (drop place) all_is ∙ ap (λ n. drop n (read_in_all count n said)) before
