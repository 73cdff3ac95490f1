-- What the next frame makes keeps what has to hold.
use Rattle.std.proofs.Common.{⊎_elim, ◌≡◌, ℕ, suc, ◌+◌, ◌<◌, ◌≤◌, Bool, true, false, List, [], ◌∷◌, length, take, drop, Option, Some, None, refl, sym, ap, ◌∙◌, subst, arith, leb, ◌^◌, length-append}
use Rattle.std.specs.Prelude.{slice_get, option_map, is_some, ◌==◌, ◌||◌, if◌then◌else◌}
use Rattle.std.proofs.lemmas.List.{length-take-le}
use Rattle.std.proofs.lemmas.Bool.{eqb-true, eqb-false, leb-false}
use Rattle.hm_message.specs.declared.message.Message.{Message}
use Rattle.hd_delivery.specs.declared.vocabulary.Got.TheVariants.{Shaken, Acked, Sequenced, Resumed, Skipped}
use Rattle.hd_delivery.specs.declared.vocabulary.Side.{Side}
use Rattle.hd_delivery.specs.declared.vocabulary.Side.TheVariants.{Client, Server}
use Rattle.hd_delivery.specs.declared.vocabulary.Why.TheVariants.{Duplicate}
use Rattle.hd_delivery.specs.declared.vocabulary.Got.TheVariants as gives
use Rattle.hd_delivery.specs.Frames.{LinkFrame, Request, Response, Refusal, Numbered, Ack, Sequence, Ping, Close, Foreign, Strange, Unreadable, one_more, count, number, received_of, told_count}
use Rattle.hd_delivery.specs.Histories.{Config, EndEvent, Took, is_this, present_link, first_link, fed_frames, taken_count, read_frames, sent_messages, processed_messages, most_lent, is_shaken, is_three, is_resumable, is_closed, is_resumed}
use Rattle.hd_delivery.specs.Due.{answer}
use Rattle.hd_delivery.specs.Processes.{reads_handshake, reads_message, next_number, reads_frame, reads, next_frame, processes}
use Rattle.hd_delivery.specs.Worlds.{Terms, config}
use Rattle.hd_delivery.proofs.Lists.{take_split, get_within, prefix_next}
use Rattle.hd_delivery.proofs.Local.{is_this-same, both, here_was}
use Rattle.hd_delivery.proofs.Carries.{Facts, uses, facts, HasNumber, MayStand, MayCarry-prefix, MayCarry-any}
use Rattle.hd_delivery.proofs.Pair.{messages, is_seq, other, Pair, Fit, Makes, the_fed, next_ok, their_first, three_is}

-- the first frame of the first link completes the handshake
record Shakes (side : Side) (terms : Terms) (x : List EndEvent) (t : LinkFrame) : Type 0 where
  makes : reads_handshake side (config side terms) x t ≡ Took (Shaken terms.codec terms.version)
  counts : count None t ≡ Some 1
  no_count : told_count t ≡ 0
  no_message : messages (t ∷ []) ≡ []
  no_sequence : is_seq t ≡ false

handshake_ok : (side : Side) (terms : Terms) (x : List EndEvent) (F : Facts) (l : ℕ) (t : LinkFrame) → F.side ≡ other side → F.version ≡ terms.version → F.codec ≡ terms.codec → F.first ≡ Some l → MayStand F l None t → Shakes side terms x t
handshake_ok Client terms x F l (Request k v) s e c f o = absurd (let a : F.side ≡ Client = o.0 in cc)
handshake_ok Client terms x F l Response s e c f o = record { makes = refl; counts = refl; no_count = refl; no_message = refl; no_sequence = refl }
handshake_ok Server terms x F l (Request k v) s e c f o = record { makes = (let a = o.4 ∙ c in let b = o.3 ∙ e in λ i. Took (Shaken (a i) (b i))); counts = refl; no_count = refl; no_message = refl; no_sequence = refl }
handshake_ok Server terms x F l Response s e c f o = absurd (let a : F.side ≡ Server = o.0 in cc)
handshake_ok side terms x F l (Numbered m) s e c f o = absurd (let a : None ≡ Some o.0.0 = o.0.1 in cc)
handshake_ok side terms x F l (Ack a) s e c f o = absurd (let a : None ≡ Some o.0.0 = o.0.1 in cc)
handshake_ok side terms x F l (Sequence n received) s e c f o = absurd (o.4 refl f)
handshake_ok side terms x F l Ping s e c f o = absurd (let a : None ≡ Some o.0 = o.1 in cc)
handshake_ok side terms x F l (Close error allow) s e c f o = absurd (let a : None ≡ Some o.0.0 = o.0.1 in cc)
handshake_ok side terms x F l (Refusal text) s e c f o = absurd o
handshake_ok side terms x F l (Foreign k) s e c f o = absurd o
handshake_ok side terms x F l (Strange why answer) s e c f o = absurd o
handshake_ok side terms x F l (Unreadable at why) s e c f o = absurd o

-- the step that the next frame makes, with the frame
pub read_step : (c : Config) (h : List EndEvent) (s : EndEvent) → processes c h ≡ Some s
    → (l : ℕ) × (t : LinkFrame) × (present_link h ≡ Some l) × (slice_get (fed_frames l h) (taken_count l h) ≡ Some t) × (reads c h (next_number c h l) t ≡ s)
read_step c h s e = on_closed (is_closed c h) e
  where
    on_frame : (l : ℕ) → present_link h ≡ Some l → (o : Option LinkFrame) → slice_get (fed_frames l h) (taken_count l h) ≡ o → option_map (reads c h (next_number c h l)) o ≡ Some s
        → (l : ℕ) × (t : LinkFrame) × (present_link h ≡ Some l) × (slice_get (fed_frames l h) (taken_count l h) ≡ Some t) × (reads c h (next_number c h l) t ≡ s)
    on_frame l at None g e = absurd (cc)
    on_frame l at (Some t) g e = (l, t, at, g, cc)

    on_link : (o : Option ℕ) → present_link h ≡ o → next_frame c h o ≡ Some s
        → (l : ℕ) × (t : LinkFrame) × (present_link h ≡ Some l) × (slice_get (fed_frames l h) (taken_count l h) ≡ Some t) × (reads c h (next_number c h l) t ≡ s)
    on_link None at e = absurd (cc)
    on_link (Some l) at e = on_frame l at (slice_get (fed_frames l h) (taken_count l h)) refl e

    on_closed : (b : Bool) → (if b then None else next_frame c h (present_link h)) ≡ Some s
        → (l : ℕ) × (t : LinkFrame) × (present_link h ≡ Some l) × (slice_get (fed_frames l h) (taken_count l h) ≡ Some t) × (reads c h (next_number c h l) t ≡ s)
    on_closed true e = absurd (cc)
    on_closed false e = on_link (present_link h) refl e

module _ (side : Side) (terms : Terms) (x y : List EndEvent) (i : Pair side terms x y) where
  read_handshake : (l : ℕ) (t : LinkFrame) → present_link x ≡ Some l → slice_get (fed_frames l x) (taken_count l x) ≡ Some t → is_shaken x ≡ false → Makes side terms x y l t (reads_handshake side (config side terms) x t)
  read_handshake l t at next s =
      let first = i.own.one_link s l (here_was l x at) in
      let theirs = their_first side terms x y i l t next in
      let same : l ≡ theirs.0 = i.agree l theirs.0 first theirs.1 in
      let none : number (read_frames l x) ≡ None = ap (λ n. number (take n (fed_frames l x))) (i.own.none_taken s l) in
      let ok = subst (λ n. MayStand (facts (other side) terms y x) l n t) none (next_ok side terms x y i l t next) in
      let shakes = handshake_ok side terms x (facts (other side) terms y x) l t refl refl refl (theirs.1 ∙ ap Some (sym same)) ok in
      let no_count = shakes.no_count in (
        Shaken terms.codec terms.version,
        shakes.makes,
        record {
          shakes = refl;
          keeping = refl;
          version = refl;
          speaks = refl;
          plain = i.own.plain;
          faultless = i.own.faultless;
          unskipped = i.own.unskipped;
          grows = omega arith;
          in_order = i.from.in_order;
          most = i.from.most;
          acks_grow = omega arith;
          acks = i.to.acks;
          counts = λ n e. let e' : Some 1 ≡ Some n = sym shakes.counts ∙ ap (λ m. count m t) (sym none) ∙ e in let e2 : 1 ≡ n = cc in omega arith;
          exact = λ b n e. let e' : Some 1 ≡ Some n = sym shakes.counts ∙ ap (λ m. count m t) (sym none) ∙ e in let e2 : 1 ≡ n = cc in let u = ap length (i.own.unheard s).0 in omega arith;
          hears = omega arith;
          acks_from = omega arith;
          takes = λ b. let m = ap length shakes.no_message in omega arith;
          resumes = λ b. ap (λ a. a || is_resumed x) (sym shakes.no_sequence);
        },
      )

  -- no handshake comes after the handshake
  late_handshake : (l : ℕ) → is_shaken x ≡ true → first_link y ≡ Some l → number (read_frames l x) ≡ None → ⊥
  late_handshake l s f n =
      let p = i.own.some_taken s in
      let same : p.0 ≡ l = i.agree p.0 l p.1 f in
      let more : 0 < taken_count l x = subst (λ k. 0 < taken_count k x) same p.2 in
      let len : length (read_frames l x) ≡ taken_count l x = length-take-le (taken_count l x) (fed_frames l x) (i.own.within l) in
      let m = MayCarry-any (facts (other side) terms y x) l (read_frames l x) (MayCarry-prefix (facts (other side) terms y x) l (read_frames l x) (fed_frames l x) (drop (taken_count l x) (fed_frames l x), take_split (fed_frames l x) (taken_count l x)) (the_fed side terms x y i l)) (omega arith) in
      let m' : number (read_frames l x) ≡ Some m.0 = m.1 in
      absurd (cc)

  -- a message is the next one
  takes_message : (l : ℕ) (m : Message) → present_link x ≡ Some l → is_shaken x ≡ true
      → slice_get (sent_messages y) (length (processed_messages x)) ≡ Some m → suc (length (processed_messages x)) ≤ most_lent y
      → ((n : ℕ) → one_more (number (read_frames l x)) ≡ Some n → n ≤ suc (suc (length (processed_messages x))))
      → (uses terms ≡ false → (n : ℕ) → one_more (number (read_frames l x)) ≡ Some n → n ≡ suc (suc (length (processed_messages x))))
      → Fit side terms x y l (Numbered m) (gives.Message m)
  takes_message l m at s stands most counts exact = record {
    shakes = s;
    keeping = i.own.keeping s;
    version = i.own.version s;
    speaks = i.own.speaks s;
    plain = i.own.plain;
    faultless = i.own.faultless;
    unskipped = i.own.unskipped;
    grows = omega (arith, length-append (processed_messages x) (m ∷ []));
    in_order = prefix_next (processed_messages x) (sent_messages y) m i.from.in_order stands;
    most = omega (arith, length-append (processed_messages x) (m ∷ []));
    acks_grow = omega arith;
    acks = i.to.acks;
    counts = λ n e. let h = counts n e in omega (arith, length-append (processed_messages x) (m ∷ []));
    exact = λ b n e. let h = exact b n e in omega (arith, length-append (processed_messages x) (m ∷ []));
    hears = omega arith;
    acks_from = omega arith;
    takes = λ b. omega (arith, length-append (processed_messages x) (m ∷ []));
    resumes = λ b. refl;
  }

  read_message : (l : ℕ) (m : Message) (k : ℕ) → (terms.version == 3) ≡ false → uses terms ≡ true → present_link x ≡ Some l → is_shaken x ≡ true
      → number (read_frames l x) ≡ Some (suc k) → slice_get (sent_messages y) k ≡ Some m → suc k ≤ most_lent y
      → Makes side terms x y l (Numbered m) (reads_message (length (processed_messages x)) (Some (suc k)) m)
  read_message l m k two keeps at s num stands most =
      let within = get_within (sent_messages y) k m stands in
      let few = i.its.few in
      let below = i.from.numbers l (suc k) at num in
      both (Makes side terms x y l (Numbered m)) (suc k == 2 ^ 62 + 1) _ _
      (λ e. let e' = eqb-true (suc k) (2 ^ 62 + 1) e in absurd (omega arith))
      (λ e. both (Makes side terms x y l (Numbered m)) (suc k == suc (length (processed_messages x))) _ _
      (λ e. let e' = eqb-true (suc k) (suc (length (processed_messages x))) e in
      let e2 : k ≡ length (processed_messages x) = omega arith in (
        gives.Message m,
        refl,
        takes_message l m at s (rw (← e2) stands) (omega arith)
            (λ n f. let f' : Some (suc (suc k)) ≡ Some n = ap one_more (sym num) ∙ f in let f2 : suc (suc k) ≡ n = cc in omega arith) (λ b. absurd (cc)),
      ))
      (λ e. let e' = eqb-false (suc k) (suc (length (processed_messages x))) e in (
        Skipped (Duplicate (suc k)),
        refl,
        record {
          shakes = s;
          keeping = i.own.keeping s;
          version = i.own.version s;
          speaks = i.own.speaks s;
          plain = i.own.plain;
          faultless = i.own.faultless;
          unskipped = λ b. absurd (cc);
          grows = omega arith;
          in_order = i.from.in_order;
          most = i.from.most;
          acks_grow = omega arith;
          acks = i.to.acks;
          counts = λ n f. let f' : Some (suc (suc k)) ≡ Some n = ap one_more (sym num) ∙ f in let f2 : suc (suc k) ≡ n = cc in omega arith;
          exact = λ b. absurd (cc);
          hears = omega arith;
          acks_from = omega arith;
          takes = λ b. absurd (cc);
          resumes = λ b. absurd (cc);
        },
      )))

  -- at version 3
  read_third : (l : ℕ) (m : Message) → present_link x ≡ Some l → is_shaken x ≡ true → HasNumber (number (read_frames l x))
      → slice_get (sent_messages y) (length (processed_messages x)) ≡ Some m → suc (length (processed_messages x)) ≤ most_lent y
      → Makes side terms x y l (Numbered m) (reads_message (length (processed_messages x)) (Some (suc (length (processed_messages x)))) m)
  read_third l m at s num stands most =
      let within = get_within (sent_messages y) (length (processed_messages x)) m stands in
      let few = i.its.few in
      let below = i.from.numbers l num.0 at num.1 in
      both (Makes side terms x y l (Numbered m)) (suc (length (processed_messages x)) == 2 ^ 62 + 1) _ _
      (λ e. let e' = eqb-true (suc (length (processed_messages x))) (2 ^ 62 + 1) e in absurd (omega arith))
      (λ e. both (Makes side terms x y l (Numbered m)) (suc (length (processed_messages x)) == suc (length (processed_messages x))) _ _
      (λ e. (
        gives.Message m,
        refl,
        takes_message l m at s stands most
            (λ n f. let f' : Some (suc num.0) ≡ Some n = ap one_more (sym num.1) ∙ f in let f2 : suc num.0 ≡ n = cc in omega arith)
            (λ b n f. let x = i.from.exact b l num.0 at num.1 in let f' : Some (suc num.0) ≡ Some n = ap one_more (sym num.1) ∙ f in let f2 : suc num.0 ≡ n = cc in omega arith),
      ))
      (λ e. absurd (eqb-false (suc (length (processed_messages x))) (suc (length (processed_messages x))) e refl)))

  read_frame : (l : ℕ) (t : LinkFrame) → present_link x ≡ Some l → is_shaken x ≡ true
      → MayStand (facts (other side) terms y x) l (number (read_frames l x)) t
      → ((terms.version == 3) ≡ true → is_shaken x ≡ true → (m : Message) → t ≡ Numbered m → (next_number (config side terms) x l ≡ Some (suc (length (processed_messages x)))) × (slice_get (sent_messages y) (length (processed_messages x)) ≡ Some m) × (suc (length (processed_messages x)) ≤ most_lent y))
      → Makes side terms x y l t (reads_frame (is_resumable (config side terms) x) x (next_number (config side terms) x l) t)
  read_frame l (Request k v) at s o third = absurd (late_handshake l s o.2 o.1)
  read_frame l Response at s o third = absurd (late_handshake l s o.2 o.1)
  read_frame l (Numbered m) at s o third = go (terms.version == 3) refl
    where
      go : (b : Bool) → (terms.version == 3) ≡ b → Makes side terms x y l (Numbered m) (reads_message (length (processed_messages x)) (next_number (config side terms) x l) m)
      go true b = let p = third b s m refl in
          subst (λ n. Makes side terms x y l (Numbered m) (reads_message (length (processed_messages x)) n m)) (sym p.0) (read_third l m at s o.0 p.1 p.2)
      go false b = on_use b (uses terms) refl
        where
          on_use : (terms.version == 3) ≡ false → (u : Bool) → uses terms ≡ u → Makes side terms x y l (Numbered m) (reads_message (length (processed_messages x)) (next_number (config side terms) x l) m)
          on_use b true u = let p = o.1 b in
              let three : is_three x ≡ false = three_is side terms x y i s ∙ b in
              let used : is_resumable (config side terms) x ≡ true = i.own.keeping s ∙ u in
              let n : next_number (config side terms) x l ≡ number (read_frames l x) = rw (three, used) refl in
              subst (λ n. Makes side terms x y l (Numbered m) (reads_message (length (processed_messages x)) n m)) (sym (n ∙ p.1)) (read_message l m p.0 b u at s p.1 p.2 p.3)
          on_use b false u = let p = o.1 b in
              let three : is_three x ≡ false = three_is side terms x y i s ∙ b in
              let plain : is_resumable (config side terms) x ≡ false = i.own.keeping s ∙ u in
              let k : suc p.0 ≡ suc (length (processed_messages x)) = i.from.exact u l (suc p.0) at p.1 in
              let k' : p.0 ≡ length (processed_messages x) = omega arith in
              let near : is_this l (first_link x) ≡ true = is_this-same l (first_link x) (⊎_elim (λ f. f) (λ f. absurd (cc)) (i.own.later l (here_was l x at))) in
              let some : is_some (number (read_frames l x)) ≡ true = ap is_some p.1 in
              let n : next_number (config side terms) x l ≡ Some (suc (length (processed_messages x))) = rw (three, plain, some, near) refl in
              subst (λ n. Makes side terms x y l (Numbered m) (reads_message (length (processed_messages x)) n m)) (sym n)
              (read_third l m at s o.0 (subst (λ n. slice_get (sent_messages y) n ≡ Some m) k' p.2) (subst (λ n. suc n ≤ most_lent y) k' p.3))
  read_frame l (Ack a) at s o third =
      let keeping : is_resumable (config side terms) x ≡ true = i.own.keeping s ∙ o.1 in
      let used : uses terms ≡ true = o.1 in
      let few : a ≤ length (processed_messages y) = o.2 in
      let most = i.to.most in
      both (Makes side terms x y l (Ack a)) (is_resumable (config side terms) x) _ _
      (λ e. both (Makes side terms x y l (Ack a)) (leb a (most_lent x)) _ _
      (λ e. (
        Acked a,
        refl,
        record {
          shakes = s;
          keeping = i.own.keeping s;
          version = i.own.version s;
          speaks = i.own.speaks s;
          plain = λ e. absurd (cc);
          faultless = i.own.faultless;
          unskipped = i.own.unskipped;
          grows = omega arith;
          in_order = i.from.in_order;
          most = i.from.most;
          acks_grow = omega arith;
          acks = omega (arith, i.to.acks);
          counts = λ n e. i.from.numbers l n at e;
          exact = λ b. absurd (cc);
          hears = omega arith;
          acks_from = omega arith;
          takes = λ b. omega arith;
          resumes = λ b. refl;
        },
      ))
      (λ e. let e' = leb-false a (most_lent x) e in absurd (omega arith)))
      (λ e. absurd (cc))
  read_frame l (Sequence n received) at s o third =
      let keeping : is_resumable (config side terms) x ≡ true = i.own.keeping s ∙ o.3 in
      let used : uses terms ≡ true = o.3 in
      let below : o.0 ≤ length (processed_messages x) = o.2 in
      let is : n ≡ suc o.0 = o.1 in
      let few : received_of received ≤ length (processed_messages y) = o.5 in
      let most = i.to.most in
      let three = three_is side terms x y i s in
      both (Makes side terms x y l (Sequence n received)) (is_resumable (config side terms) x) _ _
      (λ e. both (Makes side terms x y l (Sequence n received)) (leb n (suc (length (processed_messages x)))) _ _
      (λ e. both (Makes side terms x y l (Sequence n received)) (is_three x) _ _
      (λ e. both (Makes side terms x y l (Sequence n received)) (leb (received_of received) (most_lent x)) _ _
      (λ f. (
        Resumed n (received_of received),
        refl,
        record {
          shakes = s;
          keeping = i.own.keeping s;
          version = i.own.version s;
          speaks = i.own.speaks s;
          plain = λ e. absurd (cc);
          faultless = i.own.faultless;
          unskipped = i.own.unskipped;
          grows = omega arith;
          in_order = i.from.in_order;
          most = i.from.most;
          acks_grow = omega arith;
          acks = omega (arith, i.to.acks);
          counts = λ k f. let f' : n ≡ k = cc in omega arith;
          exact = λ b. absurd (cc);
          hears = omega arith;
          acks_from = omega arith;
          takes = λ b. omega arith;
          resumes = λ b. refl;
        },
      ))
      (λ f. let e' = leb-false (received_of received) (most_lent x) f in absurd (omega arith)))
      (λ e. let b : (terms.version == 3) ≡ false = sym three ∙ e in
      let zero_count : received_of received ≡ 0 = ap received_of (o.6 b) in (
        Sequenced n,
        refl,
        record {
          shakes = s;
          keeping = i.own.keeping s;
          version = i.own.version s;
          speaks = i.own.speaks s;
          plain = i.own.plain;
          faultless = i.own.faultless;
          unskipped = i.own.unskipped;
          grows = omega arith;
          in_order = i.from.in_order;
          most = i.from.most;
          acks_grow = omega arith;
          acks = i.to.acks;
          counts = λ k f. let f' : n ≡ k = cc in omega arith;
          exact = λ b. absurd (cc);
          hears = omega arith;
          acks_from = omega arith;
          takes = λ b. omega arith;
          resumes = λ b. absurd (cc);
        },
      )))
      (λ e. let e' = leb-false n (suc (length (processed_messages x))) e in absurd (omega arith)))
      (λ e. absurd (cc))
  read_frame l Ping at s o third = (
    gives.Ping,
    refl,
    record {
      shakes = s;
      keeping = i.own.keeping s;
      version = i.own.version s;
      speaks = i.own.speaks s;
      plain = i.own.plain;
      faultless = i.own.faultless;
      unskipped = i.own.unskipped;
      grows = omega arith;
      in_order = i.from.in_order;
      most = i.from.most;
      acks_grow = omega arith;
      acks = i.to.acks;
      counts = λ n e. i.from.numbers l n at e;
      exact = λ b n e. i.from.exact b l n at e;
      hears = omega arith;
      acks_from = omega arith;
      takes = λ b. omega arith;
      resumes = λ b. refl;
    },
  )
  read_frame l (Close error allow) at s o third = (
    gives.Closed error allow,
    refl,
    record {
      shakes = s;
      keeping = i.own.keeping s;
      version = i.own.version s;
      speaks = i.own.speaks s;
      plain = i.own.plain;
      faultless = i.own.faultless;
      unskipped = i.own.unskipped;
      grows = omega arith;
      in_order = i.from.in_order;
      most = i.from.most;
      acks_grow = omega arith;
      acks = i.to.acks;
      counts = λ n e. i.from.numbers l n at e;
      exact = λ b n e. i.from.exact b l n at e;
      hears = omega arith;
      acks_from = omega arith;
      takes = λ b. omega arith;
      resumes = λ b. refl;
    },
  )
  read_frame l (Refusal text) at s o third = absurd o
  read_frame l (Foreign k) at s o third = absurd o
  read_frame l (Strange why text) at s o third = absurd o
  read_frame l (Unreadable place why) at s o third = absurd o

  pub read_any : (l : ℕ) (t : LinkFrame) → present_link x ≡ Some l → slice_get (fed_frames l x) (taken_count l x) ≡ Some t
      → ((terms.version == 3) ≡ true → is_shaken x ≡ true → (m : Message) → t ≡ Numbered m → (next_number (config side terms) x l ≡ Some (suc (length (processed_messages x)))) × (slice_get (sent_messages y) (length (processed_messages x)) ≡ Some m) × (suc (length (processed_messages x)) ≤ most_lent y))
      → Makes side terms x y l t (reads (config side terms) x (next_number (config side terms) x l) t)
  read_any l t at next third =
      both (Makes side terms x y l t) (is_shaken x) _ _
      (λ e. read_frame l t at e (next_ok side terms x y i l t next) third)
      (λ e. read_handshake l t at next e)
