-- What is due may be said.
use Rattle.std.proofs.Common.{inl, inr, ⊎_elim, ◌≡◌, ℕ, suc, ◌<◌, ◌≤◌, Bool, true, false, List, [], ◌∷◌, length, Option, Some, None, refl, sym, ap, ◌∙◌, subst, arith}
use Rattle.std.specs.Prelude.{slice_get, ◌⊎◌, option_map, is_some, not, nat_lt, max, ◌==◌, ◌||◌, ◌&&◌, if◌then◌else◌}
use Rattle.std.proofs.lemmas.Bool.{or_cases, and_parts, not-true, eqb-false}
use Rattle.hm_message.specs.declared.message.Message.{Message}
use Rattle.hd_delivery.specs.declared.vocabulary.Got.TheVariants.{Skipped}
use Rattle.hd_delivery.specs.declared.vocabulary.Reason.{Reason}
use Rattle.hd_delivery.specs.declared.vocabulary.Reason.TheVariants.{Protocol}
use Rattle.hd_delivery.specs.declared.vocabulary.Side.{Side}
use Rattle.hd_delivery.specs.declared.vocabulary.Side.TheVariants.{Client, Server}
use Rattle.hd_delivery.specs.declared.vocabulary.Why.TheVariants.{Duplicate, Unknown, BeforeSequence, NotUsed}
use Rattle.hd_delivery.specs.Frames.{LinkFrame, Request, Response, Numbered, Ack, Sequence, Ping, Close, error_of, count, number, received_of, told_count, most_told}
use Rattle.hd_delivery.specs.Histories.{Shake, EndEvent, Took, Failed, Lent, Closed, is_this, first_of, present_link, first_link, lent_frames, sent_messages, processed_messages, acked_count, written_place, next_place, most_lent, is_shaken, is_three, is_resumable, is_closed, state, is_resumed}
use Rattle.hd_delivery.specs.Due.{handshake, opening, next_message, sequence_due, ack_due, may_write, message_due, is_quiet, is_ready, ping_due, farewell, has_close, close_due, due_after, answer, due_there, due_on, due}
use Rattle.hd_delivery.specs.Worlds.{Terms, codec_at, version_at, config, IsFaultless}
use Rattle.hd_delivery.proofs.Lists.{get_within}
use Rattle.hd_delivery.proofs.Local.{is_this-true, is_this-same, both, here_was, kept_shaken}
use Rattle.hd_delivery.proofs.Carries.{uses, facts, MayStand, MayCarry, MayCarry-some}
use Rattle.hd_delivery.proofs.Pair.{messages, is_seq, Placed, Pair, Says, three_is}

first_of_cases : (a b : Option LinkFrame) (t : LinkFrame) → first_of a b ≡ Some t → (a ≡ Some t) ⊎ ((a ≡ None) × (b ≡ Some t))
first_of_cases None b t e = inr (refl, e)
first_of_cases (Some u) b t e = inl e

if_some : (b : Bool) (u t : LinkFrame) → (if b then Some u else None) ≡ Some t → (b ≡ true) × (u ≡ t)
if_some true u t e = (refl, cc)
if_some false u t e = absurd (cc)

if_none : (b : Bool) (u : LinkFrame) → (if b then Some u else None) ≡ None → b ≡ false
if_none true u e = absurd (cc)
if_none false u e = refl

and_not : (a b : Bool) → a ≡ true → (a && not b) ≡ false → b ≡ true
and_not true true e f = refl
and_not true false e f = absurd (cc)
and_not false b e f = absurd (cc)

and_rest : (a b : Bool) → a ≡ false → (not a && b) ≡ false → b ≡ false
and_rest true b e f = absurd (cc)
and_rest false b e f = f

pub not_failed : (h : List EndEvent) → IsFaultless h → answer h ≡ None
not_failed [] f = refl
not_failed (Failed e ∷ h) f = absurd f
not_failed (Took (Skipped (Duplicate n)) ∷ h) f = not_failed h f
not_failed (Took (Skipped (Unknown n)) ∷ h) f = absurd f
not_failed (Took (Skipped BeforeSequence) ∷ h) f = absurd f
not_failed (Took (Skipped NotUsed) ∷ h) f = absurd f
not_failed (_ ∷ h) f = not_failed h f

farewell_is : (h : List EndEvent) (t : LinkFrame) → farewell h ≡ Some t → (reason : Reason) × (allow : Bool) × (t ≡ Close (error_of reason) allow)
farewell_is [] t e = absurd (cc)
farewell_is (Closed reason allow ∷ h) t e = (reason, allow, let f : Close (error_of reason) allow ≡ t = cc in sym f)
farewell_is (Failed (Shake why text) ∷ h) t e = farewell_is h t e
farewell_is (Failed fault ∷ h) t e = (Protocol, false, let f : Close (error_of Protocol) false ≡ t = cc in sym f)
farewell_is (_ ∷ h) t e = farewell_is h t e

module _ (side : Side) (terms : Terms) (x y : List EndEvent) (i : Pair side terms x y) where
  no_written : (l : ℕ) → present_link x ≡ Some l → lent_frames l x ≡ [] → written_place x ≡ 0
  no_written l at empty = i.own.untold l at (ap messages empty)

  -- a frame that is no message may be said wherever it may stand
  says_frame : (l : ℕ) (t : LinkFrame) → MayStand (facts side terms (Lent t ∷ x) y) l (number (lent_frames l x)) t
      → ((terms.version == 3) ≡ false → Placed (count (number (lent_frames l x)) t) (written_place x) (acked_count x))
      → written_place (Lent t ∷ x) ≡ written_place x → most_lent (Lent t ∷ x) ≡ most_lent x → ((m : Message) → t ≡ Numbered m → ⊥)
      → (lent_frames l x ≡ [] → is_seq t ≡ true → (terms.version == 3) ≡ true → told_count t ≡ length (processed_messages x))
      → Says side terms x y l t
  says_frame l t ok placed w m apart opens = record {
    opens = opens;
    sends = λ m e. absurd (apart m e);
    ok = ok;
    placed = λ b. subst (λ n. Placed (count (number (lent_frames l x)) t) n (acked_count x)) (sym w) (placed b);
    lent_sent = omega (arith, i.own.lent_sent);
    may = λ b m e. absurd (apart m e);
  }

  says_handshake : (s : Side) (l : ℕ) (t : LinkFrame) → s ≡ side → present_link x ≡ Some l → lent_frames l x ≡ [] → first_link x ≡ Some l → handshake s (config side terms) x ≡ Some t → Says side terms x y l t
  says_handshake Client l t same at empty first = both (λ o. o ≡ Some t → Says side terms x y l t) (is_closed (config side terms) x) _ _
      (λ e f. absurd (cc))
      (λ e f. let g : Request (codec_at side terms) (version_at side terms) ≡ t = cc in let z = no_written l at empty in subst (λ t. Says side terms x y l t) g
      (says_frame l (Request (codec_at side terms) (version_at side terms)) (sym same, ap number empty, first, ap (λ s. version_at s terms) (sym same), ap (λ s. codec_at s terms) (sym same)) (λ b. (omega arith, omega arith)) refl refl (λ m e. absurd (cc)) (λ e q. absurd (cc))))
  says_handshake Server l t same at empty first = both (λ o. o ≡ Some t → Says side terms x y l t) (is_shaken x) _ _
      (λ e f. let g : Response ≡ t = cc in let z = no_written l at empty in subst (λ t. Says side terms x y l t) g
      (says_frame l Response (sym same, ap number empty, first) (λ b. (omega arith, omega arith)) refl refl (λ m e. absurd (cc)) (λ e q. absurd (cc))))
      (λ e f. absurd (cc))

  says_opening : (l : ℕ) (t : LinkFrame) → present_link x ≡ Some l → lent_frames l x ≡ [] → opening (config side terms) x l ≡ Some t → Says side terms x y l t
  says_opening l t at empty = both (λ o. o ≡ Some t → Says side terms x y l t) (is_this l (first_link x)) _ _
      (λ e f. says_handshake side l t refl at empty (is_this-true l (first_link x) e) f)
      (λ e f. let g : Sequence (suc (acked_count x)) (if is_three x then Some (length (processed_messages x)) else None) ≡ t = cc in
      let apart : first_link x ≡ Some l → ⊥ = λ h. let z = is_this-same l (first_link x) h in absurd (cc) in
      let used : uses terms ≡ true = ⊎_elim (λ h. absurd (apart h)) (λ h. h) (i.own.later l (here_was l x at)) in
      let z = no_written l at empty in
      let three = three_is side terms x y i (shaken_later (is_shaken x) refl l at apart) in
      subst (λ t. Says side terms x y l t) g
      (says_frame l (Sequence (suc (acked_count x)) (if is_three x then Some (length (processed_messages x)) else None)) (
        acked_count x,
        refl,
        i.to.acks,
        used,
        (λ n h. apart h),
        both (λ o. received_of o ≤ length (processed_messages x)) (is_three x) (Some (length (processed_messages x))) None (λ h. omega arith) (λ h. omega arith),
        (λ b. both (λ o. o ≡ None) (is_three x) (Some (length (processed_messages x))) None (λ h. absurd (cc)) (λ h. refl)),
      )
      (λ b. (omega arith, omega arith)) refl refl (λ m e. absurd (cc))
      (λ n q b. both (λ o. received_of o ≡ length (processed_messages x)) (is_three x) (Some (length (processed_messages x))) None (λ h. refl) (λ h. absurd (cc)))))
    where
      shaken_later : (b : Bool) → is_shaken x ≡ b → (l : ℕ) → present_link x ≡ Some l → (first_link x ≡ Some l → ⊥) → is_shaken x ≡ true
      shaken_later true s l at apart = s
      shaken_later false s l at apart = absurd (apart (i.own.one_link s l (here_was l x at)))

  -- an end that has something to send has completed the handshake
  pub shaken_next : (m : Message) → next_message x ≡ Some m → is_shaken x ≡ true
  shaken_next m e = go (is_shaken x) refl
    where
      go : (b : Bool) → is_shaken x ≡ b → b ≡ true
      go true s = refl
      go false s = let z : ◌≡◌ {A = Option Message} None (Some m) = subst (λ ms. slice_get ms (max (acked_count x) (written_place x)) ≡ Some m) (i.own.unsent s) e in absurd (cc)

  said_some : (l n : ℕ) → number (lent_frames l x) ≡ Some n → lent_frames l x ≡ [] → ⊥
  said_some l n num e = let f : number (lent_frames l x) ≡ None = ap number e in absurd (cc)

  says_sequence : (l : ℕ) (n : ℕ) → (terms.version == 3) ≡ false → present_link x ≡ Some l → number (lent_frames l x) ≡ Some n → is_this (next_place x) (number (lent_frames l x)) ≡ false → Says side terms x y l (Sequence (next_place x) None)
  says_sequence l n two at num apart =
      let p : Placed (Some n) (written_place x) (acked_count x) = subst (λ o. Placed o (written_place x) (acked_count x)) num (i.own.placed two l at) in
      let a : (next_place x == n) ≡ false = sym (ap (is_this (next_place x)) num) ∙ apart in
      let ne = eqb-false (next_place x) n a in
      let above : written_place x < acked_count x = higher n ne p in
      let acks = i.to.acks in
      let is_used : uses terms ≡ true = used (uses terms) refl above in
      says_frame l (Sequence (next_place x) None) (max (acked_count x) (written_place x), refl, omega arith, is_used, (λ e f. absurd (cc)), omega arith, λ b. refl) (λ b. (omega arith, omega arith)) refl refl (λ m e. absurd (cc)) (λ e. absurd (said_some l n num e))
    where
      higher : (n : ℕ) → (next_place x ≡ n → ⊥) → Placed (Some n) (written_place x) (acked_count x) → written_place x < acked_count x
      higher n ne p = omega (arith, p.0, p.1)

      used : (b : Bool) → uses terms ≡ b → written_place x < acked_count x → b ≡ true
      used true e h = refl
      used false e h = let z = i.own.plain e in absurd (omega arith)

  says_message : (l n : ℕ) (m : Message) → present_link x ≡ Some l → number (lent_frames l x) ≡ Some n → sequence_due x (lent_frames l x) ≡ None → may_write x l ≡ true → next_message x ≡ Some m → Says side terms x y l (Numbered m)
  says_message l n m at num none may f =
      let s = shaken_next m f in
      let three = three_is side terms x y i s in
      let within = get_within (sent_messages x) (max (acked_count x) (written_place x)) m f in
      record {
        ok = ((n, num), λ b. (max (acked_count x) (written_place x), place b s, f, omega arith));
        placed = λ b. rw (place b s) (omega arith, omega arith);
        lent_sent = omega (arith, i.own.lent_sent);
        opens = λ e. absurd (said_some l n num e);
        sends = λ k e. (max (acked_count x) (written_place x), f ∙ ap Some (let e' : m ≡ k = cc in e'));
        may = λ b k e. (where_to (sym three ∙ refl) b may, f ∙ ap Some (let e' : m ≡ k = cc in e'));
      }
    where
      place : (terms.version == 3) ≡ false → is_shaken x ≡ true → number (lent_frames l x) ≡ Some (next_place x)
      place b s =
          let apart = if_none (not (is_three x) && (is_some (next_message x) && not (is_this (next_place x) (number (lent_frames l x))))) (Sequence (next_place x) None) none in
          let rest = and_rest (is_three x) (is_some (next_message x) && not (is_this (next_place x) (number (lent_frames l x)))) (three_is side terms x y i s ∙ b) apart in
          is_this-true (next_place x) (number (lent_frames l x)) (and_not (is_some (next_message x)) (is_this (next_place x) (number (lent_frames l x))) (ap is_some f) rest)

      where_to : (terms.version == 3) ≡ is_three x → (terms.version == 3) ≡ true → (not (is_three x) || (is_this l (first_link x) || is_resumed x)) ≡ true → (first_link x ≡ Some l) ⊎ (is_resumed x ≡ true)
      where_to e b w =
          let t : is_three x ≡ true = sym e ∙ b in
          let w' : (is_this l (first_link x) || is_resumed x) ≡ true = (rw t at w) in
          ⊎_elim (λ h. inl (is_this-true l (first_link x) h)) (λ h. inr h) (or_cases (is_this l (first_link x)) (is_resumed x) w')

  says_after : (l n : ℕ) (t : LinkFrame) → present_link x ≡ Some l → number (lent_frames l x) ≡ Some n
      → first_of (sequence_due x (lent_frames l x)) (first_of (ack_due (config side terms) x (lent_frames l x)) (first_of (message_due x l) (first_of (ping_due (config side terms) x) (close_due x (lent_frames l x))))) ≡ Some t
      → Says side terms x y l t
  says_after l n t at num e =
      ⊎_elim by_sequence
      (λ h. ⊎_elim by_ack
      (λ h2. ⊎_elim (by_message h.0)
      (λ h3. ⊎_elim by_ping (λ h4. by_close h4.1) (first_of_cases _ _ t h3.1))
      (first_of_cases _ _ t h2.1))
      (first_of_cases _ _ t h.1))
      (first_of_cases _ _ t e)
    where
      by_sequence : sequence_due x (lent_frames l x) ≡ Some t → Says side terms x y l t
      by_sequence e =
          let f = if_some (not (is_three x) && (is_some (next_message x) && not (is_this (next_place x) (number (lent_frames l x))))) (Sequence (next_place x) None) t e in
          let g = and_parts (not (is_three x)) (is_some (next_message x) && not (is_this (next_place x) (number (lent_frames l x)))) f.0 in
          let h = and_parts (is_some (next_message x)) (not (is_this (next_place x) (number (lent_frames l x)))) g.1 in
          let two : (terms.version == 3) ≡ false = go (next_message x) refl h.0 g.0 in
          subst (λ t. Says side terms x y l t) f.1 (says_sequence l n two at num (not-true (is_this (next_place x) (number (lent_frames l x))) h.1))
        where
          go : (o : Option Message) → next_message x ≡ o → is_some o ≡ true → not (is_three x) ≡ true → (terms.version == 3) ≡ false
          go None f g h = absurd (cc)
          go (Some m) f g h = sym (three_is side terms x y i (shaken_next m f)) ∙ not-true (is_three x) h

      by_ack : ack_due (config side terms) x (lent_frames l x) ≡ Some t → Says side terms x y l t
      by_ack e =
          let f = if_some ((is_resumable (config side terms) x && not (is_closed (config side terms) x)) && nat_lt (most_told (lent_frames l x)) (length (processed_messages x))) (Ack (length (processed_messages x))) t e in
          let g = and_parts (is_resumable (config side terms) x && not (is_closed (config side terms) x)) (nat_lt (most_told (lent_frames l x)) (length (processed_messages x))) f.0 in
          let k = and_parts (is_resumable (config side terms) x) (not (is_closed (config side terms) x)) g.0 in
          subst (λ t. Says side terms x y l t) f.1
          (says_frame l (Ack (length (processed_messages x))) ((n, num), sym (i.own.keeping (kept_shaken (config side terms) x k.0)) ∙ k.0, omega arith) (λ b. i.own.placed b l at) refl refl (λ m e. absurd (cc)) (λ e. absurd (said_some l n num e)))

      by_message : sequence_due x (lent_frames l x) ≡ None → message_due x l ≡ Some t → Says side terms x y l t
      by_message none = both (λ o. o ≡ Some t → Says side terms x y l t) (may_write x l) (option_map Numbered (next_message x)) None
          (λ w e. go w e (next_message x) refl) (λ w e. absurd (cc))
        where
          go : may_write x l ≡ true → option_map Numbered (next_message x) ≡ Some t → (o : Option Message) → next_message x ≡ o → Says side terms x y l t
          go w e None f = absurd (let e' : option_map Numbered None ≡ Some t = subst (λ o. option_map Numbered o ≡ Some t) f e in cc)
          go w e (Some m) f =
              let e' : Numbered m ≡ t = (let e2 : option_map Numbered (Some m) ≡ Some t = subst (λ o. option_map Numbered o ≡ Some t) f e in cc) in
              subst (λ t. Says side terms x y l t) e' (says_message l n m at num none w f)

      by_ping : ping_due (config side terms) x ≡ Some t → Says side terms x y l t
      by_ping e = let f = if_some (is_ready (state (config side terms) x) && is_quiet x) Ping t e in
          subst (λ t. Says side terms x y l t) f.1 (says_frame l Ping (n, num) (λ b. i.own.placed b l at) refl refl (λ m e. absurd (cc)) (λ e. absurd (said_some l n num e)))

      by_close : close_due x (lent_frames l x) ≡ Some t → Says side terms x y l t
      by_close = both (λ o. o ≡ Some t → Says side terms x y l t) (is_shaken x && not (has_close (lent_frames l x))) (farewell x) None
          (λ f e. let p = farewell_is x t e in
          subst (λ t. Says side terms x y l t) (sym p.2) (says_frame l (Close (error_of p.0) p.1) ((n, num), (p.0, refl)) (λ b. i.own.placed b l at) refl refl (λ m e. absurd (cc)) (λ e. absurd (said_some l n num e))))
          (λ f e. absurd (cc))

  says_on : (l : ℕ) (ts : List LinkFrame) (t : LinkFrame) → present_link x ≡ Some l → lent_frames l x ≡ ts → due_after (config side terms) x l ts ≡ Some t → Says side terms x y l t
  says_on l [] t at is e = says_opening l t at is e
  says_on l (u ∷ us) t at is e =
      let num = MayCarry-some (facts side terms x y) l u us (subst (λ ts. MayCarry (facts side terms x y) l None ts) is (i.to.good l)) in
      says_after l num.0 t at (ap number is ∙ num.1)
      (subst (λ ts. first_of (sequence_due x ts) (first_of (ack_due (config side terms) x ts) (first_of (message_due x l) (first_of (ping_due (config side terms) x) (close_due x ts)))) ≡ Some t) (sym is) e)

  pub says_due : (t : LinkFrame) → due (config side terms) x ≡ Some t → (l : ℕ) × (present_link x ≡ Some l) × Says side terms x y l t
  says_due t e = go (present_link x) refl e
    where
      go : (o : Option ℕ) → present_link x ≡ o → due_on (config side terms) x o ≡ Some t → (l : ℕ) × (present_link x ≡ Some l) × Says side terms x y l t
      go None at e = absurd (cc)
      go (Some l) at e = (l, at, says_on l (lent_frames l x) t at refl (subst (λ o. due_there (config side terms) x l o ≡ Some t) (not_failed x i.own.faultless) e))
