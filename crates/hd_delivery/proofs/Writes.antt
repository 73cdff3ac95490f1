-- An end that writes is done after a few frames.
use Rattle.std.proofs.Common.{inl, inr, ⊎_elim, ◌≡◌, ◌⊎◌, ℕ, zero, suc, ◌+◌, ◌-◌, ◌<◌, ◌≤◌, max, Bool, true, false, not, ◌&&◌, ◌||◌, List, [], ◌∷◌, ◌++◌, length, drop, Option, Some, None, is_some, option_map, slice_get, nat_lt, refl, sym, ap, ap₂, ◌∙◌, subst, arith, length-drop, le_refl, if◌then◌else◌}
use Rattle.std.proofs.lemmas.Bool.{and_cases, and_right, not-false, le-ltb}
use Rattle.hm_message.specs.declared.message.Message.{Message}
use Rattle.hd_delivery.specs.declared.vocabulary.Reason.TheVariants.{Protocol}
use Rattle.hd_delivery.specs.Frames.{LinkFrame, Numbered, Ack, Sequence, Ping, Close, error_of, count, number, told_count, most_told}
use Rattle.hd_delivery.specs.Histories as of
use Rattle.hd_delivery.specs.Histories.{EndEvent, Lent, Failed, Closed, Shake, first_of, is_this, present_link, lent_frames, sent_messages, processed_messages, acked_count, written_place, most_lent, next_place, is_shaken, is_three, is_resumable, is_closed, state, held_messages}
use Rattle.hd_delivery.specs.Due.{next_message, sequence_due, ack_due, may_write, message_due, is_quiet, is_ready, ping_due, farewell, has_close, close_due, due_after, answer, answer_due, due_there, due_on, due}
use Rattle.hd_delivery.specs.Worlds.{Limits}
use Rattle.hd_delivery.specs.Bytes.{Wire, ByteStep, Does, in_frames}
use Rattle.hd_delivery.specs.OneHistory.{IsHistory}
use Rattle.hd_delivery.specs.HistoryLaws.{FactsHold, FramesCount, HistoryFacts, LinksGrow}
use Rattle.hd_delivery.specs.Following.{Follow}
use Rattle.hd_delivery.specs.Alone.{writing}
use Rattle.hd_delivery.proofs.TestsAndPrefixes.{is_this-true, is_this-same}

-- ---- what is owed

-- 1 for each test that holds
abbrev mark : Bool → ℕ
mark true = 1
mark false = 0

mark_few : (b : Bool) → mark b ≤ 1
mark_few true = omega arith
mark_few false = omega arith

-- how many messages aren't lent on the present link yet
abbrev waiting : List EndEvent → ℕ
waiting k = length (sent_messages k) - max (acked_count k) (written_place k)

abbrev wants_sequence : List EndEvent → List LinkFrame → Bool
wants_sequence k said = not (is_three k) && (is_some (next_message k) && not (is_this (next_place k) (number said)))

abbrev wants_ack : of.Config → List EndEvent → List LinkFrame → Bool
wants_ack c k said = (is_resumable c k && not (is_closed c k)) && nat_lt (most_told said) (length (processed_messages k))

abbrev wants_ping : of.Config → List EndEvent → Bool
wants_ping c k = is_ready (state c k) && is_quiet k

abbrev wants_close : List EndEvent → List LinkFrame → Bool
wants_close k said = is_shaken k && not (has_close said)

-- what is owed beside messages: all of these once the link is opened
abbrev beside : of.Config → List EndEvent → List LinkFrame → ℕ
beside c k [] = 5
beside c k (f ∷ said) = (mark (wants_sequence k (f ∷ said)) + mark (wants_ack c k (f ∷ said))) + (mark (wants_ping c k) + mark (wants_close k (f ∷ said)))

-- how many frames an end on this link owes at most
abbrev owed : of.Config → List EndEvent → Option ℕ → ℕ
owed c k None = 0
owed c k (Some l) = waiting k + beside c k (lent_frames l k)

-- ---- small facts

first_cases : (a b : Option LinkFrame) (f : LinkFrame) → first_of a b ≡ Some f → (a ≡ Some f) ⊎ ((a ≡ None) × (b ≡ Some f))
first_cases None b f e = inr (refl, e)
first_cases (Some g) b f e = inl e

if_some : (b : Bool) (g f : LinkFrame) → (if b then Some g else None) ≡ Some f → (b ≡ true) × (g ≡ f)
if_some true g f e = (refl, cc)
if_some false g f e = absurd (cc)

if_none : (b : Bool) (g : LinkFrame) → (if b then Some g else None) ≡ None → b ≡ false
if_none true g e = absurd (cc)
if_none false g e = refl

then_some : (b : Bool) (o : Option LinkFrame) (f : LinkFrame) → (if b then o else None) ≡ Some f → (b ≡ true) × (o ≡ Some f)
then_some true o f e = (refl, e)
then_some false o f e = absurd (cc)

or_none : (b : Bool) → (b || false) ≡ b
or_none true = refl
or_none false = refl

or_some : (b : Bool) → (b || true) ≡ true
or_some true = refl
or_some false = refl

not_true : (b : Bool) → b ≡ true → not b ≡ false
not_true true e = refl
not_true false e = absurd (cc)

get_within : {A : Type 0} (xs : List A) (n : ℕ) (x : A) → slice_get xs n ≡ Some x → n < length xs
get_within [] n x e = absurd (cc)
get_within (y ∷ xs) zero x e = omega arith
get_within (y ∷ xs) (suc n) x e = let h = get_within xs n x e in omega arith

-- a farewell is a Close
farewell_is : (k : List EndEvent) (f : LinkFrame) → farewell k ≡ Some f → (error : Option (List ℕ)) × (allow : Bool) × (Close error allow ≡ f)
farewell_is [] f e = absurd (cc)
farewell_is (Closed reason allow ∷ k) f e = (error_of reason, allow, cc)
farewell_is (Failed (Shake why text) ∷ k) f e = farewell_is k f e
farewell_is (Failed fault ∷ k) f e = (error_of Protocol, false, cc)
farewell_is (_ ∷ k) f e = farewell_is k f e

fewer_wait : (k : List EndEvent) (f : LinkFrame) → waiting (Lent f ∷ k) ≤ waiting k
fewer_wait k (Numbered m) = omega arith
fewer_wait k _ = le_refl _

-- ---- each frame that is said

module _ (counts : FramesCount) (c : of.Config) (k : List EndEvent) (l : ℕ) (g : LinkFrame) (rest : List LinkFrame) where
  same_sequence : (f : LinkFrame) → count (number (g ∷ rest)) f ≡ number (g ∷ rest) → written_place (Lent f ∷ k) ≡ written_place k
      → wants_sequence (Lent f ∷ k) ((g ∷ rest) ++ f ∷ []) ≡ wants_sequence k (g ∷ rest)
  same_sequence f n w = ap₂ (λ w n. not (is_three k) && (is_some (slice_get (sent_messages k) (max (acked_count k) w)) && not (is_this (suc (max (acked_count k) w)) n)))
      w ((counts (g ∷ rest) f).next ∙ n)

  same_ack : (f : LinkFrame) → told_count f ≡ 0 → wants_ack c (Lent f ∷ k) ((g ∷ rest) ++ f ∷ []) ≡ wants_ack c k (g ∷ rest)
  same_ack f e = ap (λ n. (is_resumable c k && not (is_closed c k)) && nat_lt n (length (processed_messages k)))
      ((counts (g ∷ rest) f).told ∙ (omega (arith, e)))

  same_close : (f : LinkFrame) → has_close (f ∷ []) ≡ false → wants_close (Lent f ∷ k) ((g ∷ rest) ++ f ∷ []) ≡ wants_close k (g ∷ rest)
  same_close f e = ap (λ b. is_shaken k && not b) ((counts (g ∷ rest) f).closes ∙ (ap (λ b. has_close (g ∷ rest) || b) e ∙ or_none (has_close (g ∷ rest))))

  no_ping : (f : LinkFrame) → wants_ping c (Lent f ∷ k) ≡ false
  no_ping f = and_right (is_ready (state c k)) false refl

  abbrev Falls : LinkFrame → Type 0
  Falls f = waiting (Lent f ∷ k) + beside c (Lent f ∷ k) ((g ∷ rest) ++ f ∷ []) < waiting k + beside c k (g ∷ rest)

  -- a further Sequence tells the next number
  by_sequence : wants_sequence k (g ∷ rest) ≡ true → Falls (Sequence (next_place k) None)
  by_sequence e =
      let f = Sequence (next_place k) None in
      let told : number ((g ∷ rest) ++ f ∷ []) ≡ Some (next_place k) = (counts (g ∷ rest) f).next in
      let done : wants_sequence (Lent f ∷ k) ((g ∷ rest) ++ f ∷ []) ≡ false =
      and_right (not (is_three k)) _ (and_right (is_some (next_message k)) _ (not_true _ (is_this-same (next_place k) (number ((g ∷ rest) ++ f ∷ [])) told))) in
      omega (arith, ap mark done, ap mark e, ap mark (same_ack f refl), ap mark (same_close f refl), ap mark (no_ping f))

  by_ack : wants_ack c k (g ∷ rest) ≡ true → Falls (Ack (length (processed_messages k)))
  by_ack e =
      let p = length (processed_messages k) in
      let f = Ack p in
      let told : p ≤ most_told ((g ∷ rest) ++ f ∷ []) = omega (arith, (counts (g ∷ rest) f).told) in
      let done : wants_ack c (Lent f ∷ k) ((g ∷ rest) ++ f ∷ []) ≡ false = and_right (is_resumable c k && not (is_closed c k)) _ (le-ltb _ _ told) in
      omega (arith, ap mark done, ap mark e, ap mark (same_sequence f refl refl), ap mark (same_close f refl), ap mark (no_ping f))

  by_ping : wants_ping c k ≡ true → Falls Ping
  by_ping e = omega (arith, ap mark e, ap mark (no_ping Ping), ap mark (same_sequence Ping refl refl), ap mark (same_ack Ping refl), ap mark (same_close Ping refl))

  by_close : (error : Option (List ℕ)) (allow : Bool) → wants_close k (g ∷ rest) ≡ true → Falls (Close error allow)
  by_close error allow e =
      let f = Close error allow in
      let said : has_close ((g ∷ rest) ++ f ∷ []) ≡ true = (counts (g ∷ rest) f).closes ∙ or_some (has_close (g ∷ rest)) in
      let done : wants_close (Lent f ∷ k) ((g ∷ rest) ++ f ∷ []) ≡ false = and_right (is_shaken k) _ (not_true _ said) in
      omega (arith, ap mark done, ap mark e, ap mark (no_ping f), ap mark (same_sequence f refl refl), ap mark (same_ack f refl))

  -- the number of the message was told, so that of the next one is too
  numbers_on : (m : Message) → next_message k ≡ Some m → wants_sequence k (g ∷ rest) ≡ false
      → wants_sequence (Lent (Numbered m) ∷ k) ((g ∷ rest) ++ Numbered m ∷ []) ≡ false
  numbers_on m some e = ⊎_elim (λ three. and_left_false three) (λ b. ⊎_elim (λ none. absurd (is_there none)) (λ told. go (is_this-true (next_place k) (number (g ∷ rest)) (not-false _ told)))
      (and_cases (is_some (next_message k)) _ b)) (and_cases (not (is_three k)) _ e)
    where
      and_left_false : not (is_three k) ≡ false → wants_sequence (Lent (Numbered m) ∷ k) ((g ∷ rest) ++ Numbered m ∷ []) ≡ false
      and_left_false t = rw t refl

      is_there : is_some (next_message k) ≡ false → ⊥
      is_there none = let some' : is_some (next_message k) ≡ true = ap is_some some in absurd (cc)

      go : number (g ∷ rest) ≡ Some (next_place k) → wants_sequence (Lent (Numbered m) ∷ k) ((g ∷ rest) ++ Numbered m ∷ []) ≡ false
      go told =
          let next : number ((g ∷ rest) ++ Numbered m ∷ []) ≡ Some (suc (next_place k)) = (counts (g ∷ rest) (Numbered m)).next ∙ ap (λ n. count n (Numbered m)) told in
          let place : suc (next_place k) ≡ next_place (Lent (Numbered m) ∷ k) = omega arith in
          and_right (not (is_three k)) _ (and_right (is_some (next_message (Lent (Numbered m) ∷ k))) _ (not_true _ (is_this-same (next_place (Lent (Numbered m) ∷ k)) _ (next ∙ ap Some place))))

  by_message : (m : Message) → next_message k ≡ Some m → wants_sequence k (g ∷ rest) ≡ false → Falls (Numbered m)
  by_message m some e =
      let there = get_within (sent_messages k) (max (acked_count k) (written_place k)) m some in
      omega (arith, ap mark (numbers_on m some e), ap mark e, ap mark (no_ping (Numbered m)), ap mark (same_ack (Numbered m) refl), ap mark (same_close (Numbered m) refl))

  message_is : (b : Bool) (o : Option Message) (f : LinkFrame) → (if b then option_map Numbered o else None) ≡ Some f → (m : Message) × (o ≡ Some m) × (Numbered m ≡ f)
  message_is true (Some m) f e = (m, refl, cc)
  message_is true None f e = absurd (cc)
  message_is false o f e = absurd (cc)

  said_then : (f : LinkFrame) → due_after c k l (g ∷ rest) ≡ Some f → Falls f
  said_then f e = ⊎_elim
      (λ a. let p = if_some _ _ f a in subst Falls p.1 (by_sequence p.0))
      (λ a. let none = if_none _ _ a.0 in ⊎_elim
      (λ b. let p = if_some _ _ f b in subst Falls p.1 (by_ack p.0))
      (λ b. ⊎_elim
      (λ d. let p = message_is (may_write k l) (next_message k) f d in subst Falls p.2 (by_message p.0 p.1 none))
      (λ d. ⊎_elim
      (λ i. let p = if_some _ _ f i in subst Falls p.1 (by_ping p.0))
      (λ i. let p = then_some _ _ f i.1 in let q = farewell_is k f p.1 in subst Falls q.2 (by_close q.0 q.1 p.0))
      (first_cases (ping_due c k) (close_due k (g ∷ rest)) f d.1))
      (first_cases (message_due k l) _ f b.1))
      (first_cases (ack_due c k (g ∷ rest)) _ f a.1))
      (first_cases (sequence_due k (g ∷ rest)) _ f e)

-- ---- what is owed falls

module _ (counts : FramesCount) (grows : LinksGrow) (c : of.Config) (k : List EndEvent) (f : LinkFrame) where
  -- the first frame of a link
  first_said : beside c (Lent f ∷ k) (f ∷ []) ≤ 4
  first_said = omega (arith, mark_few (wants_sequence (Lent f ∷ k) (f ∷ [])), mark_few (wants_ack c (Lent f ∷ k) (f ∷ [])), mark_few (wants_ping c (Lent f ∷ k)), mark_few (wants_close (Lent f ∷ k) (f ∷ [])))

  on_link : (l : ℕ) (said : List LinkFrame) (o : Option (List ℕ)) → (o ≡ None → due_after c k l said ≡ Some f) → ((text : List ℕ) → o ≡ Some text → answer_due text said ≡ Some f)
      → waiting (Lent f ∷ k) + beside c (Lent f ∷ k) (said ++ f ∷ []) < waiting k + beside c k said
  on_link l [] o a b = omega (arith, first_said, fewer_wait k f)
  on_link l (g ∷ rest) None a b = said_then counts c k l g rest f (a refl)
  on_link l (g ∷ rest) (Some text) a b = absurd (let e = b text refl in cc)

  pub falls : due c k ≡ Some f → owed c (Lent f ∷ k) (present_link k) < owed c k (present_link k)
  falls e = go (present_link k) refl e
    where
      by_answer : (l : ℕ) (o : Option (List ℕ)) → due_there c k l o ≡ Some f → (o ≡ None → due_after c k l (lent_frames l k) ≡ Some f) × ((text : List ℕ) → o ≡ Some text → answer_due text (lent_frames l k) ≡ Some f)
      by_answer l None e = (λ n. e, λ text n. absurd (cc))
      by_answer l (Some text) e = (λ n. absurd (cc), λ other n. let same : text ≡ other = cc in subst (λ t. answer_due t (lent_frames l k) ≡ Some f) same e)

      go : (o : Option ℕ) → present_link k ≡ o → due_on c k o ≡ Some f → owed c (Lent f ∷ k) o < owed c k o
      go None at e = absurd (cc)
      go (Some l) at e =
          let p = by_answer l (answer k) e in
          subst (λ said. waiting (Lent f ∷ k) + beside c (Lent f ∷ k) said < waiting k + beside c k (lent_frames l k)) (sym ((grows k l at).lent f))
          (on_link l (lent_frames l k) (answer k) p.0 p.1)

-- ---- an end that writes

pub owed_few : (c : of.Config) (k : List EndEvent) (o : Option ℕ) → HistoryFacts c k → owed c k o ≤ length (held_messages c k) + 5
owed_few c k None facts = omega arith
owed_few c k (Some l) facts = omega (arith, own (lent_frames l k), held (is_resumable c k) refl)
  where
    own : (said : List LinkFrame) → beside c k said ≤ 5
    own [] = omega arith
    own (f ∷ said) = omega (arith, mark_few (wants_sequence k (f ∷ said)), mark_few (wants_ack c k (f ∷ said)), mark_few (wants_ping c k), mark_few (wants_close k (f ∷ said)))

    held : (b : Bool) → is_resumable c k ≡ b → waiting k ≤ length (if b then drop (acked_count k) (sent_messages k) else drop (most_lent k) (sent_messages k))
    held true e = omega (arith, length-drop (acked_count k) (sent_messages k))
    held false e = omega (arith, length-drop (most_lent k) (sent_messages k), facts.plain_is_written e)

module _ (counts : FramesCount) (grows : LinksGrow) (wire : Wire) (c : of.Config) (h : List ByteStep) where
  abbrev owes : List ByteStep → ℕ
  owes x = owed c (in_frames wire c x) (present_link (in_frames wire c x))

  lends : (o : Option LinkFrame) (s : ByteStep) → option_map (λ f. Does (Lent f)) o ≡ Some s → (f : LinkFrame) × (o ≡ Some f) × (Does (Lent f) ≡ s)
  lends None s e = absurd (cc)
  lends (Some f) s e = (f, refl, cc)

  all_fall : (ss : List ByteStep) → Follow (writing wire c) h ss → length ss + owes (ss ++ h) ≤ owes h
  all_fall [] e = omega arith
  all_fall (s ∷ ss) e =
      let before = all_fall ss e.0 in
      let p = lends (due c (in_frames wire c (ss ++ h))) s e.1 in
      subst (λ s. suc (length ss) + owes (s ∷ ss ++ h) ≤ owes h) p.2 (omega (arith, before, falls counts grows c (in_frames wire c (ss ++ h)) p.0 p.1))

pub writes_few : FactsHold → FramesCount → LinksGrow → (limits : Limits) (wire : Wire) (c : of.Config) (h ss : List ByteStep) → IsHistory limits wire c h → Follow (writing wire c) h ss
    → length ss ≤ length (held_messages c (in_frames wire c h)) + 5
writes_few facts counts grows limits wire c h ss is e =
    omega (arith, all_fall counts grows wire c h ss e, owed_few c (in_frames wire c h) (present_link (in_frames wire c h)) (facts limits wire c h is))
