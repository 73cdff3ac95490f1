-- Each frame says one message, is of one unknown type, or is refused for one reason.
use Rattle.std.proofs.Common.{◌≡◌, ◌≤◌, ℕ, ℤ, pos, Bool, true, false, cond, ltb, List, [], ◌∷◌, ◌++◌, length, Option, Some, None, Result, Ok, Err, refl, sym, ap, subst, ◌∙◌, arith, inl, inr, ◌⊎◌}
use Rattle.std.specs.Ordering.{int_eq}
use Rattle.std.specs.Cmp.{signed_Decides}
use Rattle.std.proofs.lemmas.Bool.{lt-ltb, le-ltb, ltb-true, ltb-false}
use Rattle.std.proofs.lemmas.List.{length-append}
use Rattle.hv_value.specs.Tree.{Tree, null, boolean, int, text, bytes, list, map, trees}
use Rattle.hv_pack.specs.Laws.{HasOneReading, HasOneRefusal, SpelledIsNotRefused, IsSpelledOrRefused}
use Rattle.hv_pack.specs.Packs.{IsSpelled}
use Rattle.hv_pack.specs.Why.{IsRefused}
use Rattle.hv_pack.specs.declared.error.PackError.{PackError}
use Rattle.hm_message.specs.Fields.{trees_in, items_in}
use Rattle.hm_message.specs.Headers.{Header}
use Rattle.hm_message.specs.Kind.{number, kind_of, kind_at, IsOfNoKind}
use Rattle.hm_message.specs.Message.{value_of}
use Rattle.hm_message.specs.Laws.{ValuesAreTrees, KindsHaveNumbers}
use Rattle.hm_message.specs.declared.kind.Kind.{Kind}
use Rattle.hm_message.specs.declared.kind.Kind.TheVariants as kinds
use Rattle.hm_message.specs.declared.message.Message.{Message}
use Rattle.hm_message.specs.declared.message.Message.TheVariants.{Invocation, StreamItem, Completion, StreamInvocation, CancelInvocation, Ping, Close, Ack, Sequence}
use Rattle.hm_message.specs.declared.message.Ending.{Ending}
use Rattle.hm_message.specs.declared.message.Ending.TheVariants as ending
use Rattle.hm_pack.specs.Elements as element
use Rattle.hm_message.specs.Meaning.{first}
use Rattle.hm_pack.specs.Elements.{type_of, faults, behind, kind_or_behind}
use Rattle.hm_pack.specs.Says.{IsArray, Ends, Holds, IsMessage, IsUnknown, IsFaulty, Says, Unknown, Why}
use Rattle.hm_pack.specs.ExactlyOne.{ExactlyOne}
use Rattle.hm_pack.specs.declared.refusal.PackRefusal.{PackRefusal}
use Rattle.hm_pack.specs.declared.refusal.PackRefusal.TheVariants.{Value, Trailing, NotArray, Missing, Wrong, ResultKind, NoMemory}
use Rattle.hm_pack.proofs.Faults.{faults_good, type_good, why_faulty}

abbrev and : {A B : Type 0} → Result A PackRefusal → (A → Option B) → Option B
and (Ok x) f = f x
and (Err e) f = None

abbrev ending_in : ℤ → List Tree → Option Ending
ending_in n ts =
    cond (int_eq n (pos 1)) (and (element.error ts) (λ s. Some (ending.Error s))) (cond (int_eq n (pos 2)) (Some ending.Void) (and (element.outcome ts) (λ t. Some (ending.Result (value_of t)))))

abbrev completed : List Header → List ℕ → Option Ending → Option Message
completed hs id None = None
completed hs id (Some e) = Some (Completion hs id e)

abbrev message_in : Kind → List Tree → Option Message
message_in kinds.Invocation ts = and (element.headers ts) (λ hs. and (element.optional_id ts) (λ id. and (element.target ts) (λ s. and (element.arguments ts) (λ xs. and (element.streams ts) (λ ids. Some (Invocation hs id s xs ids))))))
message_in kinds.StreamItem ts = and (element.headers ts) (λ hs. and (element.id ts) (λ id. and (element.item ts) (λ x. Some (StreamItem hs id (value_of x)))))
message_in kinds.Completion ts = and (element.headers ts) (λ hs. and (element.id ts) (λ id. and (element.result_kind ts) (λ n. completed hs id (ending_in n ts))))
message_in kinds.StreamInvocation ts = and (element.headers ts) (λ hs. and (element.id ts) (λ id. and (element.target ts) (λ s. and (element.arguments ts) (λ xs. and (element.streams ts) (λ ids. Some (StreamInvocation hs id s xs ids))))))
message_in kinds.CancelInvocation ts = and (element.headers ts) (λ hs. and (element.id ts) (λ id. Some (CancelInvocation hs id)))
message_in kinds.Ping ts = Some Ping
message_in kinds.Close ts = and (element.close_error ts) (λ e. and (element.allow ts) (λ b. Some (Close e b)))
message_in kinds.Ack ts = and (element.sequence_id ts) (λ n. Some (Ack n))
message_in kinds.Sequence ts = and (element.sequence_id ts) (λ n. Some (Sequence n (element.received ts)))

abbrev Outcome : Kind → List Tree → Type 0
Outcome k ts = ((m : Message) × ((kind_of m ≡ k) × Holds ts m)) ⊎ ((r : PackRefusal) × (first (faults k ts) ≡ Some r))

split : {A G : Type 0} (r : Result A PackRefusal) → ((x : A) → r ≡ Ok x → G) → ((e : PackRefusal) → r ≡ Err e → G) → G
split (Ok x) f g = f x refl
split (Err e) f g = g e refl

-- how the invocation ends, or what is wrong with it
abbrev Ended : List Tree → Type 0
Ended ts = ((e : Ending) × Ends ts e) ⊎ ((r : PackRefusal) × (element.ending ts ≡ Some r))

abbrev Beginning : Type 0
Beginning = Result (Tree × ℕ) PackError

abbrev Begins : List ℕ → Beginning → Type 0
Begins frame (Ok x) = IsSpelled frame 0 x.0 x.1
Begins frame (Err e) = IsRefused frame 0 e

abbrev kind_reason : Option Kind → List Tree → Option PackRefusal
kind_reason None ts = None
kind_reason (Some k) ts = first (faults k ts)

abbrev type_reason : Result ℤ PackRefusal → List Tree → Option PackRefusal
type_reason (Err r) ts = Some r
type_reason (Ok z) ts = kind_reason (kind_at z) ts

abbrev array_reason : Option (List Tree) → Option PackRefusal
array_reason None = Some NotArray
array_reason (Some ts) = type_reason (type_of ts) ts

abbrev reason : ℕ → Beginning → Option PackRefusal
reason len (Err e) = Some (Value e)
reason len (Ok x) = cond (ltb x.1 len) (Some (Trailing x.1)) (array_reason (items_in x.0))

-- it begins so, and is refused for this reason or for none
abbrev HasReason : List ℕ → Option PackRefusal → Type 0
HasReason frame r = (b : Beginning) × (Begins frame b × (reason (length frame) b ≡ r))

abbrev Meaning : List ℕ → Type 0
Meaning frame = ((m : Message) × Says frame m) ⊎ ((n : ℤ) × Unknown frame n) ⊎ ((r : PackRefusal) × Why frame r)

spelled_within : (frame : List ℕ) (t : Tree) (end : ℕ) → IsSpelled frame 0 t end → end ≤ length frame
spelled_within frame t end s =
    let all : length frame ≡ length (s.spelling ++ s.rest) = ap length s.parts in
    omega (arith, all, length-append s.spelling s.rest, s.ends)

-- a value that isn't over before the frame is, is the whole frame
pub whole_frame : (frame : List ℕ) (t : Tree) (end : ℕ) → IsSpelled frame 0 t end → length frame ≤ end → IsSpelled frame 0 t (length frame)
whole_frame frame t end s least =
    let within = spelled_within frame t end s in
    let all : end ≡ length frame = omega arith in
    subst (λ (x : ℕ). IsSpelled frame 0 t x) all s

module _ (values : ValuesAreTrees) (named : KindsHaveNumbers) (one_reading : HasOneReading) (one_refusal : HasOneRefusal) (apart : SpelledIsNotRefused) (total : IsSpelledOrRefused) where
  -- ---- a message by its elements

  ending_found : (ts : List Tree) (e : Ending) (hs : List Header) (id : List ℕ) → Ends ts e → and (element.result_kind ts) (λ n. completed hs id (ending_in n ts)) ≡ Some (Completion hs id e)
  ending_found ts ending.Void hs id h = rw h refl
  ending_found ts (ending.Result v) hs id h = rw (h.0, h.1, values.value_of-tree v) refl
  ending_found ts (ending.Error s) hs id h = rw (h.0, h.1) refl

  message_found : (ts : List Tree) (m : Message) → Holds ts m → message_in (kind_of m) ts ≡ Some m
  message_found ts (Invocation hs id s xs ids) h = rw (h.0, h.1, h.2, h.3, h.4) refl
  message_found ts (StreamItem hs id v) h = rw (h.0, h.1, h.2, values.value_of-tree v) refl
  message_found ts (Completion hs id e) h = rw (h.0, h.1) (ending_found ts e hs id h.2)
  message_found ts (StreamInvocation hs id s xs ids) h = rw (h.0, h.1, h.2, h.3, h.4) refl
  message_found ts (CancelInvocation hs id) h = rw (h.0, h.1) refl
  message_found ts Ping h = refl
  message_found ts (Close e b) h = rw (h.0, h.1) refl
  message_found ts (Ack n) h = rw h refl
  message_found ts (Sequence n r) h = rw (h.0, h.1) refl

  one_held : (ts : List Tree) (m m' : Message) → kind_of m ≡ kind_of m' → Holds ts m → Holds ts m' → m ≡ m'
  one_held ts m m' k h h' =
      let same : Some m ≡ Some m' = sym (message_found ts m h) ∙ ap (λ (j : Kind). message_in j ts) k ∙ message_found ts m' h' in
      cc

  ends_well : (ts : List Tree) (e : Ending) → Ends ts e → first (element.ending ts ∷ []) ≡ None
  ends_well ts ending.Void h = rw h refl
  ends_well ts (ending.Result v) h = rw (h.0, h.1) refl
  ends_well ts (ending.Error s) h = rw (h.0, h.1) refl

  no_fault : (ts : List Tree) (m : Message) → Holds ts m → first (faults (kind_of m) ts) ≡ None
  no_fault ts (Invocation hs id s xs ids) h = rw (h.0, h.1, h.2, h.3, h.4) refl
  no_fault ts (StreamItem hs id v) h = rw (h.0, h.1, h.2) refl
  no_fault ts (Completion hs id e) h = rw (h.0, h.1) (ends_well ts e h.2)
  no_fault ts (StreamInvocation hs id s xs ids) h = rw (h.0, h.1, h.2, h.3, h.4) refl
  no_fault ts (CancelInvocation hs id) h = rw (h.0, h.1) refl
  no_fault ts Ping h = refl
  no_fault ts (Close e b) h = rw (h.0, h.1) refl
  no_fault ts (Ack n) h = rw h refl
  no_fault ts (Sequence n r) h = rw h.0 refl

  -- ---- a message or its first fault

  ended_by : (ts : List Tree) (n : ℤ) → element.result_kind ts ≡ Ok n → (a b c : Bool) → int_eq n (pos 1) ≡ a → int_eq n (pos 2) ≡ b → int_eq n (pos 3) ≡ c → Ended ts
  ended_by ts n k true b c p q r =
      let one : n ≡ pos 1 = (signed_Decides n (pos 1)).0 p in
      split (element.error ts) (λ s e. inl (ending.Error s, (rw one at k, e))) (λ r e. inr (r, rw (k, p, e) refl))
  ended_by ts n k false true c p q r =
      let two : n ≡ pos 2 = (signed_Decides n (pos 2)).0 q in
      inl (ending.Void, rw two at k)
  ended_by ts n k false false true p q r =
      let three : n ≡ pos 3 = (signed_Decides n (pos 3)).0 r in
      split (element.outcome ts) (λ t e. inl (ending.Result (value_of t), (rw three at k, rw (values.tree-value_of t) e))) (λ f e. inr (f, rw (k, p, q, r, e) refl))
  ended_by ts n k false false false p q r = inr (ResultKind n, rw (k, p, q, r) refl)

  ended : (ts : List Tree) → Ended ts
  ended ts = split (element.result_kind ts) (λ n k. ended_by ts n k _ _ _ refl refl refl) (λ r k. inr (r, rw k refl))

  completion_of : (ts : List Tree) (hs : List Header) (id : List ℕ) → element.headers ts ≡ Ok hs → element.id ts ≡ Ok id → Ended ts → Outcome kinds.Completion ts
  completion_of ts hs id h i (inl (e, x)) = inl (Completion hs id e, (refl, (h, i, x)))
  completion_of ts hs id h i (inr (r, x)) = inr (r, rw (h, i, x) refl)

  outcome_of : (k : Kind) (ts : List Tree) → Outcome k ts
  outcome_of kinds.Invocation ts =
      split (element.headers ts) (λ hs h. split (element.optional_id ts) (λ id i. split (element.target ts) (λ s j. split (element.arguments ts) (λ xs k. split (element.streams ts)
      (λ ids l. inl (Invocation hs id s xs ids, (refl, (h, i, j, k, l))))
      (λ r e. inr (r, rw (h, i, j, k, e) refl))) (λ r e. inr (r, rw (h, i, j, e) refl))) (λ r e. inr (r, rw (h, i, e) refl))) (λ r e. inr (r, rw (h, e) refl))) (λ r e. inr (r, rw e refl))
  outcome_of kinds.StreamItem ts =
      split (element.headers ts) (λ hs h. split (element.id ts) (λ id i. split (element.item ts)
      (λ x j. inl (StreamItem hs id (value_of x), (refl, (h, i, rw (values.tree-value_of x) j))))
      (λ r e. inr (r, rw (h, i, e) refl))) (λ r e. inr (r, rw (h, e) refl))) (λ r e. inr (r, rw e refl))
  outcome_of kinds.Completion ts =
      split (element.headers ts) (λ hs h. split (element.id ts)
      (λ id i. completion_of ts hs id h i (ended ts))
      (λ r e. inr (r, rw (h, e) refl))) (λ r e. inr (r, rw e refl))
  outcome_of kinds.StreamInvocation ts =
      split (element.headers ts) (λ hs h. split (element.id ts) (λ id i. split (element.target ts) (λ s j. split (element.arguments ts) (λ xs k. split (element.streams ts)
      (λ ids l. inl (StreamInvocation hs id s xs ids, (refl, (h, i, j, k, l))))
      (λ r e. inr (r, rw (h, i, j, k, e) refl))) (λ r e. inr (r, rw (h, i, j, e) refl))) (λ r e. inr (r, rw (h, i, e) refl))) (λ r e. inr (r, rw (h, e) refl))) (λ r e. inr (r, rw e refl))
  outcome_of kinds.CancelInvocation ts =
      split (element.headers ts) (λ hs h. split (element.id ts)
      (λ id i. inl (CancelInvocation hs id, (refl, (h, i))))
      (λ r e. inr (r, rw (h, e) refl))) (λ r e. inr (r, rw e refl))
  outcome_of kinds.Ping ts = inl (Ping, (refl, tt))
  outcome_of kinds.Close ts =
      split (element.close_error ts) (λ s h. split (element.allow ts)
      (λ b i. inl (Close s b, (refl, (h, i))))
      (λ r e. inr (r, rw (h, e) refl))) (λ r e. inr (r, rw e refl))
  outcome_of kinds.Ack ts = split (element.sequence_id ts) (λ n h. inl (Ack n, (refl, h))) (λ r e. inr (r, rw e refl))
  outcome_of kinds.Sequence ts = split (element.sequence_id ts) (λ n h. inl (Sequence n (element.received ts), (refl, (h, refl)))) (λ r e. inr (r, rw e refl))

  -- ---- the one reason, by what the frame begins with: a value and its end, or why there is none

  nothing_behind : (len : ℕ) (t : Tree) → reason len (Ok (t, len)) ≡ array_reason (items_in t)
  nothing_behind len t =
      let e : ltb len len ≡ false = le-ltb len len (omega arith) in
      rw e refl

  of_array : (frame : List ℕ) (ts : List Tree) (r : Option PackRefusal) → IsArray frame ts → type_reason (type_of ts) ts ≡ r → HasReason frame r
  of_array frame ts r a e =
      (Ok (list (trees ts), length frame), (a, nothing_behind (length frame) (list (trees ts)) ∙ rw (values.trees_in-trees ts) e))

  of_faulty : (frame : List ℕ) (ts : List Tree) (r : PackRefusal) → IsArray frame ts → IsFaulty ts r → HasReason frame (Some r)
  of_faulty frame ts r a (inl e) = of_array frame ts (Some r) a (rw e refl)
  of_faulty frame ts r a (inr (k, (e, f))) = of_array frame ts (Some r) a (rw (e, named.kind_at-number k) f)

  of_why : (frame : List ℕ) (r : PackRefusal) → Why frame r → HasReason frame (Some r)
  of_why frame (Value e) h = (Err e, (h, refl))
  of_why frame (Trailing at) (t, (h, lt)) = let e : ltb at (length frame) ≡ true = lt-ltb _ _ lt in (Ok (t, at), (h, rw e refl))
  of_why frame NotArray (t, (h, e)) = (Ok (t, length frame), (h, nothing_behind (length frame) t ∙ rw e refl))
  of_why frame (Missing f) (ts, (a, h)) = of_faulty frame ts (Missing f) a h
  of_why frame (Wrong f) (ts, (a, h)) = of_faulty frame ts (Wrong f) a h
  of_why frame (ResultKind n) (ts, (a, h)) = of_faulty frame ts (ResultKind n) a h
  of_why frame NoMemory h = absurd h

  of_says : (frame : List ℕ) (m : Message) → Says frame m → HasReason frame None
  of_says frame m (ts, (a, h)) = of_array frame ts None a (rw (h.0, named.kind_at-number (kind_of m)) (no_fault ts m h.1))

  not_at : (z : ℤ) → IsOfNoKind z → kind_at z ≡ None
  not_at z h = go (named.known_or_not z)
    where
      go : ((j : Kind) × (z ≡ number j)) ⊎ (IsOfNoKind z × (kind_at z ≡ None)) → kind_at z ≡ None
      go (inl (j, s)) = absurd (named.number-known j (subst IsOfNoKind s h))
      go (inr (n, e)) = e

  of_unknown : (frame : List ℕ) (n : ℤ) → Unknown frame n → HasReason frame None
  of_unknown frame n (ts, (a, h)) = of_array frame ts None a (rw (h.0, not_at n h.1) refl)

  -- ---- exactly one

  some_kind : (frame : List ℕ) (ts : List Tree) (k : Kind) → IsArray frame ts → type_of ts ≡ Ok (number k) → Outcome k ts → Meaning frame
  some_kind frame ts k a h (inl (m, (q, held))) = inl (m, (ts, (a, (rw q h, held))))
  some_kind frame ts k a h (inr (r, f)) = inr (inr (r, why_faulty frame ts r (faults_good k ts r f) a (inr (k, (h, f)))))

  some_number : (frame : List ℕ) (ts : List Tree) (z : ℤ) → IsArray frame ts → type_of ts ≡ Ok z → ((k : Kind) × (z ≡ number k)) ⊎ (IsOfNoKind z × (kind_at z ≡ None)) → Meaning frame
  some_number frame ts z a h (inl (k, s)) = some_kind frame ts k a (subst (λ x. type_of ts ≡ Ok x) s h) (outcome_of k ts)
  some_number frame ts z a h (inr (n, u)) = inr (inl (z, (ts, (a, (h, n)))))

  some_array : (frame : List ℕ) (ts : List Tree) → IsArray frame ts → Meaning frame
  some_array frame ts a = split (type_of ts)
      (λ z h. some_number frame ts z a h (named.known_or_not z))
      (λ r h. inr (inr (r, why_faulty frame ts r (type_good ts r h) a (inl h))))

  some_whole : (frame : List ℕ) (t : Tree) → IsSpelled frame 0 t (length frame) → Meaning frame
  some_whole frame null h = inr (inr (NotArray, (null, (h, refl))))
  some_whole frame (boolean b) h = inr (inr (NotArray, (boolean b, (h, refl))))
  some_whole frame (int z) h = inr (inr (NotArray, (int z, (h, refl))))
  some_whole frame (text s) h = inr (inr (NotArray, (text s, (h, refl))))
  some_whole frame (bytes s) h = inr (inr (NotArray, (bytes s, (h, refl))))
  some_whole frame (map ps) h = inr (inr (NotArray, (map ps, (h, refl))))
  some_whole frame (list us) h = some_array frame (trees_in us) (rw (values.trees-trees_in us) h)

  some_spelled : (frame : List ℕ) (t : Tree) (end : ℕ) → IsSpelled frame 0 t end → (b : Bool) → ltb end (length frame) ≡ b → Meaning frame
  some_spelled frame t end s true e = inr (inr (Trailing end, (t, (s, ltb-true _ _ e))))
  some_spelled frame t end s false e = some_whole frame t (whole_frame frame t end s (ltb-false _ _ e))

  one_beginning : (frame : List ℕ) (a b : Beginning) → Begins frame a → Begins frame b → a ≡ b
  one_beginning frame (Ok x) (Ok y) h g =
      let same = one_reading frame 0 x.0 y.0 x.1 y.1 (omega arith) h g in
      λ i. Ok (same.0 i, same.1 i)
  one_beginning frame (Err e) (Err f) h g = ap (λ (d : PackError). Err d) (one_refusal frame 0 e f h g)
  one_beginning frame (Ok x) (Err f) h g = absurd (apart frame 0 x.0 x.1 f (omega arith) h g)
  one_beginning frame (Err e) (Ok y) h g = absurd (apart frame 0 y.0 y.1 e (omega arith) g h)

  same_reason : (frame : List ℕ) (r s : Option PackRefusal) → HasReason frame r → HasReason frame s → r ≡ s
  same_reason frame r s (a, (h, e)) (b, (g, f)) = sym e ∙ ap (reason (length frame)) (one_beginning frame a b h g) ∙ f

  same_elements : (frame : List ℕ) (ts us : List Tree) → IsArray frame ts → IsArray frame us → ts ≡ us
  same_elements frame ts us a b =
      let same = one_reading frame 0 (list (trees ts)) (list (trees us)) (length frame) (length frame) (omega arith) a b in
      let lists : items_in (list (trees ts)) ≡ items_in (list (trees us)) = ap items_in same.0 in
      let inner : Some (trees_in (trees ts)) ≡ Some (trees_in (trees us)) = lists in
      let trees_are : trees_in (trees ts) ≡ trees_in (trees us) = cc in
      sym (values.trees_in-trees ts) ∙ trees_are ∙ values.trees_in-trees us

  one_message_said : (frame : List ℕ) (m m' : Message) → Says frame m → Says frame m' → m ≡ m'
  one_message_said frame m m' (ts, (a, h)) (us, (b, g)) =
      let there : IsMessage ts m' = subst (λ x. IsMessage x m') (same_elements frame us ts b a) g in
      let types : ◌≡◌ {A = Result ℤ PackRefusal} (Ok (number (kind_of m))) (Ok (number (kind_of m'))) = sym h.0 ∙ there.0 in
      let numbers : number (kind_of m) ≡ number (kind_of m') = cc in
      one_held ts m m' (named.number-inj _ _ numbers) h.1 there.1

  one_unknown : (frame : List ℕ) (n n' : ℤ) → Unknown frame n → Unknown frame n' → n ≡ n'
  one_unknown frame n n' (ts, (a, h)) (us, (b, g)) =
      let there : IsUnknown ts n' = subst (λ x. IsUnknown x n') (same_elements frame us ts b a) g in
      let types : ◌≡◌ {A = Result ℤ PackRefusal} (Ok n) (Ok n') = sym h.0 ∙ there.0 in
      cc

  one_why : (frame : List ℕ) (r r' : PackRefusal) → Why frame r → Why frame r' → r ≡ r'
  one_why frame r r' h h' =
      let same : ◌≡◌ {A = Option PackRefusal} (Some r) (Some r') = same_reason frame _ _ (of_why frame r h) (of_why frame r' h') in
      cc

  known_apart : (frame : List ℕ) (m : Message) (n : ℤ) → Says frame m → Unknown frame n → ⊥
  known_apart frame m n (ts, (a, h)) (us, (b, g)) =
      let there : IsUnknown ts n = subst (λ x. IsUnknown x n) (same_elements frame us ts b a) g in
      let types : ◌≡◌ {A = Result ℤ PackRefusal} (Ok (number (kind_of m))) (Ok n) = sym h.0 ∙ there.0 in
      let numbers : n ≡ number (kind_of m) = cc in
      named.number-known (kind_of m) (subst IsOfNoKind numbers there.1)

  none_apart : (frame : List ℕ) (r : PackRefusal) → HasReason frame None → Why frame r → ⊥
  none_apart frame r e h =
      let both : ◌≡◌ {A = Option PackRefusal} None (Some r) = same_reason frame _ _ e (of_why frame r h) in
      cc

  some_meaning : (frame : List ℕ) → Meaning frame
  some_meaning frame = go (total frame 0 (omega arith))
    where
      go : ((t : Tree) × (end : ℕ) × IsSpelled frame 0 t end) ⊎ ((e : PackError) × IsRefused frame 0 e) → Meaning frame
      go (inl (t, end, s)) = some_spelled frame t end s _ refl
      go (inr (e, h)) = inr (inr (Value e, h))

  pub one_meaning : (frame : List ℕ) → ExactlyOne frame
  one_meaning frame = record {
    some = some_meaning frame;
    one_message = one_message_said frame;
    one_number = one_unknown frame;
    one_reason = one_why frame;
    known = known_apart frame;
    accepted = λ m r h. none_apart frame r (of_says frame m h);
    passed = λ n r h. none_apart frame r (of_unknown frame n h);
  }
