-- Each frame says one message, is of one unknown type, or is refused for one reason.
use Rattle.std.proofs.Common.{◌≡◌, ℕ, ℤ, List, [], ◌∷◌, Option, Some, None, Result, Ok, Err, refl, sym, ap, subst, ◌∙◌, inl, inr, ◌⊎◌}
use Rattle.std.specs.Result.{result_err}
use Rattle.hv_value.specs.Tree.{Tree, null, boolean, int, text, bytes, list, map}
use Rattle.hv_json.specs.Reading.{reading}
use Rattle.hv_json.specs.declared.reading.JsonError.{JsonError}
use Rattle.hv_json.specs.declared.reading.JsonError.TheVariants as why
use Rattle.hv_json.specs.Laws.{ReadingTakesNoMemory}
use Rattle.hm_message.specs.Kind.{number, kind_of, kind_at, IsOfNoKind}
use Rattle.hm_message.specs.Laws.{ValuesAreTrees, KindsHaveNumbers}
use Rattle.hm_message.specs.Meaning.{first}
use Rattle.hm_message.specs.Message.{value_of}
use Rattle.hm_message.specs.declared.kind.Kind.{Kind}
use Rattle.hm_message.specs.declared.kind.Kind.TheVariants as kinds
use Rattle.hm_message.specs.declared.message.Message.{Message}
use Rattle.hm_message.specs.declared.message.Message.TheVariants.{Invocation, StreamItem, Completion, StreamInvocation, CancelInvocation, Ping, Close, Ack, Sequence}
use Rattle.hm_message.specs.declared.message.Ending.{Ending}
use Rattle.hm_message.specs.declared.message.Ending.TheVariants as ending
use Rattle.hm_json.specs.Properties as property
use Rattle.hm_json.specs.Properties.{type_of, faults, clash}
use Rattle.hm_json.specs.Says.{IsObject, Ends, Holds, IsMessage, IsUnknown, IsFaulty, Says, Unknown, Why}
use Rattle.hm_json.specs.Laws.{FramesHaveOneMeaning}
use Rattle.hm_json.specs.Refusals.{of_text}
use Rattle.hm_json.specs.declared.refusal.Refusal.{Refusal}
use Rattle.hm_json.specs.declared.refusal.Refusal.TheVariants.{NotJson, Fraction, TooDeep, NotObject, Missing, Wrong, Both, NoMemory}
use Rattle.hm_json.proofs.Faults.{faults_good, type_good, why_faulty}

abbrev and : {A B : Type 0} → Result A Refusal → (A → Option B) → Option B
and (Ok x) f = f x
and (Err e) f = None

abbrev ending_in : Option (List ℕ) → Option Tree → Ending
ending_in None None = ending.Void
ending_in None (Some t) = ending.Result (value_of t)
ending_in (Some s) t = ending.Error s

abbrev message_in : Kind → Tree → Option Message
message_in kinds.Invocation t = and (property.headers t) (λ hs. and (property.optional_id t) (λ id. and (property.target t) (λ s. and (property.arguments t) (λ xs. and (property.streams t) (λ ids. Some (Invocation hs id s xs ids))))))
message_in kinds.StreamItem t = and (property.headers t) (λ hs. and (property.id t) (λ id. and (property.item t) (λ x. Some (StreamItem hs id (value_of x)))))
message_in kinds.Completion t = and (property.headers t) (λ hs. and (property.id t) (λ id. and (property.error t) (λ e. Some (Completion hs id (ending_in e (property.outcome t))))))
message_in kinds.StreamInvocation t = and (property.headers t) (λ hs. and (property.id t) (λ id. and (property.target t) (λ s. and (property.arguments t) (λ xs. and (property.streams t) (λ ids. Some (StreamInvocation hs id s xs ids))))))
message_in kinds.CancelInvocation t = and (property.headers t) (λ hs. and (property.id t) (λ id. Some (CancelInvocation hs id)))
message_in kinds.Ping t = Some Ping
message_in kinds.Close t = and (property.error t) (λ e. and (property.allow t) (λ b. Some (Close e b)))
message_in kinds.Ack t = and (property.sequence_id t) (λ n. Some (Ack n))
message_in kinds.Sequence t = and (property.sequence_id t) (λ n. Some (Sequence n (property.received t)))

abbrev Outcome : Kind → Tree → Type 0
Outcome k t = ((m : Message) × ((kind_of m ≡ k) × Holds t m)) ⊎ ((r : Refusal) × (first (faults k t) ≡ Some r))

split : {A G : Type 0} (r : Result A Refusal) → ((x : A) → r ≡ Ok x → G) → ((e : Refusal) → r ≡ Err e → G) → G
split (Ok x) f g = f x refl
split (Err e) f g = g e refl

abbrev kind_reason : Option Kind → Tree → Option Refusal
kind_reason None t = None
kind_reason (Some k) t = first (faults k t)

abbrev type_reason : Result ℤ Refusal → Tree → Option Refusal
type_reason (Err r) t = Some r
type_reason (Ok z) t = kind_reason (kind_at z) t

abbrev tree_reason : Tree → Option Refusal
tree_reason null = Some NotObject
tree_reason (boolean b) = Some NotObject
tree_reason (int z) = Some NotObject
tree_reason (text s) = Some NotObject
tree_reason (bytes s) = Some NotObject
tree_reason (list ts) = Some NotObject
tree_reason (map ps) = type_reason (type_of (map ps)) (map ps)

abbrev reason : Result Tree JsonError → Option Refusal
reason (Err e) = Some (of_text e)
reason (Ok t) = tree_reason t

abbrev Meaning : List ℕ → Type 0
Meaning frame = ((m : Message) × Says frame m) ⊎ ((n : ℤ) × Unknown frame n) ⊎ ((r : Refusal) × Why frame r)

module _ (same : ValuesAreTrees) (named : KindsHaveNumbers) (readable : ReadingTakesNoMemory) where
  -- ---- a message by its object

  ending_found : (t : Tree) (e : Ending) (hs : List (List ℕ × List ℕ)) (id : List ℕ) → Ends t e → and (property.error t) (λ s. Some (Completion hs id (ending_in s (property.outcome t)))) ≡ Some (Completion hs id e)
  ending_found t ending.Void hs id h = rw (h.0, h.1) refl
  ending_found t (ending.Result v) hs id h = rw (h.0, h.1, same.value_of-tree v) refl
  ending_found t (ending.Error s) hs id h = rw h.0 refl

  message_found : (t : Tree) (m : Message) → Holds t m → message_in (kind_of m) t ≡ Some m
  message_found t (Invocation hs id s xs ids) h = rw (h.0, h.1, h.2, h.3, h.4) refl
  message_found t (StreamItem hs id v) h = rw (h.0, h.1, h.2, same.value_of-tree v) refl
  message_found t (Completion hs id e) h = rw (h.0, h.1) (ending_found t e hs id h.2)
  message_found t (StreamInvocation hs id s xs ids) h = rw (h.0, h.1, h.2, h.3, h.4) refl
  message_found t (CancelInvocation hs id) h = rw (h.0, h.1) refl
  message_found t Ping h = refl
  message_found t (Close e b) h = rw (h.0, h.1) refl
  message_found t (Ack n) h = rw h refl
  message_found t (Sequence n r) h = rw (h.0, h.1) refl

  one_held : (t : Tree) (m m' : Message) → kind_of m ≡ kind_of m' → Holds t m → Holds t m' → m ≡ m'
  one_held t m m' k h h' =
      let same : Some m ≡ Some m' = sym (message_found t m h) ∙ ap (λ (j : Kind). message_in j t) k ∙ message_found t m' h' in
      cc

  no_clash : (t : Tree) (e : Ending) → Ends t e → first (result_err (property.error t) ∷ clash (property.error t) (property.outcome t) ∷ []) ≡ None
  no_clash t ending.Void h = rw h.0 refl
  no_clash t (ending.Result v) h = rw h.0 refl
  no_clash t (ending.Error s) h = rw (h.0, h.1) refl

  no_fault : (t : Tree) (m : Message) → Holds t m → first (faults (kind_of m) t) ≡ None
  no_fault t (Invocation hs id s xs ids) h = rw (h.0, h.1, h.2, h.3, h.4) refl
  no_fault t (StreamItem hs id v) h = rw (h.0, h.1, h.2) refl
  no_fault t (Completion hs id e) h = rw (h.0, h.1) (no_clash t e h.2)
  no_fault t (StreamInvocation hs id s xs ids) h = rw (h.0, h.1, h.2, h.3, h.4) refl
  no_fault t (CancelInvocation hs id) h = rw (h.0, h.1) refl
  no_fault t Ping h = refl
  no_fault t (Close e b) h = rw (h.0, h.1) refl
  no_fault t (Ack n) h = rw h refl
  no_fault t (Sequence n r) h = rw h.0 refl

  -- ---- a message or its first fault

  ended : (t : Tree) (hs : List (List ℕ × List ℕ)) (id : List ℕ) (e : Option (List ℕ)) (o : Option Tree) → property.headers t ≡ Ok hs → property.id t ≡ Ok id → property.error t ≡ Ok e → property.outcome t ≡ o → Outcome kinds.Completion t
  ended t hs id None None h i e o = inl (Completion hs id ending.Void, (refl, (h, i, (e, o))))
  ended t hs id None (Some v) h i e o = inl (Completion hs id (ending.Result (value_of v)), (refl, (h, i, (e, rw (same.tree-value_of v) o))))
  ended t hs id (Some s) None h i e o = inl (Completion hs id (ending.Error s), (refl, (h, i, (e, o))))
  ended t hs id (Some s) (Some v) h i e o = inr (Both, rw (h, i, e, o) refl)

  outcome_of : (k : Kind) (t : Tree) → Outcome k t
  outcome_of kinds.Invocation t =
      split (property.headers t) (λ hs h. split (property.optional_id t) (λ id i. split (property.target t) (λ s j. split (property.arguments t) (λ xs k. split (property.streams t)
      (λ ids l. inl (Invocation hs id s xs ids, (refl, (h, i, j, k, l))))
      (λ r e. inr (r, rw (h, i, j, k, e) refl))) (λ r e. inr (r, rw (h, i, j, e) refl))) (λ r e. inr (r, rw (h, i, e) refl))) (λ r e. inr (r, rw (h, e) refl))) (λ r e. inr (r, rw e refl))
  outcome_of kinds.StreamItem t =
      split (property.headers t) (λ hs h. split (property.id t) (λ id i. split (property.item t)
      (λ x j. inl (StreamItem hs id (value_of x), (refl, (h, i, rw (same.tree-value_of x) j))))
      (λ r e. inr (r, rw (h, i, e) refl))) (λ r e. inr (r, rw (h, e) refl))) (λ r e. inr (r, rw e refl))
  outcome_of kinds.Completion t =
      split (property.headers t) (λ hs h. split (property.id t) (λ id i. split (property.error t)
      (λ x j. ended t hs id x (property.outcome t) h i j refl)
      (λ r e. inr (r, rw (h, i, e) refl))) (λ r e. inr (r, rw (h, e) refl))) (λ r e. inr (r, rw e refl))
  outcome_of kinds.StreamInvocation t =
      split (property.headers t) (λ hs h. split (property.id t) (λ id i. split (property.target t) (λ s j. split (property.arguments t) (λ xs k. split (property.streams t)
      (λ ids l. inl (StreamInvocation hs id s xs ids, (refl, (h, i, j, k, l))))
      (λ r e. inr (r, rw (h, i, j, k, e) refl))) (λ r e. inr (r, rw (h, i, j, e) refl))) (λ r e. inr (r, rw (h, i, e) refl))) (λ r e. inr (r, rw (h, e) refl))) (λ r e. inr (r, rw e refl))
  outcome_of kinds.CancelInvocation t =
      split (property.headers t) (λ hs h. split (property.id t)
      (λ id i. inl (CancelInvocation hs id, (refl, (h, i))))
      (λ r e. inr (r, rw (h, e) refl))) (λ r e. inr (r, rw e refl))
  outcome_of kinds.Ping t = inl (Ping, (refl, tt))
  outcome_of kinds.Close t =
      split (property.error t) (λ s h. split (property.allow t)
      (λ b i. inl (Close s b, (refl, (h, i))))
      (λ r e. inr (r, rw (h, e) refl))) (λ r e. inr (r, rw e refl))
  outcome_of kinds.Ack t = split (property.sequence_id t) (λ n h. inl (Ack n, (refl, h))) (λ r e. inr (r, rw e refl))
  outcome_of kinds.Sequence t = split (property.sequence_id t) (λ n h. inl (Sequence n (property.received t), (refl, (h, refl)))) (λ r e. inr (r, rw e refl))

  -- ---- the one reason

  of_object : (t : Tree) → IsObject t → tree_reason t ≡ type_reason (type_of t) t
  of_object null h = absurd h
  of_object (boolean b) h = absurd h
  of_object (int z) h = absurd h
  of_object (text s) h = absurd h
  of_object (bytes s) h = absurd h
  of_object (list ts) h = absurd h
  of_object (map ps) h = refl

  of_no_object : (t : Tree) → ¬ IsObject t → tree_reason t ≡ Some NotObject
  of_no_object null h = refl
  of_no_object (boolean b) h = refl
  of_no_object (int z) h = refl
  of_no_object (text s) h = refl
  of_no_object (bytes s) h = refl
  of_no_object (list ts) h = refl
  of_no_object (map ps) h = absurd (h tt)

  faulty_reason : (t : Tree) (r : Refusal) → IsFaulty t r → tree_reason t ≡ Some r
  faulty_reason t r h = of_object t h.0 ∙ go h.1
    where
      go : (type_of t ≡ Err r) ⊎ ((k : Kind) × ((type_of t ≡ Ok (number k)) × (first (faults k t) ≡ Some r))) → type_reason (type_of t) t ≡ Some r
      go (inl e) = rw e refl
      go (inr (k, (e, f))) = rw (e, named.kind_at-number k) f

  why_reason : (frame : List ℕ) (r : Refusal) → Why frame r → reason (reading frame) ≡ Some r
  why_reason frame NotJson h = rw h refl
  why_reason frame Fraction h = rw h refl
  why_reason frame TooDeep h = rw h refl
  why_reason frame NotObject (t, (e, h)) = rw e (of_no_object t h)
  why_reason frame (Missing f) (t, (e, h)) = rw e (faulty_reason t (Missing f) h)
  why_reason frame (Wrong f) (t, (e, h)) = rw e (faulty_reason t (Wrong f) h)
  why_reason frame Both (t, (e, h)) = rw e (faulty_reason t Both h)
  why_reason frame NoMemory h = absurd h

  says_reason : (frame : List ℕ) (m : Message) → Says frame m → reason (reading frame) ≡ None
  says_reason frame m (t, (e, h)) = rw e (of_object t h.0 ∙ rw (h.1, named.kind_at-number (kind_of m)) (no_fault t m h.2))

  not_at : (z : ℤ) → IsOfNoKind z → kind_at z ≡ None
  not_at z h = go (named.known_or_not z)
    where
      go : ((j : Kind) × (z ≡ number j)) ⊎ (IsOfNoKind z × (kind_at z ≡ None)) → kind_at z ≡ None
      go (inl (j, s)) = absurd (named.number-known j (subst IsOfNoKind s h))
      go (inr (n, e)) = e

  unknown_reason : (frame : List ℕ) (n : ℤ) → Unknown frame n → reason (reading frame) ≡ None
  unknown_reason frame n (t, (e, h)) = rw e (of_object t h.0 ∙ rw (h.1, not_at n h.2) refl)

  -- ---- exactly one

  same_tree : (frame : List ℕ) (t u : Tree) → reading frame ≡ Ok t → reading frame ≡ Ok u → t ≡ u
  same_tree frame t u e f =
      let same : ◌≡◌ {A = Result Tree JsonError} (Ok t) (Ok u) = sym e ∙ f in
      cc

  one_message_said : (frame : List ℕ) (m m' : Message) → Says frame m → Says frame m' → m ≡ m'
  one_message_said frame m m' (t, (e, h)) (u, (f, g)) =
      let there : IsMessage t m' = subst (λ x. IsMessage x m') (same_tree frame u t f e) g in
      let types : ◌≡◌ {A = Result ℤ Refusal} (Ok (number (kind_of m))) (Ok (number (kind_of m'))) = sym h.1 ∙ there.1 in
      let numbers : number (kind_of m) ≡ number (kind_of m') = cc in
      one_held t m m' (named.number-inj _ _ numbers) h.2 there.2

  one_unknown : (frame : List ℕ) (n n' : ℤ) → Unknown frame n → Unknown frame n' → n ≡ n'
  one_unknown frame n n' (t, (e, h)) (u, (f, g)) =
      let there : IsUnknown t n' = subst (λ x. IsUnknown x n') (same_tree frame u t f e) g in
      let types : ◌≡◌ {A = Result ℤ Refusal} (Ok n) (Ok n') = sym h.1 ∙ there.1 in
      cc

  one_why : (frame : List ℕ) (r r' : Refusal) → Why frame r → Why frame r' → r ≡ r'
  one_why frame r r' h h' =
      let same : ◌≡◌ {A = Option Refusal} (Some r) (Some r') = sym (why_reason frame r h) ∙ why_reason frame r' h' in
      cc

  known_apart : (frame : List ℕ) (m : Message) (n : ℤ) → Says frame m → Unknown frame n → ⊥
  known_apart frame m n (t, (e, h)) (u, (f, g)) =
      let there : IsUnknown t n = subst (λ x. IsUnknown x n) (same_tree frame u t f e) g in
      let types : ◌≡◌ {A = Result ℤ Refusal} (Ok (number (kind_of m))) (Ok n) = sym h.1 ∙ there.1 in
      let numbers : n ≡ number (kind_of m) = cc in
      named.number-known (kind_of m) (subst IsOfNoKind numbers there.2)

  none_apart : (frame : List ℕ) (r : Refusal) → reason (reading frame) ≡ None → Why frame r → ⊥
  none_apart frame r e h =
      let both : ◌≡◌ {A = Option Refusal} None (Some r) = sym e ∙ why_reason frame r h in
      cc

  some_kind : (frame : List ℕ) (t : Tree) (k : Kind) → reading frame ≡ Ok t → IsObject t → type_of t ≡ Ok (number k) → Outcome k t → Meaning frame
  some_kind frame t k e o h (inl (m, (q, held))) = inl (m, (t, (e, (o, rw q h, held))))
  some_kind frame t k e o h (inr (r, f)) = inr (inr (r, why_faulty frame t r (faults_good k t r f) e (o, inr (k, (h, f)))))

  some_number : (frame : List ℕ) (t : Tree) (z : ℤ) → reading frame ≡ Ok t → IsObject t → type_of t ≡ Ok z → ((k : Kind) × (z ≡ number k)) ⊎ (IsOfNoKind z × (kind_at z ≡ None)) → Meaning frame
  some_number frame t z e o h (inl (k, s)) = some_kind frame t k e o (subst (λ x. type_of t ≡ Ok x) s h) (outcome_of k t)
  some_number frame t z e o h (inr (n, u)) = inr (inl (z, (t, (e, (o, h, n)))))

  some_object : (frame : List ℕ) (t : Tree) → reading frame ≡ Ok t → IsObject t → Meaning frame
  some_object frame t e o = split (type_of t)
      (λ z h. some_number frame t z e o h (named.known_or_not z))
      (λ r h. inr (inr (r, why_faulty frame t r (type_good t r h) e (o, inl h))))

  some_meaning : (frame : List ℕ) (r : Result Tree JsonError) → reading frame ≡ r → Meaning frame
  some_meaning frame (Err why.NotJson) e = inr (inr (NotJson, e))
  some_meaning frame (Err why.Fraction) e = inr (inr (Fraction, e))
  some_meaning frame (Err why.TooDeep) e = inr (inr (TooDeep, e))
  some_meaning frame (Err why.NoMemory) e = absurd (readable frame e)
  some_meaning frame (Ok null) e = inr (inr (NotObject, (null, (e, λ h. h))))
  some_meaning frame (Ok (boolean b)) e = inr (inr (NotObject, (boolean b, (e, λ h. h))))
  some_meaning frame (Ok (int z)) e = inr (inr (NotObject, (int z, (e, λ h. h))))
  some_meaning frame (Ok (text s)) e = inr (inr (NotObject, (text s, (e, λ h. h))))
  some_meaning frame (Ok (bytes s)) e = inr (inr (NotObject, (bytes s, (e, λ h. h))))
  some_meaning frame (Ok (list ts)) e = inr (inr (NotObject, (list ts, (e, λ h. h))))
  some_meaning frame (Ok (map ps)) e = some_object frame (map ps) e tt

  pub one_meaning : FramesHaveOneMeaning
  one_meaning frame = record {
    some = some_meaning frame (reading frame) refl;
    one_message = one_message_said frame;
    one_number = one_unknown frame;
    one_reason = one_why frame;
    known = known_apart frame;
    accepted = λ m r h. none_apart frame r (says_reason frame m h);
    passed = λ n r h. none_apart frame r (unknown_reason frame n h);
  }
