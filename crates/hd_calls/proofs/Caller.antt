-- What a caller is given for a call is what was said for it.
use Rattle.std.proofs.Common.{⊎_elim, ◌≡◌, ℕ, ◌<◌, Bool, true, false, List, [], ◌∷◌, ◌++◌, Option, Some, None, refl, sym, ap, ◌∙◌, subst, arith}
use Rattle.std.specs.Prelude.{is_some, ◌==◌, ◌||◌, ◌&&◌, not, if◌then◌else◌}
use Rattle.std.proofs.lemmas.Bool.{or_cases, and_parts, not-true, eqb-true, eq-eqb}
use Rattle.hm_message.specs.Same.{same_text}
use Rattle.hd_facts.specs.Prefixes.{IsPrefix}
use Rattle.hd_calls.specs.Hubs.{Invoked, Answer, Item, End, Purpose, ToBegin, ToAnswer, ToCancel, ToNothing, Hub, id_of, is_stream, purpose_of}
use Rattle.hd_calls.specs.Peers.{Effect, Begins, InUse, TooMany, Brings, Feeds, Flood, Marks, Nothing, PeerEvent, Calls, Handles, Loses, Settings, drawn, call_of, given, lost, has_end, has_id, streams_items, live_call, takes}
use Rattle.hd_calls.specs.Rules.{IsStrange, Arrives, ActsOn, Follows}
use Rattle.hd_calls.specs.Ledgers.{IsLegal}
use Rattle.hd_calls.proofs.Lists.{both, not_true, append_none, prefix_trans, same_refl, same-true}
use Rattle.hd_calls.proofs.Basics.{put, said, said-append}
use Rattle.hd_calls.proofs.Local.{handled}
use Rattle.hd_calls.proofs.Names.{keyed_id, number_drawn}

-- the answers that are given of those that are said: items for a stream, up to the first ending
abbrev pub heard : Bool → List Answer → List Answer
heard s [] = []
heard s (Item v ∷ xs) = put s (Item v) (heard s xs)
heard s (End e ∷ xs) = End e ∷ []

pub heard_prefix : (s : Bool) (xs ys : List Answer) → IsPrefix (heard s xs) (heard s (xs ++ ys))
heard_prefix s [] ys = (heard s ys, refl)
heard_prefix s (Item v ∷ xs) ys = go (heard_prefix s xs ys)
  where
    go : IsPrefix (heard s xs) (heard s (xs ++ ys)) → IsPrefix (put s (Item v) (heard s xs)) (put s (Item v) (heard s (xs ++ ys)))
    go p = elim s as (λ b. IsPrefix (put b (Item v) (heard s xs)) (put b (Item v) (heard s (xs ++ ys)))) [ true ↦ (p.0, ap (λ zs. Item v ∷ zs) p.1) | false ↦ p ]
heard_prefix s (End e ∷ xs) ys = ([], refl)

abbrev pub accepts : Bool → Answer → Bool
accepts s (Item v) = s
accepts s (End e) = true

-- one more answer that is accepted
pub heard_push : (s : Bool) (xs : List Answer) (a : Answer) → has_end (heard s xs) ≡ false → accepts s a ≡ true → heard s (xs ++ a ∷ []) ≡ heard s xs ++ a ∷ []
heard_push s [] (Item v) e f = ap (λ b. put b (Item v) []) f
heard_push s [] (End v) e f = refl
heard_push true (Item w ∷ xs) a e f = ap (λ zs. Item w ∷ zs) (heard_push true xs a e f)
heard_push false (Item w ∷ xs) a e f = heard_push false xs a e f
heard_push s (End w ∷ xs) a e f = absurd (let z : true ≡ false = e in cc)

pub heard_ended : (s : Bool) (xs ys : List Answer) → has_end (heard s xs) ≡ true → heard s (xs ++ ys) ≡ heard s xs
heard_ended s [] ys e = absurd (let z : false ≡ true = e in cc)
heard_ended true (Item w ∷ xs) ys e = ap (λ zs. Item w ∷ zs) (heard_ended true xs ys e)
heard_ended false (Item w ∷ xs) ys e = heard_ended false xs ys e
heard_ended s (End w ∷ xs) ys e = refl

heard_unaccepted : (s : Bool) (xs : List Answer) (a : Answer) → accepts s a ≡ false → heard s (xs ++ a ∷ []) ≡ heard s xs
heard_unaccepted s [] (Item v) f = ap (λ b. put b (Item v) []) f
heard_unaccepted s [] (End v) f = absurd (let z : true ≡ false = f in cc)
heard_unaccepted true (Item w ∷ xs) (Item v) f = absurd (let z : true ≡ false = f in cc)
heard_unaccepted true (Item w ∷ xs) (End v) f = absurd (let z : true ≡ false = f in cc)
heard_unaccepted false (Item w ∷ xs) a f = heard_unaccepted false xs a f
heard_unaccepted s (End w ∷ xs) a f = refl

-- one that isn't taken leaves what was given
kept : (s : Bool) (a : Answer) (g xs : List Answer) → (accepts s a && (not (has_end g) && not false)) ≡ false → g ≡ heard s xs → g ≡ heard s (xs ++ a ∷ [])
kept s a g xs e f = go (accepts s a) refl (has_end g) refl e
  where
    go : (b : Bool) → accepts s a ≡ b → (k : Bool) → has_end g ≡ k → (b && (not k && not false)) ≡ false → g ≡ heard s (xs ++ a ∷ [])
    go false p k q r = f ∙ sym (heard_unaccepted s xs a p)
    go true p true q r = f ∙ sym (heard_ended s xs (a ∷ []) (ap has_end (sym f) ∙ q))
    go true p false q r = absurd (let z : true ≡ false = r in cc)

-- the list of what was handled may hold answers for drawn numbers alone, at each moment before the last
abbrev pub Causal : Settings → List PeerEvent → Type 0
Causal t [] = Unit {0}
Causal t (d ∷ h) = Causal t h × ((n : ℕ) → drawn h < n → said (t.name n) (handled h) ≡ [])

pub record Heard (t : Settings) (n : ℕ) (h : List PeerEvent) (c : Invoked) : Type 0 where
  pub whole : lost n h ≡ false → given n h ≡ heard (is_stream c.way) (said (t.name n) (handled h))
  pub front : IsPrefix (given n h) (heard (is_stream c.way) (said (t.name n) (handled h)))

-- no own call takes what the message brings
abbrev pub Ignored : Settings → List PeerEvent → Purpose → Type 0
Ignored t h (ToAnswer i a) = IsStrange t h i a
Ignored t h _ = Unit {0}

abbrev pub brings : Effect → Bool
brings (Brings n a floods) = true
brings _ = false

strange : (t : Settings) (h : List PeerEvent) (i : List ℕ) (a : Answer) (e : Effect) → Arrives t h i a e → brings e ≡ false → IsStrange t h i a
strange t h i a (Brings n b floods) p f = absurd (let z : true ≡ false = f in cc)
strange t h i a (Feeds j w b) p f = p.1
strange t h i a Flood p f = p.0
strange t h i a Nothing p f = p.0
strange t h i a (Begins c now floods) p f = absurd p
strange t h i a (InUse c) p f = absurd p
strange t h i a (TooMany c) p f = absurd p
strange t h i a (Marks j) p f = absurd p

pub ignored : (t : Settings) (h : List PeerEvent) (m : Purpose) (e : Effect) → ActsOn t h m e → brings e ≡ false → Ignored t h m
ignored t h (ToAnswer i a) e p f = strange t h i a e p f
ignored t h (ToBegin c) e p f = tt
ignored t h (ToCancel i) e p f = tt
ignored t h ToNothing e p f = tt

-- what is brought is the message's
pub record Brought (t : Settings) (h : List PeerEvent) (m : Purpose) (n : ℕ) (a : Answer) : Type 0 where
  pub said_is : (i : List ℕ) → said i (m ∷ []) ≡ put (same_text i (t.name n)) a []
  pub taken : takes n a h ≡ true

brought_answer : (t : Settings) (h : List PeerEvent) (i : List ℕ) (a : Answer) (n : ℕ) (b : Answer) (floods : Bool) → Arrives t h i a (Brings n b floods) → Brought t h (ToAnswer i a) n b
brought_answer t h i a n b floods p = record {
  said_is = λ k. ap (λ x. put (same_text k x) a []) (sym p.1) ∙ ap (λ x. put (same_text k (t.name n)) x []) (sym p.0);
  taken = ap (λ x. takes n x h) p.0 ∙ p.2;
}

pub brought : (t : Settings) (h : List PeerEvent) (m : Purpose) (n : ℕ) (a : Answer) (floods : Bool) → ActsOn t h m (Brings n a floods) → Brought t h m n a
brought t h (ToAnswer i b) n a floods p = brought_answer t h i b n a floods p
brought t h (ToBegin c) n a floods p = absurd p
brought t h (ToCancel i) n a floods p = absurd p
brought t h ToNothing n a floods p = absurd p

-- the test of a call that is there
takes_is : (n : ℕ) (h : List PeerEvent) (c : Invoked) (i : List ℕ) (a : Answer) → call_of n h ≡ Some c → id_of c.way ≡ Some i → takes n a h ≡ (accepts (is_stream c.way) a && (not (has_end (given n h)) && not (lost n h)))
takes_is n h c i (Item v) e f = ap (λ o. streams_items o && (has_id o && (not (has_end (given n h)) && not (lost n h)))) e ∙ ap (λ o. is_stream c.way && (is_some o && (not (has_end (given n h)) && not (lost n h)))) f
takes_is n h c i (End v) e f = ap (λ o. has_id o && (not (has_end (given n h)) && not (lost n h))) e ∙ ap (λ o. is_some o && (not (has_end (given n h)) && not (lost n h))) f

-- a call that isn't there has nothing
pub live_there : (n : ℕ) (h : List PeerEvent) → live_call n h ≡ true → call_of n h ≡ None → ⊥
live_there n h e f = let z : false ≡ true = sym (ap (λ o. has_id o && (not (has_end (given n h)) && not (lost n h))) f) ∙ e in absurd (cc)

pub takes_live : (n : ℕ) (a : Answer) (h : List PeerEvent) → takes n a h ≡ true → live_call n h ≡ true
takes_live n (Item v) h e = (and_parts (streams_items (call_of n h)) (live_call n h) e).1
takes_live n (End v) h e = e

none_tail : (n k : ℕ) (c : Invoked) (o : Option Invoked) → (if n == k then Some c else o) ≡ None → o ≡ None
none_tail n k c o e = both (λ x. x ≡ None → o ≡ None) (n == k) (Some c) o (λ f g. absurd (cc)) (λ f g. g) e

pub nothing_given : {Job : Type 0} (hub : Hub Job) (t : Settings) (n : ℕ) (h : List PeerEvent) → Follows hub t h → call_of n h ≡ None → (given n h ≡ []) × (lost n h ≡ false)
nothing_given hub t n [] p e = (refl, refl)
nothing_given hub t n (Calls a k d ∷ h) p e = nothing_given hub t n h p.0 (none_tail n k d (call_of n h) e)
nothing_given hub t n (Handles m (Brings k a floods) ∷ h) p e =
    let ih = nothing_given hub t n h p.0 e in (
      both (λ xs. xs ≡ []) (n == k) (given n h ++ a ∷ []) (given n h)
          (λ f. let z = eqb-true n k f in absurd (live_there n h (takes_live n a h (subst (λ x. takes x a h ≡ true) (sym z) (brought t h (purpose_of m) k a floods p.1.1).taken)) e))
          (λ f. ih.0),
      ih.1,
    )
nothing_given hub t n (Handles m x ∷ h) p e = nothing_given hub t n h p.0 e
nothing_given hub t n (Loses k ∷ h) p e =
    let ih = nothing_given hub t n h p.0 e in (
      ih.0,
      not_true ((n == k) || lost n h) (λ f. ⊎_elim
          (λ g. let z = eqb-true n k g in live_there n h (subst (λ x. live_call x h ≡ true) (sym z) p.1.1) e)
          (λ g. absurd (let z : false ≡ true = sym ih.1 ∙ g in cc))
          (or_cases (n == k) (lost n h) f)),
    )
nothing_given hub t n (_ ∷ h) p e = nothing_given hub t n h p.0 e

pub undrawn : (n : ℕ) (h : List PeerEvent) → drawn h < n → call_of n h ≡ None
undrawn n h l = go (call_of n h) refl
  where
    go : (o : Option Invoked) → call_of n h ≡ o → o ≡ None
    go None e = refl
    go (Some c) e = absurd (let z = number_drawn n h c e in omega arith)

module _ {Job : Type 0} (hub : Hub Job) (t : Settings) (own : (m n : ℕ) → t.name m ≡ t.name n → m ≡ n) (n : ℕ) (call : Invoked) (id : id_of call.way ≡ Some (t.name n)) where
  -- nothing was said of it
  unmoved : (h : List PeerEvent) (m : Purpose) (gs : List Answer) (l : Bool) → said (t.name n) (m ∷ []) ≡ []
      → ((l ≡ false → gs ≡ heard (is_stream call.way) (said (t.name n) (handled h))) × IsPrefix gs (heard (is_stream call.way) (said (t.name n) (handled h))))
      → ((l ≡ false → gs ≡ heard (is_stream call.way) (said (t.name n) (handled h ++ m ∷ []))) × IsPrefix gs (heard (is_stream call.way) (said (t.name n) (handled h ++ m ∷ []))))
  unmoved h m gs l e p =
      let f : said (t.name n) (handled h ++ m ∷ []) ≡ said (t.name n) (handled h) = said-append (t.name n) (handled h) (m ∷ []) ∙ (ap (λ xs. said (t.name n) (handled h) ++ xs) e ∙ append_none (said (t.name n) (handled h))) in
      (λ k. p.0 k ∙ ap (heard (is_stream call.way)) (sym f), subst (λ xs. IsPrefix gs (heard (is_stream call.way) xs)) (sym f) p.1)

  -- an answer for it came that it doesn't take
  passed : (h : List PeerEvent) (a : Answer) (i : List ℕ) → call_of n h ≡ Some call → IsStrange t h i a → Heard t n h call → (ys : List Answer) → ys ≡ put (same_text (t.name n) i) a []
      → ((lost n h ≡ false → given n h ≡ heard (is_stream call.way) (said (t.name n) (handled h) ++ ys)) × IsPrefix (given n h) (heard (is_stream call.way) (said (t.name n) (handled h) ++ ys)))
  passed h a i e s p ys y = go (same_text (t.name n) i) refl
    where
      xs : List Answer
      xs = said (t.name n) (handled h)

      front : IsPrefix (given n h) (heard (is_stream call.way) (said (t.name n) (handled h) ++ ys))
      front = prefix_trans (given n h) (heard (is_stream call.way) (said (t.name n) (handled h))) (heard (is_stream call.way) (said (t.name n) (handled h) ++ ys)) p.front (heard_prefix (is_stream call.way) (said (t.name n) (handled h)) ys)

      go : (b : Bool) → same_text (t.name n) i ≡ b → ((lost n h ≡ false → given n h ≡ heard (is_stream call.way) (said (t.name n) (handled h) ++ ys)) × IsPrefix (given n h) (heard (is_stream call.way) (said (t.name n) (handled h) ++ ys)))
      go false f =
          let z : ys ≡ [] = y ∙ ap (λ b. put b a []) f in
          (λ k. p.whole k ∙ ap (heard (is_stream call.way)) (sym (ap (λ zs. said (t.name n) (handled h) ++ zs) z ∙ append_none (said (t.name n) (handled h)))), front)
      go true f =
          let z : ys ≡ a ∷ [] = y ∙ ap (λ b. put b a []) f in
          let q : (accepts (is_stream call.way) a && (not (has_end (given n h)) && not (lost n h))) ≡ false = sym (takes_is n h call (t.name n) a e id) ∙ s n (same-true (t.name n) i f) in (
            λ k. kept (is_stream call.way) a (given n h) (said (t.name n) (handled h)) (ap (λ b. accepts (is_stream call.way) a && (not (has_end (given n h)) && not b)) (sym k) ∙ q) (p.whole k)
                ∙ ap (λ zs. heard (is_stream call.way) (said (t.name n) (handled h) ++ zs)) (sym z),
            front,
          )

  ignoring : (h : List PeerEvent) (m : Purpose) → call_of n h ≡ Some call → Ignored t h m → Heard t n h call
      → ((lost n h ≡ false → given n h ≡ heard (is_stream call.way) (said (t.name n) (handled h ++ m ∷ []))) × IsPrefix (given n h) (heard (is_stream call.way) (said (t.name n) (handled h ++ m ∷ []))))
  ignoring h (ToAnswer i a) e s p = rw said-append (passed h a i e s p (put (same_text (t.name n) i) a []) refl)
  ignoring h (ToBegin d) e s p = unmoved h (ToBegin d) (given n h) (lost n h) refl (p.whole, p.front)
  ignoring h (ToCancel i) e s p = unmoved h (ToCancel i) (given n h) (lost n h) refl (p.whole, p.front)
  ignoring h ToNothing e s p = unmoved h ToNothing (given n h) (lost n h) refl (p.whole, p.front)

  -- an answer is brought for it
  taking : (h : List PeerEvent) (m : Purpose) (a : Answer) → call_of n h ≡ Some call → Brought t h m n a → Heard t n h call
      → given n h ++ a ∷ [] ≡ heard (is_stream call.way) (said (t.name n) (handled h ++ m ∷ []))
  taking h m a e b p =
      let q : (accepts (is_stream call.way) a && (not (has_end (given n h)) && not (lost n h))) ≡ true = sym (takes_is n h call (t.name n) a e id) ∙ b.taken in
      let q1 = and_parts (accepts (is_stream call.way) a) (not (has_end (given n h)) && not (lost n h)) q in
      let q2 = and_parts (not (has_end (given n h))) (not (lost n h)) q1.1 in
      let w = p.whole (not-true (lost n h) q2.1) in
      let one : said (t.name n) (m ∷ []) ≡ a ∷ [] = b.said_is (t.name n) ∙ ap (λ k. put k a []) (same_refl (t.name n)) in
      ap (λ xs. xs ++ a ∷ []) w ∙ (sym (heard_push (is_stream call.way) (said (t.name n) (handled h)) a (ap has_end (sym w) ∙ not-true (has_end (given n h)) q2.0) q1.0)
      ∙ ap (heard (is_stream call.way)) (sym (said-append (t.name n) (handled h) (m ∷ []) ∙ ap (λ xs. said (t.name n) (handled h) ++ xs) one)))

  pub hears : (h : List PeerEvent) → Follows hub t h → Causal t h → call_of n h ≡ Some call → Heard t n h call
  hears [] p k e = absurd (cc)
  hears (Calls a j d ∷ h) p k e = both (λ o. o ≡ Some call → Heard t n (Calls a j d ∷ h) call) (n == j) (Some d) (call_of n h)
      (λ g q.
      let z : d ≡ call = cc in
      let y = eqb-true n j g in
      let made = keyed_id t (drawn h) j d.way d (t.name n) p.1.made (ap (λ x. id_of x.way) z ∙ id) in
      let l : drawn h < n = omega (arith, made.1) in
      let none = nothing_given hub t n h p.0 (undrawn n h l) in
      let quiet : said (t.name n) (handled h) ≡ [] = k.1 n l in
      let w : given n h ≡ heard (is_stream call.way) (said (t.name n) (handled h)) = none.0 ∙ ap (heard (is_stream call.way)) (sym quiet) in
      record { whole = λ f. w; front = ([], append_none (given n h) ∙ w) })
      (λ g q. let r = hears h p.0 k.0 q in record { whole = r.whole; front = r.front }) e
  hears (Handles m (Brings j a floods) ∷ h) p k e = go (n == j) refl (hears h p.0 k.0 e)
    where
      b : Brought t h (purpose_of m) j a
      b = brought t h (purpose_of m) j a floods p.1.1

      go : (x : Bool) → (n == j) ≡ x → Heard t n h call → Heard t n (Handles m (Brings j a floods) ∷ h) call
      go true f r =
          let z = eqb-true n j f in
          let w : given n (Handles m (Brings j a floods) ∷ h) ≡ heard (is_stream call.way) (said (t.name n) (handled h ++ purpose_of m ∷ [])) = ap (λ y. if y then given n h ++ a ∷ [] else given n h) f ∙ taking h (purpose_of m) a e (subst (λ x. Brought t h (purpose_of m) x a) (sym z) b) r in
          record { whole = λ l. w; front = ([], append_none (given n (Handles m (Brings j a floods) ∷ h)) ∙ w) }
      go false f r =
          let g : given n (Handles m (Brings j a floods) ∷ h) ≡ given n h = ap (λ y. if y then given n h ++ a ∷ [] else given n h) f in
          let apart : same_text (t.name n) (t.name j) ≡ false = not_true (same_text (t.name n) (t.name j)) (λ q. absurd (let y : false ≡ true = sym f ∙ eq-eqb n j (own n j (same-true (t.name n) (t.name j) q)) in cc)) in
          let u = unmoved h (purpose_of m) (given n h) (lost n h) (b.said_is (t.name n) ∙ ap (λ y. put y a []) apart) (r.whole, r.front) in
          record { whole = λ l. g ∙ u.0 l; front = subst (λ xs. IsPrefix xs (heard (is_stream call.way) (said (t.name n) (handled h ++ purpose_of m ∷ [])))) (sym g) u.1 }
  hears (Handles m x ∷ h) p k e = let u = ignoring h (purpose_of m) e (ignored t h (purpose_of m) x p.1.1 refl) (hears h p.0 k.0 e) in record { whole = u.0; front = u.1 }
  hears (Loses j ∷ h) p k e =
      let r = hears h p.0 k.0 e in
      record { whole = λ l. r.whole (elim (n == j) as (λ b. (b || lost n h) ≡ false → lost n h ≡ false) [ true ↦ λ f. absurd (let z : true ≡ false = f in cc) | false ↦ λ f. f ] l); front = r.front }
  hears (_ ∷ h) p k e = let r = hears h p.0 k.0 e in record { whole = r.whole; front = r.front }

-- what is legal is heard whole
pub heard_legal : (s : Bool) (xs : List Answer) → IsLegal s xs → heard s xs ≡ xs
heard_legal s [] l = refl
heard_legal s (Item v ∷ xs) l = ap (λ b. put b (Item v) (heard s xs)) l.0 ∙ ap (λ zs. Item v ∷ zs) (heard_legal s xs l.1)
heard_legal s (End e ∷ xs) l = ap (λ zs. End e ∷ zs) (sym l)

pub legal_front : (s : Bool) (xs ys : List Answer) → IsLegal s (xs ++ ys) → IsLegal s xs
legal_front s [] ys l = tt
legal_front s (Item v ∷ xs) ys l = (l.0, legal_front s xs ys l.1)
legal_front s (End e ∷ []) ys l = refl
legal_front s (End e ∷ x ∷ xs) ys l = absurd (cc)

pub legal_prefix : (s : Bool) (xs ys : List Answer) → IsPrefix xs ys → IsLegal s ys → IsLegal s xs
legal_prefix s xs ys p l = legal_front s xs p.0 (subst (λ zs. IsLegal s zs) (sym p.1) l)

pub heard_is_legal : (s : Bool) (xs : List Answer) → IsLegal s (heard s xs)
heard_is_legal s [] = tt
heard_is_legal true (Item v ∷ xs) = (refl, heard_is_legal true xs)
heard_is_legal false (Item v ∷ xs) = heard_is_legal false xs
heard_is_legal s (End e ∷ xs) = refl
