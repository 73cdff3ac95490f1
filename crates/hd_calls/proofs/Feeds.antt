-- Each turn of a job is given what the act before it asks for.
use Rattle.std.proofs.Common.{◌≡◌, ℕ, zero, suc, Bool, true, false, List, [], ◌∷◌, ◌++◌, Option, Some, None, refl, sym, ap, ◌∙◌, subst}
use Rattle.std.specs.Prelude.{◌==◌, ◌&&◌, slice_get, drop, map, option_map, if◌then◌else◌}
use Rattle.std.proofs.lemmas.Bool.{and_parts, eqb-true}
use Rattle.hm_message.specs.declared.message.Codec.{Codec}
use Rattle.hm_message.specs.declared.message.Ending.{Ending}
use Rattle.hd_delivery.specs.Histories.{is_this, first_of}
use Rattle.hd_calls.specs.declared.vocabulary.Input.{Input}
use Rattle.hd_calls.specs.declared.vocabulary.Input.TheVariants as input
use Rattle.hd_calls.specs.declared.vocabulary.Act.{Act}
use Rattle.hd_calls.specs.declared.vocabulary.Act.TheVariants as act
use Rattle.hd_calls.specs.Hubs.{Invoked, Answer, Item, End, Turn, Given, Cancelled, Hub, upload_input, call_for}
use Rattle.hd_calls.specs.Peers.{Begins, Brings, Feeds, PeerEvent, Handles, Runs, Answers, Refuses, Settings, turns, acts, inputs, asker_of, reply, ask_refused, last_of, asks, hands_up, over}
use Rattle.hd_calls.specs.Rules.{job_after, act_at, used, next_input, is_deed_answer, IsDue, Follows}
use Rattle.hd_calls.specs.Ledgers.{Suits, IsFeed}
use Rattle.hd_calls.proofs.Lists.{both}
use Rattle.hd_calls.proofs.Callee.{Speaks, Within, within_tail, due_live, live_parts, over_is, finishing, finishing_stops}

-- ---- what a reply is

asks_no_deed : (o : Option Act) → asks o ≡ true → hands_up o ≡ true → ⊥
asks_no_deed None e f = absurd (let z : false ≡ true = e in cc)
asks_no_deed (Some (act.Ask target arguments)) e f = absurd (let z : false ≡ true = f in cc)
asks_no_deed (Some (act.Do deed)) e f = absurd (let z : false ≡ true = e in cc)
asks_no_deed (Some act.More) e f = absurd (let z : false ≡ true = e in cc)
asks_no_deed (Some act.Wait) e f = absurd (let z : false ≡ true = e in cc)
asks_no_deed (Some (act.Item v)) e f = absurd (let z : false ≡ true = e in cc)
asks_no_deed (Some (act.End v)) e f = absurd (let z : false ≡ true = e in cc)

-- an ask is answered as asked, a deed as a deed
abbrev pub SuitsAct : Option Act → Input → Type 0
SuitsAct o i = (asks o ≡ true → (e : Ending) × (i ≡ input.Asked e)) × (hands_up o ≡ true → is_deed_answer i ≡ true)

asked_suits : (o : Option Act) (e : Ending) (i : Input) → asks o ≡ true → input.Asked e ≡ i → SuitsAct o i
asked_suits o e i f g = (λ h. (e, sym g), λ h. absurd (asks_no_deed o f h))

module _ {Job : Type 0} (hub : Hub Job) (t : Settings) (j : ℕ) where
  reply_suits : (h : List PeerEvent) (i : Input) → Follows hub t h → reply j h ≡ Some i → SuitsAct (last_of (acts j h)) i
  reply_suits [] i p e = absurd (cc)
  reply_suits (Runs k call since turn what ∷ h) i p e = go (j == k) (λ q. reply_suits h i p.0 q) e
    where
      go : (b : Bool) → (reply j h ≡ Some i → SuitsAct (last_of (acts j h)) i) → (if b then None else reply j h) ≡ Some i → SuitsAct (last_of (if b then acts j h ++ what ∷ [] else acts j h)) i
      go true ih f = absurd (cc)
      go false ih f = ih f
  reply_suits (Handles m (Brings n (End v) floods) ∷ h) i p e =
      both (λ o. o ≡ Some i → SuitsAct (last_of (acts j h)) i) (is_this j (asker_of n h) && asks (last_of (acts j h))) (first_of (reply j h) (Some (input.Asked v))) (reply j h)
      (λ f g. first (reply j h) (and_parts (is_this j (asker_of n h)) (asks (last_of (acts j h))) f).1 g (λ q. reply_suits h i p.0 q))
      (λ f g. reply_suits h i p.0 g) e
    where
      first : (o : Option Input) → asks (last_of (acts j h)) ≡ true → first_of o (Some (input.Asked v)) ≡ Some i → (o ≡ Some i → SuitsAct (last_of (acts j h)) i) → SuitsAct (last_of (acts j h)) i
      first None a g f = let z : input.Asked v ≡ i = cc in asked_suits (last_of (acts j h)) v i a z
      first (Some x) a g f = f g
  reply_suits (Handles m x ∷ h) i p e = reply_suits h i p.0 e
  reply_suits (Answers k x ∷ h) i p e = both (λ o. o ≡ Some i → SuitsAct (last_of (acts j h)) i) (j == k) (Some x) (reply j h)
      (λ f g.
      let z : x ≡ i = cc in
      let handed : hands_up (last_of (acts j h)) ≡ true = subst (λ y. hands_up (last_of (acts y h)) ≡ true) (sym (eqb-true j k f)) p.1.handed in
      (λ a. absurd (asks_no_deed (last_of (acts j h)) a handed), λ a. subst (λ y. is_deed_answer y ≡ true) z p.1.answers))
      (λ f g. reply_suits h i p.0 g) e
  reply_suits (Refuses k ∷ h) i p e = both (λ o. o ≡ Some i → SuitsAct (last_of (acts j h)) i) (j == k) (Some (input.Asked ask_refused)) (reply j h)
      (λ f g.
      let z : input.Asked ask_refused ≡ i = cc in
      asked_suits (last_of (acts j h)) ask_refused i (ap (λ y. asks (last_of (acts y h))) (eqb-true j k f) ∙ ap asks p.1.asked.last) z)
      (λ f g. reply_suits h i p.0 g) e
  reply_suits (_ ∷ h) i p e = reply_suits h i p.0 e

-- ---- one turn more

abbrev pub last_after : Option Act → List Act → Option Act
last_after last [] = last
last_after last (a ∷ xs) = last_after (Some a) xs

last_after_is : (a : Act) (xs : List Act) → last_after (Some a) xs ≡ last_of (a ∷ xs)
last_after_is a [] = refl
last_after_is a (b ∷ xs) = last_after_is b xs

last_is : (xs : List Act) → last_after None xs ≡ last_of xs
last_is [] = refl
last_is (a ∷ xs) = last_after_is a xs

-- what an input takes of the uploads
record Takes (last : Option Act) (xs : List (ℕ × Answer)) (i : Input) (now : ℕ) (rest : List Input) : Type 0 where
  left : List (ℕ × Answer)
  is : rest ≡ map upload_input left
  drops : (ts : List Turn) → drop (used (Given i now ∷ ts)) xs ≡ drop (used ts) left

takes_none : (last : Option Act) (xs : List (ℕ × Answer)) (i : Input) (now : ℕ) (rest : List Input) → rest ≡ map upload_input xs → ((ts : List Turn) → used (Given i now ∷ ts) ≡ used ts) → Takes last xs i now rest
takes_none last xs i now rest e f = record { left = xs; is = e; drops = λ ts. ap (λ n. drop n xs) (f ts) }

used_upload : (x : ℕ × Answer) (now : ℕ) (ts : List Turn) → used (Given (upload_input x) now ∷ ts) ≡ suc (used ts)
used_upload (w, Item v) now ts = refl
used_upload (w, End e) now ts = refl

takes_one : (xs : List (ℕ × Answer)) (i : Input) (now : ℕ) (rest : List Input) → map upload_input xs ≡ i ∷ rest → Takes (Some act.Wait) xs i now rest
takes_one [] i now rest e = absurd (let z : ◌≡◌ {A = List Input} [] (i ∷ rest) = e in cc)
takes_one (x ∷ xs) i now rest e =
    let f : upload_input x ≡ i = cc in
    let g : map upload_input xs ≡ rest = cc in
    record { left = xs; is = sym g; drops = λ ts. ap (λ n. drop n (x ∷ xs)) (subst (λ y. used (Given y now ∷ ts) ≡ suc (used ts)) f (used_upload x now ts)) }

used_deed : (i : Input) (now : ℕ) → is_deed_answer i ≡ true → (ts : List Turn) → used (Given i now ∷ ts) ≡ used ts
used_deed (input.Done v) now e ts = refl
used_deed input.Failed now e ts = refl
used_deed input.Go now e ts = refl
used_deed (input.Asked v) now e ts = refl
used_deed (input.Item w v) now e ts = absurd (let z : false ≡ true = e in cc)
used_deed (input.StreamEnd w v) now e ts = absurd (let z : false ≡ true = e in cc)

takes_of : (last : Option Act) (xs : List (ℕ × Answer)) (i : Input) (now : ℕ) (rest : List Input) → Suits last i (map upload_input xs) rest → Takes last xs i now rest
takes_of (Some act.Wait) xs i now rest s = takes_one xs i now rest s
takes_of (Some (act.Ask a b)) xs i now rest s = takes_none (Some (act.Ask a b)) xs i now rest s.0 (λ ts. ap (λ y. used (Given y now ∷ ts)) s.1.1)
takes_of (Some (act.Do d)) xs i now rest s = takes_none (Some (act.Do d)) xs i now rest s.0 (used_deed i now s.1)
takes_of None xs i now rest s = takes_none None xs i now rest s.0 (λ ts. ap (λ y. used (Given y now ∷ ts)) s.1)
takes_of (Some act.More) xs i now rest s = takes_none (Some act.More) xs i now rest s.0 (λ ts. ap (λ y. used (Given y now ∷ ts)) s.1)
takes_of (Some (act.Item v)) xs i now rest s = takes_none (Some (act.Item v)) xs i now rest s.0 (λ ts. ap (λ y. used (Given y now ∷ ts)) s.1)
takes_of (Some (act.End v)) xs i now rest s = absurd s

finishing_tail : (a : Act) (xs : List Act) → finishing (a ∷ xs) ≡ false → finishing xs ≡ false
finishing_tail (act.End e) xs f = absurd (let z : true ≡ false = f in cc)
finishing_tail _ xs f = f

feed_push : (ts : List Turn) (xs : List Act) (last : Option Act) (left : List (ℕ × Answer)) (u : Turn) (b : Act) → IsFeed last (map upload_input left) ts xs → finishing xs ≡ false
    → IsFeed (last_after last xs) (map upload_input (drop (used ts) left)) (u ∷ []) (b ∷ []) → IsFeed last (map upload_input left) (ts ++ u ∷ []) (xs ++ b ∷ [])
feed_push [] [] last left u b p f n = n
feed_push [] (a ∷ xs) last left u b p f n = absurd p
feed_push (Given i now ∷ ts) [] last left u b p f n = absurd p
feed_push (Cancelled ∷ ts) [] last left u b p f n = absurd p
feed_push (Cancelled ∷ ts) (a ∷ xs) last left u b p f n = absurd (let z : true ≡ false = sym (ap (λ y. finishing (y ∷ xs)) p.0) ∙ f in cc)
feed_push (Given i now ∷ ts) (a ∷ xs) last left u b p f n =
    let k = takes_of last left i now p.0 p.1 in (
      p.0,
      p.1,
      subst (λ r. IsFeed (Some a) r (ts ++ u ∷ []) (xs ++ b ∷ [])) (sym k.is)
          (feed_push ts xs (Some a) k.left u b (subst (λ r. IsFeed (Some a) r ts xs) k.is p.2) (finishing_tail a xs f)
          (subst (λ ys. IsFeed (last_after (Some a) xs) (map upload_input ys) (u ∷ []) (b ∷ [])) (k.drops ts) n)),
    )

-- more inputs are left
suits_more : (last : Option Act) (i : Input) (left rest more : List Input) → Suits last i left rest → Suits last i (left ++ more) (rest ++ more)
suits_more (Some act.Wait) i left rest more s = ap (λ xs. xs ++ more) s
suits_more (Some (act.Ask a b)) i left rest more s = (ap (λ xs. xs ++ more) s.0, s.1)
suits_more (Some (act.Do d)) i left rest more s = (ap (λ xs. xs ++ more) s.0, s.1)
suits_more None i left rest more s = (ap (λ xs. xs ++ more) s.0, s.1)
suits_more (Some act.More) i left rest more s = (ap (λ xs. xs ++ more) s.0, s.1)
suits_more (Some (act.Item v)) i left rest more s = (ap (λ xs. xs ++ more) s.0, s.1)
suits_more (Some (act.End v)) i left rest more s = absurd s

feed_more : (ts : List Turn) (xs : List Act) (last : Option Act) (left more : List Input) → IsFeed last left ts xs → IsFeed last (left ++ more) ts xs
feed_more [] [] last left more p = tt
feed_more [] (a ∷ xs) last left more p = absurd p
feed_more (Given i now ∷ ts) [] last left more p = absurd p
feed_more (Cancelled ∷ ts) [] last left more p = absurd p
feed_more (Cancelled ∷ ts) (a ∷ xs) last left more p = p
feed_more (Given i now ∷ ts) (a ∷ xs) last left more p = (p.0 ++ more, suits_more last i left p.0 more p.1, feed_more ts xs (Some a) p.0 more p.2)

-- ---- the turns of a job

get_drop : (xs : List (ℕ × Answer)) (n : ℕ) (x : ℕ × Answer) → slice_get xs n ≡ Some x → drop n xs ≡ x ∷ drop (suc n) xs
get_drop [] n x e = absurd (cc)
get_drop (y ∷ xs) zero x e = let f : y ≡ x = cc in ap (λ z. z ∷ xs) f
get_drop (y ∷ xs) (suc n) x e = get_drop xs n x e

-- the last act is an ending
abbrev pub ends : Option Act → Bool
ends (Some (act.End e)) = true
ends _ = false

ends_finishing : (xs : List Act) → finishing xs ≡ false → ends (last_of xs) ≡ false
ends_finishing [] e = refl
ends_finishing (act.End v ∷ xs) e = absurd (let z : true ≡ false = e in cc)
ends_finishing (act.More ∷ []) e = refl
ends_finishing (act.Wait ∷ []) e = refl
ends_finishing (act.Item v ∷ []) e = refl
ends_finishing (act.Ask a b ∷ []) e = refl
ends_finishing (act.Do d ∷ []) e = refl
ends_finishing (act.More ∷ x ∷ xs) e = ends_finishing (x ∷ xs) e
ends_finishing (act.Wait ∷ x ∷ xs) e = ends_finishing (x ∷ xs) e
ends_finishing (act.Item v ∷ x ∷ xs) e = ends_finishing (x ∷ xs) e
ends_finishing (act.Ask a b ∷ x ∷ xs) e = ends_finishing (x ∷ xs) e
ends_finishing (act.Do d ∷ x ∷ xs) e = ends_finishing (x ∷ xs) e

-- what is due suits
due_suits : (o : Option Act) (r : Option Input) (xs : List (ℕ × Answer)) (n : ℕ) (j : ℕ) (h : List PeerEvent) (i : Input) → inputs j h ≡ xs → used (turns j h) ≡ n → ((x : Input) → reply j h ≡ Some x → SuitsAct o x) → (ends o ≡ false) → next_input j h o ≡ Some i
    → (rest : List Input) × Suits o i (map upload_input (drop n xs)) rest
due_suits None r xs n j h i a b f fin e = let z : input.Go ≡ i = cc in (map upload_input (drop n xs), (refl, sym z))
due_suits (Some act.More) r xs n j h i a b f fin e = let z : input.Go ≡ i = cc in (map upload_input (drop n xs), (refl, sym z))
due_suits (Some (act.Item v)) r xs n j h i a b f fin e = let z : input.Go ≡ i = cc in (map upload_input (drop n xs), (refl, sym z))
due_suits (Some (act.End v)) r xs n j h i a b f fin e = absurd (let z : true ≡ false = fin in cc)
due_suits (Some (act.Ask x y)) r xs n j h i a b f fin e = (map upload_input (drop n xs), (refl, (f i e).0 refl))
due_suits (Some (act.Do d)) r xs n j h i a b f fin e = (map upload_input (drop n xs), (refl, (f i e).1 refl))
due_suits (Some act.Wait) r xs n j h i a b f fin e = go (slice_get xs n) refl (ap (λ k. option_map upload_input (slice_get xs k)) (sym b) ∙ (ap (λ ys. option_map upload_input (slice_get ys (used (turns j h)))) (sym a) ∙ e))
  where
    go : (o : Option (ℕ × Answer)) → slice_get xs n ≡ o → option_map upload_input o ≡ Some i → (rest : List Input) × Suits (Some act.Wait) i (map upload_input (drop n xs)) rest
    go None g k = absurd (cc)
    go (Some x) g k = let z : upload_input x ≡ i = cc in (map upload_input (drop (suc n) xs), ap (map upload_input) (get_drop xs n x g) ∙ ap (λ y. y ∷ map upload_input (drop (suc n) xs)) z)

map_append : (xs ys : List (ℕ × Answer)) → map upload_input (xs ++ ys) ≡ map upload_input xs ++ map upload_input ys
map_append [] ys = refl
map_append (x ∷ xs) ys = ap (λ zs. upload_input x ∷ zs) (map_append xs ys)

module _ {Job : Type 0} (hub : Hub Job) (t : Settings) (code : Codec) (cs : List Invoked) (ns : List ℕ) (j : ℕ) (d : Invoked) (at : slice_get cs j ≡ Some d) where
  next_fed : (h : List PeerEvent) (turn : Turn) (what : Act) (job : Job) → Follows hub t h → finishing (acts j h) ≡ false → IsDue t j h turn → what ≡ act_at hub job turn
      → IsFeed (last_of (acts j h)) (map upload_input (drop (used (turns j h)) (inputs j h))) (turn ∷ []) (what ∷ [])
  next_fed h Cancelled what job p fin due is = (is, refl, refl)
  next_fed h (Given i now) what job p fin due is =
      let s = due_suits (last_of (acts j h)) None (inputs j h) (used (turns j h)) j h i refl refl (λ x q. reply_suits hub t j h x p q) (ends_finishing (acts j h) fin) due.2 in
      (s.0, s.1, tt)

  pub job_fed : (h : List PeerEvent) → Follows hub t h → Speaks t code h → Within cs ns h → IsFeed None (map upload_input (inputs j h)) (turns j h) (acts j h)
  job_fed [] p s w = tt
  job_fed (Runs k call since turn what ∷ h) p s w = go (job_fed h p.0 s.0 w) (j == k) refl
    where
      go : IsFeed None (map upload_input (inputs j h)) (turns j h) (acts j h) → (b : Bool) → (j == k) ≡ b
          → IsFeed None (map upload_input (inputs j h)) (if b then turns j h ++ turn ∷ [] else turns j h) (if b then acts j h ++ what ∷ [] else acts j h)
      go ih false g = ih
      go ih true g =
          let z = eqb-true j k g in
          let due : IsDue t j h turn = subst (λ x. IsDue t x h turn) (sym z) p.1.due in
          let o : over t j h ≡ false = (live_parts t j h (due_live t j h turn due)).1 in
          let f : finishing (acts j h) ≡ false = finishing_stops t code d.way (acts j h) (sym (over_is hub t code cs ns j d at h p.0 s.0 w) ∙ o) in
          feed_push (turns j h) (acts j h) None (inputs j h) turn what ih f
          (subst (λ l. IsFeed l (map upload_input (drop (used (turns j h)) (inputs j h))) (turn ∷ []) (what ∷ [])) (sym (last_is (acts j h)))
          (next_fed h turn what (job_after hub (hub.begin_of (call_for t.who call) since) (turns k h)) p.0 f due p.1.is))
  job_fed (Handles m (Feeds k v a) ∷ h) p s w = go (j == k) (job_fed h p.0 s w)
    where
      go : (b : Bool) → IsFeed None (map upload_input (inputs j h)) (turns j h) (acts j h) → IsFeed None (map upload_input (if b then inputs j h ++ (v, a) ∷ [] else inputs j h)) (turns j h) (acts j h)
      go false ih = ih
      go true ih = subst (λ r. IsFeed None r (turns j h) (acts j h)) (sym (map_append (inputs j h) ((v, a) ∷ []))) (feed_more (turns j h) (acts j h) None (map upload_input (inputs j h)) (map upload_input ((v, a) ∷ [])) ih)
  job_fed (Handles m (Begins k now floods) ∷ h) p s w = job_fed h p.0 s (within_tail cs ns (Handles m (Begins k now floods)) h w)
  job_fed (Handles m e ∷ h) p s w = job_fed h p.0 s w
  job_fed (_ ∷ h) p s w = job_fed h p.0 s w
