-- What the jobs of a peer keep, and what each move does to it.
use Rattle.std.proofs.Common.{◌≡◌, ℕ, zero, suc, ◌<◌, ◌≤◌, Bool, true, false, List, [], ◌∷◌, ◌++◌, length, Option, Some, None, refl, sym, ap, ◌∙◌, subst, arith}
use Rattle.std.specs.Prelude.{◌+◌, drop, map, slice_get, ◌==◌, ◌||◌, ◌&&◌, not, nat_lt, if◌then◌else◌}
use Rattle.std.proofs.lemmas.Bool.{eq-eqb, lt-ltb, ltb-true, ltb-false}
use Rattle.std.proofs.lemmas.List.{map-append}
use Rattle.hm_message.specs.declared.message.Message.{Message}
use Rattle.hd_delivery.specs.declared.vocabulary.Reason.TheVariants as reason
use Rattle.hd_delivery.specs.Histories.{is_closed}
use Rattle.hd_calls.specs.declared.vocabulary.Act.{Act}
use Rattle.hd_calls.specs.declared.vocabulary.Input.{Input}
use Rattle.hd_calls.specs.declared.vocabulary.Input.TheVariants as input
use Rattle.hd_calls.specs.Numbers.{most_weight}
use Rattle.hd_calls.specs.Weights.{input_weight, inputs_weight, reply_weight, job_weight}
use Rattle.hd_calls.specs.Hubs.{Invoked, Answer, Purpose, ToBegin, ToAnswer, ToCancel, ToNothing, Turn, Given, Hub, purpose_of, upload_input}
use Rattle.hd_calls.specs.Peers.{Effect, Begins, Brings, Feeds, PeerEvent, Handles, Runs, Answers, Refuses, Settings, begun, turns, inputs, reply, reason_of, shuts, ask_refused, add, byte_steps, over, ends_job, codec, is_shut, live_job}
use Rattle.hd_calls.specs.Rules.{used, inputs_waiting, weight_at, kept_weight, is_heavy, is_deed_answer, ActsOn, Follows}
use Rattle.hd_calls.specs.PeerWorlds.{next_step}
use Rattle.hd_calls.proofs.Lists.{both, not_true}
use Rattle.hd_calls.proofs.Counts.{sum_more, sum_one}
use Rattle.hd_calls.proofs.Local.{frames_of, add_closed, shuts_closes}

-- ---- inputs that wait

pub inputs_push : (xs : List Input) (i : Input) → inputs_weight (xs ++ i ∷ []) ≡ inputs_weight xs + input_weight i
inputs_push [] i = omega arith
inputs_push (x ∷ xs) i = let e = inputs_push xs i in omega arith

-- fewer of them weigh no more
pub drop_less : (n : ℕ) (xs : List Input) → inputs_weight (drop n xs) ≤ inputs_weight xs
drop_less zero xs = omega arith
drop_less (suc n) [] = omega arith
drop_less (suc n) (x ∷ xs) = let l = drop_less n xs in omega arith

drop_more : (m n : ℕ) (xs : List Input) → m ≤ n → inputs_weight (drop n xs) ≤ inputs_weight (drop m xs)
drop_more zero n xs l = drop_less n xs
drop_more (suc m) zero xs l = absurd (omega arith)
drop_more (suc m) (suc n) [] l = omega arith
drop_more (suc m) (suc n) (x ∷ xs) l = drop_more m n xs (omega (arith, l))

-- one more of them weighs no more than itself
waiting_push : (n : ℕ) (xs : List Input) (i : Input) → inputs_weight (drop n (xs ++ i ∷ [])) ≤ inputs_weight (drop n xs) + input_weight i
waiting_push zero xs i = let e = inputs_push xs i in omega arith
waiting_push (suc n) [] i = let l = drop_less n [] in let z : inputs_weight [] ≡ 0 = refl in omega arith
waiting_push (suc n) (x ∷ xs) i = waiting_push n xs i

pub used_push : (ts : List Turn) (u : Turn) → used ts ≤ used (ts ++ u ∷ [])
used_push [] u = omega arith
used_push (Given (input.Item w v) now ∷ ts) u = let l = used_push ts u in omega arith
used_push (Given (input.StreamEnd w e) now ∷ ts) u = let l = used_push ts u in omega arith
used_push (_ ∷ ts) u = used_push ts u

-- ---- one job

job_less : (o : Option Invoked) (xs ys : List Input) (r s : Option Input) → inputs_weight xs ≤ inputs_weight ys → reply_weight r ≤ reply_weight s → job_weight o xs r ≤ job_weight o ys s
job_less None xs ys r s l k = omega arith
job_less (Some c) xs ys r s l k = omega arith

live_less : (a b : Bool) (m n : ℕ) → (a ≡ true → b ≡ true) → m ≤ n → (if a then m else 0) ≤ (if b then n else 0)
live_less false b m n f l = omega arith
live_less true true m n f l = l
live_less true false m n f l = absurd (let z : false ≡ true = f refl in cc)

-- with inputs that weigh as much more at most
live_more : (b : Bool) (o : Option Invoked) (xs ys : List Input) (r : Option Input) (x : ℕ) → inputs_weight xs ≤ inputs_weight ys + x → (if b then job_weight o xs r else 0) ≤ (if b then job_weight o ys r else 0) + x
live_more false o xs ys r x l = omega arith
live_more true None xs ys r x l = omega arith
live_more true (Some c) xs ys r x l = omega arith

unover : (a x y : Bool) → (a && not (x || y)) ≡ true → (a && not y) ≡ true
unover false x y e = e
unover true false y e = e
unover true true y e = absurd (let z : false ≡ true = e in cc)

-- a turn only takes away
run_less : (t : Settings) (k : ℕ) (c : Invoked) (since : ℕ) (turn : Turn) (what : Act) (h : List PeerEvent) (j : ℕ) → weight_at t j (Runs k c since turn what ∷ h) ≤ weight_at t j h
run_less t k c since turn what h j =
    let g = Runs k c since turn what ∷ h in
    live_less (live_job t j g) (live_job t j h) (job_weight (slice_get (begun h) j) (inputs_waiting j g) (reply j g)) (job_weight (slice_get (begun h) j) (inputs_waiting j h) (reply j h))
    (λ e. unover (nat_lt j (length (begun h))) ((j == k) && ends_job t (codec t h) c.way what) (over t j h) e)
    (job_less (slice_get (begun h) j) (inputs_waiting j g) (inputs_waiting j h) (reply j g) (reply j h)
    (drop_more (used (turns j h)) (used (turns j g)) (map upload_input (inputs j h)) (both (λ ts. used (turns j h) ≤ used ts) (j == k) (turns j h ++ turn ∷ []) (turns j h) (λ e. used_push (turns j h) turn) (λ e. omega arith)))
    (both (λ r. reply_weight r ≤ reply_weight (reply j h)) (j == k) None (reply j h) (λ e. omega arith) (λ e. omega arith)))

-- what weighs nothing answers a job
reply_less : (t : Settings) (k : ℕ) (i : Input) (h : List PeerEvent) → input_weight i ≡ 0 → (j : ℕ) → (if live_job t j h then job_weight (slice_get (begun h) j) (inputs_waiting j h) (if j == k then Some i else reply j h) else 0) ≤ weight_at t j h
reply_less t k i h z j =
    live_less (live_job t j h) (live_job t j h) (job_weight (slice_get (begun h) j) (inputs_waiting j h) (if j == k then Some i else reply j h)) (job_weight (slice_get (begun h) j) (inputs_waiting j h) (reply j h)) (λ e. e)
    (job_less (slice_get (begun h) j) (inputs_waiting j h) (inputs_waiting j h) (if j == k then Some i else reply j h) (reply j h) (omega arith)
    (both (λ r. reply_weight r ≤ reply_weight (reply j h)) (j == k) (Some i) (reply j h) (λ e. omega arith) (λ e. omega arith)))

deed_light : (i : Input) → is_deed_answer i ≡ true → input_weight i ≡ 0
deed_light (input.Done v) e = refl
deed_light input.Failed e = refl
deed_light input.Go e = absurd (let z : false ≡ true = e in cc)
deed_light (input.Item w v) e = absurd (let z : false ≡ true = e in cc)
deed_light (input.StreamEnd w v) e = absurd (let z : false ≡ true = e in cc)
deed_light (input.Asked v) e = absurd (let z : false ≡ true = e in cc)

-- ---- all jobs

-- an input that is given to a job adds its own weight at most
fed_more : (t : Settings) (m : Message) (k w : ℕ) (a : Answer) (h : List PeerEvent) → kept_weight t (Handles m (Feeds k w a) ∷ h) ≤ kept_weight t h + input_weight (upload_input (w, a))
fed_more t m k w a h = sum_one (length (begun h)) (λ j. weight_at t j (Handles m (Feeds k w a) ∷ h)) (λ j. weight_at t j h) k (input_weight (upload_input (w, a)))
    (λ j e. let z = at_job j false e in omega arith)
    (let z = at_job k true (eq-eqb k k refl) in let l = itself in omega arith)
  where
    keeps : ℕ → List (ℕ × Answer) → ℕ
    keeps j xs = if live_job t j h then job_weight (slice_get (begun h) j) (drop (used (turns j h)) (map upload_input xs)) (reply j h) else 0

    at_job : (j : ℕ) (b : Bool) → (j == k) ≡ b → weight_at t j (Handles m (Feeds k w a) ∷ h) ≡ keeps j (if b then inputs j h ++ (w, a) ∷ [] else inputs j h)
    at_job j b e = ap (λ x. keeps j (if x then inputs j h ++ (w, a) ∷ [] else inputs j h)) e

    itself : keeps k (inputs k h ++ (w, a) ∷ []) ≤ weight_at t k h + input_weight (upload_input (w, a))
    itself = live_more (live_job t k h) (slice_get (begun h) k) (drop (used (turns k h)) (map upload_input (inputs k h ++ (w, a) ∷ []))) (inputs_waiting k h) (reply k h) (input_weight (upload_input (w, a)))
        (subst (λ xs. inputs_weight (drop (used (turns k h)) xs) ≤ inputs_weight (inputs_waiting k h) + input_weight (upload_input (w, a))) (sym (map-append upload_input (inputs k h) ((w, a) ∷ []))) (waiting_push (used (turns k h)) (map upload_input (inputs k h)) (upload_input (w, a))))

pub not_heavy : (t : Settings) (h : List PeerEvent) → kept_weight t h ≤ most_weight → is_heavy t h ≡ false
not_heavy t h l = not_true (is_heavy t h) (λ e. let k = ltb-true most_weight (kept_weight t h) e in omega arith)

pub heavy : (t : Settings) (h : List PeerEvent) → most_weight < kept_weight t h → is_heavy t h ≡ true
heavy t h l = lt-ltb most_weight (kept_weight t h) l

-- ---- while the end is open

fed_light : (t : Settings) (h : List PeerEvent) (m : Purpose) (k w : ℕ) (a : Answer) → ActsOn t h m (Feeds k w a) → kept_weight t h + input_weight (upload_input (w, a)) ≤ most_weight
fed_light t h (ToAnswer i b) k w a p = subst (λ x. kept_weight t h + input_weight (upload_input (w, x)) ≤ most_weight) (sym p.0) p.3.light
fed_light t h (ToBegin c) k w a p = absurd p
fed_light t h (ToCancel i) k w a p = absurd p
fed_light t h ToNothing k w a p = absurd p

-- where the jobs keep too much the end is closed
weighed : (t : Settings) (h : List PeerEvent) (m : Message) (e : Effect) (floods : Bool) → reason_of e ≡ (if floods then Some reason.Flood else None) → floods ≡ is_heavy t (Handles m e ∷ h) → is_shut t (Handles m e ∷ h) ≡ false → kept_weight t (Handles m e ∷ h) ≤ most_weight
weighed t h m e false by q o = ltb-false most_weight (kept_weight t (Handles m e ∷ h)) (sym q)
weighed t h m e true by q o =
    let shut : is_shut t (Handles m e ∷ h) ≡ true = subst (λ r. is_closed t.config (frames_of t (add (shuts (is_shut t h) r) (byte_steps t h))) ≡ true) (sym by) (shuts_closes t (is_shut t h) reason.Flood (byte_steps t h) refl) in
    absurd (let z : true ≡ false = sym shut ∙ o in cc)

was_open : (t : Settings) (d : PeerEvent) (h : List PeerEvent) → is_shut t (d ∷ h) ≡ false → is_shut t h ≡ false
was_open t d h e = not_true (is_shut t h) (λ f. absurd (let z : true ≡ false = sym (add_closed t (next_step t h d) (byte_steps t h) f) ∙ e in cc))

pub weight_bound : {Job : Type 0} (hub : Hub Job) (t : Settings) (h : List PeerEvent) → Follows hub t h → is_shut t h ≡ false → kept_weight t h ≤ most_weight
weight_bound hub t [] p o = omega arith
weight_bound hub t (Handles m (Begins c now floods) ∷ h) p o = weighed t h m (Begins c now floods) floods refl p.1.2 o
weight_bound hub t (Handles m (Brings n a floods) ∷ h) p o = weighed t h m (Brings n a floods) floods refl p.1.2 o
weight_bound hub t (Handles m (Feeds k w a) ∷ h) p o = let l = fed_light t h (purpose_of m) k w a p.1.1 in let s = fed_more t m k w a h in omega arith
weight_bound hub t (Handles m e ∷ h) p o = weight_bound hub t h p.0 (was_open t (Handles m e) h o)
weight_bound hub t (Runs k c since turn what ∷ h) p o =
    let g = Runs k c since turn what in
    let l = sum_more (length (begun h)) (λ j. weight_at t j (g ∷ h)) (λ j. weight_at t j h) (λ j m. run_less t k c since turn what h j) in
    let s = weight_bound hub t h p.0 (was_open t g h o) in
    omega arith
weight_bound hub t (Answers k i ∷ h) p o =
    let l = sum_more (length (begun h)) (λ j. weight_at t j (Answers k i ∷ h)) (λ j. weight_at t j h) (λ j m. reply_less t k i h (deed_light i p.1.answers) j) in
    let s = weight_bound hub t h p.0 (was_open t (Answers k i) h o) in
    omega arith
weight_bound hub t (Refuses k ∷ h) p o =
    let l = sum_more (length (begun h)) (λ j. weight_at t j (Refuses k ∷ h)) (λ j. weight_at t j h) (λ j m. reply_less t k (input.Asked ask_refused) h refl j) in
    let s = weight_bound hub t h p.0 (was_open t (Refuses k) h o) in
    omega arith
weight_bound hub t (d ∷ h) p o = weight_bound hub t h p.0 (was_open t d h o)
