-- Nothing that a peer counts passes its bound.
use Rattle.std.proofs.Common.{inl, inr, ⊎_elim, ◌≡◌, ℕ, suc, ◌<◌, ◌≤◌, Bool, true, false, List, [], ◌∷◌, ◌++◌, length, length-append, Option, Some, None, refl, sym, ap, ◌∙◌, subst, arith}
use Rattle.std.specs.Prelude.{◌⊎◌, ◌+◌, ◌-◌, max, is_some, ◌==◌, ◌||◌, ◌&&◌, not, nat_lt, if◌then◌else◌}
use Rattle.std.proofs.lemmas.Bool.{or_cases, and_parts, not-true, eqb-true, eq-eqb, lt-ltb}
use Rattle.hm_message.specs.declared.message.Message.{Message}
use Rattle.hd_calls.specs.Numbers.{most_live, most_inputs, most_numbers}
use Rattle.hd_calls.specs.Hubs.{Way, Notify, Call, Stream, Invoked, Answer, Item, End, Purpose, ToBegin, ToAnswer, ToCancel, ToNothing, Hub, id_of, purpose_of}
use Rattle.hd_calls.specs.Peers.{Begins, Brings, Feeds, PeerEvent, Calls, Uploads, Handles, Runs, Loses, Settings, drawn, call_of, given, lost, has_end, has_id, live_call, uploaded, stream_count, live_upload, begun, turns, inputs, over, live_job, ends_job, codec}
use Rattle.hd_calls.specs.Rules.{count_below, sum_below, MadeAs, live_uploads, own_live, new_live, new_numbers, live_jobs, used, inputs_left, ActsOn, Follows}
use Rattle.hd_calls.specs.Laws.{IsBounded}
use Rattle.hd_calls.proofs.Lists.{both, not_true}
use Rattle.hd_calls.proofs.Caller.{undrawn}
use Rattle.hd_calls.proofs.Counts.{count_more, count_at_most, count_one, count_cut, sum_more, sum_cut}
use Rattle.hd_calls.proofs.Weighed.{used_push, weight_bound}

-- ---- numbers

made_bound : (t : Settings) (last n : ℕ) (way : Way) (c : Invoked) → MadeAs t last n way c → max last (n + length c.streams) ≤ last + new_numbers way c
made_bound t last n (Call i) c m = let e = m.1.0 in omega arith
made_bound t last n (Stream i) c m = let e = m.1.0 in omega arith
made_bound t last n Notify c (inl e) = let f = e.0 in let g : length c.streams ≡ 0 = ap length e.1 in omega arith
made_bound t last n Notify c (inr e) =
    let f = e.1.0 in
    both (λ k. max last (n + length c.streams) ≤ last + k) (length c.streams == 0) 0 (suc (length c.streams))
    (λ g. absurd (let z = eqb-true (length c.streams) 0 g in let l = e.0 in omega arith))
    (λ g. omega arith)

drawn_bound : {Job : Type 0} (hub : Hub Job) (t : Settings) (h : List PeerEvent) → Follows hub t h → drawn h ≤ most_numbers
drawn_bound hub t [] p = omega arith
drawn_bound hub t (Calls a n c ∷ h) p = let l = made_bound t (drawn h) n c.way c p.1.made in let m = p.1.place.few_numbers in omega arith
drawn_bound hub t (_ ∷ h) p = drawn_bound hub t h p.0

-- ---- inputs

fed_room : (t : Settings) (h : List PeerEvent) (m : Purpose) (k w : ℕ) (a : Answer) → ActsOn t h m (Feeds k w a) → inputs_left k h < most_inputs
fed_room t h (ToAnswer i b) k w a p = p.3.few
fed_room t h (ToBegin c) k w a p = absurd p
fed_room t h (ToCancel i) k w a p = absurd p
fed_room t h ToNothing k w a p = absurd p

inputs_bound : {Job : Type 0} (hub : Hub Job) (t : Settings) (j : ℕ) (h : List PeerEvent) → Follows hub t h → inputs_left j h ≤ most_inputs
inputs_bound hub t j [] p = omega arith
inputs_bound hub t j (Runs k c since turn what ∷ h) p = go (j == k) (inputs_bound hub t j h p.0)
  where
    go : (b : Bool) → inputs_left j h ≤ most_inputs → length (inputs j h) - used (if b then turns j h ++ turn ∷ [] else turns j h) ≤ most_inputs
    go true l = let u = used_push (turns j h) turn in omega arith
    go false l = l
inputs_bound hub t j (Handles m (Feeds k w a) ∷ h) p = go (j == k) refl (inputs_bound hub t j h p.0)
  where
    go : (b : Bool) → (j == k) ≡ b → inputs_left j h ≤ most_inputs → length (if b then inputs j h ++ (w, a) ∷ [] else inputs j h) - used (turns j h) ≤ most_inputs
    go false e l = l
    go true e l =
        let r : inputs_left j h < most_inputs = subst (λ x. inputs_left x h < most_inputs) (sym (eqb-true j k e)) (fed_room t h (purpose_of m) k w a p.1.1) in
        let z = length-append (inputs j h) ((w, a) ∷ []) in
        let y : length {A = ℕ × Answer} ((w, a) ∷ []) ≡ 1 = refl in
        omega arith
inputs_bound hub t j (Handles m e ∷ h) p = inputs_bound hub t j h p.0
inputs_bound hub t j (_ ∷ h) p = inputs_bound hub t j h p.0

-- ---- jobs

begin_room : (t : Settings) (h : List PeerEvent) (m : Purpose) (c : Invoked) (now : ℕ) (floods : Bool) → ActsOn t h m (Begins c now floods) → live_jobs t h < most_live
begin_room t h (ToBegin d) c now floods p = p.2
begin_room t h (ToAnswer i b) c now floods p = absurd p
begin_room t h (ToCancel i) c now floods p = absurd p
begin_room t h ToNothing c now floods p = absurd p

right_false : (a b : Bool) → (a || b) ≡ false → b ≡ false
right_false true b e = absurd (let z : true ≡ false = e in cc)
right_false false b e = e

jobs_bound : {Job : Type 0} (hub : Hub Job) (t : Settings) (h : List PeerEvent) → Follows hub t h → live_jobs t h ≤ most_live
jobs_bound hub t [] p = omega arith
jobs_bound hub t (Runs k c since turn what ∷ h) p =
    let l = jobs_bound hub t h p.0 in
    let m = count_more (length (begun h)) (λ j. live_job t j (Runs k c since turn what ∷ h)) (λ j. live_job t j h) (λ j b e.
    let q = and_parts (nat_lt j (length (begun h))) (not (((j == k) && ends_job t (codec t h) c.way what) || over t j h)) e in
    let r = right_false ((j == k) && ends_job t (codec t h) c.way what) (over t j h) (not-true (((j == k) && ends_job t (codec t h) c.way what) || over t j h) q.1) in
    ap (λ x. x && not (over t j h)) q.0 ∙ ap not r) in
    omega arith
jobs_bound hub t (Handles m (Begins c now floods) ∷ h) p =
    let r = begin_room t h (purpose_of m) c now floods p.1.1 in
    let n : length (begun h ++ c ∷ []) ≡ suc (length (begun h)) = length-append (begun h) (c ∷ []) ∙ (let y : length (c ∷ []) ≡ 1 = refl in omega arith) in
    let test : ℕ → Bool = λ j. live_job t j (Handles m (Begins c now floods) ∷ h) in
    let a : count_below (length (begun h ++ c ∷ [])) test ≡ count_below (suc (length (begun h))) test = ap (λ k. count_below k test) n in
    let o = count_one (length (begun h)) test in
    let l : count_below (length (begun h)) test ≤ live_jobs t h = count_more (length (begun h)) test (λ j. live_job t j h) (λ j b e.
    let q = and_parts (nat_lt j (length (begun h ++ c ∷ []))) (not (over t j h)) e in
    ap (λ x. x && not (over t j h)) (lt-ltb j (length (begun h)) b) ∙ q.1) in
    omega arith
jobs_bound hub t (Handles m e ∷ h) p = jobs_bound hub t h p.0
jobs_bound hub t (_ ∷ h) p = jobs_bound hub t h p.0

-- ---- own calls

has_end_front : (xs ys : List Answer) → has_end (xs ++ ys) ≡ false → has_end xs ≡ false
has_end_front [] ys e = refl
has_end_front (Item v ∷ xs) ys e = has_end_front xs ys e
has_end_front (End v ∷ xs) ys e = e

live_less : (a g g' l l' : Bool) → (g' ≡ false → g ≡ false) → (l' ≡ false → l ≡ false) → (a && (not g' && not l')) ≡ true → (a && (not g && not l)) ≡ true
live_less a g g' l l' f k e =
    let q = and_parts a (not g' && not l') e in
    let r = and_parts (not g') (not l') q.1 in
    ap (λ x. x && (not g && not l)) q.0 ∙ (ap (λ x. not x && not l) (f (not-true g' r.0)) ∙ ap not (k (not-true l' r.1)))

upload_less : (a u u' l l' i : Bool) → (u' ≡ false → u ≡ false) → (l' ≡ true → l ≡ true) → ((a && not u') && (l' || i)) ≡ true → ((a && not u) && (l || i)) ≡ true
upload_less a u u' l l' i f k e =
    let q = and_parts (a && not u') (l' || i) e in
    let r = and_parts a (not u') q.0 in
    let x : (a && not u) ≡ true = ap (λ z. z && not u) r.0 ∙ ap not (f (not-true u' r.1)) in
    ap (λ z. z && (l || i)) x ∙ ⊎_elim (λ g. ap (λ z. z || i) (k g)) (λ g. or_right l i g) (or_cases l' i q.1)
  where
    or_right : (l i : Bool) → i ≡ true → (l || i) ≡ true
    or_right true i e = refl
    or_right false i e = e

-- a move by which no call is made leaves none more live
pub record NoneMore (h g : List PeerEvent) : Type 0 where
  pub drawn_same : drawn g ≡ drawn h
  pub calls_same : (n : ℕ) → call_of n g ≡ call_of n h
  pub calls : (n : ℕ) → live_call n g ≡ true → live_call n h ≡ true
  pub uploads : (n w : ℕ) → live_upload n w g ≡ true → live_upload n w h ≡ true

none_more : (h g : List PeerEvent) → NoneMore h g → own_live g ≤ own_live h
none_more h g r =
    let a = count_more (suc (drawn h)) (λ n. live_call n g) (λ n. live_call n h) (λ j l e. r.calls j e) in
    let b = sum_more (suc (drawn h)) (λ n. live_uploads n g) (λ n. live_uploads n h) (λ n l.
    let x : live_uploads n g ≡ count_below (stream_count (call_of n h)) (λ w. live_upload n w g) = ap (λ o. count_below (stream_count o) (λ w. live_upload n w g)) (r.calls_same n) in
    let y = count_more (stream_count (call_of n h)) (λ w. live_upload n w g) (λ w. live_upload n w h) (λ w k e. r.uploads n w e) in
    omega arith) in
    let c : own_live g ≡ count_below (suc (drawn h)) (λ n. live_call n g) + sum_below (suc (drawn h)) (λ n. live_uploads n g) = ap (λ d. count_below (suc d) (λ n. live_call n g) + sum_below (suc d) (λ n. live_uploads n g)) r.drawn_same in
    omega arith

brings_less : (m : Message) (k : ℕ) (a : Answer) (floods : Bool) (h : List PeerEvent) (n : ℕ) → live_call n (Handles m (Brings k a floods) ∷ h) ≡ true → live_call n h ≡ true
brings_less m k a floods h n e = live_less (has_id (call_of n h)) (has_end (given n h)) (has_end (if n == k then given n h ++ a ∷ [] else given n h)) (lost n h) (lost n h)
    (λ f. both (λ xs. has_end xs ≡ false → has_end (given n h) ≡ false) (n == k) (given n h ++ a ∷ []) (given n h) (λ g q. has_end_front (given n h) (a ∷ []) q) (λ g q. q) f) (λ f. f) e

loses_less : (k : ℕ) (h : List PeerEvent) (n : ℕ) → live_call n (Loses k ∷ h) ≡ true → live_call n h ≡ true
loses_less k h n e = live_less (has_id (call_of n h)) (has_end (given n h)) (has_end (given n h)) (lost n h) ((n == k) || lost n h) (λ f. f) (λ f. right_false (n == k) (lost n h) f) e

made_cases : (t : Settings) (last n : ℕ) (way : Way) (c : Invoked) → MadeAs t last n way c → ((n ≡ 0) × (c.streams ≡ []) × (id_of way ≡ None)) ⊎ (n ≡ suc last)
made_cases t last n Notify c (inl e) = inl (e.0, e.1, refl)
made_cases t last n Notify c (inr e) = inr e.1.0
made_cases t last n (Call i) c m = inr m.1.0
made_cases t last n (Stream i) c m = inr m.1.0

-- where a number's call is the same so are its live uploads
same_uploads : (a : Option ℕ) (k : ℕ) (c : Invoked) (h : List PeerEvent) (n : ℕ) → call_of n (Calls a k c ∷ h) ≡ call_of n h → live_uploads n (Calls a k c ∷ h) ≡ live_uploads n h
same_uploads a k c h n e = ap (λ o. count_below (stream_count o) (λ w. (nat_lt w (stream_count o) && not (has_end (uploaded n w h))) && ((has_id o && (not (has_end (given n h)) && not (lost n h))) || not (has_id o)))) e

same_live : (a : Option ℕ) (k : ℕ) (c : Invoked) (h : List PeerEvent) (n : ℕ) → call_of n (Calls a k c ∷ h) ≡ call_of n h → live_call n (Calls a k c ∷ h) ≡ live_call n h
same_live a k c h n e = ap (λ o. has_id o && (not (has_end (given n h)) && not (lost n h))) e

-- a notice of number 0 adds nothing
notice_none : (a : Option ℕ) (k : ℕ) (c : Invoked) (h : List PeerEvent) → k ≡ 0 → c.streams ≡ [] → id_of c.way ≡ None → own_live (Calls a k c ∷ h) ≤ own_live h
notice_none a k c h z s i =
    let g = Calls a k c ∷ h in
    let u : length c.streams ≡ 0 = ap length s in
    let d : drawn g ≡ drawn h = omega arith in
    let x = count_more (suc (drawn h)) (λ n. live_call n g) (λ n. live_call n h) (λ n l e. live n e) in
    let y = sum_more (suc (drawn h)) (λ n. live_uploads n g) (λ n. live_uploads n h) (λ n l. uploads n) in
    let w : own_live g ≡ count_below (suc (drawn h)) (λ n. live_call n g) + sum_below (suc (drawn h)) (λ n. live_uploads n g) = ap (λ q. count_below (suc q) (λ n. live_call n g) + sum_below (suc q) (λ n. live_uploads n g)) d in
    omega arith
  where
    live : (n : ℕ) → live_call n (Calls a k c ∷ h) ≡ true → live_call n h ≡ true
    live n e = both (λ o. (has_id o && (not (has_end (given n h)) && not (lost n h))) ≡ true → live_call n h ≡ true) (n == k) (Some c) (call_of n h)
        (λ f q. absurd (let y : false ≡ true = sym (ap is_some i) ∙ (and_parts (is_some (id_of c.way)) (not (has_end (given n h)) && not (lost n h)) q).0 in cc))
        (λ f q. q) e

    uploads : (n : ℕ) → live_uploads n (Calls a k c ∷ h) ≤ live_uploads n h
    uploads n = go (n == k) refl
      where
        go : (b : Bool) → (n == k) ≡ b → live_uploads n (Calls a k c ∷ h) ≤ live_uploads n h
        go true f =
            let u : stream_count (call_of n (Calls a k c ∷ h)) ≡ 0 = ap (λ b. stream_count (if b then Some c else call_of n h)) f ∙ ap length s in
            let l = count_at_most (stream_count (call_of n (Calls a k c ∷ h))) (λ w. live_upload n w (Calls a k c ∷ h)) in
            omega arith
        go false f =
            let same : call_of n (Calls a k c ∷ h) ≡ call_of n h = ap (λ b. if b then Some c else call_of n h) f in
            let l : live_uploads n (Calls a k c ∷ h) ≡ live_uploads n h = same_uploads a k c h n same in
            omega arith

-- a call with a new number adds itself and its uploads at most
call_more : (a : Option ℕ) (k : ℕ) (c : Invoked) (h : List PeerEvent) → k ≡ suc (drawn h) → own_live (Calls a k c ∷ h) ≤ own_live h + new_live c
call_more a k c h z =
    let g = Calls a k c ∷ h in
    let d : suc (drawn g) ≡ length c.streams + suc (suc (drawn h)) = omega arith in
    let x1 = count_cut (length c.streams) (suc (suc (drawn h))) (λ n. live_call n g) (λ n l. not_true (live_call n g) (λ e. there n l (and_parts (has_id (call_of n g)) (not (has_end (given n h)) && not (lost n h)) e).0)) in
    let y1 = sum_cut (length c.streams) (suc (suc (drawn h))) (λ n. live_uploads n g) (λ n l. ap (λ o. count_below (stream_count o) (λ w. live_upload n w g)) (none n l)) in
    let x2 = count_more (suc (drawn h)) (λ n. live_call n g) (λ n. live_call n h) (λ n l e. sym (same_live a k c h n (old n l)) ∙ e) in
    let y2 = sum_more (suc (drawn h)) (λ n. live_uploads n g) (λ n. live_uploads n h) (λ n l. let q = same_uploads a k c h n (old n l) in omega arith) in
    let y3 = count_at_most (stream_count (call_of (suc (drawn h)) g)) (λ w. live_upload (suc (drawn h)) w g) in
    let s : stream_count (call_of (suc (drawn h)) g) ≡ length c.streams = ap stream_count new in
    let w : own_live g ≡ count_below (suc (drawn g)) (λ n. live_call n g) + sum_below (suc (drawn g)) (λ n. live_uploads n g) = refl in
    let w2 : own_live g ≡ count_below (length c.streams + suc (suc (drawn h))) (λ n. live_call n g) + sum_below (length c.streams + suc (suc (drawn h))) (λ n. live_uploads n g) = ap (λ q. count_below q (λ n. live_call n g) + sum_below q (λ n. live_uploads n g)) d in
    let one = itself in
    omega arith
  where
    differs : (n : ℕ) → (n ≡ k → ⊥) → call_of n (Calls a k c ∷ h) ≡ call_of n h
    differs n f = ap (λ b. if b then Some c else call_of n h) (not_true (n == k) (λ e. f (eqb-true n k e)))

    old : (n : ℕ) → n < suc (drawn h) → call_of n (Calls a k c ∷ h) ≡ call_of n h
    old n l = differs n (λ e. omega arith)

    none : (n : ℕ) → suc (suc (drawn h)) ≤ n → call_of n (Calls a k c ∷ h) ≡ None
    none n l = differs n (λ e. omega arith) ∙ undrawn n h (omega arith)

    there : (n : ℕ) → suc (suc (drawn h)) ≤ n → has_id (call_of n (Calls a k c ∷ h)) ≡ true → ⊥
    there n l e = let y : false ≡ true = sym (ap has_id (none n l)) ∙ e in absurd (cc)

    new : call_of (suc (drawn h)) (Calls a k c ∷ h) ≡ Some c
    new = ap (λ b. if b then Some c else call_of (suc (drawn h)) h) (eq-eqb (suc (drawn h)) k (sym z))

    -- the call itself, if it has an id
    itself : count_below (suc (suc (drawn h))) (λ n. live_call n (Calls a k c ∷ h)) + length c.streams ≤ count_below (suc (drawn h)) (λ n. live_call n (Calls a k c ∷ h)) + new_live c
    itself = go (live_call (suc (drawn h)) (Calls a k c ∷ h)) refl (is_some (id_of c.way)) refl
      where
        go : (b : Bool) → live_call (suc (drawn h)) (Calls a k c ∷ h) ≡ b → (i : Bool) → is_some (id_of c.way) ≡ i
            → (if b then suc (count_below (suc (drawn h)) (λ n. live_call n (Calls a k c ∷ h))) else count_below (suc (drawn h)) (λ n. live_call n (Calls a k c ∷ h))) + length c.streams
            ≤ count_below (suc (drawn h)) (λ n. live_call n (Calls a k c ∷ h)) + (if i then suc (length c.streams) else length c.streams)
        go true e true f = omega arith
        go false e true f = omega arith
        go false e false f = omega arith
        go true e false f = absurd (let y : false ≡ true = sym f ∙ (sym (ap has_id new) ∙ (and_parts (has_id (call_of (suc (drawn h)) (Calls a k c ∷ h))) (not (has_end (given (suc (drawn h)) h)) && not (lost (suc (drawn h)) h)) e).0) in cc)

own_bound : {Job : Type 0} (hub : Hub Job) (t : Settings) (h : List PeerEvent) → Follows hub t h → own_live h ≤ most_live
own_bound hub t [] p = omega arith
own_bound hub t (Calls a k c ∷ h) p = ⊎_elim
    (λ e. let l = notice_none a k c h e.0 e.1 e.2 in let m = own_bound hub t h p.0 in omega arith)
    (λ e. let l = call_more a k c h e in let m = p.1.place.few_live in omega arith)
    (made_cases t (drawn h) k c.way c p.1.made)
own_bound hub t (Handles m (Brings k a floods) ∷ h) p =
    let l = none_more h (Handles m (Brings k a floods) ∷ h) (record { drawn_same = refl; calls_same = λ n. refl; calls = brings_less m k a floods h; uploads = λ n w e. upload_less (nat_lt w (stream_count (call_of n h))) (has_end (uploaded n w h)) (has_end (uploaded n w h)) (live_call n h) (live_call n (Handles m (Brings k a floods) ∷ h)) (not (has_id (call_of n h))) (λ f. f) (brings_less m k a floods h n) e }) in
    let b = own_bound hub t h p.0 in
    omega arith
own_bound hub t (Handles m e ∷ h) p = own_bound hub t h p.0
own_bound hub t (Loses k ∷ h) p =
    let l = none_more h (Loses k ∷ h) (record { drawn_same = refl; calls_same = λ n. refl; calls = loses_less k h; uploads = λ n w e. upload_less (nat_lt w (stream_count (call_of n h))) (has_end (uploaded n w h)) (has_end (uploaded n w h)) (live_call n h) (live_call n (Loses k ∷ h)) (not (has_id (call_of n h))) (λ f. f) (loses_less k h n) e }) in
    let b = own_bound hub t h p.0 in
    omega arith
own_bound hub t (Uploads k v a ∷ h) p =
    let l = none_more h (Uploads k v a ∷ h) (record {
      drawn_same = refl;
      calls_same = λ n. refl;
      calls = λ n e. e;
      uploads = λ n w e. upload_less (nat_lt w (stream_count (call_of n h))) (has_end (uploaded n w h)) (has_end (if (n == k) && (w == v) then uploaded n w h ++ a ∷ [] else uploaded n w h)) (live_call n h) (live_call n h) (not (has_id (call_of n h)))
          (λ f. both (λ xs. has_end xs ≡ false → has_end (uploaded n w h) ≡ false) ((n == k) && (w == v)) (uploaded n w h ++ a ∷ []) (uploaded n w h) (λ g q. has_end_front (uploaded n w h) (a ∷ []) q) (λ g q. q) f) (λ f. f) e;
    }) in
    let b = own_bound hub t h p.0 in
    omega arith
own_bound hub t (_ ∷ h) p = own_bound hub t h p.0

pub bounded : {Job : Type 0} (hub : Hub Job) (t : Settings) (h : List PeerEvent) → Follows hub t h → IsBounded t h
bounded hub t h p = record { own = own_bound hub t h p; jobs = jobs_bound hub t h p; waiting = λ j. inputs_bound hub t j h p; numbers = drawn_bound hub t h p; weight = weight_bound hub t h p }
