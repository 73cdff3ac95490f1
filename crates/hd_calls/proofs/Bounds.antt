-- What happens at the bounds of a peer.
use Rattle.std.proofs.Common.{◌≡◌, ℕ, zero, suc, ◌<◌, ◌≤◌, Bool, true, false, List, [], ◌∷◌, ◌++◌, length, length-append, Option, Some, None, refl, sym, ap, ◌∙◌, subst, arith}
use Rattle.std.specs.Prelude.{◌+◌, ◌*◌, ◌==◌, ◌&&◌, ◌||◌, not, nat_lt, slice_get, drop, map, if◌then◌else◌}
use Rattle.std.proofs.lemmas.Bool.{eqb-true, eq-eqb, lt-ltb, ltb-true, ltb-false}
use Rattle.hd_delivery.specs.Sending.{TooLong}
use Rattle.hd_calls.specs.Weights.{inputs_weight, reply_weight, job_weight}
use Rattle.hd_calls.specs.Hubs.{Call, Invoked, upload_input}
use Rattle.hd_calls.specs.Peers.{PeerEvent, Refuses, Settings, drawn, call_of, given, lost, has_end, has_id, live_call, live_upload, stream_count, waiting, begun, turns, inputs, reply, over, live_job}
use Rattle.hd_calls.specs.Rules.{count_below, sum_below, own_live, live_uploads, live_jobs, used, inputs_waiting, weight_at, kept_weight, is_heavy, shares, clashes, in_use, Unsent, MayMove, Follows}
use Rattle.hd_calls.specs.Examples.{hub, sized, short_asks, notice, noticed, one_more, FillsJobs, call_numbered, called_often, FillsCalls}
use Rattle.hd_calls.proofs.Lists.{both, get_front}
use Rattle.hd_calls.proofs.Names.{get_last}
use Rattle.hd_calls.proofs.Examples.{at_most}
use Rattle.hd_calls.proofs.Counts.{count_all, count_but_first, any_none, sum_none, sum_each}
use Rattle.hd_calls.proofs.Weighed.{drop_less, not_heavy}

-- ---- jobs

noticed_jobs : (k : ℕ) → length (begun (noticed k)) ≡ k
noticed_jobs zero = refl
noticed_jobs (suc k) = length-append (begun (noticed k)) (notice ∷ []) ∙ (let e = noticed_jobs k in let f : length (notice ∷ []) ≡ 1 = refl in omega arith)

noticed_unended : (t : Settings) (j k : ℕ) → over t j (noticed k) ≡ false
noticed_unended t j zero = refl
noticed_unended t j (suc k) = noticed_unended t j k

noticed_live : (t : Settings) (k : ℕ) → live_jobs t (noticed k) ≡ k
noticed_live t k =
    count_all (length (begun (noticed k))) (λ j. live_job t j (noticed k))
    (λ j l. ap (λ b. b && not (over t j (noticed k))) (lt-ltb j (length (begun (noticed k))) l) ∙ ap not (noticed_unended t j k))
    ∙ noticed_jobs k

no_shares : (j : ℕ) (h : List PeerEvent) (w : ℕ) (ks : List (List ℕ)) → shares [] j h w ks ≡ false
no_shares j h w [] = refl
no_shares j h w (k ∷ ks) = no_shares j h (suc w) ks

no_clash : (j : ℕ) (h : List PeerEvent) (o : Option Invoked) → clashes notice j h o ≡ false
no_clash j h None = refl
no_clash j h (Some d) = no_shares j h 0 d.streams

and_false : (a b : Bool) → b ≡ false → (a && b) ≡ false
and_false true b e = e
and_false false b e = refl

notice_unused : (t : Settings) (h : List PeerEvent) → in_use t notice h ≡ false
notice_unused t h =
    ap (λ b. b || false) (any_none (length (begun h)) (λ j. live_job t j h && clashes notice j h (slice_get (begun h) j)) (λ j. and_false (live_job t j h) (clashes notice j h (slice_get (begun h) j)) (no_clash j h (slice_get (begun h) j))))

-- each job keeps a notice alone
noticed_unfed : (j k : ℕ) → inputs j (noticed k) ≡ []
noticed_unfed j zero = refl
noticed_unfed j (suc k) = noticed_unfed j k

noticed_unanswered : (j k : ℕ) → reply j (noticed k) ≡ None
noticed_unanswered j zero = refl
noticed_unanswered j (suc k) = noticed_unanswered j k

noticed_at : (k j : ℕ) → j < length (begun (noticed k)) → slice_get (begun (noticed k)) j ≡ Some notice
noticed_at zero j l = absurd (omega arith)
noticed_at (suc k) j l = go (nat_lt j (length (begun (noticed k)))) refl (noticed_at k j)
  where
    go : (b : Bool) → nat_lt j (length (begun (noticed k))) ≡ b → (j < length (begun (noticed k)) → slice_get (begun (noticed k)) j ≡ Some notice) → slice_get (begun (noticed k) ++ notice ∷ []) j ≡ Some notice
    go true e f = get_front (begun (noticed k)) (notice ∷ []) j notice (f (ltb-true j (length (begun (noticed k))) e))
    go false e f =
        let m = ltb-false j (length (begun (noticed k))) e in
        let a = noticed_jobs k in
        let b = noticed_jobs (suc k) in
        let z : length (begun (noticed k)) ≡ j = omega arith in
        subst (λ i. slice_get (begun (noticed k) ++ notice ∷ []) i ≡ Some notice) z (get_last (begun (noticed k)) notice)

noticed_weighs : (t : Settings) (k j : ℕ) → j < length (begun (noticed k)) → weight_at t j (noticed k) ≡ 96
noticed_weighs t k j l =
    ap (λ b. if b then job_weight (slice_get (begun (noticed k)) j) (inputs_waiting j (noticed k)) (reply j (noticed k)) else 0) live
    ∙ (ap (λ o. job_weight o (inputs_waiting j (noticed k)) (reply j (noticed k))) (noticed_at k j l) ∙ (let x = light in let y : reply_weight (reply j (noticed k)) ≡ 0 = ap reply_weight (noticed_unanswered j k) in omega arith))
  where
    live : live_job t j (noticed k) ≡ true
    live = ap (λ b. b && not (over t j (noticed k))) (lt-ltb j (length (begun (noticed k))) l) ∙ ap not (noticed_unended t j k)

    light : inputs_weight (inputs_waiting j (noticed k)) ≤ 0
    light = subst (λ xs. inputs_weight (drop (used (turns j (noticed k))) (map upload_input xs)) ≤ 0) (sym (noticed_unfed j k)) (drop_less (used (turns j (noticed k))) [])

pub noticed_keeps : (t : Settings) (k : ℕ) → kept_weight t (noticed k) ≡ 96 * k
noticed_keeps t k = sum_each (length (begun (noticed k))) (λ j. weight_at t j (noticed k)) (λ j l. noticed_weighs t k j l) ∙ ap (λ n. 96 * n) (noticed_jobs k)

noticed_light : (t : Settings) (k : ℕ) → k ≤ 1024 → is_heavy t (noticed k) ≡ false
noticed_light t k l = not_heavy t (noticed k) (let s = noticed_keeps t k in let m : 96 * 1024 ≤ 16777216 = at_most refl in omega arith)

noticed_follows : (t : Settings) (k : ℕ) → k ≤ 1024 → Follows hub t (noticed k)
noticed_follows t zero l = tt
noticed_follows t (suc k) l = ((noticed_follows t k (omega (arith, l)), waits_none k), (refl, (refl, notice_unused t (one_more k), let e = noticed_live t k in omega arith), sym (noticed_light t (suc k) l)))
  where
    waits_none : (k : ℕ) → waiting (noticed k) ≡ None
    waits_none zero = refl
    waits_none (suc k) = refl

pub fills_jobs : (t : Settings) (k : ℕ) → FillsJobs t k
fills_jobs t k = record {
  live = noticed_live t k;
  may = noticed_follows t k;
  refused = λ l. (refl, (refl, notice_unused t (one_more k), let e = noticed_live t k in omega arith), tt);
  begins_none = λ l now floods m. let e = noticed_live t k in let f = m.1.2 in omega arith;
}

-- ---- calls

often_drawn : (t : Settings) (k : ℕ) → drawn (called_often t k) ≡ k
often_drawn t zero = refl
often_drawn t (suc k) = let e = often_drawn t k in omega arith

often_call : (t : Settings) (k n : ℕ) → 0 < n → n ≤ k → call_of n (called_often t k) ≡ Some (call_numbered t n)
often_call t zero n l m = absurd (omega (arith, l, m))
often_call t (suc k) n l m =
    both (λ o. o ≡ Some (call_numbered t n)) (n == suc k) (Some (call_numbered t (suc k))) (call_of n (called_often t k))
    (λ e. ap (λ x. Some (call_numbered t x)) (sym (eqb-true n (suc k) e)))
    (λ e. often_call t k n l (below n k e m))
  where
    below : (n s : ℕ) → (n == suc s) ≡ false → n ≤ suc s → n ≤ s
    below n s e m = go (nat_lt s n) refl
      where
        go : (b : Bool) → nat_lt s n ≡ b → n ≤ s
        go true f = absurd (let g = ltb-true s n f in let z : false ≡ true = sym e ∙ eq-eqb n (suc s) (omega arith) in cc)
        go false f = ltb-false s n f

often_none : (t : Settings) (k : ℕ) → call_of 0 (called_often t k) ≡ None
often_none t zero = refl
often_none t (suc k) = both (λ o. o ≡ None) (0 == suc k) (Some (call_numbered t (suc k))) (call_of 0 (called_often t k)) (λ e. absurd (let z = eqb-true 0 (suc k) e in omega arith)) (λ e. often_none t k)

often_given : (t : Settings) (k n : ℕ) → given n (called_often t k) ≡ []
often_given t zero n = refl
often_given t (suc k) n = often_given t k n

often_kept : (t : Settings) (k n : ℕ) → lost n (called_often t k) ≡ false
often_kept t zero n = refl
often_kept t (suc k) n = often_kept t k n

often_live : (t : Settings) (k n : ℕ) → live_call n (called_often t k) ≡ has_id (call_of n (called_often t k))
often_live t k n =
    ap (λ xs. has_id (call_of n (called_often t k)) && (not (has_end xs) && not (lost n (called_often t k)))) (often_given t k n)
    ∙ (ap (λ b. has_id (call_of n (called_often t k)) && not b) (often_kept t k n) ∙ and_true (has_id (call_of n (called_often t k))))
  where
    and_true : (a : Bool) → (a && true) ≡ a
    and_true true = refl
    and_true false = refl

often_without : (t : Settings) (k n : ℕ) → stream_count (call_of n (called_often t k)) ≡ 0
often_without t zero n = refl
often_without t (suc k) n = both (λ o. stream_count o ≡ 0) (n == suc k) (Some (call_numbered t (suc k))) (call_of n (called_often t k)) (λ e. refl) (λ e. often_without t k n)

often_own : (t : Settings) (k : ℕ) → own_live (called_often t k) ≡ k
often_own t k =
    let h = called_often t k in
    let a : count_below (suc k) (λ n. live_call n h) ≡ k = count_but_first k (λ n. live_call n h) (often_live t k 0 ∙ ap has_id (often_none t k)) (λ n l m. often_live t k n ∙ ap has_id (often_call t k n l m)) in
    let b : sum_below (suc k) (λ n. live_uploads n h) ≡ 0 = sum_none (suc k) (λ n. live_uploads n h) (λ n. ap (λ x. count_below x (λ w. live_upload n w h)) (often_without t k n)) in
    ap (λ x. count_below (suc x) (λ n. live_call n h) + sum_below (suc x) (λ n. live_uploads n h)) (often_drawn t k) ∙ (let c = a in let d = b in omega arith)

often_follows : (t : Settings) (k : ℕ) → k ≤ 1024 → Follows hub t (called_often t k)
often_follows t zero l = tt
often_follows t (suc k) l = (
  often_follows t k (omega (arith, l)),
  record {
    made = (refl, (ap suc (sym (often_drawn t k)), refl));
    few_uploads = omega arith;
    place = record { few_live = let e = often_own t k in omega arith; few_numbers = let e = often_drawn t k in omega arith };
    asked = tt;
  },
)

pub fills_calls : (t : Settings) (k : ℕ) → FillsCalls t k
fills_calls t k = record {
  live = often_own t k;
  may = often_follows t k;
  refused = λ l. let e = often_own t k in omega arith;
  makes_none = λ l m. let e = often_own t k in let f = m.place.few_live in omega arith;
}

-- ---- asks

pub ask_is_refused : MayMove hub (sized 3) short_asks (Refuses 0)
ask_is_refused = record {
  call = record { way = Call (1 ∷ []); target = 0 ∷ []; arguments = []; streams = [] };
  asked = record { target = 0 ∷ []; arguments = []; live = refl; last = refl; unmade = refl; unanswered = refl; is = refl };
  why = Unsent (TooLong 4);
  refused = (record { few_live = at_most refl; few_numbers = at_most refl }, (at_most refl, (refl, refl, refl, at_most refl)));
}
