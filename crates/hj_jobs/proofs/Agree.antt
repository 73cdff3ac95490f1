-- Ids, open streams and due jobs after one job has changed, ended or begun.
use Rattle.std.proofs.Common.{◌≡◌, ℕ, zero, suc, ◌+◌, ◌<◌, ◌≤◌, Bool, true, false, List, [], ◌∷◌, ◌++◌, length, Option, Some, None, refl, sym, ap, ◌∙◌, subst, arith, length-append, ◌⊎◌, inl, inr}
use Rattle.std.specs.Prelude.{slice_get, not, ◌&&◌, ◌||◌, ◌==◌, if◌then◌else◌}
use Rattle.std.proofs.lemmas.Bool.{eqb-true, eq-eqb, ne_eqb, or_parts, or_right, or_left, and_from, and_right, cond_both, cond-true, cond-false}
use Rattle.hm_message.specs.declared.message.Ending.{Ending}
use Rattle.hv_value.specs.declared.value.Value.{Value}
use Rattle.hm_message.specs.Same.{same_text}
use Rattle.hd_calls.specs.Hubs.{Invoked, Answer, Item, End, id_of}
use Rattle.hd_calls.specs.Peers.{has_end, of_stream}
use Rattle.hd_calls.specs.Rules.{is_among, repeats, same_id}
use Rattle.hd_calls.specs.Tables.{JobHappening, begun_in, is_due_in}
use Rattle.hv_value.specs.declared.sorted_set.SortedSet.{SortedSet}
use Rattle.hj_jobs.specs.declared.ids.Ids.{Ids}
use Rattle.hj_jobs.specs.declared.ids.Stream.{Stream}
use Rattle.hv_value.specs.SortedSet.{HasPlace, is_in}
use Rattle.hj_jobs.specs.Ids.{Closes, is_of, job_at, Releases, stream_at}
use Rattle.hj_jobs.specs.Parts.{DueIs}
use Rattle.hj_jobs.specs.Stands.{DueAgree, HadBy, HasId, IdsAgree, OpenBy, Past, past, StreamIn, StreamsAgree}
use Rattle.hj_jobs.proofs.Basics.{none_some, same-true, same_refl, some_injective, true_false}
use Rattle.hj_jobs.proofs.OneJob.{due_is, due_of, fed}
use Rattle.hj_jobs.proofs.Pasts.{Touches}

-- ---- who is meant by a name

-- both say the same of the names of a job
pub record SameNames (p q : Past) : Type 0 where
  pub call : q.call ≡ p.call
  pub live : q.live ≡ p.live
  pub ended : (w : ℕ) → has_end (of_stream w q.inputs) ≡ has_end (of_stream w p.inputs)

same_past : (p q : Past) → p ≡ q → SameNames p q
same_past p q e = subst (SameNames p) e (record { call = refl; live = refl; ended = λ w. refl })

-- both say the same of its call, and whether it is live
pub record SameCall (p q : Past) : Type 0 where
  pub call : q.call ≡ p.call
  pub live : q.live ≡ p.live

same_call : (p q : Past) → p ≡ q → SameCall p q
same_call p q e = subst (SameCall p) e (record { call = refl; live = refl })

had_same : (p q : Past) (i : List ℕ) → SameCall p q → HadBy p i → HadBy q i
had_same p q i s r = record { call = r.call; at = s.call ∙ r.at; id = r.id; live = s.live ∙ r.live }

had_back : (p q : Past) (i : List ℕ) → SameCall p q → HadBy q i → HadBy p i
had_back p q i s r = record { call = r.call; at = sym s.call ∙ r.at; id = r.id; live = sym s.live ∙ r.live }

open_same : (p q : Past) (i : List ℕ) (w : ℕ) → SameNames p q → OpenBy p i w → OpenBy q i w
open_same p q i w s r = record { call = r.call; at = s.call ∙ r.at; stream = r.stream; live = s.live ∙ r.live; unended = s.ended w ∙ r.unended }

open_back : (p q : Past) (i : List ℕ) (w : ℕ) → SameNames p q → OpenBy q i w → OpenBy p i w
open_back p q i w s r = record { call = r.call; at = sym s.call ∙ r.at; stream = r.stream; live = sym s.live ∙ r.live; unended = sym (s.ended w) ∙ r.unended }

-- a job is that at the place, or another
pub place_cases : (P : ℕ → Type 0) (k : ℕ) → P k → ((j : ℕ) → (j == k) ≡ false → P j) → (j : ℕ) → P j
place_cases P k here other j = go (j == k) refl
  where
    go : (b : Bool) → (j == k) ≡ b → P j
    go true e = subst P (sym (eqb-true j k e)) here
    go false e = other j e

pub suc_apart : (j k : ℕ) → (j == k) ≡ false → (suc k == suc j) ≡ false
suc_apart j k e = ne_eqb (suc k) (suc j) (λ s. true_false (sym (eq-eqb j k (let z : j ≡ k = omega (arith, s) in z)) ∙ e))

pub suc_apart2 : (j k : ℕ) → (j == k) ≡ false → (suc j == suc k) ≡ false
suc_apart2 j k e = ne_eqb (suc j) (suc k) (λ s. true_false (sym (eq-eqb j k (let z : j ≡ k = omega (arith, s) in z)) ∙ e))

pub among : (ks : List (List ℕ)) (w : ℕ) (i : List ℕ) → slice_get ks w ≡ Some i → is_among i ks ≡ true
among [] w i e = absurd (none_some i e)
among (k ∷ ks) zero i e = or_left (same_text i k) (is_among i ks) (ap (same_text i) (some_injective k i e) ∙ same_refl i)
among (k ∷ ks) (suc w) i e = or_right (same_text i k) (is_among i ks) (among ks w i e)

pub same_id-true : (i : List ℕ) (id : Option (List ℕ)) → same_id (Some i) id ≡ true → id ≡ Some i
same_id-true i None e = true_false (sym e)
same_id-true i (Some k) e = ap Some (sym (same-true i k e))

pub true-same_id : (i : List ℕ) (id : Option (List ℕ)) → id ≡ Some i → same_id (Some i) id ≡ true
true-same_id i id e = ap (same_id (Some i)) e ∙ same_refl i

pub suc_injective : (j k : ℕ) → ◌≡◌ {A = Option ℕ} (Some (suc j)) (Some (suc k)) → j ≡ k
suc_injective j k e = cc

-- ---- a job has changed and has the names that it had

module _ (h after : List JobHappening) (k : ℕ) (t : Touches h after k) where
  module _ (s : SameCall (past k h) (past k after)) where
    all_same_call : (j : ℕ) → SameCall (past j h) (past j after)
    all_same_call = place_cases (λ j. SameCall (past j h) (past j after)) k s (λ j e. same_call (past j h) (past j after) (sym (t.elsewhere j e)))

    pub ids_kept : (old new : Ids) → ((i : List ℕ) → job_at new i ≡ job_at old i) → IdsAgree old h → IdsAgree new after
    ids_kept old new same a = record {
      had = λ i n e. let r = a.had i n (sym (same i) ∙ e) in (r.0, r.1, had_same (past r.0 h) (past r.0 after) i (all_same_call r.0) r.2);
      every = λ i j r. same i ∙ a.every i j (had_back (past j h) (past j after) i (all_same_call j) r);
    }

  module _ (s : SameNames (past k h) (past k after)) where
    all_same : (j : ℕ) → SameNames (past j h) (past j after)
    all_same = place_cases (λ j. SameNames (past j h) (past j after)) k s (λ j e. same_past (past j h) (past j after) (sym (t.elsewhere j e)))

    pub streams_kept : (old new : Ids) → ((i : List ℕ) → stream_at new i ≡ stream_at old i) → StreamsAgree old h → StreamsAgree new after
    streams_kept old new same a = record {
      had = λ i s e. let r = a.had i s (sym (same i) ∙ e) in (r.0, r.1, open_same (past r.0 h) (past r.0 after) i s.which (all_same r.0) r.2);
      every = λ i j w r. same i ∙ a.every i j w (open_back (past j h) (past j after) i w (all_same j) r);
    }

-- ---- what came on a stream

of_stream_more : (w v : ℕ) (a : Answer) (xs : List (ℕ × Answer)) → of_stream w (xs ++ (v, a) ∷ []) ≡ (if w == v then of_stream w xs ++ a ∷ [] else of_stream w xs)
of_stream_more w v a [] = cond_both (w == v) (a ∷ []) [] (λ ys. ys ≡ (if w == v then a ∷ [] else [])) (λ e. sym (cond-true (w == v) (a ∷ []) [] e)) (λ e. sym (cond-false (w == v) (a ∷ []) [] e))
of_stream_more w v a (x ∷ xs) = go (w == x.0) (w == v) (of_stream_more w v a xs)
  where
    go : (b c : Bool) → of_stream w (xs ++ (v, a) ∷ []) ≡ (if c then of_stream w xs ++ a ∷ [] else of_stream w xs)
        → (if b then x.1 ∷ of_stream w (xs ++ (v, a) ∷ []) else of_stream w (xs ++ (v, a) ∷ []))
        ≡ (if c then (if b then x.1 ∷ of_stream w xs else of_stream w xs) ++ a ∷ [] else (if b then x.1 ∷ of_stream w xs else of_stream w xs))
    go true true e = ap (λ ys. x.1 ∷ ys) e
    go true false e = ap (λ ys. x.1 ∷ ys) e
    go false true e = e
    go false false e = e

has_end_more : (xs : List Answer) (a : Answer) → has_end (xs ++ a ∷ []) ≡ (has_end xs || has_end (a ∷ []))
has_end_more [] a = refl
has_end_more (Item v ∷ xs) a = has_end_more xs a
has_end_more (End e ∷ xs) a = refl

or_false : (b : Bool) → (b || false) ≡ b
or_false true = refl
or_false false = refl

-- an item ends no stream
pub item_unended : (p : Past) (w : ℕ) (v : Value) → SameNames p (fed p w (Item v))
item_unended p w v = record {
  call = refl;
  live = refl;
  ended = λ u. ap has_end (of_stream_more u w (Item v) p.inputs)
      ∙ cond_both (u == w) (of_stream u p.inputs ++ Item v ∷ []) (of_stream u p.inputs) (λ ys. has_end ys ≡ has_end (of_stream u p.inputs))
      (λ e. has_end_more (of_stream u p.inputs) (Item v) ∙ or_false (has_end (of_stream u p.inputs))) (λ e. refl);
}

-- an end ends its own
end_ends : (p : Past) (w : ℕ) (e : Ending) → has_end (of_stream w (fed p w (End e)).inputs) ≡ true
end_ends p w e =
    ap has_end (of_stream_more w w (End e) p.inputs)
    ∙ (ap has_end (cond-true (w == w) (of_stream w p.inputs ++ End e ∷ []) (of_stream w p.inputs) (eq-eqb w w refl))
    ∙ (has_end_more (of_stream w p.inputs) (End e) ∙ or_right (has_end (of_stream w p.inputs)) true refl))

end_leaves : (p : Past) (w : ℕ) (e : Ending) (u : ℕ) → (u == w) ≡ false → has_end (of_stream u (fed p w (End e)).inputs) ≡ has_end (of_stream u p.inputs)
end_leaves p w e u ne =
    ap has_end (of_stream_more u w (End e) p.inputs) ∙ ap has_end (cond-false (u == w) (of_stream u p.inputs ++ End e ∷ []) (of_stream u p.inputs) ne)

module _ (h after : List JobHappening) (k w : ℕ) (x : Ending) (t : Touches h after k) (here : past k after ≡ fed (past k h) w (End x)) where
  -- the stream that ended isn't open
  end_shuts : (i : List ℕ) → StreamIn after i k w → ⊥
  end_shuts i r = true_false (sym (end_ends (past k h) w x) ∙ (ap (λ (p : Past). has_end (of_stream w p.inputs)) (sym here) ∙ r.unended))

  -- what is open was open
  end_back : (i : List ℕ) (j u : ℕ) → StreamIn after i j u → StreamIn h i j u
  end_back i j u = place_cases (λ j. StreamIn after i j u → StreamIn h i j u) k at_place (λ j e r. subst (λ p. OpenBy p i u) (t.elsewhere j e) r) j
    where
      at_place : StreamIn after i k u → StreamIn h i k u
      at_place r = go (u == w) refl
        where
          fact : OpenBy (fed (past k h) w (End x)) i u
          fact = subst (λ p. OpenBy p i u) here r

          go : (b : Bool) → (u == w) ≡ b → StreamIn h i k u
          go true e = absurd (end_shuts i (subst (λ v. StreamIn after i k v) (eqb-true u w e) r))
          go false e = record { call = fact.call; at = fact.at; stream = fact.stream; live = fact.live; unended = sym (end_leaves (past k h) w x u e) ∙ fact.unended }

  -- what was open is open, if it isn't the stream
  end_forth : (i : List ℕ) (j u : ℕ) → ((j ≡ k) → (u ≡ w) → ⊥) → StreamIn h i j u → StreamIn after i j u
  end_forth i j u = place_cases (λ j. ((j ≡ k) → (u ≡ w) → ⊥) → StreamIn h i j u → StreamIn after i j u) k at_place (λ j e f r. subst (λ p. OpenBy p i u) (sym (t.elsewhere j e)) r) j
    where
      at_place : ((k ≡ k) → (u ≡ w) → ⊥) → StreamIn h i k u → StreamIn after i k u
      at_place f r = subst (λ p. OpenBy p i u) (sym here) (record {
        call = r.call;
        at = r.at;
        stream = r.stream;
        live = r.live;
        unended = end_leaves (past k h) w x u (ne_eqb u w (f refl)) ∙ r.unended;
      })

  pub streams_ended : (old new : Ids) (stream : List ℕ) → Closes old new stream → StreamIn h stream k w → StreamsAgree old h → StreamsAgree new after
  streams_ended old new stream closes at a = record { had = had; every = every }
    where
      had : (i : List ℕ) (s : Stream) → stream_at new i ≡ Some s → (j : ℕ) × (s.job ≡ suc j) × StreamIn after i j s.which
      had i s e = go (same_text i stream) refl
        where
          go : (b : Bool) → same_text i stream ≡ b → (j : ℕ) × (s.job ≡ suc j) × StreamIn after i j s.which
          go true f = absurd (none_some s (sym (closes.streams i ∙ cond-true (same_text i stream) None (stream_at old i) f) ∙ e))
          go false f =
              let r = a.had i s (sym (closes.streams i ∙ cond-false (same_text i stream) None (stream_at old i) f) ∙ e) in
              (r.0, r.1, end_forth i r.0 s.which (λ j u. other r.0 j u r.2) r.2)
            where
              other : (j : ℕ) → j ≡ k → s.which ≡ w → StreamIn h i j s.which → ⊥
              other j jk u r =
                  let one : Some r.call ≡ Some at.call = sym r.at ∙ (ap (λ n. slice_get (begun_in h) n) jk ∙ at.at) in
                  let same : r.call ≡ at.call = some_injective r.call at.call one in
                  let is : i ≡ stream = some_injective i stream (sym r.stream ∙ (ap (λ (c : Invoked). slice_get c.streams s.which) same ∙ (ap (slice_get at.call.streams) u ∙ at.stream))) in
                  true_false (sym (same_refl i) ∙ (ap (same_text i) is ∙ f))

      every : (i : List ℕ) (j u : ℕ) → StreamIn after i j u → stream_at new i ≡ Some (record { job = suc j; which = u })
      every i j u r = go (same_text i stream) refl
        where
          was : stream_at old i ≡ Some (record { job = suc j; which = u })
          was = a.every i j u (end_back i j u r)

          go : (b : Bool) → same_text i stream ≡ b → stream_at new i ≡ Some (record { job = suc j; which = u })
          go true f =
              let is : i ≡ stream = same-true i stream f in
              let one : ◌≡◌ {A = Option Stream} (Some (record { job = suc j; which = u })) (Some (record { job = suc k; which = w })) = sym was ∙ (ap (stream_at old) is ∙ a.every stream k w at) in
              let both : ◌≡◌ {A = Stream} (record { job = suc j; which = u }) (record { job = suc k; which = w }) = some_injective (record { job = suc j; which = u }) (record { job = suc k; which = w }) one in
              let jk : suc j ≡ suc k = ap (λ (s : Stream). s.job) both in
              let same_place : j ≡ k = omega (arith, jk) in
              let uw : u ≡ w = ap (λ (s : Stream). s.which) both in
              absurd (end_shuts i (subst (λ v. StreamIn after i k v) uw (subst (λ n. StreamIn after i n u) same_place r)))
          go false f = closes.streams i ∙ (cond-false (same_text i stream) None (stream_at old i) f ∙ was)

-- ---- a job isn't live any more

module _ (h after : List JobHappening) (k : ℕ) (t : Touches h after k) (dead : (past k after).live ≡ false) (call : Invoked) (at : (past k h).call ≡ Some call) (live : (past k h).live ≡ true) (old new : Ids) (id : Option (List ℕ)) (streams : List (List ℕ)) (is_id : id ≡ id_of call.way) (are : streams ≡ call.streams) (r : Releases old new (suc k) id streams) where
  its_id : (i : List ℕ) (j : ℕ) → j ≡ k → HasId h i j → id ≡ Some i
  its_id i j jk x =
      let one : Some x.call ≡ Some call = sym x.at ∙ (ap (λ n. slice_get (begun_in h) n) jk ∙ at) in
      is_id ∙ (ap (λ (c : Invoked). id_of c.way) (sym (some_injective x.call call one)) ∙ x.id)

  pub ids_dropped : IdsAgree old h → IdsAgree new after
  ids_dropped a = record { had = had; every = every }
    where
      had : (i : List ℕ) (n : ℕ) → job_at new i ≡ Some n → (j : ℕ) × (n ≡ suc j) × HasId after i j
      had i n e = go (same_id (Some i) id) refl
        where
          go : (b : Bool) → same_id (Some i) id ≡ b → (j : ℕ) × (n ≡ suc j) × HasId after i j
          go true f = absurd (none_some n (sym (r.ids i ∙ cond-true (same_id (Some i) id) None (job_at old i) f) ∙ e))
          go false f =
              let x = a.had i n (sym (r.ids i ∙ cond-false (same_id (Some i) id) None (job_at old i) f) ∙ e) in
              (x.0, x.1, subst (λ p. HadBy p i) (sym (t.elsewhere x.0 (ne_eqb x.0 k (λ jk. true_false (sym (true-same_id i id (its_id i x.0 jk x.2)) ∙ f))))) x.2)

      every : (i : List ℕ) (j : ℕ) → HasId after i j → job_at new i ≡ Some (suc j)
      every i = place_cases (λ j. HasId after i j → job_at new i ≡ Some (suc j)) k (λ x. true_false (sym x.live ∙ dead)) other
        where
          other : (j : ℕ) → (j == k) ≡ false → HasId after i j → job_at new i ≡ Some (suc j)
          other j ne x = go (same_id (Some i) id) refl
            where
              was : job_at old i ≡ Some (suc j)
              was = a.every i j (subst (λ p. HadBy p i) (t.elsewhere j ne) x)

              go : (b : Bool) → same_id (Some i) id ≡ b → job_at new i ≡ Some (suc j)
              go true f =
                  let had_it : HasId h i k = record { call = call; at = at; id = sym is_id ∙ same_id-true i id f; live = live } in
                  absurd (true_false (sym (eq-eqb j k (suc_injective j k (sym was ∙ a.every i k had_it))) ∙ ne))
              go false f = r.ids i ∙ (cond-false (same_id (Some i) id) None (job_at old i) f ∙ was)

  pub streams_dropped : StreamsAgree old h → StreamsAgree new after
  streams_dropped a = record { had = had; every = every }
    where
      had : (i : List ℕ) (s : Stream) → stream_at new i ≡ Some s → (j : ℕ) × (s.job ≡ suc j) × StreamIn after i j s.which
      had i s e = go (is_among i streams && is_of (suc k) (stream_at old i)) refl
        where
          go : (b : Bool) → (is_among i streams && is_of (suc k) (stream_at old i)) ≡ b → (j : ℕ) × (s.job ≡ suc j) × StreamIn after i j s.which
          go true f = absurd (none_some s (sym (r.closed_streams i ∙ cond-true (is_among i streams && is_of (suc k) (stream_at old i)) None (stream_at old i) f) ∙ e))
          go false f =
              let was = sym (r.closed_streams i ∙ cond-false (is_among i streams && is_of (suc k) (stream_at old i)) None (stream_at old i) f) ∙ e in
              let x = a.had i s was in
              (x.0, x.1, subst (λ p. OpenBy p i s.which) (sym (t.elsewhere x.0 (ne_eqb x.0 k (λ jk. true_false (sym (mine was x.0 jk x.1 x.2) ∙ f))))) x.2)
            where
              mine : stream_at old i ≡ Some s → (j : ℕ) → j ≡ k → s.job ≡ suc j → StreamIn h i j s.which → (is_among i streams && is_of (suc k) (stream_at old i)) ≡ true
              mine was j jk sj x =
                  let one : Some x.call ≡ Some call = sym x.at ∙ (ap (λ n. slice_get (begun_in h) n) jk ∙ at) in
                  let got : slice_get streams s.which ≡ Some i = ap (λ ks. slice_get ks s.which) (are ∙ ap (λ (c : Invoked). c.streams) (sym (some_injective x.call call one))) ∙ x.stream in
                  and_from (is_among i streams) (is_of (suc k) (stream_at old i)) (among streams s.which i got) (ap (is_of (suc k)) was ∙ eq-eqb (suc k) s.job (ap suc (sym jk) ∙ sym sj))

      every : (i : List ℕ) (j u : ℕ) → StreamIn after i j u → stream_at new i ≡ Some (record { job = suc j; which = u })
      every i j u = place_cases (λ j. StreamIn after i j u → stream_at new i ≡ Some (record { job = suc j; which = u })) k (λ x. true_false (sym x.live ∙ dead)) other j
        where
          other : (j : ℕ) → (j == k) ≡ false → StreamIn after i j u → stream_at new i ≡ Some (record { job = suc j; which = u })
          other j ne x =
              let was = a.every i j u (subst (λ p. OpenBy p i u) (t.elsewhere j ne) x) in
              let not_mine : is_of (suc k) (stream_at old i) ≡ false = ap (is_of (suc k)) was ∙ suc_apart j k ne in
              r.closed_streams i ∙ (cond-false (is_among i streams && is_of (suc k) (stream_at old i)) None (stream_at old i) (and_right (is_among i streams) (is_of (suc k) (stream_at old i)) not_mine) ∙ was)

-- ---- which jobs are due

module _ (h after : List JobHappening) (k : ℕ) (t : Touches h after k) (old new : SortedSet) (b : Bool) (d : DueIs old new (suc k) b) (place : b ≡ true → HasPlace old (suc k)) (is : is_due_in k after ≡ b) where
  pub due_changed : DueAgree old h → DueAgree new after
  due_changed a = record {
    rising = d.rising a.rising;
    same = place_cases (λ j. is_in (suc j) new.numbers.items ≡ is_due_in j after) k
        (d.at a.rising place (suc k) ∙ (cond-true (suc k == suc k) b (is_in (suc k) old.numbers.items) (eq-eqb (suc k) (suc k) refl) ∙ sym is))
        (λ j e. d.at a.rising place (suc j) ∙ (cond-false (suc j == suc k) b (is_in (suc j) old.numbers.items) (suc_apart2 j k e) ∙ (a.same j ∙ (due_is j h ∙ (ap due_of (sym (t.elsewhere j e)) ∙ sym (due_is j after))))));
    from_one = d.at a.rising place 0 ∙ (cond-false (0 == suc k) b (is_in 0 old.numbers.items) (ne_eqb 0 (suc k) (λ e. omega (arith, e))) ∙ a.from_one);
  }
