-- A call begins a job: when its ids are free, and what the table stands for then.
use Rattle.std.proofs.Common.{◌≡◌, ℕ, zero, suc, ◌+◌, ◌<◌, Bool, true, false, List, [], ◌∷◌, length, Option, Some, None, refl, sym, ap, ◌∙◌, subst, arith, ◌⊎◌, inl, inr, ⊎_elim}
use Rattle.std.specs.Prelude.{slice_get, not, ◌&&◌, ◌||◌, ◌==◌, if◌then◌else◌}
use Rattle.std.specs.Vec.{vec_capacity}
use Rattle.std.proofs.lemmas.Bool.{and_parts, and_from, or_cases, or_parts, or_from, or_left, or_right, cond-true, cond-false, false_from_ne_true, eq-eqb, ne_eqb, cases_eq, not-true, not_from_false}
use Rattle.hm_message.specs.Same.{same_text}
use Rattle.hd_calls.specs.declared.vocabulary.Call as as_given
use Rattle.hd_calls.specs.Numbers.{most_live}
use Rattle.hd_calls.specs.Hubs.{Hub, Invoked, call_for, id_of}
use Rattle.hd_calls.specs.Peers.{has_end, of_stream}
use Rattle.hd_calls.specs.Rules.{any_below, count_below, is_among, repeats, same_id}
use Rattle.hd_calls.specs.Tables.{Accepted, JobHappening, begun_in, clashes_in, in_use_in, inputs_in, is_due_in, live_job_in, live_jobs_in, moments_in, shares_in}
use Rattle.hv_value.specs.declared.sorted_set.SortedSet.{SortedSet}
use Rattle.hj_jobs.specs.declared.entry.Entry.{Entry}
use Rattle.hj_jobs.specs.declared.jobs.Jobs.{Jobs}
use Rattle.hj_jobs.specs.declared.ids.Ids.{Ids}
use Rattle.hj_jobs.specs.declared.ids.Stream.{Stream}
use Rattle.hj_jobs.specs.Calls.{IsTaken, ItsId, ItsStream, NamedTwice}
use Rattle.hv_value.specs.SortedSet.{HasPlace, is_in, IsRising}
use Rattle.hj_jobs.specs.Counted.{Adds, counted, weight_as_given}
use Rattle.hj_jobs.specs.Entries.{Begins}
use Rattle.hj_jobs.specs.Live.{entry_at, live_count}
use Rattle.hj_jobs.specs.Ids.{AreFree, AreSame, claimed, Claims, Clash, OfJob, OfStream, Twice, is_twice, is_of, job_at, or_else, Releases, stream_at}
use Rattle.hj_jobs.specs.Parts.{DueIs}
use Rattle.hj_jobs.specs.Stands.{count_in, HadBy, HasId, IdsAgree, IsEntryOf, IsUnborn, OpenBy, Past, past, Remembers, Stands, StreamIn, StreamsAgree}
use Rattle.hj_jobs.proofs.AllJobs.{all_begun}
use Rattle.hj_jobs.proofs.Agree.{among, place_cases, same_id-true, suc_apart, suc_apart2, true-same_id}
use Rattle.hj_jobs.proofs.Basics.{get_within, none_some, same-true, same_refl, some_injective, true_false}
use Rattle.hj_jobs.proofs.Counting.{count_due, count_more, count_same}
use Rattle.hj_jobs.proofs.OneJob.{count_is, counts_within, due_is, due_of}
use Rattle.hj_jobs.proofs.Pasts.{accepted_elsewhere, accepted_here, accepted_moments, accepted_more}
use Rattle.hj_jobs.proofs.Table.{dead_past, due_live, entry_of, kept_within, live_within, undue}
use Rattle.hj_jobs.proofs.Weighing.{job_begun, one_fits}

-- ---- claimed and released

-- what claims a stream, and at which place
record IsClaim (s : Stream) (job w : ℕ) (ks : List (List ℕ)) (i : List ℕ) : Type 0 where
  pub of_job : s.job ≡ job
  pub place : ℕ
  pub which : s.which ≡ w + place
  pub at : slice_get ks place ≡ Some i

claimed_some : (job w : ℕ) (ks : List (List ℕ)) (i : List ℕ) (s : Stream) → claimed job w ks i ≡ Some s → IsClaim s job w ks i
claimed_some job w [] i s e = absurd (none_some s e)
claimed_some job w (k ∷ ks) i s e = go (λ (f : claimed job (suc w) ks i ≡ Some s). claimed_some job (suc w) ks i s f) (same_text i k) refl
  where
    go : (claimed job (suc w) ks i ≡ Some s → IsClaim s job (suc w) ks i) → (b : Bool) → same_text i k ≡ b → IsClaim s job w (k ∷ ks) i
    go later true f =
        let is : record { job = job; which = w } ≡ s = some_injective (record { job = job; which = w }) s (sym (cond-true (same_text i k) (Some (record { job = job; which = w })) (claimed job (suc w) ks i) f) ∙ e) in
        record {
          of_job = ap (λ (z : Stream). z.job) (sym is);
          place = 0;
          which = ap (λ (z : Stream). z.which) (sym is) ∙ (let z : w ≡ w + 0 = omega arith in z);
          at = ap Some (sym (same-true i k f));
        }
    go later false f =
        let r = later (sym (cond-false (same_text i k) (Some (record { job = job; which = w })) (claimed job (suc w) ks i) f) ∙ e) in
        record { of_job = r.of_job; place = suc r.place; which = r.which ∙ (let z : suc w + r.place ≡ w + suc r.place = omega arith in z); at = r.at }

claimed_first : (job w : ℕ) (ks : List (List ℕ)) (i : List ℕ) (u : ℕ) → repeats ks ≡ false → slice_get ks u ≡ Some i → claimed job w ks i ≡ Some (record { job = job; which = w + u })
claimed_first job w [] i u once e = absurd (none_some i e)
claimed_first job w (k ∷ ks) i zero once e =
    cond-true (same_text i k) (Some (record { job = job; which = w })) (claimed job (suc w) ks i) (ap (same_text i) (some_injective k i e) ∙ same_refl i)
    ∙ ap (λ n. Some (record { job = job; which = n })) (let z : w ≡ w + 0 = omega arith in z)
claimed_first job w (k ∷ ks) i (suc u) once e =
    let parts = or_parts (is_among k ks) (repeats ks) once in
    cond-false (same_text i k) (Some (record { job = job; which = w })) (claimed job (suc w) ks i)
    (false_from_ne_true (same_text i k) (λ f. true_false (sym (ap (λ n. is_among n ks) (sym (same-true i k f)) ∙ among ks u i e) ∙ parts.0)))
    ∙ (claimed_first job (suc w) ks i u parts.1 e ∙ ap (λ n. Some (record { job = job; which = n })) (let z : suc w + u ≡ w + suc u = omega arith in z))

claimed_among : (job w : ℕ) (ks : List (List ℕ)) (i : List ℕ) (s : Stream) → claimed job w ks i ≡ Some s → is_among i ks ≡ true
claimed_among job w ks i s e = let r = claimed_some job w ks i s e in among ks r.place i r.at

unclaimed_apart : (job w : ℕ) (ks : List (List ℕ)) (i : List ℕ) → claimed job w ks i ≡ None → is_among i ks ≡ false
unclaimed_apart job w [] i e = refl
unclaimed_apart job w (k ∷ ks) i e = go (λ (f : claimed job (suc w) ks i ≡ None). unclaimed_apart job (suc w) ks i f) (same_text i k) refl
  where
    go : (claimed job (suc w) ks i ≡ None → is_among i ks ≡ false) → (b : Bool) → same_text i k ≡ b → (same_text i k || is_among i ks) ≡ false
    go later true f = absurd (none_some (record { job = job; which = w }) (sym (sym (cond-true (same_text i k) (Some (record { job = job; which = w })) (claimed job (suc w) ks i) f) ∙ e)))
    go later false f = or_from (same_text i k) (is_among i ks) f (later (sym (cond-false (same_text i k) (Some (record { job = job; which = w })) (claimed job (suc w) ks i) f) ∙ e))

-- what was claimed and released again is as it was
pub released : (old mid new : Ids) (job : ℕ) (id : Option (List ℕ)) (streams : List (List ℕ)) → AreFree old id streams → Claims old mid job id streams → Releases mid new job id streams → AreSame old new
released old mid new job id streams free claims releases = record { ids = ids; streams = open_streams }
  where
    ids : (i : List ℕ) → job_at new i ≡ job_at old i
    ids i = go (same_id (Some i) id) refl
      where
        go : (b : Bool) → same_id (Some i) id ≡ b → job_at new i ≡ job_at old i
        go true e = releases.ids i ∙ (cond-true (same_id (Some i) id) None (job_at mid i) e ∙ sym (free.id_free i (same_id-true i id e)))
        go false e = releases.ids i ∙ (cond-false (same_id (Some i) id) None (job_at mid i) e ∙ (claims.ids i ∙ cond-false (same_id (Some i) id) (Some job) (job_at old i) e))

    open_streams : (i : List ℕ) → stream_at new i ≡ stream_at old i
    open_streams i = go (claimed job 0 streams i) refl
      where
        test : Bool
        test = is_among i streams && is_of job (stream_at mid i)

        go : (o : Option Stream) → claimed job 0 streams i ≡ o → stream_at new i ≡ stream_at old i
        go None e =
            let apart = unclaimed_apart job 0 streams i e in
            releases.closed_streams i
            ∙ (ap (λ b. if b && is_of job (stream_at mid i) then None else stream_at mid i) apart
            ∙ (claims.open_streams i ∙ ap (λ o. or_else o (stream_at old i)) e))
        go (Some s) e =
            let r = claimed_some job 0 streams i s e in
            let in_list = among streams r.place i r.at in
            let now : stream_at mid i ≡ Some s = claims.open_streams i ∙ ap (λ o. or_else o (stream_at old i)) e in
            releases.closed_streams i
            ∙ (ap (λ b. if b && is_of job (stream_at mid i) then None else stream_at mid i) in_list
            ∙ (ap (λ b. if b then None else stream_at mid i) (ap (is_of job) now ∙ eq-eqb job s.job (sym r.of_job))
            ∙ sym (free.streams_free i in_list)))

-- ---- whether an id is in use

any_none : (n : ℕ) (p : ℕ → Bool) → ((j : ℕ) → p j ≡ false) → any_below n p ≡ false
any_none zero p f = refl
any_none (suc n) p f = or_from (p n) (any_below n p) (f n) (any_none n p f)

any_some : (n : ℕ) (p : ℕ → Bool) (j : ℕ) → j < n → p j ≡ true → any_below n p ≡ true
any_some zero p j l e = absurd (omega (arith, l))
any_some (suc n) p j l e = elim (cases_eq j n) [
  | inl f ↦ or_left (p n) (any_below n p) (ap p (sym f) ∙ e)
  | inr f ↦ or_right (p n) (any_below n p) (any_some n p j (omega (arith, l, f)) e)
]

same_both : (x y : Option (List ℕ)) → same_id x y ≡ true → (i : List ℕ) × (x ≡ Some i) × (y ≡ Some i)
same_both None y e = true_false (sym e)
same_both (Some i) None e = true_false (sym e)
same_both (Some i) (Some k) e = (i, refl, ap Some (sym (same-true i k e)))

-- an open stream of the job at this place that stands among those
record IsShared (those : List (List ℕ)) (j : ℕ) (h : List JobHappening) (w : ℕ) (ks : List (List ℕ)) : Type 0 where
  pub id : List ℕ
  pub place : ℕ
  pub at : slice_get ks place ≡ Some id
  pub among_those : is_among id those ≡ true
  pub unended : has_end (of_stream (w + place) (inputs_in j h)) ≡ false

shares_some : (those : List (List ℕ)) (j : ℕ) (h : List JobHappening) (w : ℕ) (ks : List (List ℕ)) → shares_in those j h w ks ≡ true → IsShared those j h w ks
shares_some those j h w [] e = true_false (sym e)
shares_some those j h w (k ∷ ks) e = go (λ f. shares_some those j h (suc w) ks f) (or_cases (is_among k those && not (has_end (of_stream w (inputs_in j h)))) (shares_in those j h (suc w) ks) e)
  where
    go : (shares_in those j h (suc w) ks ≡ true → IsShared those j h (suc w) ks)
        → ((is_among k those && not (has_end (of_stream w (inputs_in j h)))) ≡ true) ⊎ (shares_in those j h (suc w) ks ≡ true) → IsShared those j h w (k ∷ ks)
    go later (inl f) =
        let parts = and_parts (is_among k those) (not (has_end (of_stream w (inputs_in j h)))) f in
        record {
          id = k;
          place = 0;
          at = refl;
          among_those = parts.0;
          unended = ap (λ n. has_end (of_stream n (inputs_in j h))) (let z : w + 0 ≡ w = omega arith in z) ∙ not-true (has_end (of_stream w (inputs_in j h))) parts.1;
        }
    go later (inr f) =
        let r = later f in
        record {
          id = r.id;
          place = suc r.place;
          at = r.at;
          among_those = r.among_those;
          unended = ap (λ n. has_end (of_stream n (inputs_in j h))) (let z : w + suc r.place ≡ suc w + r.place = omega arith in z) ∙ r.unended;
        }

some_shares : (those : List (List ℕ)) (j : ℕ) (h : List JobHappening) (w : ℕ) (ks : List (List ℕ)) (i : List ℕ) (u : ℕ) → slice_get ks u ≡ Some i → is_among i those ≡ true
    → has_end (of_stream (w + u) (inputs_in j h)) ≡ false → shares_in those j h w ks ≡ true
some_shares those j h w [] i u at a e = absurd (none_some i at)
some_shares those j h w (k ∷ ks) i zero at a e =
    or_left (is_among k those && not (has_end (of_stream w (inputs_in j h)))) (shares_in those j h (suc w) ks)
    (and_from (is_among k those) (not (has_end (of_stream w (inputs_in j h)))) (ap (λ n. is_among n those) (some_injective k i at) ∙ a)
    (not_from_false (has_end (of_stream w (inputs_in j h))) (ap (λ n. has_end (of_stream n (inputs_in j h))) (let z : w ≡ w + 0 = omega arith in z) ∙ e)))
some_shares those j h w (k ∷ ks) i (suc u) at a e =
    or_right (is_among k those && not (has_end (of_stream w (inputs_in j h)))) (shares_in those j h (suc w) ks)
    (some_shares those j h (suc w) ks i u at a (ap (λ n. has_end (of_stream n (inputs_in j h))) (let z : suc w + u ≡ w + suc u = omega arith in z) ∙ e))

twice_repeats : (i : List ℕ) (ks : List (List ℕ)) → is_twice i ks ≡ true → repeats ks ≡ true
twice_repeats i [] e = true_false (sym e)
twice_repeats i (k ∷ ks) e = elim (or_cases (same_text i k && is_among i ks) (is_twice i ks) e) [
  | inl f ↦ (let parts = and_parts (same_text i k) (is_among i ks) f in or_left (is_among k ks) (repeats ks) (ap (λ n. is_among n ks) (sym (same-true i k parts.0)) ∙ parts.1))
  | inr f ↦ or_right (is_among k ks) (repeats ks) (twice_repeats i ks f)
]

module _ (h : List JobHappening) (names : Ids) (ids : IdsAgree names h) (streams : StreamsAgree names h) (c : Invoked) where
  abbrev clash_at : ℕ → Bool
  clash_at j = live_job_in j h && clashes_in c j h (slice_get (begun_in h) j)

  -- no id of the call is in use if all are free
  pub free_unused : AreFree names (id_of c.way) c.streams → in_use_in c h ≡ false
  free_unused free = or_from (any_below (length (begun_in h)) clash_at) (repeats c.streams) (any_none (length (begun_in h)) clash_at at) free.once
    where
      at : (j : ℕ) → clash_at j ≡ false
      at j = false_from_ne_true (clash_at j) (λ e. let parts = and_parts (live_job_in j h) (clashes_in c j h (slice_get (begun_in h) j)) e in go parts.0 (slice_get (begun_in h) j) refl parts.1)
        where
          go : live_job_in j h ≡ true → (o : Option Invoked) → slice_get (begun_in h) j ≡ o → clashes_in c j h o ≡ true → ⊥
          go live None f e = true_false (sym e)
          go live (Some d) f e = ⊎_elim same shared (or_cases (same_id (id_of c.way) (id_of d.way)) (shares_in c.streams j h 0 d.streams) e)
            where
              same : same_id (id_of c.way) (id_of d.way) ≡ true → ⊥
              same g =
                  let x = same_both (id_of c.way) (id_of d.way) g in
                  none_some (suc j) (sym (free.id_free x.0 x.1) ∙ ids.every x.0 j (record { call = d; at = f; id = x.2; live = live }))

              shared : shares_in c.streams j h 0 d.streams ≡ true → ⊥
              shared g =
                  let x = shares_some c.streams j h 0 d.streams g in
                  let place : 0 + x.place ≡ x.place = omega arith in
                  let is_open : StreamIn h x.id j x.place =
                  record { call = d; at = f; stream = x.at; live = live; unended = ap (λ n. has_end (of_stream n (inputs_in j h))) (sym place) ∙ x.unended } in
                  none_some (record { job = suc j; which = x.place }) (sym (free.streams_free x.id x.among_those) ∙ streams.every x.id j x.place is_open)

  -- and one is if it clashes
  pub clash_used : (i : List ℕ) → Clash names (id_of c.way) c.streams i → in_use_in c h ≡ true
  clash_used i (OfJob job is at) =
      let x = ids.had i job at in
      let had : HasId h i x.0 = x.2 in
      or_left (any_below (length (begun_in h)) clash_at) (repeats c.streams)
      (any_some (length (begun_in h)) clash_at x.0 (live_within x.0 h had.live)
      (and_from (live_job_in x.0 h) (clashes_in c x.0 h (slice_get (begun_in h) x.0)) had.live
      (ap (clashes_in c x.0 h) had.at ∙ or_left (same_id (id_of c.way) (id_of had.call.way)) (shares_in c.streams x.0 h 0 had.call.streams)
      (ap (λ o. same_id o (id_of had.call.way)) is ∙ true-same_id i (id_of had.call.way) had.id))))
  clash_used i (OfStream s in_list at) =
      let x = streams.had i s at in
      let had : StreamIn h i x.0 s.which = x.2 in
      let place : 0 + s.which ≡ s.which = omega arith in
      or_left (any_below (length (begun_in h)) clash_at) (repeats c.streams)
      (any_some (length (begun_in h)) clash_at x.0 (live_within x.0 h had.live)
      (and_from (live_job_in x.0 h) (clashes_in c x.0 h (slice_get (begun_in h) x.0)) had.live
      (ap (clashes_in c x.0 h) had.at ∙ or_right (same_id (id_of c.way) (id_of had.call.way)) (shares_in c.streams x.0 h 0 had.call.streams)
      (some_shares c.streams x.0 h 0 had.call.streams i s.which had.stream in_list (ap (λ n. has_end (of_stream n (inputs_in x.0 h))) place ∙ had.unended)))))
  clash_used i (Twice twice) = or_right (any_below (length (begun_in h)) clash_at) (repeats c.streams) (twice_repeats i c.streams twice)

  -- the id that clashes is taken
  pub clash_taken : (i : List ℕ) → Clash names (id_of c.way) c.streams i → IsTaken h c i
  clash_taken i (OfJob job is at) = let x = ids.had i job at in ItsId x.0 is x.2
  clash_taken i (OfStream s in_list at) = let x = streams.had i s at in ItsStream x.0 s.which in_list x.2
  clash_taken i (Twice twice) = NamedTwice twice

-- ---- a job more

-- what is said of a job that begins
abbrev pub newborn : Invoked → ℕ → Past
newborn c now = record { call = Some c; since = Some now; live = true; over = false; turns = []; acts = []; inputs = []; is_cancelled = false; reply = None }

pub begins_remembered : {Job : Type 0} (half : Bool) (hub : Hub Job) (who : List ℕ) (c : Invoked) (now : ℕ) (call : as_given.Call) (e : Entry Job) (job : Job)
    → call ≡ call_for who c → job ≡ hub.begin_of call now → Begins e call job → Remembers half hub who e (newborn c now)
begins_remembered half hub who c now call e job is made b = record {
  call = c;
  since = now;
  live = refl;
  at = refl;
  began = refl;
  id = b.id ∙ ap (λ (x : as_given.Call). x.id) is;
  kind = b.kind ∙ ap (λ (x : as_given.Call). x.kind) is;
  streams = b.streams ∙ ap (λ (x : as_given.Call). x.streams) is;
  job = λ z. b.job_is ∙ (made ∙ ap (λ x. hub.begin_of x now) is);
  awaits = b.awaits;
  inputs = b.inputs;
  given = omega arith;
  few_inputs = omega arith;
  reply = b.reply;
  answered = rw b.reply tt;
  is_cancelled = b.is_cancelled;
  weight = b.weight ∙ (ap (λ (x : as_given.Call). counted (weight_as_given x)) is ∙ sym (job_begun c));
}

module _ (h : List JobHappening) (c : Invoked) (now : ℕ) (agree : length (moments_in h) ≡ length (begun_in h)) (unborn : IsUnborn (past (length (begun_in h)) h)) where
  abbrev after : List JobHappening
  after = Accepted c now ∷ h

  abbrev here : ℕ
  here = length (begun_in h)

  pub newborn_here : past here after ≡ newborn c now
  newborn_here = accepted_here h c now agree ∙ rw (unborn.over, unborn.turns, unborn.acts, unborn.inputs, unborn.is_cancelled, unborn.reply) refl

  elsewhere : (j : ℕ) → (j == here) ≡ false → past j after ≡ past j h
  elsewhere j e = accepted_elsewhere h c now agree j (λ z. true_false (sym (eq-eqb j here z) ∙ e))

  before : (j : ℕ) (d : Invoked) → slice_get (begun_in h) j ≡ Some d → (j == here) ≡ false
  before j d e = let l = get_within (begun_in h) j d e in ne_eqb j here (λ z. omega (arith, z, l))

  pub more_lives : live_jobs_in after ≡ suc (live_jobs_in h)
  more_lives =
      ap (λ n. count_below n (λ j. live_job_in j after)) (accepted_more h c now agree)
      ∙ (ap (λ b. if b then suc (count_below here (λ j. live_job_in j after)) else count_below here (λ j. live_job_in j after)) (ap (λ (p : Past). p.live) newborn_here)
      ∙ ap suc (count_same here (λ j. live_job_in j after) (λ j. live_job_in j h) (λ j l. ap (λ (p : Past). p.live) (elsewhere j (ne_eqb j here (λ z. omega (arith, z, l)))))))

  module _ (old new : Ids) (free : AreFree old (id_of c.way) c.streams) (claims : Claims old new (suc here) (id_of c.way) c.streams) where
    pub ids_begun : IdsAgree old h → IdsAgree new after
    ids_begun a = record { had = had; every = every }
      where
        had : (i : List ℕ) (n : ℕ) → job_at new i ≡ Some n → (j : ℕ) × (n ≡ suc j) × HasId after i j
        had i n e = go (same_id (Some i) (id_of c.way)) refl
          where
            go : (b : Bool) → same_id (Some i) (id_of c.way) ≡ b → (j : ℕ) × (n ≡ suc j) × HasId after i j
            go true f = (
              here,
              sym (some_injective (suc here) n (sym (claims.ids i ∙ cond-true (same_id (Some i) (id_of c.way)) (Some (suc here)) (job_at old i) f) ∙ e)),
              subst (λ p. HadBy p i) (sym newborn_here) (record { call = c; at = refl; id = same_id-true i (id_of c.way) f; live = refl }),
            )
            go false f =
                let x = a.had i n (sym (claims.ids i ∙ cond-false (same_id (Some i) (id_of c.way)) (Some (suc here)) (job_at old i) f) ∙ e) in
                let y : HasId h i x.0 = x.2 in
                (x.0, x.1, subst (λ p. HadBy p i) (sym (elsewhere x.0 (before x.0 y.call y.at))) y)

        every : (i : List ℕ) (j : ℕ) → HasId after i j → job_at new i ≡ Some (suc j)
        every i = place_cases (λ j. HasId after i j → job_at new i ≡ Some (suc j)) here first other
          where
            first : HasId after i here → job_at new i ≡ Some (suc here)
            first x =
                let y : HadBy (newborn c now) i = subst (λ p. HadBy p i) newborn_here x in
                let is : id_of c.way ≡ Some i = ap (λ (d : Invoked). id_of d.way) (some_injective c y.call y.at) ∙ y.id in
                claims.ids i ∙ cond-true (same_id (Some i) (id_of c.way)) (Some (suc here)) (job_at old i) (true-same_id i (id_of c.way) is)

            other : (j : ℕ) → (j == here) ≡ false → HasId after i j → job_at new i ≡ Some (suc j)
            other j ne x =
                let was : job_at old i ≡ Some (suc j) = a.every i j (subst (λ p. HadBy p i) (elsewhere j ne) x) in
                claims.ids i
                ∙ (cond-false (same_id (Some i) (id_of c.way)) (Some (suc here)) (job_at old i)
                (false_from_ne_true (same_id (Some i) (id_of c.way)) (λ f. none_some (suc j) (sym (free.id_free i (same_id-true i (id_of c.way) f)) ∙ was)))
                ∙ was)

    pub streams_begun : StreamsAgree old h → StreamsAgree new after
    streams_begun a = record { had = had; every = every }
      where
        had : (i : List ℕ) (s : Stream) → stream_at new i ≡ Some s → (j : ℕ) × (s.job ≡ suc j) × StreamIn after i j s.which
        had i s e = go (claimed (suc here) 0 c.streams i) refl
          where
            go : (o : Option Stream) → claimed (suc here) 0 c.streams i ≡ o → (j : ℕ) × (s.job ≡ suc j) × StreamIn after i j s.which
            go None f =
                let x = a.had i s (sym (claims.open_streams i ∙ ap (λ o. or_else o (stream_at old i)) f) ∙ e) in
                let y : StreamIn h i x.0 s.which = x.2 in
                (x.0, x.1, subst (λ p. OpenBy p i s.which) (sym (elsewhere x.0 (before x.0 y.call y.at))) y)
            go (Some z) f =
                let is : z ≡ s = some_injective z s (sym (claims.open_streams i ∙ ap (λ o. or_else o (stream_at old i)) f) ∙ e) in
                let r = claimed_some (suc here) 0 c.streams i s (f ∙ ap Some is) in
                let place : r.place ≡ s.which = (let w = r.which in omega (arith, w)) in
                (here, r.of_job, subst (λ p. OpenBy p i s.which) (sym newborn_here) (record { call = c; at = refl; stream = ap (slice_get c.streams) (sym place) ∙ r.at; live = refl; unended = refl }))

        every : (i : List ℕ) (j u : ℕ) → StreamIn after i j u → stream_at new i ≡ Some (record { job = suc j; which = u })
        every i j u = place_cases (λ j. StreamIn after i j u → stream_at new i ≡ Some (record { job = suc j; which = u })) here first other j
          where
            first : StreamIn after i here u → stream_at new i ≡ Some (record { job = suc here; which = u })
            first x =
                let y : OpenBy (newborn c now) i u = subst (λ p. OpenBy p i u) newborn_here x in
                let is : slice_get c.streams u ≡ Some i = ap (λ (d : Invoked). slice_get d.streams u) (some_injective c y.call y.at) ∙ y.stream in
                claims.open_streams i
                ∙ (ap (λ o. or_else o (stream_at old i)) (claimed_first (suc here) 0 c.streams i u free.once is)
                ∙ ap (λ n. Some (record { job = suc here; which = n })) (let z : 0 + u ≡ u = omega arith in z))

            other : (j : ℕ) → (j == here) ≡ false → StreamIn after i j u → stream_at new i ≡ Some (record { job = suc j; which = u })
            other j ne x = go (claimed (suc here) 0 c.streams i) refl
              where
                was : stream_at old i ≡ Some (record { job = suc j; which = u })
                was = a.every i j u (subst (λ p. OpenBy p i u) (elsewhere j ne) x)

                go : (o : Option Stream) → claimed (suc here) 0 c.streams i ≡ o → stream_at new i ≡ Some (record { job = suc j; which = u })
                go None f = claims.open_streams i ∙ (ap (λ o. or_else o (stream_at old i)) f ∙ was)
                go (Some z) f = absurd (none_some (record { job = suc j; which = u }) (sym (free.streams_free i (claimed_among (suc here) 0 c.streams i z f)) ∙ was))

-- ---- the table

module _ {H Job : Type 0} (hub : Hub Job) (who : List ℕ) (old : Jobs H Job) (h : List JobHappening) (s : Stands {H = H} hub old who h) where
  -- the due jobs leave room for one more, if the live ones do
  pub place_more : (due : SortedSet) → due.numbers.items ≡ old.due.numbers.items → live_count old.live < vec_capacity due.numbers → (n : ℕ) → HasPlace due n
  place_more due items room n =
      let many = count_due (length (begun_in h)) (λ j. is_due_in j h) old.due.numbers.items s.due.rising s.due.from_one s.due.same (λ j l. undue j h (dead_past j h l)) in
      let fewer = count_more (length (begun_in h)) (λ j. is_due_in j h) (λ j. live_job_in j h) (λ j l d. due_live j h d) in
      let same : length due.numbers.items ≡ length old.due.numbers.items = ap length items in
      let all = s.count in
      inr (omega (arith, many, fewer, all, room, same))

  pub stands_begun : (new : Jobs H Job) (c : Invoked) (now : ℕ) (e : Entry Job) (mid : SortedSet) → Remembers new.prepared hub who e (newborn c now)
      → entry_at new.live (suc (length (begun_in h))) ≡ Some e → ((n : ℕ) → (suc (length (begun_in h)) == n) ≡ false → entry_at new.live n ≡ entry_at old.live n)
      → live_count new.live ≡ live_count old.live + 1 → Adds old.live.weight new.live.weight e.weight → live_count old.live < most_live
      → AreFree old.names (id_of c.way) c.streams → Claims old.names new.names (suc (length (begun_in h))) (id_of c.way) c.streams
      → mid.numbers.items ≡ old.due.numbers.items → live_count old.live < vec_capacity mid.numbers → DueIs mid new.due (suc (length (begun_in h))) true
      → new.accepted ≡ suc (length (begun_in h)) → new.passed ≡ old.passed → new.prepared ≡ old.prepared → Stands {H = H} hub new who (Accepted c now ∷ h)
  stands_begun new c now e mid keeps here others count adds few free claims items room due accepted passed half =
      let n = length (begun_in h) in
      let after = Accepted c now ∷ h in
      let unborn = s.unborn n (omega arith) in
      let born = newborn_here h c now s.moments unborn in
      let more = accepted_more h c now s.moments in
      let lives = more_lives h c now s.moments unborn in
      let all = s.count in
      let capacity = due.capacity in
      let kept : Remembers new.prepared hub who e (past n after) = subst (λ p. Remembers new.prepared hub who e p) (sym born) keeps in
      let rising = subst IsRising (sym items) s.due.rising in
      let place = place_more mid items room in
      let elsewhere : (j : ℕ) → (j == n) ≡ false → past j after ≡ past j h = (λ j ne. accepted_elsewhere h c now s.moments j (λ z. true_false (sym (eq-eqb j n z) ∙ ne))) in
      record {
        accepted = accepted ∙ sym more;
        moments = accepted_moments h c now s.moments;
        entries = place_cases (λ j. IsEntryOf new.prepared hub who (entry_at new.live (suc j)) (past j after)) n
            (entry_of new.prepared hub who (Some e) (entry_at new.live (suc n)) (past n after) (past n after) here refl kept)
            (λ j ne. entry_of new.prepared hub who (entry_at old.live (suc j)) (entry_at new.live (suc j)) (past j h) (past j after) (others (suc j) (suc_apart j n ne)) (elsewhere j ne) (subst (λ b. IsEntryOf b hub who (entry_at old.live (suc j)) (past j h)) (sym half) (s.entries j)));
        none = others 0 (ne_eqb (suc n) 0 (λ z. omega (arith, z))) ∙ s.none;
        count = omega (arith, count, all, lives);
        few_live = omega (arith, few, all, lives);
        weight =
            adds (one_fits old.live.weight e.weight (kept_within {H = H} hub who old h s) (counts_within new.prepared hub who e (past n after) kept))
            ∙ (ap (λ m. m + e.weight) s.weight ∙ (ap (λ m. count_in h + m) (sym (count_is new.prepared hub who e (past n after) kept)) ∙ sym (all_begun h c now s.moments)));
        ids = ids_begun h c now s.moments unborn old.names new.names free claims s.ids;
        streams = streams_begun h c now s.moments unborn old.names new.names free claims s.streams;
        due = record {
          rising = due.rising rising;
          same = place_cases (λ j. is_in (suc j) new.due.numbers.items ≡ is_due_in j after) n
              (due.at rising (λ z. place (suc n)) (suc n)
              ∙ (cond-true (suc n == suc n) true (is_in (suc n) mid.numbers.items) (eq-eqb (suc n) (suc n) refl)
              ∙ sym (due_is n after ∙ ap due_of born)))
              (λ j ne. due.at rising (λ z. place (suc n)) (suc j)
              ∙ (cond-false (suc j == suc n) true (is_in (suc j) mid.numbers.items) (suc_apart2 j n ne)
              ∙ (ap (is_in (suc j)) items ∙ (s.due.same j ∙ (due_is j h ∙ (ap due_of (sym (elsewhere j ne)) ∙ sym (due_is j after)))))));
          from_one = due.at rising (λ z. place (suc n)) 0 ∙ (cond-false (0 == suc n) true (is_in 0 mid.numbers.items) (ne_eqb 0 (suc n) (λ z. omega (arith, z))) ∙ (ap (is_in 0) items ∙ s.due.from_one));
        };
        room = omega (arith, count, room, capacity);
        passed = passed ∙ s.passed;
        unborn = λ j l. let ne : (j == n) ≡ false = ne_eqb j n (λ z. omega (arith, z, l, more)) in subst IsUnborn (sym (elsewhere j ne)) (s.unborn j (omega (arith, l, more)));
      }
