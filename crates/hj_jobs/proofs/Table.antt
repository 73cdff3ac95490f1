-- A table stands for one happening more: a job changed, or it isn't live any more.
use Rattle.std.proofs.Common.{◌≡◌, ℕ, suc, ◌+◌, ◌*◌, ◌<◌, ◌≤◌, Bool, true, false, List, [], length, Option, Some, None, refl, sym, ap, ◌∙◌, subst, arith, inl, inr}
use Rattle.std.specs.Prelude.{slice_get, not, nat_lt, is_some, ◌||◌, ◌==◌, if◌then◌else◌}
use Rattle.std.specs.Vec.{vec_capacity}
use Rattle.std.proofs.lemmas.Bool.{and_parts, and_left, ltb-true, le-ltb, eqb-true, ne_eqb}
use Rattle.hd_calls.specs.Numbers.{most_inputs, most_live}
use Rattle.hd_calls.specs.Hubs.{Hub}
use Rattle.hd_calls.specs.Peers.{last_of}
use Rattle.hd_calls.specs.Rules.{count_below}
use Rattle.hd_calls.specs.Tables.{JobHappening, acts_in, begun_in, inputs_left_in, inputs_waiting_in, is_due_in, live_job_in, live_jobs_in, marked_in, next_input_in, over_in, passed_in, reply_in}
use Rattle.hv_value.specs.declared.sorted_set.SortedSet.{SortedSet}
use Rattle.hj_jobs.specs.declared.entry.Entry.{Entry}
use Rattle.hj_jobs.specs.declared.jobs.Jobs.{Jobs}
use Rattle.hj_jobs.specs.declared.live.Live.{Live}
use Rattle.hv_value.specs.SortedSet.{HasPlace, is_in, IsRising}
use Rattle.hj_jobs.specs.Counted.{job_count, Swaps, Takes}
use Rattle.hj_jobs.specs.Entries.{is_due_entry}
use Rattle.hj_jobs.specs.Live.{Alters, AltersEntry, entry_at, IsFed, live_count}
use Rattle.hj_jobs.specs.Ids.{AreSame, job_at, Releases, stream_at}
use Rattle.hj_jobs.specs.Parts.{DueIs}
use Rattle.hj_jobs.specs.Stands.{count_in, count_of, DueAgree, HasRun, IdsAgree, IsEntryOf, IsUnborn, Past, past, Remembers, Stands, StreamsAgree}
use Rattle.hj_jobs.proofs.AllJobs.{all_touched, all_within}
use Rattle.hj_jobs.proofs.Agree.{due_changed, ids_dropped, place_cases, streams_dropped, suc_apart}
use Rattle.hj_jobs.proofs.Basics.{none_some, true_false}
use Rattle.hj_jobs.proofs.Counting.{count_due, count_fewer, count_flipped, count_same, sum_part}
use Rattle.hj_jobs.proofs.OneJob.{count_is, counts_within, due_entry, due_is, moved, retained}
use Rattle.hj_jobs.proofs.Pasts.{Touches}
use Rattle.hj_jobs.proofs.Weighing.{most_of_one, one_fits, sum_dropped, sum_settled}

-- ---- how many are live

pub live_within : (j : ℕ) (h : List JobHappening) → live_job_in j h ≡ true → j < length (begun_in h)
live_within j h e = ltb-true j (length (begun_in h)) (and_parts (nat_lt j (length (begun_in h))) (not (over_in j h)) e).0

pub dead_past : (j : ℕ) (h : List JobHappening) → length (begun_in h) ≤ j → live_job_in j h ≡ false
dead_past j h l = and_left (nat_lt j (length (begun_in h))) (not (over_in j h)) (le-ltb j (length (begun_in h)) l)

pub undue : (j : ℕ) (h : List JobHappening) → live_job_in j h ≡ false → is_due_in j h ≡ false
undue j h e = and_left (live_job_in j h) (marked_in j h || is_some (next_input_in j h (last_of (acts_in j h)))) e

pub due_live : (j : ℕ) (h : List JobHappening) → is_due_in j h ≡ true → live_job_in j h ≡ true
due_live j h e = (and_parts (live_job_in j h) (marked_in j h || is_some (next_input_in j h (last_of (acts_in j h)))) e).0

same_lives : (h after : List JobHappening) → begun_in after ≡ begun_in h → ((j : ℕ) → live_job_in j after ≡ live_job_in j h) → live_jobs_in after ≡ live_jobs_in h
same_lives h after begun same =
    ap (λ n. count_below n (λ j. live_job_in j after)) (ap length begun)
    ∙ count_same (length (begun_in h)) (λ j. live_job_in j after) (λ j. live_job_in j h) (λ j l. same j)

fewer_lives : (h after : List JobHappening) (k : ℕ) → begun_in after ≡ begun_in h → live_job_in k h ≡ true → live_job_in k after ≡ false
    → ((j : ℕ) → (j ≡ k → ⊥) → live_job_in j after ≡ live_job_in j h) → live_jobs_in h ≡ suc (live_jobs_in after)
fewer_lives h after k begun live dead same =
    count_flipped (length (begun_in h)) (λ j. live_job_in j after) (λ j. live_job_in j h) k (live_within k h live) dead live same
    ∙ ap (λ n. suc (count_below n (λ j. live_job_in j after))) (ap length (sym begun))

-- ---- entries

module _ {Job : Type 0} (half : Bool) (hub : Hub Job) (who : List ℕ) where
  pub entry_of : (o n : Option (Entry Job)) (p q : Past) → n ≡ o → q ≡ p → IsEntryOf half hub who o p → IsEntryOf half hub who n q
  entry_of o n p q e f x = subst (λ z. IsEntryOf half hub who n z) (sym f) (subst (λ z. IsEntryOf half hub who z p) (sym e) x)

  pub remembered : (o : Option (Entry Job)) (p : Past) (e : Entry Job) → o ≡ Some e → IsEntryOf half hub who o p → Remembers half hub who e p
  remembered o p e q x = subst (λ z. IsEntryOf half hub who z p) q x

  pub live_entry : (o : Option (Entry Job)) (p : Past) → IsEntryOf half hub who o p → p.live ≡ true → (e : Entry Job) × (o ≡ Some e)
  live_entry None p x l = true_false (sym l ∙ x)
  live_entry (Some e) p x l = (e, refl)

  pub no_entry : (o : Option (Entry Job)) (p : Past) → IsEntryOf half hub who o p → p.live ≡ false → o ≡ None
  no_entry None p x l = refl
  no_entry (Some e) p x l = true_false (sym x.live ∙ l)

  -- a live job whose turn is halfway, or isn't any more
  pub settled : (later : Bool) (o : Option (Entry Job)) (p : Past) → IsEntryOf half hub who o p → (later ≡ false → (e : Entry Job) → o ≡ Some e → HasRun hub who e.job p) → IsEntryOf later hub who o p
  settled later None p x run = x
  settled later (Some e) p x run = moved half hub who e e p x refl later (λ z. run z e refl)

-- ---- which are due

pub due_moved : (h : List JobHappening) (old new : SortedSet) → new.numbers.items ≡ old.numbers.items → DueAgree old h → DueAgree new h
due_moved h old new items a = record {
  rising = subst IsRising (sym items) a.rising;
  same = λ j. ap (is_in (suc j)) items ∙ a.same j;
  from_one = ap (is_in 0) items ∙ a.from_one;
}

-- ---- the table

module _ {H Job : Type 0} (hub : Hub Job) (who : List ℕ) (old : Jobs H Job) (h : List JobHappening) (s : Stands {H = H} hub old who h) where
  -- a live job can become due without more memory
  pub has_place : (k : ℕ) → live_job_in k h ≡ true → HasPlace old.due (suc k)
  has_place k live = go (is_in (suc k) old.due.numbers.items) refl
    where
      n : ℕ
      n = length (begun_in h)

      go : (b : Bool) → is_in (suc k) old.due.numbers.items ≡ b → HasPlace old.due (suc k)
      go true e = inl e
      go false e =
          let many = count_due (length (begun_in h)) (λ j. is_due_in j h) old.due.numbers.items s.due.rising s.due.from_one s.due.same (λ j l. undue j h (dead_past j h l)) in
          let fewer = count_fewer (length (begun_in h)) (λ j. is_due_in j h) (λ j. live_job_in j h) (λ j l d. due_live j h d) k (live_within k h live) (sym (s.due.same k) ∙ e) live in
          let all = s.count in
          let room = s.room in
          inr (omega (arith, many, fewer, all, room))

  few_left : (j : ℕ) → live_job_in j h ≡ true → inputs_left_in j h ≤ most_inputs
  few_left j l =
      let x = live_entry old.prepared hub who (entry_at old.live (suc j)) (past j h) (s.entries j) l in
      let r = remembered old.prepared hub who (entry_at old.live (suc j)) (past j h) x.0 x.1 (s.entries j) in
      r.few_inputs

  -- what is kept of all jobs counts so little that one more can be added
  pub kept_within : old.live.weight ≤ most_live * most_of_one
  kept_within = subst (λ n. n ≤ most_live * most_of_one) (sym s.weight) (all_within h few_left s.few_live)

  module _ (new : Jobs H Job) (after : List JobHappening) (k : ℕ) (e : Entry Job) (t : Touches h after k) (was : entry_at old.live (suc k) ≡ Some e)
      (others : (n : ℕ) → (suc k == n) ≡ false → entry_at new.live n ≡ entry_at old.live n)
      (accepted : new.accepted ≡ old.accepted) (passed : new.passed ≡ passed_in after)
      (entries : (j : ℕ) → (j == k) ≡ false → IsEntryOf new.prepared hub who (entry_at old.live (suc j)) (past j h)) where
    kept : Remembers old.prepared hub who e (past k h)
    kept = remembered old.prepared hub who (entry_at old.live (suc k)) (past k h) e was (s.entries k)

    within : k < length (begun_in h)
    within = live_within k h kept.live

    other_entries : (j : ℕ) → (j == k) ≡ false → IsEntryOf new.prepared hub who (entry_at new.live (suc j)) (past j after)
    other_entries j ne = entry_of new.prepared hub who (entry_at old.live (suc j)) (entry_at new.live (suc j)) (past j h) (past j after) (others (suc j) (suc_apart j k ne)) (t.elsewhere j ne) (entries j ne)

    its_part : e.weight ≤ old.live.weight
    its_part =
        let part : count_of (past k h) ≤ count_in h = sum_part (length (begun_in h)) (λ j. count_of (past j h)) k within in
        subst (λ n. e.weight ≤ n) (sym s.weight) (subst (λ n. n ≤ count_in h) (count_is old.prepared hub who e (past k h) kept) part)

    first_none : entry_at new.live 0 ≡ None
    first_none = others 0 (ne_eqb (suc k) 0 (λ z. omega (arith, z))) ∙ s.none

    unborn_after : (j : ℕ) → length (begun_in after) ≤ j → IsUnborn (past j after)
    unborn_after j l =
        let more : length (begun_in after) ≡ length (begun_in h) = ap length t.begun in
        let w = within in
        let ne : (j == k) ≡ false = ne_eqb j k (λ z. omega (arith, z, l, more, w)) in
        subst IsUnborn (sym (t.elsewhere j ne)) (s.unborn j (omega (arith, l, more)))

    other_lives : (j : ℕ) → (j == k) ≡ false → live_job_in j after ≡ live_job_in j h
    other_lives j ne = ap (λ (p : Past). p.live) (t.elsewhere j ne)

    -- the job has changed and is live
    pub stands_changed : (f : Entry Job) → entry_at new.live (suc k) ≡ Some f → live_count new.live ≡ live_count old.live → Swaps old.live.weight new.live.weight e.weight f.weight → Remembers new.prepared hub who f (past k after)
        → DueIs old.due new.due (suc k) (is_due_entry f) → IdsAgree new.names after → StreamsAgree new.names after → Stands {H = H} hub new who after
    stands_changed f here count swaps keeps due ids streams =
        let lives : live_jobs_in after ≡ live_jobs_in h =
        same_lives h after t.begun (place_cases (λ j. live_job_in j after ≡ live_job_in j h) k (keeps.live ∙ sym kept.live) other_lives) in
        let few = s.few_live in
        let room = s.room in
        let capacity = due.capacity in
        record {
          accepted = accepted ∙ (s.accepted ∙ ap length (sym t.begun));
          moments = ap length t.moments ∙ (s.moments ∙ ap length (sym t.begun));
          entries = place_cases (λ j. IsEntryOf new.prepared hub who (entry_at new.live (suc j)) (past j after)) k
              (entry_of new.prepared hub who (Some f) (entry_at new.live (suc k)) (past k after) (past k after) here refl keeps) other_entries;
          none = first_none;
          count = count ∙ (s.count ∙ sym lives);
          few_live = omega (arith, few, lives);
          weight = sum_settled old.live.weight new.live.weight e.weight f.weight (count_in h) (count_in after) (count_of (past k h)) (count_of (past k after))
              (swaps its_part (one_fits old.live.weight f.weight kept_within (counts_within new.prepared hub who f (past k after) keeps)))
              (all_touched h after k t within) (count_is old.prepared hub who e (past k h) kept) (count_is new.prepared hub who f (past k after) keeps) s.weight;
          ids = ids;
          streams = streams;
          due = due_changed h after k t old.due new.due (is_due_entry f) due (λ d. has_place k kept.live) (due_is k after ∙ sym (due_entry new.prepared hub who f (past k after) keeps)) s.due;
          room = omega (arith, count, room, capacity);
          passed = passed;
          unborn = unborn_after;
        }

    -- the job isn't live any more
    pub stands_dropped : entry_at new.live (suc k) ≡ None → live_count new.live + 1 ≡ live_count old.live → Takes old.live.weight new.live.weight e.weight → live_job_in k after ≡ false
        → DueIs old.due new.due (suc k) false → (id : Option (List ℕ)) (streams : List (List ℕ)) → id ≡ e.id → streams ≡ e.streams → Releases old.names new.names (suc k) id streams
        → Stands {H = H} hub new who after
    stands_dropped here count takes dead due id streams is_id are names =
        let lives : live_jobs_in h ≡ suc (live_jobs_in after) = fewer_lives h after k t.begun kept.live dead (λ j ne. other_lives j (ne_eqb j k ne)) in
        let few = s.few_live in
        let room = s.room in
        let capacity = due.capacity in
        let counted = s.count in
        record {
          accepted = accepted ∙ (s.accepted ∙ ap length (sym t.begun));
          moments = ap length t.moments ∙ (s.moments ∙ ap length (sym t.begun));
          entries = place_cases (λ j. IsEntryOf new.prepared hub who (entry_at new.live (suc j)) (past j after)) k
              (entry_of new.prepared hub who None (entry_at new.live (suc k)) (past k after) (past k after) here refl dead) other_entries;
          none = first_none;
          count = omega (arith, count, counted, lives);
          few_live = omega (arith, few, lives);
          weight = sum_dropped old.live.weight new.live.weight e.weight (count_in h) (count_in after) (count_of (past k h)) (count_of (past k after)) (takes its_part)
              (all_touched h after k t within) (count_is old.prepared hub who e (past k h) kept)
              (ap (λ (b : Bool). if b then job_count (slice_get (begun_in after) k) (inputs_waiting_in k after) (reply_in k after) else 0) dead) s.weight;
          ids = ids_dropped h after k t dead kept.call kept.at kept.live old.names new.names id streams (is_id ∙ kept.id) (are ∙ kept.streams) names s.ids;
          streams = streams_dropped h after k t dead kept.call kept.at kept.live old.names new.names id streams (is_id ∙ kept.id) (are ∙ kept.streams) names s.streams;
          due = due_changed h after k t old.due new.due false due (λ d. true_false (sym d)) (undue k after dead) s.due;
          room = omega (arith, count, room, capacity);
          passed = passed;
          unborn = unborn_after;
        }

  -- the same is kept, in other room
  pub stands_kept : (new : Jobs H Job) → ((j : ℕ) → IsEntryOf new.prepared hub who (entry_at new.live (suc j)) (past j h)) → entry_at new.live 0 ≡ None → live_count new.live ≡ live_count old.live → new.live.weight ≡ old.live.weight
      → AreSame old.names new.names → DueAgree new.due h → vec_capacity old.due.numbers ≤ vec_capacity new.due.numbers
      → new.accepted ≡ old.accepted → new.passed ≡ old.passed → Stands {H = H} hub new who h
  stands_kept new entries none count weight names due capacity accepted passed =
      let room = s.room in
      record {
        accepted = accepted ∙ s.accepted;
        moments = s.moments;
        entries = entries;
        none = none;
        count = count ∙ s.count;
        few_live = s.few_live;
        weight = weight ∙ s.weight;
        ids = record { had = λ i n e. s.ids.had i n (sym (names.ids i) ∙ e); every = λ i j x. names.ids i ∙ s.ids.every i j x };
        streams = record { had = λ i z e. s.streams.had i z (sym (names.streams i) ∙ e); every = λ i j w x. names.streams i ∙ s.streams.every i j w x };
        due = due;
        room = omega (arith, count, room, capacity);
        passed = passed ∙ s.passed;
        unborn = s.unborn;
      }

  -- what is kept of each job, where no turn was halfway before nor is after, or one was and is
  pub entries_same : (new : Jobs H Job) → new.prepared ≡ old.prepared → (j : ℕ) → IsEntryOf new.prepared hub who (entry_at old.live (suc j)) (past j h)
  entries_same new half j = subst (λ b. IsEntryOf b hub who (entry_at old.live (suc j)) (past j h)) (sym half) (s.entries j)

-- ---- nothing was fed

module _ {Job : Type 0} (half : Bool) (hub : Hub Job) (who : List ℕ) where
  -- an entry that is altered in a way that nobody can tell
  pub altered_none : (o n : Option (Entry Job)) (p : Past) → AltersEntry o n (IsFed []) → IsEntryOf half hub who o p → IsEntryOf half hub who n p
  altered_none None n p a x = subst (λ z. IsEntryOf half hub who z p) (sym a) x
  altered_none (Some e) None p a x = absurd a
  altered_none (Some e) (Some f) p a x = retained half hub who e f p x a

  pub altered_entries : (old new : Live Job) (n : ℕ) (h : List JobHappening) → Alters old new n (IsFed [])
      → ((j : ℕ) → IsEntryOf half hub who (entry_at old (suc j)) (past j h)) → (j : ℕ) → IsEntryOf half hub who (entry_at new (suc j)) (past j h)
  altered_entries old new n h a x j = go (n == suc j) refl
    where
      go : (b : Bool) → (n == suc j) ≡ b → IsEntryOf half hub who (entry_at new (suc j)) (past j h)
      go true e =
          altered_none (entry_at old (suc j)) (entry_at new (suc j)) (past j h)
          (subst (λ m. AltersEntry (entry_at old m) (entry_at new m) (IsFed [])) (eqb-true n (suc j) e) a.here) (x j)
      go false e = entry_of half hub who (entry_at old (suc j)) (entry_at new (suc j)) (past j h) (past j h) (a.others (suc j) e) refl (x j)

  pub altered_first : (old new : Live Job) (n : ℕ) → Alters old new n (IsFed []) → entry_at old 0 ≡ None → entry_at new 0 ≡ None
  altered_first old new n a z = go (n == 0) refl
    where
      go : (b : Bool) → (n == 0) ≡ b → entry_at new 0 ≡ None
      go true e =
          let at : AltersEntry (entry_at old 0) (entry_at new 0) (IsFed []) = subst (λ m. AltersEntry (entry_at old m) (entry_at new m) (IsFed [])) (eqb-true n 0 e) a.here in
          subst (λ o. AltersEntry o (entry_at new 0) (IsFed [])) z at
      go false e = a.others 0 e ∙ z

-- ---- no jobs

pub stands_start : {H Job : Type 0} (hub : Hub Job) (who : List ℕ) (jobs : Jobs H Job) → ((n : ℕ) → entry_at jobs.live n ≡ None) → live_count jobs.live ≡ 0 → jobs.live.weight ≡ 0
    → ((i : List ℕ) → job_at jobs.names i ≡ None) → ((i : List ℕ) → stream_at jobs.names i ≡ None) → jobs.due.numbers.items ≡ []
    → jobs.accepted ≡ 0 → jobs.passed ≡ 0 → Stands {H = H} hub jobs who []
stands_start hub who jobs entries count weight ids streams items accepted passed = record {
  accepted = accepted;
  moments = refl;
  entries = λ j. entry_of jobs.prepared hub who None (entry_at jobs.live (suc j)) (past j []) (past j []) (entries (suc j)) refl (dead_past j [] (omega arith));
  none = entries 0;
  count = count;
  few_live = omega arith;
  weight = weight;
  ids = record {
    had = λ i n e. absurd (none_some n (sym (ids i) ∙ e));
    every = λ i j x. true_false (sym x.live ∙ dead_past j [] (omega arith));
  };
  streams = record {
    had = λ i s e. absurd (none_some s (sym (streams i) ∙ e));
    every = λ i j w x. true_false (sym x.live ∙ dead_past j [] (omega arith));
  };
  due = record {
    rising = subst IsRising (sym items) tt;
    same = λ j. ap (is_in (suc j)) items ∙ sym (undue j [] (dead_past j [] (omega arith)));
    from_one = ap (is_in 0) items;
  };
  room = omega (arith, count);
  passed = passed;
  unborn = λ j l. record { over = refl; turns = refl; acts = refl; inputs = refl; is_cancelled = refl; reply = refl };
}
