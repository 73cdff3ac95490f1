-- What each call of a table makes of the happenings that it stood for.
use Rattle.std.proofs.Common.{◌≡◌, ℕ, zero, suc, ◌+◌, ◌-◌, ◌<◌, ◌≤◌, Bool, true, false, List, [], ◌∷◌, length, map, Option, Some, None, refl, sym, ap, ◌∙◌, subst, arith, ◌⊎◌, inl, inr, length-drop}
use Rattle.std.specs.Prelude.{not, is_some, ◌&&◌, ◌==◌}
use Rattle.std.specs.Vec.{vec_capacity}
use Rattle.std.proofs.lemmas.Bool.{and_parts, not-true, not-false, eqb-true, cond-true, cond-false}
use Rattle.std.proofs.lemmas.List.{length-map}
use Rattle.hv_value.specs.declared.value.Value.{Value}
use Rattle.hm_message.specs.declared.message.Ending.{Ending}
use Rattle.hd_calls.specs.declared.vocabulary.Act.{Act}
use Rattle.hd_calls.specs.declared.vocabulary.Act.TheVariants as act
use Rattle.hd_calls.specs.declared.vocabulary.Input.{Input}
use Rattle.hd_calls.specs.declared.vocabulary.Input.TheVariants as input
use Rattle.hd_calls.specs.Numbers.{most_inputs, most_weight}
use Rattle.hd_calls.specs.Weights.{input_weight}
use Rattle.hd_calls.specs.Hubs.{Answer, End, error_in, Hub, Item, upload_input}
use Rattle.hd_calls.specs.Peers.{has_end, last_of, of_stream}
use Rattle.hd_calls.specs.Rules.{used}
use Rattle.hd_calls.specs.Tables.{acts_in, Came, Ended, inputs_left_in, JobHappening, kept_weight_in, live_job_in, Marked, marked_in, passed_in, Replied}
use Rattle.hv_value.specs.declared.sorted_set.SortedSet.{SortedSet}
use Rattle.hj_jobs.specs.declared.entry.Entry.{Entry}
use Rattle.hj_jobs.specs.declared.errors.InputError.{InputError}
use Rattle.hj_jobs.specs.declared.errors.InputError.TheVariants as errors
use Rattle.hj_jobs.specs.declared.jobs.Jobs.{Jobs}
use Rattle.hj_jobs.specs.declared.live.Live.{Live}
use Rattle.hj_jobs.specs.declared.ids.Ids.{Ids}
use Rattle.hj_jobs.specs.declared.ids.Stream.{Stream}
use Rattle.hj_jobs.specs.Calls.{Answers, AwaitsAnswer, Feeds, Floods, is_answer, IsDead, IsTooMuchIn, IsUnfed, Marks, Measures}
use Rattle.hv_value.specs.SortedSet.{is_in}
use Rattle.hj_jobs.specs.Entries.{awaited, is_answer_to, is_due_entry}
use Rattle.hj_jobs.specs.Counted.{counted, Swaps}
use Rattle.hj_jobs.specs.Live.{Alters, AltersEntry, AltersWeight, awaits_at, entry_at, is_due_at, is_unmarked_at, IsAnswered, IsFed, IsMarked, live_count, LosesWeight, Retains, waits_at}
use Rattle.hj_jobs.specs.Ids.{AreSame, Closes, job_at, stream_at}
use Rattle.hj_jobs.specs.Parts.{Agrees, Changes, Drops, DueIs, IsFloodOr, KeepsFed}
use Rattle.hj_jobs.specs.Stands.{DueAgree, HasId, IdsAgree, Past, past, Remembers, Stands, StreamIn, StreamsAgree}
use Rattle.hj_jobs.proofs.Agree.{ids_kept, item_unended, SameNames, streams_ended, streams_kept}
use Rattle.hj_jobs.proofs.AllJobs.{all_measured}
use Rattle.hj_jobs.proofs.Basics.{none_some, some_injective, true_false}
use Rattle.hj_jobs.proofs.OneJob.{answering, due_entry, due_is, feeding, marking}
use Rattle.hj_jobs.proofs.Pasts.{came_here, came_touches, ended_ends, ended_touches, marked_here, marked_touches, replied_here, replied_touches, Touches}
use Rattle.hj_jobs.proofs.Rounds.{IsNext}
use Rattle.hj_jobs.proofs.Weighing.{heavy_measured, light_measured, measured, measured_both}
use Rattle.hj_jobs.proofs.Table.{altered_entries, altered_first, entries_same, entry_of, due_live, due_moved, live_entry, no_entry, remembered, stands_changed, stands_dropped, stands_kept, undue}

-- ---- one entry

pub altered_some : {J : Type 0} (o n : Option (Entry J)) (e : Entry J) (C : Entry J → Entry J → Type 0) → o ≡ Some e → AltersEntry o n C → (f : Entry J) × (n ≡ Some f) × C e f
altered_some None n e C is a = absurd (none_some e is)
altered_some (Some d) None e C is a = absurd a
altered_some (Some d) (Some f) e C is a = (f, refl, subst (λ z. C z f) (some_injective d e is) a)

-- the sum with what an entry counts now
pub swaps_of : {J : Type 0} (old new : ℕ) (o n : Option (Entry J)) (e f : Entry J) → o ≡ Some e → n ≡ Some f → AltersWeight old new o n → Swaps old new e.weight f.weight
swaps_of old new o n e f was is a = subst (λ z. AltersWeight old new (Some e) z) is (subst (λ z. AltersWeight old new z n) was a)

pub agreed : {H J : Type 0} (old new : Jobs H J) (live : Live J) (n : ℕ) (C : Entry J → Entry J → Type 0) → Alters old.live live n C
    → Agrees {H = H} (record { live = live; names = old.names; due = old.due; accepted = old.accepted; passed = old.passed; prepared = old.prepared }) new n → Changes {H = H} old new n C
agreed old new live n C alters a = record {
  live = subst (λ l. Alters old.live l n C) (sym a.live) alters;
  due = subst (λ l. DueIs old.due new.due n (is_due_at (entry_at l n))) (sym a.live) a.due;
  names = a.names;
  accepted = a.accepted;
  passed = a.passed;
  prepared = a.prepared;
}

-- the names of a job are those that it had, if its call, its life and its inputs are
pub same_names : (p q : Past) → q.call ≡ p.call → q.live ≡ p.live → q.inputs ≡ p.inputs → SameNames p q
same_names p q call live inputs = record { call = call; live = live; ended = λ w. ap (λ xs. has_end (of_stream w xs)) inputs }

module _ {H Job : Type 0} (hub : Hub Job) (who : List ℕ) (old : Jobs H Job) (h : List JobHappening) (s : Stands {H = H} hub old who h) where
  -- what is kept of a live job
  pub its_entry : (k : ℕ) → live_job_in k h ≡ true → (e : Entry Job) × (entry_at old.live (suc k) ≡ Some e) × Remembers old.prepared hub who e (past k h)
  its_entry k live =
      let x = live_entry old.prepared hub who (entry_at old.live (suc k)) (past k h) (s.entries k) live in
      (x.0, x.1, remembered old.prepared hub who (entry_at old.live (suc k)) (past k h) x.0 x.1 (s.entries k))

  waits_is : (k : ℕ) → live_job_in k h ≡ true → waits_at (entry_at old.live (suc k)) ≡ inputs_left_in k h
  waits_is k live =
      let x = its_entry k live in
      let r : Remembers old.prepared hub who x.0 (past k h) = x.2 in
      ap waits_at x.1 ∙ (ap length r.inputs ∙ (length-drop (used (past k h).turns) (map upload_input (past k h).inputs) ∙ ap (λ n. n - used (past k h).turns) (length-map (past k h).inputs upload_input)))

  -- a job changed, and neither its life nor the turn of the round
  module _ (new : Jobs H Job) (k : ℕ) (C : Entry Job → Entry Job → Type 0) (c : Changes {H = H} old new (suc k) C) (after : List JobHappening) (t : Touches h after k)
      (e : Entry Job) (was : entry_at old.live (suc k) ≡ Some e) (passed : passed_in after ≡ passed_in h) (keeps : (f : Entry Job) → C e f → Remembers old.prepared hub who f (past k after)) where
    changed_to : (names : Ids) → IdsAgree names after → StreamsAgree names after → (jobs : Jobs H Job) → jobs.live ≡ new.live → jobs.due ≡ new.due → jobs.names ≡ names
        → jobs.accepted ≡ new.accepted → jobs.passed ≡ new.passed → jobs.prepared ≡ new.prepared → Stands {H = H} hub jobs who after
    changed_to names ids streams jobs live due named accepted turn half =
        let x = altered_some (entry_at old.live (suc k)) (entry_at new.live (suc k)) e C was c.live.here in
        stands_changed {H = H} hub who old h s jobs after k e t was
        (λ n ne. ap (λ l. entry_at l n) live ∙ c.live.others n ne) (accepted ∙ c.accepted) (turn ∙ (c.passed ∙ (s.passed ∙ sym passed))) (λ j ne. entries_same {H = H} hub who old h s jobs (half ∙ c.prepared) j)
        x.0 (ap (λ l. entry_at l (suc k)) live ∙ x.1) (ap live_count live ∙ c.live.count)
        (subst (λ (l : Live Job). Swaps old.live.weight l.weight e.weight x.0.weight) (sym live) (swaps_of old.live.weight new.live.weight (entry_at old.live (suc k)) (entry_at new.live (suc k)) e x.0 was x.1 c.live.weight))
        (subst (λ b. Remembers b hub who x.0 (past k after)) (sym (half ∙ c.prepared)) (keeps x.0 x.2))
        (subst (λ d. DueIs old.due d (suc k) (is_due_entry x.0)) (sym due) (subst (λ b. DueIs old.due new.due (suc k) b) (ap is_due_at x.1) c.due))
        (subst (λ ns. IdsAgree ns after) (sym named) ids) (subst (λ ns. StreamsAgree ns after) (sym named) streams)

    pub changed_plainly : SameNames (past k h) (past k after) → Stands {H = H} hub new who after
    changed_plainly same =
        changed_to new.names
        (ids_kept h after k t (record { call = same.call; live = same.live }) old.names new.names (λ i. ap (λ ns. job_at ns i) c.names) s.ids)
        (streams_kept h after k t same old.names new.names (λ i. ap (λ ns. stream_at ns i) c.names) s.streams)
        new refl refl refl refl refl refl

  -- ---- an answer

  answer_fits : (k : ℕ) (e : Entry Job) (i : Input) → Remembers old.prepared hub who e (past k h) → is_answer_to e.awaits i ≡ is_answer (last_of (acts_in k h)) i
  answer_fits k e i r = ap (λ a. is_answer_to a i) r.awaits ∙ by_act (last_of (acts_in k h)) i
    where
      by_act : (a : Option Act) (i : Input) → is_answer_to (awaited a) i ≡ is_answer a i
      by_act None i = refl
      by_act (Some act.More) i = refl
      by_act (Some act.Wait) i = refl
      by_act (Some (act.Item v)) i = refl
      by_act (Some (act.End x)) i = refl
      by_act (Some (act.Do d)) i = refl
      by_act (Some (act.Ask u v)) input.Go = refl
      by_act (Some (act.Ask u v)) (input.Item w x) = refl
      by_act (Some (act.Ask u v)) (input.StreamEnd w x) = refl
      by_act (Some (act.Ask u v)) (input.Asked x) = refl
      by_act (Some (act.Ask u v)) (input.Done x) = refl
      by_act (Some (act.Ask u v)) input.Failed = refl

  unanswered : (o : Option Input) → not (is_some o) ≡ true → o ≡ None
  unanswered None e = refl
  unanswered (Some i) e = true_false (sym e)

  pub answer_known : (new : Jobs H Job) (n : ℕ) (i : Input) → awaits_at (entry_at old.live n) i ≡ true → Changes {H = H} old new n (IsAnswered i) → Answers {H = H} hub new who h n i
  answer_known new zero i fits c = true_false (sym (sym (ap (λ o. awaits_at o i) s.none) ∙ fits))
  answer_known new (suc k) i fits c = go (entry_at old.live (suc k)) refl
    where
      go : (o : Option (Entry Job)) → entry_at old.live (suc k) ≡ o → Answers {H = H} hub new who h (suc k) i
      go None e = true_false (sym (sym (ap (λ o. awaits_at o i) e) ∙ fits))
      go (Some e) is =
          let r : Remembers old.prepared hub who e (past k h) = remembered old.prepared hub who (entry_at old.live (suc k)) (past k h) e is (s.entries k) in
          let parts = and_parts (not (is_some e.reply)) (is_answer_to e.awaits i) (sym (ap (λ o. awaits_at o i) is) ∙ fits) in
          let there = replied_here h k i in
          record {
            job = k;
            is = refl;
            awaits = record { live = r.live; asked = sym (answer_fits k e i r) ∙ parts.1; unanswered = sym r.reply ∙ unanswered e.reply parts.0 };
            stands = changed_plainly new k (IsAnswered i) c (Replied k i ∷ h) (replied_touches h k i) e is refl
                (λ f x. subst (λ p. Remembers old.prepared hub who f p) (sym there) (answering old.prepared hub who e f (past k h) r i parts.1 (unanswered e.reply parts.0) x))
                (same_names (past k h) (past k (Replied k i ∷ h)) refl refl refl);
          }

  pub answer_unknown : (k : ℕ) (i : Input) → awaits_at (entry_at old.live (suc k)) i ≡ false → AwaitsAnswer h k i → ⊥
  answer_unknown k i fits a =
      let x = its_entry k a.live in
      let r : Remembers old.prepared hub who x.0 (past k h) = x.2 in
      let none : not (is_some x.0.reply) ≡ true = ap (λ o. not (is_some o)) (r.reply ∙ a.unanswered) in
      let fit : is_answer_to x.0.awaits i ≡ true = answer_fits k x.0 i r ∙ a.asked in
      true_false (sym (ap (λ b. b && is_answer_to x.0.awaits i) none ∙ fit) ∙ (sym (ap (λ o. awaits_at o i) x.1) ∙ fits))

  -- ---- a mark

  pub cancel_known : (new : Jobs H Job) (i : List ℕ) (n : ℕ) → job_at old.names i ≡ Some n → is_unmarked_at (entry_at old.live n) ≡ true → Changes {H = H} old new n IsMarked
      → Marks {H = H} hub new who h i n
  cancel_known new i n named unmarked c =
      let x = s.ids.had i n named in
      at x.0 x.1 x.2 (subst (λ m. is_unmarked_at (entry_at old.live m) ≡ true) x.1 unmarked) (subst (λ m. Changes {H = H} old new m IsMarked) x.1 c)
    where
      at : (k : ℕ) → n ≡ suc k → HasId h i k → is_unmarked_at (entry_at old.live (suc k)) ≡ true → Changes {H = H} old new (suc k) IsMarked → Marks {H = H} hub new who h i n
      at k is had unmarked c =
          let x = its_entry k had.live in
          let r : Remembers old.prepared hub who x.0 (past k h) = x.2 in
          let there = marked_here h k in
          record {
            job = k;
            is = is;
            has_id = had;
            unmarked = sym r.is_cancelled ∙ not-true x.0.is_cancelled (sym (ap is_unmarked_at x.1) ∙ unmarked);
            stands = changed_plainly new k IsMarked c (Marked k ∷ h) (marked_touches h k) x.0 x.1 refl
                (λ f z. subst (λ p. Remembers old.prepared hub who f p) (sym there) (marking old.prepared hub who x.0 f (past k h) r z))
                (same_names (past k h) (past k (Marked k ∷ h)) refl refl refl);
          }

  pub cancel_nobody : (i : List ℕ) → job_at old.names i ≡ None → (k : ℕ) → HasId h i k → marked_in k h ≡ false → ⊥
  cancel_nobody i none k had unmarked = none_some (suc k) (sym none ∙ s.ids.every i k had)

  pub cancel_again : (i : List ℕ) (n : ℕ) → job_at old.names i ≡ Some n → is_unmarked_at (entry_at old.live n) ≡ false → (k : ℕ) → HasId h i k → marked_in k h ≡ false → ⊥
  cancel_again i n named is_cancelled k had unmarked =
      let is : n ≡ suc k = some_injective n (suc k) (sym named ∙ s.ids.every i k had) in
      let x = its_entry k had.live in
      let r : Remembers old.prepared hub who x.0 (past k h) = x.2 in
      let is_marked : x.0.is_cancelled ≡ true = not-false x.0.is_cancelled (sym (ap is_unmarked_at x.1) ∙ (ap (λ m. is_unmarked_at (entry_at old.live m)) (sym is) ∙ is_cancelled)) in
      true_false (sym is_marked ∙ (r.is_cancelled ∙ unmarked))

  -- ---- what comes on a stream

  -- what the table counts stands for what is kept, without an input more and with it
  pub kept_measured : Measures old.live.weight (kept_weight_in h)
  kept_measured = subst (λ n. Measures n (kept_weight_in h)) (sym s.weight) (all_measured h)

  with_measured : (i : Input) → Measures (old.live.weight + counted (input_weight i)) (kept_weight_in h + input_weight i)
  with_measured i = measured_both old.live.weight (counted (input_weight i)) (kept_weight_in h) (input_weight i) kept_measured (measured (input_weight i))

  is_light : (i : Input) → old.live.weight + counted (input_weight i) ≤ most_weight → kept_weight_in h + input_weight i ≤ most_weight
  is_light i l = light_measured (old.live.weight + counted (input_weight i)) (kept_weight_in h + input_weight i) (with_measured i) l

  pub item_fed : (new : Jobs H Job) (i : List ℕ) (v : Value) (f : Stream) → stream_at old.names i ≡ Some f → Changes {H = H} old new f.job (IsFed (input.Item f.which v ∷ []))
      → waits_at (entry_at old.live f.job) < most_inputs → old.live.weight + counted (input_weight (input.Item f.which v)) ≤ most_weight → Feeds {H = H} hub new who h i (Item v) f.job
  item_fed new i v f found c few light =
      let x = s.streams.had i f found in
      at x.0 x.1 x.2 (subst (λ m. Changes {H = H} old new m (IsFed (input.Item f.which v ∷ []))) x.1 c) (subst (λ m. waits_at (entry_at old.live m) < most_inputs) x.1 few)
    where
      at : (k : ℕ) → f.job ≡ suc k → StreamIn h i k f.which → Changes {H = H} old new (suc k) (IsFed (input.Item f.which v ∷ [])) → waits_at (entry_at old.live (suc k)) < most_inputs
          → Feeds {H = H} hub new who h i (Item v) f.job
      at k is open_there c few =
          let x = its_entry k open_there.live in
          let r : Remembers old.prepared hub who x.0 (past k h) = x.2 in
          let there = came_here h k f.which (Item v) in
          let left : inputs_left_in k h < most_inputs = subst (λ m. m < most_inputs) (waits_is k open_there.live) few in
          record {
            job = k;
            which = f.which;
            is = is;
            at = open_there;
            room = record { few = left; light = is_light (input.Item f.which v) light };
            stands = changed_plainly new k (IsFed (input.Item f.which v ∷ [])) c (Came k f.which (Item v) ∷ h) (came_touches h k f.which (Item v)) x.0 x.1 refl
                (λ z y. subst (λ p. Remembers old.prepared hub who z p) (sym there) (feeding old.prepared hub who x.0 z (past k h) r f.which (Item v) y left))
                (subst (SameNames (past k h)) (sym there) (item_unended (past k h) f.which v));
          }

  pub end_fed : (mid new : Jobs H Job) (i : List ℕ) (error : Option (List ℕ)) (f : Stream) → stream_at old.names i ≡ Some f → Changes {H = H} old mid f.job (IsFed (input.StreamEnd f.which error ∷ []))
      → waits_at (entry_at old.live f.job) < most_inputs → old.live.weight + counted (input_weight (input.StreamEnd f.which error)) ≤ most_weight → Closes mid.names new.names i → new.live ≡ mid.live → new.due ≡ mid.due → new.accepted ≡ mid.accepted → new.passed ≡ mid.passed → new.prepared ≡ mid.prepared
      → (e : Ending) → error_in e ≡ error → Feeds {H = H} hub new who h i (End e) f.job
  end_fed mid new i error f found c few light closes live due accepted turn half e is_error =
      let x = s.streams.had i f found in
      at x.0 x.1 x.2 (subst (λ m. Changes {H = H} old mid m (IsFed (input.StreamEnd f.which (error_in e) ∷ []))) x.1 (subst (λ z. Changes {H = H} old mid f.job (IsFed (input.StreamEnd f.which z ∷ []))) (sym is_error) c))
      (subst (λ m. waits_at (entry_at old.live m) < most_inputs) x.1 few)
    where
      at : (k : ℕ) → f.job ≡ suc k → StreamIn h i k f.which → Changes {H = H} old mid (suc k) (IsFed (input.StreamEnd f.which (error_in e) ∷ [])) → waits_at (entry_at old.live (suc k)) < most_inputs
          → Feeds {H = H} hub new who h i (End e) f.job
      at k is open_there c few =
          let x = its_entry k open_there.live in
          let r : Remembers old.prepared hub who x.0 (past k h) = x.2 in
          let there = came_here h k f.which (End e) in
          let left : inputs_left_in k h < most_inputs = subst (λ m. m < most_inputs) (waits_is k open_there.live) few in
          let after = Came k f.which (End e) ∷ h in
          let t = came_touches h k f.which (End e) in
          let shut : Closes old.names new.names i = subst (λ ns. Closes ns new.names i) c.names closes in
          record {
            job = k;
            which = f.which;
            is = is;
            at = open_there;
            room = record { few = left; light = subst (λ z. kept_weight_in h + input_weight (input.StreamEnd f.which z) ≤ most_weight) (sym is_error) (is_light (input.StreamEnd f.which error) light) };
            stands = changed_to mid k (IsFed (input.StreamEnd f.which (error_in e) ∷ [])) c after t x.0 x.1 refl
                (λ z y. subst (λ p. Remembers old.prepared hub who z p) (sym there) (feeding old.prepared hub who x.0 z (past k h) r f.which (End e) y left))
                new.names (ids_kept h after k t (record { call = ap (λ (p : Past). p.call) there; live = ap (λ (p : Past). p.live) there }) old.names new.names shut.ids s.ids) (streams_ended h after k f.which e t there old.names new.names i shut open_there s.streams)
                new live due refl accepted turn half;
          }

  pub stream_unknown : (i : List ℕ) → stream_at old.names i ≡ None → (j w : ℕ) → StreamIn h i j w → ⊥
  stream_unknown i none j w r = none_some (record { job = suc j; which = w }) (sym none ∙ s.streams.every i j w r)

  pub flooded : (i : List ℕ) (a : Answer) (f : Stream) → stream_at old.names i ≡ Some f
      → (most_inputs ≤ waits_at (entry_at old.live f.job)) ⊎ (most_weight < old.live.weight + counted (input_weight (upload_input (f.which, a)))) → Floods h i a
  flooded i a f found full =
      let x = s.streams.had i f found in
      let r : StreamIn h i x.0 f.which = x.2 in
      record {
        job = x.0;
        which = f.which;
        at = r;
        full = much x.0 x.1 r.live full;
      }
    where
      much : (k : ℕ) → f.job ≡ suc k → live_job_in k h ≡ true
          → (most_inputs ≤ waits_at (entry_at old.live f.job)) ⊎ (most_weight < old.live.weight + counted (input_weight (upload_input (f.which, a)))) → IsTooMuchIn h k (upload_input (f.which, a))
      much k is live (inl many) = inl (subst (λ m. most_inputs ≤ m) (ap (λ m. waits_at (entry_at old.live m)) is ∙ waits_is k live) many)
      much k is live (inr heavy) = inr (heavy_measured (old.live.weight + counted (input_weight (upload_input (f.which, a)))) (kept_weight_in h + input_weight (upload_input (f.which, a))) (with_measured (upload_input (f.which, a))) heavy)

  pub unfed_stands : (new : Jobs H Job) (n : ℕ) → KeepsFed {H = H} old new n → Stands {H = H} hub new who h
  unfed_stands new n (inl same) = subst (λ j. Stands {H = H} hub j who h) (sym same) s
  unfed_stands new n (inr f) =
      let capacity : vec_capacity old.due.numbers ≡ vec_capacity new.due.numbers = ap (λ (d : SortedSet). vec_capacity d.numbers) (sym f.due) in
      stands_kept {H = H} hub who old h s new (altered_entries new.prepared hub who old.live new.live n h f.live (entries_same {H = H} hub who old h s new f.prepared)) (altered_first new.prepared hub who old.live new.live n f.live s.none)
      f.live.count f.weight (record { ids = λ i. ap (λ ns. job_at ns i) f.names; streams = λ i. ap (λ ns. stream_at ns i) f.names })
      (subst (λ d. DueAgree d h) (sym f.due) s.due) (omega (arith, capacity)) f.accepted f.passed

  -- ---- an end

  pub end_live : (new : Jobs H Job) (k : ℕ) → Drops {H = H} old new (suc k) → live_job_in k h ≡ true → Stands {H = H} hub new who (Ended k ∷ h)
  end_live new k d live =
      let x = its_entry k live in
      stands_dropped {H = H} hub who old h s new (Ended k ∷ h) k x.0 (ended_touches h k) x.1 d.live.others d.accepted (d.passed ∙ s.passed) (λ j ne. entries_same {H = H} hub who old h s new d.prepared j)
      d.live.here (d.live.count x.0 x.1) (subst (λ o. LosesWeight old.live.weight new.live.weight o) x.1 d.live.weight) (ended_ends h k) d.due x.0.id x.0.streams refl refl (d.names x.0 x.1)

  -- nothing changes at a number that no live job has
  pub end_dead : (new : Jobs H Job) (n : ℕ) → Drops {H = H} old new n → IsDead h n → Stands {H = H} hub new who h
  end_dead new n d dead =
      let absent = absent_at n dead in
      let same = d.same_names absent in
      stands_kept {H = H} hub who old h s new
      (λ j. entry_of new.prepared hub who (entry_at old.live (suc j)) (entry_at new.live (suc j)) (past j h) (past j h) (same_at (suc j) absent) refl (entries_same {H = H} hub who old h s new d.prepared j))
      (same_at 0 absent ∙ s.none) (d.live.none absent) (subst (λ o. LosesWeight old.live.weight new.live.weight o) absent d.live.weight)
      (record { ids = λ i. ap (λ ns. job_at ns i) same; streams = λ i. ap (λ ns. stream_at ns i) same })
      (record {
        rising = d.due.rising s.due.rising;
        same = λ j. undue_at (suc j) (λ e. undue j h (dead j e)) (s.due.same j);
        from_one = undue_at 0 (λ e. refl) s.due.from_one;
      })
      d.due.capacity d.accepted d.passed
    where
      absent_at : (m : ℕ) → IsDead h m → entry_at old.live m ≡ None
      absent_at zero f = s.none
      absent_at (suc k) f = no_entry old.prepared hub who (entry_at old.live (suc k)) (past k h) (s.entries k) (f k refl)

      same_at : (m : ℕ) → entry_at old.live n ≡ None → entry_at new.live m ≡ entry_at old.live m
      same_at m absent = go (n == m) refl
        where
          go : (b : Bool) → (n == m) ≡ b → entry_at new.live m ≡ entry_at old.live m
          go true e = let is = eqb-true n m e in ap (λ k. entry_at new.live k) (sym is) ∙ (d.live.here ∙ (sym absent ∙ ap (λ k. entry_at old.live k) is))
          go false e = d.live.others m e

      undue_at : {b : Bool} (m : ℕ) → (n ≡ m → b ≡ false) → is_in m old.due.numbers.items ≡ b → is_in m new.due.numbers.items ≡ b
      undue_at {b} m none was = go (m == n) refl
        where
          go : (x : Bool) → (m == n) ≡ x → is_in m new.due.numbers.items ≡ b
          go true e = d.due.at s.due.rising (λ z. true_false (sym z)) m ∙ (cond-true (m == n) false (is_in m old.due.numbers.items) e ∙ sym (none (sym (eqb-true m n e))))
          go false e = d.due.at s.due.rising (λ z. true_false (sym z)) m ∙ (cond-false (m == n) false (is_in m old.due.numbers.items) e ∙ was)

  -- ---- a turn

  -- a job that is due has its turn
  pub next_turns : (n : ℕ) → IsNext h n → is_due_at (entry_at old.live n) ≡ false → ⊥
  next_turns n next idle =
      let x = its_entry next.job (due_live next.job h next.due) in
      let r : Remembers old.prepared hub who x.0 (past next.job h) = x.2 in
      true_false (sym next.due ∙ (due_is next.job h ∙ (sym (due_entry old.prepared hub who x.0 (past next.job h) r) ∙ (sym (ap is_due_at x.1) ∙ (ap (λ m. is_due_at (entry_at old.live m)) (sym next.is) ∙ idle)))))

  -- the same is kept of each
  pub retained_stands : (new : Jobs H Job) → Retains old.live new.live → AreSame old.names new.names → new.due.numbers.items ≡ old.due.numbers.items → vec_capacity old.due.numbers ≤ vec_capacity new.due.numbers
      → new.accepted ≡ old.accepted → new.passed ≡ old.passed → new.prepared ≡ old.prepared → Stands {H = H} hub new who h
  retained_stands new live names items capacity accepted passed half =
      stands_kept {H = H} hub who old h s new (λ j. entry_of new.prepared hub who (entry_at old.live (suc j)) (entry_at new.live (suc j)) (past j h) (past j h) (live.at (suc j)) refl (entries_same {H = H} hub who old h s new half j))
      (live.at 0 ∙ s.none) live.count live.weight names (due_moved h old.due new.due items s.due) capacity accepted passed

  -- nothing is fed for the reason that the table told
  pub unfed_refused : (i : List ℕ) (a : Answer) (f : Stream) → stream_at old.names i ≡ Some f → (e : InputError)
      → IsFloodOr (waits_at (entry_at old.live f.job)) (old.live.weight + counted (input_weight (upload_input (f.which, a)))) e → IsUnfed h i a e
  unfed_refused i a f found errors.UnknownId full = absurd full
  unfed_refused i a f found errors.Flood full = flooded i a f found full
  unfed_refused i a f found errors.NoMemory full = tt

pub same_retained : {J : Type 0} (live : Live J) → Retains live live
same_retained live = record { at = λ n. refl; count = refl; weight = refl }
