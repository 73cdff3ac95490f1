-- The two halves of a turn: what a table stands for after an attempt, and after that is finished.
use Rattle.std.proofs.Common.{◌≡◌, ℕ, suc, Bool, true, false, List, [], ◌∷◌, ◌++◌, Option, Some, None, refl, sym, ap, ◌∙◌, subst, arith}
use Rattle.std.specs.Prelude.{◌==◌, if◌then◌else◌}
use Rattle.std.proofs.lemmas.Bool.{eq-eqb, ne_eqb}
use Rattle.std.specs.Vec.{vec_capacity}
use Rattle.hm_message.specs.declared.message.Ending.TheVariants.{Void}
use Rattle.hd_calls.specs.declared.vocabulary.Act.TheVariants as act
use Rattle.hd_calls.specs.declared.vocabulary.Input.{Input}
use Rattle.hd_calls.specs.Hubs.{Cancelled, Given, Hub, Turn, call_for}
use Rattle.hd_calls.specs.Peers.{last_of}
use Rattle.hd_calls.specs.Rules.{act_at, job_after}
use Rattle.hd_calls.specs.Tables.{acts_in, finishes, JobHappening, live_job_in, Turned, turns_in}
use Rattle.hv_value.specs.declared.sorted_set.SortedSet.{SortedSet}
use Rattle.hj_jobs.specs.declared.entry.Entry.{Entry}
use Rattle.hj_jobs.specs.declared.jobs.Jobs.{Jobs}
use Rattle.hj_jobs.specs.declared.live.Live.{Live}
use Rattle.hj_jobs.specs.declared.live.Stepped.{Stepped}
use Rattle.hj_jobs.specs.Calls as calls
use Rattle.hj_jobs.specs.Calls.{HasPrepared, IsStepOf, IsTurnIn, StepsOrNot}
use Rattle.hj_jobs.specs.Entries.{PreparesIf, PreparesOrNot, Gives, given_next, is_due_entry, IsTurned}
use Rattle.hj_jobs.specs.Live as live
use Rattle.hj_jobs.specs.Counted.{Swaps}
use Rattle.hj_jobs.specs.Live.{Alters, AltersEntry, entry_at, is_due_at, live_count, LosesWeight}
use Rattle.hj_jobs.specs.Ids.{job_at, stream_at}
use Rattle.hj_jobs.specs.Parts.{Agrees, Drops, DueIs}
use Rattle.hj_jobs.specs.Stands.{DueAgree, HasRun, HaveRun, IsEntryOf, Past, past, Remembers, Stands}
use Rattle.hj_jobs.proofs.Agree.{ids_kept, place_cases, SameNames, streams_kept, suc_apart}
use Rattle.hj_jobs.proofs.Basics.{some_injective, true_false}
use Rattle.hj_jobs.proofs.OneJob.{does_so, given_is, moved, next_is, ran, runs_off, runs_on, turned, turning}
use Rattle.hj_jobs.proofs.Pasts.{Touches, turned_ends, turned_here, turned_touches}
use Rattle.hj_jobs.proofs.Rounds.{IsNext}
use Rattle.hj_jobs.proofs.Table.{due_live, entry_of, remembered, settled, stands_changed, stands_dropped, stands_kept}
use Rattle.hj_jobs.proofs.Told.{altered_some, its_entry, same_names, swaps_of}

-- ---- the first half

-- one entry's: the turn that it has, and what is true of it before and after
record Tries {Job : Type 0} (hub : Hub Job) (who : List ℕ) (h : List JobHappening) (k now : ℕ) (z : Stepped) (e f : Entry Job) : Type 0 where
  pub turn : Turn
  pub due : live_job_in k h ≡ true → IsTurnIn h k now turn
  pub only_job : f ≡ record e { job = f.job }
  pub does : (r : Remembers false hub who e (past k h)) → z.act ≡ act_at hub (job_after hub (hub.begin_of (call_for who r.call) r.since) (turns_in k h)) turn
  pub runs : Remembers false hub who e (past k h) → HasRun hub who f.job (turned (past k h) turn z.act)

tries : {Job : Type 0} (hub : Hub Job) (who : List ℕ) (h : List JobHappening) (k now : ℕ) (z : Stepped) (e f : Entry Job) → Remembers false hub who e (past k h)
    → PreparesOrNot hub e f now (Some z.act) → Tries hub who h k now z e f
tries {Job} hub who h k now z e f r tried = marked_or e.is_cancelled refl tried
  where
    p : Past
    p = past k h

    given_or : e.is_cancelled ≡ false → (o : Option Input) → given_next e ≡ o → Gives hub e f now o (Some z.act) → Tries hub who h k now z e f
    given_or m None g x = absurd x
    given_or m (Some i) g x = record {
      turn = Given i now;
      due = λ l. (l, sym r.is_cancelled ∙ m, next_is k h (last_of (acts_in k h)) ∙ (sym (given_is false hub who e p r) ∙ g), refl);
      only_job = x.1;
      does = λ q. does_so hub who p e.job f.job i now z.act x.0 (ran hub who e p r) q.call q.since q.at q.began;
      runs = λ q. runs_on hub who p e.job f.job i now z.act x.0 (ran hub who e p r);
    }

    marked_or : (b : Bool) → e.is_cancelled ≡ b → PreparesIf b hub e f now (Some z.act) → Tries hub who h k now z e f
    marked_or true m x = record {
      turn = Cancelled;
      due = λ l. (l, sym r.is_cancelled ∙ m);
      only_job = subst (λ (y : Entry Job). y ≡ record e { job = y.job }) (sym x.1) refl;
      does = λ q. some_injective z.act (act.End Void) x.0;
      runs = λ q. subst (λ (y : Entry Job). HasRun hub who y.job (turned p Cancelled z.act)) (sym x.1) (runs_off hub who e.job p (ran hub who e p r) z.act);
    }
    marked_or false m x = given_or m (given_next e) refl x

-- what a job's turns and call are after a turn of its own, whether it goes on or ends
run_past : {Job : Type 0} (hub : Hub Job) (who : List ℕ) (job : Job) (p q : Past) → q.call ≡ p.call → q.since ≡ p.since → q.turns ≡ p.turns → HasRun hub who job p → HasRun hub who job q
run_past hub who job p q call since turns run c n at began = run c n (sym call ∙ at) (sym since ∙ began) ∙ ap (λ ts. job_after hub (hub.begin_of (call_for who c) n) ts) (sym turns)

live_of : (h : List JobHappening) (k now : ℕ) (t : Turn) → IsTurnIn h k now t → live_job_in k h ≡ true
live_of h k now Cancelled d = d.0
live_of h k now (Given i m) d = d.0

module _ {H Job : Type 0} (hub : Hub Job) (who : List ℕ) (old : Jobs H Job) (h : List JobHappening) (s : Stands {H = H} hub old who h) where
  module _ (new : Jobs H Job) (now : ℕ) (z : Stepped) (next : IsNext h z.job) (whole : old.prepared ≡ false) (alters : Alters old.live new.live z.job (live.HasPrepared hub now z)) where
    abbrev k : ℕ
    k = next.job

    entry : (e : Entry Job) × (entry_at old.live (suc k) ≡ Some e) × Remembers old.prepared hub who e (past k h)
    entry = its_entry {H = H} hub who old h s k (due_live k h next.due)

    r : Remembers false hub who entry.0 (past k h)
    r = subst (λ b. Remembers b hub who entry.0 (past k h)) whole entry.2

    alters_here : Alters old.live new.live (suc k) (live.HasPrepared hub now z)
    alters_here = subst (λ n. Alters old.live new.live n (live.HasPrepared hub now z)) next.is alters

    result : (f : Entry Job) × (entry_at new.live (suc k) ≡ Some f) × live.HasPrepared hub now z entry.0 f
    result = altered_some (entry_at old.live (suc k)) (entry_at new.live (suc k)) entry.0 (live.HasPrepared hub now z) entry.1 alters_here.here

    had : live.HasPrepared hub now z entry.0 result.0
    had = result.2

    t : Tries hub who h k now z entry.0 result.0
    t = tries hub who h k now z entry.0 result.0 r had.attempts

    abbrev after : List JobHappening
    after = Turned k t.turn z.act ∷ h

    entries : new.prepared ≡ true → (j : ℕ) → IsEntryOf new.prepared hub who (entry_at new.live (suc j)) (past j h)
    entries half = place_cases (λ j. IsEntryOf new.prepared hub who (entry_at new.live (suc j)) (past j h)) k
        (entry_of new.prepared hub who (Some result.0) (entry_at new.live (suc k)) (past k h) (past k h) result.1 refl
        (moved false hub who entry.0 result.0 (past k h) r t.only_job new.prepared (λ z. true_false (sym half ∙ z))))
        (λ j ne. entry_of new.prepared hub who (entry_at old.live (suc j)) (entry_at new.live (suc j)) (past j h) (past j h) (alters_here.others (suc j) (suc_apart j k ne)) refl
        (settled old.prepared hub who new.prepared (entry_at old.live (suc j)) (past j h) (s.entries j) (λ z. true_false (sym half ∙ z))))

    ahead : HaveRun hub who new.live after
    ahead = place_cases (λ j. (e : Entry Job) → entry_at new.live (suc j) ≡ Some e → HasRun hub who e.job (past j after)) k here other
      where
        here : (e : Entry Job) → entry_at new.live (suc k) ≡ Some e → HasRun hub who e.job (past k after)
        here e at = subst (λ (x : Entry Job). HasRun hub who x.job (past k after)) (some_injective result.0 e (sym result.1 ∙ at))
            (run_past hub who result.0.job (turned (past k h) t.turn z.act) (past k after) refl refl
            (ap (λ b. if b then turns_in k h ++ t.turn ∷ [] else turns_in k h) (eq-eqb k k refl)) (t.runs r))

        other : (j : ℕ) → (j == k) ≡ false → (e : Entry Job) → entry_at new.live (suc j) ≡ Some e → HasRun hub who e.job (past j after)
        other j ne e at =
            let was : entry_at old.live (suc j) ≡ Some e = sym (alters_here.others (suc j) (suc_apart j k ne)) ∙ at in
            let kept : Remembers false hub who e (past j h) = subst (λ b. Remembers b hub who e (past j h)) whole (remembered old.prepared hub who (entry_at old.live (suc j)) (past j h) e was (s.entries j)) in
            subst (λ p. HasRun hub who e.job p) (sym ((turned_touches h k t.turn z.act).elsewhere j ne)) (ran hub who e (past j h) kept)

    pub was_prepared : new.live.weight ≡ old.live.weight → new.names ≡ old.names → new.due ≡ old.due → new.accepted ≡ old.accepted → new.passed ≡ old.passed → new.prepared ≡ true → HasPrepared {H = H} hub new who h now z
    was_prepared weight names due accepted passed half =
        let capacity : vec_capacity old.due.numbers ≡ vec_capacity new.due.numbers = ap (λ (d : SortedSet). vec_capacity d.numbers) (sym due) in
        record {
          job = k;
          turn = t.turn;
          step = record {
            call = r.call;
            since = r.since;
            is = next.is;
            next = next.next;
            at = r.at;
            began = r.began;
            id = had.id ∙ r.id;
            kind = had.kind ∙ r.kind;
            due = t.due r.live;
            does = t.does r;
          };
          stands = stands_kept {H = H} hub who old h s new (entries half) (alters_here.others 0 (ne_eqb (suc k) 0 (λ z. omega (arith, z))) ∙ s.none) alters_here.count weight
              (record { ids = λ i. ap (λ ns. job_at ns i) names; streams = λ i. ap (λ ns. stream_at ns i) names })
              (subst (λ d. DueAgree d h) (sym due) s.due) (omega (arith, capacity)) accepted passed;
          prepared = half;
          ahead = ahead;
        }

  -- the number that the table chose
  pub attempted_at : (jobs : Live Job) (now n : ℕ) (z : Stepped) → IsNext h n → old.prepared ≡ false → live.PreparesAt hub old.live jobs n now (Some z)
      → HasPrepared {H = H} hub (record { live = jobs; names = old.names; due = old.due; accepted = old.accepted; passed = old.passed; prepared = true }) who h now z
  attempted_at jobs now n z next whole tried =
      was_prepared (record { live = jobs; names = old.names; due = old.due; accepted = old.accepted; passed = old.passed; prepared = true }) now z
      (subst (IsNext h) (sym tried.0) next) whole (subst (λ m. Alters old.live jobs m (live.HasPrepared hub now z)) (sym tried.0) tried.2)
      tried.3 refl refl refl refl refl

-- ---- the second half

module _ {H Job : Type 0} (hub : Hub Job) (who : List ℕ) (old : Jobs H Job) (h : List JobHappening) (now : ℕ) (z : Stepped) (a : HasPrepared {H = H} hub old who h now z) (new : Jobs H Job) where
  abbrev s : Stands {H = H} hub old who h
  s = a.stands

  abbrev n : ℕ
  n = a.job

  abbrev later : List JobHappening
  later = Turned a.job a.turn z.act ∷ h

  abbrev touches : Touches h later a.job
  touches = turned_touches h a.job a.turn z.act

  its : (e : Entry Job) × (entry_at old.live (suc n) ≡ Some e) × Remembers old.prepared hub who e (past n h)
  its = its_entry {H = H} hub who old h a.stands n (live_of h n now a.turn a.step.due)

  settle : (j : ℕ) → (j == a.job) ≡ false → IsEntryOf new.prepared hub who (entry_at old.live (suc j)) (past j h)
  settle j ne = settled old.prepared hub who new.prepared (entry_at old.live (suc j)) (past j h) (a.stands.entries j)
      (λ y e at. subst (λ p. HasRun hub who e.job p) (touches.elsewhere j ne) (a.ahead j e at))

  module _ (goes : finishes z.act ≡ false) (mid : Live Job) (turns : Alters old.live mid z.job (IsTurned z.act))
      (g : Agrees {H = H} (record { live = mid; names = old.names; due = old.due; accepted = old.accepted; passed = z.job; prepared = false }) new z.job) where
    turns_here : Alters old.live mid (suc n) (IsTurned z.act)
    turns_here = subst (λ m. Alters old.live mid m (IsTurned z.act)) a.step.is turns

    made : (f : Entry Job) × (entry_at mid (suc n) ≡ Some f) × IsTurned z.act its.0 f
    made = altered_some (entry_at old.live (suc n)) (entry_at mid (suc n)) its.0 (IsTurned z.act) its.1 turns_here.here

    keeps : (t : Turn) → IsTurnIn h n now t → z.act ≡ act_at hub (job_after hub (hub.begin_of (call_for who a.step.call) a.step.since) (turns_in n h)) t
        → HasRun hub who its.0.job (past n (Turned n t z.act ∷ h)) → Remembers new.prepared hub who made.0 (past n (Turned n t z.act ∷ h))
    keeps Cancelled due does run = true_false (sym (ap finishes does) ∙ goes)
    keeps (Given i m) due does run =
        let there = turned_here h n (Given i m) z.act goes in
        let given : given_next its.0 ≡ Some i = given_is old.prepared hub who its.0 (past n h) its.2 ∙ (sym (next_is n h (last_of (acts_in n h))) ∙ due.2) in
        let turn : IsTurned z.act its.0 made.0 = made.2 in
        let runs : HasRun hub who made.0.job (turned (past n h) (Given i m) z.act) = subst (λ (j : Job). HasRun hub who j (turned (past n h) (Given i m) z.act)) (sym turn.job) (subst (λ p. HasRun hub who its.0.job p) there run) in
        subst (λ p. Remembers new.prepared hub who made.0 p) (sym there) (turning old.prepared hub who its.0 made.0 (past n h) its.2 m i z.act given turn runs new.prepared)

    same : SameNames (past n h) (past n later)
    same = subst (SameNames (past n h)) (sym (turned_here h n a.turn z.act goes)) (same_names (past n h) (turned (past n h) a.turn z.act) refl refl refl)

    pub finish_goes_on : Stands {H = H} hub new who later
    finish_goes_on =
        let due : DueIs old.due new.due (suc n) (is_due_entry made.0) =
        subst (λ b. DueIs old.due new.due (suc n) b) (ap is_due_at made.1) (subst (λ m. DueIs old.due new.due m (is_due_at (entry_at mid m))) a.step.is g.due) in
        stands_changed {H = H} hub who old h a.stands new later n its.0 touches its.1
        (λ m ne. ap (λ l. entry_at l m) g.live ∙ turns_here.others m ne) g.accepted (g.passed ∙ a.step.is) settle
        made.0 (ap (λ l. entry_at l (suc n)) g.live ∙ made.1) (ap live_count g.live ∙ turns_here.count)
        (subst (λ (l : Live Job). Swaps old.live.weight l.weight its.0.weight made.0.weight) (sym g.live) (swaps_of old.live.weight mid.weight (entry_at old.live (suc n)) (entry_at mid (suc n)) its.0 made.0 its.1 made.1 turns_here.weight)) (keeps a.turn a.step.due a.step.does (a.ahead n its.0 its.1)) due
        (ids_kept h later n touches (record { call = same.call; live = same.live }) old.names new.names (λ i. ap (λ ns. job_at ns i) g.names) a.stands.ids)
        (streams_kept h later n touches same old.names new.names (λ i. ap (λ ns. stream_at ns i) g.names) a.stands.streams)

  pub finish_ends : finishes z.act ≡ true → Drops {H = H} (record { live = old.live; names = old.names; due = old.due; accepted = old.accepted; passed = z.job; prepared = false }) new z.job → Stands {H = H} hub new who later
  finish_ends ends drops =
      let d : Drops {H = H} (record { live = old.live; names = old.names; due = old.due; accepted = old.accepted; passed = z.job; prepared = false }) new (suc n) =
      subst (λ m. Drops {H = H} (record { live = old.live; names = old.names; due = old.due; accepted = old.accepted; passed = z.job; prepared = false }) new m) a.step.is drops in
      stands_dropped {H = H} hub who old h a.stands new later n its.0 touches its.1
      d.live.others d.accepted (d.passed ∙ a.step.is) settle
      d.live.here (d.live.count its.0 its.1) (subst (λ o. LosesWeight old.live.weight new.live.weight o) its.1 d.live.weight) (turned_ends h n a.turn z.act ends) d.due
      its.0.id its.0.streams refl refl (d.names its.0 its.1)

-- ---- both

pub both_halves : {H Job : Type 0} (hub : Hub Job) (who : List ℕ) (mid new : Jobs H Job) (h : List JobHappening) (now : ℕ) (room : Bool) (z : Stepped) → calls.PreparesOrNot {H = H} hub mid who h now room (Some z)
    → ((a : HasPrepared {H = H} hub mid who h now z) → Stands {H = H} hub new who (Turned a.job a.turn z.act ∷ h)) → StepsOrNot {H = H} hub new who h now room (Some z)
both_halves hub who mid new h now room z tried finish = (tried.0, record { job = tried.1.job; turn = tried.1.turn; step = tried.1.step; stands = finish tried.1 })
