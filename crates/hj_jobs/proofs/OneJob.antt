-- One live job: what is kept of it against what the happenings say of it, before and after each.
use Rattle.std.proofs.Common.{◌≡◌, ℕ, zero, suc, ◌+◌, ◌-◌, ◌<◌, ◌≤◌, Bool, true, false, List, [], ◌∷◌, ◌++◌, length, drop, map, Option, Some, None, refl, sym, ap, ◌∙◌, subst, arith, length-append, length-drop}
use Rattle.std.specs.Prelude.{slice_get, option_map, is_some, ◌&&◌, ◌||◌, if◌then◌else◌}
use Rattle.std.proofs.lemmas.List.{drop-append-le, map-append, length-map}
use Rattle.hd_calls.specs.declared.vocabulary.Input.{Input}
use Rattle.hd_calls.specs.declared.vocabulary.Input.TheVariants as input
use Rattle.hd_calls.specs.declared.vocabulary.Act.{Act}
use Rattle.hd_calls.specs.declared.vocabulary.Act.TheVariants as act
use Rattle.hd_calls.specs.Numbers.{most_inputs}
use Rattle.hd_calls.specs.Hubs.{Invoked, Answer, Item, End, Turn, Given, Cancelled, Hub, call_for, upload_input}
use Rattle.hd_calls.specs.Peers.{last_of}
use Rattle.hd_calls.specs.Rules.{act_at, job_after, used}
use Rattle.hd_calls.specs.Tables.{JobHappening, next_input_in, is_due_in, live_job_in, marked_in, acts_in}
use Rattle.hj_jobs.specs.declared.entry.Awaits.{Awaits}
use Rattle.hj_jobs.specs.declared.entry.Awaits.TheVariants as awaits
use Rattle.hj_jobs.specs.declared.entry.Entry.{Entry}
use Rattle.hj_jobs.specs.Entries.{AnswersOrNot, awaited, first_input, given_at, given_next, inputs_after, is_answer_to, is_due_entry, IsTurned, taken_count}
use Rattle.hd_calls.specs.Weights.{input_weight}
use Rattle.hj_jobs.specs.Counted.{counted, inputs_count, job_count}
use Rattle.hj_jobs.specs.Live.{IsAnswered, IsFed}
use Rattle.hj_jobs.specs.Stands.{count_of, HasRun, Past, past, Remembers}
use Rattle.hj_jobs.proofs.Weighing.{alone_fits, fed_fits, input_fits, job_answered, job_fed, job_turned, job_within, most_of_one}
use Rattle.hj_jobs.proofs.Basics.{append_none, drop_more, get_within, last_more, none_some, some_injective, true_false}

-- ---- what is next

-- what the job is given next, by what the happenings say of it
abbrev pub next_of : Past → Option Act → Option Input
next_of p (Some act.Wait) = option_map upload_input (slice_get p.inputs (used p.turns))
next_of p (Some (act.Ask target arguments)) = p.reply
next_of p (Some (act.Do deed)) = p.reply
next_of p _ = Some input.Go

abbrev pub due_of : Past → Bool
due_of p = p.live && (p.is_cancelled || is_some (next_of p (last_of p.acts)))

pub next_is : (j : ℕ) (h : List JobHappening) (a : Option Act) → next_input_in j h a ≡ next_of (past j h) a
next_is j h None = refl
next_is j h (Some act.More) = refl
next_is j h (Some act.Wait) = refl
next_is j h (Some (act.Item v)) = refl
next_is j h (Some (act.End e)) = refl
next_is j h (Some (act.Ask target arguments)) = refl
next_is j h (Some (act.Do deed)) = refl

pub due_is : (j : ℕ) (h : List JobHappening) → is_due_in j h ≡ due_of (past j h)
due_is j h = ap (λ (o : Option Input). live_job_in j h && (marked_in j h || is_some o)) (next_is j h (last_of (acts_in j h)))

first_drop : (u : ℕ) (xs : List (ℕ × Answer)) → first_input (drop u (map upload_input xs)) ≡ option_map upload_input (slice_get xs u)
first_drop zero [] = refl
first_drop zero (x ∷ xs) = refl
first_drop (suc u) [] = refl
first_drop (suc u) (x ∷ xs) = first_drop u xs

given_awaited : (p : Past) (a : Option Act) → given_at (awaited a) (drop (used p.turns) (map upload_input p.inputs)) p.reply ≡ next_of p a
given_awaited p None = refl
given_awaited p (Some act.More) = refl
given_awaited p (Some act.Wait) = first_drop (used p.turns) p.inputs
given_awaited p (Some (act.Item v)) = refl
given_awaited p (Some (act.End e)) = refl
given_awaited p (Some (act.Ask target arguments)) = refl
given_awaited p (Some (act.Do deed)) = refl

module _ {Job : Type 0} (half : Bool) (hub : Hub Job) (who : List ℕ) where
  pub given_is : (e : Entry Job) (p : Past) → Remembers half hub who e p → given_next e ≡ next_of p (last_of p.acts)
  given_is e p r =
      ap (λ (a : Awaits). given_at a e.inputs.items e.reply) r.awaits
      ∙ (ap (λ (is : List Input). given_at (awaited (last_of p.acts)) is e.reply) r.inputs
      ∙ (ap (λ (o : Option Input). given_at (awaited (last_of p.acts)) (drop (used p.turns) (map upload_input p.inputs)) o) r.reply
      ∙ given_awaited p (last_of p.acts)))

  pub due_entry : (e : Entry Job) (p : Past) → Remembers half hub who e p → is_due_entry e ≡ due_of p
  due_entry e p r =
      ap (λ (b : Bool). b || is_some (given_next e)) r.is_cancelled
      ∙ (ap (λ (o : Option Input). p.is_cancelled || is_some o) (given_is e p r)
      ∙ sym (ap (λ (b : Bool). b && (p.is_cancelled || is_some (next_of p (last_of p.acts)))) r.live))

-- ---- turns

pub used_more : (ts us : List Turn) → used (ts ++ us) ≡ used ts + used us
used_more [] us = let e : 0 + used us ≡ used us = omega arith in sym e
used_more (Given (input.Item w v) now ∷ ts) us = let e = used_more ts us in omega arith
used_more (Given (input.StreamEnd w x) now ∷ ts) us = let e = used_more ts us in omega arith
used_more (Given input.Go now ∷ ts) us = used_more ts us
used_more (Given (input.Asked x) now ∷ ts) us = used_more ts us
used_more (Given (input.Done x) now ∷ ts) us = used_more ts us
used_more (Given input.Failed now ∷ ts) us = used_more ts us
used_more (Cancelled ∷ ts) us = used_more ts us

pub after_more : {Job : Type 0} (hub : Hub Job) (job : Job) (ts us : List Turn) → job_after hub job (ts ++ us) ≡ job_after hub (job_after hub job ts) us
after_more hub job [] us = refl
after_more hub job (Given i now ∷ ts) us = after_more hub (hub.step_of job i now).0 ts us
after_more hub job (Cancelled ∷ ts) us = after_more hub job ts us

-- a turn with an input of an upload uses one
used_upload : (x : ℕ × Answer) (now : ℕ) → used (Given (upload_input x) now ∷ []) ≡ 1
used_upload (w, Item v) now = refl
used_upload (w, End e) now = refl

-- one with an answer uses none
used_answer : (a : Awaits) (i : Input) (now : ℕ) → is_answer_to a i ≡ true → used (Given i now ∷ []) ≡ 0
used_answer a input.Go now e = refl
used_answer a (input.Asked x) now e = refl
used_answer a (input.Done v) now e = refl
used_answer a input.Failed now e = refl
used_answer awaits.Turn (input.Item w v) now e = true_false (sym e)
used_answer awaits.Upload (input.Item w v) now e = true_false (sym e)
used_answer awaits.CallEnd (input.Item w v) now e = true_false (sym e)
used_answer awaits.Deed (input.Item w v) now e = true_false (sym e)
used_answer awaits.Turn (input.StreamEnd w x) now e = true_false (sym e)
used_answer awaits.Upload (input.StreamEnd w x) now e = true_false (sym e)
used_answer awaits.CallEnd (input.StreamEnd w x) now e = true_false (sym e)
used_answer awaits.Deed (input.StreamEnd w x) now e = true_false (sym e)

-- what is left of the inputs once one is given
record Leaves (a : Awaits) (items : List Input) (xs : List (ℕ × Answer)) (u n : ℕ) : Type 0 where
  pub left : inputs_after a items ≡ drop (u + n) (map upload_input xs)
  pub within : u + n ≤ length xs

none_used : (a : Awaits) (items : List Input) (xs : List (ℕ × Answer)) (u n : ℕ) → n ≡ 0 → inputs_after a items ≡ items → items ≡ drop u (map upload_input xs) → u ≤ length xs → Leaves a items xs u n
none_used a items xs u n z same at l = record {
  left = same ∙ (at ∙ ap (λ (k : ℕ). drop k (map upload_input xs)) (let e : u ≡ u + n = omega arith in e));
  within = omega arith;
}

leaves : (a : Awaits) (items : List Input) (reply : Option Input) (xs : List (ℕ × Answer)) (u : ℕ) (i : Input) (now : ℕ)
    → given_at a items reply ≡ Some i → AnswersOrNot a reply → items ≡ drop u (map upload_input xs) → u ≤ length xs
    → Leaves a items xs u (used (Given i now ∷ []))
leaves awaits.Turn items reply xs u i now given answers at l =
    none_used awaits.Turn items xs u (used (Given i now ∷ [])) (ap (λ (k : Input). used (Given k now ∷ [])) (sym (some_injective input.Go i given))) refl at l
leaves awaits.Upload items reply xs u i now given answers at l = go (slice_get xs u) refl
  where
    found : first_input items ≡ option_map upload_input (slice_get xs u)
    found = ap first_input at ∙ first_drop u xs

    go : (o : Option (ℕ × Answer)) → slice_get xs u ≡ o → Leaves awaits.Upload items xs u (used (Given i now ∷ []))
    go None e = absurd (none_some i (sym (found ∙ ap (option_map upload_input) e) ∙ given))
    go (Some x) e =
        let is : upload_input x ≡ i = some_injective (upload_input x) i (sym (found ∙ ap (option_map upload_input) e) ∙ given) in
        let one : used (Given i now ∷ []) ≡ 1 = ap (λ (k : Input). used (Given k now ∷ [])) (sym is) ∙ used_upload x now in
        let l = get_within xs u x e in
        record {
          left = ap (drop 1) at ∙ (drop_more u (map upload_input xs) ∙ ap (λ (k : ℕ). drop (u + k) (map upload_input xs)) (sym one));
          within = omega arith;
        }
leaves awaits.CallEnd items None xs u i now given answers at l = absurd (none_some i given)
leaves awaits.CallEnd items (Some k) xs u i now given answers at l =
    none_used awaits.CallEnd items xs u (used (Given i now ∷ [])) (ap (λ (m : Input). used (Given m now ∷ [])) (sym (some_injective k i given)) ∙ used_answer awaits.CallEnd k now answers) refl at l
leaves awaits.Deed items None xs u i now given answers at l = absurd (none_some i given)
leaves awaits.Deed items (Some k) xs u i now given answers at l =
    none_used awaits.Deed items xs u (used (Given i now ∷ [])) (ap (λ (m : Input). used (Given m now ∷ [])) (sym (some_injective k i given)) ∙ used_answer awaits.Deed k now answers) refl at l

-- ---- weights

module _ {Job : Type 0} (half : Bool) (hub : Hub Job) (who : List ℕ) (e : Entry Job) (p : Past) (r : Remembers half hub who e p) where
  -- what is kept of it counts as its past says
  pub count_is : count_of p ≡ e.weight
  count_is = ap (λ (b : Bool). if b then job_count p.call (drop (used p.turns) (map upload_input p.inputs)) p.reply else 0) r.live ∙ sym r.weight

  -- and no more than one job may
  pub counts_within : e.weight ≤ most_of_one
  counts_within =
      let left : length (drop (used p.turns) (map upload_input p.inputs)) ≡ length p.inputs - used p.turns =
      length-drop (used p.turns) (map upload_input p.inputs) ∙ ap (λ n. n - used p.turns) (length-map p.inputs upload_input) in
      let few = r.few_inputs in
      subst (λ n. n ≤ most_of_one) (sym r.weight) (job_within p.call (drop (used p.turns) (map upload_input p.inputs)) p.reply most_inputs (omega (arith, left, few)))

-- ---- what happens to a job

-- an input came
abbrev pub fed : Past → ℕ → Answer → Past
fed p w a = record p { inputs = p.inputs ++ (w, a) ∷ [] }

-- it was marked
abbrev pub cancelled : Past → Past
cancelled p = record p { is_cancelled = true }

-- its last act was answered
abbrev pub answered : Past → Input → Past
answered p i = record p { reply = Some i }

-- it had a turn, and goes on
abbrev pub turned : Past → Turn → Act → Past
turned p t what = record p { turns = p.turns ++ t ∷ []; acts = p.acts ++ what ∷ []; reply = None }

module _ {Job : Type 0} (half : Bool) (hub : Hub Job) (who : List ℕ) (e f : Entry Job) (p : Past) (r : Remembers half hub who e p) where
  -- the same is kept
  pub retained : IsFed [] e f → Remembers half hub who f p
  retained s = record {
    call = r.call;
    since = r.since;
    live = r.live;
    at = r.at;
    began = r.began;
    given = r.given;
    few_inputs = r.few_inputs;
    id = s.id ∙ r.id;
    kind = s.kind ∙ r.kind;
    streams = s.streams ∙ r.streams;
    job = λ z. s.job ∙ r.job z;
    awaits = s.awaits ∙ r.awaits;
    inputs = s.inputs ∙ (append_none e.inputs.items ∙ r.inputs);
    reply = s.reply ∙ r.reply;
    answered = rw (s.awaits, s.reply) r.answered;
    is_cancelled = s.is_cancelled ∙ r.is_cancelled;
    weight = let more = s.weight (alone_fits e.weight (counts_within half hub who e p r)) in let none : e.weight + 0 ≡ e.weight = omega arith in more ∙ (none ∙ r.weight);
  }

  pub feeding : (w : ℕ) (a : Answer) → IsFed (upload_input (w, a) ∷ []) e f → length p.inputs - used p.turns < most_inputs → Remembers half hub who f (fed p w a)
  feeding w a s few =
      let longer : length (p.inputs ++ (w, a) ∷ []) ≡ length p.inputs + 1 = length-append p.inputs ((w, a) ∷ []) in
      let given = r.given in
      let within : used p.turns ≤ length (map upload_input p.inputs) = omega (arith, length-map p.inputs upload_input) in
      let i = upload_input (w, a) in
      let were = drop (used p.turns) (map upload_input p.inputs) in
      let are = drop (used p.turns) (map upload_input (p.inputs ++ (w, a) ∷ [])) in
      let more : were ++ i ∷ [] ≡ are = sym (drop-append-le (used p.turns) (map upload_input p.inputs) (i ∷ []) within) ∙ ap (drop (used p.turns)) (sym (map-append upload_input p.inputs ((w, a) ∷ []))) in
      record {
        call = r.call;
        since = r.since;
        live = r.live;
        at = r.at;
        began = r.began;
        id = s.id ∙ r.id;
        kind = s.kind ∙ r.kind;
        streams = s.streams ∙ r.streams;
        job = λ z. s.job ∙ r.job z;
        awaits = s.awaits ∙ r.awaits;
        inputs =
            s.inputs ∙ (ap (λ (is : List Input). is ++ upload_input (w, a) ∷ []) r.inputs
            ∙ (sym (drop-append-le (used p.turns) (map upload_input p.inputs) (upload_input (w, a) ∷ []) within)
            ∙ ap (drop (used p.turns)) (sym (map-append upload_input p.inputs ((w, a) ∷ [])))));
        given = omega arith;
        few_inputs = omega arith;
        reply = s.reply ∙ r.reply;
        answered = rw (s.awaits, s.reply) r.answered;
        is_cancelled = s.is_cancelled ∙ r.is_cancelled;
        weight =
            s.weight (fed_fits e.weight i (counts_within half hub who e p r))
            ∙ (ap (λ n. n + inputs_count (i ∷ [])) (r.weight ∙ ap (λ (o : Option Invoked). job_count o were p.reply) r.at)
            ∙ (sym (job_fed r.call were i p.reply)
            ∙ (ap (λ (is : List Input). job_count (Some r.call) is p.reply) more ∙ ap (λ (o : Option Invoked). job_count o are p.reply) (sym r.at))));
      }

  pub marking : f ≡ record e { is_cancelled = true } → Remembers half hub who f (cancelled p)
  marking s = subst (λ (g : Entry Job). Remembers half hub who g (cancelled p)) (sym s) (record {
    call = r.call;
    since = r.since;
    live = r.live;
    at = r.at;
    began = r.began;
    id = r.id;
    kind = r.kind;
    streams = r.streams;
    job = r.job;
    awaits = r.awaits;
    inputs = r.inputs;
    given = r.given;
    few_inputs = r.few_inputs;
    reply = r.reply;
    answered = r.answered;
    is_cancelled = refl;
    weight = r.weight;
  })

  pub answering : (i : Input) → is_answer_to e.awaits i ≡ true → e.reply ≡ None → IsAnswered i e f → Remembers half hub who f (answered p i)
  answering i fits none s = subst (λ (g : Entry Job). Remembers half hub who g (answered p i)) (sym s.0) (record {
    call = r.call;
    since = r.since;
    live = r.live;
    at = r.at;
    began = r.began;
    id = r.id;
    kind = r.kind;
    streams = r.streams;
    job = r.job;
    awaits = r.awaits;
    inputs = r.inputs;
    given = r.given;
    few_inputs = r.few_inputs;
    reply = refl;
    answered = fits;
    is_cancelled = r.is_cancelled;
    weight =
        s.1 (input_fits e.weight (input_weight i) (counts_within half hub who e p r))
        ∙ (ap (λ n. n + counted (input_weight i)) (r.weight
        ∙ (ap (λ (o : Option Invoked). job_count o (drop (used p.turns) (map upload_input p.inputs)) p.reply) r.at
        ∙ ap (λ (o : Option Input). job_count (Some r.call) (drop (used p.turns) (map upload_input p.inputs)) o) (sym r.reply ∙ none)))
        ∙ (sym (job_answered r.call (drop (used p.turns) (map upload_input p.inputs)) i)
        ∙ ap (λ (o : Option Invoked). job_count o (drop (used p.turns) (map upload_input p.inputs)) (Some i)) (sym r.at)));
  })

  -- it had its turn, at which it was given an input and did this
  pub turning : (now : ℕ) (i : Input) (what : Act) → given_next e ≡ Some i → IsTurned what e f → HasRun hub who f.job (turned p (Given i now) what) → (later : Bool) → Remembers later hub who f (turned p (Given i now) what)
  turning now i what given t run later =
      let left = leaves e.awaits e.inputs.items e.reply p.inputs (used p.turns) i now given r.answered r.inputs r.given in
      let more = used_more p.turns (Given i now ∷ []) in
      let few = r.few_inputs in
      let within = left.within in
      let items = e.inputs.items in
      let kept = inputs_after e.awaits items in
      let are = drop (used (p.turns ++ Given i now ∷ [])) (map upload_input p.inputs) in
      let whole : e.weight ≡ taken_count e + job_count (Some r.call) kept None =
      r.weight
      ∙ (ap (λ (o : Option Invoked). job_count o (drop (used p.turns) (map upload_input p.inputs)) p.reply) r.at
      ∙ (ap (λ (is : List Input). job_count (Some r.call) is p.reply) (sym r.inputs)
      ∙ (ap (λ (o : Option Input). job_count (Some r.call) items o) (sym r.reply)
      ∙ job_turned r.call e.awaits items e.reply))) in
      let taken = t.weight (omega (arith, whole)) in
      let rest : f.weight ≡ job_count (Some r.call) kept None = omega (arith, whole, taken) in
      record {
        call = r.call;
        since = r.since;
        live = r.live;
        at = r.at;
        began = r.began;
        id = t.id ∙ r.id;
        kind = t.kind ∙ r.kind;
        streams = t.streams ∙ r.streams;
        job = λ z. run r.call r.since r.at r.began;
        awaits = t.awaits ∙ ap awaited (sym (last_more p.acts what));
        inputs = t.inputs ∙ (left.left ∙ ap (λ (k : ℕ). drop k (map upload_input p.inputs)) (sym more));
        given = omega arith;
        few_inputs = omega arith;
        reply = t.reply;
        answered = rw t.reply tt;
        is_cancelled = t.is_cancelled ∙ r.is_cancelled;
        weight =
            rest
            ∙ (ap (λ (is : List Input). job_count (Some r.call) is None) (left.left ∙ ap (λ (k : ℕ). drop k (map upload_input p.inputs)) (sym more))
            ∙ ap (λ (o : Option Invoked). job_count o are None) (sym r.at));
      }

  -- what is kept of a job whose state alone changed
  pub moved : f ≡ record e { job = f.job } → (later : Bool) → (later ≡ false → HasRun hub who f.job p) → Remembers later hub who f p
  moved s later run = record {
    call = r.call;
    since = r.since;
    live = r.live;
    at = r.at;
    began = r.began;
    id = ap (λ (x : Entry Job). x.id) s ∙ r.id;
    kind = ap (λ (x : Entry Job). x.kind) s ∙ r.kind;
    streams = ap (λ (x : Entry Job). x.streams) s ∙ r.streams;
    job = λ z. run z r.call r.since r.at r.began;
    awaits = ap (λ (x : Entry Job). x.awaits) s ∙ r.awaits;
    inputs = ap (λ (x : Entry Job). x.inputs.items) s ∙ r.inputs;
    given = r.given;
    few_inputs = r.few_inputs;
    reply = ap (λ (x : Entry Job). x.reply) s ∙ r.reply;
    answered = subst (λ (x : Entry Job). AnswersOrNot x.awaits x.reply) (sym s) r.answered;
    is_cancelled = ap (λ (x : Entry Job). x.is_cancelled) s ∙ r.is_cancelled;
    weight = ap (λ (x : Entry Job). x.weight) s ∙ r.weight;
  }

-- what a job's state is after a turn, and what it did at it, is what its hub means
module _ {Job : Type 0} (hub : Hub Job) (who : List ℕ) (p : Past) (job new : Job) (i : Input) (now : ℕ) (what : Act) (does : (new, what) ≡ hub.step_of job i now) (run : HasRun hub who job p) where
  pub runs_on : HasRun hub who new (turned p (Given i now) what)
  runs_on call since at began =
      ap (λ (x : Job × Act). x.0) does
      ∙ (ap (λ (j : Job). (hub.step_of j i now).0) (run call since at began)
      ∙ sym (after_more hub (hub.begin_of (call_for who call) since) p.turns (Given i now ∷ [])))

  pub does_so : (call : Invoked) (since : ℕ) → p.call ≡ Some call → p.since ≡ Some since → what ≡ act_at hub (job_after hub (hub.begin_of (call_for who call) since) p.turns) (Given i now)
  does_so call since at began = ap (λ (x : Job × Act). x.1) does ∙ ap (λ (j : Job). (hub.step_of j i now).1) (run call since at began)

pub ran : {Job : Type 0} (hub : Hub Job) (who : List ℕ) (e : Entry Job) (p : Past) → Remembers false hub who e p → HasRun hub who e.job p
ran hub who e p r call since at began =
    r.job refl ∙ (ap (λ c. job_after hub (hub.begin_of (call_for who c) r.since) p.turns) (some_injective r.call call (sym r.at ∙ at))
    ∙ ap (λ n. job_after hub (hub.begin_of (call_for who call) n) p.turns) (some_injective r.since since (sym r.began ∙ began)))

-- a job that was cancelled has its last turn without the hub
pub runs_off : {Job : Type 0} (hub : Hub Job) (who : List ℕ) (job : Job) (p : Past) → HasRun hub who job p → (what : Act) → HasRun hub who job (turned p Cancelled what)
runs_off hub who job p run what call since at began = run call since at began ∙ sym (after_more hub (hub.begin_of (call_for who call) since) p.turns (Cancelled ∷ []))
