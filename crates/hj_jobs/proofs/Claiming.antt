-- Maps from texts, one entry changed; and the streams of a call, opened one by one and closed again.
use Rattle.std.proofs.Common.{◌≡◌, ℕ, suc, ◌+◌, ◌<◌, Bool, true, false, cond, ◌&&◌, ◌||◌, ◌⊎◌, inl, inr, List, [], ◌∷◌, ◌++◌, length, get_or, take, drop, Option, Some, None, is_some, Result, Ok, Err, OnErr, is_err, nat_cmp, refl, sym, ap, subst, ◌∙◌, arith, eq-eqb, if◌then◌else◌, take-append-drop}
use Rattle.std.proofs.lemmas.Bool.{and_from, or_cases, or_left, or_right, or_from, or_parts, false_from_ne_true}
use Rattle.std.proofs.lemmas.Map.Text.{is_eq-slice_cmp}
use Rattle.std.proofs.lemmas.Slice.Eq.{bytes_eq-Decides}
use Rattle.std.proofs.lemmas.List.{take_more}
use Rattle.std.proofs.Math.Seq.{drop-cons}
use Rattle.std.specs.BTreeMap.{BTreeMap, get, UpdatesBy}
use Rattle.std.specs.Cmp.Lexicographic.{slice_cmp, nat_list_eq_equiv}
use Rattle.hm_message.specs.Same.{same_text}
use Rattle.hd_calls.specs.Rules.{is_among, repeats, same_id}
use Rattle.hj_jobs.specs.declared.errors.AcceptError.{AcceptError}
use Rattle.hj_jobs.specs.declared.errors.AcceptError.TheVariants as error
use Rattle.hj_jobs.specs.declared.ids.Ids.{Ids}
use Rattle.hj_jobs.specs.declared.ids.Stream.{Stream}
use Rattle.hj_jobs.specs.Ids.{job_at, stream_at, AreSame, claimed, or_else, AreOpenable, Opens, OpensOne, IsUnopened, Clash, OfJob, OfStream, Twice, is_twice, IsUnclaimed, is_of, ClosesThose}

-- ---- texts

pub text_is : (i k : List ℕ) → same_text i k ≡ true → i ≡ k
text_is i k e = (bytes_eq-Decides i k).0 e

pub text_same : (i : List ℕ) → same_text i i ≡ true
text_same i = nat_list_eq_equiv.refl i

text_turned : (i k : List ℕ) → same_text i k ≡ same_text k i
text_turned i k = nat_list_eq_equiv.symm i k

-- ---- a map from texts, of which the entry of one text changed

pub changed : {X : Type 0} (m n : BTreeMap (List ℕ) X) (k : List ℕ) (w : Option X) → UpdatesBy (slice_cmp nat_cmp) (slice_cmp nat_cmp k) m n w → (i : List ℕ) → get (slice_cmp nat_cmp) n i ≡ (if same_text i k then w else get (slice_cmp nat_cmp) m i)
changed {X} m n k w u i = u.0 i ∙ ap (λ b. cond b w (get (slice_cmp nat_cmp) m i)) (is_eq-slice_cmp k i ∙ text_turned k i)

pub there_is : {X : Type 0} (o : Option X) → is_some o ≡ true → (x : X) × (o ≡ Some x)
there_is None e = absurd (let z : false ≡ true = e in cc)
there_is (Some x) e = (x, refl)

-- ---- streams of a call

or_false : (b : Bool) → (b || false) ≡ b
or_false true = refl
or_false false = refl

among_more : (i x : List ℕ) (xs : List (List ℕ)) → is_among i (xs ++ x ∷ []) ≡ (is_among i xs || same_text i x)
among_more i x [] = or_false (same_text i x)
among_more i x (k ∷ ks) = ap (λ b. same_text i k || b) (among_more i x ks) ∙ sym (grouped (same_text i k) (is_among i ks) (same_text i x))
  where
    grouped : (a b c : Bool) → ((a || b) || c) ≡ (a || (b || c))
    grouped true b c = refl
    grouped false b c = refl

repeats_more : (x : List ℕ) (xs : List (List ℕ)) → repeats (xs ++ x ∷ []) ≡ (repeats xs || is_among x xs)
repeats_more x [] = refl
repeats_more x (k ∷ ks) = both (among_more k x ks ∙ ap (λ b. is_among k ks || b) (text_turned k x)) (repeats_more x ks) ∙ mixed (is_among k ks) (same_text x k) (repeats ks) (is_among x ks)
  where
    both : {a b c d : Bool} → a ≡ b → c ≡ d → (a || c) ≡ (b || d)
    both {a} {b} {c} {d} e f = ap (λ t. t || c) e ∙ ap (λ t. b || t) f

    mixed : (a b c d : Bool) → ((a || b) || (c || d)) ≡ ((a || c) || (b || d))
    mixed true b c d = refl
    mixed false true true d = refl
    mixed false true false d = refl
    mixed false false c d = refl

claimed_more : (job w : ℕ) (x : List ℕ) (xs : List (List ℕ)) (i : List ℕ) → claimed job w (xs ++ x ∷ []) i ≡ or_else (claimed job w xs i) (if same_text i x then Some (record { job = job; which = w + length xs }) else None)
claimed_more job w x [] i = ap (λ n. if same_text i x then Some (record { job = job; which = n }) else None) (let e : w ≡ w + 0 = omega arith in e)
claimed_more job w x (k ∷ ks) i =
    go (same_text i k) (claimed_more job (suc w) x ks i ∙ ap (λ n. or_else (claimed job (suc w) ks i) (if same_text i x then Some (record { job = job; which = n }) else None)) (let e : suc w + length ks ≡ w + suc (length ks) = omega arith in e))
  where
    go : (b : Bool)
        → claimed job (suc w) (ks ++ x ∷ []) i ≡ or_else (claimed job (suc w) ks i) (if same_text i x then Some (record { job = job; which = w + suc (length ks) }) else None)
        → (if b then Some (record { job = job; which = w }) else claimed job (suc w) (ks ++ x ∷ []) i) ≡ or_else (if b then Some (record { job = job; which = w }) else claimed job (suc w) ks i) (if same_text i x then Some (record { job = job; which = w + suc (length ks) }) else None)
    go true h = refl
    go false h = h

-- a text that isn't among the streams has no place there, and one that is has one, of the job
unclaimed : (job w : ℕ) (xs : List (List ℕ)) (i : List ℕ) → is_among i xs ≡ false → claimed job w xs i ≡ None
unclaimed job w [] i e = refl
unclaimed job w (k ∷ ks) i e = go (same_text i k) (or_parts (same_text i k) (is_among i ks) e) (unclaimed job (suc w) ks i)
  where
    go : (b : Bool) → (b ≡ false) × (is_among i ks ≡ false) → (is_among i ks ≡ false → claimed job (suc w) ks i ≡ None) → (if b then Some (record { job = job; which = w }) else claimed job (suc w) ks i) ≡ None
    go true p h = absurd (let z : true ≡ false = p.0 in cc)
    go false p h = h p.1

claimed_among : (job w : ℕ) (xs : List (List ℕ)) (i : List ℕ) → is_among i xs ≡ true → (which : ℕ) × (claimed job w xs i ≡ Some (record { job = job; which = which }))
claimed_among job w [] i e = absurd (let z : false ≡ true = e in cc)
claimed_among job w (k ∷ ks) i e = go (same_text i k) e (claimed_among job (suc w) ks i)
  where
    go : (b : Bool) → (b || is_among i ks) ≡ true → (is_among i ks ≡ true → (which : ℕ) × (claimed job (suc w) ks i ≡ Some (record { job = job; which = which }))) → (which : ℕ) × ((if b then Some (record { job = job; which = w }) else claimed job (suc w) ks i) ≡ Some (record { job = job; which = which }))
    go true p h = (w, refl)
    go false p h = h p

or_else_none : {A : Type 0} (x y : Option A) → or_else x y ≡ None → (x ≡ None) × (y ≡ None)
or_else_none None y e = (refl, e)
or_else_none (Some x) y e = absurd (let z : Some x ≡ None = e in cc)

nothing_else : {A : Type 0} (c : Option A) → or_else c None ≡ c
nothing_else None = refl
nothing_else (Some s) = refl

-- ---- opened

among_cases : (b : Bool) → (b ≡ true) ⊎ (b ≡ false)
among_cases true = inl refl
among_cases false = inr refl

-- a text that is open after these were opened is among them, or was open before
open_before : (old mid : Ids) (job : ℕ) (done : List (List ℕ)) (i : List ℕ) → Opens old mid job done → stream_at mid i ≡ None → (is_among i done ≡ false) × (stream_at old i ≡ None)
open_before old mid job done i o e =
    let n = or_else_none (claimed job 0 done i) (stream_at old i) (sym (o.open_streams i) ∙ e) in
    (false_from_ne_true (is_among i done) (λ a. let w = claimed_among job 0 done i a in let z : None ≡ Some (record { job = job; which = w.0 }) = sym n.0 ∙ w.1 in cc), n.1)

pub openable_more : (old mid : Ids) (job : ℕ) (done : List (List ℕ)) (x : List ℕ) → AreOpenable old done → Opens old mid job done → stream_at mid x ≡ None → AreOpenable old (done ++ x ∷ [])
openable_more old mid job done x a o e =
    let b = open_before old mid job done x o e in
    record {
      free = λ i h. elim (or_cases (is_among i done) (same_text i x) (sym (among_more i x done) ∙ h)) [
        | inl g ↦ a.free i g
        | inr g ↦ ap (λ k. stream_at old k) (text_is i x g) ∙ b.1
      ];
      once = repeats_more x done ∙ or_from (repeats done) (is_among x done) a.once b.0;
    }

pub opened_more : (old mid new : Ids) (job : ℕ) (done : List (List ℕ)) (x : List ℕ) → Opens old mid job done → stream_at mid x ≡ None → OpensOne mid new job (length done) x → Opens old new job (done ++ x ∷ [])
opened_more old mid new job done x o e one = record {
  ids = λ i. one.ids i ∙ o.ids i;
  open_streams = λ i. one.open_streams i ∙ (go i (same_text i x) refl ∙ ap (λ c. or_else c (stream_at old i)) (sym (claimed_more job 0 x done i)));
}
  where
    go : (i : List ℕ) (b : Bool) → same_text i x ≡ b → (if b then Some (record { job = job; which = length done }) else stream_at mid i) ≡ or_else (or_else (claimed job 0 done i) (if b then Some (record { job = job; which = 0 + length done }) else None)) (stream_at old i)
    go i true h =
        let away : is_among i done ≡ false = ap (λ k. is_among k done) (text_is i x h) ∙ (open_before old mid job done x o e).0 in
        ap (λ n. Some (record { job = job; which = n })) (let z : length done ≡ 0 + length done = omega arith in z)
        ∙ ap (λ c. or_else (or_else c (Some (record { job = job; which = 0 + length done }))) (stream_at old i)) (sym (unclaimed job 0 done i away))
    go i false h = o.open_streams i ∙ ap (λ c. or_else c (stream_at old i)) (sym (nothing_else (claimed job 0 done i)))

-- why the next one isn't opened: it was open before, or it is named twice
among_at : (x : List ℕ) (done rest : List (List ℕ)) → is_among x (done ++ x ∷ rest) ≡ true
among_at x [] rest = or_left (same_text x x) (is_among x rest) (text_same x)
among_at x (k ∷ ks) rest = or_right (same_text x k) (is_among x (ks ++ x ∷ rest)) (among_at x ks rest)

twice_at : (x : List ℕ) (done rest : List (List ℕ)) → is_among x done ≡ true → is_twice x (done ++ x ∷ rest) ≡ true
twice_at x [] rest e = absurd (let z : false ≡ true = e in cc)
twice_at x (k ∷ ks) rest e = elim (or_cases (same_text x k) (is_among x ks) e) [
  | inl h ↦ or_left (same_text x k && is_among x (ks ++ x ∷ rest)) (is_twice x (ks ++ x ∷ rest)) (and_from (same_text x k) (is_among x (ks ++ x ∷ rest)) h (among_at x ks rest))
  | inr h ↦ or_right (same_text x k && is_among x (ks ++ x ∷ rest)) (is_twice x (ks ++ x ∷ rest)) (twice_at x ks rest h)
]

clash_at : (old mid : Ids) (job : ℕ) (id : Option (List ℕ)) (done rest : List (List ℕ)) (x : List ℕ) (s : Stream) → Opens old mid job done → stream_at mid x ≡ Some s → Clash old id (done ++ x ∷ rest) x
clash_at old mid job id done rest x s o e = go (is_among x done) refl
  where
    go : (b : Bool) → is_among x done ≡ b → Clash old id (done ++ x ∷ rest) x
    go true h = Twice (twice_at x done rest h)
    go false h = OfStream s (among_at x done rest) (ap (λ c. or_else c (stream_at old x)) (sym (unclaimed job 0 done x h)) ∙ (sym (o.open_streams x) ∙ e))

pub refused_at : (old mid : Ids) (job : ℕ) (id : Option (List ℕ)) (done rest all : List (List ℕ)) (x : List ℕ) (e : AcceptError) → done ++ x ∷ rest ≡ all → Opens old mid job done → IsUnopened mid x e → IsUnclaimed old id all e
refused_at old mid job id done rest all x (error.InUse i) a o u = subst (λ ks. Clash old id ks i) a (subst (λ k. Clash old id (done ++ x ∷ rest) k) (sym u.0) (clash_at old mid job id done rest x u.1.0 o u.1.1))
refused_at old mid job id done rest all x error.TooMany a o u = u
refused_at old mid job id done rest all x error.NoMemory a o u = u

-- ---- closed

-- what was opened is closed again
pub opened_and_closed : (old mid end new : Ids) (job : ℕ) (done : List (List ℕ)) → AreOpenable old done → Opens old mid job done → AreSame mid end → ClosesThose end new job done → AreSame old new
opened_and_closed old mid end new job done a o s c = record {
  ids = λ i. c.ids i ∙ (s.ids i ∙ o.ids i);
  streams = λ i. c.closed_streams i ∙ (ap (λ t. if is_among i done && is_of job t then None else t) (s.streams i ∙ o.open_streams i) ∙ go i (is_among i done) refl);
}
  where
    go : (i : List ℕ) (b : Bool) → is_among i done ≡ b → (if b && is_of job (or_else (claimed job 0 done i) (stream_at old i)) then None else or_else (claimed job 0 done i) (stream_at old i)) ≡ stream_at old i
    go i true h =
        let w = claimed_among job 0 done i h in
        ap (λ t. if is_of job (or_else t (stream_at old i)) then None else or_else t (stream_at old i)) w.1
        ∙ (ap (λ t. if t then None else Some (record { job = job; which = w.0 })) (eq-eqb job job refl) ∙ sym (a.free i h))
    go i false h = ap (λ t. or_else t (stream_at old i)) (unclaimed job 0 done i h)

-- one more is closed, if it is the job's
pub closed_more : (old mid new : Ids) (job : ℕ) (done : List (List ℕ)) (x : List ℕ) → ClosesThose old mid job done → ((i : List ℕ) → job_at new i ≡ job_at mid i) → ((i : List ℕ) → stream_at new i ≡ (if is_of job (stream_at mid x) && same_text i x then None else stream_at mid i)) → ClosesThose old new job (done ++ x ∷ [])
closed_more old mid new job done x c ids one = record {
  ids = λ i. ids i ∙ c.ids i;
  closed_streams = λ i. one i ∙ (go i (same_text i x) refl ∙ ap (λ b. if b && is_of job (stream_at old i) then None else stream_at old i) (sym (among_more i x done)));
}
  where
    here : (t : Option Stream) (a o : Bool) → is_of job t ≡ o → (if is_of job (if a && o then None else t) && true then None else (if a && o then None else t)) ≡ (if (a || true) && o then None else t)
    here t true true e = refl
    here t false true e = ap (λ b. if b && true then None else t) e
    here t true false e = ap (λ b. if b && true then None else t) e
    here t false false e = ap (λ b. if b && true then None else t) e

    away : (u t : Option Stream) (b a o : Bool) → t ≡ (if a && o then None else u) → (if b && false then None else t) ≡ (if (a || false) && o then None else u)
    away u t true true o e = e
    away u t true false o e = e
    away u t false true o e = e
    away u t false false o e = e

    go : (i : List ℕ) (b : Bool) → same_text i x ≡ b → (if is_of job (stream_at mid x) && b then None else stream_at mid i) ≡ (if (is_among i done || b) && is_of job (stream_at old i) then None else stream_at old i)
    go i true h =
        let k : i ≡ x = text_is i x h in
        ap (λ t. if is_of job (stream_at mid t) && true then None else stream_at mid i) (sym k)
        ∙ (ap (λ t. if is_of job t && true then None else t) (c.closed_streams i)
        ∙ here (stream_at old i) (is_among i done) (is_of job (stream_at old i)) refl)
    go i false h = away (stream_at old i) (stream_at mid i) (is_of job (stream_at mid x)) (is_among i done) (is_of job (stream_at old i)) (c.closed_streams i)

-- ---- what a call on a map gives

pub opened_one : (old new : Ids) (job place which : ℕ) (stream copy : List ℕ) → ((i : List ℕ) → job_at new i ≡ job_at old i) → copy ≡ stream → which ≡ place → UpdatesBy (slice_cmp nat_cmp) (slice_cmp nat_cmp copy) old.streams new.streams (Some (record { job = job; which = which })) → OpensOne old new job place stream
opened_one old new job place which stream copy ids k p u = record {
  ids = ids;
  open_streams = λ i.
      changed old.streams new.streams copy (Some (record { job = job; which = which })) u i
      ∙ (ap (λ t. if same_text i t then Some (record { job = job; which = which }) else stream_at old i) k
      ∙ ap (λ n. if same_text i stream then Some (record { job = job; which = n }) else stream_at old i) p);
}

-- an id that a job takes, or gives up
pub id_changed : (old new : BTreeMap (List ℕ) ℕ) (id : Option (List ℕ)) (k copy : List ℕ) (w : Option ℕ) → id ≡ Some k → copy ≡ k → UpdatesBy (slice_cmp nat_cmp) (slice_cmp nat_cmp copy) old new w → (i : List ℕ) → get (slice_cmp nat_cmp) new i ≡ (if same_id (Some i) id then w else get (slice_cmp nat_cmp) old i)
id_changed old new id k copy w is same u i =
    changed old new copy w u i
    ∙ (ap (λ t. if same_text i t then w else get (slice_cmp nat_cmp) old i) same
    ∙ ap (λ o. if same_id (Some i) o then w else get (slice_cmp nat_cmp) old i) (sym is))

pub id_stays : (old : BTreeMap (List ℕ) ℕ) (id : Option (List ℕ)) (w : Option ℕ) → id ≡ None → (i : List ℕ) → get (slice_cmp nat_cmp) old i ≡ (if same_id (Some i) id then w else get (slice_cmp nat_cmp) old i)
id_stays old id w is i = ap (λ o. if same_id (Some i) o then w else get (slice_cmp nat_cmp) old i) (sym is)

pub clash_of_job : (names : Ids) (id : Option (List ℕ)) (k copy : List ℕ) → id ≡ Some k → copy ≡ k → is_some (job_at names k) ≡ true → (streams : List (List ℕ)) → Clash names id streams copy
clash_of_job names id k copy is same e streams =
    let w = there_is (job_at names k) e in
    OfJob w.0 (is ∙ ap (λ t. Some t) (sym same)) (ap (λ t. job_at names t) same ∙ w.1)

-- ---- the streams up to a place

pub before_and_at : (xs : List (List ℕ)) (i : ℕ) (x d : List ℕ) → i < length xs → x ≡ get_or xs i d → take (i + 1) xs ≡ take i xs ++ x ∷ []
before_and_at xs i x d l e = take_more xs i d l ∙ ap (λ k. take i xs ++ k ∷ []) (sym e)

pub before_and_after : (xs : List (List ℕ)) (i : ℕ) (x d : List ℕ) → i < length xs → x ≡ get_or xs i d → take i xs ++ x ∷ drop (suc i) xs ≡ xs
before_and_after xs i x d l e = ap (λ k. take i xs ++ k ∷ drop (suc i) xs) e ∙ (ap (λ ys. take i xs ++ ys) (sym (drop-cons xs i d l)) ∙ take-append-drop i xs)

-- what stands after a failure
pub where_failed : {A E : Type 0} (r : Result A E) (P : Type 0) → is_err r ≡ true → OnErr r P → P
where_failed (Ok x) P e f = absurd (let z : false ≡ true = e in cc)
where_failed (Err x) P e f = f
