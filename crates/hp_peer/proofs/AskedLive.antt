-- A job whose latest act asks for a call is live.
use Rattle.std.proofs.Common.{◌≡◌, ℕ, Bool, true, false, List, [], ◌∷◌, ◌++◌, length, Some, refl, sym, ap, ◌∙◌, subst, arith}
use Rattle.std.specs.Prelude.{◌==◌, ◌&&◌, ◌||◌, not, nat_lt, if◌then◌else◌}
use Rattle.std.proofs.lemmas.Bool.{and_parts, eqb-true, ltb-true, lt-ltb}
use Rattle.std.proofs.lemmas.List.{length-append}
use Rattle.hm_message.specs.declared.message.Codec.{Codec}
use Rattle.hd_calls.specs.declared.vocabulary.Act.{Act}
use Rattle.hd_calls.specs.declared.vocabulary.Act.TheVariants as act
use Rattle.hd_calls.specs.Hubs.{Way, Notify, Call, Stream, Hub, Invoked, Turn, Given, Cancelled}
use Rattle.hd_calls.specs.Peers.{Begins, PeerEvent, Handles, Runs, Settings, acts, asks, begun, codec, ends_job, last_of, live_job, over}
use Rattle.hd_calls.specs.Rules.{Follows, IsDue}

last_is : {A : Type 0} (xs : List A) (x : A) → last_of (xs ++ x ∷ []) ≡ Some x
last_is [] x = refl
last_is (y ∷ []) x = refl
last_is (y ∷ z ∷ xs) x = last_is (z ∷ xs) x

both_true : (a b : Bool) → a ≡ true → b ≡ true → (a && b) ≡ true
both_true a b e f = ap (λ x. x && b) e ∙ f

-- one more job has begun
more_begun : (j : ℕ) (cs : List Invoked) (c : Invoked) (o : Bool) → (nat_lt j (length cs) && not o) ≡ true → (nat_lt j (length (cs ++ c ∷ [])) && not o) ≡ true
more_begun j cs c o e =
    let p = and_parts (nat_lt j (length cs)) (not o) e in
    let l = ltb-true j (length cs) p.0 in
    both_true _ _ (lt-ltb j (length (cs ++ c ∷ [])) (omega (arith, length-append cs (c ∷ [])))) p.1

ask_goes_on : (t : Settings) (code : Codec) (way : Way) (what : Act) → asks (Some what) ≡ true → ends_job t code way what ≡ false
ask_goes_on t code Notify (act.Ask target arguments) e = refl
ask_goes_on t code (Call i) (act.Ask target arguments) e = refl
ask_goes_on t code (Stream i) (act.Ask target arguments) e = refl
ask_goes_on t code way act.More e = absurd (cc)
ask_goes_on t code way act.Wait e = absurd (cc)
ask_goes_on t code way (act.Item v) e = absurd (cc)
ask_goes_on t code way (act.End x) e = absurd (cc)
ask_goes_on t code way (act.Do d) e = absurd (cc)

due_live : (t : Settings) (j : ℕ) (h : List PeerEvent) (turn : Turn) → IsDue t j h turn → live_job t j h ≡ true
due_live t j h (Given i now) d = d.0
due_live t j h Cancelled d = d.0

run_live : (t : Settings) (j k : ℕ) (c : Invoked) (turn : Turn) (what : Act) (h : List PeerEvent) → IsDue t k h turn
    → (asks (last_of (acts j h)) ≡ true → live_job t j h ≡ true) → (b : Bool) → (j == k) ≡ b
    → asks (last_of (if b then acts j h ++ what ∷ [] else acts j h)) ≡ true
    → (nat_lt j (length (begun h)) && not ((b && ends_job t (codec t h) c.way what) || over t j h)) ≡ true
run_live t j k c turn what h due before true p e =
    let asked = sym (ap asks (last_is (acts j h) what)) ∙ e in
    subst (λ b. (nat_lt j (length (begun h)) && not (b || over t j h)) ≡ true) (sym (ask_goes_on t (codec t h) c.way what asked))
    (subst (λ n. live_job t n h ≡ true) (sym (eqb-true j k p)) (due_live t k h turn due))
run_live t j k c turn what h due before false p e = before e

pub asks_live : {Job : Type 0} (hub : Hub Job) (t : Settings) (j : ℕ) (h : List PeerEvent) → Follows hub t h → asks (last_of (acts j h)) ≡ true → live_job t j h ≡ true
asks_live hub t j [] f e = absurd (cc)
asks_live hub t j (Handles m (Begins c now floods) ∷ h) f e = more_begun j (begun h) c (over t j h) (asks_live hub t j h f.0 e)
asks_live hub t j (Handles m x ∷ h) f e = asks_live hub t j h f.0 e
asks_live hub t j (Runs k c since turn what ∷ h) f e = run_live t j k c turn what h f.1.due (asks_live hub t j h f.0) (j == k) refl e
asks_live hub t j (_ ∷ h) f e = asks_live hub t j h f.0 e
