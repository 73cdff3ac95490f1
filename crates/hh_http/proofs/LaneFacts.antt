-- Messages of one kind at the front of the bytes that a lane holds.
use Rattle.std.proofs.Common.{◌≡◌, ◌<◌, ◌≤◌, ◌+◌, ◌-◌, ◌⊎◌, ℕ, zero, suc, Bool, true, false, List, [], ◌∷◌, ◌++◌, length, drop, Option, None, Some, Result, Ok, Err, refl, sym, ap, ◌∙◌, arith, inl, inr, subst, append_assoc, length-append, length-take, length-drop}
use Rattle.std.specs.Prelude.{slice_range, IfOk, IfSome, if◌then◌else◌}
use Rattle.std.proofs.Math.Seq.{drop-append_seam}
use Rattle.httparse.proofs.RunLemmas.{drop_split}
use Rattle.hh_http.specs.Lane.{Lane}
use Rattle.hh_http.specs.Messages.{due_after, Grammar, IsGrammar, HasHead, Begins, Series, IsHeadAt, IsKept, WaitsForBody, Answers, Repeats, Rests}
use Rattle.hw_lanes.specs.declared.http.Refusal.{Refusal}
use Rattle.hh_http.specs.declared.error.HttpError.{HttpError}
use Rattle.hh_http.specs.declared.message.Head.{Head}

-- ---- a message, or a part of it

slice-size : (held : List ℕ) (a n : ℕ) → a + n ≤ length held → length (slice_range held a (a + n)) ≡ n
slice-size held a n inside = omega (arith, length-take (a + n - a) (drop a held), length-drop a held)

tail-is : {M : Type 0} (g : Grammar M) → IsGrammar g → (held : List ℕ) (h : g.Parts) (tail : List ℕ) → HasHead g held h tail → drop (length (g.print h)) held ≡ tail
tail-is g laws held h tail has = ap (drop (length (g.print h))) (laws.printed held h tail has.0) ∙ drop-append_seam (g.print h) tail

-- the head that a lane keeps is still the one that its bytes begin with
pub head-grows : {M : Type 0} (g : Grammar M) → IsGrammar g → (held more : List ℕ) (head : Head M) → IsHeadAt g held head → IsHeadAt g (held ++ more) head
head-grows g laws held more head (h, tail, n, has, says, start, end, expects) =
    (h, tail ++ more, n, (laws.grows held more h tail has.0, has.1), says, start, end, expects)

pub kept-grows : {M : Type 0} (g : Grammar M) → IsGrammar g → (held more : List ℕ) (head : Option (Head M)) → IsKept g held head → IsKept g (held ++ more) head
kept-grows g laws held more None kept = kept
kept-grows g laws held more (Some head) kept = head-grows g laws held more head kept

-- the same of bytes that were appended or not
pub kept-extended : {M : Type 0} (g : Grammar M) → IsGrammar g → (held more next : List ℕ) (head : Option (Head M)) (appended : Bool)
    → next ≡ (if appended then held ++ more else held) → IsKept g held head → IsKept g next head
kept-extended g laws held more next head true is kept = rw is (kept-grows g laws held more head kept)
kept-extended g laws held more next head false is kept = rw is kept

pub begins-of : {M : Type 0} (g : Grammar M) → IsGrammar g → (held : List ℕ) (head : Head M) (body : List ℕ) (m : M) (after : List ℕ) → IsHeadAt g held head → head.end ≤ length held
    → body ≡ slice_range held head.start head.end → after ≡ drop head.end held → m ≡ g.with_body head.message body → Begins g held m after
begins-of g laws held head body m after (h, tail, n, has, says, start, end, expects) inside is rest whole =
    let size : length body ≡ n = rw (is, end) (slice-size held head.start n (omega (arith, end))) in
    let split : drop head.start held ≡ slice_range held head.start head.end ++ drop head.end held = drop_split held head.start head.end (omega (arith, end)) in
    let given : g.body m ≡ body = ap g.body whole ∙ laws.bodied head.message body in
    let tail-at : tail ≡ body ++ after =
    sym (tail-is g laws held h tail has) ∙ ap (λ k. drop k held) (sym start) ∙ split ∙ ap (λ b. b ++ drop head.end held) (sym is) ∙ ap (λ a. body ++ a) (sym rest) in
    let meant : g.Says h m n = subst (λ x. g.Says h x n) (sym whole) (laws.says h head.message n body says) in (
      h,
      tail,
      has,
      subst (λ (k : ℕ). g.Says h m k) (sym (ap length given ∙ size)) meant,
      tail-at ∙ ap (λ b. b ++ after) (sym given),
    )

pub waits-from : {M : Type 0} (g : Grammar M) → IsGrammar g → (held : List ℕ) (head : Head M) → IsHeadAt g held head → length held < head.end → WaitsForBody g held head.end head.expects
waits-from g laws held head (h, tail, n, has, says, start, end, expects) short =
    let whole : length held ≡ length (g.print h) + length tail = ap length (laws.printed held h tail has.0) ∙ length-append (g.print h) tail in
    (h, tail, head.message, n, has, says, omega (arith, whole, start, end), end ∙ ap (λ k. k + n) start, expects)

-- a head that was read before leaves what is due as it was
pub due-kept : (want n : ℕ) (expects due : Bool) → n < want → due ≡ due_after want expects due
due-kept zero n expects due short = absurd (omega (arith, short))
due-kept (suc want) n expects due short = refl

-- ---- messages one after the other

begins-append : {M : Type 0} (g : Grammar M) → IsGrammar g → (bytes more : List ℕ) (m : M) (after : List ℕ) → Begins g bytes m after → Begins g (bytes ++ more) m (after ++ more)
begins-append g laws bytes more m after (h, tail, has, says, at) =
    (h, tail ++ more, (laws.grows bytes more h tail has.0, has.1), says, rw at (append_assoc (g.body m) after more))

-- bytes that come after the rest belong to it
series-append : {M : Type 0} (g : Grammar M) → IsGrammar g → (bytes more : List ℕ) (ms : List M) (rest : List ℕ) → Series g bytes ms rest → Series g (bytes ++ more) ms (rest ++ more)
series-append g laws bytes more [] rest a = ap (λ x. x ++ more) a
series-append g laws bytes more (m ∷ ms) rest a = (a.0 ++ more, begins-append g laws bytes more m a.0 a.1, series-append g laws a.0 more ms rest a.2)

-- one more message is taken off the rest
series-snoc : {M : Type 0} (g : Grammar M) (bytes : List ℕ) (ms : List M) (rest : List ℕ) (m : M) (after : List ℕ) → Series g bytes ms rest → Begins g rest m after → Series g bytes (ms ++ m ∷ []) after
series-snoc g bytes [] rest m after a b = (after, rw a b, refl)
series-snoc g bytes (p ∷ ms) rest m after a b = (a.0, a.1, series-snoc g a.0 ms rest m after a.2 b)

pub series-fed : {M : Type 0} (g : Grammar M) → IsGrammar g → (lane next : Lane) (piece : List ℕ) → next ≡ record lane { held = lane.held ++ piece }
    → (bytes : List ℕ) (ms : List M) → Series g bytes ms lane.held → Series g (bytes ++ piece) ms next.held
series-fed g laws lane next piece e bytes ms series = rw e (series-append g laws bytes piece ms lane.held series)

spent-case : (spent : Option Refusal) → (spent ≡ None) ⊎ ((refusal : Refusal) × (spent ≡ Some refusal))
spent-case None = inl refl
spent-case (Some refusal) = inr (refusal, refl)

ended-case : (ended : Bool) → (ended ≡ false) ⊎ (ended ≡ true)
ended-case false = inl refl
ended-case true = inr refl

pub series-next : {M : Type 0} (g : Grammar M) (lane next : Lane) (r : Result (Option M) HttpError) → (lane.spent ≡ None → lane.ended ≡ false → Answers g lane next r) → Repeats lane next r → Rests lane next r
    → IfOk r (λ o. IfSome o (λ m. (bytes : List ℕ) (ms : List M) → Series g bytes ms lane.held → Series g bytes (ms ++ m ∷ []) next.held))
series-next g lane next (Ok None) a s t = tt
series-next g lane next (Err e) a s t = tt
series-next g lane next (Ok (Some m)) a s t = λ bytes ms series.
    elim (spent-case lane.spent) [
      | inr w ↦ absurd (cc (s w.0 w.1).0)
      | inl unspent ↦ elim (ended-case lane.ended) [
        | inr over ↦ absurd (cc (t unspent over).0)
        | inl open_yet ↦ series-snoc g bytes ms lane.held m next.held series (a unspent open_yet).0
      ]
    ]
