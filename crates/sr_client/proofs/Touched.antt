-- An output that is touched by bytes alone, turn by turn.
use Rattle.std.proofs.Common.{◌≡◌, ◌≢◌, inl, inr, ℕ, Bool, List, [], ◌∷◌, ◌++◌, Option, Result, Ok, Err, refl, sym, ap, subst, ◌∙◌}
use Rattle.std.specs.Result.{IsErrAnd}
use Rattle.std.specs.Io.KnownBytes.{Appends}
use Rattle.std.proofs.lemmas.Result.{err_from_is_err_and}
use Rattle.sr_client.specs.declared.client.ClientError.{ClientError}
use Rattle.sr_client.specs.declared.client.ClientError.TheVariants as error
use Rattle.sr_client.specs.Running.{IsTouchedByBytes}
use Rattle.sr_client.proofs.RunTurns.{appends_then}

some_with_more : (xs ys : List ℕ) → xs ≢ [] → xs ++ ys ≢ []
some_with_more [] ys some is = some refl
some_with_more (x ∷ xs) ys some is = cc

-- in two parts and so in both
pub touched_more : {K : Type 0} (holds : K → Option (List ℕ)) (a b c : K) → IsTouchedByBytes holds a b → IsTouchedByBytes holds b c → IsTouchedByBytes holds a c
touched_more holds a b c (inl same) (inl too) = inl (too ∙ same)
touched_more holds a b c (inl same) (inr more) = inr (more.0, more.1, subst (λ k. Appends (holds k) (holds c) more.0) same more.2)
touched_more holds a b c (inr some) (inl too) = inr (some.0, some.1, subst (λ k. Appends (holds a) (holds k) some.0) (sym too) some.2)
touched_more holds a b c (inr some) (inr more) =
    inr (some.0 ++ more.0, some_with_more some.0 more.0 some.1, appends_then (holds a) (holds b) (holds c) some.0 more.0 some.2 more.2)

-- ---- by what was answered

pub ok_is_no_fault : (done : Bool) → ◌≡◌ {A = Result Bool ClientError} (Ok done) (Err error.Write) → ⊥
ok_is_no_fault done is = cc

why_is : (why : ClientError) → ◌≡◌ {A = Result Bool ClientError} (Err why) (Err error.Write) → why ≡ error.Write
why_is why is = cc

-- a turn's error is passed on
pub no_fault_before : (why : ClientError) (r : Result Unit ClientError) → IsErrAnd r (λ e. e ≡ why) → r ≢ Err error.Write
    → ◌≡◌ {A = Result Bool ClientError} (Err why) (Err error.Write) → ⊥
no_fault_before why r err differ is = let p = err_from_is_err_and r err in differ (p.1 ∙ ap Err (p.2 ∙ why_is why is))

-- so the answer is that the output failed
pub is_fault : (r : Result Bool ClientError) → IsErrAnd r (λ e. e ≡ error.Write) → r ≡ Err error.Write
is_fault r err = let p = err_from_is_err_and r err in p.1 ∙ ap Err p.2
