-- Runs of jobs, from the first turn.
use Rattle.std.proofs.Common.{◌≡◌, ◌==◌, ◌≤◌, ◌<◌, ℕ, zero, suc, ◌+◌, ◌^◌, ℤ, pos, negsuc, ◌+ℤ◌, Bool, true, false, List, [], ◌∷◌, ◌++◌, map, length, take, replicate, Some, None, Ok, nat_le, nat_lt, codes, refl, ap, sym, arith}
use Rattle.std.proofs.Math.Seq.{take-nil}
use Rattle.std.specs.List.{range_with_len}
use Rattle.std.proofs.lemmas.Bool.Decides.{nat_tests}
use Rattle.std.proofs.lemmas.Int.{ints}
use Rattle.std.specs.Cmp.Lexicographic.{bytes_decides}
use Rattle.hv_value.specs.Tree.{Tree, int, text}
use Rattle.hv_value.specs.View.{tree}
use Rattle.hv_value.specs.Whole.{IsWhole}
use Rattle.hv_value.specs.declared.value.Value.TheVariants as value
use Rattle.hm_message.specs.Laws.{ValuesAreTrees}
use Rattle.hm_message.specs.Same.{same_text}
use Rattle.hm_message.specs.declared.message.Ending.{Ending}
use Rattle.hm_message.specs.declared.message.Ending.TheVariants as ending
use Rattle.hd_calls.specs.declared.vocabulary.Call as as_given
use Rattle.hd_calls.specs.declared.vocabulary.CallKind.{CallKind}
use Rattle.hd_calls.specs.declared.vocabulary.CallKind.TheVariants as kind
use Rattle.hd_calls.specs.declared.vocabulary.Act.{Act}
use Rattle.hd_calls.specs.declared.vocabulary.Act.TheVariants as act
use Rattle.hd_calls.specs.Rules.{run, goes_on}
use Rattle.hub_calc.specs.declared.refusal.Refusal.TheVariants.{UnknownMethod, WrongArguments}
use Rattle.hub_calc.specs.declared.method.Method.{Method}
use Rattle.hub_calc.specs.declared.method.Method.TheVariants.{Echo, Add, Count, Sum, Slow, Fail, Ask}
use Rattle.hub_calc.specs.Refusals.{refusal_text, wrong_kind, tested}
use Rattle.hub_calc.specs.Methods.{methods, name_of, named, is_stream, uploads_of}
use Rattle.hub_calc.specs.Table.{Plan, Acts, ends, is_whole, most_turns, item, items_to, row, calc_begin, calc_hub}
use Rattle.hub_calc.specs.Laws.{IsCall, calc_run, goes, client_run, EchoGivesBack, AddAdds, AddStopsAtItsRange, CountCounts, SlowWaits, FailFails, AskAsks, UnknownIsRefused, WrongKindIsRefused, WrongArgumentsAreRefused, ConfirmGivesBack, OthersEnd}
use Rattle.hub_calc.proofs.Names.{names_none}

-- ---- which job begins

-- each method is named by its name
named_is : (m : Method) → named (name_of m) methods ≡ Some m
named_is Echo = refl
named_is Add = refl
named_is Count = refl
named_is Sum = refl
named_is Slow = refl
named_is Fail = refl
named_is Ask = refl

equal_is : (n : ℕ) → (n == n) ≡ true
equal_is n = grind (arith, nat_tests)

-- a call that is right in all but its arguments
tested_right : {A : Type 0} (s : Bool) (u : ℕ) (call : as_given.Call) (made : A) → wrong_kind s call.kind ≡ None → length call.streams ≡ u → tested s u call (Some made) ≡ Ok made
tested_right s u call made k l = rw (k, l, equal_is u) refl

-- a call as the method is to be called begins what the row says
pub begins : (m : Method) (given : List Tree) (call : as_given.Call) (since : ℕ) (plan : Plan) → IsCall m given call → row m given ≡ Some plan → calc_begin call since ≡ plan
begins m given call since plan is r = rw (is.target, named_is m, is.arguments, r, tested_right (is_stream m) (uploads_of m) call plan is.kind is.uploads) refl

-- ---- acts that are fixed

-- the job goes on after these acts
AllGoOn : List Act → Type 0
AllGoOn [] = Unit {0}
AllGoOn (a ∷ left) = ((xs : List Act) → goes_on a xs ≡ xs) × AllGoOn left

run_acts : (left : List Act) (e : Ending) (times : List ℕ) → AllGoOn left
    → run calc_hub (Acts (left ++ act.End e ∷ [])) (goes times) ≡ take (length times) (left ++ act.End e ∷ [])
unfolding AllGoOn
run_acts left e [] on = refl
run_acts [] e (t ∷ times) on = ap (λ (xs : List Act). act.End e ∷ xs) (sym (take-nil {A = Act} (length times)))
run_acts (a ∷ left) e (t ∷ times) on = rw (on.0, run_acts left e times on.1) refl

run_once : (e : Ending) (now : ℕ) → run calc_hub (ends e) (goes (now ∷ [])) ≡ act.End e ∷ []
run_once e now = refl

-- a call whose job ends at its first turn
once : (call : as_given.Call) (since now : ℕ) (e : Ending) → calc_begin call since ≡ ends e → calc_run call since (goes (now ∷ [])) ≡ act.End e ∷ []
once call since now e is = rw is refl

-- ---- the methods

pub echo : ValuesAreTrees → EchoGivesBack
echo same call since now v is = once call since now (ending.Result v) (begins Echo (tree v ∷ []) call since (ends (ending.Result v)) is (rw (same.value_of-tree v) refl))

of_test : (m n : ℕ) → nat_lt m n ≡ true → m < n
of_test m n e = grind (arith, nat_tests)

below_whole : (n : ℕ) → n < 2 ^ 64 → IsWhole (pos n)
below_whole n h = omega (arith, ints)

above_whole : (n : ℕ) → n < 2 ^ 63 → IsWhole (negsuc n)
above_whole n h = omega (arith, ints)

equal-is : (m n : ℕ) → (m == n) ≡ true → m ≡ n
equal-is m n e = grind (arith, nat_tests)

-- the two tests of a number's range say the same
pub whole_is : (z : ℤ) → IsWhole z → is_whole z ≡ true
whole_is (pos n) h = grind (arith, nat_tests)
whole_is (negsuc n) h = grind (arith, nat_tests)

is_whole-says : (z : ℤ) → is_whole z ≡ true → IsWhole z
is_whole-says (pos n) e = let h : n < 2 ^ 64 = of_test n (2 ^ 64) e in below_whole n h
is_whole-says (negsuc n) e = let h : n < 2 ^ 63 = of_test n (2 ^ 63) e in above_whole n h

pub whole_isnt : (z : ℤ) → (IsWhole z → ⊥) → is_whole z ≡ false
whole_isnt z h = go (is_whole z) refl
  where
    go : (b : Bool) → is_whole z ≡ b → is_whole z ≡ false
    go true e = absurd (h (is_whole-says z e))
    go false e = e

pub add : AddAdds
add call since now a b is h = once call since now (ending.Result (value.Int (a +ℤ b)))
    (begins Add (int a ∷ int b ∷ []) call since (ends (ending.Result (value.Int (a +ℤ b)))) is (rw (whole_is (a +ℤ b) h) refl))

pub add_stops : AddStopsAtItsRange
add_stops call since now a b is h = once call since now (ending.Error (codes "Out of range."))
    (begins Add (int a ∷ int b ∷ []) call since (ends (ending.Error (codes "Out of range."))) is (rw (whole_isnt (a +ℤ b) h) refl))

pub fail : FailFails
fail call since now t is = once call since now (ending.Error t) (begins Fail (text t ∷ []) call since (ends (ending.Error t)) is refl)

at_most : (n : ℕ) → n ≤ most_turns → nat_le n most_turns ≡ true
at_most n h = grind (arith, nat_tests)

items_go_on : (a n : ℕ) → AllGoOn (map item (range_with_len a n))
unfolding AllGoOn
items_go_on a zero = tt
items_go_on a (suc n) = ((λ xs. refl), items_go_on (a + 1) n)

mores_go_on : (n : ℕ) → AllGoOn (replicate n act.More)
unfolding AllGoOn
mores_go_on zero = tt
mores_go_on (suc n) = ((λ xs. refl), mores_go_on n)

pub count : CountCounts
count call since times n is h =
    let acts : Plan = Acts (items_to n ++ act.End ending.Void ∷ []) in
    let b : calc_begin call since ≡ acts = begins Count (int (pos n) ∷ []) call since acts is (rw (at_most n h) refl) in
    rw b (run_acts (items_to n) ending.Void times (items_go_on 1 n))

pub slow : ValuesAreTrees → SlowWaits
slow same call since times n v is h =
    let acts : Plan = Acts (replicate n act.More ++ act.End (ending.Result v) ∷ []) in
    let b : calc_begin call since ≡ acts = begins Slow (int (pos n) ∷ tree v ∷ []) call since acts is (rw (at_most n h, same.value_of-tree v) refl) in
    rw b (run_acts (replicate n act.More) (ending.Result v) times (mores_go_on n))

pub ask : AskAsks
ask call since now later t v e is =
    let b : calc_begin call since ≡ Acts (act.Ask t (tree v ∷ []) ∷ []) = begins Ask (text t ∷ tree v ∷ []) call since _ is refl in rw b refl

-- ---- refusals

pub unknown : UnknownIsRefused
unknown call none since now =
    once call since now (ending.Error (refusal_text UnknownMethod)) (rw (names_none call.target methods none) refl)

pub kind_refused : WrongKindIsRefused
kind_refused call m why t k since now = once call since now (ending.Error (refusal_text why)) (rw (t, named_is m, k) refl)

pub arguments_refused : WrongArgumentsAreRefused
arguments_refused call m t k r since now = once call since now (ending.Error (refusal_text WrongArguments)) (go (length call.streams == uploads_of m) refl)
  where
    go : (b : Bool) → (length call.streams == uploads_of m) ≡ b → calc_begin call since ≡ ends (ending.Error (refusal_text WrongArguments))
    go false e = rw (t, named_is m, k, e) refl
    go true e = rw (t, named_is m, k, e, r (equal-is _ _ e)) refl

-- ---- the client

no_stream : (k : CallKind) → (k ≡ kind.Stream → ⊥) → wrong_kind false k ≡ None
no_stream kind.Notify h = refl
no_stream kind.Call h = refl
no_stream kind.Stream h = absurd (h refl)

pub confirms : ValuesAreTrees → ConfirmGivesBack
confirms same call since now v t k u a = rw (t, no_stream call.kind k, u, a, same.value_of-tree v) refl

pub others : OthersEnd
others call since now other = go (same_text call.target (codes "Confirm")) refl
  where
    go : (b : Bool) → same_text call.target (codes "Confirm") ≡ b → client_run call since now ≡ act.End ending.Void ∷ []
    go true e = absurd (other ((bytes_decides call.target (codes "Confirm")).0 e))
    go false e = rw e refl
