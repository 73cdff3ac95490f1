-- Which acts jobs make: none hands up a deed, and only a job of Ask asks.
use Rattle.std.proofs.Common.{◌≡◌, ◌==◌, ℕ, zero, suc, ◌+◌, ℤ, pos, ◌+ℤ◌, Bool, true, false, List, [], ◌∷◌, ◌++◌, map, length, replicate, Option, Some, None, Err, nat_le, codes, refl, sym, subst}
use Rattle.std.specs.Prelude.{ok_or, if◌then◌else◌}
use Rattle.std.specs.List.{range_with_len}
use Rattle.std.specs.Cmp.Lexicographic.{bytes_decides}
use Rattle.hv_value.specs.Tree.{Tree, int, text}
use Rattle.hv_value.specs.declared.value.Value.{Value}
use Rattle.hv_value.specs.declared.value.Value.TheVariants as value
use Rattle.hm_message.specs.Same.{same_text}
use Rattle.hm_message.specs.Message.{value_of}
use Rattle.hm_message.specs.declared.message.Ending.TheVariants as ending
use Rattle.hd_calls.specs.declared.vocabulary.Call as as_given
use Rattle.hd_calls.specs.declared.vocabulary.Input.{Input}
use Rattle.hd_calls.specs.declared.vocabulary.Input.TheVariants as input
use Rattle.hd_calls.specs.declared.vocabulary.Act.{Act}
use Rattle.hd_calls.specs.declared.vocabulary.Act.TheVariants as act
use Rattle.hd_calls.specs.Hubs.{Turn, Given, Cancelled}
use Rattle.hd_calls.specs.Peers.{asks, hands_up}
use Rattle.hd_calls.specs.Rules.{job_after, act_at}
use Rattle.hub_calc.specs.declared.refusal.Refusal.{Refusal}
use Rattle.hub_calc.specs.declared.refusal.Refusal.TheVariants.{WrongArguments}
use Rattle.hub_calc.specs.declared.method.Method.{Method}
use Rattle.hub_calc.specs.declared.method.Method.TheVariants.{Echo, Add, Count, Sum, Slow, Fail, Ask}
use Rattle.hub_calc.specs.Refusals.{wrong_kind, unless}
use Rattle.hub_calc.specs.Methods.{methods, name_of, named, is_stream, uploads_of}
use Rattle.hub_calc.specs.Table.{Plan, Acts, Sums, is_whole, most_turns, item, items_to, row, of_method, plan_of, add_item, turn, calc_begin, calc_hub}
use Rattle.hub_calc.specs.Client.{client_hub}
use Rattle.hub_calc.specs.Laws.{act_after, HandsUpNothing, AsksNothing, AsksOnlyForAsk}

-- ---- acts that a call of this target may make

abbrev IsActFor : List ℕ → Act → Type 0
IsActFor target (act.Do deed) = ⊥
IsActFor target (act.Ask asked given) = target ≡ codes "Ask"
IsActFor target _ = Unit {0}

abbrev AreActsFor : List ℕ → List Act → Type 0
AreActsFor target [] = Unit {0}
AreActsFor target (a ∷ left) = IsActFor target a × AreActsFor target left

-- a sum makes none but Wait and End, whatever the target is
abbrev IsPlanFor : List ℕ → Plan → Type 0
IsPlanFor target (Acts left) = AreActsFor target left
IsPlanFor target (Sums sum) = Unit {0}

abbrev IsRowFor : List ℕ → Option Plan → Type 0
IsRowFor target None = Unit {0}
IsRowFor target (Some plan) = IsPlanFor target plan

-- ---- the job that begins

items_first : (target : List ℕ) (a n : ℕ) (rest : List Act) → AreActsFor target rest → AreActsFor target (map item (range_with_len a n) ++ rest)
items_first target a zero rest are = are
items_first target a (suc n) rest are = (tt, items_first target (a + 1) n rest are)

mores_first : (target : List ℕ) (n : ℕ) (rest : List Act) → AreActsFor target rest → AreActsFor target (replicate n act.More ++ rest)
mores_first target zero rest are = are
mores_first target (suc n) rest are = (tt, mores_first target n rest are)

row_if : (target : List ℕ) (b : Bool) (plan : Plan) → IsPlanFor target plan → IsRowFor target (if b then Some plan else None)
row_if target true plan is = is
row_if target false plan is = tt

of_row : (m : Method) (given : List Tree) → IsRowFor (name_of m) (row m given)
of_row Echo (v ∷ []) = (tt, tt)
of_row Add (int a ∷ int b ∷ []) = (tt, tt)
of_row Count (int (pos n) ∷ []) =
    row_if (name_of Count) (nat_le n most_turns) (Acts (items_to n ++ act.End ending.Void ∷ [])) (items_first (name_of Count) 1 n (act.End ending.Void ∷ []) (tt, tt))
of_row Sum [] = tt
of_row Slow (int (pos n) ∷ v ∷ []) =
    let ends : List Act = act.End (ending.Result (value_of v)) ∷ [] in
    row_if (name_of Slow) (nat_le n most_turns) (Acts (replicate n act.More ++ ends)) (mores_first (name_of Slow) n ends (tt, tt))
of_row Fail (text t ∷ []) = (tt, tt)
of_row Ask (text t ∷ v ∷ []) = (refl, tt)
of_row _ _ = tt

of_test : (target : List ℕ) (wrong : Option Refusal) (b : Bool) (made : Option Plan) → IsRowFor target made
    → IsPlanFor target (plan_of (unless wrong (if b then ok_or made WrongArguments else Err WrongArguments)))
of_test target (Some why) b made is = (tt, tt)
of_test target None false made is = (tt, tt)
of_test target None true None is = (tt, tt)
of_test target None true (Some plan) is = is

abbrev IsNameOf : List ℕ → Option Method → Type 0
IsNameOf target None = Unit {0}
IsNameOf target (Some m) = target ≡ name_of m

of_name : (target : List ℕ) (ms : List Method) → IsNameOf target (named target ms)
of_name target [] = tt
of_name target (m ∷ ms) = go (same_text target (name_of m)) refl (of_name target ms)
  where
    go : (b : Bool) → same_text target (name_of m) ≡ b → IsNameOf target (named target ms) → IsNameOf target (if b then Some m else named target ms)
    go true e rest = (bytes_decides target (name_of m)).0 e
    go false e rest = rest

of_method_is : (call : as_given.Call) (o : Option Method) → IsNameOf call.target o → IsPlanFor call.target (plan_of (of_method o call))
of_method_is call None is = (tt, tt)
of_method_is call (Some m) is =
    of_test call.target (wrong_kind (is_stream m) call.kind) (length call.streams == uploads_of m) (row m call.arguments)
    (subst (λ target. IsRowFor target (row m call.arguments)) (sym is) (of_row m call.arguments))

begun : (call : as_given.Call) (since : ℕ) → IsPlanFor call.target (calc_begin call since)
begun call since = of_method_is call (named call.target methods) (of_name call.target methods)

-- ---- its turns

added : (target : List ℕ) (sum : ℤ) (v : Value) → IsPlanFor target (add_item sum v).0 × IsActFor target (add_item sum v).1
added target sum (value.Int z) = go (is_whole (sum +ℤ z))
  where
    go : (b : Bool) → (let s : Plan × Act = if b then (Sums (sum +ℤ z), act.Wait) else (Acts [], act.End (ending.Error (codes "Out of range."))) in IsPlanFor target s.0 × IsActFor target s.1)
    go true = (tt, tt)
    go false = (tt, tt)
added target sum _ = (tt, tt)

turned : (target : List ℕ) (job : Plan) (i : Input) → IsPlanFor target job → IsPlanFor target (turn job i).0 × IsActFor target (turn job i).1
turned target (Acts (a ∷ left)) i is = (is.1, is.0)
turned target (Acts []) (input.Asked e) is = (tt, tt)
turned target (Acts []) _ is = (tt, tt)
turned target (Sums sum) (input.Item which v) is = added target sum v
turned target (Sums sum) (input.StreamEnd which error) is = (tt, tt)
turned target (Sums sum) _ is = (tt, tt)

run_on : (target : List ℕ) (turns : List Turn) (job : Plan) → IsPlanFor target job → IsPlanFor target (job_after calc_hub job turns)
run_on target [] job is = is
run_on target (Given i now ∷ ts) job is = run_on target ts (turn job i).0 (turned target job i is).0
run_on target (Cancelled ∷ ts) job is = run_on target ts job is

act_is : (target : List ℕ) (job : Plan) (t : Turn) → IsPlanFor target job → IsActFor target (act_at calc_hub job t)
act_is target job (Given i now) is = (turned target job i is).1
act_is target job Cancelled is = tt

acts_after : (call : as_given.Call) (since : ℕ) (turns : List Turn) (t : Turn) → IsActFor call.target (act_after calc_hub call since turns t)
acts_after call since turns t =
    let job : Plan = job_after calc_hub (calc_begin call since) turns in
    act_is call.target job t (run_on call.target turns (calc_begin call since) (begun call since))

-- ---- the laws

no_deed : (target : List ℕ) (a : Act) → IsActFor target a → hands_up (Some a) ≡ false
no_deed target (act.Do deed) is = absurd is
no_deed target _ is = refl

only_ask : (target : List ℕ) (a : Act) → IsActFor target a → asks (Some a) ≡ true → target ≡ codes "Ask"
only_ask target (act.Do deed) is e = absurd is
only_ask target (act.Ask asked given) is e = is
only_ask target _ is e = absurd (let z : false ≡ true = e in cc)

pub calculator_hands_up_nothing : HandsUpNothing calc_hub
calculator_hands_up_nothing call since turns t = no_deed call.target (act_after calc_hub call since turns t) (acts_after call since turns t)

pub calculator_asks : AsksOnlyForAsk calc_hub
calculator_asks call since turns t e = only_ask call.target (act_after calc_hub call since turns t) (acts_after call since turns t) e

pub client_hands_up_nothing : HandsUpNothing client_hub
client_hands_up_nothing call since turns (Given i now) = refl
client_hands_up_nothing call since turns Cancelled = refl

pub client_asks_nothing : AsksNothing client_hub
client_asks_nothing call since turns (Given i now) = refl
client_asks_nothing call since turns Cancelled = refl
