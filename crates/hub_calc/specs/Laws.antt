-- What whole runs of jobs are, in the terms of who calls.
use Rattle.std.specs.Prelude.{◌≡◌, ◌≤◌, ℕ, suc, ℤ, pos, ◌+ℤ◌, true, false, List, [], ◌∷◌, ◌++◌, map, length, take, replicate, Option, Some, None, codes}
use Rattle.hv_value.specs.Tree.{Tree, int, text}
use Rattle.hv_value.specs.View.{tree}
use Rattle.hv_value.specs.Whole.{IsWhole}
use Rattle.hv_value.specs.declared.value.Value.{Value}
use Rattle.hv_value.specs.declared.value.Value.TheVariants as value
use Rattle.hm_message.specs.declared.message.Ending.{Ending}
use Rattle.hm_message.specs.declared.message.Ending.TheVariants as ending
use Rattle.hd_calls.specs.declared.vocabulary.Call as as_given
use Rattle.hd_calls.specs.declared.vocabulary.CallKind.TheVariants as kind
use Rattle.hd_calls.specs.declared.vocabulary.Input.TheVariants as input
use Rattle.hd_calls.specs.declared.vocabulary.Act.{Act}
use Rattle.hd_calls.specs.declared.vocabulary.Act.TheVariants as act
use Rattle.hd_calls.specs.Hubs.{Turn, Given, Hub}
use Rattle.hd_calls.specs.Peers.{asks, hands_up}
use Rattle.hd_calls.specs.Rules.{run, job_after, act_at}
use Rattle.hub_calc.specs.declared.refusal.Refusal.{Refusal}
use Rattle.hub_calc.specs.declared.refusal.Refusal.TheVariants.{UnknownMethod, WrongArguments}
use Rattle.hub_calc.specs.declared.method.Method.{Method}
use Rattle.hub_calc.specs.declared.method.Method.TheVariants.{Echo, Add, Count, Sum, Slow, Fail, Ask}
use Rattle.hub_calc.specs.Refusals.{refusal_text, wrong_kind}
use Rattle.hub_calc.specs.Methods.{name_of, is_stream, uploads_of}
use Rattle.hub_calc.specs.Table.{most_turns, items_to, end_sum, row, calc_hub}
use Rattle.hub_calc.specs.Client.{client_hub}

-- ---- the calculator

-- a call of a method as the method is to be called, with these arguments
pub record IsCall (m : Method) (given : List Tree) (call : as_given.Call) : Type 0 where
  pub target : call.target ≡ name_of m
  pub kind : wrong_kind (is_stream m) call.kind ≡ None
  pub uploads : length call.streams ≡ uploads_of m
  pub arguments : call.arguments ≡ given

-- what the job of a call does that began at a moment, turn by turn, up to its end
abbrev pub calc_run : as_given.Call → ℕ → List Turn → List Act
calc_run call since turns = run calc_hub (calc_hub.begin_of call since) turns

-- turns at these moments at which a job is given nothing
abbrev pub goes : List ℕ → List Turn
goes times = map (λ now. Given input.Go now) times

-- Echo gives its argument back
abbrev pub EchoGivesBack : Type 0
EchoGivesBack = (call : as_given.Call) (since now : ℕ) (v : Value) → IsCall Echo (tree v ∷ []) call
    → calc_run call since (goes (now ∷ [])) ≡ act.End (ending.Result v) ∷ []

-- Add gives the sum, if a value can hold it
abbrev pub AddAdds : Type 0
AddAdds = (call : as_given.Call) (since now : ℕ) (a b : ℤ) → IsCall Add (int a ∷ int b ∷ []) call → IsWhole (a +ℤ b)
    → calc_run call since (goes (now ∷ [])) ≡ act.End (ending.Result (value.Int (a +ℤ b))) ∷ []

-- and an error if none can
abbrev pub AddStopsAtItsRange : Type 0
AddStopsAtItsRange = (call : as_given.Call) (since now : ℕ) (a b : ℤ) → IsCall Add (int a ∷ int b ∷ []) call → (IsWhole (a +ℤ b) → ⊥)
    → calc_run call since (goes (now ∷ [])) ≡ act.End (ending.Error (codes "Out of range.")) ∷ []

-- Count gives the items from 1 to n, one at each turn, and then ends
abbrev pub CountCounts : Type 0
CountCounts = (call : as_given.Call) (since : ℕ) (times : List ℕ) (n : ℕ) → IsCall Count (int (pos n) ∷ []) call → n ≤ most_turns
    → calc_run call since (goes times) ≡ take (length times) (items_to n ++ act.End ending.Void ∷ [])

-- Slow takes n turns for nothing, and then ends with its argument
abbrev pub SlowWaits : Type 0
SlowWaits = (call : as_given.Call) (since : ℕ) (times : List ℕ) (n : ℕ) (v : Value) → IsCall Slow (int (pos n) ∷ tree v ∷ []) call → n ≤ most_turns
    → calc_run call since (goes times) ≡ take (length times) (replicate n act.More ++ act.End (ending.Result v) ∷ [])

-- Fail ends with its text as an error
abbrev pub FailFails : Type 0
FailFails = (call : as_given.Call) (since now : ℕ) (t : List ℕ) → IsCall Fail (text t ∷ []) call
    → calc_run call since (goes (now ∷ [])) ≡ act.End (ending.Error t) ∷ []

-- Ask asks its caller, and ends as that call does
abbrev pub AskAsks : Type 0
AskAsks = (call : as_given.Call) (since now later : ℕ) (t : List ℕ) (v : Value) (e : Ending) → IsCall Ask (text t ∷ tree v ∷ []) call
    → calc_run call since (Given input.Go now ∷ Given (input.Asked e) later ∷ []) ≡ act.Ask t (tree v ∷ []) ∷ act.End e ∷ []

-- ---- its sums

-- the sum of whole numbers
abbrev pub total : List ℤ → ℤ
total [] = pos 0
total (z ∷ zs) = z +ℤ total zs

-- whole numbers that are uploaded, each with the moment at which the job is given it
abbrev pub uploads : List (ℤ × ℕ) → List Turn
uploads items = map (λ p. Given (input.Item 0 (value.Int p.0)) p.1) items

-- the first turn, and one for each of these items
abbrev pub fed : ℕ → List (ℤ × ℕ) → List Turn
fed start items = Given input.Go start ∷ uploads items

-- whatever comes first of these numbers has a sum that a value can hold
abbrev pub AllSumsAreWhole : List ℤ → Type 0
AllSumsAreWhole zs = (k : ℕ) → IsWhole (total (take k zs))

-- Sum waits for each item, and at the upload's end gives their sum, or the error with which the upload ended
abbrev pub SumAddsUp : Type 0
SumAddsUp = (call : as_given.Call) (since start stop : ℕ) (items : List (ℤ × ℕ)) (error : Option (List ℕ)) → IsCall Sum [] call
    → AllSumsAreWhole (map (λ p. p.0) items)
    → calc_run call since (fed start items ++ Given (input.StreamEnd 0 error) stop ∷ [])
    ≡ replicate (suc (length items)) act.Wait ++ act.End (end_sum (total (map (λ p. p.0) items)) error) ∷ []

-- it ends at the first item with which no value can hold the sum
abbrev pub SumStopsAtItsRange : Type 0
SumStopsAtItsRange = (call : as_given.Call) (since start stop : ℕ) (items : List (ℤ × ℕ)) (z : ℤ) → IsCall Sum [] call
    → AllSumsAreWhole (map (λ p. p.0) items) → (IsWhole (total (map (λ p. p.0) items) +ℤ z) → ⊥)
    → calc_run call since (fed start items ++ Given (input.Item 0 (value.Int z)) stop ∷ [])
    ≡ replicate (suc (length items)) act.Wait ++ act.End (ending.Error (codes "Out of range.")) ∷ []

-- and at the first item that is no whole number
abbrev pub SumTakesWholeNumbers : Type 0
SumTakesWholeNumbers = (call : as_given.Call) (since start stop : ℕ) (items : List (ℤ × ℕ)) (v : Value) → IsCall Sum [] call
    → AllSumsAreWhole (map (λ p. p.0) items) → ((z : ℤ) → v ≡ value.Int z → ⊥)
    → calc_run call since (fed start items ++ Given (input.Item 0 v) stop ∷ [])
    ≡ replicate (suc (length items)) act.Wait ++ act.End (ending.Error (refusal_text WrongArguments)) ∷ []

-- ---- what is refused

-- the job of the call ends at its first turn, with this refusal's text
abbrev pub IsRefused : as_given.Call → Refusal → Type 0
IsRefused call why = (since now : ℕ) → calc_run call since (goes (now ∷ [])) ≡ act.End (ending.Error (refusal_text why)) ∷ []

-- a target that names no method is refused first
abbrev pub UnknownIsRefused : Type 0
UnknownIsRefused = (call : as_given.Call) → ((m : Method) → call.target ≡ name_of m → ⊥) → IsRefused call UnknownMethod

-- then a wrong kind, whatever the arguments and uploads are
abbrev pub WrongKindIsRefused : Type 0
WrongKindIsRefused = (call : as_given.Call) (m : Method) (why : Refusal) → call.target ≡ name_of m → wrong_kind (is_stream m) call.kind ≡ Some why
    → IsRefused call why

-- then a wrong number of uploads, and arguments that have no row
abbrev pub WrongArgumentsAreRefused : Type 0
WrongArgumentsAreRefused = (call : as_given.Call) (m : Method) → call.target ≡ name_of m → wrong_kind (is_stream m) call.kind ≡ None
    → (length call.streams ≡ uploads_of m → row m call.arguments ≡ None) → IsRefused call WrongArguments

-- ---- the client

-- what a client's job does at its first turn
abbrev pub client_run : as_given.Call → ℕ → ℕ → List Act
client_run call since now = run client_hub (client_hub.begin_of call since) (Given input.Go now ∷ [])

-- Confirm gives its argument back
abbrev pub ConfirmGivesBack : Type 0
ConfirmGivesBack = (call : as_given.Call) (since now : ℕ) (v : Value) → call.target ≡ codes "Confirm" → (call.kind ≡ kind.Stream → ⊥) → call.streams ≡ []
    → call.arguments ≡ tree v ∷ [] → client_run call since now ≡ act.End (ending.Result v) ∷ []

-- every other target ends with no result, whatever the call's kind, arguments and uploads are
abbrev pub OthersEnd : Type 0
OthersEnd = (call : as_given.Call) (since now : ℕ) → (call.target ≡ codes "Confirm" → ⊥) → client_run call since now ≡ act.End ending.Void ∷ []

-- ---- what jobs ask for and hand up

-- what the job of a call does at a turn, after these
abbrev pub act_after : {Job : Type 0} → Hub Job → as_given.Call → ℕ → List Turn → Turn → Act
act_after hub call since turns turn = act_at hub (job_after hub (hub.begin_of call since) turns) turn

-- no job of the hub ever hands up a deed
abbrev pub HandsUpNothing : {Job : Type 0} → Hub Job → Type 0
HandsUpNothing hub = (call : as_given.Call) (since : ℕ) (turns : List Turn) (turn : Turn) → hands_up (Some (act_after hub call since turns turn)) ≡ false

-- no job of the hub ever asks
abbrev pub AsksNothing : {Job : Type 0} → Hub Job → Type 0
AsksNothing hub = (call : as_given.Call) (since : ℕ) (turns : List Turn) (turn : Turn) → asks (Some (act_after hub call since turns turn)) ≡ false

-- a job of the hub asks only if its call is of Ask
abbrev pub AsksOnlyForAsk : {Job : Type 0} → Hub Job → Type 0
AsksOnlyForAsk hub = (call : as_given.Call) (since : ℕ) (turns : List Turn) (turn : Turn) → asks (Some (act_after hub call since turns turn)) ≡ true
    → call.target ≡ codes "Ask"
