-- What the rooms hub does turn by turn, for any moments, callers, texts and numbers.
use Rattle.std.specs.Prelude.{◌≡◌, ◌≢◌, ◌≤◌, ◌<◌, ℕ, pos, List, [], ◌∷◌, codes, length, None}
use Rattle.hv_value.specs.Tree.{Tree, text, int}
use Rattle.hv_value.specs.declared.value.Value.{Value}
use Rattle.hm_message.specs.declared.message.Ending.TheVariants.{Void, Result, Error}
use Rattle.hd_calls.specs.declared.vocabulary.CallKind.TheVariants.{Stream}
use Rattle.hd_calls.specs.declared.vocabulary.Call as as_given
use Rattle.hd_calls.specs.declared.vocabulary.Input.{Input}
use Rattle.hd_calls.specs.declared.vocabulary.Input.TheVariants.{Go, Done, Failed}
use Rattle.hd_calls.specs.declared.vocabulary.Act.{Act}
use Rattle.hd_calls.specs.declared.vocabulary.Act.TheVariants.{End, Do}
use Rattle.hd_calls.specs.declared.vocabulary.Deed.TheVariants as deed
use Rattle.hd_calls.specs.Hubs.{Call, Turn, Given, call_for}
use Rattle.hd_calls.specs.Rules.{run}
use Rattle.hd_rooms.specs.Rooms.{rooms, method_of, most_recalled, most_name}

-- the turns at which these inputs are given, at any moments
abbrev pub turns_of : List (Input × ℕ) → List Turn
turns_of [] = []
turns_of (given ∷ rest) = Given given.0 given.1 ∷ turns_of rest

-- what a call of this target with these arguments does at these turns
abbrev pub acts_of : List ℕ → List ℕ → List Tree → List (Input × ℕ) → List Act
acts_of who target arguments given =
    run rooms (rooms.begin_of (call_for who (record { way = Call []; target = target; arguments = arguments; streams = [] })) 0) (turns_of given)

-- what each method does if its deeds are done, and how it ends if one of them fails. A room's name isn't too long
pub record RoomsDo : Type 0 where
  pub join : (who r : List ℕ) (v : Value) (a b : ℕ) → length r ≤ most_name →
      acts_of who (codes "Join") (text r ∷ []) ((Go, a) ∷ (Done v, b) ∷ []) ≡ Do (deed.Join r) ∷ End Void ∷ []
  pub leave : (who r : List ℕ) (v : Value) (a b : ℕ) → length r ≤ most_name →
      acts_of who (codes "Leave") (text r ∷ []) ((Go, a) ∷ (Done v, b) ∷ []) ≡ Do (deed.Leave r) ∷ End Void ∷ []
  pub post : (who r t : List ℕ) (v w : Value) (a b c : ℕ) → length r ≤ most_name →
      acts_of who (codes "Post") (text r ∷ text t ∷ []) ((Go, a) ∷ (Done v, b) ∷ (Done w, c) ∷ [])
      ≡ Do (deed.Log r t) ∷ Do (deed.Post r (codes "Posted") (text r ∷ text who ∷ text t ∷ [])) ∷ End Void ∷ []
  pub tell : (who u t : List ℕ) (v : Value) (a b : ℕ) →
      acts_of who (codes "Tell") (text u ∷ text t ∷ []) ((Go, a) ∷ (Done v, b) ∷ [])
      ≡ Do (deed.Tell u (codes "Told") (text who ∷ text t ∷ [])) ∷ End Void ∷ []
  pub history : (who r : List ℕ) (n : ℕ) (v : Value) (a b : ℕ) → n ≤ most_recalled → length r ≤ most_name →
      acts_of who (codes "History") (text r ∷ int (pos n) ∷ []) ((Go, a) ∷ (Done v, b) ∷ []) ≡ Do (deed.History r n) ∷ End (Result v) ∷ []
  pub join_fails : (who r : List ℕ) (a b : ℕ) → length r ≤ most_name →
      acts_of who (codes "Join") (text r ∷ []) ((Go, a) ∷ (Failed, b) ∷ []) ≡ Do (deed.Join r) ∷ End (Error (codes "Too many groups.")) ∷ []
  pub log_fails : (who r t : List ℕ) (a b : ℕ) → length r ≤ most_name →
      acts_of who (codes "Post") (text r ∷ text t ∷ []) ((Go, a) ∷ (Failed, b) ∷ [])
      ≡ Do (deed.Log r t) ∷ End (Error (codes "The store failed.")) ∷ []
  pub history_fails : (who r : List ℕ) (n : ℕ) (a b : ℕ) → n ≤ most_recalled → length r ≤ most_name →
      acts_of who (codes "History") (text r ∷ int (pos n) ∷ []) ((Go, a) ∷ (Failed, b) ∷ [])
      ≡ Do (deed.History r n) ∷ End (Error (codes "The store failed.")) ∷ []

-- what the first turn of a call does, whatever it is given
abbrev pub first_act : as_given.Call → Input → ℕ → Act
first_act call input now = (rooms.step_of (rooms.begin_of call 0) input now).1

-- what is refused at the first turn, and in which order that is tested
pub record RoomsRefuse : Type 0 where
  pub target : (call : as_given.Call) (input : Input) (now : ℕ) → method_of call.target ≡ None →
      first_act call input now ≡ End (Error (codes "Unknown method."))
  pub stream : (call : as_given.Call) (input : Input) (now : ℕ) → method_of call.target ≢ None → call.kind ≡ Stream →
      first_act call input now ≡ End (Error (codes "Not a stream."))
  pub uploads : (call : as_given.Call) (input : Input) (now : ℕ) → method_of call.target ≢ None → call.kind ≢ Stream → call.streams ≢ [] →
      first_act call input now ≡ End (Error (codes "Wrong arguments."))
  pub too_many : (who r : List ℕ) (n a : ℕ) → most_recalled < n →
      acts_of who (codes "History") (text r ∷ int (pos n) ∷ []) ((Go, a) ∷ []) ≡ End (Error (codes "Wrong arguments.")) ∷ []
  pub long_join : (who r : List ℕ) (a : ℕ) → most_name < length r →
      acts_of who (codes "Join") (text r ∷ []) ((Go, a) ∷ []) ≡ End (Error (codes "Wrong arguments.")) ∷ []
  pub long_leave : (who r : List ℕ) (a : ℕ) → most_name < length r →
      acts_of who (codes "Leave") (text r ∷ []) ((Go, a) ∷ []) ≡ End (Error (codes "Wrong arguments.")) ∷ []
  pub long_post : (who r t : List ℕ) (a : ℕ) → most_name < length r →
      acts_of who (codes "Post") (text r ∷ text t ∷ []) ((Go, a) ∷ []) ≡ End (Error (codes "Wrong arguments.")) ∷ []
  pub long_history : (who r : List ℕ) (n a : ℕ) → most_name < length r →
      acts_of who (codes "History") (text r ∷ int (pos n) ∷ []) ((Go, a) ∷ []) ≡ End (Error (codes "Wrong arguments.")) ∷ []
  pub no_text : (who : List ℕ) (n a : ℕ) →
      acts_of who (codes "Join") (int (pos n) ∷ []) ((Go, a) ∷ []) ≡ End (Error (codes "Wrong arguments.")) ∷ []
  pub one_more : (who r t : List ℕ) (x : Tree) (a : ℕ) →
      acts_of who (codes "Tell") (text r ∷ text t ∷ x ∷ []) ((Go, a) ∷ []) ≡ End (Error (codes "Wrong arguments.")) ∷ []
