-- The rooms hub: what each of its methods does for a caller, deed by deed, and how it ends after that.
use Rattle.std.specs.Prelude.{ℕ, pos, nat_le, List, [], ◌∷◌, codes, length, Option, Some, None, if◌then◌else◌}
use Rattle.hv_value.specs.Tree.{Tree, text, int}
use Rattle.hm_message.specs.declared.message.Ending.{Ending}
use Rattle.hm_message.specs.declared.message.Ending.TheVariants.{Void, Result, Error}
use Rattle.hm_message.specs.Same.{same_text}
use Rattle.hd_calls.specs.declared.vocabulary.CallKind.{CallKind}
use Rattle.hd_calls.specs.declared.vocabulary.CallKind.TheVariants.{Stream}
use Rattle.hd_calls.specs.declared.vocabulary.Call.{Call}
use Rattle.hd_calls.specs.declared.vocabulary.Input.{Input}
use Rattle.hd_calls.specs.declared.vocabulary.Input.TheVariants.{Done, Failed}
use Rattle.hd_calls.specs.declared.vocabulary.Act.{Act}
use Rattle.hd_calls.specs.declared.vocabulary.Act.TheVariants.{End, Do}
use Rattle.hd_calls.specs.declared.vocabulary.Deed.{Deed}
use Rattle.hd_calls.specs.declared.vocabulary.Deed.TheVariants as deed
use Rattle.hd_calls.specs.Hubs.{Hub}
use Rattle.hd_rooms.specs.declared.vocabulary.RoomsMethod.{RoomsMethod}
use Rattle.hd_rooms.specs.declared.vocabulary.RoomsMethod.TheVariants.{Join, Leave, Post, Tell, History}

-- the most texts for which a call can ask
abbrev pub most_recalled : ℕ
most_recalled = 100

-- the most bytes of a room's name
abbrev pub most_name : ℕ
most_name = 256

-- ---- the methods

-- the method that a target names
abbrev pub method_of : List ℕ → Option RoomsMethod
method_of target =
    if same_text target (codes "Join") then Some Join else
    (if same_text target (codes "Leave") then Some Leave else
    (if same_text target (codes "Post") then Some Post else
    (if same_text target (codes "Tell") then Some Tell else
    (if same_text target (codes "History") then Some History else None))))

-- these deeds, if the room has a name that isn't too long
abbrev pub in_room : List ℕ → List Deed → Option (List Deed)
in_room room deeds = if nat_le (length room) most_name then Some deeds else None

-- History(r, n) has one deed, if n isn't too many
abbrev pub recall_deeds : List ℕ → ℕ → Option (List Deed)
recall_deeds room most = if nat_le most most_recalled then in_room room (deed.History room most ∷ []) else None

-- the deeds of each method in order, for the caller's side `who`. There are none if the arguments are of another number or kind:
-- Join(r), Leave(r), Post(r, t), Tell(u, t) and History(r, n), where r is a room's name, t and u are texts, and n is a whole number
abbrev pub deeds_of : RoomsMethod → List ℕ → List Tree → Option (List Deed)
deeds_of Join who (text r ∷ []) = in_room r (deed.Join r ∷ [])
deeds_of Leave who (text r ∷ []) = in_room r (deed.Leave r ∷ [])
deeds_of Post who (text r ∷ text t ∷ []) =
    in_room r (deed.Log r t ∷ deed.Post r (codes "Posted") (text r ∷ text who ∷ text t ∷ []) ∷ [])
deeds_of Tell who (text u ∷ text t ∷ []) = Some (deed.Tell u (codes "Told") (text who ∷ text t ∷ []) ∷ [])
deeds_of History who (text r ∷ int (pos n) ∷ []) = recall_deeds r n
deeds_of _ who _ = None

-- how a method ends after its deeds: History with what the keeper brought, the others with no result
abbrev pub ending_of : RoomsMethod → Input → Ending
ending_of History (Done brought) = Result brought
ending_of _ _ = Void

-- the error of a method whose deed failed. A Join fails only if its connection is in too many groups, the others if the store failed
abbrev pub error_of : RoomsMethod → List ℕ
error_of Join = codes "Too many groups."
error_of _ = codes "The store failed."

-- ---- jobs

-- what is left of a job: an error, or deeds and then the method's ending
pub data Job : Type 0 where
  Refused : (error : List ℕ) → Job
  Doing : (method : RoomsMethod) → (deeds : List Deed) → Job

-- the job of these deeds
abbrev pub job_of_deeds : RoomsMethod → Option (List Deed) → Job
job_of_deeds method (Some deeds) = Doing method deeds
job_of_deeds method None = Refused (codes "Wrong arguments.")

-- a call with uploads has wrong arguments, whatever they are
abbrev pub job_with : RoomsMethod → List ℕ → List Tree → List (List ℕ) → Job
job_with method who arguments [] = job_of_deeds method (deeds_of method who arguments)
job_with method who arguments (stream ∷ streams) = Refused (codes "Wrong arguments.")

-- no method is a stream
abbrev pub job_in : RoomsMethod → CallKind → Call → Job
job_in method Stream call = Refused (codes "Not a stream.")
job_in method _ call = job_with method call.who call.arguments call.streams

-- a call's target is tested first, then whether it is a Stream, and its arguments last
abbrev pub job_at : Option RoomsMethod → Call → Job
job_at None call = Refused (codes "Unknown method.")
job_at (Some method) call = job_in method call.kind call

-- one act a turn: the next deed, and the ending after the last one. A deed that failed ends the job, and so does what was refused
abbrev pub step_of : Job → Input → Job × Act
step_of (Refused error) input = (Refused error, End (Error error))
step_of (Doing method deeds) Failed = (Doing method deeds, End (Error (error_of method)))
step_of (Doing method (next ∷ deeds)) input = (Doing method deeds, Do next)
step_of (Doing method []) input = (Doing method [], End (ending_of method input))

-- the meaning of the rooms hub
abbrev pub rooms : Hub Job
rooms = record {
  begin_of = λ call now. job_at (method_of call.target) call;
  step_of = λ job input now. step_of job input;
}
