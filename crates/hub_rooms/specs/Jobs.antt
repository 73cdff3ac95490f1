-- What a job of this crate stands for.
use Rattle.std.specs.Prelude.{List, Option, Some, None}
use Rattle.std.specs.declared.collections.VecDeque.{VecDeque}
use Rattle.hd_calls.specs.declared.vocabulary.Deed.{Deed}
use Rattle.hd_rooms.specs.Rooms as rooms
use Rattle.hub_rooms.specs.declared.job.Left.{Left}
use Rattle.hub_rooms.specs.declared.job.Left.TheVariants.{Refused, Doing}

-- what is left of it, as the definitions of the hub have it
abbrev pub job_of : Left → rooms.Job
job_of (Refused error) = rooms.Refused error
job_of (Doing method deeds) = rooms.Doing method deeds.items

-- deeds in a queue, if there are any
abbrev pub listed : {Z : Type 0} → Option (VecDeque Deed Z) → Option (List Deed)
listed None = None
listed (Some queue) = Some queue.items
