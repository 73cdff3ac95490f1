-- The lanes of a door, and what is done at one place of them.
use Rattle.std.specs.Prelude.{◌≡◌, ℕ, List, slice_index_or, slice_set}
use Rattle.hw_door.specs.Traffic.{Answer}
use Rattle.hw_net.specs.Lane.{Lane}

pub record LanesState : Type 0 where
  pub items : List Lane

-- the lane of this place does this, and the others stay as they are
pub record DoesHere (index : ℕ) (Does : Lane → Lane → List Answer → Type 0) (before after : List Lane) (answers : List Answer) : Type 0 where
  pub lane : Lane
  pub next : Lane
  pub at : slice_index_or before index lane ≡ lane
  pub order : after ≡ slice_set before index next
  pub does : Does lane next answers
