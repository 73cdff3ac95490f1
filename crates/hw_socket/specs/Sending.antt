-- What a lane that sends or is shut writes, and how that leaves it.
use Rattle.std.specs.Prelude.{◌≡◌, ◌≢◌, ◌⊎◌, ℕ, Bool, true, false, List, ◌++◌, Option, None, Some, Ok, IsUtf8}
use Rattle.websocket.specs.Connection.{Effect, closing_state, write_step}
use Rattle.hw_socket.specs.declared.vocabulary.Ending.{Ending}
use Rattle.hw_socket.specs.declared.vocabulary.Ending.TheVariants.{Shut, BadText}
use Rattle.hw_socket.specs.Closing.{status_of, closed, after_close}
use Rattle.hw_socket.specs.Lane.{Lane}
use Rattle.hw_socket.specs.Masks.{after_reply}
use Rattle.hw_socket.specs.Messages.{content}

-- what `send` is given
pub record Sent : Type 0 where
  pub is_text : Bool
  pub bytes : List ℕ

-- `send`: the message joined what is to be written, as one frame, or the lane is gone: it was, or the text isn't UTF-8
abbrev pub Says : Lane → Lane → List ℕ → Bool → Bool → Type 0
Says lane next bytes is_text true =
    (lane.ending ≡ None) × (is_text ≡ true → IsUtf8 bytes)
    × ((effect : Effect) × (write_step lane.conn (content is_text bytes) ≡ Ok effect)
    × (next ≡ record lane { conn = effect.next; out = after_reply lane.out effect.reply }))
Says lane next bytes is_text false =
    ((lane.ending ≢ None) × (next ≡ lane))
    ⊎ ((lane.ending ≡ None) × (is_text ≡ true) × ¬ (IsUtf8 bytes) × (next ≡ record lane { ending = Some BadText }))

-- why a lane is gone after it was shut: what it was before, if it was gone
abbrev pub shut_ending : Option Ending → Ending
shut_ending None = Shut
shut_ending (Some ending) = ending

-- `shut`: the close frame is appended, where none was written yet, and the lane is gone
abbrev pub after_shut : Lane → Lane
after_shut lane = record lane {
  conn = closed lane.conn (closing_state lane.conn.state);
  out = after_close lane.out (status_of lane.ending) (closing_state lane.conn.state);
  ending = Some (shut_ending lane.ending);
}

-- `drop_out`: the piece was in front of what waits to be written, and all else is as before
abbrev pub Drops : Lane → List ℕ → Lane → Type 0
Drops lane piece next = (lane.out.bytes ≡ piece ++ next.out.bytes) × (next ≡ record lane { out = record lane.out { bytes = next.out.bytes } })
