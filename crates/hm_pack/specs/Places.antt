-- Where the elements of a message's array stand, counted from 0, and the numbers of the kinds of
-- result (HubProtocol.md, "MessagePack (MsgPack) encoding"). The code's constants are proved to be these.
use Rattle.std.specs.Prelude.{ℕ, ℤ, pos}

-- the type stands first in each message
abbrev pub type_place : ℕ
type_place = 0

-- headers stand second in each message that belongs to an invocation
abbrev pub headers_place : ℕ
headers_place = 1

-- the invocation's id stands after them
abbrev pub id_place : ℕ
id_place = 2

-- the target of a call
abbrev pub target_place : ℕ
target_place = 3

-- the arguments of a call
abbrev pub arguments_place : ℕ
arguments_place = 4

-- the ids of a call's streams
abbrev pub streams_place : ℕ
streams_place = 5

-- a StreamItem's item
abbrev pub item_place : ℕ
item_place = 3

-- a Completion's kind of result
abbrev pub result_kind_place : ℕ
result_kind_place = 3

-- the error or the result that the kind announces
abbrev pub outcome_place : ℕ
outcome_place = 4

-- a Close's error
abbrev pub close_error_place : ℕ
close_error_place = 1

-- whether the other end of a Close may connect again
abbrev pub allow_place : ℕ
allow_place = 2

-- the number that an Ack or a Sequence tells
abbrev pub sequence_id_place : ℕ
sequence_id_place = 1

-- a Sequence's received count
abbrev pub received_place : ℕ
received_place = 2

-- ---- kinds of result

-- an error follows
abbrev pub error_result : ℤ
error_result = pos 1

-- nothing follows
abbrev pub void_result : ℤ
void_result = pos 2

-- the result follows
abbrev pub value_result : ℤ
value_result = pos 3
