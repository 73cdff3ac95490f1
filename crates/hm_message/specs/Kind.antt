-- The types of messages and their numbers.
use Rattle.std.specs.Prelude.{zero, suc, ℤ, pos, ◌≤ℤ◌, Option, Some, None}
use Rattle.hm_message.specs.declared.kind.Kind.{Kind}
use Rattle.hm_message.specs.declared.kind.Kind.TheVariants as kinds
use Rattle.hm_message.specs.declared.message.Message.{Message}
use Rattle.hm_message.specs.declared.message.Message.TheVariants.{Invocation, StreamItem, Completion, StreamInvocation, CancelInvocation, Ping, Close, Ack, Sequence}

abbrev pub number : Kind → ℤ
number kinds.Invocation = pos 1
number kinds.StreamItem = pos 2
number kinds.Completion = pos 3
number kinds.StreamInvocation = pos 4
number kinds.CancelInvocation = pos 5
number kinds.Ping = pos 6
number kinds.Close = pos 7
number kinds.Ack = pos 8
number kinds.Sequence = pos 9

-- outside 1 to 9
abbrev pub IsOfNoKind : ℤ → Type 0
IsOfNoKind n = ¬ ((pos 1 ≤ℤ n) × (n ≤ℤ pos 9))

abbrev pub kind_of : Message → Kind
kind_of (Invocation headers id target arguments streams) = kinds.Invocation
kind_of (StreamItem headers id item) = kinds.StreamItem
kind_of (Completion headers id ending) = kinds.Completion
kind_of (StreamInvocation headers id target arguments streams) = kinds.StreamInvocation
kind_of (CancelInvocation headers id) = kinds.CancelInvocation
kind_of Ping = kinds.Ping
kind_of (Close error allow) = kinds.Close
kind_of (Ack upto) = kinds.Ack
kind_of (Sequence first received) = kinds.Sequence

-- the type of a number, if it has one
unfoldable pub kind_at : ℤ → Option Kind
kind_at (pos (suc zero)) = Some kinds.Invocation
kind_at (pos (suc (suc zero))) = Some kinds.StreamItem
kind_at (pos (suc (suc (suc zero)))) = Some kinds.Completion
kind_at (pos (suc (suc (suc (suc zero))))) = Some kinds.StreamInvocation
kind_at (pos (suc (suc (suc (suc (suc zero)))))) = Some kinds.CancelInvocation
kind_at (pos (suc (suc (suc (suc (suc (suc zero))))))) = Some kinds.Ping
kind_at (pos (suc (suc (suc (suc (suc (suc (suc zero)))))))) = Some kinds.Close
kind_at (pos (suc (suc (suc (suc (suc (suc (suc (suc zero))))))))) = Some kinds.Ack
kind_at (pos (suc (suc (suc (suc (suc (suc (suc (suc (suc zero)))))))))) = Some kinds.Sequence
kind_at z = None
