-- What is called, what a message is for, and what a hub means: which job a call begins, and what a job does when it is given something.
-- HubProtocol.md, "Invocations", "Streaming" and "Upload streaming": a call without an id wants no answer; one with an id is answered by a
-- Completion, a stream by items too; a call's uploads are items and Completions with ids of their own.
use Rattle.std.specs.Prelude.{ℕ, Bool, true, false, List, [], Option, Some, None}
use Rattle.hv_value.specs.Tree.{Tree}
use Rattle.hv_value.specs.Image.{images}
use Rattle.hv_value.specs.declared.value.Value.{Value}
use Rattle.hm_message.specs.Message.{value_image, ending_image}
use Rattle.hm_message.specs.declared.message.Codec.{Codec}
use Rattle.hm_message.specs.declared.message.Codec.TheVariants.{Json, Pack}
use Rattle.hm_message.specs.declared.message.Message.{Message}
use Rattle.hm_message.specs.declared.message.Message.TheVariants.{Invocation, StreamItem, Completion, StreamInvocation, CancelInvocation}
use Rattle.hm_message.specs.declared.message.Ending.{Ending}
use Rattle.hm_message.specs.declared.message.Ending.TheVariants.{Error}
use Rattle.hd_calls.specs.declared.vocabulary.CallKind.{CallKind}
use Rattle.hd_calls.specs.declared.vocabulary.CallKind.TheVariants as kind
use Rattle.hd_calls.specs.declared.vocabulary.Call as as_given
use Rattle.hd_calls.specs.declared.vocabulary.Input.{Input}
use Rattle.hd_calls.specs.declared.vocabulary.Input.TheVariants as input
use Rattle.hd_calls.specs.declared.vocabulary.Act.{Act}

-- ---- calls and what comes for them

-- how something is called, with the id that its answers bear
pub data Way : Type 0 where
  Notify : Way
  Call : (id : List ℕ) → Way
  Stream : (id : List ℕ) → Way

-- a call; its streams are the ids of its uploads
pub record Invoked : Type 0 where
  pub way : Way
  pub target : List ℕ
  pub arguments : List Tree
  pub streams : List (List ℕ)

-- what comes for a call: items, and an ending. An upload's items and its end are of the same kind
pub data Answer : Type 0 where
  Item : (value : Value) → Answer
  End : (ending : Ending) → Answer

-- the id of a call that has one
abbrev pub id_of : Way → Option (List ℕ)
id_of Notify = None
id_of (Call i) = Some i
id_of (Stream i) = Some i

-- whether items are wanted
abbrev pub is_stream : Way → Bool
is_stream (Stream i) = true
is_stream _ = false

abbrev pub kind_of : Way → CallKind
kind_of Notify = kind.Notify
kind_of (Call i) = kind.Call
kind_of (Stream i) = kind.Stream

-- ---- messages

-- what a message is for
pub data Purpose : Type 0 where
  ToBegin : (call : Invoked) → Purpose
  ToAnswer : (id : List ℕ) → (answer : Answer) → Purpose  -- a call, or what is uploaded for one
  ToCancel : (id : List ℕ) → Purpose
  ToNothing : Purpose  -- no peer sends it

-- the way of an Invocation with or without an id
abbrev pub way_of : Option (List ℕ) → Way
way_of None = Notify
way_of (Some i) = Call i

-- a message's headers say nothing here
abbrev pub purpose_of : Message → Purpose
purpose_of (Invocation headers id target arguments streams) =
    ToBegin (record { way = way_of id; target = target; arguments = arguments; streams = streams })
purpose_of (StreamInvocation headers id target arguments streams) =
    ToBegin (record { way = Stream id; target = target; arguments = arguments; streams = streams })
purpose_of (StreamItem headers id value) = ToAnswer id (Item value)
purpose_of (Completion headers id ending) = ToAnswer id (End ending)
purpose_of (CancelInvocation headers id) = ToCancel id
purpose_of _ = ToNothing

-- the message of a call that is made in this way
abbrev pub message_in : Way → Invoked → Message
message_in Notify c = Invocation [] None c.target c.arguments c.streams
message_in (Call i) c = Invocation [] (Some i) c.target c.arguments c.streams
message_in (Stream i) c = StreamInvocation [] i c.target c.arguments c.streams

-- the message of a call
abbrev pub message_of : Invoked → Message
message_of c = message_in c.way c

-- the message of an answer
abbrev pub answer_message : List ℕ → Answer → Message
answer_message i (Item v) = StreamItem [] i v
answer_message i (End e) = Completion [] i e

-- ---- what the other end reads: in JSON bytes are read as the text of their base64

abbrev pub value_in : Codec → Value → Value
value_in Json v = value_image v
value_in Pack v = v

abbrev pub ending_in : Codec → Ending → Ending
ending_in Json e = ending_image e
ending_in Pack e = e

abbrev pub arguments_in : Codec → List Tree → List Tree
arguments_in Json ts = images ts
arguments_in Pack ts = ts

-- ---- jobs

-- a turn of a job: an input and the moment, or the mark of a cancelled one
pub data Turn : Type 0 where
  Given : (input : Input) → (now : ℕ) → Turn
  Cancelled : Turn

-- the error with which an upload ends, if it does. A result is no error
abbrev pub error_in : Ending → Option (List ℕ)
error_in (Error s) = Some s
error_in _ = None

-- what a job is given of an upload, by the place of its stream in the call
abbrev pub upload_input : ℕ × Answer → Input
upload_input (w, Item v) = input.Item w v
upload_input (w, End e) = input.StreamEnd w (error_in e)

-- a call as a hub is given it, where the caller's side has this name
abbrev pub call_for : List ℕ → Invoked → as_given.Call
call_for who c =
    record { id = id_of c.way; kind = kind_of c.way; target = c.target; arguments = c.arguments; streams = c.streams; who = who }

-- the meaning of a hub: the job that a call begins at a moment, and the job and its act after an input at a moment
pub record Hub (Job : Type 0) : Type 0 where
  pub begin_of : as_given.Call → ℕ → Job
  pub step_of : Job → Input → ℕ → Job × Act
