-- The names of a message's parts in JSON (HubProtocol.md, "JSON Encoding").
use Rattle.std.specs.Prelude.{ℕ, List, codes}
use Rattle.hm_message.specs.declared.message.Field.{Field}
use Rattle.hm_message.specs.declared.message.Field.TheVariants.{Kind, Headers, InvocationId, Target, Arguments, StreamIds, Item, Ending, Error, AllowReconnect, SequenceId, Protocol, Version}

abbrev pub field_name : Field → List ℕ
field_name Kind = codes "type"
field_name Headers = codes "headers"
field_name InvocationId = codes "invocationId"
field_name Target = codes "target"
field_name Arguments = codes "arguments"
field_name StreamIds = codes "streamIds"
field_name Item = codes "item"
field_name Ending = codes "result"
field_name Error = codes "error"
field_name AllowReconnect = codes "allowReconnect"
field_name SequenceId = codes "sequenceId"
field_name Protocol = codes "protocol"
field_name Version = codes "version"
