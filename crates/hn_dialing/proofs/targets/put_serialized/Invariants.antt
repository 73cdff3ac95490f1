use Rattle.std.proofs.Common.{◌≡◌, ◌++◌, string_bytes}
use Rattle.form_urlencoded.specs.Form.{byte_serialize}
use Rattle.form_urlencoded.specs.Serialize.{serialized_text}
use Rattle.hn_dialing.proofs.targets.put_serialized.Given as goal

abbrev pub invariant-loop-piece : goal.invariant-loop-piece
invariant-loop-piece l = string_bytes l.out ++ serialized_text l.piece-iterator ≡ string_bytes l.fn.out ++ byte_serialize l.fn.text
