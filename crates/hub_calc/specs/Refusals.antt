-- Why a call of a method is refused, and the error with which its job then ends at its first turn.
use Rattle.std.specs.Prelude.{◌==◌, ℕ, Bool, true, false, List, length, Option, Some, None, Result, Err, ok_or, codes, if◌then◌else◌}
use Rattle.hd_calls.specs.declared.vocabulary.Call as as_given
use Rattle.hd_calls.specs.declared.vocabulary.CallKind.{CallKind}
use Rattle.hd_calls.specs.declared.vocabulary.CallKind.TheVariants.{Notify, Call, Stream}
use Rattle.hub_calc.specs.declared.refusal.Refusal.{Refusal}
use Rattle.hub_calc.specs.declared.refusal.Refusal.TheVariants.{UnknownMethod, NotAStream, AStream, WrongArguments}

-- the error's text
abbrev pub refusal_text : Refusal → List ℕ
refusal_text UnknownMethod = codes "Unknown method."
refusal_text NotAStream = codes "Not a stream."
refusal_text AStream = codes "A stream."
refusal_text WrongArguments = codes "Wrong arguments."

-- what is wrong with the kind of a call of a method that is a stream, or isn't
abbrev pub wrong_kind : Bool → CallKind → Option Refusal
wrong_kind false Stream = Some NotAStream
wrong_kind true Call = Some AStream
wrong_kind true Notify = Some AStream
wrong_kind _ _ = None

-- the first refusal, if there is one, and else the rest
abbrev pub unless : {A : Type 0} → Option Refusal → Result A Refusal → Result A Refusal
unless (Some why) rest = Err why
unless None rest = rest

-- what a call of a method makes that is a stream, or isn't, and has so many uploads, where its arguments make this if they are right: the kind
-- is tested before the uploads and the arguments
abbrev pub tested : {A : Type 0} → Bool → ℕ → as_given.Call → Option A → Result A Refusal
tested stream uploads call made =
    unless (wrong_kind stream call.kind) (if length call.streams == uploads then ok_or made WrongArguments else Err WrongArguments)
