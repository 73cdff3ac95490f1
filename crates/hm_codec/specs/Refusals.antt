-- A codec's refusal as an error of either codec: want of memory is no reason.
use Rattle.hm_json.specs.declared.refusal.Refusal.{Refusal}
use Rattle.hm_json.specs.declared.refusal.Refusal.TheVariants as json
use Rattle.hm_pack.specs.declared.refusal.PackRefusal.{PackRefusal}
use Rattle.hm_pack.specs.declared.refusal.PackRefusal.TheVariants as pack
use Rattle.hm_codec.specs.declared.why.FrameWhy.{FrameWhy}
use Rattle.hm_codec.specs.declared.why.FrameWhy.TheVariants.{Json, Pack}
use Rattle.hm_codec.specs.declared.why.FrameError.{FrameError}
use Rattle.hm_codec.specs.declared.why.FrameError.TheVariants.{Refused, NoMemory}

-- the error of a refusal in JSON
abbrev pub of_json : Refusal → FrameError
of_json json.NoMemory = NoMemory
of_json refusal = Refused (Json refusal)

-- the error of a refusal in MessagePack
abbrev pub of_pack : PackRefusal → FrameError
of_pack pack.NoMemory = NoMemory
of_pack refusal = Refused (Pack refusal)

-- the error is a refusal for a reason of which this holds, or out of memory
abbrev pub IsRefusedFor : FrameError → (FrameWhy → Type 0) → Type 0
IsRefusedFor (Refused why) P = P why
IsRefusedFor NoMemory P = Unit {0}
