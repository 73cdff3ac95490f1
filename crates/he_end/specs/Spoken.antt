-- In which codec an end is spoken to, read off what it keeps.
use Rattle.std.specs.Prelude.{◌||◌, Option, Some, None, is_some, if◌then◌else◌}
use Rattle.hm_message.specs.declared.message.Codec.{Codec}
use Rattle.he_end.specs.declared.end.End.{End}
use Rattle.he_end.specs.Stands.{is_client}

-- the codec in which it reads and writes, if it has one yet
abbrev pub spoken_in : End → Option Codec
spoken_in e = if is_some e.session.agreed || is_client e.session.side then Some e.session.codec else None
