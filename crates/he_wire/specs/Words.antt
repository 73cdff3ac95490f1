-- Why no hub message, and no handshake, was read, in words.
use Rattle.std.specs.Prelude.{ℕ, List, ◌++◌, codes}
use Rattle.std.specs.Fmt.{decimal}
use Rattle.hf_split.specs.Words.{fault_words}
use Rattle.hs_shake.specs.Words.{shake_words}
use Rattle.hm_codec.specs.Words.{why_words}
use Rattle.he_wire.specs.declared.reading.LinkFault.{LinkFault}
use Rattle.he_wire.specs.declared.reading.LinkFault.TheVariants as link
use Rattle.he_wire.specs.declared.reading.HandshakeFault.{HandshakeFault}
use Rattle.he_wire.specs.declared.reading.HandshakeFault.TheVariants as handshake

-- the place of the link, and why no frame is read there
abbrev pub link_words : LinkFault → List ℕ
link_words (link.Refused at why) = codes "Refused " ++ decimal at ++ codes " " ++ why_words why
link_words link.NoMemory = codes "out of memory"

abbrev pub handshake_words : HandshakeFault → List ℕ
handshake_words (handshake.Split fault) = fault_words fault
handshake_words (handshake.Shake e) = shake_words e
handshake_words handshake.NoMemory = codes "out of memory"
