-- A refused handshake as a fault of the link: out of memory is no refusal.
use Rattle.hs_shake.specs.declared.shake.ShakeError.{ShakeError}
use Rattle.hs_shake.specs.declared.shake.ShakeError.TheVariants as shake
use Rattle.he_wire.specs.declared.reading.HandshakeFault.{HandshakeFault}
use Rattle.he_wire.specs.declared.reading.HandshakeFault.TheVariants.{Shake, NoMemory}

-- the fault of a refusal
abbrev pub of_shake : ShakeError → HandshakeFault
of_shake shake.NoMemory = NoMemory
of_shake e = Shake e
