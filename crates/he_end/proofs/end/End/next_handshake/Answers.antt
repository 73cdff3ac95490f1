use Rattle.std.proofs.Common.{ap, ◌∙◌, Ok, Err, Some, None}
use Rattle.he_wire.specs.declared.reading.HandshakeFault.TheVariants as shaking
use Rattle.he_end.proofs.Greets.{told_first, first_waits, first_reads, first_stopped, first_refused, not_shaken}
use Rattle.he_end.proofs.end.End.next_handshake.Goals as goal

pub returns-in-Ok-None-clause-ok : goal.returns-in-Ok-None-clause-ok
returns-in-Ok-None-clause-ok c wire config h st = (
  first_waits c.facts_hold.ensures c.wire_is_sound.ensures c.next_is_read.ensures c.args.self.now c.requires.reading c.requires.unshaken wire config h st
      (told_first c.facts_hold.ensures c.wire_is_sound.ensures c.next_is_read.ensures c.args.self.now c.requires.reading c.requires.unshaken wire config h st
      c.read_handshake.result (Ok None) (c.in-Ok-None.is ∙ ap Ok c.in-Ok-None.field-0-is) c.read_handshake.ensures.told),
  st,
)

pub returns-in-Ok-Some-clause-ok : goal.returns-in-Ok-Some-clause-ok
returns-in-Ok-Some-clause-ok c wire config h st =
    first_reads c.facts_hold.ensures c.wire_is_sound.ensures c.next_is_read.ensures c.args.self.now c.requires.reading c.requires.unshaken wire config h st
    c.greet.new.self c.in-Ok-Some.handshake c.greet.result c.greet.ensures.made
    (told_first c.facts_hold.ensures c.wire_is_sound.ensures c.next_is_read.ensures c.args.self.now c.requires.reading c.requires.unshaken wire config h st
    c.read_handshake.result (Ok (Some c.in-Ok-Some.handshake)) (c.in-Ok-Some.is ∙ ap Ok c.in-Ok-Some.field-0-is) c.read_handshake.ensures.told)

pub returns-in-Err-Split-clause-failed : goal.returns-in-Err-Split-clause-failed
returns-in-Err-Split-clause-failed c wire config h st =
    c.fail.ensures.failed wire config h st
    (first_stopped c.facts_hold.ensures c.wire_is_sound.ensures c.next_is_read.ensures c.args.self.now c.requires.reading c.requires.unshaken wire config h st
    c.in-Err-Split.fault c.place-at.result c.place-at.ensures
    (told_first c.facts_hold.ensures c.wire_is_sound.ensures c.next_is_read.ensures c.args.self.now c.requires.reading c.requires.unshaken wire config h st
    c.read_handshake.result (Err (shaking.Split c.in-Err-Split.fault)) (c.in-Err-Split.is ∙ ap Err c.in-Err-Split.field-0-is) c.read_handshake.ensures.told))

pub returns-in-Err-Shake-clause-failed : goal.returns-in-Err-Shake-clause-failed
returns-in-Err-Shake-clause-failed c wire config h st =
    let told = told_first c.facts_hold.ensures c.wire_is_sound.ensures c.next_is_read.ensures c.args.self.now c.requires.reading c.requires.unshaken wire config h st
    c.read_handshake.result (Err (shaking.Shake c.in-Err-Shake.e)) (c.in-Err-Shake.is ∙ ap Err c.in-Err-Shake.field-0-is) c.read_handshake.ensures.told in
    c.refuse.ensures.made wire config h st (not_shaken c.facts_hold.ensures c.wire_is_sound.ensures c.next_is_read.ensures c.args.self.now c.requires.reading c.requires.unshaken wire config h st) told.0
    (first_refused c.facts_hold.ensures c.wire_is_sound.ensures c.next_is_read.ensures c.args.self.now c.requires.reading c.requires.unshaken wire config h st
    c.in-Err-Shake.e told)
