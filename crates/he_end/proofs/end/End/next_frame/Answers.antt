use Rattle.std.proofs.Common.{subst, Ok, Err}
use Rattle.he_wire.specs.Gives.{TellsLater}
use Rattle.he_end.specs.Says.{frame_read}
use Rattle.he_end.specs.Calls.{HasMade}
use Rattle.he_end.proofs.Nexts.{told_frame, house_there, later_framing, later_reads, later_refused}
use Rattle.he_end.proofs.end.End.next_frame.Goals as goal

pub returns-in-Ok-clause-ok : goal.returns-in-Ok-clause-ok
returns-in-Ok-clause-ok c wire config h st =
    let e = c.args.self.now in
    let framing = later_framing c.facts_hold.ensures c.wire_is_sound.ensures c.next_is_read.ensures e c.requires.reading wire config h st c.requires.shaken in
    let house = house_there c.facts_hold.ensures c.wire_is_sound.ensures c.next_is_read.ensures e c.requires.reading wire config h st in
    let told = subst (λ x. TellsLater e.session.codec e.splitter (Ok x) (wire.later e.session.codec e.splitter.bytes)) c.in-Ok-Some.field-0-is (c.in-Ok-Some.ensures.told framing wire house) in
    subst (HasMade wire config h c.take.new.self) c.in-Ok.is (c.take.ensures.made wire config h st
    (later_reads c.facts_hold.ensures c.wire_is_sound.ensures c.next_is_read.ensures e c.requires.reading wire config h st c.requires.shaken (frame_read c.in-Ok-Some.read)
    (told_frame e.session.codec e.splitter c.in-Ok-Some.read (wire.later e.session.codec e.splitter.bytes) told)))

pub returns-in-Err-clause-failed : goal.returns-in-Err-clause-failed
returns-in-Err-clause-failed c wire config h st =
    let e = c.args.self.now in
    let framing = later_framing c.facts_hold.ensures c.wire_is_sound.ensures c.next_is_read.ensures e c.requires.reading wire config h st c.requires.shaken in
    let house = house_there c.facts_hold.ensures c.wire_is_sound.ensures c.next_is_read.ensures e c.requires.reading wire config h st in
    let told = subst (λ x. TellsLater e.session.codec e.splitter (Ok x) (wire.later e.session.codec e.splitter.bytes)) c.in-Ok-Some.field-0-is (c.in-Ok-Some.ensures.told framing wire house) in
    subst (HasMade wire config h c.take.new.self) c.in-Err.is (c.take.ensures.made wire config h st
    (later_reads c.facts_hold.ensures c.wire_is_sound.ensures c.next_is_read.ensures e c.requires.reading wire config h st c.requires.shaken (frame_read c.in-Ok-Some.read)
    (told_frame e.session.codec e.splitter c.in-Ok-Some.read (wire.later e.session.codec e.splitter.bytes) told)))

pub returns-in-Err-Refused-clause-failed : goal.returns-in-Err-Refused-clause-failed
returns-in-Err-Refused-clause-failed c wire config h st =
    let e = c.args.self.now in
    let framing = later_framing c.facts_hold.ensures c.wire_is_sound.ensures c.next_is_read.ensures e c.requires.reading wire config h st c.requires.shaken in
    let house = house_there c.facts_hold.ensures c.wire_is_sound.ensures c.next_is_read.ensures e c.requires.reading wire config h st in
    let told = subst (λ x. TellsLater e.session.codec e.splitter (Err x) (wire.later e.session.codec e.splitter.bytes)) c.in-Err-Refused.field-0-is (c.in-Err-Refused.ensures.told framing wire house) in
    c.fail.ensures.failed wire config h st
    (later_refused c.facts_hold.ensures c.wire_is_sound.ensures c.next_is_read.ensures e c.requires.reading wire config h st c.requires.shaken e.session.codec c.in-Err-Refused.at c.in-Err-Refused.why told)
