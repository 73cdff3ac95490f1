use Rattle.hd_delivery.specs.Bytes.{in_frames}
use Rattle.he_end.proofs.Ends.{attached}
use Rattle.he_end.proofs.end.End.attach.Goals as goal

pub returns-clause-ok : goal.returns-clause-ok
returns-clause-ok c wire config h st l unused late =
    let made = c.in_ok-attach.ensures.ok config (in_frames wire config h) l st.remembers unused late in
    attached wire config c.args.self.now c.attach.new.self c.reset.new.self h st c.attach.ensures.limits c.unread_begins.ensures c.next_framing-framing.result l c.args.now
    c.reset.ensures.empty (c.next_framing-framing.ensures wire config h st) (record { unclosed = made.0; granted = made.1; unused = unused; in_time = late }) made.2
