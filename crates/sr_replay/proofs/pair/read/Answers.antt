use Rattle.std.proofs.Common.{◌≡◌, ◌≤◌, ◌∙◌, false, length, sym, subst, refl}
use Rattle.hd_delivery.specs.Histories.{is_closed}
use Rattle.hd_delivery.specs.Bytes.{bytes_on, in_frames}
use Rattle.sr_replay.specs.Runs.{read_in_all}
use Rattle.sr_replay.proofs.Fed.{handed}
use Rattle.sr_replay.proofs.pair.read.Goals as goal

pub returns-clause-reads : goal.returns-clause-reads
returns-clause-reads c wire config h plays l may =
    let k = in_frames wire config h in
    let live : is_closed config k ≡ false = sym (c.is_closed.ensures wire config h plays) ∙ c.if-is_closed.false in
    let before = may.read_to live in
    let ends = c.end_of_read-end.ensures.reads c.args.said.now refl (subst (λ n. n ≤ length c.args.said.now) (sym before) may.within) in
    let slice = handed c.args.count c.args.place.now c.min-from.result c.end_of_read-end.result (length (bytes_on l h)) c.args.said.now before may.within c.min-from.ensures ends.0 ends.1 in
    let done = c.in_ok-read.ensures.read wire config h plays l (read_in_all c.args.count (length (bytes_on l h)) c.args.said.now) may.here slice may.took_all in
    (done.0, (done.1.0, done.1.1, done.1.2, λ again. subst (λ n. c.end_of_read-end.result ≡ length (read_in_all c.args.count n c.args.said.now)) before ends.1))
