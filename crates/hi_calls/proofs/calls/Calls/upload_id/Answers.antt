use Rattle.std.proofs.Common.{sym, ◌∙◌, arith}
use Rattle.hi_calls.specs.Numbering.{id_with}
use Rattle.hi_calls.proofs.Looking.{has_upload, upload_bound}
use Rattle.hi_calls.proofs.calls.Calls.upload_id.Goals as goal

pub returns-clause-ok : goal.returns-clause-ok
returns-clause-ok c = λ prefix h s.
    let live = sym (has_upload c.args.self.now prefix h s c.args.call c.args.which) ∙ sym c.if-not-has.ensures in
    let bound = upload_bound c.args.self.now prefix h s c.args.call c.args.which live in
    let e = c.upload_number.ensures in
    c.in_ok-id.ensures (omega arith) ∙ (λ i. id_with (s.draws_with i) (e i))

pub returns-clause-live : goal.returns-clause-live
returns-clause-live c = λ prefix h s. sym (has_upload c.args.self.now prefix h s c.args.call c.args.which) ∙ sym c.if-not-has.ensures
