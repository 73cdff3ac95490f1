use Rattle.std.proofs.Common.{sym, ◌∙◌, inl, inr, true, false, None, ap}
use Rattle.hd_delivery.specs.Histories.{as_told}
use Rattle.he_end.proofs.Links.{none_counted}
use Rattle.he_end.proofs.Attached.{remembers_attached, begins_first, may_begin_first, may_begin_later, next_told}
use Rattle.he_end.proofs.session.Session.attach.Goals as goal

pub returns-in-None-clause-ok : goal.returns-in-None-clause-ok
returns-in-None-clause-ok c cc' k l r apart late =
    let s = c.args.self.now in
    let open' = sym r.closed ∙ c.if-self.false in
    let none = begins_first cc' s k r c.in-None.is in (
      open',
      inl none,
      rw (c.begin.ensures)
          (remembers_attached cc' s k l c.args.now 0 true s.intake.next r c.buffer_is_within.ensures apart open' (may_begin_first cc' s k r c.in-None.is) (sym (ap as_told (none_counted k none)))),
    )

pub returns-in-Some-2-clause-ok : goal.returns-in-Some-2-clause-ok
returns-in-Some-2-clause-ok c cc' k l r apart late =
    let s = c.args.self.now in
    let open' = sym r.closed ∙ c.if-self.false in
    let kept = sym (c.is_resumable.ensures cc' k r) ∙ c.if-not-is_resumable.false in (
      open',
      inr kept,
      rw (c.begin-in-Some-2.ensures, c.expect_sequence.ensures)
          (remembers_attached cc' s k l c.args.now c.saturating_add.result false None r c.buffer_is_within.ensures apart open'
          (may_begin_later cc' s k c.in-Some-2.last r c.in-Some-2.is kept) (c.saturating_add.ensures ∙ next_told cc' s k c.in-Some-2.last r c.in-Some-2.is)),
    )
